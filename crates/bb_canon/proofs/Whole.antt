-- A canonical text as the lines of a netlist's variables, gates and flip-flops, and its clock.
use Rattle.std.proofs.Common.{◌≡◌, ℕ, ◌+◌, ◌<◌, ◌≤◌, List, [], ◌∷◌, ◌++◌, length, map, codes, Option, Some, None, true, false, refl, sym, ap, ◌∙◌, arith}
use Rattle.std.specs.List.{AllByRecursion, flat_map, list_all}
use Rattle.bb_base.specs.declared.operator.Op.{Op}
use Rattle.bb_base.specs.declared.operator.Op.TheVariants.{And, Nand, Or, Nor, Xor, Xnor, Not, Buf, Zero, One}
use Rattle.bb_base.specs.declared.variable.Role.{Role}
use Rattle.bb_base.specs.declared.variable.Role.TheVariants.{Input, Output, Wire}
use Rattle.bb_base.specs.Net.{Gate, Flop, renamed_gate, renamed_flop}
use Rattle.bb_base.specs.Variables.{Entry, Bit, IsEntry}
use Rattle.bb_base.specs.Named.{Named, Design, design_of, net_text}
use Rattle.bb_spell.specs.Spelling.{module_line, declaration, statement_by, gate_line}
use Rattle.bb_spell.specs.Canonical.{port_names, flop_lines, with_feed, canonical_text, canonical_lines}
use Rattle.bb_spell.specs.Front.{index_limit}
use Rattle.bb_spell.specs.Limits.{IsNumbered}
use Rattle.bb_spell.specs.TextLines.{first_line, is_line_byte}
use Rattle.bb_spell.specs.Lines.{head_name, flop_of}
use Rattle.bb_canon.specs.Sections.{declares, clocks, states_gate}
use Rattle.bb_canon.specs.Along.{SayAll, Along, SaysVariable, SaysGate, SaysFlop, ClockIn, ClockLeft, clock_text}
use Rattle.bb_spell.specs.Writable.{IsBitText, IsGateText, IsFlopText, HasClock, IsText}
use Rattle.bb_spell.proofs.LineAgain.{module_again, declaration_again, statement_again, flop_again}
use Rattle.bb_spell.proofs.Clean.{module_clean, declaration_clean, statement_clean, flop_clean}
use Rattle.bb_spell.proofs.Texts.{design_text}
use Rattle.bb_spell.proofs.Pieces.{line_again, first_same, nothing_first}
use Rattle.bb_canon.proofs.SectionsOf.{flops_stop, gates_stop, flop_kinds, end_kinds, the_end, flops_and_end, gates_and_end, declares_declared, states_stated}

-- what each line says
pub say_variables : (vs : List Entry) → AllByRecursion IsEntry vs → SayAll SaysVariable vs (map declaration vs)
say_variables [] all = tt
say_variables (v ∷ vs) all = (record { clean = declaration_clean v all.0; passes = declares_declared v.0 v.1.range v.1.role; item = v; reads = declaration_again v all.0; is = refl }, say_variables vs all.1)

pub say_gates : (a : Named) (gs : List (Gate ℕ)) → AllByRecursion IsGateText (map (renamed_gate (net_text a)) gs) → SayAll (SaysGate a) gs (map gate_line (map (renamed_gate (net_text a)) gs))
say_gates a [] all = tt
say_gates a (g ∷ gs) all =
    let h : Gate Bit = renamed_gate (net_text a) g in
    (record { clean = statement_clean h all.0; passes = states_stated h.op h.out h.ins; item = h; reads = statement_again h all.0; is = refl }, say_gates a gs all.1)

say_flops : (a : Named) (c : Bit) (j : ℕ) (fs : List (Flop ℕ)) → clock_text a ≡ Some c → j + length fs ≤ index_limit → IsBitText c → AllByRecursion IsFlopText (map (renamed_flop (net_text a)) fs)
    → SayAll (SaysFlop a) fs (flop_lines (Some c) j (map (renamed_flop (net_text a)) fs))
say_flops a c j [] e small h all = tt
say_flops a c j (f ∷ fs) e small h all =
    let g : Flop Bit = renamed_flop (net_text a) f in
    let less : j < index_limit = omega arith in (
      record { clean = flop_clean c j g less h all.0; passes = (flop_kinds c j g).2; item = record { number = j; clock = c; flop = g }; reads = flop_again c j g less h all.0; is = (sym e, refl) },
      say_flops a c (j + 1) fs e (omega arith) h all.1,
    )

pub say_all_flops : (a : Named) (o : Option Bit) (fs : List (Flop ℕ)) → clock_text a ≡ o → HasClock o (map (renamed_flop (net_text a)) fs) → length fs ≤ index_limit → AllByRecursion IsFlopText (map (renamed_flop (net_text a)) fs)
    → SayAll (SaysFlop a) fs (flop_lines o 0 (map (renamed_flop (net_text a)) fs))
say_all_flops a None [] e h small all = tt
say_all_flops a None (f ∷ fs) e h small all = cc
say_all_flops a (Some c) fs e h small all = say_flops a c 0 fs e (omega arith) h.0 all

-- the lines before the flip-flops have no clock
no_clock_module : (name : List ℕ) (ports : List (List ℕ)) → clocks (module_line name ports) ≡ false
unfolding clocks
no_clock_module name ports = refl

no_clock_declared : (name : List ℕ) (range : Option (ℕ × ℕ)) (role : Role) → clocks (declaration (name, record { range = range; role = role })) ≡ false
unfolding clocks
no_clock_declared name None Input = refl
no_clock_declared name None Output = refl
no_clock_declared name None Wire = refl
no_clock_declared name (Some r) Input = refl
no_clock_declared name (Some r) Output = refl
no_clock_declared name (Some r) Wire = refl

no_clock_stated : (op : Op) (out : Bit) (ins : List Bit) → clocks (statement_by op out ins) ≡ false
unfolding clocks
no_clock_stated And out ins = refl
no_clock_stated Nand out ins = refl
no_clock_stated Or out ins = refl
no_clock_stated Nor out ins = refl
no_clock_stated Xor out ins = refl
no_clock_stated Xnor out ins = refl
no_clock_stated Not out ins = refl
no_clock_stated Buf out ins = refl
no_clock_stated Zero out ins = refl
no_clock_stated One out ins = refl

past : (o : Option Bit) (line : List ℕ) (lines : List (List ℕ)) → list_all is_line_byte line ≡ true → clocks line ≡ false → ClockIn o lines → ClockIn o (line ∷ lines)
past o line lines clean other rest = (clean, λ t. cc, λ e. rest)

past_variables : (o : Option Bit) (vs : List Entry) (lines : List (List ℕ)) → AllByRecursion IsEntry vs → ClockIn o lines → ClockIn o (map declaration vs ++ lines)
past_variables o [] lines all h = h
past_variables o (v ∷ vs) lines all h = past o (declaration v) (map declaration vs ++ lines) (declaration_clean v all.0) (no_clock_declared v.0 v.1.range v.1.role) (past_variables o vs lines all.1 h)

past_gates : (o : Option Bit) (gs : List (Gate Bit)) (lines : List (List ℕ)) → AllByRecursion IsGateText gs → ClockIn o lines → ClockIn o (map gate_line gs ++ lines)
past_gates o [] lines all h = h
past_gates o (g ∷ gs) lines all h = past o (gate_line g) (map gate_line gs ++ lines) (statement_clean g all.0) (no_clock_stated g.op g.out g.ins) (past_gates o gs lines all.1 h)

at_flops : (o : Option Bit) (fs : List (Flop Bit)) → HasClock o fs → length fs ≤ index_limit → AllByRecursion IsFlopText fs → ClockIn o (flop_lines o 0 fs ++ the_end)
at_flops None [] h small all = past None (codes "endmodule") [] refl end_kinds.2 refl
at_flops None (f ∷ fs) h small all = cc
at_flops (Some c) [] h small all = absurd (omega (arith, h.1))
at_flops (Some c) (f ∷ fs) h small all =
    let less : 0 < index_limit = omega arith in
    (flop_clean c 0 f less h.0 all.0, λ t. (record { number = 0; clock = c; flop = f }, flop_again c 0 f less h.0 all.0, refl), λ t. cc (sym t ∙ (flop_kinds c 0 f).2))

pub clock_left : (a : Named) (text : List ℕ) → IsNumbered a → text ≡ canonical_text (design_of a) → ClockLeft (clock_text a) text
clock_left a text h e =
    let d : Design = design_of a in
    let t : IsText d = design_text a h in
    record {
      lines = canonical_lines d;
      within = past d.clock (module_line d.module_name (port_names d.variables)) (map declaration d.variables ++ gates_and_end d) (module_clean d.module_name (port_names d.variables) t.name t.ports) (no_clock_module d.module_name (port_names d.variables))
          (past_variables d.clock d.variables (gates_and_end d) t.variables (past_gates d.clock d.netlist.gates (flops_and_end d) t.gates (at_flops d.clock d.netlist.flops t.clock t.few t.flops)));
      text_is = e;
    }

-- the first line of a text in which the clock is looked for
pub clock_goes : (o : Option Bit) (text line after : List ℕ) → ClockLeft o text → first_line text ≡ Some (line, after) → clocks line ≡ false → ClockLeft o after
clock_goes o text line after h f other = go h.lines h.within h.text_is
  where
    go : (ls : List (List ℕ)) → ClockIn o ls → text ≡ flat_map with_feed ls → ClockLeft o after
    go [] k e = cc (sym f ∙ ap first_line e ∙ nothing_first)
    go (l ∷ ls) k e =
        let same = first_same text line l after (flat_map with_feed ls) f (ap first_line e ∙ line_again l (flat_map with_feed ls) k.0) in
        record { lines = ls; within = k.2 (ap clocks (sym same.0) ∙ other); text_is = same.1 }

pub clock_found : (o : Option Bit) (text line after : List ℕ) → ClockLeft o text → first_line text ≡ Some (line, after) → clocks line ≡ true → (said : _) × (flop_of line ≡ Some said) × (Some said.clock ≡ o)
clock_found o text line after h f here = go h.lines h.within h.text_is
  where
    go : (ls : List (List ℕ)) → ClockIn o ls → text ≡ flat_map with_feed ls → (said : _) × (flop_of line ≡ Some said) × (Some said.clock ≡ o)
    go [] k e = cc (sym f ∙ ap first_line e ∙ nothing_first)
    go (l ∷ ls) k e =
        let same = first_same text line l after (flat_map with_feed ls) f (ap first_line e ∙ line_again l (flat_map with_feed ls) k.0) in
        let there = k.1 (ap clocks (sym same.0) ∙ here) in
        (there.0, ap flop_of same.0 ∙ there.1, there.2)

pub clock_none : (o : Option Bit) (text : List ℕ) → ClockLeft o text → first_line text ≡ None → o ≡ None
clock_none o text h f = go h.lines h.within h.text_is
  where
    go : (ls : List (List ℕ)) → ClockIn o ls → text ≡ flat_map with_feed ls → o ≡ None
    go [] k e = k
    go (l ∷ ls) k e = cc (sym f ∙ ap first_line e ∙ line_again l (flat_map with_feed ls) k.0)

-- the text behind the first line, and then behind each kind of line
pub record Wholly (a : Named) (text : List ℕ) : Type 0 where
  pub head : List ℕ
  pub body : List ℕ
  pub gates : List (List ℕ)
  pub flops : List (List ℕ)
  pub first : first_line text ≡ Some (head, body)
  pub says : head_name head ≡ Some a.module_name
  pub one : (rest : List ℕ) → rest ≡ body → Along SaysVariable declares rest a.variables gates
  pub two : (rest : List ℕ) → rest ≡ flat_map with_feed gates → Along (SaysGate a) states_gate rest a.netlist.gates flops
  pub three : (rest : List ℕ) → rest ≡ flat_map with_feed flops → Along (SaysFlop a) clocks rest a.netlist.flops the_end

abbrev pub wholly : (a : Named) (text : List ℕ) → IsNumbered a → text ≡ canonical_text (design_of a) → Wholly a text
wholly a text n e =
    let d : Design = design_of a in
    let t : IsText d = design_text a n in
    record {
      head = module_line d.module_name (port_names d.variables);
      body = flat_map with_feed (map declaration d.variables ++ gates_and_end d);
      gates = gates_and_end d;
      flops = flops_and_end d;
      first = ap first_line e ∙ line_again (module_line d.module_name (port_names d.variables)) (flat_map with_feed (map declaration d.variables ++ gates_and_end d)) (module_clean d.module_name (port_names d.variables) t.name t.ports);
      says = module_again d.module_name (port_names d.variables) t.name;
      one = λ rest r. record {
        lines = map declaration d.variables;
        all = say_variables a.variables t.variables;
        stops = gates_stop d.netlist.gates (flops_and_end d) t.gates (flops_stop declares (λ c j f. (flop_kinds c j f).0) end_kinds.0 d.clock d.netlist.flops t.clock t.few t.flops);
        text_is = r;
      };
      two = λ rest r. record {
        lines = map gate_line d.netlist.gates;
        all = say_gates a a.netlist.gates t.gates;
        stops = flops_stop states_gate (λ c j f. (flop_kinds c j f).1) end_kinds.1 d.clock d.netlist.flops t.clock t.few t.flops;
        text_is = r;
      };
      three = λ rest r. record {
        lines = flop_lines d.clock 0 d.netlist.flops;
        all = say_all_flops a d.clock a.netlist.flops refl t.clock n.flops t.flops;
        stops = (refl, end_kinds.2);
        text_is = r;
      };
    }
