-- The sections of a canonical text.
use Rattle.std.proofs.Common.{◌≡◌, ℕ, ◌+◌, ◌≤◌, ◌<◌, List, [], ◌∷◌, ◌++◌, length, map, codes, Option, Some, None, Bool, true, false, refl, sym, ap, ◌∙◌, arith, subst}
use Rattle.std.specs.List.{AllByRecursion, flat_map}
use Rattle.bb_base.specs.declared.operator.Op.{Op}
use Rattle.bb_base.specs.declared.operator.Op.TheVariants.{And, Nand, Or, Nor, Xor, Xnor, Not, Buf, Zero, One}
use Rattle.bb_base.specs.declared.variable.Role.{Role}
use Rattle.bb_base.specs.declared.variable.Role.TheVariants.{Input, Output, Wire}
use Rattle.bb_base.specs.Net.{Gate, Flop}
use Rattle.bb_base.specs.Variables.{Entry, Bit, IsEntry}
use Rattle.bb_base.specs.Named.{Design}
use Rattle.bb_spell.specs.Spelling.{module_line, declaration, statement_by, gate_line, flop_line}
use Rattle.bb_spell.specs.Canonical.{port_names, flop_lines, with_feed, canonical_text}
use Rattle.bb_spell.specs.Front.{index_limit}
use Rattle.bb_spell.specs.TextLines.{first_line}
use Rattle.bb_spell.specs.Lines.{word_role}
use Rattle.bb_canon.specs.Sections.{declares, clocks, states_gate, IsLineOf, NoneFirst, IsSection}
use Rattle.bb_spell.specs.Writable.{IsBitText, IsGateText, IsFlopText, HasClock, IsText}
use Rattle.bb_spell.proofs.Clean.{module_clean, declaration_clean, statement_clean, flop_clean}
use Rattle.bb_spell.proofs.Pieces.{line_again}

-- how each kind of line begins
pub declares_declared : (name : List ℕ) (range : Option (ℕ × ℕ)) (role : Role) → declares (declaration (name, record { range = range; role = role })) ≡ true
unfolding declares word_role
declares_declared name None Input = refl
declares_declared name None Output = refl
declares_declared name None Wire = refl
declares_declared name (Some r) Input = refl
declares_declared name (Some r) Output = refl
declares_declared name (Some r) Wire = refl

declares_stated : (op : Op) (out : Bit) (ins : List Bit) → declares (statement_by op out ins) ≡ false
unfolding declares word_role
declares_stated And out ins = refl
declares_stated Nand out ins = refl
declares_stated Or out ins = refl
declares_stated Nor out ins = refl
declares_stated Xor out ins = refl
declares_stated Xnor out ins = refl
declares_stated Not out ins = refl
declares_stated Buf out ins = refl
declares_stated Zero out ins = refl
declares_stated One out ins = refl

pub states_stated : (op : Op) (out : Bit) (ins : List Bit) → states_gate (statement_by op out ins) ≡ true
unfolding states_gate
states_stated And out ins = refl
states_stated Nand out ins = refl
states_stated Or out ins = refl
states_stated Nor out ins = refl
states_stated Xor out ins = refl
states_stated Xnor out ins = refl
states_stated Not out ins = refl
states_stated Buf out ins = refl
states_stated Zero out ins = refl
states_stated One out ins = refl

pub flop_kinds : (c : Bit) (j : ℕ) (f : Flop Bit) → (declares (flop_line (Some c) j f) ≡ false) × (states_gate (flop_line (Some c) j f) ≡ false) × (clocks (flop_line (Some c) j f) ≡ true)
unfolding declares word_role states_gate clocks
flop_kinds c j f = (refl, refl, refl)

pub end_kinds : (declares (codes "endmodule") ≡ false) × (states_gate (codes "endmodule") ≡ false) × (clocks (codes "endmodule") ≡ false)
unfolding declares word_role states_gate clocks
end_kinds = (refl, refl, refl)

-- the lines of each section
pub declared_line : (v : Entry) → IsEntry v → IsLineOf declares (declaration v)
declared_line v h = record { clean = declaration_clean v h; passes = declares_declared v.0 v.1.range v.1.role }

pub stated_line : (g : Gate Bit) → IsGateText g → IsLineOf states_gate (gate_line g)
stated_line g h = record { clean = statement_clean g h; passes = states_stated g.op g.out g.ins }

pub clocked_line : (c : Bit) (j : ℕ) (f : Flop Bit) → j < index_limit → IsBitText c → IsFlopText f → IsLineOf clocks (flop_line (Some c) j f)
clocked_line c j f small h k = record { clean = flop_clean c j f small h k; passes = (flop_kinds c j f).2 }

pub all_lines : {X : Type 0} (P : X → Type 0) (f : X → List ℕ) (test : List ℕ → Bool) → ((x : X) → P x → IsLineOf test (f x)) → (xs : List X) → AllByRecursion P xs → AllByRecursion (IsLineOf test) (map f xs)
all_lines P f test g [] all = tt
all_lines P f test g (x ∷ xs) all = (g x all.0, all_lines P f test g xs all.1)

pub clocked_lines : (c : Bit) (j : ℕ) (fs : List (Flop Bit)) → j + length fs ≤ index_limit → IsBitText c → AllByRecursion IsFlopText fs → AllByRecursion (IsLineOf clocks) (flop_lines (Some c) j fs)
clocked_lines c j [] small h all = tt
clocked_lines c j (f ∷ fs) small h all = (clocked_line c j f (omega arith) h all.0, clocked_lines c (j + 1) fs (omega arith) h all.1)

abbrev pub the_end : List (List ℕ)
the_end = codes "endmodule" ∷ []

abbrev pub flops_and_end : Design → List (List ℕ)
flops_and_end d = flop_lines d.clock 0 d.netlist.flops ++ the_end

abbrev pub gates_and_end : Design → List (List ℕ)
gates_and_end d = map gate_line d.netlist.gates ++ flops_and_end d

pub flop_section : (c : Option Bit) (fs : List (Flop Bit)) → HasClock c fs → length fs ≤ index_limit → AllByRecursion IsFlopText fs → AllByRecursion (IsLineOf clocks) (flop_lines c 0 fs)
flop_section None fs e small all = subst (λ xs. AllByRecursion (IsLineOf clocks) (flop_lines None 0 xs)) (sym e) tt
flop_section (Some c) fs e small all = clocked_lines c 0 fs (omega arith) e.0 all

flops_stop_at : (test : List ℕ → Bool) → ((c : Bit) (j : ℕ) (f : Flop Bit) → test (flop_line (Some c) j f) ≡ false) → test (codes "endmodule") ≡ false → (c : Bit) (fs : List (Flop Bit)) → length fs ≤ index_limit → IsBitText c → AllByRecursion IsFlopText fs
    → NoneFirst test (flop_lines (Some c) 0 fs ++ the_end)
flops_stop_at test k e c [] small h all = (refl, e)
flops_stop_at test k e c (f ∷ fs) small h all = (flop_clean c 0 f (omega arith) h all.0, k c 0 f)

pub flops_stop : (test : List ℕ → Bool) → ((c : Bit) (j : ℕ) (f : Flop Bit) → test (flop_line (Some c) j f) ≡ false) → test (codes "endmodule") ≡ false → (c : Option Bit) (fs : List (Flop Bit)) → HasClock c fs → length fs ≤ index_limit → AllByRecursion IsFlopText fs
    → NoneFirst test (flop_lines c 0 fs ++ the_end)
flops_stop test k e None fs h small all =
    let end : NoneFirst test the_end = (refl, e) in
    subst (λ xs. NoneFirst test (flop_lines None 0 xs ++ the_end)) (sym h) end
flops_stop test k e (Some c) fs h small all = flops_stop_at test k e c fs small h.0 all

pub gates_stop : (gs : List (Gate Bit)) (others : List (List ℕ)) → AllByRecursion IsGateText gs → NoneFirst declares others → NoneFirst declares (map gate_line gs ++ others)
gates_stop [] others all h = h
gates_stop (g ∷ gs) others all h = (statement_clean g all.0, declares_stated g.op g.out g.ins)

-- a text in its sections, as a reader walks through them
pub record Sections (text : List ℕ) : Type 0 where
  pub head : List ℕ
  pub body : List ℕ
  pub gates : List (List ℕ)
  pub flops : List (List ℕ)
  pub first : first_line text ≡ Some (head, body)
  pub one : (rest : List ℕ) → rest ≡ body → IsSection declares rest gates
  pub two : (rest : List ℕ) → rest ≡ flat_map with_feed gates → IsSection states_gate rest flops
  pub three : (rest : List ℕ) → rest ≡ flat_map with_feed flops → IsSection clocks rest (codes "endmodule" ∷ [])

abbrev pub sections_of : (d : Design) (text : List ℕ) → IsText d → text ≡ canonical_text d → Sections text
sections_of d text h e = record {
  head = module_line d.module_name (port_names d.variables);
  body = flat_map with_feed (map declaration d.variables ++ gates_and_end d);
  gates = gates_and_end d;
  flops = flops_and_end d;
  first = ap first_line e ∙ line_again (module_line d.module_name (port_names d.variables)) (flat_map with_feed (map declaration d.variables ++ gates_and_end d)) (module_clean d.module_name (port_names d.variables) h.name h.ports);
  one = λ rest r. record {
    lines = map declaration d.variables;
    all = all_lines IsEntry declaration declares declared_line d.variables h.variables;
    stops = gates_stop d.netlist.gates (flops_and_end d) h.gates (flops_stop declares (λ c j f. (flop_kinds c j f).0) end_kinds.0 d.clock d.netlist.flops h.clock h.few h.flops);
    text_is = r;
  };
  two = λ rest r. record {
    lines = map gate_line d.netlist.gates;
    all = all_lines IsGateText gate_line states_gate stated_line d.netlist.gates h.gates;
    stops = flops_stop states_gate (λ c j f. (flop_kinds c j f).1) end_kinds.1 d.clock d.netlist.flops h.clock h.few h.flops;
    text_is = r;
  };
  three = λ rest r. record { lines = flop_lines d.clock 0 d.netlist.flops; all = flop_section d.clock d.netlist.flops h.clock h.few h.flops; stops = (refl, end_kinds.2); text_is = r };
}
