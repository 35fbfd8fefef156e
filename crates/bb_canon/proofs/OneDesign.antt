-- A text is the canonical text of one design at most.
use Rattle.std.proofs.Common.{◌≡◌, ℕ, ◌+◌, ◌≤◌, ◌<◌, List, [], ◌∷◌, ◌++◌, length, map, codes, Option, Some, None, eqb, refl, sym, ap, ◌∙◌, arith}
use Rattle.std.specs.List.{AllByRecursion, filter_map, cons_option, slice_split}
use Rattle.std.proofs.lemmas.List.{append-nil}
use Rattle.std.proofs.lemmas.List.Elements.{filter_map-append}
use Rattle.bb_base.specs.declared.operator.Op.{Op}
use Rattle.bb_base.specs.declared.operator.Op.TheVariants.{And, Nand, Or, Nor, Xor, Xnor, Not, Buf, Zero, One}
use Rattle.bb_base.specs.declared.variable.Role.{Role}
use Rattle.bb_base.specs.declared.variable.Role.TheVariants.{Input, Output, Wire}
use Rattle.bb_base.specs.Net.{Flop}
use Rattle.bb_base.specs.Variables.{Bit, IsEntry}
use Rattle.bb_base.specs.Named.{Design}
use Rattle.bb_spell.specs.Spelling.{module_line, declaration, statement_by, gate_line, flop_line}
use Rattle.bb_spell.specs.Canonical.{port_names, flop_lines, canonical_lines, canonical_text}
use Rattle.bb_spell.specs.Front.{index_limit}
use Rattle.bb_spell.specs.Lines.{head_name, declaration_of, statement_of, FlopLine, flop_of}
use Rattle.bb_spell.specs.Writable.{IsBitText, IsGateText, IsFlopText, HasClock, IsText}
use Rattle.bb_spell.proofs.LineAgain.{module_again, declaration_again, statement_again, flop_again}
use Rattle.bb_spell.proofs.Clean.{lines_again, text_clean}
use Rattle.bb_spell.proofs.OneKind.{flop_undeclared, others_undeclared, states_nothing_declared, flop_unstated, others_unstated, declared_unstated}

declared_no_flop : (name : List ℕ) (range : Option (ℕ × ℕ)) (role : Role) → flop_of (declaration (name, record { range = range; role = role })) ≡ None
unfolding flop_of
declared_no_flop name range Input = refl
declared_no_flop name range Output = refl
declared_no_flop name range Wire = refl

stated_no_flop : (op : Op) (out : Bit) (ins : List Bit) → flop_of (statement_by op out ins) ≡ None
unfolding flop_of
stated_no_flop And out ins = refl
stated_no_flop Nand out ins = refl
stated_no_flop Or out ins = refl
stated_no_flop Nor out ins = refl
stated_no_flop Xor out ins = refl
stated_no_flop Xnor out ins = refl
stated_no_flop Not out ins = refl
stated_no_flop Buf out ins = refl
stated_no_flop Zero out ins = refl
stated_no_flop One out ins = refl

others_no_flop : (name : List ℕ) (ports : List (List ℕ)) → (flop_of (module_line name ports) ≡ None) × (flop_of (codes "endmodule") ≡ None) × (flop_of [] ≡ None)
unfolding flop_of
others_no_flop name ports = (refl, refl, refl)

-- what is read of the lines of each kind
filter_all : {X : Type 0} (P : X → Type 0) (f : X → List ℕ) (h : List ℕ → Option X) → ((x : X) → P x → h (f x) ≡ Some x) → (xs : List X) → AllByRecursion P xs → filter_map h (map f xs) ≡ xs
filter_all P f h e [] all = refl
filter_all P f h e (x ∷ xs) all = ap (λ o. cons_option o (filter_map h (map f xs))) (e x all.0) ∙ ap (λ ys. x ∷ ys) (filter_all P f h e xs all.1)

filter_none : {X Y : Type 0} (f : X → List ℕ) (h : List ℕ → Option Y) → ((x : X) → h (f x) ≡ None) → (xs : List X) → filter_map h (map f xs) ≡ []
filter_none f h e [] = refl
filter_none f h e (x ∷ xs) = ap (λ o. cons_option o (filter_map h (map f xs))) (e x) ∙ filter_none f h e xs

-- the instances of flip-flops, counted from j
abbrev pub instances_of : Bit → ℕ → List (Flop Bit) → List FlopLine
instances_of c j [] = []
instances_of c j (f ∷ fs) = record { number = j; clock = c; flop = f } ∷ instances_of c (j + 1) fs

flops_read : (c : Bit) (j : ℕ) (fs : List (Flop Bit)) → j + length fs ≤ index_limit → IsBitText c → AllByRecursion IsFlopText fs → filter_map flop_of (flop_lines (Some c) j fs) ≡ instances_of c j fs
flops_read c j [] small h all = refl
flops_read c j (f ∷ fs) small h all =
    ap (λ o. cons_option o (filter_map flop_of (flop_lines (Some c) (j + 1) fs))) (flop_again c j f (omega arith) h all.0) ∙ ap (λ is. record { number = j; clock = c; flop = f } ∷ is) (flops_read c (j + 1) fs (omega arith) h all.1)

flops_none : {Y : Type 0} (h : List ℕ → Option Y) → ((c : Bit) (j : ℕ) (f : Flop Bit) → h (flop_line (Some c) j f) ≡ None) → (c : Bit) (j : ℕ) (fs : List (Flop Bit)) → filter_map h (flop_lines (Some c) j fs) ≡ []
flops_none h e c j [] = refl
flops_none h e c j (f ∷ fs) = ap (λ o. cons_option o (filter_map h (flop_lines (Some c) (j + 1) fs))) (e c j f) ∙ flops_none h e c (j + 1) fs

abbrev the_flops : Design → List (List ℕ)
the_flops d = flop_lines d.clock 0 d.netlist.flops

-- a function that reads lines of one kind, on all lines and the empty piece behind the last
of_lines : {Y : Type 0} (h : List ℕ → Option Y) (d : Design) → h (module_line d.module_name (port_names d.variables)) ≡ None → h (codes "endmodule") ≡ None → h [] ≡ None
    → filter_map h (canonical_lines d ++ [] ∷ []) ≡ filter_map h (map declaration d.variables) ++ (filter_map h (map gate_line d.netlist.gates) ++ filter_map h (the_flops d))
of_lines h d first last none =
    let end : List (List ℕ) = codes "endmodule" ∷ [] in
    let flops : List (List ℕ) = the_flops d in
    let states : List (List ℕ) = map gate_line d.netlist.gates in
    let declares : List (List ℕ) = map declaration d.variables in
    filter_map-append h (canonical_lines d) ([] ∷ []) ∙ ap (λ o. filter_map h (canonical_lines d) ++ cons_option o []) none ∙ append-nil (filter_map h (canonical_lines d))
    ∙ ap (λ o. cons_option o (filter_map h (declares ++ (states ++ (flops ++ end))))) first ∙ filter_map-append h declares (states ++ (flops ++ end))
    ∙ ap (λ z. filter_map h declares ++ z) (filter_map-append h states (flops ++ end) ∙ ap (λ z. filter_map h states ++ z) (filter_map-append h flops end ∙ ap (λ o. filter_map h flops ++ cons_option o []) last ∙ append-nil (filter_map h flops)))

the_flops_none : {Y : Type 0} (h : List ℕ → Option Y) → ((c : Bit) (j : ℕ) (f : Flop Bit) → h (flop_line (Some c) j f) ≡ None) → (c : Option Bit) (fs : List (Flop Bit)) → HasClock c fs → filter_map h (flop_lines c 0 fs) ≡ []
the_flops_none h e None fs k = ap (λ xs. filter_map h (flop_lines None 0 xs)) k
the_flops_none h e (Some c) fs k = flops_none h e c 0 fs

variables_read : (d : Design) → IsText d → filter_map declaration_of (canonical_lines d ++ [] ∷ []) ≡ d.variables
variables_read d h =
    let none = others_undeclared d.module_name (port_names d.variables) in
    of_lines declaration_of d none.0 none.1 none.2 ∙ (λ i. filter_all IsEntry declaration declaration_of declaration_again d.variables h.variables i
    ++ (filter_none gate_line declaration_of (λ g. states_nothing_declared g.op g.out g.ins) d.netlist.gates i ++ the_flops_none declaration_of flop_undeclared d.clock d.netlist.flops h.clock i)) ∙ append-nil d.variables

gates_read : (d : Design) → IsText d → filter_map statement_of (canonical_lines d ++ [] ∷ []) ≡ d.netlist.gates
gates_read d h =
    let none = others_unstated d.module_name (port_names d.variables) in
    of_lines statement_of d none.0 none.1 none.2 ∙ (λ i. filter_none declaration statement_of (λ v. declared_unstated v.0 v.1.range v.1.role) d.variables i
    ++ (filter_all IsGateText gate_line statement_of statement_again d.netlist.gates h.gates i ++ the_flops_none statement_of flop_unstated d.clock d.netlist.flops h.clock i)) ∙ append-nil d.netlist.gates

instances_read : (d : Design) → IsText d → filter_map flop_of (canonical_lines d ++ [] ∷ []) ≡ filter_map flop_of (the_flops d)
instances_read d h =
    let none = others_no_flop d.module_name (port_names d.variables) in
    of_lines flop_of d none.0 none.1 none.2 ∙ (λ i. filter_none declaration flop_of (λ v. declared_no_flop v.0 v.1.range v.1.role) d.variables i
    ++ (filter_none gate_line flop_of (λ g. stated_no_flop g.op g.out g.ins) d.netlist.gates i ++ filter_map flop_of (the_flops d)))

flops_of_instances : (c : Bit) (j : ℕ) (fs : List (Flop Bit)) → map (λ i. i.flop) (instances_of c j fs) ≡ fs
flops_of_instances c j [] = refl
flops_of_instances c j (f ∷ fs) = ap (λ z. f ∷ z) (flops_of_instances c (j + 1) fs)

-- the clock of the first
abbrev clock_first : List FlopLine → Option Bit
clock_first [] = None
clock_first (i ∷ is) = Some i.clock

clock_of_instances : (c : Bit) (j : ℕ) (fs : List (Flop Bit)) → 0 < length fs → clock_first (instances_of c j fs) ≡ Some c
clock_of_instances c j [] h = absurd (omega arith)
clock_of_instances c j (f ∷ fs) h = refl

-- the clock and the flip-flops that the lines have
clock_read : (c : Option Bit) (fs : List (Flop Bit)) → HasClock c fs → length fs ≤ index_limit → AllByRecursion IsFlopText fs → (clock_first (filter_map flop_of (flop_lines c 0 fs)) ≡ c) × (map (λ i. i.flop) (filter_map flop_of (flop_lines c 0 fs)) ≡ fs)
clock_read None fs e small all = (ap (λ xs. clock_first (filter_map flop_of (flop_lines None 0 xs))) e, ap (λ xs. map (λ i. i.flop) (filter_map flop_of (flop_lines None 0 xs))) e ∙ sym e)
clock_read (Some c) fs e small all =
    let read = flops_read c 0 fs (omega arith) e.0 all in
    (ap clock_first read ∙ clock_of_instances c 0 fs e.1, ap (map (λ i. i.flop)) read ∙ flops_of_instances c 0 fs)

abbrev line_first : List (List ℕ) → List ℕ
line_first [] = []
line_first (l ∷ ls) = l

-- what the text of a design says of it
pub record SameParts (d e : Design) : Type 0 where
  pub name : d.module_name ≡ e.module_name
  pub variables : d.variables ≡ e.variables
  pub clock : d.clock ≡ e.clock
  pub gates : d.netlist.gates ≡ e.netlist.gates
  pub flops : d.netlist.flops ≡ e.netlist.flops

pub same_parts : (d e : Design) → IsText d → IsText e → canonical_text d ≡ canonical_text e → SameParts d e
same_parts d e h k same =
    let lines : canonical_lines d ++ [] ∷ [] ≡ canonical_lines e ++ [] ∷ [] = sym (lines_again (canonical_lines d) (text_clean d h)) ∙ ap (slice_split (λ b. eqb b 10)) same ∙ lines_again (canonical_lines e) (text_clean e k) in
    let name : ◌≡◌ {A = Option (List ℕ)} (Some d.module_name) (Some e.module_name) = sym (module_again d.module_name (port_names d.variables) h.name) ∙ ap (λ ls. head_name (line_first ls)) lines ∙ module_again e.module_name (port_names e.variables) k.name in
    let flops : filter_map flop_of (the_flops d) ≡ filter_map flop_of (the_flops e) = sym (instances_read d h) ∙ ap (filter_map flop_of) lines ∙ instances_read e k in
    let of_d = clock_read d.clock d.netlist.flops h.clock h.few h.flops in
    let of_e = clock_read e.clock e.netlist.flops k.clock k.few k.flops in
    record {
      name = cc name;
      variables = sym (variables_read d h) ∙ ap (filter_map declaration_of) lines ∙ variables_read e k;
      clock = sym of_d.0 ∙ ap clock_first flops ∙ of_e.0;
      gates = sym (gates_read d h) ∙ ap (filter_map statement_of) lines ∙ gates_read e k;
      flops = sym of_d.1 ∙ ap (map (λ i. i.flop)) flops ∙ of_e.1;
    }
