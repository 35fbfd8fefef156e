-- Each line of a canonical text may stand in its place.
use Rattle.std.proofs.Common.{◌≡◌, ℕ, ◌+◌, ◌<◌, ◌≤◌, min, zero, suc, List, [], ◌∷◌, ◌++◌, length, map, codes, decimal, Option, Some, None, Bool, true, false, not, eqb, refl, sym, ap, ◌∙◌, arith, append_assoc, length-append, subst, rules}
use Rattle.std.proofs.lemmas.Bool.Decides.{nat_tests}
use Rattle.std.proofs.lemmas.Slice.Eq.{bytes_eq-Decides}
use Rattle.std.proofs.Math.Seq.{take-append_seam, drop-append_seam}
use Rattle.std.specs.List.{prefix_len, AllByRecursion, flat_map, list_all}
use Rattle.std.specs.Option.{option_map}
use Rattle.std.specs.Str.{bytes_eq}
use Rattle.bb_base.specs.Name.{IsName}
use Rattle.bb_base.specs.Net.{Gate, Flop}
use Rattle.bb_base.specs.Variables.{Entry, Bit, IsEntry}
use Rattle.bb_base.specs.Named.{Design}
use Rattle.bb_base.specs.Words.{starts_word, is_word_byte}
use Rattle.bb_spell.specs.Spelling.{is_simple, stands_plain, spelled_name, further, joined, module_line, declaration, gate_line, pins, flop_line}
use Rattle.bb_base.specs.Keywords.{is_keyword}
use Rattle.bb_spell.specs.Canonical.{port_names, flop_lines, canonical_lines, canonical_text}
use Rattle.bb_spell.specs.Front.{◌>>=◌, begins_with, after_mark, front_name}
use Rattle.bb_spell.specs.Lines.{declaration_of, statement_of, FlopLine, flop_pins}
use Rattle.bb_spell.specs.Places.{after_names, after_ports, head_of, counted_of, after_flops, after_gates, after_declarations, stage_after, may_end, bad_line}
use Rattle.bb_spell.specs.TextLines.{first_bad}
use Rattle.bb_spell.specs.declared.places.Stage.{Stage}
use Rattle.bb_spell.specs.declared.places.Stage.TheVariants.{Head, Declarations, Gates, Flops, End}
use Rattle.bb_spell.proofs.Again.{both_true, name_again}
use Rattle.bb_spell.specs.Writable.{IsBitText, IsGateText, IsFlopText, HasClock, IsText}
use Rattle.bb_spell.proofs.LineAgain.{declaration_again, statement_again, pins_again}
use Rattle.bb_spell.proofs.Clean.{lines_again, text_clean}
use Rattle.bb_spell.proofs.MoreNames.{names_end, names_one}
use Rattle.bb_spell.proofs.OneKind.{states_nothing_declared, flop_undeclared, flop_unstated, others_undeclared, others_unstated}
use Rattle.bb_spell.proofs.Pieces.{bad_step}

-- the first line
names_stop : (names : List (List ℕ)) → prefix_len is_word_byte (flat_map further (map spelled_name names) ++ codes ");") ≡ 0
names_stop [] = refl
names_stop (n ∷ ns) = refl

names_again : (most : ℕ) (names : List (List ℕ)) → AllByRecursion IsName names → length (flat_map further (map spelled_name names) ++ codes ");") ≤ most
    → after_names most (flat_map further (map spelled_name names) ++ codes ");") ≡ Some (codes ");")
names_again most [] h l = names_end most (codes ");") refl
names_again zero (n ∷ ns) h l = absurd (omega arith)
names_again (suc most) (n ∷ ns) h l =
    let flat : List ℕ = flat_map further (map spelled_name ns) in
    let tail : List ℕ = flat ++ codes ");" in
    let regrouped : (spelled_name n ++ flat) ++ codes ");" ≡ spelled_name n ++ tail = append_assoc (spelled_name n) flat (codes ");") in
    let short : length tail ≤ most = omega (arith, ap length regrouped, length-append (spelled_name n) tail) in
    let read : front_name ((spelled_name n ++ flat) ++ codes ");") ≡ Some (n, tail) = ap front_name regrouped ∙ name_again n tail h.0 (names_stop ns) in
    names_one most (flat_map further (map spelled_name (n ∷ ns)) ++ codes ");") refl ∙ ap (λ r. r >>= (λ x. after_names most x.1)) read ∙ names_again most ns h.1 short

start_paren : (b : ℕ) → starts_word b ≡ true → eqb b 41 ≡ false
start_paren b h = grind (arith, nat_tests)

simple_paren : (name rest : List ℕ) → is_simple name ≡ true → begins_with (codes ")") (name ++ rest) ≡ false
simple_paren [] rest h = cc
simple_paren (b ∷ bs) rest h =
    let parts = both_true (starts_word b) (list_all is_word_byte bs) h in
    rw (start_paren b parts.0) refl

-- no name begins as the end of the line does
name_paren : (name rest : List ℕ) → begins_with (codes ")") (spelled_name name ++ rest) ≡ false
unfolding spelled_name
name_paren name rest = go (stands_plain name) refl
  where
    go : (b : Bool) → stands_plain name ≡ b → begins_with (codes ")") (spelled_name name ++ rest) ≡ false
    go true p = rw p (simple_paren name rest (both_true (is_simple name) (not (is_keyword name)) p).0)
    go false p = rw p refl

some_ports : (bytes name rest : List ℕ) → begins_with (codes ")") bytes ≡ false → front_name bytes ≡ Some (name, rest) → after_ports bytes ≡ after_names (length rest) rest
unfolding after_ports
some_ports bytes name rest a b = rw (a, b) refl

no_ports : after_ports (codes ");") ≡ Some (codes ");")
unfolding after_ports
no_ports = refl

ports_again : (ports : List (List ℕ)) → AllByRecursion IsName ports → after_ports (joined (map spelled_name ports) ++ codes ");") ≡ Some (codes ");")
ports_again [] h = no_ports
ports_again (p ∷ ps) h =
    let flat : List ℕ = flat_map further (map spelled_name ps) in
    let tail : List ℕ = flat ++ codes ");" in
    let regrouped : (spelled_name p ++ flat) ++ codes ");" ≡ spelled_name p ++ tail = append_assoc (spelled_name p) flat (codes ");") in
    ap after_ports regrouped ∙ some_ports (spelled_name p ++ tail) p tail (name_paren p tail) (name_again p tail h.0 (names_stop ps)) ∙ names_again (length tail) ps h.1 (omega arith)

head_found : (line a rest b name : List ℕ) → after_mark (codes "module ") line ≡ Some a → front_name a ≡ Some (name, rest) → after_mark (codes " (") rest ≡ Some b → after_ports b ≡ Some (codes ");") → head_of line ≡ Some name
unfolding head_of
head_found line a rest b name p q r s = rw (p, q, r, s) refl

pub head_again : (name : List ℕ) (ports : List (List ℕ)) → IsName name → AllByRecursion IsName ports → head_of (module_line name ports) ≡ Some name
head_again name ports h k =
    let inner : List ℕ = joined (map spelled_name ports) ++ codes ");" in
    let rest : List ℕ = codes " (" ++ inner in
    head_found (module_line name ports) (spelled_name name ++ rest) rest inner name refl (name_again name rest h refl) refl (ports_again ports k)

-- flip-flops
same_bytes : (bytes : List ℕ) → bytes_eq bytes bytes ≡ true
same_bytes bytes = search (rules, bytes_eq-Decides)

mark_again : (mark rest : List ℕ) → after_mark mark (mark ++ rest) ≡ Some rest
mark_again mark rest = rw (take-append_seam mark rest, drop-append_seam mark rest, same_bytes mark) refl

counted_found : (line a b : List ℕ) (count : ℕ) (i : FlopLine) → after_mark (codes "dff bt_f") line ≡ Some a → after_mark (decimal count) a ≡ Some b → flop_pins 0 b ≡ Some i → counted_of count line ≡ Some i
unfolding counted_of
counted_found line a b count i p q r = rw (p, q) r

pub counted_again : (clock : Bit) (count : ℕ) (f : Flop Bit) → IsBitText clock → IsFlopText f → counted_of count (flop_line (Some clock) count f) ≡ Some (record { number = 0; clock = clock; flop = f })
counted_again clock count f h k =
    counted_found (flop_line (Some clock) count f) (decimal count ++ pins (Some clock) f) (pins (Some clock) f) count _ refl (mark_again (decimal count) (pins (Some clock) f)) (pins_again 0 clock f h k.q k.d)

-- what stands where
pub flop_stands : (clock : Bit) (count : ℕ) (f : Flop Bit) → IsBitText clock → IsFlopText f → after_flops count (flop_line (Some clock) count f) ≡ Some (Flops (count + 1))
unfolding after_flops
flop_stands clock count f h k = ap (λ o. o >>= (λ (i : FlopLine). Some (Flops (count + 1)))) (counted_again clock count f h k)

pub end_stands : (count : ℕ) → after_flops count (codes "endmodule") ≡ Some End
unfolding after_flops
end_stands count = refl

pub stated : (line : List ℕ) (g : Gate Bit) → statement_of line ≡ Some g → after_gates line ≡ Some Gates
unfolding after_gates
stated line g e = rw e refl

pub not_stated : (line : List ℕ) → statement_of line ≡ None → after_gates line ≡ after_flops 0 line
unfolding after_gates
not_stated line e = rw e refl

pub declared : (line : List ℕ) (v : Entry) → declaration_of line ≡ Some v → after_declarations line ≡ Some Declarations
unfolding after_declarations
declared line v e = rw e refl

pub not_declared : (line : List ℕ) → declaration_of line ≡ None → after_declarations line ≡ after_gates line
unfolding after_declarations
not_declared line e = rw e refl

-- lines lead from one stage to another
abbrev StagesLead : Stage → List (List ℕ) → Stage → Type 0
StagesLead from [] to = from ≡ to
StagesLead from (line ∷ lines) to = (next : Stage) × (stage_after from line ≡ Some next) × StagesLead next lines to

some_more : (lines : List (List ℕ)) → 0 < length (lines ++ [] ∷ [])
some_more lines = omega (arith, length-append lines ([] ∷ []))

-- lines that lead to the end are all right
none_bad : (stage : Stage) (n : ℕ) (lines : List (List ℕ)) → StagesLead stage lines End → first_bad stage_after may_end (Some stage) n (lines ++ [] ∷ []) ≡ None
none_bad stage n [] h = ap (λ s. first_bad stage_after may_end (Some s) n ([] ∷ [])) h
none_bad stage n (line ∷ lines) h = bad_step stage_after may_end stage n line (lines ++ [] ∷ []) (some_more lines) ∙ ap (λ o. first_bad stage_after may_end o (n + 1) (lines ++ [] ∷ [])) h.1 ∙ none_bad h.0 (n + 1) lines h.2

abbrev last : List (List ℕ)
last = codes "endmodule" ∷ []

flops_lead : (clock : Bit) (count : ℕ) (fs : List (Flop Bit)) → IsBitText clock → AllByRecursion IsFlopText fs → StagesLead (Flops count) (flop_lines (Some clock) count fs ++ last) End
flops_lead clock count [] h all = (End, end_stands count, refl)
flops_lead clock count (f ∷ fs) h all = (Flops (count + 1), flop_stands clock count f h all.0, flops_lead clock (count + 1) fs h all.1)

-- what may stand where no flip-flop has come
record Open (stage : Stage) : Type 0 where
  flop : (clock : Bit) (f : Flop Bit) → IsBitText clock → IsFlopText f → stage_after stage (flop_line (Some clock) 0 f) ≡ Some (Flops 1)
  end : stage_after stage (codes "endmodule") ≡ Some End

gates_open : Open Gates
gates_open = record {
  flop = λ clock f h k. not_stated (flop_line (Some clock) 0 f) (flop_unstated clock 0 f) ∙ flop_stands clock 0 f h k;
  end = not_stated (codes "endmodule") (others_unstated [] []).1 ∙ end_stands 0;
}

declarations_open : Open Declarations
declarations_open = record {
  flop = λ clock f h k. not_declared (flop_line (Some clock) 0 f) (flop_undeclared clock 0 f) ∙ gates_open.flop clock f h k;
  end = not_declared (codes "endmodule") (others_undeclared [] []).1 ∙ gates_open.end;
}

first_flops : (stage : Stage) → Open stage → (clock : Bit) (fs : List (Flop Bit)) → IsBitText clock → AllByRecursion IsFlopText fs → StagesLead stage (flop_lines (Some clock) 0 fs ++ last) End
first_flops stage o clock [] h all = (End, o.end, refl)
first_flops stage o clock (f ∷ fs) h all = (Flops 1, o.flop clock f h all.0, flops_lead clock 1 fs h all.1)

any_flops : (stage : Stage) → Open stage → (clock : Option Bit) (fs : List (Flop Bit)) → HasClock clock fs → AllByRecursion IsFlopText fs → StagesLead stage (flop_lines clock 0 fs ++ last) End
any_flops stage o None fs e all = subst (λ xs. StagesLead stage (flop_lines None 0 xs ++ last) End) (sym e) (End, o.end, refl)
any_flops stage o (Some clock) fs e all = first_flops stage o clock fs e.0 all

gates_lead : (gs : List (Gate Bit)) (others : List (List ℕ)) → AllByRecursion IsGateText gs → StagesLead Gates others End → StagesLead Gates (map gate_line gs ++ others) End
gates_lead [] others all h = h
gates_lead (g ∷ gs) others all h = (Gates, stated (gate_line g) g (statement_again g all.0), gates_lead gs others all.1 h)

first_gates : (gs : List (Gate Bit)) (others : List (List ℕ)) → AllByRecursion IsGateText gs → StagesLead Declarations others End → StagesLead Gates others End → StagesLead Declarations (map gate_line gs ++ others) End
first_gates [] others all h k = h
first_gates (g ∷ gs) others all h k =
    (Gates, not_declared (gate_line g) (states_nothing_declared g.op g.out g.ins) ∙ stated (gate_line g) g (statement_again g all.0), gates_lead gs others all.1 k)

declarations_lead : (vs : List Entry) (others : List (List ℕ)) → AllByRecursion IsEntry vs → StagesLead Declarations others End → StagesLead Declarations (map declaration vs ++ others) End
declarations_lead [] others all h = h
declarations_lead (v ∷ vs) others all h = (Declarations, declared (declaration v) v (declaration_again v all.0), declarations_lead vs others all.1 h)

text_leads : (d : Design) → IsText d → StagesLead Head (canonical_lines d) End
text_leads d t =
    let flops : (stage : Stage) → Open stage → StagesLead stage (flop_lines d.clock 0 d.netlist.flops ++ last) End = λ stage o. any_flops stage o d.clock d.netlist.flops t.clock t.flops in (
      Declarations,
      ap (λ o. o >>= (λ (name : List ℕ). Some Declarations)) (head_again d.module_name (port_names d.variables) t.name t.ports),
      declarations_lead d.variables _ t.variables (first_gates d.netlist.gates _ t.gates (flops Declarations declarations_open) (flops Gates gates_open)),
    )

-- no line of a canonical text is bad
pub text_stands : (d : Design) (text : List ℕ) → IsText d → text ≡ canonical_text d → bad_line text ≡ None
text_stands d text t e =
    ap bad_line e ∙ ap (λ pieces. option_map (min 4294967295) (first_bad stage_after may_end (Some Head) 0 pieces)) (lines_again (canonical_lines d) (text_clean d t)) ∙ ap (option_map (min 4294967295)) (none_bad Head 0 (canonical_lines d) (text_leads d t))
