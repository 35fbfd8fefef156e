-- What the items of a canonical text's module say, show and make, one by one.
use Rattle.std.proofs.Common.{◌≡◌, ℕ, ◌+◌, ◌<◌, List, [], ◌∷◌, ◌++◌, map, codes, take, drop, Option, Some, None, IsSome, true, nat_le, nat_eq, length, refl, ap, ◌∙◌, arith}
use Rattle.std.specs.Prelude.{flat_map, ◌&&◌}
use Rattle.std.specs.List.{AllByRecursion, list_all}
use Rattle.std.specs.Option.{option_or}
use Rattle.std.proofs.lemmas.Bool.Decides.{nat_tests}
use Rattle.bb_base.specs.declared.operator.Op.{Op}
use Rattle.bb_base.specs.declared.operator.Op.TheVariants.{And, Nand, Or, Nor, Xor, Xnor, Not, Buf, Zero, One}
use Rattle.bb_base.specs.declared.variable.BitName.{BitName}
use Rattle.bb_base.specs.Net.{Gate, Flop, renamed_gate, renamed_flop, HasArity}
use Rattle.bb_base.specs.Operators.{IsArity}
use Rattle.bb_base.specs.Variables.{Entry, Bit, IsBit, bit_of, bit_in}
use Rattle.bb_parse.specs.declared.syntax.Item.{Item}
use Rattle.bb_parse.specs.declared.syntax.Step.{Step}
use Rattle.bb_fault.specs.Firsts.{first_answer}
use Rattle.bb_scope.specs.Names.{has_name, steps_names, item_names}
use Rattle.bb_scope.specs.Declarations.{item_decls}
use Rattle.bb_scope.specs.Cells.{Kind, kind_of, is_plain, unknown_item}
use Rattle.bb_scope.specs.References.{ref_span, ref_fault, width_of, span_fault}
use Rattle.bb_scope.specs.Sizes.{expr_fault, of_nets, width, differs}
use Rattle.bb_scope.specs.Parts.{item_fault, prim_fault, are_right_terms}
use Rattle.bb_scope.specs.Terminals.{out_count}
use Rattle.bb_fault.specs.Work.{Work, Clocked}
use Rattle.bb_scope.specs.Making.{Read, grounded, as_value, terminal_made, terminals_made, driven_bits, prim_made, all_driven, nets_of, item_made, copied_onto, const_bits}
use Rattle.bb_scope.specs.References.{ref_bits}
use Rattle.bb_canon_parse.specs.Printed as printed
use Rattle.bb_canon_parse.specs.Printed.{reference, bit_steps}
use Rattle.bb_print.proofs.PrintedBits.{Differ, number_of, span_is, bits_are}
use Rattle.bb_print.proofs.PrintedNames.{names_of, has_at}
use Rattle.bb_print.proofs.Sieves.{or_none}
use Rattle.bb_scope.specs.Making.{flip_flop_made}
use Rattle.bb_scope.specs.Making.{To}

-- a bit's text names a bit of a variable, which has this number
pub record ItemStands (vs : List Entry) (b : Bit) (k : ℕ) : Type 0 where
  pub name : has_name (names_of vs) b.name ≡ true
  pub fault : (line : ℕ) → ref_fault vs line (reference b) ≡ None
  pub wide : width_of (ref_span vs (reference b)) ≡ 1
  pub bits : ref_bits vs (reference b) ≡ k ∷ []

pub stands_of : (vs : List Entry) (bit : BitName) → Differ vs → IsBit vs bit → ItemStands vs (bit_of vs bit) (number_of vs bit)
stands_of vs bit differ h =
    let span = span_is vs bit differ h in
    record {
      name = ap (λ (o : Option Entry). has_name (names_of vs) (bit_in o bit.place).name) h.stands ∙ has_at vs bit.variable h.entry h.stands;
      fault = λ line. ap (span_fault line) span;
      wide = ap width_of span;
      bits = bits_are vs bit differ h;
    }

-- one more gate, and one more flip-flop
abbrev pub with_gate : Work → Gate ℕ → Work
with_gate w g = record w { gates = w.gates ++ g ∷ [] }

abbrev pub with_flop : Work → Clocked → Work
with_flop w f = record w { flops = w.flops ++ f ∷ [] }

-- what an item shows: known names, no declaration, no fault
pub record IsSound (vs : List Entry) (i : Item) : Type 0 where
  pub names : AllByRecursion (λ x. has_name (names_of vs) x ≡ true) (item_names i)
  pub decls : item_decls i ≡ []
  pub known : unknown_item i ≡ None
  pub fault : item_fault vs i ≡ None

from_some : {A : Type 0} (o : Option A) → IsSome o → A
from_some None h = absurd cc
from_some (Some x) h = x

module _ (vs : List Entry) where
  -- the expression that is one bit
  pub expr_none : (b : Bit) (k line : ℕ) → ItemStands vs b k → expr_fault vs line 1 (bit_steps b) ≡ None
  expr_none b k line h =
      or_none (option_or (ref_fault vs line (reference b)) None) _ (or_none (ref_fault vs line (reference b)) None (h.fault line) refl)
      (ap (λ z. differs line (nat_eq (width (of_nets z)) 1)) h.wide)

  pub terminal_is : (b : Bit) (k : ℕ) (w : Work) → ItemStands vs b k → terminal_made vs (bit_steps b) w ≡ (k ∷ [], w)
  terminal_is b k w h = ap (λ z. grounded (as_value z) w) h.bits

  -- bits by the nets that they are
  module _ (t : ℕ → Bit) (num : ℕ → ℕ) where
    abbrev pub Net : ℕ → Type 0
    Net n = ItemStands vs (t n) (num n)

    abbrev pub terms : List ℕ → List (List Step)
    terms ns = map bit_steps (map t ns)

    pub exprs_none : (line : ℕ) (ns : List ℕ) → AllByRecursion Net ns → first_answer (expr_fault vs line 1) (terms ns) ≡ None
    exprs_none line [] h = refl
    exprs_none line (n ∷ ns) h = or_none (expr_fault vs line 1 (bit_steps (t n))) (first_answer (expr_fault vs line 1) (terms ns)) (expr_none (t n) (num n) line h.0) (exprs_none line ns h.1)

    pub terminals_are : (ns : List ℕ) (w : Work) → AllByRecursion Net ns → terminals_made vs (terms ns) w ≡ (map num ns, w)
    terminals_are [] w h = refl
    terminals_are (n ∷ ns) w h =
        ap (λ (r : List ℕ × Work). (r.0 ++ (terminals_made vs (terms ns) r.1).0, (terminals_made vs (terms ns) r.1).1)) (terminal_is (t n) (num n) w h.0)
        ∙ ap (λ (r : List ℕ × Work). (num n ∷ r.0, r.1)) (terminals_are ns w h.1)

    pub terms_names : (ns : List ℕ) → AllByRecursion Net ns → AllByRecursion (λ x. has_name (names_of vs) x ≡ true) (flat_map steps_names (terms ns))
    terms_names [] h = tt
    terms_names (n ∷ ns) h = (h.0.name, terms_names ns h.1)

    abbrev pub gate_of : Op → ℕ → List ℕ → Gate ℕ
    gate_of op out ins = record { op = op; out = num out; ins = map num ins }

    -- a primitive that drives its first terminal alone
    driven_first : (op : Op) (out : ℕ) (ins : List ℕ) (w : Work) → out_count op (length (terms (out ∷ ins))) ≡ 1 → Net out → AllByRecursion Net ins → (prim_made vs op (terms (out ∷ ins)) w).1 ≡ with_gate w (gate_of op out ins)
    driven_first op out ins w one h all =
        ap (λ c. (all_driven op (terminals_made vs (drop c (terms (out ∷ ins))) w).0 (flat_map (driven_bits vs) (take c (terms (out ∷ ins)))) (terminals_made vs (drop c (terms (out ∷ ins))) w).1).1) one
        ∙ ap (λ (r : List ℕ × Work). (all_driven op r.0 (ref_bits vs (reference (t out)) ++ []) r.1).1) (terminals_are ins w all)
        ∙ ap (λ z. (all_driven op (map num ins) (z ++ []) w).1) h.bits

    right_terms : (op : Op) (out n : ℕ) (ins : List ℕ) → out_count op (length (terms (out ∷ n ∷ ins))) ≡ 1 → are_right_terms op (terms (out ∷ n ∷ ins)) ≡ true
    right_terms op out n ins one =
        let long : nat_le 2 (length (terms (out ∷ n ∷ ins))) ≡ true = grind (arith, nat_tests) in
        ap (λ c. nat_le 2 (length (terms (out ∷ n ∷ ins))) && list_all is_plain (take c (terms (out ∷ n ∷ ins)))) one ∙ ap (λ b. b && true) long

    prim_none : (line : ℕ) (op : Op) (ts : List (List Step)) → are_right_terms op ts ≡ true → first_answer (expr_fault vs line 1) ts ≡ None → prim_fault vs line op ts ≡ None
    prim_none line op ts right none = rw right none

    sound_first : (line : ℕ) (op : Op) (out n : ℕ) (ins : List ℕ) → out_count op (length (terms (out ∷ n ∷ ins))) ≡ 1 → AllByRecursion Net (out ∷ n ∷ ins) → IsSound vs (printed.primitive line op (t out) (map t (n ∷ ins)))
    sound_first line op out n ins one all = record {
      names = terms_names (out ∷ n ∷ ins) all;
      decls = refl;
      known = refl;
      fault = prim_none line op (terms (out ∷ n ∷ ins)) (right_terms op out n ins one) (exprs_none line (out ∷ n ∷ ins) all);
    }

    -- what an item shows and makes
    record Done (i : Item) (op : Op) (out : ℕ) (ins : List ℕ) : Type 0 where
      sound : IsSound vs i
      made : (w : Work) → (item_made vs i w).1 ≡ with_gate w (gate_of op out ins)

    -- a gate with inputs, of which only the first terminal is driven
    done_some : (line : ℕ) (op : Op) (out : ℕ) (ins : List ℕ) → 0 < length ins → ((n : ℕ) (more : List ℕ) → ins ≡ n ∷ more → out_count op (length (terms (out ∷ ins))) ≡ 1) → AllByRecursion Net (out ∷ ins) → Done (printed.primitive line op (t out) (map t ins)) op out ins
    done_some line op out [] some one all = absurd (omega arith)
    done_some line op out (n ∷ ins) some one all = record {
      sound = sound_first line op out n ins (one n ins refl) all;
      made = λ w. driven_first op out (n ∷ ins) w (one n ins refl) all.0 all.1;
    }

    -- a gate with one input
    done_one : (line : ℕ) (op : Op) (out : ℕ) (ins : List ℕ) → length ins ≡ 1 → ((n : ℕ) → out_count op (length (terms (out ∷ n ∷ []))) ≡ 1) → AllByRecursion Net (out ∷ ins) → Done (printed.primitive line op (t out) (map t ins)) op out ins
    done_one line op out [] e one all = absurd (omega arith)
    done_one line op out (n ∷ []) e one all = record {
      sound = sound_first line op out n [] (one n) all;
      made = λ w. driven_first op out (n ∷ []) w (one n) all.0 all.1;
    }
    done_one line op out (n ∷ m ∷ ins) e one all = absurd (omega arith)

    -- a constant
    sound_fixed : (line out value : ℕ) → Net out → IsSound vs (printed.fixed line (t out) value)
    sound_fixed line out value h = record {
      names = (h.name, tt);
      decls = refl;
      known = refl;
      fault = or_none (option_or (ref_fault vs line (reference (t out))) None) _ (or_none (ref_fault vs line (reference (t out))) None (h.fault line) refl)
          (ap (λ z. differs line (nat_eq 1 (z + 0))) h.wide);
    }

    fixed_made : (line out value : ℕ) (w : Work) → Net out → (item_made vs (printed.fixed line (t out) value) w).1 ≡ (copied_onto (num out ∷ []) (const_bits 1 value) w).1
    fixed_made line out value w h = ap (λ z. (copied_onto (z ++ []) (const_bits 1 value) w).1) h.bits

    done_zero : (line out : ℕ) (ins : List ℕ) → length ins ≡ 0 → Net out → Done (printed.fixed line (t out) 0) Zero out ins
    done_zero line out [] e h = record { sound = sound_fixed line out 0 h; made = λ w. fixed_made line out 0 w h }
    done_zero line out (n ∷ ins) e h = absurd (omega arith)

    done_unit : (line out : ℕ) (ins : List ℕ) → length ins ≡ 0 → Net out → Done (printed.fixed line (t out) 1) One out ins
    done_unit line out [] e h = record { sound = sound_fixed line out 1 h; made = λ w. fixed_made line out 1 w h }
    done_unit line out (n ∷ ins) e h = absurd (omega arith)

    done_gate : (line : ℕ) (op : Op) (out : ℕ) (ins : List ℕ) → IsArity op (length ins) → AllByRecursion Net (out ∷ ins) → Done (printed.stated_by line op (t out) (map t ins)) op out ins
    done_gate line And out ins a all = done_some line And out ins a (λ n more e. refl) all
    done_gate line Nand out ins a all = done_some line Nand out ins a (λ n more e. refl) all
    done_gate line Or out ins a all = done_some line Or out ins a (λ n more e. refl) all
    done_gate line Nor out ins a all = done_some line Nor out ins a (λ n more e. refl) all
    done_gate line Xor out ins a all = done_some line Xor out ins a (λ n more e. refl) all
    done_gate line Xnor out ins a all = done_some line Xnor out ins a (λ n more e. refl) all
    done_gate line Not out ins a all = done_one line Not out ins a (λ n. refl) all
    done_gate line Buf out ins a all = done_one line Buf out ins a (λ n. refl) all
    done_gate line Zero out ins a all = done_zero line out ins a all.0
    done_gate line One out ins a all = done_unit line out ins a all.0

    -- a gate's nets stand, and it has as many inputs as it takes
    pub record GateStands (g : Gate ℕ) : Type 0 where
      pub arity : HasArity g
      pub nets : AllByRecursion Net (g.out ∷ g.ins)

    pub gate_sound : (line : ℕ) (g : Gate ℕ) → GateStands g → IsSound vs (printed.stated line (renamed_gate t g))
    gate_sound line g h = (done_gate line g.op g.out g.ins h.arity h.nets).sound

    pub gate_made : (line : ℕ) (g : Gate ℕ) → GateStands g → (w : Work) → (item_made vs (printed.stated line (renamed_gate t g)) w).1 ≡ with_gate w (renamed_gate num g)
    gate_made line g h w = (done_gate line g.op g.out g.ins h.arity h.nets).made w

    -- flip-flops
    abbrev dff : Kind
    dff = from_some (kind_of (codes "dff")) refl

    pub record FlopStands (f : Flop ℕ) : Type 0 where
      pub q : Net f.q
      pub d : Net f.d

    pub flop_sound : (clock : Bit) (k line : ℕ) (f : Flop ℕ) → ItemStands vs clock k → FlopStands f → IsSound vs (printed.clocked clock line (renamed_flop t f))
    flop_sound clock k line f h s = record {
      names = (h.name, (s.q.name, (s.d.name, tt)));
      decls = refl;
      known = refl;
      fault = or_none (expr_fault vs line 1 (bit_steps clock)) _ (expr_none clock k line h)
          (or_none (expr_fault vs line 1 (bit_steps (t f.q))) _ (expr_none (t f.q) (num f.q) line s.q) (or_none (expr_fault vs line 1 (bit_steps (t f.d))) None (expr_none (t f.d) (num f.d) line s.d) refl));
    }

    abbrev clock_pin : List ℕ
    clock_pin = codes "CK"

    abbrev data_pin : List ℕ
    data_pin = codes "D"

    pub flop_made : (clock : Bit) (k line : ℕ) (f : Flop ℕ) → ItemStands vs clock k → FlopStands f → (w : Work) → (item_made vs (printed.clocked clock line (renamed_flop t f)) w).1 ≡ with_flop w (record { q = num f.q; d = num f.d; clock = k })
    flop_made clock k line f h s w =
        let q : List ℕ = ref_bits vs (reference (t f.q)) in
        let finish : Read → Work → Work = λ read v. (flip_flop_made (To (ref_bits vs (reference (t f.q)))) (nets_of read clock_pin ∷ nets_of read data_pin ∷ []) v).1 in
        ap (λ (r : List ℕ × Work). finish ((clock_pin, r.0) ∷ (data_pin, (terminal_made vs (bit_steps (t f.d)) r.1).0) ∷ []) (terminal_made vs (bit_steps (t f.d)) r.1).1) (terminal_is clock k w h)
        ∙ ap (λ (r : List ℕ × Work). finish ((clock_pin, k ∷ []) ∷ (data_pin, r.0) ∷ []) r.1) (terminal_is (t f.d) (num f.d) w s.d)
        ∙ ap (λ z. (flip_flop_made (To z) ((k ∷ []) ∷ (num f.d ∷ []) ∷ []) w).1) s.q.bits
