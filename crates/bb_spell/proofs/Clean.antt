-- No line has a line feed within.
use Rattle.std.proofs.Common.{◌≡◌, ℕ, ◌<◌, List, [], ◌∷◌, ◌++◌, map, codes, decimal, Option, Some, None, Bool, true, false, eqb, ◌&&◌, refl, ap, ◌∙◌, arith, append_assoc, ◌+◌, ◌≤◌, length, sym, subst}
use Rattle.std.specs.List.{AllByRecursion, list_all, flat_map, slice_split}
use Rattle.std.specs.Char.{is_ascii_digit}
use Rattle.std.proofs.lemmas.Bool.Decides.{nat_tests}
use Rattle.std.proofs.lemmas.List.Folds.{list_all-append}
use Rattle.std.proofs.lemmas.List.Elements.{recursion_from_All, All-from_recursion}
use Rattle.std.proofs.lemmas.List.Splits.{slice_split_at}
use Rattle.bb_base.specs.declared.operator.Op.{Op}
use Rattle.bb_base.specs.declared.operator.Op.TheVariants.{And, Nand, Or, Nor, Xor, Xnor, Not, Buf, Zero, One}
use Rattle.bb_base.specs.declared.variable.Role.{Role}
use Rattle.bb_base.specs.declared.variable.Role.TheVariants.{Input, Output, Wire}
use Rattle.bb_base.specs.Name.{IsName, IsNameByte, is_name_byte}
use Rattle.bb_base.specs.Net.{Gate, Flop}
use Rattle.bb_base.specs.Variables.{Entry, Bit, IsEntry, IsRange}
use Rattle.bb_spell.specs.Spelling.{stands_plain, spelled_name, spelled_index, spelled_bit, further, joined, module_line, role_word, spelled_range, declaration, statement_by, gate_line, pins, flop_line}
use Rattle.bb_spell.specs.Canonical.{with_feed, port_names, flop_lines, canonical_lines}
use Rattle.bb_spell.specs.Front.{index_limit}
use Rattle.bb_spell.specs.TextLines.{is_line_byte}
use Rattle.bb_spell.proofs.Again.{Pass, decimal_passes, name_passes}
use Rattle.bb_spell.specs.Writable.{IsIndex, IsBitText, IsGateText, IsFlopText, HasClock, IsText}
use Rattle.bb_base.specs.Named.{Design}
use Rattle.bb_base.proofs.Lists.{all_join}

-- no line feed
abbrev pub Clean : List ℕ → Type 0
Clean bytes = list_all is_line_byte bytes ≡ true

and_join : (a b : Bool) → a ≡ true → b ≡ true → (a && b) ≡ true
and_join true b h k = k
and_join false b h k = h

join : (xs ys : List ℕ) → Clean xs → Clean ys → Clean (xs ++ ys)
join xs ys h k = list_all-append is_line_byte xs ys ∙ and_join (list_all is_line_byte xs) (list_all is_line_byte ys) h k

each : (p : ℕ → Bool) → ((b : ℕ) → p b ≡ true → is_line_byte b ≡ true) → (xs : List ℕ) → Pass p xs → Clean xs
each p f [] h = refl
each p f (x ∷ xs) h = and_join (is_line_byte x) (list_all is_line_byte xs) (f x h.0) (each p f xs h.1)

name_byte : (b : ℕ) → is_name_byte b ≡ true → is_line_byte b ≡ true
name_byte b h = grind (arith, nat_tests)

digit_byte : (b : ℕ) → is_ascii_digit b ≡ true → is_line_byte b ≡ true
digit_byte b h = grind (arith, nat_tests)

name_clean : (name : List ℕ) → IsName name → Clean name
name_clean name h = each is_name_byte name_byte name (name_passes name (recursion_from_All IsNameByte name h.plain))

number_clean : (n : ℕ) → n < index_limit → Clean (decimal n)
number_clean n h = each is_ascii_digit digit_byte (decimal n) (decimal_passes n (omega arith))

spelled_clean : (name : List ℕ) → IsName name → Clean (spelled_name name)
unfolding spelled_name
spelled_clean name h = go (stands_plain name) refl
  where
    go : (b : Bool) → stands_plain name ≡ b → Clean (spelled_name name)
    go true p = rw p (name_clean name h)
    go false p = rw p (join name (codes " ") (name_clean name h) refl)

index_clean : (i : Option ℕ) → IsIndex i → Clean (spelled_index i)
index_clean None h = refl
index_clean (Some i) h = join (decimal i) (codes "]") (number_clean i h) refl

bit_clean : (b : Bit) → IsBitText b → Clean (spelled_bit b)
bit_clean b h = join (spelled_name b.name) (spelled_index b.index) (spelled_clean b.name h.name) (index_clean b.index h.index)

range_clean : (r : Option (ℕ × ℕ)) → IsRange r → Clean (spelled_range r)
range_clean None h = refl
range_clean (Some r) h = join (decimal r.0) (codes ":" ++ (decimal r.1 ++ codes "]")) (number_clean r.0 h.0) (join (decimal r.1) (codes "]") (number_clean r.1 h.1) refl)

bits_clean : (bits : List Bit) → AllByRecursion IsBitText bits → Clean (flat_map further (map spelled_bit bits))
bits_clean [] h = refl
bits_clean (b ∷ bs) h = join (spelled_bit b) (flat_map further (map spelled_bit bs)) (bit_clean b h.0) (bits_clean bs h.1)

names_clean : (names : List (List ℕ)) → AllByRecursion IsName names → Clean (flat_map further (map spelled_name names))
names_clean [] h = refl
names_clean (n ∷ ns) h = join (spelled_name n) (flat_map further (map spelled_name ns)) (spelled_clean n h.0) (names_clean ns h.1)

joined_clean : (names : List (List ℕ)) → AllByRecursion IsName names → Clean (joined (map spelled_name names))
joined_clean [] h = refl
joined_clean (n ∷ ns) h = join (spelled_name n) (flat_map further (map spelled_name ns)) (spelled_clean n h.0) (names_clean ns h.1)

pub module_clean : (name : List ℕ) (ports : List (List ℕ)) → IsName name → AllByRecursion IsName ports → Clean (module_line name ports)
module_clean name ports h k = join (spelled_name name) (codes " (" ++ (joined (map spelled_name ports) ++ codes ");")) (spelled_clean name h) (join (joined (map spelled_name ports)) (codes ");") (joined_clean ports k) refl)

role_clean : (r : Role) → Clean (role_word r)
role_clean Input = refl
role_clean Output = refl
role_clean Wire = refl

pub declaration_clean : (v : Entry) → IsEntry v → Clean (declaration v)
declaration_clean v h =
    join (role_word v.1.role) (spelled_range v.1.range ++ (codes " " ++ (spelled_name v.0 ++ codes ";"))) (role_clean v.1.role)
    (join (spelled_range v.1.range) (codes " " ++ (spelled_name v.0 ++ codes ";")) (range_clean v.1.range h.range) (join (spelled_name v.0) (codes ";") (spelled_clean v.0 h.name) refl))

primitive_clean : (out : Bit) (ins : List Bit) → IsBitText out → AllByRecursion IsBitText ins → Clean (codes " (" ++ (spelled_bit out ++ (flat_map further (map spelled_bit ins) ++ codes ");")))
primitive_clean out ins h k =
    join (spelled_bit out) (flat_map further (map spelled_bit ins) ++ codes ");") (bit_clean out h) (join (flat_map further (map spelled_bit ins)) (codes ");") (bits_clean ins k) refl)

by_clean : (op : Op) (out : Bit) (ins : List Bit) → IsBitText out → AllByRecursion IsBitText ins → Clean (statement_by op out ins)
by_clean And out ins h k = primitive_clean out ins h k
by_clean Nand out ins h k = primitive_clean out ins h k
by_clean Or out ins h k = primitive_clean out ins h k
by_clean Nor out ins h k = primitive_clean out ins h k
by_clean Xor out ins h k = primitive_clean out ins h k
by_clean Xnor out ins h k = primitive_clean out ins h k
by_clean Not out ins h k = primitive_clean out ins h k
by_clean Buf out ins h k = primitive_clean out ins h k
by_clean Zero out ins h k = join (spelled_bit out) (codes " = 1'b" ++ (codes "0" ++ codes ";")) (bit_clean out h) refl
by_clean One out ins h k = join (spelled_bit out) (codes " = 1'b" ++ (codes "1" ++ codes ";")) (bit_clean out h) refl

pub statement_clean : (g : Gate Bit) → IsGateText g → Clean (gate_line g)
statement_clean g h = by_clean g.op g.out g.ins h.out h.ins

pub flop_clean : (clock : Bit) (number : ℕ) (f : Flop Bit) → number < index_limit → IsBitText clock → IsFlopText f → Clean (flop_line (Some clock) number f)
flop_clean clock number f small h k =
    join (decimal number) (pins (Some clock) f) (number_clean number small) (join (spelled_bit clock) (codes ", " ++ (spelled_bit f.q ++ (codes ", " ++ (spelled_bit f.d ++ codes ");")))) (bit_clean clock h)
    (join (spelled_bit f.q) (codes ", " ++ (spelled_bit f.d ++ codes ");")) (bit_clean f.q k.q) (join (spelled_bit f.d) (codes ");") (bit_clean f.d k.d) refl)))

no_feed : (b : ℕ) → is_line_byte b ≡ true → eqb b 10 ≡ false
no_feed b h = grind (arith, nat_tests)

feeds : (bytes : List ℕ) → Clean bytes → AllByRecursion (λ b. eqb b 10 ≡ false) bytes
feeds [] h = tt
feeds (b ∷ bs) h =
    let parts = two (is_line_byte b) (list_all is_line_byte bs) h in
    (no_feed b parts.0, feeds bs parts.1)
  where
    two : (a c : Bool) → (a && c) ≡ true → (a ≡ true) × (c ≡ true)
    two true c h = (refl, h)
    two false c h = cc

-- a text of lines is cut into them
pub lines_again : (ls : List (List ℕ)) → AllByRecursion Clean ls → slice_split (λ b. eqb b 10) (flat_map with_feed ls) ≡ ls ++ [] ∷ []
lines_again [] h = refl
lines_again (l ∷ ls) h =
    ap (slice_split (λ b. eqb b 10)) (append_assoc l (codes "\n") (flat_map with_feed ls))
    ∙ slice_split_at (λ b. eqb b 10) l 10 (flat_map with_feed ls) (All-from_recursion (λ b. eqb b 10 ≡ false) l (feeds l h.0)) refl ∙ ap (λ z. l ∷ z) (lines_again ls h.1)

pub flops_clean : (c : Bit) (j : ℕ) (fs : List (Flop Bit)) → j + length fs ≤ index_limit → IsBitText c → AllByRecursion IsFlopText fs → AllByRecursion Clean (flop_lines (Some c) j fs)
flops_clean c j [] small h all = tt
flops_clean c j (f ∷ fs) small h all = (flop_clean c j f (omega arith) h all.0, flops_clean c (j + 1) fs (omega arith) h all.1)

the_flops_clean : (c : Option Bit) (fs : List (Flop Bit)) → HasClock c fs → length fs ≤ index_limit → AllByRecursion IsFlopText fs → AllByRecursion Clean (flop_lines c 0 fs)
the_flops_clean None fs e small all = subst (λ xs. AllByRecursion Clean (flop_lines None 0 xs)) (sym e) tt
the_flops_clean (Some c) fs e small all = flops_clean c 0 fs (omega arith) e.0 all

all_clean : {X : Type 0} (P : X → Type 0) (f : X → List ℕ) → ((x : X) → P x → Clean (f x)) → (xs : List X) → AllByRecursion P xs → AllByRecursion Clean (map f xs)
all_clean P f g [] all = tt
all_clean P f g (x ∷ xs) all = (g x all.0, all_clean P f g xs all.1)

pub text_clean : (d : Design) → IsText d → AllByRecursion Clean (canonical_lines d)
text_clean d h = (
  module_clean d.module_name (port_names d.variables) h.name h.ports,
  all_join Clean (map declaration d.variables) _ (all_clean IsEntry declaration declaration_clean d.variables h.variables)
      (all_join Clean (map gate_line d.netlist.gates) _ (all_clean IsGateText gate_line statement_clean d.netlist.gates h.gates) (all_join Clean (flop_lines d.clock 0 d.netlist.flops) (codes "endmodule" ∷ []) (the_flops_clean d.clock d.netlist.flops h.clock h.few h.flops) (refl, tt))),
)
