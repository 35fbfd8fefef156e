-- The names of a sample's variables and nets.
use Rattle.std.proofs.Common.{◌≡◌, ◌≢◌, ℕ, zero, suc, ◌+◌, ◌-◌, ◌<◌, ◌≤◌, Bool, true, false, List, [], ◌∷◌, ◌++◌, map, All, AllPairs, codes, inl, inr, refl, ap, arith}
use Rattle.std.proofs.lemmas.List.Elements.{All-from_recursion}
use Rattle.std.proofs.lemmas.Slice.Eq.{bytes_eq-Decides}
use Rattle.std.specs.List.{AllByRecursion, range_with_len}
use Rattle.std.specs.Str.{bytes_eq}
use Rattle.bb_base.specs.declared.variable.BitName.{BitName}
use Rattle.bb_base.specs.OwnNames.{is_reserved}
use Rattle.bb_base.specs.Variables.{Entry, StandsBefore, bit_at, bit_count}
use Rattle.bb_base.proofs.Lists.{all_join}
use Rattle.bb_base.specs.Named.{IsByBits}
use Rattle.bb_netlist.proofs.Sorting.{Ascends, ascend_pairs}
use Rattle.bb_sample.specs.Sample.{input_count, output_count, flop_count, bits_of, variables_of, bits_of_vectors, is_clocked, sample_of}
use Rattle.bb_sample.proofs.NetLemmas.{inputs_are}
use Rattle.bb_sample.proofs.GateLemmas.{all_given}

-- names differ where a test says so
differ : (a b : List ℕ) → bytes_eq a b ≡ false → a ≢ b
differ a b e same = let yes = (bytes_eq-Decides a b).1 same in cc (e, yes)

-- no two variables have one name
pub variables_apart : (b : Bool) (number : ℕ) → AllPairs (λ v w. v.0 ≢ w.0) (variables_of b number)
variables_apart true number = ascend_pairs (λ (v w : Entry). v.0 ≢ w.0) (variables_of true number) (
  (differ (codes "clk") (codes "i") refl, (differ (codes "clk") (codes "o") refl, (differ (codes "clk") (codes "q") refl, (differ (codes "clk") (codes "g") refl, tt)))),
  (
    (differ (codes "i") (codes "o") refl, (differ (codes "i") (codes "q") refl, (differ (codes "i") (codes "g") refl, tt))),
    ((differ (codes "o") (codes "q") refl, (differ (codes "o") (codes "g") refl, tt)), ((differ (codes "q") (codes "g") refl, tt), (tt, tt))),
  ),
)
variables_apart false number = ascend_pairs (λ (v w : Entry). v.0 ≢ w.0) (variables_of false number) (
  (differ (codes "i") (codes "o") refl, (differ (codes "i") (codes "g") refl, tt)),
  ((differ (codes "o") (codes "g") refl, tt), (tt, tt)),
)

-- none begins as this project's own do
pub none_reserved : (b : Bool) (number : ℕ) → All (λ v. is_reserved v.0 ≡ false) (variables_of b number)
none_reserved true number = All-from_recursion (λ (v : Entry). is_reserved v.0 ≡ false) (variables_of true number) (refl, (refl, (refl, (refl, (refl, tt)))))
none_reserved false number = All-from_recursion (λ (v : Entry). is_reserved v.0 ≡ false) (variables_of false number) (refl, (refl, (refl, tt)))

-- there are few bits
pub few_bits : (b : Bool) (number : ℕ) → number ≤ 65536 → bit_count (variables_of b number) ≤ 2097152
few_bits true number few = sizes input_count (output_count number) (flop_count number) number inputs_are (omega arith) (omega arith) few
  where
    sizes : (w t f n : ℕ) → w ≡ 16 → t ≤ 8 → f ≤ n → n ≤ 65536 → 1 + (((0 - (w - 1)) + (w - 1 - 0) + 1) + (((0 - (t - 1)) + (t - 1 - 0) + 1) + (((0 - (f - 1)) + (f - 1 - 0) + 1) + (((0 - (n - 1)) + (n - 1 - 0) + 1) + 0)))) ≤ 2097152
    sizes w t f n a b c d = omega (arith, a, b, c, d)
few_bits false number few = sizes input_count (output_count number) number inputs_are (omega arith) few
  where
    sizes : (w t n : ℕ) → w ≡ 16 → t ≤ 8 → n ≤ 65536 → ((0 - (w - 1)) + (w - 1 - 0) + 1) + (((0 - (t - 1)) + (t - 1 - 0) + 1) + (((0 - (n - 1)) + (n - 1 - 0) + 1) + 0)) ≤ 2097152
    sizes w t n a b d = omega (arith, a, b, d)

-- lists that ascend, joined
ascends_join : {X : Type 0} (R : X → X → Type 0) (xs ys : List X) → Ascends R xs → Ascends R ys → AllByRecursion (λ x. AllByRecursion (R x) ys) xs → Ascends R (xs ++ ys)
ascends_join R [] ys h k between = k
ascends_join R (x ∷ xs) ys h k between = (all_join (R x) xs ys h.0 between.0, ascends_join R xs ys h.1 k between.1)

-- the bits of one variable, from left to right
bits_behind : (variable place from n : ℕ) → place < from → AllByRecursion (StandsBefore (bit_at variable place)) (map (bit_at variable) (range_with_len from n))
bits_behind variable place from zero less = tt
bits_behind variable place from (suc n) less = (inr (refl, less), bits_behind variable place (from + 1) n (omega (arith, less)))

bits_ascend : (variable from n : ℕ) → Ascends StandsBefore (map (bit_at variable) (range_with_len from n))
bits_ascend variable from zero = tt
bits_ascend variable from (suc n) = (bits_behind variable from (from + 1) n (omega arith), bits_ascend variable (from + 1) n)

-- those of an earlier variable stand before those of a later one
before_bits : (bit : BitName) (variable width : ℕ) → bit.variable < variable → AllByRecursion (StandsBefore bit) (bits_of variable width)
before_bits bit variable width less = all_given (StandsBefore bit) (bit_at variable) width (λ place within. inl less)

weaker : {X : Type 0} (P Q : X → Type 0) → ((x : X) → P x → Q x) → (xs : List X) → AllByRecursion P xs → AllByRecursion Q xs
weaker P Q f [] h = tt
weaker P Q f (x ∷ xs) h = (f x h.0, weaker P Q f xs h.1)

-- bits of variables below a number
abbrev AreBelow : ℕ → List BitName → Type 0
AreBelow variable bits = AllByRecursion (λ bit. bit.variable < variable) bits

below_more : (bits : List BitName) (variable next width : ℕ) → variable < next → AreBelow variable bits → AreBelow next (bits ++ bits_of variable width)
below_more bits variable next width less h =
    all_join (λ bit. bit.variable < next) bits (bits_of variable width) (weaker (λ bit. bit.variable < variable) (λ bit. bit.variable < next) (λ bit k. omega (arith, k, less)) bits h)
    (all_given (λ bit. bit.variable < next) (bit_at variable) width (λ place within. less))

ascend_more : (bits : List BitName) (variable width : ℕ) → AreBelow variable bits → Ascends StandsBefore bits → Ascends StandsBefore (bits ++ bits_of variable width)
ascend_more bits variable width below h =
    ascends_join StandsBefore bits (bits_of variable width) h (bits_ascend variable 0 width)
    (weaker (λ bit. bit.variable < variable) (λ bit. AllByRecursion (StandsBefore bit) (bits_of variable width)) (λ bit less. before_bits bit variable width less) bits below)

-- three vectors, from any variable on
three_below : (v w t n : ℕ) → AreBelow (v + 3) (bits_of v w ++ bits_of (v + 1) t ++ bits_of (v + 2) n)
three_below v w t n =
    below_more (bits_of v w ++ bits_of (v + 1) t) (v + 2) (v + 3) n (omega arith) (below_more (bits_of v w) (v + 1) (v + 2) t (omega arith) (all_given (λ bit. bit.variable < v + 1) (bit_at v) w (λ place within. omega arith)))

three_ascend : (v w t n : ℕ) → Ascends StandsBefore (bits_of v w ++ bits_of (v + 1) t ++ bits_of (v + 2) n)
three_ascend v w t n =
    ascend_more (bits_of v w ++ bits_of (v + 1) t) (v + 2) n (below_more (bits_of v w) (v + 1) (v + 2) t (omega arith) (all_given (λ bit. bit.variable < v + 1) (bit_at v) w (λ place within. omega arith)))
    (ascend_more (bits_of v w) (v + 1) t (all_given (λ bit. bit.variable < v + 1) (bit_at v) w (λ place within. omega arith)) (bits_ascend v 0 w))

names_ascend : (b : Bool) (number : ℕ) → Ascends StandsBefore (bits_of_vectors b number)
names_ascend true number =
    ascend_more (bits_of 1 input_count ++ bits_of 2 (output_count number) ++ bits_of 3 (flop_count number)) 4 number (three_below 1 input_count (output_count number) (flop_count number)) (three_ascend 1 input_count (output_count number) (flop_count number))
names_ascend false number = three_ascend 0 input_count (output_count number) number

pub by_bits : (number : ℕ) → IsByBits (sample_of number)
by_bits number = ascend_pairs StandsBefore (bits_of_vectors (is_clocked number) number) (names_ascend (is_clocked number) number)

-- so no two nets have one name
before_differs : (a b : BitName) → StandsBefore a b → a ≢ b
before_differs a b (inl less) same = omega (arith, less, ap (λ (k : BitName). k.variable) same)
before_differs a b (inr k) same = omega (arith, k.1, ap (λ (k : BitName). k.place) same)

pub names_apart : (number : ℕ) → AllPairs (λ a b. a ≢ b) (sample_of number).names
names_apart number i j d less within = before_differs _ _ (by_bits number i j d less within)
