-- Gates of a netlist, and what drives its nets.
use Rattle.std.proofs.Common.{arith, ◌≡◌, ℕ, suc, zero, ◌+◌, ◌<◌, ◌≤◌, ◌^◌, ◌==◌, Bool, true, false, List, [], ◌∷◌, ◌++◌, length, map, refl, sym, ap, ◌∙◌, cond, subst, All, slice_get, nat_lt, Some, length-append}
use Rattle.std.proofs.lemmas.Bool.Decides.{nat_tests}
use Rattle.std.proofs.lemmas.List.Elements.{recursion_from_All, All-from_recursion}
use Rattle.std.proofs.lemmas.Option.{slice_get_within, get_or_from_slice_get, slice_get-map}
use Rattle.std.specs.Option.{option_map}
use Rattle.std.specs.List.{AllByRecursion, flat_map}
use Rattle.bb_base.specs.Net.{Gate, Flop, Netlist, driven, reads, times, IsNetlist}
use Rattle.bb_base.specs.Order.{drivers}
use Rattle.bb_base.specs.Levels.{AreGates}
use Rattle.bb_base.proofs.Lists.{all_map, all_front, all_back, length_map}
use Rattle.bb_base.proofs.TimesLemmas.{times_join, times_head, times_past, once_distinct}
use Rattle.bb_base.proofs.Distinct.{Distinct}

-- what stands in a list stands there once at least
pub stands_once : (xs : List ℕ) (i n : ℕ) → slice_get xs i ≡ Some n → 1 ≤ times n xs
stands_once [] i n at = absurd (cc at)
stands_once (x ∷ xs) zero n at =
    let same : x ≡ n = cc at in
    let one = times_head n x xs in
    grind (arith, nat_tests, one, same)
stands_once (x ∷ xs) (suc i) n at =
    let rest = stands_once xs i n at in
    let one = times_head n x xs in
    grind (arith, nat_tests, one, rest)

-- and twice where it stands at two places
stands_twice : (xs : List ℕ) (i j n : ℕ) → i < j → slice_get xs i ≡ Some n → slice_get xs j ≡ Some n → 2 ≤ times n xs
stands_twice [] i j n less at there = absurd (cc at)
stands_twice (x ∷ xs) i zero n less at there = absurd (omega (arith, less))
stands_twice (x ∷ xs) zero (suc j) n less at there =
    let same : x ≡ n = cc at in
    let rest = stands_once xs j n there in
    let one = times_head n x xs in
    grind (arith, nat_tests, one, same, rest)
stands_twice (x ∷ xs) (suc i) (suc j) n less at there =
    let rest = stands_twice xs i j n (omega (arith, less)) at there in
    let one = times_head n x xs in
    grind (arith, nat_tests, one, rest)

pub out_at : (gates : List (Gate ℕ)) (h : ℕ) (g : Gate ℕ) → slice_get gates h ≡ Some g → slice_get (map (λ x. x.out) gates) h ≡ Some g.out
out_at [] h g at = absurd (cc at)
out_at (f ∷ gates) zero g at = let same : f ≡ g = cc at in ap (λ (x : Gate ℕ). Some x.out) same
out_at (f ∷ gates) (suc h) g at = out_at gates h g at

-- how often gates drive a net
pub outs_times : (n : Netlist ℕ) (net : ℕ) → times net (driven n) ≡ times net n.inputs + (times net (map (λ g. g.out) n.gates) + times net (map (λ f. f.q) n.flops))
outs_times n net =
    let a = times_join net n.inputs (map (λ g. g.out) n.gates ++ map (λ f. f.q) n.flops) in
    let b = times_join net (map (λ g. g.out) n.gates) (map (λ f. f.q) n.flops) in
    omega (arith, a, b)

reads_all : (nets : ℕ) (gates : List (Gate ℕ)) → AllByRecursion (λ n. n < nets) (flat_map (λ g. g.ins) gates) → AllByRecursion (λ g. All (λ n. n < nets) g.ins) gates
reads_all nets [] h = tt
reads_all nets (g ∷ gates) h = (
  All-from_recursion (λ n. n < nets) g.ins (all_front (λ n. n < nets) g.ins (flat_map (λ x. x.ins) gates) h),
  reads_all nets gates (all_back (λ n. n < nets) g.ins (flat_map (λ x. x.ins) gates) h),
)

-- the gates of a netlist
pub gates_fit : (n : Netlist ℕ) → IsNetlist n → length (driven n) < 2 ^ 32 → AreGates (length (driven n)) n.gates
gates_fit n is small = record {
  few = few;
  drives = All-from_recursion (λ g. g.out < length (driven n)) n.gates outs;
  reads = All-from_recursion (λ g. All (λ m. m < length (driven n)) g.ins) n.gates (reads_all (length (driven n)) n.gates ins);
  apart = λ h j f g at there same. by h j f g at there same (nat_lt h j) refl (nat_lt j h) refl;
}
  where
    below : AllByRecursion (λ m. m < length (driven n)) (driven n)
    below = recursion_from_All (λ m. m < length (driven n)) (driven n) is.drives_nets

    outs : AllByRecursion (λ g. g.out < length (driven n)) n.gates
    outs = all_map (λ m. m < length (driven n)) (λ (g : Gate ℕ). g.out < length (driven n)) (λ (g : Gate ℕ). g.out) (λ g h. h) n.gates
        (all_front (λ m. m < length (driven n)) (map (λ g. g.out) n.gates) (map (λ f. f.q) n.flops) (all_back (λ m. m < length (driven n)) n.inputs (map (λ g. g.out) n.gates ++ map (λ f. f.q) n.flops) below))

    ins : AllByRecursion (λ m. m < length (driven n)) (flat_map (λ g. g.ins) n.gates)
    ins = all_front (λ m. m < length (driven n)) (flat_map (λ g. g.ins) n.gates) (map (λ f. f.d) n.flops)
        (all_back (λ m. m < length (driven n)) n.outputs (flat_map (λ g. g.ins) n.gates ++ map (λ f. f.d) n.flops) (recursion_from_All (λ m. m < length (driven n)) (reads n) is.reads_nets))

    few : length n.gates < 2 ^ 32
    few = omega (arith, small, length-append n.inputs (map (λ g. g.out) n.gates ++ map (λ f. f.q) n.flops), length-append (map (λ (g : Gate ℕ). g.out) n.gates) (map (λ f. f.q) n.flops), length_map (λ (g : Gate ℕ). g.out) n.gates)

    twice : (h j : ℕ) (f g : Gate ℕ) → h < j → slice_get n.gates h ≡ Some f → slice_get n.gates j ≡ Some g → f.out ≡ g.out → ⊥
    twice h j f g less at there same =
        let two = stands_twice (map (λ x. x.out) n.gates) h j f.out less (out_at n.gates h f at) (out_at n.gates j g there ∙ ap Some (sym same)) in
        let small_h : h < length n.gates = slice_get_within n.gates h f at in
        let inside : f.out < length (driven n) =
        subst (λ (x : Gate ℕ). x.out < length (driven n)) (get_or_from_slice_get n.gates h f f at) (All-from_recursion (λ (x : Gate ℕ). x.out < length (driven n)) n.gates outs h f small_h) in
        let one = is.one_driver f.out inside in
        omega (arith, two, one, outs_times n f.out)

    by : (h j : ℕ) (f g : Gate ℕ) → slice_get n.gates h ≡ Some f → slice_get n.gates j ≡ Some g → f.out ≡ g.out → (b : Bool) → nat_lt h j ≡ b → (d : Bool) → nat_lt j h ≡ d → h ≡ j
    by h j f g at there same true e d s = absurd (twice h j f g (grind (arith, nat_tests, e)) at there same)
    by h j f g at there same false e true s = absurd (twice j h g f (grind (arith, nat_tests, s)) there at (sym same))
    by h j f g at there same false e false s = grind (arith, nat_tests, e, s)

pub undriven : (gates : List (Gate ℕ)) (net : ℕ) → times net (map (λ g. g.out) gates) ≡ 0 → drivers gates net ≡ []
undriven [] net none = refl
undriven (g ∷ gates) net none = go (g.out == net) refl (times_head net g.out (map (λ x. x.out) gates)) (undriven gates net)
  where
    go : (b : Bool) → (g.out == net) ≡ b → times net (map (λ x. x.out) (g ∷ gates)) ≡ cond (g.out == net) 1 0 + times net (map (λ x. x.out) gates)
        → (times net (map (λ x. x.out) gates) ≡ 0 → drivers gates net ≡ []) → cond b (g ∷ drivers gates net) (drivers gates net) ≡ []
    go true e one rest = absurd (grind (arith, nat_tests, none, one, e))
    go false e one rest = rest (omega (arith, none, one))

-- a net that an input or a flip-flop drives is driven by no gate
pub input_undriven : (n : Netlist ℕ) (i net : ℕ) → IsNetlist n → net < length (driven n) → slice_get n.inputs i ≡ Some net → drivers n.gates net ≡ []
input_undriven n i net is within at = undriven n.gates net (omega (arith, is.one_driver net within, outs_times n net, stands_once n.inputs i net at))

pub flop_undriven : (n : Netlist ℕ) (i net : ℕ) (f : Flop ℕ) → IsNetlist n → net < length (driven n) → slice_get n.flops i ≡ Some f → f.q ≡ net → drivers n.gates net ≡ []
flop_undriven n i net f is within at same =
    let there : slice_get (map (λ (x : Flop ℕ). x.q) n.flops) i ≡ Some net = slice_get-map (λ (x : Flop ℕ). x.q) n.flops i ∙ (ap (option_map (λ (x : Flop ℕ). x.q)) at ∙ ap Some same) in
    undriven n.gates net (omega (arith, is.one_driver net within, outs_times n net, stands_once (map (λ (x : Flop ℕ). x.q) n.flops) i net there))

-- a net has at most one driver
pub at_most_one : (n : Netlist ℕ) (net : ℕ) → IsNetlist n → times net (driven n) ≤ 1
at_most_one n net is = go (nat_lt net (length (driven n))) refl
  where
    go : (t : Bool) → nat_lt net (length (driven n)) ≡ t → times net (driven n) ≤ 1
    go true e = let one = is.one_driver net (grind (arith, nat_tests, e)) in omega (arith, one)
    go false e = let none = times_past net (driven n) (length (driven n)) (grind (arith, nat_tests, e)) is.drives_nets in omega (arith, none)

pub driven_distinct : (n : Netlist ℕ) → IsNetlist n → Distinct (driven n)
driven_distinct n is = once_distinct (driven n) (λ net. at_most_one n net is)
