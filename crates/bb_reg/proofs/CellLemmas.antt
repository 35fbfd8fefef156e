-- A draft has an entry of leaves for each observer, no more observers than the netlist has nets, and at most two cells for each net.
use Rattle.std.proofs.Common.{arith, ◌≡◌, ◌≢◌, ℕ, suc, ◌+◌, ◌*◌, ◌<◌, ◌≤◌, ◌||◌, nat_eq, not, Bool, true, false, List, [], ◌∷◌, ◌++◌, length, map, refl, sym, ap, subst, length-append, Contains}
use Rattle.std.specs.Prelude.{AllPairs, filter}
use Rattle.std.specs.List.{AllByRecursion, list_any}
use Rattle.std.specs.List.Sorted.{IsStrictlyIncreasing}
use Rattle.std.proofs.lemmas.List.Elements.{All-from_recursion, recursion_from_All}
use Rattle.std.proofs.lemmas.List.Kept.{AllPairs-cons, AllPairs-filter}
use Rattle.bb_base.proofs.Contained.{here, there, of_all, to_all}
use Rattle.bb_base.proofs.Distinct.{Distinct, few_distinct}
use Rattle.bb_base.proofs.Lists.{all_join, all_map_back, length_map}
use Rattle.bb_base.specs.Net.{Gate, Flop, Netlist, driven, IsNetlist}
use Rattle.bb_base.proofs.GateLemmas.{at_most_one, outs_times}
use Rattle.bb_base.proofs.TimesLemmas.{times_join, once_distinct}
use Rattle.bb_terms.specs.Paths.{is_free}
use Rattle.bb_terms.specs.Cuts.{is_stop_with}
use Rattle.bb_segment.proofs.SetLemmas.{up_apart, true_member, of_filter}
use Rattle.bb_terms.specs.declared.kind.Kind.TheVariants.{Input, State, Split, Cut, Watch, Output}
use Rattle.bb_terms.proofs.NetLemmas.{q_within, free_q, q_net}
use Rattle.bb_reg.specs.Draft.{DraftValue, AreCells, HasLeavesWith, bare_cell, those}
use Rattle.bb_reg.proofs.NarrowLemmas.{driven_within}
use Rattle.bb_reg.proofs.LineLemmas.{zip_long}

-- the outputs that are no stops
abbrev pub open_outputs : Netlist ℕ → List ℕ → List ℕ
open_outputs a cuts = filter (λ net. not (is_stop_with a.gates cuts net)) a.outputs

apart_distinct : (xs : List ℕ) → AllPairs (λ x y. x ≢ y) xs → Distinct xs
apart_distinct [] h = tt
apart_distinct (x ∷ xs) h =
    (recursion_from_All (λ y. y ≢ x) xs (λ k d low e. h 0 (suc k) d (omega arith) (omega (arith, low)) (sym e)), apart_distinct xs (λ i j d less low. h (suc i) (suc j) d (omega (arith, less)) (omega (arith, low))))

distinct_apart : (xs : List ℕ) → Distinct xs → AllPairs (λ x y. x ≢ y) xs
distinct_apart [] h = λ i j d less low. absurd (omega (arith, low))
distinct_apart (x ∷ xs) h = AllPairs-cons (λ x y. x ≢ y) x xs (All-from_recursion (λ y. x ≢ y) xs (flipped xs h.0)) (distinct_apart xs h.1)
  where
    flipped : (ys : List ℕ) → AllByRecursion (λ y. y ≢ x) ys → AllByRecursion (λ y. x ≢ y) ys
    flipped [] h = tt
    flipped (y ∷ ys) h = ((λ e. h.0 (sym e)), flipped ys h.1)

distinct_join : (xs ys : List ℕ) → Distinct xs → Distinct ys → ((x y : ℕ) → Contains xs x → Contains ys y → y ≢ x) → Distinct (xs ++ ys)
distinct_join [] ys h k apart = k
distinct_join (x ∷ xs) ys h k apart =
    (all_join (λ y. y ≢ x) xs ys h.0 (to_all (λ y. y ≢ x) ys (λ y c. apart x y (here x xs) c)), distinct_join xs ys h.1 k (λ z y c d. apart z y (there x xs z c) d))

-- items by a bit and the others are no more than all
those_both : {X : Type 0} (bits : List Bool) (xs : List X) → length (those (map not bits) xs) + length (those bits xs) ≤ length xs
those_both [] xs = omega arith
those_both (b ∷ bits) [] = omega arith
those_both (true ∷ bits) (x ∷ xs) = let rest = those_both bits xs in omega (arith, rest)
those_both (false ∷ bits) (x ∷ xs) = let rest = those_both bits xs in omega (arith, rest)

free_of : (a b : Bool) → (a || b) ≡ false → a ≡ false
free_of true b e = e
free_of false b e = refl

listed_of : (a b : Bool) → (a || b) ≡ false → b ≡ false
listed_of true b e = absurd (cc e)
listed_of false b e = e

off : (b : Bool) → not b ≡ true → b ≡ false
off true e = sym e
off false e = refl

open_output : (a : Netlist ℕ) (cuts : List ℕ) (net : ℕ) → Contains (open_outputs a cuts) net → is_stop_with a.gates cuts net ≡ false
open_output a cuts net c = off (is_stop_with a.gates cuts net) (of_filter (λ m. not (is_stop_with a.gates cuts m)) a.outputs net c).1

outputs_distinct : (a : Netlist ℕ) (cuts : List ℕ) → IsNetlist a → Distinct (open_outputs a cuts)
outputs_distinct a cuts fits =
    apart_distinct (open_outputs a cuts) (AllPairs-filter (λ x y. x ≢ y) (λ net. not (is_stop_with a.gates cuts net)) a.outputs
    (distinct_apart a.outputs (once_distinct a.outputs (λ net. let both = times_join net a.inputs a.outputs in let most = fits.ports net in omega (arith, both, most)))))

qs_distinct : (a : Netlist ℕ) → IsNetlist a → Distinct (map (λ (f : Flop ℕ). f.q) a.flops)
qs_distinct a fits = once_distinct (map (λ f. f.q) a.flops) (λ net. let all = outs_times a net in let most = at_most_one a net fits in omega (arith, all, most))

-- the nets of observers, each flip-flop's once
abbrev observed_nets : Netlist ℕ → List ℕ → List ℕ
observed_nets a cuts = map (λ (f : Flop ℕ). f.q) a.flops ++ (cuts ++ open_outputs a cuts)

driven_behind : (a : Netlist ℕ) (cuts : List ℕ) → AllByRecursion (λ net. is_free a.gates net ≡ false) cuts → AllByRecursion (λ net. is_free a.gates net ≡ false) (cuts ++ open_outputs a cuts)
driven_behind a cuts driven_all =
    all_join (λ net. is_free a.gates net ≡ false) cuts (open_outputs a cuts) driven_all
    (to_all (λ net. is_free a.gates net ≡ false) (open_outputs a cuts) (λ net c. free_of (is_free a.gates net) (list_any (nat_eq net) cuts) (open_output a cuts net c)))

qs_free : (a : Netlist ℕ) → IsNetlist a → AllByRecursion (λ net. is_free a.gates net ≡ true) (map (λ (f : Flop ℕ). f.q) a.flops)
qs_free a fits = all_map_back (λ net. is_free a.gates net ≡ true) (λ (f : Flop ℕ). is_free a.gates f.q ≡ true) (λ f. f.q) (λ f e. e) a.flops (to_all (λ (f : Flop ℕ). is_free a.gates f.q ≡ true) a.flops (λ f c. free_q a f.q fits (q_net a f c)))

observed_distinct : (a : Netlist ℕ) (cuts : List ℕ) → IsNetlist a → IsStrictlyIncreasing cuts → AllByRecursion (λ net. is_free a.gates net ≡ false) cuts → Distinct (observed_nets a cuts)
observed_distinct a cuts fits up cut_driven =
    distinct_join (map (λ (f : Flop ℕ). f.q) a.flops) (cuts ++ open_outputs a cuts) (qs_distinct a fits)
    (distinct_join cuts (open_outputs a cuts) (apart_distinct cuts (up_apart cuts up)) (outputs_distinct a cuts fits)
    (λ x y c d same.
    let listed : list_any (nat_eq y) cuts ≡ true = true_member cuts y (subst (Contains cuts) (sym same) c) in
    let other : list_any (nat_eq y) cuts ≡ false = listed_of (is_free a.gates y) (list_any (nat_eq y) cuts) (open_output a cuts y d) in
    cc (listed, other)))
    (λ x y c d same.
    let free : is_free a.gates x ≡ true = of_all (λ net. is_free a.gates net ≡ true) (map (λ (f : Flop ℕ). f.q) a.flops) x (qs_free a fits) c in
    let not_free : is_free a.gates x ≡ false = subst (λ n. is_free a.gates n ≡ false) same (of_all (λ net. is_free a.gates net ≡ false) (cuts ++ open_outputs a cuts) y (driven_behind a cuts cut_driven) d) in
    cc (free, not_free))

observed_within : (a : Netlist ℕ) (cuts : List ℕ) → IsNetlist a → AllByRecursion (λ net. is_free a.gates net ≡ false) cuts → AllByRecursion (λ net. net < length (driven a)) (observed_nets a cuts)
observed_within a cuts fits cut_driven =
    all_join (λ net. net < length (driven a)) (map (λ (f : Flop ℕ). f.q) a.flops) (cuts ++ open_outputs a cuts)
    (all_map_back (λ net. net < length (driven a)) (λ (f : Flop ℕ). f.q < length (driven a)) (λ f. f.q) (λ f e. e) a.flops (to_all (λ (f : Flop ℕ). f.q < length (driven a)) a.flops (λ f c. q_within a f fits c)))
    (to_all (λ net. net < length (driven a)) (cuts ++ open_outputs a cuts) (λ net c. driven_within a net fits (of_all (λ net. is_free a.gates net ≡ false) (cuts ++ open_outputs a cuts) net (driven_behind a cuts cut_driven) c)))

pub few_observers : (a : Netlist ℕ) (cuts : List ℕ) (draft : DraftValue) → IsNetlist a → IsStrictlyIncreasing cuts → AllByRecursion (λ net. is_free a.gates net ≡ false) cuts → AreCells a cuts draft → length draft.observers ≤ length (driven a)
few_observers a cuts draft fits up cut_driven are =
    let state = map (λ (f : Flop ℕ). bare_cell State f.q) (those (map not are.reading) a.flops) in
    let watch = map (λ (f : Flop ℕ). bare_cell Watch f.q) (those are.reading a.flops) in
    let cut = map (bare_cell Cut) cuts in
    let output = map (bare_cell Output) (open_outputs a cuts) in
    let all : length draft.observers ≡ length (state ++ (watch ++ (cut ++ output))) = ap length are.observers_are in
    let most = few_distinct (observed_nets a cuts) (length (driven a)) (distinct_apart (observed_nets a cuts) (observed_distinct a cuts fits up cut_driven)) (observed_within a cuts fits cut_driven) in
    let qs = map (λ (f : Flop ℕ). f.q) a.flops in
    let nets = length-append qs (cuts ++ open_outputs a cuts) in
    let gates = length-append cuts (open_outputs a cuts) in
    let flops = length_map (λ (f : Flop ℕ). f.q) a.flops in
    let one = length-append state (watch ++ (cut ++ output)) in
    let two = length-append watch (cut ++ output) in
    let three = length-append cut output in
    let states = length_map (λ (f : Flop ℕ). bare_cell State f.q) (those (map not are.reading) a.flops) in
    let watches = length_map (λ (f : Flop ℕ). bare_cell Watch f.q) (those are.reading a.flops) in
    let cut_cells = length_map (bare_cell Cut) cuts in
    let output_cells = length_map (bare_cell Output) (open_outputs a cuts) in
    let both = those_both are.reading a.flops in
    omega (arith, all, most, nets, gates, flops, one, two, three, states, watches, cut_cells, output_cells, both)

-- inputs and flip-flops are nets, no two the same
few_free : (a : Netlist ℕ) → length a.inputs + length a.flops ≤ length (driven a)
few_free a =
    let outs = map (λ (g : Gate ℕ). g.out) a.gates in
    let qs = map (λ (f : Flop ℕ). f.q) a.flops in
    omega (arith, length-append a.inputs (outs ++ qs), length-append outs qs, length_map (λ (f : Flop ℕ). f.q) a.flops)

pub few_cells : (a : Netlist ℕ) (cuts : List ℕ) (draft : DraftValue) → IsNetlist a → IsStrictlyIncreasing cuts → AllByRecursion (λ net. is_free a.gates net ≡ false) cuts → AreCells a cuts draft → length draft.sources + length draft.observers ≤ 2 * length (driven a)
few_cells a cuts draft fits up cut_driven are =
    let splits = those are.reading a.flops in
    let all : length draft.sources ≡ length (map (bare_cell Input) a.inputs ++ map (λ (f : Flop ℕ). bare_cell Split f.q) splits) = ap length are.sources_are in
    omega (
      arith,
      all,
      length-append (map (bare_cell Input) a.inputs) (map (λ (f : Flop ℕ). bare_cell Split f.q) splits),
      length_map (bare_cell Input) a.inputs,
      length_map (λ (f : Flop ℕ). bare_cell Split f.q) splits,
      those_both are.reading a.flops,
      few_free a,
      few_observers a cuts draft fits up cut_driven are,
    )

pub leaves_long : (a : Netlist ℕ) (cuts : List ℕ) (draft : DraftValue) → AreCells a cuts draft → length draft.leaves ≡ length draft.observers
leaves_long a cuts draft are = zip_long (HasLeavesWith a cuts) draft.observers draft.leaves are.leaves_are
