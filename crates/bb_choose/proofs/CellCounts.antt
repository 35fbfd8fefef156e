-- How many cells of some kinds a draft has on one net.
use Rattle.std.proofs.Common.{arith, ◌≡◌, ℕ, zero, suc, ◌+◌, ◌<◌, ◌≤◌, ◌==◌, ◌&&◌, ◌||◌, not, nat_eq, Bool, true, false, List, [], ◌∷◌, ◌++◌, map, filter, refl, sym, ◌∙◌, ap, cond, Contains, count_by, slice_get, slice_index, Some, subst}
use Rattle.std.proofs.lemmas.Bool.Decides.{nat_tests}
use Rattle.std.proofs.lemmas.Cmp.{nat_eq_equiv}
use Rattle.std.proofs.lemmas.List.Sums.{sum_by-cons, sum_by-append}
use Rattle.std.proofs.lemmas.List.Kept.{AllPairs-from_increasing}
use Rattle.std.proofs.lemmas.Map.Views.{list_any-from_Contains}
use Rattle.std.specs.List.{list_any}
use Rattle.std.specs.List.Sorted.{IsStrictlyIncreasing}
use Rattle.bb_base.proofs.Contained.{to_all, place_of}
use Rattle.bb_base.proofs.Lists.{map_twice}
use Rattle.bb_base.specs.Net.{Gate, Flop, Netlist, times}
use Rattle.bb_base.proofs.TimesLemmas.{times_join, times_head, standing}
use Rattle.bb_base.proofs.GateLemmas.{stands_once, out_at, outs_times, at_most_one}
use Rattle.bb_terms.specs.Paths.{is_free}
use Rattle.bb_terms.specs.Cuts.{is_stop_with}
use Rattle.bb_terms.proofs.FunctionLemmas.{driver_of}
use Rattle.bb_terms.specs.declared.kind.Kind.{Kind}
use Rattle.bb_terms.specs.declared.kind.Kind.TheVariants.{Input, State, Split, Cut, Watch, Output}
use Rattle.bb_terms.specs.declared.plan.Cell.{Cell}
use Rattle.bb_terms.specs.Kinds.{is_source, takes_d, takes_net}
use Rattle.bb_reg.specs.Draft.{bare_cell, those, source_cells, observer_cells}
use Rattle.bb_reg.proofs.CellLemmas.{open_outputs}
use Rattle.bb_choose.specs.ChosenPlan.{AreCutsOf}
use Rattle.bb_choose.proofs.SameCells.{is_on}

-- what stands in a list is counted, and twice where it stands at two places
counted_once : {X : Type 0} (test : X → Bool) (xs : List X) (i : ℕ) (x : X) → slice_get xs i ≡ Some x → test x ≡ true → 1 ≤ count_by test xs
counted_once test [] i x at passes = absurd (cc at)
counted_once test (y ∷ xs) zero x at passes =
    let same : y ≡ x = cc at in
    let one : cond {A = ℕ} (test y) 1 0 ≡ 1 = ap (λ z. cond {A = ℕ} (test z) 1 0) same ∙ ap (λ b. cond {A = ℕ} b 1 0) passes in
    omega (arith, sum_by-cons (λ z. cond {A = ℕ} (test z) 1 0) y xs, one)
counted_once test (y ∷ xs) (suc i) x at passes = omega (arith, sum_by-cons (λ z. cond {A = ℕ} (test z) 1 0) y xs, counted_once test xs i x at passes)

pub counted_twice : {X : Type 0} (test : X → Bool) (xs : List X) (j i : ℕ) (y x : X) → j < i → slice_get xs j ≡ Some y → slice_get xs i ≡ Some x → test y ≡ true → test x ≡ true → 2 ≤ count_by test xs
counted_twice test [] j i y x less at there passes also = absurd (cc at)
counted_twice test (z ∷ xs) j zero y x less at there passes also = absurd (omega (arith, less))
counted_twice test (z ∷ xs) zero (suc i) y x less at there passes also =
    let same : z ≡ y = cc at in
    let one : cond {A = ℕ} (test z) 1 0 ≡ 1 = ap (λ w. cond {A = ℕ} (test w) 1 0) same ∙ ap (λ b. cond {A = ℕ} b 1 0) passes in
    omega (arith, sum_by-cons (λ w. cond {A = ℕ} (test w) 1 0) z xs, one, counted_once test xs i x there also)
counted_twice test (z ∷ xs) (suc j) (suc i) y x less at there passes also = omega (arith, sum_by-cons (λ w. cond {A = ℕ} (test w) 1 0) z xs, counted_twice test xs j i y x (omega (arith, less)) at there passes also)

rest_up : (x : ℕ) (xs : List ℕ) → IsStrictlyIncreasing (x ∷ xs) → IsStrictlyIncreasing xs
rest_up x xs up k less =
    let e : suc k + 1 ≡ suc (k + 1) = omega arith in
    subst (λ j. slice_index xs k < slice_index (x ∷ xs) j) e (up (suc k) (omega (arith, less)))

-- of ascending nets each stands once at most
up_none : (net x : ℕ) (xs : List ℕ) → net ≤ x → IsStrictlyIncreasing (x ∷ xs) → times net xs ≡ 0
up_none net x [] low up = refl
up_none net x (y ∷ xs) low up =
    let less = AllPairs-from_increasing (x ∷ y ∷ xs) up 0 1 0 (omega arith) (omega arith) in
    let rest = up_none net y xs (omega (arith, low, less)) (rest_up x (y ∷ xs) up) in
    let one = times_head net y xs in
    grind (arith, nat_tests, low, less, rest, one)

pub up_once : (net : ℕ) (xs : List ℕ) → IsStrictlyIncreasing xs → times net xs ≤ 1
up_once net [] up = let none : times net [] ≡ 0 = refl in omega (arith, none)
up_once net (x ∷ xs) up = by (x == net) refl (up_once net xs (rest_up x xs up))
  where
    by : (b : Bool) → (x == net) ≡ b → times net xs ≤ 1 → times net (x ∷ xs) ≤ 1
    by true same rest =
        let none = up_none net x xs (grind (arith, nat_tests, same)) up in
        let one = times_head net x xs in
        let front : cond {A = ℕ} (x == net) 1 0 ≡ 1 = ap (λ b. cond {A = ℕ} b 1 0) same in
        omega (arith, none, one, front)
    by false other rest =
        let one = times_head net x xs in
        let front : cond {A = ℕ} (x == net) 1 0 ≡ 0 = ap (λ b. cond {A = ℕ} b 1 0) other in
        omega (arith, rest, one, front)

-- a filter keeps no net oftener, and none that fails its test
kept_times : (test : ℕ → Bool) (net : ℕ) (xs : List ℕ) → times net (filter test xs) ≤ times net xs
kept_times test net [] = let none : times net [] ≡ 0 = refl in omega (arith, none)
kept_times test net (x ∷ xs) = by (test x) (kept_times test net xs)
  where
    by : (b : Bool) → times net (filter test xs) ≤ times net xs → times net (cond b (x ∷ filter test xs) (filter test xs)) ≤ times net (x ∷ xs)
    by true rest = omega (arith, times_head net x (filter test xs), times_head net x xs, rest)
    by false rest = omega (arith, times_head net x xs, rest)

kept_none : (test : ℕ → Bool) (net : ℕ) (xs : List ℕ) → test net ≡ false → times net (filter test xs) ≡ 0
kept_none test net [] fails = refl
kept_none test net (x ∷ xs) fails = by (test x) refl (x == net) refl (kept_none test net xs fails)
  where
    by : (b : Bool) → test x ≡ b → (d : Bool) → (x == net) ≡ d → times net (filter test xs) ≡ 0 → times net (cond b (x ∷ filter test xs) (filter test xs)) ≡ 0
    by true passes true same rest = let e : x ≡ net = grind (arith, nat_tests, same) in let both : true ≡ false = sym passes ∙ (ap test e ∙ fails) in absurd (cc both)
    by true passes false other rest =
        let front : cond {A = ℕ} (x == net) 1 0 ≡ 0 = ap (λ b. cond {A = ℕ} b 1 0) other in
        omega (arith, times_head net x (filter test xs), front, rest)
    by false skips d e rest = rest

-- cells of one kind on a net
of_kind : (test : Kind → Bool) (kind : Kind) (net : ℕ) (nets : List ℕ) → count_by (is_on test net) (map (bare_cell kind) nets) ≡ cond (test kind) (times net nets) 0
of_kind test kind net nets = by (test kind) refl
  where
    passes : test kind ≡ true → (nets : List ℕ) → count_by (is_on test net) (map (bare_cell kind) nets) ≡ times net nets
    passes e [] = refl
    passes e (m ∷ nets) =
        sum_by-cons (λ c. cond {A = ℕ} (is_on test net c) 1 0) (bare_cell kind m) (map (bare_cell kind) nets) ∙ (λ i. cond {A = ℕ} (e i && (m == net)) 1 0 + passes e nets i) ∙ sym (times_head net m nets)

    fails : test kind ≡ false → (nets : List ℕ) → count_by (is_on test net) (map (bare_cell kind) nets) ≡ 0
    fails e [] = refl
    fails e (m ∷ nets) = sum_by-cons (λ c. cond {A = ℕ} (is_on test net c) 1 0) (bare_cell kind m) (map (bare_cell kind) nets) ∙ (λ i. cond {A = ℕ} (e i && (m == net)) 1 0 + fails e nets i)

    by : (b : Bool) → test kind ≡ b → count_by (is_on test net) (map (bare_cell kind) nets) ≡ cond b (times net nets) 0
    by true e = passes e nets
    by false e = fails e nets

of_flops : (test : Kind → Bool) (kind : Kind) (net : ℕ) (flops : List (Flop ℕ)) → count_by (is_on test net) (map (λ f. bare_cell kind f.q) flops) ≡ cond (test kind) (times net (map (λ f. f.q) flops)) 0
of_flops test kind net flops = ap (count_by (is_on test net)) (sym (map_twice (bare_cell kind) (λ (f : Flop ℕ). f.q) flops)) ∙ of_kind test kind net (map (λ f. f.q) flops)

-- the q's of some flip-flops
abbrev pub qs_of : List Bool → List (Flop ℕ) → List ℕ
qs_of bits flops = map (λ f. f.q) (those bits flops)

-- all cells on a net
count_all : (test : Kind → Bool) (net : ℕ) (a : Netlist ℕ) (cuts : List ℕ) (reading : List Bool)
    → count_by (is_on test net) (source_cells a reading ++ observer_cells a cuts reading)
    ≡ (cond (test Input) (times net a.inputs) 0 + cond (test Split) (times net (qs_of reading a.flops)) 0)
    + (cond (test State) (times net (qs_of (map not reading) a.flops)) 0 + (cond (test Watch) (times net (qs_of reading a.flops)) 0 + (cond (test Cut) (times net cuts) 0 + cond (test Output) (times net (open_outputs a cuts)) 0)))
count_all test net a cuts reading =
    let one : Cell → ℕ = λ c. cond {A = ℕ} (is_on test net c) 1 0 in
    let states = map (λ (f : Flop ℕ). bare_cell State f.q) (those (map not reading) a.flops) in
    let watches = map (λ (f : Flop ℕ). bare_cell Watch f.q) (those reading a.flops) in
    sum_by-append one (source_cells a reading) (observer_cells a cuts reading)
    ∙ (λ i. (sum_by-append one (map (bare_cell Input) a.inputs) (map (λ (f : Flop ℕ). bare_cell Split f.q) (those reading a.flops)) ∙ (λ j. of_kind test Input net a.inputs j + of_flops test Split net (those reading a.flops) j)) i
    + (sum_by-append one states (watches ++ (map (bare_cell Cut) cuts ++ map (bare_cell Output) (open_outputs a cuts)))
    ∙ (λ j. of_flops test State net (those (map not reading) a.flops) j + (sum_by-append one watches (map (bare_cell Cut) cuts ++ map (bare_cell Output) (open_outputs a cuts))
    ∙ (λ k. of_flops test Watch net (those reading a.flops) k + (sum_by-append one (map (bare_cell Cut) cuts) (map (bare_cell Output) (open_outputs a cuts))
    ∙ (λ l. of_kind test Cut net cuts l + of_kind test Output net (open_outputs a cuts) l)) k)) j)) i)

-- flip-flops are self-reading or not
split_flops : (net : ℕ) (bits : List Bool) (flops : List (Flop ℕ)) → times net (qs_of bits flops) + times net (qs_of (map not bits) flops) ≤ times net (map (λ f. f.q) flops)
split_flops net [] flops = let none : times net [] ≡ 0 = refl in omega (arith, none)
split_flops net (b ∷ bits) [] = let none : times net [] ≡ 0 = refl in omega (arith, none)
split_flops net (true ∷ bits) (f ∷ flops) = omega (arith, times_head net f.q (qs_of bits flops), times_head net f.q (map (λ (f : Flop ℕ). f.q) flops), split_flops net bits flops)
split_flops net (false ∷ bits) (f ∷ flops) = omega (arith, times_head net f.q (qs_of (map not bits) flops), times_head net f.q (map (λ (f : Flop ℕ). f.q) flops), split_flops net bits flops)

-- a gate drives each cut
cuts_driven : (a : Netlist ℕ) (cuts : List ℕ) (net : ℕ) → AreCutsOf a cuts → times net cuts ≤ times net (map (λ g. g.out) a.gates)
cuts_driven a cuts net are = by (times net cuts) refl
  where
    by : (k : ℕ) → times net cuts ≡ k → times net cuts ≤ times net (map (λ g. g.out) a.gates)
    by zero e = omega (arith, e)
    by (suc k) e =
        let driver = driver_of net a.gates (standing (λ m. is_free a.gates m ≡ false) net cuts (omega (arith, e)) (to_all (λ m. is_free a.gates m ≡ false) cuts are.driven)) in
        let place = place_of a.gates driver.0 driver.1 in
        let low = stands_once (map (λ (g : Gate ℕ). g.out) a.gates) place.0 net (out_at a.gates place.0 driver.0 place.1 ∙ ap Some driver.2) in
        omega (arith, low, up_once net cuts are.ascending)

-- and no cut is an open output
cut_outputs : (a : Netlist ℕ) (cuts : List ℕ) (net : ℕ) → AreCutsOf a cuts → times net cuts + times net (open_outputs a cuts) ≤ 1
cut_outputs a cuts net are = by (times net cuts) refl
  where
    off : (x y : Bool) → y ≡ true → not (x || y) ≡ false
    off true y e = refl
    off false true e = refl
    off false false e = absurd (cc e)

    by : (k : ℕ) → times net cuts ≡ k → times net cuts + times net (open_outputs a cuts) ≤ 1
    by zero e = omega (arith, e, kept_times (λ net. not (is_stop_with a.gates cuts net)) net a.outputs, times_join net a.inputs a.outputs, are.ports net)
    by (suc k) e =
        let stands : Contains cuts net = standing (Contains cuts) net cuts (omega (arith, e)) (to_all (Contains cuts) cuts (λ m c. c)) in
        let none = kept_none (λ net. not (is_stop_with a.gates cuts net)) net a.outputs (off (is_free a.gates net) (list_any (nat_eq net) cuts) (list_any-from_Contains nat_eq_equiv net cuts stands)) in
        omega (arith, none, up_once net cuts are.ascending)

-- on a net there is one source at most, one observer of a d, and one of the net itself
pub one_source : (a : Netlist ℕ) (cuts : List ℕ) (reading : List Bool) (net : ℕ) → AreCutsOf a cuts → count_by (is_on is_source net) (source_cells a reading ++ observer_cells a cuts reading) ≤ 1
one_source a cuts reading net are =
    omega (arith, count_all is_source net a cuts reading, split_flops net reading a.flops, cuts_driven a cuts net are, outs_times a net, at_most_one a net are.netlist)

pub one_of_d : (a : Netlist ℕ) (cuts : List ℕ) (reading : List Bool) (net : ℕ) → AreCutsOf a cuts → count_by (is_on takes_d net) (source_cells a reading ++ observer_cells a cuts reading) ≤ 1
one_of_d a cuts reading net are = omega (arith, count_all takes_d net a cuts reading, split_flops net reading a.flops, outs_times a net, at_most_one a net are.netlist)

pub one_of_net : (a : Netlist ℕ) (cuts : List ℕ) (reading : List Bool) (net : ℕ) → AreCutsOf a cuts → count_by (is_on takes_net net) (source_cells a reading ++ observer_cells a cuts reading) ≤ 1
one_of_net a cuts reading net are = omega (arith, count_all takes_net net a cuts reading, cut_outputs a cuts net are)
