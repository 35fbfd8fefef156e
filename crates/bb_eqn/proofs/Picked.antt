-- Gates picked by their numbers: in an order each comes after those that drive its inputs.
use Rattle.std.proofs.Common.{arith, ◌≡◌, ◌≢◌, ℕ, zero, suc, ◌+◌, ◌<◌, ◌≤◌, List, [], ◌∷◌, length, map, refl, sym, ap, ◌∙◌, subst, slice_get, Some, None, get_or, set, drop}
use Rattle.std.proofs.lemmas.List.{drop_all, drop_more}
use Rattle.std.proofs.lemmas.Option.{slice_get-get_or}
use Rattle.std.specs.Prelude.{Bool, Option, Contains}
use Rattle.std.specs.List.{AllByRecursion}
use Rattle.bb_base.proofs.Contained.{at_place, to_all}
use Rattle.bb_base.proofs.Distinct.{Distinct}
use Rattle.bb_base.specs.Net.{Gate}
use Rattle.bb_base.specs.Order.{drivers, ReadsGate}
use Rattle.bb_base.proofs.CycleLemmas.{driver_there}
use Rattle.bb_eqn.specs.Sequence.{WriteFirst}
use Rattle.bb_eqn.proofs.Evaluated.{given, evaluated, none_before}

-- a gate, where there is one, in front of others
abbrev pub before : Option (Gate ℕ) → List (Gate ℕ) → List (Gate ℕ)
before None gates = gates
before (Some g) gates = g ∷ gates

abbrev pub picked : List (Gate ℕ) → List ℕ → List (Gate ℕ)
picked gates [] = []
picked gates (h ∷ hs) = before (slice_get gates h) (picked gates hs)

abbrev pub After : List (Gate ℕ) → List ℕ → Type 0
After gates order = (i j reader driver : ℕ) → slice_get order i ≡ Some reader → slice_get order j ≡ Some driver → ReadsGate gates reader driver → j < i

abbrev pub Once : List ℕ → Type 0
Once order = (i j h : ℕ) → slice_get order i ≡ Some h → slice_get order j ≡ Some h → i ≡ j

abbrev pub Apart : List (Gate ℕ) → Type 0
Apart gates = (h j : ℕ) (f g : Gate ℕ) → slice_get gates h ≡ Some f → slice_get gates j ≡ Some g → f.out ≡ g.out → h ≡ j

-- a net that none of the numbered gates drives
pub none_picked : (gates : List (Gate ℕ)) (net : ℕ) (hs : List ℕ) → ((k j : ℕ) (d : Gate ℕ) → slice_get hs k ≡ Some j → slice_get gates j ≡ Some d → d.out ≢ net) → drivers (picked gates hs) net ≡ []
none_picked gates net [] differs = refl
none_picked gates net (h ∷ hs) differs = by (slice_get gates h) refl (none_picked gates net hs (λ k j d. differs (suc k) j d))
  where
    by : (o : Option (Gate ℕ)) → slice_get gates h ≡ o → drivers (picked gates hs) net ≡ [] → drivers (before o (picked gates hs)) net ≡ []
    by None e rest = rest
    by (Some g) e rest = none_before g (picked gates hs) net (differs zero h g refl e) rest

pub none_still : (gates : List (Gate ℕ)) (net : ℕ) (hs : List ℕ) → drivers gates net ≡ [] → drivers (picked gates hs) net ≡ []
none_still gates net hs none = none_picked gates net hs (λ k j d at there same. let found = driver_there gates net j d there same in not_there (drivers gates net) found.0 d none found.1)
  where
    not_there : (ds : List (Gate ℕ)) (k : ℕ) (d : Gate ℕ) → ds ≡ [] → slice_get ds k ≡ Some d → ⊥
    not_there [] k d e at = cc at
    not_there (x ∷ ds) k d e at = cc e

pub write_first : (gates : List (Gate ℕ)) (hs : List ℕ) → Apart gates → After gates hs → Once hs → WriteFirst (picked gates hs)
write_first gates [] apart after once = tt
write_first gates (h ∷ hs) apart after once = by (slice_get gates h) refl (write_first gates hs apart (λ i j r d at there reads. omega (arith, after (suc i) (suc j) r d at there reads)) (λ i j x at there. omega (arith, once (suc i) (suc j) x at there)))
  where
    by : (o : Option (Gate ℕ)) → slice_get gates h ≡ o → WriteFirst (picked gates hs) → WriteFirst (before o (picked gates hs))
    by None e rest = rest
    by (Some g) e rest = (to_all (λ net. drivers (g ∷ picked gates hs) net ≡ []) g.ins unread, written_once, rest)
      where
        reads : (net j : ℕ) (d : Gate ℕ) → Contains g.ins net → slice_get gates j ≡ Some d → d.out ≡ net → ReadsGate gates h j
        reads net j d there at same = record { gate = g; stands = e; source = d; source_stands = at; reads = subst (Contains g.ins) (sym same) there }

        unread : (net : ℕ) → Contains g.ins net → drivers (g ∷ picked gates hs) net ≡ []
        unread net there =
            none_before g (picked gates hs) net (λ same. let less = after zero zero h h refl refl (reads net h g there e same) in omega (arith, less))
            (none_picked gates net hs (λ k j d at stands same. let less = after zero (suc k) h j refl at (reads net j d there stands same) in omega (arith, less)))

        written_once : drivers (picked gates hs) g.out ≡ []
        written_once = none_picked gates g.out hs (λ k j d at stands same.
            let number = apart j h d g stands e same in
            let place = once (suc k) zero h (at ∙ ap Some number) refl in
            omega (arith, place))

-- what holds of picked gates holds of each
pub of_picked : (P : Gate ℕ → Type 0) (gates : List (Gate ℕ)) (hs : List ℕ) (i h : ℕ) (g : Gate ℕ) → AllByRecursion P (picked gates hs) → slice_get hs i ≡ Some h → slice_get gates h ≡ Some g → P g
of_picked P gates [] i h g all at there = absurd (cc at)
of_picked P gates (x ∷ hs) i h g all at there = by (slice_get gates x) refl i at all (λ k later rest. of_picked P gates hs k h g rest later there)
  where
    by : (o : Option (Gate ℕ)) → slice_get gates x ≡ o → (k : ℕ) → slice_get (x ∷ hs) k ≡ Some h → AllByRecursion P (before o (picked gates hs))
        → ((j : ℕ) → slice_get hs j ≡ Some h → AllByRecursion P (picked gates hs) → P g) → P g
    by None e zero a all rest = let same : x ≡ h = cc a in absurd (cc (e, there, ap (slice_get gates) same))
    by None e (suc k) a all rest = rest k a all
    by (Some f) e zero a all rest = let same : x ≡ h = cc a in let is : f ≡ g = cc (e, there, ap (slice_get gates) same) in subst P is all.0
    by (Some f) e (suc k) a all rest = rest k a all.1

-- and what holds of gates holds of those that are picked
pub to_picked : (P : Gate ℕ → Type 0) (gates : List (Gate ℕ)) (hs : List ℕ) → AllByRecursion P gates → AllByRecursion P (picked gates hs)
to_picked P gates [] all = tt
to_picked P gates (h ∷ hs) all = by (slice_get gates h) refl (to_picked P gates hs all)
  where
    by : (o : Option (Gate ℕ)) → slice_get gates h ≡ o → AllByRecursion P (picked gates hs) → AllByRecursion P (before o (picked gates hs))
    by None e rest = rest
    by (Some g) e rest = (at_place P gates h g all e, rest)

-- a gate among those that don't drive a net doesn't
no_driver : (gates : List (Gate ℕ)) (net k : ℕ) (g : Gate ℕ) → AllByRecursion (λ m. m ≢ net) (map (λ x. x.out) gates) → slice_get gates k ≡ Some g → g.out ≢ net
no_driver [] net k g none at same = cc at
no_driver (x ∷ gates) net zero g none at same = let is : x ≡ g = cc at in none.0 (ap (λ (z : Gate ℕ). z.out) is ∙ same)
no_driver (x ∷ gates) net (suc k) g none at same = no_driver gates net k g none.1 at same

-- gates whose outputs are distinct
pub apart_all : (gates : List (Gate ℕ)) → Distinct (map (λ g. g.out) gates) → Apart gates
apart_all [] distinct h j f g at there same = absurd (cc at)
apart_all (x ∷ gates) distinct zero zero f g at there same = refl
apart_all (x ∷ gates) distinct zero (suc j) f g at there same =
    let first : x ≡ f = cc at in
    absurd (no_driver gates x.out j g distinct.0 there (sym same ∙ sym (ap (λ (z : Gate ℕ). z.out) first)))
apart_all (x ∷ gates) distinct (suc h) zero f g at there same =
    let first : x ≡ g = cc there in
    absurd (no_driver gates x.out h f distinct.0 at (same ∙ sym (ap (λ (z : Gate ℕ). z.out) first)))
apart_all (x ∷ gates) distinct (suc h) (suc j) f g at there same = ap suc (apart_all gates distinct.1 h j f g at there same)

-- one number more, and the end of the numbers
pub picked_step : (gates : List (Gate ℕ)) (order : List ℕ) (place : ℕ) (g : Gate ℕ) (values new whole : List Bool) → place < length order → get_or order place 0 < length gates
    → g ≡ get_or gates (get_or order place 0) g → new ≡ set values g.out (given g values) → evaluated (picked gates (drop place order)) values ≡ whole → evaluated (picked gates (drop (place + 1) order)) new ≡ whole
picked_step gates order place g values new whole less small is next so_far =
    let there : slice_get gates (get_or order place 0) ≡ Some g = slice_get-get_or gates (get_or order place 0) g small ∙ ap Some (sym is) in
    let front : picked gates (drop place order) ≡ g ∷ picked gates (drop (place + 1) order) = ap (picked gates) (drop_more order place 0 less) ∙ ap (λ (o : Option (Gate ℕ)). before o (picked gates (drop (place + 1) order))) there in
    ap (evaluated (picked gates (drop (place + 1) order))) next ∙ (ap (λ (gs : List (Gate ℕ)). evaluated gs values) (sym front) ∙ so_far)

pub picked_end : (gates : List (Gate ℕ)) (order : List ℕ) (place : ℕ) (values whole : List Bool) → length order ≤ place → evaluated (picked gates (drop place order)) values ≡ whole → values ≡ whole
picked_end gates order place values whole past so_far = ap (λ (hs : List ℕ). evaluated (picked gates hs) values) (sym (drop_all place order past)) ∙ so_far
