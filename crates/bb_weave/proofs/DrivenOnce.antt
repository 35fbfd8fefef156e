-- Each net of what was filled is driven once.
use Rattle.std.proofs.Common.{arith, ◌≡◌, ◌≢◌, ◌⊎◌, inl, inr, ℕ, ◌<◌, ◌≤◌, ◌==◌, List, [], ◌∷◌, ◌++◌, length, map, AllPairs, Bool, true, false, refl, sym, ap, subst, ◌∙◌, Contains}
use Rattle.std.proofs.lemmas.Bool.Decides.{nat_tests}
use Rattle.std.proofs.lemmas.List.Elements.{recursion_from_All}
use Rattle.std.specs.List.{AllByRecursion}
use Rattle.bb_base.specs.declared.variable.BitName.{BitName}
use Rattle.bb_base.specs.Variables.{IsBit, StandsBefore, bit_at, bit_count}
use Rattle.bb_base.proofs.Contained.{here, there, either, none_in, of_all, to_all, contains_map, place_of, contains_at}
use Rattle.bb_base.proofs.Distinct.{Distinct, distinct_map, one_place}
use Rattle.bb_base.proofs.Lists.{all_front, all_map, get_some}
use Rattle.bb_base.specs.Net.{driven, reads, times}
use Rattle.bb_base.proofs.GateLemmas.{stands_once}
use Rattle.bb_base.proofs.Renamed.{driven_renamed}
use Rattle.bb_base.proofs.TimesLemmas.{times_head}
use Rattle.std.proofs.lemmas.Option.{get_or_from_slice_get}
use Rattle.std.proofs.lemmas.List.Elements.{All-get_or}
use Rattle.bb_base.specs.Named.{Named, IsNamed, name_of_net}
use Rattle.bb_net.specs.Sites.{sited, site_of, site_of_bit}
use Rattle.bb_net.proofs.SiteLemmas.{one_site}
use Rattle.bb_terms.specs.Plan.{PlanValue}
use Rattle.bb_terms.specs.Valid.{IsValidPlan}
use Rattle.bb_terms.specs.declared.wire.Wire.{Wire}
use Rattle.bb_written.specs.Written.{wire_site, written_netlist, written_variables, written}
use Rattle.bb_ctl.specs.OwnNames.{HasOwnNames}
use Rattle.bb_normal.proofs.Standing.{written_sites_differ}
use Rattle.bb_lay.proofs.Stand.{variables_stand}
use Rattle.bb_weave.proofs.Filled.{IsFilled}
use Rattle.bb_weave.proofs.DriversApart.{drivers_distinct}
use Rattle.bb_weave.proofs.BitsDriven.{HasSymbol, bits_driven}

-- items with distinct images are distinct
distinct_of_images : {X Y : Type 0} (f : X → Y) (xs : List X) → Distinct (map f xs) → Distinct xs
distinct_of_images f [] h = tt
distinct_of_images {X} {Y} f (x ∷ xs) h = (all_map (λ y. y ≢ f x) (λ y. y ≢ x) f (λ y other same. other (ap f same)) xs h.0, distinct_of_images f xs h.1)

-- what doesn't stand in a list stands there no time
stands_never : (net : ℕ) (nets : List ℕ) → AllByRecursion (λ m. m ≢ net) nets → times net nets ≡ 0
stands_never net [] h = refl
stands_never net (m ∷ nets) h =
    let rest = stands_never net nets h.1 in
    let one = times_head net m nets in
    let other = h.0 in
    grind (arith, nat_tests, rest, one, other)

-- distinct nets stand at most once
at_most_once : (net : ℕ) (nets : List ℕ) → Distinct nets → times net nets ≤ 1
at_most_once net [] h = omega arith
at_most_once net (m ∷ nets) h = by (m == net) refl (at_most_once net nets h.1)
  where
    by : (b : Bool) → (m == net) ≡ b → times net nets ≤ 1 → times net (m ∷ nets) ≤ 1
    by true e rest =
        let same : m ≡ net = grind (arith, nat_tests, e) in
        let none : times net nets ≡ 0 = stands_never net nets (subst (λ k. AllByRecursion (λ j. j ≢ k) nets) same h.0) in
        let one = times_head net m nets in
        grind (arith, nat_tests, none, one)
    by false e rest =
        let one = times_head net m nets in
        grind (arith, nat_tests, e, rest, one)

-- an item with this image
image_of : {X Y : Type 0} (f : X → Y) (xs : List X) (y : Y) → Contains (map f xs) y → (x : X) × Contains xs x × (f x ≡ y)
image_of f [] y c = absurd (none_in y c)
image_of {X} {Y} f (x ∷ xs) y c = by (either (f x) (map f xs) y c) (λ more. image_of f xs y more)
  where
    by : (f x ≡ y) ⊎ Contains (map f xs) y → (Contains (map f xs) y → (z : X) × Contains xs z × (f z ≡ y)) → (z : X) × Contains (x ∷ xs) z × (f z ≡ y)
    by (inl e) rest = (x, here x xs, e)
    by (inr more) rest = let found = rest more in (found.0, there x xs found.0 found.1, found.2)

-- bits of which each stands before the next differ
pub bits_differ : (bits : List BitName) → AllPairs StandsBefore bits → AllPairs (λ x y. x ≢ y) bits
bits_differ bits h = λ i j d less within same. apart _ _ (h i j d less within) same
  where
    apart : (x y : BitName) → StandsBefore x y → x ≢ y
    apart x y (inl before) same = let variable = ap (λ (bit : BitName). bit.variable) same in omega (arith, before, variable)
    apart x y (inr before) same = let place = ap (λ (bit : BitName). bit.place) same in omega (arith, before.1, place)

module _ (a : Named) (p : PlanValue) (n : Named) (kept : List ℕ) (named : IsNamed a) (own : HasOwnNames a) (valid : IsValidPlan a.netlist p) (few : bit_count a.variables ≤ 2097152) (filled : IsFilled a p n kept)
    (same : sited n ≡ written a p) where
  abbrev drivers : List Wire
  drivers = driven (written_netlist a.netlist p)

  -- by sites, the same is driven
  drivers_are : map (site_of n) (driven n.netlist) ≡ map (wire_site a) drivers
  drivers_are = sym (driven_renamed (site_of n) n.netlist) ∙ ap (λ s. driven s.netlist) same ∙ driven_renamed (wire_site a) (written_netlist a.netlist p)

  sites_distinct : Distinct (map (wire_site a) drivers)
  sites_distinct =
      let read_wires : List Wire = reads (written_netlist a.netlist p) in
      let all : AllByRecursion (Contains (drivers ++ read_wires)) drivers = all_front (Contains (drivers ++ read_wires)) drivers read_wires (to_all (Contains (drivers ++ read_wires)) (drivers ++ read_wires) (λ w c. c)) in
      distinct_map (wire_site a) (Contains (drivers ++ read_wires)) (λ v w cv cw e. written_sites_differ a p v w named own valid cv cw e) drivers all (drivers_distinct a.netlist p named.netlist valid)

  drivers_differ : Distinct (driven n.netlist)
  drivers_differ = distinct_of_images (site_of n) (driven n.netlist) (subst Distinct (sym drivers_are) sites_distinct)

  -- nets at one site are one
  net_bit : (m : ℕ) → m < length n.names → IsBit n.variables (name_of_net n m)
  net_bit m less = All-get_or (IsBit n.variables) n.names m (bit_at 0 0) less filled.consistent.bits

  one_net : (m k : ℕ) → m < length n.names → k < length n.names → site_of n m ≡ site_of n k → m ≡ k
  one_net m k low high e =
      let apart = subst (λ vs. AllPairs (λ v w. v.0 ≢ w.0) vs) (sym filled.variables) (variables_stand a p named own valid few).apart in
      one_place (λ (b : BitName). b) n.names (bit_at 0 0) (bits_differ n.names filled.laid.ascending) m k low high (one_site n.variables apart (name_of_net n m) (name_of_net n k) (net_bit m low) (net_bit k high) e)

  -- each net is driven
  net_there : (net : ℕ) → net < length n.names → Contains (driven n.netlist) net
  net_there net less =
      let bit = get_some n.names net less in
      let all : AllByRecursion (HasSymbol a p named valid n.variables) n.names =
      subst (λ vs. AllByRecursion (HasSymbol a p named valid vs) n.names) (sym filled.variables) (subst (AllByRecursion (HasSymbol a p named valid (written_variables a p))) (sym filled.names) (bits_driven a p named valid)) in
      let found = of_all (HasSymbol a p named valid n.variables) n.names bit.0 all (contains_at n.names net bit.0 bit.1) in
      let name : name_of_net n net ≡ bit.0 = get_or_from_slice_get n.names net bit.0 (bit_at 0 0) bit.1 in
      let site : wire_site a found.0 ≡ site_of n net = sym found.2 ∙ sym (ap (site_of_bit n.variables) name) in
      let there : Contains (map (site_of n) (driven n.netlist)) (site_of n net) = subst (λ ss. Contains ss (site_of n net)) (sym drivers_are) (subst (Contains (map (wire_site a) drivers)) site (contains_map (wire_site a) drivers found.0 found.1)) in
      let other = image_of (site_of n) (driven n.netlist) (site_of n net) there in
      let within : other.0 < length n.names = of_all (λ m. m < length n.names) (driven n.netlist) other.0 (recursion_from_All (λ m. m < length n.names) (driven n.netlist) filled.consistent.drives_nets) other.1 in
      subst (Contains (driven n.netlist)) (one_net other.0 net within less other.2) other.1

  pub driven_once : (net : ℕ) → net < length n.names → times net (driven n.netlist) ≡ 1
  driven_once net less =
      let most = at_most_once net (driven n.netlist) drivers_differ in
      let place = place_of (driven n.netlist) net (net_there net less) in
      let least = stands_once (driven n.netlist) place.0 net place.1 in
      omega (arith, most, least)
