-- Ranks that fall along gates: they leave no cycle, and an order gives them.
use Rattle.std.proofs.Common.{arith, ◌≡◌, ◌⊎◌, inl, inr, ℕ, suc, zero, ◌+◌, ◌<◌, ◌≤◌, Bool, true, false, List, [], ◌∷◌, length, refl, ap, subst, slice_get, nat_lt, Some, map, sym}
use Rattle.std.proofs.lemmas.Bool.Decides.{nat_tests}
use Rattle.std.proofs.lemmas.Option.{slice_get_within}
use Rattle.std.specs.Prelude.{Contains}
use Rattle.std.specs.List.{AllByRecursion, list_all}
use Rattle.bb_base.specs.Net.{Gate, Netlist, IsNetlist, renamed, renamed_gate}
use Rattle.bb_base.proofs.Renamed.{Back, FindsAll}
use Rattle.bb_base.proofs.Lists.{all_map, both_map}
use Rattle.bb_base.specs.Order.{drivers, is_within, is_empty, IsOrder, HasOrder, HasRanks, FallsAlong, Reads, LeadsTo, IsCycle, IsLoop}
use Rattle.bb_base.proofs.Contained.{of_all, to_all, by_place, place_of}
use Rattle.bb_netlist.proofs.WalkLemmas.{loop_cycles}
use Rattle.bb_base.proofs.CycleLemmas.{all_have, driver_there}
use Rattle.bb_runs.proofs.Within.{all_more, passes_all, up_to, first_of, first_low, first_passes, DrivesNet, drivers_stand}
use Rattle.bb_runs.proofs.Walks.{order_or_loop_of}

-- ranks leave no cycle --------------------------------------------------------

module _ {N : Type 0} (gates : List (Gate N)) (ranks : HasRanks gates) where
  step_falls : (net input : N) → Reads gates net input → ranks.0 input < ranks.0 net
  step_falls net input r =
      let along = of_all (FallsAlong ranks.0) gates r.gate ranks.1 r.stands in
      subst (λ x. ranks.0 input < ranks.0 x) r.drives (of_all (λ m. ranks.0 m < ranks.0 r.gate.out) r.gate.ins input along r.reads)

  way_falls : (n : N) (xs : List N) (last : N) → LeadsTo (Reads gates) (n ∷ xs) last → ranks.0 last < ranks.0 n
  way_falls n [] last w = step_falls n last w
  way_falls n (m ∷ xs) last w = let rest = way_falls m xs last w.1 in let one = step_falls n m w.0 in omega (arith, rest, one)

  pub no_ranked_cycle : (nets : List N) → IsCycle gates nets → ⊥
  no_ranked_cycle [] c = c
  no_ranked_cycle (n ∷ nets) c = let less = way_falls n nets n c in omega (arith, less)

pub ranks_order : (n : Netlist ℕ) → IsNetlist n → HasRanks n.gates → HasOrder n.gates
ranks_order n is ranks = go (order_or_loop_of n is)
  where
    go : HasOrder n.gates ⊎ ((loop : List ℕ) × IsLoop n.gates loop) → HasOrder n.gates
    go (inl order) = order
    go (inr found) = absurd (no_ranked_cycle n.gates ranks found.0 (loop_cycles n.gates found.0 found.1))

-- an order gives ranks --------------------------------------------------------

-- at least as high as the levels of the first so many gates
abbrev pub highest_of : (ℕ → ℕ) → ℕ → ℕ
highest_of level zero = 0
highest_of level (suc n) = level n + highest_of level n

below_highest : (level : ℕ → ℕ) (n h : ℕ) → h < n → level h ≤ highest_of level n
below_highest level zero h less = absurd (omega (arith, less))
below_highest level (suc n) h less = go (nat_lt h n) refl (below_highest level n h)
  where
    go : (t : Bool) → nat_lt h n ≡ t → (h < n → level h ≤ highest_of level n) → level h ≤ level n + highest_of level n
    go true e rest = let low = rest (grind (arith, nat_tests, e)) in omega (arith, low)
    go false e rest = let same : h ≡ n = grind (arith, nat_tests, e, less) in omega (arith, ap level same)

module _ (gates : List (Gate ℕ)) (order : List ℕ) (o : IsOrder gates order) where
  abbrev pub top : ℕ
  top = highest_of o.level (length gates)

  gate_within : (net : ℕ) (g : Gate ℕ) → DrivesNet gates net g → list_all (is_within gates top) g.ins ≡ true
  gate_within net g d =
      let at = place_of gates g d.0 in
      let low : o.level at.0 ≤ top = below_highest o.level (length gates) at.0 (slice_get_within gates at.0 g at.1) in
      all_more (is_within gates (o.level at.0)) (is_within gates top) (λ m e. up_to gates (o.level at.0) top m low e) g.ins (o.levels at.0 g at.1).within

  -- where there is an order, all ways back end
  pub all_within : (net : ℕ) → is_within gates (suc top) net ≡ true
  all_within net = passes_all (λ g. list_all (is_within gates top) g.ins) (DrivesNet gates net) (gate_within net) (drivers gates net) (drivers_stand gates net)

  abbrev rank : ℕ → ℕ
  rank net = first_of (λ k. is_within gates k net) (suc top)

  rank_within : (net : ℕ) → is_within gates (rank net) net ≡ true
  rank_within net = first_passes (λ k. is_within gates k net) (suc top) (all_within net)

  input_lower : (h : ℕ) (g : Gate ℕ) → slice_get gates h ≡ Some g → (net : ℕ) → Contains g.ins net → rank net < rank g.out
  input_lower h g at net c = by (rank g.out) refl (rank_within g.out)
    where
      found : (k : ℕ) × (slice_get (drivers gates g.out) k ≡ Some g)
      found = driver_there gates g.out h g at refl

      read : (p : ℕ) × (slice_get g.ins p ≡ Some net)
      read = place_of g.ins net c

      none : (ds : List (Gate ℕ)) → slice_get ds found.0 ≡ Some g → is_empty ds ≡ true → ⊥
      none [] there e = cc there
      none (d ∷ ds) there e = cc e

      by : (r : ℕ) → rank g.out ≡ r → is_within gates r g.out ≡ true → rank net < rank g.out
      by zero e w = absurd (none (drivers gates g.out) found.1 w)
      by (suc r) e w =
          let ins = all_have (λ (x : Gate ℕ). list_all (is_within gates r) x.ins) (drivers gates g.out) found.0 g w found.1 in
          let low = first_low (λ k. is_within gates k net) (suc top) r (all_have (is_within gates r) g.ins read.0 net ins read.1) in
          omega (arith, e, low)

  pub order_ranks : HasRanks gates
  order_ranks = (rank, by_place (FallsAlong rank) gates (λ h g at. to_all (λ net. rank net < rank g.out) g.ins (input_lower h g at)))

pub ranks_of_order : (gates : List (Gate ℕ)) → HasOrder gates → HasRanks gates
ranks_of_order gates has = order_ranks gates has.0 has.1

-- other names ---------------------------------------------------------------

-- ranks of names are ranks of what has them
pub ranks_back : {M N : Type 0} (f : M → N) (gates : List (Gate M)) → HasRanks (map (renamed_gate f) gates) → HasRanks gates
ranks_back {M} {N} f gates ranks = (
  (λ net. ranks.0 (f net)),
  all_map (FallsAlong ranks.0) (FallsAlong (λ net. ranks.0 (f net))) (renamed_gate f)
      (λ (g : Gate M) along. all_map (λ m. ranks.0 m < ranks.0 (f g.out)) (λ net. ranks.0 (f net) < ranks.0 (f g.out)) f (λ net less. less) g.ins along) gates ranks.1,
)

-- and the other way round where g finds all by name
pub ranks_forth : {M N : Type 0} (f : M → N) (g : N → M) (n : Netlist M) → FindsAll f g n → HasRanks n.gates → HasRanks (renamed f n).gates
ranks_forth {M} {N} f g n finds ranks = (
  (λ name. ranks.0 (g name)),
  both_map (FallsAlong (λ name. ranks.0 (g name))) (FallsAlong ranks.0) (λ (h : Gate M). Back f g h.out × AllByRecursion (Back f g) h.ins) (renamed_gate f) gate n.gates ranks.1 finds.gates,
)
  where
    gate : (h : Gate M) → FallsAlong ranks.0 h → Back f g h.out × AllByRecursion (Back f g) h.ins → FallsAlong (λ name. ranks.0 (g name)) (renamed_gate f h)
    gate h along back =
        both_map (λ name. ranks.0 (g name) < ranks.0 (g (f h.out))) (λ net. ranks.0 net < ranks.0 h.out) (Back f g) f
        (λ net less e. subst (λ m. ranks.0 m < ranks.0 (g (f h.out))) (sym e) (subst (λ m. ranks.0 net < ranks.0 m) (sym back.0) less)) h.ins along back.1
