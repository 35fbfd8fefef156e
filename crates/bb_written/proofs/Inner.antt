-- The added wires of a valid plan: they are added nets, no two are equal, and they are few.
use Rattle.std.proofs.Common.{arith, ◌≡◌, ◌≢◌, ℕ, ◌≤◌, List, [], ◌∷◌, map, filter, length, cond, AllPairs, Bool, true, false, refl, sym}
use Rattle.std.specs.List.{AllByRecursion}
use Rattle.bb_base.proofs.Distinct.{Distinct}
use Rattle.bb_base.proofs.Lists.{all_join}
use Rattle.bb_base.specs.Net.{Netlist}
use Rattle.bb_terms.specs.Plan.{PlanValue}
use Rattle.bb_terms.specs.Valid.{IsValidPlan}
use Rattle.bb_netlist.proofs.Sorting.{Ascends, ascend_pairs}
use Rattle.bb_terms.specs.declared.wire.Wire.{Wire}
use Rattle.bb_terms.specs.Wires.{IsAdded}
use Rattle.bb_written.specs.Cells.{flops}
use Rattle.bb_written.specs.Written.{test_gates, inner_wires, is_inner}
use Rattle.bb_written.proofs.Few.{AreFew, are_few}
use Rattle.bb_written.proofs.Rising.{Rises, out_of, q_in, rises_join, rises_filter, rises_added, rises_distinct, outs_rise, qs_rise}
use Rattle.bb_written.proofs.Sizes.{ahead_long, cells_counted, inner_long}

module _ (a : Netlist ℕ) (p : PlanValue) (valid : IsValidPlan a p) where
  few : AreFew p
  few = are_few a p valid

  inner_rise : (low : ℕ) → Rises 2 (inner_wires a p) 12094627905536
  inner_rise low =
      let outs = map out_of (test_gates a p) in
      let qs = map q_in (flops p) in
      rises_join 2 7696581394432 12094627905536 (filter is_inner outs) (filter is_inner qs)
      (rises_filter is_inner 2 7696581394432 outs (outs_rise a p (omega (arith, ahead_long p, few.degree)) (omega (arith, few.sessions)) (omega (arith, few.registers, few.cells)) (omega (arith, cells_counted p.registers, few.cells))))
      (qs_rise is_inner (λ net. refl) p (omega (arith, few.degree)) (omega (arith, few.sessions)) (omega (arith, few.cells)))

  pub inner_added : AllByRecursion IsAdded (inner_wires a p)
  inner_added = rises_added 2 12094627905536 (inner_wires a p) (inner_rise 0)

  pub inner_distinct : Distinct (inner_wires a p)
  inner_distinct = rises_distinct 2 12094627905536 (inner_wires a p) (inner_rise 0)

  pub inner_pairs : AllPairs (λ (v : Wire) (w : Wire). v ≢ w) (inner_wires a p)
  inner_pairs = ascend_pairs (λ v w. v ≢ w) (inner_wires a p) (go (inner_wires a p) inner_distinct)
    where
      turn : (w : Wire) (ws : List Wire) → AllByRecursion (λ v. v ≢ w) ws → AllByRecursion (λ v. w ≢ v) ws
      turn w [] h = tt
      turn w (v ∷ ws) h = ((λ e. h.0 (sym e)), turn w ws h.1)

      go : (ws : List Wire) → Distinct ws → Ascends (λ v w. v ≢ w) ws
      go [] h = tt
      go (w ∷ ws) h = (turn w ws h.0, go ws h.1)

  filtered : (ws : List Wire) → AllByRecursion (λ w. is_inner w ≡ true) (filter is_inner ws)
  filtered [] = tt
  filtered (w ∷ ws) = by (is_inner w) refl (filtered ws)
    where
      by : (b : Bool) → is_inner w ≡ b → AllByRecursion (λ v. is_inner v ≡ true) (filter is_inner ws) → AllByRecursion (λ v. is_inner v ≡ true) (cond b (w ∷ filter is_inner ws) (filter is_inner ws))
      by true e rest = (e, rest)
      by false e rest = rest

  pub inner_are : AllByRecursion (λ w. IsAdded w × (is_inner w ≡ true)) (inner_wires a p)
  inner_are =
      let outs = filter is_inner (map out_of (test_gates a p)) in
      let qs = filter is_inner (map q_in (flops p)) in
      both (inner_wires a p) inner_added (all_join (λ w. is_inner w ≡ true) outs qs (filtered (map out_of (test_gates a p))) (filtered (map q_in (flops p))))
    where
      both : (ws : List Wire) → AllByRecursion IsAdded ws → AllByRecursion (λ w. is_inner w ≡ true) ws → AllByRecursion (λ w. IsAdded w × (is_inner w ≡ true)) ws
      both [] h k = tt
      both (w ∷ ws) h k = ((h.0, k.0), both ws h.1 k.1)

  pub inner_few : length (inner_wires a p) ≤ 30408766
  inner_few = omega (arith, inner_long a p, few.degree, few.sessions, few.registers, few.cells)
