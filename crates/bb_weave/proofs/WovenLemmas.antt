-- What was filled, and the nets that are answered.
use Rattle.std.proofs.Common.{arith, ◌≡◌, ◌≢◌, ◌↔◌, ℕ, ◌+◌, ◌<◌, ◌≤◌, List, [], ◌∷◌, ◌++◌, map, length, length-append, append_assoc, AllPairs, inl, inr, Option, None, Some, IsSome, slice_get, refl, sym, ap, subst, ◌∙◌, Contains}
use Rattle.std.proofs.lemmas.List.Elements.{All-from_recursion}
use Rattle.std.specs.List.{AllByRecursion, range_with_len}
use Rattle.bb_base.specs.declared.variable.BitName.{BitName}
use Rattle.bb_base.specs.Variables.{StandsBefore, bit_count, ports_of}
use Rattle.bb_base.proofs.Contained.{to_all}
use Rattle.bb_base.proofs.Lists.{all_map_back, get_back, length_map, map_alike, map_twice}
use Rattle.bb_base.specs.Net.{Gate, Flop, driven, times, renamed_gate, renamed_flop}
use Rattle.bb_base.specs.Named.{Named, IsNamed, IsConsistent, IsByBits}
use Rattle.bb_net.specs.Sites.{site_of, sited}
use Rattle.bb_net.proofs.CountLemmas.{nets_few, gates_few}
use Rattle.bb_base.specs.Order.{HasOrder}
use Rattle.bb_base.specs.Building.{started, net_limit, with_gates, with_flops}
use Rattle.bb_terms.specs.Plan.{PlanValue, chain}
use Rattle.bb_terms.specs.Valid.{IsValidPlan}
use Rattle.bb_terms.specs.declared.wire.Wire.{Wire}
use Rattle.bb_terms.specs.declared.wire.Wire.TheVariants.{Kept}
use Rattle.bb_terms.specs.Reads.{qs_from}
use Rattle.bb_terms.specs.Registers.{control_rows}
use Rattle.bb_terms.specs.Numbering.{net_at, number_or_zero, HasDistinctNets}
use Rattle.bb_written.specs.Cells.{flops}
use Rattle.bb_written.specs.Written.{written_netlist, written_variables, inner_wires, wire_site, written}
use Rattle.bb_written.proofs.Forward.{forward}
use Rattle.bb_written.proofs.Ranked.{no_loop}
use Rattle.bb_normal.specs.Normal.{Normal}
use Rattle.bb_ctl.specs.OwnNames.{HasOwnNames}
use Rattle.bb_normal.proofs.Mirroring.{itself}
use Rattle.bb_normal.proofs.Whole.{normal, ordered}
use Rattle.bb_written.proofs.Reached.{HoldsOfDriven, cells_are}
use Rattle.bb_written.proofs.Driven.{holds}
use Rattle.bb_written.proofs.Sizes.{flops_long}
use Rattle.bb_lay.specs.Laying.{AddsAll, CanStand, IsLaid, AreKept, laid_bits, clock_or}
use Rattle.bb_lay.specs.RowsOf.{AreRows}
use Rattle.bb_lay.specs.declared.rows.Rows.{Rows}
use Rattle.bb_lay.proofs.Ascending.{range_within}
use Rattle.bb_lay.proofs.Stand.{variables_stand}
use Rattle.bb_weave.specs.Woven.{AreNetsOf}
use Rattle.bb_weave.specs.Filling.{CanFill}
use Rattle.bb_weave.proofs.Found.{found_driven}
use Rattle.bb_weave.proofs.CanFill.{can_fill}
use Rattle.bb_weave.proofs.Sited.{filled_is_written}
use Rattle.bb_weave.proofs.DrivenOnce.{driven_once}
use Rattle.bb_weave.proofs.Filled.{IsFound, IsFilled}

-- the rows that were added
abbrev pub all_rows : PlanValue → Rows → List (Gate Wire)
all_rows p rows = rows.kept.items ++ (control_rows p ++ rows.cells.items)

-- what is filled, from what was laid
pub filled : (a b n : Named) (p : PlanValue) (kept : List ℕ) (rows : Rows) → AddsAll (started a.module_name) b (written_variables a p) (laid_bits a (inner_wires a.netlist p)) (clock_or a.clock (ports_of a.variables))
    → IsLaid b → AreKept a b kept → AreRows a.netlist p rows → ((w : Wire) → Contains (driven (written_netlist a.netlist p)) w → IsFound a b kept w)
    → n ≡ with_flops (with_gates b (map (renamed_gate (net_at b kept)) (all_rows p rows))) (map (renamed_flop (net_at b kept)) rows.flops.items) → IsConsistent n → IsFilled a p n kept
filled a b n p kept rows adds laid kept_are r found e consistent =
    let gates : List (Gate ℕ) = map (renamed_gate (net_at b kept)) (all_rows p rows) in
    let states : List (Flop ℕ) = map (renamed_flop (net_at b kept)) rows.flops.items in
    let m : Named = with_flops (with_gates b gates) states in
    let here : IsFilled a p m kept = record {
      module_name = adds.module_name;
      variables = adds.variables;
      clock = adds.clock_is;
      names = adds.names;
      laid = record { ascending = laid.ascending; below = laid.below; few = laid.few; clock_below = laid.clock_below; apart_from_clock = laid.apart_from_clock };
      kept_are = record { long = kept_are.long; each = kept_are.each };
      found = λ w c. let f = found w c in record { has = record { net = f.has.net; found = f.has.found; stands = f.has.stands }; site = f.site };
      gates = ap (λ gs. gs ++ gates) adds.gates ∙ (λ i. map (renamed_gate (net_at b kept)) (r.kept i ++ (control_rows p ++ r.cells i)));
      flops_are = ap (λ fs. fs ++ states) adds.flops ∙ ap (map (renamed_flop (net_at b kept))) r.flops_are;
      consistent = subst IsConsistent e consistent;
    } in
    subst (λ k. IsFilled a p k kept) (sym e) here

-- nets that are laid are distinct
pub laid_distinct : (b : Named) → IsLaid b → bit_count b.variables ≤ net_limit → HasDistinctNets b
laid_distinct b laid few = record {
  few = omega (arith, laid.few, few);
  distinct = λ i j d less within same. apart_bits (laid.ascending i j d less within) same;
  apart_from_clock = laid.apart_from_clock;
}
  where
    apart_bits : {x y : BitName} → StandsBefore x y → x ≡ y → ⊥
    apart_bits (inl less) e = omega (arith, less, ap (λ (k : BitName). k.variable) e)
    apart_bits (inr both) e = omega (arith, both.1, ap (λ (k : BitName). k.place) e)

-- there is a clock, and there is a flip-flop
some_clock : (clock : Option BitName) (count : ℕ) → IsSome (clock_or clock count)
some_clock None count = refl
some_clock (Some c) count = refl

pub clocked : (p : PlanValue) (clock own : Option BitName) (count : ℕ) (states : List (Flop ℕ)) (f : Flop Wire → Flop ℕ) → clock ≡ clock_or own count → states ≡ map f (flops p) → IsSome clock ↔ (0 < length states)
clocked p clock own count states f e long = ((λ some. some_flop), (λ less. subst IsSome (sym e) (some_clock own count)))
  where
    some_flop : 0 < length states
    some_flop = omega (arith, ap length long, length_map f (flops p), flops_long p)

-- nets of symbols that are found
found_nets : (a n : Named) (kept : List ℕ) (ws : List Wire) → AllByRecursion (IsFound a n kept) ws → AreNetsOf a n ws (map (net_at n kept) ws)
found_nets a n kept ws all = record {
  below = All-from_recursion (λ net. net < length n.names) (map (net_at n kept) ws)
      (all_map_back (λ net. net < length n.names) (IsFound a n kept) (net_at n kept) (λ w h. let same : net_at n kept w ≡ h.has.net = ap number_or_zero h.has.found in omega (arith, same, h.has.stands)) ws all);
  sites = map_alike (site_of n) (net_at n kept) (wire_site a) (IsFound a n kept) (λ w h. h.site) ws all;
}

-- a list is its items by their numbers
by_numbers : (before xs : List ℕ) → map (λ k. number_or_zero (slice_get (before ++ xs) k)) (range_with_len (length before) (length xs)) ≡ xs
by_numbers before [] = refl
by_numbers before (x ∷ xs) =
    let start : length before + 0 ≡ length before = omega arith in
    let head : number_or_zero (slice_get (before ++ x ∷ xs) (length before)) ≡ x = ap number_or_zero (ap (slice_get (before ++ x ∷ xs)) (sym start) ∙ get_back before (x ∷ xs) 0) in
    let whole : (before ++ x ∷ []) ++ xs ≡ before ++ x ∷ xs = append_assoc before (x ∷ []) xs in
    let long : length (before ++ x ∷ []) ≡ length before + 1 = length-append before (x ∷ []) in
    let rest : map (λ k. number_or_zero (slice_get (before ++ x ∷ xs) k)) (range_with_len (length before + 1) (length xs)) ≡ xs =
    subst (λ ks. map (λ k. number_or_zero (slice_get ks k)) (range_with_len (length before + 1) (length xs)) ≡ xs) whole
    (subst (λ m. map (λ k. number_or_zero (slice_get ((before ++ x ∷ []) ++ xs) k)) (range_with_len m (length xs)) ≡ xs) long (by_numbers (before ++ x ∷ []) xs)) in
    λ i. head i ∷ rest i

module _ (a n : Named) (p : PlanValue) (kept : List ℕ) (named : IsNamed a) (valid : IsValidPlan a.netlist p) (f : IsFilled a p n kept) where
  h : HoldsOfDriven (IsFound a n kept) a.netlist p
  h = holds a.netlist p named.netlist valid (IsFound a n kept) (to_all (IsFound a n kept) (driven (written_netlist a.netlist p)) f.found)

  pub cells_found : AreNetsOf a n (qs_from 0 (chain p)) (map (net_at n kept) (qs_from 0 (chain p)))
  cells_found = found_nets a n kept (qs_from 0 (chain p)) (subst (AllByRecursion (IsFound a n kept)) (cells_are 0 (chain p)) h.cells)

  pub kept_found : AreNetsOf a n (map Kept (range_with_len 0 (length a.names))) kept
  kept_found =
      let nets : List ℕ = range_with_len 0 (length a.names) in
      let within : AllByRecursion (λ m. (0 ≤ m) × (m < length a.names)) nets = range_within 0 (length a.names) 0 (length a.names) (omega arith) (omega arith) in
      let all : AllByRecursion (IsFound a n kept) (map Kept nets) = all_map_back (IsFound a n kept) (λ m. (0 ≤ m) × (m < length a.names)) Kept (λ m less. h.kept m (omega (arith, less.1, named.names))) nets within in
      let same : map (net_at n kept) (map Kept nets) ≡ kept =
      map_twice (net_at n kept) Kept nets ∙ ap (λ k. map (λ m. number_or_zero (slice_get kept m)) (range_with_len 0 k)) (sym f.kept_are.long) ∙ by_numbers [] kept in
      subst (AreNetsOf a n (map Kept nets)) same (found_nets a n kept (map Kept nets) all)

-- all of it, from what is laid to what is filled
module _ (a b : Named) (p : PlanValue) (kept : List ℕ) (rows : Rows) (named : IsNamed a) (own : HasOwnNames a) (valid : IsValidPlan a.netlist p) (few : bit_count a.variables ≤ 2097152)
    (adds : AddsAll (started a.module_name) b (written_variables a p) (laid_bits a (inner_wires a.netlist p)) (clock_or a.clock (ports_of a.variables))) (laid : IsLaid b) (kept_are : AreKept a b kept) (are : AreRows a.netlist p rows) where
  stand : CanStand (written_variables a p)
  stand = variables_stand a p named own valid few

  found : (w : Wire) → Contains (driven (written_netlist a.netlist p)) w → IsFound a b kept w
  found = found_driven a b p kept named valid (subst (λ vs. AllPairs (λ v w. v.0 ≢ w.0) vs) (sym adds.variables) stand.apart) adds.variables adds.names kept_are

  pub laid_fill : CanFill b kept p rows
  laid_fill = can_fill a b p kept rows named valid are (laid_distinct b laid (omega (arith, ap bit_count adds.variables, stand.few))) (λ w c. (found w c).has) (omega (arith, few, nets_few a named, gates_few a named)) adds.gates adds.flops

  module _ (n : Named) (e : n ≡ with_flops (with_gates b (map (renamed_gate (net_at b kept)) (all_rows p rows))) (map (renamed_flop (net_at b kept)) rows.flops.items)) where
    pub is_filled : IsConsistent n → IsFilled a p n kept
    is_filled = filled a b n p kept rows adds laid kept_are are found e

    pub is_written : IsConsistent n → sited n ≡ written a p
    is_written consistent = filled_is_written a p n kept named valid (is_filled consistent)

    pub is_driven : IsConsistent n → (net : ℕ) → net < length n.names → times net (driven n.netlist) ≡ 1
    is_driven consistent = driven_once a p n kept named own valid few (is_filled consistent) (is_written consistent)

    pub is_clocked : IsSome n.clock ↔ (0 < length n.netlist.flops)
    is_clocked =
        clocked p n.clock a.clock (ports_of a.variables) n.netlist.flops (renamed_flop (net_at b kept)) (ap (λ (k : Named). k.clock) e ∙ adds.clock_is)
        (ap (λ (k : Named). k.netlist.flops) e ∙ ap (λ fs. fs ++ map (renamed_flop (net_at b kept)) rows.flops.items) adds.flops ∙ ap (map (renamed_flop (net_at b kept))) are.flops_are)

    pub is_ordered : IsNamed n → HasOrder n.netlist.gates
    is_ordered is = ordered forward no_loop a n p named is own valid (itself a n p (is_written is.consistent))

    pub is_normal : IsNamed n → Normal (sited a).netlist (sited n).netlist
    is_normal is = normal forward no_loop a n p named is own valid (itself a n p (is_written is.consistent))

    pub by_bits : IsByBits n
    by_bits = subst IsByBits (sym e) laid.ascending

    pub kept_nets : IsConsistent n → AreNetsOf a n (map Kept (range_with_len 0 (length a.names))) kept
    kept_nets consistent = kept_found a n p kept named valid (is_filled consistent)

    pub cell_nets : IsConsistent n → AreNetsOf a n (qs_from 0 (chain p)) (map (net_at b kept) (qs_from 0 (chain p)))
    cell_nets consistent = subst (λ (k : Named). AreNetsOf a n (qs_from 0 (chain p)) (map (net_at k kept) (qs_from 0 (chain p)))) e (cells_found a n p kept named valid (is_filled consistent))
