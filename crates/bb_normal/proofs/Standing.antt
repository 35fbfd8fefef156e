-- Nets of the written netlist stand at sites of their own.
use Rattle.std.proofs.Common.{◌≡◌, ℕ, ◌<◌, ◌++◌, List, [], ◌∷◌, length, map, sym, ap, subst, ◌∙◌, Contains}
use Rattle.std.specs.List.{AllByRecursion, flat_map}
use Rattle.bb_base.proofs.Contained.{by_place, contains_at, of_all}
use Rattle.bb_base.proofs.Lists.{all_join, all_map_back}
use Rattle.bb_base.specs.Net.{Gate, Flop, Netlist, IsNetlist, driven, reads}
use Rattle.bb_base.specs.Named.{Named, IsNamed}
use Rattle.bb_net.proofs.Designs.{sites_one}
use Rattle.bb_net.proofs.Renaming.{OfAllNets, nets_below}
use Rattle.bb_terms.specs.declared.wire.Wire.{Wire}
use Rattle.bb_terms.specs.declared.wire.Wire.TheVariants.{Kept}
use Rattle.bb_terms.specs.Plan.{PlanValue, chain}
use Rattle.bb_terms.specs.Rules.{Kinds, IsGateNet, IsQ, MayStand}
use Rattle.bb_terms.specs.Valid.{IsValidPlan}
use Rattle.bb_terms.specs.declared.kind.Kind.{Kind}
use Rattle.bb_terms.specs.declared.kind.Kind.TheVariants.{Input, State, Split, Cut, Watch, Output}
use Rattle.bb_terms.proofs.NetLemmas.{input_net_within, out_within, q_within}
use Rattle.bb_written.specs.Written.{wire_site, written_netlist}
use Rattle.bb_ctl.specs.OwnNames.{HasOwnNames}
use Rattle.bb_normal.proofs.Few.{are_few}
use Rattle.bb_normal.proofs.Numbered.{IsNumbered, StandsInside, all_numbered}
use Rattle.bb_normal.proofs.Ranks.{Side, IsKept, IsNew, side, site_apart, new_sites_differ}

-- a cell stands on a net
module _ (a : Netlist ℕ) (is : IsNetlist a) where
  gate_within : (net : ℕ) → IsGateNet a net → net < length (driven a)
  gate_within net g = subst (λ n. n < length (driven a)) g.1.2 (out_within a g.1.0 is (contains_at a.gates g.0 g.1.0 g.1.1))

  flop_within : (net : ℕ) → IsQ a net → net < length (driven a)
  flop_within net q = subst (λ n. n < length (driven a)) q.1.2 (q_within a q.1.0 is (contains_at a.flops q.0 q.1.0 q.1.1))

  cell_within : (k : Kind) (net : ℕ) → MayStand a k net → net < length (driven a)
  cell_within Input net h = input_net_within a net is h
  cell_within State net h = flop_within net h
  cell_within Split net h = flop_within net h
  cell_within Cut net h = gate_within net h
  cell_within Watch net h = flop_within net h
  cell_within Output net h = gate_within net h.0

pub all_of : (a : Named) (p : PlanValue) → IsNamed a → IsValidPlan a.netlist p → OfAllNets (IsNumbered (length (driven a.netlist))) (written_netlist a.netlist p)
all_of a p named valid =
    all_numbered (length (driven a.netlist)) a.netlist p (are_few a.netlist p valid) (nets_below a.netlist named.netlist)
    (by_place (StandsInside (length (driven a.netlist))) (chain p) (λ i c at. cell_within a.netlist named.netlist c.kind c.net (valid.meets Kinds i c at)))

-- a fact of all nets that stand, as one of all that is driven and read
module _ {N : Type 0} (P : N → Type 0) (n : Netlist N) (all : OfAllNets P n) where
  gate_ins : (gs : List (Gate N)) → AllByRecursion (λ (g : Gate N). P g.out × AllByRecursion P g.ins) gs → AllByRecursion P (flat_map (λ (g : Gate N). g.ins) gs)
  gate_ins [] h = tt
  gate_ins (g ∷ gs) h = all_join P g.ins (flat_map (λ (k : Gate N). k.ins) gs) h.0.1 (gate_ins gs h.1)

  of_driven_and_read : AllByRecursion P (driven n ++ reads n)
  of_driven_and_read =
      all_join P (driven n) (reads n)
      (all_join P n.inputs _ all.inputs
      (all_join P (map (λ (g : Gate N). g.out) n.gates) _ (all_map_back P (λ (g : Gate N). P g.out × AllByRecursion P g.ins) (λ (g : Gate N). g.out) (λ g h. h.0) n.gates all.gates)
      (all_map_back P (λ (f : Flop N). P f.q × P f.d) (λ (f : Flop N). f.q) (λ f h. h.0) n.flops all.flops)))
      (all_join P n.outputs _ all.outputs
      (all_join P (flat_map (λ (g : Gate N). g.ins) n.gates) _ (gate_ins n.gates all.gates) (all_map_back P (λ (f : Flop N). P f.q × P f.d) (λ (f : Flop N). f.d) (λ f h. h.1) n.flops all.flops)))

one_of : (a : Named) → IsNamed a → HasOwnNames a → (v w : Wire) → IsNumbered (length (driven a.netlist)) v → IsNumbered (length (driven a.netlist)) w → wire_site a v ≡ wire_site a w → v ≡ w
one_of a named own v w hv hw e = by (side (length (driven a.netlist)) v hv) (side (length (driven a.netlist)) w hw)
  where
    by : Side v → Side w → v ≡ w
    by (IsKept m iv) (IsKept n iw) =
        let low : m < length (driven a.netlist) = subst (IsNumbered (length (driven a.netlist))) iv hv in
        let high : n < length (driven a.netlist) = subst (IsNumbered (length (driven a.netlist))) iw hw in
        iv ∙ ap Kept (sites_one a named m n low high (sym (ap (wire_site a) iv) ∙ e ∙ ap (wire_site a) iw)) ∙ sym iw
    by (IsKept m iv) (IsNew h) = absurd (site_apart a own m w h (sym e ∙ ap (wire_site a) iv))
    by (IsNew h) (IsKept n iw) = absurd (site_apart a own n v h (e ∙ ap (wire_site a) iw))
    by (IsNew h) (IsNew k) = new_sites_differ a v w h k e

-- no two nets of the written netlist have one site
pub written_sites_differ : (a : Named) (p : PlanValue) (v w : Wire) → IsNamed a → HasOwnNames a → IsValidPlan a.netlist p → Contains (driven (written_netlist a.netlist p) ++ reads (written_netlist a.netlist p)) v
    → Contains (driven (written_netlist a.netlist p) ++ reads (written_netlist a.netlist p)) w → wire_site a v ≡ wire_site a w → v ≡ w
written_sites_differ a p v w named own valid cv cw e =
    let n = written_netlist a.netlist p in
    let all = of_driven_and_read (IsNumbered (length (driven a.netlist))) n (all_of a p named valid) in
    one_of a named own v w (of_all (IsNumbered (length (driven a.netlist))) (driven n ++ reads n) v all cv) (of_all (IsNumbered (length (driven a.netlist))) (driven n ++ reads n) w all cw) e
