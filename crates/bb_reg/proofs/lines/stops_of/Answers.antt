use Rattle.std.proofs.Common.{arith, ◌<◌, ◌^◌, ◌∙◌, List, ℕ, sym, ap, subst, length}
use Rattle.std.specs.List.{AllByRecursion}
use Rattle.bb_base.specs.Net.{Gate, driven}
use Rattle.bb_base.specs.Levels.{AreGates}
use Rattle.bb_base.proofs.GateLemmas.{gates_fit}
use Rattle.bb_reg.proofs.NarrowLemmas.{all_within}
use Rattle.bb_reg.proofs.lines.stops_of.Goals as goal

pub free_nets-requires : goal.free_nets-requires
free_nets-requires c =
    let n = c.args.netlist.now in
    let few : length (driven n) < 2 ^ 32 = omega (arith, c.nets.ensures.count, c.nets.type_inv) in
    subst (λ (gs : List (Gate ℕ)). AreGates c.nets.result gs) (sym c.gates.ensures.value) (subst (λ k. AreGates k n.gates) (sym c.nets.ensures.count) (gates_fit n c.nets.ensures.netlist few))

pub mark_cuts-requires : goal.mark_cuts-requires
mark_cuts-requires c =
    let long = ap length c.deref_mut.ensures.value ∙ c.in_ok-stops.ensures.long ∙ c.nets.ensures.count in
    subst (λ k. AllByRecursion (λ net. net < k) c.args.cuts.now) (sym long) (all_within c.args.netlist.now c.args.cuts.now c.nets.ensures.netlist c.requires)
