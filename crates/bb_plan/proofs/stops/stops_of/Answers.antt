use Rattle.std.proofs.Common.{arith, ◌<◌, ◌^◌, length, sym, subst}
use Rattle.bb_base.specs.Net.{driven}
use Rattle.bb_base.specs.Levels.{AreGates}
use Rattle.bb_base.proofs.GateLemmas.{gates_fit}
use Rattle.bb_plan.proofs.stops.stops_of.Goals as goal

pub free_nets-requires : goal.free_nets-requires
free_nets-requires c =
    let count = c.nets.ensures.count in
    let few : length (driven c.args.netlist.now) < 2 ^ 32 = (let fits = c.nets.type_inv in omega (arith, count, fits)) in
    let fit = gates_fit c.args.netlist.now c.nets.ensures.netlist few in
    subst (AreGates c.nets.result) (sym c.gates.ensures.value) (subst (λ k. AreGates k c.args.netlist.now.gates) (sym count) fit)
