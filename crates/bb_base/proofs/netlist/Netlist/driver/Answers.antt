use Rattle.std.proofs.Common.{arith}
use Rattle.bb_base.proofs.DriverLemmas.{gate_drives, flop_drives}
use Rattle.bb_base.proofs.netlist.Netlist.driver.Goals as goal

pub returns-then-place-inputs-2-clause-drives : goal.returns-then-place-inputs-2-clause-drives
returns-then-place-inputs-2-clause-drives c =
    gate_drives _ c.args.self.now c.self.inside.places.items c.args.net c.net.inside.0 c.index-place.result.now c.len-inputs.result c.self.view_is c.self.invariant c.net.view_is c.requires c.index-place.ensures (omega arith)
    (omega arith) (omega arith)

pub returns-clause-drives : goal.returns-clause-drives
returns-clause-drives c =
    flop_drives _ c.args.self.now c.self.inside.places.items c.args.net c.net.inside.0 c.index-place.result.now c.len-inputs.result c.len-gates.result c.self.view_is c.self.invariant c.net.view_is c.requires c.index-place.ensures (omega arith)
    (omega arith) (omega arith) (omega arith)
