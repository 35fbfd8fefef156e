use Rattle.std.proofs.Common.{◌∙◌}
use Rattle.bb_sample.proofs.VectorLemmas.{port_added}
use Rattle.bb_sample.proofs.ports.add_port.Goals as goal

pub returns : goal.returns
returns c = c.in_ok-declare.ensures.added ∙ port_added c.args.builder.now c.args.name.now c.args.role c.args.width c.requires.can.some c.requires.port
