use Rattle.bb_lay.proofs.Scalars.{scalar_laid, port_adds}
use Rattle.bb_lay.proofs.added.add_port.Goals as goal

pub returns-clause-laid : goal.returns-clause-laid
returns-clause-laid c =
    scalar_laid c.args.builder.now c.declare.new.builder c.in_ok-name.name c.args.role c.requires.laid (port_adds c.args.builder.now c.declare.new.builder c.in_ok-name.name c.args.role c.requires.port c.in_ok-declare.ensures.added)
