use Rattle.bb_sample.proofs.StageLemmas.{begun_without}
use Rattle.bb_sample.proofs.ports.begin.Goals as goal

pub returns-then-not-clocked : goal.returns-then-not-clocked
returns-then-not-clocked c = begun_without c.args.clocked c.in_ok-name.name c.in_ok-builder.builder c.in_ok-builder.ensures c.in_ok-name.ensures c.if-not-clocked.true
