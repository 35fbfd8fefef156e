use Rattle.std.proofs.Common.{arith}
use Rattle.bb_words.specs.declared.setting.Setting.TheVariants.{MinDegree, MaxDegree}
use Rattle.bb_words.proofs.said.Said.settings.Goals as goal

pub returns-then-settings-clause-none : goal.returns-then-settings-clause-none
returns-then-settings-clause-none c = λ _ settings are. omega (arith, are.degrees, are.each MinDegree, are.each MaxDegree)
