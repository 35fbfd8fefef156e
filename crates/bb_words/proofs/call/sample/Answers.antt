use Rattle.std.proofs.Common.{refl}
use Rattle.bb_words.proofs.Commands.{no_sample}
use Rattle.bb_words.proofs.call.sample.Goals as goal

pub returns-in_default-settings-clause-usage : goal.returns-in_default-settings-clause-usage
returns-in_default-settings-clause-usage c = λ _ d is. no_sample c.args.said.now d is (c.in_default-settings.ensures.none refl)
