use Rattle.std.proofs.Common.{refl, ap}
use Rattle.bb_words.specs.Commands.{Compile}
use Rattle.bb_words.specs.Parts.{words_in}
use Rattle.bb_words.proofs.Commands.{same_name, no_compile}
use Rattle.bb_words.proofs.call.compile.Goals as goal

pub returns-in_default-settings-clause-usage : goal.returns-in_default-settings-clause-usage
returns-in_default-settings-clause-usage c = λ _ d is. no_compile c.args.said.now d is (c.in_default-settings.ensures.none refl)

pub returns-then-is_file_of-clause-same : goal.returns-then-is_file_of-clause-same
returns-then-is_file_of-clause-same c = λ _. (
  Compile c.in-Two.input.now c.in-Two.prefix.now c.in-Some.settings,
  record { front = refl; takes = (ap words_in c.in-Two.is, c.in-Some.ensures.found) },
  same_name c.in-Two.input.now c.in-Two.prefix.now c.in-Some.settings (c.is_file_of.ensures.0 c.if-is_file_of.true),
)
