use Rattle.std.proofs.Common.{subst, Ok}
use Rattle.std.specs.List.{AllByRecursion}
use Rattle.bb_lex.specs.Machine.{run, start}
use Rattle.bb_base.specs.Tokens.{IsProper}
use Rattle.bb_lex.proofs.RangeLemmas.{start_sound, run_sound, close_sound}
use Rattle.bb_lex.proofs.Spelled.{denoted_gives}
use Rattle.bb_grammar.proofs.Sounds.{sound_module}
use Rattle.bb_read.proofs.ReadNames.{module-ready}
use Rattle.bb_read.proofs.ready.read_netlists_are_ready.Goals as goal

pub returns-clause-modules : goal.returns-clause-modules
returns-clause-modules c = module-ready

pub returns-clause-texts : goal.returns-clause-texts
returns-clause-texts c = λ text a is.
    let spells = is.spells in
    let closes = denoted_gives text spells.tokens (Ok spells.line) spells.reads in
    let proper = close_sound (run start text) (run_sound start text start_sound) in
    module-ready is.syntax_of a (sound_module spells.tokens is.syntax_of (subst (AllByRecursion IsProper) closes.tokens_are proper.tokens) spells.derives) is.outcome
