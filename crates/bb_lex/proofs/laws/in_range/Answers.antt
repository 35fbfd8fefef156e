use Rattle.bb_lex.proofs.RangeLemmas.{start_sound, run_sound, close_sound}
use Rattle.bb_lex.proofs.laws.in_range.Goals as goal

pub returns-clause-start : goal.returns-clause-start
returns-clause-start c = start_sound

pub returns-clause-run : goal.returns-clause-run
returns-clause-run c = run_sound

pub returns-clause-close : goal.returns-clause-close
returns-clause-close c = close_sound
