use Rattle.bb_grammar.proofs.Exact.{refusal, stands, split}
use Rattle.bb_grammar.proofs.laws.first_bad_token.Goals as goal

pub returns-clause-refused : goal.returns-clause-refused
returns-clause-refused c = refusal

pub returns-clause-stands : goal.returns-clause-stands
returns-clause-stands c = stands

pub returns-clause-any : goal.returns-clause-any
returns-clause-any c = split
