use Rattle.bb_grammar.proofs.Flaws.{some_outcome, no_lex_fault, no_parse_fault, one_lex_fault, one_parse_fault, not_both}
use Rattle.bb_grammar.proofs.laws.one_flaw.Goals as goal

pub returns-clause-some : goal.returns-clause-some
returns-clause-some c = λ text. let (tokens, end, reads) = c.one_reading.ensures.some text in some_outcome text tokens end reads

pub returns-clause-no_lex_fault : goal.returns-clause-no_lex_fault
returns-clause-no_lex_fault c = no_lex_fault c.one_reading.ensures.one

pub returns-clause-no_parse_fault : goal.returns-clause-no_parse_fault
returns-clause-no_parse_fault c = no_parse_fault c.one_reading.ensures.one

pub returns-clause-one_lex_fault : goal.returns-clause-one_lex_fault
returns-clause-one_lex_fault c = one_lex_fault c.one_reading.ensures.one

pub returns-clause-one_parse_fault : goal.returns-clause-one_parse_fault
returns-clause-one_parse_fault c = one_parse_fault c.one_reading.ensures.one

pub returns-clause-not_both : goal.returns-clause-not_both
returns-clause-not_both c = not_both c.one_reading.ensures.one
