use Rattle.std.proofs.Common.{subst, Ok}
use Rattle.std.specs.List.{AllByRecursion}
use Rattle.bb_lex.specs.Machine.{run, start}
use Rattle.bb_base.specs.Tokens.{IsProper}
use Rattle.bb_read.proofs.TextEnds.{one_end, some_end}
use Rattle.bb_read.proofs.laws.one_end_of.Goals as goal

pub returns-clause-some : goal.returns-clause-some
returns-clause-some c = λ own limit text. some_end
    (λ m text is.
    let closes = (c.one_reading.ensures.exact text is.tokens (Ok is.line)).0 is.reads in
    let sound = c.in_range.ensures.close (run start text) (c.in_range.ensures.run start text c.in_range.ensures.start) in
    c.in_range-2.ensures is.tokens m (subst (AllByRecursion IsProper) closes.tokens_are sound.tokens) is.derives)
    c.has_an_outcome.ensures own limit text (c.one_flaw.ensures.some text)

pub returns-clause-one : goal.returns-clause-one
returns-clause-one c = λ own limit. one_end own limit (record {
  no_lex = c.one_flaw.ensures.no_lex_fault;
  no_parse = c.one_flaw.ensures.no_parse_fault;
  one_lex = c.one_flaw.ensures.one_lex_fault;
  one_parse = c.one_flaw.ensures.one_parse_fault;
  not_both = c.one_flaw.ensures.not_both;
  one = c.one_outcome_of.ensures;
})
