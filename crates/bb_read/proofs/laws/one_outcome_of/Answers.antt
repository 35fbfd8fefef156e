use Rattle.std.proofs.Common.{sym, subst, Ok}
use Rattle.bb_meaning.specs.Outcome.{IsOutcome}
use Rattle.bb_parse.specs.Meaning as meaning
use Rattle.bb_read.proofs.laws.one_outcome_of.Goals as goal

pub returns : goal.returns
returns c = λ own text a b one other.
    let same = c.one_reading.ensures.one text one.spells.tokens other.spells.tokens (Ok one.spells.line) (Ok other.spells.line) one.spells.reads other.spells.reads in
    let denoted = c.one_module.ensures.one one.spells.tokens one.syntax_of other.syntax_of one.spells.derives (subst (λ ts. meaning.Denotes ts other.syntax_of) (sym same.0) other.spells.derives) in
    c.one_outcome.ensures own one.syntax_of a b one.outcome (subst (λ m. IsOutcome own m b) (sym denoted) other.outcome)
