use Rattle.std.proofs.Common.{◌≡◌, ◌∙◌, sym, arith}
use Rattle.std.proofs.lemmas.Fmt.{decimal_injective}
use Rattle.bb_words.proofs.call.sample_number.Goals as goal

pub returns-then-number-gt-MAX_SAMPLE-clause-none : goal.returns-then-number-gt-MAX_SAMPLE-clause-none
returns-then-number-gt-MAX_SAMPLE-clause-none c = λ _ n some small text.
    let found = c.in_ok-number.ensures.found in
    let same : c.in_ok-number.number ≡ n = decimal_injective c.in_ok-number.number n found.1 (omega arith) (sym found.2 ∙ text) in
    omega arith
