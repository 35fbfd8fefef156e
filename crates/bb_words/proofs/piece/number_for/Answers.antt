use Rattle.bb_words.proofs.Pieces.{outside}
use Rattle.bb_words.proofs.piece.number_for.Goals as goal

pub returns-then-number-range-clause-none : goal.returns-then-number-range-clause-none
returns-then-number-range-clause-none c = λ _ n range text.
    outside c.args.setting c.in_ok-number.number n c.range-range.result.least c.range-range.result.most c.args.text.now c.range-range.ensures.least
    c.range-range.ensures.most c.then-number-range.either c.in_ok-number.ensures.found.2 c.in_ok-number.ensures.found.1 range text
