use Rattle.std.proofs.Common.{string_bytes, refl}
use Rattle.bb_words.proofs.Reading.{step, stop_none, stop_full, some_left}
use Rattle.bb_words.proofs.said.said_in.Goals as goal

pub returns-in_err-piece-clause-none : goal.returns-in_err-piece-clause-none
returns-in_err-piece-clause-none c = λ _ pieces sound written few.
    stop_none _ _ c.pieces.said c.pieces.invariant (some_left (λ w. string_bytes w) c.pieces.rest.now c.is_empty.result c.is_empty.ensures c.pieces-test.true) (c.in_err-piece.ensures.none refl) pieces sound written few

pub returns-in_err-said-clause-none : goal.returns-in_err-said-clause-none
returns-in_err-said-clause-none c = λ _ pieces sound written few.
    stop_full _ _ _ c.pieces.said c.in_ok-piece.piece c.pieces.invariant c.in_ok-piece.ensures.found (c.in_err-said.ensures.none refl) pieces sound written few

pub pieces-preserved : goal.pieces-preserved
pieces-preserved c =
    step _ _ _ c.pieces.said c.in_ok-said.said c.in_ok-piece.piece c.pieces.invariant c.in_ok-piece.ensures.found c.in_ok-said.ensures.words c.in_ok-said.ensures.numbers
