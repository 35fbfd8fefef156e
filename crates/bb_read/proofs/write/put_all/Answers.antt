use Rattle.std.proofs.Common.{◌≡◌, ◌∙◌, arith, rules, ◌++◌}
use Rattle.std.proofs.lemmas.List.{take-append-drop}
use Rattle.bb_read.proofs.WriteLemmas.{written_more, written_front, same_more}
use Rattle.bb_read.proofs.write.put_all.Goals as goal

pub returns-in_err-put_piece-clause-front : goal.returns-in_err-put_piece-clause-front
returns-in_err-put_piece-clause-front g c =
    let split : c.pieces.rest.now ≡ c.split_at.result.0.now ++ c.split_at.result.1.now = grind (arith, take-append-drop) in
    let front = written_front (g.S.Store.writing c.args.store.now) (g.S.Store.writing c.pieces.store) (g.S.Store.holds c.args.store.now) (g.S.Store.holds c.pieces.store) (g.S.Store.holds c.put_piece.new.self) c.pieces.rest.now c.split_at.result.0.now c.split_at.result.1.now c.args.text.now c.pieces.invariant.writing c.pieces.invariant.written c.in_err-put_piece.ensures.front split in
    search (rules, front)

pub pieces-preserved : goal.pieces-preserved
pieces-preserved g c =
    let split : c.pieces.rest.now ≡ c.split_at.result.0.now ++ c.split_at.result.1.now = grind (arith, take-append-drop) in
    record {
      writing = c.in_ok-put_piece.ensures.goes_on ∙ c.pieces.invariant.writing;
      written = written_more (g.S.Store.writing c.args.store.now) (g.S.Store.writing c.pieces.store) (g.S.Store.holds c.args.store.now) (g.S.Store.holds c.pieces.store) (g.S.Store.holds c.put_piece.new.self) c.pieces.rest.now c.split_at.result.0.now c.split_at.result.1.now c.args.text.now c.pieces.invariant.writing c.pieces.invariant.written c.in_ok-put_piece.ensures.all split;
      others = same_more (g.S.Store.writing c.args.store.now) (g.S.Store.writing c.pieces.store) (g.S.Store.holds c.args.store.now) (g.S.Store.holds c.pieces.store) (g.S.Store.holds c.put_piece.new.self) c.pieces.invariant.writing c.pieces.invariant.others c.put_piece.ensures.others;
      read_faults = c.put_piece.ensures.read_faults ∙ c.pieces.invariant.read_faults;
      faults = c.in_ok-put_piece.ensures.cause.kept ∙ c.pieces.invariant.faults;
    }
