use Rattle.bb_edge.proofs.TellsNothing.{front-untold}
use Rattle.bb_edge.proofs.dir_store.DirStoreStore.put_piece.Goals as goal

pub returns-in-Err-clause-front : goal.returns-in-Err-clause-front
returns-in-Err-clause-front g c = front-untold c.args.self.now.writing c.args.bytes.now
