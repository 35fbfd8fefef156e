use Rattle.std.proofs.Common.{ap, ◌∙◌}
use Rattle.bb_edge.specs.Memory.{Memory}
use Rattle.bb_edge.proofs.MemoryLemmas.{cuts-same}
use Rattle.bb_edge.proofs.mem_store.MemStoreStore.put_end.Goals as goal

pub returns-then-count-clause-front : goal.returns-then-count-clause-front
returns-then-count-clause-front c =
    cuts-same c.args.self.now.writing c.args.self.now.files c.fail_put.new.self.files (ap (λ (m : Memory). m.files) c.fail_put.ensures.counted ∙ ap (λ (m : Memory). m.files) c.self.view_is)
