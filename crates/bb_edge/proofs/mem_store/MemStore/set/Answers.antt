use Rattle.std.proofs.Common.{ap}
use Rattle.bb_edge.specs.Memory.{Memory}
use Rattle.bb_edge.proofs.MemoryLemmas.{HasPlaces-with_file, memory-with_file}
use Rattle.bb_edge.proofs.mem_store.MemStore.set.Goals as goal

pub invariant_of-self-2 : goal.invariant_of-self-2
invariant_of-self-2 c =
    rw c.in_ok-set.ensures.ok (HasPlaces-with_file c.args.name.now c.args.bytes.now c.self.inside.files c.self.inside.reading c.self.inside.writing c.self.invariant)

pub returns-clause-ok : goal.returns-clause-ok
returns-clause-ok c =
    let s = c.self.inside in
    memory-with_file c.args.name.now c.args.bytes.now s.files c.set.new.self s.reading s.writing s.schedule s.schedule c.args.self.now.calls s.read_faults s.write_faults c.args.self.now
    c.in_ok-set.ensures.ok c.self.invariant (ap (λ (m : Memory). m.calls) c.self.view_is) c.self.view_is
