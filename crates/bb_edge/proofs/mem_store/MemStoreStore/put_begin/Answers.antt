use Rattle.std.proofs.Common.{List, [], subst, sym, ap, ◌∙◌, refl}
use Rattle.bb_edge.specs.Told.{Shows}
use Rattle.bb_edge.specs.Files.{FileValue, held}
use Rattle.bb_edge.specs.Calls.{with_call}
use Rattle.bb_edge.specs.Memory.{Memory}
use Rattle.bb_edge.specs.declared.schedule.Step.TheVariants.{PutBegin}
use Rattle.bb_edge.proofs.FileLemmas.{held-with_file, held-with_file-other}
use Rattle.bb_edge.proofs.MemoryLemmas.{HasPlaces-with_file, memory-started}
use Rattle.bb_edge.proofs.mem_store.MemStoreStore.put_begin.Goals as goal

pub invariant_of-self-in-Ok : goal.invariant_of-self-in-Ok
invariant_of-self-in-Ok c = record {
  reading_first = rw c.in-Ok.ensures.ok ((HasPlaces-with_file c.args.name.now [] c.self.inside.files c.self.inside.reading c.self.inside.writing c.self.invariant).reading_first);
  writing_first = c.in-Ok.ensures.place.first;
}

pub returns-in-Ok-clause-ok : goal.returns-in-Ok-clause-ok
returns-in-Ok-clause-ok c =
    let s = c.self.inside in
    memory-started c.args.name.now s.files c.start.new.self c.in-Ok.file s.reading s.writing s.schedule c.count.new.self (with_call PutBegin c.args.self.now.calls) s.read_faults s.write_faults c.args.self.now
    c.in-Ok.ensures.ok c.in-Ok.ensures.place c.self.invariant (c.count.ensures.counted ∙ ap (λ (m : Memory). with_call PutBegin m.calls) c.self.view_is) c.self.view_is

pub returns-in-Ok-clause-emptied : goal.returns-in-Ok-clause-emptied
returns-in-Ok-clause-emptied c =
    subst (λ (files : List FileValue). Shows (held files c.args.name.now) []) (sym c.in-Ok.ensures.ok)
    (let e = held-with_file c.args.name.now [] c.self.inside.files in rw e refl)

pub returns-in-Ok-clause-others : goal.returns-in-Ok-clause-others
returns-in-Ok-clause-others c = λ other apart.
    ap (λ (files : List FileValue). held files other) c.in-Ok.ensures.ok ∙ held-with_file-other c.args.name.now [] c.self.inside.files other apart
    ∙ ap (λ (m : Memory). held m.files other) c.self.view_is
