use Rattle.std.proofs.Common.{◌≡◌, ◌++◌, ℕ, List, Option, Some, IfSome, ap, subst, sym, ◌∙◌}
use Rattle.std.specs.Option.{option_map}
use Rattle.bb_edge.specs.Told.{Extends, SameBut}
use Rattle.bb_edge.specs.Files.{FileValue, IsPlace, held, told_text, file_name, bytes_at, with_file}
use Rattle.bb_edge.specs.Calls.{with_call}
use Rattle.bb_edge.specs.Memory.{Memory}
use Rattle.bb_edge.specs.declared.schedule.Step.TheVariants.{PutPiece}
use Rattle.bb_edge.proofs.FileLemmas.{held-with_file, held-with_file-other}
use Rattle.bb_edge.proofs.MemoryLemmas.{HasPlaces-with_file, at_name, extends-held, front-same, held-at, memory_at, memory-with_file, writing-with_file}
use Rattle.bb_edge.proofs.mem_store.MemStoreStore.put_piece.Goals as goal

pub invariant_of-self : goal.invariant_of-self
invariant_of-self c =
    let s = c.self.inside in
    rw c.in-Ok.ensures.ok (HasPlaces-with_file (file_name s.files c.in-Some.file) (bytes_at s.files c.in-Some.file ++ c.args.bytes.now) s.files s.reading s.writing c.self.invariant)

pub returns-in-Ok-clause-ok : goal.returns-in-Ok-clause-ok
returns-in-Ok-clause-ok c =
    let s = c.self.inside in
    let file = c.in-Some.file in
    let name = file_name s.files file in
    let had = bytes_at s.files file in
    let memory = c.args.self.now in
    let later = with_call PutPiece memory.calls in
    let is_place : IsPlace s.files file = subst (λ (w : Option ℕ). IfSome w (λ f. IsPlace s.files f)) c.in-Some.is c.self.invariant.writing_first in
    let named : memory.writing ≡ Some name = ap (λ (m : Memory). m.writing) (sym c.self.view_is) ∙ ap (λ (w : Option ℕ). option_map (file_name s.files) w) c.in-Some.is in
    let text : told_text (held memory.files name) ≡ had = ap (λ (m : Memory). told_text (held m.files name)) (sym c.self.view_is) ∙ ap told_text (held-at s.files file is_place) in
    at_name memory.writing name (λ n. memory_at c.append.new.self s.reading s.writing c.count-due.new.self s.read_faults s.write_faults ≡ record memory { files = with_file n (told_text (held memory.files n) ++ c.args.bytes.now) memory.files; calls = later }) named
    (memory-with_file name (had ++ c.args.bytes.now) s.files c.append.new.self s.reading s.writing s.schedule c.count-due.new.self later s.read_faults s.write_faults memory c.in-Ok.ensures.ok c.self.invariant
    (c.count-due.ensures.counted ∙ ap (λ (m : Memory). with_call PutPiece m.calls) c.self.view_is) c.self.view_is
    ∙ ap (λ (bytes : List ℕ). record memory { files = with_file name (bytes ++ c.args.bytes.now) memory.files; calls = later }) (sym text))

pub returns-in-Ok-clause-goes_on : goal.returns-in-Ok-clause-goes_on
returns-in-Ok-clause-goes_on c =
    let s = c.self.inside in
    ap (λ (files : List FileValue). option_map (file_name files) s.writing) c.in-Ok.ensures.ok
    ∙ writing-with_file (file_name s.files c.in-Some.file) (bytes_at s.files c.in-Some.file ++ c.args.bytes.now) s.files s.writing c.self.invariant.writing_first ∙ ap (λ (m : Memory). m.writing) c.self.view_is

pub returns-in-Ok-clause-all : goal.returns-in-Ok-clause-all
returns-in-Ok-clause-all c =
    let s = c.self.inside in
    let file = c.in-Some.file in
    let name = file_name s.files file in
    let had = bytes_at s.files file in
    let memory = c.args.self.now in
    let is_place : IsPlace s.files file = subst (λ (w : Option ℕ). IfSome w (λ f. IsPlace s.files f)) c.in-Some.is c.self.invariant.writing_first in
    let named : memory.writing ≡ Some name = ap (λ (m : Memory). m.writing) (sym c.self.view_is) ∙ ap (λ (w : Option ℕ). option_map (file_name s.files) w) c.in-Some.is in
    at_name memory.writing name (λ n. Extends (held memory.files n) (held c.append.new.self n) c.args.bytes.now) named
    (extends-held had c.args.bytes.now (held memory.files name) (held c.append.new.self name)
    (ap (λ (m : Memory). held m.files name) (sym c.self.view_is) ∙ held-at s.files file is_place)
    (ap (λ (files : List FileValue). held files name) c.in-Ok.ensures.ok ∙ held-with_file name (had ++ c.args.bytes.now) s.files))

pub returns-in-Ok-clause-others : goal.returns-in-Ok-clause-others
returns-in-Ok-clause-others c =
    let s = c.self.inside in
    let file = c.in-Some.file in
    let name = file_name s.files file in
    let memory = c.args.self.now in
    let named : memory.writing ≡ Some name = ap (λ (m : Memory). m.writing) (sym c.self.view_is) ∙ ap (λ (w : Option ℕ). option_map (file_name s.files) w) c.in-Some.is in
    at_name memory.writing name (λ n. SameBut n (held memory.files) (held c.append.new.self)) named
    (λ other apart. ap (λ (files : List FileValue). held files other) c.in-Ok.ensures.ok ∙ held-with_file-other name (bytes_at s.files file ++ c.args.bytes.now) s.files other apart
    ∙ ap (λ (m : Memory). held m.files other) c.self.view_is)

pub returns-in-Err-clause-front : goal.returns-in-Err-clause-front
returns-in-Err-clause-front c =
    front-same c.args.self.now.writing c.args.bytes.now c.args.self.now.files c.fail_put.new.self.files
    (ap (λ (m : Memory). m.files) c.fail_put.ensures.counted ∙ c.in-Err.ensures.err ∙ ap (λ (m : Memory). m.files) c.self.view_is)
