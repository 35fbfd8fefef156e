use Rattle.std.proofs.Common.{◌≡◌, ◌+◌, ◌++◌, ℕ, List, Option, length, min, drop, take, IfSome, ap, subst, sym, ◌∙◌}
use Rattle.std.proofs.lemmas.List.{drop-drop}
use Rattle.bb_edge.specs.Told.{Told, Left}
use Rattle.bb_edge.specs.Files.{IsPlace, told_text, bytes_at}
use Rattle.bb_edge.specs.Memory.{reading_of}
use Rattle.bb_edge.specs.declared.files.Place.{Place}
use Rattle.bb_edge.proofs.MemoryLemmas.{gives, held-at, rest-at}
use Rattle.bb_edge.proofs.mem_store.MemStoreStore.piece.Goals as goal

pub returns-in-Some-clause-count : goal.returns-in-Some-clause-count
returns-in-Some-clause-count c = λ rest left.
    let s = c.self.inside in
    let place = c.in-Some.place in
    let given = c.give-count.result in
    let buf = c.args.buf.now in
    let same : drop place.given c.bytes.result.now ≡ rest = ap (drop place.given) c.bytes.ensures ∙ rest-at s.files s.reading place rest c.in-Some.is c.self.invariant.reading_first (ap reading_of c.self.view_is ∙ left) in
    (c.give-count.ensures.count ∙ ap (λ (xs : List ℕ). min (length xs) (length buf)) same, c.give-count.ensures.bytes ∙ ap (λ (xs : List ℕ). take given xs ++ drop given buf) same)

pub returns-in-Some-clause-bytes : goal.returns-in-Some-clause-bytes
returns-in-Some-clause-bytes c = λ rest left.
    let s = c.self.inside in
    let place = c.in-Some.place in
    let given = c.give-count.result in
    let counts = returns-in-Some-clause-count c rest left in
    let is_place : IsPlace s.files place.file = subst (λ (r : Option Place). IfSome r (λ p. IsPlace s.files p.file)) c.in-Some.is c.self.invariant.reading_first in
    let behind : drop place.given (bytes_at s.files place.file) ≡ rest = rest-at s.files s.reading place rest c.in-Some.is c.self.invariant.reading_first (ap reading_of c.self.view_is ∙ left) in (
      gives rest c.args.buf.now c.give-count.new.buf given c.requires.room counts.0 counts.1,
      ap Left (ap (λ (t : Told). drop (place.given + given) (told_text t)) (held-at s.files place.file is_place) ∙ sym (drop-drop given place.given (bytes_at s.files place.file)) ∙ ap (drop given) behind),
    )
