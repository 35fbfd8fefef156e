use Rattle.std.proofs.Common.{◌≡◌, ℕ, List, Option, Global, String, Vec, string_bytes, map, ap, sym, ◌∙◌, length, min, drop}
use Rattle.std.specs.Option.{option_map}
use Rattle.bb_edge.specs.Files.{FileValue, bytes_at}
use Rattle.bb_edge.specs.Sure.{Sure, rest_at}
use Rattle.bb_edge.specs.declared.files.Place.{Place}
use Rattle.bb_edge.proofs.SureLemmas.{at_some}
use Rattle.bb_edge.proofs.sure_store.SureStoreStore.piece.Goals as goal

abbrev value : String Global × Vec ℕ Global → FileValue
value f = (string_bytes f.0, f.1.items)

pub returns-clause-count : goal.returns-clause-count
returns-clause-count c =
    let place = c.in-Some.place in
    let files = c.self.inside.files.items in
    at_some c.args.self.now.reading (rest_at (map value files) place) (λ rest. c.give-count.result ≡ min (length rest) (length c.args.buf.now))
    (ap (λ (m : Sure). m.reading) (sym c.self.view_is) ∙ ap (λ (r : Option Place). option_map (rest_at (map value files)) r) c.in-Some.is)
    (c.give-count.ensures.count ∙ ap (λ (bytes : List ℕ). min (length (drop place.given bytes)) (length c.args.buf.now)) (c.bytes_or_none.ensures ∙ ap (λ (fs : List (String Global × Vec ℕ Global)). bytes_at (map value fs) place.file) c.deref.ensures.value))
