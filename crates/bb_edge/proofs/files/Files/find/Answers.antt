use Rattle.std.proofs.Common.{◌≡◌, ℕ, List, Option, None, Some, MatchOption, ◌∙◌, ap, position, sym}
use Rattle.std.specs.Str.{bytes_eq}
use Rattle.bb_edge.specs.Told.{Absent}
use Rattle.bb_edge.specs.Files.{FileValue, IsPlaceOf, held, file_place}
use Rattle.bb_edge.proofs.FileLemmas.{held-none, is_place-found, position-name}
use Rattle.bb_edge.proofs.files.Files.find.Goals as goal

pub returns-clause-value : goal.returns-clause-value
returns-clause-value c =
    c.find.ensures ∙ ap (λ (files : List FileValue). position (λ (f : FileValue). bytes_eq f.0 c.args.name.now) files) (c.deref.ensures.value ∙ c.self.view_is) ∙ position-name c.args.name.now c.args.self.now

-- what a search for the name found
found : (name : List ℕ) (files : List FileValue) (place : Option ℕ) → place ≡ file_place name files → MatchOption place (held files name ≡ Absent) (λ i. IsPlaceOf files name i)
found name files None e = held-none name files (sym e)
found name files (Some i) e = is_place-found name files i (sym e)

pub returns-clause-cases : goal.returns-clause-cases
returns-clause-cases c = found c.args.name.now c.args.self.now c.find.result (returns-clause-value c)
