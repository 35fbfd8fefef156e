-- What `compile` makes, as `check` reads it.
use Rattle.std.specs.Prelude.{◌≡◌, ◌≤◌, List, ℕ, length}
use Rattle.std.specs.List.{AllByRecursion}
use Rattle.bb_edge.specs.Files.{FileValue}
use Rattle.bb_edge.specs.Told.{Told, Held}
use Rattle.bb_make.specs.Artifacts.{ArtifactsValue}
use Rattle.bb_read.specs.Texts.{output_limit}
use Rattle.bb_check.specs.Passed.{Texts}

-- the text of IN and those that are made of it
abbrev pub texts_with : List ℕ → ArtifactsValue → Texts
texts_with text made = record { input = text; netlist = made.netlist; schedule = made.schedule; signatures = made.signatures; certificate = made.certificate }

-- none of the texts that are made has more bytes than are read
pub record AreShort (made : ArtifactsValue) : Type 0 where
  pub netlist : length made.netlist ≤ output_limit
  pub schedule : length made.schedule ≤ output_limit
  pub signatures : length made.signatures ≤ output_limit
  pub certificate : length made.certificate ≤ output_limit

-- each file is told to hold its whole text
abbrev pub AreTold : List FileValue → (List ℕ → Told) → Type 0
AreTold files held = AllByRecursion (λ f. held f.0 ≡ Held f.1) files
