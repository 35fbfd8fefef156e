-- What is made of a text, and of a sample netlist (this project's own).
use Rattle.std.specs.Prelude.{◌≡◌, ℕ, ◌≤◌, false, List, length, Result, Ok}
use Rattle.bb_base.specs.Order.{IsOrder}
use Rattle.bb_base.specs.Named.{Named, design_of}
use Rattle.bb_fault.specs.declared.fault.ElabFault.{ElabFault}
use Rattle.bb_meaning.specs.Denotes.{ElaboratesTo}
use Rattle.bb_spell.specs.Canonical.{canonical_text}
use Rattle.bb_sample.specs.Sample.{sample_of}
use Rattle.bb_words.specs.declared.command.Settings.{Settings}
use Rattle.bb_make.specs.Artifacts.{ArtifactsValue, AreArtifacts}
use Rattle.bb_read.specs.Texts.{file_limit, IsReadable}

-- These are made of the text for the settings: it isn't too long, and they are the artifacts of the netlist that it denotes, whose gates
-- have this order.
pub record IsMade (settings : Settings) (text : List ℕ) (made : ArtifactsValue) : Type 0 where
  pub short : length text ≤ file_limit
  pub original : Named
  pub readable : IsReadable original text
  pub order : List ℕ
  pub ordered : IsOrder original.netlist.gates order
  pub artifacts : AreArtifacts original order settings made

-- the text of the sample of this number
abbrev pub sample_text : ℕ → List ℕ
sample_text number = canonical_text (design_of (sample_of number))

-- the text denotes this netlist, as the input of `compile` does, and nothing else
pub record IsReadAlone (a : Named) (text : List ℕ) : Type 0 where
  pub readable : IsReadable a text
  pub only : (result : Result Named ElabFault) → ElaboratesTo false text result → result ≡ Ok a

-- These are made of the sample of this number for the settings: they are its artifacts, and its text denotes it.
pub record IsMadeSample (settings : Settings) (number : ℕ) (made : ArtifactsValue) : Type 0 where
  pub denotes : IsReadAlone (sample_of number) (sample_text number)
  pub order : List ℕ
  pub ordered : IsOrder (sample_of number).netlist.gates order
  pub artifacts : AreArtifacts (sample_of number) order settings made
