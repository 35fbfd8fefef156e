-- What stands between reading and writing: the files and the line of a call that will be done, or why it is refused (this project's own).
use Rattle.std.specs.Prelude.{◌≡◌, ℕ, List}
use Rattle.bb_edge.specs.Files.{FileValue}
use Rattle.bb_edge.specs.Told.{Told, Held}
use Rattle.bb_words.specs.declared.command.Settings.{Settings}
use Rattle.bb_make.specs.Artifacts.{ArtifactsValue}
use Rattle.bb_read.specs.declared.refusal.Refusal.{Refusal}
use Rattle.bb_compile.specs.Made.{IsMade, IsMadeSample}
use Rattle.bb_compile.specs.Causes.{IsRefused}
use Rattle.bb_compile.specs.Outputs.{outputs, sample_outputs, done_line}

-- the files that are to be written, and the line that is to be put then
pub record PreparedValue : Type 0 where
  pub files : List FileValue
  pub line : List ℕ

-- they are made of the text that this name holds, where that is told
abbrev pub IsMadeOf : (input : List ℕ) → Settings → (List ℕ → Told) → ArtifactsValue → Type 0
IsMadeOf input settings held made = (text : List ℕ) → held input ≡ Held text → IsMade settings text made

-- the text that this name holds has the refusal, where that is told
abbrev pub IsRefusedOf : (input : List ℕ) → Settings → (List ℕ → Told) → Refusal → Type 0
IsRefusedOf input settings held refusal = (text : List ℕ) → held input ≡ Held text → IsRefused settings refusal text

-- these are the files and the line of what is made of the input's text
pub record IsPrepared (input prefix : List ℕ) (settings : Settings) (held : List ℕ → Told) (prepared : PreparedValue) : Type 0 where
  pub made : ArtifactsValue
  pub made_of : IsMadeOf input settings held made
  pub files : prepared.files ≡ outputs prefix made
  pub line : prepared.line ≡ done_line made.summary

-- these are the files and the line of what is made of the sample of this number
pub record IsPreparedSample (number : ℕ) (prefix : List ℕ) (settings : Settings) (prepared : PreparedValue) : Type 0 where
  pub made : ArtifactsValue
  pub made_of : IsMadeSample settings number made
  pub files : prepared.files ≡ sample_outputs prefix number made
  pub line : prepared.line ≡ done_line made.summary
