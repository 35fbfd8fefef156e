-- What is answered of the files that a store tells (this project's own).
use Rattle.std.specs.Prelude.{◌≡◌, ℕ, List, [], ◌∷◌, ◌++◌, codes}
use Rattle.bb_edge.specs.Told.{Told, Held}
use Rattle.bb_audit.specs.Audited.{Audited}
use Rattle.bb_words.specs.Commands.{files_of}
use Rattle.bb_read.specs.declared.refusal.Refusal.{Refusal}
use Rattle.bb_read.specs.declared.refusal.Refusal.TheVariants.{Input, Plan, Netlist, Schedule, Signatures, Certificate, Check}
use Rattle.bb_check.specs.Passed.{Texts, IsInputOf, IsNetlistOf, IsScheduleOf, IsSignedBy, IsCertificateOf, Pass}
use Rattle.bb_check.specs.Refused.{AreRefused}

-- the texts in the order in which they are read
abbrev pub in_order : Texts → List (List ℕ)
in_order texts = texts.input ∷ texts.netlist ∷ texts.schedule ∷ texts.signatures ∷ texts.certificate ∷ []

-- those that were read for a refusal
abbrev pub read_for : Refusal → Texts → List (List ℕ)
read_for (Input fault) texts = texts.input ∷ []
read_for (Plan fault) texts = []
read_for (Netlist fault) texts = texts.input ∷ texts.netlist ∷ []
read_for (Schedule fault) texts = texts.input ∷ texts.netlist ∷ texts.schedule ∷ []
read_for (Signatures fault) texts = texts.input ∷ texts.netlist ∷ texts.schedule ∷ texts.signatures ∷ []
read_for (Certificate fault) texts = in_order texts
read_for (Check rule place) texts = in_order texts

-- each text is told to be what its name holds, where the names stand in the same order
abbrev pub HoldTexts : (List ℕ → Told) → (names texts : List (List ℕ)) → Type 0
HoldTexts old names [] = Unit {0}
HoldTexts old [] (text ∷ texts) = ⊥
HoldTexts old (name ∷ names) (text ∷ texts) = (old name ≡ Held text) × HoldTexts old names texts

-- what the name is told to hold is this
abbrev pub Tells : (List ℕ → Told) → List ℕ → (List ℕ → Type 0) → Type 0
Tells old name Is = (text : List ℕ) → old name ≡ Held text → Is text

-- each file is told to be of its part of what is judged
pub record AreFilesOf (old : List ℕ → Told) (input prefix : List ℕ) (f : Audited) : Type 0 where
  pub input_is : Tells old input (IsInputOf f.original)
  pub netlist : Tells old (prefix ++ codes ".v") (IsNetlistOf f.written)
  pub schedule : Tells old (prefix ++ codes ".sched") (IsScheduleOf f.plan)
  pub signatures : Tells old (prefix ++ codes ".sig") (IsSignedBy f.signatures)
  pub certificate : Tells old (prefix ++ codes ".cert") (IsCertificateOf f.certificate)

-- the files of the prefix pass beside the input, where all of them are told
abbrev pub FilesPass : (input prefix : List ℕ) → (List ℕ → Told) → Type 0
FilesPass input prefix old = (texts : Texts) → HoldTexts old (input ∷ files_of prefix) (in_order texts) → Pass texts

-- they have this refusal, where those are told that were read for it
abbrev pub AreFilesRefused : (input prefix : List ℕ) → Refusal → (List ℕ → Told) → Type 0
AreFilesRefused input prefix refusal old = (texts : Texts) → HoldTexts old (input ∷ files_of prefix) (read_for refusal texts) → AreRefused refusal texts
