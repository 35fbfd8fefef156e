-- What a command needs to be done, and what stands against it, by what the files hold.
use Rattle.std.specs.Prelude.{◌≡◌, ℕ, ◌≤◌, List, length}
use Rattle.bb_edge.specs.Told.{Told, Held}
use Rattle.bb_base.specs.Order.{IsOrder}
use Rattle.bb_base.specs.Named.{Named}
use Rattle.bb_words.specs.declared.command.Settings.{Settings}
use Rattle.bb_words.specs.Commands.{CommandValue, Compile, Check, Sample, names_read}
use Rattle.bb_choose.specs.Enough.{IsEnough}
use Rattle.bb_sample.specs.Sample.{sample_of}
use Rattle.bb_read.specs.declared.refusal.Refusal.{Refusal}
use Rattle.bb_read.specs.Texts.{file_limit, IsReadable}
use Rattle.bb_compile.specs.Causes.{IsRefused, IsSampleRefused}
use Rattle.bb_check.specs.Passed.{Texts, Pass}
use Rattle.bb_check.specs.Refused.{AreRefused}
use Rattle.bb_check.specs.Told.{HoldTexts, in_order, read_for}

-- a plan of the netlist can be chosen: its gates have an order, and there is room
pub record IsPlannable (settings : Settings) (a : Named) : Type 0 where
  pub order : List ℕ
  pub ordered : IsOrder a.netlist.gates order
  pub enough : IsEnough a.netlist order settings

-- the text denotes a netlist with room for a plan
pub record IsCompilable (settings : Settings) (text : List ℕ) : Type 0 where
  pub short : length text ≤ file_limit
  pub original : Named
  pub readable : IsReadable original text
  pub room : IsPlannable settings original

-- what the command needs is told: a text with room for a plan, texts that pass, or room for a plan of the sample
abbrev pub HasNeeds : CommandValue → (List ℕ → Told) → Type 0
HasNeeds (Compile input prefix settings) old = (text : List ℕ) × (old input ≡ Held text) × IsCompilable settings text
HasNeeds (Check input prefix) old = (texts : Texts) × HoldTexts old (names_read (Check input prefix)) (in_order texts) × Pass texts
HasNeeds (Sample number prefix settings) old = IsPlannable settings (sample_of number)

-- what is told has this refusal: of the files of `check` those are told that are read for it
abbrev pub HasRefusal : CommandValue → Refusal → (List ℕ → Told) → Type 0
HasRefusal (Compile input prefix settings) refusal old = (text : List ℕ) × (old input ≡ Held text) × IsRefused settings refusal text
HasRefusal (Check input prefix) refusal old = (texts : Texts) × HoldTexts old (names_read (Check input prefix)) (read_for refusal texts) × AreRefused refusal texts
HasRefusal (Sample number prefix settings) refusal old = IsSampleRefused settings number refusal
