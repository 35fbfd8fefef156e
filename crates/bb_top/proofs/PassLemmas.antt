-- What is made of a text passes beside it.
use Rattle.std.proofs.Common.{◌≡◌, ◌≤◌, ℕ, List, ◌++◌, length, codes, sym, subst}
use Rattle.bb_edge.specs.Told.{Told, Held}
use Rattle.bb_base.specs.Variables.{bit_count}
use Rattle.bb_base.specs.Named.{Named, IsNamed}
use Rattle.bb_words.specs.declared.command.Settings.{Settings}
use Rattle.bb_words.specs.Commands.{Check}
use Rattle.bb_read.specs.Ready.{IsReady}
use Rattle.bb_make.specs.Artifacts.{ArtifactsValue, AreArtifacts}
use Rattle.bb_audit.specs.Audited.{Audited}
use Rattle.bb_audit.specs.Passing.{AuditPasses}
use Rattle.bb_read.specs.Texts.{file_limit, IsReadable}
use Rattle.bb_sample.specs.Sample.{sample_of}
use Rattle.bb_compile.specs.Made.{IsMade, IsMadeSample, sample_text}
use Rattle.bb_compile.specs.Outputs.{outputs, sample_outputs}
use Rattle.bb_check.specs.Passed.{Texts, IsInputOf, AreTextsOf, Pass}
use Rattle.bb_passing.specs.Passing.{PassAs}
use Rattle.bb_top.specs.Needs.{HasNeeds}
use Rattle.bb_top.specs.Checked.{texts_with, AreShort, AreTold}

-- the laws that it stands on
pub record PassLaws : Type 0 where
  pub ready : (text : List ℕ) (a : Named) → IsReadable a text → IsReady a
  pub pass : (a : Named) (order : List ℕ) (settings : Settings) (made : ArtifactsValue) → IsNamed a → bit_count a.variables ≤ 2097152 → AreArtifacts a order settings made → (f : Audited) × PassAs a made f
  pub enough : (f : Audited) (texts : Texts) → AreTextsOf f texts → AuditPasses f → Pass texts

-- the texts are those of the values that pass
texts_are : (a : Named) (text : List ℕ) (made : ArtifactsValue) (f : Audited) → PassAs a made f → length text ≤ file_limit → IsReadable a text → AreShort made → AreTextsOf f (texts_with text made)
texts_are a text made f is short readable made_short = record {
  input = subst (λ (b : Named). IsInputOf b text) (sym is.original) (short, readable);
  netlist = (made_short.netlist, is.netlist.elaborates);
  schedule = record { short = made_short.schedule; formed = is.plan; is = is.schedule };
  signatures = record { short = made_short.signatures; formed = is.listed; is = is.signatures };
  certificate = record { short = made_short.certificate; formed = is.certified; is = is.certificate };
}

-- what is made of a netlist passes beside a text that denotes it
passes : PassLaws → (settings : Settings) (a : Named) (order text : List ℕ) (made : ArtifactsValue) → length text ≤ file_limit → IsReadable a text → AreArtifacts a order settings made → AreShort made → Pass (texts_with text made)
passes laws settings a order text made short readable artifacts made_short =
    let ready = laws.ready text a readable in
    let found = laws.pass a order settings made ready.named ready.few artifacts in
    laws.enough found.0 (texts_with text made) (texts_are a text made found.0 found.1 short readable made_short) found.1.passes

pub made_passes : PassLaws → (settings : Settings) (text : List ℕ) (made : ArtifactsValue) → IsMade settings text made → AreShort made → Pass (texts_with text made)
made_passes laws settings text made is made_short = passes laws settings is.original is.order text made is.short is.readable is.artifacts made_short

pub made_needs : PassLaws → (settings : Settings) (text : List ℕ) (made : ArtifactsValue) (input prefix : List ℕ) (held : List ℕ → Told) → IsMade settings text made → AreShort made
    → held input ≡ Held text → AreTold (outputs prefix made) held → HasNeeds (Check input prefix) held
made_needs laws settings text made input prefix held is short told files = (texts_with text made, (told, files), made_passes laws settings text made is short)

-- and so does what is made of a sample
pub sample_passes : PassLaws → (settings : Settings) (number : ℕ) (made : ArtifactsValue) → IsMadeSample settings number made → length (sample_text number) ≤ file_limit → AreShort made → Pass (texts_with (sample_text number) made)
sample_passes laws settings number made is short made_short = passes laws settings (sample_of number) is.order (sample_text number) made short is.denotes.readable is.artifacts made_short

pub sample_needs : PassLaws → (settings : Settings) (number : ℕ) (made : ArtifactsValue) (prefix : List ℕ) (held : List ℕ → Told) → IsMadeSample settings number made → length (sample_text number) ≤ file_limit
    → AreShort made → AreTold (sample_outputs prefix number made) held → HasNeeds (Check (prefix ++ codes ".in.v") prefix) held
sample_needs laws settings number made prefix held is short made_short files = (texts_with (sample_text number) made, files, sample_passes laws settings number made is short made_short)
