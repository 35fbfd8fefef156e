-- How a call may end, and what the files then hold. The lines are this project's own.
use Rattle.std.specs.Prelude.{◌≡◌, ℕ, List, [], codes, Option}
use Rattle.bb_edge.specs.Files.{FileValue}
use Rattle.bb_edge.specs.Told.{Told, AppendsFront}
use Rattle.bb_read.specs.Files.{AreWhole, SameButAll, AreCutShort}
use Rattle.bb_words.specs.Commands.{CommandValue, Compile, Check, Sample, names_written, HasSameName}
use Rattle.bb_words.specs.Calls.{Means}
use Rattle.bb_make.specs.Artifacts.{ArtifactsValue}
use Rattle.bb_read.specs.declared.refusal.Refusal.{Refusal}
use Rattle.bb_read.specs.Lines.{refusal_line}
use Rattle.bb_compile.specs.Made.{IsMadeSample}
use Rattle.bb_compile.specs.Causes.{IsSampleRefused}
use Rattle.bb_compile.specs.Outputs.{outputs, sample_outputs, done_line}
use Rattle.bb_compile.specs.Prepared.{IsMadeOf, IsRefusedOf}
use Rattle.bb_check.specs.Told.{FilesPass, AreFilesRefused}

-- the line of words that mean no command
abbrev pub usage_line : List ℕ
usage_line = codes "usage: bilbo compile IN PREFIX [options] | check IN PREFIX | sample N PREFIX [options]\n"

-- the line of words whose command would write the file that it reads
abbrev pub same_name_line : List ℕ
same_name_line = codes "refused words: same name\n"

-- the line of files that pass
abbrev pub pass_line : List ℕ
pass_line = codes "pass\n"

-- words that mean no command
abbrev pub MeanNothing : List (List ℕ) → Type 0
MeanNothing words = (command : CommandValue) → Means words command → ⊥

-- what a command has done: it has made artifacts, or the files pass
pub data Success : Type 0 where
  Made : (made : ArtifactsValue) → Success
  Passed : Success

-- the artifacts are made of the text of IN, where that is told, or of the sample
abbrev pub IsMadeFor : CommandValue → (List ℕ → Told) → ArtifactsValue → Type 0
IsMadeFor (Compile input prefix settings) old made = IsMadeOf input settings old made
IsMadeFor (Check input prefix) old made = ⊥
IsMadeFor (Sample number prefix settings) old made = IsMadeSample settings number made

-- the files that a command writes then, in order
abbrev pub files_for : CommandValue → ArtifactsValue → List FileValue
files_for (Compile input prefix settings) made = outputs prefix made
files_for (Check input prefix) made = []
files_for (Sample number prefix settings) made = sample_outputs prefix number made

-- the files hold what is made, and no other name has changed
pub record AreWritten (command : CommandValue) (made : ArtifactsValue) (old new : List ℕ → Told) : Type 0 where
  pub made_for : IsMadeFor command old made
  pub whole : AreWhole (files_for command made) new
  pub others : SameButAll (names_written command) old new

-- the texts of the five files, where they are told, pass: the netlist of PREFIX.v is a self-test of that of IN
abbrev pub HavePassed : CommandValue → (List ℕ → Told) → Type 0
HavePassed (Compile input prefix settings) old = ⊥
HavePassed (Check input prefix) old = FilesPass input prefix old
HavePassed (Sample number prefix settings) old = ⊥

-- the command is done
abbrev pub IsDone : CommandValue → Success → (List ℕ → Told) → (List ℕ → Told) → Type 0
IsDone command (Made made) old new = AreWritten command made old new
IsDone command Passed old new = HavePassed command old × (new ≡ old)

-- the command is refused: the text of IN has this refusal, where that is told, or the files have it, or the sample
abbrev pub IsRefusal : CommandValue → Refusal → (List ℕ → Told) → Type 0
IsRefusal (Compile input prefix settings) refusal old = IsRefusedOf input settings old refusal
IsRefusal (Check input prefix) refusal old = AreFilesRefused input prefix refusal old
IsRefusal (Sample number prefix settings) refusal old = IsSampleRefused settings number refusal

-- a write failed: what is made stands up to the file that failed, and no other name has changed
pub record IsUnwritten (command : CommandValue) (old new : List ℕ → Told) : Type 0 where
  pub made : ArtifactsValue
  pub made_for : IsMadeFor command old made
  pub cut : AreCutShort (files_for command made) old new
  pub others : SameButAll (names_written command) old new

-- the answers that put a line
pub data Answer : Type 0 where
  Done : (success : Success) → Answer
  Refused : (refusal : Refusal) → Answer
  Usage : Answer
  SameName : Answer

-- the line of a command that is done
abbrev pub success_line : Success → List ℕ
success_line (Made made) = done_line made.summary
success_line Passed = pass_line

-- the line of an answer
abbrev pub answer_line : Answer → List ℕ
answer_line (Done success) = success_line success
answer_line (Refused refusal) = refusal_line refusal
answer_line Usage = usage_line
answer_line SameName = same_name_line

-- the files are as the answer to a command says: only one that is done changes them
abbrev pub IsAsSaid : Answer → CommandValue → (List ℕ → Told) → (List ℕ → Told) → Type 0
IsAsSaid (Done success) command old new = IsDone command success old new
IsAsSaid (Refused refusal) command old new = IsRefusal command refusal old × (new ≡ old)
IsAsSaid Usage command old new = ⊥
IsAsSaid SameName command old new = HasSameName command × (new ≡ old)

-- the words and the files are as the answer says
pub record IsAnswerTo (answer : Answer) (words : List (List ℕ)) (old new : List ℕ → Told) : Type 0 where
  pub command : CommandValue
  pub means : Means words command
  pub said : IsAsSaid answer command old new

abbrev pub IsAsAnswered : Answer → List (List ℕ) → (List ℕ → Told) → (List ℕ → Told) → Type 0
IsAsAnswered (Done success) words old new = IsAnswerTo (Done success) words old new
IsAsAnswered (Refused refusal) words old new = IsAnswerTo (Refused refusal) words old new
IsAsAnswered Usage words old new = MeanNothing words × (new ≡ old)
IsAsAnswered SameName words old new = IsAnswerTo SameName words old new

-- the sink failed: all is as the answer says, whose line was put only in front
pub record IsUnsaid (words : List (List ℕ)) (old new : List ℕ → Told) (told_old told_new : Option (List ℕ)) : Type 0 where
  pub answer : Answer
  pub files : IsAsAnswered answer words old new
  pub line : AppendsFront told_old told_new (answer_line answer)
