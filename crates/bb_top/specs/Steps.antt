-- What a command answers by its status, all in one record. No public contract cites this.
use Rattle.std.specs.Prelude.{◌≡◌, ◌≢◌, ◌⊎◌, ◌≤◌, ℕ, List, Option}
use Rattle.bb_edge.specs.Causes.{Rose}
use Rattle.bb_edge.specs.Told.{Told, AppendsAll, AppendsFront}
use Rattle.bb_words.specs.Commands.{CommandValue, Compile, Check, Sample}
use Rattle.bb_choose.specs.Arranged.{AreInRange}
use Rattle.bb_read.specs.declared.refusal.Refusal.{Refusal}
use Rattle.bb_read.specs.Lines.{refusal_line}
use Rattle.bb_top.specs.Ends.{Success, success_line, IsDone, IsRefusal, IsUnwritten, Answer, answer_line, IsAsSaid}
use Rattle.bb_top.specs.Needs.{HasNeeds, HasRefusal}

-- what a store and a sink tell, and their counts of faults
pub record Around : Type 0 where
  pub holds : List ℕ → Told
  pub read_faults : ℕ
  pub write_faults : ℕ
  pub told : Option (List ℕ)
  pub put_faults : ℕ

abbrev pub around : (List ℕ → Told) → ℕ → ℕ → Option (List ℕ) → ℕ → Around
around holds read_faults write_faults told put_faults = record { holds = holds; read_faults = read_faults; write_faults = write_faults; told = told; put_faults = put_faults }

-- a write to the store failed, and nothing was put
pub record StoreFailed (command : CommandValue) (old new : Around) : Type 0 where
  pub rose : Rose old.write_faults new.write_faults
  pub silent : new.told ≡ old.told
  pub unwritten : IsUnwritten command old.holds new.holds

-- the sink failed at the line of an answer
pub record SinkFailed (command : CommandValue) (old new : Around) : Type 0 where
  pub rose : Rose old.put_faults new.put_faults
  pub answer : Answer
  pub said : IsAsSaid answer command old.holds new.holds
  pub line : AppendsFront old.told new.told (answer_line answer)

-- what a command has answered
pub record HasAnswered (command : CommandValue) (old new : Around) (status : ℕ) : Type 0 where
  pub known : status ≤ 5
  pub no_usage : status ≢ 2
  pub done : status ≡ 0 → (success : Success) × IsDone command success old.holds new.holds × AppendsAll old.told new.told (success_line success)
  pub refused : status ≡ 1 → (refusal : Refusal) × IsRefusal command refusal old.holds × AppendsAll old.told new.told (refusal_line refusal) × (new.holds ≡ old.holds)
  pub read : status ≡ 3 → Rose old.read_faults new.read_faults × (new.told ≡ old.told) × (new.holds ≡ old.holds)
  pub write : status ≡ 4 → StoreFailed command old new ⊎ SinkFailed command old new
  pub memory : status ≡ 5 → (new.told ≡ old.told) × (new.holds ≡ old.holds)
  pub complete : HasNeeds command old.holds → status ≢ 1
  pub always_refused : (refusal : Refusal) → HasRefusal command refusal old.holds → status ≢ 0

-- the numbers of a command are in their ranges
abbrev pub AreRanged : CommandValue → Type 0
AreRanged (Compile input prefix settings) = AreInRange settings
AreRanged (Check input prefix) = Unit {0}
AreRanged (Sample number prefix settings) = (1 ≤ number) × (number ≤ 65536) × AreInRange settings
