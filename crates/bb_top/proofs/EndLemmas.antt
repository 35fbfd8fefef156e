-- How a command ends, from what was prepared, written and put.
use Rattle.std.proofs.Common.{◌≡◌, ◌≢◌, ◌⊎◌, ◌≤◌, inl, inr, Option, ℕ, List, ◌∙◌, sym, subst, arith}
use Rattle.bb_edge.specs.Causes.{Rose}
use Rattle.bb_edge.specs.Files.{FileValue}
use Rattle.bb_edge.specs.Told.{Told, AppendsAll, AppendsFront}
use Rattle.bb_read.specs.Files.{AreWhole, SameButAll, AreCutShort, names_of}
use Rattle.bb_words.specs.Commands.{CommandValue, names_written}
use Rattle.bb_words.specs.Calls.{Means}
use Rattle.bb_make.specs.Artifacts.{ArtifactsValue}
use Rattle.bb_read.specs.declared.refusal.Refusal.{Refusal}
use Rattle.bb_read.specs.declared.stop.Stop.{Stop}
use Rattle.bb_read.specs.declared.stop.Stop.TheVariants as stops
use Rattle.bb_read.specs.Lines.{refusal_line}
use Rattle.bb_compile.specs.Outputs.{done_line}
use Rattle.bb_top.specs.Ends.{Made, Passed, IsMadeFor, files_for, HavePassed, IsRefusal, IsUnwritten, Answer, Done, Refused, Usage, SameName, answer_line, IsAsSaid, IsUnsaid, pass_line}
use Rattle.bb_top.specs.Needs.{HasNeeds, HasRefusal}
use Rattle.bb_top.specs.Steps.{Around, around, StoreFailed, SinkFailed, HasAnswered}
use Rattle.bb_top.proofs.FileLemmas.{files_named}

-- why a command stopped before anything was written
pub record Stops (command : CommandValue) (old : Around) (holds : List ℕ → Told) (read_faults : ℕ) (stop : Stop) : Type 0 where
  pub read : stop ≡ stops.Read → Rose old.read_faults read_faults
  pub refused : (refusal : Refusal) → stop ≡ stops.Refused refusal → IsRefusal command refusal old.holds
  pub same : holds ≡ old.holds
  pub never : (refusal : Refusal) → stop ≡ stops.Refused refusal → HasNeeds command old.holds → ⊥

-- what `stopped` answers
pub record Stopped (stop : Stop) (told told_new : Option (List ℕ)) (faults faults_new status : ℕ) : Type 0 where
  pub known : status ≤ 5
  pub not_done : status ≢ 0
  pub not_usage : status ≢ 2
  pub refused : status ≡ 1 → (refusal : Refusal) × (stop ≡ stops.Refused refusal) × AppendsAll told told_new (refusal_line refusal)
  pub read : status ≡ 3 → (stop ≡ stops.Read) × (told_new ≡ told)
  pub write : status ≡ 4 → (refusal : Refusal) × (stop ≡ stops.Refused refusal) × Rose faults faults_new × AppendsFront told told_new (refusal_line refusal)
  pub memory : status ≡ 5 → told_new ≡ told

pub stopped_is : {command : CommandValue} {old new : Around} (stop : Stop) (status : ℕ) → Stops command old new.holds new.read_faults stop
    → Stopped stop old.told new.told old.put_faults new.put_faults status → HasAnswered command old new status
stopped_is {command} {old} {new} stop status why by = record {
  known = by.known;
  no_usage = by.not_usage;
  done = λ e. absurd (by.not_done e);
  refused = λ e. let r = by.refused e in (r.0, why.refused r.0 r.1, r.2, why.same);
  read = λ e. let r = by.read e in (why.read r.0, r.1, why.same);
  write = λ e. let r = by.write e in inr (failed r.0 r.1 r.2 r.3);
  memory = λ e. (by.memory e, why.same);
  complete = λ needs e. let r = by.refused e in why.never r.0 r.1 needs;
  always_refused = λ refusal has e. by.not_done e;
}
  where
    failed : (refusal : Refusal) → stop ≡ stops.Refused refusal → Rose old.put_faults new.put_faults → AppendsFront old.told new.told (refusal_line refusal) → SinkFailed command old new
    failed refusal is rose line = record { rose = rose; answer = Refused refusal; said = (why.refused refusal is, why.same); line = line }

-- what was prepared for a command
pub record Prepares (command : CommandValue) (old : List ℕ → Told) (made : ArtifactsValue) (files : List FileValue) (line : List ℕ) : Type 0 where
  pub made_for : IsMadeFor command old made
  pub files_are : files ≡ files_for command made
  pub line_is : line ≡ done_line made.summary
  pub never : (refusal : Refusal) → HasRefusal command refusal old → ⊥

-- what `finish` answers
pub record Finished (files : List FileValue) (line : List ℕ) (old new : Around) (status : ℕ) : Type 0 where
  pub known : (status ≡ 0) ⊎ (status ≡ 4)
  pub done : status ≡ 0 → AreWhole files new.holds × AppendsAll old.told new.told line
  pub write : status ≡ 4 → (Rose old.write_faults new.write_faults × (new.told ≡ old.told) × AreCutShort files old.holds new.holds)
      ⊎ (Rose old.put_faults new.put_faults × AreWhole files new.holds × AppendsFront old.told new.told line)
  pub others : SameButAll (names_of files) old.holds new.holds

-- of two numbers it is neither of the others
neither : (status n : ℕ) → (status ≡ 0) ⊎ (status ≡ 4) → n ≢ 0 → n ≢ 4 → status ≢ n
neither status n (inl e) zero four is = zero (sym is ∙ e)
neither status n (inr e) zero four is = four (sym is ∙ e)

at_most : (status : ℕ) → (status ≡ 0) ⊎ (status ≡ 4) → status ≤ 5
at_most status (inl e) = omega arith
at_most status (inr e) = omega arith

pub finished_is : {command : CommandValue} {old new : Around} (holds : List ℕ → Told) (write_faults : ℕ) (made : ArtifactsValue) (files : List FileValue) (line : List ℕ) (status : ℕ)
    → holds ≡ old.holds → write_faults ≡ old.write_faults → Prepares command old.holds made files line
    → Finished files line (around holds old.read_faults write_faults old.told old.put_faults) new status → HasAnswered command old new status
finished_is {command} {old} {new} holds write_faults made files line status same counted is by = record {
  known = at_most status by.known;
  no_usage = neither status 2 by.known (λ e. cc e) (λ e. cc e);
  done = λ e. let d = by.done e in (Made made, record { made_for = is.made_for; whole = whole d.0; others = others }, subst (AppendsAll old.told new.told) is.line_is d.1);
  refused = λ e. absurd (neither status 1 by.known (λ f. cc f) (λ f. cc f) e);
  read = λ e. absurd (neither status 3 by.known (λ f. cc f) (λ f. cc f) e);
  write = λ e. failed (by.write e);
  memory = λ e. absurd (neither status 5 by.known (λ f. cc f) (λ f. cc f) e);
  complete = λ needs. neither status 1 by.known (λ e. cc e) (λ e. cc e);
  always_refused = λ refusal has e. is.never refusal has;
}
  where
    whole : AreWhole files new.holds → AreWhole (files_for command made) new.holds
    whole h = subst (λ fs. AreWhole fs new.holds) is.files_are h

    others : SameButAll (names_written command) old.holds new.holds
    others =
        let named = subst (λ (fs : List FileValue). SameButAll (names_of fs) holds new.holds) is.files_are by.others in
        let written = subst (λ names. SameButAll names holds new.holds) (files_named command made) named in
        subst (λ o. SameButAll (names_written command) o new.holds) same written

    failed : (Rose write_faults new.write_faults × (new.told ≡ old.told) × AreCutShort files holds new.holds)
        ⊎ (Rose old.put_faults new.put_faults × AreWhole files new.holds × AppendsFront old.told new.told line) → StoreFailed command old new ⊎ SinkFailed command old new
    failed (inl (rose, silent, cut)) = inl (record {
      rose = subst (λ n. Rose n new.write_faults) counted rose;
      silent = silent;
      unwritten = record {
        made = made;
        made_for = is.made_for;
        cut = subst (λ o. AreCutShort (files_for command made) o new.holds) same (subst (λ fs. AreCutShort fs holds new.holds) is.files_are cut);
        others = others;
      };
    })
    failed (inr (rose, all, front)) = inr (record {
      rose = rose;
      answer = Done (Made made);
      said = record { made_for = is.made_for; whole = whole all; others = others };
      line = subst (AppendsFront old.told new.told) is.line_is front;
    })

-- the line `pass` was put
pub passed_is : {command : CommandValue} {old new : Around} → HavePassed command old.holds → new.holds ≡ old.holds → ((refusal : Refusal) → HasRefusal command refusal old.holds → ⊥)
    → AppendsAll old.told new.told pass_line → HasAnswered command old new 0
passed_is {command} {old} {new} passed same never line = record {
  known = omega arith;
  no_usage = λ e. cc e;
  done = λ e. (Passed, (passed, same), line);
  refused = λ e. absurd (cc e);
  read = λ e. absurd (cc e);
  write = λ e. absurd (cc e);
  memory = λ e. absurd (cc e);
  complete = λ needs e. cc e;
  always_refused = λ refusal has e. never refusal has;
}

-- the sink failed at it
pub unsaid_pass_is : {command : CommandValue} {old new : Around} → HavePassed command old.holds → new.holds ≡ old.holds → Rose old.put_faults new.put_faults
    → AppendsFront old.told new.told pass_line → HasAnswered command old new 4
unsaid_pass_is {command} {old} {new} passed same rose line = record {
  known = omega arith;
  no_usage = λ e. cc e;
  done = λ e. absurd (cc e);
  refused = λ e. absurd (cc e);
  read = λ e. absurd (cc e);
  write = λ e. inr (record { rose = rose; answer = Done Passed; said = (passed, same); line = line });
  memory = λ e. absurd (cc e);
  complete = λ needs e. cc e;
  always_refused = λ refusal has e. cc e;
}

-- the sink failed at an answer to the command that words mean
pub unsaid_by : (words : List (List ℕ)) (old new : List ℕ → Told) (told_old told_new : Option (List ℕ)) (command : CommandValue) → Means words command
    → (answer : Answer) → IsAsSaid answer command old new → AppendsFront told_old told_new (answer_line answer) → IsUnsaid words old new told_old told_new
unsaid_by words old new told_old told_new command means (Done success) said line = record { answer = Done success; files = record { command = command; means = means; said = said }; line = line }
unsaid_by words old new told_old told_new command means (Refused refusal) said line = record { answer = Refused refusal; files = record { command = command; means = means; said = said }; line = line }
unsaid_by words old new told_old told_new command means Usage said line = absurd said
unsaid_by words old new told_old told_new command means SameName said line = record { answer = SameName; files = record { command = command; means = means; said = said }; line = line }

-- how a write failed
pub write_failed : (words : List (List ℕ)) (command : CommandValue) (old new : Around) → Means words command → StoreFailed command old new ⊎ SinkFailed command old new
    → (Rose old.write_faults new.write_faults × (new.told ≡ old.told) × ((c : CommandValue) × Means words c × IsUnwritten c old.holds new.holds))
    ⊎ (Rose old.put_faults new.put_faults × IsUnsaid words old.holds new.holds old.told new.told)
write_failed words command old new means (inl f) = inl (f.rose, f.silent, (command, means, f.unwritten))
write_failed words command old new means (inr f) = inr (f.rose, unsaid_by words old.holds new.holds old.told new.told command means f.answer f.said f.line)
