-- What the reader of a plan knows at its exits.
use Rattle.std.proofs.Common.{◌≡◌, ◌≢◌, ℕ, ◌+◌, min, List, [], Some, None, refl}
use Rattle.bb_spell.specs.TextLines.{first_line}
use Rattle.bb_forms.specs.Forms.{IsFirstUnformed, IsUnformedLine}
use Rattle.bb_forms.specs.Reading.{HasLed}
use Rattle.bb_terms.specs.Plan.{PlanValue}
use Rattle.bb_forms.specs.ScheduleText.{schedule_lines, schedule_text, IsFormedPlan, AreScheduleLines}
use Rattle.bb_forms.specs.declared.schedule_reader.ScheduleStage.{ScheduleStage}
use Rattle.bb_forms.specs.declared.schedule_reader.ScheduleStage.TheVariants.{Head, End}
use Rattle.bb_forms.specs.ScheduleStages.{schedule_stage}
use Rattle.bb_forms.proofs.FormLemmas.{none_bad}
use Rattle.bb_forms.proofs.Readings as reading
use Rattle.bb_forms.proofs.ScheduleLemmas.{stage_lines, StageFits, schedule_says, schedule_begins, schedule_ends, schedule_clean, end_same}

pub line_refused : (stage : ScheduleStage) (count : ℕ) (text rest line after : List ℕ) → HasLed schedule_stage Head stage count text rest → first_line rest ≡ Some (line, after) → schedule_stage stage line ≡ None → IsUnformedLine AreScheduleLines (min 4294967295 (count + 1)) text
line_refused stage count text rest line after h f s = (count + 1, reading.bad_here schedule_stage stage_lines StageFits schedule_says Head End schedule_lines IsFormedPlan tt refl (λ v. refl) schedule_begins schedule_ends stage count text rest line after h f s, refl)

pub line_missing : (stage : ScheduleStage) (count : ℕ) (text rest : List ℕ) → HasLed schedule_stage Head stage count text rest → first_line rest ≡ None → ((v : PlanValue) → stage ≡ End v → rest ≢ []) → IsUnformedLine AreScheduleLines (min 4294967295 (count + 1)) text
line_missing stage count text rest h f open_end = (count + 1, reading.bad_missing schedule_stage stage_lines StageFits schedule_says Head End schedule_lines IsFormedPlan tt refl (λ v. refl) schedule_begins schedule_ends stage count text rest h f open_end, refl)

pub whole_text : (v : PlanValue) (count : ℕ) (text rest : List ℕ) → HasLed schedule_stage Head (End v) count text rest → rest ≡ [] → text ≡ schedule_text v
whole_text = reading.whole_text schedule_stage stage_lines StageFits schedule_says Head End schedule_lines IsFormedPlan tt refl (λ v. refl) schedule_begins schedule_ends

pub value_formed : (v : PlanValue) (count : ℕ) (text rest : List ℕ) → HasLed schedule_stage Head (End v) count text rest → IsFormedPlan v
value_formed = reading.end_fits schedule_stage stage_lines StageFits schedule_says Head End schedule_lines IsFormedPlan tt refl (λ v. refl) schedule_begins schedule_ends

pub stage_formed : (stage : ScheduleStage) (count : ℕ) (text rest : List ℕ) → HasLed schedule_stage Head stage count text rest → StageFits stage
stage_formed = reading.stage_fits schedule_stage stage_lines StageFits schedule_says Head End schedule_lines IsFormedPlan tt refl (λ v. refl) schedule_begins schedule_ends

-- the text of a value has no first bad line, and is that of one value
pub no_bad : (v : PlanValue) (number : ℕ) → IsFormedPlan v → IsFirstUnformed AreScheduleLines number (schedule_text v) → ⊥
no_bad v number h = none_bad AreScheduleLines (schedule_text v) number (schedule_lines v) (schedule_clean v h) (v, h, refl) refl

pub only_others : (told : ℕ) (text : List ℕ) → IsUnformedLine AreScheduleLines told text → (v : PlanValue) → IsFormedPlan v → text ≢ schedule_text v
only_others told text bad v h e = none_bad AreScheduleLines text bad.0 (schedule_lines v) (schedule_clean v h) (v, h, refl) e bad.1

pub one_text : (v w : PlanValue) → IsFormedPlan v → IsFormedPlan w → schedule_text v ≡ schedule_text w → v ≡ w
one_text = reading.one_value schedule_stage stage_lines StageFits schedule_says Head End schedule_lines IsFormedPlan tt refl (λ v. refl) schedule_begins schedule_ends end_same schedule_clean
