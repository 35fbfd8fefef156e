use Rattle.std.proofs.Common.{◌≤◌, ◌+◌, length}
use Rattle.bb_forms.specs.Reading.{HasLed}
use Rattle.bb_forms.specs.ScheduleStages.{schedule_stage}
use Rattle.bb_forms.specs.declared.schedule_reader.ScheduleStage.TheVariants.{Head}
use Rattle.bb_forms.proofs.schedule_reader.read_schedule.Given as goal

abbrev pub invariant-lines : goal.invariant-lines
invariant-lines l = record {
  led : HasLed schedule_stage Head l.stage l.lines l.text l.rest;
  few : l.lines + length l.rest ≤ length l.text;
}

abbrev pub decreases-lines : goal.decreases-lines
decreases-lines l = length l.rest
