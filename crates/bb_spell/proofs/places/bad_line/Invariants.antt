use Rattle.std.proofs.Common.{◌≡◌, ◌≤◌, ◌+◌, Some, length}
use Rattle.bb_spell.specs.TextLines.{first_bad, pieces_of}
use Rattle.bb_spell.specs.Places.{stage_after, may_end, flops_before}
use Rattle.bb_spell.specs.declared.places.Stage.TheVariants.{Head}
use Rattle.bb_spell.proofs.places.bad_line.Given as goal

abbrev pub invariant-lines : goal.invariant-lines
invariant-lines l = record {
  same : first_bad stage_after may_end (Some l.stage) l.lines (pieces_of l.rest) ≡ first_bad stage_after may_end (Some Head) 0 (pieces_of l.text);
  few : l.lines + length l.rest ≤ length l.text;
  flops : flops_before l.stage ≤ l.lines;
}

abbrev pub decreases-lines : goal.decreases-lines
decreases-lines l = length l.rest
