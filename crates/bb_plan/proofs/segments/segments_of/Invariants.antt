use Rattle.std.proofs.Common.{◌≡◌, ◌<◌, ℕ, take, Some, slice_get}
use Rattle.std.specs.List.{AllZip}
use Rattle.bb_plan.specs.Layout.{LineValue}
use Rattle.bb_plan.specs.Coded.{IsCodedLine, IsIndependentLine}
use Rattle.bb_plan.proofs.segments.segments_of.Given as goal

abbrev pub invariant-lines : goal.invariant-lines
invariant-lines l = record {
  segments : AllZip (IsCodedLine l.links) (take l.line-index l.lines) l.segments.items;
  codes : (i : ℕ) (line : LineValue) → i < l.line-index → slice_get l.lines i ≡ Some line → IsIndependentLine l.links i line;
}
