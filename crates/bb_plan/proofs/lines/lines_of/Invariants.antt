use Rattle.std.proofs.Common.{◌≡◌, ◌<◌, ℕ, length, take, Some, slice_get}
use Rattle.std.specs.List.{AllZip}
use Rattle.bb_base.specs.Net.{driven}
use Rattle.bb_terms.specs.declared.plan.Cell.{Cell}
use Rattle.bb_terms.specs.Plan.{chain}
use Rattle.bb_terms.specs.Rules.{IsNarrow}
use Rattle.bb_plan.specs.Layout.{IsObservedLine}
use Rattle.bb_plan.proofs.ObserverLemmas.{observers_from}
use Rattle.bb_plan.proofs.lines.lines_of.Given as goal

abbrev pub invariant-links : goal.invariant-links
invariant-links l = record {
  walk : l.walk ≡ length (driven l.netlist);
  lines : AllZip (IsObservedLine l.netlist l.plan) (observers_from 0 (take l.number (chain l.plan))) l.lines.items;
  narrow : (i : ℕ) (c : Cell) → i < l.number → slice_get (chain l.plan) i ≡ Some c → IsNarrow l.netlist l.plan c;
}
