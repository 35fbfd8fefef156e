use Rattle.std.proofs.Common.{◌≡◌, ◌<◌, ℕ, true, length, slice_index, slice_get, Some}
use Rattle.bb_terms.specs.Kinds.{is_source}
use Rattle.bb_plan.specs.declared.chain.Link.{Link}
use Rattle.bb_plan.proofs.sources.note_sources.Given as goal

abbrev pub invariant-links : goal.invariant-links
invariant-links l = record {
  long : length l.sources ≡ length l.initial.sources;
  each : (i : ℕ) (k : Link) → i < l.number → slice_get l.links i ≡ Some k → is_source k.cell.kind ≡ true → slice_index l.sources k.cell.net ≡ i;
}
