use Rattle.std.proofs.Common.{◌≡◌, ◌<◌, ◌==◌, ℕ, map, slice_index}
use Rattle.bb_base.specs.Parity.{code_bit}
use Rattle.bb_audit.proofs.duals.is_dual.Given as goal

abbrev pub invariant-pairs : goal.invariant-pairs
invariant-pairs l = (k : ℕ) → k < l.other → code_bit (slice_index (map (λ (pair : ℕ × ℕ). slice_index l.columns pair.0) l.pairs) k) l.dual ≡ (k == l.place)
