use Rattle.std.proofs.Common.{ℕ}
use Rattle.bb_alike.proofs.ListLemmas.{AgreeTo}
use Rattle.bb_audit.proofs.lines.have_cells.Given as goal

abbrev pub invariant-cells : goal.invariant-cells
invariant-cells l = AgreeTo (λ (pair : ℕ × ℕ). pair.0) l.pairs l.cells l.place
