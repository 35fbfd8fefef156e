use Rattle.std.proofs.Common.{◌≡◌, ℕ, length, drop}
use Rattle.std.specs.List.{flat_map}
use Rattle.bb_sign.specs.Bits.{noted_column, last_column}
use Rattle.bb_sign.proofs.columns.note_registers.Given as goal

abbrev pub invariant-registers : goal.invariant-registers
invariant-registers l = record {
  long : length l.columns ≡ length l.initial.columns;
  so_far : (net : ℕ) → last_column (flat_map (λ g. g.cells) (drop l.register-index l.registers)) net (noted_column l.columns net) ≡ last_column (flat_map (λ g. g.cells) l.registers) net (noted_column l.initial.columns net);
}
