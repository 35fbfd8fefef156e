use Rattle.std.proofs.Common.{ap, ◌∙◌}
use Rattle.std.specs.List.{flat_map}
use Rattle.bb_terms.specs.Plan.{RegisterValue}
use Rattle.bb_sign.specs.Bits.{noted_column, last_column}
use Rattle.bb_sign.proofs.ColumnLemmas.{registers_more}
use Rattle.bb_sign.proofs.columns.note_registers.Goals as goal

pub registers-preserved : goal.registers-preserved
registers-preserved c = record {
  long = c.note_cells.ensures.long ∙ c.registers.invariant.long;
  so_far = λ net. registers_more c.args.registers.now c.registers.register-index c.register-item.result net (noted_column c.registers.columns net) (noted_column c.note_cells.new.columns net)
      (last_column (flat_map (λ (g : RegisterValue). g.cells) c.args.registers.now) net (noted_column c.args.columns.now net)) c.registers-test.true c.register-item.is
      (c.note_cells.ensures.noted net ∙ ap (λ cells. last_column cells net (noted_column c.registers.columns net)) (c.deref.ensures.value ∙ ap (λ (g : RegisterValue). g.cells) c.register.view_is))
      (c.registers.invariant.so_far net);
}
