use Rattle.std.proofs.Common.{arith, slice_get, Some, ◌≡◌}
use Rattle.std.proofs.lemmas.Grind.{common_steps}
use Rattle.std.proofs.lemmas.Option.{gets}
use Rattle.bb_netlist.proofs.LevelLemmas.{inputs_step}
use Rattle.bb_netlist.proofs.levels.note_gates.Goals as goal

pub gates-preserved : goal.gates-preserved
gates-preserved c = record {
  long = grind (arith, common_steps);
  each = λ n h k.
      let at : slice_get c.args.gates.now c.gates.number ≡ Some c.index-gates-number.result = grind (arith, gets, common_steps) in
      grind (arith, common_steps, c.gates.invariant.each n h k, c.in_ok-note_reads.ensures.each n h, inputs_step c.args.gates.now c.gates.number h n c.index-gates-number.result at);
}
