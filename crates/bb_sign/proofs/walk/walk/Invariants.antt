use Rattle.std.proofs.Common.{◌≡◌, ◌<◌, ◌*◌, ◌^◌, length, min}
use Rattle.bb_base.specs.Net.{driven}
use Rattle.bb_terms.specs.Register.{state_after}
use Rattle.bb_sign.specs.Compactors.{AreHeld, AreSignedUntil}
use Rattle.bb_sign.proofs.walk.walk.Given as goal

abbrev pub invariant-loop-block : goal.invariant-loop-block
invariant-loop-block l = record {
  at : l.state ≡ state_after l.plan.degree l.plan.mask (64 * l.block);
  below : l.state < 2 ^ l.plan.degree;
  words : length l.words ≡ length l.evaluation.nets;
  values : length l.values ≡ length (driven l.netlist);
  held : AreHeld l.compactors l.held;
  signed : AreSignedUntil l.netlist l.plan (min (64 * l.block) (2 ^ l.plan.degree)) l.held;
}
