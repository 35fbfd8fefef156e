use Rattle.std.proofs.Common.{sym, ◌∙◌}
use Rattle.bb_spell.proofs.Nets.{clock_bit}
use Rattle.bb_spell.proofs.text.put_flops.Goals as goal

pub put_clocked-requires-clause-clock : goal.put_clocked-requires-clause-clock
put_clocked-requires-clause-clock c = clock_bit c.args.named.now c.in-Some.clock c.clock.ensures.named (sym c.clock.ensures.value ∙ c.in-Some.is)
