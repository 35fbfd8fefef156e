use Rattle.std.proofs.Common.{length, drop}
use Rattle.bb_base.specs.Variables.{ports_of}
use Rattle.bb_lay.specs.Laying.{all_net_bits}
use Rattle.bb_lay.proofs.Adding.{Continues}
use Rattle.bb_lay.proofs.lay.add_own_wires.Given as goal

abbrev pub invariant-wires : goal.invariant-wires
invariant-wires l =
    Continues l.fn.builder l.builder (drop l.of l.named.variables) (drop (ports_of l.named.variables) l.named.variables) (all_net_bits l.named.names l.of (length l.builder.variables) (drop l.of l.named.variables))
    (all_net_bits l.named.names (ports_of l.named.variables) (length l.fn.builder.variables) (drop (ports_of l.named.variables) l.named.variables)) l.fn.builder.clock
