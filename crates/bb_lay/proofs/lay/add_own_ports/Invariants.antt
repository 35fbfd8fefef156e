use Rattle.std.proofs.Common.{◌≡◌, length, take, drop}
use Rattle.bb_base.specs.Variables.{is_port, ports_of, role_bits}
use Rattle.bb_lay.proofs.Adding.{Continues}
use Rattle.bb_lay.proofs.Clocks.{clock_before}
use Rattle.bb_lay.proofs.lay.add_own_ports.Given as goal

abbrev pub invariant-ports : goal.invariant-ports
invariant-ports l = record {
  goes : Continues l.fn.builder l.builder (drop l.number (take (ports_of l.named.variables) l.named.variables)) (take (ports_of l.named.variables) l.named.variables)
      (role_bits is_port l.named.clock l.number (drop l.number (take (ports_of l.named.variables) l.named.variables))) (role_bits is_port l.named.clock 0 (take (ports_of l.named.variables) l.named.variables)) (clock_before l.number l.named.clock);
  count : length l.builder.variables ≡ l.number;
}
