use Rattle.std.proofs.Common.{Err, ap}
use Rattle.bb_net.proofs.OnlyMemory.{gate_memory}
use Rattle.bb_sample.proofs.gates.push_gate.Goals as goal

pub out_of_memory-requires : goal.out_of_memory-requires
out_of_memory-requires c = gate_memory c.in-Err.fault c.in-Err.ensures.only (λ gate e. ((c.in-Err.ensures.arity gate).0 (ap Err e)).1 c.requires.arity)
