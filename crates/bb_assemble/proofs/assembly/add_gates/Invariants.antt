use Rattle.std.proofs.Common.{◌≡◌, map, filter, take}
use Rattle.bb_base.specs.Net.{renamed_gate}
use Rattle.bb_assemble.specs.Assembling.{number_for}
use Rattle.bb_base.specs.Building.{with_gates}
use Rattle.bb_drive.specs.Origins.{is_marked}
use Rattle.bb_assemble.proofs.assembly.add_gates.Given as goal

abbrev pub invariant-loop-gate : goal.invariant-loop-gate
invariant-loop-gate l = l.builder ≡ with_gates l.fn.builder (map (renamed_gate (number_for l.numbers)) (filter (λ g. is_marked l.flags g.out) (take l.gate-index l.gates)))
