use Rattle.std.proofs.Common.{◌≡◌, map, take}
use Rattle.bb_base.specs.Net.{renamed_gate}
use Rattle.bb_base.specs.Building.{with_gates}
use Rattle.bb_terms.specs.Numbering.{net_at}
use Rattle.bb_ctl.proofs.numbering.add_rows.Given as goal

abbrev pub invariant-rows : goal.invariant-rows
invariant-rows l = l.builder ≡ with_gates l.fn.builder (map (renamed_gate (net_at l.fn.builder l.kept)) (take l.row-index l.rows))
