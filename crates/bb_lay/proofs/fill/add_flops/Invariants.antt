use Rattle.std.proofs.Common.{◌≡◌, map, take}
use Rattle.bb_base.specs.Net.{renamed_flop}
use Rattle.bb_base.specs.Building.{with_flops}
use Rattle.bb_terms.specs.Numbering.{net_at}
use Rattle.bb_lay.proofs.fill.add_flops.Given as goal

abbrev pub invariant-rows : goal.invariant-rows
invariant-rows l = l.builder ≡ with_flops l.fn.builder (map (renamed_flop (net_at l.fn.builder l.kept)) (take l.row-index l.rows))
