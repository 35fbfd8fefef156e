use Rattle.std.proofs.Common.{arith, ◌∙◌, sym, ap}
use Rattle.std.specs.Prelude.{nat_eq, nat_lt, count_by}
use Rattle.bb_base.specs.Variables.{bit_count}
use Rattle.bb_targets.specs.Targets.{targets}
use Rattle.bb_targets.proofs.Twice.{found_below}
use Rattle.bb_targets.proofs.fault.twice_fault.Goals as goal

pub bit_text-requires : goal.bit_text-requires
bit_text-requires c =
    let below = found_below (λ b. nat_lt 1 (count_by (nat_eq b) (targets c.args.scope.now c.args.items.now))) 0 (bit_count c.args.scope.now) c.in-Some.bit (sym c.in_ok-first_twice.ensures ∙ c.in-Some.is) in
    omega (arith, below, ap bit_count c.table.ensures)
