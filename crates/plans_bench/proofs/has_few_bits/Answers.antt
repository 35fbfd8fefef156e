use Rattle.std.proofs.Common.{arith, ◌≡◌, ◌≤◌, Some, slice_get}
use Rattle.bb_base.specs.Variables.{Entry}
use Rattle.bb_fault.proofs.CountLemmas.{bits_next}
use Rattle.plans_bench.proofs.has_few_bits.Goals as goal

pub variables-preserved : goal.variables-preserved
variables-preserved c =
    let vs = c.args.named.now.variables in
    let v : Entry = (c.variable.result.0.now, c.variable.result.1) in
    let at : slice_get vs c.variables.number ≡ Some v = c.variable.ensures.value in
    let next = bits_next vs c.variables.number v at in
    let few : c.saturating_add-bits.result ≤ 2097152 = c.if-bits-gt2097152.false in
    record { few = few; all = omega (arith, next, c.range_width.ensures, c.saturating_add-bits.ensures, few, c.variables.invariant.all) }
