use Rattle.std.proofs.Common.{arith, List, Bool, ap, ◌∙◌, map, length, ◌≤◌}
use Rattle.bb_base.specs.Net.{Flop}
use Rattle.bb_eqn.specs.Values.{bits_at}
use Rattle.bb_eqn.proofs.Written.{written, states_end, states_all, written_kept}
use Rattle.bb_eqn.proofs.clock.write_states.Goals as goal

pub returns-clause-written : goal.returns-clause-written
returns-clause-written c =
    let past : length c.args.flops.now ≤ c.flops.place = omega arith in
    states_all c.args.flops.now c.args.bits.now c.args.values.now c.flops.values (states_end c.flops.place c.args.flops.now c.args.bits.now c.flops.values (written (map (λ (f : Flop _). f.q) c.args.flops.now) c.args.bits.now c.args.values.now) past c.flops.invariant.so_far)
    c.requires.bits c.requires.within c.requires.once

pub returns-clause-kept : goal.returns-clause-kept
returns-clause-kept c = λ net none.
    let past : length c.args.flops.now ≤ c.flops.place = omega arith in
    let end = states_end c.flops.place c.args.flops.now c.args.bits.now c.flops.values (written (map (λ (f : Flop _). f.q) c.args.flops.now) c.args.bits.now c.args.values.now) past c.flops.invariant.so_far in
    ap (λ (v : List Bool). bits_at v net) end ∙ written_kept (map (λ (f : Flop _). f.q) c.args.flops.now) c.args.bits.now c.args.values.now net none
