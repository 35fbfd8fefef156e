use Rattle.std.proofs.Common.{arith, List, Bool, ap, ◌∙◌, map, length, ◌≤◌, ◌<◌}
use Rattle.std.proofs.lemmas.List.Elements.{recursion_from_All}
use Rattle.bb_eqn.specs.Values.{bits_at}
use Rattle.bb_eqn.proofs.Written.{written, written_end, written_all, written_kept}
use Rattle.bb_eqn.proofs.clock.write_nets.Goals as goal

pub returns-clause-written : goal.returns-clause-written
returns-clause-written c =
    let past : length c.args.nets.now ≤ c.nets.place = omega arith in
    let end = written_end c.nets.place c.args.nets.now c.args.bits.now c.nets.values (written c.args.nets.now c.args.bits.now c.args.values.now) past c.nets.invariant.so_far in
    ap (λ (v : List Bool). map (bits_at v) c.args.nets.now) end
    ∙ written_all c.args.nets.now c.args.bits.now c.args.values.now c.requires.bits (recursion_from_All (λ n. n < length c.args.values.now) c.args.nets.now c.requires.within) c.requires.once

pub returns-clause-kept : goal.returns-clause-kept
returns-clause-kept c = λ net none.
    let past : length c.args.nets.now ≤ c.nets.place = omega arith in
    let end = written_end c.nets.place c.args.nets.now c.args.bits.now c.nets.values (written c.args.nets.now c.args.bits.now c.args.values.now) past c.nets.invariant.so_far in
    ap (λ (v : List Bool). bits_at v net) end ∙ written_kept c.args.nets.now c.args.bits.now c.args.values.now net none
