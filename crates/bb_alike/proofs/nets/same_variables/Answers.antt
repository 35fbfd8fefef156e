use Rattle.std.proofs.Common.{arith, ◌<◌, length}
use Rattle.bb_base.proofs.Lists.{get_some}
use Rattle.bb_base.specs.Variables.{Entry}
use Rattle.bb_base.specs.Named.{lookup_of}
use Rattle.std.proofs.Common.{◌++◌, ◌∷◌, [], ap, ◌∙◌}
use Rattle.bb_alike.proofs.ListLemmas.{map_more}
use Rattle.bb_alike.proofs.nets.same_variables.Goals as goal

pub loop-number-preserved : goal.loop-number-preserved
loop-number-preserved c =
    let vs = c.args.of.now.variables in
    let less : c.loop-number.number < length vs = omega arith in
    let item = get_some vs c.loop-number.number less in
    map_more (λ (v : Entry). lookup_of v.0 c.args.within.now) vs c.loop-number.number item.0 c.loop-number.numbers.items _ item.1 c.loop-number.invariant
    (c.in_ok-push.ensures.items ∙ ap (λ x. c.loop-number.numbers.items ++ x ∷ []) (c.same_variable.ensures item.0 item.1))
