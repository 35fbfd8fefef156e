use Rattle.std.proofs.Common.{◌++◌, sym, arith, ap}
use Rattle.std.specs.Option.{option_to_list}
use Rattle.bb_parse.proofs.StackLemmas.{one_more, all_there}
use Rattle.bb_parse.proofs.stack.Stack.push_all.Goals as goal

pub symbols-init : goal.symbols-init
symbols-init c = ap (λ r. c.args.symbols.now ++ r) (sym c.self.view_is)

pub symbols-smaller : goal.symbols-smaller
symbols-smaller c = omega (arith, c.in-Some.ensures.cases.1)

pub symbols-preserved : goal.symbols-preserved
symbols-preserved c = rw c.in_ok-push.ensures.items (one_more c.args.symbols.now c.args.self.now c.symbols.rest.now c.in-Some.front.now c.symbols.self-inside.symbols.items (option_to_list c.symbols.self-inside.last) c.in-Some.last.now c.in-Some.ensures.cases.0 c.symbols.invariant)

pub returns : goal.returns
returns c = all_there _ _ _ c.in_default.ensures.cases c.symbols.invariant
