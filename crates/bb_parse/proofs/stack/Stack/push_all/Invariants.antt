use Rattle.std.proofs.Common.{◌≡◌, ◌++◌, length, reverse}
use Rattle.std.specs.Option.{option_to_list}
use Rattle.bb_parse.proofs.stack.Stack.push_all.Given as goal

abbrev pub invariant-symbols : goal.invariant-symbols
invariant-symbols l = l.fn.symbols ++ l.fn.self ≡ l.rest ++ (reverse l.self-inside.symbols.items ++ option_to_list l.self-inside.last)

abbrev pub decreases-symbols : goal.decreases-symbols
decreases-symbols l = length l.rest
