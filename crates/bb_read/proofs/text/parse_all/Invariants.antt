use Rattle.std.proofs.Common.{◌≡◌, ◌++◌, Ok}
use Rattle.bb_parse.specs.Machine as parsing
use Rattle.bb_parse.specs.Standing as standing
use Rattle.bb_read.proofs.text.parse_all.Given as goal

abbrev pub invariant-tokens : goal.invariant-tokens
invariant-tokens l = record {
  run : l.parser ≡ parsing.run l.initial.parser l.yielded;
  going : standing.answer_of l.initial.parser ≡ Ok tt → standing.answer_of l.parser ≡ Ok tt;
  all : l.yielded ++ l.token-iterator.rest.items ≡ l.fn.tokens.items;
}
