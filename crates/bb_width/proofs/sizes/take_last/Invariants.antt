use Rattle.std.proofs.Common.{◌≡◌, ◌+◌, ◌-◌, ◌<◌, ◌^◌, take, drop}
use Rattle.bb_fault.specs.Limits.{told_count}
use Rattle.bb_scope.specs.Sizes.{total}
use Rattle.bb_width.proofs.sizes.take_last.Given as goal

abbrev pub invariant-loop : goal.invariant-loop
invariant-loop l = record {
  rest : drop (l.count - l.counter) l.stack ≡ drop l.fn.count l.fn.stack;
  few_nets : l.nets < 2 ^ 64;
  nets : told_count (l.nets + (total (take (l.count - l.counter) l.stack)).nets) ≡ told_count (total (take l.fn.count l.fn.stack)).nets;
  few_constants : l.constants < 2 ^ 64;
  constants : told_count (l.constants + (total (take (l.count - l.counter) l.stack)).constants) ≡ told_count (total (take l.fn.count l.fn.stack)).constants;
}
