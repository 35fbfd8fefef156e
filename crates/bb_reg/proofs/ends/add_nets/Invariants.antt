use Rattle.std.proofs.Common.{◌≡◌, ◌++◌, take}
use Rattle.bb_reg.proofs.ends.add_nets.Given as goal

abbrev pub invariant-nets : goal.invariant-nets
invariant-nets l = l.reads.items ≡ l.fn.reads.items ++ take l.net-index l.nets
