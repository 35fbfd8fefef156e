use Rattle.std.proofs.Common.{◌≡◌, false, nat_eq, take}
use Rattle.std.specs.List.{list_any}
use Rattle.bb_reg.proofs.lines.is_among.Given as goal

abbrev pub invariant-nets : goal.invariant-nets
invariant-nets l = list_any (nat_eq l.fn.net) (take l.other-index l.nets) ≡ false
