use Rattle.std.proofs.Common.{◌≡◌, map, take}
use Rattle.bb_reg.specs.Draft.{those}
use Rattle.bb_reg.proofs.drafting.those_lines.Given as goal

abbrev pub invariant-lines : goal.invariant-lines
invariant-lines l = map (λ k. k.items) l.own.items ≡ those (take l.number l.bits) (take l.number (map (λ k. k.items) l.lines))
