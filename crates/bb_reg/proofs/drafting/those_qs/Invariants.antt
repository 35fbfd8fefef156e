use Rattle.std.proofs.Common.{◌≡◌, map, take}
use Rattle.bb_reg.specs.Draft.{those}
use Rattle.bb_reg.proofs.drafting.those_qs.Given as goal

abbrev pub invariant-flops : goal.invariant-flops
invariant-flops l = l.nets.items ≡ map (λ f. f.q) (those (take l.number l.bits) (take l.number l.flops))
