use Rattle.std.proofs.Common.{◌≡◌, take, not}
use Rattle.std.specs.Prelude.{filter}
use Rattle.bb_terms.specs.Support.{stop_at}
use Rattle.bb_reg.proofs.drafting.open_nets.Given as goal

abbrev pub invariant-nets : goal.invariant-nets
invariant-nets l = l.own.items ≡ filter (λ net. not (stop_at l.stops net)) (take l.net-index l.nets)
