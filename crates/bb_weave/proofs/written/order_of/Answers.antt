use Rattle.std.proofs.Common.{◌≡◌, ℕ, ap, refl, subst, Err}
use Rattle.bb_base.specs.Net.{Netlist}
use Rattle.bb_base.specs.Order.{IsCycle, IsOrder}
use Rattle.bb_base.proofs.CycleLemmas.{no_cycle}
use Rattle.bb_netlist.specs.declared.order.OrderFault.{OrderFault}
use Rattle.bb_netlist.specs.declared.order.OrderFault.TheVariants.{Loop, NoMemory}
use Rattle.bb_weave.proofs.written.order_of.Goals as goal

pub no_loop-requires : goal.no_loop-requires
no_loop-requires c = by c.in-Err.fault (λ nets e. no_cycle c.args.named.now.netlist.gates c.requires.0 nets.items c.requires.1 (subst (λ (n : Netlist ℕ). IsCycle n.gates nets.items) c.netlist.ensures.value (c.in-Err.ensures.is_cycle nets (ap Err e))))
  where
    by : (fault : OrderFault) → ((nets : _) → fault ≡ Loop nets → ⊥) → fault ≡ NoMemory
    by (Loop nets) h = absurd (h nets refl)
    by NoMemory h = refl

pub returns-in-Ok : goal.returns-in-Ok
returns-in-Ok c = subst (λ (n : Netlist ℕ). IsOrder n.gates c.in-Ok.order) c.netlist.ensures.value c.in-Ok.ensures.order
