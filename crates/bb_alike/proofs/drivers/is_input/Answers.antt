use Rattle.std.proofs.Common.{ℕ, subst}
use Rattle.bb_base.specs.Net.{Netlist}
use Rattle.bb_base.specs.Drivers.{Drives}
use Rattle.bb_alike.proofs.FeedLemmas.{no_input}
use Rattle.bb_alike.proofs.drivers.is_input.Goals as goal

pub returns-in_default : goal.returns-in_default
returns-in_default c =
    let k = c.args.written.now in
    let drives = subst (λ (n : Netlist ℕ). Drives n c.driver.result c.args.net) c.netlist-netlist.ensures.value c.driver.ensures.drives in
    (λ e. absurd (cc e), λ f. absurd (no_input k c.netlist-netlist.ensures.named c.args.net c.driver.result drives c.in_default.not-Input f))
