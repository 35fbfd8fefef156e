use Rattle.std.proofs.Common.{arith, ◌≡◌, ◌∙◌, ℕ, Some, Option, sym, ap, subst}
use Rattle.bb_base.specs.Net.{Flop, Netlist, renamed_flop}
use Rattle.bb_base.specs.Drivers.{Drives}
use Rattle.bb_base.specs.declared.netlist.Driver.TheVariants.{Flop as FlopAt}
use Rattle.bb_net.specs.Sites.{site_of}
use Rattle.bb_alike.proofs.NetLemmas.{entry}
use Rattle.bb_alike.proofs.FeedLemmas.{no_flop}
use Rattle.bb_alike.proofs.AlikeLemmas.{d_read, flop_alike, flop_read}
use Rattle.bb_alike.proofs.drivers.is_flop.Goals as goal

pub is_same_net-requires : goal.is_same_net-requires
is_same_net-requires c =
    let less = d_read c.args.woven.now c.args.written.now c.args.nets.now c.netlist-woven.ensures.named c.netlist-netlist.ensures.named c.requires.nets c.args.flop c.requires.flop in
    let same : c.flop.inside.d ≡ c.args.flop.d = ap (λ (f : Flop ℕ). f.d) c.flop.view_is in
    omega (arith, less, same)

pub returns-in-Flop : goal.returns-in-Flop
returns-in-Flop c =
    let w = c.args.woven.now in
    let b = c.args.written.now in
    let flop = c.args.flop in
    let other = c.index-flops-number.result in
    let drives : Drives b.netlist (FlopAt c.in-Flop.number) c.args.net = subst (λ (n : Netlist ℕ). Drives n (FlopAt c.in-Flop.number) c.args.net) c.netlist-netlist.ensures.value c.in-Flop.ensures.drives in
    let there = flop_read b.netlist c.flops.result.now c.in-Flop.number c.args.net other drives (c.flops.ensures.value ∙ ap (λ (n : Netlist ℕ). n.flops) c.netlist-netlist.ensures.value) c.index-flops-number.is in
    let both = flop_alike w b c.args.nets.now c.netlist-woven.ensures.named c.netlist-netlist.ensures.named c.requires.nets flop other c.args.net c.requires.flop c.requires.site there.0 there.1 in
    let d : c.flop.inside.d ≡ flop.d = ap (λ (f : Flop ℕ). f.d) c.flop.view_is in
    let e : c.other.inside.d ≡ other.d = ap (λ (f : Flop ℕ). f.d) c.other.view_is in (
      λ t. both.0 (ap (entry c.args.nets.now) (sym d) ∙ c.is_same_net.ensures.0 t ∙ ap {B = Option ℕ} Some e),
      λ f. c.is_same_net.ensures.1 (ap (entry c.args.nets.now) d ∙ both.1 f ∙ ap {B = Option ℕ} Some (sym e)),
    )

pub returns-in_default : goal.returns-in_default
returns-in_default c =
    let k = c.args.written.now in
    let drives = subst (λ (n : Netlist ℕ). Drives n c.driver.result c.args.net) c.netlist-netlist.ensures.value c.driver.ensures.drives in
    (λ e. absurd (cc e), λ f. absurd (no_flop k c.netlist-netlist.ensures.named c.args.net c.driver.result (renamed_flop (site_of c.args.woven.now) c.args.flop) drives c.in_default.not-Flop f))
