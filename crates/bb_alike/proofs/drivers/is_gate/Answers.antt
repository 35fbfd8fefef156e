use Rattle.std.proofs.Common.{◌∙◌, ℕ, ap, subst}
use Rattle.bb_base.specs.Net.{Netlist, renamed_gate}
use Rattle.bb_base.specs.Drivers.{Drives}
use Rattle.bb_base.specs.declared.netlist.Driver.TheVariants.{Gate as GateAt}
use Rattle.bb_net.specs.Sites.{site_of}
use Rattle.bb_alike.proofs.FeedLemmas.{no_gate}
use Rattle.bb_alike.proofs.AlikeLemmas.{ins_read, gate_alike, gate_read}
use Rattle.bb_alike.proofs.drivers.is_gate.Goals as goal

pub is_like-requires : goal.is_like-requires
is_like-requires c = ins_read c.args.woven.now c.args.written.now c.args.nets.now c.netlist-woven.ensures.named c.netlist-netlist.ensures.named c.requires.nets c.args.gate.now c.requires.gate

pub returns-in-Gate : goal.returns-in-Gate
returns-in-Gate c =
    let w = c.args.woven.now in
    let b = c.args.written.now in
    let gate = c.args.gate.now in
    let other = c.index-gates-number.result in
    let drives : Drives b.netlist (GateAt c.in-Gate.number) c.args.net = subst (λ (n : Netlist ℕ). Drives n (GateAt c.in-Gate.number) c.args.net) c.netlist-netlist.ensures.value c.in-Gate.ensures.drives in
    let there = gate_read b.netlist c.gates.result.now c.in-Gate.number c.args.net other drives (c.gates.ensures.value ∙ ap (λ (n : Netlist ℕ). n.gates) c.netlist-netlist.ensures.value) c.index-gates-number.is in
    let both = gate_alike w b c.args.nets.now c.netlist-woven.ensures.named c.netlist-netlist.ensures.named c.requires.nets gate other c.args.net c.requires.gate c.requires.site there.0 there.1 in
    (λ t. both.0 (c.is_like.ensures.0 t), λ f. c.is_like.ensures.1 (both.1 f))

pub returns-in_default : goal.returns-in_default
returns-in_default c =
    let k = c.args.written.now in
    let drives = subst (λ (n : Netlist ℕ). Drives n c.driver.result c.args.net) c.netlist-netlist.ensures.value c.driver.ensures.drives in
    (λ e. absurd (cc e), λ f. absurd (no_gate k c.netlist-netlist.ensures.named c.args.net c.driver.result (renamed_gate (site_of c.args.woven.now) c.args.gate.now) drives c.in_default.not-Gate f))
