use Rattle.std.proofs.Common.{◌∙◌, ℕ, sym, ap, subst}
use Rattle.bb_base.proofs.Contained.{contains_at}
use Rattle.bb_base.specs.Net.{Netlist, renamed_gate, renamed_flop}
use Rattle.bb_base.specs.Drivers.{Drives}
use Rattle.bb_base.specs.declared.netlist.Driver.TheVariants.{Input as InputAt, Gate as GateAt, Flop as FlopAt}
use Rattle.bb_net.specs.Sites.{site_of}
use Rattle.bb_alike.specs.Alike.{Outside, Through, Held}
use Rattle.bb_alike.proofs.FeedLemmas.{input_feeds, gate_feeds, flop_feeds}
use Rattle.bb_alike.proofs.AlikeLemmas.{alike_at, gate_read, flop_read}
use Rattle.bb_alike.proofs.drivers.is_driven_alike.Goals as goal

pub returns-in-Input : goal.returns-in-Input
returns-in-Input c =
    let w = c.args.woven.now in
    let drives = subst (λ (n : Netlist ℕ). Drives n (InputAt c.in-Input.field-0) c.args.net) c.netlist-netlist.ensures.value c.in-Input.ensures.drives in
    alike_at w c.args.written.now c.args.net c.args.other Outside c.is_input.result c.netlist-netlist.ensures.named c.netlist-written.ensures.named
    (input_feeds w c.netlist-netlist.ensures.named c.args.net (contains_at w.netlist.inputs c.in-Input.field-0 c.args.net drives)) c.requires.site c.is_input.ensures

pub is_gate-requires-clause-gate : goal.is_gate-requires-clause-gate
is_gate-requires-clause-gate c =
    let w = c.args.woven.now in
    let drives = subst (λ (n : Netlist ℕ). Drives n (GateAt c.in-Gate.number) c.args.net) c.netlist-netlist.ensures.value c.in-Gate.ensures.drives in
    (gate_read w.netlist c.gates.result.now c.in-Gate.number c.args.net c.index-gates-number.result drives (c.gates.ensures.value ∙ ap (λ (n : Netlist ℕ). n.gates) c.netlist-netlist.ensures.value) c.index-gates-number.is).0

pub is_gate-requires-clause-site : goal.is_gate-requires-clause-site
is_gate-requires-clause-site c =
    let w = c.args.woven.now in
    let drives = subst (λ (n : Netlist ℕ). Drives n (GateAt c.in-Gate.number) c.args.net) c.netlist-netlist.ensures.value c.in-Gate.ensures.drives in
    let there = gate_read w.netlist c.gates.result.now c.in-Gate.number c.args.net c.index-gates-number.result drives (c.gates.ensures.value ∙ ap (λ (n : Netlist ℕ). n.gates) c.netlist-netlist.ensures.value) c.index-gates-number.is in
    c.requires.site ∙ ap (site_of w) (sym there.1)

pub returns-in-Gate : goal.returns-in-Gate
returns-in-Gate c =
    let w = c.args.woven.now in
    let drives = subst (λ (n : Netlist ℕ). Drives n (GateAt c.in-Gate.number) c.args.net) c.netlist-netlist.ensures.value c.in-Gate.ensures.drives in
    let there = gate_read w.netlist c.gates.result.now c.in-Gate.number c.args.net c.index-gates-number.result drives (c.gates.ensures.value ∙ ap (λ (n : Netlist ℕ). n.gates) c.netlist-netlist.ensures.value) c.index-gates-number.is in
    alike_at w c.args.written.now c.args.net c.args.other (Through (renamed_gate (site_of w) c.index-gates-number.result)) c.is_gate.result c.netlist-netlist.ensures.named c.netlist-written.ensures.named
    (gate_feeds w c.netlist-netlist.ensures.named c.args.net c.index-gates-number.result there.0 there.1) c.requires.site c.is_gate.ensures

pub is_flop-requires-clause-flop : goal.is_flop-requires-clause-flop
is_flop-requires-clause-flop c =
    let w = c.args.woven.now in
    let drives = subst (λ (n : Netlist ℕ). Drives n (FlopAt c.in-Flop.number) c.args.net) c.netlist-netlist.ensures.value c.in-Flop.ensures.drives in
    (flop_read w.netlist c.flops.result.now c.in-Flop.number c.args.net c.index-flops-number.result drives (c.flops.ensures.value ∙ ap (λ (n : Netlist ℕ). n.flops) c.netlist-netlist.ensures.value) c.index-flops-number.is).0

pub is_flop-requires-clause-site : goal.is_flop-requires-clause-site
is_flop-requires-clause-site c =
    let w = c.args.woven.now in
    let drives = subst (λ (n : Netlist ℕ). Drives n (FlopAt c.in-Flop.number) c.args.net) c.netlist-netlist.ensures.value c.in-Flop.ensures.drives in
    let there = flop_read w.netlist c.flops.result.now c.in-Flop.number c.args.net c.index-flops-number.result drives (c.flops.ensures.value ∙ ap (λ (n : Netlist ℕ). n.flops) c.netlist-netlist.ensures.value) c.index-flops-number.is in
    c.requires.site ∙ ap (site_of w) (sym there.1)

pub returns-in-Flop : goal.returns-in-Flop
returns-in-Flop c =
    let w = c.args.woven.now in
    let drives = subst (λ (n : Netlist ℕ). Drives n (FlopAt c.in-Flop.number) c.args.net) c.netlist-netlist.ensures.value c.in-Flop.ensures.drives in
    let there = flop_read w.netlist c.flops.result.now c.in-Flop.number c.args.net c.index-flops-number.result drives (c.flops.ensures.value ∙ ap (λ (n : Netlist ℕ). n.flops) c.netlist-netlist.ensures.value) c.index-flops-number.is in
    alike_at w c.args.written.now c.args.net c.args.other (Held (renamed_flop (site_of w) c.index-flops-number.result)) c.is_flop.result c.netlist-netlist.ensures.named c.netlist-written.ensures.named
    (flop_feeds w c.netlist-netlist.ensures.named c.args.net c.index-flops-number.result there.0 there.1) c.requires.site c.is_flop.ensures
