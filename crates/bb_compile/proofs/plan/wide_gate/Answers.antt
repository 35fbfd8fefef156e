use Rattle.std.proofs.Common.{◌≡◌, ℕ, ◌<◌, length, refl, sym, ap, ◌∙◌, subst}
use Rattle.bb_base.specs.Net.{Gate, Netlist}
use Rattle.bb_compile.specs.Causes.{IsNameOf}
use Rattle.bb_compile.proofs.PlanLemmas.{item_is, gate_within}
use Rattle.bb_compile.proofs.plan.wide_gate.Goals as goal

pub net_name-requires : goal.net_name-requires
net_name-requires c =
    let a = c.args.named.now in
    let same = c.gates.ensures.value ∙ ap (λ (n : Netlist ℕ). n.gates) c.netlist.ensures.value in
    let item = item_is a.netlist.gates c.gates.result.now c.args.gate c.index-gates-gate.result c.requires.gate same c.requires.stands c.index-gates-gate.is in
    let out : c.gate.inside.out ≡ c.requires.gate.out = ap (λ (g : Gate ℕ). g.out) (c.gate.view_is ∙ item) in
    subst (λ n. n < length a.names) (sym out) (gate_within a c.args.gate c.requires.gate c.netlist.ensures.named c.requires.stands)

pub returns : goal.returns
returns c =
    let a = c.args.named.now in
    let same = c.gates.ensures.value ∙ ap (λ (n : Netlist ℕ). n.gates) c.netlist.ensures.value in
    let item = item_is a.netlist.gates c.gates.result.now c.args.gate c.index-gates-gate.result c.requires.gate same c.requires.stands c.index-gates-gate.is in
    let out : c.gate.inside.out ≡ c.requires.gate.out = ap (λ (g : Gate ℕ). g.out) (c.gate.view_is ∙ item) in
    let name = c.in_ok-name.name in
    let select = c.in_ok-name.select in (
      name,
      select,
      refl,
      record { number = c.args.gate; first = c.requires; named = subst (λ n. IsNameOf a n name select) out c.in_ok-name.ensures },
    )
