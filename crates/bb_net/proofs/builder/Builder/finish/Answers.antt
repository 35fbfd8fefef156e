use Rattle.std.proofs.Common.{◌≡◌, ◌≤◌, ◌<◌, ℕ, length, IsSome, ◌↔◌, ap, sym, subst, ◌∙◌}
use Rattle.bb_base.specs.Firsts.{IsFirst}
use Rattle.bb_base.specs.Net.{Netlist, driven, times, IsNetlist}
use Rattle.bb_base.specs.Drivers.{driven_by, netlist_of}
use Rattle.bb_base.specs.Named.{Named, IsNamed}
use Rattle.bb_net.proofs.NamedLemmas.{named_fits}
use Rattle.bb_net.proofs.builder.Builder.finish.Goals as goal

pub returns-in-Err-clause-two : goal.returns-in-Err-clause-two
returns-in-Err-clause-two c = λ net e.
    let nets : c.len-nets.result ≡ length c.args.self.names = c.len-nets.ensures.len ∙ ap (λ (k : Named). length k.names) c.self.view_is in
    let drives : driven_by c.self.inside.inputs.items c.self.inside.gates.items c.self.inside.flops.items ≡ driven c.args.self.netlist = ap (λ (k : Named). driven k.netlist) c.self.view_is in
    subst (λ k. IsFirst (λ m. 2 ≤ times m k) (length c.args.self.names) net) drives (subst (λ k. IsFirst (λ m. 2 ≤ times m (driven_by c.self.inside.inputs.items c.self.inside.gates.items c.self.inside.flops.items)) k net) nets (c.in-Err.ensures.two net (cc)))

pub returns-in-Err-clause-none : goal.returns-in-Err-clause-none
returns-in-Err-clause-none c = λ net e.
    let nets : c.len-nets.result ≡ length c.args.self.names = c.len-nets.ensures.len ∙ ap (λ (k : Named). length k.names) c.self.view_is in
    let drives : driven_by c.self.inside.inputs.items c.self.inside.gates.items c.self.inside.flops.items ≡ driven c.args.self.netlist = ap (λ (k : Named). driven k.netlist) c.self.view_is in
    subst (λ k. IsFirst (λ m. times m k ≡ 0) (length c.args.self.names) net) drives (subst (λ k. IsFirst (λ m. times m (driven_by c.self.inside.inputs.items c.self.inside.gates.items c.self.inside.flops.items) ≡ 0) k net) nets (c.in-Err.ensures.none net (cc)))

pub returns-in-Err-clause-order : goal.returns-in-Err-clause-order
returns-in-Err-clause-order c = λ net e.
    let nets : c.len-nets.result ≡ length c.args.self.names = c.len-nets.ensures.len ∙ ap (λ (k : Named). length k.names) c.self.view_is in
    let drives : driven_by c.self.inside.inputs.items c.self.inside.gates.items c.self.inside.flops.items ≡ driven c.args.self.netlist = ap (λ (k : Named). driven k.netlist) c.self.view_is in
    subst (λ k. (m : ℕ) → m < length c.args.self.names → times m k ≤ 1) drives (subst (λ k. (m : ℕ) → m < k → times m (driven_by c.self.inside.inputs.items c.self.inside.gates.items c.self.inside.flops.items) ≤ 1) nets (c.in-Err.ensures.order net (cc)))

pub invariant_of-result : goal.invariant_of-result
invariant_of-result c =
    let m : Named = record {
      module_name = c.self.inside.«module»;
      variables = c.self.inside.variables.entries;
      clock = c.self.inside.clock;
      names = c.self.inside.names.keys;
      netlist = netlist_of c.self.inside.inputs.items c.self.inside.outputs.items c.self.inside.gates.items c.self.inside.flops.items;
    } in
    let clocked : IsSome m.clock ↔ (0 < length m.netlist.flops) = subst (λ (k : Named). IsSome k.clock ↔ (0 < length k.netlist.flops)) (sym c.self.view_is) c.requires.clock in
    let netlist : IsNetlist m.netlist = subst IsNetlist c.in-Ok.ensures.value c.in-Ok.ensures.netlist in
    let count : length (driven m.netlist) ≡ length m.names = ap (λ k. length (driven k)) (sym c.in-Ok.ensures.value) ∙ c.in-Ok.ensures.count ∙ c.len-nets.ensures.len in
    let fits = named_fits m c.self.invariant.0 netlist count c.len-nets.ensures.unique c.len-variables.ensures.unique clocked in
    let kept = c.self.invariant in
    let whole : Named → Netlist ℕ → Named = λ k n. record k { netlist = n } in
    (subst IsNamed (ap (whole m) (sym c.in-Ok.ensures.value)) fits, kept.1, kept.2, kept.3)

pub returns-clause-valid : goal.returns-clause-valid
returns-clause-valid c =
    let m : Named = record {
      module_name = c.self.inside.«module»;
      variables = c.self.inside.variables.entries;
      clock = c.self.inside.clock;
      names = c.self.inside.names.keys;
      netlist = netlist_of c.self.inside.inputs.items c.self.inside.outputs.items c.self.inside.gates.items c.self.inside.flops.items;
    } in
    let clocked : IsSome m.clock ↔ (0 < length m.netlist.flops) = subst (λ (k : Named). IsSome k.clock ↔ (0 < length k.netlist.flops)) (sym c.self.view_is) c.requires.clock in
    let netlist : IsNetlist m.netlist = subst IsNetlist c.in-Ok.ensures.value c.in-Ok.ensures.netlist in
    let count : length (driven m.netlist) ≡ length m.names = ap (λ k. length (driven k)) (sym c.in-Ok.ensures.value) ∙ c.in-Ok.ensures.count ∙ c.len-nets.ensures.len in
    let fits = named_fits m c.self.invariant.0 netlist count c.len-nets.ensures.unique c.len-variables.ensures.unique clocked in
    subst IsNamed c.self.view_is fits
