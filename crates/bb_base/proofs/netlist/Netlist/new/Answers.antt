use Rattle.std.proofs.Common.{◌≡◌, ◌≤◌, ◌<◌, ℕ, subst, ◌∙◌}
use Rattle.bb_base.specs.Firsts.{IsFirst}
use Rattle.bb_base.specs.Net.{Netlist, times}
use Rattle.bb_base.specs.Drivers.{driven_by, netlist_of}
use Rattle.bb_base.proofs.DriverLemmas.{draft_fits, draft_table, draft_long}
use Rattle.bb_base.proofs.netlist.Netlist.new.Goals as goal

pub returns-in-Err-clause-two : goal.returns-in-Err-clause-two
returns-in-Err-clause-two c = λ net e.
    let drives : c.deref-4.result.now ≡ driven_by c.args.inputs.items c.args.gates.items c.args.flops.items =
    c.deref-4.ensures.value ∙ c.in_ok-driven.ensures ∙ (λ i. driven_by (c.deref.ensures.value i) (c.deref-2.ensures.value i) (c.deref-3.ensures.value i)) in
    subst (λ k. IsFirst (λ m. 2 ≤ times m k) c.args.nets net) drives (c.in-Err.ensures.two net (cc))

pub returns-in-Err-clause-none : goal.returns-in-Err-clause-none
returns-in-Err-clause-none c = λ net e.
    let drives : c.deref-4.result.now ≡ driven_by c.args.inputs.items c.args.gates.items c.args.flops.items =
    c.deref-4.ensures.value ∙ c.in_ok-driven.ensures ∙ (λ i. driven_by (c.deref.ensures.value i) (c.deref-2.ensures.value i) (c.deref-3.ensures.value i)) in
    subst (λ k. IsFirst (λ m. times m k ≡ 0) c.args.nets net) drives (c.in-Err.ensures.none net (cc))

pub returns-in-Err-clause-order : goal.returns-in-Err-clause-order
returns-in-Err-clause-order c = λ net e.
    let drives : c.deref-4.result.now ≡ driven_by c.args.inputs.items c.args.gates.items c.args.flops.items =
    c.deref-4.ensures.value ∙ c.in_ok-driven.ensures ∙ (λ i. driven_by (c.deref.ensures.value i) (c.deref-2.ensures.value i) (c.deref-3.ensures.value i)) in
    subst (λ k. (m : ℕ) → m < c.args.nets → times m k ≤ 1) drives (c.in-Err.ensures.order net (cc))

pub invariant_of-result : goal.invariant_of-result
invariant_of-result c =
    let n : Netlist ℕ = netlist_of c.args.inputs.items c.args.outputs.items c.args.gates.items c.args.flops.items in
    let drives : c.deref-4.result.now ≡ driven_by c.args.inputs.items c.args.gates.items c.args.flops.items =
    c.deref-4.ensures.value ∙ c.in_ok-driven.ensures ∙ (λ i. driven_by (c.deref.ensures.value i) (c.deref-2.ensures.value i) (c.deref-3.ensures.value i)) in
    draft_table c.args.nets n c.in-Ok.places.items c.deref-4.result.now c.ranges.nets.fits c.requires.fits drives c.in-Ok.ensures.once c.in-Ok.ensures.long c.in-Ok.ensures.each

pub returns-clause-count : goal.returns-clause-count
returns-clause-count c =
    let n : Netlist ℕ = netlist_of c.args.inputs.items c.args.outputs.items c.args.gates.items c.args.flops.items in
    let drives : c.deref-4.result.now ≡ driven_by c.args.inputs.items c.args.gates.items c.args.flops.items =
    c.deref-4.ensures.value ∙ c.in_ok-driven.ensures ∙ (λ i. driven_by (c.deref.ensures.value i) (c.deref-2.ensures.value i) (c.deref-3.ensures.value i)) in
    draft_long c.args.nets n c.deref-4.result.now c.requires.fits drives c.in-Ok.ensures.once

pub returns-clause-netlist : goal.returns-clause-netlist
returns-clause-netlist c =
    let n : Netlist ℕ = netlist_of c.args.inputs.items c.args.outputs.items c.args.gates.items c.args.flops.items in
    let drives : c.deref-4.result.now ≡ driven_by c.args.inputs.items c.args.gates.items c.args.flops.items =
    c.deref-4.ensures.value ∙ c.in_ok-driven.ensures ∙ (λ i. driven_by (c.deref.ensures.value i) (c.deref-2.ensures.value i) (c.deref-3.ensures.value i)) in
    draft_fits c.args.nets n c.requires.fits (subst (λ k. (m : ℕ) → m < c.args.nets → times m k ≡ 1) drives c.in-Ok.ensures.once)
