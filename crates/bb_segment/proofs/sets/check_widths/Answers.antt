use Rattle.std.proofs.Common.{arith, ◌≡◌, ◌≤◌, ℕ, List, ◌∙◌, subst, ap, sym, Contains, Some, nat_eq}
use Rattle.std.specs.Set.{distinct_count}
use Rattle.std.proofs.lemmas.Grind.{common_steps}
use Rattle.std.proofs.lemmas.Option.{slice_get-get_or, slice_get_within}
use Rattle.bb_base.specs.Net.{Gate}
use Rattle.bb_terms.specs.Cuts.{IsFirstWide}
use Rattle.bb_base.proofs.Contained.{contains_at}
use Rattle.bb_segment.proofs.EntryLemmas.{net_of}
use Rattle.bb_segment.proofs.PlaceLemmas.{first_wide, narrow_more}
use Rattle.bb_segment.proofs.sets.check_widths.Goals as goal

pub overflow_cast-result-then-inputs-width : goal.overflow_cast-result-then-inputs-width
overflow_cast-result-then-inputs-width c =
    let at = slice_get-get_or c.args.gates.now c.gates.number c.index-gates-number.result c.gates-test.true ∙ ap Some (sym c.index-gates-number.is) in
    let ins = c.deref.ensures ∙ ap (λ (g : Gate ℕ). g.ins) c.gate.view_is in
    let few = c.in_ok-inputs.ensures.few c.args.nets (λ net h. net_of c.args.gates.now c.args.nets c.requires.gates c.index-gates-number.result net (contains_at c.args.gates.now c.gates.number c.index-gates-number.result at) (subst (λ (ns : List ℕ). Contains ns net) ins h)) in
    let fits = c.ranges.nets.fits in
    grind (arith, common_steps, few, fits)

pub returns-then-inputs-width-clause-wide : goal.returns-then-inputs-width-clause-wide
returns-then-inputs-width-clause-wide c = λ gate inputs most e.
    let ins = c.deref.ensures ∙ ap (λ (g : Gate ℕ). g.ins) c.gate.view_is in
    let h = first_wide c.args.gates.now c.gates.number c.args.width c.in_ok-inputs.inputs c.index-gates-number.result c.gates-test.true c.index-gates-number.is (c.in_ok-inputs.ensures.count ∙ ap (distinct_count nat_eq) ins) c.if-inputs-width.true c.gates.invariant in
    let number : c.gates.number ≡ gate = cc e in
    let count : c.in_ok-inputs.inputs ≡ inputs = cc e in
    subst (λ k. IsFirstWide c.args.gates.now c.args.width k inputs) number (subst (IsFirstWide c.args.gates.now c.args.width c.gates.number) count h)

pub gates-preserved : goal.gates-preserved
gates-preserved c =
    let ins = c.deref.ensures ∙ ap (λ (g : Gate ℕ). g.ins) c.gate.view_is in
    let count = c.in_ok-inputs.ensures.count ∙ ap (distinct_count nat_eq) ins in
    let low = c.if-inputs-width.false in
    narrow_more c.args.gates.now c.gates.number c.args.width c.index-gates-number.result c.gates-test.true c.index-gates-number.is (subst (λ k. k ≤ c.args.width) count low) c.gates.invariant

pub returns-clause-narrow : goal.returns-clause-narrow
returns-clause-narrow c = λ h g at. c.gates.invariant h g (let inside = slice_get_within c.args.gates.now h g at in let done = c.gates-test.false in omega (arith, inside, done)) at
