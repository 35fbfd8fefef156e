use Rattle.std.proofs.Common.{arith, ◌<◌, ◌^◌, ℕ, List, length, slice_index, refl, sym, subst, below_more}
use Rattle.bb_base.specs.Dual.{IsDual}
use Rattle.bb_alike.proofs.ListLemmas.{not_both}
use Rattle.bb_audit.proofs.DualLemmas.{rows, ends, IsDualEnd, from_ends, to_ends, same_rows}
use Rattle.bb_audit.proofs.duals.have_duals.Goals as goal

pub returns-then-dual-limit : goal.returns-then-dual-limit
returns-then-dual-limit c =
    let p = c.args.plan.now in
    let pairs = c.args.pairs.now in
    let less : c.loop-place.place < length pairs = omega arith in
    (λ e. absurd (cc e), λ h. absurd (let low = (to_ends p pairs h c.loop-place.place less).0 in omega (arith, low, c.dual_at-dual.ensures, c.state_count-limit.ensures, c.if-dual-limit.true)))

pub returns-then-not-is_dual : goal.returns-then-not-is_dual
returns-then-not-is_dual c =
    let p = c.args.plan.now in
    let pairs = c.args.pairs.now in
    let place = c.loop-place.place in
    let less : c.loop-place.place < length pairs = omega arith in
    let same = same_rows p c.args.columns.now pairs c.requires.columns in (
      λ e. absurd (cc e),
      λ h. absurd (not_both c.is_dual.result (c.is_dual.ensures.1 (subst (λ (rs : List ℕ). IsDual rs place c.dual_at-dual.result) (sym same) (subst (λ (d : ℕ). IsDual (rows p pairs) place d) (sym c.dual_at-dual.ensures) (to_ends p pairs h place less).1))) c.if-not-is_dual.true),
    )

pub loop-place-preserved : goal.loop-place-preserved
loop-place-preserved c =
    let p = c.args.plan.now in
    let pairs = c.args.pairs.now in
    let place = c.loop-place.place in
    let same = same_rows p c.args.columns.now pairs c.requires.columns in
    let low : slice_index (ends pairs) place < 2 ^ p.degree = omega (arith, c.dual_at-dual.ensures, c.state_count-limit.ensures, c.if-dual-limit.false) in
    let dual = subst (λ (d : ℕ). IsDual (rows p pairs) place d) c.dual_at-dual.ensures (subst (λ (rs : List ℕ). IsDual rs place c.dual_at-dual.result) same (c.is_dual.ensures.0 c.if-not-is_dual.false)) in
    below_more (λ k. IsDualEnd p pairs k) place c.loop-place.invariant (low, dual)

pub returns : goal.returns
returns c = (λ e. from_ends c.args.plan.now c.args.pairs.now c.loop-place.place (omega arith) c.loop-place.invariant, λ h. refl)
