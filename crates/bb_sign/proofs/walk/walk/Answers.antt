use Rattle.std.proofs.Common.{arith, ◌≡◌, ◌<◌, ◌≤◌, ◌+◌, ◌-◌, ◌*◌, ◌%◌, ◌^◌, ℕ, min, refl, sym, ap, subst, ◌∙◌}
use Rattle.std.proofs.lemmas.Nat.{pow_pos}
use Rattle.std.specs.Int.{div_ceil}
use Rattle.bb_terms.specs.Register.{IsDegree, IsMask, state_after}
use Rattle.bb_terms.specs.Plan.{PlanValue}
use Rattle.bb_terms.specs.Rules.{Frame}
use Rattle.bb_eqn.specs.Values.{bits_at}
use Rattle.bb_eqn.specs.Lanes.{in_lane, state_on}
use Rattle.bb_eqn.proofs.SourceLemmas.{state_on_after}
use Rattle.bb_sign.specs.Bits.{AreBitsAt}
use Rattle.bb_sign.specs.Compactors.{AreSignedUntil}
use Rattle.bb_sign.specs.Evaluation.{AreGivenBits}
use Rattle.bb_sign.proofs.BlockLemmas.{block_within, block_more, block_end}
use Rattle.bb_sign.proofs.EvaluationLemmas.{bits_at_state}
use Rattle.bb_sign.proofs.CompactorLemmas.{all_few}
use Rattle.bb_sign.proofs.GrowthLemmas.{signed_more, signed_all, all_states}
use Rattle.bb_sign.proofs.walk.walk.Goals as goal

pub overflow_shl-states : goal.overflow_shl-states
overflow_shl-states c =
    let most = (c.requires.valid.meets Frame).degree_most in
    let same : c.plan.inside.degree ≡ c.args.plan.now.degree = ap (λ (p : PlanValue). p.degree) c.plan.view_is in
    omega (arith, most, same)

pub loop-block-init : goal.loop-block-init
loop-block-init c = record {
  at = refl;
  below = pow_pos c.args.plan.now.degree;
  words = c.requires.words;
  values = c.requires.values;
  held = c.requires.held;
  signed = subst (λ n. AreSignedUntil c.args.netlist.now c.args.plan.now n c.args.held.now) (let none : 0 ≡ min 0 (2 ^ c.args.plan.now.degree) = omega arith in none) c.requires.zero;
}

pub fill_bits-state-requires-clause-degree : goal.fill_bits-state-requires-clause-degree
fill_bits-state-requires-clause-degree c =
    let frame = c.requires.valid.meets Frame in
    let least = frame.degree_least in
    let most = frame.degree_most in
    subst IsDegree (sym (ap (λ (p : PlanValue). p.degree) c.plan.view_is)) (record { least = least; most = omega (arith, most) })

pub fill_bits-state-requires-clause-mask : goal.fill_bits-state-requires-clause-mask
fill_bits-state-requires-clause-mask c = subst (λ (p : PlanValue). IsMask p.degree p.mask) (sym c.plan.view_is) (c.requires.valid.meets Frame).mask_fits

pub compact_all-requires-clause-few : goal.compact_all-requires-clause-few
compact_all-requires-clause-few c = all_few c.args.netlist.now c.args.plan.now.registers c.args.compactors.now c.requires.compactors

pub loop-block-preserved : goal.loop-block-preserved
loop-block-preserved c =
    let a = c.args.netlist.now in
    let p = c.args.plan.now in
    let n = 64 * c.loop-block.block in
    let count = c.min-count.result in
    let values = c.fill_bits-state.new.values in
    let states : 1 * 2 ^ c.plan.inside.degree % 2 ^ 32 ≡ 2 ^ p.degree = all_states p c.plan.inside.degree (c.requires.valid.meets Frame) (ap (λ (p : PlanValue). p.degree) c.plan.view_is) in
    let less : n < 2 ^ p.degree = block_within (2 ^ p.degree) c.loop-block.block (subst (λ e. c.loop-block.block < e) (c.div_ceil-block-end.ensures ∙ ap (λ s. div_ceil s 64) states) c.loop-block-test.true) in
    let count_is : count ≡ min (2 ^ p.degree - n) 64 = grind (arith, c.min-count.ensures, states) in
    let from : min n (2 ^ p.degree) ≡ n = omega (arith, less) in
    let more : min n (2 ^ p.degree) + count ≡ min (64 * (c.loop-block.block + 1)) (2 ^ p.degree) = ap (λ k. min n (2 ^ p.degree) + k) count_is ∙ block_more (2 ^ p.degree) c.loop-block.block less in
    let state_at : (t : ℕ) → state_on c.plan.inside.degree c.plan.inside.mask t c.loop-block.state ≡ state_after p.degree p.mask (n + t) =
    (λ t. ap (λ (q : PlanValue). state_on q.degree q.mask t c.loop-block.state) c.plan.view_is ∙ (ap (state_on p.degree p.mask t) c.loop-block.invariant.at ∙ state_on_after p.degree p.mask t n)) in
    let settled : (t : ℕ) → t < 64 → AreBitsAt a p (state_after p.degree p.mask (n + t)) (bits_at (in_lane t values)) =
    (λ t near. bits_at_state a p c.args.evaluation.now (state_after p.degree p.mask (n + t)) (bits_at (in_lane t values)) c.requires.evaluation
    (subst (λ x. AreGivenBits c.args.evaluation.now x (bits_at (in_lane t values))) (state_at t) (c.fill_bits-state.ensures.bits t near))) in
    record {
      at = c.fill_bits-state.ensures.state ∙ (state_at 64 ∙ ap (state_after p.degree p.mask) (omega arith));
      below = subst (λ (q : PlanValue). c.fill_bits-state.result < 2 ^ q.degree) c.plan.view_is c.fill_bits-state.ensures.below;
      words = c.fill_bits-state.ensures.words ∙ c.loop-block.invariant.words;
      values = c.fill_bits-state.ensures.long ∙ c.loop-block.invariant.values;
      held = c.compact_all.ensures.held;
      signed = subst (λ k. AreSignedUntil a p k c.compact_all.new.held) (ap (λ k. k + count) (sym from) ∙ more)
          (signed_more a p c.requires.netlist c.requires.valid c.args.compactors.now n count values c.loop-block.held c.compact_all.new.held c.requires.compactors (omega (arith, count_is, less))
          (λ t near. settled t (omega (arith, near, count_is))) c.compact_all.ensures.each (subst (λ k. AreSignedUntil a p k c.loop-block.held) from c.loop-block.invariant.signed));
    }

pub returns-clause-signed : goal.returns-clause-signed
returns-clause-signed c =
    let p = c.args.plan.now in
    let states : 1 * 2 ^ c.plan.inside.degree % 2 ^ 32 ≡ 2 ^ p.degree = all_states p c.plan.inside.degree (c.requires.valid.meets Frame) (ap (λ (p : PlanValue). p.degree) c.plan.view_is) in
    let all = block_end (2 ^ p.degree) c.loop-block.block (subst (λ e. e ≤ c.loop-block.block) (c.div_ceil-block-end.ensures ∙ ap (λ s. div_ceil s 64) states) c.loop-block-test.false) in
    signed_all c.args.netlist.now p (min (64 * c.loop-block.block) (2 ^ p.degree)) c.loop-block.held all c.loop-block.invariant.signed
