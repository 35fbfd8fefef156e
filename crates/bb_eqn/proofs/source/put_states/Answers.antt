use Rattle.std.proofs.Common.{arith, ◌≡◌, ◌<◌, ◌+◌, ◌^◌, get_or, ap, subst, sym, ◌∙◌}
use Rattle.std.specs.Int.{bit_at}
use Rattle.std.proofs.lemmas.Nat.Bits.{bit_at-lt}
use Rattle.bb_terms.specs.Register.{next_state}
use Rattle.bb_eqn.specs.Lanes.{state_on}
use Rattle.bb_eqn.proofs.SourceLemmas.{below_put, lanes_more, state_on_more, state_on_zero}
use Rattle.bb_eqn.proofs.source.put_states.Goals as goal

pub loop-place-preserved : goal.loop-place-preserved
loop-place-preserved c =
    let degree = c.args.degree in
    let mask = c.args.mask in
    let place = c.loop-place.place in
    let state = c.loop-place.state in
    let before = c.loop-place.invariant in
    record {
      state = c.next-state.ensures.state ∙ ap (next_state degree mask) before.state ∙ sym (state_on_more degree mask place c.args.first);
      below = c.next-state.ensures.below;
      small = λ i less. subst (λ n. n < 2 ^ (place + 1)) (sym (c.put_state.ensures i less)) (below_put place (get_or c.loop-place.rows i 0) (bit_at state i) (before.small i less) (bit_at-lt state i));
      lanes = λ i t less near. lanes_more (λ n. state_on degree mask n c.args.first) i t place (get_or c.loop-place.rows i 0) (get_or c.put_state.new.rows i 0) state (c.put_state.ensures i less) (before.small i less) before.state
          (λ earlier. before.lanes i t less earlier) near;
    }

pub returns-clause-state : goal.returns-clause-state
returns-clause-state c =
    let all : c.loop-place.place ≡ 64 = omega (arith, c.loop-place-test.false, c.loop-place.auto.place-end) in
    c.loop-place.invariant.state ∙ ap (λ n. state_on c.args.degree c.args.mask n c.args.first) all

pub loop-place-init : goal.loop-place-init
loop-place-init c = record {
  state = sym (state_on_zero c.args.degree c.args.mask c.args.first);
  below = c.requires.state;
  small = λ i less. let none = c.requires.fresh i less in omega (arith, none);
  lanes = λ i t less near. absurd (omega (arith, near));
}
