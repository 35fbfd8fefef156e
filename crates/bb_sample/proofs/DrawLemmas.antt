-- States and draws, one after another.
use Rattle.std.proofs.Common.{◌≡◌, ℕ, ◌+◌, ◌*◌, ◌<◌, [], ◌∷◌, refl, sym, ap, ◌∙◌, arith, add-one}
use Rattle.std.proofs.lemmas.Nat.{mod_below}
use Rattle.bb_base.specs.declared.operator.Op.{Op}
use Rattle.bb_base.specs.Named.{Named}
use Rattle.bb_base.specs.Building.{with_gate, with_gates, with_flop, with_flops}
use Rattle.bb_sample.specs.Draws.{generator_step, generator_after, drawn, draw}
use Rattle.bb_sample.specs.Sample.{pool_size, pool_net, gate_net, state_net, operator_of, gate_at, flop_at}

-- the first state
pub after_none : (number : ℕ) → generator_after number 0 ≡ number
unfolding generator_after
after_none number = refl

-- one draw more
pub after_next : (number k : ℕ) → generator_after number (k + 1) ≡ generator_step (generator_after number k)
unfolding generator_after
after_next number k = ap (generator_after number) (add-one k)

after_step : (number k m s t : ℕ) → s ≡ generator_after number k → t ≡ generator_step s → k + 1 ≡ m → t ≡ generator_after number m
after_step number k m s t at next more = next ∙ ap generator_step at ∙ sym (after_next number k) ∙ ap (generator_after number) more

-- a draw is below its bound
pub drawn_below : (state bound : ℕ) → 0 < bound → drawn state bound < bound
drawn_below state bound some = mod_below _ bound some

-- gate j, drawn from the state behind those of the gates before it, and the state behind it
pub gate_drawn : (n : Named) (number j s one two three out first second : ℕ) (op : Op) → s ≡ generator_after number (3 * j) → one ≡ generator_step s → two ≡ generator_step one → three ≡ generator_step two
    → op ≡ operator_of (drawn one 6) → first ≡ pool_net number (drawn two (pool_size number j)) → second ≡ pool_net number (drawn three (pool_size number j)) → out ≡ gate_net number j
    → with_gate n op out (first ∷ second ∷ []) ≡ with_gates n (gate_at number j ∷ [])
gate_drawn n number j s one two three out first second op at to_one to_two to_three op_is first_is second_is out_is =
    let at_one : one ≡ generator_after number (3 * j + 1) = after_step number (3 * j) (3 * j + 1) s one at to_one refl in
    let at_two : two ≡ generator_after number (3 * j + 1 + 1) = after_step number (3 * j + 1) (3 * j + 1 + 1) one two at_one to_two refl in
    let at_three : three ≡ generator_after number (3 * j + 2 + 1) = after_step number (3 * j + 1 + 1) (3 * j + 2 + 1) two three at_two to_three (omega arith) in
    let op_at : op ≡ operator_of (draw number (3 * j) 6) = op_is ∙ ap (λ k. operator_of (drawn k 6)) at_one in
    let first_at : first ≡ pool_net number (draw number (3 * j + 1) (pool_size number j)) = first_is ∙ ap (λ k. pool_net number (drawn k (pool_size number j))) at_two in
    let second_at : second ≡ pool_net number (draw number (3 * j + 2) (pool_size number j)) = second_is ∙ ap (λ k. pool_net number (drawn k (pool_size number j))) at_three in
    λ i. with_gates n (record { op = op_at i; out = out_is i; ins = first_at i ∷ second_at i ∷ [] } ∷ [])

pub gate_state : (number j s one two three : ℕ) → s ≡ generator_after number (3 * j) → one ≡ generator_step s → two ≡ generator_step one → three ≡ generator_step two → three ≡ generator_after number (3 * (j + 1))
gate_state number j s one two three at to_one to_two to_three =
    let at_one : one ≡ generator_after number (3 * j + 1) = after_step number (3 * j) (3 * j + 1) s one at to_one refl in
    let at_two : two ≡ generator_after number (3 * j + 2) = after_step number (3 * j + 1) (3 * j + 2) one two at_one to_two (omega arith) in
    after_step number (3 * j + 2) (3 * (j + 1)) two three at_two to_three (omega arith)

-- flip-flop i, drawn from the state behind those of the gates and of the flip-flops before it, and the state behind it
pub flop_drawn : (n : Named) (number i s one q d : ℕ) → s ≡ generator_after number (3 * number + i) → one ≡ generator_step s → q ≡ state_net number i → d ≡ gate_net number (drawn one number)
    → with_flop n q d ≡ with_flops n (flop_at number i ∷ [])
flop_drawn n number i s one q d at to_one q_is d_is =
    let at_one : one ≡ generator_after number (3 * number + i + 1) = after_step number (3 * number + i) (3 * number + i + 1) s one at to_one refl in
    let d_at : d ≡ gate_net number (draw number (3 * number + i) number) = d_is ∙ ap (λ k. gate_net number (drawn k number)) at_one in
    λ x. with_flops n (record { q = q_is x; d = d_at x } ∷ [])

pub flop_state : (number i s one : ℕ) → s ≡ generator_after number (3 * number + i) → one ≡ generator_step s → one ≡ generator_after number (3 * number + (i + 1))
flop_state number i s one at to_one = after_step number (3 * number + i) (3 * number + (i + 1)) s one at to_one (omega arith)
