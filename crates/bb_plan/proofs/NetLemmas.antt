-- A net is driven in one way: by an input, by a flip-flop or by a gate.
use Rattle.std.proofs.Common.{arith, ℕ, ◌≤◌, map, ap, ◌∙◌, Some}
use Rattle.std.proofs.lemmas.Option.{slice_get-map}
use Rattle.std.specs.Option.{option_map}
use Rattle.bb_base.specs.Net.{Gate, Flop, Netlist, times, IsNetlist}
use Rattle.bb_base.proofs.GateLemmas.{stands_once, outs_times, at_most_one, out_at}
use Rattle.bb_terms.specs.Rules.{IsInput, IsQ, IsGateNet}

module _ (a : Netlist ℕ) (is : IsNetlist a) where
  once_q : (net : ℕ) → IsQ a net → 1 ≤ times net (map (λ (f : Flop ℕ). f.q) a.flops)
  once_q net q =
      let f = q.1 in
      stands_once (map (λ (f : Flop ℕ). f.q) a.flops) q.0 net (slice_get-map (λ (x : Flop ℕ). x.q) a.flops q.0 ∙ (ap (option_map (λ (x : Flop ℕ). x.q)) f.1 ∙ ap Some f.2))

  once_out : (net : ℕ) → IsGateNet a net → 1 ≤ times net (map (λ (g : Gate ℕ). g.out) a.gates)
  once_out net h = let g = h.1 in stands_once (map (λ (g : Gate ℕ). g.out) a.gates) h.0 net (out_at a.gates h.0 g.0 g.1 ∙ ap Some g.2)

  once_input : (net : ℕ) → IsInput a net → 1 ≤ times net a.inputs
  once_input net i = stands_once a.inputs i.0 net i.1

  -- a net is driven in one way
  pub no_input_q : (net : ℕ) → IsInput a net → IsQ a net → ⊥
  no_input_q net i q = omega (arith, once_input net i, once_q net q, outs_times a net, at_most_one a net is)

  pub no_input_gate : (net : ℕ) → IsInput a net → IsGateNet a net → ⊥
  no_input_gate net i g = omega (arith, once_input net i, once_out net g, outs_times a net, at_most_one a net is)

  pub no_q_gate : (net : ℕ) → IsQ a net → IsGateNet a net → ⊥
  no_q_gate net q g = omega (arith, once_q net q, once_out net g, outs_times a net, at_most_one a net is)
