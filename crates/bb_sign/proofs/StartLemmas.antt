-- Where walks back from observers start, by the drivers of their nets.
use Rattle.std.proofs.Common.{arith, ◌≡◌, ℕ, ◌≤◌, true, map, refl, sym, ap, ◌∙◌, slice_get, Some}
use Rattle.std.proofs.lemmas.Option.{slice_get-map}
use Rattle.std.specs.Option.{option_map}
use Rattle.bb_base.proofs.Contained.{contains_at}
use Rattle.bb_base.specs.Net.{Gate, Flop, Netlist, times, IsNetlist}
use Rattle.bb_base.proofs.GateLemmas.{stands_once, outs_times, at_most_one, out_at}
use Rattle.bb_terms.specs.Paths.{AtNet, Behind}
use Rattle.bb_terms.specs.declared.kind.Kind.{Kind}
use Rattle.bb_terms.specs.declared.kind.Kind.TheVariants.{Input, State, Split, Cut, Watch, Output}
use Rattle.bb_terms.specs.declared.plan.Cell.{Cell}
use Rattle.bb_terms.specs.Kinds.{is_observer}
use Rattle.bb_terms.specs.Lines.{d_of, IsStartOf, IsStart}
use Rattle.bb_terms.specs.Rules.{MayStand, Fits, IsInput, IsQ, IsGateNet}
use Rattle.bb_terms.proofs.NetLemmas.{d_is}

module _ (a : Netlist ℕ) (is : IsNetlist a) where
  once_q : (net : ℕ) → IsQ a net → 1 ≤ times net (map (λ (f : Flop ℕ). f.q) a.flops)
  once_q net q =
      let f = q.1 in
      stands_once (map (λ (f : Flop ℕ). f.q) a.flops) q.0 net (slice_get-map (λ (x : Flop ℕ). x.q) a.flops q.0 ∙ (ap (option_map (λ (x : Flop ℕ). x.q)) f.1 ∙ ap Some f.2))

  once_out : (net : ℕ) → IsGateNet a net → 1 ≤ times net (map (λ (g : Gate ℕ). g.out) a.gates)
  once_out net h = let g = h.1 in stands_once (map (λ (g : Gate ℕ). g.out) a.gates) h.0 net (out_at a.gates h.0 g.0 g.1 ∙ ap Some g.2)

  once_input : (net : ℕ) → IsInput a net → 1 ≤ times net a.inputs
  once_input net i = stands_once a.inputs i.0 net i.1

  -- a net is driven in one way
  no_input_q : (net : ℕ) → IsInput a net → IsQ a net → ⊥
  no_input_q net i q = omega (arith, once_input net i, once_q net q, outs_times a net, at_most_one a net is)

  no_input_gate : (net : ℕ) → IsInput a net → IsGateNet a net → ⊥
  no_input_gate net i g = omega (arith, once_input net i, once_out net g, outs_times a net, at_most_one a net is)

  no_q_gate : (net : ℕ) → IsQ a net → IsGateNet a net → ⊥
  no_q_gate net q g = omega (arith, once_q net q, once_out net g, outs_times a net, at_most_one a net is)

  flop_starts : (i net : ℕ) (f : Flop ℕ) → slice_get a.flops i ≡ Some f → f.q ≡ net → AtNet f.d ≡ AtNet (d_of a.flops net)
  flop_starts i net f at same = ap AtNet (sym (d_is a f is (contains_at a.flops i f at)) ∙ ap (d_of a.flops) same)

  kind_flop : (kind : Kind) (i net : ℕ) (f : Flop ℕ) → MayStand a kind net → is_observer kind ≡ true → slice_get a.flops i ≡ Some f → f.q ≡ net → IsStartOf a kind net (AtNet f.d)
  kind_flop Input i net f fits observer at same = absurd (cc observer)
  kind_flop State i net f fits observer at same = flop_starts i net f at same
  kind_flop Split i net f fits observer at same = absurd (cc observer)
  kind_flop Cut i net f fits observer at same = absurd (no_q_gate net (i, (f, at, same)) fits)
  kind_flop Watch i net f fits observer at same = flop_starts i net f at same
  kind_flop Output i net f fits observer at same = absurd (no_q_gate net (i, (f, at, same)) fits.0)

  -- an observer on a q starts at the d of its flip-flop
  pub begins_flop : (c : Cell) (i : ℕ) (f : Flop ℕ) → Fits a c → is_observer c.kind ≡ true → slice_get a.flops i ≡ Some f → f.q ≡ c.net → IsStart a c (AtNet f.d)
  begins_flop c i f fits observer at same = kind_flop c.kind i c.net f fits observer at same

  kind_gate : (kind : Kind) (i net : ℕ) (g : Gate ℕ) → MayStand a kind net → is_observer kind ≡ true → slice_get a.gates i ≡ Some g → g.out ≡ net → IsStartOf a kind net (Behind g)
  kind_gate Input i net g fits observer at same = absurd (cc observer)
  kind_gate State i net g fits observer at same = absurd (no_q_gate net fits (i, (g, at, same)))
  kind_gate Split i net g fits observer at same = absurd (cc observer)
  kind_gate Cut i net g fits observer at same = (g, contains_at a.gates i g at, same, refl)
  kind_gate Watch i net g fits observer at same = absurd (no_q_gate net fits (i, (g, at, same)))
  kind_gate Output i net g fits observer at same = (g, contains_at a.gates i g at, same, refl)

  -- one on a gate's output behind the gate
  pub begins_gate : (c : Cell) (i : ℕ) (g : Gate ℕ) → Fits a c → is_observer c.kind ≡ true → slice_get a.gates i ≡ Some g → g.out ≡ c.net → IsStart a c (Behind g)
  begins_gate c i g fits observer at same = kind_gate c.kind i c.net g fits observer at same

  kind_input : (kind : Kind) (i net : ℕ) → MayStand a kind net → is_observer kind ≡ true → slice_get a.inputs i ≡ Some net → ⊥
  kind_input Input i net fits observer at = cc observer
  kind_input State i net fits observer at = no_input_q net (i, at) fits
  kind_input Split i net fits observer at = cc observer
  kind_input Cut i net fits observer at = no_input_gate net (i, at) fits
  kind_input Watch i net fits observer at = no_input_q net (i, at) fits
  kind_input Output i net fits observer at = no_input_gate net (i, at) fits.0

  -- and none is on an input
  pub never_input : (c : Cell) (i : ℕ) → Fits a c → is_observer c.kind ≡ true → slice_get a.inputs i ≡ Some c.net → ⊥
  never_input c i fits observer at = kind_input c.kind i c.net fits observer at
