-- Where walks back from observers start, and the leaves at which they end.
use Rattle.std.proofs.Common.{arith, ◌≡◌, ℕ, ◌<◌, List, length, Bool, true, refl, sym, ap, subst, ◌∙◌, slice_get, Some}
use Rattle.bb_base.proofs.Contained.{contains_at}
use Rattle.bb_base.specs.Net.{Gate, Flop, Netlist, IsNetlist}
use Rattle.bb_terms.specs.Paths.{Start, AtNet, Behind}
use Rattle.bb_terms.specs.Support.{AreLeaves, HasLeaves, stop_at, start_in}
use Rattle.bb_terms.specs.declared.start.Start.{Start as CodeStart}
use Rattle.bb_segment.proofs.SupportLemmas.{one_support}
use Rattle.bb_terms.specs.declared.kind.Kind.{Kind}
use Rattle.bb_terms.specs.declared.kind.Kind.TheVariants.{Input, State, Split, Cut, Watch, Output}
use Rattle.bb_terms.specs.declared.plan.Cell.{Cell}
use Rattle.bb_terms.specs.Kinds.{is_observer}
use Rattle.bb_terms.specs.Plan.{PlanValue}
use Rattle.bb_terms.specs.Lines.{d_of, is_stop, IsStartOf, IsStart}
use Rattle.bb_terms.specs.Rules.{MayStand, Fits, AreLeavesOf, IsNarrow}
use Rattle.bb_terms.proofs.NetLemmas.{d_is}
use Rattle.bb_rules.proofs.CodeLemmas.{one_start}
use Rattle.bb_plan.proofs.NetLemmas.{no_input_q, no_input_gate, no_q_gate}

module _ (a : Netlist ℕ) (is : IsNetlist a) where
  flop_starts : (i net : ℕ) (f : Flop ℕ) → slice_get a.flops i ≡ Some f → f.q ≡ net → AtNet f.d ≡ AtNet (d_of a.flops net)
  flop_starts i net f at same = ap AtNet (sym (d_is a f is (contains_at a.flops i f at)) ∙ ap (d_of a.flops) same)

  kind_flop : (kind : Kind) (i net : ℕ) (f : Flop ℕ) → MayStand a kind net → is_observer kind ≡ true → slice_get a.flops i ≡ Some f → f.q ≡ net → IsStartOf a kind net (AtNet f.d)
  kind_flop Input i net f fits observer at same = absurd (cc observer)
  kind_flop State i net f fits observer at same = flop_starts i net f at same
  kind_flop Split i net f fits observer at same = absurd (cc observer)
  kind_flop Cut i net f fits observer at same = absurd (no_q_gate a is net (i, (f, at, same)) fits)
  kind_flop Watch i net f fits observer at same = flop_starts i net f at same
  kind_flop Output i net f fits observer at same = absurd (no_q_gate a is net (i, (f, at, same)) fits.0)

  -- an observer on a q starts at the d of its flip-flop
  pub begins_flop : (c : Cell) (i : ℕ) (f : Flop ℕ) → Fits a c → is_observer c.kind ≡ true → slice_get a.flops i ≡ Some f → f.q ≡ c.net → IsStart a c (AtNet f.d)
  begins_flop c i f fits observer at same = kind_flop c.kind i c.net f fits observer at same

  kind_gate : (kind : Kind) (i net : ℕ) (g : Gate ℕ) → MayStand a kind net → is_observer kind ≡ true → slice_get a.gates i ≡ Some g → g.out ≡ net → IsStartOf a kind net (Behind g)
  kind_gate Input i net g fits observer at same = absurd (cc observer)
  kind_gate State i net g fits observer at same = absurd (no_q_gate a is net fits (i, (g, at, same)))
  kind_gate Split i net g fits observer at same = absurd (cc observer)
  kind_gate Cut i net g fits observer at same = (g, contains_at a.gates i g at, same, refl)
  kind_gate Watch i net g fits observer at same = absurd (no_q_gate a is net fits (i, (g, at, same)))
  kind_gate Output i net g fits observer at same = (g, contains_at a.gates i g at, same, refl)

  -- one on a gate's output behind the gate
  pub begins_gate : (c : Cell) (i : ℕ) (g : Gate ℕ) → Fits a c → is_observer c.kind ≡ true → slice_get a.gates i ≡ Some g → g.out ≡ c.net → IsStart a c (Behind g)
  begins_gate c i g fits observer at same = kind_gate c.kind i c.net g fits observer at same

  kind_input : (kind : Kind) (i net : ℕ) → MayStand a kind net → is_observer kind ≡ true → slice_get a.inputs i ≡ Some net → ⊥
  kind_input Input i net fits observer at = cc observer
  kind_input State i net fits observer at = no_input_q a is net (i, at) fits
  kind_input Split i net fits observer at = cc observer
  kind_input Cut i net fits observer at = no_input_gate a is net (i, at) fits
  kind_input Watch i net fits observer at = no_input_q a is net (i, at) fits
  kind_input Output i net fits observer at = no_input_gate a is net (i, at) fits.0

  -- and none is on an input
  pub never_input : (c : Cell) (i : ℕ) → Fits a c → is_observer c.kind ≡ true → slice_get a.inputs i ≡ Some c.net → ⊥
  never_input c i fits observer at = kind_input c.kind i c.net fits observer at

module _ (a : Netlist ℕ) (is : IsNetlist a) where
  -- a line has one list of leaves
  pub one_list : (p : PlanValue) (c : Cell) (xs ys : List ℕ) → AreLeavesOf a p c xs → AreLeavesOf a p c ys → xs ≡ ys
  one_list p c xs ys h k = one_support a.gates (is_stop a p) k.start xs ys (subst (λ s. AreLeaves a.gates (is_stop a p) s xs) (one_start a c h.start k.start is h.begins k.begins) h.are) k.are

  -- where there are more than the width, the line isn't narrow
  pub not_narrow : (p : PlanValue) (c : Cell) (all : List ℕ) → is_observer c.kind ≡ true → AreLeavesOf a p c all → p.width < length all → IsNarrow a p c → ⊥
  not_narrow p c all observer are wide narrow =
      let h = narrow observer in
      let same = ap length (one_list p c h.0 all h.1 are) in
      let most = h.2 in
      omega (arith, same, most, wide)

-- the leaves that a walk answers are those of the line
pub leaves_are : (a : Netlist ℕ) (p : PlanValue) (c : Cell) (stops : List Bool) (start : CodeStart) (leaves : List ℕ) → ((net : ℕ) → stop_at stops net ≡ is_stop a p net)
    → ((from : Start ℕ) → start_in a.gates start ≡ Some from → IsStart a c from) → HasLeaves a.gates stops start leaves → AreLeavesOf a p c leaves
leaves_are a p c stops start leaves same begins h = record { start = h.from; begins = begins h.from h.stands; are = subst (λ stop. AreLeaves a.gates stop h.from leaves) (λ i net. same net i) h.are }
