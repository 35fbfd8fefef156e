-- What drives a net says which cells may stand on it and which it needs.
use Rattle.std.proofs.Common.{◌≡◌, ◌⊎◌, ◌↔◌, inl, inr, ℕ, ◌<◌, ◌≤◌, ◌&&◌, ◌||◌, not, List, length, map, Bool, true, false, refl, sym, ap, subst, ◌∙◌, arith, slice_get, Option, None, Some, option_map, Contains, nat_eq, nat_lt, IsTrue}
use Rattle.std.proofs.lemmas.Bool.Decides.{nat_tests}
use Rattle.std.proofs.lemmas.Option.{slice_get-map}
use Rattle.std.specs.List.{list_any}
use Rattle.bb_base.specs.Net.{Gate, Flop, Netlist, driven, times, IsNetlist}
use Rattle.bb_base.specs.Drivers.{Drives}
use Rattle.bb_base.specs.declared.netlist.Driver.{Driver}
use Rattle.bb_base.specs.declared.netlist.Driver.TheVariants.{Input as InputAt, Gate as GateAt, Flop as FlopAt}
use Rattle.bb_base.proofs.GateLemmas.{stands_once, outs_times}
use Rattle.bb_base.proofs.TimesLemmas.{times_past}
use Rattle.bb_terms.specs.declared.kind.Kind.{Kind}
use Rattle.bb_terms.specs.declared.kind.Kind.TheVariants.{Input, State, Split, Cut, Watch, Output}
use Rattle.bb_terms.specs.Plan.{PlanValue, chain}
use Rattle.bb_terms.specs.Rules.{IsInput, IsQ, IsGateNet, MayStand, HasKind, IsServed, net_numbers, Served}
use Rattle.bb_plan.specs.Answers.{IsVerdict}
use Rattle.bb_plan.specs.Tables.{IsFound}
use Rattle.bb_plan.specs.declared.table.OnNet.{OnNet}
use Rattle.bb_plan.specs.Tables.{has, on_net, may_stand, is_served}
use Rattle.bb_plan.proofs.Items.{any_item, any_of}
use Rattle.bb_plan.proofs.OnNets.{has_cell, cell_has, and_split, and_join, or_split, or_left, or_right}

input_counts : (a : Netlist ℕ) (net : ℕ) → IsInput a net → 1 ≤ times net a.inputs
input_counts a net h = stands_once a.inputs h.0 net h.1

gate_counts : (a : Netlist ℕ) (net : ℕ) → IsGateNet a net → 1 ≤ times net (map (λ g. g.out) a.gates)
gate_counts a net h =
    let there : slice_get (map (λ (g : Gate ℕ). g.out) a.gates) h.0 ≡ Some net = slice_get-map (λ (g : Gate ℕ). g.out) a.gates h.0 ∙ (ap (option_map (λ (g : Gate ℕ). g.out)) h.1.1 ∙ ap Some h.1.2) in
    stands_once (map (λ (g : Gate ℕ). g.out) a.gates) h.0 net there

q_counts : (a : Netlist ℕ) (net : ℕ) → IsQ a net → 1 ≤ times net (map (λ f. f.q) a.flops)
q_counts a net h =
    let there : slice_get (map (λ (f : Flop ℕ). f.q) a.flops) h.0 ≡ Some net = slice_get-map (λ (f : Flop ℕ). f.q) a.flops h.0 ∙ (ap (option_map (λ (f : Flop ℕ). f.q)) h.1.1 ∙ ap Some h.1.2) in
    stands_once (map (λ (f : Flop ℕ). f.q) a.flops) h.0 net there

-- a net is no two of an input, a gate's and a flip-flop's
input_no_gate : (a : Netlist ℕ) (net : ℕ) → IsNetlist a → net < length (driven a) → IsInput a net → IsGateNet a net → ⊥
input_no_gate a net is within i g = absurd (omega (arith, is.one_driver net within, outs_times a net, input_counts a net i, gate_counts a net g))

input_no_q : (a : Netlist ℕ) (net : ℕ) → IsNetlist a → net < length (driven a) → IsInput a net → IsQ a net → ⊥
input_no_q a net is within i q = absurd (omega (arith, is.one_driver net within, outs_times a net, input_counts a net i, q_counts a net q))

gate_no_q : (a : Netlist ℕ) (net : ℕ) → IsNetlist a → net < length (driven a) → IsGateNet a net → IsQ a net → ⊥
gate_no_q a net is within g q = absurd (omega (arith, is.one_driver net within, outs_times a net, gate_counts a net g, q_counts a net q))

-- an output, by its mark
marked : (outputs : List ℕ) (net : ℕ) → Contains outputs net → list_any (nat_eq net) outputs ≡ true
marked outputs net h = any_of (nat_eq net) outputs net h (grind (arith, nat_tests))

of_mark : (outputs : List ℕ) (net : ℕ) → list_any (nat_eq net) outputs ≡ true → Contains outputs net
of_mark outputs net h =
    let some = any_item (nat_eq net) outputs h in
    let test = some.2 in
    let same : some.0 ≡ net = grind (arith, nat_tests, test) in
    subst (Contains outputs) same some.1

-- whether a cell may stand on a net is read off its driver
pub stand_is : (a : Netlist ℕ) (kind : Kind) (d : Driver) (net : ℕ) (mark : Bool) → IsNetlist a → net < length (driven a) → Drives a d net → mark ≡ list_any (nat_eq net) a.outputs → IsTrue (may_stand kind d mark) ↔ MayStand a kind net
stand_is a Input (InputAt i) net mark is within drives out = (λ t. (i, drives), λ h. refl)
stand_is a State (InputAt i) net mark is within drives out = (λ t. absurd (cc t), λ h. absurd (input_no_q a net is within (i, drives) h))
stand_is a Split (InputAt i) net mark is within drives out = (λ t. absurd (cc t), λ h. absurd (input_no_q a net is within (i, drives) h))
stand_is a Cut (InputAt i) net mark is within drives out = (λ t. absurd (cc t), λ h. absurd (input_no_gate a net is within (i, drives) h))
stand_is a Watch (InputAt i) net mark is within drives out = (λ t. absurd (cc t), λ h. absurd (input_no_q a net is within (i, drives) h))
stand_is a Output (InputAt i) net mark is within drives out = (λ t. absurd (cc t), λ h. absurd (input_no_gate a net is within (i, drives) h.0))
stand_is a Input (FlopAt i) net mark is within drives out = (λ t. absurd (cc t), λ h. absurd (input_no_q a net is within h (i, drives)))
stand_is a State (FlopAt i) net mark is within drives out = (λ t. (i, drives), λ h. refl)
stand_is a Split (FlopAt i) net mark is within drives out = (λ t. (i, drives), λ h. refl)
stand_is a Cut (FlopAt i) net mark is within drives out = (λ t. absurd (cc t), λ h. absurd (gate_no_q a net is within h (i, drives)))
stand_is a Watch (FlopAt i) net mark is within drives out = (λ t. (i, drives), λ h. refl)
stand_is a Output (FlopAt i) net mark is within drives out = (λ t. absurd (cc t), λ h. absurd (gate_no_q a net is within h.0 (i, drives)))
stand_is a Input (GateAt i) net mark is within drives out = (λ t. absurd (cc t), λ h. absurd (input_no_gate a net is within h (i, drives)))
stand_is a State (GateAt i) net mark is within drives out = (λ t. absurd (cc t), λ h. absurd (gate_no_q a net is within (i, drives) h))
stand_is a Split (GateAt i) net mark is within drives out = (λ t. absurd (cc t), λ h. absurd (gate_no_q a net is within (i, drives) h))
stand_is a Cut (GateAt i) net mark is within drives out = (λ t. (i, drives), λ h. refl)
stand_is a Watch (GateAt i) net mark is within drives out = (λ t. absurd (cc t), λ h. absurd (gate_no_q a net is within (i, drives) h))
stand_is a Output (GateAt i) net mark is within drives out = (λ t. ((i, drives), of_mark a.outputs net (sym out ∙ t)), λ h. out ∙ marked a.outputs net h.1)

-- no cell stands on what is no net
pub stands_within : (a : Netlist ℕ) (kind : Kind) (net : ℕ) → IsNetlist a → MayStand a kind net → net < length (driven a)
stands_within a kind net is h = by (nat_lt net (length (driven a))) refl
  where
    some : (kind : Kind) → MayStand a kind net → 1 ≤ times net (driven a)
    some Input h = omega (arith, outs_times a net, input_counts a net h)
    some State h = omega (arith, outs_times a net, q_counts a net h)
    some Split h = omega (arith, outs_times a net, q_counts a net h)
    some Cut h = omega (arith, outs_times a net, gate_counts a net h)
    some Watch h = omega (arith, outs_times a net, q_counts a net h)
    some Output h = omega (arith, outs_times a net, gate_counts a net h.0)

    by : (b : Bool) → nat_lt net (length (driven a)) ≡ b → net < length (driven a)
    by true e = grind (arith, nat_tests, e)
    by false e =
        let past : length (driven a) ≤ net = grind (arith, nat_tests, e) in
        absurd (omega (arith, some kind h, times_past net (driven a) (length (driven a)) past is.drives_nets))

-- a kind on the net, in the words of the rules
of_table : (p : PlanValue) (net : ℕ) (on : OnNet) (k : Kind) → on ≡ on_net (chain p) net → has on k ≡ true → HasKind p k net
of_table p net on k is h =
    let there = has_cell (chain p) net k (ap (λ o. has o k) (sym is) ∙ h) in
    record { cell = there.cell; stands = there.stands; of_kind = there.kind; on = there.on }

to_table : (p : PlanValue) (net : ℕ) (on : OnNet) (k : Kind) → on ≡ on_net (chain p) net → HasKind p k net → has on k ≡ true
to_table p net on k is h = ap (λ o. has o k) is ∙ cell_has (chain p) net k (record { cell = h.cell; stands = h.stands; on = h.on; kind = h.of_kind })

-- whether a net has the cells that it needs is read off its driver
pub served_by : (a : Netlist ℕ) (p : PlanValue) (d : Driver) (net : ℕ) (mark : Bool) (on : OnNet) → IsNetlist a → net < length (driven a) → Drives a d net → mark ≡ list_any (nat_eq net) a.outputs → on ≡ on_net (chain p) net
    → is_served d mark on ≡ true → IsServed a p net
served_by a p (InputAt i) net mark on is within drives out table h = record {
  input = λ k. of_table p net on Input table h;
  flop = λ q. absurd (input_no_q a net is within (i, drives) q);
  output = λ g o. absurd (input_no_gate a net is within (i, drives) g);
}
served_by a p (FlopAt i) net mark on is within drives out table h = record {
  input = λ k. absurd (input_no_q a net is within k (i, drives));
  flop = λ q. cells (or_split on.state (on.split && on.watch) h);
  output = λ g o. absurd (gate_no_q a net is within g (i, drives));
}
  where
    cells : (on.state ≡ true) ⊎ ((on.split && on.watch) ≡ true) → HasKind p State net ⊎ (HasKind p Split net × HasKind p Watch net)
    cells (inl e) = inl (of_table p net on State table e)
    cells (inr e) = let two = and_split on.split on.watch e in inr (of_table p net on Split table two.0, of_table p net on Watch table two.1)
served_by a p (GateAt i) net mark on is within drives out table h = record {
  input = λ k. absurd (input_no_gate a net is within k (i, drives));
  flop = λ q. absurd (gate_no_q a net is within (i, drives) q);
  output = λ g o. first (out ∙ marked a.outputs net o) (or_split (not mark || on.output) on.cut h);
}
  where
    second : mark ≡ true → (not mark ≡ true) ⊎ (on.output ≡ true) → HasKind p Output net ⊎ HasKind p Cut net
    second e (inl none) = let f : not mark ≡ false = ap not e in absurd (cc (none, f))
    second e (inr k) = inl (of_table p net on Output table k)

    first : mark ≡ true → ((not mark || on.output) ≡ true) ⊎ (on.cut ≡ true) → HasKind p Output net ⊎ HasKind p Cut net
    first e (inl k) = second e (or_split (not mark) on.output k)
    first e (inr k) = inr (of_table p net on Cut table k)

-- and back
pub served_has : (a : Netlist ℕ) (p : PlanValue) (d : Driver) (net : ℕ) (mark : Bool) (on : OnNet) → Drives a d net → mark ≡ list_any (nat_eq net) a.outputs → on ≡ on_net (chain p) net → IsServed a p net → is_served d mark on ≡ true
served_has a p (InputAt i) net mark on drives out table h = to_table p net on Input table (h.input (i, drives))
served_has a p (FlopAt i) net mark on drives out table h = cells (h.flop (i, drives))
  where
    cells : HasKind p State net ⊎ (HasKind p Split net × HasKind p Watch net) → (on.state || (on.split && on.watch)) ≡ true
    cells (inl k) = or_left on.state (on.split && on.watch) (to_table p net on State table k)
    cells (inr k) = or_right on.state (on.split && on.watch) (and_join on.split on.watch (to_table p net on Split table k.0) (to_table p net on Watch table k.1))
served_has a p (GateAt i) net mark on drives out table h = by mark refl
  where
    cells : HasKind p Output net ⊎ HasKind p Cut net → ((not mark || on.output) || on.cut) ≡ true
    cells (inl k) = or_left (not mark || on.output) on.cut (or_right (not mark) on.output (to_table p net on Output table k))
    cells (inr k) = or_right (not mark || on.output) on.cut (to_table p net on Cut table k)

    by : (b : Bool) → mark ≡ b → ((not mark || on.output) || on.cut) ≡ true
    by true e = cells (h.output (i, drives) (of_mark a.outputs net (sym out ∙ e)))
    by false e = or_left (not mark || on.output) on.cut (or_left (not mark) on.output (ap not e))

-- the answer to the rule, from the first net that lacks a cell
pub served_answer : (a : Netlist ℕ) (p : PlanValue) (answer : Option ℕ) → IsFound (net_numbers a) (λ i net. IsServed a p net) answer → IsVerdict a p Served answer
served_answer a p None h = h
served_answer a p (Some place) h = h
