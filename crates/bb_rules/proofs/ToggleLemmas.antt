-- The plan of a flip-flop that reads itself is valid, and its signature is 1.
use Rattle.std.proofs.Common.{◌≡◌, ◌⊎◌, inl, inr, ℕ, zero, suc, ◌<◌, ◌≤◌, ◌==◌, Bool, true, false, not, if◌then◌else◌, List, [], ◌∷◌, refl, sym, ap, subst, ◌∙◌, arith, slice_get, slice_index, Some, Contains}
use lib.Count
use Rattle.bb_base.specs.declared.operator.Op.TheVariants.{Not}
use Rattle.bb_base.specs.Firsts.{IsLeast}
use Rattle.bb_base.proofs.Contained.{here, either, none_in, contains_at, of_all}
use Rattle.bb_base.specs.Net.{Gate, Flop}
use Rattle.bb_base.specs.Run.{by_op, MeetsBy}
use Rattle.bb_base.specs.Order.{HasLevel, HasOrder}
use Rattle.bb_base.specs.Span.{IsIndependent}
use Rattle.bb_base.specs.Dual.{IsDual, AreLeastDuals}
use Rattle.bb_base.specs.Parity.{code_bit}
use Rattle.bb_terms.specs.Register.{IsMask, IsFullPeriod, state_after}
use Rattle.bb_terms.specs.Paths.{AtNet, IsPathBack, IsLeaf}
use Rattle.bb_terms.specs.Support.{AreLeaves}
use Rattle.bb_terms.specs.Cuts.{is_stop_with}
use Rattle.bb_terms.specs.Function.{IsBitOf}
use Rattle.bb_terms.proofs.PathLemmas.{ends_at_stop}
use Rattle.bb_terms.specs.declared.kind.Kind.TheVariants.{State, Split, Watch}
use Rattle.bb_terms.specs.declared.plan.Cell.{Cell}
use Rattle.bb_terms.specs.Kinds.{is_source}
use Rattle.bb_terms.specs.Plan.{RegisterValue, PlanValue, IsCell, chain}
use Rattle.bb_terms.specs.Lines.{cut_nets}
use Rattle.bb_terms.specs.Rules.{Rule, Frame, Registers, Kinds, Apart, Served, Pure, Sessions, Compacted, Room, Columns, Widths, Conflicts, Codes, Period, Holds, IsFrame, IsRegister, IsServed, HasKind, Fits, IsQ, IsGateNet, net_numbers, IsPure, IsNarrow, IsCoded, IsApart, HasNoConflict, IsListed, IsSession, AreLeavesOf, IsColumn, meet}
use Rattle.bb_terms.specs.Valid.{IsValidPlan, IsValidFor, IsSourceOf}
use Rattle.bb_terms.specs.Signatures.{code_at, IsLineBit, HasSignature, AreSignatures}
use Rattle.bb_rules.specs.Half.{cell_on}
use Rattle.bb_rules.specs.Toggle.{toggle, toggle_with, toggle_plan, toggle_valid}
use Rattle.bb_rules.proofs.HalfLemmas.{each_at, single}

abbrev not_gate : Gate ℕ
not_gate = record { op = Not; out = 1; ins = 0 ∷ [] }

-- the one item of a list
pub only : {X : Type 0} (x y : X) → Contains (x ∷ []) y → x ≡ y
only x y h = by (either x [] y h)
  where
    by : (x ≡ y) ⊎ Contains [] y → x ≡ y
    by (inl e) = e
    by (inr none) = absurd (none_in y none)

ordered : HasOrder toggle.gates
ordered = (
  0 ∷ [],
  record {
    level = λ h. 0;
    levels = each_at toggle.gates (λ h g. HasLevel toggle.gates g 0) (record { within = refl; least = λ k less. absurd (omega (arith, less)) }, tt);
    each_once = record { moves = []; below = tt; is = refl };
    ascending = λ i j d less in_range. absurd (let small : j < 1 = in_range in omega (arith, less, small));
  },
)

-- the walk from d ends at q
abbrev stops : ℕ → Bool
stops = is_stop_with toggle.gates []

pub leaf_q : IsLeaf toggle.gates stops (AtNet 1) 0
leaf_q = (
  record { first = 1; stands = here 1 []; path = 0 ∷ []; leads = (refl, record { gate = not_gate; stands = here not_gate []; drives = refl; reads = here 0 [] }, refl) },
  refl,
)

leaf_is_q : (net : ℕ) → IsLeaf toggle.gates stops (AtNet 1) net → 0 ≡ net
leaf_is_q net leaf = by leaf.0.path (only 1 leaf.0.first leaf.0.stands) leaf.0.leads
  where
    by : (path : List ℕ) → 1 ≡ leaf.0.first → IsPathBack toggle.gates stops leaf.0.first path net → 0 ≡ net
    by [] first same =
        let stopped : stops 1 ≡ true = ap stops (first ∙ same) ∙ leaf.1 in
        absurd (cc stopped)
    by (next ∷ path) first leads =
        let gate : not_gate ≡ leads.1.gate = only not_gate leads.1.gate leads.1.stands in
        let q : 0 ≡ next = only 0 next (subst (λ (g : Gate ℕ). Contains g.ins next) (sym gate) leads.1.reads) in
        q ∙ ends_at_stop toggle.gates stops path next net (ap stops (sym q)) leads.2

leaves : AreLeaves toggle.gates stops (AtNet 1) (0 ∷ [])
leaves = record {
  ascending = λ k less. absurd (omega (arith, less));
  each = λ net. (λ h. subst (IsLeaf toggle.gates stops (AtNet 1)) (only 0 net h) leaf_q, λ leaf. subst (Contains (0 ∷ [])) (leaf_is_q net leaf) (here 0 []));
}

-- of a State or Watch cell on q
pub d_leaves : (p : PlanValue) (column : ℕ) → cut_nets p ≡ [] → AreLeavesOf toggle p (cell_on Watch 0 column) (0 ∷ [])
d_leaves p column none = record { start = AtNet 1; begins = refl; are = subst (λ cuts. AreLeaves toggle.gates (is_stop_with toggle.gates cuts) (AtNet 1) (0 ∷ [])) (sym none) leaves }

pub state_leaves : (p : PlanValue) (column : ℕ) → cut_nets p ≡ [] → AreLeavesOf toggle p (cell_on State 0 column) (0 ∷ [])
state_leaves p column none = record { start = AtNet 1; begins = refl; are = subst (λ cuts. AreLeaves toggle.gates (is_stop_with toggle.gates cuts) (AtNet 1) (0 ∷ [])) (sym none) leaves }

tapped : IsMask 1 1
tapped = record { last = omega arith; below = omega arith }

pub frame : (registers : List (List Cell)) (listed : List (List ℕ)) → IsFrame (toggle_with registers listed)
frame registers listed = record { width_least = omega arith; width_most = omega arith; degree_least = omega arith; degree_most = omega arith; mask_fits = tapped }

pub one_cell : (c : Cell) → IsRegister (record { mask = 1; cells = c ∷ [] })
one_cell c = record { some = omega arith; few = omega arith; mask_fits = tapped }

pub q_net : IsQ toggle 0
q_net = (0, (record { q = 0; d = 1 }, refl, refl))

pub one_register : (c : Cell) (listed : List (List ℕ)) → Holds toggle (toggle_with ((c ∷ []) ∷ []) listed) Registers
one_register c listed = each_at (toggle_with ((c ∷ []) ∷ []) listed).registers (λ r g. IsRegister g) (one_cell c, tt)

pub two_registers : (c d : Cell) (listed : List (List ℕ)) → Holds toggle (toggle_with ((c ∷ []) ∷ (d ∷ []) ∷ []) listed) Registers
two_registers c d listed = each_at (toggle_with ((c ∷ []) ∷ (d ∷ []) ∷ []) listed).registers (λ r g. IsRegister g) (one_cell c, (one_cell d, tt))

-- net 1 needs no cell, and net 0 those of a q
no_gate_net : IsGateNet toggle 0 → ⊥
no_gate_net g = let out : 1 ≡ 0 = ap (λ (g : Gate ℕ). g.out) (only not_gate g.1.0 (contains_at toggle.gates g.0 g.1.0 g.1.1)) ∙ g.1.2 in omega (arith, out)

pub d_served : (p : PlanValue) → IsServed toggle p 1
d_served p = record {
  input = λ i. absurd (cc i.1);
  flop = λ q. absurd (let same : 0 ≡ 1 = ap (λ (f : Flop ℕ). f.q) (only (record { q = 0; d = 1 }) q.1.0 (contains_at toggle.flops q.0 q.1.0 q.1.1)) ∙ q.1.2 in omega (arith, same));
  output = λ g o. absurd (let same : 0 ≡ 1 = only 0 1 o in omega (arith, same));
}

pub q_served : (p : PlanValue) → HasKind p State 0 ⊎ (HasKind p Split 0 × HasKind p Watch 0) → IsServed toggle p 0
q_served p h = record { input = λ i. absurd (cc i.1); flop = λ q. h; output = λ g o. absurd (no_gate_net g) }

pub independent : IsIndependent (1 ∷ [])
independent zero d = let n = d.nonempty in omega (arith, n)
independent (suc zero) d = let c : 1 ≡ 0 = d.cancels in omega (arith, c)
independent (suc (suc mask)) d = let w : suc (suc mask) < 2 = d.within in omega (arith, w)

pub full : IsFullPeriod 1 1
unfolding lib.Count.ones
full zero less = (0, omega arith, refl)
full (suc zero) less = (1, omega arith, refl)
full (suc (suc x)) less = let w : suc (suc x) < 2 = less in absurd (omega (arith, w))

valid_plan : IsValidPlan toggle toggle_plan
valid_plan = record { order = ordered; meets = meets }
  where
    apart : (i : ℕ) (c : Cell) → slice_get (chain toggle_plan) i ≡ Some c → IsApart toggle_plan i c
    apart zero c at j d less there same = absurd (omega (arith, less))
    apart (suc zero) c at zero d less there same =
        let first : cell_on Split 0 1 ≡ d = cc there in
        let second : cell_on Watch 0 0 ≡ c = cc at in
        ap (λ (e : Cell). meet e.kind c.kind) (sym first) ∙ ap (λ (e : Cell). meet Split e.kind) (sym second)
    apart (suc zero) c at (suc j) d less there same = absurd (omega (arith, less))
    apart (suc (suc i)) c at j d less there same = absurd (cc at)

    no_source : (j : ℕ) (source : Cell) → IsCell toggle_plan j 1 source → is_source source.kind ≡ false
    no_source j source h =
        let register : record { mask = 1; cells = cell_on Watch 0 0 ∷ [] } ≡ h.register = (let at = h.stands in cc at) in
        of_all (λ (c : Cell). is_source c.kind ≡ false) (cell_on Watch 0 0 ∷ []) source (refl, tt) (contains_at (cell_on Watch 0 0 ∷ []) h.place source (subst (λ (g : RegisterValue). slice_get g.cells h.place ≡ Some source) (sym register) h.at))

    meets : (rule : Rule) → Holds toggle toggle_plan rule
    meets Frame = frame ((cell_on Split 0 1 ∷ []) ∷ (cell_on Watch 0 0 ∷ []) ∷ []) ((1 ∷ []) ∷ [])
    meets Registers = two_registers (cell_on Split 0 1) (cell_on Watch 0 0) ((1 ∷ []) ∷ [])
    meets Kinds = each_at (chain toggle_plan) (λ i c. Fits toggle c) (q_net, (q_net, tt))
    meets Apart = apart
    meets Served = each_at (net_numbers toggle) (λ i net. IsServed toggle toggle_plan net) (
      q_served toggle_plan (inr (
        record { cell = cell_on Split 0 1; stands = (0, omega arith, refl); of_kind = refl; on = refl },
        record { cell = cell_on Watch 0 0; stands = (1, omega arith, refl); of_kind = refl; on = refl },
      )),
      (d_served toggle_plan, tt),
    )
    meets Pure = each_at toggle_plan.registers (λ r g. IsPure g) (λ h. refl, (λ h. absurd (cc h), tt))
    meets Sessions = each_at toggle_plan.sessions (IsSession toggle_plan) (record { some = omega arith; ascending = single; compacting = ((_, refl, refl), tt); few = omega arith }, tt)
    meets Compacted = each_at toggle_plan.registers (IsListed toggle_plan) (λ h. absurd (cc h), (λ h. (1 ∷ [], (0, omega arith, refl), (0, omega arith, refl)), tt))
    meets Room = omega arith
    meets Columns = each_at (chain toggle_plan) (λ i c. IsColumn toggle_plan c) (record { below = omega arith; none = λ e. absurd (cc e) }, (record { below = omega arith; none = λ e. refl }, tt))
    meets Widths = each_at (chain toggle_plan) (λ i c. IsNarrow toggle toggle_plan c) (λ e. absurd (cc e), (λ e. (0 ∷ [], d_leaves toggle_plan 0 refl, omega arith), tt))
    meets Conflicts = each_at toggle_plan.sessions (λ s session. HasNoConflict toggle toggle_plan session) (
      λ r q i j c source in_r in_q at_i observes at_j generates leaf.
          let none = no_source j source (subst (λ k. IsCell toggle_plan j k source) (sym (only 1 q in_q)) at_j) in absurd (cc (none, generates)),
      tt,
    )
    meets Codes = each_at (chain toggle_plan) (λ i c. IsCoded toggle toggle_plan c) (λ e. absurd (cc e), (λ e. (0 ∷ [], d_leaves toggle_plan 0 refl, independent), tt))
    meets Period = full

-- the dual of its column
duals : AreLeastDuals (1 ∷ []) (1 ∷ [])
unfolding lib.Count.ones
duals = record { one_each = refl; least = least }
  where
    is : (other : ℕ) → other < 1 → code_bit (slice_index (1 ∷ []) other) 1 ≡ (other == 0)
    is zero less = refl
    is (suc other) less = absurd (omega (arith, less))

    not_zero : (m : ℕ) → IsDual (1 ∷ []) 0 m → 1 ≤ m
    not_zero zero h = absurd (cc (h 0 (omega arith)))
    not_zero (suc m) h = omega arith

    least : (place : ℕ) → place < 1 → IsLeast (IsDual (1 ∷ []) place) (slice_index (1 ∷ []) place)
    least zero less = record { holds = is; least = not_zero }
    least (suc place) less = absurd (omega (arith, less))

pub toggle_valid_for : IsValidFor toggle toggle_valid
toggle_valid_for = record {
  plan_valid = valid_plan;
  each = (record { cell = refl; ascending = λ k less. absurd (omega (arith, less)); each = λ i. (forth i, back i); duals = duals }, tt);
}
  where
    forth : (i : ℕ) → Contains (0 ∷ []) i → IsSourceOf toggle toggle_plan (cell_on Watch 0 0) i
    forth zero h = record { source = cell_on Split 0 1; stands = refl; generates = refl; leaf = record { start = AtNet 1; begins = refl; leaf = leaf_q } }
    forth (suc i) h = absurd (let same : 0 ≡ suc i = only 0 (suc i) h in omega (arith, same))

    back : (i : ℕ) → IsSourceOf toggle toggle_plan (cell_on Watch 0 0) i → Contains (0 ∷ []) i
    back zero s = here 0 []
    back (suc zero) s =
        let same : cell_on Watch 0 0 ≡ s.source = cc s.stands in
        let none : is_source s.source.kind ≡ false = ap (λ (d : Cell). is_source d.kind) (sym same) in
        absurd (cc (none, s.generates))
    back (suc (suc i)) s = absurd (cc s.stands)

-- d at step t is the other bit
toggle_bit : ℕ → Cell → Bool
toggle_bit t c = not (code_at toggle_plan (state_after 1 1 t) 0)

d_bit : (state : ℕ) → IsBitOf by_op toggle.gates stops (AtNet 1) (code_at toggle_plan state) (not (code_at toggle_plan state 0))
d_bit state = record { w = w; assigns = record { leaves = at_leaf; passed = λ g stands lies. subst (MeetsBy by_op w) (only not_gate g stands) refl }; is = refl }
  where
    w : ℕ → Bool
    w net = if net == 1 then not (code_at toggle_plan state 0) else code_at toggle_plan state 0

    at_leaf : (net : ℕ) → IsLeaf toggle.gates stops (AtNet 1) net → w net ≡ code_at toggle_plan state net
    at_leaf net leaf = subst (λ n. w n ≡ code_at toggle_plan state n) (leaf_is_q net leaf) refl

toggle_signature : HasSignature toggle toggle_plan (record { mask = 1; cells = cell_on Watch 0 0 ∷ [] }) 1
unfolding toggle_bit lib.Count.ones
toggle_signature = record {
  bits = toggle_bit;
  lines = λ t c less h. subst (λ d. IsLineBit toggle toggle_plan (state_after 1 1 t) d (toggle_bit t d)) (only (cell_on Watch 0 0) c h) (record { start = AtNet 1; begins = refl; computes = d_bit (state_after 1 1 t) });
  is = refl;
}

pub toggle_signed : AreSignatures toggle toggle_plan ((1 ∷ []) ∷ [])
toggle_signed = ((((_, refl, toggle_signature)), tt), tt)
