-- The half adder's plan is valid, and its signature is 2.
use Rattle.std.proofs.Common.{get_or, ◌≡◌, ◌⊎◌, ◌↔◌, inl, inr, ℕ, zero, suc, ◌<◌, ◌≤◌, ◌==◌, Bool, true, false, if◌then◌else◌, List, [], ◌∷◌, map, refl, sym, ap, subst, arith, slice_get, slice_index, Some, Contains}
use lib.Count
use Rattle.std.specs.List.{AllByRecursion, list_all}
use Rattle.std.specs.List.Sorted.{IsStrictlyIncreasing}
use Rattle.bb_base.specs.declared.operator.Op.TheVariants.{And, Xor}
use Rattle.bb_base.specs.Net.{Gate}
use Rattle.bb_base.specs.Run.{by_op}
use Rattle.bb_base.specs.Operators.{op_gives}
use Rattle.bb_base.specs.Order.{is_within, HasLevel, ComesBefore}
use Rattle.bb_base.specs.Span.{IsIndependent}
use Rattle.bb_base.specs.Firsts.{IsLeast}
use Rattle.bb_base.specs.Dual.{IsDual, AreLeastDuals}
use Rattle.bb_base.specs.Parity.{code_bit}
use Rattle.bb_terms.specs.Register.{IsMask, IsFullPeriod, state_after}
use Rattle.bb_base.specs.Order.{HasOrder}
use Rattle.bb_base.specs.Places.{EachAt}
use Rattle.bb_base.proofs.Contained.{there, either, none_in, of_all}
use Rattle.bb_terms.specs.Paths.{Behind, IsLeaf}
use Rattle.bb_terms.specs.Support.{AreLeaves}
use Rattle.bb_terms.specs.Function.{IsBitOf}
use Rattle.bb_segment.proofs.LeafLemmas.{ends_there, passes_none}
use Rattle.bb_terms.specs.declared.kind.Kind.TheVariants.{Input, Output}
use Rattle.bb_terms.specs.declared.plan.Cell.{Cell}
use Rattle.bb_terms.specs.Kinds.{is_source}
use Rattle.bb_terms.specs.Plan.{RegisterValue, PlanValue, chain}
use Rattle.bb_terms.specs.Lines.{is_stop, cut_nets, IsLeafOf, IsStart}
use Rattle.bb_terms.specs.Cuts.{is_stop_with}
use Rattle.bb_terms.specs.Rules.{Rule, Frame, Registers, Kinds, Apart, Served, Pure, Sessions, Compacted, Room, Columns, Widths, Conflicts, Codes, Period, Holds, IsFrame, IsRegister, IsServed, Fits, IsQ, net_numbers, IsPure, IsNarrow, IsCoded, HasNoConflict, IsListed, IsSession, AreLeavesOf, IsColumn}
use Rattle.bb_terms.specs.Valid.{IsValidPlan, IsValidFor, IsSourceOf}
use Rattle.bb_terms.specs.Signatures.{code_at, IsLineBit, HasSignature, AreSignatures}
use Rattle.bb_rules.specs.Half.{half, half_with, half_plan, half_valid, cell_on}

-- a fact of each item at its place, by recursion
abbrev pub AllAt : {X : Type 0} → List X → (ℕ → X → Type 0) → Type 0
AllAt [] P = Unit {0}
AllAt (x ∷ xs) P = P 0 x × AllAt xs (λ i y. P (suc i) y)

pub each_at : {X : Type 0} (xs : List X) (P : ℕ → X → Type 0) → AllAt xs P → EachAt xs P
each_at [] P h i x at = absurd (cc at)
each_at (y ∷ xs) P h zero x at = let same : y ≡ x = cc at in subst (P 0) same h.0
each_at (y ∷ xs) P h (suc i) x at = each_at xs (λ i y. P (suc i) y) h.1 i x at

abbrev pub xor_gate : Gate ℕ
xor_gate = record { op = Xor; out = 2; ins = 0 ∷ 1 ∷ [] }

abbrev pub and_gate : Gate ℕ
and_gate = record { op = And; out = 3; ins = 0 ∷ 1 ∷ [] }

low : (g : Gate ℕ) → g.ins ≡ 0 ∷ 1 ∷ [] → HasLevel half.gates g 0
low g e = record { within = ap (list_all (is_within half.gates 0)) e; least = λ k less. absurd (omega (arith, less)) }

ordered : HasOrder half.gates
ordered = (
  0 ∷ 1 ∷ [],
  record {
    level = λ h. 0;
    levels = each_at half.gates (λ h g. HasLevel half.gates g 0) (low xor_gate refl, (low and_gate refl, tt));
    each_once = record { moves = []; below = tt; is = refl };
    ascending = climbs;
  },
)
  where
    climbs : (i j d : ℕ) → i < j → j < 2 → ComesBefore (λ h. 0) (get_or (0 ∷ 1 ∷ []) i d) (get_or (0 ∷ 1 ∷ []) j d)
    climbs zero zero d less in_range = absurd (omega (arith, less))
    climbs zero (suc zero) d less in_range = inr (refl, omega arith)
    climbs zero (suc (suc j)) d less in_range = absurd (omega (arith, in_range))
    climbs (suc i) zero d less in_range = absurd (omega (arith, less))
    climbs (suc i) (suc zero) d less in_range = absurd (omega (arith, less))
    climbs (suc i) (suc (suc j)) d less in_range = absurd (omega (arith, in_range))

-- cell i stands on net i
numbered : (mask column : ℕ) (listed : List (List ℕ)) → EachAt (chain (half_with mask column listed)) (λ i c. c.net ≡ i)
numbered mask column listed = each_at (chain (half_with mask column listed)) (λ i c. c.net ≡ i) (refl, (refl, (refl, (refl, tt))))

rising : IsStrictlyIncreasing (0 ∷ 1 ∷ [])
rising zero less = omega arith
rising (suc k) less = absurd (omega (arith, less))

pub leaves_of : (g : Gate ℕ) → g.ins ≡ 0 ∷ 1 ∷ [] → AreLeaves half.gates (is_stop half half_plan) (Behind g) (0 ∷ 1 ∷ [])
leaves_of g e =
    let stops : AllByRecursion (λ net. is_stop half half_plan net ≡ true) g.ins = subst (AllByRecursion (λ net. is_stop half half_plan net ≡ true)) (sym e) (refl, (refl, tt)) in
    record {
      ascending = rising;
      each = λ net. subst (λ ins. Contains ins net ↔ IsLeaf half.gates (is_stop half half_plan) (Behind g) net) e (ends_there half.gates (is_stop half half_plan) g stops net);
    }

xor_stands : Contains half.gates xor_gate
xor_stands = (0, omega arith, refl)

and_stands : Contains half.gates and_gate
and_stands = (1, omega arith, refl)

pub sum_leaves : (p : PlanValue) → cut_nets p ≡ [] → AreLeavesOf half p (cell_on Output 2 0) (0 ∷ 1 ∷ [])
sum_leaves p none = record { start = Behind xor_gate; begins = (xor_gate, xor_stands, refl, refl); are = subst (λ cuts. AreLeaves half.gates (is_stop_with half.gates cuts) (Behind xor_gate) (0 ∷ 1 ∷ [])) (sym none) (leaves_of xor_gate refl) }

carry_leaves : (p : PlanValue) → cut_nets p ≡ [] → AreLeavesOf half p (cell_on Output 3 0) (0 ∷ 1 ∷ [])
carry_leaves p none = record { start = Behind and_gate; begins = (and_gate, and_stands, refl, refl); are = subst (λ cuts. AreLeaves half.gates (is_stop_with half.gates cuts) (Behind and_gate) (0 ∷ 1 ∷ [])) (sym none) (leaves_of and_gate refl) }

independent : IsIndependent (1 ∷ 2 ∷ [])
independent zero d = let n = d.nonempty in omega (arith, n)
independent (suc zero) d = let c : 1 ≡ 0 = d.cancels in omega (arith, c)
independent (suc (suc zero)) d = let c : 2 ≡ 0 = d.cancels in omega (arith, c)
independent (suc (suc (suc zero))) d = let c : 3 ≡ 0 = d.cancels in omega (arith, c)
independent (suc (suc (suc (suc mask)))) d = let w : suc (suc (suc (suc mask))) < 4 = d.within in omega (arith, w)

pub full : IsFullPeriod 2 3
unfolding lib.Count.ones
full zero less = (0, omega arith, refl)
full (suc zero) less = (1, omega arith, refl)
full (suc (suc zero)) less = (3, omega arith, refl)
full (suc (suc (suc zero))) less = (2, omega arith, refl)
full (suc (suc (suc (suc x)))) less = let w : suc (suc (suc (suc x))) < 4 = less in absurd (omega (arith, w))

-- rule by rule, where they hold for other masks, columns and sessions too
pub frame : (mask column : ℕ) (listed : List (List ℕ)) → IsMask 2 mask → IsFrame (half_with mask column listed)
frame mask column listed fits = record { width_least = omega arith; width_most = omega arith; degree_least = omega arith; degree_most = omega arith; mask_fits = fits }

pub registers : (mask column : ℕ) (listed : List (List ℕ)) → Holds half (half_with mask column listed) Registers
registers mask column listed = each_at (half_with mask column listed).registers (λ r g. IsRegister g) (
  record { some = omega arith; few = omega arith; mask_fits = record { last = omega arith; below = omega arith } },
  (record { some = omega arith; few = omega arith; mask_fits = record { last = omega arith; below = omega arith } }, tt),
)

pub kinds : (mask column : ℕ) (listed : List (List ℕ)) → Holds half (half_with mask column listed) Kinds
kinds mask column listed = each_at (chain (half_with mask column listed)) (λ i c. Fits half c) (
  (0, refl),
  ((1, refl), (((0, (xor_gate, refl, refl)), (0, omega arith, refl)), (((1, (and_gate, refl, refl)), (1, omega arith, refl)), tt))),
)

pub apart : (mask column : ℕ) (listed : List (List ℕ)) → Holds half (half_with mask column listed) Apart
apart mask column listed i c at j d less there same = let x = numbered mask column listed j d there in let y = numbered mask column listed i c at in absurd (omega (arith, less, same, x, y))

-- nets 2 and 3 are no inputs, and 0 and 1 no outputs
no_input : (net i : ℕ) → 2 ≤ net → slice_get (0 ∷ 1 ∷ []) i ≡ Some net → ⊥
no_input net zero high at = let same : 0 ≡ net = cc at in omega (arith, high, same)
no_input net (suc zero) high at = let same : 1 ≡ net = cc at in omega (arith, high, same)
no_input net (suc (suc i)) high at = absurd (cc at)

no_output : (net : ℕ) → net < 2 → Contains (2 ∷ 3 ∷ []) net → ⊥
no_output net low h = by (either 2 (3 ∷ []) net h)
  where
    by : (2 ≡ net) ⊎ Contains (3 ∷ []) net → ⊥
    by (inl e) = omega (arith, low, e)
    by (inr more) = last (either 3 [] net more)
      where
        last : (3 ≡ net) ⊎ Contains [] net → ⊥
        last (inl e) = omega (arith, low, e)
        last (inr none) = none_in net none

no_q : (net : ℕ) → IsQ half net → ⊥
no_q net q = absurd (cc q.1.1)

input_served : (p : PlanValue) (net column : ℕ) → net < 2 → Contains (chain p) (cell_on Input net column) → IsServed half p net
input_served p net column low stands = record {
  input = λ i. record { cell = cell_on Input net column; stands = stands; of_kind = refl; on = refl };
  flop = λ q. absurd (no_q net q);
  output = λ g o. absurd (no_output net low o);
}

output_served : (p : PlanValue) (net : ℕ) → 2 ≤ net → Contains (chain p) (cell_on Output net 0) → IsServed half p net
output_served p net high stands = record {
  input = λ i. absurd (no_input net i.0 high i.1);
  flop = λ q. absurd (no_q net q);
  output = λ g o. inl (record { cell = cell_on Output net 0; stands = stands; of_kind = refl; on = refl });
}

pub served : (mask column : ℕ) (listed : List (List ℕ)) → Holds half (half_with mask column listed) Served
served mask column listed = each_at (net_numbers half) (λ i net. IsServed half (half_with mask column listed) net) (
  input_served (half_with mask column listed) 0 1 (omega arith) (0, omega arith, refl),
  (
    input_served (half_with mask column listed) 1 column (omega arith) (1, omega arith, refl),
    (output_served (half_with mask column listed) 2 (omega arith) (2, omega arith, refl), (output_served (half_with mask column listed) 3 (omega arith) (3, omega arith, refl), tt)),
  ),
)

pub pure : (mask column : ℕ) (listed : List (List ℕ)) → Holds half (half_with mask column listed) Pure
pure mask column listed = each_at (half_with mask column listed).registers (λ r g. IsPure g) (λ h. refl, (λ h. absurd (cc h), tt))

pub single : IsStrictlyIncreasing (1 ∷ [])
single k less = absurd (omega (arith, less))

-- the one session of register 1
abbrev pub once : List (List ℕ)
once = (1 ∷ []) ∷ []

pub sessions : (mask column : ℕ) → Holds half (half_with mask column once) Sessions
sessions mask column = each_at once (IsSession (half_with mask column once)) (record { some = omega arith; ascending = single; compacting = ((_, refl, refl), tt); few = omega arith }, tt)

pub compacted : (mask column : ℕ) → Holds half (half_with mask column once) Compacted
compacted mask column = each_at (half_with mask column once).registers (IsListed (half_with mask column once)) (λ h. absurd (cc h), (λ h. (1 ∷ [], (0, omega arith, refl), (0, omega arith, refl)), tt))

pub columns : (mask column : ℕ) → column < 4 → Holds half (half_with mask column once) Columns
columns mask column small = each_at (chain (half_with mask column once)) (λ i c. IsColumn (half_with mask column once) c) (
  record { below = omega arith; none = λ e. absurd (cc e) },
  (record { below = omega (arith, small); none = λ e. absurd (cc e) }, (record { below = omega arith; none = λ e. refl }, (record { below = omega arith; none = λ e. refl }, tt))),
)

pub widths : (mask column : ℕ) → Holds half (half_with mask column once) Widths
widths mask column = each_at (chain (half_with mask column once)) (λ i c. IsNarrow half (half_with mask column once) c) (
  λ e. absurd (cc e),
  (λ e. absurd (cc e), (λ e. (0 ∷ 1 ∷ [], sum_leaves (half_with mask column once) refl, omega arith), (λ e. (0 ∷ 1 ∷ [], carry_leaves (half_with mask column once) refl, omega arith), tt))),
)

pub codes : (mask : ℕ) → Holds half (half_with mask 2 once) Codes
codes mask = each_at (chain (half_with mask 2 once)) (λ i c. IsCoded half (half_with mask 2 once) c) (
  λ e. absurd (cc e),
  (λ e. absurd (cc e), (λ e. (0 ∷ 1 ∷ [], sum_leaves (half_with mask 2 once) refl, independent), (λ e. (0 ∷ 1 ∷ [], carry_leaves (half_with mask 2 once) refl, independent), tt))),
)

-- register 1 has no source cell
no_source : (column q place : ℕ) (register : RegisterValue) (source : Cell) → Contains (1 ∷ []) q → slice_get (half_with 0 column []).registers q ≡ Some register → slice_get register.cells place ≡ Some source
    → is_source source.kind ≡ false
no_source column q place register source h stands at = by (either 1 [] q h)
  where
    observers_only : EachAt (cell_on Output 2 0 ∷ cell_on Output 3 0 ∷ []) (λ i c. is_source c.kind ≡ false)
    observers_only = each_at (cell_on Output 2 0 ∷ cell_on Output 3 0 ∷ []) (λ i c. is_source c.kind ≡ false) (refl, (refl, tt))

    by : (1 ≡ q) ⊎ Contains [] q → is_source source.kind ≡ false
    by (inl e) =
        let second : slice_get (half_with 0 column []).registers 1 ≡ Some register = subst (λ r. slice_get (half_with 0 column []).registers r ≡ Some register) (sym e) stands in
        let same : record { mask = 3; cells = cell_on Output 2 0 ∷ cell_on Output 3 0 ∷ [] } ≡ register = cc second in
        observers_only place source (subst (λ (g : RegisterValue). slice_get g.cells place ≡ Some source) (sym same) at)
    by (inr none) = absurd (none_in q none)

pub conflicts : (mask column : ℕ) → Holds half (half_with mask column once) Conflicts
conflicts mask column = each_at once (λ s session. HasNoConflict half (half_with mask column once) session) (
  λ r q i j c source in_r in_q at_i observes at_j generates leaf.
      let none = no_source column q at_j.place at_j.register source in_q at_j.stands at_j.at in absurd (cc (none, generates)),
  tt,
)

pub half_valid_plan : IsValidPlan half half_plan
half_valid_plan = record { order = ordered; meets = meets }
  where
    meets : (rule : Rule) → Holds half half_plan rule
    meets Frame = frame 3 2 once (record { last = omega arith; below = omega arith })
    meets Registers = registers 3 2 once
    meets Kinds = kinds 3 2 once
    meets Apart = apart 3 2 once
    meets Served = served 3 2 once
    meets Pure = pure 3 2 once
    meets Sessions = sessions 3 2
    meets Compacted = compacted 3 2
    meets Room = omega arith
    meets Columns = columns 3 2 (omega arith)
    meets Widths = widths 3 2
    meets Conflicts = conflicts 3 2
    meets Codes = codes 3
    meets Period = full

-- the duals of its columns
duals : AreLeastDuals (1 ∷ 2 ∷ []) (1 ∷ 2 ∷ [])
unfolding lib.Count.ones
duals = record { one_each = refl; least = least }
  where
    first : (other : ℕ) → other < 2 → code_bit (slice_index (1 ∷ 2 ∷ []) other) 1 ≡ (other == 0)
    first zero less = refl
    first (suc zero) less = refl
    first (suc (suc other)) less = absurd (omega (arith, less))

    second : (other : ℕ) → other < 2 → code_bit (slice_index (1 ∷ 2 ∷ []) other) 2 ≡ (other == 1)
    second zero less = refl
    second (suc zero) less = refl
    second (suc (suc other)) less = absurd (omega (arith, less))

    not_first : (m : ℕ) → IsDual (1 ∷ 2 ∷ []) 0 m → 1 ≤ m
    not_first zero h = absurd (cc (h 0 (omega arith)))
    not_first (suc m) h = omega arith

    not_second : (m : ℕ) → IsDual (1 ∷ 2 ∷ []) 1 m → 2 ≤ m
    not_second zero h = absurd (cc (h 1 (omega arith)))
    not_second (suc zero) h = absurd (cc (h 1 (omega arith)))
    not_second (suc (suc m)) h = omega arith

    least : (place : ℕ) → place < 2 → IsLeast (IsDual (1 ∷ 2 ∷ []) place) (slice_index (1 ∷ 2 ∷ []) place)
    least zero less = record { holds = first; least = not_first }
    least (suc zero) less = record { holds = second; least = not_second }
    least (suc (suc place)) less = absurd (omega (arith, less))

-- the sources at the leaves of an observer are cells 0 and 1
module _ (c : Cell) (g : Gate ℕ) (begins : IsStart half c (Behind g)) (ins : g.ins ≡ 0 ∷ 1 ∷ []) where
  leaf_of : (net : ℕ) → Contains (0 ∷ 1 ∷ []) net → IsLeafOf half half_plan c net
  leaf_of net h = record { start = Behind g; begins = begins; leaf = ((leaves_of g ins).each net).0 h }

  sources : (i : ℕ) → Contains (0 ∷ 1 ∷ []) i ↔ IsSourceOf half half_plan c i
  sources i = (forth i, back i)
    where
      forth : (i : ℕ) → Contains (0 ∷ 1 ∷ []) i → IsSourceOf half half_plan c i
      forth zero h = record { source = cell_on Input 0 1; stands = refl; generates = refl; leaf = leaf_of 0 h }
      forth (suc zero) h = record { source = cell_on Input 1 2; stands = refl; generates = refl; leaf = leaf_of 1 h }
      forth (suc (suc i)) h = absurd (by (either 0 (1 ∷ []) (suc (suc i)) h))
        where
          by : (0 ≡ suc (suc i)) ⊎ Contains (1 ∷ []) (suc (suc i)) → ⊥
          by (inl e) = omega (arith, e)
          by (inr more) = last (either 1 [] (suc (suc i)) more)
            where
              last : (1 ≡ suc (suc i)) ⊎ Contains [] (suc (suc i)) → ⊥
              last (inl e) = omega (arith, e)
              last (inr none) = none_in (suc (suc i)) none

      back : (i : ℕ) → IsSourceOf half half_plan c i → Contains (0 ∷ 1 ∷ []) i
      back zero s = (0, omega arith, refl)
      back (suc zero) s = (1, omega arith, refl)
      back (suc (suc zero)) s =
          let same : cell_on Output 2 0 ≡ s.source = cc s.stands in
          let none : is_source s.source.kind ≡ false = ap (λ (d : Cell). is_source d.kind) (sym same) in
          absurd (cc (none, s.generates))
      back (suc (suc (suc zero))) s =
          let same : cell_on Output 3 0 ≡ s.source = cc s.stands in
          let none : is_source s.source.kind ≡ false = ap (λ (d : Cell). is_source d.kind) (sym same) in
          absurd (cc (none, s.generates))
      back (suc (suc (suc (suc i)))) s = absurd (cc s.stands)

pub half_valid_for : IsValidFor half half_valid
half_valid_for = record {
  plan_valid = half_valid_plan;
  each = (
    record { cell = refl; ascending = rising; each = sources (cell_on Output 2 0) xor_gate (xor_gate, xor_stands, refl, refl) refl; duals = duals },
    (record { cell = refl; ascending = rising; each = sources (cell_on Output 3 0) and_gate (and_gate, and_stands, refl, refl) refl; duals = duals }, tt),
  );
}

-- the bit of an observer at step t
half_bit : ℕ → Cell → Bool
half_bit t c = op_gives (if c.net == 2 then Xor else And) (map (code_at half_plan (state_after 2 3 t)) (0 ∷ 1 ∷ []))

bit_of : (state : ℕ) (g : Gate ℕ) → g.ins ≡ 0 ∷ 1 ∷ [] → IsBitOf by_op half.gates (is_stop half half_plan) (Behind g) (code_at half_plan state) (by_op g (map (code_at half_plan state) g.ins))
bit_of state g e =
    let stops : AllByRecursion (λ net. is_stop half half_plan net ≡ true) g.ins = subst (AllByRecursion (λ net. is_stop half half_plan net ≡ true)) (sym e) (refl, (refl, tt)) in
    record {
      w = code_at half_plan state;
      assigns = record { leaves = λ net leaf. refl; passed = λ h stands lies. absurd (passes_none half.gates (is_stop half half_plan) g stops h lies) };
      is = refl;
    }

half_lines : (t : ℕ) (c : Cell) → Contains (cell_on Output 2 0 ∷ cell_on Output 3 0 ∷ []) c → IsLineBit half half_plan (state_after 2 3 t) c (half_bit t c)
unfolding half_bit
half_lines t c h = of_all (λ c. IsLineBit half half_plan (state_after 2 3 t) c (half_bit t c)) (cell_on Output 2 0 ∷ cell_on Output 3 0 ∷ []) c (
  record { start = Behind xor_gate; begins = (xor_gate, xor_stands, refl, refl); computes = bit_of (state_after 2 3 t) xor_gate refl },
  (record { start = Behind and_gate; begins = (and_gate, and_stands, refl, refl); computes = bit_of (state_after 2 3 t) and_gate refl }, tt),
) h

half_signature : HasSignature half half_plan (record { mask = 3; cells = cell_on Output 2 0 ∷ cell_on Output 3 0 ∷ [] }) 2
unfolding half_bit lib.Count.ones
half_signature = record { bits = half_bit; lines = λ t c less h. half_lines t c h; is = refl }

pub half_signed : AreSignatures half half_plan ((2 ∷ []) ∷ [])
half_signed = ((((_, refl, half_signature)), tt), tt)
