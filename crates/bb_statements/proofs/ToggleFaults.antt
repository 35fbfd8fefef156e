-- Plans of a flip-flop that reads itself that fail a rule, each first at its place.
use Rattle.std.proofs.Common.{◌≡◌, ◌⊎◌, inl, inr, ℕ, zero, suc, ◌<◌, true, false, [], ◌∷◌, refl, sym, ap, arith, slice_get, Some}
use Rattle.std.specs.List.Sorted.{IsStrictlyIncreasing}
use Rattle.bb_base.proofs.Contained.{here}
use Rattle.bb_terms.specs.Paths.{AtNet}
use Rattle.bb_terms.specs.declared.kind.Kind.TheVariants.{State, Split, Watch}
use Rattle.bb_terms.specs.declared.plan.Cell.{Cell}
use Rattle.bb_terms.specs.Kinds.{is_source}
use Rattle.bb_terms.specs.Plan.{PlanValue, IsCell, chain}
use Rattle.bb_terms.specs.Rules.{Rule, Apart, Served, Conflicts, rule_number, Holds, HasKind, Fits, IsApart, IsServed, net_numbers, IsPure, IsNarrow, IsListed, IsSession, IsColumn}
use Rattle.bb_terms.specs.Valid.{IsRuleFault}
use Rattle.bb_rules.specs.Half.{cell_on}
use Rattle.bb_rules.specs.Toggle.{toggle, toggle_with}
use Rattle.bb_rules.proofs.RuleLemmas.{before}
use Rattle.bb_rules.proofs.HalfLemmas.{each_at}
use Rattle.bb_rules.proofs.ToggleLemmas.{frame, one_register, two_registers, q_net, d_served, q_served, state_leaves, only, leaf_q}

-- one cell in one register, which compacts
abbrev alone : Cell → PlanValue
alone c = toggle_with ((c ∷ []) ∷ []) ((0 ∷ []) ∷ [])

abbrev state_plan : PlanValue
state_plan = alone (cell_on State 0 1)

first : IsStrictlyIncreasing (0 ∷ [])
first k less = absurd (omega (arith, less))

alone_apart : (c : Cell) → Holds toggle (alone c) Apart
alone_apart c zero d at j e less there same = absurd (omega (arith, less))
alone_apart c (suc i) d at j e less there same = absurd (cc at)

-- rule 12: the State cell of the flip-flop holds a leaf of its own line
pub reads_itself : IsRuleFault toggle (toggle_with ((cell_on State 0 1 ∷ []) ∷ []) ((0 ∷ []) ∷ [])) 12 0
reads_itself = record {
  rule = Conflicts;
  number_is = refl;
  before = earlier_rules;
  fails = record {
    item = 0 ∷ [];
    stands = refl;
    wrong = λ h.
        h 0 0 0 0 (cell_on State 0 1) (cell_on State 0 1) (here 0 []) (here 0 []) state refl state refl (record { start = AtNet 1; begins = refl; leaf = leaf_q });
    before = λ i x less at. absurd (omega (arith, less));
  };
}
  where
    state : IsCell state_plan 0 0 (cell_on State 0 1)
    state = record { register = record { mask = 1; cells = cell_on State 0 1 ∷ [] }; stands = refl; place = 0; at = refl; number = refl }

    earlier_rules : (rule : Rule) → rule_number rule < 12 → Holds toggle state_plan rule
    earlier_rules = before toggle state_plan 11 (
      frame ((cell_on State 0 1 ∷ []) ∷ []) ((0 ∷ []) ∷ []),
      (
        one_register (cell_on State 0 1) ((0 ∷ []) ∷ []),
        (
          each_at (chain state_plan) (λ i c. Fits toggle c) (q_net, tt),
          (
            alone_apart (cell_on State 0 1),
            (
              each_at (net_numbers toggle) (λ i net. IsServed toggle state_plan net) (q_served state_plan (inl (record { cell = cell_on State 0 1; stands = (0, omega arith, refl); of_kind = refl; on = refl })), (d_served state_plan, tt)),
              (
                each_at state_plan.registers (λ r g. IsPure g) (λ h. absurd (cc h), tt),
                (
                  each_at state_plan.sessions (IsSession state_plan) (record { some = omega arith; ascending = first; compacting = ((_, refl, refl), tt); few = omega arith }, tt),
                  (
                    each_at state_plan.registers (IsListed state_plan) (λ h. (0 ∷ [], (0, omega arith, refl), (0, omega arith, refl)), tt),
                    (
                      omega arith,
                      (
                        each_at (chain state_plan) (λ i c. IsColumn state_plan c) (record { below = omega arith; none = λ e. absurd (cc e) }, tt),
                        (each_at (chain state_plan) (λ i c. IsNarrow toggle state_plan c) (λ e. (0 ∷ [], state_leaves state_plan 1 refl, omega arith), tt), tt),
                      ),
                    ),
                  ),
                ),
              ),
            ),
          ),
        ),
      ),
    )

-- rule 5: the Watch cell has no Split cell beside it
pub watched_alone : IsRuleFault toggle (toggle_with ((cell_on Watch 0 0 ∷ []) ∷ []) ((0 ∷ []) ∷ [])) 5 0
watched_alone = record {
  rule = Served;
  number_is = refl;
  before = earlier_rules;
  fails = record { item = 0; stands = refl; wrong = λ h. none (h.flop q_net); before = λ i x less at. absurd (omega (arith, less)) };
}
  where
    none : HasKind (alone (cell_on Watch 0 0)) State 0 ⊎ (HasKind (alone (cell_on Watch 0 0)) Split 0 × HasKind (alone (cell_on Watch 0 0)) Watch 0) → ⊥
    none (inl h) =
        let source : is_source h.cell.kind ≡ true = ap is_source h.of_kind in
        let observer : is_source h.cell.kind ≡ false = ap (λ (c : Cell). is_source c.kind) (sym (only (cell_on Watch 0 0) h.cell h.stands)) in
        cc (source, observer)
    none (inr h) =
        let source : is_source h.0.cell.kind ≡ true = ap is_source h.0.of_kind in
        let observer : is_source h.0.cell.kind ≡ false = ap (λ (c : Cell). is_source c.kind) (sym (only (cell_on Watch 0 0) h.0.cell h.0.stands)) in
        cc (source, observer)

    earlier_rules : (rule : Rule) → rule_number rule < 5 → Holds toggle (alone (cell_on Watch 0 0)) rule
    earlier_rules = before toggle (alone (cell_on Watch 0 0)) 4 (
      frame ((cell_on Watch 0 0 ∷ []) ∷ []) ((0 ∷ []) ∷ []),
      (one_register (cell_on Watch 0 0) ((0 ∷ []) ∷ []), (each_at (chain (alone (cell_on Watch 0 0))) (λ i c. Fits toggle c) (q_net, tt), (alone_apart (cell_on Watch 0 0), tt))),
    )

-- rule 4: State and Watch observe one d
pub observed_twice : IsRuleFault toggle (toggle_with ((cell_on State 0 1 ∷ []) ∷ (cell_on Watch 0 0 ∷ []) ∷ []) ((0 ∷ []) ∷ [])) 4 1
observed_twice = record {
  rule = Apart;
  number_is = refl;
  before = earlier_rules;
  fails = record { item = cell_on Watch 0 0; stands = refl; wrong = λ h. let apart : true ≡ false = h 0 (cell_on State 0 1) (omega arith) refl refl in cc apart; before = earlier };
}
  where
    earlier : (i : ℕ) (c : Cell) → i < 1 → slice_get (chain (toggle_with ((cell_on State 0 1 ∷ []) ∷ (cell_on Watch 0 0 ∷ []) ∷ []) ((0 ∷ []) ∷ []))) i ≡ Some c → IsApart (toggle_with ((cell_on State 0 1 ∷ []) ∷ (cell_on Watch 0 0 ∷ []) ∷ []) ((0 ∷ []) ∷ [])) i c
    earlier zero c less at j d before there same = absurd (omega (arith, before))
    earlier (suc i) c less at j d before there same = absurd (omega (arith, less))

    earlier_rules : (rule : Rule) → rule_number rule < 4 → Holds toggle (toggle_with ((cell_on State 0 1 ∷ []) ∷ (cell_on Watch 0 0 ∷ []) ∷ []) ((0 ∷ []) ∷ [])) rule
    earlier_rules = before toggle (toggle_with ((cell_on State 0 1 ∷ []) ∷ (cell_on Watch 0 0 ∷ []) ∷ []) ((0 ∷ []) ∷ [])) 3 (
      frame ((cell_on State 0 1 ∷ []) ∷ (cell_on Watch 0 0 ∷ []) ∷ []) ((0 ∷ []) ∷ []),
      (two_registers (cell_on State 0 1) (cell_on Watch 0 0) ((0 ∷ []) ∷ []), (each_at (chain (toggle_with ((cell_on State 0 1 ∷ []) ∷ (cell_on Watch 0 0 ∷ []) ∷ []) ((0 ∷ []) ∷ []))) (λ i c. Fits toggle c) (q_net, (q_net, tt)), tt)),
    )
