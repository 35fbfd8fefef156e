-- Plans of the half adder that fail a rule, each first at its place.
use Rattle.std.proofs.Common.{◌≡◌, ◌≢◌, ◌⊎◌, inl, inr, ℕ, zero, suc, ◌<◌, true, false, List, [], ◌∷◌, map, take, refl, sym, ap, subst, ◌∙◌, arith, slice_get, Some, Contains}
use lib.Count
use Rattle.std.specs.List.{AllByRecursion}
use Rattle.bb_base.specs.Net.{Gate}
use Rattle.bb_base.specs.Span.{IsIndependent}
use Rattle.bb_terms.specs.Register.{IsMask, state_after}
use Rattle.bb_terms.specs.Walk.{IsFirstReturn}
use Rattle.bb_base.proofs.Contained.{either, none_in}
use Rattle.bb_terms.specs.Paths.{Start, Behind}
use Rattle.bb_terms.specs.Support.{AreLeaves}
use Rattle.bb_segment.proofs.SupportLemmas.{one_support}
use Rattle.bb_terms.specs.declared.kind.Kind.TheVariants.{Input, Output}
use Rattle.bb_terms.specs.declared.plan.Cell.{Cell}
use Rattle.bb_terms.specs.Plan.{RegisterValue, chain, has_input}
use Rattle.bb_terms.specs.Kinds.{is_observer}
use Rattle.bb_terms.specs.Lines.{is_stop, column_of, IsStart}
use Rattle.bb_terms.specs.Rules.{Rule, Frame, Sessions, Compacted, Columns, Codes, Period, Holds, rule_number, IsColumn, IsCoded, IsListed}
use Rattle.bb_terms.specs.Valid.{IsRuleFault}
use Rattle.bb_rules.specs.Half.{half, half_with, cell_on}
use Rattle.bb_rules.proofs.RuleLemmas.{rules, before}
use Rattle.bb_rules.proofs.HalfLemmas.{frame, registers, kinds, apart, served, pure, sessions, compacted, columns, widths, conflicts, codes, once, leaves_of, xor_gate, and_gate}

fits : IsMask 2 3
fits = record { last = omega arith; below = omega arith }

-- the first rules that hold, whatever the column and the sessions are, and whatever the column is
six : (mask column : ℕ) (listed : List (List ℕ)) → IsMask 2 mask → AllByRecursion (Holds half (half_with mask column listed)) (take 6 rules)
six mask column listed fits =
    (frame mask column listed fits, (registers mask column listed, (kinds mask column listed, (apart mask column listed, (served mask column listed, (pure mask column listed, tt))))))

nine : (mask column : ℕ) → IsMask 2 mask → AllByRecursion (Holds half (half_with mask column once)) (take 9 rules)
nine mask column fits =
    let six = six mask column once fits in
    (six.0, (six.1.0, (six.1.1.0, (six.1.1.1.0, (six.1.1.1.1.0, (six.1.1.1.1.1.0, (sessions mask column, (compacted mask column, (omega arith, tt)))))))))

-- rule 1: the mask has a tap too many
pub wide_mask : IsRuleFault half (half_with 4 2 once) 1 0
wide_mask = record {
  rule = Frame;
  number_is = refl;
  before = before half (half_with 4 2 once) 0 tt;
  fails = (refl, λ h. let w : 4 < 4 = h.mask_fits.below in omega (arith, w));
}

-- rule 7: a session lists a register twice
pub listed_twice : IsRuleFault half (half_with 3 2 ((1 ∷ 1 ∷ []) ∷ [])) 7 0
listed_twice = record {
  rule = Sessions;
  number_is = refl;
  before = before half (half_with 3 2 ((1 ∷ 1 ∷ []) ∷ [])) 6 (six 3 2 ((1 ∷ 1 ∷ []) ∷ []) fits);
  fails = record { item = 1 ∷ 1 ∷ []; stands = refl; wrong = λ h. let up : 1 < 1 = h.ascending 0 (omega arith) in omega (arith, up); before = λ i x less at. absurd (omega (arith, less)) };
}

-- rule 8: no session lists register 1
pub not_listed : IsRuleFault half (half_with 3 2 []) 8 1
not_listed = record {
  rule = Compacted;
  number_is = refl;
  before = before half (half_with 3 2 []) 7 (let six = six 3 2 [] fits in (six.0, (six.1.0, (six.1.1.0, (six.1.1.1.0, (six.1.1.1.1.0, (six.1.1.1.1.1.0, (λ s x at. absurd (cc at), tt))))))));
  fails = record { item = record { mask = 3; cells = cell_on Output 2 0 ∷ cell_on Output 3 0 ∷ [] }; stands = refl; wrong = λ h. let s = h refl in none_in s.0 s.1; before = earlier };
}
  where
    earlier : (i : ℕ) (g : RegisterValue) → i < 1 → slice_get (half_with 3 2 []).registers i ≡ Some g → IsListed (half_with 3 2 []) i g
    earlier zero g less at generates =
        let same : record { mask = 3; cells = cell_on Input 0 1 ∷ cell_on Input 1 2 ∷ [] } ≡ g = cc at in
        let some : has_input g ≡ true = ap has_input (sym same) in
        absurd (cc (some, generates))
    earlier (suc i) g less at generates = absurd (omega (arith, less))

-- rule 10: the column of net b has a bit too many
pub wide_column : IsRuleFault half (half_with 3 4 once) 10 1
wide_column = record {
  rule = Columns;
  number_is = refl;
  before = before half (half_with 3 4 once) 9 (nine 3 4 fits);
  fails = record { item = cell_on Input 1 4; stands = refl; wrong = λ h. let w : 4 < 4 = h.below in omega (arith, w); before = earlier };
}
  where
    earlier : (i : ℕ) (c : Cell) → i < 1 → slice_get (chain (half_with 3 4 once)) i ≡ Some c → IsColumn (half_with 3 4 once) c
    earlier zero c less at =
        let same : cell_on Input 0 1 ≡ c = cc at in
        subst (IsColumn (half_with 3 4 once)) same (record { below = omega arith; none = λ e. absurd (cc e) })
    earlier (suc i) c less at = absurd (omega (arith, less))

-- the walk of net s starts behind its gate
sum_start : (start : Start ℕ) → IsStart half (cell_on Output 2 0) start → start ≡ Behind xor_gate
sum_start start begins = by (either xor_gate (and_gate ∷ []) begins.0 begins.1)
  where
    by : (xor_gate ≡ begins.0) ⊎ Contains (and_gate ∷ []) begins.0 → start ≡ Behind xor_gate
    by (inl e) = begins.3 ∙ ap Behind (sym e)
    by (inr more) = last (either and_gate [] begins.0 more)
      where
        last : (and_gate ≡ begins.0) ⊎ Contains [] begins.0 → start ≡ Behind xor_gate
        last (inl e) = absurd (let out : 3 ≡ 2 = ap (λ (g : Gate ℕ). g.out) e ∙ begins.2 in omega (arith, out))
        last (inr none) = absurd (none_in begins.0 none)

-- rule 13: both columns are 1
pub same_columns : IsRuleFault half (half_with 3 1 once) 13 2
same_columns = record {
  rule = Codes;
  number_is = refl;
  before = twelve;
  fails = record { item = cell_on Output 2 0; stands = refl; wrong = wrong; before = earlier };
}
  where
    twelve : (rule : Rule) → rule_number rule < 13 → Holds half (half_with 3 1 once) rule
    twelve =
        let nine = nine 3 1 fits in
        before half (half_with 3 1 once) 12 (nine.0, (nine.1.0, (nine.1.1.0, (nine.1.1.1.0, (nine.1.1.1.1.0, (nine.1.1.1.1.1.0, (nine.1.1.1.1.1.1.0, (nine.1.1.1.1.1.1.1.0, (nine.1.1.1.1.1.1.1.1.0, (columns 3 1 (omega arith), (widths 3 1, (conflicts 3 1, tt))))))))))))

    dependent : IsIndependent (1 ∷ 1 ∷ []) → ⊥
    dependent h = h 3 (record { nonempty = omega arith; within = omega arith; cancels = refl })

    wrong : IsCoded half (half_with 3 1 once) (cell_on Output 2 0) → ⊥
    wrong h =
        let coded = h refl in
        let start = sum_start coded.1.start coded.1.begins in
        let are : AreLeaves half.gates (is_stop half (half_with 3 1 once)) (Behind xor_gate) coded.0 = subst (λ s. AreLeaves half.gates (is_stop half (half_with 3 1 once)) s coded.0) start coded.1.are in
        let leaves : coded.0 ≡ 0 ∷ 1 ∷ [] = one_support half.gates (is_stop half (half_with 3 1 once)) (Behind xor_gate) coded.0 (0 ∷ 1 ∷ []) are (leaves_of xor_gate refl) in
        dependent (subst (λ ns. IsIndependent (map (column_of (half_with 3 1 once)) ns)) leaves coded.2)

    earlier : (i : ℕ) (c : Cell) → i < 2 → slice_get (chain (half_with 3 1 once)) i ≡ Some c → IsCoded half (half_with 3 1 once) c
    earlier zero c less at observes = let same : cell_on Input 0 1 ≡ c = cc at in let none : is_observer c.kind ≡ false = ap (λ (d : Cell). is_observer d.kind) (sym same) in absurd (cc (none, observes))
    earlier (suc zero) c less at observes = let same : cell_on Input 1 1 ≡ c = cc at in let none : is_observer c.kind ≡ false = ap (λ (d : Cell). is_observer d.kind) (sym same) in absurd (cc (none, observes))
    earlier (suc (suc i)) c less at observes = absurd (omega (arith, less))

-- rule 14: the walk of mask 2 is back after three steps
short : IsFirstReturn 2 2 3
unfolding lib.Count.ones
short = record { some = omega arith; back = refl; away = away }
  where
    away : (t : ℕ) → 0 < t → t < 3 → state_after 2 2 t ≢ 0
    away zero some less = absurd (omega (arith, some))
    away (suc zero) some less = λ e. let one : 1 ≡ 0 = e in omega (arith, one)
    away (suc (suc zero)) some less = λ e. let two : 2 ≡ 0 = e in omega (arith, two)
    away (suc (suc (suc t))) some less = absurd (omega (arith, less))

pub short_walk : IsRuleFault half (half_with 2 2 once) 14 3
short_walk = record { rule = Period; number_is = refl; before = thirteen; fails = (short, omega arith) }
  where
    thirteen : (rule : Rule) → rule_number rule < 14 → Holds half (half_with 2 2 once) rule
    thirteen =
        let nine = nine 2 2 (record { last = omega arith; below = omega arith }) in
        before half (half_with 2 2 once) 13 (nine.0, (nine.1.0, (nine.1.1.0, (nine.1.1.1.0, (nine.1.1.1.1.0, (nine.1.1.1.1.1.0, (nine.1.1.1.1.1.1.0, (nine.1.1.1.1.1.1.1.0, (nine.1.1.1.1.1.1.1.1.0, (columns 2 2 (omega arith), (widths 2 2, (conflicts 2 2, (codes 2, tt)))))))))))))
