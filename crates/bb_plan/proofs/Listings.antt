-- Registers and the sessions that list them.
use Rattle.std.proofs.Common.{◌≡◌, ℕ, suc, ◌+◌, ◌<◌, ◌≤◌, List, length, take, Bool, true, sym, ap, subst, ◌∙◌, arith, slice_get, Some, Contains, Option, None, nat_eq}
use Rattle.std.proofs.lemmas.Bool.Decides.{nat_tests}
use Rattle.std.proofs.lemmas.Option.{slice_get_within}
use Rattle.std.specs.List.{list_any, flat_map}
use Rattle.bb_base.specs.Places.{IsFirstWrong}
use Rattle.bb_base.specs.Net.{Netlist}
use Rattle.bb_terms.specs.Plan.{RegisterValue, PlanValue, lists_register}
use Rattle.bb_terms.specs.Rules.{IsListed, IsSession, Compacted}
use Rattle.bb_plan.specs.Answers.{IsVerdict}
use Rattle.bb_plan.specs.Tables.{IsFound}
use Rattle.bb_plan.specs.Tables.{MayBeSession, AreListed, IsListedIn}
use Rattle.bb_plan.proofs.FirstWrong.{HoldsBefore, wrong_here, one_more}
use Rattle.bb_plan.proofs.Items.{any_item, any_of, joined_more}

-- a session that lists the register
Lister : List (List ℕ) → ℕ → Type 0
Lister sessions r = (session : List ℕ) × Contains sessions session × Contains session r

lister : (sessions : List (List ℕ)) (r : ℕ) → list_any (lists_register r) sessions ≡ true → Lister sessions r
unfolding Lister
lister sessions r h =
    let one = any_item (lists_register r) sessions h in
    let item = any_item (nat_eq r) one.0 one.2 in
    let test = item.2 in
    let same : item.0 ≡ r = grind (arith, nat_tests, test) in
    (one.0, one.1, subst (Contains one.0) same item.1)

listed : (sessions : List (List ℕ)) (r : ℕ) → Lister sessions r → list_any (lists_register r) sessions ≡ true
unfolding Lister
listed sessions r h = any_of (lists_register r) sessions h.0 h.1 (any_of (nat_eq r) h.0 r h.2 (grind (arith, nat_tests)))

-- marked registers are those that a session lists
is_listed : (p : PlanValue) (marks : List Bool) (r : ℕ) (g : RegisterValue) → AreListed (length p.registers) p.sessions marks → slice_get p.registers r ≡ Some g → IsListedIn marks r g → IsListed p r g
unfolding Lister
is_listed p marks r g are at h none = lister p.sessions r (sym (are.each r (slice_get_within p.registers r g at)) ∙ h none)

listed_in : (p : PlanValue) (marks : List Bool) (r : ℕ) (g : RegisterValue) → AreListed (length p.registers) p.sessions marks → slice_get p.registers r ≡ Some g → IsListed p r g → IsListedIn marks r g
unfolding Lister
listed_in p marks r g are at h none = are.each r (slice_get_within p.registers r g at) ∙ listed p.sessions r (h none)

pub compacted_answer : (a : Netlist ℕ) (p : PlanValue) (marks : List Bool) (answer : Option ℕ) → AreListed (length p.registers) p.sessions marks → IsFound p.registers (IsListedIn marks) answer → IsVerdict a p Compacted answer
compacted_answer a p marks None are h = λ r g at. is_listed p marks r g are at (h r g at)
compacted_answer a p marks (Some place) are h = record {
  item = h.item;
  stands = h.stands;
  wrong = λ k. h.wrong (listed_in p marks place h.item are h.stands k);
  before = λ r g less at. is_listed p marks r g are at (h.before r g less at);
}

-- the sessions so far, with one more
count_more : (p : PlanValue) (s : ℕ) (x : List ℕ) (count n : ℕ) → slice_get p.sessions s ≡ Some x → count ≡ length (flat_map (λ x. x) (take s p.sessions)) → n ≡ length x
    → length (flat_map (λ x. x) (take (suc s) p.sessions)) ≡ count + n
count_more p s x count n at is long = omega (arith, joined_more p.sessions s x at, is, long)

pub too_many : (p : PlanValue) (s : ℕ) (x : List ℕ) (count n : ℕ) → HoldsBefore p.sessions (IsSession p) s → slice_get p.sessions s ≡ Some x → count ≡ length (flat_map (λ x. x) (take s p.sessions)) → n ≡ length x
    → 2097152 < count + n → IsFirstWrong p.sessions (IsSession p) s
too_many p s x count n before at is long over = wrong_here p.sessions (IsSession p) s x before at (λ h. let few = h.few in let all = count_more p s x count n at is long in absurd (omega (arith, few, all, over)))

pub one_session : (p : PlanValue) (s : ℕ) (x : List ℕ) (count n : ℕ) → HoldsBefore p.sessions (IsSession p) s → slice_get p.sessions s ≡ Some x → count ≡ length (flat_map (λ x. x) (take s p.sessions)) → n ≡ length x
    → count + n ≤ 2097152 → MayBeSession p x → HoldsBefore p.sessions (IsSession p) (s + 1)
one_session p s x count n before at is long few may =
    let all = count_more p s x count n at is long in
    one_more p.sessions (IsSession p) s x before at (record { some = may.some; ascending = may.ascending; compacting = may.compacting; few = omega (arith, all, few) })

pub one_count : (p : PlanValue) (s : ℕ) (x : List ℕ) (count n : ℕ) → slice_get p.sessions s ≡ Some x → count ≡ length (flat_map (λ x. x) (take s p.sessions)) → n ≡ length x
    → count + n ≡ length (flat_map (λ x. x) (take (s + 1) p.sessions))
one_count p s x count n at is long =
    let e : suc s ≡ s + 1 = omega arith in
    sym (count_more p s x count n at is long) ∙ ap (λ k. length (flat_map (λ (x : List ℕ). x) (take k p.sessions))) e
