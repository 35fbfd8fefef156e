-- A plan has one fault at most, and a valid one none.
use Rattle.std.proofs.Common.{◌≡◌, ◌⊎◌, inl, inr, ℕ, zero, suc, ◌<◌, ◌^◌, List, [], ◌∷◌, refl, sym, ap, subst, ◌∙◌, arith, take, slice_get, Some}
use Rattle.std.specs.List.{AllByRecursion}
use Rattle.bb_base.proofs.Contained.{at_place}
use Rattle.bb_base.specs.Net.{Netlist}
use Rattle.bb_gf2.proofs.Orbit.{first_return, first_unique}
use Rattle.bb_base.specs.Places.{EachAt, IsFirstWrong}
use Rattle.bb_terms.specs.Plan.{PlanValue}
use Rattle.bb_terms.specs.Rules.{Rule, Frame, Registers, Kinds, Apart, Served, Pure, Sessions, Compacted, Room, Columns, Widths, Conflicts, Codes, Period, rule_number, Holds, FailsAt, IsFrame}
use Rattle.bb_terms.specs.Valid.{IsValidPlan, IsRuleFault}

never : {X : Type 0} (xs : List X) (P : ℕ → X → Type 0) (place : ℕ) → EachAt xs P → IsFirstWrong xs P place → ⊥
never xs P place each wrong = wrong.wrong (each place wrong.item wrong.stands)

order_of : (x y : ℕ) → (x < y) ⊎ ((x ≡ y) ⊎ (y < x))
order_of zero zero = inr (inl refl)
order_of zero (suc y) = inl (omega arith)
order_of (suc x) zero = inr (inr (omega arith))
order_of (suc x) (suc y) = by (order_of x y)
  where
    by : (x < y) ⊎ ((x ≡ y) ⊎ (y < x)) → (suc x < suc y) ⊎ ((suc x ≡ suc y) ⊎ (suc y < suc x))
    by (inl less) = inl (omega (arith, less))
    by (inr (inl same)) = inr (inl (ap suc same))
    by (inr (inr more)) = inr (inr (omega (arith, more)))

one_place : {X : Type 0} (xs : List X) (P : ℕ → X → Type 0) (x y : ℕ) → IsFirstWrong xs P x → IsFirstWrong xs P y → x ≡ y
one_place xs P x y hx hy = by (order_of x y)
  where
    by : (x < y) ⊎ ((x ≡ y) ⊎ (y < x)) → x ≡ y
    by (inl less) = absurd (hx.wrong (hy.before x hx.item less hx.stands))
    by (inr (inl same)) = same
    by (inr (inr more)) = absurd (hy.wrong (hx.before y hy.item more hy.stands))

-- a rule holds and fails at no place, where the frame is in bounds
pub never_both : (a : Netlist ℕ) (p : PlanValue) (rule : Rule) (place : ℕ) → IsFrame p → Holds a p rule → FailsAt a p rule place → ⊥
never_both a p Frame place frame h f = f.1 h
never_both a p Registers place frame h f = never _ _ place h f
never_both a p Kinds place frame h f = never _ _ place h f
never_both a p Apart place frame h f = never _ _ place h f
never_both a p Served place frame h f = never _ _ place h f
never_both a p Pure place frame h f = never _ _ place h f
never_both a p Sessions place frame h f = never _ _ place h f
never_both a p Compacted place frame h f = never _ _ place h f
never_both a p Room place frame h f = let is = f.0 in let over = f.1 in omega (arith, h, is, over)
never_both a p Columns place frame h f = never _ _ place h f
never_both a p Widths place frame h f = never _ _ place h f
never_both a p Conflicts place frame h f = never _ _ place h f
never_both a p Codes place frame h f = never _ _ place h f
never_both a p Period place frame h f =
    let whole = first_return p.degree p.mask frame.degree_least frame.mask_fits h in
    let same = first_unique p.degree p.mask place (2 ^ p.degree) f.0 whole in
    let less = f.1 in
    omega (arith, same, less)

-- a rule fails first at one place
pub one_failure : (a : Netlist ℕ) (p : PlanValue) (rule : Rule) (x y : ℕ) → FailsAt a p rule x → FailsAt a p rule y → x ≡ y
one_failure a p Frame x y f g = f.0 ∙ sym g.0
one_failure a p Registers x y f g = one_place _ _ x y f g
one_failure a p Kinds x y f g = one_place _ _ x y f g
one_failure a p Apart x y f g = one_place _ _ x y f g
one_failure a p Served x y f g = one_place _ _ x y f g
one_failure a p Pure x y f g = one_place _ _ x y f g
one_failure a p Sessions x y f g = one_place _ _ x y f g
one_failure a p Compacted x y f g = one_place _ _ x y f g
one_failure a p Room x y f g = f.0 ∙ sym g.0
one_failure a p Columns x y f g = one_place _ _ x y f g
one_failure a p Widths x y f g = one_place _ _ x y f g
one_failure a p Conflicts x y f g = one_place _ _ x y f g
one_failure a p Codes x y f g = one_place _ _ x y f g
one_failure a p Period x y f g = first_unique p.degree p.mask x y f.0 g.0

-- the rules in their order, and where each stands
abbrev pub rules : List Rule
rules = Frame ∷ Registers ∷ Kinds ∷ Apart ∷ Served ∷ Pure ∷ Sessions ∷ Compacted ∷ Room ∷ Columns ∷ Widths ∷ Conflicts ∷ Codes ∷ Period ∷ []

spot : (rule : Rule) → (i : ℕ) × (rule_number rule ≡ suc i) × (slice_get rules i ≡ Some rule)
spot Frame = (0, refl, refl)
spot Registers = (1, refl, refl)
spot Kinds = (2, refl, refl)
spot Apart = (3, refl, refl)
spot Served = (4, refl, refl)
spot Pure = (5, refl, refl)
spot Sessions = (6, refl, refl)
spot Compacted = (7, refl, refl)
spot Room = (8, refl, refl)
spot Columns = (9, refl, refl)
spot Widths = (10, refl, refl)
spot Conflicts = (11, refl, refl)
spot Codes = (12, refl, refl)
spot Period = (13, refl, refl)

one_rule : (a b : Rule) → rule_number a ≡ rule_number b → a ≡ b
one_rule a b e =
    let x = spot a in
    let y = spot b in
    let same : x.0 ≡ y.0 = (let h = x.1 in let k = y.1 in omega (arith, h, k, e)) in
    let both : Some a ≡ Some b = sym x.2 ∙ ap (slice_get rules) same ∙ y.2 in
    cc both

get_taken : {X : Type 0} (n i : ℕ) (xs : List X) (x : X) → i < n → slice_get xs i ≡ Some x → slice_get (take n xs) i ≡ Some x
get_taken zero i xs x less at = absurd (omega (arith, less))
get_taken (suc n) i [] x less at = absurd (cc at)
get_taken (suc n) zero (y ∷ xs) x less at = at
get_taken (suc n) (suc i) (y ∷ xs) x less at = get_taken n i xs x (omega (arith, less)) at

-- facts of the first rules are those before the next number
pub before : (a : Netlist ℕ) (p : PlanValue) (n : ℕ) → AllByRecursion (Holds a p) (take n rules) → (rule : Rule) → rule_number rule < suc n → Holds a p rule
before a p n facts rule less =
    let x = spot rule in
    let low : x.0 < n = (let h = x.1 in omega (arith, h, less)) in
    at_place (Holds a p) (take n rules) x.0 rule facts (get_taken n x.0 rules rule low x.2)

-- the first rule by number is the frame's
framed : (a : Netlist ℕ) (p : PlanValue) (rule : Rule) (n : ℕ) → rule_number rule < n → ((earlier : Rule) → rule_number earlier < n → Holds a p earlier) → IsFrame p
framed a p rule n less before = before Frame (let h = (spot rule).1 in omega (arith, less, h))

-- no rule fails before the first that fails
not_before : (a : Netlist ℕ) (p : PlanValue) (n x m y : ℕ) → IsRuleFault a p n x → IsRuleFault a p m y → n < m → ⊥
not_before a p n x m y h k less =
    let is = h.number_is in
    let earlier : rule_number h.rule < m = omega (arith, less, is) in
    never_both a p h.rule x (framed a p h.rule m earlier k.before) (k.before h.rule earlier) h.fails

one_number : (a : Netlist ℕ) (p : PlanValue) (n x m y : ℕ) → IsRuleFault a p n x → IsRuleFault a p m y → n ≡ m
one_number a p n x m y h k = by (order_of n m)
  where
    by : (n < m) ⊎ ((n ≡ m) ⊎ (m < n)) → n ≡ m
    by (inl less) = absurd (not_before a p n x m y h k less)
    by (inr (inl same)) = same
    by (inr (inr more)) = absurd (not_before a p m y n x k h more)

pub one_fault : (a : Netlist ℕ) (p : PlanValue) (n x m y : ℕ) → IsRuleFault a p n x → IsRuleFault a p m y → (n ≡ m) × (x ≡ y)
one_fault a p n x m y h k =
    let same = one_number a p n x m y h k in
    let rules = one_rule h.rule k.rule (sym h.number_is ∙ same ∙ k.number_is) in
    (same, one_failure a p k.rule x y (subst (λ rule. FailsAt a p rule x) rules h.fails) k.fails)

pub valid_has_none : (a : Netlist ℕ) (p : PlanValue) (n x : ℕ) → IsValidPlan a p → IsRuleFault a p n x → ⊥
valid_has_none a p n x valid h = never_both a p h.rule x (valid.meets Frame) (valid.meets h.rule) h.fails
