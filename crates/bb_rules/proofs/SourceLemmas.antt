-- A cell's register, and the one source cell of a net.
use Rattle.std.proofs.Common.{◌≡◌, ℕ, zero, suc, ◌+◌, ◌-◌, ◌<◌, ◌==◌, ◌&&◌, ◌||◌, nat_lt, List, [], ◌∷◌, ◌++◌, length, take, Bool, true, false, cond, refl, sym, ap, subst, ◌∙◌, arith, slice_get, Some, None, length-append}
use Rattle.std.proofs.lemmas.Bool.Decides.{nat_tests}
use Rattle.std.proofs.lemmas.Option.{slice_get_within}
use Rattle.bb_base.specs.Net.{Netlist}
use Rattle.bb_base.proofs.Lists.{get_front, get_back}
use Rattle.bb_terms.specs.declared.plan.Cell.{Cell}
use Rattle.bb_terms.specs.Kinds.{is_source}
use Rattle.bb_terms.specs.Plan.{RegisterValue, PlanValue, chain, IsCell}
use Rattle.bb_terms.specs.Lines.{source_in, source_from, source_of, or_later}
use Rattle.bb_terms.specs.Rules.{Apart, Holds}
use Rattle.bb_terms.specs.Sources.{IsSourceAt}
use Rattle.bb_terms.proofs.ChainLemmas.{cells_of}
use Rattle.bb_rules.proofs.CellLemmas.{cell_at, found_first, get_left}

-- cell i of these registers is this cell, in that register
record Found (registers : List RegisterValue) (i : ℕ) (c : Cell) : Type 0 where
  register : ℕ
  value : RegisterValue
  stands : slice_get registers register ≡ Some value
  place : ℕ
  at : slice_get value.cells place ≡ Some c
  number : i ≡ length (cells_of (take register registers)) + place

found : (registers : List RegisterValue) (i : ℕ) (c : Cell) → slice_get (cells_of registers) i ≡ Some c → Found registers i c
found [] i c at = absurd (cc at)
found (g ∷ registers) i c at = by (nat_lt i (length g.cells)) refl (λ k at. found registers k c at)
  where
    by : (b : Bool) → nat_lt i (length g.cells) ≡ b → ((k : ℕ) → slice_get (cells_of registers) k ≡ Some c → Found registers k c) → Found (g ∷ registers) i c
    by true less rest = record {
      register = 0;
      value = g;
      stands = refl;
      place = i;
      at = sym (get_front g.cells (cells_of registers) i (grind (arith, nat_tests, less))) ∙ at;
      number = omega arith;
    }
    by false more rest =
        let k : ℕ = i - length g.cells in
        let e : length g.cells + k ≡ i = grind (arith, nat_tests, more) in
        let f = rest k (sym (get_back g.cells (cells_of registers) k) ∙ ap (slice_get (g.cells ++ cells_of registers)) e ∙ at) in
        let long = length-append g.cells (cells_of (take f.register registers)) in
        let is = f.number in
        record { register = suc f.register; value = f.value; stands = f.stands; place = f.place; at = f.at; number = omega (arith, e, long, is) }

-- each cell of the chain stands in a register
pub in_register : (p : PlanValue) (i : ℕ) (c : Cell) → slice_get (chain p) i ≡ Some c → (r : ℕ) × IsCell p i r c
in_register p i c at = let f = found p.registers i c at in (f.register, record { register = f.value; stands = f.stands; place = f.place; at = f.at; number = f.number })

same_register : (registers : List RegisterValue) (r q x y : ℕ) (f g : RegisterValue) (c d : Cell) → slice_get registers r ≡ Some f → slice_get f.cells x ≡ Some c → slice_get registers q ≡ Some g → slice_get g.cells y ≡ Some d
    → length (cells_of (take r registers)) + x ≡ length (cells_of (take q registers)) + y → r ≡ q
same_register [] r q x y f g c d at_f at_c at_g at_d same = absurd (cc at_f)
same_register (h ∷ registers) zero zero x y f g c d at_f at_c at_g at_d same = refl
same_register (h ∷ registers) zero (suc q) x y f g c d at_f at_c at_g at_d same =
    let first : h ≡ f = cc at_f in
    let less : x < length h.cells = subst (λ (e : RegisterValue). x < length e.cells) (sym first) (slice_get_within f.cells x c at_c) in
    let long = length-append h.cells (cells_of (take q registers)) in
    absurd (omega (arith, less, long, same))
same_register (h ∷ registers) (suc r) zero x y f g c d at_f at_c at_g at_d same =
    let first : h ≡ g = cc at_g in
    let less : y < length h.cells = subst (λ (e : RegisterValue). y < length e.cells) (sym first) (slice_get_within g.cells y d at_d) in
    let long = length-append h.cells (cells_of (take r registers)) in
    absurd (omega (arith, less, long, same))
same_register (h ∷ registers) (suc r) (suc q) x y f g c d at_f at_c at_g at_d same =
    let long_r = length-append h.cells (cells_of (take r registers)) in
    let long_q = length-append h.cells (cells_of (take q registers)) in
    ap suc (same_register registers r q x y f g c d at_f at_c at_g at_d (omega (arith, same, long_r, long_q)))

-- and in one alone
pub one_register : (p : PlanValue) (i r q : ℕ) (c d : Cell) → IsCell p i r c → IsCell p i q d → (r ≡ q) × (c ≡ d)
one_register p i r q c d h k =
    let both : Some c ≡ Some d = sym (cell_at p i r c h) ∙ cell_at p i q d k in
    (same_register p.registers r q h.place k.place h.register k.register c d h.stands h.at k.stands k.at (sym h.number ∙ k.number), cc both)

-- no source cell on the net is found where none stands
none_found : (cells : List Cell) (net : ℕ) → ((j : ℕ) (d : Cell) → slice_get cells j ≡ Some d → d.net ≡ net → is_source d.kind ≡ false) → source_in cells net ≡ None
none_found [] net none = refl
none_found (c ∷ cells) net none = ap (λ b. cond b (Some c) (source_in cells net)) missed ∙ none_found cells net (λ j d at on. none (suc j) d at on)
  where
    never : (a b : Bool) → (b ≡ true → a ≡ false) → (a && b) ≡ false
    never true true h = h refl
    never true false h = refl
    never false b h = refl

    missed : (is_source c.kind && (c.net == net)) ≡ false
    missed = never (is_source c.kind) (c.net == net) (λ same. none 0 c refl (grind (arith, nat_tests, same)))

source_from_is : (registers : List RegisterValue) (first r place : ℕ) (g : RegisterValue) (c : Cell) → slice_get registers r ≡ Some g → slice_get g.cells place ≡ Some c → is_source c.kind ≡ true
    → ((j : ℕ) (d : Cell) → j < length (cells_of (take r registers)) + place → slice_get (cells_of registers) j ≡ Some d → d.net ≡ c.net → is_source d.kind ≡ false)
    → source_from first registers c.net ≡ Some (first + r, c)
source_from_is [] first r place g c at_g at_c source before = absurd (cc at_g)
source_from_is (f ∷ registers) first zero place g c at_g at_c source before =
    let same : f ≡ g = cc at_g in
    let at : slice_get f.cells place ≡ Some c = subst (λ (e : RegisterValue). slice_get e.cells place ≡ Some c) (sym same) at_c in
    let one = found_first f.cells place c at source (λ j d less there on. before j d (omega (arith, less)) (get_left f.cells (cells_of registers) j d there) on) in
    let k : first ≡ first + 0 = omega arith in
    ap (λ o. or_later o first (source_from (suc first) registers c.net)) one ∙ ap (λ n. Some (n, c)) k
source_from_is (f ∷ registers) first (suc r) place g c at_g at_c source before =
    let long = length-append f.cells (cells_of (take r registers)) in
    let none = none_found f.cells c.net (λ j d at on. before j d (let less = slice_get_within f.cells j d at in omega (arith, less, long)) (get_left f.cells (cells_of registers) j d at) on) in
    let rest = source_from_is registers (suc first) r place g c at_g at_c source (λ j d less at on. before (length f.cells + j) d (omega (arith, less, long)) (get_back f.cells (cells_of registers) j ∙ at) on) in
    let k : suc first + r ≡ first + suc r = omega arith in
    ap (λ o. or_later o first (source_from (suc first) registers c.net)) none ∙ rest ∙ ap (λ n. Some (n, c)) k

first_false : (x y z : Bool) → y ≡ true → ((x && y) || z) ≡ false → x ≡ false
first_false true true z h k = absurd (cc k)
first_false true false z h k = absurd (cc h)
first_false false y z h k = refl

-- no source before cell i stands on its net
pub sources_apart : (a : Netlist ℕ) (p : PlanValue) (i : ℕ) (c : Cell) → Holds a p Apart → slice_get (chain p) i ≡ Some c → is_source c.kind ≡ true
    → (j : ℕ) (d : Cell) → j < i → slice_get (chain p) j ≡ Some d → d.net ≡ c.net → is_source d.kind ≡ false
sources_apart a p i c apart at source j d less there on = first_false (is_source d.kind) (is_source c.kind) _ source (apart i c at j d less there on)

-- a net's source cell is found with its register
pub source_is : (a : Netlist ℕ) (p : PlanValue) (i r : ℕ) (c : Cell) → Holds a p Apart → IsCell p i r c → is_source c.kind ≡ true → source_of p c.net ≡ Some (r, c)
source_is a p i r c apart h source =
    source_from_is p.registers 0 r h.place h.register c h.stands h.at source (λ j d less there on. let is = h.number in sources_apart a p i c apart (cell_at p i r c h) source j d (omega (arith, less, is)) there on)
    ∙ ap (λ n. Some (n, c)) (let k : 0 + r ≡ r = omega arith in k)

-- a net has one source cell at most
pub one_source : (a : Netlist ℕ) (p : PlanValue) (net i j : ℕ) → Holds a p Apart → IsSourceAt p net i → IsSourceAt p net j → i ≡ j
one_source a p net i j apart h k = by (nat_lt i j) refl (nat_lt j i) refl
  where
    clash : (i j : ℕ) → IsSourceAt p net i → IsSourceAt p net j → i < j → ⊥
    clash i j h k less =
        let none = sources_apart a p j k.source apart k.stands k.generates i h.source less h.stands (h.on ∙ sym k.on) in
        absurd (cc (none, h.generates))

    by : (b : Bool) → nat_lt i j ≡ b → (c : Bool) → nat_lt j i ≡ c → i ≡ j
    by true e c f = absurd (clash i j h k (grind (arith, nat_tests, e)))
    by false e true f = absurd (clash j i k h (grind (arith, nat_tests, f)))
    by false e false f = grind (arith, nat_tests, e, f)
