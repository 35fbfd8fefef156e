-- The bits of the chain's cells, register after register.
use Rattle.std.proofs.Common.{◌≡◌, ℕ, zero, suc, ◌+◌, ◌≤◌, ◌++◌, List, [], ◌∷◌, length, map, take, drop, slice_get, Option, Some, None, refl, sym, ap, ◌∙◌, arith, append_assoc, append-nil, length-append}
use Rattle.bb_terms.specs.declared.plan.Cell.{Cell}
use Rattle.bb_terms.specs.Plan.{PlanValue, RegisterValue, chain, sessions_of}
use Rattle.bb_base.specs.Net.{Gate}
use Rattle.bb_terms.specs.OnBits.{last_of}
use Rattle.bb_terms.proofs.ChainLemmas.{cells_of}
use Rattle.bb_terms.specs.declared.wire.Wire.{Wire}
use Rattle.bb_terms.specs.Reads.{q_of, qs_from}
use Rattle.bb_terms.specs.Registers.{rows_of_register, registers_from}

-- the bits of cells one behind the other
pub qs_join : (i : ℕ) (xs ys : List Cell) → qs_from i (xs ++ ys) ≡ qs_from i xs ++ qs_from (i + length xs) ys
qs_join i [] ys = ap (λ k. qs_from k ys) (let e : i ≡ i + 0 = omega arith in e)
qs_join i (x ∷ xs) ys =
    let e : suc i + length xs ≡ i + suc (length xs) = omega arith in
    ap (λ qs. q_of i x ∷ qs) (qs_join (suc i) xs ys ∙ ap (λ k. qs_from (suc i) xs ++ qs_from k ys) e)

pub qs_long : (i : ℕ) (xs : List Cell) → length (qs_from i xs) ≡ length xs
qs_long i [] = refl
qs_long i (x ∷ xs) = ap suc (qs_long (suc i) xs)

-- cells from a register on
pub cells_split : (registers : List RegisterValue) (r : ℕ) (g : RegisterValue) → slice_get registers r ≡ Some g → cells_of (drop r registers) ≡ g.cells ++ cells_of (drop (r + 1) registers)
cells_split [] r g h = cc
cells_split (f ∷ registers) zero g h = let same : f ≡ g = cc h in ap (λ (e : RegisterValue). e.cells ++ cells_of registers) same
cells_split (f ∷ registers) (suc r) g h = let k : suc r + 1 ≡ suc (r + 1) = omega arith in cells_split registers r g h ∙ ap (λ n. g.cells ++ cells_of (drop n (f ∷ registers))) (sym k)

-- what is known of the bits so far goes on with one register more
pub record AreQs (registers : List RegisterValue) (all : List Cell) (r : ℕ) (qs : List Wire) : Type 0 where
  pub bits : qs ++ qs_from (length qs) (cells_of (drop r registers)) ≡ qs_from 0 all
  pub long : length qs + length (cells_of (drop r registers)) ≡ length all

pub qs_next : (registers : List RegisterValue) (all : List Cell) (r : ℕ) (old new : List Wire) (g : RegisterValue) → slice_get registers r ≡ Some g → AreQs registers all r old → new ≡ old ++ qs_from (length old) g.cells → AreQs registers all (r + 1) new
qs_next registers all r old new g at h e =
    let split = cells_split registers r g at in
    let rest = cells_of (drop (r + 1) registers) in
    let longer : length new ≡ length old + length g.cells = ap length e ∙ length-append old (qs_from (length old) g.cells) ∙ ap (λ n. length old + n) (qs_long (length old) g.cells) in
    record {
      bits = (λ i. e i ++ qs_from (longer i) rest) ∙ append_assoc old (qs_from (length old) g.cells) (qs_from (length old + length g.cells) rest) ∙ ap (λ k. old ++ k) (sym (ap (qs_from (length old)) split ∙ qs_join (length old) g.cells rest)) ∙ h.bits;
      long = omega (arith, longer, ap length split, length-append g.cells rest, h.long);
    }

-- the registers so far have their rows, where cell i comes next
pub record AreBuilt (p : PlanValue) (r : ℕ) (before : Option Wire) (rest : List Wire) (rows all : List (Gate Wire)) : Type 0 where
  pub i : ℕ
  pub bits : rest ≡ qs_from i (cells_of (drop r p.registers))
  pub built : rows ++ registers_from p r i before (drop r p.registers) ≡ all

drop_split : (registers : List RegisterValue) (r : ℕ) (g : RegisterValue) → slice_get registers r ≡ Some g → drop r registers ≡ g ∷ drop (r + 1) registers
drop_split [] r g h = cc
drop_split (f ∷ registers) zero g h = let same : f ≡ g = cc h in ap (λ (e : RegisterValue). e ∷ registers) same
drop_split (f ∷ registers) (suc r) g h = let k : suc r + 1 ≡ suc (r + 1) = omega arith in drop_split registers r g h ∙ ap (λ n. g ∷ drop n (f ∷ registers)) (sym k)

take_qs : (i : ℕ) (xs ys : List Cell) → take (length xs) (qs_from i (xs ++ ys)) ≡ qs_from i xs
take_qs i [] ys = refl
take_qs i (x ∷ xs) ys = ap (λ qs. q_of i x ∷ qs) (take_qs (suc i) xs ys)

drop_qs : (i : ℕ) (xs ys : List Cell) → drop (length xs) (qs_from i (xs ++ ys)) ≡ qs_from (i + length xs) ys
drop_qs i [] ys = ap (λ k. qs_from k ys) (let e : i ≡ i + 0 = omega arith in e)
drop_qs i (x ∷ xs) ys = let e : suc i + length xs ≡ i + suc (length xs) = omega arith in drop_qs (suc i) xs ys ∙ ap (λ k. qs_from k ys) e

-- one register more
pub built_more : (p : PlanValue) (r : ℕ) (before after : Option Wire) (rest own later : List Wire) (sessions : List ℕ) (rows new all : List (Gate Wire)) (g : RegisterValue) → slice_get p.registers r ≡ Some g → AreBuilt p r before rest rows all
    → own ≡ take (length g.cells) rest → later ≡ drop (length g.cells) rest → sessions ≡ sessions_of p r → after ≡ last_of before (map Some own) → new ≡ rows ++ rows_of_register r sessions before g.mask own → AreBuilt p (r + 1) after later new all
built_more p r before after rest own later sessions rows new all g at h own_is later_is turns after_is new_is =
    let cells = cells_split p.registers r g at in
    let others = cells_of (drop (r + 1) p.registers) in
    let bits : rest ≡ qs_from h.i (g.cells ++ others) = h.bits ∙ ap (qs_from h.i) cells in
    let own_bits : own ≡ qs_from h.i g.cells = own_is ∙ ap (take (length g.cells)) bits ∙ take_qs h.i g.cells others in
    let next : suc r ≡ r + 1 = omega arith in
    let more = registers_from p (r + 1) (h.i + length g.cells) (last_of before (map Some (qs_from h.i g.cells))) (drop (r + 1) p.registers) in
    let here : registers_from p r h.i before (drop r p.registers) ≡ rows_of_register r (sessions_of p r) before g.mask (qs_from h.i g.cells) ++ more =
    ap (registers_from p r h.i before) (drop_split p.registers r g at)
    ∙ ap (λ k. rows_of_register r (sessions_of p r) before g.mask (qs_from h.i g.cells) ++ registers_from p k (h.i + length g.cells) (last_of before (map Some (qs_from h.i g.cells))) (drop (r + 1) p.registers)) next in
    record {
      i = h.i + length g.cells;
      bits = later_is ∙ ap (drop (length g.cells)) bits ∙ drop_qs h.i g.cells others;
      built = (λ k. new_is k ++ registers_from p (r + 1) (h.i + length g.cells) ((after_is ∙ ap (λ qs. last_of before (map Some qs)) own_bits) k) (drop (r + 1) p.registers))
          ∙ (λ k. (rows ++ rows_of_register r (turns k) before g.mask (own_bits k)) ++ more)
          ∙ append_assoc rows (rows_of_register r (sessions_of p r) before g.mask (qs_from h.i g.cells)) more ∙ ap (λ k. rows ++ k) (sym here) ∙ h.built;
    }

pub built_first : (p : PlanValue) (rest : List Wire) (rows : List (Gate Wire)) → rest ≡ qs_from 0 (chain p) → AreBuilt p 0 None rest rows (rows ++ registers_from p 0 0 None p.registers)
built_first p rest rows bits = record { i = 0; bits = bits; built = refl }

none_left : (registers : List RegisterValue) (r : ℕ) → length registers ≤ r → drop r registers ≡ []
none_left [] zero h = refl
none_left [] (suc r) h = refl
none_left (g ∷ registers) zero h = absurd (omega (arith, h))
none_left (g ∷ registers) (suc r) h = none_left registers r (omega (arith, h))

pub built_all : (p : PlanValue) (r : ℕ) (before : Option Wire) (rest : List Wire) (rows all : List (Gate Wire)) → length p.registers ≤ r → AreBuilt p r before rest rows all → rows ≡ all
built_all p r before rest rows all end h = sym (append-nil rows) ∙ ap (λ k. rows ++ registers_from p r h.i before k) (sym (none_left p.registers r end)) ∙ h.built

-- the register's cells are among the rest
pub built_room : (p : PlanValue) (r : ℕ) (before : Option Wire) (rest : List Wire) (rows all : List (Gate Wire)) (g : RegisterValue) → slice_get p.registers r ≡ Some g → AreBuilt p r before rest rows all → length g.cells ≤ length rest
built_room p r before rest rows all g at h =
    let others = cells_of (drop (r + 1) p.registers) in
    omega (arith, ap length h.bits, qs_long h.i (cells_of (drop r p.registers)), ap length (cells_split p.registers r g at), length-append g.cells others)
