-- Cells by their numbers: the chain with its registers, and what stands in it.
use Rattle.std.proofs.Common.{arith, ◌≡◌, ℕ, zero, suc, ◌+◌, ◌<◌, ◌≤◌, ◌==◌, ◌&&◌, ◌||◌, List, [], ◌∷◌, ◌++◌, length, map, take, filter, Bool, true, false, cond, refl, sym, ap, subst, ◌∙◌, slice_get, slice_index, Some, length-append, append_assoc, get_or, nat_eq, nat_lt, ◌-◌}
use Rattle.std.proofs.lemmas.Bool.Decides.{nat_tests}
use Rattle.std.proofs.lemmas.List.{take_more}
use Rattle.std.proofs.lemmas.Option.{slice_get-map, slice_get_within, get_or_from_slice_get}
use Rattle.std.specs.Option.{option_map}
use Rattle.std.specs.List.{flat_map, list_any}
use Rattle.bb_base.proofs.Lists.{get_front, get_back, get_map, map_join, map_twice, length_map}
use Rattle.bb_terms.specs.declared.plan.Cell.{Cell}
use Rattle.bb_terms.specs.Kinds.{is_cut}
use Rattle.bb_terms.specs.Plan.{RegisterValue, PlanValue, chain, IsCell}
use Rattle.bb_terms.specs.Lines.{cut_nets}
use Rattle.bb_terms.specs.Valid.{column_at}
use Rattle.bb_plan.proofs.FirstWrong.{item_at}
use Rattle.bb_plan.proofs.PlaceLemmas.{take_long}
use Rattle.bb_plan.specs.declared.chain.Link.{Link}
use Rattle.bb_plan.specs.Chain.{links_in, links_from, has_cut, column_of_cell, register_of_cell}

abbrev pub link : ℕ → Cell → Link
link r c = record { cell = c; register = r }

-- one more register
links_push : (r : ℕ) (registers : List RegisterValue) (g : RegisterValue) → links_from r (registers ++ g ∷ []) ≡ links_from r registers ++ links_in (r + length registers) g.cells
links_push r [] g =
    let e : r + 0 ≡ r = omega arith in
    nothing (links_in r g.cells) ∙ ap (λ k. links_in k g.cells) (sym e)
  where
    nothing : (xs : List Link) → xs ++ [] ≡ xs
    nothing [] = refl
    nothing (x ∷ xs) = ap (λ ys. x ∷ ys) (nothing xs)
links_push r (f ∷ registers) g =
    let e : suc r + length registers ≡ r + suc (length registers) = omega arith in
    ap (λ ls. links_in r f.cells ++ ls) (links_push (suc r) registers g) ∙ (sym (append_assoc (links_in r f.cells) (links_from (suc r) registers) (links_in (suc r + length registers) g.cells))
    ∙ ap (λ k. (links_in r f.cells ++ links_from (suc r) registers) ++ links_in k g.cells) e)

pub registers_more : (registers : List RegisterValue) (i : ℕ) (g : RegisterValue) (links new : List Link) (cells : List Cell) → i < length registers → g ≡ get_or registers i g
    → links ≡ links_from 0 (take i registers) → new ≡ links ++ links_in i cells → cells ≡ g.cells → new ≡ links_from 0 (take (i + 1) registers)
registers_more registers i g links new cells less is so_far more same =
    let list = take_more registers i g less ∙ ap (λ (x : RegisterValue). take i registers ++ x ∷ []) (sym is) in
    let place : 0 + length (take i registers) ≡ i = omega (arith, take_long i registers (omega (arith, less))) in
    more ∙ (ap (λ ls. ls ++ links_in i cells) so_far ∙ (ap (λ cs. links_from 0 (take i registers) ++ links_in i cs) same
    ∙ (ap (λ k. links_from 0 (take i registers) ++ links_in k g.cells) (sym place) ∙ (sym (links_push 0 (take i registers) g) ∙ ap (links_from 0) (sym list)))))

cells_in : (r : ℕ) (cells : List Cell) → map (λ (l : Link). l.cell) (links_in r cells) ≡ cells
cells_in r [] = refl
cells_in r (c ∷ cells) = ap (λ cs. c ∷ cs) (cells_in r cells)

-- its cells are those of the plan's chain
pub chain_cells : (r : ℕ) (registers : List RegisterValue) → map (λ (l : Link). l.cell) (links_from r registers) ≡ flat_map (λ (g : RegisterValue). g.cells) registers
chain_cells r [] = refl
chain_cells r (g ∷ registers) = map_join (λ (l : Link). l.cell) (links_in r g.cells) (links_from (suc r) registers) ∙ (ap (λ cs. cs ++ map (λ (l : Link). l.cell) (links_from (suc r) registers)) (cells_in r g.cells) ∙ ap (λ cs. g.cells ++ cs) (chain_cells (suc r) registers))

pub chain_long : (p : PlanValue) → length (links_from 0 p.registers) ≡ length (chain p)
chain_long p = sym (length_map (λ (l : Link). l.cell) (links_from 0 p.registers)) ∙ ap length (chain_cells 0 p.registers)

-- a cell stands in the chain at its number
pub at_chain : (p : PlanValue) (i : ℕ) (l : Link) → slice_get (links_from 0 p.registers) i ≡ Some l → slice_get (chain p) i ≡ Some l.cell
at_chain p i l at = ap (λ cs. slice_get cs i) (sym (chain_cells 0 p.registers)) ∙ (slice_get-map (λ (l : Link). l.cell) (links_from 0 p.registers) i ∙ ap (option_map (λ (l : Link). l.cell)) at)

-- with its register
pub at_link : (p : PlanValue) (i : ℕ) (c : Cell) → slice_get (chain p) i ≡ Some c → (l : Link) × (slice_get (links_from 0 p.registers) i ≡ Some l) × (l.cell ≡ c)
at_link p i c at = get_map (λ (l : Link). l.cell) (links_from 0 p.registers) i c (ap (λ cs. slice_get cs i) (chain_cells 0 p.registers) ∙ at)

-- the number of a cell's register is read off the chain
pub register_read : (links : List Link) (i : ℕ) (l : Link) → slice_get links i ≡ Some l → register_of_cell links i ≡ l.register
register_read links i l at = get_or_from_slice_get (map (λ (l : Link). l.register) links) i l.register 0 (slice_get-map (λ (l : Link). l.register) links i ∙ ap (option_map (λ (l : Link). l.register)) at)

pub columns_agree : (p : PlanValue) (i : ℕ) → column_of_cell (links_from 0 p.registers) i ≡ column_at p i
columns_agree p i = ap (λ cs. slice_index cs i) (sym (map_twice (λ (c : Cell). c.column) (λ (l : Link). l.cell) (links_from 0 p.registers)) ∙ ap (map (λ (c : Cell). c.column)) (chain_cells 0 p.registers))

-- Cut cells among links are those among their cells
nat_eq_flips : (x y : ℕ) → (x == y) ≡ nat_eq y x
nat_eq_flips x y = grind (arith, nat_tests)

cuts_in : (links : List Link) (net : ℕ) → has_cut links net ≡ list_any (nat_eq net) (map (λ (c : Cell). c.net) (filter (λ (c : Cell). is_cut c.kind) (map (λ (l : Link). l.cell) links)))
cuts_in [] net = refl
cuts_in (l ∷ links) net = by (is_cut l.cell.kind) (cuts_in links net)
  where
    rest : List Cell
    rest = filter (λ (c : Cell). is_cut c.kind) (map (λ (l : Link). l.cell) links)

    by : (b : Bool) → has_cut links net ≡ list_any (nat_eq net) (map (λ (c : Cell). c.net) (filter (λ (c : Cell). is_cut c.kind) (map (λ (l : Link). l.cell) links)))
        → ((b && (l.cell.net == net)) || has_cut links net)
        ≡ list_any (nat_eq net) (map (λ (c : Cell). c.net) (cond b (l.cell ∷ filter (λ (c : Cell). is_cut c.kind) (map (λ (l : Link). l.cell) links)) (filter (λ (c : Cell). is_cut c.kind) (map (λ (l : Link). l.cell) links))))
    by true e = (λ i. nat_eq_flips l.cell.net net i || e i)
    by false e = e

pub has_cut_is : (p : PlanValue) (net : ℕ) → has_cut (links_from 0 p.registers) net ≡ list_any (nat_eq net) (cut_nets p)
has_cut_is p net = cuts_in (links_from 0 p.registers) net ∙ ap (λ cs. list_any (nat_eq net) (map (λ (c : Cell). c.net) (filter (λ (c : Cell). is_cut c.kind) cs))) (chain_cells 0 p.registers)

-- the link of a cell in a register
links_at : (from : ℕ) (registers : List RegisterValue) (r place : ℕ) (g : RegisterValue) (c : Cell) → slice_get registers r ≡ Some g → slice_get g.cells place ≡ Some c
    → slice_get (links_from from registers) (length (flat_map (λ (g : RegisterValue). g.cells) (take r registers)) + place) ≡ Some (link (from + r) c)
links_at from [] r place g c stands at = absurd (cc stands)
links_at from (f ∷ registers) zero place g c stands at =
    let same : f ≡ g = cc stands in
    let there : slice_get f.cells place ≡ Some c = subst (λ (h : RegisterValue). slice_get h.cells place ≡ Some c) (sym same) at in
    let e : 0 + place ≡ place = omega arith in
    let n : from ≡ from + 0 = omega arith in
    ap (slice_get (links_in from f.cells ++ links_from (suc from) registers)) e
    ∙ (get_front (links_in from f.cells) (links_from (suc from) registers) place (let less = slice_get_within f.cells place c there in let long = length_map (link from) f.cells in omega (arith, less, long))
    ∙ (slice_get-map (link from) f.cells place ∙ (ap (option_map (link from)) there ∙ ap (λ k. Some (link k c)) n)))
links_at from (f ∷ registers) (suc r) place g c stands at =
    let long = length-append f.cells (flat_map (λ (g : RegisterValue). g.cells) (take r registers)) in
    let own = length_map (link from) f.cells in
    let e : length (f.cells ++ flat_map (λ (g : RegisterValue). g.cells) (take r registers)) + place ≡ length (links_in from f.cells) + (length (flat_map (λ (g : RegisterValue). g.cells) (take r registers)) + place) = omega (arith, long, own) in
    let n : suc from + r ≡ from + suc r = omega arith in
    ap (slice_get (links_in from f.cells ++ links_from (suc from) registers)) e
    ∙ (get_back (links_in from f.cells) (links_from (suc from) registers) (length (flat_map (λ (g : RegisterValue). g.cells) (take r registers)) + place)
    ∙ (links_at (suc from) registers r place g c stands at ∙ ap (λ k. Some (link k c)) n))

pub link_of_cell : (p : PlanValue) (i r : ℕ) (c : Cell) → IsCell p i r c → slice_get (links_from 0 p.registers) i ≡ Some (link r c)
link_of_cell p i r c h = ap (slice_get (links_from 0 p.registers)) h.number ∙ (links_at 0 p.registers r h.place h.register c h.stands h.at ∙ ap (λ k. Some (link k c)) (let e : 0 + r ≡ r = omega arith in e))

-- a link stands for a cell in its register
record IsLinked (from : ℕ) (registers : List RegisterValue) (i : ℕ) (l : Link) : Type 0 where
  r : ℕ
  number : l.register ≡ from + r
  register : RegisterValue
  stands : slice_get registers r ≡ Some register
  place : ℕ
  at : slice_get register.cells place ≡ Some l.cell
  is : i ≡ length (flat_map (λ (g : RegisterValue). g.cells) (take r registers)) + place

linked : (from : ℕ) (registers : List RegisterValue) (i : ℕ) (l : Link) → slice_get (links_from from registers) i ≡ Some l → IsLinked from registers i l
linked from [] i l at = absurd (cc at)
linked from (g ∷ registers) i l at = by (nat_lt i (length g.cells)) refl (linked (suc from) registers)
  where
    own : length (links_in from g.cells) ≡ length g.cells
    own = length_map (link from) g.cells

    by : (b : Bool) → nat_lt i (length g.cells) ≡ b → ((j : ℕ) (l : Link) → slice_get (links_from (suc from) registers) j ≡ Some l → IsLinked (suc from) registers j l) → IsLinked from (g ∷ registers) i l
    by true e rest =
        let front = get_front (links_in from g.cells) (links_from (suc from) registers) i (let long = own in grind (arith, nat_tests, e, long)) in
        let cell = get_map (link from) g.cells i l (sym front ∙ at) in
        record {
          r = 0;
          number = ap (λ (k : Link). k.register) (sym cell.2) ∙ (let n : from ≡ from + 0 = omega arith in n);
          register = g;
          stands = refl;
          place = i;
          at = cell.1 ∙ ap (λ (k : Link). Some k.cell) cell.2;
          is = omega arith;
        }
    by false e rest =
        let past : length g.cells ≤ i = grind (arith, nat_tests, e) in
        let j : i ≡ length (links_in from g.cells) + (i - length g.cells) = (let long = own in omega (arith, long, past)) in
        let there = sym (get_back (links_in from g.cells) (links_from (suc from) registers) (i - length g.cells)) ∙ (ap (slice_get (links_in from g.cells ++ links_from (suc from) registers)) (sym j) ∙ at) in
        let h = rest (i - length g.cells) l there in
        record {
          r = suc h.r;
          number = h.number ∙ (let n : suc from + h.r ≡ from + suc h.r = omega arith in n);
          register = h.register;
          stands = h.stands;
          place = h.place;
          at = h.at;
          is = (let long = length-append g.cells (flat_map (λ (g : RegisterValue). g.cells) (take h.r registers)) in let rest_is = h.is in omega (arith, long, past, rest_is));
        }

pub cell_of_link : (p : PlanValue) (i : ℕ) (l : Link) → slice_get (links_from 0 p.registers) i ≡ Some l → IsCell p i l.register l.cell
cell_of_link p i l at =
    let h = linked 0 p.registers i l at in
    let e : l.register ≡ h.r = (let n = h.number in omega (arith, n)) in
    record { register = h.register; stands = ap (slice_get p.registers) e ∙ h.stands; place = h.place; at = h.at; number = h.is ∙ ap (λ k. length (flat_map (λ (g : RegisterValue). g.cells) (take k p.registers)) + h.place) (sym e) }

-- the item that an index of an equal list gives
pub item_read : {X : Type 0} (xs items : List X) (n : ℕ) (x : X) → xs ≡ items → n < length xs → x ≡ get_or xs n x → slice_get items n ≡ Some x
item_read xs items n x same less is = ap (λ ys. slice_get ys n) (sym same) ∙ item_at xs n x less is
