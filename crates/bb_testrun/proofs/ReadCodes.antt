-- the reads in the run cycles
use Rattle.std.proofs.Common.{◌≡◌, ℕ, ◌+◌, ◌*◌, ◌<◌, ◌≤◌, suc, List, [], ◌∷◌, ◌++◌, length, map, Bool, true, false, not, ◌&&◌, ◌||◌, ◌==◌, if◌then◌else◌, refl, sym, ap, ◌∙◌, arith, eqb-true, Option, Some, None}
use Rattle.std.specs.List.{AllByRecursion, flat_map}
use Rattle.bb_base.specs.Net.{Netlist}
use Rattle.bb_base.specs.Run.{Meets}
use Rattle.bb_terms.specs.OnBits.{bits_after}
use Rattle.bb_terms.specs.Controller.{controller}
use Rattle.bb_terms.specs.Reads.{q_of, qs_from, q_by, read, read_behind}
use Rattle.bb_terms.specs.declared.wire.Wire.{Wire}
use Rattle.bb_terms.specs.declared.wire.Wire.TheVariants.{Test, NotTest, First, Kept, Read, Held}
use Rattle.bb_terms.specs.Kinds.{is_source, is_behind}
use Rattle.bb_terms.specs.Plan.{RegisterValue, PlanValue, chain, compacts}
use Rattle.bb_terms.specs.declared.plan.Cell.{Cell}
use Rattle.bb_terms.specs.declared.kind.Kind.{Kind}
use Rattle.bb_terms.specs.declared.kind.Kind.TheVariants.{Input, State, Split, Cut, Watch, Output}
use Rattle.bb_written.specs.Cells.{cell_rows, rows_of_cells}
use Rattle.bb_testrun.specs.Control.{ReturnsAfter}
use Rattle.bb_testrun.specs.Held.{signature_at, run_cycle_of, line_bits, held_by}
use Rattle.bb_base.specs.Parity.{code_of_bits}
use Rattle.bb_written.specs.Modes.{EachRegister, PartMeets}
use Rattle.bb_testrun.specs.Reading.{Generates, ReadsCodes}
use Rattle.bb_terms.specs.Lines.{source_in, or_later, source_from}
use Rattle.bb_written.specs.Trace.{IsTestTrace}
use Rattle.bb_base.proofs.Lists.{all_front, all_back}
use Rattle.bb_testrun.proofs.ControlLines.{lines}
use Rattle.bb_testrun.proofs.RegisterSteps.{each_both}
use Rattle.bb_written.proofs.CellLines.{reads_behind}
use Rattle.bb_testrun.proofs.LineLaws.{read_plain}
use Rattle.bb_testrun.proofs.Induction.{parts_at}
use Rattle.bb_testrun.proofs.RunLaws.{in_run}
use Rattle.bb_written.proofs.Parts.{rows_meet}

head_of : Bool → List Bool → Bool
head_of d [] = d
head_of d (x ∷ xs) = x

tail_of : List Bool → List Bool
tail_of [] = []
tail_of (x ∷ xs) = xs

first_eq : (x y : Bool) (xs ys : List Bool) → ◌≡◌ {A = List Bool} (x ∷ xs) (y ∷ ys) → x ≡ y
unfolding head_of
first_eq x y xs ys e = ap (head_of false) e

rest_eq : (x y : Bool) (xs ys : List Bool) → ◌≡◌ {A = List Bool} (x ∷ xs) (y ∷ ys) → xs ≡ ys
unfolding tail_of
rest_eq x y xs ys e = ap tail_of e

the_cell : Cell → Option Cell → Cell
the_cell d None = d
the_cell d (Some c) = c

some_eq : (c d : Cell) → ◌≡◌ {A = Option Cell} (Some c) (Some d) → c ≡ d
unfolding the_cell
some_eq c d e = ap (the_cell c) e

and_left : (a b : Bool) → (a && b) ≡ true → a ≡ true
and_left true b h = refl
and_left false b h = absurd cc

and_right : (a b : Bool) → (a && b) ≡ true → b ≡ true
and_right true b h = h
and_right false b h = absurd cc

-- the flip-flop of a source cell that nothing stands behind is the net itself
own_q : (k : Kind) (n i : ℕ) → is_source k ≡ true → is_behind k ≡ false → q_by k n i ≡ Kept n
own_q State n i h b = refl
own_q Split n i h b = refl
own_q Input n i h b = absurd cc
own_q Cut n i h b = absurd cc
own_q Watch n i h b = absurd cc
own_q Output n i h b = absurd cc

behind_q : (k : Kind) (n i : ℕ) → is_behind k ≡ true → q_by k n i ≡ Held i
behind_q Input n i h = refl
behind_q Cut n i h = refl
behind_q State n i h = absurd cc
behind_q Split n i h = absurd cc
behind_q Watch n i h = absurd cc
behind_q Output n i h = absurd cc

behind_source : (k : Kind) (b : Bool) → (is_source k && b) ≡ false → (is_behind k && b) ≡ false
behind_source Input b h = h
behind_source State b h = refl
behind_source Split b h = refl
behind_source Cut b h = h
behind_source Watch b h = refl
behind_source Output b h = refl

-- the bit of the found cell among cells with these bits
own_bit : (v : Wire → Bool) (key : Cell → Bool) (i : ℕ) (cs : List Cell) (n : ℕ) (c : Cell) → map v (qs_from i cs) ≡ map key cs → source_in cs n ≡ Some c → is_behind c.kind ≡ false → v (Kept n) ≡ key c
own_bit v key i [] n c h e b = absurd cc
own_bit v key i (d ∷ ds) n c h e b = by (is_source d.kind && (d.net == n)) refl e (λ k. own_bit v key (suc i) ds n c (rest_eq _ _ _ _ h) k b)
  where
    by : (t : Bool) → (is_source d.kind && (d.net == n)) ≡ t → (if t then Some d else source_in ds n) ≡ Some c → (source_in ds n ≡ Some c → v (Kept n) ≡ key c) → v (Kept n) ≡ key c
    by true t k more =
        let same : d ≡ c = some_eq d c k in
        let net : d.net ≡ n = eqb-true d.net n (and_right (is_source d.kind) (d.net == n) t) in
        let q : q_of i d ≡ Kept d.net = own_q d.kind d.net i (and_left (is_source d.kind) (d.net == n) t) (ap (λ x. is_behind x.kind) same ∙ b) in
        sym (ap (λ m. v (Kept m)) net) ∙ sym (ap v q) ∙ first_eq (v (q_of i d)) (key d) (map v (qs_from (suc i) ds)) (map key ds) h ∙ ap key same
    by false t k more = more k

through : (r t q nt n : Bool) → t ≡ true → nt ≡ false → r ≡ ((t && q) || (nt && n)) → r ≡ q
through r t q nt n h k e = grind arith

behind_bit : (a : Netlist ℕ) (p : PlanValue) (v : Wire → Bool) (key : Cell → Bool) (r i : ℕ) (before : Wire) (cs ds : List Cell) (n : ℕ) (c : Cell) → v Test ≡ true → v NotTest ≡ false
    → AllByRecursion (Meets v) (rows_of_cells a p r i before cs) → map v (qs_from i cs) ≡ map key cs → source_in cs n ≡ Some c → is_behind c.kind ≡ true → v (read_behind i (cs ++ ds) n) ≡ key c
behind_bit a p v key r i before [] ds n c test normal m h e b = absurd cc
behind_bit a p v key r i before (d ∷ cs) ds n c test normal m h e b =
    by (is_source d.kind && (d.net == n)) refl e
    (λ k. behind_bit a p v key r (suc i) (q_of i d) cs ds n c test normal (all_back (Meets v) (cell_rows a p r i before d) (rows_of_cells a p r (suc i) (q_of i d) cs) m) (rest_eq _ _ _ _ h) k b)
  where
    by : (t : Bool) → (is_source d.kind && (d.net == n)) ≡ t → (if t then Some d else source_in cs n) ≡ Some c → (source_in cs n ≡ Some c → v (read_behind (suc i) (cs ++ ds) n) ≡ key c)
        → v (if is_behind d.kind && (d.net == n) then Read i else read_behind (suc i) (cs ++ ds) n) ≡ key c
    by true t k more =
        let same : d ≡ c = some_eq d c k in
        let is : is_behind d.kind ≡ true = ap (λ x. is_behind x.kind) same ∙ b in
        let first : (is_behind d.kind && (d.net == n)) ≡ true = (λ j. is j && and_right (is_source d.kind) (d.net == n) t j) in
        let q : q_of i d ≡ Held i = behind_q d.kind d.net i is in
        ap (λ b. v (if b then Read i else read_behind (suc i) (cs ++ ds) n)) first
        ∙ through (v (Read i)) (v Test) (v (Held i)) (v NotTest) (v (Kept d.net)) test normal
        (reads_behind a p v r i before d.kind d.net d.column (all_front (Meets v) (cell_rows a p r i before d) (rows_of_cells a p r (suc i) (q_of i d) cs) m) is)
        ∙ sym (ap v q) ∙ first_eq (v (q_of i d)) (key d) (map v (qs_from (suc i) cs)) (map key cs) h ∙ ap key same
    by false t k more = ap (λ b. v (if b then Read i else read_behind (suc i) (cs ++ ds) n)) (behind_source d.kind (d.net == n) t) ∙ more k

-- cells without the net
passed : (i : ℕ) (cs ds : List Cell) (n : ℕ) → source_in cs n ≡ None → read_behind i (cs ++ ds) n ≡ read_behind (i + length cs) ds n
passed i [] ds n e = let z : i ≡ i + 0 = omega arith in ap (λ k. read_behind k ds n) z
passed i (d ∷ cs) ds n e = by (is_source d.kind && (d.net == n)) refl e (λ k. passed (suc i) cs ds n k)
  where
    by : (t : Bool) → (is_source d.kind && (d.net == n)) ≡ t → (if t then Some d else source_in cs n) ≡ None → (source_in cs n ≡ None → read_behind (suc i) (cs ++ ds) n ≡ read_behind (suc i + length cs) ds n)
        → (if is_behind d.kind && (d.net == n) then Read i else read_behind (suc i) (cs ++ ds) n) ≡ read_behind (i + suc (length cs)) ds n
    by true t k more = absurd cc
    by false t k more =
        let z : suc i + length cs ≡ i + suc (length cs) = omega arith in
        ap (λ b. if b then Read i else read_behind (suc i) (cs ++ ds) n) (behind_source d.kind (d.net == n) t) ∙ more k ∙ ap (λ k. read_behind k ds n) z

-- a register that generates by key
abbrev Keyed : Netlist ℕ → PlanValue → (Wire → Bool) → (Cell → Bool) → ℕ → ℕ → ℕ → Option Wire → RegisterValue → Type 0
Keyed a p v key s r i before g = AllByRecursion (Meets v) (rows_of_cells a p r i (First r) g.cells) × (compacts p.sessions r s ≡ false → map v (qs_from i g.cells) ≡ map key g.cells)

the_pair : ℕ × Cell → Option (ℕ × Cell) → ℕ × Cell
the_pair d None = d
the_pair d (Some q) = q

pair_eq : (r x : ℕ) (c d : Cell) → ◌≡◌ {A = Option (ℕ × Cell)} (Some (r, c)) (Some (x, d)) → (r ≡ x) × (c ≡ d)
unfolding the_pair
pair_eq r x c d e = let f : ◌≡◌ {A = ℕ × Cell} (r, c) (x, d) = ap (the_pair (r, c)) e in (ap (λ q. q.0) f, ap (λ q. q.1) f)

own_from : (a : Netlist ℕ) (p : PlanValue) (v : Wire → Bool) (key : Cell → Bool) (s r i : ℕ) (before : Option Wire) (gs : List RegisterValue) (n x : ℕ) (c : Cell) → EachRegister (Keyed a p v key s) r i before gs
    → source_from r gs n ≡ Some (x, c) → compacts p.sessions x s ≡ false → is_behind c.kind ≡ false → v (Kept n) ≡ key c
own_from a p v key s r i before [] n x c h e k b = absurd cc
own_from a p v key s r i before (g ∷ gs) n x c h e k b = by (source_in g.cells n) refl e (λ m. own_from a p v key s (suc r) (i + length g.cells) _ gs n x c h.1 m k b)
  where
    by : (o : Option Cell) → source_in g.cells n ≡ o → or_later o r (source_from (suc r) gs n) ≡ Some (x, c) → (source_from (suc r) gs n ≡ Some (x, c) → v (Kept n) ≡ key c) → v (Kept n) ≡ key c
    by (Some d) o m more =
        let same = pair_eq r x d c m in
        own_bit v key i g.cells n d (h.0.1 (ap (λ y. compacts p.sessions y s) same.0 ∙ k)) o (ap (λ y. is_behind y.kind) same.1 ∙ b) ∙ ap key same.1
    by None o m more = more m

behind_from : (a : Netlist ℕ) (p : PlanValue) (v : Wire → Bool) (key : Cell → Bool) (s r i : ℕ) (before : Option Wire) (gs : List RegisterValue) (n x : ℕ) (c : Cell) → v Test ≡ true → v NotTest ≡ false
    → EachRegister (Keyed a p v key s) r i before gs → source_from r gs n ≡ Some (x, c) → compacts p.sessions x s ≡ false → is_behind c.kind ≡ true
    → v (read_behind i (flat_map (λ g. g.cells) gs) n) ≡ key c
behind_from a p v key s r i before [] n x c test normal h e k b = absurd cc
behind_from a p v key s r i before (g ∷ gs) n x c test normal h e k b =
    by (source_in g.cells n) refl e (λ m. behind_from a p v key s (suc r) (i + length g.cells) _ gs n x c test normal h.1 m k b)
  where
    by : (o : Option Cell) → source_in g.cells n ≡ o → or_later o r (source_from (suc r) gs n) ≡ Some (x, c)
        → (source_from (suc r) gs n ≡ Some (x, c) → v (read_behind (i + length g.cells) (flat_map (λ g. g.cells) gs) n) ≡ key c) → v (read_behind i (g.cells ++ flat_map (λ g. g.cells) gs) n) ≡ key c
    by (Some d) o m more =
        let same = pair_eq r x d c m in
        behind_bit a p v key r i (First r) g.cells (flat_map (λ g. g.cells) gs) n d test normal h.0.0 (h.0.1 (ap (λ y. compacts p.sessions y s) same.0 ∙ k)) o (ap (λ y. is_behind y.kind) same.1 ∙ b) ∙ ap key same.1
    by None o m more = ap v (passed i g.cells (flat_map (λ g. g.cells) gs) n o) ∙ more m

is_source_in : (cs : List Cell) (n : ℕ) (c : Cell) → source_in cs n ≡ Some c → is_source c.kind ≡ true
is_source_in [] n c e = absurd cc
is_source_in (d ∷ ds) n c e = by (is_source d.kind && (d.net == n)) refl e (λ k. is_source_in ds n c k)
  where
    by : (t : Bool) → (is_source d.kind && (d.net == n)) ≡ t → (if t then Some d else source_in ds n) ≡ Some c → (source_in ds n ≡ Some c → is_source c.kind ≡ true) → is_source c.kind ≡ true
    by true t k more = ap (λ x. is_source x.kind) (sym (some_eq d c k)) ∙ and_left (is_source d.kind) (d.net == n) t
    by false t k more = more k

is_source_from : (r : ℕ) (gs : List RegisterValue) (n x : ℕ) (c : Cell) → source_from r gs n ≡ Some (x, c) → is_source c.kind ≡ true
is_source_from r [] n x c e = absurd cc
is_source_from r (g ∷ gs) n x c e = by (source_in g.cells n) refl e (λ m. is_source_from (suc r) gs n x c m)
  where
    by : (o : Option Cell) → source_in g.cells n ≡ o → or_later o r (source_from (suc r) gs n) ≡ Some (x, c) → (source_from (suc r) gs n ≡ Some (x, c) → is_source c.kind ≡ true) → is_source c.kind ≡ true
    by (Some d) o m more = ap (λ y. is_source y.kind) (sym (pair_eq r x d c m).1) ∙ is_source_in g.cells n d o
    by None o m more = more m

abbrev run_key : PlanValue → ℕ → Cell → Bool
run_key p t c = is_source c.kind && code_of_bits c.column (bits_after p.degree p.mask t)

keyed : (a : Netlist ℕ) (p : PlanValue) (size n : ℕ) (v : ℕ → Wire → Bool) → IsTestTrace a p n v → ReturnsAfter p.degree p.mask size → length (chain p) ≤ size → (s t : ℕ) → s < length p.sessions → t < size → run_cycle_of size s t < n
    → EachRegister (Keyed a p (v (run_cycle_of size s t)) (run_key p t) s) 0 0 None p.registers
keyed a p size n v h cycle fits s t more lo lt =
    each_both (PartMeets a p (v (run_cycle_of size s t))) (λ r i before g. map (v (run_cycle_of size s t)) (qs_from i g.cells) ≡ held_by a p size v s t r g) (Keyed a p (v (run_cycle_of size s t)) (run_key p t) s)
    (λ r i before g m e. (m.cells, λ k. e ∙ ap (λ b. if b then signature_at (length g.cells) g.mask (line_bits a p size v s g.cells) t else map (run_key p t) g.cells) k))
    0 0 None p.registers (parts_at a p n v h (run_cycle_of size s t) lt) (in_run a p size n v h cycle fits s t more (omega arith) lt)

pub read_code : (a : Netlist ℕ) (p : PlanValue) (size n : ℕ) (v : ℕ → Wire → Bool) → IsTestTrace a p n v → ReturnsAfter p.degree p.mask size → length (chain p) ≤ size → (s t : ℕ) → s < length p.sessions → t < size → run_cycle_of size s t < n
    → (l column : ℕ) → Generates p s l column → v (run_cycle_of size s t) (read p l) ≡ code_of_bits column (bits_after p.degree p.mask t)
read_code a p size n v h cycle fits s t more lo lt l column g = by (is_behind g.cell.kind) refl ∙ key
  where
    key : run_key p t g.cell ≡ code_of_bits column (bits_after p.degree p.mask t)
    key = (λ j. is_source_from 0 p.registers l g.register g.cell g.is j && code_of_bits (g.coded j) (bits_after p.degree p.mask t))

    by : (b : Bool) → is_behind g.cell.kind ≡ b → v (run_cycle_of size s t) (read p l) ≡ run_key p t g.cell
    by true b =
        behind_from a p (v (run_cycle_of size s t)) (run_key p t) s 0 0 None p.registers l g.register g.cell (h.later (2 * s * size + t) lt).0
        ((lines p (v (run_cycle_of size s t)) (all_front (Meets (v (run_cycle_of size s t))) (controller p) _ (rows_meet a p n v h (run_cycle_of size s t) lt))).normal ∙ ap not (h.later (2 * s * size + t) lt).0)
        (keyed a p size n v h cycle fits s t more lo lt) g.is g.apart b
    by false b =
        ap (v (run_cycle_of size s t)) (read_plain 0 (chain p) l (g.own b))
        ∙ own_from a p (v (run_cycle_of size s t)) (run_key p t) s 0 0 None p.registers l g.register g.cell (keyed a p size n v h cycle fits s t more lo lt) g.is g.apart b

pub reads_codes : (a : Netlist ℕ) (p : PlanValue) (size : ℕ) → ReturnsAfter p.degree p.mask size → length (chain p) ≤ size → ReadsCodes a p size
reads_codes a p size cycle fits s t [] [] more lo g n v h lt = refl
reads_codes a p size cycle fits s t [] (c ∷ cs) more lo g n v h lt = absurd g
reads_codes a p size cycle fits s t (l ∷ ls) [] more lo g n v h lt = absurd g
reads_codes a p size cycle fits s t (l ∷ ls) (c ∷ cs) more lo g n v h lt =
    let here = read_code a p size n v h cycle fits s t more lo lt l c g.0 in
    let rest = reads_codes a p size cycle fits s t ls cs more lo g.1 n v h lt in
    λ j. here j ∷ rest j
