-- from the gates of a register and its cells to what it takes
use Rattle.std.proofs.Common.{◌≡◌, ℕ, ◌+◌, ◌/◌, ◌%◌, suc, List, [], ◌∷◌, length, map, Bool, true, false, not, ◌&&◌, ◌||◌, ◌==◌, if◌then◌else◌, refl, ap, ◌∙◌, arith, Option, Some, None}
use Rattle.std.specs.List.{AllByRecursion}
use Rattle.bb_base.specs.Net.{Flop, Netlist}
use Rattle.bb_terms.specs.OnBits.{last_of}
use Rattle.bb_base.specs.Run.{Meets}
use Rattle.bb_terms.specs.Controller.{word_ahead}
use Rattle.bb_terms.specs.Reads.{q_of, qs_from}
use Rattle.bb_terms.specs.Registers.{rows_of_register, registers_from, pass_row, carry_row}
use Rattle.bb_terms.specs.declared.wire.Wire.{Wire}
use Rattle.bb_terms.specs.declared.wire.Wire.TheVariants.{Kept, Test, NotTest, On, Compacts, Off, Signed, Running, Shifting, Ring, First, Latches, Takes, Codes, Code, Coded, Line, Chain, Next, Read, Held, Carried}
use Rattle.bb_base.specs.Bits.{picked}
use Rattle.bb_base.specs.Booleans.{xor, parity_of_bits, some_true}
use Rattle.bb_terms.specs.Kinds.{is_source, has_line, is_behind}
use Rattle.bb_terms.specs.Plan.{RegisterValue, PlanValue, sessions_of}
use Rattle.bb_terms.specs.declared.plan.Cell.{Cell}
use Rattle.bb_terms.specs.declared.kind.Kind.{Kind}
use Rattle.bb_terms.specs.declared.kind.Kind.TheVariants.{Input, State, Split, Cut, Watch, Output}
use Rattle.bb_written.specs.Cells.{xor_row, cell_rows, rows_of_cells, all_cells_from, cell_flops}
use Rattle.bb_written.specs.Modes.{taken, z_bit, g_bit, bit_or_zero, EachRegister, PartMeets, Modes}
use Rattle.bb_base.proofs.Lists.{all_front, all_back}

pub chosen_map : {Word Y : Type 0} (f : Word → Y) (m : ℕ) (xs : List Word) → map f (picked m xs) ≡ picked m (map f xs)
chosen_map f m [] = refl
chosen_map {Word} {Y} f m (x ∷ xs) = go (m % 2 == 1) (chosen_map f (m / 2) xs)
  where
    go : (b : Bool) → map f (picked (m / 2) xs) ≡ picked (m / 2) (map f xs)
        → map f (if b then x ∷ picked (m / 2) xs else picked (m / 2) xs) ≡ (if b then f x ∷ picked (m / 2) (map f xs) else picked (m / 2) (map f xs))
    go true e = ap (λ ys. f x ∷ ys) e
    go false e = e

pub xor_gate_meets : (v : Wire → Bool) (out : Wire) (ws : List Wire) → Meets v (xor_row out ws) → v out ≡ parity_of_bits (map v ws)
xor_gate_meets v out [] h = h
xor_gate_meets v out (w ∷ ws) h = h

and_true : (b c : Bool) → (b && (c && true)) ≡ (b && c)
and_true true true = refl
and_true true false = refl
and_true false c = refl

or_false : (b : Bool) → (b || false) ≡ b
or_false true = refl
or_false false = refl

xor_false : (b : Bool) → xor b false ≡ b
xor_false true = refl
xor_false false = refl

-- a term of the sum
term : (v : Wire → Bool) (out : Wire) (x y : Bool) → v out ≡ (x && (y && true)) → v out ≡ (x && y)
term v out x y h = h ∙ and_true x y

coded : (p : PlanValue) (v : Wire → Bool) (r i column : ℕ) → Meets v (xor_row (Code i) (picked column (word_ahead p))) → v (Coded i) ≡ (v (Codes r) && (v (Code i) && true))
    → v (Coded i) ≡ (v (Codes r) && parity_of_bits (picked column (map v (word_ahead p))))
coded p v r i column m h = term v (Coded i) (v (Codes r)) (v (Code i)) h ∙ ap (λ b. v (Codes r) && b) (xor_gate_meets v (Code i) (picked column (word_ahead p)) m ∙ ap parity_of_bits (chosen_map v column (word_ahead p)))

two : (d z n bz bn : Bool) → z ≡ bz → n ≡ bn → d ≡ xor z (xor n false) → d ≡ xor bz (xor bn false)
two d z n bz bn e f h = h ∙ (λ j. xor (e j) (xor (f j) false))

three : (d z n g bz bn bg : Bool) → z ≡ bz → n ≡ bn → g ≡ bg → d ≡ xor z (xor n (xor g false)) → d ≡ xor bz (xor bn bg)
three d z n g bz bn bg e f k h = h ∙ (λ j. xor (e j) (xor (f j) ((xor_false g ∙ k) j)))

one : (d n g bn bg : Bool) → n ≡ bn → g ≡ bg → d ≡ xor n (xor g false) → d ≡ xor bn bg
one d n g bn bg f k h = h ∙ (λ j. xor (f j) ((xor_false g ∙ k) j))

joined : (rt rn r t q nt n : Bool) → rt ≡ (t && (q && true)) → rn ≡ (nt && (n && true)) → r ≡ (rt || (rn || false)) → r ≡ ((t && q) || (nt && n))
joined rt rn r t q nt n e f h = h ∙ (λ j. (e ∙ and_true t q) j || (or_false rn ∙ (f ∙ and_true nt n)) j)

-- what a cell takes
pub cell_takes : (a : Netlist ℕ) (p : PlanValue) (v : Wire → Bool) (r i : ℕ) (before : Wire) (k : Kind) (net column : ℕ)
    → AllByRecursion (Meets v) (cell_rows a p r i before (record { kind = k; net = net; column = column }))
    → v (Next i) ≡ xor (has_line k && (v (Latches r) && z_bit a p v (record { kind = k; net = net; column = column })))
    (xor (v (Takes r) && v before) (is_source k && (v (Codes r) && g_bit p v (record { kind = k; net = net; column = column }))))
cell_takes a p v r i before Input net column h =
    one (v (Next i)) (v (Chain i)) (v (Coded i)) _ _ (term v (Chain i) (v (Takes r)) (v before) h.0) (coded p v r i column h.1.0 h.1.1.0) h.1.1.1.0
cell_takes a p v r i before State net column h =
    three (v (Next i)) (v (Line i)) (v (Chain i)) (v (Coded i)) _ _ _ (term v (Line i) (v (Latches r)) _ h.0) (term v (Chain i) (v (Takes r)) (v before) h.1.0) (coded p v r i column h.1.1.0 h.1.1.1.0) h.1.1.1.1.0
cell_takes a p v r i before Split net column h =
    three (v (Next i)) (v (Line i)) (v (Chain i)) (v (Coded i)) _ _ _ (term v (Line i) (v (Latches r)) _ h.0) (term v (Chain i) (v (Takes r)) (v before) h.1.0) (coded p v r i column h.1.1.0 h.1.1.1.0) h.1.1.1.1.0
cell_takes a p v r i before Cut net column h =
    three (v (Next i)) (v (Line i)) (v (Chain i)) (v (Coded i)) _ _ _ (term v (Line i) (v (Latches r)) _ h.0) (term v (Chain i) (v (Takes r)) (v before) h.1.0) (coded p v r i column h.1.1.0 h.1.1.1.0) h.1.1.1.1.0
cell_takes a p v r i before Watch net column h =
    two (v (Next i)) (v (Line i)) (v (Chain i)) _ _ (term v (Line i) (v (Latches r)) _ h.0) (term v (Chain i) (v (Takes r)) (v before) h.1.0) h.1.1.0
cell_takes a p v r i before Output net column h =
    two (v (Next i)) (v (Line i)) (v (Chain i)) _ _ (term v (Line i) (v (Latches r)) _ h.0) (term v (Chain i) (v (Takes r)) (v before) h.1.0) h.1.1.0

-- what the cells of a register take
pub cells_take : (a : Netlist ℕ) (p : PlanValue) (v : Wire → Bool) (r i : ℕ) (before : Wire) (cs : List Cell) → AllByRecursion (Meets v) (rows_of_cells a p r i before cs)
    → map (λ (f : Flop Wire). v f.d) (cell_flops i cs) ≡ taken (z_bit a p v) (g_bit p v) (v (Latches r)) (v (Takes r)) (v (Codes r)) (v before) cs (map v (qs_from i cs))
cells_take a p v r i before [] h = refl
cells_take a p v r i before (c ∷ cs) h =
    let here = cell_takes a p v r i before c.kind c.net c.column (all_front (Meets v) (cell_rows a p r i before c) (rows_of_cells a p r (suc i) (q_of i c) cs) h) in
    let rest = cells_take a p v r (suc i) (q_of i c) cs (all_back (Meets v) (cell_rows a p r i before c) (rows_of_cells a p r (suc i) (q_of i c) cs) h) in
    λ j. here j ∷ rest j

-- the read behind an input's or a cut's cell
pub reads_behind : (a : Netlist ℕ) (p : PlanValue) (v : Wire → Bool) (r i : ℕ) (before : Wire) (k : Kind) (net column : ℕ)
    → AllByRecursion (Meets v) (cell_rows a p r i before (record { kind = k; net = net; column = column })) → is_behind k ≡ true
    → v (Read i) ≡ ((v Test && v (Held i)) || (v NotTest && v (Kept net)))
reads_behind a p v r i before Input net column h e = joined _ _ _ _ _ _ _ h.1.1.1.1.0 h.1.1.1.1.1.0 h.1.1.1.1.1.1.0
reads_behind a p v r i before Cut net column h e = joined _ _ _ _ _ _ _ h.1.1.1.1.1.0 h.1.1.1.1.1.1.0 h.1.1.1.1.1.1.1.0
reads_behind a p v r i before State net column h e = absurd cc
reads_behind a p v r i before Split net column h e = absurd cc
reads_behind a p v r i before Watch net column h e = absurd cc
reads_behind a p v r i before Output net column h e = absurd cc

pass_meets : (v : Wire → Bool) (r : ℕ) (before : Option Wire) → Meets v (pass_row r before) → v (First r) ≡ bit_or_zero v before
pass_meets v r None h = h
pass_meets v r (Some q) h = h

carry_meets : (v : Wire → Bool) (r : ℕ) (before : Option Wire) → Meets v (carry_row r before) → v (Carried r) ≡ (v Shifting && bit_or_zero v before)
carry_meets v r None h = h ∙ no (v Shifting)
  where
    no : (b : Bool) → false ≡ (b && false)
    no true = refl
    no false = refl
carry_meets v r (Some q) h = term v (Carried r) (v Shifting) (v q) h

latch_off : (b nt run : Bool) → b ≡ nt → b ≡ (nt || (run && false))
latch_off b nt run h = grind arith

next_off : (n run sh : Bool) → n ≡ sh → n ≡ ((run && false) || sh)
next_off n run sh h = grind arith

code_off : (e run : Bool) → e ≡ run → e ≡ (run && true)
code_off e run h = grind arith

first_off : (n p run sh before fb : Bool) → n ≡ sh → p ≡ before → (n && p) ≡ ((run && (false && fb)) || (sh && before))
first_off n p run sh before fb h k = grind arith

latch_on : (b nt comp run on : Bool) → comp ≡ (run && (on && true)) → b ≡ (nt || (comp || false)) → b ≡ (nt || (run && on))
latch_on b nt comp run on h k = grind arith

next_on : (n comp sh run on : Bool) → comp ≡ (run && (on && true)) → n ≡ (comp || (sh || false)) → n ≡ ((run && on) || sh)
next_on n comp sh run on h k = grind arith

code_on : (e off run on : Bool) → off ≡ not on → e ≡ (run && (off && true)) → e ≡ (run && not on)
code_on e off run on h k = grind arith

first_on : (n p pf pc comp sh run on fb before : Bool) → comp ≡ (run && (on && true)) → n ≡ (comp || (sh || false)) → pf ≡ (comp && (fb && true)) → pc ≡ (sh && before)
    → p ≡ (pf || (pc || false)) → (run && sh) ≡ false → (n && p) ≡ ((run && (on && fb)) || (sh && before))
first_on n p pf pc comp sh run on fb before h1 h2 h3 h4 h5 h6 = grind arith

-- the mode lines of a register
pub modes : (v : Wire → Bool) (r : ℕ) (ss : List ℕ) (before : Option Wire) (mask : ℕ) (qs : List Wire) → AllByRecursion (Meets v) (rows_of_register r ss before mask qs)
    → Modes v r (some_true (map v (map Ring ss))) (bit_or_zero v before) (parity_of_bits (picked mask (map v qs)))
modes v r [] before mask qs h =
    record {
      latch = latch_off (v (Latches r)) (v NotTest) (v Running) h.0;
      takes = next_off (v (Takes r)) (v Running) (v Shifting) h.1.0;
      codes = code_off (v (Codes r)) (v Running) h.1.1.0;
      first = λ e. first_off (v (Takes r)) (v (First r)) (v Running) (v Shifting) (bit_or_zero v before) (parity_of_bits (picked mask (map v qs))) h.1.0 (pass_meets v r before h.1.1.1.0);
    }
modes v r (s ∷ ss) before mask qs h =
    let on : v (On r) ≡ some_true (map v (map Ring (s ∷ ss))) = h.0 in
    let comp : v (Compacts r) ≡ (v Running && (some_true (map v (map Ring (s ∷ ss))) && true)) = h.1.0 ∙ (λ j. v Running && (on j && true)) in
    let fb : v (Signed r) ≡ (v (Compacts r) && (parity_of_bits (picked mask (map v qs)) && true)) = h.1.1.1.1.1.1.1.0 ∙ (λ j. v (Compacts r) && ((h.1.1.1.1.1.1.0 ∙ ap parity_of_bits (chosen_map v mask qs)) j && true)) in
    record {
      latch = latch_on (v (Latches r)) (v NotTest) (v (Compacts r)) (v Running) _ comp h.1.1.0;
      takes = next_on (v (Takes r)) (v (Compacts r)) (v Shifting) (v Running) _ comp h.1.1.1.0;
      codes = code_on (v (Codes r)) (v (Off r)) (v Running) _ (h.1.1.1.1.0 ∙ ap not on) h.1.1.1.1.1.0;
      first = λ e. first_on (v (Takes r)) (v (First r)) (v (Signed r)) (v (Carried r)) (v (Compacts r)) (v Shifting) (v Running) _ _ (bit_or_zero v before) comp h.1.1.1.0 fb
          (carry_meets v r before h.1.1.1.1.1.1.1.1.0) h.1.1.1.1.1.1.1.1.1.0 e;
    }

-- the part of the table of each register
pub parts : (a : Netlist ℕ) (p : PlanValue) (v : Wire → Bool) (r i : ℕ) (before : Option Wire) (gs : List RegisterValue)
    → AllByRecursion (Meets v) (registers_from p r i before gs) → AllByRecursion (Meets v) (all_cells_from a p r i gs) → EachRegister (PartMeets a p v) r i before gs
parts a p v r i before [] h k = tt
parts a p v r i before (g ∷ gs) h k =
    let one = rows_of_register r (sessions_of p r) before g.mask (qs_from i g.cells) in
    let more = registers_from p (suc r) (i + length g.cells) (last_of before (map Some (qs_from i g.cells))) gs in
    let mine = rows_of_cells a p r i (First r) g.cells in
    let others = all_cells_from a p (suc r) (i + length g.cells) gs in (
      record { lines = all_front (Meets v) one more h; cells = all_front (Meets v) mine others k },
      parts a p v (suc r) (i + length g.cells) _ gs (all_back (Meets v) one more h) (all_back (Meets v) mine others k),
    )
