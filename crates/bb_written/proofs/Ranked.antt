-- the written netlist has no loop
use Rattle.std.proofs.Common.{◌≡◌, ℕ, ◌+◌, ◌*◌, ◌<◌, ◌≤◌, ◌/◌, ◌%◌, zero, suc, List, [], ◌∷◌, ◌++◌, length, map, Bool, true, false, ◌&&◌, ◌==◌, if◌then◌else◌, refl, sym, ap, subst, ◌∙◌, arith, Option, Some, None, eqb-true, length-append}
use Rattle.std.specs.List.{AllByRecursion, flat_map}
use Rattle.bb_base.specs.Net.{Netlist}
use Rattle.bb_terms.specs.OnBits.{last_of}
use Rattle.bb_terms.specs.OnBits.{shifted, front}
use Rattle.bb_terms.specs.Controller.{register_word, word_from, word_ahead, low_row, out_row, word_rows, ring_rows, ring_rows_from, controller, last_q}
use Rattle.bb_terms.specs.Reads.{line, q_of, q_by, qs_from, read, read_behind}
use Rattle.bb_terms.specs.Registers.{pass_row, carry_row, rows_of_register, registers_from}
use Rattle.bb_terms.specs.declared.wire.Wire.{Wire}
use Rattle.bb_terms.specs.declared.wire.Wire.TheVariants.{Test, Feed, Ring, Code, First, Read}
use Rattle.bb_base.specs.Bits.{picked}
use Rattle.bb_terms.specs.Kinds.{is_behind}
use Rattle.bb_terms.specs.Lines.{d_of}
use Rattle.bb_terms.specs.Plan.{RegisterValue, PlanValue, chain, sessions_of}
use Rattle.bb_terms.specs.declared.plan.Cell.{Cell}
use Rattle.bb_terms.specs.declared.kind.Kind.{Kind}
use Rattle.bb_terms.specs.declared.kind.Kind.TheVariants.{Input, State, Split, Cut, Watch, Output}
use Rattle.bb_written.specs.Cells.{xor_row, cell_rows, rows_of_cells, all_cells_from}
use Rattle.bb_written.specs.Falling.{Falls, nth, line_net, wire_rank, IsSettledFirst, HasNoLoop}
use Rattle.bb_written.specs.Written.{test_gates, written_gate}
use Rattle.bb_written.proofs.Parts.{from_parts}
use Rattle.bb_base.proofs.Lists.{all_front, all_back, all_join, all_map_back}

abbrev Below : (Wire → ℕ) → ℕ → Wire → Type 0
Below rank n w = rank w < n

chosen_all : {T : Type 0} (F : T → Type 0) (m : ℕ) (xs : List T) → AllByRecursion F xs → AllByRecursion F (picked m xs)
chosen_all F m [] h = tt
chosen_all {T} F m (x ∷ xs) h = go (m % 2 == 1) (chosen_all F (m / 2) xs h.1)
  where
    go : (b : Bool) → AllByRecursion F (picked (m / 2) xs) → AllByRecursion F (if b then x ∷ picked (m / 2) xs else picked (m / 2) xs)
    go true k = (h.0, k)
    go false k = k

shifted_all : {T : Type 0} (F : T → Type 0) (x : T) (xs : List T) → F x → AllByRecursion F xs → AllByRecursion F (shifted x xs)
shifted_all F x [] e h = tt
shifted_all F x (y ∷ ys) e h = (e, shifted_all F y ys h.0 h.1)

front_all : {T : Type 0} (F : T → Type 0) (xs : List T) → AllByRecursion F xs → AllByRecursion F (front xs)
front_all F [] h = tt
front_all F (x ∷ xs) h = shifted_all F x xs h.0 h.1

last_all : {T : Type 0} (F : T → Type 0) (x : T) (xs : List T) → F x → AllByRecursion F xs → F (last_of x xs)
last_all F x [] e h = e
last_all F x (y ∷ ys) e h = last_all F y ys h.0 h.1

-- a net with rank 0
abbrev Zero : (Wire → ℕ) → Wire → Type 0
Zero rank w = rank w ≡ 0

below_all : (rank : Wire → ℕ) (n : ℕ) → 0 < n → (ws : List Wire) → AllByRecursion (Zero rank) ws → AllByRecursion (Below rank n) ws
below_all rank n some [] h = tt
below_all rank n some (w ∷ ws) h = (subst (λ k. k < n) (sym h.0) some, below_all rank n some ws h.1)

word_zero : (a : Netlist ℕ) (p : PlanValue) (rank : ℕ → ℕ) (i k : ℕ) → AllByRecursion (Zero (wire_rank a p rank)) (word_from i k)
word_zero a p rank i zero = tt
word_zero a p rank i (suc k) = (refl, word_zero a p rank (suc i) k)

three_below : (n : ℕ) → n ≤ 2 → n < 3
three_below n h = omega arith

-- a q has rank 0
q_zero : (a : Netlist ℕ) (p : PlanValue) (rank : ℕ → ℕ) (i : ℕ) (k : Kind) (net column : ℕ) → IsSettledFirst rank (record { kind = k; net = net; column = column }) → wire_rank a p rank (q_by k net i) ≡ 0
q_zero a p rank i State net column h = let e = h refl in omega (arith, e)
q_zero a p rank i Split net column h = let e = h refl in omega (arith, e)
q_zero a p rank i Input net column h = refl
q_zero a p rank i Cut net column h = refl
q_zero a p rank i Watch net column h = refl
q_zero a p rank i Output net column h = refl

qs_zero : (a : Netlist ℕ) (p : PlanValue) (rank : ℕ → ℕ) (i : ℕ) (cs : List Cell) → AllByRecursion (IsSettledFirst rank) cs → AllByRecursion (Zero (wire_rank a p rank)) (qs_from i cs)
qs_zero a p rank i [] h = tt
qs_zero a p rank i (c ∷ cs) h = (q_zero a p rank i c.kind c.net c.column h.0, qs_zero a p rank (suc i) cs h.1)

word_falls : (a : Netlist ℕ) (p : PlanValue) (rank : ℕ → ℕ) (i : ℕ) (ws : List Wire) → AllByRecursion (Below (wire_rank a p rank) 3) ws → AllByRecursion (Falls (wire_rank a p rank)) (word_rows i ws)
word_falls a p rank i [] h = tt
word_falls a p rank i (w ∷ ws) h = ((omega arith, (h.0, tt)), word_falls a p rank (suc i) ws h.1)

ahead_below : (a : Netlist ℕ) (p : PlanValue) (rank : ℕ → ℕ) → AllByRecursion (Below (wire_rank a p rank) 3) (word_ahead p)
ahead_below a p rank = shifted_all (Below (wire_rank a p rank) 3) Feed (register_word p) (omega arith) (below_all (wire_rank a p rank) 3 (omega arith) (register_word p) (word_zero a p rank 0 p.degree))

ring_from_falls : (a : Netlist ℕ) (p : PlanValue) (rank : ℕ → ℕ) (s more : ℕ) → AllByRecursion (Falls (wire_rank a p rank)) (ring_rows_from s more)
ring_from_falls a p rank s zero = ((omega arith, (omega arith, tt)), ((omega arith, (omega arith, tt)), ((omega arith, (omega arith, tt)), tt)))
ring_from_falls a p rank s (suc more) =
    ((omega arith, (omega arith, tt)), ((omega arith, (omega arith, tt)), ((omega arith, (omega arith, tt)), ((omega arith, (omega arith, tt)), ring_from_falls a p rank (suc s) more))))

ring_falls : (a : Netlist ℕ) (p : PlanValue) (rank : ℕ → ℕ) (s : ℕ) → AllByRecursion (Falls (wire_rank a p rank)) (ring_rows s)
ring_falls a p rank zero = (tt, tt)
ring_falls a p rank (suc more) = ((omega arith, (omega arith, tt)), ((omega arith, (omega arith, tt)), ring_from_falls a p rank 0 more))

low_falls : (a : Netlist ℕ) (p : PlanValue) (rank : ℕ → ℕ) (ws : List Wire) → AllByRecursion (Below (wire_rank a p rank) 1) ws → Falls (wire_rank a p rank) (low_row ws)
low_falls a p rank [] h = tt
low_falls a p rank (w ∷ ws) h = h

abbrev ZeroOr : (Wire → ℕ) → Option Wire → Type 0
ZeroOr rank None = Unit {0}
ZeroOr rank (Some w) = rank w ≡ 0

some_all : (rank : Wire → ℕ) (ws : List Wire) → AllByRecursion (Zero rank) ws → AllByRecursion (ZeroOr rank) (map Some ws)
some_all rank [] h = tt
some_all rank (w ∷ ws) h = (h.0, some_all rank ws h.1)

so_falls : (a : Netlist ℕ) (p : PlanValue) (rank : ℕ → ℕ) (q : Option Wire) → ZeroOr (wire_rank a p rank) q → Falls (wire_rank a p rank) (out_row q)
so_falls a p rank None h = tt
so_falls a p rank (Some w) h = (omega arith, (omega (arith, h), tt))

controller_falls : (a : Netlist ℕ) (p : PlanValue) (rank : ℕ → ℕ) → AllByRecursion (IsSettledFirst rank) (chain p) → AllByRecursion (Falls (wire_rank a p rank)) (controller p)
controller_falls a p rank free =
    let F = Falls (wire_rank a p rank) in
    let zero = word_zero a p rank 0 p.degree in
    let ones = below_all (wire_rank a p rank) 1 (omega arith) (register_word p) zero in
    let last : wire_rank a p rank (last_of Test (register_word p)) ≡ 0 = last_all (Zero (wire_rank a p rank)) Test (register_word p) refl zero in (
      (omega arith, tt),
      (
        (omega arith, tt),
        (
          (omega arith, (omega arith, tt)),
          (
            (omega arith, tt),
            (
              chosen_all (Below (wire_rank a p rank) 1) p.mask (register_word p) ones,
              (
                low_falls a p rank (front (register_word p)) (front_all (Below (wire_rank a p rank) 1) (register_word p) ones),
                (
                  (omega arith, (omega arith, tt)),
                  all_join F (word_rows 0 (word_ahead p)) _ (word_falls a p rank 0 (word_ahead p) (ahead_below a p rank)) (
                    (omega (arith, last), (omega arith, tt)),
                    (
                      (omega arith, (omega arith, tt)),
                      (
                        (omega arith, (omega arith, tt)),
                        (
                          (omega arith, (omega arith, tt)),
                          (
                            (omega arith, tt),
                            all_join F (ring_rows (length p.sessions)) _ (ring_falls a p rank (length p.sessions)) (
                              (omega arith, tt),
                              (
                                (omega arith, (omega arith, tt)),
                                (
                                  (omega arith, tt),
                                  (
                                    (omega arith, (omega arith, tt)),
                                    (
                                      (omega arith, (omega arith, tt)),
                                      (
                                        (omega arith, (omega arith, tt)),
                                        (so_falls a p rank (last_q p) (last_all (ZeroOr (wire_rank a p rank)) None (map Some (qs_from 0 (chain p))) tt (some_all (wire_rank a p rank) (qs_from 0 (chain p)) (qs_zero a p rank 0 (chain p) free))), tt),
                                      ),
                                    ),
                                  ),
                                ),
                              ),
                            ),
                          ),
                        ),
                      ),
                    ),
                  ),
                ),
              ),
            ),
          ),
        ),
      ),
    )

rings_below : (a : Netlist ℕ) (p : PlanValue) (rank : ℕ → ℕ) (ss : List ℕ) → AllByRecursion (Below (wire_rank a p rank) 1) (map Ring ss)
rings_below a p rank [] = tt
rings_below a p rank (s ∷ ss) = (omega arith, rings_below a p rank ss)

pass_falls : (a : Netlist ℕ) (p : PlanValue) (rank : ℕ → ℕ) (r : ℕ) (q : Option Wire) → ZeroOr (wire_rank a p rank) q → Falls (wire_rank a p rank) (pass_row r q)
pass_falls a p rank r None h = tt
pass_falls a p rank r (Some w) h = (omega (arith, h), tt)

carry_falls : (a : Netlist ℕ) (p : PlanValue) (rank : ℕ → ℕ) (r : ℕ) (q : Option Wire) → ZeroOr (wire_rank a p rank) q → Falls (wire_rank a p rank) (carry_row r q)
carry_falls a p rank r None h = tt
carry_falls a p rank r (Some w) h = (omega arith, (omega (arith, h), tt))

register_falls : (a : Netlist ℕ) (p : PlanValue) (rank : ℕ → ℕ) (r : ℕ) (ss : List ℕ) (before : Option Wire) (mask : ℕ) (qs : List Wire) → ZeroOr (wire_rank a p rank) before → AllByRecursion (Zero (wire_rank a p rank)) qs
    → AllByRecursion (Falls (wire_rank a p rank)) (rows_of_register r ss before mask qs)
register_falls a p rank r [] before mask qs h z = ((omega arith, tt), ((omega arith, tt), ((omega arith, tt), (pass_falls a p rank r before h, tt))))
register_falls a p rank r (s ∷ ss) before mask qs h z = (
  rings_below a p rank (s ∷ ss),
  (
    (omega arith, (omega arith, tt)),
    (
      (omega arith, (omega arith, tt)),
      (
        (omega arith, (omega arith, tt)),
        (
          (omega arith, tt),
          (
            (omega arith, (omega arith, tt)),
            (chosen_all (Below (wire_rank a p rank) 1) mask qs (below_all (wire_rank a p rank) 1 (omega arith) qs z), ((omega arith, (omega arith, tt)), (carry_falls a p rank r before h, ((omega arith, (omega arith, tt)), tt)))),
          ),
        ),
      ),
    ),
  ),
)

registers_falls : (a : Netlist ℕ) (p : PlanValue) (rank : ℕ → ℕ) (r i : ℕ) (before : Option Wire) (gs : List RegisterValue) → ZeroOr (wire_rank a p rank) before → AllByRecursion (IsSettledFirst rank) (flat_map (λ g. g.cells) gs)
    → AllByRecursion (Falls (wire_rank a p rank)) (registers_from p r i before gs)
registers_falls a p rank r i before [] h free = tt
registers_falls a p rank r i before (g ∷ gs) h free =
    let z = qs_zero a p rank i g.cells (all_front (IsSettledFirst rank) g.cells (flat_map (λ g. g.cells) gs) free) in
    all_join (Falls (wire_rank a p rank)) (rows_of_register r (sessions_of p r) before g.mask (qs_from i g.cells)) _ (register_falls a p rank r (sessions_of p r) before g.mask (qs_from i g.cells) h z)
    (registers_falls a p rank (suc r) (i + length g.cells) _ gs (last_all (ZeroOr (wire_rank a p rank)) before (map Some (qs_from i g.cells)) h (some_all (wire_rank a p rank) (qs_from i g.cells) z))
    (all_back (IsSettledFirst rank) g.cells (flat_map (λ g. g.cells) gs) free))

-- these cells stand in the chain from cell i on
abbrev StandsAt : PlanValue → ℕ → List Cell → Type 0
StandsAt p i cs = (k : ℕ) → k < length cs → nth (chain p) (i + k) ≡ nth cs k

stands_rest : (p : PlanValue) (i : ℕ) (c : Cell) (cs : List Cell) → StandsAt p i (c ∷ cs) → StandsAt p (suc i) cs
stands_rest p i c cs h k lt = let e : suc i + k ≡ i + suc k = omega arith in ap (nth (chain p)) e ∙ h (suc k) (omega arith)

stands_here : (p : PlanValue) (i : ℕ) (c : Cell) (cs : List Cell) → StandsAt p i (c ∷ cs) → nth (chain p) i ≡ c
stands_here p i c cs h = let e : i ≡ i + 0 = omega arith in ap (nth (chain p)) e ∙ h 0 (omega arith)

read_rank : (a : Netlist ℕ) (p : PlanValue) (rank : ℕ → ℕ) (i : ℕ) (cs : List Cell) (n : ℕ) → StandsAt p i cs → wire_rank a p rank (read_behind i cs n) ≤ 3 + 12 * rank n
read_rank a p rank i [] n h = omega arith
read_rank a p rank i (c ∷ cs) n h = by (is_behind c.kind) (c.net == n) refl (read_rank a p rank (suc i) cs n (stands_rest p i c cs h))
  where
    by : (b e : Bool) → (c.net == n) ≡ e → wire_rank a p rank (read_behind (suc i) cs n) ≤ 3 + 12 * rank n → wire_rank a p rank (if b && e then Read i else read_behind (suc i) cs n) ≤ 3 + 12 * rank n
    by true true same more =
        let net : (nth (chain p) i).net ≡ n = ap (λ d. d.net) (stands_here p i c cs h) ∙ eqb-true c.net n same in
        let r : rank (nth (chain p) i).net ≡ rank n = ap rank net in
        omega (arith, r)
    by true false same more = more
    by false e same more = more

read_bound : (a : Netlist ℕ) (p : PlanValue) (rank : ℕ → ℕ) (n : ℕ) → wire_rank a p rank (read p n) ≤ 3 + 12 * rank n
read_bound a p rank n = read_rank a p rank 0 (chain p) n (λ k lt. let e : 0 + k ≡ k = omega arith in ap (nth (chain p)) e)

line_bound : (a : Netlist ℕ) (p : PlanValue) (rank : ℕ → ℕ) (k : Kind) (net column : ℕ) → wire_rank a p rank (line a p (record { kind = k; net = net; column = column })) ≤ 3 + 12 * rank (line_net a k net)
line_bound a p rank State net column = read_bound a p rank (d_of a.flops net)
line_bound a p rank Split net column = read_bound a p rank (d_of a.flops net)
line_bound a p rank Watch net column = read_bound a p rank (d_of a.flops net)
line_bound a p rank Cut net column = omega arith
line_bound a p rank Output net column = omega arith
line_bound a p rank Input net column = omega arith

xor_falls : (a : Netlist ℕ) (p : PlanValue) (rank : ℕ → ℕ) (i : ℕ) (ws : List Wire) → AllByRecursion (Below (wire_rank a p rank) 3) ws → Falls (wire_rank a p rank) (xor_row (Code i) ws)
xor_falls a p rank i [] h = tt
xor_falls a p rank i (w ∷ ws) h = h

code_falls : (a : Netlist ℕ) (p : PlanValue) (rank : ℕ → ℕ) (i column : ℕ) → Falls (wire_rank a p rank) (xor_row (Code i) (picked column (word_ahead p)))
code_falls a p rank i column = xor_falls a p rank i (picked column (word_ahead p)) (chosen_all (Below (wire_rank a p rank) 3) column (word_ahead p) (ahead_below a p rank))

-- the ranks of a cell's nets
record CellRanks (a : Netlist ℕ) (p : PlanValue) (rank : ℕ → ℕ) (i : ℕ) (k : Kind) (net : ℕ) : Type 0 where
  n : rank (nth (chain p) i).net ≡ rank net
  z : rank (line_net a (nth (chain p) i).kind (nth (chain p) i).net) ≡ rank (line_net a k net)

cell_ranks : (a : Netlist ℕ) (p : PlanValue) (rank : ℕ → ℕ) (i : ℕ) (c : Cell) → nth (chain p) i ≡ c → CellRanks a p rank i c.kind c.net
cell_ranks a p rank i c e = record { n = ap (λ d. rank d.net) e; z = ap (λ d. rank (line_net a d.kind d.net)) e }

cell_falls : (a : Netlist ℕ) (p : PlanValue) (rank : ℕ → ℕ) (r i : ℕ) (before : Wire) (k : Kind) (net column : ℕ) → CellRanks a p rank i k net → wire_rank a p rank before < 8
    → AllByRecursion (Falls (wire_rank a p rank)) (cell_rows a p r i before (record { kind = k; net = net; column = column }))
cell_falls a p rank r i before Input net column h b =
    let n = h.n in
    ((omega arith, (b, tt)), (code_falls a p rank i column, ((omega arith, (omega arith, tt)), ((omega arith, (omega arith, tt)), ((omega arith, (omega arith, tt)), ((omega arith, (omega (arith, n), tt)), ((omega arith, (omega arith, tt)), tt)))))))
cell_falls a p rank r i before Cut net column h b =
    let n = h.n in
    let l = line_bound a p rank Cut net column in
    let z = h.z in
    ((omega arith, (omega (arith, l, z), tt)), ((omega arith, (b, tt)), (code_falls a p rank i column, ((omega arith, (omega arith, tt)), ((omega arith, (omega arith, (omega arith, tt))), ((omega arith, (omega arith, tt)), ((omega arith, (omega (arith, n), tt)), ((omega arith, (omega arith, tt)), tt))))))))
cell_falls a p rank r i before State net column h b =
    let l = line_bound a p rank State net column in
    let z = h.z in
    ((omega arith, (omega (arith, l, z), tt)), ((omega arith, (b, tt)), (code_falls a p rank i column, ((omega arith, (omega arith, tt)), ((omega arith, (omega arith, (omega arith, tt))), tt)))))
cell_falls a p rank r i before Split net column h b =
    let l = line_bound a p rank Split net column in
    let z = h.z in
    ((omega arith, (omega (arith, l, z), tt)), ((omega arith, (b, tt)), (code_falls a p rank i column, ((omega arith, (omega arith, tt)), ((omega arith, (omega arith, (omega arith, tt))), tt)))))
cell_falls a p rank r i before Watch net column h b =
    let l = line_bound a p rank Watch net column in
    let z = h.z in
    ((omega arith, (omega (arith, l, z), tt)), ((omega arith, (b, tt)), ((omega arith, (omega arith, tt)), tt)))
cell_falls a p rank r i before Output net column h b =
    let l = line_bound a p rank Output net column in
    let z = h.z in
    ((omega arith, (omega (arith, l, z), tt)), ((omega arith, (b, tt)), ((omega arith, (omega arith, tt)), tt)))

cells_falls : (a : Netlist ℕ) (p : PlanValue) (rank : ℕ → ℕ) (r i : ℕ) (before : Wire) (cs : List Cell) → StandsAt p i cs → AllByRecursion (IsSettledFirst rank) cs → wire_rank a p rank before < 8
    → AllByRecursion (Falls (wire_rank a p rank)) (rows_of_cells a p r i before cs)
cells_falls a p rank r i before [] s free b = tt
cells_falls a p rank r i before (c ∷ cs) s free b =
    let q : wire_rank a p rank (q_of i c) ≡ 0 = q_zero a p rank i c.kind c.net c.column free.0 in
    all_join (Falls (wire_rank a p rank)) (cell_rows a p r i before c) _ (cell_falls a p rank r i before c.kind c.net c.column (cell_ranks a p rank i c (stands_here p i c cs s)) b)
    (cells_falls a p rank r (suc i) (q_of i c) cs (stands_rest p i c cs s) free.1 (omega (arith, q)))

nth_front : (cs ds : List Cell) (k : ℕ) → k < length cs → nth (cs ++ ds) k ≡ nth cs k
nth_front [] ds k h = absurd (omega (arith, h))
nth_front (c ∷ cs) ds zero h = refl
nth_front (c ∷ cs) ds (suc k) h = nth_front cs ds k (omega (arith, h))

nth_back : (cs ds : List Cell) (k : ℕ) → nth (cs ++ ds) (length cs + k) ≡ nth ds k
nth_back [] ds k = let e : 0 + k ≡ k = omega arith in ap (nth ds) e
nth_back (c ∷ cs) ds k = let e : suc (length cs) + k ≡ suc (length cs + k) = omega arith in ap (nth (c ∷ cs ++ ds)) e ∙ nth_back cs ds k

stands_front : (p : PlanValue) (i : ℕ) (cs ds : List Cell) → StandsAt p i (cs ++ ds) → StandsAt p i cs
stands_front p i cs ds h k lt = let e : length (cs ++ ds) ≡ length cs + length ds = length-append cs ds in h k (omega (arith, e, lt)) ∙ nth_front cs ds k lt

stands_back : (p : PlanValue) (i : ℕ) (cs ds : List Cell) → StandsAt p i (cs ++ ds) → StandsAt p (i + length cs) ds
stands_back p i cs ds h k lt =
    let e : length (cs ++ ds) ≡ length cs + length ds = length-append cs ds in
    let f : i + length cs + k ≡ i + (length cs + k) = omega arith in
    ap (nth (chain p)) f ∙ h (length cs + k) (omega (arith, e, lt)) ∙ nth_back cs ds k

all_cells_falls : (a : Netlist ℕ) (p : PlanValue) (rank : ℕ → ℕ) (r i : ℕ) (gs : List RegisterValue) → StandsAt p i (flat_map (λ g. g.cells) gs) → AllByRecursion (IsSettledFirst rank) (flat_map (λ g. g.cells) gs)
    → AllByRecursion (Falls (wire_rank a p rank)) (all_cells_from a p r i gs)
all_cells_falls a p rank r i [] s free = tt
all_cells_falls a p rank r i (g ∷ gs) s free =
    all_join (Falls (wire_rank a p rank)) (rows_of_cells a p r i (First r) g.cells) _
    (cells_falls a p rank r i (First r) g.cells (stands_front p i g.cells (flat_map (λ g. g.cells) gs) s) (all_front (IsSettledFirst rank) g.cells (flat_map (λ g. g.cells) gs) free) (omega arith))
    (all_cells_falls a p rank (suc r) (i + length g.cells) gs (stands_back p i g.cells (flat_map (λ g. g.cells) gs) s) (all_back (IsSettledFirst rank) g.cells (flat_map (λ g. g.cells) gs) free))

kept_ins : (a : Netlist ℕ) (p : PlanValue) (rank : ℕ → ℕ) (out : ℕ) (ns : List ℕ) → AllByRecursion (λ m. rank m < rank out) ns → AllByRecursion (λ w. wire_rank a p rank w < 12 * rank out) (map (read p) ns)
kept_ins a p rank out [] h = tt
kept_ins a p rank out (n ∷ ns) h = (let b = read_bound a p rank n in let c = h.0 in omega (arith, b, c), kept_ins a p rank out ns h.1)

pub no_loop : (a : Netlist ℕ) (p : PlanValue) → HasNoLoop a p
no_loop a p rank h free =
    let F = Falls (wire_rank a p rank) in
    all_join F (map (written_gate p) a.gates) (test_gates a p) (all_map_back F (Falls rank) (written_gate p) (λ g k. kept_ins a p rank g.out g.ins k) a.gates h)
    (from_parts F a p (controller_falls a p rank free) (registers_falls a p rank 0 0 None p.registers tt free)
    (all_cells_falls a p rank 0 0 p.registers (λ k lt. let e : 0 + k ≡ k = omega arith in ap (nth (chain p)) e) free))
