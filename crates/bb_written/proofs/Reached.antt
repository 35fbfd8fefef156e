-- What the added gates and flip-flops read is driven: a fact of all driven nets is one of all that are read.
use Rattle.std.proofs.Common.{arith, ◌≡◌, ℕ, ◌+◌, ◌<◌, ◌≤◌, ◌/◌, ◌%◌, ◌==◌, ◌&&◌, zero, suc, List, [], ◌∷◌, ◌++◌, map, length, Bool, true, false, Option, Some, None, if◌then◌else◌, refl, sym, ap, subst, ◌∙◌}
use Rattle.std.specs.List.{AllByRecursion, flat_map}
use Rattle.bb_base.proofs.Lists.{map_join, all_front, all_back, all_join}
use Rattle.bb_base.specs.declared.operator.Op.TheVariants.{And, Or, Xor}
use Rattle.bb_base.specs.Net.{Gate, Flop, Netlist, driven}
use Rattle.bb_base.specs.Bits.{picked}
use Rattle.bb_terms.specs.OnBits.{last_of, shifted, front}
use Rattle.bb_terms.specs.declared.plan.Cell.{Cell}
use Rattle.bb_terms.specs.declared.kind.Kind.{Kind}
use Rattle.bb_terms.specs.declared.kind.Kind.TheVariants.{Input, State, Split, Cut, Watch, Output}
use Rattle.bb_terms.specs.Kinds.{is_source, has_line, is_behind}
use Rattle.bb_terms.specs.Lines.{d_of}
use Rattle.bb_terms.specs.Plan.{PlanValue, RegisterValue, chain, sessions_of, sessions_from, lists_register}
use Rattle.bb_terms.specs.declared.wire.Wire.{Wire}
use Rattle.bb_terms.specs.declared.wire.Wire.TheVariants.{Kept, Test, Init, So, Done, NotTest, Go, NotGo, Parity, Low, Feed, Word, Phase, PhaseNext, Advance, NotAdvance, Ring, Running, Shifting, Latches, Takes, Codes, First, Line, Chain, Code, Coded, Next, InTest, InNormal, Read, Held}
use Rattle.bb_terms.specs.Reads.{q_by, q_of, qs_from, read, read_behind, line, line_by}
use Rattle.bb_terms.specs.Controller.{gate_row, word_from, register_word, word_ahead, word_rows, low_row, start_rows, feed_rows, phase_rows, ring_rows, ring_rows_from, cycle_rows, out_row, last_q, controller}
use Rattle.bb_terms.specs.Registers.{rows_of_register, registers_from}
use Rattle.bb_written.specs.Cells.{when, xor_row, next_terms, cell_rows, rows_of_cells, all_cells_from, flop, word_flops, ring_flops, cell_flops, flops}
use Rattle.bb_written.specs.Written.{test_gates}
use Rattle.bb_written.proofs.Rising.{out_of, q_in, cell_outs, outs_of_cell, low_out, so_out}

picked_all : {T : Type 0} (F : T → Type 0) (m : ℕ) (xs : List T) → AllByRecursion F xs → AllByRecursion F (picked m xs)
picked_all F m [] h = tt
picked_all {T} F m (x ∷ xs) h = go (m % 2 == 1) (picked_all F (m / 2) xs h.1)
  where
    go : (b : Bool) → AllByRecursion F (picked (m / 2) xs) → AllByRecursion F (if b then x ∷ picked (m / 2) xs else picked (m / 2) xs)
    go true k = (h.0, k)
    go false k = k

shifted_all : {T : Type 0} (F : T → Type 0) (x : T) (xs : List T) → F x → AllByRecursion F xs → AllByRecursion F (shifted x xs)
shifted_all F x [] e h = tt
shifted_all F x (y ∷ ys) e h = (e, shifted_all F y ys h.0 h.1)

front_all : {T : Type 0} (F : T → Type 0) (xs : List T) → AllByRecursion F xs → AllByRecursion F (front xs)
front_all F [] h = tt
front_all F (x ∷ xs) h = shifted_all F x xs h.0 h.1

last_all : {T : Type 0} (F : T → Type 0) (x : T) (xs : List T) → F x → AllByRecursion F xs → F (last_of x xs)
last_all F x [] e h = e
last_all F x (y ∷ ys) e h = last_all F y ys h.0 h.1

abbrev pub d_in : Flop Wire → Wire
d_in f = f.d

-- the bits of the flip-flops
words_are : (i k : ℕ) → map q_in (word_flops i k) ≡ word_from i k
words_are i zero = refl
words_are i (suc k) = ap (λ ws. Word i ∷ ws) (words_are (suc i) k)

pub cells_are : (i : ℕ) (cs : List Cell) → map q_in (cell_flops i cs) ≡ qs_from i cs
cells_are i [] = refl
cells_are i (c ∷ cs) = ap (λ ws. q_of i c ∷ ws) (cells_are (suc i) cs)

qs_two : (i : ℕ) (xs ys : List Cell) → qs_from i (xs ++ ys) ≡ qs_from i xs ++ qs_from (i + length xs) ys
qs_two i [] ys = ap (λ k. qs_from k ys) (omega arith)
qs_two i (x ∷ xs) ys =
    let e : suc i + length xs ≡ i + suc (length xs) = omega arith in
    ap (λ ws. q_of i x ∷ ws) (qs_two (suc i) xs ys ∙ ap (λ k. qs_from (suc i) xs ++ qs_from k ys) e)

module _ (P : Wire → Type 0) where
  abbrev pub RowHolds : Gate Wire → Type 0
  RowHolds g = P g.out × AllByRecursion P g.ins

  abbrev Outs : List (Gate Wire) → Type 0
  Outs rows = AllByRecursion P (map out_of rows)

  abbrev Rows : List (Gate Wire) → Type 0
  Rows rows = AllByRecursion RowHolds rows

  abbrev May : Option Wire → Type 0
  May None = Unit {0}
  May (Some w) = P w

  outs_front : (xs ys : List (Gate Wire)) → Outs (xs ++ ys) → Outs xs
  outs_front xs ys h = all_front P (map out_of xs) (map out_of ys) (subst (AllByRecursion P) (map_join out_of xs ys) h)

  outs_back : (xs ys : List (Gate Wire)) → Outs (xs ++ ys) → Outs ys
  outs_back xs ys h = all_back P (map out_of xs) (map out_of ys) (subst (AllByRecursion P) (map_join out_of xs ys) h)

  may_all : (ws : List Wire) → AllByRecursion P ws → AllByRecursion May (map Some ws)
  may_all [] h = tt
  may_all (w ∷ ws) h = (h.0, may_all ws h.1)

  rings_at : (s k : ℕ) → AllByRecursion P (map q_in (ring_flops s k)) → (j : ℕ) → j ≤ k → P (Ring (s + j))
  rings_at s zero h j less = let e : s ≡ s + j = omega (arith, less) in subst (λ n. P (Ring n)) e h.0
  rings_at s (suc k) h zero less = let e : s ≡ s + 0 = omega arith in subst (λ n. P (Ring n)) e h.0
  rings_at s (suc k) h (suc j) less = let e : suc s + j ≡ s + suc j = omega arith in subst (λ n. P (Ring n)) e (rings_at (suc s) k h.1 j (omega (arith, less)))

  -- the controller ----------------------------------------------------------------

  word_rows_hold : (i : ℕ) (ws : List Wire) → P Go → AllByRecursion P ws → Outs (word_rows i ws) → Rows (word_rows i ws)
  word_rows_hold i [] go all outs = tt
  word_rows_hold i (w ∷ ws) go all outs = ((outs.0, (go, (all.0, tt))), word_rows_hold (suc i) ws go all.1 outs.1)

  low_holds : (ws : List Wire) → P Low → AllByRecursion P ws → RowHolds (low_row ws)
  low_holds [] low h = (low, tt)
  low_holds (w ∷ ws) low h = (low, h)

  so_holds : (q : Option Wire) → P So → P Shifting → May q → RowHolds (out_row q)
  so_holds None so shifting h = (so, tt)
  so_holds (Some w) so shifting h = (so, (shifting, (h, tt)))

  rings_from_hold : (s k : ℕ) → ((j : ℕ) → j ≤ suc (s + k) → P (Ring j)) → P Go → P Advance → P NotAdvance → Outs (ring_rows_from s k) → Rows (ring_rows_from s k)
  rings_from_hold s zero ring go advance stay o =
      ((o.0, (ring s (omega arith), (advance, tt))), ((o.1.0, (ring (suc s) (omega arith), (o.0, tt))), ((o.1.1.0, (go, (o.1.0, tt))), tt)))
  rings_from_hold s (suc k) ring go advance stay o = (
    (o.0, (ring (suc s) (omega arith), (stay, tt))),
    (
      (o.1.0, (ring s (omega arith), (advance, tt))),
      ((o.1.1.0, (o.0, (o.1.0, tt))), ((o.1.1.1.0, (go, (o.1.1.0, tt))), rings_from_hold (suc s) k (λ j less. ring j (omega (arith, less))) go advance stay o.1.1.1.1)),
    ),
  )

  rings_hold : (k : ℕ) → ((j : ℕ) → j ≤ k → P (Ring j)) → P Go → P NotGo → P Advance → P NotAdvance → Outs (ring_rows k) → Rows (ring_rows k)
  rings_hold zero ring go not_go advance stay o = ((o.0, tt), tt)
  rings_hold (suc k) ring go not_go advance stay o =
      ((o.0, (ring 0 (omega arith), (stay, tt))), ((o.1.0, (not_go, (o.0, tt))), rings_from_hold 0 k (λ j less. ring j (omega (arith, less))) go advance stay o.1.1))

  -- what flip-flops take
  word_ds : (i k : ℕ) (ws : List Wire) → length ws ≡ k → Outs (word_rows i ws) → AllByRecursion P (map d_in (word_flops i k))
  word_ds i zero ws e o = tt
  word_ds i (suc k) [] e o = absurd (omega (arith, e))
  word_ds i (suc k) (w ∷ ws) e o = (o.0, word_ds (suc i) k ws (omega (arith, e)) o.1)

  rings_from_ds : (s k : ℕ) → Outs (ring_rows_from s k) → AllByRecursion P (map d_in (ring_flops (suc s) k))
  rings_from_ds s zero o = (o.1.1.0, tt)
  rings_from_ds s (suc k) o = (o.1.1.1.0, rings_from_ds (suc s) k o.1.1.1.1)

  rings_ds : (k : ℕ) → Outs (ring_rows k) → AllByRecursion P (map d_in (ring_flops 0 k))
  rings_ds zero o = (o.0, tt)
  rings_ds (suc k) o = (o.1.0, rings_from_ds 0 k o.1.1)

  -- what holds of all that is driven
  pub record HoldsOfDriven (a : Netlist ℕ) (p : PlanValue) : Type 0 where
    pub kept : (net : ℕ) → net < length (driven a) → P (Kept net)
    pub test : P Test
    pub init : P Init
    pub gates : Outs (test_gates a p)
    pub words : AllByRecursion P (map q_in (word_flops 0 p.degree))
    pub phase : P Phase
    pub rings : AllByRecursion P (map q_in (ring_flops 0 (length p.sessions)))
    pub cells : AllByRecursion P (map q_in (cell_flops 0 (chain p)))

  -- the bits that the controller gives the registers and cells
  record Lines : Type 0 where
    go : P Go
    not_test : P NotTest
    running : P Running
    shifting : P Shifting

  module _ (a : Netlist ℕ) (p : PlanValue) (h : HoldsOfDriven a p) where
    bits : AllByRecursion P (register_word p)
    bits = subst (AllByRecursion P) (words_are 0 p.degree) h.words

    qs : AllByRecursion P (qs_from 0 (chain p))
    qs = subst (AllByRecursion P) (cells_are 0 (chain p)) h.cells

    ring : (j : ℕ) → j ≤ length p.sessions → P (Ring j)
    ring j less = let e : 0 + j ≡ j = omega arith in subst (λ n. P (Ring n)) e (rings_at 0 (length p.sessions) h.rings j less)

    abbrev feeds : List (Gate Wire)
    feeds = feed_rows p.mask (register_word p)

    abbrev words : List (Gate Wire)
    words = word_rows 0 (word_ahead p)

    abbrev phases : List (Gate Wire)
    phases = phase_rows (last_of Test (register_word p))

    abbrev rings : List (Gate Wire)
    rings = ring_rows (length p.sessions)

    abbrev cycles : List (Gate Wire)
    cycles = cycle_rows (length p.sessions)

    o_control : Outs (controller p)
    o_control = outs_front (controller p) (registers_from p 0 0 None p.registers) (outs_front (controller p ++ registers_from p 0 0 None p.registers) (all_cells_from a p 0 0 p.registers) h.gates)

    pub o_registers : Outs (registers_from p 0 0 None p.registers)
    o_registers = outs_back (controller p) (registers_from p 0 0 None p.registers) (outs_front (controller p ++ registers_from p 0 0 None p.registers) (all_cells_from a p 0 0 p.registers) h.gates)

    pub o_cells : Outs (all_cells_from a p 0 0 p.registers)
    o_cells = outs_back (controller p ++ registers_from p 0 0 None p.registers) (all_cells_from a p 0 0 p.registers) h.gates

    o_start : Outs start_rows
    o_start = outs_front start_rows (feeds ++ (words ++ (phases ++ (rings ++ (cycles ++ out_row (last_q p) ∷ []))))) o_control

    o_one : Outs (feeds ++ (words ++ (phases ++ (rings ++ (cycles ++ out_row (last_q p) ∷ [])))))
    o_one = outs_back start_rows (feeds ++ (words ++ (phases ++ (rings ++ (cycles ++ out_row (last_q p) ∷ []))))) o_control

    o_two : Outs (words ++ (phases ++ (rings ++ (cycles ++ out_row (last_q p) ∷ []))))
    o_two = outs_back feeds (words ++ (phases ++ (rings ++ (cycles ++ out_row (last_q p) ∷ [])))) o_one

    o_three : Outs (phases ++ (rings ++ (cycles ++ out_row (last_q p) ∷ [])))
    o_three = outs_back words (phases ++ (rings ++ (cycles ++ out_row (last_q p) ∷ []))) o_two

    o_four : Outs (rings ++ (cycles ++ out_row (last_q p) ∷ []))
    o_four = outs_back phases (rings ++ (cycles ++ out_row (last_q p) ∷ [])) o_three

    o_five : Outs (cycles ++ out_row (last_q p) ∷ [])
    o_five = outs_back rings (cycles ++ out_row (last_q p) ∷ []) o_four

    o_feeds : AllByRecursion P (Parity ∷ (low_row (front (register_word p))).out ∷ Feed ∷ [])
    o_feeds = outs_front feeds (words ++ (phases ++ (rings ++ (cycles ++ out_row (last_q p) ∷ [])))) o_one

    low : P Low
    low = subst P (low_out (front (register_word p))) o_feeds.1.0

    o_phases : Outs phases
    o_phases = outs_front phases (rings ++ (cycles ++ out_row (last_q p) ∷ [])) o_three

    pub so : P So
    so = subst P (so_out (last_q p)) o_five.1.1.1.1.1.1.0

    pub done : P Done
    done = o_five.1.1.1.1.1.0

    ahead : AllByRecursion P (word_ahead p)
    ahead = shifted_all P Feed (register_word p) o_feeds.1.1.0 bits

    lines : Lines
    lines = record { go = o_start.1.1.0; not_test = o_start.1.0; running = o_five.1.1.1.0; shifting = o_five.1.1.1.1.0 }

    not_test_of : P NotTest
    not_test_of = o_start.1.0

    last_may : May (last_q p)
    last_may = last_all May None (map Some (qs_from 0 (chain p))) tt (may_all (qs_from 0 (chain p)) qs)

    controller_holds : Rows (controller p)
    controller_holds = (
      (o_start.0, (h.init, tt)),
      (
        (o_start.1.0, (h.test, tt)),
        (
          (o_start.1.1.0, (h.test, (o_start.0, tt))),
          (
            (o_start.1.1.1.0, (o_start.1.1.0, tt)),
            (
              (o_feeds.0, picked_all P p.mask (register_word p) bits),
              (
                low_holds (front (register_word p)) low (front_all P (register_word p) bits),
                (
                  (o_feeds.1.1.0, (o_feeds.0, (low, tt))),
                  all_join RowHolds words _ (word_rows_hold 0 (word_ahead p) lines.go ahead (outs_front words (phases ++ (rings ++ (cycles ++ out_row (last_q p) ∷ []))) o_two)) (
                    (o_phases.0, (last_all P Test (register_word p) h.test bits, (low, tt))),
                    (
                      (o_phases.1.0, (h.phase, (o_phases.0, tt))),
                      (
                        (o_phases.1.1.0, (lines.go, (o_phases.1.0, tt))),
                        (
                          (o_phases.1.1.1.0, (h.phase, (o_phases.0, tt))),
                          (
                            (o_phases.1.1.1.1.0, (o_phases.1.1.1.0, tt)),
                            all_join RowHolds rings _
                                (rings_hold (length p.sessions) ring lines.go o_start.1.1.1.0 o_phases.1.1.1.0 o_phases.1.1.1.1.0 (outs_front rings (cycles ++ out_row (last_q p) ∷ []) o_four)) (
                                  (o_five.0, (ring (length p.sessions) (omega arith), tt)),
                                  (
                                    (o_five.1.0, (lines.go, (o_five.0, tt))),
                                    (
                                      (o_five.1.1.0, (h.phase, tt)),
                                      (
                                        (o_five.1.1.1.0, (o_five.1.0, (o_five.1.1.0, tt))),
                                        (
                                          (o_five.1.1.1.1.0, (o_five.1.0, (h.phase, tt))),
                                          ((o_five.1.1.1.1.1.0, (lines.go, (ring (length p.sessions) (omega arith), tt))), (so_holds (last_q p) so lines.shifting last_may, tt)),
                                        ),
                                      ),
                                    ),
                                  ),
                                ),
                          ),
                        ),
                      ),
                    ),
                  ),
                ),
              ),
            ),
          ),
        ),
      ),
    )

  -- the registers -------------------------------------------------------------------

  sessions_hold : (s : ℕ) (ss : List (List ℕ)) (r top : ℕ) → ((j : ℕ) → j ≤ top → P (Ring j)) → s + length ss ≤ top → AllByRecursion P (map Ring (sessions_from s ss r))
  sessions_hold s [] r top ring less = tt
  sessions_hold s (x ∷ ss) r top ring less = by (lists_register r x) (sessions_hold (suc s) ss r top ring (omega (arith, less)))
    where
      by : (b : Bool) → AllByRecursion P (map Ring (sessions_from (suc s) ss r)) → AllByRecursion P (map Ring (if b then s ∷ sessions_from (suc s) ss r else sessions_from (suc s) ss r))
      by true k = (ring s (omega (arith, less)), k)
      by false k = k

  register_holds : (r : ℕ) (ss : List ℕ) (before : Option Wire) (mask : ℕ) (ws : List Wire) → Lines → AllByRecursion P (map Ring ss) → May before → AllByRecursion P ws
      → Outs (rows_of_register r ss before mask ws) → Rows (rows_of_register r ss before mask ws)
  register_holds r [] None mask ws l all b all_ws o = ((o.0, (l.not_test, tt)), ((o.1.0, (l.shifting, tt)), ((o.1.1.0, (l.running, tt)), ((o.1.1.1.0, tt), tt))))
  register_holds r [] (Some q) mask ws l all b all_ws o = ((o.0, (l.not_test, tt)), ((o.1.0, (l.shifting, tt)), ((o.1.1.0, (l.running, tt)), ((o.1.1.1.0, (b, tt)), tt))))
  register_holds r (s ∷ ss) before mask ws l all b all_ws o = by before b o
    where
      by : (q : Option Wire) → May q → Outs (rows_of_register r (s ∷ ss) q mask ws) → Rows (rows_of_register r (s ∷ ss) q mask ws)
      by None m k = (
        (k.0, all),
        (
          (k.1.0, (l.running, (k.0, tt))),
          (
            (k.1.1.0, (l.not_test, (k.1.0, tt))),
            (
              (k.1.1.1.0, (k.1.0, (l.shifting, tt))),
              (
                (k.1.1.1.1.0, (k.0, tt)),
                (
                  (k.1.1.1.1.1.0, (l.running, (k.1.1.1.1.0, tt))),
                  ((k.1.1.1.1.1.1.0, picked_all P mask ws all_ws), ((k.1.1.1.1.1.1.1.0, (k.1.0, (k.1.1.1.1.1.1.0, tt))), ((k.1.1.1.1.1.1.1.1.0, tt), ((k.1.1.1.1.1.1.1.1.1.0, (k.1.1.1.1.1.1.1.0, (k.1.1.1.1.1.1.1.1.0, tt))), tt)))),
                ),
              ),
            ),
          ),
        ),
      )
      by (Some q) m k = (
        (k.0, all),
        (
          (k.1.0, (l.running, (k.0, tt))),
          (
            (k.1.1.0, (l.not_test, (k.1.0, tt))),
            (
              (k.1.1.1.0, (k.1.0, (l.shifting, tt))),
              (
                (k.1.1.1.1.0, (k.0, tt)),
                (
                  (k.1.1.1.1.1.0, (l.running, (k.1.1.1.1.0, tt))),
                  (
                    (k.1.1.1.1.1.1.0, picked_all P mask ws all_ws),
                    ((k.1.1.1.1.1.1.1.0, (k.1.0, (k.1.1.1.1.1.1.0, tt))), ((k.1.1.1.1.1.1.1.1.0, (l.shifting, (m, tt))), ((k.1.1.1.1.1.1.1.1.1.0, (k.1.1.1.1.1.1.1.0, (k.1.1.1.1.1.1.1.1.0, tt))), tt))),
                  ),
                ),
              ),
            ),
          ),
        ),
      )

  -- the mode lines of a register
  record Modes (r : ℕ) : Type 0 where
    latches : P (Latches r)
    takes : P (Takes r)
    codes : P (Codes r)
    first : P (First r)

  modes_of : (r : ℕ) (ss : List ℕ) (before : Option Wire) (mask : ℕ) (ws : List Wire) → Outs (rows_of_register r ss before mask ws) → Modes r
  modes_of r [] None mask ws o = record { latches = o.0; takes = o.1.0; codes = o.1.1.0; first = o.1.1.1.0 }
  modes_of r [] (Some q) mask ws o = record { latches = o.0; takes = o.1.0; codes = o.1.1.0; first = o.1.1.1.0 }
  modes_of r (s ∷ ss) None mask ws o = record { latches = o.1.1.0; takes = o.1.1.1.0; codes = o.1.1.1.1.1.0; first = o.1.1.1.1.1.1.1.1.1.0 }
  modes_of r (s ∷ ss) (Some q) mask ws o = record { latches = o.1.1.0; takes = o.1.1.1.0; codes = o.1.1.1.1.1.0; first = o.1.1.1.1.1.1.1.1.1.0 }

  -- the cells -----------------------------------------------------------------------

  abbrev Behind : ℕ → List Cell → Type 0
  Behind i [] = Unit {0}
  Behind i (c ∷ cs) = (is_behind c.kind ≡ true → P (Read i)) × Behind (suc i) cs

  read_of_kind : (k : Kind) (i : ℕ) → AllByRecursion P (cell_outs k i) → is_behind k ≡ true → P (Read i)
  read_of_kind Input i o t = o.1.1.1.1.1.1.0
  read_of_kind Cut i o t = o.1.1.1.1.1.1.1.0
  read_of_kind State i o t = absurd (cc t)
  read_of_kind Split i o t = absurd (cc t)
  read_of_kind Watch i o t = absurd (cc t)
  read_of_kind Output i o t = absurd (cc t)

  outs_here : (a : Netlist ℕ) (p : PlanValue) (r i : ℕ) (before : Wire) (c : Cell) (rest : List (Gate Wire)) → Outs (cell_rows a p r i before c ++ rest) → AllByRecursion P (cell_outs c.kind i)
  outs_here a p r i before c rest o = subst (AllByRecursion P) (outs_of_cell a p r i before c) (outs_front (cell_rows a p r i before c) rest o)

  behind_cells : (a : Netlist ℕ) (p : PlanValue) (r i : ℕ) (before : Wire) (cs more : List Cell) → Outs (rows_of_cells a p r i before cs) → Behind (i + length cs) more → Behind i (cs ++ more)
  behind_cells a p r i before [] more o rest = let e : i + 0 ≡ i = omega arith in subst (λ k. Behind k more) e rest
  behind_cells a p r i before (c ∷ cs) more o rest =
      let later = rows_of_cells a p r (suc i) (q_of i c) cs in
      let e : i + suc (length cs) ≡ suc i + length cs = omega arith in
      (read_of_kind c.kind i (outs_here a p r i before c later o), behind_cells a p r (suc i) (q_of i c) cs more (outs_back (cell_rows a p r i before c) later o) (subst (λ k. Behind k more) e rest))

  behind_all : (a : Netlist ℕ) (p : PlanValue) (r i : ℕ) (gs : List RegisterValue) → Outs (all_cells_from a p r i gs) → Behind i (flat_map (λ g. g.cells) gs)
  behind_all a p r i [] o = tt
  behind_all a p r i (g ∷ gs) o =
      let here = rows_of_cells a p r i (First r) g.cells in
      let later = all_cells_from a p (suc r) (i + length g.cells) gs in
      behind_cells a p r i (First r) g.cells (flat_map (λ k. k.cells) gs) (outs_front here later o) (behind_all a p (suc r) (i + length g.cells) gs (outs_back here later o))

  read_holds : (i : ℕ) (cs : List Cell) (net : ℕ) → P (Kept net) → Behind i cs → P (read_behind i cs net)
  read_holds i [] net kept b = kept
  read_holds i (c ∷ cs) net kept b = by (is_behind c.kind) refl (c.net == net) (read_holds (suc i) cs net kept b.1)
    where
      by : (t : Bool) → is_behind c.kind ≡ t → (u : Bool) → P (read_behind (suc i) cs net) → P (if t && u then Read i else read_behind (suc i) cs net)
      by true e true rest = b.0 e
      by true e false rest = rest
      by false e u rest = rest

  next_of_kind : (k : Kind) (i : ℕ) → AllByRecursion P (cell_outs k i) → P (Next i)
  next_of_kind Input i o = o.1.1.1.0
  next_of_kind State i o = o.1.1.1.1.0
  next_of_kind Split i o = o.1.1.1.1.0
  next_of_kind Cut i o = o.1.1.1.1.0
  next_of_kind Watch i o = o.1.1.0
  next_of_kind Output i o = o.1.1.0

  cells_ds : (a : Netlist ℕ) (p : PlanValue) (r i : ℕ) (before : Wire) (cs more : List Cell) → Outs (rows_of_cells a p r i before cs) → AllByRecursion P (map d_in (cell_flops (i + length cs) more)) → AllByRecursion P (map d_in (cell_flops i (cs ++ more)))
  cells_ds a p r i before [] more o rest = let e : i + 0 ≡ i = omega arith in subst (λ k. AllByRecursion P (map d_in (cell_flops k more))) e rest
  cells_ds a p r i before (c ∷ cs) more o rest =
      let later = rows_of_cells a p r (suc i) (q_of i c) cs in
      let e : i + suc (length cs) ≡ suc i + length cs = omega arith in
      (next_of_kind c.kind i (outs_here a p r i before c later o), cells_ds a p r (suc i) (q_of i c) cs more (outs_back (cell_rows a p r i before c) later o) (subst (λ k. AllByRecursion P (map d_in (cell_flops k more))) e rest))

  all_cells_ds : (a : Netlist ℕ) (p : PlanValue) (r i : ℕ) (gs : List RegisterValue) → Outs (all_cells_from a p r i gs) → AllByRecursion P (map d_in (cell_flops i (flat_map (λ g. g.cells) gs)))
  all_cells_ds a p r i [] o = tt
  all_cells_ds a p r i (g ∷ gs) o =
      let here = rows_of_cells a p r i (First r) g.cells in
      let later = all_cells_from a p (suc r) (i + length g.cells) gs in
      cells_ds a p r i (First r) g.cells (flat_map (λ k. k.cells) gs) (outs_front here later o) (all_cells_ds a p (suc r) (i + length g.cells) gs (outs_back here later o))

  xor_holds : (out : Wire) (ws : List Wire) → P out → AllByRecursion P ws → RowHolds (xor_row out ws)
  xor_holds out [] o h = (o, tt)
  xor_holds out (w ∷ ws) o h = (o, h)

  cell_holds : (k : Kind) (r i : ℕ) (before l : Wire) (net : ℕ) (taken : List Wire) → Modes r → P before → P l → P (q_by k net i) → P (Kept net) → P Test → P NotTest → AllByRecursion P taken → AllByRecursion P (cell_outs k i)
      → Rows (when (has_line k) (gate_row And (Line i) (Latches r ∷ l ∷ []) ∷ []) ++ (gate_row And (Chain i) (Takes r ∷ before ∷ [])
      ∷ (when (is_source k) (xor_row (Code i) taken ∷ gate_row And (Coded i) (Codes r ∷ Code i ∷ []) ∷ [])
      ++ (gate_row Xor (Next i) (next_terms k i)
      ∷ when (is_behind k) (gate_row And (InTest i) (Test ∷ Held i ∷ []) ∷ gate_row And (InNormal i) (NotTest ∷ Kept net ∷ []) ∷ gate_row Or (Read i) (InTest i ∷ InNormal i ∷ []) ∷ [])))))
  cell_holds Input r i before l net taken m b pl q kept test not_test all o = (
    (o.0, (m.takes, (b, tt))),
    (
      xor_holds (Code i) taken o.1.0 all,
      (
        (o.1.1.0, (m.codes, (o.1.0, tt))),
        ((o.1.1.1.0, (o.0, (o.1.1.0, tt))), ((o.1.1.1.1.0, (test, (q, tt))), ((o.1.1.1.1.1.0, (not_test, (kept, tt))), ((o.1.1.1.1.1.1.0, (o.1.1.1.1.0, (o.1.1.1.1.1.0, tt))), tt)))),
      ),
    ),
  )
  cell_holds State r i before l net taken m b pl q kept test not_test all o =
      ((o.0, (m.latches, (pl, tt))), ((o.1.0, (m.takes, (b, tt))), (xor_holds (Code i) taken o.1.1.0 all, ((o.1.1.1.0, (m.codes, (o.1.1.0, tt))), ((o.1.1.1.1.0, (o.0, (o.1.0, (o.1.1.1.0, tt)))), tt)))))
  cell_holds Split r i before l net taken m b pl q kept test not_test all o =
      ((o.0, (m.latches, (pl, tt))), ((o.1.0, (m.takes, (b, tt))), (xor_holds (Code i) taken o.1.1.0 all, ((o.1.1.1.0, (m.codes, (o.1.1.0, tt))), ((o.1.1.1.1.0, (o.0, (o.1.0, (o.1.1.1.0, tt)))), tt)))))
  cell_holds Cut r i before l net taken m b pl q kept test not_test all o = (
    (o.0, (m.latches, (pl, tt))),
    (
      (o.1.0, (m.takes, (b, tt))),
      (
        xor_holds (Code i) taken o.1.1.0 all,
        (
          (o.1.1.1.0, (m.codes, (o.1.1.0, tt))),
          (
            (o.1.1.1.1.0, (o.0, (o.1.0, (o.1.1.1.0, tt)))),
            ((o.1.1.1.1.1.0, (test, (q, tt))), ((o.1.1.1.1.1.1.0, (not_test, (kept, tt))), ((o.1.1.1.1.1.1.1.0, (o.1.1.1.1.1.0, (o.1.1.1.1.1.1.0, tt))), tt))),
          ),
        ),
      ),
    ),
  )
  cell_holds Watch r i before l net taken m b pl q kept test not_test all o = ((o.0, (m.latches, (pl, tt))), ((o.1.0, (m.takes, (b, tt))), ((o.1.1.0, (o.0, (o.1.0, tt))), tt)))
  cell_holds Output r i before l net taken m b pl q kept test not_test all o = ((o.0, (m.latches, (pl, tt))), ((o.1.0, (m.takes, (b, tt))), ((o.1.1.0, (o.0, (o.1.0, tt))), tt)))

  module _ (a : Netlist ℕ) (p : PlanValue) (h : HoldsOfDriven a p) (inside : (net : ℕ) → net < length (driven a) → d_of a.flops net < length (driven a)) where
    abbrev count : ℕ
    count = length (driven a)

    behind : Behind 0 (chain p)
    behind = behind_all a p 0 0 p.registers (o_cells a p h)

    read_of : (net : ℕ) → net < count → P (read p net)
    read_of net less = read_holds 0 (chain p) net (h.kept net less) behind

    line_holds : (k : Kind) (net : ℕ) → net < count → P (line_by k a p net)
    line_holds State net less = read_of (d_of a.flops net) (inside net less)
    line_holds Split net less = read_of (d_of a.flops net) (inside net less)
    line_holds Watch net less = read_of (d_of a.flops net) (inside net less)
    line_holds Cut net less = h.kept net less
    line_holds Output net less = h.kept net less
    line_holds Input net less = h.kept net less

    -- the registers, one after another
    registers_hold : (r i : ℕ) (before : Option Wire) (gs : List RegisterValue) → May before → AllByRecursion P (qs_from i (flat_map (λ g. g.cells) gs)) → Outs (registers_from p r i before gs) → Rows (registers_from p r i before gs)
    registers_hold r i before [] m all o = tt
    registers_hold r i before (g ∷ gs) m all o =
        let ws = qs_from i g.cells in
        let next = last_of before (map Some ws) in
        let here = rows_of_register r (sessions_of p r) before g.mask ws in
        let later = registers_from p (suc r) (i + length g.cells) next gs in
        let split = subst (AllByRecursion P) (qs_two i g.cells (flat_map (λ k. k.cells) gs)) all in
        let own = all_front P ws (qs_from (i + length g.cells) (flat_map (λ k. k.cells) gs)) split in
        let rest = all_back P ws (qs_from (i + length g.cells) (flat_map (λ k. k.cells) gs)) split in
        all_join RowHolds here later (register_holds r (sessions_of p r) before g.mask ws (lines a p h) (sessions_hold 0 p.sessions r (length p.sessions) (ring a p h) (omega arith)) m own (outs_front here later o))
        (registers_hold (suc r) (i + length g.cells) next gs (last_all May before (map Some ws) m (may_all ws own)) rest (outs_back here later o))

    -- the cells of a register, one after another
    cells_hold : (r i : ℕ) (before : Wire) (cs : List Cell) → Modes r → P before → AllByRecursion P (qs_from i cs) → AllByRecursion (λ (c : Cell). c.net < count) cs → Outs (rows_of_cells a p r i before cs) → Rows (rows_of_cells a p r i before cs)
    cells_hold r i before [] m b all on o = tt
    cells_hold r i before (c ∷ cs) m b all on o =
        let later = rows_of_cells a p r (suc i) (q_of i c) cs in
        all_join RowHolds (cell_rows a p r i before c) later
        (cell_holds c.kind r i before (line a p c) c.net (picked c.column (word_ahead p)) m b (line_holds c.kind c.net on.0) all.0 (h.kept c.net on.0) h.test (not_test_of a p h) (picked_all P c.column (word_ahead p) (ahead a p h)) (outs_here a p r i before c later o))
        (cells_hold r (suc i) (q_of i c) cs m all.0 all.1 on.1 (outs_back (cell_rows a p r i before c) later o))

    all_cells_hold : (r i : ℕ) (before : Option Wire) (gs : List RegisterValue) → Outs (registers_from p r i before gs) → AllByRecursion P (qs_from i (flat_map (λ g. g.cells) gs)) → AllByRecursion (λ (c : Cell). c.net < count) (flat_map (λ g. g.cells) gs)
        → Outs (all_cells_from a p r i gs) → Rows (all_cells_from a p r i gs)
    all_cells_hold r i before [] or all on o = tt
    all_cells_hold r i before (g ∷ gs) or all on o =
        let ws = qs_from i g.cells in
        let reg = rows_of_register r (sessions_of p r) before g.mask ws in
        let regs = registers_from p (suc r) (i + length g.cells) (last_of before (map Some ws)) gs in
        let m = modes_of r (sessions_of p r) before g.mask ws (outs_front reg regs or) in
        let here = rows_of_cells a p r i (First r) g.cells in
        let later = all_cells_from a p (suc r) (i + length g.cells) gs in
        let split = subst (AllByRecursion P) (qs_two i g.cells (flat_map (λ k. k.cells) gs)) all in
        all_join RowHolds here later
        (cells_hold r i (First r) g.cells m m.first (all_front P ws (qs_from (i + length g.cells) (flat_map (λ k. k.cells) gs)) split) (all_front (λ (c : Cell). c.net < count) g.cells (flat_map (λ k. k.cells) gs) on) (outs_front here later o))
        (all_cells_hold (suc r) (i + length g.cells) (last_of before (map Some ws)) gs (outs_back reg regs or) (all_back P ws (qs_from (i + length g.cells) (flat_map (λ k. k.cells) gs)) split) (all_back (λ (c : Cell). c.net < count) g.cells (flat_map (λ k. k.cells) gs) on) (outs_back here later o))

    -- all rows of the self-test
    pub rows_hold : AllByRecursion (λ (c : Cell). c.net < count) (chain p) → Rows (test_gates a p)
    rows_hold on =
        let ctl = controller p in
        let regs = registers_from p 0 0 None p.registers in
        let own = all_cells_from a p 0 0 p.registers in
        all_join RowHolds (ctl ++ regs) own (all_join RowHolds ctl regs (controller_holds a p h) (registers_hold 0 0 None p.registers tt (qs a p h) (o_registers a p h)))
        (all_cells_hold 0 0 None p.registers (o_registers a p h) (qs a p h) on (o_cells a p h))

    -- what all flip-flops take
    pub ds_hold : length (word_ahead p) ≡ p.degree → AllByRecursion P (map d_in (flops p))
    ds_hold long =
        let ends = cycle_rows (length p.sessions) ++ out_row (last_q p) ∷ [] in
        let rings = ring_rows (length p.sessions) in
        let phases = phase_rows (last_of Test (register_word p)) in
        let words = word_ds 0 p.degree (word_ahead p) long (outs_front (word_rows 0 (word_ahead p)) (phases ++ (rings ++ ends)) (o_two a p h)) in
        let ring = rings_ds (length p.sessions) (outs_front rings ends (o_four a p h)) in
        let cells = all_cells_ds a p 0 0 p.registers (o_cells a p h) in
        subst (AllByRecursion P) (sym (map_join d_in (word_flops 0 p.degree) (flop Phase PhaseNext ∷ (ring_flops 0 (length p.sessions) ++ cell_flops 0 (chain p)))))
        (all_join P (map d_in (word_flops 0 p.degree)) (PhaseNext ∷ map d_in (ring_flops 0 (length p.sessions) ++ cell_flops 0 (chain p))) words
        ((o_phases a p h).1.1.0, subst (AllByRecursion P) (sym (map_join d_in (ring_flops 0 (length p.sessions)) (cell_flops 0 (chain p)))) (all_join P (map d_in (ring_flops 0 (length p.sessions))) (map d_in (cell_flops 0 (chain p))) ring cells)))

    -- a gate of the original
    pub written_reads : (nets : List ℕ) → AllByRecursion (λ n. n < count) nets → AllByRecursion P (map (read p) nets)
    written_reads [] h = tt
    written_reads (n ∷ nets) h = (read_of n h.0, written_reads nets h.1)
