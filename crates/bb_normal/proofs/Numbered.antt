-- All numbers of nets in the written netlist are of 32 bits, where there are few enough cells, registers and sessions.
use Rattle.std.proofs.Common.{arith, ◌≡◌, ℕ, ◌+◌, ◌<◌, ◌/◌, ◌%◌, ◌^◌, zero, suc, List, [], ◌∷◌, ◌++◌, length, map, Bool, true, false, ◌&&◌, ◌==◌, if◌then◌else◌, refl, ap, ◌∙◌, Option, Some, None, IfSome, length-append}
use Rattle.std.specs.List.{AllByRecursion, flat_map}
use Rattle.bb_base.specs.Net.{Gate, Flop, Netlist}
use Rattle.bb_terms.proofs.Growth.{length_shifted}
use Rattle.bb_terms.specs.OnBits.{last_of, shifted, front}
use Rattle.bb_terms.specs.Controller.{register_word, word_from, word_ahead, low_row, out_row, word_rows, ring_rows, ring_rows_from, controller, last_q}
use Rattle.bb_terms.specs.Reads.{q_of, q_by, qs_from, read, read_behind}
use Rattle.bb_terms.specs.Registers.{pass_row, carry_row, rows_of_register, registers_from}
use Rattle.bb_terms.specs.Wires.{wire_label}
use Rattle.bb_terms.specs.declared.wire.Wire.{Wire}
use Rattle.bb_terms.specs.declared.wire.Wire.TheVariants.{Kept, Test, Init, So, Done, Feed, Ring, Code, First, Read}
use Rattle.bb_base.specs.Bits.{picked}
use Rattle.bb_terms.specs.Kinds.{is_behind}
use Rattle.bb_terms.specs.Lines.{d_of}
use Rattle.bb_terms.specs.Plan.{RegisterValue, PlanValue, chain, sessions_of, sessions_from, lists_register}
use Rattle.bb_terms.specs.declared.plan.Cell.{Cell}
use Rattle.bb_terms.specs.declared.kind.Kind.{Kind}
use Rattle.bb_terms.specs.declared.kind.Kind.TheVariants.{Input, State, Split, Cut, Watch, Output}
use Rattle.bb_written.specs.Cells.{word_flops, ring_flops, cell_flops, xor_row, cell_rows, rows_of_cells, all_cells_from}
use Rattle.bb_written.specs.Written.{test_gates, written_gate, written_netlist}
use Rattle.bb_written.proofs.Parts.{from_parts}
use Rattle.bb_base.proofs.Lists.{all_front, all_back, all_join, all_map_back}
use Rattle.bb_net.proofs.Renaming.{OfAllNets}

-- there are few enough of each
pub record AreFew (p : PlanValue) : Type 0 where
  pub degree : p.degree < 2 ^ 32
  pub cells : length (chain p) < 2 ^ 32
  pub registers : length p.registers < 2 ^ 32
  pub sessions : length p.sessions < 2 ^ 32

chosen_all : {T : Type 0} (F : T → Type 0) (m : ℕ) (xs : List T) → AllByRecursion F xs → AllByRecursion F (picked m xs)
chosen_all F m [] h = tt
chosen_all {T} F m (x ∷ xs) h = go (m % 2 == 1) (chosen_all F (m / 2) xs h.1)
  where
    go : (b : Bool) → AllByRecursion F (picked (m / 2) xs) → AllByRecursion F (if b then x ∷ picked (m / 2) xs else picked (m / 2) xs)
    go true k = (h.0, k)
    go false k = k

shifted_all : {T : Type 0} (F : T → Type 0) (x : T) (xs : List T) → F x → AllByRecursion F xs → AllByRecursion F (shifted x xs)
shifted_all F x [] e h = tt
shifted_all F x (y ∷ ys) e h = (e, shifted_all F y ys h.0 h.1)

front_all : {T : Type 0} (F : T → Type 0) (xs : List T) → AllByRecursion F xs → AllByRecursion F (front xs)
front_all F [] h = tt
front_all F (x ∷ xs) h = shifted_all F x xs h.0 h.1

last_all : {T : Type 0} (F : T → Type 0) (x : T) (xs : List T) → F x → AllByRecursion F xs → F (last_of x xs)
last_all F x [] e h = e
last_all F x (y ∷ ys) e h = last_all F y ys h.0 h.1

module _ (count : ℕ) where
  -- a net of the original is below the count, and an added net's number, where it has one, is of 32 bits
  abbrev pub IsNumbered : Wire → Type 0
  IsNumbered (Kept net) = net < count
  IsNumbered w = IfSome (wire_label w).1 (λ number. number < 2 ^ 32)

  abbrev pub RowNumbered : Gate Wire → Type 0
  RowNumbered g = IsNumbered g.out × AllByRecursion IsNumbered g.ins

  abbrev pub FlopNumbered : Flop Wire → Type 0
  FlopNumbered f = IsNumbered f.q × IsNumbered f.d

  abbrev pub StandsInside : Cell → Type 0
  StandsInside c = c.net < count

  abbrev MayNumbered : Option Wire → Type 0
  MayNumbered None = Unit {0}
  MayNumbered (Some w) = IsNumbered w

  some_all : (ws : List Wire) → AllByRecursion IsNumbered ws → AllByRecursion MayNumbered (map Some ws)
  some_all [] h = tt
  some_all (w ∷ ws) h = (h.0, some_all ws h.1)

  -- the controller ----------------------------------------------------------------

  word_numbered : (i k : ℕ) → i + k < 2 ^ 32 → AllByRecursion IsNumbered (word_from i k)
  word_numbered i zero h = tt
  word_numbered i (suc k) h = (omega (arith, h), word_numbered (suc i) k (omega (arith, h)))

  word_long : (i k : ℕ) → length (word_from i k) ≡ k
  word_long i zero = refl
  word_long i (suc k) = ap suc (word_long (suc i) k)

  word_rows_numbered : (i : ℕ) (ws : List Wire) → i + length ws < 2 ^ 32 → AllByRecursion IsNumbered ws → AllByRecursion RowNumbered (word_rows i ws)
  word_rows_numbered i [] h all = tt
  word_rows_numbered i (w ∷ ws) h all = ((omega (arith, h), (tt, (all.0, tt))), word_rows_numbered (suc i) ws (omega (arith, h)) all.1)

  low_numbered : (ws : List Wire) → AllByRecursion IsNumbered ws → RowNumbered (low_row ws)
  low_numbered [] h = (tt, tt)
  low_numbered (w ∷ ws) h = (tt, h)

  rings_from_numbered : (s k : ℕ) → suc (s + k) < 2 ^ 32 → AllByRecursion RowNumbered (ring_rows_from s k)
  rings_from_numbered s zero h = ((omega (arith, h), (omega (arith, h), (tt, tt))), ((omega (arith, h), (omega (arith, h), (omega (arith, h), tt))), ((omega (arith, h), (tt, (omega (arith, h), tt))), tt)))
  rings_from_numbered s (suc k) h = (
    (omega (arith, h), (omega (arith, h), (tt, tt))),
    ((omega (arith, h), (omega (arith, h), (tt, tt))), ((omega (arith, h), (omega (arith, h), (omega (arith, h), tt))), ((omega (arith, h), (tt, (omega (arith, h), tt))), rings_from_numbered (suc s) k (omega (arith, h))))),
  )

  rings_numbered : (k : ℕ) → k < 2 ^ 32 → AllByRecursion RowNumbered (ring_rows k)
  rings_numbered zero h = ((omega arith, tt), tt)
  rings_numbered (suc k) h = ((omega arith, (omega arith, (tt, tt))), ((omega arith, (tt, (omega arith, tt))), rings_from_numbered 0 k (omega (arith, h))))

  out_numbered : (q : Option Wire) → MayNumbered q → RowNumbered (out_row q)
  out_numbered None h = (tt, tt)
  out_numbered (Some w) h = (tt, (tt, (h, tt)))

  q_numbered : (i : ℕ) (k : Kind) (net : ℕ) → i < 2 ^ 32 → net < count → IsNumbered (q_by k net i)
  q_numbered i State net h n = n
  q_numbered i Split net h n = n
  q_numbered i Input net h n = h
  q_numbered i Cut net h n = h
  q_numbered i Watch net h n = h
  q_numbered i Output net h n = h

  qs_numbered : (i : ℕ) (cs : List Cell) → i + length cs < 2 ^ 32 → AllByRecursion StandsInside cs → AllByRecursion IsNumbered (qs_from i cs)
  qs_numbered i [] h n = tt
  qs_numbered i (c ∷ cs) h n = (q_numbered i c.kind c.net (omega (arith, h)) n.0, qs_numbered (suc i) cs (omega (arith, h)) n.1)

  controller_numbered : (p : PlanValue) → AreFew p → AllByRecursion StandsInside (chain p) → AllByRecursion RowNumbered (controller p)
  controller_numbered p few n =
      let bits : AllByRecursion IsNumbered (register_word p) = word_numbered 0 p.degree (omega (arith, few.degree)) in
      let ahead : AllByRecursion IsNumbered (word_ahead p) = shifted_all IsNumbered Feed (register_word p) tt bits in
      let long : length (word_ahead p) ≡ p.degree = length_shifted Feed (register_word p) ∙ word_long 0 p.degree in
      let last : MayNumbered (last_q p) = last_all MayNumbered None (map Some (qs_from 0 (chain p))) tt (some_all (qs_from 0 (chain p)) (qs_numbered 0 (chain p) (omega (arith, few.cells)) n)) in
      let over : length p.sessions < 2 ^ 32 = few.sessions in (
        (tt, (tt, tt)),
        (
          (tt, (tt, tt)),
          (
            (tt, (tt, (tt, tt))),
            (
              (tt, (tt, tt)),
              (
                (tt, chosen_all IsNumbered p.mask (register_word p) bits),
                (
                  low_numbered (front (register_word p)) (front_all IsNumbered (register_word p) bits),
                  (
                    (tt, (tt, (tt, tt))),
                    all_join RowNumbered (word_rows 0 (word_ahead p)) _ (word_rows_numbered 0 (word_ahead p) (omega (arith, few.degree, long)) ahead) (
                      (tt, (last_all IsNumbered Test (register_word p) tt bits, (tt, tt))),
                      (
                        (tt, (tt, (tt, tt))),
                        (
                          (tt, (tt, (tt, tt))),
                          (
                            (tt, (tt, (tt, tt))),
                            (
                              (tt, (tt, tt)),
                              all_join RowNumbered (ring_rows (length p.sessions)) _ (rings_numbered (length p.sessions) over) (
                                (tt, (over, tt)),
                                (
                                  (tt, (tt, (tt, tt))),
                                  ((tt, (tt, tt)), ((tt, (tt, (tt, tt))), ((tt, (tt, (tt, tt))), ((tt, (tt, (over, tt))), (out_numbered (last_q p) last, tt))))),
                                ),
                              ),
                            ),
                          ),
                        ),
                      ),
                    ),
                  ),
                ),
              ),
            ),
          ),
        ),
      )

  -- the registers -------------------------------------------------------------------

  sessions_numbered : (s : ℕ) (ss : List (List ℕ)) (r : ℕ) → s + length ss < 2 ^ 32 → AllByRecursion IsNumbered (map Ring (sessions_from s ss r))
  sessions_numbered s [] r h = tt
  sessions_numbered s (x ∷ ss) r h = by (lists_register r x) (sessions_numbered (suc s) ss r (omega (arith, h)))
    where
      by : (b : Bool) → AllByRecursion IsNumbered (map Ring (sessions_from (suc s) ss r)) → AllByRecursion IsNumbered (map Ring (if b then s ∷ sessions_from (suc s) ss r else sessions_from (suc s) ss r))
      by true rest = (omega (arith, h), rest)
      by false rest = rest

  pass_numbered : (r : ℕ) (q : Option Wire) → r < 2 ^ 32 → MayNumbered q → RowNumbered (pass_row r q)
  pass_numbered r None h e = (h, tt)
  pass_numbered r (Some w) h e = (h, (e, tt))

  carry_numbered : (r : ℕ) (q : Option Wire) → r < 2 ^ 32 → MayNumbered q → RowNumbered (carry_row r q)
  carry_numbered r None h e = (h, tt)
  carry_numbered r (Some w) h e = (h, (tt, (e, tt)))

  register_numbered : (r : ℕ) (ss : List ℕ) (before : Option Wire) (mask : ℕ) (qs : List Wire) → r < 2 ^ 32 → AllByRecursion IsNumbered (map Ring ss) → MayNumbered before → AllByRecursion IsNumbered qs
      → AllByRecursion RowNumbered (rows_of_register r ss before mask qs)
  register_numbered r [] before mask qs h rings b all = ((h, (tt, tt)), ((h, (tt, tt)), ((h, (tt, tt)), (pass_numbered r before h b, tt))))
  register_numbered r (s ∷ ss) before mask qs h rings b all = (
    (h, rings),
    (
      (h, (tt, (h, tt))),
      (
        (h, (tt, (h, tt))),
        (
          (h, (h, (tt, tt))),
          ((h, (h, tt)), ((h, (tt, (h, tt))), ((h, chosen_all IsNumbered mask qs all), ((h, (h, (h, tt))), (carry_numbered r before h b, ((h, (h, (h, tt))), tt)))))),
        ),
      ),
    ),
  )

  registers_numbered : (p : PlanValue) → AreFew p → (r i : ℕ) (before : Option Wire) (gs : List RegisterValue) → r + length gs < 2 ^ 32 → i + length (flat_map (λ g. g.cells) gs) < 2 ^ 32 → MayNumbered before → AllByRecursion StandsInside (flat_map (λ g. g.cells) gs)
      → AllByRecursion RowNumbered (registers_from p r i before gs)
  registers_numbered p few r i before [] h k b n = tt
  registers_numbered p few r i before (g ∷ gs) h k b n =
      let long : length (g.cells ++ flat_map (λ g. g.cells) gs) ≡ length g.cells + length (flat_map (λ g. g.cells) gs) = length-append g.cells (flat_map (λ g. g.cells) gs) in
      let qs = qs_numbered i g.cells (omega (arith, k, long)) (all_front StandsInside g.cells (flat_map (λ g. g.cells) gs) n) in
      all_join RowNumbered (rows_of_register r (sessions_of p r) before g.mask (qs_from i g.cells)) _
      (register_numbered r (sessions_of p r) before g.mask (qs_from i g.cells) (omega (arith, h)) (sessions_numbered 0 p.sessions r (omega (arith, few.sessions))) b qs)
      (registers_numbered p few (suc r) (i + length g.cells) _ gs (omega (arith, h)) (omega (arith, k, long)) (last_all MayNumbered before (map Some (qs_from i g.cells)) b (some_all (qs_from i g.cells) qs)) (all_back StandsInside g.cells (flat_map (λ g. g.cells) gs) n))

  -- the cells -----------------------------------------------------------------------

  read_from_numbered : (i : ℕ) (cs : List Cell) (net : ℕ) → i + length cs < 2 ^ 32 → net < count → IsNumbered (read_behind i cs net)
  read_from_numbered i [] net h n = n
  read_from_numbered i (c ∷ cs) net h n = by (is_behind c.kind && (c.net == net)) (read_from_numbered (suc i) cs net (omega (arith, h)) n)
    where
      by : (b : Bool) → IsNumbered (read_behind (suc i) cs net) → IsNumbered (if b then Read i else read_behind (suc i) cs net)
      by true rest = omega (arith, h)
      by false rest = rest

  read_numbered : (p : PlanValue) → AreFew p → (net : ℕ) → net < count → IsNumbered (read p net)
  read_numbered p few net n = read_from_numbered 0 (chain p) net (omega (arith, few.cells)) n

  -- what a flip-flop on a net takes, or the net itself
  d_inside : (flops : List (Flop ℕ)) (net : ℕ) → AllByRecursion (λ (f : Flop ℕ). f.d < count) flops → net < count → d_of flops net < count
  d_inside [] net all n = n
  d_inside (f ∷ flops) net all n = by (f.q == net) (d_inside flops net all.1 n)
    where
      by : (b : Bool) → d_of flops net < count → (if b then f.d else d_of flops net) < count
      by true rest = all.0
      by false rest = rest

  xor_numbered : (i : ℕ) (ws : List Wire) → i < 2 ^ 32 → AllByRecursion IsNumbered ws → RowNumbered (xor_row (Code i) ws)
  xor_numbered i [] h all = (h, tt)
  xor_numbered i (w ∷ ws) h all = (h, all)

  module _ (a : Netlist ℕ) (p : PlanValue) (few : AreFew p) (inside : OfAllNets (λ net. net < count) a) (cells_inside : AllByRecursion StandsInside (chain p)) where
    d_net : (net : ℕ) → net < count → d_of a.flops net < count
    d_net net n = d_inside a.flops net (weaken_to a.flops inside.flops) n
      where
        weaken_to : (fs : List (Flop ℕ)) → AllByRecursion (λ (f : Flop ℕ). f.q < count × f.d < count) fs → AllByRecursion (λ (f : Flop ℕ). f.d < count) fs
        weaken_to [] h = tt
        weaken_to (f ∷ fs) h = (h.0.1, weaken_to fs h.1)

    code_numbered : (i column : ℕ) → i < 2 ^ 32 → RowNumbered (xor_row (Code i) (picked column (word_ahead p)))
    code_numbered i column h =
        xor_numbered i (picked column (word_ahead p)) h (chosen_all IsNumbered column (word_ahead p) (shifted_all IsNumbered Feed (register_word p) tt (word_numbered 0 p.degree (omega (arith, few.degree)))))

    cell_numbered : (r i : ℕ) (before : Wire) (k : Kind) (net column : ℕ) → r < 2 ^ 32 → i < 2 ^ 32 → IsNumbered before → net < count → AllByRecursion RowNumbered (cell_rows a p r i before (record { kind = k; net = net; column = column }))
    cell_numbered r i before Input net column h e b n =
        ((e, (h, (b, tt))), (code_numbered i column e, ((e, (h, (e, tt))), ((e, (e, (e, tt))), ((e, (tt, (e, tt))), ((e, (tt, (n, tt))), ((e, (e, (e, tt))), tt)))))))
    cell_numbered r i before Cut net column h e b n =
        ((e, (h, (n, tt))), ((e, (h, (b, tt))), (code_numbered i column e, ((e, (h, (e, tt))), ((e, (e, (e, (e, tt)))), ((e, (tt, (e, tt))), ((e, (tt, (n, tt))), ((e, (e, (e, tt))), tt))))))))
    cell_numbered r i before State net column h e b n =
        ((e, (h, (read_numbered p few (d_of a.flops net) (d_net net n), tt))), ((e, (h, (b, tt))), (code_numbered i column e, ((e, (h, (e, tt))), ((e, (e, (e, (e, tt)))), tt)))))
    cell_numbered r i before Split net column h e b n =
        ((e, (h, (read_numbered p few (d_of a.flops net) (d_net net n), tt))), ((e, (h, (b, tt))), (code_numbered i column e, ((e, (h, (e, tt))), ((e, (e, (e, (e, tt)))), tt)))))
    cell_numbered r i before Watch net column h e b n = ((e, (h, (read_numbered p few (d_of a.flops net) (d_net net n), tt))), ((e, (h, (b, tt))), ((e, (e, (e, tt))), tt)))
    cell_numbered r i before Output net column h e b n = ((e, (h, (n, tt))), ((e, (h, (b, tt))), ((e, (e, (e, tt))), tt)))

    cells_numbered : (r i : ℕ) (before : Wire) (cs : List Cell) → r < 2 ^ 32 → i + length cs < 2 ^ 32 → IsNumbered before → AllByRecursion StandsInside cs → AllByRecursion RowNumbered (rows_of_cells a p r i before cs)
    cells_numbered r i before [] h k b n = tt
    cells_numbered r i before (c ∷ cs) h k b n =
        all_join RowNumbered (cell_rows a p r i before c) _ (cell_numbered r i before c.kind c.net c.column h (omega (arith, k)) b n.0)
        (cells_numbered r (suc i) (q_of i c) cs h (omega (arith, k)) (q_numbered i c.kind c.net (omega (arith, k)) n.0) n.1)

    all_cells_numbered : (r i : ℕ) (gs : List RegisterValue) → r + length gs < 2 ^ 32 → i + length (flat_map (λ g. g.cells) gs) < 2 ^ 32 → AllByRecursion StandsInside (flat_map (λ g. g.cells) gs) → AllByRecursion RowNumbered (all_cells_from a p r i gs)
    all_cells_numbered r i [] h k n = tt
    all_cells_numbered r i (g ∷ gs) h k n =
        let long : length (g.cells ++ flat_map (λ g. g.cells) gs) ≡ length g.cells + length (flat_map (λ g. g.cells) gs) = length-append g.cells (flat_map (λ g. g.cells) gs) in
        let few_cells : i + length g.cells < 2 ^ 32 = omega (arith, k, long) in
        let small : r < 2 ^ 32 = omega (arith, h) in
        all_join RowNumbered (rows_of_cells a p r i (First r) g.cells) _ (cells_numbered r i (First r) g.cells small few_cells small (all_front StandsInside g.cells (flat_map (λ g. g.cells) gs) n)) (all_cells_numbered (suc r) (i + length g.cells) gs (omega (arith, h)) (omega (arith, k, long)) (all_back StandsInside g.cells (flat_map (λ g. g.cells) gs) n))

    reads_numbered : (ns : List ℕ) → AllByRecursion (λ net. net < count) ns → AllByRecursion IsNumbered (map (read p) ns)
    reads_numbered [] h = tt
    reads_numbered (n ∷ ns) h = (read_numbered p few n h.0, reads_numbered ns h.1)

    pub rows_numbered : AllByRecursion RowNumbered (written_netlist a p).gates
    rows_numbered =
        all_join RowNumbered (map (written_gate p) a.gates) (test_gates a p) (all_map_back RowNumbered (λ (g : Gate ℕ). g.out < count × AllByRecursion (λ net. net < count) g.ins) (written_gate p) (λ g h. (h.0, reads_numbered g.ins h.1)) a.gates inside.gates)
        (from_parts RowNumbered a p (controller_numbered p few cells_inside) (registers_numbered p few 0 0 None p.registers (omega (arith, few.registers)) (omega (arith, few.cells)) tt cells_inside)
        (all_cells_numbered 0 0 p.registers (omega (arith, few.registers)) (omega (arith, few.cells)) cells_inside))

    word_flops_numbered : (i k : ℕ) → i + k < 2 ^ 32 → AllByRecursion FlopNumbered (word_flops i k)
    word_flops_numbered i zero h = tt
    word_flops_numbered i (suc k) h = ((omega (arith, h), omega (arith, h)), word_flops_numbered (suc i) k (omega (arith, h)))

    ring_flops_numbered : (s k : ℕ) → s + k < 2 ^ 32 → AllByRecursion FlopNumbered (ring_flops s k)
    ring_flops_numbered s zero h = ((omega (arith, h), omega (arith, h)), tt)
    ring_flops_numbered s (suc k) h = ((omega (arith, h), omega (arith, h)), ring_flops_numbered (suc s) k (omega (arith, h)))

    cell_flops_numbered : (i : ℕ) (cs : List Cell) → i + length cs < 2 ^ 32 → AllByRecursion StandsInside cs → AllByRecursion FlopNumbered (cell_flops i cs)
    cell_flops_numbered i [] h n = tt
    cell_flops_numbered i (c ∷ cs) h n = ((q_numbered i c.kind c.net (omega (arith, h)) n.0, omega (arith, h)), cell_flops_numbered (suc i) cs (omega (arith, h)) n.1)

    ports_numbered : (ns : List ℕ) (v w : Wire) → AllByRecursion (λ net. net < count) ns → IsNumbered v → IsNumbered w → AllByRecursion IsNumbered (map Kept ns ++ v ∷ w ∷ [])
    ports_numbered [] v w h x y = (x, (y, tt))
    ports_numbered (n ∷ ns) v w h x y = (h.0, ports_numbered ns v w h.1 x y)

    -- all nets of the written netlist
    pub all_numbered : OfAllNets IsNumbered (written_netlist a p)
    all_numbered = record {
      inputs = ports_numbered a.inputs Test Init inside.inputs tt tt;
      outputs = ports_numbered a.outputs So Done inside.outputs tt tt;
      gates = rows_numbered;
      flops = all_join FlopNumbered (word_flops 0 p.degree) _ (word_flops_numbered 0 p.degree (omega (arith, few.degree)))
          ((tt, tt), all_join FlopNumbered (ring_flops 0 (length p.sessions)) _ (ring_flops_numbered 0 (length p.sessions) (omega (arith, few.sessions))) (cell_flops_numbered 0 (chain p) (omega (arith, few.cells)) cells_inside));
    }
