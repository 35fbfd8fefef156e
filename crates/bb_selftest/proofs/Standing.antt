-- Nets that stand in the written netlist: what is read of nets, and lines.
use Rattle.std.proofs.Common.{◌≡◌, ◌⊎◌, inl, inr, ℕ, zero, suc, ◌+◌, ◌-◌, ◌<◌, ◌==◌, ◌&&◌, nat_lt, List, [], ◌∷◌, ◌++◌, length, map, Bool, true, false, if◌then◌else◌, refl, sym, ap, subst, ◌∙◌, arith, Contains, slice_get, Some}
use Rattle.std.proofs.lemmas.Bool.Decides.{nat_tests}
use Rattle.std.proofs.lemmas.List.Elements.{Contains-append_left, Contains-append_right}
use Rattle.std.specs.List.{flat_map}
use Rattle.bb_base.proofs.Contained.{here, there, either, none_in, contains_map, contains_at, place_of}
use Rattle.bb_base.proofs.Lists.{get_front, get_back}
use Rattle.bb_base.specs.declared.operator.Op.TheVariants.{And, Or, Xor}
use Rattle.bb_base.specs.Net.{Gate, Flop, Netlist, driven, reads, IsNetlist}
use Rattle.bb_terms.specs.Paths.{is_free}
use Rattle.bb_terms.proofs.FunctionLemmas.{driver_of}
use Rattle.bb_base.specs.Bits.{picked}
use Rattle.bb_terms.specs.declared.kind.Kind.{Kind}
use Rattle.bb_terms.specs.declared.kind.Kind.TheVariants.{Input, State, Split, Cut, Watch, Output}
use Rattle.bb_terms.specs.declared.plan.Cell.{Cell}
use Rattle.bb_terms.specs.Kinds.{is_source, is_flop, is_behind, has_line}
use Rattle.bb_terms.specs.Plan.{RegisterValue, PlanValue, chain}
use Rattle.bb_terms.specs.Rules.{Served, Holds, IsInput, IsQ}
use Rattle.bb_terms.proofs.ServedLemmas.{input_or_q}
use Rattle.bb_terms.proofs.StopLemmas.{gives_q}
use Rattle.bb_terms.specs.declared.wire.Wire.{Wire}
use Rattle.bb_terms.specs.declared.wire.Wire.TheVariants.{Kept, Test, Init, NotTest, Phase, PhaseNext, First, Latches, Takes, Codes, Line, Chain, Code, Coded, Next, InTest, InNormal, Read, Held}
use Rattle.bb_terms.specs.Reads.{q_by, q_of, read, read_behind, line}
use Rattle.bb_terms.specs.Controller.{gate_row, word_ahead}
use Rattle.bb_terms.specs.Registers.{control_rows}
use Rattle.bb_written.specs.Cells.{when, xor_row, next_terms, cell_rows, rows_of_cells, all_cells_from, flop, word_flops, ring_flops, cell_flops, flops}
use Rattle.bb_written.specs.Written.{test_gates, written_gate, written_netlist}
use Rattle.bb_selftest.specs.Segments.{IsNetOf}

-- nets of any netlist ---------------------------------------------------------

in_parts : {X Y : Type 0} (f : X → List Y) (xs : List X) (x : X) (y : Y) → Contains xs x → Contains (f x) y → Contains (flat_map f xs) y
in_parts f [] x y h part = absurd (none_in x h)
in_parts {X} {Y} f (z ∷ xs) x y h part = by (either z xs x h) (λ h. in_parts f xs x y h part)
  where
    by : (z ≡ x) ⊎ Contains xs x → (Contains xs x → Contains (flat_map f xs) y) → Contains (f z ++ flat_map f xs) y
    by (inl e) rest = Contains-append_left (f z) (flat_map f xs) y (subst (λ w. Contains (f w) y) (sym e) part)
    by (inr h) rest = Contains-append_right (f z) (flat_map f xs) y (rest h)

module _ {N : Type 0} (n : Netlist N) where
  pub input_has : (net : N) → Contains n.inputs net → IsNetOf n net
  input_has net c = Contains-append_left (driven n) (reads n) net (Contains-append_left n.inputs (map (λ (g : Gate N). g.out) n.gates ++ map (λ (f : Flop N). f.q) n.flops) net c)

  pub out_has : (g : Gate N) → Contains n.gates g → IsNetOf n g.out
  out_has g c =
      Contains-append_left (driven n) (reads n) g.out
      (Contains-append_right n.inputs (map (λ (g : Gate N). g.out) n.gates ++ map (λ (f : Flop N). f.q) n.flops) g.out
      (Contains-append_left (map (λ (g : Gate N). g.out) n.gates) (map (λ (f : Flop N). f.q) n.flops) g.out (contains_map (λ (g : Gate N). g.out) n.gates g c)))

  pub q_has : (f : Flop N) → Contains n.flops f → IsNetOf n f.q
  q_has f c =
      Contains-append_left (driven n) (reads n) f.q
      (Contains-append_right n.inputs (map (λ (g : Gate N). g.out) n.gates ++ map (λ (f : Flop N). f.q) n.flops) f.q
      (Contains-append_right (map (λ (g : Gate N). g.out) n.gates) (map (λ (f : Flop N). f.q) n.flops) f.q (contains_map (λ (f : Flop N). f.q) n.flops f c)))

  pub in_has : (g : Gate N) (net : N) → Contains n.gates g → Contains g.ins net → IsNetOf n net
  in_has g net c i =
      Contains-append_right (driven n) (reads n) net
      (Contains-append_right n.outputs (flat_map (λ (g : Gate N). g.ins) n.gates ++ map (λ (f : Flop N). f.d) n.flops) net
      (Contains-append_left (flat_map (λ (g : Gate N). g.ins) n.gates) (map (λ (f : Flop N). f.d) n.flops) net (in_parts (λ (g : Gate N). g.ins) n.gates g net c i)))

-- what is read of a net -------------------------------------------------------

-- the symbol is what is read behind a cell on the net, of these cells, of which the first has number i
pub record ReadsBehind (i : ℕ) (cs : List Cell) (net : ℕ) (w : Wire) : Type 0 where
  pub place : ℕ
  pub cell : Cell
  pub at : slice_get cs place ≡ Some cell
  pub behind : is_behind cell.kind ≡ true
  pub on : cell.net ≡ net
  pub is : w ≡ Read (i + place)

-- no other logic reads it behind a cell, and it is read itself
pub record ReadsItself (cs : List Cell) (net : ℕ) (w : Wire) : Type 0 where
  pub none : (k : ℕ) (c : Cell) → slice_get cs k ≡ Some c → c.net ≡ net → is_behind c.kind ≡ false
  pub is : w ≡ Kept net

pub read_cases : (i : ℕ) (cs : List Cell) (net : ℕ) → ReadsBehind i cs net (read_behind i cs net) ⊎ ReadsItself cs net (read_behind i cs net)
read_cases i [] net = inr (record { none = λ k c at on. absurd (cc at); is = refl })
read_cases i (c ∷ cs) net = by (is_behind c.kind) refl (c.net == net) refl (read_cases (suc i) cs net)
  where
    later : (c.net ≡ net → is_behind c.kind ≡ false) → ReadsBehind (suc i) cs net (read_behind (suc i) cs net) ⊎ ReadsItself cs net (read_behind (suc i) cs net)
        → ReadsBehind i (c ∷ cs) net (read_behind (suc i) cs net) ⊎ ReadsItself (c ∷ cs) net (read_behind (suc i) cs net)
    later not (inl h) = let e : suc i + h.place ≡ i + suc h.place = omega arith in inl (record { place = suc h.place; cell = h.cell; at = h.at; behind = h.behind; on = h.on; is = h.is ∙ ap Read e })
    later not (inr h) = inr (record { none = none; is = h.is })
      where
        none : (k : ℕ) (d : Cell) → slice_get (c ∷ cs) k ≡ Some d → d.net ≡ net → is_behind d.kind ≡ false
        none zero d at on = let same : c ≡ d = cc at in subst (λ (e : Cell). e.net ≡ net → is_behind e.kind ≡ false) same not on
        none (suc k) d at on = h.none k d at on

    by : (b : Bool) → is_behind c.kind ≡ b → (t : Bool) → (c.net == net) ≡ t → ReadsBehind (suc i) cs net (read_behind (suc i) cs net) ⊎ ReadsItself cs net (read_behind (suc i) cs net)
        → ReadsBehind i (c ∷ cs) net (if b && t then Read i else read_behind (suc i) cs net) ⊎ ReadsItself (c ∷ cs) net (if b && t then Read i else read_behind (suc i) cs net)
    by true k true e rest = let z : i ≡ i + 0 = omega arith in inl (record { place = 0; cell = c; at = refl; behind = k; on = grind (arith, nat_tests, e); is = ap Read z })
    by true k false e rest = later (λ on. absurd (grind (arith, nat_tests, e, on))) rest
    by false k t e rest = later (λ on. k) rest

-- what is read of two nets differs
pub one_read : (p : PlanValue) (m n : ℕ) → read p m ≡ read p n → m ≡ n
one_read p m n e = by (read_cases 0 (chain p) m) (read_cases 0 (chain p) n)
  where
    by : ReadsBehind 0 (chain p) m (read p m) ⊎ ReadsItself (chain p) m (read p m) → ReadsBehind 0 (chain p) n (read p n) ⊎ ReadsItself (chain p) n (read p n) → m ≡ n
    by (inl h) (inl k) =
        let both : Read (0 + h.place) ≡ Read (0 + k.place) = sym h.is ∙ e ∙ k.is in
        let sums : 0 + h.place ≡ 0 + k.place = cc both in
        let places : h.place ≡ k.place = omega (arith, sums) in
        let cells : Some h.cell ≡ Some k.cell = sym h.at ∙ ap (slice_get (chain p)) places ∙ k.at in
        let cell : h.cell ≡ k.cell = cc cells in
        sym h.on ∙ ap (λ (c : Cell). c.net) cell ∙ k.on
    by (inl h) (inr k) = let both : Read (0 + h.place) ≡ Kept n = sym h.is ∙ e ∙ k.is in absurd (cc both)
    by (inr h) (inl k) = let both : Kept m ≡ Read (0 + k.place) = sym h.is ∙ e ∙ k.is in absurd (cc both)
    by (inr h) (inr k) = let both : Kept m ≡ Kept n = sym h.is ∙ e ∙ k.is in cc both

-- rows of cells ---------------------------------------------------------------

-- all rows of cell n stand among these
pub record HasRows (a : Netlist ℕ) (p : PlanValue) (n : ℕ) (c : Cell) (gates : List (Gate Wire)) : Type 0 where
  pub register : ℕ
  pub before : Wire
  pub each : (g : Gate Wire) → Contains (cell_rows a p register n before c) g → Contains gates g

module _ (a : Netlist ℕ) (p : PlanValue) where
  cells_rows : (r i : ℕ) (before : Wire) (cs : List Cell) (k n : ℕ) (c : Cell) → n ≡ i + k → slice_get cs k ≡ Some c → HasRows a p n c (rows_of_cells a p r i before cs)
  cells_rows r i before [] k n c e at = absurd (cc at)
  cells_rows r i before (d ∷ cs) zero n c e at =
      let same : d ≡ c = cc at in
      let number : n ≡ i = omega (arith, e) in
      record {
        register = r;
        before = before;
        each = λ g h. Contains-append_left (cell_rows a p r i before d) (rows_of_cells a p r (suc i) (q_of i d) cs) g (subst (λ (x : Cell). Contains (cell_rows a p r i before x) g) (sym same) (subst (λ m. Contains (cell_rows a p r m before c) g) number h));
      }
  cells_rows r i before (d ∷ cs) (suc k) n c e at =
      let rest = cells_rows r (suc i) (q_of i d) cs k n c (omega (arith, e)) at in
      record { register = rest.register; before = rest.before; each = λ g h. Contains-append_right (cell_rows a p r i before d) (rows_of_cells a p r (suc i) (q_of i d) cs) g (rest.each g h) }

  registers_rows : (r i : ℕ) (gs : List RegisterValue) (k n : ℕ) (c : Cell) → n ≡ i + k → slice_get (flat_map (λ (g : RegisterValue). g.cells) gs) k ≡ Some c → HasRows a p n c (all_cells_from a p r i gs)
  registers_rows r i [] k n c e at = absurd (cc at)
  registers_rows r i (f ∷ gs) k n c e at = by (nat_lt k (length f.cells)) refl (λ k e at. registers_rows (suc r) (i + length f.cells) gs k n c e at)
    where
      by : (b : Bool) → nat_lt k (length f.cells) ≡ b → ((k : ℕ) → n ≡ (i + length f.cells) + k → slice_get (flat_map (λ (g : RegisterValue). g.cells) gs) k ≡ Some c → HasRows a p n c (all_cells_from a p (suc r) (i + length f.cells) gs))
          → HasRows a p n c (all_cells_from a p r i (f ∷ gs))
      by true less rest =
          let own = cells_rows r i (First r) f.cells k n c e (sym (get_front f.cells (flat_map (λ (g : RegisterValue). g.cells) gs) k (grind (arith, nat_tests, less))) ∙ at) in
          record { register = own.register; before = own.before; each = λ g h. Contains-append_left (rows_of_cells a p r i (First r) f.cells) (all_cells_from a p (suc r) (i + length f.cells) gs) g (own.each g h) }
      by false more rest =
          let j : ℕ = k - length f.cells in
          let split : length f.cells + j ≡ k = grind (arith, nat_tests, more) in
          let place : slice_get (flat_map (λ (g : RegisterValue). g.cells) gs) j ≡ Some c =
          sym (get_back f.cells (flat_map (λ (g : RegisterValue). g.cells) gs) j) ∙ ap (slice_get (f.cells ++ flat_map (λ (g : RegisterValue). g.cells) gs)) split ∙ at in
          let later = rest j (omega (arith, e, split)) place in
          record { register = later.register; before = later.before; each = λ g h. Contains-append_right (rows_of_cells a p r i (First r) f.cells) (all_cells_from a p (suc r) (i + length f.cells) gs) g (later.each g h) }

  pub rows_stand : (i : ℕ) (c : Cell) → slice_get (chain p) i ≡ Some c → HasRows a p i c (written_netlist a p).gates
  rows_stand i c at =
      let rows = registers_rows 0 0 p.registers i i c (omega arith) at in
      record {
        register = rows.register;
        before = rows.before;
        each = λ g h. Contains-append_right (map (written_gate p) a.gates) (test_gates a p) g (Contains-append_right (control_rows p) (all_cells_from a p 0 0 p.registers) g (rows.each g h));
      }

  -- the gate that takes the line, and the one that gives what is read behind the cell
  line_row : (r i : ℕ) (before : Wire) (c : Cell) → has_line c.kind ≡ true → Contains (cell_rows a p r i before c) (gate_row And (Line i) (Latches r ∷ line a p c ∷ []))
  line_row r i before c has =
      let row : Gate Wire = gate_row And (Line i) (Latches r ∷ line a p c ∷ []) in
      Contains-append_left (when (has_line c.kind) (row ∷ [])) _ row (subst (λ b. Contains (when b (row ∷ [])) row) (sym has) (here row []))

  read_row : (r i : ℕ) (before : Wire) (c : Cell) → is_behind c.kind ≡ true → Contains (cell_rows a p r i before c) (gate_row Or (Read i) (InTest i ∷ InNormal i ∷ []))
  read_row r i before c is =
      let row : Gate Wire = gate_row Or (Read i) (InTest i ∷ InNormal i ∷ []) in
      let one : Gate Wire = gate_row And (InTest i) (Test ∷ Held i ∷ []) in
      let two : Gate Wire = gate_row And (InNormal i) (NotTest ∷ Kept c.net ∷ []) in
      let last : Contains (when (is_behind c.kind) (one ∷ two ∷ row ∷ [])) row = subst (λ b. Contains (when b (one ∷ two ∷ row ∷ [])) row) (sym is) (there one (two ∷ row ∷ []) row (there two (row ∷ []) row (here row []))) in
      Contains-append_right (when (has_line c.kind) (gate_row And (Line i) (Latches r ∷ line a p c ∷ []) ∷ [])) _ row
      (there (gate_row And (Chain i) (Takes r ∷ before ∷ [])) _ row
      (Contains-append_right (when (is_source c.kind) (xor_row (Code i) (picked c.column (word_ahead p)) ∷ gate_row And (Coded i) (Codes r ∷ Code i ∷ []) ∷ [])) _ row
      (there (gate_row Xor (Next i) (next_terms c.kind i)) (when (is_behind c.kind) (one ∷ two ∷ row ∷ [])) row last)))

  -- a line stands
  pub line_has : (i : ℕ) (c : Cell) → slice_get (chain p) i ≡ Some c → has_line c.kind ≡ true → IsNetOf (written_netlist a p) (line a p c)
  line_has i c at has =
      let rows = rows_stand i c at in
      let row : Gate Wire = gate_row And (Line i) (Latches rows.register ∷ line a p c ∷ []) in
      in_has (written_netlist a p) row (line a p c) (rows.each row (line_row rows.register i rows.before c has)) (there (Latches rows.register) (line a p c ∷ []) (line a p c) (here (line a p c) []))

  read_behind_has : (i : ℕ) (c : Cell) → slice_get (chain p) i ≡ Some c → is_behind c.kind ≡ true → IsNetOf (written_netlist a p) (Read i)
  read_behind_has i c at is =
      let rows = rows_stand i c at in
      let row : Gate Wire = gate_row Or (Read i) (InTest i ∷ InNormal i ∷ []) in
      out_has (written_netlist a p) row (rows.each row (read_row rows.register i rows.before c is))

  -- a gate of the original stands, and reads what is read of its inputs
  pub gate_there : (g : Gate ℕ) → Contains a.gates g → Contains (written_netlist a p).gates (written_gate p g)
  gate_there g c = Contains-append_left (map (written_gate p) a.gates) (test_gates a p) (written_gate p g) (contains_map (written_gate p) a.gates g c)

  kept_out_has : (g : Gate ℕ) → Contains a.gates g → IsNetOf (written_netlist a p) (Kept g.out)
  kept_out_has g c = out_has (written_netlist a p) (written_gate p g) (gate_there g c)

  -- a cell that is a flip-flop gives its net
  cell_q : (i : ℕ) (cs : List Cell) (k n : ℕ) (c : Cell) → n ≡ i + k → slice_get cs k ≡ Some c → Contains (cell_flops i cs) (flop (q_of n c) (Next n))
  cell_q i [] k n c e at = absurd (cc at)
  cell_q i (d ∷ cs) zero n c e at =
      let same : d ≡ c = cc at in
      let number : i ≡ n = omega (arith, e) in
      subst (λ m. Contains (flop (q_of i d) (Next i) ∷ cell_flops (suc i) cs) (flop (q_of m c) (Next m))) number (subst (λ (x : Cell). Contains (flop (q_of i d) (Next i) ∷ cell_flops (suc i) cs) (flop (q_of i x) (Next i))) same (here (flop (q_of i d) (Next i)) (cell_flops (suc i) cs)))
  cell_q i (d ∷ cs) (suc k) n c e at = there (flop (q_of i d) (Next i)) (cell_flops (suc i) cs) (flop (q_of n c) (Next n)) (cell_q (suc i) cs k n c (omega (arith, e)) at)

  flop_kept : (k : Kind) (net i : ℕ) → is_flop k ≡ true → q_by k net i ≡ Kept net
  flop_kept Input net i h = absurd (cc h)
  flop_kept State net i h = refl
  flop_kept Split net i h = refl
  flop_kept Cut net i h = absurd (cc h)
  flop_kept Watch net i h = absurd (cc h)
  flop_kept Output net i h = absurd (cc h)

  flop_has : (i : ℕ) (c : Cell) → slice_get (chain p) i ≡ Some c → is_flop c.kind ≡ true → IsNetOf (written_netlist a p) (Kept c.net)
  flop_has i c at is =
      let own : Flop Wire = flop (q_of i c) (Next i) in
      let stands : Contains (flops p) own =
      Contains-append_right (word_flops 0 p.degree) _ own
      (there (flop Phase PhaseNext) (ring_flops 0 (length p.sessions) ++ cell_flops 0 (chain p)) own
      (Contains-append_right (ring_flops 0 (length p.sessions)) (cell_flops 0 (chain p)) own (cell_q 0 (chain p) i i c (omega arith) at))) in
      subst (IsNetOf (written_netlist a p)) (flop_kept c.kind c.net i is) (q_has (written_netlist a p) own stands)

  module _ (fits : IsNetlist a) (served : Holds a p Served) where
    kept_has : (net : ℕ) → net < length (driven a) → IsNetOf (written_netlist a p) (Kept net)
    kept_has net within = by (is_free a.gates net) refl
      where
        of_free : IsInput a net ⊎ IsQ a net → IsNetOf (written_netlist a p) (Kept net)
        of_free (inl i) = input_has (written_netlist a p) (Kept net) (Contains-append_left (map Kept a.inputs) (Test ∷ Init ∷ []) (Kept net) (contains_map Kept a.inputs net (contains_at a.inputs i.0 net i.1)))
        of_free (inr q) =
            let c = gives_q a p q.1.0 fits served (contains_at a.flops q.0 q.1.0 q.1.1) in
            let at = place_of (chain p) c.0 c.1 in
            subst (λ n. IsNetOf (written_netlist a p) (Kept n)) (c.3 ∙ q.1.2) (flop_has at.0 c.0 at.1 c.2)

        by : (b : Bool) → is_free a.gates net ≡ b → IsNetOf (written_netlist a p) (Kept net)
        by true free = of_free (input_or_q a net fits within free)
        by false not_free = let d = driver_of net a.gates not_free in subst (λ n. IsNetOf (written_netlist a p) (Kept n)) d.2 (kept_out_has d.0 d.1)

    -- what is read of a net stands
    pub read_has : (net : ℕ) → net < length (driven a) → IsNetOf (written_netlist a p) (read p net)
    read_has net within = by (read_cases 0 (chain p) net)
      where
        by : ReadsBehind 0 (chain p) net (read p net) ⊎ ReadsItself (chain p) net (read p net) → IsNetOf (written_netlist a p) (read p net)
        by (inl h) = let e : h.place ≡ 0 + h.place = omega arith in subst (IsNetOf (written_netlist a p)) (ap Read e ∙ sym h.is) (read_behind_has h.place h.cell h.at h.behind)
        by (inr h) = subst (IsNetOf (written_netlist a p)) (sym h.is) (kept_has net within)
