-- What holds of each symbol in the controller's and the registers' rows holds of each symbol on which cells and flip-flops stand.
use Rattle.std.proofs.Common.{◌≡◌, ℕ, zero, suc, ◌+◌, ◌++◌, List, [], ◌∷◌, length, map, Option, Some, None, refl, ap, subst, ◌∙◌, arith}
use Rattle.std.specs.List.{AllByRecursion, range_with_len}
use Rattle.bb_base.proofs.Lists.{all_front, all_back, all_join, all_map_back, all_parts}
use Rattle.bb_base.specs.Net.{Gate}
use Rattle.bb_terms.specs.OnBits.{shifted, last_of}
use Rattle.bb_terms.specs.Plan.{PlanValue, RegisterValue, sessions_of}
use Rattle.bb_terms.specs.declared.wire.Wire.{Wire}
use Rattle.bb_terms.specs.declared.wire.Wire.TheVariants.{Test, NotTest, Running, Shifting, Feed, WordNext, PhaseNext, RingNext, Latches, Takes, Codes, First}
use Rattle.bb_terms.specs.Reads.{qs_from}
use Rattle.bb_terms.specs.Controller.{word_from, register_word, word_ahead, word_rows, start_rows, feed_rows, phase_rows, ring_rows, ring_rows_from, cycle_rows, out_row, last_q, controller}
use Rattle.bb_terms.specs.Registers.{rows_of_register, registers_from, control_rows}
use Rattle.bb_terms.specs.Numbering.{wires_in}
use Rattle.bb_ctl.specs.ControlNets.{next_wires, of_registers}

-- it holds of each symbol in a row
abbrev pub StandIn : (Wire → Type 0) → Gate Wire → Type 0
StandIn P g = AllByRecursion P (g.out ∷ g.ins)

-- the numbers from i on, so many
abbrev pub numbers_from : ℕ → ℕ → List ℕ
numbers_from i zero = []
numbers_from i (suc n) = i ∷ numbers_from (suc i) n

pub numbers_are : (i n : ℕ) → numbers_from i n ≡ range_with_len i n
numbers_are i zero = refl
numbers_are i (suc n) = let e : suc i ≡ i + 1 = omega arith in ap (λ ks. i ∷ ks) (numbers_are (suc i) n ∙ ap (λ k. range_with_len k n) e)

-- the symbols of the controller's and the registers' rows on which cells and flip-flops stand
pub record Stands (P : Wire → Type 0) (p : PlanValue) : Type 0 where
  pub modes : AllByRecursion P (Test ∷ NotTest ∷ Running ∷ Shifting ∷ [])
  pub word : AllByRecursion P (word_ahead p)
  pub next : AllByRecursion P (next_wires p)
  pub latches : AllByRecursion P (of_registers Latches p)
  pub takes : AllByRecursion P (of_registers Takes p)
  pub codes : AllByRecursion P (of_registers Codes p)
  pub first : AllByRecursion P (of_registers First p)

-- those of one register
pub record HasLines (P : Wire → Type 0) (r : ℕ) : Type 0 where
  pub latches : P (Latches r)
  pub takes : P (Takes r)
  pub codes : P (Codes r)
  pub first : P (First r)

module _ (P : Wire → Type 0) where
  word_stands : (i : ℕ) (ws : List Wire) → AllByRecursion (StandIn P) (word_rows i ws) → AllByRecursion P ws
  word_stands i [] h = tt
  word_stands i (w ∷ ws) h = (h.0.1.1.0, word_stands (suc i) ws h.1)

  word_next_stands : (i : ℕ) (ws : List Wire) → AllByRecursion (StandIn P) (word_rows i ws) → AllByRecursion P (map WordNext (numbers_from i (length ws)))
  word_next_stands i [] h = tt
  word_next_stands i (w ∷ ws) h = (h.0.0, word_next_stands (suc i) ws h.1)

  rings_stand : (s more : ℕ) → AllByRecursion (StandIn P) (ring_rows_from s more) → AllByRecursion P (map RingNext (numbers_from (suc s) (suc more)))
  rings_stand s zero h = (h.1.1.0.0, tt)
  rings_stand s (suc more) h = (h.1.1.1.0.0, rings_stand (suc s) more h.1.1.1.1)

  all_rings_stand : (sessions : ℕ) → AllByRecursion (StandIn P) (ring_rows sessions) → AllByRecursion P (map RingNext (numbers_from 0 (suc sessions)))
  all_rings_stand zero h = (h.0.0, tt)
  all_rings_stand (suc more) h = (h.1.0.0, rings_stand 0 more h.1.1)

  lines_stand : (r : ℕ) (sessions : List ℕ) (before : Option Wire) (mask : ℕ) (qs : List Wire) → AllByRecursion (StandIn P) (rows_of_register r sessions before mask qs) → HasLines P r
  lines_stand r [] None mask qs h = record { latches = h.0.0; takes = h.1.0.0; codes = h.1.1.0.0; first = h.1.1.1.0.0 }
  lines_stand r [] (Some q) mask qs h = record { latches = h.0.0; takes = h.1.0.0; codes = h.1.1.0.0; first = h.1.1.1.0.0 }
  lines_stand r (s ∷ sessions) before mask qs h = record { latches = h.1.1.0.0; takes = h.1.1.1.0.0; codes = h.1.1.1.1.1.0.0; first = h.1.1.1.1.1.1.1.1.1.0.0 }

  all_lines_stand : (p : PlanValue) (r i : ℕ) (before : Option Wire) (gs : List RegisterValue) → AllByRecursion (StandIn P) (registers_from p r i before gs) → AllByRecursion (HasLines P) (numbers_from r (length gs))
  all_lines_stand p r i before [] h = tt
  all_lines_stand p r i before (g ∷ gs) h =
      let own : List (Gate Wire) = rows_of_register r (sessions_of p r) before g.mask (qs_from i g.cells) in
      let after : Option Wire = last_of before (map Some (qs_from i g.cells)) in
      let others : List (Gate Wire) = registers_from p (suc r) (i + length g.cells) after gs in
      (lines_stand r (sessions_of p r) before g.mask (qs_from i g.cells) (all_front (StandIn P) own others h), all_lines_stand p (suc r) (i + length g.cells) after gs (all_back (StandIn P) own others h))

  of_each : (p : PlanValue) (wire : ℕ → Wire) → ((r : ℕ) → HasLines P r → P (wire r)) → AllByRecursion (HasLines P) (numbers_from 0 (length p.registers)) → AllByRecursion P (of_registers wire p)
  of_each p wire has h = subst (λ rs. AllByRecursion P (map wire rs)) (numbers_are 0 (length p.registers)) (all_map_back P (HasLines P) wire has (numbers_from 0 (length p.registers)) h)

  long_word : (x : Wire) (i n : ℕ) → length (shifted x (word_from i n)) ≡ n
  long_word x i zero = refl
  long_word x i (suc n) = ap suc (long_word _ (suc i) n)

  pub all_stand : (p : PlanValue) → AllByRecursion P (wires_in (control_rows p)) → Stands P p
  all_stand p h =
      let rows : AllByRecursion (StandIn P) (control_rows p) = all_parts P (λ g. g.out ∷ g.ins) (control_rows p) h in
      let control = all_front (StandIn P) (controller p) (registers_from p 0 0 None p.registers) rows in
      let last : Wire = last_of Test (register_word p) in
      let sessions : ℕ = length p.sessions in
      let ends : List (Gate Wire) = out_row (last_q p) ∷ [] in
      let cycles : List (Gate Wire) = cycle_rows sessions ++ ends in
      let rings : List (Gate Wire) = ring_rows sessions ++ cycles in
      let phases : List (Gate Wire) = phase_rows last ++ rings in
      let words : List (Gate Wire) = word_rows 0 (word_ahead p) ++ phases in
      let feeds : List (Gate Wire) = feed_rows p.mask (register_word p) ++ words in
      let start = all_front (StandIn P) start_rows feeds control in
      let behind_start = all_back (StandIn P) start_rows feeds control in
      let behind_feed = all_back (StandIn P) (feed_rows p.mask (register_word p)) words behind_start in
      let word = all_front (StandIn P) (word_rows 0 (word_ahead p)) phases behind_feed in
      let behind_word = all_back (StandIn P) (word_rows 0 (word_ahead p)) phases behind_feed in
      let phase = all_front (StandIn P) (phase_rows last) rings behind_word in
      let behind_phase = all_back (StandIn P) (phase_rows last) rings behind_word in
      let ring = all_front (StandIn P) (ring_rows sessions) cycles behind_phase in
      let cycle = all_front (StandIn P) (cycle_rows sessions) ends (all_back (StandIn P) (ring_rows sessions) cycles behind_phase) in
      let lines = all_lines_stand p 0 0 None p.registers (all_back (StandIn P) (controller p) (registers_from p 0 0 None p.registers) rows) in
      let one_more : suc sessions ≡ sessions + 1 = omega arith in
      record {
        modes = (start.1.0.1.0, (start.1.0.0, (cycle.1.1.1.0.0, (cycle.1.1.1.1.0.0, tt))));
        word = word_stands 0 (word_ahead p) word;
        next = all_join P (map WordNext (range_with_len 0 p.degree)) (PhaseNext ∷ map RingNext (range_with_len 0 (sessions + 1)))
            (subst (λ ks. AllByRecursion P (map WordNext ks)) (ap (numbers_from 0) (long_word Feed 0 p.degree) ∙ numbers_are 0 p.degree) (word_next_stands 0 (word_ahead p) word))
            (phase.1.1.0.0, subst (λ ks. AllByRecursion P (map RingNext ks)) (ap (numbers_from 0) one_more ∙ numbers_are 0 (sessions + 1)) (all_rings_stand sessions ring));
        latches = of_each p Latches (λ r h. h.latches) lines;
        takes = of_each p Takes (λ r h. h.takes) lines;
        codes = of_each p Codes (λ r h. h.codes) lines;
        first = of_each p First (λ r h. h.first) lines;
      }
