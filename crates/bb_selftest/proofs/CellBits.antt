-- What stands in each cell in the cycles of a test, and what comes out.
use Rattle.std.proofs.Common.{◌≡◌, ◌⊎◌, inl, inr, ℕ, zero, suc, ◌+◌, ◌-◌, ◌*◌, ◌/◌, ◌%◌, ◌<◌, ◌≤◌, ◌++◌, ◌&&◌, ◌==◌, nat_lt, nat_le, take, get_or, Bool, true, false, if◌then◌else◌, List, [], ◌∷◌, length, map, refl, sym, ap, subst, ◌∙◌, arith, Option, None, Some, slice_get}
use Rattle.std.proofs.lemmas.Bool.Decides.{nat_tests}
use Rattle.std.proofs.lemmas.List.{length-append}
use Rattle.std.specs.List.{flat_map}
use Rattle.bb_base.specs.Booleans.{parity_of_bits}
use Rattle.bb_base.specs.Net.{Netlist}
use Rattle.bb_base.specs.Bits.{picked}
use Rattle.bb_base.specs.Parity.{code_of_bits}
use Rattle.bb_terms.specs.OnBits.{zeros, bits_after}
use Rattle.bb_terms.specs.declared.plan.Cell.{Cell}
use Rattle.bb_terms.specs.Kinds.{is_source}
use Rattle.bb_terms.specs.Plan.{RegisterValue, PlanValue, chain, compacts, IsCell}
use Rattle.bb_rules.proofs.CellLemmas.{cell_at}
use Rattle.bb_terms.specs.Reads.{q_of, qs_from}
use Rattle.bb_terms.specs.declared.wire.Wire.{Wire}
use Rattle.bb_terms.specs.declared.wire.Wire.TheVariants.{So, Done}
use Rattle.bb_written.specs.Modes.{EachRegister}
use Rattle.bb_written.specs.Trace.{IsTestTrace}
use Rattle.bb_testrun.specs.Control.{ReturnsAfter}
use Rattle.bb_testrun.specs.Held.{run_cycle_of, unload_cycle_of, signature_at, line_bits, held_by, held_from}
use Rattle.bb_testrun.proofs.RegisterSteps.{length_qs}
use Rattle.bb_testrun.proofs.RunLaws.{in_run, in_unload, out, walks, over, begins}
use Rattle.bb_testrun.proofs.OutLaws.{comes_out}
use Rattle.bb_selftest.specs.Signed.{IsRegisterAt}

-- a fact of each register holds of the one at a place
pub each_at : (F : ℕ → ℕ → RegisterValue → Type 0) (gs : List RegisterValue) (r i : ℕ) (before : Option Wire) (k : ℕ) (g : RegisterValue) → EachRegister (λ r i before g. F r i g) r i before gs → slice_get gs k ≡ Some g
    → F (r + k) (i + length (flat_map (λ (g : RegisterValue). g.cells) (take k gs))) g
each_at F [] r i before k g h at = absurd (cc at)
each_at F (x ∷ gs) r i before zero g h at =
    let same : x ≡ g = cc at in
    let number : r ≡ r + 0 = omega arith in
    let first : i ≡ i + 0 = omega arith in
    subst (λ y. F (r + 0) (i + 0) y) same (subst (λ n. F n (i + 0) x) number (subst (λ n. F r n x) first h.0))
each_at F (x ∷ gs) r i before (suc k) g h at =
    let rest = each_at F gs (suc r) (i + length x.cells) _ k g h.1 at in
    let number : suc r + k ≡ r + suc k = omega arith in
    let long = length-append x.cells (flat_map (λ (g : RegisterValue). g.cells) (take k gs)) in
    let first : (i + length x.cells) + length (flat_map (λ (g : RegisterValue). g.cells) (take k gs)) ≡ i + length (x.cells ++ flat_map (λ (g : RegisterValue). g.cells) (take k gs)) = omega (arith, long) in
    subst (λ n. F n (i + length (x.cells ++ flat_map (λ (g : RegisterValue). g.cells) (take k gs))) g) number (subst (λ n. F (suc r + k) n g) first rest)

-- the bit of a cell among those of all these cells
pub q_bit : (v : Wire → Bool) (i : ℕ) (cells : List Cell) (k : ℕ) (c : Cell) → slice_get cells k ≡ Some c → get_or (map v (qs_from i cells)) k false ≡ v (q_of (i + k) c)
q_bit v i [] k c at = absurd (cc at)
q_bit v i (d ∷ cells) zero c at = let same : d ≡ c = cc at in let first : i ≡ i + 0 = omega arith in λ j. v (q_of (first j) (same j))
q_bit v i (d ∷ cells) (suc k) c at = let next : suc i + k ≡ i + suc k = omega arith in q_bit v (suc i) cells k c at ∙ ap (λ n. v (q_of n c)) next

pub mapped_bit : {X : Type 0} (f : X → Bool) (xs : List X) (k : ℕ) (x : X) → slice_get xs k ≡ Some x → get_or (map f xs) k false ≡ f x
mapped_bit f [] k x at = absurd (cc at)
mapped_bit f (y ∷ xs) zero x at = let same : y ≡ x = cc at in ap f same
mapped_bit f (y ∷ xs) (suc k) x at = mapped_bit f xs k x at

-- the code bits of state 0 are 0
pub no_code : (column k : ℕ) → code_of_bits column (zeros k) ≡ false
no_code column zero = refl
no_code column (suc k) = by (column % 2 == 1) (no_code (column / 2) k)
  where
    by : (b : Bool) → parity_of_bits (picked (column / 2) (zeros k)) ≡ false → parity_of_bits (if b then false ∷ picked (column / 2) (zeros k) else picked (column / 2) (zeros k)) ≡ false
    by true rest = rest
    by false rest = rest

-- the cycles of all sessions are run cycles and unload cycles
abbrev pub InRun : ℕ → ℕ → ℕ → Type 0
InRun size c s = (t : ℕ) × (t < size) × (c ≡ 2 * s * size + t)

abbrev pub InUnload : ℕ → ℕ → ℕ → Type 0
InUnload size c s = (j : ℕ) × (j < size) × (c ≡ 2 * s * size + size + j)

pub session_of : (sessions size c : ℕ) → c < 2 * sessions * size → (s : ℕ) × (s < sessions) × (InRun size c s ⊎ InUnload size c s)
session_of zero size c less = absurd (omega (arith, less))
session_of (suc s) size c less = by (nat_lt c (2 * s * size)) refl (λ less. session_of s size c less)
  where
    all : 2 * suc s * size ≡ 2 * s * size + (size + size)
    all = grind arith

    late : (b : Bool) → nat_lt c (2 * s * size + size) ≡ b → 2 * s * size ≤ c → InRun size c s ⊎ InUnload size c s
    late true e least = inl (c - 2 * s * size, grind (arith, nat_tests, e, least), omega (arith, least))
    late false e least = inr (c - (2 * s * size + size), grind (arith, nat_tests, e, least, less, all), grind (arith, nat_tests, e))

    by : (b : Bool) → nat_lt c (2 * s * size) ≡ b → (c < 2 * s * size → (q : ℕ) × (q < s) × (InRun size c q ⊎ InUnload size c q)) → (q : ℕ) × (q < suc s) × (InRun size c q ⊎ InUnload size c q)
    by true e earlier = let h = earlier (grind (arith, nat_tests, e)) in let low = h.1 in (h.0, omega (arith, low), h.2)
    by false e earlier = let least : 2 * s * size ≤ c = grind (arith, nat_tests, e) in (s, omega arith, late (nat_lt c (2 * s * size + size)) refl least)

module _ (a : Netlist ℕ) (p : PlanValue) (size n : ℕ) (v : ℕ → Wire → Bool) (trace : IsTestTrace a p n v) (cycle : ReturnsAfter p.degree p.mask size) (fits : length (chain p) ≤ size) where
  -- what register r holds
  pub register_at : (s t i r : ℕ) (g : RegisterValue) → s < length p.sessions → t ≤ size → run_cycle_of size s t < n → IsRegisterAt p i r g → map (v (run_cycle_of size s t)) (qs_from i g.cells) ≡ held_by a p size v s t r g
  register_at s t i r g session least less is =
      let all = in_run a p size n v trace cycle fits s t session least less in
      let there = each_at (λ r i g. map (v (run_cycle_of size s t)) (qs_from i g.cells) ≡ held_by a p size v s t r g) p.registers 0 0 None r g all is.stands in
      let number : 0 + r ≡ r = omega arith in
      let first : 0 + length (flat_map (λ (g : RegisterValue). g.cells) (take r p.registers)) ≡ i = (let e = is.first in omega (arith, e)) in
      subst (λ k. map (v (run_cycle_of size s t)) (qs_from k g.cells) ≡ held_by a p size v s t r g) first
      (subst (λ q. map (v (run_cycle_of size s t)) (qs_from (0 + length (flat_map (λ (g : RegisterValue). g.cells) (take r p.registers))) g.cells) ≡ held_by a p size v s t q g) number there)

  pub signed_at : (s t i r : ℕ) (g : RegisterValue) → s < length p.sessions → t ≤ size → run_cycle_of size s t < n → IsRegisterAt p i r g → compacts p.sessions r s ≡ true
      → map (v (run_cycle_of size s t)) (qs_from i g.cells) ≡ signature_at (length g.cells) g.mask (line_bits a p size v s g.cells) t
  signed_at s t i r g session least less is h =
      register_at s t i r g session least less is
      ∙ ap (λ b. if b then signature_at (length g.cells) g.mask (line_bits a p size v s g.cells) t else map (λ c. is_source c.kind && code_of_bits c.column (bits_after p.degree p.mask t)) g.cells) h

  -- what a cell of a register that generates holds
  pub coded_at : (s t i r : ℕ) (c : Cell) → s < length p.sessions → t ≤ size → run_cycle_of size s t < n → IsCell p i r c → compacts p.sessions r s ≡ false
      → v (run_cycle_of size s t) (q_of i c) ≡ (is_source c.kind && code_of_bits c.column (bits_after p.degree p.mask t))
  coded_at s t i r c session least less cell h =
      let g = cell.register in
      let first : ℕ = length (flat_map (λ (g : RegisterValue). g.cells) (take r p.registers)) in
      let at_register : IsRegisterAt p first r g = record { stands = cell.stands; first = refl } in
      let bits = register_at s t first r g session least less at_register
      ∙ ap (λ b. if b then signature_at (length g.cells) g.mask (line_bits a p size v s g.cells) t else map (λ c. is_source c.kind && code_of_bits c.column (bits_after p.degree p.mask t)) g.cells) h in
      ap (λ k. v (run_cycle_of size s t) (q_of k c)) cell.number ∙ sym (q_bit (v (run_cycle_of size s t)) first g.cells cell.place c cell.at) ∙ ap (λ bs. get_or bs cell.place false) bits
      ∙ mapped_bit (λ (c : Cell). is_source c.kind && code_of_bits c.column (bits_after p.degree p.mask t)) g.cells cell.place c cell.at

  -- the chain as the unloading begins
  chain_at : (s : ℕ) → s < length p.sessions → unload_cycle_of size s 0 < n → map (v (unload_cycle_of size s 0)) (qs_from 0 (chain p)) ≡ held_from a p size v s 0 p.registers
  chain_at s session less = in_unload a p size n v trace cycle fits s 0 session (omega arith) less

  long_at : (s : ℕ) → s < length p.sessions → unload_cycle_of size s 0 < n → length (held_from a p size v s 0 p.registers) ≡ length (chain p)
  long_at s session less = ap length (sym (chain_at s session less)) ∙ length_qs (v (unload_cycle_of size s 0)) 0 (chain p)

  begun : (s j : ℕ) → unload_cycle_of size s j < n → unload_cycle_of size s 0 < n
  begun s j less = omega (arith, less)

  -- what comes out is what the cell held as the unloading began
  pub shifted_out : (s j i r : ℕ) (c : Cell) → s < length p.sessions → IsCell p i r c → i + suc j ≡ length (chain p) → unload_cycle_of size s j < n
      → v (unload_cycle_of size s j) So ≡ v (unload_cycle_of size s 0) (q_of i c)
  shifted_out s j i r c session cell place less =
      let start = begun s j less in
      let long = long_at s session start in
      let within : j < length (held_from a p size v s 0 p.registers) = omega (arith, long, place) in
      let low : j < size = omega (arith, place, fits) in
      let index : length (held_from a p size v s 0 p.registers) - 1 - j ≡ i = omega (arith, long, place) in
      let number : 0 + i ≡ i = omega arith in
      (out a p size n v trace cycle fits s j session low less).0 ∙ (comes_out j (held_from a p size v s 0 p.registers)).bit within ∙ ap (λ k. get_or (held_from a p size v s 0 p.registers) k false) index
      ∙ ap (λ bs. get_or bs i false) (sym (chain_at s session start)) ∙ q_bit (v (unload_cycle_of size s 0)) 0 (chain p) i c (cell_at p i r c cell)
      ∙ ap (λ k. v (unload_cycle_of size s 0) (q_of k c)) number

  -- which is 0 where the register doesn't compact
  pub idle_out : (s i r : ℕ) (c : Cell) → s < length p.sessions → IsCell p i r c → unload_cycle_of size s 0 < n → compacts p.sessions r s ≡ false → v (unload_cycle_of size s 0) (q_of i c) ≡ false
  idle_out s i r c session cell less h =
      let same : unload_cycle_of size s 0 ≡ run_cycle_of size s size = omega arith in
      let there : run_cycle_of size s size < n = omega (arith, same, less) in
      ap (λ k. v k (q_of i c)) same ∙ coded_at s size i r c session (omega arith) there cell h ∙ ap (λ bs. is_source c.kind && code_of_bits c.column bs) cycle.back ∙ ap (λ b. is_source c.kind && b) (no_code c.column p.degree) ∙ none (is_source c.kind)
    where
      none : (b : Bool) → (b && false) ≡ false
      none true = refl
      none false = refl

  pub comes_at : (s j i r : ℕ) (c : Cell) → s < length p.sessions → IsCell p i r c → i + suc j ≡ length (chain p) → unload_cycle_of size s j < n
      → v (unload_cycle_of size s j) So ≡ (compacts p.sessions r s && v (unload_cycle_of size s 0) (q_of i c))
  comes_at s j i r c session cell place less = by (compacts p.sessions r s) refl
    where
      by : (b : Bool) → compacts p.sessions r s ≡ b → v (unload_cycle_of size s j) So ≡ (compacts p.sessions r s && v (unload_cycle_of size s 0) (q_of i c))
      by true h = shifted_out s j i r c session cell place less ∙ ap (λ b. b && v (unload_cycle_of size s 0) (q_of i c)) (sym h)
      by false h = shifted_out s j i r c session cell place less ∙ idle_out s i r c session cell (begun s j less) h ∙ ap (λ b. b && v (unload_cycle_of size s 0) (q_of i c)) (sym h)

  -- a cycle is an unload cycle of a cell, or 0 comes out
  abbrev pub UnloadsCell : ℕ → Type 0
  UnloadsCell c = (s : ℕ) × (j : ℕ) × (s < length p.sessions) × (j < length (chain p)) × (c ≡ unload_cycle_of size s j)

  pub quiet_at : (c : ℕ) → c < n → UnloadsCell c ⊎ (v c So ≡ false)
  quiet_at zero less = inr (begins a p n v trace less).0
  quiet_at (suc c) less = by (nat_lt c (2 * length p.sessions * size)) refl
    where
      none : (s j : ℕ) → s < length p.sessions → j < size → c ≡ 2 * s * size + size + j → length (chain p) ≤ j → v (suc c) So ≡ false
      none s j session low is past =
          let there : unload_cycle_of size s j < n = omega (arith, is, less) in
          let long = long_at s session (begun s j there) in
          let beyond : length (held_from a p size v s 0 p.registers) ≤ j = omega (arith, long, past) in
          ap (λ k. v (suc k) So) is ∙ (out a p size n v trace cycle fits s j session low there).0 ∙ (comes_out j (held_from a p size v s 0 p.registers)).none beyond

      in_session : (s : ℕ) → s < length p.sessions → InRun size c s ⊎ InUnload size c s → UnloadsCell (suc c) ⊎ (v (suc c) So ≡ false)
      in_session s session (inl h) =
          let is = h.2 in
          let there : run_cycle_of size s h.0 < n = omega (arith, is, less) in
          inr (ap (λ k. v (suc k) So) h.2 ∙ (walks a p size n v trace cycle s h.0 session h.1 there).3)
      in_session s session (inr h) = of (nat_lt h.0 (length (chain p))) refl
        where
          of : (b : Bool) → nat_lt h.0 (length (chain p)) ≡ b → UnloadsCell (suc c) ⊎ (v (suc c) So ≡ false)
          of true e = inl (s, h.0, session, grind (arith, nat_tests, e), ap suc h.2)
          of false e = inr (none s h.0 session h.1 h.2 (grind (arith, nat_tests, e)))

      by : (b : Bool) → nat_lt c (2 * length p.sessions * size) ≡ b → UnloadsCell (suc c) ⊎ (v (suc c) So ≡ false)
      by true e = let there = session_of (length p.sessions) size c (grind (arith, nat_tests, e)) in in_session there.0 there.1 there.2
      by false e = inr (over a p size n v trace cycle c (grind (arith, nat_tests, e)) less).1

  -- the end
  pub done_at : (c : ℕ) → c < n → v c Done ≡ nat_le (1 + 2 * length p.sessions * size) c
  done_at zero less = (begins a p n v trace less).1 ∙ sym (let none : nat_le (1 + 2 * length p.sessions * size) 0 ≡ false = grind (arith, nat_tests) in none)
  done_at (suc c) less = by (nat_lt c (2 * length p.sessions * size)) refl
    where
      in_session : (s : ℕ) → s < length p.sessions → InRun size c s ⊎ InUnload size c s → v (suc c) Done ≡ false
      in_session s session (inl h) =
          let is = h.2 in
          let there : run_cycle_of size s h.0 < n = omega (arith, is, less) in
          ap (λ k. v (suc k) Done) h.2 ∙ (walks a p size n v trace cycle s h.0 session h.1 there).4
      in_session s session (inr h) =
          let is = h.2 in
          let there : unload_cycle_of size s h.0 < n = omega (arith, is, less) in
          ap (λ k. v (suc k) Done) h.2 ∙ (out a p size n v trace cycle fits s h.0 session h.1 there).1

      by : (b : Bool) → nat_lt c (2 * length p.sessions * size) ≡ b → v (suc c) Done ≡ nat_le (1 + 2 * length p.sessions * size) (suc c)
      by true e =
          let there = session_of (length p.sessions) size c (grind (arith, nat_tests, e)) in
          let early : nat_le (1 + 2 * length p.sessions * size) (suc c) ≡ false = grind (arith, nat_tests, e) in
          in_session there.0 there.1 there.2 ∙ sym early
      by false e =
          let late : nat_le (1 + 2 * length p.sessions * size) (suc c) ≡ true = grind (arith, nat_tests, e) in
          (over a p size n v trace cycle c (grind (arith, nat_tests, e)) less).0 ∙ sym late
