-- the induction over all cycles of a test run
use Rattle.std.proofs.Common.{◌≡◌, ℕ, ◌+◌, ◌*◌, ◌/◌, ◌%◌, ◌<◌, ◌≤◌, zero, suc, min, List, [], ◌∷◌, length, map, Bool, true, false, not, ◌&&◌, ◌==◌, if◌then◌else◌, refl, sym, ap, subst, ◌∙◌, arith, Option, None}
use Rattle.std.proofs.lemmas.Bool.Decides.{nat_tests}
use Rattle.bb_base.specs.Net.{Netlist}
use Rattle.bb_base.specs.Run.{Meets}
use Rattle.bb_terms.specs.OnBits.{shifted, next_bits, zeros, bits_after}
use Rattle.bb_terms.specs.Controller.{register_word, word_ahead, controller, last_q}
use Rattle.bb_terms.specs.Reads.{qs_from}
use Rattle.bb_terms.specs.Registers.{registers_from}
use Rattle.bb_terms.specs.declared.wire.Wire.{Wire}
use Rattle.bb_terms.specs.declared.wire.Wire.TheVariants.{Test, Init, NotTest, Go, Feed, Running, Shifting, Ring, Phase, So, Done}
use Rattle.bb_base.specs.Bits.{picked}
use Rattle.bb_base.specs.Booleans.{parity_of_bits}
use Rattle.bb_terms.specs.Kinds.{is_source}
use Rattle.bb_terms.specs.Plan.{RegisterValue, PlanValue, compacts}
use Rattle.bb_terms.specs.declared.plan.Cell.{Cell}
use Rattle.bb_written.specs.Cells.{word_flops, ring_flops}
use Rattle.bb_testrun.specs.Control.{control_after, ControlHolds, ReturnsAfter}
use Rattle.bb_testrun.specs.Held.{signature_at, run_cycle_of, line_bits, held_by}
use Rattle.bb_base.specs.Parity.{code_of_bits}
use Rattle.bb_written.specs.Modes.{is_on, bit_or_zero, EachRegister, PartMeets}
use Rattle.bb_written.specs.Trace.{TakesBit, IsTestTrace}
use Rattle.bb_base.proofs.Lists.{all_front, all_back}
use Rattle.bb_written.proofs.CellLines.{parts}
use Rattle.bb_testrun.proofs.ControlLines.{lines, step_holds, init_holds, shifted_map}
use Rattle.bb_testrun.proofs.Phases.{At, running}
use Rattle.bb_testrun.proofs.RegisterSteps.{each_map, each_both, takes_each}
use Rattle.bb_testrun.proofs.Steps.{Loaded, runs_on, on_there}
use Rattle.bb_written.proofs.Parts.{rows_meet}

-- a cycle of the test in which session s runs or is unloaded
pub record Now (a : Netlist ℕ) (p : PlanValue) (v : Wire → Bool) (s : ℕ) (late : Bool) (xs : List Bool) : Type 0 where
  pub normal : v NotTest ≡ false
  pub running : v Running ≡ not late
  pub shifting : v Shifting ≡ late
  pub done : v Done ≡ false
  pub words : map v (register_word p) ≡ xs
  pub coming : map v (word_ahead p) ≡ next_bits p.mask xs
  pub hot : (j : ℕ) → j < length p.sessions → v (Ring j) ≡ (j == s)
  pub so : v So ≡ (late && bit_or_zero v (last_q p))
  pub each : EachRegister (PartMeets a p v) 0 0 None p.registers

pub holds_at : (a : Netlist ℕ) (p : PlanValue) (n : ℕ) (v : ℕ → Wire → Bool) → IsTestTrace a p n v → (c : ℕ) → suc c < n → ControlHolds p (v (suc c)) (control_after p.degree p.mask c)
holds_at a p n v h zero lt =
    init_holds p (v 0) (v 1) (lines p (v 0) (all_front (Meets (v 0)) (controller p) _ (rows_meet a p n v h 0 (omega arith)))) (h.start (omega arith)).1 (h.trace.flops_take 0 lt)
holds_at a p n v h (suc c) lt =
    step_holds p (v (suc c)) (v (suc (suc c))) (control_after p.degree p.mask c) (lines p (v (suc c)) (all_front (Meets (v (suc c))) (controller p) _ (rows_meet a p n v h (suc c) (omega arith))))
    (h.later c (omega arith)).0 (h.later c (omega arith)).1 (h.trace.flops_take (suc c) lt) (holds_at a p n v h c (omega arith))

pub parts_at : (a : Netlist ℕ) (p : PlanValue) (n : ℕ) (v : ℕ → Wire → Bool) → IsTestTrace a p n v → (c : ℕ) → c < n → EachRegister (PartMeets a p (v c)) 0 0 None p.registers
parts_at a p n v h c lt =
    let rest = all_back (Meets (v c)) (controller p) _ (rows_meet a p n v h c lt) in
    parts a p (v c) 0 0 None p.registers (all_front (Meets (v c)) (registers_from p 0 0 None p.registers) _ rest) (all_back (Meets (v c)) (registers_from p 0 0 None p.registers) _ rest)

pub loaded_at : (a : Netlist ℕ) (p : PlanValue) (n : ℕ) (v : ℕ → Wire → Bool) → IsTestTrace a p n v → (c : ℕ) → suc c < n → EachRegister (λ r i before g. Loaded (v c) (v (suc c)) i g) 0 0 None p.registers
loaded_at a p n v h c lt =
    takes_each (v c) (v (suc c)) 0 0 None p.registers (all_back (TakesBit (v c) (v (suc c))) (ring_flops 0 (length p.sessions)) _ (all_back (TakesBit (v c) (v (suc c))) (word_flops 0 p.degree) _ (h.trace.flops_take c lt)).1)

ring_below : (j s S : ℕ) → s < S → (j == min s S) ≡ (j == s)
ring_below j s S h = grind (arith, nat_tests)

ring_end : (s S : ℕ) → s < S → (S == min s S) ≡ false
ring_end s S h = grind (arith, nat_tests)

is_on_line : (x go end late : Bool) → go ≡ true → end ≡ false → x ≡ ((go && not end) && not late) → x ≡ not late
is_on_line x go end late h k e = grind arith

is_off_line : (x go end late : Bool) → go ≡ true → end ≡ false → x ≡ ((go && not end) && late) → x ≡ late
is_off_line x go end late h k e = grind arith

no_done : (d go end : Bool) → end ≡ false → d ≡ (go && end) → d ≡ false
no_done d go end h e = grind arith

pub go_is : (go t i : Bool) → t ≡ true → i ≡ false → go ≡ (t && not i) → go ≡ true
go_is go t i h k e = grind arith

pub now : (a : Netlist ℕ) (p : PlanValue) (n : ℕ) (v : ℕ → Wire → Bool) → IsTestTrace a p n v → (c s : ℕ) (late : Bool) (xs : List Bool) → suc c < n → s < length p.sessions → At (control_after p.degree p.mask c) xs late s
    → Now a p (v (suc c)) s late xs
now a p n v h c s late xs lt more at =
    let l = lines p (v (suc c)) (all_front (Meets (v (suc c))) (controller p) _ (rows_meet a p n v h (suc c) lt)) in
    let k = holds_at a p n v h c lt in
    let go = go_is (v (suc c) Go) (v (suc c) Test) (v (suc c) Init) (h.later c lt).0 (h.later c lt).1 l.go in
    let ph : v (suc c) Phase ≡ late = k.late ∙ at.late_is in
    let words : map (v (suc c)) (register_word p) ≡ xs = k.xs ∙ at.xs_are in
    let ring : (j : ℕ) → j ≤ length p.sessions → v (suc c) (Ring j) ≡ (j == min s (length p.sessions)) = λ j hi. k.ring j hi ∙ ap (λ r. j == min r (length p.sessions)) at.ring_is in
    let end : v (suc c) (Ring (length p.sessions)) ≡ false = ring (length p.sessions) (omega arith) ∙ ring_end s (length p.sessions) more in
    let sh : v (suc c) Shifting ≡ late = is_off_line (v (suc c) Shifting) (v (suc c) Go) (v (suc c) (Ring (length p.sessions))) late go end (l.shifting ∙ (λ j. (v (suc c) Go && not (v (suc c) (Ring (length p.sessions)))) && ph j)) in
    record {
      normal = l.normal ∙ ap not (h.later c lt).0;
      running = is_on_line (v (suc c) Running) (v (suc c) Go) (v (suc c) (Ring (length p.sessions))) late go end (l.running ∙ (λ j. (v (suc c) Go && not (v (suc c) (Ring (length p.sessions)))) && not (ph j)));
      shifting = sh;
      done = no_done (v (suc c) Done) (v (suc c) Go) (v (suc c) (Ring (length p.sessions))) end l.done;
      words = words;
      coming = shifted_map (v (suc c)) Feed (register_word p) ∙ (λ j. shifted (l.first j) (map (v (suc c)) (register_word p))) ∙ (λ j. next_bits p.mask (words j));
      hot = λ j lo. ring j (omega arith) ∙ ring_below j s (length p.sessions) more;
      so = l.so ∙ ap (λ b. b && bit_or_zero (v (suc c)) (last_q p)) sh;
      each = parts_at a p n v h (suc c) lt;
    }

is_on_now : (a : Netlist ℕ) (p : PlanValue) (v : Wire → Bool) (s : ℕ) (late : Bool) (xs : List Bool) → Now a p v s late xs → (r : ℕ) → is_on p v r ≡ compacts p.sessions r s
is_on_now a p v s late xs k r = on_there v 0 s s r p.sessions (λ j lo hi. k.hot j (omega arith)) (omega arith)

code_zeros : (c k : ℕ) → code_of_bits c (zeros k) ≡ false
code_zeros c zero = refl
code_zeros c (suc k) = go (c % 2 == 1) (code_zeros (c / 2) k)
  where
    go : (b : Bool) → code_of_bits (c / 2) (zeros k) ≡ false → parity_of_bits (if b then false ∷ picked (c / 2) (zeros k) else picked (c / 2) (zeros k)) ≡ false
    go true e = e
    go false e = e

no_codes : (k : ℕ) (cs : List Cell) → map (λ c. is_source c.kind && code_of_bits c.column (zeros k)) cs ≡ zeros (length cs)
no_codes k [] = refl
no_codes k (c ∷ cs) = let rest = no_codes k cs in λ j. (ap (λ b. is_source c.kind && b) (code_zeros c.column k) ∙ no (is_source c.kind)) j ∷ rest j
  where
    no : (b : Bool) → (b && false) ≡ false
    no true = refl
    no false = refl

abbrev pub AllZero : (Wire → Bool) → ℕ → ℕ → Option Wire → RegisterValue → Type 0
AllZero v r i before g = map v (qs_from i g.cells) ≡ zeros (length g.cells)

held_start : (a : Netlist ℕ) (p : PlanValue) (size : ℕ) (v : ℕ → Wire → Bool) (s r : ℕ) (g : RegisterValue) → held_by a p size v s 0 r g ≡ zeros (length g.cells)
held_start a p size v s r g = by (compacts p.sessions r s)
  where
    by : (b : Bool) → (if b then signature_at (length g.cells) g.mask (line_bits a p size v s g.cells) 0 else map (λ c. is_source c.kind && code_of_bits c.column (bits_after p.degree p.mask 0)) g.cells) ≡ zeros (length g.cells)
    by true = refl
    by false = no_codes p.degree g.cells

pub held_at : (a : Netlist ℕ) (p : PlanValue) (size n : ℕ) (v : ℕ → Wire → Bool) → IsTestTrace a p n v → ReturnsAfter p.degree p.mask size → (s t : ℕ) → s < length p.sessions → t ≤ size → run_cycle_of size s t < n
    → EachRegister (AllZero (v (run_cycle_of size s 0))) 0 0 None p.registers
    → EachRegister (λ r i before g. map (v (run_cycle_of size s t)) (qs_from i g.cells) ≡ held_by a p size v s t r g) 0 0 None p.registers
held_at a p size n v h cycle s zero more le lt base =
    each_map (AllZero (v (run_cycle_of size s 0))) (λ r i before g. map (v (run_cycle_of size s 0)) (qs_from i g.cells) ≡ held_by a p size v s 0 r g) (λ r i before g e. e ∙ sym (held_start a p size v s r g)) 0 0 None p.registers base
held_at a p size n v h cycle s (suc t) more le lt base =
    let before = held_at a p size n v h cycle s t more (omega arith) (omega arith) base in
    let k = now a p n v h (2 * s * size + t) s false (bits_after p.degree p.mask t) (omega arith) more (running p.degree p.mask size s t cycle (omega arith)) in
    let e : suc (run_cycle_of size s t) ≡ run_cycle_of size s (suc t) = omega arith in
    subst (λ c. EachRegister (λ r i before g. map (v c) (qs_from i g.cells) ≡ held_by a p size v s (suc t) r g) 0 0 None p.registers) e
    (each_both (λ r i before g. PartMeets a p (v (run_cycle_of size s t)) r i before g × Loaded (v (run_cycle_of size s t)) (v (suc (run_cycle_of size s t))) i g)
    (λ r i before g. map (v (run_cycle_of size s t)) (qs_from i g.cells) ≡ held_by a p size v s t r g)
    (λ r i before g. map (v (suc (run_cycle_of size s t))) (qs_from i g.cells) ≡ held_by a p size v s (suc t) r g)
    (λ r i before g m held_by. runs_on a p (v (run_cycle_of size s t)) (v (suc (run_cycle_of size s t))) r i before g s t (line_bits a p size v s g.cells) k.normal k.running k.shifting
    (is_on_now a p (v (run_cycle_of size s t)) s false (bits_after p.degree p.mask t) k r) k.coming refl m.0 m.1 held_by)
    0 0 None p.registers
    (each_both (PartMeets a p (v (run_cycle_of size s t))) (λ r i before g. Loaded (v (run_cycle_of size s t)) (v (suc (run_cycle_of size s t))) i g)
    (λ r i before g. PartMeets a p (v (run_cycle_of size s t)) r i before g × Loaded (v (run_cycle_of size s t)) (v (suc (run_cycle_of size s t))) i g) (λ r i before g x y. (x, y)) 0 0 None p.registers
    k.each (loaded_at a p n v h (run_cycle_of size s t) (omega arith)))
    before)
