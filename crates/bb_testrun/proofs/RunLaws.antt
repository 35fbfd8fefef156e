-- the laws of the test run
use Rattle.std.proofs.Common.{◌≡◌, ℕ, ◌+◌, ◌-◌, ◌*◌, ◌≤◌, zero, suc, min, length, Bool, true, false, not, ◌&&◌, ◌==◌, if◌then◌else◌, ap, subst, ◌∙◌, arith, None}
use Rattle.std.proofs.lemmas.Bool.Decides.{nat_tests}
use Rattle.bb_base.specs.Net.{Netlist}
use Rattle.bb_terms.specs.OnBits.{last_of}
use Rattle.bb_base.specs.Run.{Meets}
use Rattle.bb_terms.specs.OnBits.{bits_after}
use Rattle.bb_terms.specs.Controller.{controller}
use Rattle.bb_terms.specs.Reads.{qs_from}
use Rattle.bb_terms.specs.declared.wire.Wire.{Wire}
use Rattle.bb_terms.specs.declared.wire.Wire.TheVariants.{Test, Init, Go, Shifting, Ring, Phase, So, Done}
use Rattle.bb_terms.specs.Plan.{PlanValue, chain}
use Rattle.bb_testrun.specs.Control.{Control, control_step, control_after, ReturnsAfter}
use Rattle.bb_terms.specs.OnBits.{at_last}
use Rattle.bb_testrun.specs.Held.{unload_cycle_of, HoldsInRun, ShiftsInUnload, GivesOut, WalksInRun, IsOver, BeginsQuiet}
use Rattle.bb_written.specs.Trace.{IsTestTrace}
use Rattle.bb_base.proofs.Lists.{all_front}
use Rattle.bb_testrun.proofs.ControlLines.{lines}
use Rattle.bb_testrun.proofs.Phases.{running, unloading, session}
use Rattle.bb_testrun.proofs.Induction.{now, go_is, held_at, holds_at}
use Rattle.bb_testrun.proofs.Unloading.{clear_line, go_off, unload_at, base_at, last_bit}
use Rattle.bb_written.proofs.Parts.{rows_meet}

pub in_run : (a : Netlist ℕ) (p : PlanValue) (size n : ℕ) (v : ℕ → Wire → Bool) → IsTestTrace a p n v → ReturnsAfter p.degree p.mask size → length (chain p) ≤ size → HoldsInRun a p size n v
in_run a p size n v h cycle fits s t more le lt = held_at a p size n v h cycle s t more le lt (base_at a p size n v h cycle fits s (omega arith) (omega arith))

pub in_unload : (a : Netlist ℕ) (p : PlanValue) (size n : ℕ) (v : ℕ → Wire → Bool) → IsTestTrace a p n v → ReturnsAfter p.degree p.mask size → length (chain p) ≤ size → ShiftsInUnload a p size n v
in_unload a p size n v h cycle fits s j more le lt = unload_at a p size n v h cycle s j more le lt (base_at a p size n v h cycle fits s (omega arith) (omega arith))

pub out : (a : Netlist ℕ) (p : PlanValue) (size n : ℕ) (v : ℕ → Wire → Bool) → IsTestTrace a p n v → ReturnsAfter p.degree p.mask size → length (chain p) ≤ size → GivesOut a p size n v
out a p size n v h cycle fits s j more lo lt =
    let k = now a p n v h (2 * s * size + size + j) s true (bits_after p.degree p.mask j) (omega arith) more (unloading p.degree p.mask size s j cycle lo) in
    let bits = in_unload a p size n v h cycle fits s j more (omega arith) lt in
    (k.so ∙ last_bit (v (unload_cycle_of size s j)) None (qs_from 0 (chain p)) ∙ ap (last_of false) bits, k.done)

pub walks : (a : Netlist ℕ) (p : PlanValue) (size n : ℕ) (v : ℕ → Wire → Bool) → IsTestTrace a p n v → ReturnsAfter p.degree p.mask size → WalksInRun p size n v
walks a p size n v h cycle s t more lo lt =
    let k = now a p n v h (2 * s * size + t) s false (bits_after p.degree p.mask t) (omega arith) more (running p.degree p.mask size s t cycle lo) in
    (k.words, k.running, k.shifting, k.so, k.done)

-- the ring never goes back
step_grows : (mask : ℕ) (c : Control) → c.ring ≤ (control_step mask c).ring
step_grows mask c = by (c.late && at_last c.xs)
  where
    by : (b : Bool) → c.ring ≤ (if b then suc c.ring else c.ring)
    by true = omega arith
    by false = omega arith

grows : (k mask m n : ℕ) → (control_after k mask m).ring ≤ (control_after k mask (m + n)).ring
grows k mask m zero = let e : m ≡ m + 0 = omega arith in subst (λ j. (control_after k mask m).ring ≤ (control_after k mask j).ring) e (omega arith)
grows k mask m (suc n) =
    let e : suc (m + n) ≡ m + suc n = omega arith in
    let one = grows k mask m n in
    let two = step_grows mask (control_after k mask (m + n)) in
    subst (λ j. (control_after k mask m).ring ≤ (control_after k mask j).ring) e (omega (arith, one, two))

ended : (S r : ℕ) → S ≤ r → (S == min r S) ≡ true
ended S r h = grind (arith, nat_tests)

over_done : (d go end : Bool) → go ≡ true → end ≡ true → d ≡ (go && end) → d ≡ true
over_done d go end h k e = grind arith

over_so : (so sh go end ph x : Bool) → end ≡ true → sh ≡ ((go && not end) && ph) → so ≡ (sh && x) → so ≡ false
over_so so sh go end ph x h k e = grind arith

pub over : (a : Netlist ℕ) (p : PlanValue) (size n : ℕ) (v : ℕ → Wire → Bool) → IsTestTrace a p n v → ReturnsAfter p.degree p.mask size → IsOver p size n v
over a p size n v h cycle c le lt =
    let S = length p.sessions in
    let l = lines p (v (suc c)) (all_front (Meets (v (suc c))) (controller p) _ (rows_meet a p n v h (suc c) lt)) in
    let k = holds_at a p n v h c lt in
    let go : v (suc c) Go ≡ true = go_is (v (suc c) Go) (v (suc c) Test) (v (suc c) Init) (h.later c lt).0 (h.later c lt).1 l.go in
    let first = session p.degree p.mask size S cycle in
    let more = grows p.degree p.mask (2 * S * size) (c - 2 * S * size) in
    let e : 2 * S * size + (c - 2 * S * size) ≡ c = omega arith in
    let big : S ≤ (control_after p.degree p.mask c).ring = subst (λ j. S ≤ (control_after p.degree p.mask j).ring) e (subst (λ r. r ≤ (control_after p.degree p.mask (2 * S * size + (c - 2 * S * size))).ring) first.ring_is more) in
    let end : v (suc c) (Ring S) ≡ true = k.ring S (omega arith) ∙ ended S (control_after p.degree p.mask c).ring big in
    (over_done (v (suc c) Done) (v (suc c) Go) (v (suc c) (Ring S)) go end l.done, over_so (v (suc c) So) (v (suc c) Shifting) (v (suc c) Go) (v (suc c) (Ring S)) (v (suc c) Phase) _ end l.shifting l.so)

quiet_so : (so sh x : Bool) → sh ≡ false → so ≡ (sh && x) → so ≡ false
quiet_so so sh x h e = grind arith

quiet_done : (d go end : Bool) → go ≡ false → d ≡ (go && end) → d ≡ false
quiet_done d go end h e = grind arith

pub begins : (a : Netlist ℕ) (p : PlanValue) (n : ℕ) (v : ℕ → Wire → Bool) → IsTestTrace a p n v → BeginsQuiet n v
begins a p n v h lt =
    let l = lines p (v 0) (all_front (Meets (v 0)) (controller p) _ (rows_meet a p n v h 0 lt)) in
    let go = go_off (v 0 Go) (v 0 Test) (v 0 Init) (h.start lt).1 l.go in
    let sh = clear_line (v 0 Shifting) (v 0 Go) (v 0 (Ring (length p.sessions))) (v 0 Phase) go l.shifting in
    (quiet_so (v 0 So) (v 0 Shifting) _ sh l.so, quiet_done (v 0 Done) (v 0 Go) (v 0 (Ring (length p.sessions))) go l.done)
