-- the controller's gates
use Rattle.std.proofs.Common.{◌≡◌, ℕ, ◌+◌, ◌<◌, ◌≤◌, zero, suc, min, List, [], ◌∷◌, length, map, Bool, true, false, not, ◌&&◌, ◌||◌, ◌==◌, if◌then◌else◌, refl, sym, ap, subst, ◌∙◌, arith, eqb-true, Option, Some, None}
use Rattle.std.proofs.lemmas.Bool.Decides.{nat_tests}
use Rattle.std.specs.List.{AllByRecursion}
use Rattle.bb_base.specs.Net.{Flop}
use Rattle.bb_terms.specs.OnBits.{last_of}
use Rattle.bb_base.specs.Run.{Meets}
use Rattle.bb_terms.specs.OnBits.{shifted, front, feedback_bit, zeros}
use Rattle.bb_terms.specs.Controller.{register_word, word_from, word_ahead, low_row, word_rows, ring_rows, ring_rows_from, out_row, last_q, controller}
use Rattle.bb_terms.specs.declared.wire.Wire.{Wire}
use Rattle.bb_terms.specs.declared.wire.Wire.TheVariants.{Test, Init, So, Done, NotInit, NotTest, Go, NotGo, Parity, Low, Feed, WordNext, Wrap, Phase, PhaseTurned, PhaseNext, Advance, NotAdvance, Ring, RingKept, RingMoved, RingOr, RingNext, NotOver, Live, NotPhase, Running, Shifting}
use Rattle.bb_base.specs.Bits.{picked}
use Rattle.bb_base.specs.Booleans.{xor, parity_of_bits, some_true}
use Rattle.bb_terms.specs.Plan.{PlanValue}
use Rattle.bb_written.specs.Cells.{word_flops, ring_flops, flops}
use Rattle.bb_testrun.specs.Control.{Control, control_step, control_start, ControlHolds}
use Rattle.bb_terms.specs.OnBits.{at_last}
use Rattle.bb_written.specs.Modes.{bit_or_zero}
use Rattle.bb_written.specs.Trace.{TakesBit}
use Rattle.bb_base.proofs.Lists.{all_front, all_back}
use Rattle.bb_written.proofs.CellLines.{chosen_map}

pub shifted_map : {S T : Type 0} (f : S → T) (x : S) (xs : List S) → map f (shifted x xs) ≡ shifted (f x) (map f xs)
shifted_map f x [] = refl
shifted_map f x (y ∷ ys) = ap (λ zs. f x ∷ zs) (shifted_map f y ys)

pub front_map : {S T : Type 0} (f : S → T) (xs : List S) → map f (front xs) ≡ front (map f xs)
front_map f [] = refl
front_map f (x ∷ xs) = shifted_map f x xs

pub last_map : {S T : Type 0} (f : S → T) (x : S) (xs : List S) → f (last_of x xs) ≡ last_of (f x) (map f xs)
last_map f x [] = refl
last_map f x (y ∷ ys) = last_map f y ys

low_meets : (v : Wire → Bool) (ws : List Wire) → Meets v (low_row ws) → v Low ≡ not (some_true (map v ws))
low_meets v [] h = h
low_meets v (w ∷ ws) h = h

and_true : (b : Bool) → (b && true) ≡ b
and_true true = refl
and_true false = refl

xor_false : (b : Bool) → xor b false ≡ b
xor_false true = refl
xor_false false = refl

-- the d bits of the word, where go is on
word_next : (v : Wire → Bool) (i : ℕ) (ws : List Wire) → v Go ≡ true → AllByRecursion (Meets v) (word_rows i ws) → map (λ (f : Flop Wire). v f.d) (word_flops i (length ws)) ≡ map v ws
word_next v i [] go h = refl
word_next v i (w ∷ ws) go h =
    let here : v (WordNext i) ≡ v w = h.0 ∙ (λ j. go j && (v w && true)) ∙ and_true (v w) in
    let rest = word_next v (suc i) ws go h.1 in
    λ j. here j ∷ rest j

word_zero : (v : Wire → Bool) (i : ℕ) (ws : List Wire) → v Go ≡ false → AllByRecursion (Meets v) (word_rows i ws) → map (λ (f : Flop Wire). v f.d) (word_flops i (length ws)) ≡ zeros (length ws)
word_zero v i [] go h = refl
word_zero v i (w ∷ ws) go h =
    let here : v (WordNext i) ≡ false = h.0 ∙ (λ j. go j && (v w && true)) in
    let rest = word_zero v (suc i) ws go h.1 in
    λ j. here j ∷ rest j

pub taken_word : (v w : Wire → Bool) (i k : ℕ) → AllByRecursion (TakesBit v w) (word_flops i k) → map w (word_from i k) ≡ map (λ (f : Flop Wire). v f.d) (word_flops i k)
taken_word v w i zero h = refl
taken_word v w i (suc k) h = let rest = taken_word v w (suc i) k h.1 in λ j. h.0 j ∷ rest j

pub taken_ring : (v w : Wire → Bool) (s n : ℕ) → AllByRecursion (TakesBit v w) (ring_flops s n) → (j : ℕ) → s ≤ j → j ≤ s + n → w (Ring j) ≡ v (RingNext j)
taken_ring v w s zero h j lo hi = subst (λ k. w (Ring k) ≡ v (RingNext k)) (let e : s ≡ j = omega arith in e) h.0
taken_ring v w s (suc n) h j lo hi = go (s == j) refl (λ a b. taken_ring v w (suc s) n h.1 j a b)
  where
    go : (b : Bool) → (s == j) ≡ b → (suc s ≤ j → j ≤ suc s + n → w (Ring j) ≡ v (RingNext j)) → w (Ring j) ≡ v (RingNext j)
    go true e more = subst (λ k. w (Ring k) ≡ v (RingNext k)) (eqb-true s j e) h.0
    go false e more = more (grind (arith, nat_tests)) (omega arith)

ring_last : (s r S : ℕ) (st go rd ro ra rs rp : Bool) → suc s ≡ S → go ≡ true → rs ≡ (S == min r S) → rp ≡ (s == min r S) → ra ≡ (rp && (st && true)) → ro ≡ (rs || (ra || false))
    → rd ≡ (go && (ro && true)) → rd ≡ (S == min (if st then suc r else r) S)
ring_last s r S true go rd ro ra rs rp e1 e2 e3 e4 e5 e6 e7 = grind (arith, nat_tests)
ring_last s r S false go rd ro ra rs rp e1 e2 e3 e4 e5 e6 e7 = grind (arith, nat_tests)

ring_mid : (s r S : ℕ) (st go rd ro rk ra rs rp ns : Bool) → suc s < S → go ≡ true → ns ≡ not st → rs ≡ (suc s == min r S) → rp ≡ (s == min r S) → rk ≡ (rs && (ns && true)) → ra ≡ (rp && (st && true)) → ro ≡ (rk || (ra || false))
    → rd ≡ (go && (ro && true)) → rd ≡ (suc s == min (if st then suc r else r) S)
ring_mid s r S true go rd ro rk ra rs rp ns e1 e2 e0 e3 e4 e5 e6 e7 e8 = grind (arith, nat_tests)
ring_mid s r S false go rd ro rk ra rs rp ns e1 e2 e0 e3 e4 e5 e6 e7 e8 = grind (arith, nat_tests)

ring_first : (r S : ℕ) (st go ngo rd rk rs ns : Bool) → 0 < S → go ≡ true → ngo ≡ not go → ns ≡ not st → rs ≡ (0 == min r S) → rk ≡ (rs && (ns && true)) → rd ≡ (ngo || (rk || false)) → rd ≡ (0 == min (if st then suc r else r) S)
ring_first r S true go ngo rd rk rs ns e1 e2 e3 e4 e5 e6 e7 = grind (arith, nat_tests)
ring_first r S false go ngo rd rk rs ns e1 e2 e3 e4 e5 e6 e7 = grind (arith, nat_tests)

abbrev OneHot : (Wire → Bool) → ℕ → ℕ → Type 0
OneHot v S r = (s : ℕ) → s ≤ S → v (Ring s) ≡ (s == min r S)

rings_on : (v : Wire → Bool) (S r s more : ℕ) → suc (s + more) ≡ S → v Go ≡ true → v NotAdvance ≡ not (v Advance) → OneHot v S r → AllByRecursion (Meets v) (ring_rows_from s more)
    → (j : ℕ) → s < j → j ≤ S → v (RingNext j) ≡ (j == min (if v Advance then suc r else r) S)
rings_on v S r s zero long go ns hot h j lo hi =
    let e : suc s ≡ S = omega arith in
    let same : suc s ≡ j = omega arith in
    subst (λ k. v (RingNext k) ≡ (k == min (if v Advance then suc r else r) S)) same
    (subst (λ k. v (RingNext (suc s)) ≡ (k == min (if v Advance then suc r else r) S)) (sym e)
    (ring_last s r S (v Advance) (v Go) (v (RingNext (suc s))) (v (RingOr (suc s))) (v (RingMoved (suc s))) (v (Ring (suc s))) (v (Ring s)) e go
    (subst (λ k. v (Ring k) ≡ (k == min r S)) (sym e) (hot S (omega arith)) ∙ ap (λ k. k == min r S) e) (hot s (omega arith)) h.0 h.1.0 h.1.1.0))
rings_on v S r s (suc more) long go ns hot h j lo hi = by (suc s == j) refl (λ a. rings_on v S r (suc s) more (omega arith) go ns hot h.1.1.1.1 j a hi)
  where
    by : (b : Bool) → (suc s == j) ≡ b → (suc s < j → v (RingNext j) ≡ (j == min (if v Advance then suc r else r) S)) → v (RingNext j) ≡ (j == min (if v Advance then suc r else r) S)
    by true e rest =
        subst (λ k. v (RingNext k) ≡ (k == min (if v Advance then suc r else r) S)) (eqb-true (suc s) j e)
        (ring_mid s r S (v Advance) (v Go) (v (RingNext (suc s))) (v (RingOr (suc s))) (v (RingKept (suc s))) (v (RingMoved (suc s))) (v (Ring (suc s))) (v (Ring s)) (v NotAdvance) (omega arith) go ns
        (hot (suc s) (omega arith)) (hot s (omega arith)) h.0 h.1.0 h.1.1.0 h.1.1.1.0)
    by false e rest = rest (grind (arith, nat_tests))

zero_min : (x : ℕ) → true ≡ (0 == min x 0)
zero_min x = grind (arith, nat_tests)

rings_all : (v : Wire → Bool) (S r : ℕ) → v Go ≡ true → v NotGo ≡ not (v Go) → v NotAdvance ≡ not (v Advance) → OneHot v S r → AllByRecursion (Meets v) (ring_rows S)
    → (j : ℕ) → j ≤ S → v (RingNext j) ≡ (j == min (if v Advance then suc r else r) S)
rings_all v zero r go ngo ns hot h zero hi = h.0 ∙ zero_min (if v Advance then suc r else r)
rings_all v zero r go ngo ns hot h (suc j) hi = absurd (omega arith)
rings_all v (suc more) r go ngo ns hot h zero hi =
    ring_first r (suc more) (v Advance) (v Go) (v NotGo) (v (RingNext 0)) (v (RingKept 0)) (v (Ring 0)) (v NotAdvance) (omega arith) go ngo ns (hot 0 (omega arith)) h.0 h.1.0
rings_all v (suc more) r go ngo ns hot h (suc j) hi = rings_on v (suc more) r 0 more (omega arith) go ns hot h.1.1 (suc j) (omega arith) hi

rings_off_from : (v : Wire → Bool) (s more : ℕ) → v Go ≡ false → AllByRecursion (Meets v) (ring_rows_from s more) → (j : ℕ) → s < j → j ≤ suc (s + more) → v (RingNext j) ≡ false
rings_off_from v s zero go h j lo hi = subst (λ k. v (RingNext k) ≡ false) (let e : suc s ≡ j = omega arith in e) (h.1.1.0 ∙ (λ i. go i && (v (RingOr (suc s)) && true)))
rings_off_from v s (suc more) go h j lo hi = by (suc s == j) refl (λ a. rings_off_from v (suc s) more go h.1.1.1.1 j a (omega arith))
  where
    by : (b : Bool) → (suc s == j) ≡ b → (suc s < j → v (RingNext j) ≡ false) → v (RingNext j) ≡ false
    by true e rest = subst (λ k. v (RingNext k) ≡ false) (eqb-true (suc s) j e) (h.1.1.1.0 ∙ (λ i. go i && (v (RingOr (suc s)) && true)))
    by false e rest = rest (grind (arith, nat_tests))

or_first : (d ngo rk go : Bool) → go ≡ false → ngo ≡ not go → d ≡ (ngo || (rk || false)) → d ≡ true
or_first d ngo rk go h k e = grind arith

pos : (j S : ℕ) → false ≡ (suc j == min 0 S)
pos j S = grind (arith, nat_tests)

hot_zero : (S : ℕ) → true ≡ (0 == min 0 S)
hot_zero S = grind (arith, nat_tests)

rings_off : (v : Wire → Bool) (S : ℕ) → v Go ≡ false → v NotGo ≡ not (v Go) → AllByRecursion (Meets v) (ring_rows S) → (j : ℕ) → j ≤ S → v (RingNext j) ≡ (j == min 0 S)
rings_off v zero go ngo h zero hi = h.0
rings_off v zero go ngo h (suc j) hi = absurd (omega arith)
rings_off v (suc more) go ngo h zero hi = or_first (v (RingNext 0)) (v NotGo) (v (RingKept 0)) (v Go) go ngo h.1.0 ∙ hot_zero (suc more)
rings_off v (suc more) go ngo h (suc j) hi = rings_off_from v 0 more go h.1.1 (suc j) (omega arith) (omega arith) ∙ pos j (suc more)

-- the controller's lines
pub record Lines (p : PlanValue) (v : Wire → Bool) : Type 0 where
  pub normal : v NotTest ≡ not (v Test)
  pub go : v Go ≡ (v Test && not (v Init))
  pub not_go : v NotGo ≡ not (v Go)
  pub first : v Feed ≡ feedback_bit p.mask (map v (register_word p))
  pub words : AllByRecursion (Meets v) (word_rows 0 (word_ahead p))
  pub wrap : v Wrap ≡ (last_of (v Test) (map v (register_word p)) && not (some_true (front (map v (register_word p)))))
  pub phase : v PhaseNext ≡ (v Go && xor (v Phase) (v Wrap))
  pub stepping : v Advance ≡ (v Phase && v Wrap)
  pub not_step : v NotAdvance ≡ not (v Advance)
  pub rings : AllByRecursion (Meets v) (ring_rows (length p.sessions))
  pub running : v Running ≡ ((v Go && not (v (Ring (length p.sessions)))) && not (v Phase))
  pub shifting : v Shifting ≡ ((v Go && not (v (Ring (length p.sessions)))) && v Phase)
  pub done : v Done ≡ (v Go && v (Ring (length p.sessions)))
  pub so : v So ≡ (v Shifting && bit_or_zero v (last_q p))

so_meets : (v : Wire → Bool) (q : Option Wire) → Meets v (out_row q) → v So ≡ (v Shifting && bit_or_zero v q)
so_meets v None h = h ∙ no (v Shifting)
  where
    no : (b : Bool) → false ≡ (b && false)
    no true = refl
    no false = refl
so_meets v (Some q) h = h ∙ (λ j. v Shifting && and_true (v q) j)

pub lines : (p : PlanValue) (v : Wire → Bool) → AllByRecursion (Meets v) (controller p) → Lines p v
lines p v h =
    let tail = all_back (Meets v) (word_rows 0 (word_ahead p)) _ h.1.1.1.1.1.1.1 in
    let end = all_back (Meets v) (ring_rows (length p.sessions)) _ tail.1.1.1.1.1 in
    let low : v Low ≡ not (some_true (front (map v (register_word p)))) = low_meets v (front (register_word p)) h.1.1.1.1.1.0 ∙ ap (λ bs. not (some_true bs)) (front_map v (register_word p)) in
    let par : v Parity ≡ parity_of_bits (picked p.mask (map v (register_word p))) = h.1.1.1.1.0 ∙ ap parity_of_bits (chosen_map v p.mask (register_word p)) in
    let wrap : v Wrap ≡ (last_of (v Test) (map v (register_word p)) && not (some_true (front (map v (register_word p))))) = tail.0 ∙ (λ j. last_map v Test (register_word p) j && ((and_true (v Low) ∙ low) j)) in
    let live : v Live ≡ (v Go && not (v (Ring (length p.sessions)))) = end.1.0 ∙ (λ j. v Go && (and_true (v NotOver) ∙ end.0) j) in
    record {
      normal = h.1.0;
      go = h.1.1.0 ∙ (λ j. v Test && (and_true (v NotInit) ∙ h.0) j);
      not_go = h.1.1.1.0;
      first = h.1.1.1.1.1.1.0 ∙ (λ j. xor (par j) ((xor_false (v Low) ∙ low) j));
      words = all_front (Meets v) (word_rows 0 (word_ahead p)) _ h.1.1.1.1.1.1.1;
      wrap = wrap;
      phase = tail.1.1.0 ∙ (λ j. v Go && (and_true (v PhaseTurned) ∙ tail.1.0 ∙ (λ i. xor (v Phase) (xor_false (v Wrap) i))) j);
      stepping = tail.1.1.1.0 ∙ (λ j. v Phase && and_true (v Wrap) j);
      not_step = tail.1.1.1.1.0;
      rings = all_front (Meets v) (ring_rows (length p.sessions)) _ tail.1.1.1.1.1;
      running = end.1.1.1.0 ∙ (λ j. live j && (and_true (v NotPhase) ∙ end.1.1.0) j);
      shifting = end.1.1.1.1.0 ∙ (λ j. live j && and_true (v Phase) j);
      done = end.1.1.1.1.1.0 ∙ (λ j. v Go && and_true (v (Ring (length p.sessions))) j);
      so = so_meets v (last_q p) end.1.1.1.1.1.1.0;
    }

length_shifted : {T : Type 0} (x : T) (xs : List T) → length (shifted x xs) ≡ length xs
length_shifted x [] = refl
length_shifted x (y ∷ ys) = ap suc (length_shifted y ys)

length_word : (i k : ℕ) → length (word_from i k) ≡ k
length_word i zero = refl
length_word i (suc k) = ap suc (length_word (suc i) k)

length_ahead : (p : PlanValue) → length (word_ahead p) ≡ p.degree
length_ahead p = length_shifted Feed (register_word p) ∙ length_word 0 p.degree

go_on : (go t i : Bool) → t ≡ true → i ≡ false → go ≡ (t && not i) → go ≡ true
go_on go t i h k e = grind arith

go_off : (go t i : Bool) → i ≡ true → go ≡ (t && not i) → go ≡ false
go_off go t i h e = grind arith

xor_comm_false : (b : Bool) → xor b false ≡ b
xor_comm_false true = refl
xor_comm_false false = refl

word_flops_of : (p : PlanValue) (v w : Wire → Bool) → AllByRecursion (TakesBit v w) (flops p) → map w (register_word p) ≡ map (λ (f : Flop Wire). v f.d) (word_flops 0 (length (word_ahead p)))
word_flops_of p v w h =
    taken_word v w 0 p.degree (all_front (TakesBit v w) (word_flops 0 p.degree) _ h) ∙ ap (λ k. map (λ (f : Flop Wire). v f.d) (word_flops 0 k)) (sym (length_ahead p))

ring_part : (p : PlanValue) (v w : Wire → Bool) → AllByRecursion (TakesBit v w) (flops p) → (j : ℕ) → j ≤ length p.sessions → w (Ring j) ≡ v (RingNext j)
ring_part p v w h j hi =
    taken_ring v w 0 (length p.sessions) (all_front (TakesBit v w) (ring_flops 0 (length p.sessions)) _ (all_back (TakesBit v w) (word_flops 0 p.degree) _ h).1) j (omega arith) (omega arith)

-- one cycle of the test
pub step_holds : (p : PlanValue) (v w : Wire → Bool) (c : Control) → Lines p v → v Test ≡ true → v Init ≡ false → AllByRecursion (TakesBit v w) (flops p) → ControlHolds p v c → ControlHolds p w (control_step p.mask c)
step_holds p v w c l t i h s =
    let go : v Go ≡ true = go_on (v Go) (v Test) (v Init) t i l.go in
    let last : v Wrap ≡ at_last c.xs = l.wrap ∙ (λ j. last_of (t j) (s.xs j) && not (some_true (front (s.xs j)))) in
    let stepping : v Advance ≡ (c.late && at_last c.xs) = l.stepping ∙ (λ j. s.late j && last j) in
    record {
      xs = word_flops_of p v w h ∙ word_next v 0 (word_ahead p) go l.words ∙ shifted_map v Feed (register_word p) ∙ (λ j. shifted (l.first j) (map v (register_word p))) ∙ (λ j. shifted (feedback_bit p.mask (s.xs j)) (s.xs j));
      late = (all_back (TakesBit v w) (word_flops 0 p.degree) _ h).0 ∙ l.phase ∙ (λ j. go j && xor (s.late j) (last j));
      ring = λ j hi. ring_part p v w h j hi ∙ rings_all v (length p.sessions) c.ring go l.not_go l.not_step s.ring l.rings j hi
          ∙ ap (λ b. j == min (if b then suc c.ring else c.ring) (length p.sessions)) stepping;
    }

-- the first cycle of the test
pub init_holds : (p : PlanValue) (v w : Wire → Bool) → Lines p v → v Init ≡ true → AllByRecursion (TakesBit v w) (flops p) → ControlHolds p w (control_start p.degree)
init_holds p v w l i h =
    let go : v Go ≡ false = go_off (v Go) (v Test) (v Init) i l.go in
    record {
      xs = word_flops_of p v w h ∙ word_zero v 0 (word_ahead p) go l.words ∙ ap zeros (length_ahead p);
      late = (all_back (TakesBit v w) (word_flops 0 p.degree) _ h).0 ∙ l.phase ∙ (λ j. go j && xor (v Phase) (v Wrap));
      ring = λ j hi. ring_part p v w h j hi ∙ rings_off v (length p.sessions) go l.not_go l.rings j hi;
    }
