-- The clock by labels of bits, and its faults.
use Rattle.std.proofs.Common.{◌≡◌, ◌∙◌, ℕ, ◌+◌, ◌<◌, ◌≤◌, zero, suc, List, [], ◌∷◌, ◌++◌, length, map, cond, Bool, true, false, not, ◌&&◌, ◌||◌, nat_eq, refl, sym, ap, subst, arith, Some, None}
use Rattle.std.proofs.lemmas.Bool.Decides.{nat_tests}
use Rattle.std.proofs.lemmas.List.Folds.{list_any-append}
use Rattle.std.proofs.lemmas.List.Sums.{sum_by-append, sum_by-cons}
use Rattle.std.proofs.lemmas.List.Elements.{recursion_from_All, All-from_recursion}
use Rattle.std.specs.Prelude.{Option, find, filter, flat_map, count_by, nat_lt, All}
use Rattle.std.specs.List.{AllByRecursion, range_with_len}
use Rattle.std.specs.Option.{option_map, option_or}
use Rattle.bb_base.specs.Net.{Gate}
use Rattle.bb_base.specs.Variables.{Entry}
use Rattle.bb_fault.specs.declared.fault.ElabFault.{ElabFault}
use Rattle.bb_fault.specs.declared.fault.ElabFault.TheVariants.{ClockNotInput, TwoClocks, ClockAsData, TwoDrivers}
use Rattle.bb_fault.specs.Firsts.{on_some}
use Rattle.bb_fault.specs.Work.{Work, Clocked}
use Rattle.bb_drive.specs.Within.{IsWithin, IsFlopWithin}
use Rattle.bb_drive.specs.Nets.{input_bits, output_bits, bits_driven, bits_read, has_bit, nets, bit_text, first_net, two_drivers, undriven, driver_fault}
use Rattle.bb_drive.specs.Clock.{first_of, copied_by, copied_net, origin_within, origin, clock_pins, clock_not_input, clocks_fault, two_clocks, clock_of, is_clock, read_as_data, clock_as_data, is_data}
use Rattle.bb_drive.specs.Origins.{entry_at, is_marked, is_unlabelled, AreMarks, AreOrigins, AreFed, fed_by, ArePinsFed, another, other_label, first_label, is_data_label}
use Rattle.bb_fault.proofs.Parted.{none-first}
use Rattle.bb_drive.proofs.OriginLaws.{same_bit, same_some, no_some}
use Rattle.bb_drive.proofs.LabelLaws.{not_both, back_within}

-- nets ---------------------------------------------------------------------

nets_below : (p : ℕ → Bool) (from n limit : ℕ) → from + n ≤ limit → AllByRecursion (λ b. b < limit) (filter p (range_with_len from n))
nets_below p from zero limit h = tt
nets_below p from (suc n) limit h = by (p from) (nets_below p (from + 1) n limit (omega arith))
  where
    here : from < limit
    here = omega arith

    by : (t : Bool) → AllByRecursion (λ b. b < limit) (filter p (range_with_len (from + 1) n)) → AllByRecursion (λ b. b < limit) (cond t (from ∷ filter p (range_with_len (from + 1) n)) (filter p (range_with_len (from + 1) n)))
    by true rest = (here, rest)
    by false rest = rest

pub nets_within : (vars : List Entry) (w : Work) → All (λ b. b < w.fresh) (nets vars w)
nets_within vars w = All-from_recursion (λ b. b < w.fresh) (nets vars w) (nets_below (λ b. has_bit (bits_driven vars w) b || has_bit (bits_read vars w) b) 0 w.fresh w.fresh (omega arith))

-- a search without an answer passed each net
found_none : (p test : ℕ → Bool) (from n b : ℕ) → find test (filter p (range_with_len from n)) ≡ None → from ≤ b → b < from + n → p b ≡ true → test b ≡ false
found_none p test from zero b h low high there = absurd (omega arith)
found_none p test from (suc n) b h low high there = by (nat_eq b from) refl (found_none p test (from + 1) n b)
  where
    others : List ℕ
    others = filter p (range_with_len (from + 1) n)

    passed : (t : Bool) → cond t (Some from) (find test others) ≡ None → (t ≡ false) × (find test others ≡ None)
    passed true e = absurd (no_some from (sym e))
    passed false e = (refl, e)

    rest_none : (t : Bool) → find test (cond t (from ∷ others) others) ≡ None → find test others ≡ None
    rest_none true e = (passed (test from) e).1
    rest_none false e = e

    first_none : (t : Bool) → t ≡ true → find test (cond t (from ∷ others) others) ≡ None → test from ≡ false
    first_none true k e = (passed (test from) e).0
    first_none false k e = absurd (not_both false k refl)

    by : (t : Bool) → nat_eq b from ≡ t → (find test others ≡ None → from + 1 ≤ b → b < (from + 1) + n → p b ≡ true → test b ≡ false) → test b ≡ false
    by true e rest =
        let k = same_bit b from e in
        ap test k ∙ first_none (p from) (ap p (sym k) ∙ there) h
    by false e rest =
        let above : from + 1 ≤ b = grind (arith, nat_tests) in
        rest (rest_none (p from) h) above (omega arith) there

mapped_none : {A B : Type 0} (f : A → B) (o : Option A) → option_map f o ≡ None → o ≡ None
mapped_none f None e = refl
mapped_none f (Some a) e = absurd (no_some (f a) (sym e))

-- a net without the fault
quiet :
    (fault : List ℕ → Option ℕ → ElabFault) (test : ℕ → Bool) (vars : List Entry) (w : Work) (b : ℕ) → first_net fault test vars w ≡ None → b < w.fresh
    → (has_bit (bits_driven vars w) b || has_bit (bits_read vars w) b) ≡ true → test b ≡ false
quiet fault test vars w b h small there =
    found_none (λ n. has_bit (bits_driven vars w) n || has_bit (bits_read vars w) n) test 0 w.fresh b
    (mapped_none (λ n. fault (bit_text vars n).name (bit_text vars n).index) (find test (nets vars w)) h) (omega arith) (omega arith) there

find_same : (p q : ℕ → Bool) (xs : List ℕ) → AllByRecursion (λ x. p x ≡ q x) xs → find p xs ≡ find q xs
find_same p q [] h = refl
find_same p q (x ∷ xs) h = ap (λ t. cond t (Some x) (find p xs)) h.0 ∙ ap (cond (q x) (Some x)) (find_same p q xs h.1)

each_below : {P Q : ℕ → Type 0} (xs : List ℕ) → AllByRecursion P xs → ((x : ℕ) → P x → Q x) → AllByRecursion Q xs
each_below [] h f = tt
each_below (x ∷ xs) h f = (f x h.0, each_below xs h.1 f)

find_on_nets : (vars : List Entry) (w : Work) (p q : ℕ → Bool) → ((b : ℕ) → b < w.fresh → p b ≡ q b) → find p (nets vars w) ≡ find q (nets vars w)
find_on_nets vars w p q same =
    find_same p q (nets vars w) (each_below (nets vars w) (nets_below (λ b. has_bit (bits_driven vars w) b || has_bit (bits_read vars w) b) 0 w.fresh w.fresh (omega arith)) same)

-- input bits -----------------------------------------------------------------

has_behind : (b : ℕ) (xs ys : List ℕ) → has_bit ys b ≡ true → has_bit (xs ++ ys) b ≡ true
has_behind b xs ys h = list_any-append (nat_eq b) xs ys ∙ (ap (λ t. has_bit xs b || t) h ∙ by (has_bit xs b))
  where
    by : (t : Bool) → (t || true) ≡ true
    by true = refl
    by false = refl

has_before : (b : ℕ) (xs ys : List ℕ) → has_bit xs b ≡ true → has_bit (xs ++ ys) b ≡ true
has_before b xs ys h = list_any-append (nat_eq b) xs ys ∙ ap (λ t. t || has_bit ys b) h

or_first : (p q : Bool) → p ≡ true → (p || q) ≡ true
or_first p q h = ap (λ t. t || q) h

or_second : (p q : Bool) → q ≡ true → (p || q) ≡ true
or_second true q h = refl
or_second false q h = h

count_has : (bits : List ℕ) (b : ℕ) → has_bit bits b ≡ true → 1 ≤ count_by (nat_eq b) bits
count_has [] b h = absurd (not_both false h refl)
count_has (x ∷ bits) b h = by (nat_eq b x) refl h (count_has bits b)
  where
    head : count_by (nat_eq b) (x ∷ bits) ≡ cond (nat_eq b x) 1 0 + count_by (nat_eq b) bits
    head = sum_by-cons (λ y. cond (nat_eq b y) 1 0) x bits

    by : (t : Bool) → nat_eq b x ≡ t → (t || has_bit bits b) ≡ true → (has_bit bits b ≡ true → 1 ≤ count_by (nat_eq b) bits) → 1 ≤ count_by (nat_eq b) (x ∷ bits)
    by true e h rest = let one : ◌≡◌ {A = ℕ} (cond (nat_eq b x) 1 0) 1 = ap (λ t. cond t 1 0) e in omega (arith, head, one)
    by false e h rest = omega (arith, head, rest h)

none_driving : (gates : List (Gate ℕ)) (b : ℕ) → count_by (nat_eq b) (map (λ (g : Gate ℕ). g.out) gates) ≡ 0 → copied_net gates b ≡ None
none_driving [] b h = refl
none_driving (g ∷ gates) b h = by (nat_eq b g.out) refl (none_driving gates b)
  where
    head : count_by (nat_eq b) (map (λ (f : Gate ℕ). f.out) (g ∷ gates)) ≡ cond (nat_eq b g.out) 1 0 + count_by (nat_eq b) (map (λ (f : Gate ℕ). f.out) gates)
    head = sum_by-cons (λ y. cond (nat_eq b y) 1 0) g.out (map (λ (f : Gate ℕ). f.out) gates)

    by : (t : Bool) → nat_eq b g.out ≡ t → (count_by (nat_eq b) (map (λ (f : Gate ℕ). f.out) gates) ≡ 0 → copied_net gates b ≡ None) → copied_by (cond t (Some g) (find (λ f. nat_eq b f.out) gates)) ≡ None
    by true e rest = let one : ◌≡◌ {A = ℕ} (cond (nat_eq b g.out) 1 0) 1 = ap (λ t. cond t 1 0) e in absurd (omega (arith, head, one, h))
    by false e rest = rest (omega (arith, head, h))

-- no gate drives an input bit
pub input_free : (vars : List Entry) (w : Work) (b : ℕ) → driver_fault vars w ≡ None → b < w.fresh → has_bit (input_bits vars) b ≡ true → copied_net w.gates b ≡ None
input_free vars w b h small there =
    let outs = map (λ (g : Gate ℕ). g.out) w.gates in
    let others = outs ++ map (λ (f : Clocked). f.q) w.flops in
    let two = quiet TwoDrivers (λ n. nat_lt 1 (count_by (nat_eq n) (bits_driven vars w))) vars w b (none-first (two_drivers vars w) (undriven vars w) h) small
    (or_first (has_bit (bits_driven vars w) b) (has_bit (bits_read vars w) b) (has_before b (input_bits vars) others there)) in
    let all = sum_by-append (λ y. cond (nat_eq b y) 1 0) (input_bits vars) others in
    let rest = sum_by-append (λ y. cond (nat_eq b y) 1 0) outs (map (λ (f : Clocked). f.q) w.flops) in
    none_driving w.gates b (nothing (count_by (nat_eq b) (bits_driven vars w)) (count_by (nat_eq b) (input_bits vars)) (count_by (nat_eq b) others) (count_by (nat_eq b) outs)
    (count_by (nat_eq b) (map (λ (f : Clocked). f.q) w.flops)) two all rest (count_has (input_bits vars) b there))
  where
    nothing : (a i o g q : ℕ) → nat_lt 1 a ≡ false → a ≡ i + o → o ≡ g + q → 1 ≤ i → g ≡ 0
    nothing a i o g q few all rest one = grind (arith, nat_tests)

-- origins ----------------------------------------------------------------------

origin_below : (w : Work) → IsWithin w → (steps b : ℕ) → b < w.fresh → origin_within steps w.gates b < w.fresh
origin_below w within zero b small = small
origin_below w within (suc steps) b small = by (copied_net w.gates b) refl (origin_below w within steps)
  where
    by : (o : Option ℕ) → copied_net w.gates b ≡ o → ((a : ℕ) → a < w.fresh → origin_within steps w.gates a < w.fresh) → on_some o b (origin_within steps w.gates) < w.fresh
    by None e rest = small
    by (Some a) e rest = rest a (back_within w b a within e)

marked_within : (marks : List Bool) (b : ℕ) → is_marked marks b ≡ true → b < length marks
marked_within [] b h = absurd (not_both false h refl)
marked_within (m ∷ marks) zero h = omega arith
marked_within (m ∷ marks) (suc b) h = omega (arith, marked_within marks b h)

pub origins_fed : (vars : List Entry) (w : Work) (roots : List Bool) (labels : List (Option ℕ)) → IsWithin w → AreMarks (input_bits vars) w.fresh roots → AreOrigins w roots labels → AreFed vars w labels
origins_fed vars w roots labels within marks all = record {
  long = all.long;
  each = λ b small. by (has_bit (input_bits vars) (origin w b)) b small refl;
}
  where
    none : (b : ℕ) (o : Option ℕ) → entry_at labels b ≡ o → has_bit (input_bits vars) (origin w b) ≡ false → o ≡ None
    none b None e f = refl
    none b (Some i) e f =
        let s = all.sound b i e in
        let small = marked_within roots i s.0 in
        let below : i < w.fresh = omega (arith, marks.long) in
        absurd (not_both (has_bit (input_bits vars) i) (sym (marks.each i below) ∙ s.0) (sym (ap (has_bit (input_bits vars)) s.1) ∙ f))

    by : (t : Bool) (b : ℕ) → b < w.fresh → has_bit (input_bits vars) (origin w b) ≡ t → entry_at labels b ≡ cond t (Some (origin w b)) None
    by true b small e = all.full b small (marks.each (origin w b) (origin_below w within (length w.gates) b small) ∙ e)
    by false b small e = none b (entry_at labels b) refl e

-- clock pins -----------------------------------------------------------------------

open_unless : (t : Bool) (o : ℕ) → is_unlabelled (cond t (Some o) None) ≡ not t
open_unless true o = refl
open_unless false o = refl

pub pins_found :
    (vars : List Entry) (w : Work) (pins : List Bool) (labels : List (Option ℕ)) → AreMarks (clock_pins w) w.fresh pins → AreFed vars w labels
    → find (λ b. is_marked pins b && is_unlabelled (entry_at labels b)) (nets vars w) ≡ find (λ b. has_bit (clock_pins w) b && not (has_bit (input_bits vars) (origin w b))) (nets vars w)
pins_found vars w pins labels marks fed =
    find_on_nets vars w (λ b. is_marked pins b && is_unlabelled (entry_at labels b)) (λ b. has_bit (clock_pins w) b && not (has_bit (input_bits vars) (origin w b)))
    (λ b small. ap (λ t. t && is_unlabelled (entry_at labels b)) (marks.each b small)
    ∙ ap (λ t. has_bit (clock_pins w) b && t) (ap is_unlabelled (fed.each b small) ∙ open_unless (has_bit (input_bits vars) (origin w b)) (origin w b)))

fed_pins :
    (vars : List Entry) (w : Work) (labels : List (Option ℕ)) → AreFed vars w labels
    → ((b : ℕ) → b < w.fresh → has_bit (clock_pins w) b ≡ true → has_bit (input_bits vars) (origin w b) ≡ true)
    → (flops : List Clocked) → AllByRecursion (IsFlopWithin w.fresh) flops → ((b : ℕ) → has_bit (map (λ (f : Clocked). f.clock) flops) b ≡ true → has_bit (clock_pins w) b ≡ true)
    → AllByRecursion (λ (f : Clocked). entry_at labels f.clock ≡ Some (origin w f.clock)) flops
fed_pins vars w labels fed inputs [] within part = tt
fed_pins vars w labels fed inputs (f ∷ flops) within part = (
  fed.each f.clock within.0.clock ∙ ap (λ t. cond t (Some (origin w f.clock)) None) (inputs f.clock within.0.clock (part f.clock (or_first (nat_eq f.clock f.clock) (has_bit (map (λ (g : Clocked). g.clock) flops) f.clock) (same f.clock)))),
  fed_pins vars w labels fed inputs flops within.1 (λ b h. part b (or_second (nat_eq b f.clock) (has_bit (map (λ (g : Clocked). g.clock) flops) b) h)),
)
  where
    same : (n : ℕ) → nat_eq n n ≡ true
    same n = grind (arith, nat_tests)

and_not : (p q : Bool) → (p && not q) ≡ false → p ≡ true → q ≡ true
and_not true true e h = refl
and_not true false e h = absurd (not_both true refl e)
and_not false q e h = absurd (not_both false h refl)

pub pins_fed : (vars : List Entry) (w : Work) (labels : List (Option ℕ)) → IsWithin w → AreFed vars w labels → clock_not_input vars w ≡ None → ArePinsFed w labels
pins_fed vars w labels within fed h =
    fed_pins vars w labels fed
    (λ b small pin. and_not (has_bit (clock_pins w) b) (has_bit (input_bits vars) (origin w b))
    (quiet ClockNotInput (λ n. has_bit (clock_pins w) n && not (has_bit (input_bits vars) (origin w n))) vars w b h small
    (or_second (has_bit (bits_driven vars w) b) (has_bit (bits_read vars w) b)
    (has_behind b (output_bits vars) (flat_map (λ (g : Gate ℕ). g.ins) w.gates ++ (map (λ (f : Clocked). f.d) w.flops ++ clock_pins w))
    (has_behind b (flat_map (λ (g : Gate ℕ). g.ins) w.gates) (map (λ (f : Clocked). f.d) w.flops ++ clock_pins w) (has_behind b (map (λ (f : Clocked). f.d) w.flops) (clock_pins w) pin))))) pin)
    w.flops (recursion_from_All (IsFlopWithin w.fresh) w.flops within.flops) (λ b p. p)

-- the clock ---------------------------------------------------------------------------

pub first_origin : (w : Work) (labels : List (Option ℕ)) → ArePinsFed w labels → first_label labels w.flops ≡ clock_of w
first_origin w labels h = by w.flops h
  where
    by : (flops : List Clocked) → AllByRecursion (λ (f : Clocked). entry_at labels f.clock ≡ Some (origin w f.clock)) flops → first_label labels flops ≡ first_of (map (origin w) (map (λ (f : Clocked). f.clock) flops))
    by [] h = refl
    by (f ∷ flops) h = h.0

other_same :
    (w : Work) (labels : List (Option ℕ)) (clock : ℕ) (flops : List Clocked) → AllByRecursion (λ (f : Clocked). entry_at labels f.clock ≡ Some (origin w f.clock)) flops
    → other_label clock labels flops ≡ find (λ b. not (nat_eq clock b)) (map (origin w) (map (λ (f : Clocked). f.clock) flops))
other_same w labels clock [] h = refl
other_same w labels clock (f ∷ flops) h =
    ap (λ o. option_or (another clock o) (other_label clock labels flops)) h.0 ∙ by (nat_eq clock (origin w f.clock)) (other_same w labels clock flops h.1)
  where
    by : (t : Bool) → other_label clock labels flops ≡ find (λ b. not (nat_eq clock b)) (map (origin w) (map (λ (g : Clocked). g.clock) flops))
        → option_or (cond t None (Some (origin w f.clock))) (other_label clock labels flops) ≡ cond (not t) (Some (origin w f.clock)) (find (λ b. not (nat_eq clock b)) (map (origin w) (map (λ (g : Clocked). g.clock) flops)))
    by true rest = rest
    by false rest = refl

abbrev two_faults : List Entry → ℕ → Option ℕ → Option ElabFault
two_faults vars clock other = on_some other None (λ second. Some (TwoClocks ((bit_text vars clock).name, (bit_text vars clock).index) ((bit_text vars second).name, (bit_text vars second).index)))

clocks_from : (vars : List Entry) (w : Work) (clock : ℕ) (origins : List ℕ) → first_of origins ≡ Some clock → clocks_fault vars w origins ≡ two_faults vars clock (find (λ b. not (nat_eq clock b)) origins)
clocks_from vars w clock [] h = absurd (no_some clock h)
clocks_from vars w clock (first ∷ others) h =
    let same = same_some first clock h in
    ap (λ c. two_faults vars c (find (λ b. not (nat_eq c b)) others)) same
    ∙ ap (two_faults vars clock) (sym (ap (λ t. cond (not t) (Some first) (find (λ b. not (nat_eq clock b)) others)) equal))
  where
    equal : nat_eq clock first ≡ true
    equal = let same = same_some first clock h in grind (arith, nat_tests)

pub two_is : (vars : List Entry) (w : Work) (labels : List (Option ℕ)) (clock : ℕ) → ArePinsFed w labels → clock_of w ≡ Some clock
    → two_clocks vars w ≡ on_some (other_label clock labels w.flops) None (λ second. Some (TwoClocks ((bit_text vars clock).name, (bit_text vars clock).index) ((bit_text vars second).name, (bit_text vars second).index)))
two_is vars w labels clock fed h = clocks_from vars w clock (map (origin w) (clock_pins w)) h ∙ ap (two_faults vars clock) (sym (other_same w labels clock w.flops fed))

-- data ------------------------------------------------------------------------------------

pub fed_input : (vars : List Entry) (w : Work) (b o : ℕ) → fed_by vars w b ≡ Some o → has_bit (input_bits vars) o ≡ true
fed_input vars w b o h = by (has_bit (input_bits vars) (origin w b)) refl h
  where
    by : (t : Bool) → has_bit (input_bits vars) (origin w b) ≡ t → cond t (Some (origin w b)) None ≡ Some o → has_bit (input_bits vars) o ≡ true
    by true e h = sym (ap (has_bit (input_bits vars)) (same_some (origin w b) o h)) ∙ e
    by false e h = absurd (no_some o h)

pub clock_input : (vars : List Entry) (w : Work) (labels : List (Option ℕ)) (clock : ℕ) → IsWithin w → AreFed vars w labels → ArePinsFed w labels → clock_of w ≡ Some clock → has_bit (input_bits vars) clock ≡ true
clock_input vars w labels clock within fed pins h = by w.flops pins (recursion_from_All (IsFlopWithin w.fresh) w.flops within.flops) h
  where
    by : (flops : List Clocked) → AllByRecursion (λ (f : Clocked). entry_at labels f.clock ≡ Some (origin w f.clock)) flops → AllByRecursion (IsFlopWithin w.fresh) flops
        → first_of (map (origin w) (map (λ (f : Clocked). f.clock) flops)) ≡ Some clock → has_bit (input_bits vars) clock ≡ true
    by [] pins small h = absurd (no_some clock h)
    by (f ∷ flops) pins small h = fed_input vars w f.clock clock (sym (fed.each f.clock small.0.clock) ∙ (pins.0 ∙ h))

pub data_is : (vars : List Entry) (w : Work) (labels : List (Option ℕ)) → IsWithin w → AreFed vars w labels → ArePinsFed w labels → (b : ℕ) → b < w.fresh → is_data_label (clock_of w) (entry_at labels b) ≡ is_data w b
data_is vars w labels within fed pins b small =
    ap (is_data_label (clock_of w)) (fed.each b small) ∙ by (clock_of w) (clock_input vars w labels) (has_bit (input_bits vars) (origin w b)) refl
  where
    by : (c : Option ℕ) → ((clock : ℕ) → IsWithin w → AreFed vars w labels → ArePinsFed w labels → c ≡ Some clock → has_bit (input_bits vars) clock ≡ true) → (t : Bool) → has_bit (input_bits vars) (origin w b) ≡ t
        → is_data_label c (cond t (Some (origin w b)) None) ≡ not (on_some c false (λ clock. nat_eq clock (origin w b)))
    by None input t e = refl
    by (Some clock) input true e = refl
    by (Some clock) input false e = apart (nat_eq clock (origin w b)) refl
      where
        apart : (t : Bool) → nat_eq clock (origin w b) ≡ t → true ≡ not t
        apart false f = refl
        apart true f = absurd (not_both (has_bit (input_bits vars) clock) (input clock within fed pins refl) (ap (has_bit (input_bits vars)) (same_bit clock (origin w b) f) ∙ e))

pub reads_found :
    (vars : List Entry) (w : Work) (kinds reads : List Bool) → ((b : ℕ) → b < w.fresh → is_marked kinds b ≡ is_data w b) → AreMarks (read_as_data vars w) w.fresh reads
    → find (λ b. not (is_marked kinds b) && is_marked reads b) (nets vars w) ≡ find (λ b. is_clock w b && has_bit (read_as_data vars w) b) (nets vars w)
reads_found vars w kinds reads each marks =
    find_on_nets vars w (λ b. not (is_marked kinds b) && is_marked reads b) (λ b. is_clock w b && has_bit (read_as_data vars w) b)
    (λ b small. ap (λ t. not t && is_marked reads b) (each b small) ∙ (ap (λ t. t && is_marked reads b) (twice (is_clock w b)) ∙ ap (λ t. is_clock w b && t) (marks.each b small)))
  where
    twice : (t : Bool) → not (not t) ≡ t
    twice true = refl
    twice false = refl

-- answers of the searches ---------------------------------------------------------------

pub nets_fit : (vars : List Entry) (w : Work) (bits : List ℕ) (n : ℕ) → bits ≡ nets vars w → n ≡ w.fresh → All (λ b. b < n) bits
nets_fit vars w bits n same long = subst (λ bs. All (λ b. b < n) bs) (sym same) (subst (λ m. All (λ b. b < m) (nets vars w)) (sym long) (nets_within vars w))

pub pins_answer :
    (vars : List Entry) (w : Work) (table pins : List Bool) (labels : List (Option ℕ)) (bits : List ℕ) (found : Option ℕ) → table ≡ pins → bits ≡ nets vars w
    → AreMarks (clock_pins w) w.fresh pins → AreFed vars w labels → found ≡ find (λ b. is_marked table b && is_unlabelled (entry_at labels b)) bits
    → clock_not_input vars w ≡ option_map (λ b. ClockNotInput (bit_text vars b).name (bit_text vars b).index) found
pins_answer vars w table pins labels bits found same_table same_bits marks fed is =
    ap (option_map (λ b. ClockNotInput (bit_text vars b).name (bit_text vars b).index))
    (sym (is ∙ (ap (λ ps. find (λ b. is_marked ps b && is_unlabelled (entry_at labels b)) bits) same_table
    ∙ (ap (find (λ b. is_marked pins b && is_unlabelled (entry_at labels b))) same_bits ∙ pins_found vars w pins labels marks fed))))

pub reads_answer :
    (vars : List Entry) (w : Work) (kinds table reads : List Bool) (bits : List ℕ) (found : Option ℕ) → table ≡ reads → bits ≡ nets vars w
    → ((b : ℕ) → b < w.fresh → is_marked kinds b ≡ is_data w b) → AreMarks (read_as_data vars w) w.fresh reads → found ≡ find (λ b. not (is_marked kinds b) && is_marked table b) bits
    → clock_as_data vars w ≡ option_map (λ b. ClockAsData (bit_text vars b).name (bit_text vars b).index) found
reads_answer vars w kinds table reads bits found same_table same_bits each marks is =
    ap (option_map (λ b. ClockAsData (bit_text vars b).name (bit_text vars b).index))
    (sym (is ∙ (ap (λ rs. find (λ b. not (is_marked kinds b) && is_marked rs b) bits) same_table
    ∙ (ap (find (λ b. not (is_marked kinds b) && is_marked reads b)) same_bits ∙ reads_found vars w kinds reads each marks))))

-- what is known of tables that were lent ---------------------------------------------------

pub roots_free :
    (vars : List Entry) (w : Work) (fresh : ℕ) (table roots : List Bool) → driver_fault vars w ≡ None → fresh ≡ w.fresh → table ≡ roots → AreMarks (input_bits vars) fresh roots
    → (b : ℕ) → is_marked table b ≡ true → copied_net w.gates b ≡ None
roots_free vars w fresh table roots fine same lent marks b h =
    let there = sym (ap (λ ms. is_marked ms b) lent) ∙ h in
    let small = marked_within roots b there in
    input_free vars w b fine (omega (arith, marks.long, small)) (sym (marks.each b (omega (arith, marks.long, small))) ∙ there)

pub labels_fed :
    (vars : List Entry) (w : Work) (fresh : ℕ) (table roots : List Bool) (lent labels : List (Option ℕ)) → IsWithin w → fresh ≡ w.fresh → table ≡ roots → lent ≡ labels
    → AreMarks (input_bits vars) fresh roots → AreOrigins w table labels → AreFed vars w lent
labels_fed vars w fresh table roots lent labels within same same_table same_labels marks all =
    subst (AreFed vars w) (sym same_labels)
    (origins_fed vars w roots labels within (subst (λ n. AreMarks (input_bits vars) n roots) same marks) (subst (λ rs. AreOrigins w rs labels) same_table all))
