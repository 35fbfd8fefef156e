-- Which bits are kept: where drivers and clocks have no fault, every port bit but the clock's.
use Rattle.std.proofs.Common.{◌≡◌, ◌⊎◌, inl, inr, ℕ, ◌+◌, ◌<◌, ◌≤◌, zero, suc, nat_eq, nat_lt, not, ◌&&◌, ◌||◌, List, [], ◌∷◌, ◌++◌, map, filter, length, Bool, true, false, cond, Option, Some, None, if◌then◌else◌, refl, sym, ap, ◌∙◌, arith}
use Rattle.std.specs.Prelude.{find, count_by, flat_map}
use Rattle.std.proofs.lemmas.Bool.Decides.{nat_tests}
use Rattle.std.proofs.lemmas.Bool.{false≢true}
use Rattle.std.proofs.lemmas.List.Elements.{recursion_from_All}
use Rattle.std.proofs.lemmas.List.Folds.{list_any-append}
use Rattle.std.proofs.lemmas.List.Sums.{sum_by-append, sum_by-cons}
use Rattle.std.specs.List.{range_with_len, AllByRecursion}
use Rattle.std.specs.Option.{option_or, option_map}
use Rattle.bb_base.specs.declared.variable.Role.{Role}
use Rattle.bb_base.specs.declared.variable.Role.TheVariants.{Input, Output, Wire}
use Rattle.bb_base.specs.Variables.{Entry, is_port, is_input, is_output, range_width}
use Rattle.bb_base.specs.Net.{Gate}
use Rattle.bb_fault.specs.declared.fault.ElabFault.{ElabFault}
use Rattle.bb_fault.specs.declared.fault.ElabFault.TheVariants.{TwoDrivers, ClockNotInput, ClockAsData}
use Rattle.bb_fault.specs.Firsts.{on_some}
use Rattle.bb_fault.specs.Work.{Work, Clocked}
use Rattle.bb_drive.specs.Nets.{bits_from, input_bits, output_bits, bits_driven, bits_read, has_bit, nets, bit_text, first_net, two_drivers, undriven, driver_fault}
use Rattle.bb_drive.specs.Clock.{is_buf, copied_by, origin_within, origin, clock_pins, clock_not_input, two_clocks, clock_of, first_of, is_clock, read_as_data, clock_as_data, clock_fault, is_data}
use Rattle.bb_drive.specs.Within.{IsWithin, IsFlopWithin}
use Rattle.bb_assemble.specs.Assembling.{is_clock_bit, KeepsPorts}
use Rattle.bb_assemble.proofs.NamedBits.{or_left, or_right, has_range}

-- a fault that is none ---------------------------------------------------

pub neither : {T : Type 0} (a b : Option T) → option_or a b ≡ None → (a ≡ None) × (b ≡ None)
neither None b h = (refl, h)
neither (Some x) b h = cc

unmapped : {T U : Type 0} (f : T → U) (a : Option T) → option_map f a ≡ None → a ≡ None
unmapped f None h = refl
unmapped f (Some x) h = cc

-- a bit that a search passes over fails its test
find_fails : (test : ℕ → Bool) (xs : List ℕ) (b : ℕ) → find test xs ≡ None → has_bit xs b ≡ true → test b ≡ false
find_fails test [] b h among = cc
find_fails test (x ∷ xs) b h among = by (test x) refl (nat_eq b x) refl h among (find_fails test xs b)
  where
    by : (t : Bool) → test x ≡ t → (u : Bool) → nat_eq b x ≡ u → cond t (Some x) (find test xs) ≡ None → (u || has_bit xs b) ≡ true → (find test xs ≡ None → has_bit xs b ≡ true → test b ≡ false) → test b ≡ false
    by true e u f h k rec = cc
    by false e true f h k rec = let same : b ≡ x = grind (arith, nat_tests) in ap test same ∙ e
    by false e false f h k rec = rec h k

same_test : (p : ℕ → Bool) (x b : ℕ) (s u : Bool) → b ≡ x → p x ≡ s → p b ≡ u → s ≡ u
same_test p x b s u same e g = sym e ∙ ap p (sym same) ∙ g

-- the bits of a filter
pub has_filter : (p : ℕ → Bool) (xs : List ℕ) (b : ℕ) → has_bit (filter p xs) b ≡ (p b && has_bit xs b)
has_filter p [] b = by (p b)
  where
    by : (t : Bool) → false ≡ (t && false)
    by true = refl
    by false = refl
has_filter p (x ∷ xs) b = by (p x) refl (nat_eq b x) refl (p b) refl (has_filter p xs b)
  where
    by : (s : Bool) → p x ≡ s → (t : Bool) → nat_eq b x ≡ t → (u : Bool) → p b ≡ u → has_bit (filter p xs) b ≡ (p b && has_bit xs b) → has_bit (cond s (x ∷ filter p xs) (filter p xs)) b ≡ (u && (t || has_bit xs b))
    by true e true f true g h = or_left (nat_eq b x) (has_bit (filter p xs) b) f
    by true e true f false g h = absurd (false≢true (sym (same_test p x b true false (grind (arith, nat_tests)) e g)))
    by true e false f true g h = ap (λ k. k || has_bit (filter p xs) b) f ∙ h ∙ ap (λ k. k && has_bit xs b) g
    by true e false f false g h = ap (λ k. k || has_bit (filter p xs) b) f ∙ h ∙ ap (λ k. k && has_bit xs b) g
    by false e true f true g h = absurd (false≢true (same_test p x b false true (grind (arith, nat_tests)) e g))
    by false e true f false g h = h ∙ ap (λ k. k && has_bit xs b) g
    by false e false f true g h = h ∙ ap (λ k. k && has_bit xs b) g
    by false e false f false g h = h ∙ ap (λ k. k && has_bit xs b) g

-- nets -------------------------------------------------------------------

-- a bit that is driven or read is a net
abbrev pub is_net : List Entry → Work → ℕ → Bool
is_net vars w b = has_bit (bits_driven vars w) b || has_bit (bits_read vars w) b

pub net_found : (vars : List Entry) (w : Work) (b : ℕ) → b < w.fresh → is_net vars w b ≡ true → has_bit (nets vars w) b ≡ true
net_found vars w b less net =
    let within : has_bit (range_with_len 0 w.fresh) b ≡ true = has_range 0 w.fresh b (omega arith) (omega arith) in
    has_filter (is_net vars w) (range_with_len 0 w.fresh) b ∙ (λ i. net i && within i)

-- a net that no fault names fails the fault's test
pub unnamed : (fault : List ℕ → Option ℕ → ElabFault) (test : ℕ → Bool) (vars : List Entry) (w : Work) (b : ℕ) → first_net fault test vars w ≡ None → b < w.fresh → is_net vars w b ≡ true → test b ≡ false
unnamed fault test vars w b h less net = find_fails test (nets vars w) b (unmapped (λ k. fault (bit_text vars k).name (bit_text vars k).index) (find test (nets vars w)) h) (net_found vars w b less net)

pub input_is_net : (vars : List Entry) (w : Work) (b : ℕ) → has_bit (input_bits vars) b ≡ true → is_net vars w b ≡ true
input_is_net vars w b h =
    or_left (has_bit (bits_driven vars w) b) (has_bit (bits_read vars w) b)
    (list_any-append (nat_eq b) (input_bits vars) (map (λ g. g.out) w.gates ++ map (λ f. f.q) w.flops) ∙ or_left (has_bit (input_bits vars) b) (has_bit (map (λ g. g.out) w.gates ++ map (λ f. f.q) w.flops) b) h)

pub output_is_net : (vars : List Entry) (w : Work) (b : ℕ) → has_bit (output_bits vars) b ≡ true → is_net vars w b ≡ true
output_is_net vars w b h =
    let more : List ℕ = flat_map (λ g. g.ins) w.gates ++ (map (λ f. f.d) w.flops ++ map (λ f. f.clock) w.flops) in
    or_right (has_bit (bits_driven vars w) b) (has_bit (bits_read vars w) b) (list_any-append (nat_eq b) (output_bits vars) more ∙ or_left (has_bit (output_bits vars) b) (has_bit more b) h)

pin_is_net : (vars : List Entry) (w : Work) (b : ℕ) → has_bit (clock_pins w) b ≡ true → is_net vars w b ≡ true
pin_is_net vars w b h =
    let ins : List ℕ = flat_map (λ g. g.ins) w.gates in
    let ds : List ℕ = map (λ f. f.d) w.flops in
    or_right (has_bit (bits_driven vars w) b) (has_bit (bits_read vars w) b)
    (list_any-append (nat_eq b) (output_bits vars) (ins ++ (ds ++ clock_pins w)) ∙ or_right (has_bit (output_bits vars) b) (has_bit (ins ++ (ds ++ clock_pins w)) b)
    (list_any-append (nat_eq b) ins (ds ++ clock_pins w) ∙ or_right (has_bit ins b) (has_bit (ds ++ clock_pins w) b)
    (list_any-append (nat_eq b) ds (clock_pins w) ∙ or_right (has_bit ds b) (has_bit (clock_pins w) b) h)))

-- the way back from an input ----------------------------------------------

pub counted : (b : ℕ) (xs : List ℕ) → has_bit xs b ≡ true → 1 ≤ count_by (nat_eq b) xs
counted b [] h = cc
counted b (x ∷ xs) h = by (nat_eq b x) refl h (counted b xs)
  where
    by : (t : Bool) → nat_eq b x ≡ t → (t || has_bit xs b) ≡ true → (has_bit xs b ≡ true → 1 ≤ count_by (nat_eq b) xs) → 1 ≤ count_by (nat_eq b) (x ∷ xs)
    by true e k rec = omega (arith, sum_by-cons (λ m. cond (nat_eq b m) 1 0) x xs, ap {B = ℕ} (λ t. cond t 1 0) e)
    by false e k rec = omega (arith, sum_by-cons (λ m. cond (nat_eq b m) 1 0) x xs, rec k)

pub undriven_by : (b : ℕ) (gates : List (Gate ℕ)) → count_by (nat_eq b) (map (λ g. g.out) gates) ≡ 0 → find (λ g. nat_eq b g.out) gates ≡ None
undriven_by b [] h = refl
undriven_by b (g ∷ gates) h = by (nat_eq b g.out) refl (undriven_by b gates)
  where
    by : (t : Bool) → nat_eq b g.out ≡ t → (count_by (nat_eq b) (map (λ g. g.out) gates) ≡ 0 → find (λ g. nat_eq b g.out) gates ≡ None) → cond t (Some g) (find (λ g. nat_eq b g.out) gates) ≡ None
    by true e rec = absurd (omega (arith, h, sum_by-cons (λ m. cond (nat_eq b m) 1 0) g.out (map (λ g. g.out) gates), ap {B = ℕ} (λ t. cond t 1 0) e))
    by false e rec = rec (omega (arith, h, sum_by-cons (λ m. cond (nat_eq b m) 1 0) g.out (map (λ g. g.out) gates)))

pub stays : (steps : ℕ) (gates : List (Gate ℕ)) (b : ℕ) → find (λ g. nat_eq b g.out) gates ≡ None → origin_within steps gates b ≡ b
stays zero gates b h = refl
stays (suc steps) gates b h = ap (λ g. on_some (copied_by g) b (origin_within steps gates)) h

-- an input's way back stands on it
pub input_origin : (vars : List Entry) (w : Work) (b : ℕ) → driver_fault vars w ≡ None → b < w.fresh → has_bit (input_bits vars) b ≡ true → origin w b ≡ b
input_origin vars w b h less input =
    let outs : List ℕ = map (λ g. g.out) w.gates in
    let qs : List ℕ = map (λ f. f.q) w.flops in
    let two : nat_lt 1 (count_by (nat_eq b) (bits_driven vars w)) ≡ false =
    unnamed TwoDrivers (λ k. nat_lt 1 (count_by (nat_eq k) (bits_driven vars w))) vars w b (neither (two_drivers vars w) (undriven vars w) h).0 less (input_is_net vars w b input) in
    let few : count_by (nat_eq b) (bits_driven vars w) ≤ 1 = grind (arith, nat_tests) in
    let all : count_by (nat_eq b) (bits_driven vars w) ≡ count_by (nat_eq b) (input_bits vars) + count_by (nat_eq b) (outs ++ qs) = sum_by-append (λ m. cond (nat_eq b m) 1 0) (input_bits vars) (outs ++ qs) in
    let some : count_by (nat_eq b) (outs ++ qs) ≡ count_by (nat_eq b) outs + count_by (nat_eq b) qs = sum_by-append (λ m. cond (nat_eq b m) 1 0) outs qs in
    stays (length w.gates) w.gates b (undriven_by b w.gates (omega (arith, few, all, some, counted b (input_bits vars) input)))

-- the clock ----------------------------------------------------------------

and_not : (a b : Bool) → (a && not b) ≡ false → a ≡ true → b ≡ true
and_not true true h k = refl
and_not true false h k = cc
and_not false b h k = cc

-- the clock is an input's bit
pub clock_is_input : (vars : List Entry) (w : Work) (c : ℕ) → clock_fault vars w ≡ None → IsWithin w → clock_of w ≡ Some c → has_bit (input_bits vars) c ≡ true
clock_is_input vars w c h within is = by w.flops refl is (recursion_from_All (IsFlopWithin w.fresh) w.flops within.flops)
  where
    by : (fs : List Clocked) → w.flops ≡ fs → first_of (map (origin w) (map (λ f. f.clock) fs)) ≡ Some c → AllByRecursion (IsFlopWithin w.fresh) fs → has_bit (input_bits vars) c ≡ true
    by [] e k all = cc
    by (f ∷ fs) e k all =
        let own : nat_eq f.clock f.clock ≡ true = grind (arith, nat_tests) in
        let pin : has_bit (clock_pins w) f.clock ≡ true = ap (λ gs. has_bit (map (λ g. g.clock) gs) f.clock) e ∙ or_left (nat_eq f.clock f.clock) (has_bit (map (λ g. g.clock) fs) f.clock) own in
        let test : (has_bit (clock_pins w) f.clock && not (has_bit (input_bits vars) (origin w f.clock))) ≡ false =
        unnamed ClockNotInput (λ b. has_bit (clock_pins w) b && not (has_bit (input_bits vars) (origin w b))) vars w f.clock
        (neither (clock_not_input vars w) (option_or (two_clocks vars w) (clock_as_data vars w)) h).0 all.0.clock (pin_is_net vars w f.clock pin) in
        let one : origin w f.clock ≡ c = cc in
        ap (has_bit (input_bits vars)) (sym one) ∙ and_not (has_bit (clock_pins w) f.clock) (has_bit (input_bits vars) (origin w f.clock)) test pin

pub and_other : (a b : Bool) → (a && b) ≡ false → b ≡ true → a ≡ false
and_other true true h k = cc
and_other true false h k = cc
and_other false b h k = refl

-- no output is fed from the clock
pub output_is_data : (vars : List Entry) (w : Work) (b : ℕ) → clock_fault vars w ≡ None → b < w.fresh → has_bit (output_bits vars) b ≡ true → is_clock w b ≡ false
output_is_data vars w b h less output =
    let more : List ℕ = flat_map (λ g. if is_buf g.op then [] else g.ins) w.gates ++ map (λ f. f.d) w.flops in
    let among : has_bit (read_as_data vars w) b ≡ true = list_any-append (nat_eq b) (output_bits vars) more ∙ or_left (has_bit (output_bits vars) b) (has_bit more b) output in
    let none = neither (clock_not_input vars w) (option_or (two_clocks vars w) (clock_as_data vars w)) h in
    and_other (is_clock w b) (has_bit (read_as_data vars w) b)
    (unnamed ClockAsData (λ k. is_clock w k && has_bit (read_as_data vars w) k) vars w b (neither (two_clocks vars w) (clock_as_data vars w) none.1).1 less (output_is_net vars w b output)) among

-- ports ----------------------------------------------------------------------

swapped : {A B : Type 0} → A ⊎ B → B ⊎ A
swapped (inl a) = inr a
swapped (inr b) = inl b

joined : (here mine ports all others : Bool) → (here || ports) ≡ true → all ≡ (here || mine) → (ports ≡ true → (mine ≡ true) ⊎ (others ≡ true)) → (all ≡ true) ⊎ (others ≡ true)
joined true mine ports all others h e rec = inl e
joined false mine ports all others h e rec = onto (rec h)
  where
    onto : (mine ≡ true) ⊎ (others ≡ true) → (all ≡ true) ⊎ (others ≡ true)
    onto (inl k) = inl (e ∙ k)
    onto (inr k) = inr k

-- a port's bit is an input's or an output's
port_split : (first : ℕ) (vs : List Entry) (b : ℕ) → has_bit (bits_from is_port first vs) b ≡ true → (has_bit (bits_from is_input first vs) b ≡ true) ⊎ (has_bit (bits_from is_output first vs) b ≡ true)
port_split first [] b h = cc
port_split first (v ∷ vs) b h = by v.1.role h (port_split (first + range_width v.1.range) vs b)
  where
    by : (r : Role) → has_bit ((if is_port r then range_with_len first (range_width v.1.range) else []) ++ bits_from is_port (first + range_width v.1.range) vs) b ≡ true
        → (has_bit (bits_from is_port (first + range_width v.1.range) vs) b ≡ true → (has_bit (bits_from is_input (first + range_width v.1.range) vs) b ≡ true) ⊎ (has_bit (bits_from is_output (first + range_width v.1.range) vs) b ≡ true))
        → (has_bit ((if is_input r then range_with_len first (range_width v.1.range) else []) ++ bits_from is_input (first + range_width v.1.range) vs) b ≡ true)
        ⊎ (has_bit ((if is_output r then range_with_len first (range_width v.1.range) else []) ++ bits_from is_output (first + range_width v.1.range) vs) b ≡ true)
    by Input k rec =
        let here : List ℕ = range_with_len first (range_width v.1.range) in
        let ins : List ℕ = bits_from is_input (first + range_width v.1.range) vs in
        let ports : List ℕ = bits_from is_port (first + range_width v.1.range) vs in
        joined (has_bit here b) (has_bit ins b) (has_bit ports b) (has_bit (here ++ ins) b) (has_bit (bits_from is_output (first + range_width v.1.range) vs) b)
        (sym (list_any-append (nat_eq b) here ports) ∙ k) (list_any-append (nat_eq b) here ins) rec
    by Output k rec =
        let here : List ℕ = range_with_len first (range_width v.1.range) in
        let outs : List ℕ = bits_from is_output (first + range_width v.1.range) vs in
        let ports : List ℕ = bits_from is_port (first + range_width v.1.range) vs in
        swapped (joined (has_bit here b) (has_bit outs b) (has_bit ports b) (has_bit (here ++ outs) b) (has_bit (bits_from is_input (first + range_width v.1.range) vs) b)
        (sym (list_any-append (nat_eq b) here ports) ∙ k) (list_any-append (nat_eq b) here outs) (λ l. swapped (rec l)))
    by Wire k rec = rec k

-- where drivers and clocks have no fault, every port bit is a net, and data but for the clock's
pub port_is_net : (vars : List Entry) (w : Work) (b : ℕ) → has_bit (bits_from is_port 0 vars) b ≡ true → is_net vars w b ≡ true
port_is_net vars w b h = by (port_split 0 vars b h)
  where
    by : (has_bit (input_bits vars) b ≡ true) ⊎ (has_bit (output_bits vars) b ≡ true) → is_net vars w b ≡ true
    by (inl k) = input_is_net vars w b k
    by (inr k) = output_is_net vars w b k

pub port_is_data : (vars : List Entry) (w : Work) (clock : Option ℕ) → driver_fault vars w ≡ None → clock_fault vars w ≡ None → IsWithin w → clock ≡ clock_of w → KeepsPorts vars w.fresh clock (is_data w)
port_is_data vars w clock drivers clocks within clock_is b less port = ap not (by (port_split 0 vars b port) ∙ ap (λ o. is_clock_bit o b) (sym clock_is))
  where
    input : (o : Option ℕ) → origin w b ≡ b → on_some o false (λ c. nat_eq c (origin w b)) ≡ is_clock_bit o b
    input None e = refl
    input (Some c) e = ap (nat_eq c) e

    output : (o : Option ℕ) → clock_of w ≡ o → is_clock w b ≡ false → is_clock w b ≡ is_clock_bit o b
    output None e k = k
    output (Some c) e k = apart (nat_eq c b) refl
      where
        apart : (t : Bool) → nat_eq c b ≡ t → is_clock w b ≡ nat_eq c b
        apart false f = k ∙ sym f
        apart true f =
            let same : c ≡ b = grind (arith, nat_tests) in
            let among : has_bit (input_bits vars) b ≡ true = ap (has_bit (input_bits vars)) (sym same) ∙ clock_is_input vars w c clocks within e in
            let stands : origin w b ≡ b = input_origin vars w b drivers less among in
            ap (λ o. on_some o false (λ d. nat_eq d (origin w b))) e ∙ ap (nat_eq c) stands

    by : (has_bit (input_bits vars) b ≡ true) ⊎ (has_bit (output_bits vars) b ≡ true) → is_clock w b ≡ is_clock_bit (clock_of w) b
    by (inl k) = input (clock_of w) (input_origin vars w b drivers less k)
    by (inr k) = output (clock_of w) refl (output_is_data vars w b clocks less k)
