-- Where drivers and clocks have no fault, all that the netlist without the clock's nets drives and reads is kept.
use Rattle.std.proofs.Common.{◌≡◌, ℕ, ◌+◌, ◌<◌, ◌≤◌, zero, suc, nat_eq, nat_lt, not, ◌&&◌, List, [], ◌∷◌, ◌++◌, map, filter, length, Bool, true, false, cond, Option, Some, None, slice_get, if◌then◌else◌, refl, sym, ap, subst, ◌∙◌, arith}
use Rattle.std.specs.Prelude.{find, count_by, flat_map}
use Rattle.std.proofs.lemmas.Bool.Decides.{nat_tests}
use Rattle.std.proofs.lemmas.List.Elements.{recursion_from_All}
use Rattle.std.proofs.lemmas.List.Folds.{list_any-append}
use Rattle.std.proofs.lemmas.List.Sums.{sum_by-append, sum_by-cons}
use Rattle.std.specs.List.{AllByRecursion}
use Rattle.std.specs.Option.{option_or}
use Rattle.bb_base.specs.declared.operator.Op.{Op}
use Rattle.bb_base.specs.declared.operator.Op.TheVariants as op
use Rattle.bb_base.specs.Operators.{IsArity}
use Rattle.bb_base.specs.Variables.{Entry, is_input, is_output, bit_count}
use Rattle.bb_base.specs.Net.{Gate, Flop, HasArity, driven, reads}
use Rattle.bb_base.proofs.Lists.{all_join}
use Rattle.bb_fault.specs.declared.fault.ElabFault.TheVariants.{TwoDrivers, Undriven, ClockAsData}
use Rattle.bb_fault.specs.Firsts.{on_some}
use Rattle.bb_fault.specs.Work.{Work, Clocked}
use Rattle.bb_drive.specs.Within.{IsWithin, IsGateWithin, IsFlopWithin}
use Rattle.bb_drive.specs.Nets.{input_bits, output_bits, bits_driven, bits_read, has_bit, nets, two_drivers, undriven, driver_fault}
use Rattle.bb_drive.specs.Clock.{is_buf, first_of, copied_by, copied_net, origin, clock_not_input, two_clocks, clock_of, is_clock, read_as_data, clock_as_data, clock_fault, is_data}
use Rattle.bb_drive.proofs.ClockLaws.{input_free}
use Rattle.bb_drive.proofs.WayBack.{copied_origin}
use Rattle.bb_drive.specs.NamedOf.{kept, by_bits}
use Rattle.bb_assemble.proofs.NamedBits.{or_left, or_right}
use Rattle.bb_drive.proofs.BitBounds.{bits_in}
use Rattle.bb_assemble.proofs.KeptLaws.{neither, has_filter, is_net, net_found, unnamed, input_is_net, output_is_net, counted, undriven_by, stays, clock_is_input, output_is_data, and_other}

-- items by their places -----------------------------------------------------

-- what holds of each item at its place holds of all
pub all_placed : {X : Type 0} (P : X → Type 0) (xs : List X) → ((i : ℕ) (x : X) → slice_get xs i ≡ Some x → P x) → AllByRecursion P xs
all_placed P [] h = tt
all_placed P (x ∷ xs) h = (h 0 x refl, all_placed P xs (λ i y e. h (suc i) y e))

-- and of those that pass a test
pub all_filtered : {X : Type 0} (P : X → Type 0) (p : X → Bool) (xs : List X) → ((i : ℕ) (x : X) → slice_get xs i ≡ Some x → p x ≡ true → P x) → AllByRecursion P (filter p xs)
all_filtered P p [] h = tt
all_filtered P p (x ∷ xs) h = by (p x) refl (all_filtered P p xs (λ i y e. h (suc i) y e))
  where
    by : (t : Bool) → p x ≡ t → AllByRecursion P (filter p xs) → AllByRecursion P (cond t (x ∷ filter p xs) (filter p xs))
    by true e rest = (h 0 x refl e, rest)
    by false e rest = rest

-- what holds of all holds at a place
pub at_place : {X : Type 0} (P : X → Type 0) (xs : List X) (i : ℕ) (x : X) → AllByRecursion P xs → slice_get xs i ≡ Some x → P x
at_place P [] i x all at = absurd (cc at)
at_place P (y ∷ xs) zero x all at = let same : y ≡ x = cc at in subst P same all.0
at_place P (y ∷ xs) (suc i) x all at = at_place P xs i x all.1 at

pub all_flat_map : {X Y : Type 0} (P : Y → Type 0) (f : X → List Y) (xs : List X) → AllByRecursion (λ x. AllByRecursion P (f x)) xs → AllByRecursion P (flat_map f xs)
all_flat_map P f [] h = tt
all_flat_map P f (x ∷ xs) h = all_join P (f x) (flat_map f xs) h.0 (all_flat_map P f xs h.1)

-- and of images where it holds of what they are of
pub all_images : {X Y : Type 0} (P : Y → Type 0) (f : X → Y) (xs : List X) → AllByRecursion (λ x. P (f x)) xs → AllByRecursion P (map f xs)
all_images P f [] h = tt
all_images P f (x ∷ xs) h = (h.0, all_images P f xs h.1)

-- bits among others ----------------------------------------------------------

pub has_placed : (xs : List ℕ) (i x : ℕ) → slice_get xs i ≡ Some x → has_bit xs x ≡ true
has_placed [] i x h = cc
has_placed (y ∷ xs) zero x h =
    let same : y ≡ x = cc in
    let own : nat_eq x y ≡ true = grind (arith, nat_tests) in
    or_left (nat_eq x y) (has_bit xs x) own
has_placed (y ∷ xs) (suc i) x h = or_right (nat_eq x y) (has_bit xs x) (has_placed xs i x h)

pub has_mapped : {X : Type 0} (f : X → ℕ) (xs : List X) (i : ℕ) (x : X) → slice_get xs i ≡ Some x → has_bit (map f xs) (f x) ≡ true
has_mapped f [] i x h = cc
has_mapped f (y ∷ xs) zero x h =
    let same : y ≡ x = cc in
    let eq : f y ≡ f x = ap f same in
    let own : nat_eq (f x) (f y) ≡ true = grind (arith, nat_tests) in
    or_left (nat_eq (f x) (f y)) (has_bit (map f xs) (f x)) own
has_mapped f (y ∷ xs) (suc i) x h = or_right (nat_eq (f x) (f y)) (has_bit (map f xs) (f x)) (has_mapped f xs i x h)

has_flat : {X : Type 0} (f : X → List ℕ) (xs : List X) (i : ℕ) (x : X) (b : ℕ) → slice_get xs i ≡ Some x → has_bit (f x) b ≡ true → has_bit (flat_map f xs) b ≡ true
has_flat f [] i x b h k = cc
has_flat f (y ∷ xs) zero x b h k =
    let same : y ≡ x = cc in
    list_any-append (nat_eq b) (f y) (flat_map f xs) ∙ or_left (has_bit (f y) b) (has_bit (flat_map f xs) b) (ap (λ z. has_bit (f z) b) same ∙ k)
has_flat f (y ∷ xs) (suc i) x b h k = list_any-append (nat_eq b) (f y) (flat_map f xs) ∙ or_right (has_bit (f y) b) (has_bit (flat_map f xs) b) (has_flat f xs i x b h k)

pub has_front : (xs ys : List ℕ) (b : ℕ) → has_bit xs b ≡ true → has_bit (xs ++ ys) b ≡ true
has_front xs ys b h = list_any-append (nat_eq b) xs ys ∙ or_left (has_bit xs b) (has_bit ys b) h

pub has_back : (xs ys : List ℕ) (b : ℕ) → has_bit ys b ≡ true → has_bit (xs ++ ys) b ≡ true
has_back xs ys b h = list_any-append (nat_eq b) xs ys ∙ or_right (has_bit xs b) (has_bit ys b) h

-- the only gate that drives a net is the first one
first_driver : (gates : List (Gate ℕ)) (i : ℕ) (g : Gate ℕ) → slice_get gates i ≡ Some g → count_by (nat_eq g.out) (map (λ (k : Gate ℕ). k.out) gates) ≤ 1 → find (λ k. nat_eq g.out k.out) gates ≡ Some g
first_driver [] i g h few = cc
first_driver (k ∷ gates) zero g h few =
    let same : k ≡ g = cc in
    let outs : k.out ≡ g.out = ap (λ (z : Gate ℕ). z.out) same in
    let own : nat_eq g.out k.out ≡ true = grind (arith, nat_tests) in
    ap (λ t. cond t (Some k) (find (λ z. nat_eq g.out z.out) gates)) own ∙ ap Some same
first_driver (k ∷ gates) (suc i) g h few = by (nat_eq g.out k.out) refl (first_driver gates i g h)
  where
    head : count_by (nat_eq g.out) (map (λ (z : Gate ℕ). z.out) (k ∷ gates)) ≡ cond (nat_eq g.out k.out) 1 0 + count_by (nat_eq g.out) (map (λ (z : Gate ℕ). z.out) gates)
    head = sum_by-cons (λ y. cond (nat_eq g.out y) 1 0) k.out (map (λ (z : Gate ℕ). z.out) gates)

    by : (t : Bool) → nat_eq g.out k.out ≡ t → (count_by (nat_eq g.out) (map (λ (z : Gate ℕ). z.out) gates) ≤ 1 → find (λ z. nat_eq g.out z.out) gates ≡ Some g) → cond t (Some k) (find (λ z. nat_eq g.out z.out) gates) ≡ Some g
    by true e rest =
        let one : ◌≡◌ {A = ℕ} (cond (nat_eq g.out k.out) 1 0) 1 = ap (λ t. cond t 1 0) e in
        let there = counted g.out (map (λ (z : Gate ℕ). z.out) gates) (has_mapped (λ (z : Gate ℕ). z.out) gates i g h) in
        absurd (omega (arith, head, one, there, few))
    by false e rest = rest (omega (arith, head, few))

-- what is kept -----------------------------------------------------------------

-- no fault of drivers or clocks, and all bits are those of variables
pub record IsFineWork (vars : List Entry) (w : Work) : Type 0 where
  pub drivers : driver_fault vars w ≡ None
  pub clocks : clock_fault vars w ≡ None
  pub within : IsWithin w
  pub total : bit_count vars ≡ w.fresh

abbrev pub IsKept : List Entry → Work → ℕ → Type 0
IsKept vars w b = has_bit (kept vars w) b ≡ true

pub kept_has : (vars : List Entry) (w : Work) (b : ℕ) → b < w.fresh → is_net vars w b ≡ true → is_data w b ≡ true → IsKept vars w b
kept_has vars w b less net data_is = has_filter (is_data w) (nets vars w) b ∙ (λ i. data_is i && net_found vars w b less net i)

one_input : (o : Op) (ins : List ℕ) → is_buf o ≡ true → IsArity o (length ins) → (a : ℕ) × (ins ≡ a ∷ [])
one_input op.Buf [] h k = absurd (omega (arith, k))
one_input op.Buf (a ∷ []) h k = (a, refl)
one_input op.Buf (a ∷ b ∷ ins) h k = absurd (omega (arith, k))
one_input op.And ins h k = absurd (cc h)
one_input op.Nand ins h k = absurd (cc h)
one_input op.Or ins h k = absurd (cc h)
one_input op.Nor ins h k = absurd (cc h)
one_input op.Xor ins h k = absurd (cc h)
one_input op.Xnor ins h k = absurd (cc h)
one_input op.Not ins h k = absurd (cc h)
one_input op.Zero ins h k = absurd (cc h)
one_input op.One ins h k = absurd (cc h)

module _ (vars : List Entry) (w : Work) (fine : IsFineWork vars w) where
  abbrev outs : List ℕ
  outs = map (λ (g : Gate ℕ). g.out) w.gates

  abbrev qs : List ℕ
  qs = map (λ (f : Clocked). f.q) w.flops

  -- a net has one driver
  pub few_drivers : (b : ℕ) → b < w.fresh → is_net vars w b ≡ true → count_by (nat_eq b) (bits_driven vars w) ≤ 1
  few_drivers b less net =
      let two : nat_lt 1 (count_by (nat_eq b) (bits_driven vars w)) ≡ false =
      unnamed TwoDrivers (λ k. nat_lt 1 (count_by (nat_eq k) (bits_driven vars w))) vars w b (neither (two_drivers vars w) (undriven vars w) fine.drivers).0 less net in
      grind (arith, nat_tests)

  pub some_driver : (b : ℕ) → b < w.fresh → is_net vars w b ≡ true → has_bit (bits_driven vars w) b ≡ true
  some_driver b less net =
      by (has_bit (bits_driven vars w) b) (unnamed Undriven (λ k. not (has_bit (bits_driven vars w) k)) vars w b (neither (two_drivers vars w) (undriven vars w) fine.drivers).1 less net)
    where
      by : (t : Bool) → not t ≡ false → t ≡ true
      by true h = refl
      by false h = sym h

  pub parts_counted : (b : ℕ) → count_by (nat_eq b) (bits_driven vars w) ≡ count_by (nat_eq b) (input_bits vars) + (count_by (nat_eq b) outs + count_by (nat_eq b) qs)
  parts_counted b =
      sum_by-append (λ m. cond (nat_eq b m) 1 0) (input_bits vars) (outs ++ qs) ∙ ap (λ k. count_by (nat_eq b) (input_bits vars) + k) (sum_by-append (λ m. cond (nat_eq b m) 1 0) outs qs)

  pub driven_net : (b : ℕ) → has_bit (bits_driven vars w) b ≡ true → is_net vars w b ≡ true
  driven_net b h = or_left (has_bit (bits_driven vars w) b) (has_bit (bits_read vars w) b) h

  read_net : (b : ℕ) → has_bit (bits_read vars w) b ≡ true → is_net vars w b ≡ true
  read_net b h = or_right (has_bit (bits_driven vars w) b) (has_bit (bits_read vars w) b) h

  -- no gate drives the clock
  clock_still : (c : ℕ) → clock_of w ≡ Some c → (has_bit (input_bits vars) c ≡ true) × (copied_net w.gates c ≡ None)
  clock_still c is =
      let input = clock_is_input vars w c fine.clocks fine.within is in
      (input, input_free vars w c fine.drivers (omega (arith, fine.total, bits_in is_input 0 vars c input)) input)

  data_but : (b : ℕ) → ((c : ℕ) → clock_of w ≡ Some c → nat_eq c (origin w b) ≡ true → is_data w b ≡ true) → is_data w b ≡ true
  data_but b h = by (clock_of w) refl
    where
      by : (o : Option ℕ) → clock_of w ≡ o → is_data w b ≡ true
      by None e = ap (λ o. not (on_some o false (λ c. nat_eq c (origin w b)))) e
      by (Some c) e = test (nat_eq c (origin w b)) refl
        where
          test : (t : Bool) → nat_eq c (origin w b) ≡ t → is_data w b ≡ true
          test true k = h c e k
          test false k = ap (λ o. not (on_some o false (λ c. nat_eq c (origin w b)))) e ∙ ap not k

  -- what a Buf gate of data copies is data
  copied_data : (i : ℕ) (g : Gate ℕ) (a : ℕ) → slice_get w.gates i ≡ Some g → is_data w g.out ≡ true → is_buf g.op ≡ true → g.ins ≡ a ∷ [] → is_data w a ≡ true
  copied_data i g a at data_out buf ins = data_but a clash
    where
      there : has_bit outs g.out ≡ true
      there = has_mapped (λ (k : Gate ℕ). k.out) w.gates i g at

      small : g.out < w.fresh
      small = (at_place (IsGateWithin w.fresh) w.gates i g (recursion_from_All (IsGateWithin w.fresh) w.gates fine.within.gates) at).out

      few : count_by (nat_eq g.out) outs ≤ 1
      few = omega (arith, few_drivers g.out small (driven_net g.out (has_back (input_bits vars) (outs ++ qs) g.out (has_front outs qs g.out there))), parts_counted g.out)

      copies : copied_net w.gates g.out ≡ Some a
      copies = ap copied_by (first_driver w.gates i g at few) ∙ (λ j. if buf j then first_of (ins j) else None)

      clash : (c : ℕ) → clock_of w ≡ Some c → nat_eq c (origin w a) ≡ true → is_data w a ≡ true
      clash c is e =
          let same : c ≡ origin w a = grind (arith, nat_tests) in
          let still : copied_net w.gates (origin w a) ≡ None = ap (copied_net w.gates) (sym same) ∙ (clock_still c is).1 in
          let up : origin w g.out ≡ origin w a = copied_origin w g.out a copies still in
          let clock : is_data w g.out ≡ false = ap (λ o. not (on_some o false (λ c. nat_eq c (origin w g.out)))) is ∙ ap (λ k. not (nat_eq c k)) up ∙ ap not e in
          absurd (cc (clock, data_out))

  -- a flip-flop's q is data
  state_data : (i : ℕ) (f : Clocked) → slice_get w.flops i ≡ Some f → is_data w f.q ≡ true
  state_data i f at = data_but f.q clash
    where
      there : has_bit qs f.q ≡ true
      there = has_mapped (λ (k : Clocked). k.q) w.flops i f at

      small : f.q < w.fresh
      small = (at_place (IsFlopWithin w.fresh) w.flops i f (recursion_from_All (IsFlopWithin w.fresh) w.flops fine.within.flops) at).q

      few : count_by (nat_eq f.q) (bits_driven vars w) ≤ 1
      few = few_drivers f.q small (driven_net f.q (has_back (input_bits vars) (outs ++ qs) f.q (has_back outs qs f.q there)))

      stands : origin w f.q ≡ f.q
      stands = stays (length w.gates) w.gates f.q (undriven_by f.q w.gates (omega (arith, few, parts_counted f.q, counted f.q qs there)))

      clash : (c : ℕ) → clock_of w ≡ Some c → nat_eq c (origin w f.q) ≡ true → is_data w f.q ≡ true
      clash c is e =
          let same : c ≡ f.q = grind (arith, nat_tests, e, stands) in
          let input : has_bit (input_bits vars) f.q ≡ true = ap (has_bit (input_bits vars)) (sym same) ∙ (clock_still c is).0 in
          absurd (omega (arith, few, parts_counted f.q, counted f.q qs there, counted f.q (input_bits vars) input))

  -- what is read as data is data
  read_data : (b : ℕ) → b < w.fresh → is_net vars w b ≡ true → has_bit (read_as_data vars w) b ≡ true → is_data w b ≡ true
  read_data b less net among =
      let none = neither (clock_not_input vars w) (option_or (two_clocks vars w) (clock_as_data vars w)) fine.clocks in
      ap not (and_other (is_clock w b) (has_bit (read_as_data vars w) b)
      (unnamed ClockAsData (λ k. is_clock w k && has_bit (read_as_data vars w) k) vars w b (neither (two_clocks vars w) (clock_as_data vars w) none.1).1 less net) among)

  -- the inputs of a gate whose output is data
  ins_kept : AllByRecursion HasArity w.gates → (i : ℕ) (g : Gate ℕ) → slice_get w.gates i ≡ Some g → is_data w g.out ≡ true → AllByRecursion (IsKept vars w) g.ins
  ins_kept arities i g at data_out = all_placed (IsKept vars w) g.ins each
    where
      bounds : AllByRecursion (λ b. b < w.fresh) g.ins
      bounds = recursion_from_All (λ b. b < w.fresh) g.ins (at_place (IsGateWithin w.fresh) w.gates i g (recursion_from_All (IsGateWithin w.fresh) w.gates fine.within.gates) at).ins

      arity : IsArity g.op (length g.ins)
      arity = at_place HasArity w.gates i g arities at

      each : (j b : ℕ) → slice_get g.ins j ≡ Some b → IsKept vars w b
      each j b in_is = kept_has vars w b small net (by (is_buf g.op) refl)
        where
          small : b < w.fresh
          small = at_place (λ b. b < w.fresh) g.ins j b bounds in_is

          among : has_bit g.ins b ≡ true
          among = has_placed g.ins j b in_is

          net : is_net vars w b ≡ true
          net = read_net b (has_back (output_bits vars) _ b (has_front (flat_map (λ (k : Gate ℕ). k.ins) w.gates) _ b (has_flat (λ (k : Gate ℕ). k.ins) w.gates i g b at among)))

          by : (t : Bool) → is_buf g.op ≡ t → is_data w b ≡ true
          by true e =
              let one = one_input g.op g.ins e arity in
              let same : one.0 ≡ b = only one.0 j b (sym (ap (λ ks. slice_get ks j) one.1) ∙ in_is) in
              subst (λ k. is_data w k ≡ true) same (copied_data i g one.0 at data_out e one.1)
            where
              only : (a j b : ℕ) → slice_get (a ∷ []) j ≡ Some b → a ≡ b
              only a zero b h = cc
              only a (suc j) b h = cc
          by false e =
              read_data b small net
              (has_back (output_bits vars) _ b (has_front (flat_map (λ (k : Gate ℕ). if is_buf k.op then [] else k.ins) w.gates) _ b
              (has_flat (λ (k : Gate ℕ). if is_buf k.op then [] else k.ins) w.gates i g b at (ap (λ (t : Bool). has_bit (if t then [] else g.ins) b) e ∙ among))))

  -- a gate whose output is data, and a flip-flop
  pub gate_kept : AllByRecursion HasArity w.gates → (i : ℕ) (g : Gate ℕ) → slice_get w.gates i ≡ Some g → is_data w g.out ≡ true → IsKept vars w g.out × AllByRecursion (IsKept vars w) g.ins
  gate_kept arities i g at data_is =
      let there = has_mapped (λ (k : Gate ℕ). k.out) w.gates i g at in (
        kept_has vars w g.out (at_place (IsGateWithin w.fresh) w.gates i g (recursion_from_All (IsGateWithin w.fresh) w.gates fine.within.gates) at).out
            (driven_net g.out (has_back (input_bits vars) (outs ++ qs) g.out (has_front outs qs g.out there))) data_is,
        ins_kept arities i g at data_is,
      )

  pub flop_kept : (i : ℕ) (f : Clocked) → slice_get w.flops i ≡ Some f → IsKept vars w f.q × IsKept vars w f.d
  flop_kept i f at =
      let within = at_place (IsFlopWithin w.fresh) w.flops i f (recursion_from_All (IsFlopWithin w.fresh) w.flops fine.within.flops) at in
      let q_there = has_mapped (λ (k : Clocked). k.q) w.flops i f at in
      let d_there = has_mapped (λ (k : Clocked). k.d) w.flops i f at in
      let net = read_net f.d (has_back (output_bits vars) _ f.d (has_back (flat_map (λ (k : Gate ℕ). k.ins) w.gates) _ f.d (has_front (map (λ (k : Clocked). k.d) w.flops) _ f.d d_there))) in (
        kept_has vars w f.q within.q (driven_net f.q (has_back (input_bits vars) (outs ++ qs) f.q (has_back outs qs f.q q_there))) (state_data i f at),
        kept_has vars w f.d within.d net (read_data f.d within.d net (has_back (output_bits vars) _ f.d (has_back (flat_map (λ (k : Gate ℕ). if is_buf k.op then [] else k.ins) w.gates) _ f.d d_there))),
      )

  -- all that is driven is kept
  pub driven_kept : AllByRecursion (IsKept vars w) (driven (by_bits vars w))
  driven_kept =
      all_join (IsKept vars w) (filter (is_data w) (input_bits vars)) _ inputs
      (all_join (IsKept vars w) (map (λ (g : Gate ℕ). g.out) (filter (λ (g : Gate ℕ). is_data w g.out) w.gates)) _ gates flops)
    where
      inputs : AllByRecursion (IsKept vars w) (filter (is_data w) (input_bits vars))
      inputs = all_filtered (IsKept vars w) (is_data w) (input_bits vars)
          (λ i b at data_is.
          let among = has_placed (input_bits vars) i b at in
          kept_has vars w b (omega (arith, fine.total, bits_in is_input 0 vars b among)) (input_is_net vars w b among) data_is)

      gates : AllByRecursion (IsKept vars w) (map (λ (g : Gate ℕ). g.out) (filter (λ (g : Gate ℕ). is_data w g.out) w.gates))
      gates = all_images (IsKept vars w) (λ (g : Gate ℕ). g.out) (filter (λ (g : Gate ℕ). is_data w g.out) w.gates) (all_filtered (λ (g : Gate ℕ). IsKept vars w g.out) (λ g. is_data w g.out) w.gates
          (λ i g at data_is.
          let there = has_mapped (λ (k : Gate ℕ). k.out) w.gates i g at in
          kept_has vars w g.out (at_place (IsGateWithin w.fresh) w.gates i g (recursion_from_All (IsGateWithin w.fresh) w.gates fine.within.gates) at).out
          (driven_net g.out (has_back (input_bits vars) (outs ++ qs) g.out (has_front outs qs g.out there))) data_is))

      flops : AllByRecursion (IsKept vars w) (map (λ (f : Flop ℕ). f.q) (map (λ (f : Clocked). record { q = f.q; d = f.d }) w.flops))
      flops = all_images (IsKept vars w) (λ (f : Flop ℕ). f.q) (map (λ (f : Clocked). record { q = f.q; d = f.d }) w.flops)
          (all_images (λ (f : Flop ℕ). IsKept vars w f.q) (λ (f : Clocked). record { q = f.q; d = f.d }) w.flops (all_placed (λ (f : Clocked). IsKept vars w f.q) w.flops
          (λ i f at.
          let there = has_mapped (λ (k : Clocked). k.q) w.flops i f at in
          kept_has vars w f.q (at_place (IsFlopWithin w.fresh) w.flops i f (recursion_from_All (IsFlopWithin w.fresh) w.flops fine.within.flops) at).q
          (driven_net f.q (has_back (input_bits vars) (outs ++ qs) f.q (has_back outs qs f.q there))) (state_data i f at))))

  -- the outputs are kept
  pub outputs_kept : AllByRecursion (IsKept vars w) (output_bits vars)
  outputs_kept = all_placed (IsKept vars w) (output_bits vars)
      (λ i b at.
      let among = has_placed (output_bits vars) i b at in
      let small : b < w.fresh = omega (arith, fine.total, bits_in is_output 0 vars b among) in
      kept_has vars w b small (output_is_net vars w b among) (ap not (output_is_data vars w b fine.clocks small among)))

  -- and all that is read
  pub reads_kept : AllByRecursion HasArity w.gates → AllByRecursion (IsKept vars w) (reads (by_bits vars w))
  reads_kept arities =
      all_join (IsKept vars w) (output_bits vars) _ outputs_kept
      (all_join (IsKept vars w) (flat_map (λ (g : Gate ℕ). g.ins) (filter (λ (g : Gate ℕ). is_data w g.out) w.gates)) _
      (all_flat_map (IsKept vars w) (λ (g : Gate ℕ). g.ins) (filter (λ (g : Gate ℕ). is_data w g.out) w.gates)
      (all_filtered (λ (g : Gate ℕ). AllByRecursion (IsKept vars w) g.ins) (λ g. is_data w g.out) w.gates (ins_kept arities))) flops)
    where
      flops : AllByRecursion (IsKept vars w) (map (λ (f : Flop ℕ). f.d) (map (λ (f : Clocked). record { q = f.q; d = f.d }) w.flops))
      flops = all_images (IsKept vars w) (λ (f : Flop ℕ). f.d) (map (λ (f : Clocked). record { q = f.q; d = f.d }) w.flops)
          (all_images (λ (f : Flop ℕ). IsKept vars w f.d) (λ (f : Clocked). record { q = f.q; d = f.d }) w.flops (all_placed (λ (f : Clocked). IsKept vars w f.d) w.flops
          (λ i f at.
          let there = has_mapped (λ (k : Clocked). k.d) w.flops i f at in
          let small : f.d < w.fresh = (at_place (IsFlopWithin w.fresh) w.flops i f (recursion_from_All (IsFlopWithin w.fresh) w.flops fine.within.flops) at).d in
          let net = read_net f.d (has_back (output_bits vars) _ f.d (has_back (flat_map (λ (k : Gate ℕ). k.ins) w.gates) _ f.d (has_front (map (λ (k : Clocked). k.d) w.flops) _ f.d there))) in
          kept_has vars w f.d small net
          (read_data f.d small net (has_back (output_bits vars) _ f.d (has_back (flat_map (λ (k : Gate ℕ). if is_buf k.op then [] else k.ins) w.gates) _ f.d there))))))
