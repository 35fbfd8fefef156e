-- In every cycle of the netlist that a text denotes its statements hold, where the clock's nets have one bit.
use Rattle.std.proofs.Common.{arith, ◌≡◌, ℕ, zero, suc, ◌+◌, ◌<◌, ◌≤◌, nat_eq, not, Bool, true, false, cond, List, [], ◌∷◌, ◌++◌, map, filter, length, slice_get, refl, sym, ap, ◌∙◌, subst, if◌then◌else◌}
use Rattle.std.proofs.lemmas.Bool.Decides.{nat_tests}
use Rattle.std.proofs.lemmas.List.{get_or-map}
use Rattle.std.proofs.lemmas.List.Elements.{recursion_from_All}
use Rattle.std.proofs.lemmas.List.Folds.{list_any-append}
use Rattle.std.proofs.lemmas.List.Sums.{sum_by-cons}
use Rattle.std.specs.Prelude.{Option, Some, None, find, count_by}
use Rattle.std.specs.List.{AllByRecursion}
use Rattle.bb_base.specs.declared.operator.Op.{Op}
use Rattle.bb_base.specs.declared.operator.Op.TheVariants as op
use Rattle.bb_base.specs.Operators.{IsArity, op_gives}
use Rattle.bb_base.specs.Variables.{Entry, Bit, is_input, bit_of}
use Rattle.bb_base.proofs.Lists.{all_map}
use Rattle.bb_base.specs.Net.{Gate, Flop, HasArity, renamed_gate, renamed_flop}
use Rattle.bb_base.specs.Run.{Meets}
use Rattle.bb_base.specs.Named.{Named, net_text, design_of}
use Rattle.bb_parse.specs.Sound.{IsSoundModule}
use Rattle.bb_parse.specs.Trees.{File}
use Rattle.bb_parse.specs.Meaning.{module_of}
use Rattle.bb_fault.specs.Firsts.{on_some}
use Rattle.bb_scope.specs.Variables.{variables}
use Rattle.bb_fault.specs.Work.{Work, Clocked}
use Rattle.bb_drive.specs.Within.{IsGateWithin}
use Rattle.bb_drive.specs.Nets.{input_bits, bits_driven, bits_read, has_bit, bit_name, bit_text}
use Rattle.bb_drive.specs.Clock.{is_buf, first_of, copied_by, copied_net, origin, origin_within, clock_of, is_clock, is_data}
use Rattle.bb_drive.proofs.ClockLaws.{input_free}
use Rattle.bb_drive.specs.NamedOf.{kept, place_among, named_of}
use Rattle.bb_assemble.proofs.NamedBits.{or_left, or_right}
use Rattle.bb_assemble.proofs.KeptLaws.{counted, clock_is_input}
use Rattle.bb_drive.proofs.BitBounds.{bits_in}
use Rattle.bb_assemble.proofs.KeptNets.{all_placed, at_place, has_mapped, IsFineWork, IsKept, few_drivers, parts_counted, gate_kept, flop_kept}
use Rattle.bb_assemble.proofs.NumberedNets.{bit_placed}
use Rattle.bb_targets.proofs.Twice.{text_front}
use Rattle.bb_meaning.specs.Outcome.{first_fault, denoted, variables_in, work_in}
use Rattle.bb_elab.proofs.DenotedLaws.{fine_work, fine_parts, arities}
use Rattle.bb_meaning.specs.Statements.{StatementHolds}
use Rattle.bb_meaning.specs.Values.{Bits, reference_bits}
use Rattle.bb_meaning.proofs.StatementBits.{statements-hold}

-- ways back -------------------------------------------------------------------

-- a way that has ended stays where it is
ended : (n : ℕ) (gates : List (Gate ℕ)) (b : ℕ) → copied_net gates b ≡ None → origin_within n gates b ≡ b
ended zero gates b h = refl
ended (suc n) gates b h = ap (λ o. on_some o b (origin_within n gates)) h

-- one more step from where a way ends
more_way : (n : ℕ) (gates : List (Gate ℕ)) (b c : ℕ) → origin_within n gates b ≡ c → copied_net gates c ≡ None → origin_within (suc n) gates b ≡ c
more_way zero gates b c h k = ap (λ o. on_some o b (origin_within zero gates)) (ap (copied_net gates) h ∙ k) ∙ h
more_way (suc n) gates b c h k = go (copied_net gates b) h (λ x e. more_way n gates x c e k)
  where
    go : (o : Option ℕ) → on_some o b (origin_within n gates) ≡ c → ((x : ℕ) → origin_within n gates x ≡ c → origin_within (suc n) gates x ≡ c) → on_some o b (origin_within (suc n) gates) ≡ c
    go None h rest = h
    go (Some x) h rest = rest x h

-- the way from what a gate copies ends where that of the copy does
passed : (n : ℕ) (gates : List (Gate ℕ)) (b a c : ℕ) → copied_net gates b ≡ Some a → copied_net gates c ≡ None → origin_within n gates b ≡ c → origin_within n gates a ≡ c
passed zero gates b a c copies still h = absurd (clash (sym copies ∙ (ap (copied_net gates) h ∙ still)))
  where
    clash : Some a ≡ None → ⊥
    clash e = cc
passed (suc n) gates b a c copies still h = more_way n gates a c (sym (ap (λ o. on_some o b (origin_within n gates)) copies) ∙ h) still

-- gates -----------------------------------------------------------------------

-- the only gate that drives a net is the first one
first_driver : (gates : List (Gate ℕ)) (i : ℕ) (g : Gate ℕ) → slice_get gates i ≡ Some g → count_by (nat_eq g.out) (map (λ (k : Gate ℕ). k.out) gates) ≤ 1 → find (λ k. nat_eq g.out k.out) gates ≡ Some g
first_driver [] i g h few = cc
first_driver (k ∷ gates) zero g h few =
    let same : k ≡ g = cc in
    let outs : k.out ≡ g.out = ap (λ (z : Gate ℕ). z.out) same in
    let own : nat_eq g.out k.out ≡ true = grind (arith, nat_tests) in
    ap (λ t. cond t (Some k) (find (λ z. nat_eq g.out z.out) gates)) own ∙ ap Some same
first_driver (k ∷ gates) (suc i) g h few = by (nat_eq g.out k.out) refl (first_driver gates i g h)
  where
    head : count_by (nat_eq g.out) (map (λ (z : Gate ℕ). z.out) (k ∷ gates)) ≡ cond (nat_eq g.out k.out) 1 0 + count_by (nat_eq g.out) (map (λ (z : Gate ℕ). z.out) gates)
    head = sum_by-cons (λ y. cond (nat_eq g.out y) 1 0) k.out (map (λ (z : Gate ℕ). z.out) gates)

    by : (t : Bool) → nat_eq g.out k.out ≡ t → (count_by (nat_eq g.out) (map (λ (z : Gate ℕ). z.out) gates) ≤ 1 → find (λ z. nat_eq g.out z.out) gates ≡ Some g) → cond t (Some k) (find (λ z. nat_eq g.out z.out) gates) ≡ Some g
    by true e rest =
        let one : ◌≡◌ {A = ℕ} (cond (nat_eq g.out k.out) 1 0) 1 = ap (λ t. cond t 1 0) e in
        let there = counted g.out (map (λ (z : Gate ℕ). z.out) gates) (has_mapped (λ (z : Gate ℕ). z.out) gates i g h) in
        absurd (omega (arith, head, one, there, few))
    by false e rest = rest (omega (arith, head, few))

-- a Buf gate has one input
record IsCopy (o : Op) (ins : List ℕ) : Type 0 where
  copied : ℕ
  is : o ≡ op.Buf
  one : ins ≡ copied ∷ []

buf_copies : (o : Op) (ins : List ℕ) → is_buf o ≡ true → IsArity o (length ins) → IsCopy o ins
buf_copies op.Buf [] h k = absurd (omega (arith, k))
buf_copies op.Buf (a ∷ []) h k = record { copied = a; is = refl; one = refl }
buf_copies op.Buf (a ∷ b ∷ ins) h k = absurd (omega (arith, k))
buf_copies op.And ins h k = absurd (cc h)
buf_copies op.Nand ins h k = absurd (cc h)
buf_copies op.Or ins h k = absurd (cc h)
buf_copies op.Nor ins h k = absurd (cc h)
buf_copies op.Xor ins h k = absurd (cc h)
buf_copies op.Xnor ins h k = absurd (cc h)
buf_copies op.Not ins h k = absurd (cc h)
buf_copies op.Zero ins h k = absurd (cc h)
buf_copies op.One ins h k = absurd (cc h)

filtered_at : {X : Type 0} (P : X → Type 0) (p : X → Bool) (xs : List X) (i : ℕ) (x : X) → AllByRecursion P (filter p xs) → slice_get xs i ≡ Some x → p x ≡ true → P x
filtered_at P p [] i x all at h = absurd (cc at)
filtered_at P p (y ∷ xs) i x all at h = go (p y) refl all i at (λ j rest k. filtered_at P p xs j x rest k h)
  where
    go : (t : Bool) → p y ≡ t → AllByRecursion P (cond t (y ∷ filter p xs) (filter p xs)) → (i : ℕ) → slice_get (y ∷ xs) i ≡ Some x
        → ((j : ℕ) → AllByRecursion P (filter p xs) → slice_get xs j ≡ Some x → P x) → P x
    go true e all zero at rest = let same : y ≡ x = cc at in subst P same all.0
    go true e all (suc i) at rest = rest i all.1 at
    go false e all zero at rest = let same : y ≡ x = cc at in absurd (clash (sym e ∙ (ap p same ∙ h)))
      where
        clash : false ≡ true → ⊥
        clash e = cc
    go false e all (suc i) at rest = rest i all at

module _ (name : List ℕ) (vars : List Entry) (w : Work) (fine : IsFineWork vars w) (arity : AllByRecursion HasArity w.gates) where
  abbrev n : Named
  n = named_of name vars w

  abbrev outs : List ℕ
  outs = map (λ (g : Gate ℕ). g.out) w.gates

  -- a gate of the clock's nets copies one
  record IsClockGate (g : Gate ℕ) : Type 0 where
    copy : IsCopy g.op g.ins
    clock : is_clock w copy.copied ≡ true

  clock_gate : (i : ℕ) (g : Gate ℕ) → slice_get w.gates i ≡ Some g → is_clock w g.out ≡ true → IsClockGate g
  clock_gate i g at clocked = by (clock_of w) refl
    where
      there : has_bit outs g.out ≡ true
      there = has_mapped (λ (k : Gate ℕ). k.out) w.gates i g at

      small : g.out < w.fresh
      small = (at_place (IsGateWithin w.fresh) w.gates i g (recursion_from_All (IsGateWithin w.fresh) w.gates fine.within.gates) at).out

      qs : List ℕ
      qs = map (λ (f : Clocked). f.q) w.flops

      driven : has_bit (bits_driven vars w) g.out ≡ true
      driven =
          list_any-append (nat_eq g.out) (input_bits vars) (outs ++ qs)
          ∙ or_right (has_bit (input_bits vars) g.out) (has_bit (outs ++ qs) g.out) (list_any-append (nat_eq g.out) outs qs ∙ or_left (has_bit outs g.out) (has_bit qs g.out) there)

      all_few : count_by (nat_eq g.out) (bits_driven vars w) ≤ 1
      all_few = few_drivers vars w fine g.out small (or_left (has_bit (bits_driven vars w) g.out) (has_bit (bits_read vars w) g.out) driven)

      few : count_by (nat_eq g.out) outs ≤ 1
      few = omega (arith, all_few, parts_counted vars w fine g.out)

      copies : copied_net w.gates g.out ≡ (if is_buf g.op then first_of g.ins else None)
      copies = ap copied_by (first_driver w.gates i g at few)

      by : (o : Option ℕ) → clock_of w ≡ o → IsClockGate g
      by None e = absurd (clash (sym (ap (λ o. on_some o false (λ c. nat_eq c (origin w g.out))) e) ∙ clocked))
        where
          clash : false ≡ true → ⊥
          clash e = cc
      by (Some c) e = go (is_buf g.op) refl
        where
          eq : nat_eq c (origin w g.out) ≡ true
          eq = sym (ap (λ o. on_some o false (λ c. nat_eq c (origin w g.out))) e) ∙ clocked

          ends : origin w g.out ≡ c
          ends = grind (arith, nat_tests, eq)

          input : has_bit (input_bits vars) c ≡ true
          input = clock_is_input vars w c fine.clocks fine.within e

          still : copied_net w.gates c ≡ None
          still = input_free vars w c fine.drivers (omega (arith, fine.total, bits_in is_input 0 vars c input)) input

          go : (t : Bool) → is_buf g.op ≡ t → IsClockGate g
          go false k =
              let none : copied_net w.gates g.out ≡ None = copies ∙ ap (λ (t : Bool). if t then first_of g.ins else None) k in
              let same : g.out ≡ c = sym (ended (length w.gates) w.gates g.out none) ∙ ends in
              let also : has_bit (input_bits vars) g.out ≡ true = ap (has_bit (input_bits vars)) same ∙ input in
              absurd (omega (arith, all_few, parts_counted vars w fine g.out, counted g.out outs there, counted g.out (input_bits vars) also))
          go true k =
              let copy = buf_copies g.op g.ins k (at_place HasArity w.gates i g arity at) in
              let some : copied_net w.gates g.out ≡ Some copy.copied = copies ∙ (λ j. if k j then first_of (copy.one j) else None) in
              let way : origin w copy.copied ≡ c = passed (length w.gates) w.gates g.out copy.copied c some still ends in
              let own : nat_eq c (origin w copy.copied) ≡ true = grind (arith, nat_tests, way) in
              record { copy = copy; clock = ap (λ o. on_some o false (λ c. nat_eq c (origin w copy.copied))) e ∙ own }

  -- the name of a kept net
  named_bit : (b : ℕ) → IsKept vars w b → net_text n (place_among (kept vars w) b) ≡ bit_text vars b
  named_bit b h =
      let p = bit_placed vars w fine b h in
      ap (bit_of vars) (get_or-map (bit_name 0 vars) (kept vars w) (place_among (kept vars w) b) 0 (record { variable = 0; place = 0 }) p.below ∙ ap (bit_name 0 vars) p.there)

  -- the bits of numbers by the names of their bits
  abbrev by_text : Bits → ℕ → Bool
  by_text v b = v (bit_text vars b)

  named_bits : (v : Bits) (bs : List ℕ) → AllByRecursion (IsKept vars w) bs → map v (map (net_text n) (map (place_among (kept vars w)) bs)) ≡ map (by_text v) bs
  named_bits v [] all = refl
  named_bits v (b ∷ bs) all = λ i. v (named_bit b all.0 i) ∷ named_bits v bs all.1 i

  gates_meet :
      (v : Bits) (clock : Bool) → ((b : ℕ) → is_clock w b ≡ true → by_text v b ≡ clock)
      → AllByRecursion (Meets v) (map (renamed_gate (net_text n)) (map (renamed_gate (place_among (kept vars w))) (filter (λ g. is_data w g.out) w.gates))) → AllByRecursion (Meets (by_text v)) w.gates
  gates_meet v clock same all = all_placed (Meets (by_text v)) w.gates (λ i g at. by (is_clock w g.out) i g refl at)
    where
      twice : AllByRecursion (λ (g : Gate ℕ). Meets v (renamed_gate (net_text n) (renamed_gate (place_among (kept vars w)) g))) (filter (λ g. is_data w g.out) w.gates)
      twice =
          all_map (λ g. Meets v (renamed_gate (net_text n) g)) (λ g. Meets v (renamed_gate (net_text n) (renamed_gate (place_among (kept vars w)) g))) (renamed_gate (place_among (kept vars w))) (λ g h. h)
          (filter (λ g. is_data w g.out) w.gates)
          (all_map (Meets v) (λ g. Meets v (renamed_gate (net_text n) g)) (renamed_gate (net_text n)) (λ g h. h) (map (renamed_gate (place_among (kept vars w))) (filter (λ g. is_data w g.out) w.gates)) all)

      by : (t : Bool) (i : ℕ) (g : Gate ℕ) → is_clock w g.out ≡ t → slice_get w.gates i ≡ Some g → Meets (by_text v) g
      by true i g e at =
          let c = clock_gate i g at e in
          same g.out e ∙ (sym (same c.copy.copied c.clock) ∙ (λ j. op_gives (sym c.copy.is j) (map (by_text v) (sym c.copy.one j))))
      by false i g e at =
          let held = gate_kept vars w fine arity i g at (ap not e) in
          let met = filtered_at (λ (g : Gate ℕ). Meets v (renamed_gate (net_text n) (renamed_gate (place_among (kept vars w)) g))) (λ g. is_data w g.out) w.gates i g twice at (ap not e) in
          sym (ap v (named_bit g.out held.0)) ∙ (met ∙ ap (op_gives g.op) (named_bits v g.ins held.1))

  flops_take :
      (v next : Bits) → AllByRecursion (λ (f : Flop Bit). next f.q ≡ v f.d) (map (renamed_flop (net_text n)) (map (renamed_flop (place_among (kept vars w))) (map (λ (f : Clocked). record { q = f.q; d = f.d }) w.flops)))
      → AllByRecursion (λ (f : Clocked). by_text next f.q ≡ by_text v f.d) w.flops
  flops_take v next all = all_placed (λ (f : Clocked). by_text next f.q ≡ by_text v f.d) w.flops each
    where
      thrice : AllByRecursion (λ (f : Clocked). next (net_text n (place_among (kept vars w) f.q)) ≡ v (net_text n (place_among (kept vars w) f.d))) w.flops
      thrice =
          all_map (λ (f : Flop ℕ). next (net_text n (place_among (kept vars w) f.q)) ≡ v (net_text n (place_among (kept vars w) f.d)))
          (λ (f : Clocked). next (net_text n (place_among (kept vars w) f.q)) ≡ v (net_text n (place_among (kept vars w) f.d))) (λ (f : Clocked). record { q = f.q; d = f.d }) (λ f h. h) w.flops
          (all_map (λ (f : Flop ℕ). next (net_text n f.q) ≡ v (net_text n f.d)) (λ (f : Flop ℕ). next (net_text n (place_among (kept vars w) f.q)) ≡ v (net_text n (place_among (kept vars w) f.d)))
          (renamed_flop (place_among (kept vars w))) (λ f h. h) (map (λ (f : Clocked). record { q = f.q; d = f.d }) w.flops)
          (all_map (λ (f : Flop Bit). next f.q ≡ v f.d) (λ (f : Flop ℕ). next (net_text n f.q) ≡ v (net_text n f.d)) (renamed_flop (net_text n)) (λ f h. h)
          (map (renamed_flop (place_among (kept vars w))) (map (λ (f : Clocked). record { q = f.q; d = f.d }) w.flops)) all))

      each : (i : ℕ) (f : Clocked) → slice_get w.flops i ≡ Some f → by_text next f.q ≡ by_text v f.d
      each i f at =
          let held = flop_kept vars w fine i f at in
          let taken = at_place (λ (f : Clocked). next (net_text n (place_among (kept vars w) f.q)) ≡ v (net_text n (place_among (kept vars w) f.d))) w.flops i f thrice at in
          sym (ap next (named_bit f.q held.0)) ∙ (taken ∙ ap v (named_bit f.d held.1))

-- the statements of a text hold in every cycle of the netlist that it denotes
pub netlist-means :
    (own : Bool) (f : File) (v next : Bits) (clock : Bool) → IsSoundModule (module_of f) → first_fault own (module_of f) ≡ None
    → AllByRecursion (Meets v) (design_of (denoted (module_of f))).netlist.gates → AllByRecursion (λ (k : Flop Bit). next k.q ≡ v k.d) (design_of (denoted (module_of f))).netlist.flops
    → ((b : ℕ) → is_clock (work_in (module_of f)) b ≡ true → v (bit_text (variables_in (module_of f)) b) ≡ clock)
    → AllByRecursion (StatementHolds (reference_bits (variables (module_of f)) v) (reference_bits (variables (module_of f)) next)) f.statements
netlist-means own f v next clock sound none gates flops clocks =
    let m = module_of f in
    let work = fine_work own m none in
    let each = arities own m none sound in
    statements-hold f (by_text m.name (variables_in m) (work_in m) work each v) (by_text m.name (variables_in m) (work_in m) work each next) v next (fine_parts own m none)
    (record { gates = gates_meet m.name (variables_in m) (work_in m) work each v clock clocks gates; flops = flops_take m.name (variables_in m) (work_in m) work each v next flops })
    (λ b small. ap v (text_front (variables m) _ b small)) (λ b small. ap next (text_front (variables m) _ b small))
