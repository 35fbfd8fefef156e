-- The original's ports, added one after another.
use Rattle.std.proofs.Common.{arith, ◌≡◌, ◌≢◌, ◌⊎◌, inl, inr, ◌==◌, ℕ, ◌+◌, ◌<◌, zero, suc, List, [], ◌∷◌, ◌++◌, map, length, take, drop, Bool, true, false, Option, Some, None, slice_get, nat_lt, if◌then◌else◌, refl, sym, ap, subst, ◌∙◌}
use Rattle.std.proofs.lemmas.Bool.Decides.{nat_tests}
use Rattle.std.proofs.lemmas.Option.{same_Some}
use Rattle.std.proofs.lemmas.List.Elements.{All-nil}
use Rattle.std.specs.List.{AllByRecursion}
use Rattle.std.specs.Option.{ForSome}
use Rattle.bb_base.specs.declared.variable.BitName.{BitName}
use Rattle.bb_base.specs.declared.variable.Variable.{Variable}
use Rattle.bb_base.specs.Variables.{Entry, bit_at, is_port, range_width, places_but, clock_place, role_bits, ports_of}
use Rattle.bb_base.specs.Named.{Named, IsConsistent}
use Rattle.bb_base.specs.Building.{started, with_variable, port_bits, clock_with, MayClock}
use Rattle.bb_lay.specs.Laying.{AddsAll, CanStand, IsLaid}
use Rattle.bb_lay.proofs.Ascending.{ArePlaces, left_places, place_left}
use Rattle.bb_lay.proofs.Standing.{laid_step, MayBeClock}
use Rattle.bb_lay.proofs.Adding.{Continues, first_of, next_of, last_of, next_stands}
use Rattle.bb_lay.proofs.Clocks.{clock_before, may_clock, clock_next, clock_all, port_at, drop_pop}

-- a declared variable
pub declared : (old new : Named) (name : List ℕ) (v : Variable) (clock : Option ℕ) → new ≡ with_variable old name v clock → AddsAll old new ((name, v) ∷ []) (port_bits (length old.variables) v clock) (clock_with old.clock (length old.variables) clock)
declared old new name v clock e = record {
  module_name = ap (λ (k : Named). k.module_name) e;
  variables = ap (λ (k : Named). k.variables) e;
  clock_is = ap (λ (k : Named). k.clock) e;
  names = ap (λ (k : Named). k.names) e;
  gates = ap (λ (k : Named). k.netlist.gates) e;
  flops = ap (λ (k : Named). k.netlist.flops) e;
}

-- nothing was laid
pub nothing_laid : (n : Named) (name : List ℕ) → n ≡ started name → IsLaid n
nothing_laid n name e = subst IsLaid (sym e) (record { ascending = λ i j d less small. absurd (omega (arith, small)); below = All-nil (λ (b : BitName). b.variable < 0); few = omega arith; clock_below = λ c same. absurd (cc same); apart_from_clock = λ c same. absurd (cc same) })

take_get : {X : Type 0} (xs : List X) (n i : ℕ) (x : X) → i < n → slice_get xs i ≡ Some x → slice_get (take n xs) i ≡ Some x
take_get [] n i x less h = absurd (cc h)
take_get (y ∷ ys) zero i x less h = absurd (omega (arith, less))
take_get (y ∷ ys) (suc n) zero x less h = h
take_get (y ∷ ys) (suc n) (suc i) x less h = take_get ys n i x (omega (arith, less)) h

drop_take : {X : Type 0} (n : ℕ) (xs : List X) → drop n (take n xs) ≡ []
drop_take zero [] = refl
drop_take zero (x ∷ xs) = refl
drop_take (suc n) [] = refl
drop_take (suc n) (x ∷ xs) = drop_take n xs

none_before : (o : Option BitName) → clock_before 0 o ≡ None
none_before None = refl
none_before (Some c) = let no : nat_lt c.variable 0 ≡ false = grind (arith, nat_tests) in ap (λ (b : Bool). if b then Some c else None) no

-- the clock with the ports up to the next one is that of those before, or a bit of this one
before_or_here : (n : ℕ) (o : Option BitName) (c : BitName) → clock_before (n + 1) o ≡ Some c → (clock_before n o ≡ Some c) ⊎ ((c.variable ≡ n) × (clock_place o n ≡ Some c.place))
before_or_here n None c is = absurd (cc is)
before_or_here n (Some d) c is = by (nat_lt d.variable (n + 1)) refl (nat_lt d.variable n) refl (d.variable == n) refl is
  where
    by : (b : Bool) → nat_lt d.variable (n + 1) ≡ b → (l : Bool) → nat_lt d.variable n ≡ l → (m : Bool) → (d.variable == n) ≡ m → (if b then Some d else None) ≡ Some c
        → ((if l then Some d else None) ≡ Some c) ⊎ ((c.variable ≡ n) × ((if m then Some d.place else None) ≡ Some c.place))
    by true t true u m w e = inl e
    by true t false u true w e =
        let one : d ≡ c = same_Some d c e in
        let here : d.variable ≡ n = grind (arith, nat_tests, w) in
        inr (sym (ap (λ (k : BitName). k.variable) one) ∙ here, ap (λ (k : BitName). Some k.place) one)
    by true t false u false w e = absurd (grind (arith, nat_tests, t, u, w))
    by false t l u m w e = absurd (cc e)

module _ (a fn : Named) (h : IsConsistent a) (begin : fn ≡ started a.module_name) where
  abbrev es : List Entry
  es = take (ports_of a.variables) a.variables

  abbrev pub Goes : Named → ℕ → Type 0
  Goes l n = Continues fn l (drop n es) es (role_bits is_port a.clock n (drop n es)) (role_bits is_port a.clock 0 es) (clock_before n a.clock)

  pub ports_begin : Goes fn 0
  ports_begin = first_of fn es (role_bits is_port a.clock 0 es) (clock_before 0 a.clock) (ap (λ (k : Named). k.clock) begin ∙ sym (none_before a.clock)) (nothing_laid fn a.module_name begin)

  module _ (l : Named) (n : ℕ) (name : List ℕ) (v : Variable) (goes : Goes l n) (at : slice_get a.variables n ≡ Some (name, v)) (less : n < ports_of a.variables) where
    split : drop n es ≡ (name, v) ∷ drop (n + 1) es
    split = drop_pop es n (name, v) (take_get a.variables (ports_of a.variables) n (name, v) less at)

    pub port_can : CanStand es → CanStand (l.variables ++ (name, v) ∷ [])
    port_can can = next_stands fn l (name, v) (drop (n + 1) es) (drop n es) es (role_bits is_port a.clock n (drop n es)) (role_bits is_port a.clock 0 es) (clock_before n a.clock) goes split
        (subst CanStand (ap (λ (k : Named). k.variables ++ es) (sym begin)) can)

    pub port_clock : ForSome (clock_place a.clock n) (MayClock l v)
    port_clock = may_clock a l n name v h at goes.clock_is

    port : is_port v.role ≡ true
    port = port_at a.variables h.ports_first n (name, v) at less

    clock_may : (c : BitName) → length l.variables ≡ n → (clock_before n a.clock ≡ Some c) ⊎ ((c.variable ≡ n) × (clock_place a.clock n ≡ Some c.place)) → MayBeClock l (places_but (clock_place a.clock n) (range_width v.range)) c
    clock_may c count (inl k) = inl (goes.clock_is ∙ k)
    clock_may c count (inr k) =
        let left = place_left c.place (range_width v.range) (port_clock c.place k.1).within in
        inr (k.0 ∙ sym count, subst (λ o. AllByRecursion (λ p. p ≢ c.place) (places_but o (range_width v.range))) (sym k.1) left)

    pub port_step : (new : Named) → length l.variables ≡ n → new ≡ with_variable l name v (clock_place a.clock n) → Goes new (n + 1)
    port_step new count e =
        let place = clock_place a.clock n in
        let adds = declared l new name v place e in
        let bits : List BitName = port_bits n v place in
        let same : port_bits (length l.variables) v place ≡ bits = ap (λ k. port_bits k v place) count in
        let after : clock_with l.clock (length l.variables) place ≡ clock_before (n + 1) a.clock = ap (λ o. clock_with o (length l.variables) place) goes.clock_is ∙ clock_next a.clock n (length l.variables) count in
        let own : AddsAll l new ((name, v) ∷ []) bits (clock_before (n + 1) a.clock) = record { module_name = adds.module_name; variables = adds.variables; clock_is = adds.clock_is ∙ after; names = adds.names ∙ ap (λ bs. l.names ++ bs) same; gates = adds.gates; flops = adds.flops } in
        let places : ArePlaces (range_width v.range) (places_but place (range_width v.range)) = left_places place (range_width v.range) (λ p is. (port_clock p is).within) in
        let are : bits ≡ map (bit_at (length l.variables)) (places_but place (range_width v.range)) =
        ap (λ (b : Bool). if b then map (bit_at n) (places_but place (range_width v.range)) else []) port ∙ ap (λ k. map (bit_at k) (places_but place (range_width v.range))) (sym count) in
        let may_be : (c : BitName) → clock_before (n + 1) a.clock ≡ Some c → MayBeClock l (places_but place (range_width v.range)) c = λ c is. clock_may c count (before_or_here n a.clock c is) in
        let laid : IsLaid new = laid_step l new (name, v) bits (clock_before (n + 1) a.clock) (places_but place (range_width v.range)) goes.laid own are places (λ c is. may_be c is) in
        next_of fn l new (name, v) (drop (n + 1) es) es bits (role_bits is_port a.clock n (drop n es)) (role_bits is_port a.clock (n + 1) (drop (n + 1) es)) (role_bits is_port a.clock 0 es) (clock_before n a.clock) (clock_before (n + 1) a.clock)
        (subst (λ ks. Continues fn l ks es (role_bits is_port a.clock n (drop n es)) (role_bits is_port a.clock 0 es) (clock_before n a.clock)) split goes) (ap (role_bits is_port a.clock n) split) own laid

  pub ports_end : (l : Named) (n : ℕ) → Goes l n → n ≡ ports_of a.variables → AddsAll fn l es (role_bits is_port a.clock 0 es) a.clock
  ports_end l n goes all =
      let none : drop n es ≡ [] = ap (λ k. drop k es) all ∙ drop_take (ports_of a.variables) a.variables in
      let done = last_of fn l (drop n es) es (role_bits is_port a.clock n (drop n es)) (role_bits is_port a.clock 0 es) (clock_before n a.clock) goes none (ap (role_bits is_port a.clock n) none) in
      subst (AddsAll fn l es (role_bits is_port a.clock 0 es)) (ap (λ k. clock_before k a.clock) all ∙ clock_all a h) done
