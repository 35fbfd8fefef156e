-- The original's clock, while its ports are added one after another.
use Rattle.std.proofs.Common.{arith, ◌≡◌, ℕ, ◌+◌, ◌<◌, ◌≤◌, ◌==◌, zero, suc, nat_lt, List, [], ◌∷◌, ◌++◌, length, take, drop, cond, Bool, true, false, Option, Some, None, slice_get, if◌then◌else◌, refl, sym, ap, subst, ◌∙◌}
use Rattle.std.proofs.lemmas.Bool.Decides.{nat_tests}
use Rattle.std.proofs.lemmas.List.Sums.{sum_by-cons, count_by-le-length}
use Rattle.std.proofs.Math.Seq.{length-take-le}
use Rattle.std.specs.List.{AllByRecursion}
use Rattle.std.specs.Option.{ForSome}
use Rattle.bb_base.specs.declared.variable.Role.{Role}
use Rattle.bb_base.specs.declared.variable.Role.TheVariants.{Input, Output, Wire as WireRole}
use Rattle.bb_base.specs.declared.variable.BitName.{BitName}
use Rattle.bb_base.specs.declared.variable.Variable.{Variable}
use Rattle.bb_base.specs.Variables.{Entry, is_input, is_port, clock_place, range_width, ports_of}
use Rattle.bb_base.specs.Named.{Named, IsConsistent}
use Rattle.bb_base.specs.Building.{MayClock, clock_with}

-- a port has only ports before it
abbrev pub PortsFirst : List Entry → Type 0
PortsFirst vs = (i j : ℕ) (v w : Entry) → i < j → slice_get vs i ≡ Some v → slice_get vs j ≡ Some w → is_port w.1.role ≡ true → is_port v.1.role ≡ true

ports_head : (e : Entry) (vs : List Entry) → ports_of (e ∷ vs) ≡ cond (is_port e.1.role) 1 0 + ports_of vs
ports_head e vs = sum_by-cons (λ (v : Entry). cond (is_port v.1.role) 1 0) e vs

ports_on : (e : Entry) (vs : List Entry) → is_port e.1.role ≡ true → ports_of (e ∷ vs) ≡ 1 + ports_of vs
ports_on e vs h = ports_head e vs ∙ ap (λ (b : Bool). cond b 1 0 + ports_of vs) h

ports_off : (e : Entry) (vs : List Entry) → is_port e.1.role ≡ false → ports_of (e ∷ vs) ≡ 0 + ports_of vs
ports_off e vs h = ports_head e vs ∙ ap (λ (b : Bool). cond b 1 0 + ports_of vs) h

no_ports : (vs : List Entry) → ((j : ℕ) (w : Entry) → slice_get vs j ≡ Some w → is_port w.1.role ≡ false) → ports_of vs ≡ 0
no_ports [] h = refl
no_ports (e ∷ vs) h = omega (arith, ports_off e vs (h 0 e refl), no_ports vs (λ j w at. h (suc j) w at))

after_wire : (e : Entry) (vs : List Entry) → PortsFirst (e ∷ vs) → is_port e.1.role ≡ false → (j : ℕ) (w : Entry) → slice_get vs j ≡ Some w → is_port w.1.role ≡ false
after_wire e vs first off j w at = by (is_port w.1.role) refl
  where
    by : (b : Bool) → is_port w.1.role ≡ b → b ≡ false
    by true t = absurd (cc (first 0 (suc j) e w (omega arith) refl at t))
    by false t = refl

first_tail : (e : Entry) (vs : List Entry) → PortsFirst (e ∷ vs) → PortsFirst vs
first_tail e vs first i j v w less a b port = first (suc i) (suc j) v w (omega arith) a b port

-- the first variables are the ports, and the others are none
pub port_at : (vs : List Entry) → PortsFirst vs → (i : ℕ) (v : Entry) → slice_get vs i ≡ Some v → i < ports_of vs → is_port v.1.role ≡ true
port_at [] first i v at less = cc
port_at (e ∷ vs) first i v at less = by (is_port e.1.role) refl i at less (λ j k l. port_at vs (first_tail e vs first) j v k l)
  where
    by : (b : Bool) → is_port e.1.role ≡ b → (i : ℕ) → slice_get (e ∷ vs) i ≡ Some v → i < ports_of (e ∷ vs) → ((j : ℕ) → slice_get vs j ≡ Some v → j < ports_of vs → is_port v.1.role ≡ true) → is_port v.1.role ≡ true
    by true t zero at less rest = let one : e ≡ v = cc in ap (λ k. is_port k.1.role) (sym one) ∙ t
    by true t (suc j) at less rest = rest j at (omega (arith, ports_on e vs t))
    by false t i at less rest = absurd (omega (arith, ports_off e vs t, no_ports vs (after_wire e vs first t)))

pub wire_at : (vs : List Entry) → PortsFirst vs → (i : ℕ) (v : Entry) → slice_get vs i ≡ Some v → ports_of vs ≤ i → is_port v.1.role ≡ false
wire_at [] first i v at past = cc
wire_at (e ∷ vs) first i v at past = by (is_port e.1.role) refl i at past (λ j k l. wire_at vs (first_tail e vs first) j v k l)
  where
    by : (b : Bool) → is_port e.1.role ≡ b → (i : ℕ) → slice_get (e ∷ vs) i ≡ Some v → ports_of (e ∷ vs) ≤ i → ((j : ℕ) → slice_get vs j ≡ Some v → ports_of vs ≤ j → is_port v.1.role ≡ false) → is_port v.1.role ≡ false
    by true t zero at past rest = absurd (omega (arith, ports_on e vs t))
    by true t (suc j) at past rest = rest j at (omega (arith, ports_on e vs t))
    by false t zero at past rest = let one : e ≡ v = cc in ap (λ k. is_port k.1.role) (sym one) ∙ t
    by false t (suc j) at past rest = after_wire e vs first t j v at

-- an item of a front
pub get_take : {X : Type 0} (xs : List X) (n i : ℕ) (x : X) → slice_get (take n xs) i ≡ Some x → (i < n) × (slice_get xs i ≡ Some x)
get_take [] zero i x h = cc
get_take [] (suc n) i x h = cc
get_take (y ∷ ys) zero i x h = cc
get_take (y ∷ ys) (suc n) zero x h = (omega arith, h)
get_take (y ∷ ys) (suc n) (suc i) x h = let r = get_take ys n i x h in (omega (arith, r.0), r.1)

pub all_gets : {X : Type 0} (P : X → Type 0) (xs : List X) → ((i : ℕ) (x : X) → slice_get xs i ≡ Some x → P x) → AllByRecursion P xs
all_gets P [] h = tt
all_gets P (x ∷ xs) h = (h 0 x refl, all_gets P xs (λ i y at. h (suc i) y at))

-- one more item at the front, and one less behind
pub take_push : {X : Type 0} (xs : List X) (n : ℕ) (x : X) → slice_get xs n ≡ Some x → take (n + 1) xs ≡ take n xs ++ x ∷ []
take_push [] n x h = cc
take_push (y ∷ ys) zero x h = let one : y ≡ x = cc in ap (λ k. k ∷ []) one
take_push (y ∷ ys) (suc n) x h =
    let e : suc n + 1 ≡ suc (n + 1) = omega arith in
    ap (λ k. take k (y ∷ ys)) e ∙ ap (λ ks. y ∷ ks) (take_push ys n x h)

pub drop_pop : {X : Type 0} (xs : List X) (n : ℕ) (x : X) → slice_get xs n ≡ Some x → drop n xs ≡ x ∷ drop (n + 1) xs
drop_pop [] n x h = cc
drop_pop (y ∷ ys) zero x h = let one : y ≡ x = cc in ap (λ k. k ∷ ys) one
drop_pop (y ∷ ys) (suc n) x h =
    let e : suc n + 1 ≡ suc (n + 1) = omega arith in
    drop_pop ys n x h ∙ ap (λ k. x ∷ drop k (y ∷ ys)) (sym e)

-- the clock once the variables before this number stand
abbrev pub clock_before : ℕ → Option BitName → Option BitName
clock_before n None = None
clock_before n (Some c) = if nat_lt c.variable n then Some c else None

-- a place of the clock is that of the clock's bit
pub place_of : (o : Option BitName) (n p : ℕ) → clock_place o n ≡ Some p → (c : BitName) × (o ≡ Some c) × (c.variable ≡ n) × (c.place ≡ p)
place_of None n p h = cc
place_of (Some c) n p h = by (c.variable == n) refl h
  where
    by : (b : Bool) → (c.variable == n) ≡ b → (if b then Some c.place else None) ≡ Some p → (d : BitName) × (Some c ≡ Some d) × (d.variable ≡ n) × (d.place ≡ p)
    by true t k = (c, refl, grind (arith, nat_tests), cc)
    by false t k = cc

not_before : (n : ℕ) (o : Option BitName) (c : BitName) → o ≡ Some c → n ≤ c.variable → clock_before n o ≡ None
not_before n None c e past = refl
not_before n (Some d) c e past =
    let one : d ≡ c = cc in
    by (nat_lt d.variable n) refl (ap (λ (k : BitName). k.variable) one)
  where
    by : (b : Bool) → nat_lt d.variable n ≡ b → d.variable ≡ c.variable → (if b then Some d else None) ≡ None
    by true t same = absurd (omega (arith, past, same, less t))
      where
        less : nat_lt d.variable n ≡ true → d.variable < n
        less t = grind (arith, nat_tests)
    by false t same = refl

pub may_clock : (a b : Named) (n : ℕ) (name : List ℕ) (v : Variable) → IsConsistent a → slice_get a.variables n ≡ Some (name, v) → b.clock ≡ clock_before n a.clock → ForSome (clock_place a.clock n) (MayClock b v)
may_clock a b n name v h at clock = λ p e.
    let found = place_of a.clock n p e in
    let stands = h.clock found.0 found.1 in
    let same : Some stands.stands.entry ≡ Some (name, v) = sym stands.stands.stands ∙ ap (slice_get a.variables) found.2 ∙ at in
    let one : stands.stands.entry ≡ (name, v) = cc in
    record {
      input = ap (λ (k : Entry). is_input k.1.role) (sym one) ∙ stands.input;
      within = subst (λ k. k < range_width v.range) found.3 (subst (λ (k : Entry). found.0.place < range_width k.1.range) one stands.stands.place);
      first = clock ∙ not_before n a.clock found.0 found.1 (omega (arith, found.2));
    }

-- the clock after one more variable
pub clock_next : (o : Option BitName) (n count : ℕ) → count ≡ n → clock_with (clock_before n o) count (clock_place o n) ≡ clock_before (n + 1) o
clock_next None n count e = refl
clock_next (Some c) n count e = by (c.variable == n) refl (nat_lt c.variable n) refl (nat_lt c.variable (n + 1)) refl
  where
    by : (b : Bool) → (c.variable == n) ≡ b → (l : Bool) → nat_lt c.variable n ≡ l → (m : Bool) → nat_lt c.variable (n + 1) ≡ m
        → clock_with (if l then Some c else None) count (if b then Some c.place else None) ≡ (if m then Some c else None)
    by true t l s true r =
        let variable : count ≡ c.variable = omega (arith, e, own t) in
        λ i. Some (record { variable = variable i; place = c.place })
      where
        own : (c.variable == n) ≡ true → c.variable ≡ n
        own t = grind (arith, nat_tests)
    by true t l s false r = absurd (grind (arith, nat_tests))
    by false t true s true r = refl
    by false t true s false r = absurd (grind (arith, nat_tests))
    by false t false s true r = absurd (grind (arith, nat_tests))
    by false t false s false r = refl

-- an input is a port
input_is_port : (r : Role) → is_input r ≡ true → is_port r ≡ false → ⊥
input_is_port Input h k = cc
input_is_port Output h k = cc
input_is_port WireRole h k = cc

-- the clock is a bit of a port
pub clock_is_port : (a : Named) → IsConsistent a → (c : BitName) → a.clock ≡ Some c → c.variable < ports_of a.variables
clock_is_port a h c e = by (nat_lt c.variable (ports_of a.variables)) refl
  where
    by : (b : Bool) → nat_lt c.variable (ports_of a.variables) ≡ b → c.variable < ports_of a.variables
    by true t = grind (arith, nat_tests)
    by false t =
        let stands = h.clock c e in
        absurd (input_is_port stands.stands.entry.1.role stands.input (wire_at a.variables h.ports_first c.variable stands.stands.entry stands.stands.stands (grind (arith, nat_tests))))

pub clock_all : (a : Named) → IsConsistent a → clock_before (ports_of a.variables) a.clock ≡ a.clock
clock_all a h = by a.clock refl
  where
    by : (o : Option BitName) → a.clock ≡ o → clock_before (ports_of a.variables) o ≡ o
    by None e = refl
    by (Some c) e = on (nat_lt c.variable (ports_of a.variables)) refl
      where
        on : (b : Bool) → nat_lt c.variable (ports_of a.variables) ≡ b → (if b then Some c else None) ≡ Some c
        on true t = refl
        on false t = absurd (omega (arith, clock_is_port a h c e, past t))
          where
            past : nat_lt c.variable (ports_of a.variables) ≡ false → ports_of a.variables ≤ c.variable
            past t = grind (arith, nat_tests)

-- how many ports a module has
pub ports_within : (vs : List Entry) → ports_of vs ≤ length vs
ports_within vs = count_by-le-length (λ (v : Entry). is_port v.1.role) vs

pub front_long : (vs : List Entry) → length (take (ports_of vs) vs) ≡ ports_of vs
front_long vs = length-take-le (ports_of vs) vs (ports_within vs)

pub drop_all : {X : Type 0} (n : ℕ) (xs : List X) → length xs ≤ n → drop n xs ≡ []
drop_all zero [] h = refl
drop_all zero (x ∷ xs) h = absurd (omega (arith, h))
drop_all (suc n) [] h = refl
drop_all (suc n) (x ∷ xs) h = drop_all n xs (omega (arith, h))
