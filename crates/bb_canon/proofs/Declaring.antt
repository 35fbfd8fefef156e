-- The next variable of a netlist, declared.
use Rattle.std.proofs.Common.{◌≡◌, ℕ, ◌+◌, ◌≤◌, ◌<◌, List, [], ◌∷◌, ◌++◌, length, zero, suc, ◌&&◌, append_assoc, length-append, Bool, true, false, not, nat_eq, nat_lt, Option, Some, None, slice_get, refl, sym, ap, ◌∙◌, arith, subst, if◌then◌else◌}
use Rattle.std.specs.Option.{option_map, is_some, ForSome}
use Rattle.std.specs.Str.{bytes_eq}
use Rattle.std.proofs.lemmas.Slice.Eq.{bytes_eq-Decides}
use Rattle.bb_base.specs.declared.variable.Role.{Role}
use Rattle.bb_base.specs.declared.variable.Role.TheVariants.{Input, Output, Wire}
use Rattle.std.proofs.lemmas.Bool.Decides.{nat_tests}
use Rattle.bb_base.specs.declared.variable.BitName.{BitName}
use Rattle.std.specs.List.{list_all}
use Rattle.std.proofs.lemmas.Option.{slice_get_within}
use Rattle.bb_base.specs.declared.variable.Variable.{Variable}
use Rattle.bb_base.specs.declared.fault.NetFault.{NetFault}
use Rattle.bb_base.specs.declared.fault.NetFault.TheVariants.{Redeclared, TwoDrivers, Undriven, BadArity, TooMany, NoMemory}
use Rattle.bb_base.specs.Building.{with_variable, clock_with, port_bits, MayClock, IsTooMany, net_limit}
use Rattle.bb_base.specs.Faults.{IsVariableFault}
use Rattle.bb_net.proofs.VariableLemmas.{variable_fits, all_at}
use Rattle.bb_base.specs.Variables.{Entry, IsEntry, Bit, IsBit, bit_of, bit_in, clock_place, is_input, is_port, role_bits}
use Rattle.bb_base.specs.Named.{Named, IsClock, lookup_of}
use Rattle.bb_canon.specs.Drafting.{indexed_place, may_come, canon_fault}
use Rattle.bb_canon.specs.Faults.{IsWant}
use Rattle.bb_canon.proofs.Drafts.{all_pass, lookup_entry}
use Rattle.bb_canon.proofs.Distincts.{alike_few}
use Rattle.bb_canon.proofs.RoleBits.{role_alike, front_within, port_bits_are, clock_are}
use Rattle.bb_spell.specs.Limits.{IsBuildable}
use Rattle.bb_canon.specs.Toward.{IsDeclared, clock_among}
use Rattle.bb_canon.proofs.BitAgain.{same_number}
use Rattle.bb_canon.proofs.Found.{place_again}

next_at : (xs : List Entry) (v : Entry) (left : List Entry) → slice_get (xs ++ v ∷ left) (length xs) ≡ Some v
next_at [] v left = refl
next_at (x ∷ xs) v left = next_at xs v left

-- the next variable stands there in the netlist
pub next_stands : (a n : Named) (v : Entry) (left : List Entry) → IsDeclared a n (v ∷ left) → slice_get a.variables (length n.variables) ≡ Some v
next_stands a n v left d = subst (λ vs. slice_get vs (length n.variables) ≡ Some v) d.variables (next_at n.variables v left)

place_here : (c : BitName) (k : ℕ) → c.variable ≡ k → clock_place (Some c) k ≡ Some c.place
place_here c k e =
    let t : nat_eq c.variable k ≡ true = grind (arith, nat_tests) in
    rw t refl

none_among : (c : BitName) (k : ℕ) → c.variable ≡ k → clock_among (Some c) k ≡ None
none_among c k e =
    let t : nat_lt c.variable k ≡ false = grind (arith, nat_tests) in
    rw t refl

same_numbers : (j k : ℕ) → nat_eq j k ≡ true → j ≡ k
same_numbers j k e = grind (arith, nat_tests)

some_same : (v w : Entry) → Some v ≡ Some w → v ≡ w
some_same v w e = cc

bit_same : (t u : Bit) → Some t ≡ Some u → t ≡ u
bit_same t u e = cc

-- the clock's place is found at the variable that has its name
pub clock_placed : (a n : Named) (v : Entry) (left : List Entry) (t : Bit) (r : Option (ℕ × ℕ)) → IsBuildable a → IsDeclared a n (v ∷ left) → Some t ≡ option_map (bit_of a.variables) a.clock → t.name ≡ v.0 → r ≡ v.1.range
    → indexed_place r t.index ≡ clock_place a.clock (length n.variables)
clock_placed a n v left t r h d e name range = go a.clock refl
  where
    go : (o : Option BitName) → a.clock ≡ o → indexed_place r t.index ≡ clock_place a.clock (length n.variables)
    go None same =
        let none : Some t ≡ None = e ∙ ap (option_map (bit_of a.variables)) same in
        cc
    go (Some c) same =
        let stands : IsBit a.variables c = (h.named.consistent.clock c same).stands in
        let entry : Entry = stands.entry in
        let text : t ≡ bit_in (Some entry) c.place = bit_same t (bit_of a.variables c) (e ∙ ap (option_map (bit_of a.variables)) same) ∙ ap (λ o. bit_in o c.place) stands.stands in
        let names : entry.0 ≡ v.0 = sym (ap (λ (b : Bit). b.name) text) ∙ name in
        let next : slice_get a.variables (length n.variables) ≡ Some v = next_stands a n v left d in
        let here : c.variable ≡ length n.variables = same_number a.variables c.variable (length n.variables) entry v h.named.apart stands.stands next names in
        let same_entry : entry ≡ v = some_same entry v (sym stands.stands ∙ ap (slice_get a.variables) here ∙ next) in
        let ranges : r ≡ entry.1.range = range ∙ ap (λ (w : Entry). w.1.range) (sym same_entry) in
        ap (λ q. indexed_place q t.index) ranges ∙ ap (λ (b : Bit). indexed_place entry.1.range b.index) text ∙ place_again entry.1.range c.place stands.place ∙ sym (ap (λ o. clock_place o (length n.variables)) same ∙ place_here c (length n.variables) here)

-- and nowhere else
pub clock_elsewhere : (a n : Named) (v : Entry) (left : List Entry) (t : Bit) → IsBuildable a → IsDeclared a n (v ∷ left) → Some t ≡ option_map (bit_of a.variables) a.clock → (n.clock ≡ None → is_input v.1.role ≡ true → t.name ≡ v.0 → ⊥)
    → None ≡ clock_place a.clock (length n.variables)
clock_elsewhere a n v left t h d e apart = go a.clock refl
  where
    go : (o : Option BitName) → a.clock ≡ o → None ≡ clock_place a.clock (length n.variables)
    go None same =
        let none : Some t ≡ None = e ∙ ap (option_map (bit_of a.variables)) same in
        cc
    go (Some c) same = by (nat_eq c.variable (length n.variables)) refl ∙ sym (ap (λ o. clock_place o (length n.variables)) same)
      where
        by : (b : Bool) → nat_eq c.variable (length n.variables) ≡ b → None ≡ clock_place (Some c) (length n.variables)
        by true test =
            let here : c.variable ≡ length n.variables = same_numbers c.variable (length n.variables) test in
            let clock : IsClock a.variables c = h.named.consistent.clock c same in
            let entry : Entry = clock.stands.entry in
            let text : t ≡ bit_in (Some entry) c.place = bit_same t (bit_of a.variables c) (e ∙ ap (option_map (bit_of a.variables)) same) ∙ ap (λ o. bit_in o c.place) clock.stands.stands in
            let same_entry : entry ≡ v = some_same entry v (sym clock.stands.stands ∙ ap (slice_get a.variables) here ∙ next_stands a n v left d) in
            absurd (apart (d.clock ∙ ap (λ o. clock_among o (length n.variables)) same ∙ none_among c (length n.variables) here) (ap (λ (w : Entry). is_input w.1.role) (sym same_entry) ∙ clock.input) (ap (λ (b : Bit). b.name) text ∙ ap (λ (w : Entry). w.0) same_entry))
        by false test = sym (ap (λ b. if b then Some c.place else None) test)

pub some_not : (o : Option BitName) → true ≡ is_some o → o ≡ None → ⊥
some_not None t e = cc
some_not (Some b) t e = cc

pub input_only : (r : Role) → is_input r ≡ true → r ≡ Input
input_only Input t = refl
input_only Output t = cc
input_only Wire t = cc

pub name_ne : (x y : List ℕ) → true ≡ not (bytes_eq x y) → x ≡ y → ⊥
name_ne x y t e =
    let same : bytes_eq x y ≡ true = (bytes_eq-Decides x y).1 e in
    let none : true ≡ false = t ∙ ap not same in
    cc

pub name_eq : (x y : List ℕ) → false ≡ not (bytes_eq x y) → x ≡ y
name_eq x y t = (bytes_eq-Decides x y).0 (by (bytes_eq x y) t)
  where
    by : (b : Bool) → false ≡ not b → b ≡ true
    by true e = refl
    by false e = cc

-- a variable stays where it is
front_at : (xs more : List Entry) (i : ℕ) (w : Entry) → slice_get xs i ≡ Some w → slice_get (xs ++ more) i ≡ Some w
front_at [] more i w e = cc
front_at (x ∷ xs) more zero w e = e
front_at (x ∷ xs) more (suc i) w e = front_at xs more i w e

at_front : (a n : Named) (v : Entry) (left : List Entry) (i : ℕ) (w : Entry) → IsDeclared a n (v ∷ left) → slice_get n.variables i ≡ Some w → slice_get a.variables i ≡ Some w
at_front a n v left i w d e = subst (λ vs. slice_get vs i ≡ Some w) d.variables (front_at n.variables (v ∷ left) i w e)

both : (x y : Bool) → x ≡ true → y ≡ true → (x && y) ≡ true
both true y e h = h
both false y e h = cc

each_of : (p : Entry → Bool) (vs : List Entry) → ((i : ℕ) (w : Entry) → slice_get vs i ≡ Some w → p w ≡ true) → list_all p vs ≡ true
each_of p [] h = refl
each_of p (v ∷ vs) h = both (p v) (list_all p vs) (h 0 v refl) (each_of p vs (λ i w e. h (suc i) w e))

-- before a port there are ports
pub declared_ports : (a n : Named) (v : Entry) (left : List Entry) → IsBuildable a → IsDeclared a n (v ∷ left) → is_port v.1.role ≡ true → list_all (λ w. is_port w.1.role) n.variables ≡ true
declared_ports a n v left h d port =
    each_of (λ w. is_port w.1.role) n.variables (λ i w e. h.named.consistent.ports_first i (length n.variables) w v (slice_get_within n.variables i w e) (at_front a n v left i w d e) (next_stands a n v left d) port)

follows : (n : Named) (port : Bool) → (port ≡ true → list_all (λ w. is_port w.1.role) n.variables ≡ true) → length n.variables < 4294967295 → may_come n port ≡ true
follows n true h few =
    let t : nat_lt (length n.variables) 4294967295 ≡ true = grind (arith, nat_tests) in
    ap (λ b. if not b then false else nat_lt (length n.variables) 4294967295) (h refl) ∙ t
follows n false h few = grind (arith, nat_tests)

-- so the next variable may follow
pub declared_follows : (a n : Named) (v : Entry) (left : List Entry) (port : Bool) → IsBuildable a → IsDeclared a n (v ∷ left) → port ≡ is_port v.1.role → may_come n port ≡ true
declared_follows a n v left port h d e =
    let within : length n.variables < length a.variables = slice_get_within a.variables (length n.variables) v (next_stands a n v left d) in
    follows n port (λ t. declared_ports a n v left h d (sym e ∙ t)) (omega (arith, within, h.variables))

-- its name is new
pub declared_fresh : (a n : Named) (v : Entry) (left : List Entry) (name : List ℕ) (number : ℕ) → IsBuildable a → IsDeclared a n (v ∷ left) → name ≡ v.0 → lookup_of name n ≡ Some number → ⊥
declared_fresh a n v left name number h d e found =
    let entry = lookup_entry n name number found in
    let same : number ≡ length n.variables = same_number a.variables number (length n.variables) entry.0 v h.named.apart (at_front a n v left number entry.0 d entry.1) (next_stands a n v left d) (entry.2 ∙ e) in
    let within : number < length n.variables = slice_get_within n.variables number entry.0 entry.1 in
    omega (arith, same, within)

-- the draft with the variable
pub declared_step : (a n new : Named) (v : Entry) (left : List Entry) (name : List ℕ) (u : Variable) (place : Option ℕ) → IsBuildable a → IsDeclared a n (v ∷ left) → name ≡ v.0 → u ≡ v.1 → place ≡ clock_place a.clock (length n.variables) → ForSome place (MayClock n u)
    → new ≡ with_variable n name u place → IsDeclared a new left
declared_step a n new v left name u place h d e k placed may made = subst (λ m. IsDeclared a m left) (sym (made ∙ (λ i. with_variable n (e i) (k i) place))) (record {
  module_name = d.module_name;
  variables = append_assoc n.variables (v ∷ []) left ∙ d.variables;
  clock = ap (λ c. clock_with c (length n.variables) place) d.clock ∙ clock_are a.clock place (length n.variables) placed ∙ ap (clock_among a.clock) (sym (length-append n.variables (v ∷ [])));
  consistent = variable_fits n v.0 v.1 place d.consistent entry.name entry.range (λ port. all_pass (λ w. is_port w.1.role) n.variables (declared_ports a n v left h d port)) (subst (λ w. ForSome place (MayClock n w)) k may);
  names = ap (λ z. z ++ port_bits (length n.variables) v.1 place) d.names ∙ port_bits_are a.clock place n.variables v placed;
  gates = d.gates;
  flops = d.flops;
})
  where
    entry : IsEntry v
    entry = all_at IsEntry a.variables (length n.variables) v h.named.consistent.entries (next_stands a n v left d)

-- and it has few enough nets
pub declared_few : (a n : Named) (v : Entry) (left : List Entry) (name : List ℕ) (u : Variable) (place : Option ℕ) → IsBuildable a → IsDeclared a n (v ∷ left) → u ≡ v.1 → place ≡ clock_place a.clock (length n.variables)
    → length n.names + length (port_bits (length n.variables) u place) ≤ net_limit
declared_few a n v left name u place h d k placed =
    let bits : List BitName = role_bits is_port a.clock 0 (n.variables ++ v ∷ []) in
    let all : n.names ++ port_bits (length n.variables) u place ≡ bits =
    (λ i. d.names i ++ port_bits (length n.variables) (k i) place) ∙ port_bits_are a.clock place n.variables v placed in
    let few : length bits ≤ length a.names = alike_few bits a.names (role_alike is_port a.clock 0 (n.variables ++ v ∷ [])) (front_within a (n.variables ++ v ∷ []) left h.named (append_assoc n.variables (v ∷ []) left ∙ d.variables)) in
    let long : length n.names + length (port_bits (length n.variables) u place) ≡ length bits = sym (length-append n.names (port_bits (length n.variables) u place)) ∙ ap length all in
    at_most (length n.names + length (port_bits (length n.variables) u place)) (length bits) (length a.names) net_limit long few h.nets
  where
    at_most : (x y z w : ℕ) → x ≡ y → y ≤ z → z ≤ w → x ≤ w
    at_most x y z w p q r = omega arith

-- only memory can be wanting
pub declare_want : (a n : Named) (v : Entry) (left : List Entry) (name : List ℕ) (u : Variable) (place : Option ℕ) (f : NetFault) → IsBuildable a → IsDeclared a n (v ∷ left) → name ≡ v.0 → u ≡ v.1 → place ≡ clock_place a.clock (length n.variables) → IsVariableFault f
    → ((number : ℕ) → f ≡ Redeclared number → lookup_of name n ≡ Some number) → ((count limit : ℕ) → f ≡ TooMany count limit → IsTooMany n name u place count limit) → IsWant (canon_fault f)
declare_want a n v left name u place (Redeclared number) h d e k placed only again many = absurd (declared_fresh a n v left name number h d e (again number refl))
declare_want a n v left name u place (TwoDrivers net) h d e k placed only again many = only
declare_want a n v left name u place (Undriven net) h d e k placed only again many = only
declare_want a n v left name u place (BadArity gate) h d e k placed only again many = only
declare_want a n v left name u place (TooMany count limit) h d e k placed only again many =
    let t = many count limit refl in
    over count limit (length n.names + length (port_bits (length n.variables) u place)) net_limit t.count_is t.limit_is t.beyond (declared_few a n v left name u place h d k placed)
  where
    over : (x l y m : ℕ) → x ≡ y → l ≡ m → l < x → y ≤ m → ⊥
    over x l y m p q r s = omega arith
declare_want a n v left name u place NoMemory h d e k placed only again many = tt
