-- A variable behind the others keeps names, places and nets fitting together.
use Rattle.std.proofs.Common.{◌≡◌, ◌≢◌, ℕ, ◌+◌, ◌-◌, ◌<◌, ◌≤◌, ◌==◌, nat_lt, zero, suc, List, [], ◌∷◌, ◌++◌, length, map, All, Bool, true, false, Option, Some, None, slice_get, get_or, if◌then◌else◌, refl, sym, ap, subst, ◌∙◌, arith, length-append, append_assoc, append-nil, cond}
use Rattle.std.proofs.lemmas.Bool.Decides.{nat_tests}
use Rattle.std.proofs.lemmas.List.Elements.{All-append, All-push, All-weaker, All-map, All-nil, All-get_or, All-from_recursion}
use Rattle.std.proofs.lemmas.Option.{slice_get_within, get_or_from_slice_get}
use Rattle.std.proofs.lemmas.List.Sums.{sum_by_push}
use Rattle.std.proofs.Math.Seq.{get_or-append_seam}
use Rattle.std.specs.List.{AllByRecursion, range_with_len}
use Rattle.std.specs.Option.{ForSome}
use Rattle.bb_base.specs.declared.variable.Role.{Role}
use Rattle.bb_base.specs.declared.variable.Role.TheVariants.{Input, Output, Wire}
use Rattle.bb_base.specs.declared.variable.Variable.{Variable}
use Rattle.bb_base.specs.declared.variable.BitName.{BitName}
use Rattle.bb_base.specs.Net.{times, driven, reads}
use Rattle.bb_base.specs.Name.{IsName}
use Rattle.bb_base.specs.Variables.{Entry, IsEntry, IsBit, IsRange, is_input, is_output, is_port, range_width, clock_place, places_but, bit_at, data_bits, role_bits, ports_of}
use Rattle.bb_base.specs.Named.{Named, name_of_net, IsClock, IsConsistent}
use Rattle.bb_base.specs.Building.{clock_with, port_bits, new_nets, with_variable, MayClock}
use Rattle.bb_base.proofs.Lists.{in_front, map_join, get_front, get_back}
use Rattle.bb_base.proofs.TimesLemmas.{times_join, times_past, times_range, times_range_before}
use Rattle.bb_net.proofs.ConsistentLemmas.{names_kept, first}

-- what holds of all items holds of the one at a place
pub all_at : {X : Type 0} (P : X → Type 0) (xs : List X) (i : ℕ) (x : X) → All P xs → slice_get xs i ≡ Some x → P x
all_at P xs i x h at = subst P (get_or_from_slice_get xs i x x at) (All-get_or P xs i x (slice_get_within xs i x at) h)

-- the item behind the others
pub at_end : {X : Type 0} (xs : List X) (x : X) → slice_get (xs ++ x ∷ []) (length xs) ≡ Some x
at_end xs x =
    let e : length xs ≡ length xs + 0 = omega arith in
    ap (slice_get (xs ++ x ∷ [])) e ∙ get_back xs (x ∷ []) 0

-- a bit of a variable stays one
pub bit_extends : (vs more : List Entry) (b : BitName) → IsBit vs b → IsBit (vs ++ more) b
bit_extends vs more b h = record { entry = h.entry; stands = get_front vs more b.variable (slice_get_within vs b.variable h.entry h.stands) ∙ h.stands; place = h.place }

bit_below : (vs : List Entry) (b : BitName) → IsBit vs b → b.variable < length vs
bit_below vs b h = slice_get_within vs b.variable h.entry h.stands

clock_extends : (vs more : List Entry) (b : BitName) → IsClock vs b → IsClock (vs ++ more) b
unfolding bit_extends
clock_extends vs more b h = record { stands = bit_extends vs more b h.stands; input = h.input }

-- numbers in a range
range_within : (low high from n : ℕ) → low ≤ from → from + n ≤ high → AllByRecursion (λ m. (low ≤ m) × (m < high)) (range_with_len from n)
range_within low high from zero a b = tt
range_within low high from (suc n) a b = ((a, omega arith), range_within low high (from + 1) n (omega arith) (omega arith))

pub range_in : (low high from n : ℕ) → low ≤ from → from + n ≤ high → All (λ m. (low ≤ m) × (m < high)) (range_with_len from n)
range_in low high from n a b = All-from_recursion (λ m. (low ≤ m) × (m < high)) (range_with_len from n) (range_within low high from n a b)

-- the places of a variable's data bits are its places, and none is the clock's
places_in : (clock : Option ℕ) (width : ℕ) → ForSome clock (λ p. p < width) → All (λ p. p < width) (places_but clock width)
places_in None width h = All-weaker (λ m. (0 ≤ m) × (m < width)) (λ m. m < width) (λ m k. k.1) (range_with_len 0 width) (range_in 0 width 0 width (omega arith) (omega arith))
places_in (Some p) width h =
    let within : p < width = h p refl in
    All-append (λ m. m < width) (range_with_len 0 p) (range_with_len (p + 1) (width - (p + 1)))
    (All-weaker (λ m. (0 ≤ m) × (m < p)) (λ m. m < width) (λ m k. omega arith) (range_with_len 0 p) (range_in 0 p 0 p (omega arith) (omega arith)))
    (All-weaker (λ m. (p + 1 ≤ m) × (m < width)) (λ m. m < width) (λ m k. k.1) (range_with_len (p + 1) (width - (p + 1))) (range_in (p + 1) width (p + 1) (width - (p + 1)) (omega arith) (omega arith)))

places_apart : (p width : ℕ) → p < width → All (λ m. m ≢ p) (places_but (Some p) width)
places_apart p width within =
    All-append (λ m. m ≢ p) (range_with_len 0 p) (range_with_len (p + 1) (width - (p + 1)))
    (All-weaker (λ m. (0 ≤ m) × (m < p)) (λ m. m ≢ p) (λ m k e. omega arith) (range_with_len 0 p) (range_in 0 p 0 p (omega arith) (omega arith)))
    (All-weaker (λ m. (p + 1 ≤ m) × (m < width)) (λ m. m ≢ p) (λ m k e. omega arith) (range_with_len (p + 1) (width - (p + 1))) (range_in (p + 1) width (p + 1) (width - (p + 1)) (omega arith) (omega arith)))

-- what holds of the bits at all places but the clock's holds of the bits that a variable adds
of_port_bits : (P : BitName → Type 0) (number : ℕ) (v : Variable) (place : Option ℕ) → All (λ p. P (bit_at number p)) (places_but place (range_width v.range)) → All P (port_bits number v place)
of_port_bits P number v place h = by (is_port v.role)
  where
    by : (b : Bool) → All P (if b then map (bit_at number) (places_but place (range_width v.range)) else [])
    by true = All-map P (bit_at number) (places_but place (range_width v.range)) h
    by false = All-nil P

-- the names of the nets that stand behind others
new_names : (names bits : List BitName) → map (λ net. get_or (names ++ bits) net (bit_at 0 0)) (range_with_len (length names) (length bits)) ≡ bits
new_names names [] = refl
new_names names (b ∷ bits) =
    let here : get_or (names ++ b ∷ bits) (length names) (bit_at 0 0) ≡ b = get_or-append_seam names b bits (bit_at 0 0) in
    let long : length (names ++ b ∷ []) ≡ length names + 1 = length-append names (b ∷ []) in
    let rest : map (λ net. get_or (names ++ b ∷ bits) net (bit_at 0 0)) (range_with_len (length names + 1) (length bits)) ≡ bits =
    ap (λ all. map (λ net. get_or all net (bit_at 0 0)) (range_with_len (length names + 1) (length bits))) (sym (append_assoc names (b ∷ []) bits))
    ∙ ap (λ k. map (λ net. get_or ((names ++ b ∷ []) ++ bits) net (bit_at 0 0)) (range_with_len k (length bits))) (sym long) ∙ new_names (names ++ b ∷ []) bits in
    λ i. here i ∷ rest i

-- the data bits of variables, with one more variable
role_bits_push : (passes : Role → Bool) (clock : Option BitName) (number : ℕ) (vs : List Entry) (e : Entry)
    → role_bits passes clock number (vs ++ e ∷ []) ≡ role_bits passes clock number vs ++ (if passes e.1.role then data_bits clock (number + length vs) e.1 else [])
role_bits_push passes clock number [] e =
    let k : number ≡ number + 0 = omega arith in
    append-nil (if passes e.1.role then data_bits clock number e.1 else []) ∙ ap (λ m. if passes e.1.role then data_bits clock m e.1 else []) k
role_bits_push passes clock number (v ∷ vs) e =
    let here : List BitName = if passes v.1.role then data_bits clock number v.1 else [] in
    let k : number + 1 + length vs ≡ number + suc (length vs) = omega arith in
    ap (λ bs. here ++ bs) (role_bits_push passes clock (number + 1) vs e ∙ ap (λ m. role_bits passes clock (number + 1) vs ++ (if passes e.1.role then data_bits clock m e.1 else [])) k)
    ∙ sym (append_assoc here (role_bits passes clock (number + 1) vs) (if passes e.1.role then data_bits clock (number + suc (length vs)) e.1 else []))

-- and with a clock that is a bit of none of them
role_bits_same : (passes : Role → Bool) (old new : Option BitName) (number : ℕ) (vs : List Entry) → ((i : ℕ) → i < number + length vs → clock_place new i ≡ clock_place old i)
    → role_bits passes new number vs ≡ role_bits passes old number vs
role_bits_same passes old new number [] h = refl
role_bits_same passes old new number (v ∷ vs) h =
    let here : (if passes v.1.role then data_bits new number v.1 else []) ≡ (if passes v.1.role then data_bits old number v.1 else []) =
    ap (λ o. if passes v.1.role then map (bit_at number) (places_but o (range_width v.1.range)) else []) (h number (omega arith)) in
    λ i. here i ++ role_bits_same passes old new (number + 1) vs (λ k less. h k (omega arith)) i

other_clock : (c : BitName) (number : ℕ) → c.variable ≢ number → clock_place (Some c) number ≡ None
other_clock c number apart = by (c.variable == number) refl
  where
    by : (b : Bool) → (c.variable == number) ≡ b → (if b then Some c.place else None) ≡ None
    by true e = absurd (apart (grind (arith, nat_tests)))
    by false e = refl

own_clock : (number place : ℕ) → clock_place (Some (bit_at number place)) number ≡ Some place
own_clock number place = by (number == number) refl
  where
    by : (b : Bool) → (number == number) ≡ b → (if b then Some place else None) ≡ Some place
    by true e = refl
    by false e = absurd (grind (arith, nat_tests))

-- the clock's place in the new variable, and in those before
new_place : (n : Named) (v : Variable) (place : Option ℕ) → ForSome n.clock (IsClock n.variables) → clock_place (clock_with n.clock (length n.variables) place) (length n.variables) ≡ place
new_place n v (Some p) h = own_clock (length n.variables) p
new_place n v None h = by n.clock refl
  where
    by : (o : Option BitName) → n.clock ≡ o → clock_place o (length n.variables) ≡ None
    by None e = refl
    by (Some c) e = other_clock c (length n.variables) (λ same. let less = bit_below n.variables c (h c e).stands in omega arith)

old_places : (n : Named) (v : Variable) (place : Option ℕ) → ForSome place (MayClock n v) → (i : ℕ) → i < 0 + length n.variables
    → clock_place (clock_with n.clock (length n.variables) place) i ≡ clock_place n.clock i
old_places n v None h i less = refl
old_places n v (Some p) h i less =
    other_clock (bit_at (length n.variables) p) i (λ same. omega arith) ∙ sym (ap (λ o. clock_place o i) (h p refl).first)

-- the ports of one role, by name
role_names : (passes : Role → Bool) → ((r : Role) → passes r ≡ true → is_port r ≡ true) → (n : Named) (name : List ℕ) (v : Variable) (place : Option ℕ) (nets : List ℕ)
    → ForSome n.clock (IsClock n.variables) → ForSome place (MayClock n v) → All (λ net. net < length n.names) nets → map (name_of_net n) nets ≡ role_bits passes n.clock 0 n.variables
    → map (name_of_net (with_variable n name v place)) (nets ++ new_nets (passes v.role) (length n.names) (length (port_bits (length n.variables) v place)))
    ≡ role_bits passes (clock_with n.clock (length n.variables) place) 0 (n.variables ++ (name, v) ∷ [])
role_names passes ports n name v place nets clock may below so_far =
    let number : ℕ = length n.variables in
    let bits : List BitName = port_bits number v place in
    let after : Option BitName = clock_with n.clock number place in
    let named : ℕ → BitName = λ net. get_or (n.names ++ bits) net (bit_at 0 0) in
    let old : map named nets ≡ role_bits passes after 0 n.variables =
    names_kept n bits nets below ∙ so_far ∙ sym (role_bits_same passes n.clock after 0 n.variables (old_places n v place may)) in
    let placed : clock_place after (0 + number) ≡ place = ap (clock_place after) (omega arith) ∙ new_place n v place clock in
    let new : map named (new_nets (passes v.role) (length n.names) (length bits)) ≡ (if passes v.role then data_bits after (0 + number) v else []) = by (passes v.role) refl (is_port v.role) refl placed in
    map_join named nets (new_nets (passes v.role) (length n.names) (length bits)) ∙ (λ i. old i ++ new i) ∙ sym (role_bits_push passes after 0 n.variables (name, v))
  where
    by : (b : Bool) → passes v.role ≡ b → (c : Bool) → is_port v.role ≡ c → clock_place (clock_with n.clock (length n.variables) place) (0 + length n.variables) ≡ place
        → map (λ net. get_or (n.names ++ (if c then map (bit_at (length n.variables)) (places_but place (range_width v.range)) else [])) net (bit_at 0 0))
        (new_nets b (length n.names) (length (if c then map (bit_at (length n.variables)) (places_but place (range_width v.range)) else [])))
        ≡ (if b then data_bits (clock_with n.clock (length n.variables) place) (0 + length n.variables) v else [])
    by false e c f placed = refl
    by true e false f placed = absurd (cc (ports v.role e))
    by true e true f placed =
        let k : length n.variables ≡ 0 + length n.variables = omega arith in
        new_names n.names (map (bit_at (length n.variables)) (places_but place (range_width v.range)))
        ∙ ap (λ m. map (bit_at m) (places_but place (range_width v.range))) k ∙ ap (λ o. map (bit_at (0 + length n.variables)) (places_but o (range_width v.range))) (sym placed)

input_ports : (r : Role) → is_input r ≡ true → is_port r ≡ true
input_ports Input h = refl
input_ports Output h = refl
input_ports Wire h = h

output_ports : (r : Role) → is_output r ≡ true → is_port r ≡ true
output_ports Input h = refl
output_ports Output h = refl
output_ports Wire h = h

-- new nets are above the others, and stand once
new_before : (b : Bool) (net first count : ℕ) → net < first → times net (new_nets b first count) ≡ 0
new_before true net first count h = times_range_before net first count h
new_before false net first count h = refl

new_once : (r : Role) (net first count : ℕ) → times net (new_nets (is_input r) first count) + times net (new_nets (is_output r) first count) ≤ 1
new_once Input net first count = omega (arith, times_range net first count)
new_once Output net first count = omega (arith, times_range net first count)
new_once Wire net first count = omega arith

new_below : (b : Bool) (first count : ℕ) → All (λ net. net < first + count) (new_nets b first count)
new_below true first count = All-weaker (λ m. (first ≤ m) × (m < first + count)) (λ m. m < first + count) (λ m k. k.1) (range_with_len first count) (range_in first (first + count) first count (omega arith) (omega arith))
new_below false first count = All-nil (λ net. net < first + count)

-- a port has only ports before it
ports_ahead : (vs : List Entry) (e : Entry) → ((i j : ℕ) (v w : Entry) → i < j → slice_get vs i ≡ Some v → slice_get vs j ≡ Some w → is_port w.1.role ≡ true → is_port v.1.role ≡ true)
    → (is_port e.1.role ≡ true → All (λ w. is_port w.1.role ≡ true) vs)
    → (i j : ℕ) (v w : Entry) → i < j → slice_get (vs ++ e ∷ []) i ≡ Some v → slice_get (vs ++ e ∷ []) j ≡ Some w → is_port w.1.role ≡ true → is_port v.1.role ≡ true
ports_ahead vs e old ports i j v w less vi wj port = by (nat_lt j (length vs)) refl
  where
    by : (b : Bool) → nat_lt j (length vs) ≡ b → is_port v.1.role ≡ true
    by true t =
        let within : j < length vs = grind (arith, nat_tests) in
        old i j v w less (sym (get_front vs (e ∷ []) i (omega arith)) ∙ vi) (sym (get_front vs (e ∷ []) j within) ∙ wj) port
    by false t =
        let past : length vs ≤ j = grind (arith, nat_tests) in
        let last : j < length vs + 1 = omega (arith, slice_get_within (vs ++ e ∷ []) j w wj, length-append vs (e ∷ [])) in
        let here : j ≡ length vs = omega arith in
        let same : Some e ≡ Some w = sym (at_end vs e) ∙ ap (slice_get (vs ++ e ∷ [])) (sym here) ∙ wj in
        let one : e ≡ w = cc in
        all_at (λ k. is_port k.1.role ≡ true) vs i v (ports (ap (λ k. is_port k.1.role) one ∙ port)) (sym (get_front vs (e ∷ []) i (omega arith)) ∙ vi)

pub variable_fits : (n : Named) (name : List ℕ) (v : Variable) (place : Option ℕ) → IsConsistent n → IsName name → IsRange v.range → (is_port v.role ≡ true → All (λ w. is_port w.1.role ≡ true) n.variables)
    → ForSome place (MayClock n v) → IsConsistent (with_variable n name v place)
variable_fits n name v place h valid range ports may =
    let number : ℕ = length n.variables in
    let bits : List BitName = port_bits number v place in
    let e : Entry = (name, v) in
    let L : ℕ = length n.names in
    let count : ℕ = length bits in
    let long : length (n.names ++ bits) ≡ L + count = length-append n.names bits in
    let wider : (net : ℕ) → net < L → net < length (n.names ++ bits) = λ net less. omega (arith, long) in
    let newer : (b : Bool) → All (λ net. net < length (n.names ++ bits)) (new_nets b L count) =
    λ b. All-weaker (λ net. net < L + count) (λ net. net < length (n.names ++ bits)) (λ net less. omega (arith, long)) (new_nets b L count) (new_below b L count) in
    let inputs_below = in_front (λ net. net < L) n.netlist.inputs _ h.drives_nets in
    let outputs_below = in_front (λ net. net < L) n.netlist.outputs _ h.reads_nets in
    let within : ForSome place (λ p. p < range_width v.range) = λ p k. (may p k).within in
    record {
      module_name = h.module_name;
      entries = All-push IsEntry n.variables e h.entries (record { name = valid; range = range });
      ports_first = ports_ahead n.variables e h.ports_first ports;
      clock = clocks place refl;
      bits = All-append (IsBit (n.variables ++ e ∷ [])) n.names bits (All-weaker (IsBit n.variables) (IsBit (n.variables ++ e ∷ [])) (bit_extends n.variables (e ∷ [])) n.names h.bits)
          (of_port_bits (IsBit (n.variables ++ e ∷ [])) number v place (All-weaker (λ p. p < range_width v.range) (λ p. IsBit (n.variables ++ e ∷ []) (bit_at number p))
          (λ p less. record { entry = e; stands = at_end n.variables e; place = less }) (places_but place (range_width v.range)) (places_in place (range_width v.range) within)));
      apart_from_clock = aparts place refl;
      inputs = role_names is_input input_ports n name v place n.netlist.inputs h.clock may inputs_below h.inputs;
      outputs = role_names is_output output_ports n name v place n.netlist.outputs h.clock may outputs_below h.outputs;
      ports = λ net. once net (nat_lt net L) refl inputs_below outputs_below;
      drives_nets = first (λ net. net < length (n.names ++ bits)) n.netlist.inputs _ (new_nets (is_input v.role) L count) (All-weaker (λ net. net < L) (λ net. net < length (n.names ++ bits)) wider (driven n.netlist) h.drives_nets) (newer (is_input v.role));
      reads_nets = first (λ net. net < length (n.names ++ bits)) n.netlist.outputs _ (new_nets (is_output v.role) L count) (All-weaker (λ net. net < L) (λ net. net < length (n.names ++ bits)) wider (reads n.netlist) h.reads_nets) (newer (is_output v.role));
      arities = h.arities;
    }
  where
    clocks : (o : Option ℕ) → place ≡ o → ForSome (clock_with n.clock (length n.variables) o) (IsClock (n.variables ++ (name, v) ∷ []))
    clocks None e = λ c k. clock_extends n.variables ((name, v) ∷ []) c (h.clock c k)
    clocks (Some p) e = λ c k.
        let one : bit_at (length n.variables) p ≡ c = cc in
        subst (IsClock (n.variables ++ (name, v) ∷ [])) one (record { stands = record { entry = (name, v); stands = at_end n.variables (name, v); place = (may p e).within }; input = (may p e).input })

    aparts : (o : Option ℕ) → place ≡ o → ForSome (clock_with n.clock (length n.variables) o) (λ c. All (λ b. b ≢ c) (n.names ++ port_bits (length n.variables) v place))
    aparts None e = λ c k.
        let below = bit_below n.variables c (h.clock c k).stands in
        All-append (λ b. b ≢ c) n.names (port_bits (length n.variables) v place) (h.apart_from_clock c k)
        (of_port_bits (λ b. b ≢ c) (length n.variables) v place (All-weaker (λ p. p < range_width v.range) (λ p. bit_at (length n.variables) p ≢ c)
        (λ p less same. let other : length n.variables ≡ c.variable = ap (λ (b : BitName). b.variable) same in omega arith) (places_but place (range_width v.range))
        (places_in place (range_width v.range) (λ p q. (may p q).within))))
    aparts (Some p) e = λ c k.
        let one : bit_at (length n.variables) p ≡ c = cc in
        let there : All (λ b. b ≢ bit_at (length n.variables) p) (port_bits (length n.variables) v (Some p)) =
        of_port_bits (λ b. b ≢ bit_at (length n.variables) p) (length n.variables) v (Some p)
        (All-weaker (λ m. m ≢ p) (λ m. bit_at (length n.variables) m ≢ bit_at (length n.variables) p) (λ m apart same. apart (ap (λ (b : BitName). b.place) same)) (places_but (Some p) (range_width v.range))
        (places_apart p (range_width v.range) (may p e).within)) in
        subst (λ d. All (λ b. b ≢ d) (n.names ++ port_bits (length n.variables) v place)) one
        (All-append (λ b. b ≢ bit_at (length n.variables) p) n.names (port_bits (length n.variables) v place)
        (All-weaker (IsBit n.variables) (λ b. b ≢ bit_at (length n.variables) p)
        (λ b stands same. let below = bit_below n.variables b stands in let other : b.variable ≡ length n.variables = ap (λ (d : BitName). d.variable) same in omega arith) n.names h.bits)
        (subst (λ o. All (λ b. b ≢ bit_at (length n.variables) p) (port_bits (length n.variables) v o)) (sym e) there))

    once : (net : ℕ) (b : Bool) → nat_lt net (length n.names) ≡ b → All (λ m. m < length n.names) n.netlist.inputs → All (λ m. m < length n.names) n.netlist.outputs
        → times net ((n.netlist.inputs ++ new_nets (is_input v.role) (length n.names) (length (port_bits (length n.variables) v place))) ++ (n.netlist.outputs ++ new_nets (is_output v.role) (length n.names) (length (port_bits (length n.variables) v place)))) ≤ 1
    once net b e ins outs =
        let i : List ℕ = n.netlist.inputs in
        let o : List ℕ = n.netlist.outputs in
        let c : ℕ = length (port_bits (length n.variables) v place) in
        let x : List ℕ = new_nets (is_input v.role) (length n.names) c in
        let y : List ℕ = new_nets (is_output v.role) (length n.names) c in
        let sums = times_join net (i ++ x) (o ++ y) in
        let left = times_join net i x in
        let right = times_join net o y in
        let old = times_join net i o in
        split b e
        (λ less. omega (arith, sums, left, right, old, h.ports net, new_before (is_input v.role) net (length n.names) c less, new_before (is_output v.role) net (length n.names) c less))
        (λ past. omega (arith, sums, left, right, times_past net i (length n.names) past ins, times_past net o (length n.names) past outs, new_once v.role net (length n.names) c))
      where
        split : {A : Type 0} (b : Bool) → nat_lt net (length n.names) ≡ b → (net < length n.names → A) → (length n.names ≤ net → A) → A
        split true e f g = f (grind (arith, nat_tests))
        split false e f g = g (grind (arith, nat_tests))

-- a builder that is open, whose parts were m, and have one more variable
pub variable_is : (m : Named) (name : List ℕ) (v : Variable) (place : Option ℕ) (number : ℕ) (entries : List Entry) (clock : Option BitName) (names : List BitName) (inputs outputs : List ℕ) → number ≡ length m.variables
    → entries ≡ m.variables ++ (name, v) ∷ [] → clock ≡ clock_with m.clock number place → names ≡ m.names ++ port_bits number v place
    → inputs ≡ m.netlist.inputs ++ new_nets (is_input v.role) (length m.names) (length (port_bits number v place)) → outputs ≡ m.netlist.outputs ++ new_nets (is_output v.role) (length m.names) (length (port_bits number v place))
    → record { module_name = m.module_name; variables = entries; clock = clock; names = names; netlist = record { inputs = inputs; outputs = outputs; gates = m.netlist.gates; flops = m.netlist.flops } } ≡ with_variable m name v place
variable_is m name v place number entries clock names inputs outputs count a b c d e =
    let clock_is : clock ≡ clock_with m.clock (length m.variables) place = b ∙ ap (λ k. clock_with m.clock k place) count in
    let names_are : names ≡ m.names ++ port_bits (length m.variables) v place = c ∙ ap (λ k. m.names ++ port_bits k v place) count in
    let inputs_are : inputs ≡ m.netlist.inputs ++ new_nets (is_input v.role) (length m.names) (length (port_bits (length m.variables) v place)) =
    d ∙ ap (λ k. m.netlist.inputs ++ new_nets (is_input v.role) (length m.names) (length (port_bits k v place))) count in
    let outputs_are : outputs ≡ m.netlist.outputs ++ new_nets (is_output v.role) (length m.names) (length (port_bits (length m.variables) v place)) =
    e ∙ ap (λ k. m.netlist.outputs ++ new_nets (is_output v.role) (length m.names) (length (port_bits k v place))) count in
    λ i. record { module_name = m.module_name; variables = a i; clock = clock_is i; names = names_are i; netlist = record { inputs = inputs_are i; outputs = outputs_are i; gates = m.netlist.gates; flops = m.netlist.flops } }

pub variable_added : (m n after : Named) (name : List ℕ) (v : Variable) (place : Option ℕ) → m ≡ n → IsConsistent m → IsName name → IsRange v.range → (is_port v.role ≡ true → All (λ w. is_port w.1.role ≡ true) n.variables)
    → ForSome place (MayClock n v) → after ≡ with_variable m name v place → IsConsistent after
variable_added m n after name v place same h valid range ports may e =
    subst IsConsistent (sym e)
    (variable_fits m name v place h valid range (subst (λ k. is_port v.role ≡ true → All (λ w. is_port w.1.role ≡ true) k.variables) (sym same) ports) (subst (λ k. ForSome place (MayClock k v)) (sym same) may))

-- one more variable, and one more port where it is one
pub ports_more : (vs after : List Entry) (e : Entry) → after ≡ vs ++ e ∷ [] → ports_of vs + (if is_port e.1.role then 1 else 0) ≡ ports_of after
ports_more vs after e h = sym (ap ports_of h ∙ sum_by_push (λ (v : Entry). cond (is_port v.1.role) 1 0) vs e)
