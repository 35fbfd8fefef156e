-- There is room for all nets, no name stands twice, and the clock's bit is an input's: what a builder asks of a variable, and what it refuses.
use Rattle.std.proofs.Common.{◌≡◌, ℕ, ◌+◌, ◌-◌, ◌<◌, ◌≤◌, suc, nat_lt, nat_le, not, ◌&&◌, List, [], ◌∷◌, ◌++◌, map, filter, length, Bool, true, false, cond, Option, Some, None, slice_get, if◌then◌else◌, refl, sym, ap, subst, ◌∙◌, arith, length-append}
use Rattle.std.proofs.lemmas.Bool.Decides.{nat_tests}
use Rattle.std.proofs.lemmas.List.FromFn.{length-range_with_len}
use Rattle.std.proofs.lemmas.Map.Keys.{IsDistinct-head, IsDistinct-tail}
use Rattle.std.specs.List.{range_with_len, list_any, position_or_len, AllByRecursion, IsDistinct}
use Rattle.std.specs.Map.{keys_of}
use Rattle.std.specs.Str.{bytes_eq}
use Rattle.bb_base.specs.declared.variable.BitName.{BitName}
use Rattle.bb_base.specs.declared.variable.Variable.{Variable}
use Rattle.bb_base.specs.Variables.{Entry, IsBit, is_port, is_input, range_width, bit_at, bit_eq, places_but, bit_count}
use Rattle.bb_base.proofs.Lists.{length_map}
use Rattle.bb_base.specs.Named.{Named, lookup_of}
use Rattle.bb_base.specs.Building.{net_limit, port_bits, with_net}
use Rattle.bb_net.proofs.CountLemmas.{variables_few}
use Rattle.bb_fault.proofs.Keys.{other_name}
use Rattle.bb_drive.specs.Nets.{bit_name, has_bit, input_bits}
use Rattle.bb_drive.proofs.BitBounds.{bits_in}
use Rattle.bb_assemble.specs.Assembling.{is_clock_bit, bit_place, kept_places, kept_bits, with_names, Adds}
use Rattle.bb_assemble.proofs.NumberLaws.{filter_short}
use Rattle.bb_assemble.proofs.NamedBits.{bit_count_join, name_here}
use Rattle.bb_assemble.proofs.NamedLaws.{IsBitOf, bit_of}
use Rattle.bb_assemble.proofs.PlaceSteps.{port_kept}
use Rattle.bb_assemble.proofs.VariableSteps.{here_at}

-- nets ------------------------------------------------------------------

-- there are no more kept places than places
kept_few : (keeps : ℕ → Bool) (number first n : ℕ) → length (kept_bits keeps number first n) ≤ n
kept_few keeps number first n = omega (arith, length_map (bit_at number) (kept_places keeps first n), filter_short (λ p. keeps (first + p)) (range_with_len 0 n), length-range_with_len 0 n)

net_length : (now : Named) (bit : BitName) → length (with_net now bit).names ≤ length now.names + 1
net_length now bit = by (list_any (bit_eq bit) now.names)
  where
    by : (t : Bool) → length (if t then now.names else now.names ++ bit ∷ []) ≤ length now.names + 1
    by true = omega arith
    by false = omega (arith, length-append now.names (bit ∷ []))

-- there is room for one more net of a variable
pub net_room : (old now : Named) (keeps : ℕ → Bool) (number first n width total : ℕ) (bit : BitName) → now ≡ with_names old (kept_bits keeps number first n) → length old.names ≤ first → n < width → first + width ≤ total → total ≤ net_limit
    → length (with_net now bit).names ≤ net_limit
net_room old now keeps number first n width total bit same few less within room =
    let names : length now.names ≡ length old.names + length (kept_bits keeps number first n) = ap (λ (k : Named). length k.names) same ∙ length-append old.names (kept_bits keeps number first n) in
    omega (arith, names, kept_few keeps number first n, net_length now bit, few, less, within, room)

-- the bits of which a variable makes nets at once are no more than it has
pub port_few : (keeps : ℕ → Bool) (number first width : ℕ) (v : Variable) (place : Option ℕ) → width ≡ range_width v.range → ((p : ℕ) → place ≡ Some p → p < width)
    → (is_port v.role ≡ true → (p : ℕ) → p < width → keeps (first + p) ≡ not (is_clock_bit place p)) → length (port_bits number v place) ≤ width
port_few keeps number first width v place wide within kept = by (is_port v.role) refl
  where
    by : (t : Bool) → is_port v.role ≡ t → length (port_bits number v place) ≤ width
    by true e = omega (arith, ap length (port_kept keeps number first width v place wide e within (kept e)), kept_few keeps number first width)
    by false e = let none : length (port_bits number v place) ≡ 0 = ap (λ (t : Bool). length (if t then map (bit_at number) (places_but place (range_width v.range)) else [])) e in omega (arith, none)

-- the last variable has its bits
pub bits_last : (old new : Named) (e : Entry) (place : Option ℕ) (names : List BitName) (number width : ℕ) → Adds old new e place names → number ≡ length old.variables → width ≡ range_width e.1.range
    → (p : ℕ) → p < width → IsBit new.variables (bit_at number p)
bits_last old new e place names number width h count wide p less =
    record { entry = e; stands = ap (λ vs. slice_get vs number) h.variables ∙ ap (slice_get (old.variables ++ e ∷ [])) count ∙ here_at old.variables e []; place = omega (arith, wide, less) }

-- variables ---------------------------------------------------------------

-- there are no more nets of the variables so far than these have bits
pub names_few : (all before : List Entry) (keeps : ℕ → Bool) (names : List BitName) (first : ℕ) → names ≡ map (bit_name 0 all) (filter keeps (range_with_len 0 (bit_count before))) → first ≡ bit_count before → length names ≤ first
names_few all before keeps names first same count =
    omega (arith, ap length same, length_map (bit_name 0 all) (filter keeps (range_with_len 0 (bit_count before))), filter_short keeps (range_with_len 0 (bit_count before)), length-range_with_len 0 (bit_count before), count)

-- the next variable's bits and its number are below the count of bits
pub next_inside : (all before after : List Entry) (e : Entry) (number first width total : ℕ) → before ++ e ∷ after ≡ all → number ≡ length before → first ≡ bit_count before → width ≡ range_width e.1.range → bit_count all ≡ total
    → (first + width ≤ total) × (number < total)
next_inside all before after e number first width total split at count wide whole =
    let bits : bit_count all ≡ bit_count before + (range_width e.1.range + bit_count after) = ap bit_count (sym split) ∙ bit_count_join before (e ∷ after) in
    let long : length all ≡ length before + suc (length after) = ap length (sym split) ∙ length-append before (e ∷ after) in
    (omega (arith, bits, count, wide, whole), omega (arith, long, at, variables_few all, whole))

-- a variable that has the clock's bit is an input
pub clock_role : (all before after : List Entry) (e : Entry) (clock place : Option ℕ) (first width : ℕ) → before ++ e ∷ after ≡ all → first ≡ bit_count before → width ≡ range_width e.1.range → place ≡ bit_place clock first width
    → ((c : ℕ) → clock ≡ Some c → has_bit (input_bits all) c ≡ true) → (p : ℕ) → place ≡ Some p → is_input e.1.role ≡ true
clock_role all before after e None place first width split count wide place_is input p is = absurd (cc (place_is, is))
clock_role all before after e (Some c) place first width split count wide place_is input p is = by (nat_le first c && nat_lt (c - first) width) refl (sym place_is ∙ is)
  where
    by : (t : Bool) → (nat_le first c && nat_lt (c - first) width) ≡ t → (if t then Some (c - first) else None) ≡ Some p → is_input e.1.role ≡ true
    by false t k = absurd (cc k)
    by true t k =
        let low : first ≤ c = grind (arith, nat_tests) in
        let high : c - first < width = grind (arith, nat_tests) in
        let bit : IsBitOf is_input all c = bit_of is_input all c (omega (arith, bits_in is_input 0 all c (input c refl))) in
        let back : bit_count before + (c - first) ≡ c = omega (arith, low, count) in
        let name : bit_name 0 all c ≡ bit_at (0 + length before) (c - first) =
        ap (λ vs. bit_name 0 vs c) (sym split) ∙ ap (bit_name 0 (before ++ e ∷ after)) (sym back) ∙ name_here before e after 0 (c - first) (omega (arith, high, wide)) in
        let at : (bit_name 0 all c).variable ≡ length before = omega (arith, ap (λ (b : BitName). b.variable) name) in
        let here : slice_get all (bit_name 0 all c).variable ≡ Some e = ap (slice_get all) at ∙ ap (λ vs. slice_get vs (length before)) (sym split) ∙ here_at before e after in
        let same : bit.bit.entry ≡ e = cc (bit.bit.stands, here) in
        ap (λ (v : Entry). is_input v.1.role) (sym same) ∙ bit.role (input c refl)

-- a name that differs from all differs from each
apart_from : (before after : List Entry) (e : Entry) (name : List ℕ) → AllByRecursion (λ other. bytes_eq name other ≡ false) (keys_of (before ++ e ∷ after)) → bytes_eq name e.0 ≡ false
apart_from [] after e name h = h.0
apart_from (v ∷ before) after e name h = apart_from before after e name h.1

none_alike : (before after : List Entry) (e : Entry) → IsDistinct bytes_eq (keys_of (before ++ e ∷ after)) → position_or_len (bytes_eq e.0) (map (λ v. v.0) before) ≡ length before
none_alike [] after e h = refl
none_alike (v ∷ before) after e h =
    let apart : bytes_eq e.0 v.0 ≡ false = other_name v.0 e.0 (apart_from before after e v.0 (IsDistinct-head bytes_eq v.0 (keys_of (before ++ e ∷ after)) h)) in
    let rest = none_alike before after e (IsDistinct-tail bytes_eq v.0 (keys_of (before ++ e ∷ after)) h) in
    ap (λ t. cond (not t) (1 + position_or_len (bytes_eq e.0) (map (λ v. v.0) before)) 0) apart ∙ omega (arith, rest)

-- the next variable's name is new
pub name_fresh : (now : Named) (all after : List Entry) (e : Entry) → now.variables ++ e ∷ after ≡ all → IsDistinct bytes_eq (keys_of all) → lookup_of e.0 now ≡ None
name_fresh now all after e split apart =
    let place : ℕ = position_or_len (bytes_eq e.0) (map (λ v. v.0) now.variables) in
    let last = none_alike now.variables after e (subst (λ vs. IsDistinct bytes_eq (keys_of vs)) (sym split) apart) in
    let past : nat_lt place (length (map (λ v. v.0) now.variables)) ≡ false = grind (arith, nat_tests, last, length_map (λ (v : Entry). v.0) now.variables) in
    ap (λ t. cond t (Some place) None) past
