-- What a builder holds in the end is the netlist of the definition.
use Rattle.std.proofs.Common.{◌≡◌, ◌≢◌, ℕ, ◌+◌, ◌-◌, ◌<◌, ◌≤◌, ◌==◌, zero, suc, nat_eq, nat_lt, nat_le, not, ◌&&◌, List, [], ◌∷◌, ◌++◌, map, filter, length, AllPairs, Bool, true, false, Option, Some, None, get_or, if◌then◌else◌, refl, sym, ap, ◌∙◌, arith, append_assoc, length-append}
use Rattle.std.proofs.lemmas.Bool.Decides.{nat_tests}
use Rattle.std.proofs.lemmas.List.Elements.{filter-append}
use Rattle.std.proofs.lemmas.List.Sums.{position_or_len_is}
use Rattle.std.specs.List.{range_with_len, AllByRecursion}
use Rattle.std.specs.Option.{option_map}
use Rattle.bb_base.specs.declared.variable.BitName.{BitName}
use Rattle.bb_base.specs.declared.variable.Role.{Role}
use Rattle.bb_base.specs.declared.variable.Role.TheVariants.{Input, Output, Wire}
use Rattle.bb_base.specs.Variables.{Entry, is_port, is_input, is_output, range_width, bit_at, clock_place, places_but, data_bits, role_bits, bit_count}
use Rattle.bb_base.specs.Named.{Named, name_of_net}
use Rattle.bb_base.proofs.Lists.{map_join, length_map}
use Rattle.bb_drive.specs.Nets.{bit_name, bits_from, input_bits, output_bits}
use Rattle.bb_drive.specs.NamedOf.{place_among}
use Rattle.bb_assemble.specs.Assembling.{is_clock_bit, bit_place, kept_places, KeepsPorts}
use Rattle.bb_assemble.proofs.RangeLaws.{filter_range, places_left}
use Rattle.bb_assemble.proofs.NamedBits.{name_below, name_here, bit_count_join}
use Rattle.bb_assemble.proofs.VariableSteps.{port_bit, bits_of_next}

-- ports of one role -------------------------------------------------------

-- a bit past the first variables has none of their numbers
name_past : (before rest : List Entry) (n b : ℕ) → bit_count before ≤ b → n + length before ≤ (bit_name n (before ++ rest) b).variable
name_past [] rest n b h = least rest n b
  where
    least : (vs : List Entry) (n b : ℕ) → n + 0 ≤ (bit_name n vs b).variable
    least [] n b = omega arith
    least (v ∷ vs) n b = by (nat_lt b (range_width v.1.range)) (least vs (suc n) (b - range_width v.1.range))
      where
        by : (t : Bool) → suc n + 0 ≤ (bit_name (suc n) vs (b - range_width v.1.range)).variable → n + 0 ≤ (if t then record { variable = n; place = b } else bit_name (suc n) vs (b - range_width v.1.range)).variable
        by true rec = omega arith
        by false rec = omega (arith, rec)
name_past (v ∷ vs) rest n b h = by (nat_lt b (range_width v.1.range)) refl (name_past vs rest (suc n) (b - range_width v.1.range))
  where
    by : (t : Bool) → nat_lt b (range_width v.1.range) ≡ t → (bit_count vs ≤ b - range_width v.1.range → suc n + length vs ≤ (bit_name (suc n) (vs ++ rest) (b - range_width v.1.range)).variable)
        → n + suc (length vs) ≤ (if t then record { variable = n; place = b } else bit_name (suc n) (vs ++ rest) (b - range_width v.1.range)).variable
    by true t rec = absurd (grind (arith, nat_tests))
    by false t rec = omega (arith, rec (omega arith))

-- the clock's place in a variable, by its name and by its number
clock_place_in : (all before after : List Entry) (e : Entry) (clock : Option ℕ) → before ++ e ∷ after ≡ all
    → clock_place (option_map (bit_name 0 all) clock) (length before) ≡ bit_place clock (bit_count before) (range_width e.1.range)
clock_place_in all before after e None split = refl
clock_place_in all before after e (Some c) split =
    by (nat_le (bit_count before) c && nat_lt (c - bit_count before) (range_width e.1.range)) refl
  where
    by : (t : Bool) → (nat_le (bit_count before) c && nat_lt (c - bit_count before) (range_width e.1.range)) ≡ t
        → (if (bit_name 0 all c).variable == length before then Some (bit_name 0 all c).place else None) ≡ (if t then Some (c - bit_count before) else None)
    by true t =
        let low : bit_count before ≤ c = grind (arith, nat_tests) in
        let high : c - bit_count before < range_width e.1.range = grind (arith, nat_tests) in
        let back : bit_count before + (c - bit_count before) ≡ c = omega arith in
        let zero_is : 0 + length before ≡ length before = omega arith in
        let bit : bit_name 0 all c ≡ bit_at (length before) (c - bit_count before) =
        ap (λ vs. bit_name 0 vs c) (sym split) ∙ ap (bit_name 0 (before ++ e ∷ after)) (sym back) ∙ name_here before e after 0 (c - bit_count before) high ∙ ap (λ k. bit_at k (c - bit_count before)) zero_is in
        let own : (length before == length before) ≡ true = grind (arith, nat_tests) in
        ap (λ (b : BitName). if b.variable == length before then Some b.place else None) bit ∙ ap (λ (s : Bool). if s then Some (c - bit_count before) else None) own
    by false t =
        ap (λ (s : Bool). if s then Some (bit_name 0 all c).place else None) (apart (nat_lt c (bit_count before)) refl)
      where
        named_is : (bit_name 0 (before ++ e ∷ after) c).variable ≡ (bit_name 0 all c).variable
        named_is = ap (λ vs. (bit_name 0 vs c).variable) split

        apart : (s : Bool) → nat_lt c (bit_count before) ≡ s → ((bit_name 0 all c).variable == length before) ≡ false
        apart true s =
            let less : c < bit_count before = grind (arith, nat_tests) in
            let below : (bit_name 0 all c).variable < length before = omega (arith, name_below before (e ∷ after) 0 c less, named_is) in
            grind (arith, nat_tests)
        apart false s =
            let past : bit_count (before ++ e ∷ []) ≤ c = omega (arith, bit_count_join before (e ∷ []), wide t s) in
            let named_so : (bit_name 0 ((before ++ e ∷ []) ++ after) c).variable ≡ (bit_name 0 all c).variable = ap (λ vs. (bit_name 0 vs c).variable) (append_assoc before (e ∷ []) after ∙ split) in
            let above : length before < (bit_name 0 all c).variable = omega (arith, name_past (before ++ e ∷ []) after 0 c past, named_so, length-append before (e ∷ [])) in
            grind (arith, nat_tests)
          where
            wide : (nat_le (bit_count before) c && nat_lt (c - bit_count before) (range_width e.1.range)) ≡ false → nat_lt c (bit_count before) ≡ false → bit_count before + range_width e.1.range ≤ c
            wide t s = grind (arith, nat_tests)

place_within : (clock : Option ℕ) (first width p : ℕ) → bit_place clock first width ≡ Some p → p < width
place_within None first width p h = cc
place_within (Some c) first width p h = by (nat_le first c && nat_lt (c - first) width) refl h
  where
    by : (t : Bool) → (nat_le first c && nat_lt (c - first) width) ≡ t → (if t then Some (c - first) else None) ≡ Some p → p < width
    by true t k =
        let same : c - first ≡ p = cc in
        let less : c - first < width = grind (arith, nat_tests) in
        omega (arith, same, less)
    by false t k = cc

-- the bits of the ports of one role, by their names
pub role_named : (passes : Role → Bool) → ((r : Role) → passes r ≡ true → is_port r ≡ true) → (all before rest : List Entry) (clock : Option ℕ) (keeps : ℕ → Bool) (fresh : ℕ) → before ++ rest ≡ all → bit_count all ≤ fresh
    → KeepsPorts all fresh clock keeps → role_bits passes (option_map (bit_name 0 all) clock) (length before) rest ≡ map (bit_name 0 all) (filter keeps (bits_from passes (bit_count before) rest))
role_named passes port all before [] clock keeps fresh split fits keep = refl
role_named passes port all before (e ∷ rest) clock keeps fresh split fits keep =
    let first : ℕ = bit_count before in
    let width : ℕ = range_width e.1.range in
    let number : length (before ++ e ∷ []) ≡ length before + 1 = length-append before (e ∷ []) in
    let total : bit_count (before ++ e ∷ []) ≡ first + width = omega (arith, bit_count_join before (e ∷ [])) in
    let more : role_bits passes (option_map (bit_name 0 all) clock) (length before + 1) rest ≡ map (bit_name 0 all) (filter keeps (bits_from passes (first + width) rest)) =
    ap (λ k. role_bits passes (option_map (bit_name 0 all) clock) k rest) (sym number)
    ∙ role_named passes port all (before ++ e ∷ []) rest clock keeps fresh (append_assoc before (e ∷ []) rest ∙ split) fits keep
    ∙ ap (λ k. map (bit_name 0 all) (filter keeps (bits_from passes k rest))) total in
    (λ i. here (passes e.1.role) refl i ++ more i)
    ∙ sym (ap (map (bit_name 0 all)) (filter-append keeps (if passes e.1.role then range_with_len first width else []) (bits_from passes (first + width) rest))
    ∙ map_join (bit_name 0 all) (filter keeps (if passes e.1.role then range_with_len first width else [])) (filter keeps (bits_from passes (first + width) rest)))
  where
    here : (t : Bool) → passes e.1.role ≡ t
        → (if t then data_bits (option_map (bit_name 0 all) clock) (length before) e.1 else []) ≡ map (bit_name 0 all) (filter keeps (if t then range_with_len (bit_count before) (range_width e.1.range) else []))
    here false t = refl
    here true t =
        let first : ℕ = bit_count before in
        let width : ℕ = range_width e.1.range in
        let place : Option ℕ = bit_place clock first width in
        let room : first + width ≤ fresh = omega (arith, fits, ap bit_count split, bit_count_join before (e ∷ rest)) in
        let places : kept_places keeps first width ≡ places_but place width =
        filter_range (λ p. keeps (first + p)) (λ p. not (is_clock_bit place p)) 0 width
        (λ p low high. port_bit all before rest e clock place keeps first width fresh p split refl refl keep refl (port e.1.role t) room (omega arith))
        ∙ places_left place width (λ p k. place_within clock first width p k) in
        ap (λ o. map (bit_at (length before)) (places_but o width)) (clock_place_in all before rest e clock split) ∙ ap (map (bit_at (length before))) (sym places) ∙ sym (bits_of_next all before rest e keeps split)

input_ports : (r : Role) → is_input r ≡ true → is_port r ≡ true
input_ports Input h = refl
input_ports Output h = refl
input_ports Wire h = h

output_ports : (r : Role) → is_output r ≡ true → is_port r ≡ true
output_ports Input h = refl
output_ports Output h = refl
output_ports Wire h = h

pub inputs_named : (all : List Entry) (clock : Option ℕ) (keeps : ℕ → Bool) (fresh : ℕ) → bit_count all ≤ fresh → KeepsPorts all fresh clock keeps
    → role_bits is_input (option_map (bit_name 0 all) clock) 0 all ≡ map (bit_name 0 all) (filter keeps (input_bits all))
inputs_named all clock keeps fresh fits keep = role_named is_input input_ports all [] all clock keeps fresh refl fits keep

pub outputs_named : (all : List Entry) (clock : Option ℕ) (keeps : ℕ → Bool) (fresh : ℕ) → bit_count all ≤ fresh → KeepsPorts all fresh clock keeps
    → role_bits is_output (option_map (bit_name 0 all) clock) 0 all ≡ map (bit_name 0 all) (filter keeps (output_bits all))
outputs_named all clock keeps fresh fits keep = role_named is_output output_ports all [] all clock keeps fresh refl fits keep

-- nets by their names ----------------------------------------------------------

-- where names are those of bits, and no two alike, a net with a bit's name is the bit's place
place_found : (names : List BitName) (f : ℕ → BitName) (bits : List ℕ) (net x : ℕ) (d : BitName) → ((a b : ℕ) → f a ≡ f b → a ≡ b) → names ≡ map f bits → AllPairs (λ a b. a ≢ b) names → net < length names → get_or names net d ≡ f x
    → net ≡ place_among bits x
place_found names f bits net x d one same alike less named =
    let long : length names ≡ length bits = ap length same ∙ length_map f bits in
    let at : (k : ℕ) → k < length bits → get_or names k d ≡ f (get_or bits k 0) =
    λ k within. ap (λ ns. get_or ns k d) same ∙ elsewhere f bits k d within in
    let here : get_or bits net 0 ≡ x = one (get_or bits net 0) x (sym (at net (omega (arith, long))) ∙ named) in
    sym (position_or_len_is (nat_eq x) bits net 0 (omega (arith, long))
    (λ k before. differs x (get_or bits k 0) (λ h. alike k net d before less (at k (omega (arith, long)) ∙ ap f (sym h) ∙ sym named)))
    (λ within. equals x (get_or bits net 0) (sym here)))
  where
    elsewhere : (f : ℕ → BitName) (bits : List ℕ) (k : ℕ) (d : BitName) → k < length bits → get_or (map f bits) k d ≡ f (get_or bits k 0)
    elsewhere f [] k d h = absurd (omega arith)
    elsewhere f (b ∷ bits) zero d h = refl
    elsewhere f (b ∷ bits) (suc k) d h = elsewhere f bits k d (omega arith)

    differs : (x y : ℕ) → (x ≡ y → ⊥) → nat_eq x y ≡ false
    differs x y h = by (nat_eq x y) refl
      where
        by : (t : Bool) → nat_eq x y ≡ t → t ≡ false
        by true t = absurd (h (grind (arith, nat_tests)))
        by false t = refl

    equals : (x y : ℕ) → x ≡ y → nat_eq x y ≡ true
    equals x y h = grind (arith, nat_tests)

pub nets_found : (n : Named) (f : ℕ → BitName) (bits ports xs : List ℕ) → ((a b : ℕ) → f a ≡ f b → a ≡ b) → n.names ≡ map f bits → AllPairs (λ a b. a ≢ b) n.names → AllByRecursion (λ net. net < length n.names) ports
    → map (name_of_net n) ports ≡ map f xs → ports ≡ map (place_among bits) xs
nets_found n f bits [] [] one same alike below h = refl
nets_found n f bits [] (x ∷ xs) one same alike below h = cc
nets_found n f bits (p ∷ ports) [] one same alike below h = cc
nets_found n f bits (p ∷ ports) (x ∷ xs) one same alike below h =
    let first : name_of_net n p ≡ f x = cc in
    let others : map (name_of_net n) ports ≡ map f xs = cc in
    let here : p ≡ place_among bits x = place_found n.names f bits p x (bit_at 0 0) one same alike below.0 first in
    let rest : ports ≡ map (place_among bits) xs = nets_found n f bits ports xs one same alike below.1 others in
    λ i. here i ∷ rest i
