-- One more variable of a table in a builder.
use Rattle.std.proofs.Common.{◌≡◌, ℕ, ◌+◌, ◌-◌, ◌<◌, ◌≤◌, zero, suc, nat_eq, nat_lt, nat_le, not, ◌&&◌, List, [], ◌∷◌, ◌++◌, map, filter, length, All, Bool, true, false, cond, Option, Some, None, slice_get, get_or, if◌then◌else◌, refl, sym, ap, subst, ◌∙◌, arith, append_assoc, length-append}
use Rattle.std.proofs.lemmas.Bool.Decides.{nat_tests}
use Rattle.std.proofs.lemmas.List.Elements.{filter-append, All-weaker, All-from_recursion, All-map}
use Rattle.std.proofs.lemmas.Option.{slice_get-get_or}
use Rattle.std.specs.List.{range_with_len, AllByRecursion}
use Rattle.std.specs.Option.{ForSome}
use Rattle.bb_base.specs.declared.variable.BitName.{BitName}
use Rattle.bb_base.specs.Variables.{Entry, IsEntry, is_port, range_width, bit_at, bit_count}
use Rattle.bb_base.specs.Named.{Named}
use Rattle.bb_base.specs.Building.{clock_with}
use Rattle.bb_base.proofs.Lists.{map_join, get_front, get_back}
use Rattle.bb_net.proofs.VariableLemmas.{all_at}
use Rattle.bb_drive.specs.Nets.{bit_name, bits_from, has_bit}
use Rattle.bb_assemble.specs.Assembling.{ArePortsFirst, is_clock_bit, bit_place, kept_places, kept_bits, clock_below, Adds, AreAdded, KeepsPorts}
use Rattle.bb_assemble.proofs.RangeLaws.{range_join, range_moved}
use Rattle.bb_assemble.proofs.NamedBits.{bit_count_join, name_below, name_here, bit_among}

pub here_at : {X : Type 0} (before : List X) (e : X) (after : List X) → slice_get (before ++ e ∷ after) (length before) ≡ Some e
here_at before e after =
    let k : length before ≡ length before + 0 = omega arith in
    ap (slice_get (before ++ e ∷ after)) k ∙ get_back before (e ∷ after) 0

-- what is known of all variables is known of the next one
pub next_entry : (all before after : List Entry) (e : Entry) → before ++ e ∷ after ≡ all → All IsEntry all → IsEntry e
next_entry all before after e split h = all_at IsEntry all (length before) e h (ap (λ vs. slice_get vs (length before)) (sym split) ∙ here_at before e after)

-- a port has ports before it
pub ports_before : (all before after : List Entry) (e : Entry) → before ++ e ∷ after ≡ all → ArePortsFirst all → is_port e.1.role ≡ true → All (λ v. is_port v.1.role ≡ true) before
ports_before all before after e split first port = λ k d less.
    let v : Entry = get_or before k d in
    let at : slice_get all k ≡ Some v = ap (λ vs. slice_get vs k) (sym split) ∙ get_front before (e ∷ after) k less ∙ slice_get-get_or before k d less in
    first k (length before) v e less at (ap (λ vs. slice_get vs (length before)) (sym split) ∙ here_at before e after) port

-- a name so far is one of the variables so far
name_so_far : (all before rest : List Entry) (b : ℕ) → before ++ rest ≡ all → b < bit_count before → (bit_name 0 all b).variable < length before
name_so_far all before rest b split h =
    omega (arith, name_below before rest 0 b h, ap (λ vs. (bit_name 0 vs b).variable) split)

pub clock_so_far : (all before rest : List Entry) (clock : Option ℕ) (now : Option BitName) (number : ℕ) → before ++ rest ≡ all → number ≡ length before → now ≡ clock_below all (bit_count before) clock → ForSome now (λ c. c.variable < number)
clock_so_far all before rest None now number split count h = λ x e. cc
clock_so_far all before rest (Some c) now number split count h = by (nat_lt c (bit_count before)) refl h
  where
    by : (t : Bool) → nat_lt c (bit_count before) ≡ t → now ≡ (if t then Some (bit_name 0 all c) else None) → ForSome now (λ c. c.variable < number)
    by true t k = λ x e.
        let same : bit_name 0 all c ≡ x = cc in
        let less : c < bit_count before = grind (arith, nat_tests) in
        omega (arith, name_so_far all before rest c split less, ap (λ (b : BitName). b.variable) same)
    by false t k = λ x e. cc

pub bits_below : (keeps : ℕ → Bool) (from n top : ℕ) → from + n ≤ top → AllByRecursion (λ b. b < top) (filter keeps (range_with_len from n))
bits_below keeps from zero top h = tt
bits_below keeps from (suc n) top h = by (keeps from) (bits_below keeps (from + 1) n top (omega arith))
  where
    by : (t : Bool) → AllByRecursion (λ b. b < top) (filter keeps (range_with_len (from + 1) n)) → AllByRecursion (λ b. b < top) (cond t (from ∷ filter keeps (range_with_len (from + 1) n)) (filter keeps (range_with_len (from + 1) n)))
    by true rec = (omega arith, rec)
    by false rec = rec

pub names_so_far : (all before rest : List Entry) (keeps : ℕ → Bool) (names : List BitName) (number : ℕ) → before ++ rest ≡ all → number ≡ length before
    → names ≡ map (bit_name 0 all) (filter keeps (range_with_len 0 (bit_count before))) → All (λ bit. bit.variable < number) names
names_so_far all before rest keeps names number split count h =
    subst (All (λ bit. bit.variable < number)) (sym h)
    (All-map (λ bit. bit.variable < number) (bit_name 0 all) (filter keeps (range_with_len 0 (bit_count before)))
    (All-weaker (λ b. b < bit_count before) (λ b. (bit_name 0 all b).variable < number) (λ b less. omega (arith, name_so_far all before rest b split less, count)) (filter keeps (range_with_len 0 (bit_count before)))
    (All-from_recursion (λ b. b < bit_count before) (filter keeps (range_with_len 0 (bit_count before))) (bits_below keeps 0 (bit_count before) (bit_count before) (omega arith)))))

-- the clock's bit, by its number and by its place
pub clock_place_is : (clock : Option ℕ) (first width p : ℕ) → p < width → is_clock_bit clock (first + p) ≡ is_clock_bit (bit_place clock first width) p
clock_place_is None first width p h = refl
clock_place_is (Some c) first width p h = by (nat_le first c && nat_lt (c - first) width) refl
  where
    by : (t : Bool) → (nat_le first c && nat_lt (c - first) width) ≡ t → nat_eq c (first + p) ≡ is_clock_bit (if t then Some (c - first) else None) p
    by true t = grind (arith, nat_tests)
    by false t = grind (arith, nat_tests)

-- which bits of a port are kept
pub port_bit : (all before after : List Entry) (e : Entry) (clock place : Option ℕ) (keeps : ℕ → Bool) (first width fresh p : ℕ) → before ++ e ∷ after ≡ all → first ≡ bit_count before → width ≡ range_width e.1.range
    → KeepsPorts all fresh clock keeps → place ≡ bit_place clock first width → is_port e.1.role ≡ true → first + width ≤ fresh → p < width → keeps (first + p) ≡ not (is_clock_bit place p)
port_bit all before after e clock place keeps first width fresh p split count wide ports place_is port fits less =
    let among : has_bit (bits_from is_port 0 (before ++ e ∷ after)) (0 + (bit_count before + p)) ≡ true = bit_among is_port before e after 0 p port (omega (arith, wide)) in
    let at : 0 + (bit_count before + p) ≡ first + p = omega arith in
    ports (first + p) (omega arith) ((λ i. has_bit (bits_from is_port 0 (sym split i)) (sym at i)) ∙ among) ∙ ap not (clock_place_is clock first width p less ∙ ap (λ o. is_clock_bit o p) (sym place_is))

-- the names with one more variable
map_named : (f g : ℕ → BitName) (h : ℕ → ℕ) (P : ℕ → Type 0) → ((p : ℕ) → P p → f (h p) ≡ g p) → (ps : List ℕ) → AllByRecursion P ps → map f (map h ps) ≡ map g ps
map_named f g h P e [] k = refl
map_named f g h P e (p ∷ ps) k = λ i. e p k.0 i ∷ map_named f g h P e ps k.1 i

filter_moved : (keeps : ℕ → Bool) (by : ℕ) (ps : List ℕ) → filter keeps (map (λ p. by + p) ps) ≡ map (λ p. by + p) (filter (λ p. keeps (by + p)) ps)
filter_moved keeps by [] = refl
filter_moved keeps by (p ∷ ps) = go (keeps (by + p)) (filter_moved keeps by ps)
  where
    go : (t : Bool) → filter keeps (map (λ p. by + p) ps) ≡ map (λ p. by + p) (filter (λ p. keeps (by + p)) ps)
        → cond t ((by + p) ∷ filter keeps (map (λ p. by + p) ps)) (filter keeps (map (λ p. by + p) ps)) ≡ map (λ p. by + p) (cond t (p ∷ filter (λ p. keeps (by + p)) ps) (filter (λ p. keeps (by + p)) ps))
    go true h = ap (λ ks. (by + p) ∷ ks) h
    go false h = h

pub bits_of_next : (all before after : List Entry) (e : Entry) (keeps : ℕ → Bool) → before ++ e ∷ after ≡ all
    → map (bit_name 0 all) (filter keeps (range_with_len (bit_count before) (range_width e.1.range))) ≡ kept_bits keeps (length before) (bit_count before) (range_width e.1.range)
bits_of_next all before after e keeps split =
    let first : ℕ = bit_count before in
    let width : ℕ = range_width e.1.range in
    let start : first ≡ first + 0 = omega arith in
    let moved : filter keeps (range_with_len first width) ≡ map (λ p. first + p) (kept_places keeps first width) =
    ap (λ k. filter keeps (range_with_len k width)) start ∙ ap (filter keeps) (sym (range_moved first 0 width)) ∙ filter_moved keeps first (range_with_len 0 width) in
    ap (map (bit_name 0 all)) moved
    ∙ map_named (bit_name 0 all) (bit_at (length before)) (λ p. first + p) (λ p. p < width)
    (λ p less. ap (λ vs. bit_name 0 vs (first + p)) (sym split) ∙ name_here before e after 0 p less ∙ ap (λ k. bit_at k p) (omega arith))
    (kept_places keeps first width) (bits_below (λ p. keeps (first + p)) 0 width width (omega arith))

pub names_next : (all before after : List Entry) (e : Entry) (keeps : ℕ → Bool) → before ++ e ∷ after ≡ all
    → map (bit_name 0 all) (filter keeps (range_with_len 0 (bit_count before))) ++ kept_bits keeps (length before) (bit_count before) (range_width e.1.range)
    ≡ map (bit_name 0 all) (filter keeps (range_with_len 0 (bit_count before + range_width e.1.range)))
names_next all before after e keeps split =
    let first : ℕ = bit_count before in
    let width : ℕ = range_width e.1.range in
    let start : 0 + first ≡ first = omega arith in
    ap (λ bs. map (bit_name 0 all) (filter keeps (range_with_len 0 first)) ++ bs) (sym (bits_of_next all before after e keeps split))
    ∙ sym (ap (λ ks. map (bit_name 0 all) (filter keeps ks)) (range_join 0 first width ∙ ap (λ k. range_with_len 0 first ++ range_with_len k width) start)
    ∙ ap (map (bit_name 0 all)) (filter-append keeps (range_with_len 0 first) (range_with_len first width)) ∙ map_join (bit_name 0 all) (filter keeps (range_with_len 0 first)) (filter keeps (range_with_len first width)))

-- the clock with one more variable
pub clock_next : (all before after : List Entry) (e : Entry) (clock : Option ℕ) → before ++ e ∷ after ≡ all
    → clock_with (clock_below all (bit_count before) clock) (length before) (bit_place clock (bit_count before) (range_width e.1.range)) ≡ clock_below all (bit_count before + range_width e.1.range) clock
clock_next all before after e None split = refl
clock_next all before after e (Some c) split =
    by (nat_lt c (bit_count before)) refl (nat_le (bit_count before) c && nat_lt (c - bit_count before) (range_width e.1.range)) refl (nat_lt c (bit_count before + range_width e.1.range)) refl
  where
    by : (s : Bool) → nat_lt c (bit_count before) ≡ s → (t : Bool) → (nat_le (bit_count before) c && nat_lt (c - bit_count before) (range_width e.1.range)) ≡ t → (u : Bool) → nat_lt c (bit_count before + range_width e.1.range) ≡ u
        → clock_with (if s then Some (bit_name 0 all c) else None) (length before) (if t then Some (c - bit_count before) else None) ≡ (if u then Some (bit_name 0 all c) else None)
    by true a true b u d = absurd (grind (arith, nat_tests))
    by true a false b true d = refl
    by true a false b false d = absurd (grind (arith, nat_tests))
    by false a true b true d =
        let first : ℕ = bit_count before in
        let low : first ≤ c = grind (arith, nat_tests) in
        let high : c - first < range_width e.1.range = grind (arith, nat_tests) in
        let back : first + (c - first) ≡ c = omega arith in
        ap Some (sym (ap (λ vs. bit_name 0 vs c) (sym split) ∙ ap (bit_name 0 (before ++ e ∷ after)) (sym back) ∙ name_here before e after 0 (c - first) high ∙ ap (λ k. bit_at k (c - first)) (omega arith)))
    by false a true b false d = absurd (grind (arith, nat_tests))
    by false a false b true d = absurd (grind (arith, nat_tests))
    by false a false b false d = refl

-- all of it together
pub next_stands : (old now new : Named) (all after : List Entry) (e : Entry) (clock place : Option ℕ) (keeps : ℕ → Bool) (number first width : ℕ) → now.variables ++ e ∷ after ≡ all → number ≡ length now.variables
    → first ≡ bit_count now.variables → width ≡ range_width e.1.range → place ≡ bit_place clock first width → AreAdded old clock keeps all now → Adds now new e place (kept_bits keeps number first width) → AreAdded old clock keeps all new
next_stands old now new all after e clock place keeps number first width split count first_is wide place_is h added =
    let before : List Entry = now.variables in
    let total : bit_count new.variables ≡ bit_count before + range_width e.1.range =
    ap bit_count added.variables ∙ bit_count_join before (e ∷ []) ∙ omega arith in
    let place_now : place ≡ bit_place clock (bit_count before) (range_width e.1.range) = place_is ∙ (λ i. bit_place clock (first_is i) (wide i)) in
    record {
      module_name = added.module_name ∙ h.module_name;
      clock_is = added.clock ∙ (λ i. clock_with (h.clock_is i) (length before) (place_now i)) ∙ clock_next all before after e clock split ∙ ap (λ k. clock_below all k clock) (sym total);
      names = added.names_are ∙ (λ i. h.names i ++ kept_bits keeps (count i) (first_is i) (wide i)) ∙ names_next all before after e keeps split ∙ ap (λ k. map (bit_name 0 all) (filter keeps (range_with_len 0 k))) (sym total);
      gates = added.gates ∙ h.gates;
      flops = added.flops ∙ h.flops;
    }

pub next_count : (now new : Named) (e : Entry) (place : Option ℕ) (names : List BitName) (number first width : ℕ) → number ≡ length now.variables → first ≡ bit_count now.variables → width ≡ range_width e.1.range → Adds now new e place names
    → (number + 1 ≡ length new.variables) × (first + width ≡ bit_count new.variables)
next_count now new e place names number first width count first_is wide added =
    (omega (arith, count, ap length added.variables, length-append now.variables (e ∷ [])), omega (arith, first_is, wide, ap bit_count added.variables, bit_count_join now.variables (e ∷ [])))

pub next_split : (all before after new : List Entry) (e : Entry) → before ++ e ∷ after ≡ all → new ≡ before ++ e ∷ [] → new ++ after ≡ all
next_split all before after new e split h = ap (λ vs. vs ++ after) h ∙ append_assoc before (e ∷ []) after ∙ split
