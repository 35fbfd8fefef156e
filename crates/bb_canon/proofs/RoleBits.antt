-- The bits of ports, variable after variable.
use Rattle.std.proofs.Common.{◌≡◌, ◌≢◌, ℕ, ◌+◌, ◌-◌, ◌≤◌, ◌<◌, zero, suc, List, [], ◌∷◌, ◌++◌, length, map, Option, Some, None, Bool, true, false, nat_eq, nat_lt, AllPairs, Contains, refl, sym, ap, ◌∙◌, arith, subst, if◌then◌else◌, append_assoc}
use Rattle.std.specs.List.{AllByRecursion, IsDistinct, range_with_len}
use Rattle.std.proofs.lemmas.List.Elements.{Contains-get_or, recursion_from_All}
use Rattle.std.proofs.lemmas.List.{append-nil}
use Rattle.std.proofs.lemmas.Bool.Decides.{nat_tests}
use Rattle.bb_base.specs.declared.variable.Role.{Role}
use Rattle.bb_base.specs.declared.variable.Role.TheVariants.{Input, Output, Wire}
use Rattle.bb_base.specs.declared.variable.Variable.{Variable}
use Rattle.bb_base.specs.declared.variable.BitName.{BitName}
use Rattle.bb_base.specs.Net.{driven, reads}
use Rattle.bb_base.specs.Variables.{Entry, is_port, is_input, is_output, range_width, clock_place, places_but, bit_at, data_bits, role_bits, bit_eq}
use Rattle.bb_base.specs.Named.{Named, IsNamed, name_of_net}
use Rattle.bb_base.specs.Building.{clock_with, port_bits}
use Rattle.bb_base.proofs.Lists.{all_front, all_back, all_join, all_map_back}
use Rattle.bb_canon.specs.Toward.{clock_among}
use Rattle.bb_canon.proofs.Distincts.{apart_bits, distinct_join}
use Rattle.bb_spell.proofs.Rising.{Rising, range_rises}

-- the bits of one variable, where its role passes
abbrev chunk : (Role → Bool) → Option BitName → ℕ → Entry → List BitName
chunk p clock k v = if p v.1.role then data_bits clock k v.1 else []

pub role_join : (p : Role → Bool) (clock : Option BitName) (k : ℕ) (xs ys : List Entry) → role_bits p clock k (xs ++ ys) ≡ role_bits p clock k xs ++ role_bits p clock (k + length xs) ys
role_join p clock k [] ys = ap (λ m. role_bits p clock m ys) (let e : k ≡ k + 0 = omega arith in e)
role_join p clock k (v ∷ vs) ys =
    let e : (k + 1) + length vs ≡ k + suc (length vs) = omega arith in
    ap (λ z. chunk p clock k v ++ z) (role_join p clock (k + 1) vs ys ∙ ap (λ m. role_bits p clock (k + 1) vs ++ role_bits p clock m ys) e)
    ∙ sym (append_assoc (chunk p clock k v) (role_bits p clock (k + 1) vs) (role_bits p clock (k + suc (length vs)) ys))

range_below : (high from n : ℕ) → from + n ≤ high → AllByRecursion (λ m. m < high) (range_with_len from n)
range_below high from zero h = tt
range_below high from (suc n) h = (omega arith, range_below high (from + 1) n (omega arith))

above_all : (x high : ℕ) (ys : List ℕ) → x < high → AllByRecursion (λ m. high ≤ m) ys → AllByRecursion (λ m. x < m) ys
above_all x high [] h k = tt
above_all x high (y ∷ ys) h k = (omega (arith, k.0), above_all x high ys h k.1)

rise_join : (xs ys : List ℕ) (high : ℕ) → Rising xs → Rising ys → AllByRecursion (λ m. m < high) xs → AllByRecursion (λ m. high ≤ m) ys → Rising (xs ++ ys)
rise_join [] ys high h k a b = k
rise_join (x ∷ xs) ys high h k a b = (all_join (λ m. x < m) xs ys h.0 (above_all x high ys a.0 b), rise_join xs ys high h.1 k a.1 b)

range_from : (low from n : ℕ) → low ≤ from → AllByRecursion (λ m. low ≤ m) (range_with_len from n)
range_from low from zero h = tt
range_from low from (suc n) h = (h, range_from low (from + 1) n (omega arith))

places_rise : (place : Option ℕ) (width : ℕ) → Rising (places_but place width)
places_rise None width = range_rises 0 width
places_rise (Some p) width = rise_join (range_with_len 0 p) (range_with_len (p + 1) (width - (p + 1))) p (range_rises 0 p) (range_rises (p + 1) (width - (p + 1))) (range_below p 0 p (omega arith)) (range_from p (p + 1) (width - (p + 1)) (omega arith))

place_apart : (k x m : ℕ) → x < m → bit_eq (bit_at k x) (bit_at k m) ≡ false
place_apart k x m h = grind (arith, nat_tests)

variable_apart : (a b : BitName) → a.variable < b.variable → bit_eq a b ≡ false
variable_apart a b h = grind (arith, nat_tests)

rising_distinct : (k : ℕ) (xs : List ℕ) → Rising xs → IsDistinct bit_eq (map (bit_at k) xs)
unfolding IsDistinct
rising_distinct k [] h = tt
rising_distinct k (x ∷ xs) h = (all_map_back (λ c. bit_eq (bit_at k x) c ≡ false) (λ m. x < m) (bit_at k) (λ m l. place_apart k x m l) xs h.0, rising_distinct k xs h.1)

all_maps : {X Y : Type 0} (P : Y → Type 0) (f : X → Y) → ((x : X) → P (f x)) → (xs : List X) → AllByRecursion P (map f xs)
all_maps P f g [] = tt
all_maps P f g (x ∷ xs) = (g x, all_maps P f g xs)

chunk_all : (P : BitName → Type 0) (b : Bool) (clock : Option BitName) (k : ℕ) (v : Variable) → ((p : ℕ) → P (bit_at k p)) → AllByRecursion P (if b then data_bits clock k v else [])
chunk_all P true clock k v h = all_maps P (bit_at k) h (places_but (clock_place clock k) (range_width v.range))
chunk_all P false clock k v h = tt

chunk_distinct : (b : Bool) (clock : Option BitName) (k : ℕ) (v : Variable) → IsDistinct bit_eq (if b then data_bits clock k v else [])
unfolding IsDistinct
chunk_distinct true clock k v = rising_distinct k (places_but (clock_place clock k) (range_width v.range)) (places_rise (clock_place clock k) (range_width v.range))
chunk_distinct false clock k v = tt

weaker_from : (k m : ℕ) (bs : List BitName) → k ≤ m → AllByRecursion (λ b. m ≤ b.variable) bs → AllByRecursion (λ b. k ≤ b.variable) bs
weaker_from k m [] h all = tt
weaker_from k m (b ∷ bs) h all = (omega (arith, all.0), weaker_from k m bs h all.1)

role_from : (p : Role → Bool) (clock : Option BitName) (k : ℕ) (vs : List Entry) → AllByRecursion (λ b. k ≤ b.variable) (role_bits p clock k vs)
role_from p clock k [] = tt
role_from p clock k (v ∷ vs) =
    all_join (λ b. k ≤ b.variable) (chunk p clock k v) (role_bits p clock (k + 1) vs) (chunk_all (λ b. k ≤ b.variable) (p v.1.role) clock k v.1 (λ m. omega arith))
    (weaker_from k (k + 1) (role_bits p clock (k + 1) vs) (omega arith) (role_from p clock (k + 1) vs))

later_apart : (k : ℕ) (b : BitName) (bs : List BitName) → b.variable ≡ k → AllByRecursion (λ c. k + 1 ≤ c.variable) bs → AllByRecursion (λ c. bit_eq b c ≡ false) bs
later_apart k b [] e h = tt
later_apart k b (c ∷ cs) e h = (variable_apart b c (omega (arith, e, h.0)), later_apart k b cs e h.1)

role_distinct : (p : Role → Bool) (clock : Option BitName) (k : ℕ) (vs : List Entry) → IsDistinct bit_eq (role_bits p clock k vs)
unfolding IsDistinct
role_distinct p clock k [] = tt
role_distinct p clock k (v ∷ vs) =
    let rest : List BitName = role_bits p clock (k + 1) vs in
    distinct_join (chunk p clock k v) rest (chunk_distinct (p v.1.role) clock k v.1) (role_distinct p clock (k + 1) vs)
    (chunk_all (λ b. AllByRecursion (λ c. bit_eq b c ≡ false) rest) (p v.1.role) clock k v.1 (λ m. later_apart k (bit_at k m) rest refl (role_from p clock (k + 1) vs)))

-- no two bits of ports are alike
pub role_alike : (p : Role → Bool) (clock : Option BitName) (k : ℕ) (vs : List Entry) → AllPairs (λ a b. a ≢ b) (role_bits p clock k vs)
role_alike p clock k vs = apart_bits (role_bits p clock k vs) (role_distinct p clock k vs)

-- the bits of ports are those of inputs and of outputs
role_ports : (P : BitName → Type 0) (r : Role) (bs : List BitName) → AllByRecursion P (if is_input r then bs else []) → AllByRecursion P (if is_output r then bs else []) → AllByRecursion P (if is_port r then bs else [])
role_ports P Input bs h k = h
role_ports P Output bs h k = k
role_ports P Wire bs h k = tt

ports_all : (P : BitName → Type 0) (clock : Option BitName) (k : ℕ) (vs : List Entry) → AllByRecursion P (role_bits is_input clock k vs) → AllByRecursion P (role_bits is_output clock k vs) → AllByRecursion P (role_bits is_port clock k vs)
ports_all P clock k [] h l = tt
ports_all P clock k (v ∷ vs) h l =
    all_join P (chunk is_port clock k v) (role_bits is_port clock (k + 1) vs)
    (role_ports P v.1.role (data_bits clock k v.1) (all_front P (chunk is_input clock k v) (role_bits is_input clock (k + 1) vs) h) (all_front P (chunk is_output clock k v) (role_bits is_output clock (k + 1) vs) l))
    (ports_all P clock (k + 1) vs (all_back P (chunk is_input clock k v) (role_bits is_input clock (k + 1) vs) h) (all_back P (chunk is_output clock k v) (role_bits is_output clock (k + 1) vs) l))

names_contain : (a : Named) (nets : List ℕ) → AllByRecursion (λ net. net < length a.names) nets → AllByRecursion (Contains a.names) (map (name_of_net a) nets)
names_contain a nets h = all_map_back (Contains a.names) (λ net. net < length a.names) (name_of_net a) (λ net l. Contains-get_or a.names net (record { variable = 0; place = 0 }) l) nets h

-- and are named by nets of the netlist
pub ports_within : (a : Named) → IsNamed a → AllByRecursion (Contains a.names) (role_bits is_port a.clock 0 a.variables)
ports_within a h =
    let driven_nets = recursion_from_All (λ net. net < length a.names) (driven a.netlist) h.consistent.drives_nets in
    let read_nets = recursion_from_All (λ net. net < length a.names) (reads a.netlist) h.consistent.reads_nets in
    ports_all (Contains a.names) a.clock 0 a.variables
    (subst (AllByRecursion (Contains a.names)) h.consistent.inputs (names_contain a a.netlist.inputs (all_front (λ net. net < length a.names) a.netlist.inputs _ driven_nets)))
    (subst (AllByRecursion (Contains a.names)) h.consistent.outputs (names_contain a a.netlist.outputs (all_front (λ net. net < length a.names) a.netlist.outputs _ read_nets)))

-- the same of the first variables
pub front_within : (a : Named) (vs left : List Entry) → IsNamed a → vs ++ left ≡ a.variables → AllByRecursion (Contains a.names) (role_bits is_port a.clock 0 vs)
front_within a vs left h e =
    let all : AllByRecursion (Contains a.names) (role_bits is_port a.clock 0 (vs ++ left)) = subst (λ ws. AllByRecursion (Contains a.names) (role_bits is_port a.clock 0 ws)) (sym e) (ports_within a h) in
    all_front (Contains a.names) (role_bits is_port a.clock 0 vs) (role_bits is_port a.clock (0 + length vs) left) (subst (AllByRecursion (Contains a.names)) (role_join is_port a.clock 0 vs left) all)

-- a declared variable adds the bits of its ports
pub port_bits_are : (clock : Option BitName) (place : Option ℕ) (vs : List Entry) (v : Entry) → place ≡ clock_place clock (length vs) → role_bits is_port clock 0 vs ++ port_bits (length vs) v.1 place ≡ role_bits is_port clock 0 (vs ++ v ∷ [])
port_bits_are clock place vs v e =
    let number : 0 + length vs ≡ length vs = omega arith in
    sym (role_join is_port clock 0 vs (v ∷ []) ∙ ap (λ z. role_bits is_port clock 0 vs ++ z) (append-nil (chunk is_port clock (0 + length vs) v) ∙ ap (λ k. chunk is_port clock k v) number ∙ ap (λ q. if is_port v.1.role then map (bit_at (length vs)) (places_but q (range_width v.1.range)) else []) (sym e)))

lt_push : (k n : ℕ) → nat_eq k n ≡ false → nat_lt k (n + 1) ≡ nat_lt k n
lt_push k n h = grind (arith, nat_tests)

-- and is the clock's where the clock is a bit of it
pub clock_are : (clock : Option BitName) (place : Option ℕ) (n : ℕ) → place ≡ clock_place clock n → clock_with (clock_among clock n) n place ≡ clock_among clock (n + 1)
clock_are None place n e = ap (clock_with None n) e
clock_are (Some c) place n e = ap (clock_with (clock_among (Some c) n) n) e ∙ go (nat_eq c.variable n) refl
  where
    go : (b : Bool) → nat_eq c.variable n ≡ b → clock_with (clock_among (Some c) n) n (if b then Some c.place else None) ≡ clock_among (Some c) (n + 1)
    go true t =
        let same : c.variable ≡ n = grind (arith, nat_tests) in
        let less : nat_lt c.variable (n + 1) ≡ true = grind (arith, nat_tests) in
        rw less (λ i. Some (record { variable = sym same i; place = c.place }))
    go false t = ap (λ b. if b then Some c else None) (sym (lt_push c.variable n t))
