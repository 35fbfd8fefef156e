-- Each net of the original has a net among those that are laid.
use Rattle.std.proofs.Common.{arith, ◌≡◌, ◌≢◌, ◌⊎◌, inl, inr, ℕ, ◌+◌, ◌-◌, ◌<◌, ◌≤◌, ◌==◌, zero, suc, nat_lt, List, [], ◌∷◌, ◌++◌, filter, take, drop, length, All, cond, Bool, true, false, Option, Some, None, slice_get, slice_index_or, if◌then◌else◌, refl, sym, ap, subst, ◌∙◌, take-append-drop, length-drop, Contains}
use Rattle.std.proofs.lemmas.Bool.Decides.{nat_tests}
use Rattle.std.proofs.lemmas.Option.{slice_get_within}
use Rattle.std.proofs.lemmas.List.Elements.{All-from_recursion, recursion_from_All}
use Rattle.std.proofs.Math.Seq.{length-take-le}
use Rattle.std.specs.List.{list_any, range_with_len}
use Rattle.std.specs.Option.{ForSome}
use Rattle.bb_base.specs.declared.variable.BitName.{BitName}
use Rattle.bb_base.specs.Variables.{Entry, IsBit, bit_at, bit_eq, is_port, range_width, places_but, clock_place, data_bits, role_bits, ports_of}
use Rattle.bb_base.proofs.Contained.{here, there, either, none_in, contains_map, to_all, of_all}
use Rattle.bb_base.proofs.Lists.{get_front, get_back}
use Rattle.bb_base.specs.Named.{Named, IsConsistent}
use Rattle.bb_lay.specs.Laying.{IsLaid, net_bits, all_net_bits, new_number}
use Rattle.bb_lay.proofs.Bits.{stands_any}
use Rattle.bb_lay.proofs.Clocks.{port_at, front_long, ports_within}

pub in_first : {X : Type 0} (xs ys : List X) (x : X) → Contains xs x → Contains (xs ++ ys) x
in_first [] ys x h = absurd (none_in x h)
in_first {X} (y ∷ xs) ys x h = by (either y xs x h) (λ more. in_first xs ys x more)
  where
    by : (y ≡ x) ⊎ Contains xs x → (Contains xs x → Contains (xs ++ ys) x) → Contains (y ∷ (xs ++ ys)) x
    by (inl e) rest = subst (Contains (y ∷ (xs ++ ys))) e (here y (xs ++ ys))
    by (inr more) rest = there y (xs ++ ys) x (rest more)

pub in_second : {X : Type 0} (xs ys : List X) (x : X) → Contains ys x → Contains (xs ++ ys) x
in_second [] ys x h = h
in_second (y ∷ xs) ys x h = there y (xs ++ ys) x (in_second xs ys x h)

pub in_range : (from n k : ℕ) → k < n → Contains (range_with_len from n) (from + k)
in_range from zero k less = absurd (omega (arith, less))
in_range from (suc n) zero less = let e : from ≡ from + 0 = omega arith in subst (Contains (range_with_len from (suc n))) e (here from (range_with_len (from + 1) n))
in_range from (suc n) (suc k) less =
    let e : from + 1 + k ≡ from + suc k = omega arith in
    there from (range_with_len (from + 1) n) (from + suc k) (subst (Contains (range_with_len (from + 1) n)) e (in_range (from + 1) n k (omega (arith, less))))

pub in_filter : {X : Type 0} (test : X → Bool) (xs : List X) (x : X) → test x ≡ true → Contains xs x → Contains (filter test xs) x
in_filter test [] x t h = absurd (none_in x h)
in_filter {X} test (y ∷ xs) x t h = by (either y xs x h) (test y) refl (λ more. in_filter test xs x t more)
  where
    by : (y ≡ x) ⊎ Contains xs x → (b : Bool) → test y ≡ b → (Contains xs x → Contains (filter test xs) x) → Contains (cond b (y ∷ filter test xs) (filter test xs)) x
    by (inl e) true u rest = subst (Contains (y ∷ filter test xs)) e (here y (filter test xs))
    by (inl e) false u rest = absurd (cc (sym u ∙ ap test e ∙ t))
    by (inr more) true u rest = there y (filter test xs) x (rest more)
    by (inr more) false u rest = rest more

-- a place of a variable but the clock's
in_places : (clock : Option ℕ) (width place : ℕ) → ForSome clock (λ p. p < width) → place < width → (clock ≡ Some place → ⊥) → Contains (places_but clock width) place
in_places None width place h less apart = let e : 0 + place ≡ place = omega arith in subst (Contains (range_with_len 0 width)) e (in_range 0 width place less)
in_places (Some p) width place h less apart = by (nat_lt place p) refl
  where
    by : (b : Bool) → nat_lt place p ≡ b → Contains (places_but (Some p) width) place
    by true t =
        let low : place < p = grind (arith, nat_tests, t) in
        let e : 0 + place ≡ place = omega arith in
        in_first (range_with_len 0 p) (range_with_len (p + 1) (width - (p + 1))) place (subst (Contains (range_with_len 0 p)) e (in_range 0 p place low))
    by false t =
        let high : p ≤ place = grind (arith, nat_tests, t) in
        let other : p ≢ place = λ same. apart (ap Some same) in
        let above : p + 1 ≤ place = omega (arith, high, other) in
        let e : p + 1 + (place - (p + 1)) ≡ place = omega (arith, above) in
        in_second (range_with_len 0 p) (range_with_len (p + 1) (width - (p + 1))) place
        (subst (Contains (range_with_len (p + 1) (width - (p + 1)))) e (in_range (p + 1) (width - (p + 1)) (place - (p + 1)) (omega (arith, less, above))))

-- a bit of a port but the clock's
port_bit : (clock : Option BitName) (number : ℕ) (vs : List Entry) (i place : ℕ) (e : Entry) → slice_get vs i ≡ Some e → is_port e.1.role ≡ true → place < range_width e.1.range → ForSome (clock_place clock (number + i)) (λ p. p < range_width e.1.range)
    → (clock_place clock (number + i) ≡ Some place → ⊥) → Contains (role_bits is_port clock number vs) (bit_at (number + i) place)
port_bit clock number [] i place e at port less within apart = absurd (cc at)
port_bit clock number (v ∷ vs) zero place e at port less within apart =
    let same : v ≡ e = cc at in
    let n : number + 0 ≡ number = omega arith in
    let own : Contains (places_but (clock_place clock number) (range_width v.1.range)) place =
    in_places (clock_place clock number) (range_width v.1.range) place (subst (λ (x : Entry). ForSome (clock_place clock number) (λ p. p < range_width x.1.range)) (sym same) (subst (λ k. ForSome (clock_place clock k) (λ p. p < range_width e.1.range)) n within))
    (subst (λ (x : Entry). place < range_width x.1.range) (sym same) less) (subst (λ k. clock_place clock k ≡ Some place → ⊥) n apart) in
    let bit : Contains (data_bits clock number v.1) (bit_at number place) = contains_map (bit_at number) (places_but (clock_place clock number) (range_width v.1.range)) place own in
    let passes : is_port v.1.role ≡ true = ap (λ (x : Entry). is_port x.1.role) same ∙ port in
    in_first (if is_port v.1.role then data_bits clock number v.1 else []) (role_bits is_port clock (number + 1) vs) (bit_at (number + 0) place)
    (subst (λ k. Contains (if is_port v.1.role then data_bits clock number v.1 else []) (bit_at k place)) (sym n) (subst (λ b. Contains (if b then data_bits clock number v.1 else []) (bit_at number place)) (sym passes) bit))
port_bit clock number (v ∷ vs) (suc i) place e at port less within apart =
    let n : number + suc i ≡ number + 1 + i = omega arith in
    in_second (if is_port v.1.role then data_bits clock number v.1 else []) (role_bits is_port clock (number + 1) vs) (bit_at (number + suc i) place)
    (subst (λ k. Contains (role_bits is_port clock (number + 1) vs) (bit_at k place)) (sym n)
    (port_bit clock (number + 1) vs i place e at port less (subst (λ k. ForSome (clock_place clock k) (λ p. p < range_width e.1.range)) n within) (subst (λ k. clock_place clock k ≡ Some place → ⊥) n apart)))

-- a bit of a wire that is a net
wire_bit : (names : List BitName) (of number : ℕ) (vs : List Entry) (i place : ℕ) (e : Entry) → slice_get vs i ≡ Some e → place < range_width e.1.range → Contains names (bit_at (of + i) place) → Contains (all_net_bits names of number vs) (bit_at (number + i) place)
wire_bit names of number [] i place e at less h = absurd (cc at)
wire_bit names of number (v ∷ vs) zero place e at less h =
    let same : v ≡ e = cc at in
    let n : number + 0 ≡ number = omega arith in
    let m : of + 0 ≡ of = omega arith in
    let zero_is : 0 + place ≡ place = omega arith in
    let keep : list_any (bit_eq (bit_at of place)) names ≡ true = stands_any (bit_at of place) names (subst (λ k. Contains names (bit_at k place)) m h) in
    let inside : place < range_width v.1.range = subst (λ (x : Entry). place < range_width x.1.range) (sym same) less in
    let own = in_filter (λ q. list_any (bit_eq (bit_at of q)) names) (range_with_len 0 (range_width v.1.range)) place keep (subst (Contains (range_with_len 0 (range_width v.1.range))) zero_is (in_range 0 (range_width v.1.range) place inside)) in
    in_first (net_bits names of number (range_width v.1.range)) (all_net_bits names (of + 1) (number + 1) vs) (bit_at (number + 0) place)
    (subst (λ k. Contains (net_bits names of number (range_width v.1.range)) (bit_at k place)) (sym n) (contains_map (bit_at number) (filter (λ q. list_any (bit_eq (bit_at of q)) names) (range_with_len 0 (range_width v.1.range))) place own))
wire_bit names of number (v ∷ vs) (suc i) place e at less h =
    let n : number + suc i ≡ number + 1 + i = omega arith in
    let m : of + suc i ≡ of + 1 + i = omega arith in
    in_second (net_bits names of number (range_width v.1.range)) (all_net_bits names (of + 1) (number + 1) vs) (bit_at (number + suc i) place)
    (subst (λ k. Contains (all_net_bits names (of + 1) (number + 1) vs) (bit_at k place)) (sym n) (wire_bit names (of + 1) (number + 1) vs i place e at less (subst (λ k. Contains names (bit_at k place)) m h)))

-- a variable of the original by its new number
pub moved_stands : (vs : List Entry) (middle more : List Entry) (p n : ℕ) (x : Entry) → p ≤ length vs → slice_get vs n ≡ Some x → slice_get (take p vs ++ (middle ++ (drop p vs ++ more))) (new_number p (length middle) n) ≡ Some x
moved_stands vs middle more p n x within at = by (nat_lt n p) refl
  where
    front : List Entry
    front = take p vs

    own : List Entry
    own = drop p vs

    whole : front ++ own ≡ vs
    whole = take-append-drop p vs

    long : length front ≡ p
    long = length-take-le p vs within

    by : (b : Bool) → nat_lt n p ≡ b → slice_get (front ++ (middle ++ (own ++ more))) (if b then n else n + length middle) ≡ Some x
    by true t =
        let less : n < p = grind (arith, nat_tests, t) in
        get_front front (middle ++ (own ++ more)) n (omega (arith, long, less)) ∙ sym (get_front front own n (omega (arith, long, less))) ∙ ap (λ ks. slice_get ks n) whole ∙ at
    by false t =
        let past : p ≤ n = grind (arith, nat_tests, t) in
        let j : ℕ = n - p in
        let place : n + length middle ≡ length front + (length middle + j) = omega (arith, long, past) in
        let here : n ≡ length front + j = omega (arith, long, past) in
        let less : n < length vs = slice_get_within vs n x at in
        ap (slice_get (front ++ (middle ++ (own ++ more)))) place ∙ get_back front (middle ++ (own ++ more)) (length middle + j) ∙ get_back middle (own ++ more) j ∙ get_front own more j (omega (arith, less, past, length-drop p vs))
        ∙ sym (get_back front own j) ∙ ap (slice_get (front ++ own)) (sym here) ∙ ap (λ ks. slice_get ks n) whole ∙ at

-- what was laid, with these variables between the ports and the wires
module _ (a b : Named) (h : IsConsistent a) (middle more : List Entry) (bits_between bits_behind : List BitName)
    (variables : b.variables ≡ take (ports_of a.variables) a.variables ++ (middle ++ (drop (ports_of a.variables) a.variables ++ more)))
    (names : b.names ≡ role_bits is_port a.clock 0 (take (ports_of a.variables) a.variables) ++ (bits_between ++ (all_net_bits a.names (ports_of a.variables) (ports_of a.variables + length middle) (drop (ports_of a.variables) a.variables) ++ bits_behind))) where
  abbrev p : ℕ
  p = ports_of a.variables

  abbrev front : List Entry
  front = take p a.variables

  abbrev back : List Entry
  back = drop p a.variables

  abbrev move : BitName → BitName
  move bit = bit_at (new_number p (length middle) bit.variable) bit.place

  is_bit : (bit : BitName) → IsBit a.variables bit → IsBit b.variables (move bit)
  is_bit bit k = record { entry = k.entry; stands = ap (λ vs. slice_get vs (new_number p (length middle) bit.variable)) variables ∙ moved_stands a.variables middle more p bit.variable k.entry (ports_within a.variables) k.stands; place = k.place }

  pub bits_moved : All (λ bit. IsBit b.variables (move bit)) a.names
  bits_moved = λ i d less. is_bit (slice_index_or a.names i d) (h.bits i d less)

  whole : front ++ back ≡ a.variables
  whole = take-append-drop p a.variables

  clock_within : (bit : BitName) (e : Entry) → slice_get a.variables bit.variable ≡ Some e → ForSome (clock_place a.clock bit.variable) (λ q. q < range_width e.1.range)
  clock_within bit e at = λ q is. by q a.clock refl is
    where
      by : (q : ℕ) (o : Option BitName) → a.clock ≡ o → clock_place o bit.variable ≡ Some q → q < range_width e.1.range
      by q None same k = absurd (cc k)
      by q (Some c) same k = on (c.variable == bit.variable) refl k
        where
          on : (t : Bool) → (c.variable == bit.variable) ≡ t → (if t then Some c.place else None) ≡ Some q → q < range_width e.1.range
          on true t l =
              let at_clock : c.variable ≡ bit.variable = grind (arith, nat_tests, t) in
              let place : c.place ≡ q = cc l in
              let stands = (h.clock c same).stands in
              let one : Some stands.entry ≡ Some e = sym stands.stands ∙ ap (slice_get a.variables) at_clock ∙ at in
              let entry : stands.entry ≡ e = cc one in
              subst (λ (x : Entry). q < range_width x.1.range) entry (subst (λ k. k < range_width stands.entry.1.range) place stands.place)
          on false t l = absurd (cc l)

  not_clock : (bit : BitName) → Contains a.names bit → clock_place a.clock bit.variable ≡ Some bit.place → ⊥
  not_clock bit there is = by a.clock refl is
    where
      by : (o : Option BitName) → a.clock ≡ o → clock_place o bit.variable ≡ Some bit.place → ⊥
      by None same k = cc k
      by (Some c) same k = on (c.variable == bit.variable) refl k
        where
          on : (t : Bool) → (c.variable == bit.variable) ≡ t → (if t then Some c.place else None) ≡ Some bit.place → ⊥
          on true t l =
              let variable : c.variable ≡ bit.variable = grind (arith, nat_tests, t) in
              let place : c.place ≡ bit.place = cc l in
              of_all (λ (x : BitName). x ≢ c) a.names bit (recursion_from_All (λ (x : BitName). x ≢ c) a.names (h.apart_from_clock c same)) there (λ i. record { variable = sym variable i; place = sym place i })
          on false t l = cc l

  stands : (bit : BitName) → Contains a.names bit → IsBit a.variables bit → Contains b.names (move bit)
  stands bit c k = subst (λ ns. Contains ns (move bit)) (sym names) (by (nat_lt bit.variable p) refl)
    where
      by : (t : Bool) → nat_lt bit.variable p ≡ t
          → Contains (role_bits is_port a.clock 0 front ++ (bits_between ++ (all_net_bits a.names p (p + length middle) back ++ bits_behind))) (bit_at (if t then bit.variable else bit.variable + length middle) bit.place)
      by true t =
          let less : bit.variable < p = grind (arith, nat_tests, t) in
          let at : slice_get front bit.variable ≡ Some k.entry = sym (get_front front back bit.variable (omega (arith, less, front_long a.variables))) ∙ ap (λ vs. slice_get vs bit.variable) whole ∙ k.stands in
          let port : is_port k.entry.1.role ≡ true = port_at a.variables h.ports_first bit.variable k.entry k.stands less in
          let zero_is : 0 + bit.variable ≡ bit.variable = omega arith in
          let own = port_bit a.clock 0 front bit.variable bit.place k.entry at port k.place (subst (λ n. ForSome (clock_place a.clock n) (λ q. q < range_width k.entry.1.range)) (sym zero_is) (clock_within bit k.entry k.stands))
          (subst (λ n. clock_place a.clock n ≡ Some bit.place → ⊥) (sym zero_is) (not_clock bit c)) in
          in_first (role_bits is_port a.clock 0 front) (bits_between ++ (all_net_bits a.names p (p + length middle) back ++ bits_behind)) (bit_at bit.variable bit.place)
          (subst (λ n. Contains (role_bits is_port a.clock 0 front) (bit_at n bit.place)) zero_is own)
      by false t =
          let past : p ≤ bit.variable = grind (arith, nat_tests, t) in
          let i : ℕ = bit.variable - p in
          let here : length front + i ≡ bit.variable = omega (arith, past, front_long a.variables) in
          let of : p + i ≡ bit.variable = omega (arith, past) in
          let number : p + length middle + i ≡ bit.variable + length middle = omega (arith, past) in
          let at : slice_get back i ≡ Some k.entry = sym (get_back front back i) ∙ ap (slice_get (front ++ back)) here ∙ ap (λ vs. slice_get vs bit.variable) whole ∙ k.stands in
          in_second (role_bits is_port a.clock 0 front) (bits_between ++ (all_net_bits a.names p (p + length middle) back ++ bits_behind)) (bit_at (bit.variable + length middle) bit.place)
          (in_second bits_between (all_net_bits a.names p (p + length middle) back ++ bits_behind) (bit_at (bit.variable + length middle) bit.place)
          (in_first (all_net_bits a.names p (p + length middle) back) bits_behind (bit_at (bit.variable + length middle) bit.place)
          (subst (λ m. Contains (all_net_bits a.names p (p + length middle) back) (bit_at m bit.place)) number
          (wire_bit a.names p (p + length middle) back i bit.place k.entry at k.place (subst (λ m. Contains a.names (bit_at m bit.place)) (sym of) c)))))

  pub all_stand : All (λ bit. Contains b.names (move bit)) a.names
  all_stand = All-from_recursion (λ bit. Contains b.names (move bit)) a.names (to_all (λ bit. Contains b.names (move bit)) a.names (λ bit c. stands bit c (of_all (IsBit a.variables) a.names bit (recursion_from_All (IsBit a.variables) a.names h.bits) c)))

  pub none_clock : IsLaid b → ForSome b.clock (λ c. All (λ bit. move bit ≢ c) a.names)
  none_clock laid = λ c is. All-from_recursion (λ bit. move bit ≢ c) a.names
      (to_all (λ bit. move bit ≢ c) a.names (λ bit k. of_all (λ (x : BitName). x ≢ c) b.names (move bit) (recursion_from_All (λ (x : BitName). x ≢ c) b.names (laid.apart_from_clock c is))
      (stands bit k (of_all (IsBit a.variables) a.names bit (recursion_from_All (IsBit a.variables) a.names h.bits) k))))
