-- How a builder finds the nets of symbols, and what rows add to it.
use Rattle.std.proofs.Common.{◌≡◌, ◌≢◌, ◌⊎◌, ℕ, zero, suc, ◌+◌, ◌<◌, ◌++◌, List, [], ◌∷◌, length, map, take, Bool, true, Option, None, Some, if◌then◌else◌, slice_get, get_or, refl, sym, ap, ◌∙◌, arith, inl, inr, append_assoc}
use Rattle.std.proofs.lemmas.List.{take_more}
use Rattle.std.proofs.lemmas.List.Folds.{list_any_at}
use Rattle.std.proofs.lemmas.List.Quantifiers.{position-Some}
use Rattle.std.proofs.lemmas.Option.{slice_get_within, get_or_from_slice_get}
use Rattle.std.specs.List.{AllByRecursion, list_any}
use Rattle.std.specs.Option.{ForSome}
use Rattle.std.specs.Str.{bytes_eq}
use Rattle.bb_base.specs.declared.variable.BitName.{BitName}
use Rattle.bb_base.specs.Variables.{Entry, IsBit, range_width, bit_at, bit_eq}
use Rattle.bb_base.proofs.BitLemmas.{found_bit}
use Rattle.bb_base.proofs.Contained.{at_place}
use Rattle.bb_base.proofs.Lists.{all_parts, get_some, length_map, map_join}
use Rattle.bb_base.specs.Net.{Gate, renamed_gate}
use Rattle.bb_base.specs.Faults.{IsGateFault, IsNetCallFault}
use Rattle.bb_base.specs.declared.fault.NetFault.{NetFault}
use Rattle.bb_base.specs.declared.fault.NetFault.TheVariants.{Redeclared, TwoDrivers, Undriven, BadArity, TooMany, NoMemory}
use Rattle.bb_base.specs.Named.{Named, lookup_of}
use Rattle.bb_base.specs.Building.{find_of, with_net, with_gates}
use Rattle.bb_terms.specs.declared.wire.Wire.{Wire}
use Rattle.bb_terms.specs.Wires.{symbol_name}
use Rattle.bb_terms.specs.Numbering.{kept_of, found_net, net_by, net_for, net_at, number_or_zero, wires_in, HasWire, HasDistinctNets}

-- the first bit of a variable that stands
width_some : (r : Option (ℕ × ℕ)) → 0 < range_width r
width_some None = omega arith
width_some (Some r) = omega arith

pub first_bit_stands : (b : Named) (name : List ℕ) (variable : ℕ) → lookup_of name b ≡ Some variable → IsBit b.variables (bit_at variable 0)
first_bit_stands b name variable h =
    let at = position-Some (bytes_eq name) (map (λ (v : Entry). v.0) b.variables) variable [] h in
    let entry = get_some b.variables variable (omega (arith, at.0, length_map (λ (v : Entry). v.0) b.variables)) in
    record { entry = entry.0; stands = entry.1; place = width_some entry.0.1.range }

-- a bit that has a net is not the clock's
pub net_is_no_clock : (b : Named) (bit : BitName) (net : ℕ) → find_of bit b ≡ Some net → HasDistinctNets b → ForSome b.clock (λ c. bit ≢ c)
net_is_no_clock b bit net h d = λ c is same.
    let at = found_bit b.names bit net h in
    let there : get_or b.names net bit ≡ bit = get_or_from_slice_get b.names net bit bit at in
    d.apart_from_clock c is net bit (slice_get_within b.names net bit at) (there ∙ same)

-- and it has one alone
pub one_net : (b : Named) (bit : BitName) (net other : ℕ) → find_of bit b ≡ Some net → HasDistinctNets b → slice_get b.names other ≡ Some bit → other ≡ net
one_net b bit net other h d at =
    let found = found_bit b.names bit net h in
    let here : get_or b.names other bit ≡ bit = get_or_from_slice_get b.names other bit bit at in
    let there : get_or b.names net bit ≡ bit = get_or_from_slice_get b.names net bit bit found in
    by (order other net) (λ less. d.distinct other net bit less (slice_get_within b.names net bit found) (here ∙ sym there)) (λ less. d.distinct net other bit less (slice_get_within b.names other bit at) (there ∙ sym here))
  where
    order : (m n : ℕ) → (m ≡ n) ⊎ ((m < n) ⊎ (n < m))
    order zero zero = inl refl
    order zero (suc n) = inr (inl (omega arith))
    order (suc m) zero = inr (inr (omega arith))
    order (suc m) (suc n) = next (order m n)
      where
        next : (m ≡ n) ⊎ ((m < n) ⊎ (n < m)) → (suc m ≡ suc n) ⊎ ((suc m < suc n) ⊎ (suc n < suc m))
        next (inl e) = inl (ap suc e)
        next (inr (inl less)) = inr (inl (omega (arith, less)))
        next (inr (inr less)) = inr (inr (omega (arith, less)))

    by : {m n : ℕ} → (m ≡ n) ⊎ ((m < n) ⊎ (n < m)) → (m < n → ⊥) → (n < m → ⊥) → m ≡ n
    by (inl e) low high = e
    by (inr (inl less)) low high = absurd (low less)
    by (inr (inr less)) low high = absurd (high less)

pub net_stands : (b : Named) (bit : BitName) (net : ℕ) → find_of bit b ≡ Some net → net < length b.names
net_stands b bit net h = slice_get_within b.names net bit (found_bit b.names bit net h)

-- a bit that has a net needs no other
pub none_made : (b : Named) (bit : BitName) (net : ℕ) → find_of bit b ≡ Some net → with_net b bit ≡ b
none_made b bit net h =
    let at = position-Some (bit_eq bit) b.names net bit h in
    let there : list_any (bit_eq bit) b.names ≡ true = list_any_at (bit_eq bit) b.names net bit at.0 at.1 in
    ap (λ (t : Bool). record b { names = if t then b.names else b.names ++ bit ∷ [] }) there

-- the number of a symbol's net
pub net_is : (b : Named) (kept : List ℕ) (w : Wire) (net : ℕ) → net_for b kept w ≡ Some net → net ≡ net_at b kept w
net_is b kept w net h = sym (ap number_or_zero h)

pub net_below : (b : Named) (kept : List ℕ) (w : Wire) (net : ℕ) → HasWire b kept w → net ≡ net_at b kept w → net < length b.names
net_below b kept w net h e = let same : net ≡ h.net = e ∙ ap number_or_zero h.found in omega (arith, same, h.stands)

-- the net of one of the original's nets, and that of an added symbol
pub kept_net : (b : Named) (kept : List ℕ) (w : Wire) (net : ℕ) → Some net ≡ kept_of w → (h : HasWire b kept w) → slice_get kept net ≡ Some h.net
kept_net b kept w net e h = ap (net_by b kept (symbol_name w)) e ∙ h.found

-- the bit of a name's net, whose variable was found
pub called : (b : Named) (name : List ℕ) (variable net : ℕ) → Some variable ≡ lookup_of name b → found_net b (lookup_of name b) ≡ Some net → find_of (bit_at variable 0) b ≡ Some net
called b name variable net e h = ap (found_net b) e ∙ h

-- a builder refuses no bit that has a net, and no gate of the right number of inputs
pub only_memory_of_net : (f : NetFault) → IsNetCallFault f → ((count limit : ℕ) → f ≡ TooMany count limit → ⊥) → f ≡ NoMemory
only_memory_of_net (Redeclared v) only h = absurd only
only_memory_of_net (TwoDrivers net) only h = absurd only
only_memory_of_net (Undriven net) only h = absurd only
only_memory_of_net (BadArity gate) only h = absurd only
only_memory_of_net (TooMany count limit) only h = absurd (h count limit refl)
only_memory_of_net NoMemory only h = refl

pub only_memory_of_gate : (f : NetFault) → IsGateFault f → ((gate : ℕ) → f ≡ BadArity gate → ⊥) → f ≡ NoMemory
only_memory_of_gate (Redeclared v) only h = absurd only
only_memory_of_gate (TwoDrivers net) only h = absurd only
only_memory_of_gate (Undriven net) only h = absurd only
only_memory_of_gate (BadArity gate) only h = absurd (h gate refl)
only_memory_of_gate (TooMany count limit) only h = absurd only
only_memory_of_gate NoMemory only h = refl

-- one more image
pub mapped_more : {X Y : Type 0} (f : X → Y) (xs : List X) (i : ℕ) (x : X) (ys new : List Y) (y : Y) → slice_get xs i ≡ Some x → ys ≡ map f (take i xs) → new ≡ ys ++ y ∷ [] → y ≡ f x → new ≡ map f (take (i + 1) xs)
mapped_more f xs i x ys new y at so_far pushed e =
    let front : take (i + 1) xs ≡ take i xs ++ x ∷ [] = take_more xs i x (slice_get_within xs i x at) ∙ ap (λ k. take i xs ++ k ∷ []) (get_or_from_slice_get xs i x x at) in
    pushed ∙ (λ k. so_far k ++ e k ∷ []) ∙ sym (ap (map f) front ∙ map_join f (take i xs) (x ∷ []))

-- gates change neither names nor variables
pub still_distinct : (b : Named) (gates : List (Gate ℕ)) → HasDistinctNets b → HasDistinctNets (with_gates b gates)
still_distinct b gates h = record { few = h.few; distinct = h.distinct; apart_from_clock = h.apart_from_clock }

pub still_stands : (b : Named) (gates : List (Gate ℕ)) (kept : List ℕ) (w : Wire) → HasWire b kept w → HasWire (with_gates b gates) kept w
still_stands b gates kept w h = record { net = h.net; found = h.found; stands = h.stands }

pub all_still_stand : (b : Named) (gates : List (Gate ℕ)) (kept : List ℕ) (ws : List Wire) → AllByRecursion (HasWire b kept) ws → AllByRecursion (HasWire (with_gates b gates) kept) ws
all_still_stand b gates kept [] h = tt
all_still_stand b gates kept (w ∷ ws) h = (still_stands b gates kept w h.0, all_still_stand b gates kept ws h.1)

-- the gate of one more row
pub row_added : (b now new : Named) (kept : List ℕ) (rows : List (Gate Wire)) (i : ℕ) (row : Gate Wire) → slice_get rows i ≡ Some row → now ≡ with_gates b (map (renamed_gate (net_at b kept)) (take i rows))
    → new ≡ with_gates now (renamed_gate (net_at now kept) row ∷ []) → new ≡ with_gates b (map (renamed_gate (net_at b kept)) (take (i + 1) rows))
row_added b now new kept rows i row at so_far added =
    let f : Gate Wire → Gate ℕ = renamed_gate (net_at b kept) in
    let old : List (Gate ℕ) = map f (take i rows) in
    let all : old ++ f row ∷ [] ≡ map f (take (i + 1) rows) = mapped_more f rows i row old (old ++ f row ∷ []) (f row) at refl refl refl in
    added ∙ ap (λ n. with_gates n (renamed_gate (net_at n kept) row ∷ [])) so_far ∙ ap (λ gates. record b { netlist = record b.netlist { gates = gates } }) (append_assoc b.netlist.gates old (f row ∷ [])) ∙ ap (with_gates b) all

-- the rows' symbols, row by row
pub row_stands : (P : Wire → Type 0) (rows : List (Gate Wire)) (i : ℕ) (row : Gate Wire) → AllByRecursion P (wires_in rows) → slice_get rows i ≡ Some row → AllByRecursion P (row.out ∷ row.ins)
row_stands P rows i row h at = at_place (λ g. AllByRecursion P (g.out ∷ g.ins)) rows i row (all_parts P (λ g. g.out ∷ g.ins) rows h) at
