-- The kept places of a variable, one after another, and the bits that a port adds at once.
use Rattle.std.proofs.Common.{◌≡◌, ℕ, ◌+◌, ◌<◌, ◌≤◌, suc, not, List, [], ◌∷◌, ◌++◌, map, filter, length, All, Bool, true, false, Option, Some, if◌then◌else◌, refl, sym, ap, subst, ◌∙◌, arith, append_assoc, append-nil, take, ◌⊎◌, inl, inr}
use Rattle.std.proofs.lemmas.List.Elements.{filter-append, All-weaker}
use Rattle.std.proofs.lemmas.List.{length-take}
use Rattle.std.proofs.lemmas.List.Filters.{length-filter_both}
use Rattle.std.specs.List.{range_with_len}
use Rattle.bb_base.specs.Variables.{Entry, is_port, range_width, bit_at, places_but}
use Rattle.bb_base.specs.Named.{Named}
use Rattle.bb_base.specs.Building.{IsEarlier, with_net, port_bits, with_gates}
use Rattle.bb_base.proofs.Lists.{map_join, length_map}
use Rattle.bb_base.specs.Net.{Gate}
use Rattle.bb_net.proofs.PlaceLemmas.{range_push, bit_pushed, still_earlier}
use Rattle.bb_base.specs.declared.variable.Role.{Role}
use Rattle.bb_base.specs.declared.variable.Role.TheVariants.{Input, Output}
use Rattle.bb_base.specs.declared.variable.Variable.{Variable}
use Rattle.bb_assemble.specs.Assembling.{kept_places, kept_bits, with_names, is_clock_bit, Adds}
use Rattle.bb_assemble.proofs.RangeLaws.{filter_range, places_left}

-- the kept places up to the next one
places_push : (keeps : ℕ → Bool) (first n : ℕ) → kept_places keeps first (n + 1) ≡ kept_places keeps first n ++ (if keeps (first + n) then n ∷ [] else [])
places_push keeps first n =
    let next : n + 1 ≡ suc n = omega arith in
    let here : 0 + n ≡ n = omega arith in
    ap (kept_places keeps first) next ∙ ap (filter (λ p. keeps (first + p))) (range_push 0 n ∙ ap (λ k. range_with_len 0 n ++ k ∷ []) here)
    ∙ filter-append (λ p. keeps (first + p)) (range_with_len 0 n) (n ∷ [])

bits_push : (keeps : ℕ → Bool) (number first n : ℕ) → kept_bits keeps number first (n + 1) ≡ kept_bits keeps number first n ++ (if keeps (first + n) then bit_at number n ∷ [] else [])
bits_push keeps number first n =
    ap (map (bit_at number)) (places_push keeps first n) ∙ by (keeps (first + n))
  where
    by : (b : Bool) → map (bit_at number) (kept_places keeps first n ++ (if b then n ∷ [] else [])) ≡ kept_bits keeps number first n ++ (if b then bit_at number n ∷ [] else [])
    by true = map_join (bit_at number) (kept_places keeps first n) (n ∷ [])
    by false = map_join (bit_at number) (kept_places keeps first n) []

-- a place that is kept, and one that isn't
pub place_kept : (old now new : Named) (keeps : ℕ → Bool) (number first n : ℕ) → now ≡ with_names old (kept_bits keeps number first n) → All (IsEarlier number n) now.names → keeps (first + n) ≡ true
    → new ≡ with_net now (bit_at number n) → (new ≡ with_names old (kept_bits keeps number first (n + 1))) × All (IsEarlier number (n + 1)) new.names
place_kept old now new keeps number first n so_far earlier keep added =
    let pushed : new.names ≡ now.names ++ bit_at number n ∷ [] = bit_pushed number n now.names new.names earlier (ap (λ (k : Named). k.names) added) in
    let before : now.names ≡ old.names ++ kept_bits keeps number first n = ap (λ (k : Named). k.names) so_far in
    let next : kept_bits keeps number first (n + 1) ≡ kept_bits keeps number first n ++ bit_at number n ∷ [] =
    bits_push keeps number first n ∙ ap (λ (b : Bool). kept_bits keeps number first n ++ (if b then bit_at number n ∷ [] else [])) keep in
    let names : new.names ≡ old.names ++ kept_bits keeps number first (n + 1) =
    pushed ∙ ap (λ bs. bs ++ bit_at number n ∷ []) before ∙ append_assoc old.names (kept_bits keeps number first n) (bit_at number n ∷ []) ∙ ap (λ bs. old.names ++ bs) (sym next) in
    let rest : new ≡ record now { names = new.names } = added ∙ ap (λ (k : Named). record now { names = k.names }) (sym added) in
    (rest ∙ (λ i. record (so_far i) { names = names i }), still_earlier number n now.names new.names earlier pushed)

pub place_left : (old now : Named) (keeps : ℕ → Bool) (number first n : ℕ) → now ≡ with_names old (kept_bits keeps number first n) → All (IsEarlier number n) now.names → keeps (first + n) ≡ false
    → (now ≡ with_names old (kept_bits keeps number first (n + 1))) × All (IsEarlier number (n + 1)) now.names
place_left old now keeps number first n so_far earlier keep =
    let next : kept_bits keeps number first (n + 1) ≡ kept_bits keeps number first n =
    bits_push keeps number first n ∙ ap (λ (b : Bool). kept_bits keeps number first n ++ (if b then bit_at number n ∷ [] else [])) keep ∙ append-nil (kept_bits keeps number first n) in
    (so_far ∙ ap (with_names old) (sym next), All-weaker (IsEarlier number n) (IsEarlier number (n + 1)) (λ b k. (λ same. omega (arith, k.0 same), k.1)) now.names earlier)

-- the bits of a port that become nets at once are those that are kept
pub port_kept : (keeps : ℕ → Bool) (number first width : ℕ) (v : Variable) (place : Option ℕ) → width ≡ range_width v.range → is_port v.role ≡ true → ((p : ℕ) → place ≡ Some p → p < width)
    → ((p : ℕ) → p < width → keeps (first + p) ≡ not (is_clock_bit place p)) → port_bits number v place ≡ kept_bits keeps number first width
port_kept keeps number first width v place wide port within kept =
    let places : kept_places keeps first width ≡ places_but place width =
    filter_range (λ p. keeps (first + p)) (λ p. not (is_clock_bit place p)) 0 width (λ p low high. kept p (omega arith)) ∙ places_left place width within in
    ap (λ (b : Bool). if b then map (bit_at number) (places_but place (range_width v.range)) else []) port ∙ ap (λ k. map (bit_at number) (places_but place k)) (sym wide) ∙ ap (map (bit_at number)) (sym places)

pub port_role : (r : Role) → (r ≡ Input) ⊎ (r ≡ Output) → is_port r ≡ true
port_role r (inl e) = ap is_port e
port_role r (inr e) = ap is_port e

-- a port is added with its bits
pub port_added : (old new : Named) (keeps : ℕ → Bool) (number first width : ℕ) (e : Entry) (place : Option ℕ) → Adds old new e place (port_bits (length old.variables) e.1 place) → number ≡ length old.variables
    → width ≡ range_width e.1.range → is_port e.1.role ≡ true → ((p : ℕ) → place ≡ Some p → p < width)
    → ((p : ℕ) → p < width → keeps (first + p) ≡ not (is_clock_bit place p)) → Adds old new e place (kept_bits keeps number first width)
port_added old new keeps number first width e place h count wide port within kept =
    subst (Adds old new e place) (ap (λ k. port_bits k e.1 place) (sym count) ∙ port_kept keeps number first width e.1 place wide port within kept) h

-- no more gates than were walked
pub gates_few : (old now : Named) (number : Gate ℕ → Gate ℕ) (test : Gate ℕ → Bool) (gates : List (Gate ℕ)) (i : ℕ) → old.netlist.gates ≡ [] → now ≡ with_gates old (map number (filter test (take i gates))) → length now.netlist.gates ≤ length gates
gates_few old now number test gates i none so_far =
    let all : now.netlist.gates ≡ map number (filter test (take i gates)) = ap (λ (k : Named). k.netlist.gates) so_far ∙ ap (λ gs. gs ++ map number (filter test (take i gates))) none in
    omega (arith, ap length all, length_map number (filter test (take i gates)), length-filter_both test (λ g. not (test g)) (λ g. refl) (take i gates), length-take i gates)
