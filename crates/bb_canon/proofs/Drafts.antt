-- What a draft keeps of its builder.
use Rattle.std.proofs.Common.{◌≡◌, ℕ, ◌≤◌, ◌<◌, Bool, true, false, ◌&&◌, zero, suc, List, [], ◌∷◌, ◌++◌, length, map, Some, All, slice_get, refl, sym, ap, ◌∙◌, arith, get_or, subst}
use Rattle.std.specs.List.{list_all, AllByRecursion}
use Rattle.std.proofs.lemmas.Option.{slice_get_within, slice_get-get_or}
use Rattle.std.proofs.lemmas.List.Quantifiers.{position-Some}
use Rattle.std.proofs.lemmas.Slice.Eq.{bytes_eq-Decides}
use Rattle.std.specs.Str.{bytes_eq}
use Rattle.bb_base.proofs.Lists.{get_map}
use Rattle.std.proofs.lemmas.List.Elements.{All-from_recursion, All-weaker, All-push}
use Rattle.bb_base.specs.declared.variable.Variable.{Variable}
use Rattle.bb_base.specs.declared.variable.BitName.{BitName}
use Rattle.bb_base.specs.Variables.{Entry, IsBit, range_width}
use Rattle.bb_base.specs.Named.{Named, lookup_of}

pub names_within : (names : List BitName) (net : ℕ) (bit : BitName) → slice_get names net ≡ Some bit → net < length names
names_within names net bit h = slice_get_within names net bit h

-- nets stay nets
pub nets_more : (nets new : List ℕ) (net old now : ℕ) → old ≤ now → net < now → new ≡ nets ++ net ∷ [] → All (λ m. m < old) nets → All (λ m. m < now) new
nets_more nets new net old now grows within e all =
    let more : All (λ m. m < now) nets = All-weaker (λ m. m < old) (λ m. m < now) (λ m h. omega arith) nets all in
    rw e (All-push (λ m. m < now) nets net more within)

and_true : (b : Bool) → (b && true) ≡ b
and_true true = refl
and_true false = refl

-- where every item passes, all do
both_pass : (a b : Bool) → (a && b) ≡ true → (a ≡ true) × (b ≡ true)
both_pass true b h = (refl, h)
both_pass false b h = cc

each_pass : (p : Entry → Bool) (vs : List Entry) → list_all p vs ≡ true → AllByRecursion (λ v. p v ≡ true) vs
each_pass p [] h = tt
each_pass p (v ∷ vs) h =
    let parts = both_pass (p v) (list_all p vs) h in
    (parts.0, each_pass p vs parts.1)

pub all_pass : (p : Entry → Bool) (vs : List Entry) → list_all p vs ≡ true → All (λ v. p v ≡ true) vs
all_pass p vs h = All-from_recursion (λ v. p v ≡ true) vs (each_pass p vs h)

-- the variable that a name finds
pub lookup_entry : (n : Named) (name : List ℕ) (number : ℕ) → lookup_of name n ≡ Some number → (v : Entry) × (slice_get n.variables number ≡ Some v) × (v.0 ≡ name)
lookup_entry n name number h =
    let at = position-Some (bytes_eq name) (map (λ v. v.0) n.variables) number name h in
    let names : List (List ℕ) = map (λ v. v.0) n.variables in
    let read : slice_get names number ≡ Some (get_or names number name) = slice_get-get_or names number name at.0 in
    let found = get_map (λ (v : Entry). v.0) n.variables number (get_or names number name) read in
    let same : name ≡ get_or names number name = (bytes_eq-Decides name (get_or names number name)).0 at.1 in
    (found.0, found.1, found.2 ∙ sym same)

get_snd : (vs : List Entry) (i : ℕ) (v : Entry) (w : Variable) → slice_get vs i ≡ Some v → w ≡ get_or (map (λ u. u.1) vs) i w → w ≡ v.1
get_snd [] i v w h e = cc
get_snd (u ∷ vs) zero v w h e =
    let same : u ≡ v = cc in
    e ∙ ap (λ z. z.1) same
get_snd (u ∷ vs) (suc i) v w h e = get_snd vs i v w h e

-- a bit that was found stands
pub bit_stands : (m n : Named) (variables : List Variable) (name : List ℕ) (number place : ℕ) (w : Variable) → m ≡ n → variables ≡ map (λ v. v.1) m.variables → lookup_of name m ≡ Some number → w ≡ get_or variables number w
    → place < range_width w.range → IsBit n.variables (record { variable = number; place = place })
bit_stands m n variables name number place w same vs at read within =
    let found = lookup_entry m name number at in
    let here : w ≡ found.0.1 = get_snd m.variables number found.0 w found.1 (read ∙ ap (λ z. get_or z number w) vs) in
    subst (λ k. IsBit k.variables (record { variable = number; place = place })) same (record { entry = found.0; stands = found.1; place = subst (λ v. place < range_width v.range) here within })
