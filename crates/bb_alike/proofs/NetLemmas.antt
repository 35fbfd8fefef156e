-- Nets of one netlist at the sites of another's.
use Rattle.std.proofs.Common.{arith, ◌≡◌, ◌≢◌, ℕ, zero, suc, ◌+◌, ◌<◌, ◌≤◌, nat_lt, Bool, true, false, not, cond, List, [], ◌∷◌, length, map, AllPairs, Option, None, Some, position, slice_get, get_or, slice_index_or, refl, sym, ap, subst, ◌∙◌, Contains}
use Rattle.std.proofs.lemmas.Bool.Decides.{nat_tests}
use Rattle.std.proofs.lemmas.List.Quantifiers.{position-Some}
use Rattle.std.proofs.lemmas.Option.{slice_get-get_or, slice_get_within, get_or_from_slice_get}
use Rattle.std.proofs.lemmas.Slice.Eq.{bytes_eq-Decides}
use Rattle.std.specs.List.{AllByRecursion, position_or_len}
use Rattle.std.specs.Option.{IfSome}
use Rattle.std.specs.Str.{bytes_eq}
use Rattle.bb_base.proofs.Contained.{contains_at}
use Rattle.bb_base.proofs.Distinct.{one_place}
use Rattle.bb_base.proofs.Lists.{get_map}
use Rattle.bb_base.specs.Variables.{Entry, IsBit, bit_at}
use Rattle.bb_base.specs.declared.variable.BitName.{BitName}
use Rattle.bb_base.specs.Named.{Named, IsNamed, lookup_of, name_of_net}
use Rattle.bb_net.specs.Sites.{Site, site_in, site_of, site_of_bit}
use Rattle.bb_net.proofs.SiteLemmas.{net_by_site, net_bit}
use Rattle.bb_alike.specs.Found.{IsNetAt, AreNetsAt}
use Rattle.bb_alike.proofs.ListLemmas.{image_at}

-- the entry of a net in a table
abbrev pub entry : List (Option ℕ) → ℕ → Option ℕ
entry nets net = slice_index_or nets net None

module _ (a b : Named) (nets : List (Option ℕ)) (hb : IsNamed b) (table : AreNetsAt a b nets) where
  entry_found : (net : ℕ) → net < length a.names → IsNetAt b (site_of a net) (entry nets net)
  entry_found net less = table.each net (entry nets net) (slice_get-get_or nets net None (omega (arith, less, table.long)))

  -- it is the net at the same site
  pub entry_site : (net other : ℕ) → net < length a.names → entry nets net ≡ Some other → site_of a net ≡ site_of b other
  entry_site net other less e = sym ((entry_found net less).some other e).1

  pub entry_within : (net other : ℕ) → net < length a.names → entry nets net ≡ Some other → other < length b.names
  entry_within net other less e = ((entry_found net less).some other e).0

  pub entry_none : (net other : ℕ) → net < length a.names → entry nets net ≡ None → other < length b.names → site_of b other ≡ site_of a net → ⊥
  entry_none net other less e within same = (entry_found net less).none e other within same

  -- and each net at the same site is it
  pub site_entry : (net other : ℕ) → net < length a.names → other < length b.names → site_of a net ≡ site_of b other → entry nets net ≡ Some other
  site_entry net other less within same = by (entry nets net) refl
    where
      by : (found : Option ℕ) → entry nets net ≡ found → found ≡ Some other
      by None e = absurd (entry_none net other less e within (sym same))
      by (Some m) e =
          let there = (entry_found net less).some m e in
          ap Some (net_by_site b hb m other there.0 within (there.1 ∙ same))

  pub entries_sites : (from to : List ℕ) → AllByRecursion (λ net. net < length a.names) from → map (entry nets) from ≡ map Some to → map (site_of a) from ≡ map (site_of b) to
  entries_sites [] [] all e = refl
  entries_sites [] (m ∷ to) all e = absurd (cc e)
  entries_sites (n ∷ from) [] all e = absurd (cc e)
  entries_sites (n ∷ from) (m ∷ to) all e =
      let head : entry nets n ≡ Some m = cc e in
      let tail : map (entry nets) from ≡ map Some to = cc e in
      let here = entry_site n m all.0 head in
      let rest = entries_sites from to all.1 tail in
      λ i. here i ∷ rest i

  pub sites_entries : (from to : List ℕ) → AllByRecursion (λ net. net < length a.names) from → AllByRecursion (λ net. net < length b.names) to → map (site_of a) from ≡ map (site_of b) to → map (entry nets) from ≡ map Some to
  sites_entries [] [] all each e = refl
  sites_entries [] (m ∷ to) all each e = absurd (cc e)
  sites_entries (n ∷ from) [] all each e = absurd (cc e)
  sites_entries (n ∷ from) (m ∷ to) all each e =
      let head : site_of a n ≡ site_of b m = cc e in
      let tail : map (site_of a) from ≡ map (site_of b) to = cc e in
      let here = site_entry n m all.0 each.0 head in
      let rest = sites_entries from to all.1 each.1 tail in
      λ i. here i ∷ rest i

-- what holds of a value that is there
pub if_some : {X : Type 0} (P : X → Type 0) (o : Option X) (x : X) → IfSome o P → o ≡ Some x → P x
if_some P o x h e = let there : IfSome (Some x) P = subst (λ k. IfSome k P) e h in there

-- the variable that a name finds has it
lookup_entry : (n : Named) (name : List ℕ) (number : ℕ) → lookup_of name n ≡ Some number → (v : Entry) × (slice_get n.variables number ≡ Some v) × (v.0 ≡ name)
lookup_entry n name number h =
    let at = position-Some (bytes_eq name) (map (λ v. v.0) n.variables) number name h in
    let names : List (List ℕ) = map (λ v. v.0) n.variables in
    let read : slice_get names number ≡ Some (get_or names number name) = slice_get-get_or names number name at.0 in
    let found = get_map (λ (v : Entry). v.0) n.variables number (get_or names number name) read in
    let same : name ≡ get_or names number name = (bytes_eq-Decides name (get_or names number name)).0 at.1 in
    (found.0, found.1, found.2 ∙ sym same)

place_le : {X : Type 0} (p : X → Bool) (xs : List X) (i : ℕ) (x : X) → slice_get xs i ≡ Some x → p x ≡ true → position_or_len p xs ≤ i
place_le p [] i x h t = cc
place_le p (y ∷ ys) zero x h t =
    let same : y ≡ x = cc in
    let pass : p y ≡ true = ap p same ∙ t in
    rw pass (omega arith)
place_le p (y ∷ ys) (suc i) x h t = go (p y) (place_le p ys i x h t)
  where
    go : (b : Bool) → position_or_len p ys ≤ i → cond (not b) (1 + position_or_len p ys) 0 ≤ suc i
    go true le = omega arith
    go false le = omega arith

found_at : (k n : ℕ) → k < n → cond (nat_lt k n) (Some k) None ≡ Some k
found_at k n h = let t : nat_lt k n ≡ true = grind (arith, nat_tests) in rw t refl

position_found : {X : Type 0} (p : X → Bool) (xs : List X) (i : ℕ) (x : X) → slice_get xs i ≡ Some x → p x ≡ true → (k : ℕ) × (position p xs ≡ Some k)
position_found p xs i x h t =
    let le = place_le p xs i x h t in
    let within = slice_get_within xs i x h in
    (position_or_len p xs, found_at (position_or_len p xs) (length xs) (omega arith))

-- variables with one name are one
same_place : (vs : List Entry) → AllPairs (λ v w. v.0 ≢ w.0) vs → (i j : ℕ) (v w : Entry) → slice_get vs i ≡ Some v → slice_get vs j ≡ Some w → v.0 ≡ w.0 → i ≡ j
same_place vs apart i j v w at there same =
    let first : get_or vs i v ≡ v = get_or_from_slice_get vs i v v at in
    let second : get_or vs j v ≡ w = get_or_from_slice_get vs j w v there in
    one_place (λ (k : Entry). k.0) vs v apart i j (slice_get_within vs i v at) (slice_get_within vs j w there) (ap (λ (k : Entry). k.0) first ∙ same ∙ sym (ap (λ (k : Entry). k.0) second))

-- a variable is found by its name
lookup_is : (b : Named) → AllPairs (λ v w. v.0 ≢ w.0) b.variables → (j : ℕ) (e : Entry) → slice_get b.variables j ≡ Some e → lookup_of e.0 b ≡ Some j
lookup_is b apart j e at =
    let names : List (List ℕ) = map (λ (v : Entry). v.0) b.variables in
    let found = position_found (bytes_eq e.0) names j e.0 (image_at (λ (v : Entry). v.0) b.variables j e at) ((bytes_eq-Decides e.0 e.0).1 refl) in
    let entry = lookup_entry b e.0 found.0 found.1 in
    found.1 ∙ ap Some (same_place b.variables apart found.0 j entry.0 e entry.1 at entry.2)

module _ (a b : Named) (ha : IsNamed a) (hb : IsNamed b) (net : ℕ) (less : net < length a.names) (bit : BitName) (at : slice_get a.names net ≡ Some bit) where
  name_is : name_of_net a net ≡ bit
  name_is = get_or_from_slice_get a.names net bit (bit_at 0 0) at

  own : IsBit a.variables bit
  own = subst (IsBit a.variables) name_is (net_bit a ha net less)

  abbrev own_site : Site
  own_site = record { name = own.entry.0; place = bit.place }

  site_is : site_of a net ≡ own_site
  site_is = ap (site_of_bit a.variables) name_is ∙ ap (λ o. site_in o bit.place) own.stands

  -- another net at this site is a bit of a variable with this name, at this place
  module _ (m : ℕ) (low : m < length b.names) (same : site_of b m ≡ site_of a net) where
    its : IsBit b.variables (name_of_net b m)
    its = net_bit b hb m low

    its_site : site_in (Some its.entry) (name_of_net b m).place ≡ own_site
    its_site = sym (ap (λ o. site_in o (name_of_net b m).place) its.stands) ∙ same ∙ site_is

    its_name : its.entry.0 ≡ own.entry.0
    its_name = ap (λ (s : Site). s.name) its_site

    its_place : (name_of_net b m).place ≡ bit.place
    its_place = ap (λ (s : Site). s.place) its_site

    its_lookup : lookup_of own.entry.0 b ≡ Some (name_of_net b m).variable
    its_lookup = subst (λ name. lookup_of name b ≡ Some (name_of_net b m).variable) its_name (lookup_is b hb.apart (name_of_net b m).variable its.entry its.stands)

    its_bit : (variable : ℕ) → lookup_of own.entry.0 b ≡ Some variable → name_of_net b m ≡ bit_at variable bit.place
    its_bit variable e =
        let both : Some (name_of_net b m).variable ≡ Some variable = sym its_lookup ∙ e in
        let one : (name_of_net b m).variable ≡ variable = cc both in
        λ i. record { variable = one i; place = its_place i }

    its_stands : Contains b.names (name_of_net b m)
    its_stands = contains_at b.names m (name_of_net b m) (slice_get-get_or b.names m (bit_at 0 0) low)

  site_found : (variable m : ℕ) → lookup_of own.entry.0 b ≡ Some variable → slice_get b.names m ≡ Some (bit_at variable bit.place) → site_of b m ≡ site_of a net
  site_found variable m e stands =
      let entry = lookup_entry b own.entry.0 variable e in
      let name : name_of_net b m ≡ bit_at variable bit.place = get_or_from_slice_get b.names m (bit_at variable bit.place) (bit_at 0 0) stands in
      let named : site_in (Some entry.0) bit.place ≡ own_site = (let same = entry.2 in λ i. record { name = same i; place = bit.place }) in
      ap (site_of_bit b.variables) name ∙ ap (λ o. site_in o bit.place) entry.1 ∙ named ∙ sym site_is

  -- the variable with the name of the net's variable has the net's place, or has no net there
  pub net_found : (numbers : List (Option ℕ)) (variable : ℕ) (found : Option ℕ) → numbers ≡ map (λ (v : Entry). lookup_of v.0 b) a.variables → slice_get numbers bit.variable ≡ Some (Some variable)
      → IfSome found (λ m. slice_get b.names m ≡ Some (bit_at variable bit.place)) → (found ≡ None → Contains b.names (bit_at variable bit.place) → ⊥) → IsNetAt b (site_of a net) found
  net_found numbers variable found all read seen unseen = record {
    some = λ m e. let stands = if_some (λ k. slice_get b.names k ≡ Some (bit_at variable bit.place)) found m seen e in (slice_get_within b.names m (bit_at variable bit.place) stands, site_found variable m lookup stands);
    none = λ e m low same. unseen e (subst (Contains b.names) (its_bit m low same variable lookup) (its_stands m low same));
  }
    where
      lookup : lookup_of own.entry.0 b ≡ Some variable
      lookup =
          let both : Some (lookup_of own.entry.0 b) ≡ Some (Some variable) = sym (image_at (λ (v : Entry). lookup_of v.0 b) a.variables bit.variable own.entry own.stands) ∙ ap (λ ks. slice_get ks bit.variable) (sym all) ∙ read in
          cc both

  pub none_found : (numbers : List (Option ℕ)) → numbers ≡ map (λ (v : Entry). lookup_of v.0 b) a.variables → slice_get numbers bit.variable ≡ Some None → IsNetAt b (site_of a net) None
  none_found numbers all read = record {
    some = λ m e. absurd (cc e);
    none = λ e m low same. (let both : Some (name_of_net b m).variable ≡ None = sym (its_lookup m low same) ∙ lookup in absurd (cc both));
  }
    where
      lookup : lookup_of own.entry.0 b ≡ None
      lookup =
          let both : Some (lookup_of own.entry.0 b) ≡ Some None = sym (image_at (λ (v : Entry). lookup_of v.0 b) a.variables bit.variable own.entry own.stands) ∙ ap (λ ks. slice_get ks bit.variable) (sym all) ∙ read in
          cc both
