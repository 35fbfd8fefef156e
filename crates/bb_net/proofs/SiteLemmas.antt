-- Nets of a named netlist differ by site and by text, and sites give texts.
use Rattle.std.proofs.Common.{arith, ◌≡◌, ◌≢◌, ℕ, ◌+◌, ◌-◌, ◌<◌, nat_le, ◌==◌, ◌&&◌, Bool, true, false, if◌then◌else◌, List, [], ◌∷◌, length, AllPairs, get_or, slice_get, Option, Some, None, refl, sym, ap, subst, ◌∙◌, zero, suc, Decides}
use Rattle.std.proofs.lemmas.Bool.Decides.{nat_tests, Decides-and, Decides-eqb}
use Rattle.std.proofs.lemmas.List.Elements.{All-get_or}
use Rattle.std.proofs.lemmas.Option.{same_Some, slice_get_within, get_or_from_slice_get}
use Rattle.std.proofs.lemmas.Slice.Eq.{bytes_eq-Decides}
use Rattle.std.specs.Option.{option_map}
use Rattle.std.specs.Str.{bytes_eq}
use Rattle.bb_base.specs.declared.variable.BitName.{BitName}
use Rattle.bb_base.specs.Variables.{Entry, Bit, IsBit, bit_in, bit_of, bit_at, index_at, range_width}
use Rattle.bb_base.specs.Named.{Named, IsNamed, net_text, name_of_net}
use Rattle.bb_net.specs.Sites.{Site, site_in, site_of_bit, site_of}
use Rattle.bb_base.proofs.Distinct.{one_place}

-- two sites are one
abbrev pub site_eq : Site → Site → Bool
site_eq a b = bytes_eq a.name b.name && (a.place == b.place)

pub site_decides : (a b : Site) → Decides (site_eq a b) (a ≡ b)
site_decides a b =
    let both = Decides-and (bytes_eq a.name b.name) (a.place == b.place) (bytes_eq-Decides a.name b.name) (Decides-eqb a.place b.place) in
    (λ e. let parts = both.0 e in λ i. record { name = parts.0 i; place = parts.1 i }, λ e. both.1 (ap (λ (s : Site). s.name) e, ap (λ (s : Site). s.place) e))

-- two indexes are one, and two names of bits
abbrev pub same_index : Option ℕ → Option ℕ → Bool
same_index None None = true
same_index None (Some j) = false
same_index (Some i) None = false
same_index (Some i) (Some j) = i == j

abbrev pub same_text : Bit → Bit → Bool
same_text a b = bytes_eq a.name b.name && same_index a.index b.index

index_decides : (i j : Option ℕ) → Decides (same_index i j) (i ≡ j)
index_decides None None = (λ e. refl, λ e. refl)
index_decides None (Some j) = (λ e. cc, λ e. cc)
index_decides (Some i) None = (λ e. cc, λ e. cc)
index_decides (Some i) (Some j) = (λ e. ap Some ((Decides-eqb i j).0 e), λ e. (Decides-eqb i j).1 (same_Some i j e))

pub text_decides : (a b : Bit) → Decides (same_text a b) (a ≡ b)
text_decides a b =
    let both = Decides-and (bytes_eq a.name b.name) (same_index a.index b.index) (bytes_eq-Decides a.name b.name) (index_decides a.index b.index) in
    (λ e. let parts = both.0 e in λ i. record { name = parts.0 i; index = parts.1 i }, λ e. both.1 (ap (λ (t : Bit). t.name) e, ap (λ (t : Bit). t.index) e))

-- an index is that of one place
one_index : (range : Option (ℕ × ℕ)) (p q : ℕ) → p < range_width range → q < range_width range → option_map (λ r. index_at r p) range ≡ option_map (λ r. index_at r q) range → p ≡ q
one_index None p q low high same = omega arith
one_index (Some r) p q low high same = by (nat_le r.0 r.1) refl (same_Some (index_at r p) (index_at r q) same)
  where
    by : (b : Bool) → nat_le r.0 r.1 ≡ b → (if b then r.0 + p else r.0 - p) ≡ (if b then r.0 + q else r.0 - q) → p ≡ q
    by true e h = omega arith
    by false e h =
        let less : r.1 < r.0 = grind (arith, nat_tests) in
        omega arith

module _ (vs : List Entry) (apart : AllPairs (λ v w. v.0 ≢ w.0) vs) (b c : BitName) (hb : IsBit vs b) (hc : IsBit vs c) where
  -- bits of variables with one name are bits of one variable
  one_variable : hb.entry.0 ≡ hc.entry.0 → b.variable ≡ c.variable
  one_variable names =
      let at_b : get_or vs b.variable hb.entry ≡ hb.entry = get_or_from_slice_get vs b.variable hb.entry hb.entry hb.stands in
      let at_c : get_or vs c.variable hb.entry ≡ hc.entry = get_or_from_slice_get vs c.variable hc.entry hb.entry hc.stands in
      let keys : (get_or vs b.variable hb.entry).0 ≡ (get_or vs c.variable hb.entry).0 = ap (λ (v : Entry). v.0) at_b ∙ names ∙ sym (ap (λ (v : Entry). v.0) at_c) in
      one_place (λ (v : Entry). v.0) vs hb.entry apart b.variable c.variable (slice_get_within vs b.variable hb.entry hb.stands) (slice_get_within vs c.variable hc.entry hc.stands) keys

  -- bits at one site are one
  pub one_site : site_of_bit vs b ≡ site_of_bit vs c → b ≡ c
  one_site same =
      let sites : site_in (Some hb.entry) b.place ≡ site_in (Some hc.entry) c.place = sym (ap (λ o. site_in o b.place) hb.stands) ∙ same ∙ ap (λ o. site_in o c.place) hc.stands in
      let variable = one_variable (ap (λ (t : Site). t.name) sites) in
      let place : b.place ≡ c.place = ap (λ (t : Site). t.place) sites in
      λ i. record { variable = variable i; place = place i }

  -- and so are bits of one name in texts
  pub one_text : bit_of vs b ≡ bit_of vs c → b ≡ c
  one_text same =
      let texts : bit_in (Some hb.entry) b.place ≡ bit_in (Some hc.entry) c.place = sym (ap (λ o. bit_in o b.place) hb.stands) ∙ same ∙ ap (λ o. bit_in o c.place) hc.stands in
      let variable = one_variable (ap (λ (t : Bit). t.name) texts) in
      let entry : hb.entry ≡ hc.entry = same_Some hb.entry hc.entry (sym hb.stands ∙ ap (slice_get vs) variable ∙ hc.stands) in
      let ranges : hb.entry.1.range ≡ hc.entry.1.range = ap (λ (v : Entry). v.1.range) entry in
      let within : c.place < range_width hb.entry.1.range = subst (λ r. c.place < range_width r) (sym ranges) hc.place in
      let indexes : option_map (λ r. index_at r b.place) hb.entry.1.range ≡ option_map (λ r. index_at r c.place) hb.entry.1.range =
      ap (λ (t : Bit). t.index) texts ∙ ap (option_map (λ r. index_at r c.place)) (sym ranges) in
      let place : b.place ≡ c.place = one_index hb.entry.1.range b.place c.place hb.place within indexes in
      λ i. record { variable = variable i; place = place i }

module _ (n : Named) (h : IsNamed n) where
  -- a net's name is a bit
  pub net_bit : (m : ℕ) → m < length n.names → IsBit n.variables (name_of_net n m)
  net_bit m less = All-get_or (IsBit n.variables) n.names m (bit_at 0 0) less h.consistent.bits

  one_name : (m k : ℕ) → m < length n.names → k < length n.names → name_of_net n m ≡ name_of_net n k → m ≡ k
  one_name m k low high same = one_place (λ (b : BitName). b) n.names (bit_at 0 0) h.alike m k low high same

  -- nets at one site are one
  pub net_by_site : (m k : ℕ) → m < length n.names → k < length n.names → site_of n m ≡ site_of n k → m ≡ k
  net_by_site m k low high same = one_name m k low high (one_site n.variables h.apart (name_of_net n m) (name_of_net n k) (net_bit m low) (net_bit k high) same)

  -- and so are nets of one name in texts
  pub net_by_text : (m k : ℕ) → m < length n.names → k < length n.names → net_text n m ≡ net_text n k → m ≡ k
  net_by_text m k low high same = one_name m k low high (one_text n.variables h.apart (name_of_net n m) (name_of_net n k) (net_bit m low) (net_bit k high) same)

-- texts by sites ------------------------------------------------------------

-- the first variable of this name
abbrev pub entry_named : List Entry → List ℕ → Option Entry
entry_named [] name = None
entry_named (v ∷ vs) name = if bytes_eq v.0 name then Some v else entry_named vs name

-- the text's name of the bit at a site
abbrev pub text_at : List Entry → Site → Bit
text_at variables site = bit_in (entry_named variables site.name) site.place

apart_tail : (v : Entry) (vs : List Entry) → AllPairs (λ a b. a.0 ≢ b.0) (v ∷ vs) → AllPairs (λ a b. a.0 ≢ b.0) vs
apart_tail v vs apart = λ i j d less small. apart (suc i) (suc j) d (omega (arith, less)) (omega (arith, small))

entry_found : (vs : List Entry) → AllPairs (λ a b. a.0 ≢ b.0) vs → (i : ℕ) (v : Entry) → slice_get vs i ≡ Some v → entry_named vs v.0 ≡ Some v
entry_found [] apart i v at = absurd (cc at)
entry_found (w ∷ vs) apart zero v at =
    let same : w ≡ v = cc at in
    ap (λ (b : Bool). if b then Some w else entry_named vs v.0) ((bytes_eq-Decides w.0 v.0).1 (ap (λ (x : Entry). x.0) same)) ∙ ap Some same
entry_found (w ∷ vs) apart (suc i) v at = by (bytes_eq w.0 v.0) refl (entry_found vs (apart_tail w vs apart) i v at)
  where
    by : (b : Bool) → bytes_eq w.0 v.0 ≡ b → entry_named vs v.0 ≡ Some v → (if b then Some w else entry_named vs v.0) ≡ Some v
    by true e rest = absurd (apart 0 (suc i) w (omega arith) (omega (arith, slice_get_within vs i v at)) ((bytes_eq-Decides w.0 v.0).0 e ∙ sym (ap (λ (x : Entry). x.0) (get_or_from_slice_get vs i v w at))))
    by false e rest = rest

-- a bit has the text's name of its site
pub text_of_site : (vs : List Entry) → AllPairs (λ a b. a.0 ≢ b.0) vs → (b : BitName) → IsBit vs b → text_at vs (site_of_bit vs b) ≡ bit_of vs b
text_of_site vs apart b is =
    let site : site_of_bit vs b ≡ site_in (Some is.entry) b.place = ap (λ o. site_in o b.place) is.stands in
    let text : bit_of vs b ≡ bit_in (Some is.entry) b.place = ap (λ o. bit_in o b.place) is.stands in
    ap (text_at vs) site ∙ (ap (λ o. bit_in o b.place) (entry_found vs apart b.variable is.entry is.stands) ∙ sym text)
