-- segments turned round: one source more of a segment, and one segment more
use Rattle.std.proofs.Common.{◌≡◌, ℕ, ◌+◌, ◌<◌, zero, suc, List, [], ◌∷◌, ◌++◌, length, map, take, get_or, set, Bool, true, false, cond, eqb, ◌||◌, if◌then◌else◌, refl, sym, ap, ◌∙◌, subst, arith, ◌⊎◌, inl, inr, append-nil, get_or-set_same, get_or-set_other}
use Rattle.std.specs.List.{AllByRecursion, IsDistinct}
use Rattle.std.proofs.lemmas.Bool.{cases_eq, eqb-false, eq-eqb, ne_eqb}
use Rattle.std.proofs.Math.Bool.{or-false}
use Rattle.std.proofs.lemmas.List.Elements.{filter-append}
use Rattle.std.proofs.lemmas.List.Folds.{list_any-append}
use Rattle.std.proofs.lemmas.List.{take_more, length-map, map-set, get_or-map}
use Rattle.std.proofs.lemmas.Map.Keys.{IsDistinct-head, IsDistinct-tail}
use Rattle.bb_base.proofs.Lists.{all_join, map_join}
use Rattle.bb_code.specs.Segments.{IsSegment, lists, listing}
use Rattle.bb_code.specs.Listings.{at_places, AreListings}
use Rattle.bb_code.proofs.OneChoice.{all_at}

-- the place, where a test holds
abbrev pub if_so : {X : Type 0} → Bool → X → List X
if_so b x = if b then x ∷ [] else []

-- whether a segment with one source more lists a source
lists_push : (s : ℕ) (xs : List ℕ) (x : ℕ) → lists s (xs ++ x ∷ []) ≡ (lists s xs || eqb s x)
lists_push s xs x = list_any-append (eqb s) xs (x ∷ []) ∙ ap (λ b. lists s xs || b) (or-false (eqb s x))

-- what stands later in a list of distinct sources is not among those before
new_source : (segment : List ℕ) (i : ℕ) → IsDistinct eqb segment → i < length segment → lists (get_or segment i 0) (take i segment) ≡ false
new_source [] i distinct lt = absurd (omega (arith, lt))
new_source (x ∷ segment) zero distinct lt = refl
new_source (x ∷ segment) (suc i) distinct lt =
    ap (λ b. b || lists (get_or segment i 0) (take i segment)) apart ∙ new_source segment i (IsDistinct-tail eqb x segment distinct) (omega (arith, lt))
  where
    apart : eqb (get_or segment i 0) x ≡ false
    apart = ne_eqb (get_or segment i 0) x (λ e. eqb-false x (get_or segment i 0) (all_at (λ y. eqb x y ≡ false) 0 segment i (IsDistinct-head eqb x segment distinct) (omega (arith, lt))) (sym e))

-- new has the place behind the list of each source that the segment lists, else the old lists
abbrev pub HasPlaces : (old new : List (List ℕ)) (segment : List ℕ) (place : ℕ) → Type 0
HasPlaces old new segment place = (source : ℕ) → source < length old → get_or new source [] ≡ get_or old source [] ++ if_so (lists source segment) place

-- one source more of a segment
pub places_step : (old mid new : List (List ℕ)) (segment : List ℕ) (i place : ℕ) → IsSegment (length old) segment → i < length segment → length mid ≡ length old
    → HasPlaces old mid (take i segment) place → new ≡ set mid (get_or segment i 0) (get_or mid (get_or segment i 0) [] ++ place ∷ [])
    → HasPlaces old new (take (i + 1) segment) place
places_step old mid new segment i place h lt long before e source within =
    go (cases_eq source x)
    ∙ ap (λ b. get_or old source [] ++ if_so b place) (sym (lists_push source (take i segment) x) ∙ ap (lists source) (sym (take_more segment i 0 lt)))
  where
    x : ℕ
    x = get_or segment i 0

    go : (source ≡ get_or segment i 0) ⊎ (source ≡ get_or segment i 0 → ⊥)
        → get_or new source [] ≡ get_or old source [] ++ if_so (lists source (take i segment) || eqb source (get_or segment i 0)) place
    go (inl same) =
        let here : x < length mid = omega (arith, within, long, same) in
        let fresh : lists source (take i segment) ≡ false = ap (λ k. lists k (take i segment)) same ∙ new_source segment i h.distinct lt in
        let was : get_or mid source [] ≡ get_or old source [] = before source within ∙ ap (λ b. get_or old source [] ++ if_so b place) fresh ∙ append-nil (get_or old source []) in
        ap (λ ms. get_or ms source []) e ∙ ap (λ k. get_or (set mid x (get_or mid x [] ++ place ∷ [])) k []) same ∙ get_or-set_same mid x (get_or mid x [] ++ place ∷ []) [] here
        ∙ ap (λ k. get_or mid k [] ++ place ∷ []) (sym same) ∙ ap (λ ys. ys ++ place ∷ []) was
        ∙ ap (λ b. get_or old source [] ++ if_so b place) (sym ((λ j. fresh j || eq-eqb source x same j)))
    go (inr other) =
        ap (λ ms. get_or ms source []) e ∙ get_or-set_other mid x source (get_or mid x [] ++ place ∷ []) [] other ∙ before source within
        ∙ ap (λ b. get_or old source [] ++ if_so b place) (plain (lists source (take i segment)) (eqb source x) (ne_eqb source x other))
      where
        plain : (a b : Bool) → b ≡ false → a ≡ (a || b)
        plain true b s = refl
        plain false b s = sym s

-- the same where the lists are fields of vectors
pub places_written : {V : Type 0} (f : V → List ℕ) (old cur : List V) (pushed was : V) (segment : List ℕ) (i place : ℕ) → IsSegment (length old) segment → i < length segment
    → length cur ≡ length old → HasPlaces (map f old) (map f cur) (take i segment) place → was ≡ get_or cur (get_or segment i 0) was → f pushed ≡ f was ++ place ∷ []
    → HasPlaces (map f old) (map f (set cur (get_or segment i 0) pushed)) (take (i + 1) segment) place
places_written f old cur pushed was segment i place h lt long before read write =
    let x = get_or segment i 0 in
    let here : x < length old = all_at (λ source. source < length old) 0 segment i h.below lt in
    let within : x < length cur = omega (arith, here, long) in
    let same = length-map cur f ∙ long ∙ sym (length-map old f) in
    let was_is = ap f read ∙ sym (get_or-map f cur x was [] within) in
    let written = map-set f cur x pushed ∙ ap (set (map f cur) x) (write ∙ ap (λ ys. ys ++ place ∷ []) was_is) in
    places_step (map f old) (map f cur) (map f (set cur x pushed)) segment i place (subst (λ n. IsSegment n segment) (sym (length-map old f)) h) lt same before written

-- the listings of the first n segments
pub record AreListingsOf (n : ℕ) (segments : List (List ℕ)) (sources : ℕ) (listings : List (List ℕ)) : Type 0 where
  pub one_each : length listings ≡ sources
  pub within : (source : ℕ) → source < sources → AllByRecursion (λ place. place < length segments) (get_or listings source [])
  pub listed : (source : ℕ) → source < sources → at_places segments (get_or listings source []) ≡ listing (take n segments) source

-- the segments that list a source, with one segment more
listing_push : (segments : List (List ℕ)) (segment : List ℕ) (source : ℕ) → listing (segments ++ segment ∷ []) source ≡ listing segments source ++ if_so (lists source segment) segment
listing_push segments segment source = filter-append (lists source) segments (segment ∷ []) ∙ ap (λ last. listing segments source ++ last) (go (lists source segment))
  where
    go : (b : Bool) → cond b (segment ∷ []) [] ≡ if_so b segment
    go true = refl
    go false = refl

-- the listings with one segment more
pub listings_step : (n : ℕ) (segments : List (List ℕ)) (sources : ℕ) (old new : List (List ℕ)) → n < length segments → AreListingsOf n segments sources old
    → length new ≡ length old → HasPlaces old new (get_or segments n []) n → AreListingsOf (n + 1) segments sources new
listings_step n segments sources old new lt h long put = record {
  one_each = long ∙ h.one_each;
  within = λ s l. subst (AllByRecursion (λ place. place < length segments)) (sym (put s (inside s l)))
      (all_join (λ place. place < length segments) (get_or old s []) (if_so (lists s segment) n) (h.within s l) (one (lists s segment)));
  listed = λ s l.
      ap (at_places segments) (put s (inside s l)) ∙ map_join (λ place. get_or segments place []) (get_or old s []) (if_so (lists s segment) n)
      ∙ (λ j. h.listed s l j ++ place_of (lists s segment) j) ∙ sym (listing_push (take n segments) segment s) ∙ ap (λ ss. listing ss s) (sym (take_more segments n [] lt));
}
  where
    segment : List ℕ
    segment = get_or segments n []

    inside : (s : ℕ) → s < sources → s < length old
    inside s l = let e = h.one_each in omega (arith, l, e)

    one : (b : Bool) → AllByRecursion (λ place. place < length segments) (if_so b n)
    one true = (lt, tt)
    one false = tt

    place_of : (b : Bool) → at_places segments (if_so b n) ≡ if_so b (get_or segments n [])
    place_of true = refl
    place_of false = refl

-- a segment that a loop has read
pub segment_at : {V : Type 0} (f : V → List ℕ) (segments : List V) (i : ℕ) (x : V) → i < length segments → x ≡ get_or segments i x → get_or (map f segments) i [] ≡ f x
segment_at f segments i x lt e = get_or-map f segments i x [] lt ∙ ap f (sym e)

pub segment_fits : {V : Type 0} (f : V → List ℕ) (segments : List V) (sources i : ℕ) (x : V) → i < length segments → x ≡ get_or segments i x
    → AllByRecursion (IsSegment sources) (map f segments) → IsSegment sources (f x)
segment_fits f segments sources i x lt e h =
    subst (IsSegment sources) (segment_at f segments i x lt e) (all_at (IsSegment sources) [] (map f segments) i h (subst (λ n. i < n) (sym (length-map segments f)) lt))

pub one_segment_more : {V W : Type 0} (f : V → List ℕ) (g : W → List ℕ) (segments : List V) (old new : List W) (sources i : ℕ) (x : V) (segment : List ℕ) → i < length segments → x ≡ get_or segments i x
    → segment ≡ f x → AreListingsOf i (map f segments) sources (map g old) → length new ≡ length old → HasPlaces (map g old) (map g new) segment i
    → AreListingsOf (i + 1) (map f segments) sources (map g new)
one_segment_more f g segments old new sources i x segment lt e s h long put =
    listings_step i (map f segments) sources (map g old) (map g new) (subst (λ n. i < n) (sym (length-map segments f)) lt) h
    (length-map new g ∙ long ∙ sym (length-map old g)) (subst (λ ys. HasPlaces (map g old) (map g new) ys i) (s ∙ sym (segment_at f segments i x lt e)) put)

-- the places of a source's segments
pub places_of : {V W : Type 0} (f : V → List ℕ) (g : W → List ℕ) (segments : List V) (listings : List W) (sources source : ℕ) (places : W) → source < sources → places ≡ get_or listings source places
    → AreListings (map f segments) sources (map g listings)
    → AllByRecursion (λ place. place < length segments) (g places) × (at_places (map f segments) (g places) ≡ listing (map f segments) source)
places_of f g segments listings sources source places lt e h =
    let many = sym (length-map listings g) ∙ h.one_each in
    let read : get_or (map g listings) source [] ≡ g places = segment_at g listings source places (omega (arith, lt, many)) e in (
      subst (λ n. AllByRecursion (λ place. place < n) (g places)) (length-map segments f) (subst (AllByRecursion (λ place. place < length (map f segments))) read (h.within source lt)),
      ap (at_places (map f segments)) (sym read) ∙ h.listed source lt,
    )
