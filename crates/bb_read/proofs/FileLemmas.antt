-- what names hold once some of the files are written
use Rattle.std.proofs.Common.{arith, ◌≡◌, ◌≢◌, ◌⊎◌, inl, inr, ℕ, zero, suc, ◌+◌, List, [], ◌∷◌, ◌++◌, map, take, drop, Some, slice_get, Contains, refl, sym, ap, ◌∙◌, subst}
use Rattle.std.specs.List.{AllByRecursion}
use Rattle.std.proofs.lemmas.List.Elements.{Contains-append_left, Contains-append_right, Contains-append_cases}
use Rattle.bb_base.proofs.Contained.{here, there, either, none_in, of_all, to_all, contains_map}
use Rattle.bb_base.proofs.Lists.{all_join, map_join}
use Rattle.bb_edge.specs.Files.{FileValue}
use Rattle.bb_edge.specs.Told.{Told, Shows, SameBut, KeepsOrStarts}
use Rattle.bb_read.specs.Files.{names_of, AreApart, AreWhole, SameButAll, AreCutShort}

-- these files are written, and no other name has changed
pub record AreWritten (done : List FileValue) (old new : List ℕ → Told) : Type 0 where
  pub whole : AreWhole done new
  pub others : SameButAll (names_of done) old new

-- a name among those of files is one of a file
pub named_by : (files : List FileValue) (name : List ℕ) → Contains (names_of files) name → (f : FileValue) × Contains files f × (f.0 ≡ name)
named_by [] name h = absurd (none_in name h)
named_by (f ∷ files) name h = by (either f.0 (names_of files) name h) (λ k. named_by files name k)
  where
    by : (f.0 ≡ name) ⊎ Contains (names_of files) name → (Contains (names_of files) name → (g : FileValue) × Contains files g × (g.0 ≡ name))
        → (g : FileValue) × Contains (f ∷ files) g × (g.0 ≡ name)
    by (inl e) rest = (f, here f files, e)
    by (inr k) rest = let g = rest k in (g.0, there f files g.0 g.1, g.2)

-- files differ in their names from those before them
pub parts_apart : (front back : List FileValue) → AreApart (front ++ back) → (f g : FileValue) → Contains front f → Contains back g → f.0 ≢ g.0
parts_apart [] back apart f g h k = absurd (none_in f h)
parts_apart (x ∷ front) back apart f g h k = by (either x front f h) (λ m. parts_apart front back apart.1 f g m k)
  where
    by : (x ≡ f) ⊎ Contains front f → (Contains front f → f.0 ≢ g.0) → f.0 ≢ g.0
    by (inl e) rest = subst (λ (y : FileValue). y.0 ≢ g.0) e (of_all (λ (y : FileValue). x.0 ≢ y.0) (front ++ back) g apart.0 (Contains-append_right front back g k))
    by (inr m) rest = rest m

pub back_apart : (front back : List FileValue) → AreApart (front ++ back) → AreApart back
back_apart [] back apart = apart
back_apart (x ∷ front) back apart = back_apart front back apart.1

-- the next file is written too
pub written_more : (done after : List FileValue) (f : FileValue) (old mid new : List ℕ → Told) → AreApart (done ++ f ∷ after) → AreWritten done old mid
    → SameBut f.0 mid new → Shows (new f.0) f.1 → AreWritten (done ++ f ∷ []) old new
written_more done after f old mid new apart written same shown = record {
  whole = all_join (λ (g : FileValue). Shows (new g.0) g.1) done (f ∷ []) (to_all (λ (g : FileValue). Shows (new g.0) g.1) done kept) (shown, tt);
  others = others;
}
  where
    kept : (g : FileValue) → Contains done g → Shows (new g.0) g.1
    kept g h = subst (λ t. Shows t g.1) (sym (same g.0 (parts_apart done (f ∷ after) apart g f h (here f after)))) (of_all (λ (g : FileValue). Shows (mid g.0) g.1) done g written.whole h)

    in_front : (other : List ℕ) → Contains (names_of done) other → Contains (names_of (done ++ f ∷ [])) other
    in_front other h = subst (λ ns. Contains ns other) (sym (map_join (λ (g : FileValue). g.0) done (f ∷ []))) (Contains-append_left (names_of done) (f.0 ∷ []) other h)

    last : Contains (names_of (done ++ f ∷ [])) f.0
    last = contains_map (λ (g : FileValue). g.0) (done ++ f ∷ []) f (Contains-append_right done (f ∷ []) f (here f []))

    others : SameButAll (names_of (done ++ f ∷ [])) old new
    others other out = same other (λ e. out (subst (Contains (names_of (done ++ f ∷ []))) (sym e) last)) ∙ written.others other (λ h. out (in_front other h))

-- the name of a file that isn't written yet is none of those that are
unwritten : (done back : List FileValue) (g : FileValue) → AreApart (done ++ back) → Contains back g → Contains (names_of done) g.0 → ⊥
unwritten done back g apart h k = let f = named_by done g.0 k in parts_apart done back apart f.0 g f.1 h f.2

-- the writing of the next file failed
pub cut_short : (files done after : List FileValue) (f : FileValue) (old mid new : List ℕ → Told) → files ≡ done ++ f ∷ after → AreApart files → AreWritten done old mid
    → SameBut f.0 mid new → KeepsOrStarts (mid f.0) (new f.0) f.1 → AreCutShort files old new
cut_short files done after f old mid new is apart written same partly = record {
  before = done;
  failed = f;
  after = after;
  files_are = is;
  whole = to_all (λ (g : FileValue). Shows (new g.0) g.1) done kept;
  partly = subst (λ t. KeepsOrStarts t (new f.0) f.1) (written.others f.0 (unwritten done (f ∷ after) f parts (here f after))) partly;
  untouched = to_all (λ (g : FileValue). new g.0 ≡ old g.0) after left;
}
  where
    parts : AreApart (done ++ f ∷ after)
    parts = subst AreApart is apart

    kept : (g : FileValue) → Contains done g → Shows (new g.0) g.1
    kept g h = subst (λ t. Shows t g.1) (sym (same g.0 (parts_apart done (f ∷ after) parts g f h (here f after)))) (of_all (λ (g : FileValue). Shows (mid g.0) g.1) done g written.whole h)

    left : (g : FileValue) → Contains after g → new g.0 ≡ old g.0
    left g h =
        let behind = back_apart done (f ∷ after) parts in
        same g.0 (λ e. of_all (λ (y : FileValue). f.0 ≢ y.0) after g behind.0 h (sym e)) ∙ written.others g.0 (unwritten done (f ∷ after) g parts (there f after g h))

-- no name but those of the files has changed
pub cut_others : (files done after : List FileValue) (f : FileValue) (old mid new : List ℕ → Told) → files ≡ done ++ f ∷ after → AreWritten done old mid → SameBut f.0 mid new
    → SameButAll (names_of files) old new
cut_others files done after f old mid new is written same other out =
    same other (λ e. out (subst (λ fs. Contains (names_of fs) other) (sym is) (subst (Contains (names_of (done ++ f ∷ after))) (sym e) at)))
    ∙ written.others other (λ h. out (subst (λ fs. Contains (names_of fs) other) (sym is) (in_front h)))
  where
    at : Contains (names_of (done ++ f ∷ after)) f.0
    at = contains_map (λ (g : FileValue). g.0) (done ++ f ∷ after) f (Contains-append_right done (f ∷ after) f (here f after))

    in_front : Contains (names_of done) other → Contains (names_of (done ++ f ∷ after)) other
    in_front h = subst (λ ns. Contains ns other) (sym (map_join (λ (g : FileValue). g.0) done (f ∷ after))) (Contains-append_left (names_of done) (names_of (f ∷ after)) other h)

-- the files up to one, and that one
pub split_at : (files : List FileValue) (i : ℕ) (f : FileValue) → slice_get files i ≡ Some f → files ≡ take i files ++ f ∷ drop (suc i) files
split_at [] i f e = absurd (cc e)
split_at (g ∷ files) zero f e = let same : g ≡ f = cc in ap (λ (h : FileValue). h ∷ files) same
split_at (g ∷ files) (suc i) f e = ap (λ fs. g ∷ fs) (split_at files i f e)

take_suc : (files : List FileValue) (i : ℕ) (f : FileValue) → slice_get files i ≡ Some f → take (suc i) files ≡ take i files ++ f ∷ []
take_suc [] i f e = absurd (cc e)
take_suc (g ∷ files) zero f e = let same : g ≡ f = cc in ap (λ (h : FileValue). h ∷ []) same
take_suc (g ∷ files) (suc i) f e = ap (λ fs. g ∷ fs) (take_suc files i f e)

pub take_next : (files : List FileValue) (i : ℕ) (f : FileValue) → slice_get files i ≡ Some f → take (i + 1) files ≡ take i files ++ f ∷ []
take_next files i f e =
    let next : suc i ≡ i + 1 = omega arith in
    subst (λ n. take n files ≡ take i files ++ f ∷ []) next (take_suc files i f e)
