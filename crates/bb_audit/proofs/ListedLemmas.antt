-- Signatures as lists of registers and of values.
use Rattle.std.proofs.Common.{◌≡◌, ℕ, List, [], ◌∷◌, map, Option, None, Some, slice_get, refl, sym, ap, ◌∙◌}
use Rattle.std.proofs.lemmas.Option.{slice_get-map}
use Rattle.std.specs.List.{AllZip}
use Rattle.std.specs.Option.{option_map}
use Rattle.bb_forms.specs.declared.signature.Signature.{Signature}
use Rattle.bb_audit.specs.Certified.{IsFirstApart}
use Rattle.bb_audit.specs.Signed.{registers_of, values_of}
use Rattle.bb_alike.proofs.ListLemmas.{AgreeTo}

abbrev pub registers_in : List Signature → List ℕ
registers_in session = map (λ s. s.register) session

abbrev pub values_in : List Signature → List ℕ
values_in session = map (λ s. s.value) session

-- signatures are one where their registers and values are
pub same_signatures : (xs ys : List Signature) → registers_in xs ≡ registers_in ys → values_in xs ≡ values_in ys → xs ≡ ys
same_signatures [] [] r v = refl
same_signatures [] (y ∷ ys) r v = absurd (cc r)
same_signatures (x ∷ xs) [] r v = absurd (cc r)
same_signatures (x ∷ xs) (y ∷ ys) r v =
    let register : x.register ≡ y.register = cc r in
    let value : x.value ≡ y.value = cc v in
    let registers : registers_in xs ≡ registers_in ys = cc r in
    let values : values_in xs ≡ values_in ys = cc v in
    let rest = same_signatures xs ys registers values in
    λ i. record { register = register i; value = value i } ∷ rest i

same_session : (x y : Option (List Signature)) → option_map registers_in x ≡ option_map registers_in y → option_map values_in x ≡ option_map values_in y → x ≡ y
same_session None None r v = refl
same_session None (Some y) r v = absurd (cc r)
same_session (Some x) None r v = absurd (cc r)
same_session (Some x) (Some y) r v =
    let registers : registers_in x ≡ registers_in y = cc r in
    let values : values_in x ≡ values_in y = cc v in
    ap Some (same_signatures x y registers values)

-- and so are sessions of them
pub same_sessions : (xs ys : List (List Signature)) → registers_of xs ≡ registers_of ys → values_of xs ≡ values_of ys → xs ≡ ys
same_sessions [] [] r v = refl
same_sessions [] (y ∷ ys) r v = absurd (cc r)
same_sessions (x ∷ xs) [] r v = absurd (cc r)
same_sessions (x ∷ xs) (y ∷ ys) r v =
    let registers : registers_in x ≡ registers_in y = cc r in
    let values : values_in x ≡ values_in y = cc v in
    let all_registers : registers_of xs ≡ registers_of ys = cc r in
    let all_values : values_of xs ≡ values_of ys = cc v in
    let one = same_signatures x y registers values in
    let rest = same_sessions xs ys all_registers all_values in
    λ i. one i ∷ rest i

-- sessions differ first where registers or values do
pub apart_signed : (xs should : List (List Signature)) (rs vs : List (List ℕ)) (n : ℕ) → registers_of should ≡ rs → values_of should ≡ vs → AgreeTo registers_in xs rs n → AgreeTo values_in xs vs n
    → (slice_get (registers_of xs) n ≡ slice_get rs n → slice_get (values_of xs) n ≡ slice_get vs n → ⊥) → IsFirstApart xs should n
apart_signed xs should rs vs n er ev hr hv apart = record {
  before = λ i less.
      same_session (slice_get xs i) (slice_get should i)
      (sym (slice_get-map registers_in xs i) ∙ hr i less ∙ ap (λ ks. slice_get ks i) (sym er) ∙ slice_get-map registers_in should i)
      (sym (slice_get-map values_in xs i) ∙ hv i less ∙ ap (λ ks. slice_get ks i) (sym ev) ∙ slice_get-map values_in should i);
  apart = λ same.
      apart (slice_get-map registers_in xs n ∙ ap (option_map registers_in) same ∙ sym (slice_get-map registers_in should n) ∙ ap (λ ks. slice_get ks n) er)
      (slice_get-map values_in xs n ∙ ap (option_map values_in) same ∙ sym (slice_get-map values_in should n) ∙ ap (λ ks. slice_get ks n) ev);
}

-- registers and values, one of each for the other, are those of signatures
zipped : (R : ℕ → ℕ → Type 0) (rs vs : List ℕ) → AllZip R rs vs → (session : List Signature) × (registers_in session ≡ rs) × (values_in session ≡ vs)
zipped R [] [] h = ([], refl, refl)
zipped R [] (v ∷ vs) h = absurd h
zipped R (r ∷ rs) [] h = absurd h
zipped R (r ∷ rs) (v ∷ vs) h =
    let rest = zipped R rs vs h.1 in
    let one : Signature = record { register = r; value = v } in
    (one ∷ rest.0, ap (λ ks. r ∷ ks) rest.1, ap (λ ks. v ∷ ks) rest.2)

pub all_zipped : (R : ℕ → ℕ → Type 0) (rs vs : List (List ℕ)) → AllZip (λ r v. AllZip R r v) rs vs → (sessions : List (List Signature)) × (registers_of sessions ≡ rs) × (values_of sessions ≡ vs)
all_zipped R [] [] h = ([], refl, refl)
all_zipped R [] (v ∷ vs) h = absurd h
all_zipped R (r ∷ rs) [] h = absurd h
all_zipped R (r ∷ rs) (v ∷ vs) h =
    let one = zipped R r v h.0 in
    let rest = all_zipped R rs vs h.1 in
    (one.0 ∷ rest.0, λ i. one.1 i ∷ rest.1 i, λ i. one.2 i ∷ rest.2 i)
