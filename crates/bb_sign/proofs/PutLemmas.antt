-- Words that are put at their nets.
use Rattle.std.proofs.Common.{arith, ◌≡◌, ◌≢◌, ℕ, ◌+◌, ◌<◌, ◌≤◌, ◌==◌, Bool, true, false, List, length, refl, sym, ap, ◌∙◌, nat_lt, get_or, get_or-set_same, get_or-set_other, set, slice_get, Some, Contains}
use Rattle.std.proofs.lemmas.Bool.Decides.{nat_tests}
use Rattle.bb_base.proofs.Contained.{place_of}
use Rattle.std.proofs.lemmas.Option.{slice_get_within, slice_get-get_or}

-- a net has the word at one of its places
abbrev pub HasWord : List ℕ → List ℕ → List ℕ → ℕ → Type 0
HasWord nets words values net = (j : ℕ) × (slice_get nets j ≡ Some net) × (get_or values net 0 ≡ get_or words j 0)

-- those before a place have
abbrev pub ArePut : List ℕ → List ℕ → List ℕ → ℕ → Type 0
ArePut nets words values place = (i net : ℕ) → i < place → slice_get nets i ≡ Some net → HasWord nets words values net

-- one more word is put
pub put_more : (nets words values : List ℕ) (place : ℕ) → place < length nets → get_or nets place 0 < length values → ArePut nets words values place
    → ArePut nets words (set values (get_or nets place 0) (get_or words place 0)) (place + 1)
put_more nets words values place less within put i net near at = by (net == get_or nets place 0) refl
  where
    word : ℕ
    word = get_or words place 0

    new : List ℕ
    new = set values (get_or nets place 0) word

    by : (b : Bool) → (net == get_or nets place 0) ≡ b → HasWord nets words new net
    by true e =
        let same : net ≡ get_or nets place 0 = grind (arith, nat_tests, e) in
        (place, slice_get-get_or nets place 0 less ∙ ap Some (sym same), ap (λ n. get_or new n 0) same ∙ get_or-set_same values (get_or nets place 0) word 0 within)
    by false e = let old = earlier (nat_lt i place) refl in (old.0, old.1, get_or-set_other values (get_or nets place 0) net word 0 other ∙ old.2)
      where
        other : net ≢ get_or nets place 0
        other same = grind (arith, nat_tests, e, same)

        earlier : (b : Bool) → nat_lt i place ≡ b → HasWord nets words values net
        earlier true f = put i net (grind (arith, nat_tests, f)) at
        earlier false f =
            let here : i ≡ place = grind (arith, nat_tests, f, near) in
            let both : Some net ≡ Some (get_or nets place 0) = sym at ∙ (ap (slice_get nets) here ∙ slice_get-get_or nets place 0 less) in
            absurd (other (cc both))

-- all words are put
pub put_all : (nets words values : List ℕ) (place : ℕ) → length nets ≤ place → ArePut nets words values place → (net : ℕ) → Contains nets net → HasWord nets words values net
put_all nets words values place past put net stands = let at = place_of nets net stands in put at.0 net (let small = slice_get_within nets at.0 net at.1 in omega (arith, past, small)) at.1
