-- cosets and spans, one row at a time, and lists of rows that are each outside the span of the rows behind it
use Rattle.std.proofs.Common.{◌≡◌, ℕ, ◌/◌, ◌<◌, List, [], ◌∷◌, ◌++◌, length, Bool, true, false, refl, sym, ap, ◌∙◌, subst, arith, bit_xor, ◌⊎◌, inl, inr, ⊎_elim}
use Rattle.std.proofs.lemmas.Bool.Decides.{nat_tests}
use lib.Bits.{xor_zero_r, xor_assoc, xor_self, xor_comm}
use Rattle.bb_base.specs.Span.{combined, IsInSpan, IsInCoset, IsDependence, IsIndependent}
use Rattle.bb_gf2.proofs.Codes.{low_bit}
use Rattle.bb_gf2.proofs.Combine.{where_true, combined_cons, combined_none, xor_twice}
use Rattle.bb_gf2.proofs.Cosets.{cons_mask}
use Rattle.bb_gf2.proofs.BitLaws.{half_below}

-- a coset of one row more is two cosets
pub coset_split : (r : ℕ) (rows : List ℕ) (v w : ℕ) → IsInCoset (r ∷ rows) v w → IsInCoset rows v w ⊎ IsInCoset rows (bit_xor v r) w
coset_split r rows v w (m, e) = go (low_bit m) (sym (ap (bit_xor v) (combined_cons m r rows)) ∙ e)
  where
    go : (b : Bool) → bit_xor v (bit_xor (where_true b r) (combined (m / 2) rows)) ≡ w → IsInCoset rows v w ⊎ IsInCoset rows (bit_xor v r) w
    go true h = inr (m / 2, xor_assoc v r (combined (m / 2) rows) ∙ h)
    go false h = inl (m / 2, h)

-- a member without the row, and one with it
pub coset_without : (r : ℕ) (rows : List ℕ) (v w : ℕ) → IsInCoset rows v w → IsInCoset (r ∷ rows) v w
coset_without r rows v w (m, e) = let n = cons_mask rows r false m in (n.0, ap (bit_xor v) n.1 ∙ e)

pub coset_with : (r : ℕ) (rows : List ℕ) (v w : ℕ) → IsInCoset rows (bit_xor v r) w → IsInCoset (r ∷ rows) v w
coset_with r rows v w (m, e) = let n = cons_mask rows r true m in (n.0, ap (bit_xor v) n.1 ∙ sym (xor_assoc v r (combined m rows)) ∙ e)

-- the coset of no rows
pub coset_none : (v w : ℕ) → IsInCoset [] v w → v ≡ w
coset_none v w (m, e) = sym (xor_zero_r v) ∙ e

-- a number is in its own coset
pub coset_itself : (rows : List ℕ) (v : ℕ) → IsInCoset rows v v
coset_itself rows v = (0, ap (bit_xor v) (combined_none rows) ∙ xor_zero_r v)

-- being in one coset goes both ways
pub coset_flip : (rows : List ℕ) (v w : ℕ) → IsInCoset rows v w → IsInCoset rows w v
coset_flip rows v w (m, e) =
    (m, ap (λ x. bit_xor x (combined m rows)) (sym e) ∙ xor_assoc v (combined m rows) (combined m rows) ∙ ap (bit_xor v) (xor_self (combined m rows)) ∙ xor_zero_r v)

-- two cosets of a row between others
pub coset_between : (front back : List ℕ) (r v w : ℕ) → IsInCoset (front ++ r ∷ back) v w → IsInCoset (front ++ back) v w ⊎ IsInCoset (front ++ back) (bit_xor v r) w
coset_between [] back r v w h = coset_split r back v w h
coset_between (x ∷ front) back r v w h = go (coset_split x (front ++ r ∷ back) v w h) (coset_between front back r v w) (coset_between front back r (bit_xor v x) w)
  where
    turn : bit_xor (bit_xor v x) r ≡ bit_xor (bit_xor v r) x
    turn = xor_assoc v x r ∙ ap (bit_xor v) (xor_comm x r) ∙ sym (xor_assoc v r x)

    go : IsInCoset (front ++ r ∷ back) v w ⊎ IsInCoset (front ++ r ∷ back) (bit_xor v x) w
        → (IsInCoset (front ++ r ∷ back) v w → IsInCoset (front ++ back) v w ⊎ IsInCoset (front ++ back) (bit_xor v r) w)
        → (IsInCoset (front ++ r ∷ back) (bit_xor v x) w → IsInCoset (front ++ back) (bit_xor v x) w ⊎ IsInCoset (front ++ back) (bit_xor (bit_xor v x) r) w)
        → IsInCoset (x ∷ front ++ back) v w ⊎ IsInCoset (x ∷ front ++ back) (bit_xor v r) w
    go (inl c) f g = ⊎_elim (λ a. inl (coset_without x (front ++ back) v w a)) (λ b. inr (coset_without x (front ++ back) (bit_xor v r) w b)) (f c)
    go (inr c) f g =
        ⊎_elim (λ a. inl (coset_with x (front ++ back) v w a))
        (λ b. inr (coset_with x (front ++ back) (bit_xor v r) w (subst (λ u. IsInCoset (front ++ back) u w) turn b))) (g c)

-- each row is outside the span of those behind it
abbrev pub AreApart : List ℕ → Type 0
AreApart [] = Unit {0}
AreApart (r ∷ rows) = (IsInSpan rows r → ⊥) × AreApart rows

-- a row outside the span of the others may stand anywhere
pub apart_between : (front back : List ℕ) (r : ℕ) → AreApart (front ++ back) → (IsInSpan (front ++ back) r → ⊥) → AreApart (front ++ r ∷ back)
apart_between [] back r h out = (out, h)
apart_between (x ∷ front) back r h out =
    (outside, apart_between front back r h.1 (λ s. out (coset_without x (front ++ back) 0 r s)))
  where
    outside : IsInSpan (front ++ r ∷ back) x → ⊥
    outside s =
        ⊎_elim h.0 (λ c. out (coset_with x (front ++ back) 0 r (coset_flip (front ++ back) r x c))) (coset_between front back r 0 x s)

-- rows that are each outside the span of those behind them are independent
pub independent_from_apart : (rows : List ℕ) → AreApart rows → IsIndependent rows
independent_from_apart [] h m d = absurd (let some = d.nonempty in let within = d.within in omega (arith, some, within))
independent_from_apart (r ∷ rows) h m d = go (low_bit m) refl (sym (combined_cons m r rows) ∙ d.cancels) (independent_from_apart rows h.1 (m / 2))
  where
    go : (b : Bool) → low_bit m ≡ b → bit_xor (where_true b r) (combined (m / 2) rows) ≡ 0 → (IsDependence rows (m / 2) → ⊥) → ⊥
    go true odd e more = h.0 (m / 2, sym (xor_twice r (combined (m / 2) rows)) ∙ ap (bit_xor r) e ∙ xor_zero_r r)
    go false even e more =
        let some = d.nonempty in
        let half : 0 < m / 2 = positive m even some in
        more (record { nonempty = half; within = half_below m (length rows) d.within; cancels = e })
      where
        positive : (m : ℕ) → low_bit m ≡ false → 0 < m → 0 < m / 2
        positive m e h = grind (arith, nat_tests)
