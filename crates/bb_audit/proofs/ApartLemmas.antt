-- The first place at which lists differ.
use Rattle.std.proofs.Common.{arith, ◌≡◌, ℕ, ◌<◌, ◌≤◌, nat_lt, Bool, true, false, List, length, map, None, Some, refl, sym, ◌∙◌}
use Rattle.std.proofs.lemmas.Option.{slice_get_past}
use Rattle.std.proofs.lemmas.Bool.Decides.{nat_tests}
use Rattle.bb_base.proofs.Lists.{get_some, length_map}
use Rattle.bb_alike.proofs.ListLemmas.{AgreeTo, image_at, agree_all}
use Rattle.bb_audit.specs.Certified.{IsFirstApart}

-- the first place at which two lists differ: the second has ended
pub apart_long : {X Y : Type 0} (f : X → Y) (xs : List X) (ys : List Y) (n : ℕ) → AgreeTo f xs ys n → n ≡ length ys → length ys < length xs → IsFirstApart (map f xs) ys n
apart_long f xs ys n h all more = record {
  before = h;
  apart = λ same.
      let x = get_some xs n (omega (arith, all, more)) in
      let both : Some (f x.0) ≡ None = sym (image_at f xs n x.0 x.1) ∙ same ∙ slice_get_past ys n (omega (arith, all)) in
      cc both;
}

-- lists that agree up to the end of the second are one where the first is no longer
pub agree_fitting : {X Y : Type 0} (f : X → Y) (xs : List X) (ys : List Y) (n : ℕ) → AgreeTo f xs ys n → length ys ≤ n → length xs ≤ length ys → map f xs ≡ ys
agree_fitting f xs ys n h past short = agree_all f xs ys n h past (by (nat_lt (length xs) (length ys)) refl)
  where
    by : (b : Bool) → nat_lt (length xs) (length ys) ≡ b → length xs ≡ length ys
    by true e =
        let less : length xs < length ys = grind (arith, nat_tests, e) in
        let y = get_some ys (length xs) less in
        let none = slice_get_past (map f xs) (length xs) (omega (arith, length_map f xs)) in
        let both : None ≡ Some y.0 = sym none ∙ h (length xs) (omega (arith, less, past)) ∙ y.1 in
        absurd (cc both)
    by false e = grind (arith, nat_tests, e, short)
