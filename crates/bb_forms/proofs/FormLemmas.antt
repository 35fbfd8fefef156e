-- A text is cut into lines in one way, so that it has one first bad line, and none where it is a text of the form.
use Rattle.std.proofs.Common.{◌≡◌, ◌≢◌, ◌⊎◌, inl, inr, ℕ, ◌+◌, List, [], ◌∷◌, ◌++◌, length, codes, Some, refl, sym, ap, ◌∙◌, arith, append_assoc, length-append, subst}
use Rattle.std.proofs.lemmas.List.{append-nil}
use Rattle.std.specs.List.{AllByRecursion, flat_map}
use Rattle.bb_base.proofs.Lists.{all_back}
use Rattle.bb_spell.specs.Canonical.{with_feed}
use Rattle.bb_spell.specs.TextLines.{IsLine, first_line}
use Rattle.bb_spell.proofs.Pieces.{line_again, first_same}
use Rattle.bb_forms.specs.Forms.{IsFirstUnformed}

abbrev pub text_of : List (List ℕ) → List ℕ
text_of lines = flat_map with_feed lines

-- the second lines go on where the first stop
record GoesOn (xs ys : List (List ℕ)) (rest other : List ℕ) : Type 0 where
  pub more : List (List ℕ)
  pub is : ys ≡ xs ++ more
  pub rest_is : rest ≡ text_of more ++ other

one_more : (x y : List ℕ) (xs ys : List (List ℕ)) (rest other : List ℕ) → x ≡ y → GoesOn xs ys rest other → GoesOn (x ∷ xs) (y ∷ ys) rest other
one_more x y xs ys rest other e g = record { more = g.more; is = (λ i. sym e i ∷ g.is i); rest_is = g.rest_is }

first_apart : (x : List ℕ) (xs : List (List ℕ)) (rest : List ℕ) → IsLine x → first_line (text_of (x ∷ xs) ++ rest) ≡ Some (x, text_of xs ++ rest)
first_apart x xs rest h = ap first_line (append_assoc (with_feed x) (text_of xs) rest) ∙ line_again x (text_of xs ++ rest) h

compare : (xs ys : List (List ℕ)) (rest other : List ℕ) → AllByRecursion IsLine xs → AllByRecursion IsLine ys → text_of xs ++ rest ≡ text_of ys ++ other → GoesOn xs ys rest other ⊎ GoesOn ys xs other rest
compare [] ys rest other h k e = inl (record { more = ys; is = refl; rest_is = e })
compare (x ∷ xs) [] rest other h k e = inr (record { more = x ∷ xs; is = refl; rest_is = sym e })
compare (x ∷ xs) (y ∷ ys) rest other h k e =
    let same = first_same (text_of (x ∷ xs) ++ rest) x y (text_of xs ++ rest) (text_of ys ++ other) (first_apart x xs rest h.0) (ap first_line e ∙ first_apart y ys other k.0) in
    elim (compare xs ys rest other h.1 k.1 same.1) [
      | inl g ↦ inl (one_more x y xs ys rest other same.0 g)
      | inr g ↦ inr (one_more y x ys xs other rest (sym same.0) g)
    ]

-- what follows isn't a line
no_line : (line : List ℕ) (lines : List (List ℕ)) (rest : List ℕ) → [] ≢ text_of (line ∷ lines) ++ rest
no_line line lines rest e = omega (arith, ap length e, length-append (text_of (line ∷ lines)) rest, length-append (with_feed line) (text_of lines), length-append line (codes "\n"))

module _ (IsForm : List (List ℕ) → Type 0) where
  -- the lines before a first bad one aren't followed by another that begins a text of the form
  no_more : (number : ℕ) (text : List ℕ) (h : IsFirstUnformed IsForm number text) (ys more others : List (List ℕ)) (line : List ℕ) (other : List ℕ) → AllByRecursion IsLine ys → ys ≡ h.lines ++ line ∷ more → h.rest ≡ text_of (line ∷ more) ++ other → IsForm (ys ++ others) → ⊥
  no_more number text h ys more others line other clean is rest form =
      let here : AllByRecursion IsLine (line ∷ more) = all_back IsLine h.lines (line ∷ more) (subst (AllByRecursion IsLine) is clean) in
      let parts : ys ++ others ≡ (h.lines ++ line ∷ []) ++ (more ++ others) = ap (λ z. z ++ others) is ∙ append_assoc h.lines (line ∷ more) others ∙ sym (append_assoc h.lines (line ∷ []) (more ++ others)) in
      h.bad line (text_of more ++ other) here.0 (rest ∙ append_assoc (with_feed line) (text_of more) other) (more ++ others, subst IsForm parts form)

  one_way : (text : List ℕ) (number next : ℕ) (h : IsFirstUnformed IsForm number text) (k : IsFirstUnformed IsForm next text) → GoesOn h.lines k.lines h.rest k.rest → number ≡ next
  one_way text number next h k g = go g.more g.is g.rest_is
    where
      go : (more : List (List ℕ)) → k.lines ≡ h.lines ++ more → h.rest ≡ text_of more ++ k.rest → number ≡ next
      go [] is rest = h.counted ∙ ap (λ z. length z + 1) (sym (append-nil h.lines) ∙ sym is) ∙ sym k.counted
      go (line ∷ more) is rest = absurd (no_more number text h k.lines more k.begin.0 line k.rest k.clean is rest k.begin.1)

  pub one_bad : (text : List ℕ) (number other : ℕ) → IsFirstUnformed IsForm number text → IsFirstUnformed IsForm other text → number ≡ other
  one_bad text number other h k =
      elim (compare h.lines k.lines h.rest k.rest h.clean k.clean (sym h.whole ∙ k.whole)) [
        | inl g ↦ one_way text number other h k g
        | inr g ↦ sym (one_way text other number k h g)
      ]

  -- a text of the form has none
  pub none_bad : (text : List ℕ) (number : ℕ) (lines : List (List ℕ)) → AllByRecursion IsLine lines → IsForm lines → text ≡ text_of lines → IsFirstUnformed IsForm number text → ⊥
  none_bad text number lines clean form is h =
      elim (compare h.lines lines h.rest [] h.clean clean (sym h.whole ∙ is ∙ sym (append-nil (text_of lines)))) [
        | inl g ↦ on g.more g.is g.rest_is
        | inr g ↦ back g.more g.is g.rest_is
      ]
    where
      on : (more : List (List ℕ)) → lines ≡ h.lines ++ more → h.rest ≡ text_of more ++ [] → ⊥
      on [] e rest = h.no_end (subst IsForm (e ∙ append-nil h.lines) form) rest
      on (line ∷ more) e rest = no_more number text h lines more [] line [] clean e rest (subst IsForm (sym (append-nil lines)) form)

      back : (more : List (List ℕ)) → h.lines ≡ lines ++ more → [] ≡ text_of more ++ h.rest → ⊥
      back [] e rest = h.no_end (subst IsForm (sym (append-nil lines) ∙ sym e) form) (sym rest)
      back (line ∷ more) e rest = no_line line more h.rest rest

-- a text has one list of lines
pub same_lines : (xs ys : List (List ℕ)) → AllByRecursion IsLine xs → AllByRecursion IsLine ys → text_of xs ≡ text_of ys → xs ≡ ys
same_lines xs ys h k e =
    elim (compare xs ys [] [] h k (append-nil (text_of xs) ∙ e ∙ sym (append-nil (text_of ys)))) [
      | inl g ↦ one xs ys g.more g.is g.rest_is
      | inr g ↦ sym (one ys xs g.more g.is g.rest_is)
    ]
  where
    one : (us vs more : List (List ℕ)) → vs ≡ us ++ more → [] ≡ text_of more ++ [] → us ≡ vs
    one us vs [] is rest = sym (append-nil us) ∙ sym is
    one us vs (line ∷ more) is rest = absurd (no_line line more [] rest)
