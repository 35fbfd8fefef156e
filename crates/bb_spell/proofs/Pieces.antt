-- A text's pieces as they are cut off line by line, and its first bad line.
use Rattle.std.proofs.Common.{◌≡◌, ℕ, ◌+◌, ◌<◌, suc, List, [], ◌∷◌, ◌++◌, ◌&&◌, length, drop, take, Option, Some, None, Bool, true, false, not, eqb, refl, sym, ap, ◌∙◌, arith, if◌then◌else◌, subst, codes, append_assoc}
use Rattle.std.proofs.lemmas.Bool.Decides.{nat_tests}
use Rattle.std.specs.List.{prefix_len, onto_first, list_all}
use Rattle.std.specs.Option.{option_map}
use Rattle.std.proofs.lemmas.List.Splits.{slice_split-cons_yes, slice_split-cons_no, length-slice_split}
use Rattle.bb_spell.specs.Canonical.{with_feed}
use Rattle.bb_spell.specs.TextLines.{is_line_byte, first_line, first_bad, pieces_of}
use Rattle.bb_spell.proofs.Again.{pass_from_all, front_join, back_join}
use Rattle.bb_spell.proofs.Shorter.{found_same}

-- what the pieces are where this is the first line
abbrev Cut : List ℕ → Option (List ℕ × List ℕ) → Type 0
Cut text None = pieces_of text ≡ text ∷ []
Cut text (Some r) = pieces_of text ≡ r.0 ∷ pieces_of r.1

abbrev longer : ℕ → List ℕ × List ℕ → List ℕ × List ℕ
longer b r = (b ∷ r.0, r.1)

-- the first line by its length, where a byte follows it
abbrev cut_at : ℕ → List ℕ → Option (List ℕ × List ℕ)
cut_at n text = if eqb (length (drop n text)) 0 then None else Some (take n text, drop 1 (drop n text))

cut_first : (text : List ℕ) → first_line text ≡ cut_at (prefix_len is_line_byte text) text
unfolding first_line
cut_first text = refl

feed_first : (b : ℕ) (bs : List ℕ) → is_line_byte b ≡ false → first_line (b ∷ bs) ≡ Some ([], bs)
feed_first b bs h =
    let none : prefix_len is_line_byte (b ∷ bs) ≡ 0 = rw h refl in
    let long : eqb (length (b ∷ bs)) 0 ≡ false = grind (arith, nat_tests) in
    cut_first (b ∷ bs) ∙ ap (λ n. cut_at n (b ∷ bs)) none ∙ ap (λ c. if c then None else Some ([], bs)) long

cut_longer : (n b : ℕ) (bs : List ℕ) → cut_at (suc n) (b ∷ bs) ≡ option_map (longer b) (cut_at n bs)
cut_longer n b bs = go (eqb (length (drop n bs)) 0)
  where
    go : (c : Bool) → (if c then None else Some (b ∷ take n bs, drop 1 (drop n bs))) ≡ option_map (longer b) (if c then None else Some (take n bs, drop 1 (drop n bs)))
    go true = refl
    go false = refl

byte_first : (b : ℕ) (bs : List ℕ) → is_line_byte b ≡ true → first_line (b ∷ bs) ≡ option_map (longer b) (first_line bs)
byte_first b bs h =
    let more : prefix_len is_line_byte (b ∷ bs) ≡ suc (prefix_len is_line_byte bs) = rw h (omega arith) in
    cut_first (b ∷ bs) ∙ ap (λ n. cut_at n (b ∷ bs)) more ∙ cut_longer (prefix_len is_line_byte bs) b bs ∙ ap (option_map (longer b)) (sym (cut_first bs))

pub nothing_first : first_line [] ≡ None
unfolding first_line
nothing_first = refl

cut_more : (b : ℕ) (bs : List ℕ) (o : Option (List ℕ × List ℕ)) → eqb b 10 ≡ false → Cut bs o → Cut (b ∷ bs) (option_map (longer b) o)
cut_more b bs None e h = slice_split-cons_no (λ c. eqb c 10) b bs e ∙ ap (onto_first b) h
cut_more b bs (Some r) e h = slice_split-cons_no (λ c. eqb c 10) b bs e ∙ ap (onto_first b) h

cut : (text : List ℕ) → Cut text (first_line text)
cut [] = subst (Cut []) (sym nothing_first) refl
cut (b ∷ bs) = go (eqb b 10) refl (cut bs)
  where
    go : (c : Bool) → eqb b 10 ≡ c → Cut bs (first_line bs) → Cut (b ∷ bs) (first_line (b ∷ bs))
    go true e h = subst (Cut (b ∷ bs)) (sym (feed_first b bs (ap not e))) (slice_split-cons_yes (λ c. eqb c 10) b bs e)
    go false e h = subst (Cut (b ∷ bs)) (sym (byte_first b bs (ap not e))) (cut_more b bs (first_line bs) e h)

-- how a first line and what follows it are parts of the text
abbrev Parted : List ℕ → Option (List ℕ × List ℕ) → Type 0
Parted text None = Unit {0}
Parted text (Some r) = (list_all is_line_byte r.0 ≡ true) × (text ≡ with_feed r.0 ++ r.1)

feed_is : (b : ℕ) → eqb b 10 ≡ true → b ≡ 10
feed_is b h = grind (arith, nat_tests)

parted_more : (b : ℕ) (bs : List ℕ) (o : Option (List ℕ × List ℕ)) → eqb b 10 ≡ false → Parted bs o → Parted (b ∷ bs) (option_map (longer b) o)
parted_more b bs None e h = tt
parted_more b bs (Some r) e h =
    let byte : is_line_byte b ≡ true = ap not e in
    (ap (λ c. c && list_all is_line_byte r.0) byte ∙ h.0, ap (λ z. b ∷ z) h.1)

parted : (text : List ℕ) → Parted text (first_line text)
parted [] = subst (Parted []) (sym nothing_first) tt
parted (b ∷ bs) = go (eqb b 10) refl (parted bs)
  where
    go : (c : Bool) → eqb b 10 ≡ c → Parted bs (first_line bs) → Parted (b ∷ bs) (first_line (b ∷ bs))
    go true e h =
        let here : Parted (b ∷ bs) (Some ([], bs)) = (refl, ap (λ z. z ∷ bs) (feed_is b e)) in
        subst (Parted (b ∷ bs)) (sym (feed_first b bs (ap not e))) here
    go false e h = subst (Parted (b ∷ bs)) (sym (byte_first b bs (ap not e))) (parted_more b bs (first_line bs) e h)

pub first_cut : (text line after : List ℕ) → first_line text ≡ Some (line, after) → (list_all is_line_byte line ≡ true) × (text ≡ with_feed line ++ after)
first_cut text line after f = subst (Parted text) f (parted text)

-- a line is the first piece, and pieces of the rest follow
first_piece : (text line after : List ℕ) → first_line text ≡ Some (line, after) → pieces_of text ≡ line ∷ pieces_of after
first_piece text line after f = subst (Cut text) f (cut text)

last_piece : (text : List ℕ) → first_line text ≡ None → pieces_of text ≡ text ∷ []
last_piece text f = subst (Cut text) f (cut text)

some_piece : (text : List ℕ) → 0 < length (pieces_of text)
some_piece text = omega (arith, length-slice_split (λ b. eqb b 10) text)

line_of : (line after : List ℕ) → list_all is_line_byte line ≡ true → first_line (line ++ (10 ∷ after)) ≡ Some (line, after)
unfolding first_line
line_of line after h =
    let pass = pass_from_all is_line_byte line h in
    let long : eqb (length (10 ∷ after)) 0 ≡ false = grind (arith, nat_tests) in
    rw (front_join is_line_byte line (10 ∷ after) pass refl, back_join is_line_byte line (10 ∷ after) pass refl, long) refl

-- a line with its line feed is the first
pub line_again : (line after : List ℕ) → list_all is_line_byte line ≡ true → first_line (with_feed line ++ after) ≡ Some (line, after)
line_again line after h = ap first_line (append_assoc line (codes "\n") after) ∙ line_of line after h

pub first_same : (text line line' after after' : List ℕ) → first_line text ≡ Some (line, after) → first_line text ≡ Some (line', after') → (line ≡ line') × (after ≡ after')
first_same text line line' after after' a b = found_same line line' after after' (sym a ∙ b)

-- what is found line by line, by what follows a stage and where a text may end
module _ {S : Type 0} (step : S → List ℕ → Option S) (ends : S → List ℕ → Bool) where
  -- a line that is followed by others
  pub bad_step : (stage : S) (lines : ℕ) (line : List ℕ) (pieces : List (List ℕ)) → 0 < length pieces → first_bad step ends (Some stage) lines (line ∷ pieces) ≡ first_bad step ends (step stage line) (lines + 1) pieces
  bad_step stage lines line [] h = absurd (omega arith)
  bad_step stage lines line (p ∷ ps) h = refl

  pub bad_first : (stage : S) (lines : ℕ) (text line after : List ℕ) → first_line text ≡ Some (line, after) → first_bad step ends (Some stage) lines (pieces_of text) ≡ first_bad step ends (step stage line) (lines + 1) (pieces_of after)
  bad_first stage lines text line after f = ap (first_bad step ends (Some stage) lines) (first_piece text line after f) ∙ bad_step stage lines line (pieces_of after) (some_piece after)

  -- the line may stand
  pub bad_goes : (stage next : S) (lines : ℕ) (text line after : List ℕ) (all : Option ℕ) → first_line text ≡ Some (line, after) → step stage line ≡ Some next → first_bad step ends (Some stage) lines (pieces_of text) ≡ all → first_bad step ends (Some next) (lines + 1) (pieces_of after) ≡ all
  bad_goes stage next lines text line after all f s h = sym (bad_first stage lines text line after f ∙ ap (λ o. first_bad step ends o (lines + 1) (pieces_of after)) s) ∙ h

  -- it may not
  pub bad_here : (stage : S) (lines : ℕ) (text line after : List ℕ) (all : Option ℕ) → first_line text ≡ Some (line, after) → step stage line ≡ None → first_bad step ends (Some stage) lines (pieces_of text) ≡ all → all ≡ Some (lines + 1)
  bad_here stage lines text line after all f s h = sym h ∙ bad_first stage lines text line after f ∙ ap (λ o. first_bad step ends o (lines + 1) (pieces_of after)) s

  -- no line is left
  pub at_last : (stage : S) (lines : ℕ) (text : List ℕ) (b : Bool) → first_line text ≡ None → ends stage text ≡ b → first_bad step ends (Some stage) lines (pieces_of text) ≡ (if b then None else Some (lines + 1))
  at_last stage lines text b f e = ap (first_bad step ends (Some stage) lines) (last_piece text f) ∙ ap (λ c. if c then None else Some (lines + 1)) e

  pub bad_missing : (stage : S) (lines : ℕ) (text : List ℕ) (all : Option ℕ) → first_line text ≡ None → ends stage text ≡ false → first_bad step ends (Some stage) lines (pieces_of text) ≡ all → all ≡ Some (lines + 1)
  bad_missing stage lines text all f e h = sym h ∙ at_last stage lines text false f e

  pub bad_nowhere : (stage : S) (lines : ℕ) (text : List ℕ) (all : Option ℕ) → first_line text ≡ None → ends stage text ≡ true → first_bad step ends (Some stage) lines (pieces_of text) ≡ all → all ≡ None
  bad_nowhere stage lines text all f e h = sym h ∙ at_last stage lines text true f e
