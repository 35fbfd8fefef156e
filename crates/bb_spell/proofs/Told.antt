-- The first bad line that is found is the first by the forms of lines, and none is found where all are right.
use Rattle.std.proofs.Common.{◌≡◌, ℕ, min, List, [], ◌∷◌, true, ◌↔◌, Option, Some, None, Result, Ok, arith, refl, sym, ap, ◌∙◌, ◌+◌}
use Rattle.std.specs.Option.{option_map}
use Rattle.bb_spell.specs.TextLines.{first_bad, pieces_of}
use Rattle.bb_spell.specs.Forms.{Leads, IsAllRight, IsFirstBadLine, IsBadLine}
use Rattle.bb_spell.specs.Places.{stage_after, may_end, bad_line}
use Rattle.bb_spell.specs.declared.places.Stage.TheVariants.{Head, Declarations, Gates, Flops, End}
use Rattle.bb_spell.specs.declared.places.Stage.{Stage}
use Rattle.bb_spell.proofs.BackLines.{stage_leads}
use Rattle.bb_spell.proofs.Leading.{leads_stage}
use Rattle.std.proofs.lemmas.Bool.Decides.{nat_tests}
use Rattle.bb_spell.proofs.FirstBad as generic

some_same : {A : Type 0} (x y : A) → ◌≡◌ {A = Option A} (Some x) (Some y) → x ≡ y
some_same x y h = cc

-- a text ends only behind the last line
end_only : (stage : Stage) (text : List ℕ) → may_end stage text ≡ true → (stage ≡ End) × (text ≡ [])
end_only Head text h = cc
end_only Declarations text h = cc
end_only Gates text h = cc
end_only (Flops count) text h = cc
end_only End [] h = (refl, refl)
end_only End (b ∷ bs) h = absurd (grind (arith, nat_tests))

pub first_bad_is : (text : List ℕ) (number : ℕ) → (first_bad stage_after may_end (Some Head) 0 (pieces_of text) ≡ Some number) ↔ IsFirstBadLine number text
first_bad_is text number = generic.first_bad_is stage_after may_end Leads End stage_leads leads_stage end_only refl Head text number

pub none_bad_is : (text : List ℕ) → (first_bad stage_after may_end (Some Head) 0 (pieces_of text) ≡ None) ↔ IsAllRight text
none_bad_is text = generic.none_bad_is stage_after may_end Leads End stage_leads leads_stage end_only refl Head text

-- one line at most is the first bad one, and none where all are right
pub one_bad : (text : List ℕ) (number other : ℕ) → IsFirstBadLine number text → IsFirstBadLine other text → number ≡ other
one_bad text number other h k = generic.one_bad stage_after may_end Leads End stage_leads leads_stage end_only refl Head text number other h k

pub right_or_bad : (text : List ℕ) (number : ℕ) → IsAllRight text → IsFirstBadLine number text → ⊥
right_or_bad text number h k = generic.right_or_bad stage_after may_end Leads End stage_leads leads_stage end_only refl Head text number h k

-- what is told
told_by : (text : List ℕ) (line : ℕ) (o : Option ℕ) → first_bad stage_after may_end (Some Head) 0 (pieces_of text) ≡ o → option_map (min 4294967295) o ≡ Some line → IsBadLine line text
told_by text line None h e = cc
told_by text line (Some number) h e = (number, (first_bad_is text number).0 h, sym (some_same (min 4294967295 number) line e))

pub told : (text : List ℕ) (line : ℕ) → bad_line text ≡ Some line → IsBadLine line text
told text line e = told_by text line (first_bad stage_after may_end (Some Head) 0 (pieces_of text)) refl e

right_by : (text : List ℕ) (o : Option ℕ) → first_bad stage_after may_end (Some Head) 0 (pieces_of text) ≡ o → option_map (min 4294967295) o ≡ None → IsAllRight text
right_by text None h e = (none_bad_is text).0 h
right_by text (Some number) h e = cc

pub told_right : (text : List ℕ) → bad_line text ≡ None → IsAllRight text
told_right text e = right_by text (first_bad stage_after may_end (Some Head) 0 (pieces_of text)) refl e

-- the line behind so many
pub number_told : (text : List ℕ) (lines m : ℕ) → m ≡ min 4294967295 (lines + 1) → first_bad stage_after may_end (Some Head) 0 (pieces_of text) ≡ Some (lines + 1) → Some m ≡ bad_line text
number_told text lines m e h = ap Some e ∙ sym (ap (option_map (min 4294967295)) h)

pub ok_same : {A E : Type 0} (a b : A) → ◌≡◌ {A = Result A E} (Ok a) (Ok b) → a ≡ b
ok_same a b h = cc
