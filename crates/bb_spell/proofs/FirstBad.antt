-- The first bad line that is found is the first by the forms of lines, and none is found where all are right.
use Rattle.std.proofs.Common.{◌≡◌, ◌≢◌, ℕ, ◌+◌, ◌≤◌, zero, suc, List, [], ◌∷◌, ◌++◌, length, codes, Option, Some, None, Bool, true, false, ◌↔◌, refl, sym, ap, ◌∙◌, arith, append_assoc, length-append, subst}
use Rattle.std.specs.List.{flat_map}
use Rattle.bb_spell.specs.Canonical.{with_feed}
use Rattle.bb_spell.specs.TextLines.{IsLine, LeadAll, IsLedTo, IsBadBehind, first_line, first_bad, pieces_of}
use Rattle.bb_spell.proofs.Pieces.{line_again, first_same, nothing_first, first_cut, bad_first, at_last}

some_same : {A : Type 0} (x y : A) → ◌≡◌ {A = Option A} (Some x) (Some y) → x ≡ y
some_same x y h = cc

-- where a stage follows a line exactly as the line leads to it, and a text ends exactly behind the last stage
module _ {S : Type 0} (step : S → List ℕ → Option S) (ends : S → List ℕ → Bool) (leads : S → List ℕ → S → Type 0) (last : S) (stage_leads : (from to : S) (line : List ℕ) → step from line ≡ Some to → leads from line to) (leads_stage : (from to : S) (line : List ℕ) → leads from line to → step from line ≡ Some to) (end_only : (stage : S) (text : List ℕ) → ends stage text ≡ true → (stage ≡ last) × (text ≡ [])) (end_there : ends last [] ≡ true) where
  no_line_left : (text line after : List ℕ) → first_line text ≡ None → IsLine line → text ≢ with_feed line ++ after
  no_line_left text line after f clean e = cc (sym f ∙ ap first_line e ∙ line_again line after clean)

  -- one line more before the first bad one
  bad_more : (from next : S) (before number : ℕ) (text line after : List ℕ) → IsLine line → text ≡ with_feed line ++ after → leads from line next → IsBadBehind leads last next (before + 1) number after → IsBadBehind leads last from before number text
  bad_more from next before number text line after clean e h r = record {
    lines = line ∷ r.lines;
    stage = r.stage;
    led = (next, clean, h, r.led);
    rest = r.rest;
    whole = e ∙ ap (λ z. with_feed line ++ z) r.whole ∙ sym (append_assoc (with_feed line) (flat_map with_feed r.lines) r.rest);
    bad = r.bad;
    no_end = r.no_end;
    counted = omega (arith, r.counted);
  }

  bad_here : (from : S) (before number : ℕ) (text : List ℕ) → number ≡ before + 1 → ((line after : List ℕ) (to : S) → IsLine line → text ≡ with_feed line ++ after → leads from line to → ⊥) → (from ≡ last → text ≢ []) → IsBadBehind leads last from before number text
  bad_here from before number text n h k = record { lines = []; stage = from; led = refl; rest = text; whole = refl; bad = h; no_end = k; counted = omega (arith, n) }

  right_more : (from next : S) (text line after : List ℕ) (lines : List (List ℕ)) → text ≡ with_feed line ++ after → after ≡ flat_map with_feed lines → text ≡ flat_map with_feed (line ∷ lines)
  right_more from next text line after lines e h = e ∙ ap (λ z. with_feed line ++ z) h

  abbrev Found : S → ℕ → List ℕ → Option ℕ → Type 0
  Found from before text None = IsLedTo leads from last text
  Found from before text (Some number) = IsBadBehind leads last from before number text

  at_end : (from : S) (before : ℕ) (text : List ℕ) → first_line text ≡ None → Found from before text (first_bad step ends (Some from) before (pieces_of text))
  at_end from before text f = go (ends from text) refl
    where
      go : (b : Bool) → ends from text ≡ b → Found from before text (first_bad step ends (Some from) before (pieces_of text))
      go true e =
          let both = end_only from text e in
          let right : IsLedTo leads from last text = record { lines = []; led = both.0; whole = both.1 } in
          subst (Found from before text) (sym (at_last step ends from before text true f e)) right
      go false e =
          let no_end : from ≡ last → text ≢ [] = λ a b. cc (sym e ∙ (λ i. ends (a i) (b i))) in
          let bad : IsBadBehind leads last from before (before + 1) text = bad_here from before (before + 1) text refl (λ line after to clean h _. no_line_left text line after f clean h) no_end in
          subst (Found from before text) (sym (at_last step ends from before text false f e)) bad

  found_more : (from next : S) (before : ℕ) (text line after : List ℕ) (o : Option ℕ) → IsLine line → text ≡ with_feed line ++ after → leads from line next → Found next (before + 1) after o → Found from before text o
  found_more from next before text line after None clean e h r = record { lines = line ∷ r.lines; led = (next, clean, h, r.led); whole = right_more from next text line after r.lines e r.whole }
  found_more from next before text line after (Some number) clean e h r = bad_more from next before number text line after clean e h r

  stopped : (from : S) (before : ℕ) (text line after : List ℕ) → first_line text ≡ Some (line, after) → step from line ≡ None → IsBadBehind leads last from before (before + 1) text
  stopped from before text line after f s =
      bad_here from before (before + 1) text refl (λ l a to clean e h.
      let same = first_same text line l after a f (ap first_line e ∙ line_again l a clean) in
      cc (sym s ∙ ap (step from) same.0 ∙ leads_stage from to l h)) (λ e t. cc (sym f ∙ ap first_line t ∙ nothing_first))

  abbrev FoundBelow : ℕ → Type 0
  FoundBelow n = (next : S) (before : ℕ) (text : List ℕ) → length text ≤ n → Found next before text (first_bad step ends (Some next) before (pieces_of text))

  line_found : (n : ℕ) (from : S) (before : ℕ) (text line after : List ℕ) → first_line text ≡ Some (line, after) → length text ≤ suc n → FoundBelow n → Found from before text (first_bad step ends (Some from) before (pieces_of text))
  line_found n from before text line after f l rec = go (step from line) refl
    where
      go : (o : Option S) → step from line ≡ o → Found from before text (first_bad step ends (Some from) before (pieces_of text))
      go None s = subst (Found from before text) (sym (bad_first step ends from before text line after f ∙ ap (λ o. first_bad step ends o (before + 1) (pieces_of after)) s)) (stopped from before text line after f s)
      go (Some next) s =
          let c = first_cut text line after f in
          let short : length after ≤ n = omega (arith, ap length c.1, length-append (line ++ codes "\n") after, length-append line (codes "\n")) in
          subst (Found from before text) (sym (bad_first step ends from before text line after f ∙ ap (λ o. first_bad step ends o (before + 1) (pieces_of after)) s))
          (found_more from next before text line after (first_bad step ends (Some next) (before + 1) (pieces_of after)) c.0 c.1 (stage_leads from next line s) (rec next (before + 1) after short))

  found : (fuel : ℕ) → FoundBelow fuel
  found zero from before [] l = at_end from before [] nothing_first
  found zero from before (b ∷ bs) l = absurd (omega arith)
  found (suc n) from before text l = go (first_line text) refl (λ next k t m. found n next k t m)
    where
      go : (o : Option (List ℕ × List ℕ)) → first_line text ≡ o → FoundBelow n → Found from before text (first_bad step ends (Some from) before (pieces_of text))
      go None f rec = at_end from before text f
      go (Some r) f rec = line_found n from before text r.0 r.1 f l rec

  -- and back
  abbrev Blocks : S → List ℕ → Type 0
  Blocks stage rest = (line after : List ℕ) (to : S) → IsLine line → rest ≡ with_feed line ++ after → leads stage line to → ⊥

  bad_at : (stage : S) (before : ℕ) (text : List ℕ) → Blocks stage text → (stage ≡ last → text ≢ []) → first_bad step ends (Some stage) before (pieces_of text) ≡ Some (before + 1)
  bad_at stage before text blocks no_end = go (first_line text) refl
    where
      ending : (b : Bool) → ends stage text ≡ b → first_line text ≡ None → first_bad step ends (Some stage) before (pieces_of text) ≡ Some (before + 1)
      ending true e f = absurd (no_end (end_only stage text e).0 (end_only stage text e).1)
      ending false e f = at_last step ends stage before text false f e

      leading : (line after : List ℕ) (o : Option S) → first_line text ≡ Some (line, after) → step stage line ≡ o → first_bad step ends (Some stage) before (pieces_of text) ≡ Some (before + 1)
      leading line after None f s = bad_first step ends stage before text line after f ∙ ap (λ o. first_bad step ends o (before + 1) (pieces_of after)) s
      leading line after (Some next) f s =
          let c = first_cut text line after f in
          absurd (blocks line after next c.0 c.1 (stage_leads stage next line s))

      go : (o : Option (List ℕ × List ℕ)) → first_line text ≡ o → first_bad step ends (Some stage) before (pieces_of text) ≡ Some (before + 1)
      go None f = ending (ends stage text) refl f
      go (Some r) f = leading r.0 r.1 (step stage r.0) f refl

  -- a line that leads on is passed
  passed : (from next : S) (before : ℕ) (text line after : List ℕ) → IsLine line → leads from line next → text ≡ with_feed line ++ after → first_bad step ends (Some from) before (pieces_of text) ≡ first_bad step ends (Some next) (before + 1) (pieces_of after)
  passed from next before text line after clean h e =
      bad_first step ends from before text line after (ap first_line e ∙ line_again line after clean) ∙ ap (λ o. first_bad step ends o (before + 1) (pieces_of after)) (leads_stage from next line h)

  bad_again : (lines : List (List ℕ)) (from stage : S) (before : ℕ) (text rest : List ℕ) → LeadAll leads from lines stage → text ≡ flat_map with_feed lines ++ rest → Blocks stage rest → (stage ≡ last → rest ≢ []) → first_bad step ends (Some from) before (pieces_of text) ≡ Some (before + length lines + 1)
  bad_again [] from stage before text rest led e blocks no_end =
      (λ i. first_bad step ends (Some (led i)) before (pieces_of (e i))) ∙ bad_at stage before rest blocks no_end ∙ ap Some (omega arith)
  bad_again (line ∷ lines) from stage before text rest led e blocks no_end =
      let after : List ℕ = flat_map with_feed lines ++ rest in
      passed from led.0 before text line after led.1 led.2 (e ∙ append_assoc (with_feed line) (flat_map with_feed lines) rest) ∙ bad_again lines led.0 stage (before + 1) after rest led.3 refl blocks no_end ∙ ap Some (omega arith)

  right_again : (lines : List (List ℕ)) (from : S) (before : ℕ) (text : List ℕ) → LeadAll leads from lines last → text ≡ flat_map with_feed lines → first_bad step ends (Some from) before (pieces_of text) ≡ None
  right_again [] from before text led e = (λ i. first_bad step ends (Some (led i)) before (pieces_of (e i))) ∙ at_last step ends last before [] true nothing_first end_there
  right_again (line ∷ lines) from before text led e = passed from led.0 before text line (flat_map with_feed lines) led.1 led.2 e ∙ right_again lines led.0 (before + 1) (flat_map with_feed lines) led.3 refl

  -- the first bad line is found where there is one, and none where all lines are right
  pub first_bad_is : (start : S) (text : List ℕ) (number : ℕ) → (first_bad step ends (Some start) 0 (pieces_of text) ≡ Some number) ↔ IsBadBehind leads last start 0 number text
  first_bad_is start text number = (λ h. subst (Found start 0 text) h (found (length text) start 0 text (omega arith)), λ r. bad_again r.lines start r.stage 0 text r.rest r.led r.whole r.bad r.no_end ∙ ap Some (sym r.counted))

  pub none_bad_is : (start : S) (text : List ℕ) → (first_bad step ends (Some start) 0 (pieces_of text) ≡ None) ↔ IsLedTo leads start last text
  none_bad_is start text = (λ h. subst (Found start 0 text) h (found (length text) start 0 text (omega arith)), λ r. right_again r.lines start 0 text r.led r.whole)

  -- one line at most is the first bad one, and none where all are right
  pub one_bad : (start : S) (text : List ℕ) (number other : ℕ) → IsBadBehind leads last start 0 number text → IsBadBehind leads last start 0 other text → number ≡ other
  one_bad start text number other h k = some_same number other (sym ((first_bad_is start text number).1 h) ∙ (first_bad_is start text other).1 k)

  pub right_or_bad : (start : S) (text : List ℕ) (number : ℕ) → IsLedTo leads start last text → IsBadBehind leads last start 0 number text → ⊥
  right_or_bad start text number h k = cc (sym ((none_bad_is start text).1 h) ∙ (first_bad_is start text number).1 k)
