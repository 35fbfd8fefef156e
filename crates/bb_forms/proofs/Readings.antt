-- What a reader knows that goes from stage to stage line by line.
use Rattle.std.proofs.Common.{◌≡◌, ◌≢◌, ℕ, ◌+◌, List, [], ◌∷◌, ◌++◌, Option, Some, None, refl, sym, ap, ◌∙◌, arith, append_assoc, length-append, subst}
use Rattle.std.proofs.lemmas.List.{append-nil}
use Rattle.std.proofs.lemmas.List.Concat.{flat_map-append}
use Rattle.std.specs.List.{AllByRecursion}
use Rattle.bb_base.proofs.Lists.{all_join}
use Rattle.bb_spell.specs.Canonical.{with_feed}
use Rattle.bb_spell.specs.TextLines.{IsLine, first_line}
use Rattle.bb_spell.proofs.Pieces.{line_again, first_same, first_cut, nothing_first}
use Rattle.bb_forms.specs.Forms.{Begin, IsFirstUnformed}
use Rattle.bb_forms.specs.Reading.{stage_behind, HasLed}
use Rattle.bb_forms.proofs.FormLemmas.{text_of, same_lines}

some_same : {A : Type 0} (x y : A) → ◌≡◌ {A = Option A} (Some x) (Some y) → x ≡ y
some_same x y h = cc

-- no line is both the first and missing
pub no_first : (line after rest : List ℕ) → first_line rest ≡ None → IsLine line → rest ≢ with_feed line ++ after
no_first line after rest f clean e = cc (sym f ∙ ap first_line e ∙ line_again line after clean)

module _ {S : Type 0} (step : S → List ℕ → Option S) where
  pub behind_none : (lines : List (List ℕ)) → stage_behind step None lines ≡ None
  behind_none [] = refl
  behind_none (line ∷ lines) = refl

  pub behind_join : (stage : Option S) (xs ys : List (List ℕ)) → stage_behind step stage (xs ++ ys) ≡ stage_behind step (stage_behind step stage xs) ys
  behind_join stage [] ys = refl
  behind_join None (x ∷ xs) ys = sym (behind_none ys)
  behind_join (Some stage) (x ∷ xs) ys = behind_join (step stage x) xs ys

  -- a reader that has read nothing
  pub led_nowhere : (start : S) (text : List ℕ) → HasLed step start start 0 text text
  led_nowhere start text = record { lines = []; led = refl; clean = tt; whole = refl; counted = refl }

  -- one line more
  pub led_on : (start stage next : S) (count : ℕ) (text rest line after : List ℕ) → first_line rest ≡ Some (line, after) → step stage line ≡ Some next → HasLed step start stage count text rest → HasLed step start next (count + 1) text after
  led_on start stage next count text rest line after f s h =
      let cut = first_cut rest line after f in
      record {
        lines = h.lines ++ line ∷ [];
        led = behind_join (Some start) h.lines (line ∷ []) ∙ ap (λ o. stage_behind step o (line ∷ [])) h.led ∙ s;
        clean = all_join IsLine h.lines (line ∷ []) h.clean (cut.0, tt);
        whole = h.whole ∙ ap (λ z. text_of h.lines ++ z) cut.1 ∙ sym (append_assoc (text_of h.lines) (with_feed line) after) ∙ ap (λ z. z ++ after) (sym (flat_map-append with_feed h.lines (line ∷ []) ∙ ap (λ z. text_of h.lines ++ z) (append-nil (with_feed line))));
        counted = omega (arith, h.counted, length-append h.lines (line ∷ []));
      }

  -- where each stage has lines of its own, and a line leads from one stage to another only as their lines say
  module _ (lines_of : S → List (List ℕ)) (Fits : S → Type 0) (says : (from to : S) (line : List ℕ) → Fits from → step from line ≡ Some to → (lines_of to ≡ lines_of from ++ line ∷ []) × Fits to) where
    pub said : (lines : List (List ℕ)) (from to : S) → Fits from → stage_behind step (Some from) lines ≡ Some to → (lines_of to ≡ lines_of from ++ lines) × Fits to
    said [] from to fits h =
        let same : from ≡ to = some_same from to h in
        (ap lines_of (sym same) ∙ sym (append-nil (lines_of from)), subst Fits same fits)
    said (line ∷ lines) from to fits h = go (step from line) refl h (λ next f e. said lines next to f e)
      where
        go : (o : Option S) → step from line ≡ o → stage_behind step o lines ≡ Some to → ((next : S) → Fits next → stage_behind step (Some next) lines ≡ Some to → (lines_of to ≡ lines_of next ++ lines) × Fits to) → (lines_of to ≡ lines_of from ++ line ∷ lines) × Fits to
        go None s e rec = cc (sym (behind_none lines) ∙ e)
        go (Some next) s e rec =
            let here = says from next line fits s in
            let there = rec next here.1 e in
            (there.0 ∙ ap (λ z. z ++ lines) here.0 ∙ append_assoc (lines_of from) (line ∷ []) lines, there.1)

    -- where the lines of each stage begin a text of the form, and those of a value lead to its end
    module _ {V : Type 0} (start : S) (end : V → S) (value_lines : V → List (List ℕ)) (IsFormed : V → Type 0) (fits_start : Fits start) (start_is : lines_of start ≡ []) (end_is : (v : V) → lines_of (end v) ≡ value_lines v)
        (begins : (s : S) → Fits s → (v : V) × (others : List (List ℕ)) × IsFormed v × (lines_of s ++ others ≡ value_lines v)) (ends : (v : V) → IsFormed v → stage_behind step (Some start) (value_lines v) ≡ Some (end v)) where
      abbrev AreLines : List (List ℕ) → Type 0
      AreLines lines = (v : V) × IsFormed v × (lines ≡ value_lines v)

      stage_says : (stage : S) (count : ℕ) (text rest : List ℕ) (h : HasLed step start stage count text rest) → (lines_of stage ≡ h.lines) × Fits stage
      stage_says stage count text rest h =
          let one = said h.lines start stage fits_start h.led in
          (one.0 ∙ ap (λ z. z ++ h.lines) start_is, one.1)

      led_begin : (stage : S) (count : ℕ) (text rest : List ℕ) (h : HasLed step start stage count text rest) → Begin AreLines h.lines
      led_begin stage count text rest h =
          let one = stage_says stage count text rest h in
          let b = begins stage one.1 in
          (b.1, (b.0, b.2, ap (λ z. z ++ b.1) (sym one.0) ∙ b.3))

      -- no text of the form begins with lines that lead nowhere
      nowhere : (lines : List (List ℕ)) → stage_behind step (Some start) lines ≡ None → Begin AreLines lines → ⊥
      nowhere lines none b =
          let led : stage_behind step (Some start) (lines ++ b.0) ≡ None = behind_join (Some start) lines b.0 ∙ ap (λ o. stage_behind step o b.0) none ∙ behind_none b.0 in
          cc (sym (ends b.1.0 b.1.1) ∙ ap (stage_behind step (Some start)) (sym b.1.2) ∙ led)

      pub bad_here : (stage : S) (count : ℕ) (text rest line after : List ℕ) → HasLed step start stage count text rest → first_line rest ≡ Some (line, after) → step stage line ≡ None → IsFirstUnformed AreLines (count + 1) text
      bad_here stage count text rest line after h f s = record {
        lines = h.lines;
        rest = rest;
        whole = h.whole;
        clean = h.clean;
        begin = led_begin stage count text rest h;
        bad = λ other behind clean e b.
            let same = first_same rest line other after behind f (ap first_line e ∙ line_again other behind clean) in
            let none : stage_behind step (Some start) (h.lines ++ other ∷ []) ≡ None = behind_join (Some start) h.lines (other ∷ []) ∙ ap (λ o. stage_behind step o (other ∷ [])) h.led ∙ ap (step stage) (sym same.0) ∙ s in
            nowhere (h.lines ++ other ∷ []) none b;
        no_end = λ form e. cc (sym f ∙ ap first_line e ∙ nothing_first);
        counted = ap (λ n. n + 1) h.counted;
      }

      pub bad_missing : (stage : S) (count : ℕ) (text rest : List ℕ) → HasLed step start stage count text rest → first_line rest ≡ None → ((v : V) → stage ≡ end v → rest ≢ []) → IsFirstUnformed AreLines (count + 1) text
      bad_missing stage count text rest h f open_end = record {
        lines = h.lines;
        rest = rest;
        whole = h.whole;
        clean = h.clean;
        begin = led_begin stage count text rest h;
        bad = λ line after clean e b. no_first line after rest f clean e;
        no_end = λ form. open_end form.0 (some_same stage (end form.0) (sym h.led ∙ ap (stage_behind step (Some start)) form.2 ∙ ends form.0 form.1));
        counted = ap (λ n. n + 1) h.counted;
      }

      -- the end of a value
      pub whole_text : (v : V) (count : ℕ) (text rest : List ℕ) → HasLed step start (end v) count text rest → rest ≡ [] → text ≡ text_of (value_lines v)
      whole_text v count text rest h e =
          let one = stage_says (end v) count text rest h in
          h.whole ∙ ap (λ z. text_of h.lines ++ z) e ∙ append-nil (text_of h.lines) ∙ ap text_of (sym one.0 ∙ end_is v)

      pub end_fits : (v : V) (count : ℕ) (text rest : List ℕ) → HasLed step start (end v) count text rest → Fits (end v)
      end_fits v count text rest h = (stage_says (end v) count text rest h).1

      pub stage_fits : (stage : S) (count : ℕ) (text rest : List ℕ) → HasLed step start stage count text rest → Fits stage
      stage_fits stage count text rest h = (stage_says stage count text rest h).1

      -- a text is that of one value
      pub one_value : ((v w : V) → end v ≡ end w → v ≡ w) → ((v : V) → IsFormed v → AllByRecursion IsLine (value_lines v)) → (v w : V) → IsFormed v → IsFormed w → text_of (value_lines v) ≡ text_of (value_lines w) → v ≡ w
      one_value same clean v w h k e =
          let lines : value_lines v ≡ value_lines w = same_lines (value_lines v) (value_lines w) (clean v h) (clean w k) e in
          same v w (some_same (end v) (end w) (sym (ends v h) ∙ ap (stage_behind step (Some start)) lines ∙ ends w k))
