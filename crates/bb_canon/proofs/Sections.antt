-- A text of lines, read one line at a time.
use Rattle.std.proofs.Common.{◌≡◌, ℕ, List, [], ◌∷◌, ◌++◌, Some, None, Bool, true, false, sym, ap, ◌∙◌}
use Rattle.std.specs.List.{flat_map, AllByRecursion}
use Rattle.bb_spell.specs.Canonical.{with_feed}
use Rattle.bb_spell.specs.TextLines.{first_line}
use Rattle.bb_canon.specs.Sections.{IsLineOf, NoneFirst, IsSection}
use Rattle.bb_spell.proofs.Pieces.{nothing_first, line_again, first_same}

pub section_goes : (test : List ℕ → Bool) (text : List ℕ) (others : List (List ℕ)) (line after : List ℕ) → IsSection test text others → first_line text ≡ Some (line, after) → test line ≡ true
    → IsSection test after others
section_goes test text others line after h f t = go h.lines others h.all h.stops h.text_is
  where
    go : (ls os : List (List ℕ)) → AllByRecursion (IsLineOf test) ls → NoneFirst test os → text ≡ flat_map with_feed (ls ++ os) → IsSection test after os
    go [] [] all stops e = cc (sym f ∙ ap first_line e ∙ nothing_first)
    go [] (o ∷ os) all stops e =
        let same = first_same text line o after (flat_map with_feed os) f (ap first_line e ∙ line_again o (flat_map with_feed os) stops.0) in
        cc (sym t ∙ ap test same.0 ∙ stops.1)
    go (l ∷ ls) os all stops e =
        let same = first_same text line l after (flat_map with_feed (ls ++ os)) f (ap first_line e ∙ line_again l (flat_map with_feed (ls ++ os)) all.0.clean) in
        record { lines = ls; all = all.1; stops = stops; text_is = same.1 }

pub section_stops : (test : List ℕ → Bool) (text : List ℕ) (others : List (List ℕ)) (line after : List ℕ) → IsSection test text others → first_line text ≡ Some (line, after) → test line ≡ false
    → text ≡ flat_map with_feed others
section_stops test text others line after h f t = go h.lines h.all h.text_is
  where
    go : (ls : List (List ℕ)) → AllByRecursion (IsLineOf test) ls → text ≡ flat_map with_feed (ls ++ others) → text ≡ flat_map with_feed others
    go [] all e = e
    go (l ∷ ls) all e =
        let same = first_same text line l after (flat_map with_feed (ls ++ others)) f (ap first_line e ∙ line_again l (flat_map with_feed (ls ++ others)) all.0.clean) in
        cc (sym t ∙ ap test same.0 ∙ all.0.passes)

pub section_ends : (test : List ℕ → Bool) (text : List ℕ) (others : List (List ℕ)) → IsSection test text others → first_line text ≡ None → text ≡ flat_map with_feed others
section_ends test text others h f = go h.lines h.all h.text_is
  where
    go : (ls : List (List ℕ)) → AllByRecursion (IsLineOf test) ls → text ≡ flat_map with_feed (ls ++ others) → text ≡ flat_map with_feed others
    go [] all e = e
    go (l ∷ ls) all e = cc (sym f ∙ ap first_line e ∙ line_again l (flat_map with_feed (ls ++ others)) all.0.clean)
