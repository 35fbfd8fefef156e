-- Gates that stand in an order, where some are left out.
use Rattle.std.proofs.Common.{◌≡◌, ◌≢◌, ℕ, ◌+◌, ◌<◌, ◌≤◌, Bool, true, false, List, [], ◌∷◌, ◌++◌, length, map, filter, cond, refl, sym, ap, ◌∙◌, slice_get, Option, None, Some, get_or, drop, Contains}
use Rattle.std.proofs.lemmas.List.{append-nil, append_assoc, drop_all, drop_more}
use Rattle.std.proofs.lemmas.List.Elements.{All-from_recursion}
use Rattle.std.proofs.lemmas.Option.{slice_get-get_or}
use Rattle.std.specs.List.{AllByRecursion}
use Rattle.bb_base.proofs.Contained.{of_all, to_all}
use Rattle.bb_base.specs.Net.{Gate, times}
use Rattle.bb_base.specs.Order.{drivers, IsOrder}
use Rattle.bb_eqn.specs.Sequence.{WriteFirst}
use Rattle.bb_eqn.proofs.Evaluated.{not_first, none_after, none_before}
use Rattle.bb_eqn.proofs.Picked.{before, picked, to_picked}
use Rattle.bb_eqn.proofs.Settled.{order_first, order_all}
use Rattle.bb_sign.specs.Bits.{noted_column}
use Rattle.bb_sign.specs.Evaluation.{AreOpenGates}

-- there is no entry
abbrev pub lacks : Option ℕ → Bool
lacks None = true
lacks (Some column) = false

-- the gate's net has no column
abbrev pub is_open : List (Option ℕ) → Gate ℕ → Bool
is_open columns g = lacks (noted_column columns g.out)

-- where no gate drives a net, none of some of them does
kept_none : (f : Gate ℕ → Bool) (gates : List (Gate ℕ)) (net : ℕ) → drivers gates net ≡ [] → drivers (filter f gates) net ≡ []
kept_none f [] net none = refl
kept_none f (g ∷ gates) net none = by (f g) (kept_none f gates net (none_after g gates net none))
  where
    by : (b : Bool) → drivers (filter f gates) net ≡ [] → drivers (cond b (g ∷ filter f gates) (filter f gates)) net ≡ []
    by true rest = none_before g (filter f gates) net (not_first g gates net none) rest
    by false rest = rest

-- of gates that write first, some do
kept_first : (f : Gate ℕ → Bool) (gates : List (Gate ℕ)) → WriteFirst gates → WriteFirst (filter f gates)
kept_first f [] h = tt
kept_first f (g ∷ gates) h = by (f g) (kept_first f gates h.2)
  where
    unread : (ins : List ℕ) → AllByRecursion (λ net. drivers (g ∷ gates) net ≡ []) ins → AllByRecursion (λ net. drivers (g ∷ filter f gates) net ≡ []) ins
    unread [] all = tt
    unread (net ∷ ins) all = (none_before g (filter f gates) net (not_first g gates net all.0) (kept_none f gates net (none_after g gates net all.0)), unread ins all.1)

    by : (b : Bool) → WriteFirst (filter f gates) → WriteFirst (cond b (g ∷ filter f gates) (filter f gates))
    by true rest = (unread g.ins h.0, kept_none f gates g.out h.1, rest)
    by false rest = rest

kept_all : (P : Gate ℕ → Type 0) (f : Gate ℕ → Bool) (gates : List (Gate ℕ)) → AllByRecursion P gates → AllByRecursion P (filter f gates)
kept_all P f [] all = tt
kept_all P f (g ∷ gates) all = by (f g) (kept_all P f gates all.1)
  where
    by : (b : Bool) → AllByRecursion P (filter f gates) → AllByRecursion P (cond b (g ∷ filter f gates) (filter f gates))
    by true rest = (all.0, rest)
    by false rest = rest

-- what holds of those that are kept holds of each that passes
of_kept : (P : Gate ℕ → Type 0) (f : Gate ℕ → Bool) (gates : List (Gate ℕ)) → AllByRecursion P (filter f gates) → AllByRecursion (λ g. f g ≡ true → P g) gates
of_kept P f [] all = tt
of_kept P f (g ∷ gates) all = by (f g) refl all (λ rest. of_kept P f gates rest)
  where
    by : (b : Bool) → f g ≡ b → AllByRecursion P (cond b (g ∷ filter f gates) (filter f gates)) → (AllByRecursion P (filter f gates) → AllByRecursion (λ g. f g ≡ true → P g) gates) → (f g ≡ true → P g) × AllByRecursion (λ g. f g ≡ true → P g) gates
    by true e all rest = (λ passes. all.0, rest all.1)
    by false e all rest = (λ passes. absurd (cc (e, passes)), rest all)

-- the gates of an order from a place on, without those whose nets have a column
abbrev pub walked : List (Gate ℕ) → List (Option ℕ) → List ℕ → List (Gate ℕ)
walked gates columns order = filter (is_open columns) (picked gates order)

next_gates : (gates : List (Gate ℕ)) (columns : List (Option ℕ)) (order : List ℕ) (place : ℕ) (g : Gate ℕ) → place < length order → get_or order place 0 < length gates → g ≡ get_or gates (get_or order place 0) g
    → walked gates columns (drop place order) ≡ cond (is_open columns g) (g ∷ walked gates columns (drop (place + 1) order)) (walked gates columns (drop (place + 1) order))
next_gates gates columns order place g less small is =
    let there : slice_get gates (get_or order place 0) ≡ Some g = slice_get-get_or gates (get_or order place 0) g small ∙ ap Some (sym is) in
    let front : picked gates (drop place order) ≡ g ∷ picked gates (drop (place + 1) order) = ap (picked gates) (drop_more order place 0 less) ∙ ap (λ (o : Option (Gate ℕ)). before o (picked gates (drop (place + 1) order))) there in
    ap (filter (is_open columns)) front

-- the gate is listed, or left out
pub walked_with : (gates : List (Gate ℕ)) (columns : List (Option ℕ)) (order : List ℕ) (place : ℕ) (g : Gate ℕ) (listed whole : List (Gate ℕ)) → place < length order → get_or order place 0 < length gates → g ≡ get_or gates (get_or order place 0) g
    → noted_column columns g.out ≡ None → listed ++ walked gates columns (drop place order) ≡ whole → (listed ++ g ∷ []) ++ walked gates columns (drop (place + 1) order) ≡ whole
walked_with gates columns order place g listed whole less small is none so_far =
    let front = next_gates gates columns order place g less small is ∙ ap (λ o. cond (lacks o) (g ∷ walked gates columns (drop (place + 1) order)) (walked gates columns (drop (place + 1) order))) none in
    append_assoc listed (g ∷ []) (walked gates columns (drop (place + 1) order)) ∙ (ap (λ gs. listed ++ gs) (sym front) ∙ so_far)

some_of : (o : Option ℕ) → o ≢ None → lacks o ≡ false
some_of None some = absurd (some refl)
some_of (Some column) some = refl

pub walked_without : (gates : List (Gate ℕ)) (columns : List (Option ℕ)) (order : List ℕ) (place : ℕ) (g : Gate ℕ) (listed whole : List (Gate ℕ)) → place < length order → get_or order place 0 < length gates → g ≡ get_or gates (get_or order place 0) g
    → noted_column columns g.out ≢ None → listed ++ walked gates columns (drop place order) ≡ whole → listed ++ walked gates columns (drop (place + 1) order) ≡ whole
walked_without gates columns order place g listed whole less small is some so_far =
    let front = next_gates gates columns order place g less small is ∙ ap (λ b. cond b (g ∷ walked gates columns (drop (place + 1) order)) (walked gates columns (drop (place + 1) order))) (some_of (noted_column columns g.out) some) in
    ap (λ gs. listed ++ gs) (sym front) ∙ so_far

pub walked_end : (gates : List (Gate ℕ)) (columns : List (Option ℕ)) (order : List ℕ) (place : ℕ) (listed whole : List (Gate ℕ)) → length order ≤ place → listed ++ walked gates columns (drop place order) ≡ whole → listed ≡ whole
walked_end gates columns order place listed whole past so_far = sym (append-nil listed) ∙ (ap (λ (hs : List ℕ). listed ++ walked gates columns hs) (sym (drop_all place order past)) ∙ so_far)

-- the gates that are kept pass
kept_pass : (f : Gate ℕ → Bool) (gates : List (Gate ℕ)) → AllByRecursion (λ g. f g ≡ true) (filter f gates)
kept_pass f [] = tt
kept_pass f (g ∷ gates) = by (f g) refl (kept_pass f gates)
  where
    by : (b : Bool) → f g ≡ b → AllByRecursion (λ g. f g ≡ true) (filter f gates) → AllByRecursion (λ g. f g ≡ true) (cond b (g ∷ filter f gates) (filter f gates))
    by true e rest = (e, rest)
    by false e rest = rest

none_of : (o : Option ℕ) → lacks o ≡ true → o ≡ None
none_of None e = refl
none_of (Some column) e = absurd (cc e)

-- the gates of nets without a column
pub open_gates : (gates : List (Gate ℕ)) (columns : List (Option ℕ)) (order : List ℕ) → IsOrder gates order → ((net : ℕ) → times net (map (λ g. g.out) gates) ≤ 1) → AreOpenGates gates columns (walked gates columns order)
open_gates gates columns order o once =
    let f = is_open columns in
    let whole = walked gates columns order in
    record {
      stand = All-from_recursion (Contains gates) whole (kept_all (Contains gates) f (picked gates order) (to_picked (Contains gates) gates order (to_all (Contains gates) gates (λ g h. h))));
      without = All-from_recursion (λ (g : Gate ℕ). noted_column columns g.out ≡ None) whole
          (to_all (λ (g : Gate ℕ). noted_column columns g.out ≡ None) whole (λ g h. none_of (noted_column columns g.out) (of_all (λ g. f g ≡ true) whole g (kept_pass f (picked gates order)) h)));
      all = λ g stands none.
          of_all (λ (g : Gate ℕ). f g ≡ true → Contains whole g) gates g
          (order_all (λ g. f g ≡ true → Contains whole g) gates order o (of_kept (Contains whole) f (picked gates order) (to_all (Contains whole) whole (λ g h. h)))) stands (ap lacks none);
      first = kept_first f (picked gates order) (order_first gates order o once);
    }
