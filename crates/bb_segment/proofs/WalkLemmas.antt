-- Steps of a walk: a net is met, and what is read behind it.
use Rattle.std.proofs.Common.{arith, ◌≡◌, ◌≢◌, ◌⊎◌, ◌↔◌, inl, inr, ℕ, zero, suc, ◌+◌, ◌<◌, ◌≤◌, ◌==◌, Bool, true, false, List, [], ◌∷◌, ◌++◌, length, take, refl, sym, ap, ◌∙◌, rules, subst, cond, slice_set, get_or, slice_get, Some, Contains}
use Rattle.std.proofs.lemmas.Grind.{common_steps}
use Rattle.std.proofs.lemmas.Bool.Decides.{nat_tests}
use Rattle.std.proofs.lemmas.List.{take_more_set, take-take}
use Rattle.std.proofs.lemmas.List.Sums.{sum_by-set, count_by-le-length}
use Rattle.std.proofs.lemmas.List.Elements.{Contains-append_left, Contains-push, Contains-push_cases}
use Rattle.std.proofs.lemmas.Option.{slice_get_within, slice_get-get_or}
use Rattle.std.specs.Prelude.{AllPairs, count_by}
use Rattle.bb_base.specs.Net.{Gate}
use Rattle.bb_base.specs.Order.{Reads}
use Rattle.bb_terms.specs.Paths.{IsReached, IsPathBack}
use Rattle.bb_segment.specs.Walks.{is_marked_net, IsMet, HasMore, IsWalk}
use Rattle.bb_base.proofs.Contained.{here, there, either, none_in, place_of, contains_at}
use Rattle.bb_terms.proofs.PathLemmas.{reached_more, reached_here}

-- a mark that doesn't stand leaves room for it
room : (marks : List Bool) (net : ℕ) → net < length marks → is_marked_net marks net ≡ false → count_by (λ b. b) marks < length marks
room [] net less none = absurd (omega (arith, less))
room (m ∷ marks) zero less none = let most = count_by-le-length (λ b. b) marks in let e : m ≡ false = none in grind (arith, common_steps, most, e)
room (m ∷ marks) (suc net) less none = by m (room marks net (omega (arith, less)) none)
  where
    by : (m : Bool) → count_by (λ b. b) marks < length marks → count_by (λ b. b) (m ∷ marks) < length (m ∷ marks)
    by true h = grind (arith, common_steps, h)
    by false h = grind (arith, common_steps, h)

one_more : (marks : List Bool) (net : ℕ) → net < length marks → is_marked_net marks net ≡ false → count_by (λ b. b) (slice_set marks net true) ≡ count_by (λ b. b) marks + 1
one_more marks net less none =
    let e = sum_by-set (λ (b : Bool). cond b 1 0) marks net true false less in
    let was : ◌≡◌ {A = ℕ} (cond (get_or marks net false) 1 0) 0 = ap (λ b. cond b 1 0) none in
    omega (arith, e, was)

-- the mark of a net is set, and others stay
marked_at : (marks : List Bool) (net other : ℕ) → net < length marks → is_marked_net (slice_set marks net true) other ≡ cond (net == other) true (is_marked_net marks other)
marked_at marks net other less = grind (arith, common_steps, nat_tests, less)

pub pairs_push : (xs : List ℕ) (x : ℕ) → AllPairs (λ a b. a ≢ b) xs → (Contains xs x → ⊥) → AllPairs (λ a b. a ≢ b) (xs ++ x ∷ [])
pairs_push xs x apart new i j d less small same = by (j == length xs) refl
  where
    at_i : i < length xs → get_or (xs ++ x ∷ []) i d ≡ get_or xs i d
    at_i h = grind (arith, common_steps, h)

    by : (b : Bool) → (j == length xs) ≡ b → ⊥
    by true e =
        let here : j ≡ length xs = search (rules, e) in
        let inside : i < length xs = omega (arith, here, less) in
        let last : get_or (xs ++ x ∷ []) j d ≡ x = grind (arith, common_steps, here) in
        let is : get_or xs i d ≡ x = sym (at_i inside) ∙ same ∙ last in
        let default : get_or xs i x ≡ get_or xs i d = grind (arith, common_steps, inside) in
        new (i, inside, default ∙ is)
    by false e =
        let not_last : j ≢ length xs = search (rules, e) in
        let long : length (xs ++ x ∷ []) ≡ length xs + 1 = grind (arith, common_steps) in
        let inside : j < length xs = omega (arith, not_last, small, long) in
        let at_j : get_or (xs ++ x ∷ []) j d ≡ get_or xs j d = grind (arith, common_steps, inside) in
        apart i j d less inside (sym (at_i (omega (arith, inside, less))) ∙ same ∙ at_j)

pub end_within : (marks : List Bool) (met : List ℕ) (end net : ℕ) → IsMet marks met end → net < length marks → is_marked_net marks net ≡ false → end < length met
end_within marks met end net is less none = let r = room marks net less none in let c = is.count in let l = is.long in omega (arith, r, c, l)

-- one more net was met
pub met_more : (marks : List Bool) (met : List ℕ) (end net : ℕ) → IsMet marks met end → net < length marks → is_marked_net marks net ≡ false → IsMet (slice_set marks net true) (slice_set met end net) (end + 1)
met_more marks met end net is less none = record {
  long = let l = is.long in grind (arith, common_steps, l);
  few = let l = is.few in grind (arith, common_steps, l);
  count = one_more marks net less none ∙ ap (λ k. k + 1) is.count;
  each = λ other. subst (λ (ns : List ℕ). (is_marked_net (slice_set marks net true) other ≡ true) ↔ Contains ns other) (sym list) (forth other, back other);
  apart = subst (AllPairs (λ a b. a ≢ b)) (sym list) (pairs_push (take end met) net is.apart not_there);
}
  where
    list : take (end + 1) (slice_set met end net) ≡ take end met ++ net ∷ []
    list = take_more_set met end net (end_within marks met end net is less none)

    not_there : Contains (take end met) net → ⊥
    not_there h = let m = (is.each net).1 h in absurd (cc (m, none))

    forth : (other : ℕ) → is_marked_net (slice_set marks net true) other ≡ true → Contains (take end met ++ net ∷ []) other
    forth other marked = by (net == other) refl (sym (marked_at marks net other less) ∙ marked)
      where
        by : (b : Bool) → (net == other) ≡ b → cond b true (is_marked_net marks other) ≡ true → Contains (take end met ++ net ∷ []) other
        by true e m = subst (Contains (take end met ++ net ∷ [])) (search (rules, e)) (Contains-push (take end met) net)
        by false e m = Contains-append_left (take end met) (net ∷ []) other ((is.each other).0 m)

    back : (other : ℕ) → Contains (take end met ++ net ∷ []) other → is_marked_net (slice_set marks net true) other ≡ true
    back other h = marked_at marks net other less ∙ by (net == other) refl (Contains-push_cases (take end met) net other h)
      where
        by : (b : Bool) → (net == other) ≡ b → Contains (take end met) other ⊎ (net ≡ other) → cond b true (is_marked_net marks other) ≡ true
        by true e k = refl
        by false e (inl k) = (is.each other).1 k
        by false e (inr k) = absurd (grind (arith, nat_tests, e, k))

-- so it has, and all others as before
pub has_met : (met : List ℕ) (end net : ℕ) → end < length met → HasMore (take end met) (net ∷ []) (take (end + 1) (slice_set met end net))
has_met met end net room = subst (HasMore (take end met) (net ∷ [])) (sym (take_more_set met end net room)) (record {
  kept = λ n h. Contains-append_left (take end met) (net ∷ []) n h;
  met = λ n h. subst (Contains (take end met ++ net ∷ [])) (only_one n h) (Contains-push (take end met) net);
  only = λ n h. by n (Contains-push_cases (take end met) net n h);
})
  where
    only_one : (n : ℕ) → Contains (net ∷ []) n → net ≡ n
    only_one n h = at (either net [] n h)
      where
        at : (net ≡ n) ⊎ Contains [] n → net ≡ n
        at (inl e) = e
        at (inr none) = absurd (none_in n none)

    by : (n : ℕ) → Contains (take end met) n ⊎ (net ≡ n) → Contains (take end met) n ⊎ Contains (net ∷ []) n
    by n (inl h) = inl h
    by n (inr e) = inr (subst (Contains (net ∷ [])) e (here net []))

-- nets met one after another
pub met_then : (before nets between after : List ℕ) (net : ℕ) → HasMore before nets between → HasMore between (net ∷ []) after → HasMore before (nets ++ net ∷ []) after
met_then before nets between after net h k = record {
  kept = λ n c. k.kept n (h.kept n c);
  met = λ n c. by n (Contains-push_cases nets net n c);
  only = λ n c. on n (k.only n c);
}
  where
    by : (n : ℕ) → Contains nets n ⊎ (net ≡ n) → Contains after n
    by n (inl c) = k.kept n (h.met n c)
    by n (inr e) = k.met n (subst (Contains (net ∷ [])) e (here net []))

    of_one : (n : ℕ) → (net ≡ n) ⊎ Contains [] n → Contains (nets ++ net ∷ []) n
    of_one n (inl e) = subst (Contains (nets ++ net ∷ [])) e (Contains-push nets net)
    of_one n (inr none) = absurd (none_in n none)

    first : (n : ℕ) → Contains before n ⊎ Contains nets n → Contains before n ⊎ Contains (nets ++ net ∷ []) n
    first n (inl c) = inl c
    first n (inr c) = inr (Contains-append_left nets (net ∷ []) n c)

    on : (n : ℕ) → Contains between n ⊎ Contains (net ∷ []) n → Contains before n ⊎ Contains (nets ++ net ∷ []) n
    on n (inl c) = first n (h.only n c)
    on n (inr c) = inr (of_one n (either net [] n c))

-- a net met is one
pub met_within : (marks : List Bool) (met : List ℕ) (end net : ℕ) → IsMet marks met end → Contains (take end met) net → net < length marks
met_within marks met end net is h = inside marks net ((is.each net).1 h)
  where
    inside : (marks : List Bool) (net : ℕ) → is_marked_net marks net ≡ true → net < length marks
    inside [] net e = absurd (cc e)
    inside (m ∷ marks) zero e = omega arith
    inside (m ∷ marks) (suc net) e = let rest = inside marks net e in omega (arith, rest)

-- before a walk no net was met
pub met_first : (marks : List Bool) (met : List ℕ) → ((net : ℕ) → is_marked_net marks net ≡ false) → length met ≡ length marks → length marks < 4294967296 → IsMet marks met 0
met_first marks met none long few = record {
  long = long;
  few = few;
  count = nothing marks none;
  each = λ net. (λ e. absurd (let n = none net in cc (n, e)), λ h. absurd (none_in net h));
  apart = λ i j d less small same. omega (arith, small);
}
  where
    nothing : (marks : List Bool) → ((net : ℕ) → is_marked_net marks net ≡ false) → count_by (λ b. b) marks ≡ 0
    nothing [] none = refl
    nothing (m ∷ marks) none =
        let e : m ≡ false = none 0 in
        let rest = nothing marks (λ net. none (suc net)) in
        grind (arith, common_steps, e, rest)

pub item_in : {X : Type 0} (xs : List X) (i : ℕ) (x : X) → i < length xs → x ≡ get_or xs i x → Contains xs x
item_in xs i x less is = (i, less, sym is)

-- before its first step the walk has only met where it starts
pub walk_first : (gates : List (Gate ℕ)) (stop : ℕ → Bool) (start : List ℕ) → IsWalk gates stop start start 0
walk_first gates stop start = record { starts = λ n h. h; reached = λ n h. reached_here gates stop start n h; passed = λ place net input less. absurd (omega (arith, less)) }

get_take : {X : Type 0} (xs : List X) (i end : ℕ) → i < end → slice_get (take end xs) i ≡ slice_get xs i
get_take [] i zero less = refl
get_take [] i (suc end) less = refl
get_take (x ∷ xs) i zero less = absurd (omega (arith, less))
get_take (x ∷ xs) zero (suc end) less = refl
get_take (x ∷ xs) (suc i) (suc end) less = get_take xs i end (omega (arith, less))

-- what stood in front stands there
get_front : {X : Type 0} (xs ys : List X) (end last i : ℕ) (x : X) → take end xs ≡ take end ys → i < end → i < last → slice_get (take last xs) i ≡ Some x → slice_get (take end ys) i ≡ Some x
get_front xs ys end last i x same small inside at = ap (λ zs. slice_get zs i) (sym same) ∙ (get_take xs i end small ∙ (sym (get_take xs i last inside) ∙ at))

-- the walk passes a net: what is read behind it was met
pub walk_on :
    (gates : List (Gate ℕ)) (stop : ℕ → Bool) (start met more : List ℕ) (end last next net : ℕ) (inputs : List ℕ)
    → IsWalk gates stop start (take end met) next → slice_get (take end met) next ≡ Some net → next < end → end ≤ last → take end more ≡ take end met → HasMore (take end met) inputs (take last more)
    → ((input : ℕ) → Contains inputs input → (stop net ≡ false) × Reads gates net input) → ((input : ℕ) → stop net ≡ false → Reads gates net input → Contains inputs input)
    → IsWalk gates stop start (take last more) (next + 1)
walk_on gates stop start met more end last next net inputs w at less longer front has each all = record {
  starts = λ n h. has.kept n (w.starts n h);
  reached = λ n h. from n (has.only n h);
  passed = passed;
}
  where
    from : (n : ℕ) → Contains (take end met) n ⊎ Contains inputs n → IsReached gates stop start n
    from n (inl h) = w.reached n h
    from n (inr h) = let r = each n h in reached_more gates stop start net n (w.reached net (contains_at (take end met) next net at)) r.0 r.1

    passed : (place m input : ℕ) → place < next + 1 → slice_get (take last more) place ≡ Some m → stop m ≡ false → Reads gates m input → Contains (take last more) input
    passed place m input small there no_stop reads = by (place == next) refl
      where
        old : slice_get (take end met) place ≡ Some m
        old = get_front more met end last place m front (omega (arith, small, less)) (omega (arith, small, less, longer)) there

        by : (b : Bool) → (place == next) ≡ b → Contains (take last more) input
        by true e =
            let here : place ≡ next = search (rules, e) in
            let same : m ≡ net = cc (old, at, ap (slice_get (take end met)) here) in
            has.met input (all input (subst (λ k. stop k ≡ false) same no_stop) (subst (λ k. Reads gates k input) same reads))
        by false e = has.kept input (w.passed place m input (grind (arith, nat_tests, small, e)) old no_stop reads)

-- a walk that has passed all that it met has met all that is reached
pub walk_ends : (gates : List (Gate ℕ)) (stop : ℕ → Bool) (start met : List ℕ) (next : ℕ) → IsWalk gates stop start met next → length met ≤ next → (net : ℕ) → IsReached gates stop start net → Contains met net
walk_ends gates stop start met next w done net r = along r.path r.first (w.starts r.first r.stands) r.leads
  where
    along : (path : List ℕ) (first : ℕ) → Contains met first → IsPathBack gates stop first path net → Contains met net
    along [] first h e = subst (Contains met) e h
    along (m ∷ path) first h leads =
        let at = place_of met first h in
        let inside = slice_get_within met at.0 first at.1 in
        along path m (w.passed at.0 first m (omega (arith, inside, done)) at.1 leads.0 leads.1) leads.2

-- a walk from the same nets reaches the same
pub reached_from : (gates : List (Gate ℕ)) (stop : ℕ → Bool) (from other : List ℕ) (net : ℕ) → ((n : ℕ) → Contains from n → Contains other n) → IsReached gates stop from net → IsReached gates stop other net
reached_from gates stop from other net more r = record { first = r.first; stands = more r.first r.stands; path = r.path; leads = r.leads }

pub only_met : (nets after : List ℕ) → HasMore [] nets after → (n : ℕ) → Contains after n → Contains nets n
only_met nets after has n h = by (has.only n h)
  where
    by : Contains [] n ⊎ Contains nets n → Contains nets n
    by (inl none) = absurd (none_in n none)
    by (inr c) = c

-- a shorter front of equal fronts
pub front_of : {X : Type 0} (n m : ℕ) (xs ys : List X) → n ≤ m → take m xs ≡ take m ys → take n xs ≡ take n ys
front_of n m xs ys less same = sym (take-take n m xs less) ∙ ap (take n) same ∙ take-take n m ys less

pub end_low : (marks : List Bool) (met : List ℕ) (end : ℕ) → IsMet marks met end → end ≤ length met
end_low marks met end is = let most = count_by-le-length (λ b. b) marks in let c = is.count in let l = is.long in omega (arith, most, c, l)

-- the net at a place in front of the end
pub front_at : {X : Type 0} (xs : List X) (end i : ℕ) (x : X) → i < end → end ≤ length xs → x ≡ get_or xs i x → slice_get (take end xs) i ≡ Some x
front_at xs end i x less low is = get_take xs i end less ∙ slice_get-get_or xs i x (omega (arith, less, low)) ∙ ap Some (sym is)
