-- Sets, queues, entries gathered, readers noted, and the net to cut: what a step of each loop keeps.
use Rattle.std.proofs.Common.{arith, ◌≡◌, ◌⊎◌, inl, inr, ℕ, ◌+◌, ◌<◌, ◌==◌, ◌||◌, ◌&&◌, Bool, true, false, List, [], ◌∷◌, ◌++◌, length, refl, sym, ap, subst, ◌∙◌, rules, cond, slice_set, get_or, Option, Some, None, Contains, nat_eq, nat_lt, Ordering}
use Rattle.std.specs.Prelude.{nat_le}
use Rattle.std.specs.List.{dedup}
use Rattle.std.specs.List.Sorted.{IsPermutation, IsSorted}
use Rattle.std.specs.declared.cmp.Ordering.TheVariants.{Less, Equal, Greater}
use Rattle.std.specs.Ordering.{nat_cmp, match_ordering}
use Rattle.std.specs.BTreeSet.{insert_key}
use Rattle.std.proofs.lemmas.Grind.{common_steps}
use Rattle.std.proofs.lemmas.Bool.Decides.{nat_tests}
use Rattle.std.proofs.lemmas.Map.Keys.{IsStrictlyIncreasing-dedup}
use Rattle.std.proofs.lemmas.Map.Lookups.{exact_unsigned}
use Rattle.std.proofs.lemmas.List.Kept.{Contains-dedup_nat, Contains-from_dedup}
use Rattle.std.proofs.lemmas.List.Sorted.{Contains-permutation, IsPermutation-sym}
use Rattle.std.proofs.lemmas.List.Elements.{Contains-push, Contains-push_cases, Contains-append_left, Contains-append_right, Contains-append_cases}
use Rattle.bb_base.specs.Net.{Gate}
use Rattle.bb_segment.specs.Walks.{HasMore}
use Rattle.bb_terms.specs.Cuts.{StandsAt}
use Rattle.bb_segment.specs.Cutting.{table_entry, IsSetOf, AreGathered, IsUnion, is_rather, IsWidest, AreReadersAt}
use Rattle.bb_base.proofs.Contained.{here, there, either, none_in}
use Rattle.bb_segment.proofs.PlaceLemmas.{one_at}
use Rattle.bb_segment.proofs.StepLemmas.{entry_there, entry_other}

-- sorted, and without repetition
pub set_of : (xs ys zs : List ℕ) → IsPermutation xs ys → IsSorted nat_cmp ys → zs ≡ dedup nat_eq ys → IsSetOf xs zs
set_of xs ys zs moved sorted is = subst (IsSetOf xs) (sym is) (record {
  ascending = IsStrictlyIncreasing-dedup ys sorted;
  each = λ n. (
    λ h. Contains-permutation ys xs n (IsPermutation-sym xs ys moved) (Contains-from_dedup nat_eq ys n h),
    λ h. Contains-dedup_nat ys n (Contains-permutation xs ys n moved h),
  );
})

pub union_is : (table : List (List ℕ)) (nets numbers set : List ℕ) → AreGathered table nets numbers → IsSetOf numbers set → IsUnion table nets set
union_is table nets numbers set all is = record {
  ascending = is.ascending;
  each = λ n. (λ h. all.from n ((is.each n).0 h), λ u. (is.each n).1 (all.into u.0 n u.1 u.2));
}

pub gathered_more : (table : List (List ℕ)) (nets numbers entry : List ℕ) (net : ℕ) → AreGathered table nets numbers → entry ≡ table_entry table net → AreGathered table (nets ++ net ∷ []) (numbers ++ entry)
gathered_more table nets numbers entry net all is = record { from = λ n h. from n (Contains-append_cases numbers entry n h); into = λ m n h k. into m n (Contains-push_cases nets net m h) k }
  where
    from : (n : ℕ) → Contains numbers n ⊎ Contains entry n → (m : ℕ) × Contains (nets ++ net ∷ []) m × Contains (table_entry table m) n
    from n (inl h) = let u = all.from n h in (u.0, Contains-append_left nets (net ∷ []) u.0 u.1, u.2)
    from n (inr h) = (net, Contains-push nets net, subst (λ e. Contains e n) is h)

    into : (m n : ℕ) → Contains nets m ⊎ (net ≡ m) → Contains (table_entry table m) n → Contains (numbers ++ entry) n
    into m n (inl h) k = Contains-append_left numbers entry n (all.into m n h k)
    into m n (inr e) k = Contains-append_right numbers entry n (subst (λ x. Contains x n) (sym is) (subst (λ x. Contains (table_entry table x) n) (sym e) k))

-- one more place in a queue
insert_kept : (keys : List ℕ) (place n : ℕ) → Contains keys n → Contains (insert_key nat_cmp keys place) n
insert_kept [] place n h = absurd (none_in n h)
insert_kept (x ∷ keys) place n h = by (nat_cmp place x) (insert_kept keys place n)
  where
    on : (Contains keys n → Contains (insert_key nat_cmp keys place) n) → (x ≡ n) ⊎ Contains keys n → Contains (x ∷ insert_key nat_cmp keys place) n
    on rest (inl e) = subst (Contains (x ∷ insert_key nat_cmp keys place)) e (here x (insert_key nat_cmp keys place))
    on rest (inr c) = there x (insert_key nat_cmp keys place) n (rest c)

    by : (o : Ordering) → (Contains keys n → Contains (insert_key nat_cmp keys place) n) → Contains (match_ordering o (place ∷ x ∷ keys) (x ∷ keys) (x ∷ insert_key nat_cmp keys place)) n
    by Less rest = there place (x ∷ keys) n h
    by Equal rest = h
    by Greater rest = on rest (either x keys n h)

insert_has : (keys : List ℕ) (place : ℕ) → Contains (insert_key nat_cmp keys place) place
insert_has [] place = here place []
insert_has (x ∷ keys) place = by (nat_cmp place x) refl (insert_has keys place)
  where
    by : (o : Ordering) → nat_cmp place x ≡ o → Contains (insert_key nat_cmp keys place) place → Contains (match_ordering o (place ∷ x ∷ keys) (x ∷ keys) (x ∷ insert_key nat_cmp keys place)) place
    by Less e rest = here place (x ∷ keys)
    by Equal e rest = subst (Contains (x ∷ keys)) (sym (exact_unsigned place x e)) (here x keys)
    by Greater e rest = there x (insert_key nat_cmp keys place) place rest

insert_only : (keys : List ℕ) (place n : ℕ) → Contains (insert_key nat_cmp keys place) n → Contains keys n ⊎ Contains (place ∷ []) n
insert_only [] place n h = inr h
insert_only (x ∷ keys) place n h = by (nat_cmp place x) h (insert_only keys place n)
  where
    first : (place ≡ n) ⊎ Contains (x ∷ keys) n → Contains (x ∷ keys) n ⊎ Contains (place ∷ []) n
    first (inl e) = inr (subst (Contains (place ∷ [])) e (here place []))
    first (inr c) = inl c

    on : Contains keys n ⊎ Contains (place ∷ []) n → Contains (x ∷ keys) n ⊎ Contains (place ∷ []) n
    on (inl c) = inl (there x keys n c)
    on (inr c) = inr c

    last : (Contains (insert_key nat_cmp keys place) n → Contains keys n ⊎ Contains (place ∷ []) n) → (x ≡ n) ⊎ Contains (insert_key nat_cmp keys place) n → Contains (x ∷ keys) n ⊎ Contains (place ∷ []) n
    last rest (inl e) = inl (subst (Contains (x ∷ keys)) e (here x keys))
    last rest (inr c) = on (rest c)

    by : (o : Ordering) → Contains (match_ordering o (place ∷ x ∷ keys) (x ∷ keys) (x ∷ insert_key nat_cmp keys place)) n
        → (Contains (insert_key nat_cmp keys place) n → Contains keys n ⊎ Contains (place ∷ []) n) → Contains (x ∷ keys) n ⊎ Contains (place ∷ []) n
    by Less c rest = first (either place (x ∷ keys) n c)
    by Equal c rest = inl c
    by Greater c rest = last rest (either x (insert_key nat_cmp keys place) n c)

pub insert_adds : (keys after : List ℕ) (place : ℕ) → after ≡ insert_key nat_cmp keys place → HasMore keys (place ∷ []) after
insert_adds keys after place is = subst (HasMore keys (place ∷ [])) (sym is) (record {
  kept = insert_kept keys place;
  met = λ n h. by n (either place [] n h);
  only = insert_only keys place;
})
  where
    by : (n : ℕ) → (place ≡ n) ⊎ Contains [] n → Contains (insert_key nat_cmp keys place) n
    by n (inl e) = subst (Contains (insert_key nat_cmp keys place)) e (insert_has keys place)
    by n (inr none) = absurd (none_in n none)

-- the places below one more
pub queued_all : (queue after : List ℕ) (place : ℕ) → HasMore queue (place ∷ []) after → ((n : ℕ) → n < place → Contains queue n) → (n : ℕ) → n < place + 1 → Contains after n
queued_all queue after place adds all n less = by (n == place) refl
  where
    by : (b : Bool) → (n == place) ≡ b → Contains after n
    by true e = let same : n ≡ place = search (rules, e) in subst (Contains after) (sym same) (adds.met place (here place []))
    by false e = adds.kept n (all n (grind (arith, nat_tests, less, e)))

pub queued_only : (queue after : List ℕ) (place : ℕ) → HasMore queue (place ∷ []) after → ((n : ℕ) → Contains queue n → n < place) → (n : ℕ) → Contains after n → n < place + 1
queued_only queue after place adds only n h = by (adds.only n h)
  where
    at : (place ≡ n) ⊎ Contains [] n → n < place + 1
    at (inl e) = omega (arith, e)
    at (inr none) = absurd (none_in n none)

    by : Contains queue n ⊎ Contains (place ∷ []) n → n < place + 1
    by (inl c) = let less = only n c in omega (arith, less)
    by (inr c) = at (either place [] n c)

-- a place noted at a net
pub noted_kept : (readers : List (List ℕ)) (net place n p : ℕ) (entry : List ℕ) → net < length readers → entry ≡ table_entry readers net ++ place ∷ [] → Contains (table_entry readers n) p → Contains (table_entry (slice_set readers net entry) n) p
noted_kept readers net place n p entry less is h = by (n == net) refl
  where
    by : (b : Bool) → (n == net) ≡ b → Contains (table_entry (slice_set readers net entry) n) p
    by true e =
        let same : n ≡ net = search (rules, e) in
        let at : table_entry (slice_set readers net entry) n ≡ table_entry readers net ++ place ∷ [] = ap (table_entry (slice_set readers net entry)) same ∙ entry_there readers net entry less ∙ is in
        subst (λ x. Contains x p) (sym at) (Contains-append_left (table_entry readers net) (place ∷ []) p (subst (λ k. Contains (table_entry readers k) p) same h))
    by false e = subst (λ x. Contains x p) (sym (entry_other readers net n entry (λ same. grind (arith, nat_tests, e, same)))) h

pub noted_here : (readers : List (List ℕ)) (net place : ℕ) (entry : List ℕ) → net < length readers → entry ≡ table_entry readers net ++ place ∷ [] → Contains (table_entry (slice_set readers net entry) net) place
noted_here readers net place entry less is = subst (λ x. Contains x place) (sym (entry_there readers net entry less ∙ is)) (Contains-push (table_entry readers net) place)

pub noted_only : (readers : List (List ℕ)) (net place n p : ℕ) (entry : List ℕ) → net < length readers → entry ≡ table_entry readers net ++ place ∷ [] → Contains (table_entry (slice_set readers net entry) n) p
    → Contains (table_entry readers n) p ⊎ ((p ≡ place) × (n ≡ net))
noted_only readers net place n p entry less is h = by (n == net) refl
  where
    on : n ≡ net → Contains (table_entry readers net) p ⊎ (place ≡ p) → Contains (table_entry readers n) p ⊎ ((p ≡ place) × (n ≡ net))
    on same (inl c) = inl (subst (λ k. Contains (table_entry readers k) p) (sym same) c)
    on same (inr e) = inr (sym e, same)

    by : (b : Bool) → (n == net) ≡ b → Contains (table_entry readers n) p ⊎ ((p ≡ place) × (n ≡ net))
    by true e =
        let same : n ≡ net = search (rules, e) in
        let at : table_entry (slice_set readers net entry) n ≡ table_entry readers net ++ place ∷ [] = ap (table_entry (slice_set readers net entry)) same ∙ entry_there readers net entry less ∙ is in
        on same (Contains-push_cases (table_entry readers net) place p (subst (λ x. Contains x p) at h))
    by false e = inl (subst (λ x. Contains x p) (entry_other readers net n entry (λ same. grind (arith, nat_tests, e, same))) h)

-- what notes at one more net keep
pub record Noted (before after : List (List ℕ)) (place : ℕ) (nets : List ℕ) : Type 0 where
  pub kept : (net p : ℕ) → Contains (table_entry before net) p → Contains (table_entry after net) p
  pub noted : (net : ℕ) → Contains nets net → Contains (table_entry after net) place
  pub only : (net p : ℕ) → Contains (table_entry after net) p → Contains (table_entry before net) p ⊎ ((p ≡ place) × Contains nets net)

pub noted_more : (before readers : List (List ℕ)) (place : ℕ) (nets : List ℕ) (net : ℕ) (entry : List ℕ) → net < length readers → entry ≡ table_entry readers net ++ place ∷ [] → Noted before readers place nets
    → Noted before (slice_set readers net entry) place (nets ++ net ∷ [])
noted_more before readers place nets net entry less is h = record {
  kept = λ n p c. noted_kept readers net place n p entry less is (h.kept n p c);
  noted = λ n c. noted n (Contains-push_cases nets net n c);
  only = λ n p c. only n p (noted_only readers net place n p entry less is c);
}
  where
    noted : (n : ℕ) → Contains nets n ⊎ (net ≡ n) → Contains (table_entry (slice_set readers net entry) n) place
    noted n (inl c) = noted_kept readers net place n place entry less is (h.noted n c)
    noted n (inr e) = subst (λ k. Contains (table_entry (slice_set readers net entry) k) place) e (noted_here readers net place entry less is)

    old : (n p : ℕ) → Contains (table_entry before n) p ⊎ ((p ≡ place) × Contains nets n) → Contains (table_entry before n) p ⊎ ((p ≡ place) × Contains (nets ++ net ∷ []) n)
    old n p (inl c) = inl c
    old n p (inr c) = inr (c.0, Contains-append_left nets (net ∷ []) n c.1)

    only : (n p : ℕ) → Contains (table_entry readers n) p ⊎ ((p ≡ place) × (n ≡ net)) → Contains (table_entry before n) p ⊎ ((p ≡ place) × Contains (nets ++ net ∷ []) n)
    only n p (inl c) = old n p (h.only n p c)
    only n p (inr e) = inr (e.0, subst (Contains (nets ++ net ∷ [])) (sym e.1) (Contains-push nets net))

-- the readers up to one more place
pub readers_more : (gates : List (Gate ℕ)) (order : List ℕ) (before after : List (List ℕ)) (place : ℕ) (g : Gate ℕ) → AreReadersAt gates order place before → StandsAt gates order place g
    → Noted before after place g.ins → AreReadersAt gates order (place + 1) after
readers_more gates order before after place g are s h = record { all = all; only = λ q net c. only q net (h.only net q c) }
  where
    all : (q net : ℕ) (f : Gate ℕ) → q < place + 1 → StandsAt gates order q f → Contains f.ins net → Contains (table_entry after net) q
    all q net f less t i = by (q == place) refl
      where
        by : (b : Bool) → (q == place) ≡ b → Contains (table_entry after net) q
        by true e =
            let same : q ≡ place = search (rules, e) in
            let gate = one_at gates order place f g (subst (λ k. StandsAt gates order k f) same t) s in
            subst (Contains (table_entry after net)) (sym same) (h.noted net (subst (λ (k : Gate ℕ). Contains k.ins net) gate i))
        by false e = h.kept net q (are.all q net f (grind (arith, nat_tests, less, e)) t i)

    only : (q net : ℕ) → Contains (table_entry before net) q ⊎ ((q ≡ place) × Contains g.ins net) → (f : Gate ℕ) × StandsAt gates order q f × Contains f.ins net
    only q net (inl c) = are.only q net c
    only q net (inr e) = (g, subst (λ k. StandsAt gates order k g) (sym e.0) s, e.1)

pub readers_first : (gates : List (Gate ℕ)) (order : List ℕ) (readers : List (List ℕ)) → ((net : ℕ) → table_entry readers net ≡ []) → AreReadersAt gates order 0 readers
readers_first gates order readers none = record { all = λ q net f less. absurd (omega (arith, less)); only = λ q net c. absurd (none_in q (subst (λ x. Contains x q) (none net) c)) }

-- of two nets one is the one to cut
itself : (a n : ℕ) → is_rather a n a n ≡ true
itself a n = grind (arith, nat_tests)

other_way : (a n b m : ℕ) → is_rather a n b m ≡ false → is_rather b m a n ≡ true
other_way a n b m e = by (nat_lt b a) refl (b == a) refl (nat_lt a b) refl (a == b) refl
  where
    by : (x : Bool) → nat_lt b a ≡ x → (y : Bool) → (b == a) ≡ y → (z : Bool) → nat_lt a b ≡ z → (w : Bool) → (a == b) ≡ w → (nat_lt a b || (a == b) && nat_le m n) ≡ true
    by x p y q z r w s = grind (arith, nat_tests, e)

rather_then : (a n b m c k : ℕ) → is_rather a n b m ≡ true → is_rather b m c k ≡ true → is_rather a n c k ≡ true
rather_then a n b m c k e f = grind (arith, nat_tests, e, f)

-- one more net that is a stop
pub widest_stop : (stop : ℕ → Bool) (table : List (List ℕ)) (nets : List ℕ) (net best : ℕ) → stop net ≡ true → IsWidest stop table nets best → IsWidest stop table (nets ++ net ∷ []) best
widest_stop stop table nets net best s w = record {
  input = Contains-append_left nets (net ∷ []) best w.input;
  no_stop = w.no_stop;
  most = λ other h open_there. by other open_there (Contains-push_cases nets net other h);
}
  where
    by : (other : ℕ) → stop other ≡ false → Contains nets other ⊎ (net ≡ other) → is_rather (length (table_entry table best)) best (length (table_entry table other)) other ≡ true
    by other open_there (inl h) = w.most other h open_there
    by other open_there (inr e) = let stopped = ap stop (sym e) ∙ s in absurd (cc (stopped, open_there))

pub stops_more : (stop : ℕ → Bool) (nets : List ℕ) (net : ℕ) → stop net ≡ true → ((n : ℕ) → Contains nets n → stop n ≡ true) → (n : ℕ) → Contains (nets ++ net ∷ []) n → stop n ≡ true
stops_more stop nets net s all n h = by (Contains-push_cases nets net n h)
  where
    by : Contains nets n ⊎ (net ≡ n) → stop n ≡ true
    by (inl c) = all n c
    by (inr e) = subst (λ k. stop k ≡ true) e s

-- one more net that is none
pub widest_first : (stop : ℕ → Bool) (table : List (List ℕ)) (nets : List ℕ) (net : ℕ) → stop net ≡ false → ((n : ℕ) → Contains nets n → stop n ≡ true) → IsWidest stop table (nets ++ net ∷ []) net
widest_first stop table nets net s all = record { input = Contains-push nets net; no_stop = s; most = λ other h open_there. by other open_there (Contains-push_cases nets net other h) }
  where
    by : (other : ℕ) → stop other ≡ false → Contains nets other ⊎ (net ≡ other) → is_rather (length (table_entry table net)) net (length (table_entry table other)) other ≡ true
    by other open_there (inl h) = let stopped = all other h in absurd (cc (stopped, open_there))
    by other open_there (inr e) = subst (λ k. is_rather (length (table_entry table net)) net (length (table_entry table k)) k ≡ true) e (itself (length (table_entry table net)) net)

pub widest_more : (stop : ℕ → Bool) (table : List (List ℕ)) (nets : List ℕ) (net best : ℕ) → stop net ≡ false → IsWidest stop table nets best
    → IsWidest stop table (nets ++ net ∷ []) (cond (is_rather (length (table_entry table best)) best (length (table_entry table net)) net) best net)
widest_more stop table nets net best s w = by (is_rather (length (table_entry table best)) best (length (table_entry table net)) net) refl
  where
    old : is_rather (length (table_entry table best)) best (length (table_entry table net)) net ≡ true → (other : ℕ) → stop other ≡ false → Contains nets other ⊎ (net ≡ other)
        → is_rather (length (table_entry table best)) best (length (table_entry table other)) other ≡ true
    old e other open_there (inl h) = w.most other h open_there
    old e other open_there (inr same) = subst (λ k. is_rather (length (table_entry table best)) best (length (table_entry table k)) k ≡ true) same e

    new : is_rather (length (table_entry table best)) best (length (table_entry table net)) net ≡ false → (other : ℕ) → stop other ≡ false → Contains nets other ⊎ (net ≡ other)
        → is_rather (length (table_entry table net)) net (length (table_entry table other)) other ≡ true
    new e other open_there (inl h) =
        rather_then (length (table_entry table net)) net (length (table_entry table best)) best (length (table_entry table other)) other (other_way (length (table_entry table best)) best (length (table_entry table net)) net e) (w.most other h open_there)
    new e other open_there (inr same) = subst (λ k. is_rather (length (table_entry table net)) net (length (table_entry table k)) k ≡ true) same (itself (length (table_entry table net)) net)

    by : (b : Bool) → is_rather (length (table_entry table best)) best (length (table_entry table net)) net ≡ b → IsWidest stop table (nets ++ net ∷ []) (cond b best net)
    by true e = record { input = Contains-append_left nets (net ∷ []) best w.input; no_stop = w.no_stop; most = λ other h open_there. old e other open_there (Contains-push_cases nets net other h) }
    by false e = record { input = Contains-push nets net; no_stop = s; most = λ other h open_there. new e other open_there (Contains-push_cases nets net other h) }

pub entry_read : (table : List (List ℕ)) (net : ℕ) (d : List ℕ) → net < length table → get_or table net d ≡ table_entry table net
entry_read table net d less = grind (arith, common_steps, less)

-- the best so far
pub record Best (stop : ℕ → Bool) (table : List (List ℕ)) (nets : List ℕ) (best : Option ℕ) : Type 0 where
  pub none : best ≡ None → (net : ℕ) → Contains nets net → stop net ≡ true
  pub within : (b : ℕ) → best ≡ Some b → b < length table
  pub some : (b : ℕ) → best ≡ Some b → IsWidest stop table nets b

some_is : (a b : ℕ) → Some a ≡ Some b → a ≡ b
some_is a b e = cc e

pub best_stop : (stop : ℕ → Bool) (table : List (List ℕ)) (nets : List ℕ) (net : ℕ) (best : Option ℕ) → stop net ≡ true → Best stop table nets best → Best stop table (nets ++ net ∷ []) best
best_stop stop table nets net best s h = record { none = λ e. stops_more stop nets net s (h.none e); within = h.within; some = λ b e. widest_stop stop table nets net b s (h.some b e) }

one_best : (stop : ℕ → Bool) (table : List (List ℕ)) (nets : List ℕ) (result : ℕ) → result < length table → IsWidest stop table nets result → Best stop table nets (Some result)
one_best stop table nets result less w = record {
  none = λ e. absurd (cc e);
  within = λ b e. subst (λ k. k < length table) (some_is result b e) less;
  some = λ b e. subst (IsWidest stop table nets) (some_is result b e) w;
}

pub best_on :
    (stop : ℕ → Bool) (table : List (List ℕ)) (nets : List ℕ) (net : ℕ) (best : Option ℕ) (result : ℕ) → stop net ≡ false → net < length table → Best stop table nets best → (best ≡ None → result ≡ net)
    → ((b : ℕ) → best ≡ Some b → result ≡ cond (is_rather (length (table_entry table b)) b (length (table_entry table net)) net) b net) → Best stop table (nets ++ net ∷ []) (Some result)
best_on stop table nets net None result s less h none some =
    let is = none refl in
    one_best stop table (nets ++ net ∷ []) result (subst (λ k. k < length table) (sym is) less) (subst (IsWidest stop table (nets ++ net ∷ [])) (sym is) (widest_first stop table nets net s (h.none refl)))
best_on stop table nets net (Some b) result s less h none some =
    let is = some b refl in
    one_best stop table (nets ++ net ∷ []) result
    (subst (λ k. k < length table) (sym is) (within (is_rather (length (table_entry table b)) b (length (table_entry table net)) net)))
    (subst (IsWidest stop table (nets ++ net ∷ [])) (sym is) (widest_more stop table nets net b s (h.some b refl)))
  where
    within : (t : Bool) → cond t b net < length table
    within true = h.within b refl
    within false = less

-- a queue from which nothing came
pub nothing_left : (xs : List ℕ) → (0 < length xs → false ≡ true) → xs ≡ []
nothing_left [] h = refl
nothing_left (x ∷ xs) h = let e = h (omega arith) in absurd (cc e)
