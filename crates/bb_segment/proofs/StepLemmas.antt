-- A step of the cuts: the gate at the first place in the queue is done, or one of its inputs is the next cut.
use Rattle.std.proofs.Common.{arith, ◌≡◌, ◌≢◌, ◌⊎◌, inl, inr, ℕ, zero, suc, ◌+◌, ◌*◌, ◌-◌, ◌<◌, ◌≤◌, ◌==◌, ◌||◌, ◌&&◌, Bool, true, false, not, List, [], ◌∷◌, ◌++◌, length, refl, sym, ap, subst, ◌∙◌, rules, cond, slice_set, get_or, Contains, nat_eq, nat_lt, append-nil, append_assoc}
use Rattle.std.specs.Prelude.{count_by, nat_le}
use Rattle.std.specs.List.{list_any}
use Rattle.std.specs.Set.{distinct_count}
use Rattle.std.proofs.lemmas.Grind.{common_steps}
use Rattle.std.proofs.lemmas.Bool.Decides.{nat_tests}
use Rattle.std.proofs.lemmas.List.Sums.{sum_by-set}
use Rattle.bb_base.specs.Net.{Gate}
use Rattle.bb_base.specs.Levels.{AreGates}
use Rattle.bb_base.specs.Order.{IsOrder}
use Rattle.bb_terms.specs.Paths.{is_free, AtNet, Behind}
use Rattle.bb_terms.specs.Support.{stop_at, AreLeaves}
use Rattle.bb_segment.specs.Walks.{HasMore}
use Rattle.bb_terms.specs.Cuts.{StandsAt, is_stop_with, HasSupport, IsTooWide, IsCutRather, IsNextCut, AreTurns, AreCuts}
use Rattle.bb_segment.specs.Cutting.{table_entry, IsUnion, is_rather, IsWidest, AreReadersAt, IsWalked, IsCutting, queue_front, weight}
use Rattle.bb_base.proofs.BooleanLemmas.{or_true, or_false}
use Rattle.bb_base.proofs.Contained.{here, there, either, none_in}
use Rattle.bb_segment.proofs.WalkLemmas.{pairs_push}
use Rattle.bb_segment.proofs.SetLemmas.{true_member, counts_distinct, sorted_up}
use Rattle.std.specs.List.Sorted.{IsPermutation, IsSorted}
use Rattle.std.specs.Ordering.{nat_cmp}
use Rattle.bb_segment.proofs.PlaceLemmas.{gate_of, place_low, one_at, place_for, one_gate, earlier, order_long}
use Rattle.bb_segment.proofs.EntryLemmas.{inputs_leaves, net_of, behind_leaves, by_cuts, not_wide}

-- an entry after a write
pub entry_there : (table : List (List ℕ)) (net : ℕ) (leaves : List ℕ) → net < length table → table_entry (slice_set table net leaves) net ≡ leaves
entry_there table net leaves less = grind (arith, common_steps, less)

pub entry_other : (table : List (List ℕ)) (net other : ℕ) (leaves : List ℕ) → other ≢ net → table_entry (slice_set table net leaves) other ≡ table_entry table other
entry_other [] net other leaves apart = refl
entry_other (x ∷ table) zero zero leaves apart = absurd (apart refl)
entry_other (x ∷ table) zero (suc other) leaves apart = refl
entry_other (x ∷ table) (suc net) zero leaves apart = refl
entry_other (x ∷ table) (suc net) (suc other) leaves apart = entry_other table net other leaves (λ e. apart (ap suc e))

pub stop_there : (stops : List Bool) (net : ℕ) → stop_at (slice_set stops net true) net ≡ true
stop_there [] net = refl
stop_there (x ∷ stops) zero = refl
stop_there (x ∷ stops) (suc net) = stop_there stops net

pub stop_other : (stops : List Bool) (net other : ℕ) (b : Bool) → other ≢ net → stop_at (slice_set stops net b) other ≡ stop_at stops other
stop_other [] net other b apart = refl
stop_other (x ∷ stops) zero zero b apart = absurd (apart refl)
stop_other (x ∷ stops) zero (suc other) b apart = refl
stop_other (x ∷ stops) (suc net) zero b apart = refl
stop_other (x ∷ stops) (suc net) (suc other) b apart = stop_other stops net other b (λ e. apart (ap suc e))

apart_of : (a b : ℕ) → (a == b) ≡ false → a ≢ b
apart_of a b e same = grind (arith, nat_tests, e, same)

same_of : (a b : ℕ) → (a == b) ≡ true → a ≡ b
same_of a b e = search (rules, e)

-- a union of entries that are the same is the same
union_kept : (table other : List (List ℕ)) (nets union : List ℕ) → ((m : ℕ) → Contains nets m → table_entry other m ≡ table_entry table m) → IsUnion table nets union → IsUnion other nets union
union_kept table other nets union same is = record {
  ascending = is.ascending;
  each = λ n. (
    λ c. let u = (is.each n).0 c in (u.0, u.1, subst (λ e. Contains e n) (sym (same u.0 u.1)) u.2),
    λ u. (is.each n).1 (u.0, u.1, subst (λ e. Contains e n) (same u.0 u.1) u.2),
  );
}

module _ (gates : List (Gate ℕ)) (order : List ℕ) (width : ℕ) (stops : List Bool) (table readers : List (List ℕ)) (rest turns : List ℕ) (p : ℕ) (g : Gate ℕ)
    (fit : AreGates (length stops) gates) (ordered : IsOrder gates order) (are : AreReadersAt gates order (length order) readers)
    (later : (q : ℕ) → Contains rest q → p < q) (c : IsCutting gates order width stops table (p ∷ rest) turns) (s : StandsAt gates order p g) where
  -- the gates at all places before are done
  done_before : (q : ℕ) (f : Gate ℕ) → q < p → StandsAt gates order q f → IsWalked (stop_at stops) table width f
  done_before q f less t = c.done q f t (λ h. by (either p rest q h))
    where
      by : (p ≡ q) ⊎ Contains rest q → ⊥
      by (inl e) = omega (arith, less, e)
      by (inr more) = let above = later q more in omega (arith, less, above)

  inputs : (m : ℕ) → Contains g.ins m → AreLeaves gates (stop_at stops) (AtNet m) (table_entry table m)
  inputs m i = inputs_leaves gates order turns (length stops) width (stop_at stops) table fit ordered c.stops_are c.at_stops p done_before g s m i

  to_cuts : (m : ℕ) → Contains g.ins m → HasSupport gates turns (AtNet m) (length (table_entry table m))
  to_cuts m i = record { leaves = table_entry table m; are = by_cuts gates order turns (length stops) width (stop_at stops) table fit ordered c.stops_are c.at_stops (AtNet m) (table_entry table m) (inputs m i); count_is = refl }

  rather_is : (net other : ℕ) → Contains g.ins net → Contains g.ins other → is_rather (length (table_entry table net)) net (length (table_entry table other)) other ≡ true → IsCutRather gates turns net other
  rather_is net other i j e = record {
    count = length (table_entry table net);
    support = to_cuts net i;
    other_count = length (table_entry table other);
    other_support = to_cuts other j;
    rather = by (nat_lt (length (table_entry table other)) (length (table_entry table net))) refl (length (table_entry table other) == length (table_entry table net)) refl e;
  }
    where
      by : (b : Bool) → nat_lt (length (table_entry table other)) (length (table_entry table net)) ≡ b → (d : Bool) → (length (table_entry table other) == length (table_entry table net)) ≡ d
          → (b || d && nat_le net other) ≡ true → (length (table_entry table other) < length (table_entry table net)) ⊎ ((length (table_entry table other) ≡ length (table_entry table net)) × (net ≤ other))
      by true x d y e = inl (grind (arith, nat_tests, x))
      by false x true y e = inr (same_of (length (table_entry table other)) (length (table_entry table net)) y, grind (arith, nat_tests, e))
      by false x false y e = absurd (cc e)

  -- the input to cut of a gate that is too wide is the next cut
  pub is_next : (union : List ℕ) (net : ℕ) → IsUnion table g.ins union → width < length union → IsWidest (stop_at stops) table g.ins net → IsNextCut gates order width turns net
  is_next union net is over w = record {
    place = p;
    gate = g;
    stands = s;
    wide = record {
      count = length union;
      support = record {
        leaves = union;
        are = by_cuts gates order turns (length stops) width (stop_at stops) table fit ordered c.stops_are c.at_stops (Behind g) union (behind_leaves gates (stop_at stops) table g union is inputs);
        count_is = refl;
      };
      wide = over;
    };
    first = λ q f less t wide. not_wide gates order turns (length stops) width (stop_at stops) table fit ordered c.stops_are c.at_stops q (λ r h before. done_before r h (omega (arith, before, less))) f t (done_before q f less t) wide;
    input = w.input;
    no_stop = sym (c.stops_are net) ∙ w.no_stop;
    most = λ other j open_there. rather_is net other w.input j (w.most other j (c.stops_are other ∙ open_there));
  }

  -- where all inputs are stops, the gate is narrow
  pub stops_narrow : (union : List ℕ) → IsUnion table g.ins union → ((m : ℕ) → Contains g.ins m → stop_at stops m ≡ true) → distinct_count nat_eq g.ins ≤ width → width < length union → ⊥
  stops_narrow union is all few over =
      let long = counts_distinct union g.ins is.ascending forth back in
      omega (arith, long, few, over)
    where
      own : (m : ℕ) → Contains g.ins m → table_entry table m ≡ m ∷ []
      own m i = c.at_stops m (net_of gates (length stops) fit g m (gate_of gates order p g s) i) (all m i)

      forth : (n : ℕ) → Contains union n → Contains g.ins n
      forth n h =
          let u = (is.each n).0 h in
          by u.0 u.1 (either u.0 [] n (subst (λ e. Contains e n) (own u.0 u.1) u.2))
        where
          by : (m : ℕ) → Contains g.ins m → (m ≡ n) ⊎ Contains [] n → Contains g.ins n
          by m i (inl e) = subst (Contains g.ins) e i
          by m i (inr none) = absurd (none_in n none)

      back : (n : ℕ) → Contains g.ins n → Contains union n
      back n i = (is.each n).1 (n, i, subst (λ e. Contains e n) (sym (own n i)) (here n []))

  -- places that are not in the queue, but for this one
  not_queued : (q : ℕ) → (Contains rest q → ⊥) → q ≢ p → Contains (p ∷ rest) q → ⊥
  not_queued q out apart h = by (either p rest q h)
    where
      by : (p ≡ q) ⊎ Contains rest q → ⊥
      by (inl e) = apart (sym e)
      by (inr more) = out more

  place_in_order : p < length order
  place_in_order = c.pending p (here p rest)

  -- what reads a net that is driven at this place stands later
  pub readers_later : (net q : ℕ) → g.out ≡ net → Contains (table_entry readers net) q → p < q
  readers_later net q out h =
      let r = are.only q net h in
      earlier gates order q p r.0 g ordered r.1 s (subst (Contains r.0.ins) (sym out) r.2)

  readers_low : (net q : ℕ) → Contains (table_entry readers net) q → q < length order
  readers_low net q h = let r = are.only q net h in place_low gates order q r.0 r.1

  -- a gate whose place isn't queued doesn't read the net
  not_read : (net q : ℕ) (f : Gate ℕ) (queue : List ℕ) → HasMore rest (table_entry readers net) queue → StandsAt gates order q f → (Contains queue q → ⊥) → (m : ℕ) → Contains f.ins m → m ≢ net
  not_read net q f queue adds t out m i same = out (adds.met q (are.all q net f (place_low gates order q f t) t (subst (Contains f.ins) same i)))

  pending_on : (net : ℕ) (queue : List ℕ) → HasMore rest (table_entry readers net) queue → (q : ℕ) → Contains queue q → q < length order
  pending_on net queue adds q h = by (adds.only q h)
    where
      by : Contains rest q ⊎ Contains (table_entry readers net) q → q < length order
      by (inl old) = c.pending q (there p rest q old)
      by (inr new) = readers_low net q new

  -- after a cut
  module _ (net : ℕ) (queue : List ℕ) (input : Contains g.ins net) (no_stop : stop_at stops net ≡ false) (next : IsNextCut gates order width turns net) (adds : HasMore rest (table_entry readers net) queue) where
    any_push : (xs : List ℕ) (n : ℕ) → list_any (nat_eq n) (xs ++ net ∷ []) ≡ (list_any (nat_eq n) xs || (n == net))
    any_push [] n = or_false (n == net)
    any_push (x ∷ xs) n = by (nat_eq n x) (any_push xs n)
      where
        by : (b : Bool) → list_any (nat_eq n) (xs ++ net ∷ []) ≡ (list_any (nat_eq n) xs || (n == net)) → (b || list_any (nat_eq n) (xs ++ net ∷ [])) ≡ ((b || list_any (nat_eq n) xs) || (n == net))
        by true e = refl
        by false e = e

    or_on : (a b d : Bool) → (a || (b || d)) ≡ ((a || b) || d)
    or_on true b d = refl
    or_on false b d = refl

    now_stop : (n : ℕ) → is_stop_with gates (turns ++ net ∷ []) n ≡ (is_stop_with gates turns n || (n == net))
    now_stop n = ap (λ b. is_free gates n || b) (any_push turns n) ∙ or_on (is_free gates n) (list_any (nat_eq n) turns) (n == net)

    stops_on : (n : ℕ) → stop_at (slice_set stops net true) n ≡ is_stop_with gates (turns ++ net ∷ []) n
    stops_on n = by (n == net) refl
      where
        by : (b : Bool) → (n == net) ≡ b → stop_at (slice_set stops net true) n ≡ is_stop_with gates (turns ++ net ∷ []) n
        by true e = ap (stop_at (slice_set stops net true)) (same_of n net e) ∙ stop_there stops net ∙ sym (now_stop n ∙ ap (λ b. is_stop_with gates turns n || b) e ∙ or_true (is_stop_with gates turns n))
        by false e = stop_other stops net n true (apart_of n net e) ∙ c.stops_are n ∙ sym (now_stop n ∙ ap (λ b. is_stop_with gates turns n || b) e ∙ or_false (is_stop_with gates turns n))

    within : net < length table
    within =
        let inside = net_of gates (length stops) fit g net (gate_of gates order p g s) input in
        let long = c.long in
        omega (arith, inside, long)

    at_stops_on : (n : ℕ) → n < length (slice_set stops net true) → stop_at (slice_set stops net true) n ≡ true → table_entry (slice_set table net (net ∷ [])) n ≡ n ∷ []
    at_stops_on n less is = by (n == net) refl
      where
        by : (b : Bool) → (n == net) ≡ b → table_entry (slice_set table net (net ∷ [])) n ≡ n ∷ []
        by true e = let same = same_of n net e in ap (table_entry (slice_set table net (net ∷ []))) same ∙ entry_there table net (net ∷ []) within ∙ ap (λ k. k ∷ []) (sym same)
        by false e =
            let apart = apart_of n net e in
            entry_other table net n (net ∷ []) apart ∙ c.at_stops n (grind (arith, common_steps, less)) (sym (stop_other stops net n true apart) ∙ is)

    done_on : (q : ℕ) (f : Gate ℕ) → StandsAt gates order q f → (Contains queue q → ⊥) → IsWalked (stop_at (slice_set stops net true)) (slice_set table net (net ∷ [])) width f
    done_on q f t out = record {
      union = old.union;
      is = union_kept table (slice_set table net (net ∷ [])) f.ins old.union (λ m i. entry_other table net m (net ∷ []) (not_read net q f queue adds t out m i)) old.is;
      narrow = old.narrow;
      entry = λ open_there.
          let apart : f.out ≢ net = λ e. let stopped = ap (stop_at (slice_set stops net true)) e ∙ stop_there stops net in absurd (cc (stopped, open_there)) in
          entry_other table net f.out (net ∷ []) apart ∙ old.entry (sym (stop_other stops net f.out true apart) ∙ open_there);
    }
      where
        here_queued : Contains queue p
        here_queued = adds.met p (are.all p net g place_in_order s input)

        not_here : q ≢ p
        not_here e = out (subst (Contains queue) (sym e) here_queued)

        old : IsWalked (stop_at stops) table width f
        old = c.done q f t (not_queued q (λ h. out (adds.kept q h)) not_here)

    new_turn : Contains turns net → ⊥
    new_turn h =
        let member = true_member turns net h in
        let stopped = c.stops_are net ∙ ap (λ b. is_free gates net || b) member ∙ or_true (is_free gates net) in
        absurd (cc (stopped, no_stop))

    pub cut_step : IsCutting gates order width (slice_set stops net true) (slice_set table net (net ∷ [])) queue (turns ++ net ∷ [])
    cut_step = record {
      long = let long = c.long in grind (arith, common_steps, long);
      stops_are = stops_on;
      at_stops = at_stops_on;
      done = done_on;
      pending = pending_on net queue adds;
      once = pairs_push turns net c.once new_turn;
      steps = λ more k. subst (AreTurns gates order width []) (sym (append_assoc turns (net ∷ []) more)) (c.steps (net ∷ more) (next, k));
    }

  -- after a gate is done
  module _ (union : List ℕ) (is : IsUnion table g.ins union) (narrow : length union ≤ width) where
    pub settled_step : (stop_at stops g.out ≡ false → table_entry table g.out ≡ union) → IsCutting gates order width stops table rest turns
    settled_step entry = record {
      long = c.long;
      stops_are = c.stops_are;
      at_stops = c.at_stops;
      done = done_on;
      pending = λ q h. c.pending q (there p rest q h);
      once = c.once;
      steps = c.steps;
    }
      where
        done_on : (q : ℕ) (f : Gate ℕ) → StandsAt gates order q f → (Contains rest q → ⊥) → IsWalked (stop_at stops) table width f
        done_on q f t out = by (q == p) refl
          where
            by : (b : Bool) → (q == p) ≡ b → IsWalked (stop_at stops) table width f
            by true e =
                let same = one_at gates order p g f s (subst (λ k. StandsAt gates order k f) (same_of q p e) t) in
                subst (IsWalked (stop_at stops) table width) same (record { union = union; is = is; narrow = narrow; entry = entry })
            by false e = c.done q f t (not_queued q out (apart_of q p e))

    pub write_step : (queue : List ℕ) → stop_at stops g.out ≡ false → g.out < length table → HasMore rest (table_entry readers g.out) queue → IsCutting gates order width stops (slice_set table g.out union) queue turns
    write_step queue no_stop within adds = record {
      long = let long = c.long in grind (arith, common_steps, long);
      stops_are = c.stops_are;
      at_stops = λ n less stopped. entry_other table g.out n union (λ e. let open_there = ap (stop_at stops) e ∙ no_stop in absurd (cc (open_there, stopped))) ∙ c.at_stops n less stopped;
      done = done_on;
      pending = pending_on g.out queue adds;
      once = c.once;
      steps = c.steps;
    }
      where
        done_on : (q : ℕ) (f : Gate ℕ) → StandsAt gates order q f → (Contains queue q → ⊥) → IsWalked (stop_at stops) (slice_set table g.out union) width f
        done_on q f t out = by (f.out == g.out) refl
          where
            kept : (u : List ℕ) → IsUnion table f.ins u → IsUnion (slice_set table g.out union) f.ins u
            kept u h = union_kept table (slice_set table g.out union) f.ins u (λ m i. entry_other table g.out m union (not_read g.out q f queue adds t out m i)) h

            by : (b : Bool) → (f.out == g.out) ≡ b → IsWalked (stop_at stops) (slice_set table g.out union) width f
            by true e =
                let outs = same_of f.out g.out e in
                let same : f ≡ g = one_gate (length stops) gates f g fit (gate_of gates order q f t) (gate_of gates order p g s) outs in
                record {
                  union = union;
                  is = kept union (subst (λ (h : Gate ℕ). IsUnion table h.ins union) (sym same) is);
                  narrow = narrow;
                  entry = λ open_there. ap (table_entry (slice_set table g.out union)) outs ∙ entry_there table g.out union within;
                }
            by false e =
                let apart = apart_of f.out g.out e in
                let not_here : q ≢ p = λ k. apart (ap (λ (h : Gate ℕ). h.out) (one_at gates order p f g (subst (λ j. StandsAt gates order j f) k t) s)) in
                let old = c.done q f t (not_queued q (λ h. out (adds.kept q h)) not_here) in
                record { union = old.union; is = kept old.union old.is; narrow = old.narrow; entry = λ open_there. entry_other table g.out f.out union apart ∙ old.entry open_there }

  -- what falls
  first_above : (xs : List ℕ) (count : ℕ) → p < count → ((q : ℕ) → Contains xs q → p < q) → p < queue_front xs count
  first_above [] count less above = less
  first_above (x ∷ xs) count less above = above x (here x xs)

  falls_by : (a f count : ℕ) → p < f → p < count → a + (count - f) < a + (count - p)
  falls_by a f count less low = omega (arith, less, low)

  pub falls_on : (queue : List ℕ) → ((q : ℕ) → Contains queue q → p < q) → weight (length order) stops queue < weight (length order) stops (p ∷ rest)
  falls_on queue above = falls_by (count_by not stops * (length order + 1)) (queue_front queue (length order)) (length order) (first_above queue (length order) place_in_order above) place_in_order

  pub above_on : (net : ℕ) (queue : List ℕ) → g.out ≡ net → HasMore rest (table_entry readers net) queue → (q : ℕ) → Contains queue q → p < q
  above_on net queue out adds q h = by (adds.only q h)
    where
      by : Contains rest q ⊎ Contains (table_entry readers net) q → p < q
      by (inl old) = later q old
      by (inr new) = readers_later net q out new

  fewer_by : (o less count f : ℕ) → less + 1 ≡ o → less * (count + 1) + (count - f) < o * (count + 1) + (count - p)
  fewer_by o less count f e = subst (λ k. less * (count + 1) + (count - f) < k * (count + 1) + (count - p)) e (grind (arith, common_steps))

  pub falls_cut : (net : ℕ) (queue : List ℕ) → net < length stops → stop_at stops net ≡ false → weight (length order) (slice_set stops net true) queue < weight (length order) stops (p ∷ rest)
  falls_cut net queue less no_stop =
      let e = sum_by-set (λ (b : Bool). cond (not b) 1 0) stops net true true less in
      let was : ◌≡◌ {A = ℕ} (cond (not (get_or stops net true)) 1 0) 1 = ap (λ b. cond (not b) 1 0) no_stop in
      let fewer : count_by not (slice_set stops net true) + 1 ≡ count_by not stops = omega (arith, e, was) in
      fewer_by (count_by not stops) (count_by not (slice_set stops net true)) (length order) (queue_front queue (length order)) fewer

-- before the first step
pub first_cutting :
    (gates : List (Gate ℕ)) (order : List ℕ) (width nets : ℕ) (stops : List Bool) (table : List (List ℕ)) (queue turns : List ℕ) → IsOrder gates order → length stops ≡ nets → length table ≡ nets
    → ((net : ℕ) → stop_at stops net ≡ is_free gates net) → ((net : ℕ) → net < nets → table_entry table net ≡ net ∷ []) → ((place : ℕ) → place < length gates → Contains queue place)
    → ((place : ℕ) → Contains queue place → place < length gates) → turns ≡ [] → IsCutting gates order width stops table queue turns
first_cutting gates order width nets stops table queue turns o long_stops long_table free own all only none = subst (IsCutting gates order width stops table queue) (sym none) (record {
  long = long_table ∙ sym long_stops;
  stops_are = λ net. free net ∙ or_none (is_free gates net);
  at_stops = λ net less s. own net (omega (arith, less, long_stops));
  done = λ place g s out. absurd (out (all place (let low = place_low gates order place g s in let long = order_long gates order o in omega (arith, low, long))));
  pending = λ place h. let low = only place h in let long = order_long gates order o in omega (arith, low, long);
  once = λ i j d less small same. omega (arith, small);
  steps = λ rest k. k;
})
  where
    or_none : (b : Bool) → b ≡ (b || false)
    or_none true = refl
    or_none false = refl

-- behind the last one
pub last_cutting :
    (gates : List (Gate ℕ)) (order : List ℕ) (width : ℕ) (stops : List Bool) (table : List (List ℕ)) (turns : List ℕ) → AreGates (length stops) gates → IsOrder gates order → IsCutting gates order width stops table [] turns
    → AreTurns gates order width [] turns
last_cutting gates order width stops table turns fit ordered c = subst (AreTurns gates order width []) (append-nil turns) (c.steps [] narrow)
  where
    done : (q : ℕ) (g : Gate ℕ) → StandsAt gates order q g → IsWalked (stop_at stops) table width g
    done q g s = c.done q g s (λ h. none_in q h)

    narrow : (g : Gate ℕ) → Contains gates g → IsTooWide gates turns width g → ⊥
    narrow g h wide =
        let at = place_for gates order g ordered h in
        not_wide gates order turns (length stops) width (stop_at stops) table fit ordered c.stops_are c.at_stops at.0 (λ q f less s. done q f s) g at.1 (done at.0 g at.1) wide

-- in ascending order these are the cuts
pub cuts_are :
    (gates : List (Gate ℕ)) (order : List ℕ) (width : ℕ) (stops : List Bool) (table : List (List ℕ)) (turns cuts : List ℕ) → AreGates (length stops) gates → IsOrder gates order → IsCutting gates order width stops table [] turns
    → IsPermutation turns cuts → IsSorted nat_cmp cuts → AreCuts gates order width cuts
cuts_are gates order width stops table turns cuts fit ordered c moved sorted =
    record { turns = turns; steps = last_cutting gates order width stops table turns fit ordered c; same = moved; ascending = sorted_up turns cuts c.once moved sorted }

pub cutting_same :
    (gates : List (Gate ℕ)) (order : List ℕ) (width : ℕ) (stops other_stops : List Bool) (table other_table : List (List ℕ)) (queue turns other_turns : List ℕ) → other_stops ≡ stops → other_table ≡ table → other_turns ≡ turns
    → IsCutting gates order width stops table queue turns → IsCutting gates order width other_stops other_table queue other_turns
cutting_same gates order width stops other_stops table other_table queue turns other_turns s t u c =
    subst (λ x. IsCutting gates order width x other_table queue other_turns) (sym s)
    (subst (λ x. IsCutting gates order width stops x queue other_turns) (sym t) (subst (IsCutting gates order width stops table queue) (sym u) c))
