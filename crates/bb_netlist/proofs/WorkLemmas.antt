-- One gate is taken: its output gets a depth, and its readers wait for one input less.
use Rattle.std.proofs.Common.{◌≡◌, ◌≢◌, ℕ, ◌+◌, ◌<◌, ◌≤◌, ◌==◌, ◌&&◌, not, zero, suc, List, [], ◌∷◌, ◌++◌, length, cond, Bool, true, false, refl, sym, ap, ◌∙◌, arith, rules, slice_set, slice_get, slice_index, get_or, Some, None, subst}
use Rattle.std.proofs.lemmas.Grind.{common_steps}
use Rattle.std.proofs.lemmas.Bool.Decides.{nat_tests}
use Rattle.std.proofs.lemmas.List.{length-set, get_or_past}
use Rattle.std.proofs.lemmas.List.Sums.{sum_by-set}
use Rattle.std.proofs.lemmas.List.Elements.{recursion_from_All}
use Rattle.std.proofs.lemmas.Option.{gets, slice_get_within, get_or_from_slice_get}
use Rattle.std.specs.Prelude.{Option, count_by, All, nat_lt, ◌||◌}
use Rattle.std.specs.List.{AllByRecursion, list_any}
use Rattle.bb_base.specs.Net.{Gate, times}
use Rattle.bb_base.specs.Order.{drivers}
use Rattle.bb_base.specs.Levels.{highest, next_depth, MeetsDepth, depth_in, is_open, open_count, work, due_in, due, IsWork, AreDepths, AreGates, inputs_at, inputs_in}
use Rattle.bb_netlist.proofs.LevelLemmas.{times_more, times_here}
use Rattle.bb_netlist.proofs.DepthLemmas.{with_depth, open_split, highest_stays, highest_low, highest_closed, open_highest, depth_set, depth_there, depth_apart}

-- the last of the ready gates is to be taken
pub last_due :
    (nets : ℕ) (gates : List (Gate ℕ)) (depths : List (Option ℕ)) (waits ready : List ℕ) (h : ℕ) → IsWork nets gates (work depths waits (ready ++ h ∷ []))
    → (g : Gate ℕ) × (slice_get gates h ≡ Some g) × (slice_index waits h ≡ 0) × (depth_in depths g.out ≡ None) × (times h ready ≡ 0)
last_due nets gates depths waits ready h w = go (slice_get gates h) refl (w.ready h) (times_more h h ready)
  where
    open_none : (o : Option ℕ) → is_open o ≡ true → o ≡ None
    open_none None t = refl
    open_none (Some r) t = cc

    go : (o : Option (Gate ℕ)) → slice_get gates h ≡ o → times h (ready ++ h ∷ []) ≡ due gates depths waits h → times h (ready ++ h ∷ []) ≡ times h ready + cond (h == h) 1 0
        → (g : Gate ℕ) × (slice_get gates h ≡ Some g) × (slice_index waits h ≡ 0) × (depth_in depths g.out ≡ None) × (times h ready ≡ 0)
    go None e is more = let no_due : due gates depths waits h ≡ 0 = ap (due_in depths (slice_index waits h)) e in absurd (grind (arith, nat_tests, no_due, is, more))
    go (Some g) e is more =
        let one : due gates depths waits h ≡ cond (slice_index waits h == 0 && is_open (depth_in depths g.out)) 1 0 = ap (due_in depths (slice_index waits h)) e in
        let both : (slice_index waits h == 0 && is_open (depth_in depths g.out)) ≡ true = grind (arith, nat_tests, one, is, more) in
        let waits_none : slice_index waits h ≡ 0 = grind (arith, nat_tests, both) in
        let no_depth : is_open (depth_in depths g.out) ≡ true = grind (arith, nat_tests, both) in
        let none : times h ready ≡ 0 = grind (arith, nat_tests, one, is, more) in
        (g, e, waits_none, open_none (depth_in depths g.out) no_depth, none)

-- the taken gate, and the depth that its output gets
pub record Taking (nets : ℕ) (gates : List (Gate ℕ)) (depths : List (Option ℕ)) (waits ready : List ℕ) (h : ℕ) (g : Gate ℕ) (l : ℕ) : Type 0 where
  pub fit : AreGates nets gates
  pub old : IsWork nets gates (work depths waits (ready ++ h ∷ []))
  pub stands : slice_get gates h ≡ Some g
  pub waits_none : slice_index waits h ≡ 0
  pub no_depth : depth_in depths g.out ≡ None
  pub gone : times h ready ≡ 0
  pub within : g.out < nets
  pub reads : AllByRecursion (λ n. n < nets) g.ins
  pub best : highest (depth_in depths) g.ins ≡ Some l

-- what is left after it: its readers wait for less, and those that wait for nothing then are ready
pub record Taken (gates : List (Gate ℕ)) (waits ready : List ℕ) (g : Gate ℕ) (waits_after ready_after : List ℕ) : Type 0 where
  pub long : length waits_after ≡ length waits
  pub lower : (j : ℕ) → slice_index waits_after j + times g.out (inputs_at gates j) ≡ slice_index waits j
  pub queued : (j : ℕ) → times j ready_after ≡ times j ready + cond (slice_index waits_after j == 0 && not (slice_index waits j == 0)) 1 0

pub open_falls :
    (nets : ℕ) (gates : List (Gate ℕ)) (depths : List (Option ℕ)) (waits ready : List ℕ) (h : ℕ) (g : Gate ℕ) (l r : ℕ) → Taking nets gates depths waits ready h g l
    → count_by is_open (slice_set depths g.out (Some r)) + 1 ≡ count_by is_open depths
open_falls nets gates depths waits ready h g l r t =
    let set = sum_by-set (λ o. cond (is_open o) 1 0) depths g.out (Some r) None (omega (arith, t.within, t.old.long_depths)) in
    let was : cond (is_open (depth_in depths g.out)) 1 0 ≡ 1 = ap {B = ℕ} (λ o. cond (is_open o) 1 0) t.no_depth in
    omega (arith, set, was)

pub depth_low :
    (nets : ℕ) (gates : List (Gate ℕ)) (depths : List (Option ℕ)) (waits ready : List ℕ) (h : ℕ) (g : Gate ℕ) (l : ℕ) → Taking nets gates depths waits ready h g l
    → l + count_by is_open depths ≤ length gates
depth_low nets gates depths waits ready h g l t = highest_low (depth_in depths) nets (count_by is_open depths) (length gates) l g.ins t.old.low t.old.few t.reads t.best

-- the inputs of a gate that stands
inputs_there : (gates : List (Gate ℕ)) (j : ℕ) (f : Gate ℕ) → slice_get gates j ≡ Some f → inputs_at gates j ≡ f.ins
inputs_there gates j f at = ap inputs_in at

same_gate : (gates : List (Gate ℕ)) (h j : ℕ) (g f : Gate ℕ) → slice_get gates h ≡ Some g → slice_get gates j ≡ Some f → j ≡ h → f ≡ g
same_gate gates h j g f a b e = cc

-- a gate whose output has a depth waits for nothing
by_depth_waits_none :
    (depth : ℕ → Option ℕ) (f : Gate ℕ) (r : ℕ) → MeetsDepth depth f → depth f.out ≡ Some r → (l : ℕ) × (highest depth f.ins ≡ Some l)
by_depth_waits_none depth f r met e = go (highest depth f.ins) refl
  where
    go : (o : Option ℕ) → highest depth f.ins ≡ o → (l : ℕ) × (highest depth f.ins ≡ Some l)
    go None h = absurd (cc (met, e, ap next_depth h))
    go (Some l) h = (l, h)

pub after_free :
    (nets : ℕ) (gates : List (Gate ℕ)) (depths : List (Option ℕ)) (waits ready : List ℕ) (h : ℕ) (g : Gate ℕ) (l r : ℕ) → Taking nets gates depths waits ready h g l
    → (n : ℕ) → n < nets → drivers gates n ≡ [] → with_depth (depth_in depths) g.out r n ≡ Some 0
after_free nets gates depths waits ready h g l r t n within none =
    let before = t.old.free n within none in
    depth_apart (depth_in depths) g.out r n (λ e. absurd (cc (before, t.no_depth, ap (depth_in depths) e))) ∙ before

pub after_waits :
    (nets : ℕ) (gates : List (Gate ℕ)) (depths : List (Option ℕ)) (waits ready : List ℕ) (h : ℕ) (g : Gate ℕ) (l r : ℕ) (waits_after ready_after : List ℕ)
    → Taking nets gates depths waits ready h g l → Taken gates waits ready g waits_after ready_after
    → (j : ℕ) (f : Gate ℕ) → slice_get gates j ≡ Some f → slice_index waits_after j ≡ open_count (with_depth (depth_in depths) g.out r) f.ins
after_waits nets gates depths waits ready h g l r waits_after ready_after t k j f at =
    let ins = ap (times g.out) (inputs_there gates j f at) in
    omega (arith, ins, k.lower j, t.old.waits j f at, open_split (depth_in depths) g.out r f.ins t.no_depth)

pub after_met :
    (nets : ℕ) (gates : List (Gate ℕ)) (depths : List (Option ℕ)) (waits ready : List ℕ) (h : ℕ) (g : Gate ℕ) (l : ℕ) → Taking nets gates depths waits ready h g l
    → (j r : ℕ) (f : Gate ℕ) → slice_get gates j ≡ Some f → with_depth (depth_in depths) g.out (l + 1) f.out ≡ Some r → MeetsDepth (with_depth (depth_in depths) g.out (l + 1)) f
after_met nets gates depths waits ready h g l t j r f at by_depth = go (f.out == g.out) refl
  where
    depth : ℕ → Option ℕ
    depth = with_depth (depth_in depths) g.out (l + 1)

    taken : MeetsDepth (with_depth (depth_in depths) g.out (l + 1)) g
    taken =
        let stays = highest_stays (depth_in depths) g.out (l + 1) l g.ins t.no_depth t.best in
        let e : l + 1 ≡ suc l = omega arith in
        depth_there (depth_in depths) g.out (l + 1) ∙ (ap Some e ∙ sym (ap next_depth stays))

    go : (b : Bool) → (f.out == g.out) ≡ b → MeetsDepth (with_depth (depth_in depths) g.out (l + 1)) f
    go true e =
        let same : f ≡ g = same_gate gates h j g f t.stands at (t.fit.apart j h f g at t.stands (search (rules, e))) in
        subst (MeetsDepth (with_depth (depth_in depths) g.out (l + 1))) (sym same) taken
    go false e =
        let apart = depth_apart (depth_in depths) g.out (l + 1) f.out (search (rules, e)) in
        let before : depth_in depths f.out ≡ Some r = sym apart ∙ by_depth in
        let met = t.old.met j r f at before in
        let some = by_depth_waits_none (depth_in depths) f r met before in
        apart ∙ (met ∙ (ap next_depth some.1 ∙ sym (ap next_depth (highest_stays (depth_in depths) g.out (l + 1) some.0 f.ins t.no_depth some.1))))

pub after_low :
    (nets : ℕ) (gates : List (Gate ℕ)) (depths : List (Option ℕ)) (waits ready : List ℕ) (h : ℕ) (g : Gate ℕ) (l : ℕ) → Taking nets gates depths waits ready h g l
    → (n r : ℕ) → n < nets → with_depth (depth_in depths) g.out (l + 1) n ≡ Some r → r + count_by is_open (slice_set depths g.out (Some (l + 1))) ≤ length gates
after_low nets gates depths waits ready h g l t n r within by_depth = go (n == g.out) refl
  where
    go : (b : Bool) → (n == g.out) ≡ b → r + count_by is_open (slice_set depths g.out (Some (l + 1))) ≤ length gates
    go true e =
        let there = depth_there (depth_in depths) g.out (l + 1) in
        let same : n ≡ g.out = search (rules, e) in
        let is : r ≡ l + 1 = cc (by_depth, there, ap (with_depth (depth_in depths) g.out (l + 1)) same) in
        omega (arith, is, depth_low nets gates depths waits ready h g l t, open_falls nets gates depths waits ready h g l (l + 1) t)
    go false e =
        let apart = depth_apart (depth_in depths) g.out (l + 1) n (search (rules, e)) in
        omega (arith, t.old.low n r within (sym apart ∙ by_depth), open_falls nets gates depths waits ready h g l (l + 1) t)

-- what is due of a gate that stands
due_there : (gates : List (Gate ℕ)) (depths : List (Option ℕ)) (waits : List ℕ) (j : ℕ) (o : Option (Gate ℕ)) → slice_get gates j ≡ o → due gates depths waits j ≡ due_in depths (slice_index waits j) o
due_there gates depths waits j o e = ap (due_in depths (slice_index waits j)) e

pub after_ready :
    (nets : ℕ) (gates : List (Gate ℕ)) (depths : List (Option ℕ)) (waits ready : List ℕ) (h : ℕ) (g : Gate ℕ) (l r : ℕ) (waits_after ready_after : List ℕ)
    → Taking nets gates depths waits ready h g l → Taken gates waits ready g waits_after ready_after
    → (j : ℕ) → times j ready_after ≡ due gates (slice_set depths g.out (Some r)) waits_after j
after_ready nets gates depths waits ready h g l r waits_after ready_after t k j = go (slice_get gates j) refl
  where
    set : depth_in (slice_set depths g.out (Some r)) ≡ with_depth (depth_in depths) g.out r
    set = depth_set depths g.out r (omega (arith, t.within, t.old.long_depths))

    more : times j (ready ++ h ∷ []) ≡ times j ready + cond (h == j) 1 0
    more = times_more j h ready

    other : (f : Gate ℕ) → slice_get gates j ≡ Some f → j ≢ h → (b : Bool) → is_open (depth_in depths f.out) ≡ b
        → times j ready_after ≡ cond (slice_index waits_after j == 0 && b) 1 0
    other f at apart true e =
        let was : times j (ready ++ h ∷ []) ≡ cond (slice_index waits j == 0 && is_open (depth_in depths f.out)) 1 0 = t.old.ready j ∙ due_there gates depths waits j (Some f) at in
        grind (arith, nat_tests, was, e, more, apart, k.queued j, k.lower j)
    other f at apart false e =
        let was : times j (ready ++ h ∷ []) ≡ cond (slice_index waits j == 0 && is_open (depth_in depths f.out)) 1 0 = t.old.ready j ∙ due_there gates depths waits j (Some f) at in
        let none = closed f at (depth_in depths f.out) refl e in
        grind (arith, nat_tests, was, e, more, apart, none, k.queued j, k.lower j)
      where
        closed : (f : Gate ℕ) → slice_get gates j ≡ Some f → (o : Option ℕ) → depth_in depths f.out ≡ o → is_open (depth_in depths f.out) ≡ false → slice_index waits j ≡ 0
        closed f at None s e = absurd (cc (e, ap is_open s))
        closed f at (Some x) s e =
            let some = by_depth_waits_none (depth_in depths) f x (t.old.met j x f at s) s in
            t.old.waits j f at ∙ highest_closed (depth_in depths) f.ins some.0 some.1

    go : (o : Option (Gate ℕ)) → slice_get gates j ≡ o → times j ready_after ≡ due gates (slice_set depths g.out (Some r)) waits_after j
    go None e =
        let was : times j (ready ++ h ∷ []) ≡ 0 = t.old.ready j ∙ due_there gates depths waits j None e in
        let now : due gates (slice_set depths g.out (Some r)) waits_after j ≡ 0 = due_there gates (slice_set depths g.out (Some r)) waits_after j None e in
        let past : slice_index waits j ≡ 0 = get_or_past waits j 0 (omega (arith, t.old.long_waits, past_end gates j e)) in
        grind (arith, nat_tests, was, now, past, more, k.queued j)
      where
        past_end : (xs : List (Gate ℕ)) (i : ℕ) → slice_get xs i ≡ None → length xs ≤ i
        past_end xs i e = grind (arith, gets, e)
    go (Some f) e = by (j == h) refl
      where
        now : due gates (slice_set depths g.out (Some r)) waits_after j ≡ cond (slice_index waits_after j == 0 && is_open (depth_in (slice_set depths g.out (Some r)) f.out)) 1 0
        now = due_there gates (slice_set depths g.out (Some r)) waits_after j (Some f) e

        by : (b : Bool) → (j == h) ≡ b → times j ready_after ≡ due gates (slice_set depths g.out (Some r)) waits_after j
        by true s =
            let here : j ≡ h = search (rules, s) in
            let same : f ≡ g = same_gate gates h j g f t.stands e here in
            let there : depth_in (slice_set depths g.out (Some r)) f.out ≡ Some r = (λ i. set i f.out) ∙ (ap (λ (x : Gate ℕ). with_depth (depth_in depths) g.out r x.out) same ∙ depth_there (depth_in depths) g.out r) in
            let shut : is_open (depth_in (slice_set depths g.out (Some r)) f.out) ≡ false = ap is_open there in
            let waits_here : slice_index waits j ≡ 0 = ap (slice_index waits) here ∙ t.waits_none in
            let gone_here : times j ready ≡ 0 = ap (λ x. times x ready) here ∙ t.gone in
            grind (arith, nat_tests, now, shut, waits_here, gone_here, k.queued j)
        by false s =
            let apart : j ≢ h = search (rules, s) in
            let outs : f.out ≢ g.out = λ x. apart (t.fit.apart j h f g e t.stands x) in
            let stays : depth_in (slice_set depths g.out (Some r)) f.out ≡ depth_in depths f.out = (λ i. set i f.out) ∙ depth_apart (depth_in depths) g.out r f.out outs in
            let open_same : is_open (depth_in (slice_set depths g.out (Some r)) f.out) ≡ is_open (depth_in depths f.out) = ap is_open stays in
            other f e apart (is_open (depth_in depths f.out)) refl ∙ (ap (λ b. cond (slice_index waits_after j == 0 && b) 1 0) (sym open_same) ∙ sym now)

-- the next work: all of it
pub next_work :
    (nets : ℕ) (gates : List (Gate ℕ)) (depths : List (Option ℕ)) (waits ready : List ℕ) (h : ℕ) (g : Gate ℕ) (l : ℕ) (waits_after ready_after : List ℕ)
    → Taking nets gates depths waits ready h g l → Taken gates waits ready g waits_after ready_after
    → IsWork nets gates (work (slice_set depths g.out (Some (l + 1))) waits_after ready_after)
next_work nets gates depths waits ready h g l waits_after ready_after t k =
    let set : depth_in (slice_set depths g.out (Some (l + 1))) ≡ with_depth (depth_in depths) g.out (l + 1) = depth_set depths g.out (l + 1) (omega (arith, t.within, t.old.long_depths)) in
    record {
      long_depths = length-set depths g.out (Some (l + 1)) ∙ t.old.long_depths;
      long_waits = k.long ∙ t.old.long_waits;
      free = λ n within none. (λ i. set i n) ∙ after_free nets gates depths waits ready h g l (l + 1) t n within none;
      waits = λ j f at. after_waits nets gates depths waits ready h g l (l + 1) waits_after ready_after t k j f at ∙ sym (λ i. open_count (set i) f.ins);
      met = λ j r f at by_depth. subst (λ depth. MeetsDepth depth f) (sym set) (after_met nets gates depths waits ready h g l t j r f at (sym (λ i. set i f.out) ∙ by_depth));
      ready = after_ready nets gates depths waits ready h g l (l + 1) waits_after ready_after t k;
      low = λ n r within by_depth. after_low nets gates depths waits ready h g l t n r within (sym (λ i. set i n) ∙ by_depth);
      few = omega (arith, t.old.few, open_falls nets gates depths waits ready h g l (l + 1) t);
    }

-- what is known of the last ready gate before it is taken
pub record Due (nets : ℕ) (depths : List (Option ℕ)) (waits ready : List ℕ) (h : ℕ) (g : Gate ℕ) : Type 0 where
  pub waits_none : slice_index waits h ≡ 0
  pub no_depth : depth_in depths g.out ≡ None
  pub gone : times h ready ≡ 0
  pub within : g.out < nets
  pub reads : All (λ n. n < nets) g.ins
  pub closed : open_count (depth_in depths) g.ins ≡ 0

pub is_due :
    (nets : ℕ) (gates : List (Gate ℕ)) (depths : List (Option ℕ)) (waits ready : List ℕ) (h : ℕ) (g : Gate ℕ) → AreGates nets gates
    → IsWork nets gates (work depths waits (ready ++ h ∷ [])) → slice_get gates h ≡ Some g → Due nets depths waits ready h g
is_due nets gates depths waits ready h g fit old at =
    let last = last_due nets gates depths waits ready h old in
    let same : last.0 ≡ g = cc (last.1, at) in
    let small : h < length gates = slice_get_within gates h g at in
    let here : get_or gates h g ≡ g = get_or_from_slice_get gates h g g at in
    record {
      waits_none = last.2;
      no_depth = sym (ap (λ (x : Gate ℕ). depth_in depths x.out) same) ∙ last.3;
      gone = last.4;
      within = subst (λ (x : Gate ℕ). x.out < nets) here (fit.drives h g small);
      reads = subst (λ (x : Gate ℕ). All (λ n. n < nets) x.ins) here (fit.reads h g small);
      closed = sym (old.waits h g at) ∙ last.2;
    }

pub taking :
    (nets : ℕ) (gates : List (Gate ℕ)) (depths : List (Option ℕ)) (waits ready : List ℕ) (h : ℕ) (g : Gate ℕ) (l : ℕ) → AreGates nets gates
    → IsWork nets gates (work depths waits (ready ++ h ∷ [])) → slice_get gates h ≡ Some g → highest (depth_in depths) g.ins ≡ Some l → Taking nets gates depths waits ready h g l
taking nets gates depths waits ready h g l fit old at best =
    let d = is_due nets gates depths waits ready h g fit old at in
    record {
      fit = fit;
      old = old;
      stands = at;
      waits_none = d.waits_none;
      no_depth = d.no_depth;
      gone = d.gone;
      within = d.within;
      reads = recursion_from_All (λ n. n < nets) g.ins d.reads;
      best = best;
    }

-- the readers of its output are gates, each of which waits for as many inputs at least
pub readers_wait :
    (nets : ℕ) (gates : List (Gate ℕ)) (depths : List (Option ℕ)) (waits ready readers : List ℕ) (h : ℕ) (g : Gate ℕ)
    → IsWork nets gates (work depths waits (ready ++ h ∷ [])) → depth_in depths g.out ≡ None → ((j : ℕ) → times j readers ≡ times g.out (inputs_at gates j))
    → (j : ℕ) → times j readers ≤ slice_index waits j
readers_wait nets gates depths waits ready readers h g old none each j = go (slice_get gates j) refl
  where
    go : (o : Option (Gate ℕ)) → slice_get gates j ≡ o → times j readers ≤ slice_index waits j
    go None e =
        let no_input : times g.out (inputs_at gates j) ≡ 0 = ap (λ o. times g.out (inputs_in o)) e in
        omega (arith, each j, no_input)
    go (Some f) e =
        let ins = ap (times g.out) (inputs_there gates j f e) in
        omega (arith, each j, ins, old.waits j f e, open_split (depth_in depths) g.out 0 f.ins none)

-- what stands in a list stands there once at least
stands_once : (xs : List ℕ) (i : ℕ) (d : ℕ) → i < length xs → 1 ≤ times (get_or xs i d) xs
stands_once xs i d small =
    let here = times_here xs i small in
    let same : slice_index xs i ≡ get_or xs i d = grind (arith, common_steps) in
    let some : 1 ≤ times (slice_index xs i) xs = omega (arith, here) in
    subst (λ n. 1 ≤ times n xs) same some

pub readers_within :
    (gates : List (Gate ℕ)) (waits readers : List ℕ) (g : Gate ℕ) → length waits ≡ length gates → ((j : ℕ) → times j readers ≡ times g.out (inputs_at gates j)) → All (λ j. j < length waits) readers
readers_within gates waits readers g long each i d small = go (slice_get gates (get_or readers i d)) refl
  where
    go : (o : Option (Gate ℕ)) → slice_get gates (get_or readers i d) ≡ o → get_or readers i d < length waits
    go None e =
        let no_input : times g.out (inputs_at gates (get_or readers i d)) ≡ 0 = ap (λ o. times g.out (inputs_in o)) e in
        absurd (omega (arith, stands_once readers i d small, each (get_or readers i d), no_input))
    go (Some f) e = omega (arith, long, slice_get_within gates (get_or readers i d) f e)

-- one more gate's count
pub waits_more :
    (waits : List ℕ) (gates : List (Gate ℕ)) (depth : ℕ → Option ℕ) (x : ℕ) (f : Gate ℕ)
    → ((h : ℕ) (g : Gate ℕ) → h < length waits → slice_get gates h ≡ Some g → slice_index waits h ≡ open_count depth g.ins)
    → slice_get gates (length waits) ≡ Some f → x ≡ open_count depth f.ins
    → (h : ℕ) (g : Gate ℕ) → h < length waits + 1 → slice_get gates h ≡ Some g → slice_index (waits ++ x ∷ []) h ≡ open_count depth g.ins
waits_more waits gates depth x f each there is h g small at = go (h == length waits) refl
  where
    go : (b : Bool) → (h == length waits) ≡ b → slice_index (waits ++ x ∷ []) h ≡ open_count depth g.ins
    go true e =
        let here : h ≡ length waits = search (rules, e) in
        let same : f ≡ g = cc (there, at, ap (slice_get gates) here) in
        let last : slice_index (waits ++ x ∷ []) h ≡ x = grind (arith, common_steps, here) in
        last ∙ (is ∙ ap (λ (y : Gate ℕ). open_count depth y.ins) same)
    go false e =
        let apart : h ≢ length waits = search (rules, e) in
        let inside : h < length waits = omega (arith, small, apart) in
        let front : slice_index (waits ++ x ∷ []) h ≡ slice_index waits h = grind (arith, common_steps, inside) in
        front ∙ each h g inside at

-- some gate of a list drives a net that one of it drives
any_there : (gates : List (Gate ℕ)) (h : ℕ) (g : Gate ℕ) → slice_get gates h ≡ Some g → list_any (λ f. f.out == g.out) gates ≡ true
any_there [] h g at = cc
any_there (f ∷ gates) zero g at =
    let same : f ≡ g = cc in
    let here : (f.out == g.out) ≡ true = grind (arith, nat_tests, ap (λ (x : Gate ℕ). x.out) same) in
    ap (λ b. b || list_any (λ x. x.out == g.out) gates) here
any_there (f ∷ gates) (suc h) g at =
    let rest = any_there gates h g at in
    grind (arith, nat_tests, rest)

none_drives : (gates : List (Gate ℕ)) (n : ℕ) → drivers gates n ≡ [] → list_any (λ f. f.out == n) gates ≡ false
none_drives [] n e = refl
none_drives (g ∷ gates) n e = go (g.out == n) refl (none_drives gates n) e
  where
    go : (b : Bool) → (g.out == n) ≡ b → (drivers gates n ≡ [] → list_any (λ f. f.out == n) gates ≡ false) → cond b (g ∷ drivers gates n) (drivers gates n) ≡ [] → (b || list_any (λ f. f.out == n) gates) ≡ false
    go true t rest e = cc
    go false t rest e = rest e

-- the first work
pub first_work :
    (nets : ℕ) (gates : List (Gate ℕ)) (depths : List (Option ℕ)) (waits ready : List ℕ) → AreGates nets gates → length depths ≡ nets → length waits ≡ length gates
    → ((n : ℕ) → n < nets → depth_in depths n ≡ cond (list_any (λ g. g.out == n) gates) None (Some 0)) → count_by is_open depths ≤ length gates
    → ((h : ℕ) (g : Gate ℕ) → slice_get gates h ≡ Some g → slice_index waits h ≡ open_count (depth_in depths) g.ins)
    → ((h : ℕ) → times h ready ≡ cond (nat_lt h (length waits) && slice_index waits h == 0) 1 0)
    → IsWork nets gates (work depths waits ready)
first_work nets gates depths waits ready fit long_depths long_waits first few counts start = record {
  long_depths = long_depths;
  long_waits = long_waits;
  free = λ n within none. first n within ∙ ap (λ b. cond b None (Some 0)) (none_drives gates n none);
  waits = counts;
  met = λ h r g at by_depth. absurd (cc (open_at h g at, by_depth));
  ready = λ h. due_first h (slice_get gates h) refl;
  low = λ n r within by_depth. low_at n r (list_any (λ g. g.out == n) gates) (first n within) by_depth;
  few = few;
}
  where
    open_at : (h : ℕ) (g : Gate ℕ) → slice_get gates h ≡ Some g → depth_in depths g.out ≡ None
    open_at h g at =
        let small : h < length gates = slice_get_within gates h g at in
        let within : g.out < nets = subst (λ (x : Gate ℕ). x.out < nets) (get_or_from_slice_get gates h g g at) (fit.drives h g small) in
        first g.out within ∙ ap (λ b. cond b None (Some 0)) (any_there gates h g at)

    due_first : (h : ℕ) (o : Option (Gate ℕ)) → slice_get gates h ≡ o → times h ready ≡ due gates depths waits h
    due_first h None e =
        let past : length gates ≤ h = grind (arith, gets, e) in
        let none : due gates depths waits h ≡ 0 = due_there gates depths waits h None e in
        let nothing : times h ready ≡ 0 = grind (arith, nat_tests, past, long_waits, start h) in
        nothing ∙ sym none
    due_first h (Some g) e =
        let small : h < length gates = slice_get_within gates h g e in
        let is : due gates depths waits h ≡ cond (slice_index waits h == 0 && is_open (depth_in depths g.out)) 1 0 = due_there gates depths waits h (Some g) e in
        let no_depth : is_open (depth_in depths g.out) ≡ true = ap is_open (open_at h g e) in
        grind (arith, nat_tests, small, long_waits, start h, is, no_depth)

    low_at : (n r : ℕ) (b : Bool) → depth_in depths n ≡ cond b None (Some 0) → depth_in depths n ≡ Some r → r + count_by is_open depths ≤ length gates
    low_at n r true e by_depth = absurd (cc (e, by_depth))
    low_at n r false e by_depth = let zero_depth : 0 ≡ r = cc (e, by_depth) in omega (arith, zero_depth, few)

-- where no gate is ready, every gate meets the equation
pub work_done : (nets : ℕ) (gates : List (Gate ℕ)) (depths : List (Option ℕ)) (waits : List ℕ) → IsWork nets gates (work depths waits []) → AreDepths nets gates (depth_in depths)
work_done nets gates depths waits w = record { free = w.free; driven = all gates 0 (λ h g at. let e : 0 + h ≡ h = omega arith in ap (slice_get gates) e ∙ at) }
  where
    meets : (h : ℕ) (g : Gate ℕ) → slice_get gates h ≡ Some g → (o : Option ℕ) → depth_in depths g.out ≡ o → MeetsDepth (depth_in depths) g
    meets h g at (Some r) e = w.met h r g at e
    meets h g at None e =
        let due_none : due gates depths waits h ≡ 0 = sym (w.ready h) in
        let is : due gates depths waits h ≡ cond (slice_index waits h == 0 && is_open (depth_in depths g.out)) 1 0 = due_there gates depths waits h (Some g) at in
        let no_depth : is_open (depth_in depths g.out) ≡ true = ap is_open e in
        let waiting : slice_index waits h ≢ 0 = grind (arith, nat_tests, due_none, is, no_depth) in
        let some : open_count (depth_in depths) g.ins ≢ 0 = λ z. waiting (w.waits h g at ∙ z) in
        e ∙ sym (ap next_depth (open_highest (depth_in depths) g.ins some))

    all : (gs : List (Gate ℕ)) (from : ℕ) → ((h : ℕ) (g : Gate ℕ) → slice_get gs h ≡ Some g → slice_get gates (from + h) ≡ Some g) → AllByRecursion (MeetsDepth (depth_in depths)) gs
    all [] from there = tt
    all (g ∷ gs) from there = (
      meets (from + 0) g (there 0 g refl) (depth_in depths g.out) refl,
      all gs (from + 1) (λ h f at. let e : from + suc h ≡ from + 1 + h = omega arith in ap (slice_get gates) (sym e) ∙ there (suc h) f at),
    )
