-- The walk back from a net without a depth, to the first net that is met twice.
use Rattle.std.proofs.Common.{arith, ◌≡◌, ◌≢◌, ℕ, suc, zero, ◌+◌, ◌<◌, ◌==◌, Bool, true, false, List, [], ◌∷◌, ◌++◌, length, take, drop, refl, sym, ap, ◌∙◌, rules, cond, subst, get_or, slice_get, slice_set, nat_lt, Some, None, length-append}
use Rattle.std.proofs.lemmas.Grind.{common_steps}
use Rattle.std.proofs.lemmas.Bool.Decides.{nat_tests}
use Rattle.std.proofs.lemmas.List.Sums.{sum_by-set}
use Rattle.std.proofs.lemmas.List.{length-set, get_or_default}
use Rattle.std.proofs.lemmas.Option.{slice_get_within, get_or_from_slice_get, slice_get-get_or}
use Rattle.std.specs.Prelude.{Option, AllPairs, count_by}
use Rattle.bb_base.specs.Net.{Gate}
use Rattle.bb_base.specs.Firsts.{IsFirst}
use Rattle.bb_base.specs.Order.{LeadsTo, BeginsWith, IsFirstStuck, IsLeastStuck, IsLoop, IsCycle, Reads, IsStuck}
use Rattle.bb_base.specs.Levels.{depth_in, is_open, AreGates, AreDepths}
use Rattle.bb_base.proofs.Lists.{get_front}
use Rattle.bb_base.proofs.BitLemmas.{contains_at}
use Rattle.bb_netlist.proofs.DepthLemmas.{depth_set, depth_there, depth_apart, with_depth}
use Rattle.bb_netlist.proofs.OrderLemmas.{Stepped}
use Rattle.bb_netlist.proofs.Depths.{stuck_open, by_depth_settles, at_net}

-- the walk so far, the places of its nets in it, and the net that comes next
pub record Walk (gates : List (Gate ℕ)) (depths places : List (Option ℕ)) (start : ℕ) (walk : List ℕ) (net : ℕ) : Type 0 where
  pub long : length places ≡ length depths
  pub within : net < length depths
  pub no_depth : depth_in depths net ≡ None
  pub leads : LeadsTo (IsFirstStuck gates) walk net
  pub begins : BeginsWith (walk ++ net ∷ []) (λ n. n ≡ start)
  pub seen : (m p : ℕ) → m < length depths → depth_in places m ≡ Some p → slice_get walk p ≡ Some m
  pub unseen : (m q : ℕ) → m < length depths → depth_in places m ≡ None → slice_get walk q ≡ Some m → ⊥
  pub once : AllPairs (λ a b. a ≢ b) walk
  pub count : length walk + count_by is_open places ≡ length depths

pub leads_more : (step : ℕ → ℕ → Type 0) (walk : List ℕ) (net next : ℕ) → LeadsTo step walk net → step net next → LeadsTo step (walk ++ net ∷ []) next
leads_more step [] net next leads one = one
leads_more step (a ∷ []) net next leads one = (leads, one)
leads_more step (a ∷ b ∷ walk) net next leads one = (leads.0, leads_more step (b ∷ walk) net next leads.1 one)

pub begins_more : (P : ℕ → Type 0) (walk : List ℕ) (net : ℕ) (more : List ℕ) → BeginsWith (walk ++ net ∷ []) P → BeginsWith ((walk ++ net ∷ []) ++ more) P
begins_more P [] net more begins = begins
begins_more P (a ∷ walk) net more begins = begins

-- one item behind others
pub last_there : (walk : List ℕ) (net : ℕ) → slice_get (walk ++ net ∷ []) (length walk) ≡ Some net
last_there [] net = refl
last_there (a ∷ walk) net = last_there walk net

pub once_more : (walk : List ℕ) (net : ℕ) → AllPairs (λ a b. a ≢ b) walk → ((q : ℕ) → slice_get walk q ≡ Some net → ⊥) → AllPairs (λ a b. a ≢ b) (walk ++ net ∷ [])
once_more walk net once fresh i j d less small same = go (nat_lt j (length walk)) refl
  where
    long : length (walk ++ net ∷ []) ≡ length walk + 1
    long = length-append walk (net ∷ [])

    at : (k : ℕ) → k < length walk → get_or (walk ++ net ∷ []) k d ≡ get_or walk k d
    at k inside = grind (arith, common_steps, inside)

    go : (b : Bool) → nat_lt j (length walk) ≡ b → ⊥
    go true e =
        let inside : j < length walk = grind (arith, nat_tests, e) in
        once i j d less inside (sym (at i (omega (arith, less, inside))) ∙ (same ∙ at j inside))
    go false e =
        let last : j ≡ length walk = grind (arith, nat_tests, e, small, long) in
        let inside : i < length walk = omega (arith, less, last) in
        let net_there : get_or (walk ++ net ∷ []) j d ≡ net = ap (λ k. get_or (walk ++ net ∷ []) k d) last ∙ get_or_from_slice_get (walk ++ net ∷ []) (length walk) net d (last_there walk net) in
        let equal : get_or walk i d ≡ net = sym (at i inside) ∙ (same ∙ net_there) in
        fresh i (slice_get-get_or walk i d inside ∙ ap Some equal)

pub walk_on :
    (gates : List (Gate ℕ)) (depths places : List (Option ℕ)) (start : ℕ) (walk : List ℕ) (net next : ℕ) → Walk gates depths places start walk net → depth_in places net ≡ None
    → Stepped depths gates net next → Walk gates depths (slice_set places net (Some (length walk))) start (walk ++ net ∷ []) next
walk_on gates depths places start walk net next w new step = record {
  long = length-set places net (Some (length walk)) ∙ w.long;
  within = step.within;
  no_depth = step.no_depth;
  leads = leads_more (IsFirstStuck gates) walk net next w.leads step.first;
  begins = begins_more (λ n. n ≡ start) walk net (next ∷ []) w.begins;
  seen = λ m p small at. seen m p small (sym (λ i. set i m) ∙ at) (m == net) refl;
  unseen = λ m q small none there. unseen m q small (sym (λ i. set i m) ∙ none) there (m == net) refl (nat_lt q (length walk)) refl;
  once = once_more walk net w.once (λ q there. w.unseen net q w.within new there);
  count = count;
}
  where
    inside : net < length places
    inside = omega (arith, w.within, w.long)

    set : depth_in (slice_set places net (Some (length walk))) ≡ with_depth (depth_in places) net (length walk)
    set = depth_set places net (length walk) (omega (arith, w.within, w.long))

    long : length (walk ++ net ∷ []) ≡ length walk + 1
    long = length-append walk (net ∷ [])

    seen : (m p : ℕ) → m < length depths → with_depth (depth_in places) net (length walk) m ≡ Some p → (b : Bool) → (m == net) ≡ b → slice_get (walk ++ net ∷ []) p ≡ Some m
    seen m p small at true e =
        let same : m ≡ net = search (rules, e) in
        let place : length walk ≡ p = cc (at, depth_there (depth_in places) net (length walk), ap (with_depth (depth_in places) net (length walk)) same) in
        ap (slice_get (walk ++ net ∷ [])) (sym place) ∙ (last_there walk net ∙ ap Some (sym same))
    seen m p small at false e =
        let old = w.seen m p small (sym (depth_apart (depth_in places) net (length walk) m (search (rules, e))) ∙ at) in
        get_front walk (net ∷ []) p (slice_get_within walk p m old) ∙ old

    unseen : (m q : ℕ) → m < length depths → with_depth (depth_in places) net (length walk) m ≡ None → slice_get (walk ++ net ∷ []) q ≡ Some m → (b : Bool) → (m == net) ≡ b → (d : Bool) → nat_lt q (length walk) ≡ d → ⊥
    unseen m q small none there true e d f =
        let same : m ≡ net = search (rules, e) in
        cc (none, depth_there (depth_in places) net (length walk), ap (with_depth (depth_in places) net (length walk)) same)
    unseen m q small none there false e true f =
        let front : q < length walk = grind (arith, nat_tests, f) in
        w.unseen m q small (sym (depth_apart (depth_in places) net (length walk) m (search (rules, e))) ∙ none) (sym (get_front walk (net ∷ []) q front) ∙ there)
    unseen m q small none there false e false f =
        let last : q ≡ length walk = grind (arith, nat_tests, f, long, slice_get_within (walk ++ net ∷ []) q m there) in
        let apart : m ≢ net = search (rules, e) in
        apart (cc (there, last_there walk net, ap (slice_get (walk ++ net ∷ [])) last))

    count : length (walk ++ net ∷ []) + count_by is_open (slice_set places net (Some (length walk))) ≡ length depths
    count =
        let fewer = sum_by-set (λ o. cond (is_open o) 1 0) places net (Some (length walk)) None (omega (arith, w.within, w.long)) in
        let was : cond (is_open (depth_in places net)) 1 0 ≡ 1 = ap {B = ℕ} (λ o. cond (is_open o) 1 0) new in
        omega (arith, fewer, was, long, w.count)

pub drop_begins : (walk : List ℕ) (p net : ℕ) → slice_get walk p ≡ Some net → BeginsWith (drop p walk) (λ n. n ≡ net)
drop_begins [] p net at = absurd (cc at)
drop_begins (a ∷ walk) zero net at = cc at
drop_begins (a ∷ walk) (suc p) net at = drop_begins walk p net at

pub begins_front : (walk : List ℕ) (net p : ℕ) (P : ℕ → Type 0) → slice_get walk p ≡ Some net → BeginsWith (walk ++ net ∷ []) P → BeginsWith walk P
begins_front [] net p P at begins = absurd (cc at)
begins_front (a ∷ walk) net p P at begins = begins

pub begins_as : (walk : List ℕ) (start : ℕ) (P : ℕ → Type 0) → P start → BeginsWith walk (λ n. n ≡ start) → BeginsWith walk P
begins_as [] start P h begins = begins
begins_as (a ∷ walk) start P h begins = subst P (sym begins) h

least_stuck : (gates : List (Gate ℕ)) (depths : List (Option ℕ)) (start : ℕ) → AreGates (length depths) gates → AreDepths (length depths) gates (depth_in depths)
    → IsFirst (λ m. depth_in depths m ≡ None) (length depths) start → IsLeastStuck gates start
least_stuck gates depths start fit r first = record {
  stuck = stuck_open (length depths) gates (depth_in depths) start fit r first.within first.here;
  least = λ m less stuck. settled m less stuck (depth_in depths m) refl;
}
  where
    settled : (m : ℕ) → m < start → IsStuck gates m → (o : Option ℕ) → depth_in depths m ≡ o → ⊥
    settled m less stuck None e = first.before m less e
    settled m less stuck (Some l) e = by_depth_settles (length depths) gates (depth_in depths) m l fit r (at_net (length depths) (depth_in depths) m (omega (arith, less, first.within)) ∙ e) stuck

-- a list is its front and what stands behind it
pub take_drop : {X : Type 0} (k : ℕ) (xs : List X) → take k xs ++ drop k xs ≡ xs
take_drop zero [] = refl
take_drop zero (x ∷ xs) = refl
take_drop (suc k) [] = refl
take_drop (suc k) (x ∷ xs) = ap (λ ys. x ∷ ys) (take_drop k xs)

-- where the next net stands in the walk, the walk from it on is the loop
pub walk_ends :
    (gates : List (Gate ℕ)) (depths places : List (Option ℕ)) (start : ℕ) (walk : List ℕ) (net p : ℕ) → AreGates (length depths) gates → AreDepths (length depths) gates (depth_in depths)
    → IsFirst (λ m. depth_in depths m ≡ None) (length depths) start → Walk gates depths places start walk net → depth_in places net ≡ Some p → IsLoop gates (drop p walk)
walk_ends gates depths places start walk net p fit r first w there =
    let at = w.seen net p w.within there in
    let whole : take p walk ++ drop p walk ≡ walk = take_drop p walk in
    record {
      before = take p walk;
      first = net;
      start = subst (λ ns. BeginsWith ns (IsLeastStuck gates)) (sym whole) (begins_as walk start (IsLeastStuck gates) (least_stuck gates depths start fit r first) (begins_front walk net p (λ n. n ≡ start) at w.begins));
      walk = subst (λ ns. LeadsTo (IsFirstStuck gates) ns net) (sym whole) w.leads;
      again = drop_begins walk p net at;
      met_once = subst (AllPairs (λ a b. a ≢ b)) (sym whole) w.once;
    }

-- a loop is a cycle
leads_back : (step : ℕ → ℕ → Type 0) (xs ys : List ℕ) (last : ℕ) → LeadsTo step (xs ++ ys) last → LeadsTo step ys last
leads_back step [] ys last leads = leads
leads_back step (x ∷ []) [] last leads = tt
leads_back step (x ∷ []) (y ∷ ys) last leads = leads.1
leads_back step (x ∷ z ∷ xs) ys last leads = leads_back step (z ∷ xs) ys last leads.1

leads_as : (step other : ℕ → ℕ → Type 0) → ((a b : ℕ) → step a b → other a b) → (xs : List ℕ) (last : ℕ) → LeadsTo step xs last → LeadsTo other xs last
leads_as step other each [] last leads = leads
leads_as step other each (x ∷ []) last leads = each x last leads
leads_as step other each (x ∷ y ∷ xs) last leads = (each x y leads.0, leads_as step other each (y ∷ xs) last leads.1)

stuck_reads : (gates : List (Gate ℕ)) (a b : ℕ) → IsFirstStuck gates a b → Reads gates a b
stuck_reads gates a b s = record { gate = s.gate; stands = s.stands; drives = s.drives; reads = contains_at s.gate.ins s.place b s.reads }

pub loop_cycles : (gates : List (Gate ℕ)) (nets : List ℕ) → IsLoop gates nets → IsCycle gates nets
loop_cycles gates [] l = l.again
loop_cycles gates (n ∷ ns) l =
    let back = leads_back (IsFirstStuck gates) l.before (n ∷ ns) l.first l.walk in
    subst (LeadsTo (Reads gates) (n ∷ ns)) (sym l.again) (leads_as (IsFirstStuck gates) (Reads gates) (stuck_reads gates) (n ∷ ns) l.first back)

-- a place as it is read
pub place_read : (places : List (Option ℕ)) (inside net : ℕ) (read : Option ℕ) → inside ≡ net → net < length places → read ≡ get_or places inside read → depth_in places net ≡ read
place_read places inside net read same small is =
    let moved : get_or places net read ≡ depth_in places net = get_or_default places net read None small in
    sym (is ∙ (ap (λ k. get_or places k read) same ∙ moved))
