-- Keys of gates, sorted: the order by level, then by number.
use Rattle.std.proofs.Common.{arith, ◌≡◌, ◌≢◌, ◌⊎◌, inl, inr, ℕ, suc, zero, ◌+◌, ◌-◌, ◌*◌, ◌<◌, ◌≤◌, ◌==◌, Bool, true, false, List, [], ◌∷◌, ◌++◌, length, map, take, refl, sym, ap, ◌∙◌, rules, subst, All, get_or, slice_get, slice_index, eqb, nat_lt, Some, None}
use Rattle.std.proofs.lemmas.Grind.{common_steps}
use Rattle.std.proofs.lemmas.Bool.Decides.{nat_tests, Decides-eqb}
use Rattle.std.proofs.lemmas.Option.{slice_get_within, get_or_from_slice_get}
use Rattle.std.proofs.lemmas.Nat.{mod-mul-add}
use Rattle.std.proofs.lemmas.List.{get_or-map}
use Rattle.std.proofs.lemmas.List.FromFn.{get_or-range_with_len, length-range_with_len}
use Rattle.std.proofs.lemmas.List.Sorted.{IsPermutation-map, All-permutation, IsNonDecreasingBy-from_sort}
use Rattle.std.proofs.lemmas.List.Sums.{count_by_more_no}
use Rattle.std.proofs.lemmas.List.Kept.{AllPairs-from_increasing}
use Rattle.std.proofs.lemmas.List.Elements.{recursion_from_All}
use Rattle.std.proofs.lemmas.Map.Keys.{IsDistinct-IsPermutation, IsStrictlyIncreasing-from_distinct}
use Rattle.std.proofs.lemmas.Map.Made.{IsDistinct-from_AllPairs}
use Rattle.std.specs.Prelude.{Option, AllPairs, is_some}
use Rattle.std.specs.Option.{unwrap_or}
use Rattle.std.specs.List.{range_with_len, AllByRecursion}
use Rattle.std.specs.List.Sorted.{IsPermutation, IsSorted}
use Rattle.std.specs.Ordering.{nat_cmp}
use Rattle.bb_base.specs.Net.{Gate}
use Rattle.bb_base.specs.Order.{HasLevel, ComesBefore, IsOrder, IsStuck, IsFirstStuck}
use Rattle.bb_base.specs.Levels.{highest, next_depth, depth_in, AreGates, AreDepths, MeetsDepth, is_open, open_count, IsFirstOpen, number_of, key_at, number_in}
use Rattle.bb_base.proofs.Lists.{get_some, length_map}
use Rattle.bb_base.proofs.BitLemmas.{contains_at}
use Rattle.bb_netlist.proofs.DepthLemmas.{closed_highest}
use Rattle.bb_netlist.proofs.Depths.{level_highest, stuck_open, by_depth_settles, at_net}

-- one more value of a gate, by its number
pub valued_more :
    (values : List ℕ) (gates : List (Gate ℕ)) (value : ℕ → Gate ℕ → ℕ) (x : ℕ) (f : Gate ℕ)
    → ((h : ℕ) (g : Gate ℕ) → h < length values → slice_get gates h ≡ Some g → slice_index values h ≡ value h g)
    → slice_get gates (length values) ≡ Some f → x ≡ value (length values) f
    → (h : ℕ) (g : Gate ℕ) → h < length values + 1 → slice_get gates h ≡ Some g → slice_index (values ++ x ∷ []) h ≡ value h g
valued_more values gates value x f each there is h g small at = go (h == length values) refl
  where
    go : (b : Bool) → (h == length values) ≡ b → slice_index (values ++ x ∷ []) h ≡ value h g
    go true e =
        let here : h ≡ length values = search (rules, e) in
        let same : f ≡ g = cc (there, at, ap (slice_get gates) here) in
        let last : slice_index (values ++ x ∷ []) h ≡ x = grind (arith, common_steps, here) in
        last ∙ (is ∙ (ap (λ k. value k f) (sym here) ∙ ap (value h) same))
    go false e =
        let apart : h ≢ length values = search (rules, e) in
        let inside : h < length values = omega (arith, small, apart) in
        let front : slice_index (values ++ x ∷ []) h ≡ slice_index values h = grind (arith, common_steps, inside) in
        front ∙ each h g inside at

-- lists with the same items at all places
same_list : (xs ys : List ℕ) → length xs ≡ length ys → ((i : ℕ) → i < length xs → slice_index xs i ≡ slice_index ys i) → xs ≡ ys
same_list [] [] long each = refl
same_list [] (y ∷ ys) long each = absurd (omega (arith, long))
same_list (x ∷ xs) [] long each = absurd (omega (arith, long))
same_list (x ∷ xs) (y ∷ ys) long each =
    let tails = same_list xs ys (omega (arith, long)) (λ i small. each (suc i) (omega (arith, small))) in
    ap (λ k. k ∷ xs) (each 0 (omega arith)) ∙ ap (λ ks. y ∷ ks) tails

-- the depth of a gate's output, which is one more than its level
abbrev pub depth_at : (ℕ → Option ℕ) → Option (Gate ℕ) → Option ℕ
depth_at depth None = None
depth_at depth (Some g) = depth g.out

-- the keys of the gates, all of whose outputs have a depth
pub record AreKeys (gates : List (Gate ℕ)) (depth : ℕ → Option ℕ) (keys : List ℕ) : Type 0 where
  pub few : length gates < 4294967296
  pub long : length keys ≡ length gates
  pub each : (h : ℕ) (g : Gate ℕ) → slice_get gates h ≡ Some g → slice_index keys h ≡ key_at (depth g.out) h

-- the number in a key is the gate's
number_kept : (o : Option ℕ) (h : ℕ) → h < 4294967296 → number_in (key_at o h) ≡ h
number_kept o h small = mod-mul-add (number_of o) 4294967296 h small

-- what a key says: the depth and the number of its gate
abbrev SaysGate : (gates : List (Gate ℕ)) (depth : ℕ → Option ℕ) → ℕ → Type 0
SaysGate gates depth key = (h : ℕ) × (g : Gate ℕ) × (slice_get gates h ≡ Some g) × (h < 4294967296) × (key ≡ key_at (depth g.out) h)

all_say : (gates : List (Gate ℕ)) (depth : ℕ → Option ℕ) (keys : List ℕ) → AreKeys gates depth keys → All (SaysGate gates depth) keys
all_say gates depth keys k i d small =
    let there = get_some gates i (omega (arith, small, k.long)) in
    let read : get_or keys i d ≡ slice_index keys i = grind (arith, common_steps, small) in
    (i, there.0, there.1, omega (arith, small, k.long, k.few), read ∙ k.each i there.0 there.1)

-- the numbers in the keys are those of all gates
numbers_all : (gates : List (Gate ℕ)) (depth : ℕ → Option ℕ) (keys : List ℕ) → AreKeys gates depth keys → map number_in keys ≡ range_with_len 0 (length gates)
numbers_all gates depth keys k = same_list (map number_in keys) (range_with_len 0 (length gates)) long each
  where
    long : length (map number_in keys) ≡ length (range_with_len 0 (length gates))
    long = length_map number_in keys ∙ (k.long ∙ sym (length-range_with_len 0 (length gates)))

    each : (i : ℕ) → i < length (map number_in keys) → slice_index (map number_in keys) i ≡ slice_index (range_with_len 0 (length gates)) i
    each i small =
        let inside : i < length keys = omega (arith, small, length_map number_in keys) in
        let there = get_some gates i (omega (arith, inside, k.long)) in
        let zero_in : 0 + i ≡ i = omega arith in
        let kept : number_in (slice_index keys i) ≡ i = ap number_in (k.each i there.0 there.1) ∙ number_kept (depth there.0.out) i (omega (arith, inside, k.long, k.few)) in
        get_or-map number_in keys i 0 0 inside ∙ (kept ∙ (sym zero_in ∙ sym (get_or-range_with_len 0 (length gates) i 0 (omega (arith, inside, k.long)))))

eqb_flips : (x y : ℕ) → eqb x y ≡ eqb y x
eqb_flips x y = grind (arith, nat_tests)

-- keys of different gates differ
keys_apart : (gates : List (Gate ℕ)) (depth : ℕ → Option ℕ) (keys : List ℕ) → AreKeys gates depth keys → AllPairs (λ x y. x ≢ y) keys
keys_apart gates depth keys k i j d less small same =
    let f = get_some gates i (omega (arith, less, small, k.long)) in
    let g = get_some gates j (omega (arith, less, small, k.long)) in
    let a : get_or keys i d ≡ slice_index keys i = grind (arith, common_steps, less, small) in
    let b : get_or keys j d ≡ slice_index keys j = grind (arith, common_steps, small) in
    let at_i = ap number_in (a ∙ k.each i f.0 f.1) ∙ number_kept (depth f.0.out) i (omega (arith, less, small, k.long, k.few)) in
    let at_j = ap number_in (b ∙ k.each j g.0 g.1) ∙ number_kept (depth g.0.out) j (omega (arith, less, small, k.long, k.few)) in
    let equal : i ≡ j = sym at_i ∙ (ap number_in same ∙ at_j) in
    omega (arith, less, equal)

-- sorted keys ascend
sorted_rise : (gates : List (Gate ℕ)) (depth : ℕ → Option ℕ) (keys sorted : List ℕ) → AreKeys gates depth keys → IsPermutation keys sorted → IsSorted nat_cmp sorted → AllPairs (λ x y. x < y) sorted
sorted_rise gates depth keys sorted k moved is =
    let apart = IsDistinct-IsPermutation eqb eqb_flips keys sorted moved (IsDistinct-from_AllPairs Decides-eqb keys (keys_apart gates depth keys k)) in
    AllPairs-from_increasing sorted (IsStrictlyIncreasing-from_distinct sorted (IsNonDecreasingBy-from_sort (λ x. x) sorted is) apart)

-- where all gates' outputs have a depth, each is one more than the highest of its inputs
abbrev pub AllHaveDepth : List (Gate ℕ) → (ℕ → Option ℕ) → Type 0
AllHaveDepth gates depth = (h : ℕ) (g : Gate ℕ) → slice_get gates h ≡ Some g → (l : ℕ) × (highest depth g.ins ≡ Some l) × (depth g.out ≡ Some (suc l))

pair_before :
    (a b h j : ℕ) → h < 4294967296 → j < 4294967296 → a * 4294967296 + h < b * 4294967296 + j → 1 ≤ a → 1 ≤ b → (a - 1 < b - 1) ⊎ ((a - 1 ≡ b - 1) × (h < j))
pair_before a b h j small_h small_j less some_a some_b = go (nat_lt a b) refl
  where
    go : (t : Bool) → nat_lt a b ≡ t → (a - 1 < b - 1) ⊎ ((a - 1 ≡ b - 1) × (h < j))
    go true e = inl (grind (arith, nat_tests, e, some_a, some_b))
    go false e =
        let not_less : b ≤ a = grind (arith, nat_tests, e) in
        let same : a ≡ b = omega (arith, not_less, less, small_h, small_j) in
        inr (ap (λ x. x - 1) same, omega (arith, same, less))

-- sorted keys give the order
pub sorted_order :
    (nets : ℕ) (gates : List (Gate ℕ)) (depth : ℕ → Option ℕ) (keys sorted : List ℕ) → AreGates nets gates → AreDepths nets gates depth → AllHaveDepth gates depth → AreKeys gates depth keys
    → IsPermutation keys sorted → IsSorted nat_cmp sorted → IsOrder gates (map number_in sorted)
sorted_order nets gates depth keys sorted fit r by_depth k moved is = record {
  level = level;
  levels = levels;
  each_once = subst (λ xs. IsPermutation xs (map number_in sorted)) (numbers_all gates depth keys k) (IsPermutation-map number_in keys sorted moved);
  ascending = ascending;
}
  where
    level : ℕ → ℕ
    level h = number_of (depth_at depth (slice_get gates h)) - 1

    level_is : (h l : ℕ) (g : Gate ℕ) → slice_get gates h ≡ Some g → depth g.out ≡ Some (suc l) → number_of (depth_at depth (slice_get gates h)) ≡ suc l
    level_is h l g at e = ap (λ o. number_of (depth_at depth o)) at ∙ ap number_of e

    levels : (h : ℕ) (g : Gate ℕ) → slice_get gates h ≡ Some g → HasLevel gates g (number_of (depth_at depth (slice_get gates h)) - 1)
    levels h g at =
        let small : h < length gates = slice_get_within gates h g at in
        let inside = recursion_from_All (λ n. n < nets) g.ins (subst (λ (x : Gate ℕ). All (λ n. n < nets) x.ins) (get_or_from_slice_get gates h g g at) (fit.reads h g small)) in
        let here = by_depth h g at in
        let is_level : here.0 ≡ number_of (depth_at depth (slice_get gates h)) - 1 = omega (arith, level_is h here.0 g at here.2) in
        subst (HasLevel gates g) is_level (level_highest nets gates depth g here.0 fit r inside here.1)

    ascending : AllPairs (ComesBefore (λ h. number_of (depth_at depth (slice_get gates h)) - 1)) (map number_in sorted)
    ascending i j d less small =
        let small_j : j < length sorted = omega (arith, small, length_map number_in sorted) in
        let small_i : i < length sorted = omega (arith, less, small_j) in
        let all = All-permutation (SaysGate gates depth) keys sorted moved (all_say gates depth keys k) in
        let a = all i 0 small_i in
        let b = all j 0 small_j in
        let rise = sorted_rise gates depth keys sorted k moved is i j 0 less small_j in
        let f = by_depth a.0 a.1 a.2 in
        let g = by_depth b.0 b.1 b.2 in
        let level_a = level_is a.0 f.0 a.1 a.2 f.2 in
        let level_b = level_is b.0 g.0 b.1 b.2 g.2 in
        let depth_a = ap number_of f.2 in
        let depth_b = ap number_of g.2 in
        let at_i = get_or-map number_in sorted i 0 d small_i ∙ (ap number_in a.4 ∙ number_kept (depth a.1.out) a.0 a.3) in
        let at_j = get_or-map number_in sorted j 0 d small_j ∙ (ap number_in b.4 ∙ number_kept (depth b.1.out) b.0 b.3) in
        let lower : number_of (depth a.1.out) * 4294967296 + a.0 < number_of (depth b.1.out) * 4294967296 + b.0 = omega (arith, rise, a.4, b.4) in
        let pair = pair_before (number_of (depth a.1.out)) (number_of (depth b.1.out)) a.0 b.0 a.3 b.3 lower (omega (arith, depth_a)) (omega (arith, depth_b)) in
        let same_a : number_of (depth a.1.out) - 1 ≡ number_of (depth_at depth (slice_get gates a.0)) - 1 = omega (arith, depth_a, level_a) in
        let same_b : number_of (depth b.1.out) - 1 ≡ number_of (depth_at depth (slice_get gates b.0)) - 1 = omega (arith, depth_b, level_b) in
        before (get_or (map number_in sorted) i d) (get_or (map number_in sorted) j d) a.0 b.0 (number_of (depth a.1.out) - 1) (number_of (depth b.1.out) - 1) at_i at_j same_a same_b pair
      where
        before : (x y h j p q : ℕ) → x ≡ h → y ≡ j → p ≡ number_of (depth_at depth (slice_get gates h)) - 1 → q ≡ number_of (depth_at depth (slice_get gates j)) - 1 → (p < q) ⊎ ((p ≡ q) × (h < j))
            → ComesBefore (λ h. number_of (depth_at depth (slice_get gates h)) - 1) x y
        before x y h j p q is_x is_y is_p is_q pair =
            let level_x : p ≡ number_of (depth_at depth (slice_get gates x)) - 1 = is_p ∙ ap (λ z. number_of (depth_at depth (slice_get gates z)) - 1) (sym is_x) in
            let level_y : q ≡ number_of (depth_at depth (slice_get gates y)) - 1 = is_q ∙ ap (λ z. number_of (depth_at depth (slice_get gates z)) - 1) (sym is_y) in
            elim pair [ inl lt ↦ inl (omega (arith, lt, level_x, level_y)) | inr eq ↦ inr (sym level_x ∙ (eq.0 ∙ level_y), omega (arith, eq.1, is_x, is_y)) ]

meets_at : (depth : ℕ → Option ℕ) (gates : List (Gate ℕ)) (h : ℕ) (g : Gate ℕ) → AllByRecursion (MeetsDepth depth) gates → slice_get gates h ≡ Some g → MeetsDepth depth g
meets_at depth [] h g all at = absurd (cc at)
meets_at depth (f ∷ gates) zero g all at = let same : f ≡ g = cc at in subst (MeetsDepth depth) same all.0
meets_at depth (f ∷ gates) (suc h) g all at = meets_at depth gates h g all.1 at

-- where every net has a depth, so do all gates' outputs
pub all_by_depth : (nets : ℕ) (gates : List (Gate ℕ)) (depth : ℕ → Option ℕ) → AreGates nets gates → AreDepths nets gates depth → ((n : ℕ) → n < nets → depth n ≢ None) → AllHaveDepth gates depth
all_by_depth nets gates depth fit r some h g at = go (highest depth g.ins) refl (meets_at depth gates h g r.driven at)
  where
    within : g.out < nets
    within = subst (λ (x : Gate ℕ). x.out < nets) (get_or_from_slice_get gates h g g at) (fit.drives h g (slice_get_within gates h g at))

    go : (o : Option ℕ) → highest depth g.ins ≡ o → MeetsDepth depth g → (l : ℕ) × (highest depth g.ins ≡ Some l) × (depth g.out ≡ Some (suc l))
    go None e met = absurd (some g.out within (met ∙ ap next_depth e))
    go (Some l) e met = (l, e, met ∙ ap next_depth e)

pub none_of : (o : Option ℕ) → is_some o ≡ false → o ≡ None
none_of None e = refl
none_of (Some x) e = absurd (cc e)

pub some_of : (o : Option ℕ) → is_some o ≡ true → is_open o ≡ false
some_of None e = absurd (cc e)
some_of (Some x) e = refl

pub record Closed (depth : ℕ → Option ℕ) (nets : List ℕ) (i : ℕ) : Type 0 where
  pub closed : open_count depth (take i nets) ≡ 0
  pub earlier : (q m : ℕ) → q < i → slice_get nets q ≡ Some m → depth m ≡ None → ⊥

-- one more net that has its depth
pub closed_more :
    (depth : ℕ → Option ℕ) (nets : List ℕ) (i net : ℕ) → slice_get nets i ≡ Some net → is_open (depth net) ≡ false
    → open_count depth (take i nets) ≡ 0 → ((q m : ℕ) → q < i → slice_get nets q ≡ Some m → depth m ≡ None → ⊥) → Closed depth nets (i + 1)
closed_more depth nets i net at shut closed earlier = record {
  closed = count_by_more_no (λ n. is_open (depth n)) nets i net (slice_get_within nets i net at) (ap (λ n. is_open (depth n)) (get_or_from_slice_get nets i net net at) ∙ shut) ∙ closed;
  earlier = λ q m less there none. by q m less there none (q == i) refl;
}
  where
    by : (q m : ℕ) → q < i + 1 → slice_get nets q ≡ Some m → depth m ≡ None → (b : Bool) → (q == i) ≡ b → ⊥
    by q m less there none true e =
        let here : q ≡ i = search (rules, e) in
        let same : m ≡ net = cc (there, at, ap (slice_get nets) here) in
        cc (shut, ap is_open none, ap (λ n. is_open (depth n)) same)
    by q m less there none false e = earlier q m (grind (arith, nat_tests, less, e)) there none

-- what a step back gives
pub record Stepped (depths : List (Option ℕ)) (gates : List (Gate ℕ)) (net result : ℕ) : Type 0 where
  pub within : result < length depths
  pub no_depth : depth_in depths result ≡ None
  pub first : IsFirstStuck gates net result

-- from an open net to the first open input of its gate
pub stepped :
    (gates : List (Gate ℕ)) (depths : List (Option ℕ)) (net number : ℕ) (g : Gate ℕ) (found : Option ℕ) → AreGates (length depths) gates → AreDepths (length depths) gates (depth_in depths)
    → depth_in depths net ≡ None → slice_get gates number ≡ Some g → g.out ≡ net → (found ≡ None → open_count (depth_in depths) g.ins ≡ 0)
    → ((m : ℕ) → found ≡ Some m → IsFirstOpen (depth_in depths) g.ins m) → Stepped depths gates net (unwrap_or found net)
stepped gates depths net number g found fit r no_depth at drives none first = go found refl
  where
    depth : ℕ → Option ℕ
    depth = depth_in depths

    inside : All (λ n. n < length depths) g.ins
    inside = subst (λ (x : Gate ℕ). All (λ n. n < length depths) x.ins) (get_or_from_slice_get gates number g g at) (fit.reads number g (slice_get_within gates number g at))

    input_within : (place m : ℕ) → slice_get g.ins place ≡ Some m → m < length depths
    input_within place m there = subst (λ n. n < length depths) (get_or_from_slice_get g.ins place m m there) (inside place m (slice_get_within g.ins place m there))

    settled : (m : ℕ) → m < length depths → (o : Option ℕ) → depth_in depths m ≡ o → (depth_in depths m ≡ None → ⊥) → IsStuck gates m → ⊥
    settled m small None e not_open stuck = not_open e
    settled m small (Some l) e not_open stuck = by_depth_settles (length depths) gates (depth_in depths) m l fit r (at_net (length depths) (depth_in depths) m small ∙ e) stuck

    go : (o : Option ℕ) → found ≡ o → Stepped depths gates net (unwrap_or found net)
    go None e =
        let closed = closed_highest (depth_in depths) g.ins (none e) in
        let met = meets_at (depth_in depths) gates number g r.driven at in
        absurd (cc (met, ap next_depth closed.1, no_depth, ap (depth_in depths) drives))
    go (Some m) e =
        let f = first m e in
        let is : unwrap_or found net ≡ m = ap (λ o. unwrap_or o net) e in
        let small = input_within f.place m f.stands in
        subst (Stepped depths gates net) (sym is) (record {
          within = small;
          no_depth = f.no_depth;
          first = record {
            gate = g;
            stands = contains_at gates number g at;
            drives = drives;
            place = f.place;
            reads = f.stands;
            stuck = stuck_open (length depths) gates (depth_in depths) m fit r small f.no_depth;
            first = λ q x less there stuck. settled x (input_within q x there) (depth_in depths x) refl (f.first q x less there) stuck;
          };
        })
