-- Lists of distinct numbers: what they have, in ascending order, and how many they are.
use Rattle.std.proofs.Common.{arith, ◌≡◌, ◌≢◌, ◌⊎◌, inl, inr, ℕ, ◌+◌, ◌<◌, ◌≤◌, Bool, true, false, List, [], ◌∷◌, ◌++◌, length, take, append-nil, refl, sym, ap, ◌∙◌, subst, cond, get_or, Contains, nat_eq}
use Rattle.std.proofs.lemmas.Bool.Decides.{nat_tests, Decides-eqb}
use Rattle.std.proofs.lemmas.Cmp.{nat_eq_equiv}
use Rattle.std.proofs.lemmas.Map.Made.{is_member-Decides, length-from_same_keys, length-from_keys, length-le_from_is_member, IsDistinct-from_AllPairs}
use Rattle.std.proofs.lemmas.Map.Keys.{IsStrictlyIncreasing-from_distinct, IsDistinct-IsPermutation}
use Rattle.std.proofs.lemmas.List.Sorted.{IsNonDecreasingBy-from_sort, Contains-permutation, IsPermutation-sym}
use Rattle.std.proofs.lemmas.List.Kept.{AllPairs-from_increasing, IsStrictlyIncreasing-filter, AllPairs-filter}
use Rattle.std.proofs.lemmas.List.Sums.{length-filter, count_by_more_yes, count_by_more_no, sum_by-take-le}
use Rattle.std.proofs.lemmas.List.Elements.{filter_more}
use Rattle.std.proofs.lemmas.List.FromFn.{length-range_with_len, get_or-range_with_len}
use Rattle.std.specs.Prelude.{AllPairs, filter, count_by}
use Rattle.std.specs.Set.{is_member, distinct_count}
use Rattle.std.specs.List.{IsDistinct, range_with_len}
use Rattle.std.specs.List.Sorted.{IsPermutation, IsSorted, IsStrictlyIncreasing}
use Rattle.std.specs.Ordering.{nat_cmp}
use Rattle.bb_segment.specs.Among.{AreStops}
use Rattle.bb_base.proofs.Contained.{here, there, either, none_in}

pub member_true : (xs : List ℕ) (q : ℕ) → is_member nat_eq xs q ≡ true → Contains xs q
member_true xs q e = (is_member-Decides Decides-eqb xs q).0 e

pub true_member : (xs : List ℕ) (q : ℕ) → Contains xs q → is_member nat_eq xs q ≡ true
true_member xs q c = (is_member-Decides Decides-eqb xs q).1 c

pub same_members : (xs ys : List ℕ) → ((n : ℕ) → Contains xs n → Contains ys n) → ((n : ℕ) → Contains ys n → Contains xs n) → (q : ℕ) → is_member nat_eq xs q ≡ is_member nat_eq ys q
same_members xs ys forth back q = by (is_member nat_eq xs q) refl (is_member nat_eq ys q) refl
  where
    by : (b : Bool) → is_member nat_eq xs q ≡ b → (d : Bool) → is_member nat_eq ys q ≡ d → is_member nat_eq xs q ≡ is_member nat_eq ys q
    by true e true f = e ∙ sym f
    by true e false f = let g = true_member ys q (forth q (member_true xs q e)) in absurd (cc (f, g))
    by false e true f = let g = true_member xs q (back q (member_true ys q f)) in absurd (cc (e, g))
    by false e false f = e ∙ sym f

pub distinct_of : (xs : List ℕ) → AllPairs (λ a b. a ≢ b) xs → IsDistinct nat_eq xs
distinct_of xs apart = IsDistinct-from_AllPairs Decides-eqb xs apart

pub up_apart : (xs : List ℕ) → IsStrictlyIncreasing xs → AllPairs (λ a b. a ≢ b) xs
up_apart xs up i j d less small same = let below = AllPairs-from_increasing xs up i j d less small in omega (arith, below, same)

-- lists of distinct numbers that have the same are equally long
pub equally_long : (xs ys : List ℕ) → AllPairs (λ a b. a ≢ b) xs → AllPairs (λ a b. a ≢ b) ys → ((n : ℕ) → Contains xs n → Contains ys n) → ((n : ℕ) → Contains ys n → Contains xs n) → length xs ≡ length ys
equally_long xs ys h k forth back = length-from_same_keys nat_eq_equiv xs ys (distinct_of xs h) (distinct_of ys k) (same_members xs ys forth back)

-- and as long as a list with repetitions has distinct numbers
pub counts_distinct : (xs ys : List ℕ) → IsStrictlyIncreasing xs → ((n : ℕ) → Contains xs n → Contains ys n) → ((n : ℕ) → Contains ys n → Contains xs n) → length xs ≡ distinct_count nat_eq ys
counts_distinct xs ys up forth back = length-from_keys nat_eq_equiv xs ys (distinct_of xs (up_apart xs up)) (same_members xs ys forth back)

eqb_flips : (x y : ℕ) → nat_eq x y ≡ nat_eq y x
eqb_flips x y = grind (arith, nat_tests)

-- sorted distinct numbers ascend
pub sorted_up : (xs ys : List ℕ) → AllPairs (λ a b. a ≢ b) xs → IsPermutation xs ys → IsSorted nat_cmp ys → IsStrictlyIncreasing ys
sorted_up xs ys apart moved is = IsStrictlyIncreasing-from_distinct ys (IsNonDecreasingBy-from_sort (λ x. x) ys is) (IsDistinct-IsPermutation nat_eq eqb_flips xs ys moved (distinct_of xs apart))

-- what a filter keeps
pub in_filter : (p : ℕ → Bool) (xs : List ℕ) (n : ℕ) → Contains xs n → p n ≡ true → Contains (filter p xs) n
in_filter p [] n h e = absurd (none_in n h)
in_filter p (x ∷ xs) n h e = by (p x) refl (either x xs n h) (λ c. in_filter p xs n c e)
  where
    by : (b : Bool) → p x ≡ b → (x ≡ n) ⊎ Contains xs n → (Contains xs n → Contains (filter p xs) n) → Contains (cond b (x ∷ filter p xs) (filter p xs)) n
    by true f (inl s) rest = subst (Contains (x ∷ filter p xs)) s (here x (filter p xs))
    by true f (inr c) rest = there x (filter p xs) n (rest c)
    by false f (inl s) rest = let g = ap p s in absurd (cc (e, f, g))
    by false f (inr c) rest = rest c

pub of_filter : (p : ℕ → Bool) (xs : List ℕ) (n : ℕ) → Contains (filter p xs) n → Contains xs n × (p n ≡ true)
of_filter p [] n h = absurd (none_in n h)
of_filter p (x ∷ xs) n h = by (p x) refl h (λ c. of_filter p xs n c)
  where
    at : p x ≡ true → (x ≡ n) ⊎ Contains (filter p xs) n → (Contains (filter p xs) n → Contains xs n × (p n ≡ true)) → Contains (x ∷ xs) n × (p n ≡ true)
    at f (inl s) rest = (subst (Contains (x ∷ xs)) s (here x xs), subst (λ k. p k ≡ true) s f)
    at f (inr c) rest = let r = rest c in (there x xs n r.0, r.1)

    by : (b : Bool) → p x ≡ b → Contains (cond b (x ∷ filter p xs) (filter p xs)) n → (Contains (filter p xs) n → Contains xs n × (p n ≡ true)) → Contains (x ∷ xs) n × (p n ≡ true)
    by true f c rest = at f (either x (filter p xs) n c) rest
    by false f c rest = let r = rest c in (there x xs n r.0, r.1)

-- sorted, they are the stops among the nets
pub stops_sorted : (stop : ℕ → Bool) (nets ys : List ℕ) → AllPairs (λ a b. a ≢ b) nets → IsPermutation (filter stop nets) ys → IsSorted nat_cmp ys → AreStops stop nets ys
stops_sorted stop nets ys apart moved is = record {
  ascending = sorted_up (filter stop nets) ys (AllPairs-filter (λ a b. a ≢ b) stop nets apart) moved is;
  each = λ n. (
    λ c. of_filter stop nets n (Contains-permutation ys (filter stop nets) n (IsPermutation-sym (filter stop nets) ys moved) c),
    λ h. Contains-permutation (filter stop nets) ys n moved (in_filter stop nets n h.0 h.1),
  );
}

range_up : (n : ℕ) → IsStrictlyIncreasing (range_with_len 0 n)
range_up n k less =
    let long = length-range_with_len 0 n in
    let a = get_or-range_with_len 0 n k 0 (omega (arith, less, long)) in
    let b = get_or-range_with_len 0 n (k + 1) 0 (omega (arith, less, long)) in
    omega (arith, a, b)

pub in_range : (n k : ℕ) → k < n → Contains (range_with_len 0 n) k
in_range n k less =
    let long = length-range_with_len 0 n in
    let a = get_or-range_with_len 0 n k k less in
    (k, omega (arith, less, long), omega (arith, a))

-- some list in ascending order has the stops among distinct nets, and it is as long as they are many
pub stops_listed : (stop : ℕ → Bool) (nets : List ℕ) (count : ℕ) → AllPairs (λ a b. a ≢ b) nets → ((n : ℕ) → Contains nets n → n < count) → (all : List ℕ) × AreStops stop nets all × (length all ≡ count_by stop nets)
stops_listed stop nets count apart within = (all, are, long)
  where
    all : List ℕ
    all = filter (λ n. is_member nat_eq (filter stop nets) n) (range_with_len 0 count)

    up : IsStrictlyIncreasing (filter (λ n. is_member nat_eq (filter stop nets) n) (range_with_len 0 count))
    up = IsStrictlyIncreasing-filter (λ n. is_member nat_eq (filter stop nets) n) (range_with_len 0 count) (range_up count)

    forth : (n : ℕ) → Contains (filter (λ n. is_member nat_eq (filter stop nets) n) (range_with_len 0 count)) n → Contains (filter stop nets) n
    forth n c = member_true (filter stop nets) n (of_filter (λ n. is_member nat_eq (filter stop nets) n) (range_with_len 0 count) n c).1

    back : (n : ℕ) → Contains (filter stop nets) n → Contains (filter (λ n. is_member nat_eq (filter stop nets) n) (range_with_len 0 count)) n
    back n c = in_filter (λ n. is_member nat_eq (filter stop nets) n) (range_with_len 0 count) n (in_range count n (within n (of_filter stop nets n c).0)) (true_member (filter stop nets) n c)

    are : AreStops stop nets (filter (λ n. is_member nat_eq (filter stop nets) n) (range_with_len 0 count))
    are = record { ascending = up; each = λ n. (λ c. of_filter stop nets n (forth n c), λ h. back n (in_filter stop nets n h.0 h.1)) }

    long : length (filter (λ n. is_member nat_eq (filter stop nets) n) (range_with_len 0 count)) ≡ count_by stop nets
    long = equally_long (filter (λ n. is_member nat_eq (filter stop nets) n) (range_with_len 0 count)) (filter stop nets) (up_apart (filter (λ n. is_member nat_eq (filter stop nets) n) (range_with_len 0 count)) up)
        (AllPairs-filter (λ a b. a ≢ b) stop nets apart) forth back ∙ length-filter stop nets

-- one more net, counted or kept where it is a stop
pub count_more : (p : ℕ → Bool) (xs : List ℕ) (i x count : ℕ) → i < length xs → x ≡ get_or xs i x → count ≡ count_by p (take i xs) → p x ≡ true → count + 1 ≡ count_by p (take (i + 1) xs)
count_more p xs i x count less is so_far e = ap (λ k. k + 1) so_far ∙ sym (count_by_more_yes p xs i x less (ap p (sym is) ∙ e))

pub count_same : (p : ℕ → Bool) (xs : List ℕ) (i x count : ℕ) → i < length xs → x ≡ get_or xs i x → count ≡ count_by p (take i xs) → p x ≡ false → count ≡ count_by p (take (i + 1) xs)
count_same p xs i x count less is so_far e = so_far ∙ sym (count_by_more_no p xs i x less (ap p (sym is) ∙ e))

kept_step : (p : ℕ → Bool) (xs : List ℕ) (i x : ℕ) (b : Bool) → i < length xs → x ≡ get_or xs i x → p x ≡ b → filter p (take (i + 1) xs) ≡ filter p (take i xs) ++ cond b (x ∷ []) []
kept_step p xs i x b less is e = filter_more p xs i x less ∙ (ap (λ y. filter p (take i xs) ++ cond (p y) (y ∷ []) []) (sym is) ∙ ap (λ c. filter p (take i xs) ++ cond c (x ∷ []) []) e)

pub kept_more : (p : ℕ → Bool) (xs kept : List ℕ) (i x : ℕ) → i < length xs → x ≡ get_or xs i x → kept ≡ filter p (take i xs) → p x ≡ true → kept ++ x ∷ [] ≡ filter p (take (i + 1) xs)
kept_more p xs kept i x less is so_far e = ap (λ ks. ks ++ x ∷ []) so_far ∙ sym (kept_step p xs i x true less is e)

pub kept_same : (p : ℕ → Bool) (xs kept : List ℕ) (i x : ℕ) → i < length xs → x ≡ get_or xs i x → kept ≡ filter p (take i xs) → p x ≡ false → kept ≡ filter p (take (i + 1) xs)
kept_same p xs kept i x less is so_far e = so_far ∙ (sym (append-nil (filter p (take i xs))) ∙ sym (kept_step p xs i x false less is e))

-- where few are kept, there is room for one more
pub kept_room : (p : ℕ → Bool) (xs kept : List ℕ) (i x most : ℕ) → i < length xs → x ≡ get_or xs i x → kept ≡ filter p (take i xs) → p x ≡ true → count_by p xs ≤ most → length kept < most
kept_room p xs kept i x most less is so_far e few =
    let more = count_by_more_yes p xs i x less (ap p (sym is) ∙ e) in
    let long = ap length so_far ∙ length-filter p (take i xs) in
    let low = sum_by-take-le (λ y. cond (p y) 1 0) xs (i + 1) in
    omega (arith, more, long, low, few)

-- ascending numbers below a bound are no more than it
pub few_below : (xs : List ℕ) (most : ℕ) → IsStrictlyIncreasing xs → ((n : ℕ) → Contains xs n → n < most) → length xs ≤ most
few_below xs most up low =
    let fewer = length-le_from_is_member nat_eq_equiv xs (range_with_len 0 most) (distinct_of xs (up_apart xs up)) (λ q e. true_member (range_with_len 0 most) q (in_range most q (low q (member_true xs q e)))) in
    let long = length-range_with_len 0 most in
    omega (arith, fewer, long)
