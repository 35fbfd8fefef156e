-- one row more: its dual, the corrected duals before it, or the least dependence
use Rattle.std.proofs.Common.{◌≡◌, ℕ, ◌+◌, ◌-◌, ◌*◌, ◌^◌, ◌<◌, ◌≤◌, ◌==◌, suc, List, [], ◌∷◌, ◌++◌, length, get_or, Bool, true, false, ◌&&◌, if◌then◌else◌, refl, sym, ap, ◌∙◌, subst, arith, bit_xor, ◌⊎◌, inl, inr, length-append}
use Rattle.std.specs.Int.{bit_at}
use Rattle.std.proofs.lemmas.Bool.Decides.{nat_tests}
use Rattle.std.proofs.lemmas.Bool.{cases_lt, eq-eqb, ne_eqb, eqb-true}
use Rattle.std.proofs.lemmas.List.{get_or_append_left, get_or_push}
use Rattle.std.proofs.lemmas.Nat.Bits.{bit_at-lt, bit_at_cat_low, bit_at_cat_high, same_from_bits_below}
use Rattle.std.proofs.Math.Nat.{pow-suc}
use lib.Bits.{xor_comm}
use Rattle.bb_base.specs.Booleans.{xor}
use Rattle.bb_base.specs.Bits.{from_bits}
use Rattle.bb_base.specs.Parity.{code_bit, code_word}
use Rattle.bb_base.specs.Span.{combined, IsDependence}
use Rattle.bb_base.specs.Firsts.{IsLeast}
use Rattle.bb_base.specs.Dual.{IsDual, AreLeastDuals}
use Rattle.bb_gf2.proofs.Xor.{xor_self_bits, xor_false_bits}
use Rattle.bb_gf2.proofs.Codes.{code_xor, code_xor_state, code_comm, code_zero}
use Rattle.bb_gf2.proofs.Combine.{where_true, combined_push, combined_low, xor_twice}
use Rattle.bb_gf2.proofs.Low.{Keeps, keeps_xor}
use Rattle.bb_gf2.proofs.Pairing.{AllMiss, and_false, none_coded, dual_coded, mask_at, mask_below, keeps_combined, same_test, duals_from_least, rows_of_duals}

-- no vector that all rows miss lowers d
abbrev pub IsKept : List ℕ → ℕ → Type 0
IsKept rows d = (n : ℕ) → AllMiss rows n → Keeps n d

pub kept_from_least : (rows : List ℕ) (place d : ℕ) → IsLeast (IsDual rows place) d → IsKept rows d
kept_from_least rows place d h n miss =
    h.least (bit_xor d n) (λ j lt. code_xor_state (get_or rows j 0) d n ∙ (λ i. xor (h.holds j lt i) (miss j lt i)) ∙ xor_false_bits (j == place))

pub least_from_kept : (rows : List ℕ) (place d : ℕ) → IsDual rows place d → IsKept rows d → IsLeast (IsDual rows place) d
least_from_kept rows place d dual kept =
    record {
      holds = dual;
      least = λ e other.
          let miss : AllMiss rows (bit_xor d e) = λ j lt. code_xor_state (get_or rows j 0) d e ∙ (λ i. xor (dual j lt i) (other j lt i)) ∙ xor_self_bits (j == place) in
          subst (λ m. d ≤ m) (xor_twice d e) (kept (bit_xor d e) miss);
    }

module _ (rows ds : List ℕ) (r : ℕ) (duals : AreLeastDuals rows ds) where
  dual_at : (i : ℕ) → i < length rows → IsDual rows i (get_or ds i 0)
  dual_at i lt = (duals.least i lt).holds

  -- the rows are duals of their duals
  back_at : (j : ℕ) → j < length rows → IsDual ds j (get_or rows j 0)
  back_at = rows_of_duals rows ds (duals_from_least rows ds duals)

  -- the rows that make the new one, if they do
  abbrev pub subset : ℕ
  subset = from_bits (code_word ds r)

  -- what is left of the new row without them
  abbrev pub rest : ℕ
  rest = bit_xor r (combined subset rows)

  subset_at : (i : ℕ) → i < length rows → (bit_at subset i == 1) ≡ code_bit r (get_or ds i 0)
  subset_at i lt = mask_at ds r i (subst (λ n. i < n) (sym duals.one_each) lt) ∙ code_comm (get_or ds i 0) r

  pub subset_below : subset < 2 ^ length rows
  subset_below = subst (λ n. subset < 2 ^ n) duals.one_each (mask_below ds r)

  -- each dual misses what is left
  rest_missed : (i : ℕ) → i < length rows → code_bit rest (get_or ds i 0) ≡ false
  rest_missed i lt =
      code_xor r (combined subset rows) (get_or ds i 0)
      ∙ ap (xor (code_bit r (get_or ds i 0))) (dual_coded rows i (get_or ds i 0) subset (dual_at i lt) lt ∙ subset_at i lt)
      ∙ xor_self_bits (code_bit r (get_or ds i 0))

  all_miss_rest : AllMiss ds rest
  all_miss_rest i l = code_comm (get_or ds i 0) rest ∙ rest_missed i (subst (λ n. i < n) duals.one_each l)

  -- ---- nothing is left: the new row's dependence

  abbrev pub with_last : ℕ
  with_last = 1 * 2 ^ length rows + subset

  last_at : bit_at with_last (length rows) ≡ 1
  last_at = bit_at_cat_high 1 (length rows) subset (length rows) subset_below (omega arith) ∙ one (length rows - length rows) (omega arith)
    where
      one : (k : ℕ) → k ≡ 0 → bit_at 1 k ≡ 1
      one k e = ap (bit_at 1) e

  length_more : length (rows ++ r ∷ []) ≡ suc (length rows)
  length_more = let e : length (rows ++ r ∷ []) ≡ length rows + 1 = length-append rows (r ∷ []) in omega (arith, e)

  twice_pow : 2 ^ length (rows ++ r ∷ []) ≡ 2 ^ length rows * 2
  twice_pow = ap (λ n. 2 ^ n) length_more ∙ pow-suc 2 (length rows)

  -- what the code bits of a dependence are
  dependence_at : (m i : ℕ) → i < length rows → combined m (rows ++ r ∷ []) ≡ 0
      → xor ((bit_at m (length rows) == 1) && code_bit r (get_or ds i 0)) (bit_at m i == 1) ≡ false
  dependence_at m i lt none =
      sym (λ j. xor (code_where (bit_at m (length rows) == 1) j) (dual_coded rows i (get_or ds i 0) m (dual_at i lt) lt j))
      ∙ sym (code_xor (where_true (bit_at m (length rows) == 1) r) (combined m rows) (get_or ds i 0))
      ∙ ap (λ c. code_bit c (get_or ds i 0)) (sym (combined_push rows m r) ∙ none) ∙ code_zero (get_or ds i 0)
    where
      code_where : (b : Bool) → code_bit (where_true b r) (get_or ds i 0) ≡ (b && code_bit r (get_or ds i 0))
      code_where true = refl
      code_where false = code_zero (get_or ds i 0)

  -- a bit by its test
  same_bit : (a b : ℕ) → a < 2 → b < 2 → (a == 1) ≡ (b == 1) → a ≡ b
  same_bit a b g h e = grind (arith, nat_tests)

  only_one : (m : ℕ) → IsDependence (rows ++ r ∷ []) m → with_last ≡ m
  only_one m h = go (bit_at m (length rows) == 1) refl
    where
      below : m < 2 ^ suc (length rows)
      below = subst (λ n. m < 2 ^ n) length_more h.within

      small : with_last < 2 ^ suc (length rows)
      small = let e : 2 ^ suc (length rows) ≡ 2 ^ length rows * 2 = pow-suc 2 (length rows) in omega (arith, e, subset_below)

      cases : (P : ℕ → Type 0) → ((i : ℕ) → i < length rows → P i) → P (length rows) → (i : ℕ) → i < suc (length rows) → P i
      cases P f last i lt = pick (cases_lt i (length rows))
        where
          pick : (i < length rows) ⊎ (length rows ≤ i) → P i
          pick (inl l) = f i l
          pick (inr le) = let e : length rows ≡ i = omega (arith, le, lt) in subst P e last

      go : (b : Bool) → (bit_at m (length rows) == 1) ≡ b → with_last ≡ m
      go true e =
          same_from_bits_below (suc (length rows)) with_last m small below
          (cases (λ i. bit_at with_last i ≡ bit_at m i)
          (λ i lt.
          bit_at_cat_low 1 (length rows) subset i lt
          ∙ same_bit (bit_at subset i) (bit_at m i) (bit_at-lt subset i) (bit_at-lt m i)
          (subset_at i lt ∙ equal (code_bit r (get_or ds i 0)) (bit_at m i == 1) (ap (λ b. xor (b && code_bit r (get_or ds i 0)) (bit_at m i == 1)) (sym e) ∙ dependence_at m i lt h.cancels)))
          (last_at ∙ sym (eqb-true (bit_at m (length rows)) 1 e)))
        where
          equal : (a b : Bool) → xor (true && a) b ≡ false → a ≡ b
          equal true true h = refl
          equal true false h = cc
          equal false true h = cc
          equal false false h = refl
      go false e =
          let none : m ≡ 0 =
          same_from_bits_below (suc (length rows)) m 0 below (omega (arith, below))
          (cases (λ i. bit_at m i ≡ bit_at 0 i)
          (λ i lt.
          let off : (bit_at m i == 1) ≡ false = ap (λ b. xor (b && code_bit r (get_or ds i 0)) (bit_at m i == 1)) (sym e) ∙ dependence_at m i lt h.cancels in
          zero_bit (bit_at m i) i (bit_at-lt m i) off)
          (zero_bit (bit_at m (length rows)) (length rows) (bit_at-lt m (length rows)) e)) in
          absurd (let some = h.nonempty in omega (arith, some, none))
        where
          zero_bit : (b i : ℕ) → b < 2 → (b == 1) ≡ false → b ≡ bit_at 0 i
          zero_bit b i lt e = let zero_here : bit_at 0 i ≡ 0 = omega arith in let z : b ≡ 0 = grind (arith, nat_tests) in z ∙ sym zero_here

  pub least_dependence : rest ≡ 0 → IsLeast (IsDependence (rows ++ r ∷ [])) with_last
  least_dependence none =
      record {
        holds = record {
          nonempty = let some : 0 < 2 ^ length rows = omega (arith, subset_below) in omega (arith, some);
          within = omega (arith, twice_pow, subset_below);
          cancels =
              combined_push rows with_last r
              ∙ (λ i. bit_xor (where_true (last_at i == 1) r) (combined_low rows 1 subset i))
              ∙ none;
        };
        least = λ m h. let e = only_one m h in omega (arith, e);
      }

  -- ---- something is left: the new duals, for a one of it that no missed vector lowers

  module _ (lowest : ℕ) (coded : code_bit rest lowest ≡ true) (kept : (n : ℕ) → code_bit rest n ≡ false → lowest ≤ bit_xor lowest n) where
    -- the dual of the new row
    abbrev pub new_dual : ℕ
    new_dual = bit_xor lowest (combined (from_bits (code_word rows lowest)) ds)

    rows_miss : AllMiss rows new_dual
    rows_miss j lt =
        let d = combined (from_bits (code_word rows lowest)) ds in
        let row = get_or rows j 0 in
        let back : j < length ds = subst (λ n. j < n) (sym duals.one_each) lt in
        code_xor_state row lowest d
        ∙ ap (xor (code_bit row lowest)) (code_comm row d ∙ dual_coded ds j row (from_bits (code_word rows lowest)) (back_at j lt) back ∙ mask_at rows lowest j lt)
        ∙ xor_self_bits (code_bit row lowest)

    new_codes : code_bit r new_dual ≡ true
    new_codes =
        let d = combined (from_bits (code_word rows lowest)) ds in
        ap (λ c. code_bit c new_dual) (sym (xor_twice (combined subset rows) r) ∙ ap (bit_xor (combined subset rows)) (xor_comm (combined subset rows) r))
        ∙ code_xor (combined subset rows) rest new_dual
        ∙ ap (λ b. xor b (code_bit rest new_dual)) (none_coded rows subset new_dual rows_miss)
        ∙ code_xor_state rest lowest d
        ∙ (λ i. xor (coded i) ((code_comm rest d ∙ none_coded ds (from_bits (code_word rows lowest)) rest all_miss_rest) i))

    -- what the rows and the new one miss, the rest of it misses
    missed_by : (n : ℕ) → AllMiss (rows ++ r ∷ []) n → AllMiss rows n × (code_bit rest n ≡ false)
    missed_by n miss =
        let early : AllMiss rows n = λ j lt. ap (λ c. code_bit c n) (sym (get_or_append_left rows (r ∷ []) 0 j lt)) ∙ miss j (omega (arith, lt, length_more)) in
        let late : code_bit r n ≡ false = ap (λ c. code_bit c n) (sym (get_or_push rows r 0 (length rows) refl)) ∙ miss (length rows) (omega (arith, length_more)) in
        (early, code_xor r (combined subset rows) n ∙ (λ i. xor (late i) (none_coded rows subset n early i)))

    kept_at : (n : ℕ) → AllMiss rows n → (i : ℕ) → i < length rows → Keeps n (get_or ds i 0)
    kept_at n miss i lt = kept_from_least rows i (get_or ds i 0) (duals.least i lt) n miss

    new_kept : IsKept (rows ++ r ∷ []) new_dual
    new_kept n miss =
        let m = missed_by n miss in
        keeps_xor n lowest (combined (from_bits (code_word rows lowest)) ds) (kept n m.1)
        (keeps_combined n ds (from_bits (code_word rows lowest)) (λ i l. kept_at n m.0 i (subst (λ k. i < k) duals.one_each l)))

    -- a dual before it, corrected where the new row has it
    abbrev corrected : Bool → ℕ → ℕ
    corrected b d = if b then bit_xor d new_dual else d

    corrected_codes : (b : Bool) (d c : ℕ) → code_bit c (corrected b d) ≡ xor (code_bit c d) (b && code_bit c new_dual)
    corrected_codes true d c = code_xor_state c d new_dual
    corrected_codes false d c = sym (xor_false_bits (code_bit c d))

    corrected_kept : (b : Bool) (i : ℕ) → i < length rows → IsKept (rows ++ r ∷ []) (corrected b (get_or ds i 0))
    corrected_kept true i lt n miss = keeps_xor n (get_or ds i 0) new_dual (kept_at n (missed_by n miss).0 i lt) (new_kept n miss)
    corrected_kept false i lt n miss = kept_at n (missed_by n miss).0 i lt

    -- by rows before the last, and the last
    by_place : (P : ℕ → ℕ → Type 0) → ((j : ℕ) → j < length rows → P j (get_or rows j 0)) → P (length rows) r → (j : ℕ) → j < length (rows ++ r ∷ []) → P j (get_or (rows ++ r ∷ []) j 0)
    by_place P f last j lt = pick (cases_lt j (length rows))
      where
        pick : (j < length rows) ⊎ (length rows ≤ j) → P j (get_or (rows ++ r ∷ []) j 0)
        pick (inl l) = subst (P j) (sym (get_or_append_left rows (r ∷ []) 0 j l)) (f j l)
        pick (inr le) =
            let e : length rows ≡ j = omega (arith, le, lt, length_more) in
            subst (P j) (sym (get_or_push rows r 0 j e)) (subst (λ n. P n r) e last)

    not_same : (a b : ℕ) → a < b → (b == a) ≡ false
    not_same a b lt = ne_eqb b a (λ e. omega (arith, lt, e))

    corrected_dual : (i : ℕ) → i < length rows → IsDual (rows ++ r ∷ []) i (corrected (bit_at subset i == 1) (get_or ds i 0))
    corrected_dual i lt =
        by_place (λ j row. code_bit row (corrected (bit_at subset i == 1) (get_or ds i 0)) ≡ (j == i))
        (λ j l.
        corrected_codes (bit_at subset i == 1) (get_or ds i 0) (get_or rows j 0)
        ∙ (λ k. xor (dual_at i lt j l k) ((bit_at subset i == 1) && rows_miss j l k)) ∙ ap (xor (j == i)) (and_false (bit_at subset i == 1)) ∙ xor_false_bits (j == i))
        (corrected_codes (bit_at subset i == 1) (get_or ds i 0) r
        ∙ (λ k. xor (code_bit r (get_or ds i 0)) (subset_at i lt k && new_codes k)) ∙ twice (code_bit r (get_or ds i 0))
        ∙ sym (not_same i (length rows) lt))
      where
        twice : (b : Bool) → xor b (b && true) ≡ false
        twice true = refl
        twice false = refl

    new_is_dual : IsDual (rows ++ r ∷ []) (length rows) new_dual
    new_is_dual =
        by_place (λ j row. code_bit row new_dual ≡ (j == length rows))
        (λ j l. rows_miss j l ∙ sym (same_test j (length rows) ∙ not_same j (length rows) l))
        (new_codes ∙ sym (eq-eqb (length rows) (length rows) refl))

    -- the duals with one row more
    pub more_duals : (made : List ℕ) → length made ≡ length ds
        → ((i : ℕ) → i < length ds → get_or made i 0 ≡ (if bit_at subset i == 1 then bit_xor (get_or ds i 0) new_dual else get_or ds i 0))
        → AreLeastDuals (rows ++ r ∷ []) (made ++ new_dual ∷ [])
    more_duals made long each =
        let total : length made ≡ length rows = long ∙ duals.one_each in
        record {
          one_each = (let e : length (made ++ new_dual ∷ []) ≡ length made + 1 = length-append made (new_dual ∷ []) in omega (arith, e, total, length_more));
          least = λ i lt. pick i lt total (cases_lt i (length rows));
        }
      where
        pick : (i : ℕ) → i < length (rows ++ r ∷ []) → length made ≡ length rows → (i < length rows) ⊎ (length rows ≤ i) → IsLeast (IsDual (rows ++ r ∷ []) i) (get_or (made ++ new_dual ∷ []) i 0)
        pick i lt total (inl l) =
            subst (IsLeast (IsDual (rows ++ r ∷ []) i))
            (sym (get_or_append_left made (new_dual ∷ []) 0 i (omega (arith, l, total)) ∙ each i (omega (arith, l, total, long))))
            (least_from_kept (rows ++ r ∷ []) i (corrected (bit_at subset i == 1) (get_or ds i 0)) (corrected_dual i l) (corrected_kept (bit_at subset i == 1) i l))
        pick i lt total (inr le) =
            let e : length rows ≡ i = omega (arith, le, lt, length_more) in
            subst (IsLeast (IsDual (rows ++ r ∷ []) i)) (sym (get_or_push made new_dual 0 i (omega (arith, e, total))))
            (subst (λ n. IsLeast (IsDual (rows ++ r ∷ []) n) new_dual) e (least_from_kept (rows ++ r ∷ []) (length rows) new_dual new_is_dual new_kept))
