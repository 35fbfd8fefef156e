-- independent rows have duals, and what duals make
use Rattle.std.proofs.Common.{◌≡◌, ℕ, ◌/◌, ◌%◌, ◌^◌, ◌<◌, ◌≤◌, ◌==◌, zero, suc, List, [], ◌∷◌, ◌++◌, length, get_or, Bool, true, false, if◌then◌else◌, refl, sym, ap, ◌∙◌, subst, arith, bit_and, bit_xor, ◌⊎◌, inl, inr, append_assoc, append-nil}
use Rattle.std.specs.Int.{bit_at}
use Rattle.std.proofs.lemmas.Bool.{cases_eq}
use Rattle.std.proofs.lemmas.Bool.Decides.{nat_tests}
use Rattle.std.proofs.lemmas.List.{ext_get_or, get_or-map, length-map}
use Rattle.std.proofs.lemmas.Nat.{and_le_l, and_mod, pow_pos}
use Rattle.std.proofs.lemmas.Nat.Bits.{bit_at_lowest, bit_at-suc, bit_at-lt, same_from_bits_below}
use Rattle.std.proofs.Math.Nat.{mod-eq_of_lt}
use lib.Arith.{bin_ind}
use lib.Bits.{xor_lt}
use Rattle.bb_base.specs.Bits.{from_bits}
use Rattle.bb_base.specs.Parity.{parity, code_bit, code_word}
use Rattle.bb_base.specs.Span.{combined, IsDependence, IsIndependent}
use Rattle.bb_base.specs.Dual.{IsDual, AreDuals, AreLeastDuals}
use Rattle.bb_gf2.proofs.Codes.{low_bit, code_comm, code_zero}
use Rattle.bb_gf2.proofs.Combine.{where_true, combined_cons}
use Rattle.bb_gf2.proofs.Low.{lowest_coded, lowest_keeps}
use Rattle.bb_gf2.proofs.Pairing.{dual_coded, from_bits_at, rows_of_duals}
use Rattle.bb_gf2.proofs.DualSteps.{subset, rest, with_last, least_dependence, new_dual, more_duals}
use Rattle.bb_gf2.proofs.Rows.{least_of_all}

-- the place of a number's lowest one
abbrev LowestAt : ℕ → ℕ → Type 0
LowestAt v p = (bit_at v p ≡ 1) × ((i : ℕ) → i < p → bit_at v i ≡ 0)

lowest_at : (v : ℕ) → (v ≡ 0 → ⊥) → (p : ℕ) × LowestAt v p
lowest_at = bin_ind (λ v. (v ≡ 0 → ⊥) → (p : ℕ) × LowestAt v p) (λ some. absurd (some refl)) step
  where
    step : (v : ℕ) → ((v / 2 ≡ 0 → ⊥) → (p : ℕ) × LowestAt (v / 2) p) → (v ≡ 0 → ⊥) → (p : ℕ) × LowestAt v p
    step v more some = go (cases_eq (v % 2) 1)
      where
        go : (v % 2 ≡ 1) ⊎ (v % 2 ≡ 1 → ⊥) → (p : ℕ) × LowestAt v p
        go (inl odd) = (0, (bit_at_lowest v ∙ odd, λ i lt. absurd (omega (arith, lt))))
        go (inr even) =
            let m = more (λ none. some (omega (arith, none, even))) in
            (suc m.0, (bit_at-suc v m.0 ∙ m.1.0, below m.0 m.1.1))
          where
            below : (p : ℕ) → ((i : ℕ) → i < p → bit_at (v / 2) i ≡ 0) → (i : ℕ) → i < suc p → bit_at v i ≡ 0
            below p h zero lt = let e : v % 2 ≡ 0 = omega (arith, even) in bit_at_lowest v ∙ e
            below p h (suc i) lt = bit_at-suc v i ∙ h i (omega (arith, lt))

-- z added to the items that a mask chooses
abbrev added : ℕ → ℕ → List ℕ → List ℕ
added m z [] = []
added m z (d ∷ ds) = (if bit_at m 0 == 1 then bit_xor d z else d) ∷ added (m / 2) z ds

length-added : (m z : ℕ) (ds : List ℕ) → length (added m z ds) ≡ length ds
length-added m z [] = refl
length-added m z (d ∷ ds) = ap suc (length-added (m / 2) z ds)

added_at : (m z : ℕ) (ds : List ℕ) (i : ℕ) → i < length ds → get_or (added m z ds) i 0 ≡ (if bit_at m i == 1 then bit_xor (get_or ds i 0) z else get_or ds i 0)
added_at m z [] i lt = absurd (omega (arith, lt))
added_at m z (d ∷ ds) zero lt = refl
added_at m z (d ∷ ds) (suc i) lt =
    added_at (m / 2) z ds i (omega (arith, lt)) ∙ ap (λ n. if n == 1 then bit_xor (get_or ds i 0) z else get_or ds i 0) (sym (bit_at-suc m i))

duals_from : (front back ds : List ℕ) → AreLeastDuals front ds → IsIndependent (front ++ back) → (es : List ℕ) × AreLeastDuals (front ++ back) es
duals_from front [] ds h free = (ds, subst (λ xs. AreLeastDuals xs ds) (sym (append-nil front)) h)
duals_from front (r ∷ rs) ds h free = go (cases_eq (rest front ds r h) 0) (λ es k. duals_from (front ++ r ∷ []) rs es k (subst IsIndependent (sym (append_assoc front (r ∷ []) rs)) free))
  where
    go : (rest front ds r h ≡ 0) ⊎ (rest front ds r h ≡ 0 → ⊥) → ((es : List ℕ) → AreLeastDuals (front ++ r ∷ []) es → (fs : List ℕ) × AreLeastDuals ((front ++ r ∷ []) ++ rs) fs)
        → (es : List ℕ) × AreLeastDuals (front ++ r ∷ rs) es
    go (inl none) more =
        let all = least_of_all (front ++ r ∷ []) rs (with_last front ds r h) (least_dependence front ds r h none) in
        absurd (free (with_last front ds r h) (subst (λ xs. IsDependence xs (with_last front ds r h)) (append_assoc front (r ∷ []) rs) all.holds))
    go (inr some) more =
        let left = rest front ds r h in
        let p = lowest_at left some in
        let coded = lowest_coded p.0 left p.1.0 p.1.1 in
        let kept = lowest_keeps p.0 left p.1.0 p.1.1 in
        let z = new_dual front ds r h (2 ^ p.0) coded kept in
        let m = subset front ds r h in
        let next = more_duals front ds r h (2 ^ p.0) coded kept (added m z ds) (length-added m z ds) (added_at m z ds) in
        let fs = more (added m z ds ++ z ∷ []) next in
        (fs.0, subst (λ xs. AreLeastDuals xs fs.0) (append_assoc front (r ∷ []) rs) fs.1)

pub duals_exist : (rows : List ℕ) → IsIndependent rows → (duals : List ℕ) × AreLeastDuals rows duals
duals_exist rows free = duals_from [] rows [] (record { one_each = refl; least = λ place lt. absurd (omega (arith, lt)) }) free

-- rows with duals are independent
pub independent : (rows duals : List ℕ) → AreDuals rows duals → IsIndependent rows
independent rows duals h m d =
    let none : m ≡ 0 =
    same_from_bits_below (length rows) m 0 d.within (pow_pos (length rows)) (λ i lt.
    let coded : (bit_at m i == 1) ≡ false = sym (dual_coded rows i (get_or duals i 0) m (h.dual i lt) lt) ∙ ap (λ c. code_bit c (get_or duals i 0)) d.cancels ∙ code_zero (get_or duals i 0) in
    off (bit_at m i) i (bit_at-lt m i) coded) in
    absurd (let some = d.nonempty in omega (arith, some, none))
  where
    off : (b i : ℕ) → b < 2 → (b == 1) ≡ false → b ≡ bit_at 0 i
    off b i lt e = let zero_here : bit_at 0 i ≡ 0 = omega arith in let z : b ≡ 0 = grind (arith, nat_tests) in z ∙ sym zero_here

-- the state that the chosen duals make has the wanted code bits
pub state_codes : (rows duals : List ℕ) (wanted : List Bool) → AreDuals rows duals → length wanted ≡ length rows → code_word rows (combined (from_bits wanted) duals) ≡ wanted
state_codes rows duals wanted h long =
    ext_get_or false (code_word rows state) wanted (words ∙ sym long) (λ i lt. each i (subst (λ n. i < n) words lt))
  where
    state : ℕ
    state = combined (from_bits wanted) duals

    words : length (code_word rows state) ≡ length rows
    words = length-map rows (λ column. code_bit column state)

    each : (i : ℕ) → i < length rows → get_or (code_word rows state) i false ≡ get_or wanted i false
    each i lt =
        get_or-map (λ column. code_bit column state) rows i 0 false lt ∙ code_comm (get_or rows i 0) state
        ∙ by_dual ∙ from_bits_at wanted i
      where
        by_dual : code_bit state (get_or rows i 0) ≡ (bit_at (from_bits wanted) i == 1)
        by_dual = dual_coded duals i (get_or rows i 0) (from_bits wanted) (rows_of_duals rows duals h i lt) (subst (λ n. i < n) (sym h.one_each) lt)

-- the bits of a state above a row don't count
code_low : (k r x : ℕ) → r < 2 ^ k → code_bit r (x % 2 ^ k) ≡ code_bit r x
code_low k r x lt =
    let small : bit_and r x < 2 ^ k = (let le = and_le_l r x in omega (arith, le, lt)) in
    ap parity (sym (and_mod r x k ∙ ap (λ n. bit_and n (x % 2 ^ k)) (mod-eq_of_lt lt)) ∙ mod-eq_of_lt small)

-- least duals are no wider than their rows
pub duals_below : (k : ℕ) (rows duals : List ℕ) → AreLeastDuals rows duals → ((place : ℕ) → place < length rows → get_or rows place 0 < 2 ^ k)
    → (place : ℕ) → place < length rows → get_or duals place 0 < 2 ^ k
duals_below k rows duals h small place lt =
    let d = get_or duals place 0 in
    let cut : IsDual rows place (d % 2 ^ k) = λ j l. code_low k (get_or rows j 0) d (small j l) ∙ (h.least place lt).holds j l in
    let le : d ≤ d % 2 ^ k = (h.least place lt).least (d % 2 ^ k) cut in
    let some = pow_pos k in
    omega (arith, le, some)

-- a combination is no wider than its items
pub combined_below : (k m : ℕ) (ds : List ℕ) → ((place : ℕ) → place < length ds → get_or ds place 0 < 2 ^ k) → combined m ds < 2 ^ k
combined_below k m [] small = pow_pos k
combined_below k m (d ∷ ds) small =
    subst (λ n. n < 2 ^ k) (sym (combined_cons m d ds)) (xor_lt k (where_true (low_bit m) d) (combined (m / 2) ds) (first (low_bit m)) (combined_below k (m / 2) ds (λ i lt. small (suc i) (omega (arith, lt)))))
  where
    first : (b : Bool) → where_true b d < 2 ^ k
    first true = small 0 (omega arith)
    first false = pow_pos k
