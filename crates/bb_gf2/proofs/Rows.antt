-- what a call on a row more finds, in the words of the code
use Rattle.std.proofs.Common.{◌≡◌, ℕ, ◌+◌, ◌*◌, ◌%◌, ◌^◌, ◌<◌, ◌≤◌, ◌==◌, false, List, [], ◌∷◌, ◌++◌, length, get_or, take, drop, true, if◌then◌else◌, sym, ap, ◌∙◌, subst, arith, bit_xor, bit_or, ◌⊎◌, inl, inr, length-append}
use Rattle.std.specs.Int.{bit_at}
use Rattle.std.proofs.lemmas.Bool.{cases_lt}
use Rattle.std.proofs.lemmas.List.{take_more, take-append-drop}
use Rattle.std.proofs.lemmas.Nat.{one_shl}
use Rattle.std.proofs.Math.Nat.{pow-le-pow_right}
use lib.Bits.{or_shifted_r}
use Rattle.bb_base.specs.Bits.{from_bits}
use Rattle.bb_base.specs.Parity.{code_bit, code_word}
use Rattle.bb_base.specs.Span.{combined, IsDependence}
use Rattle.bb_base.specs.Firsts.{IsLeast}
use Rattle.bb_base.specs.Dual.{AreLeastDuals}
use Rattle.bb_gf2.proofs.Combine.{combined_front}
use Rattle.bb_gf2.proofs.DualSteps.{subset, rest, with_last, subset_below, least_dependence, new_dual, more_duals}

-- the rows that make a row, with it, are the least dependence
pub dependence_found : (rows ds : List ℕ) (row chosen sum : ℕ) → AreLeastDuals rows ds → length rows < 16 → chosen ≡ from_bits (code_word ds row) → sum ≡ combined chosen rows → bit_xor row sum ≡ 0
    → IsLeast (IsDependence (rows ++ row ∷ [])) (bit_or chosen (1 * 2 ^ length rows % 2 ^ 32))
dependence_found rows ds row chosen sum duals room is made none =
    let shifted : 1 * 2 ^ length rows % 2 ^ 32 ≡ 1 * 2 ^ length rows = (let plain : 1 * 2 ^ length rows ≡ 2 ^ length rows = omega arith in one_shl (length rows) 32 (omega (arith, room)) ∙ sym plain) in
    let joined : bit_or chosen (1 * 2 ^ length rows % 2 ^ 32) ≡ with_last rows ds row duals =
    (λ i. bit_or (is i) (shifted i)) ∙ or_shifted_r 1 (length rows) (subset rows ds row duals) (subset_below rows ds row duals) in
    subst (IsLeast (IsDependence (rows ++ row ∷ []))) (sym joined)
    (least_dependence rows ds row duals (sym (ap (bit_xor row) (made ∙ ap (λ m. combined m rows) is)) ∙ none))

-- the duals with a row more
pub duals_made : (rows ds : List ℕ) (row chosen sum lowest codes correction dual : ℕ) (made : List ℕ) → AreLeastDuals rows ds → chosen ≡ from_bits (code_word ds row) → sum ≡ combined chosen rows
    → code_bit (bit_xor row sum) lowest ≡ true → ((n : ℕ) → code_bit (bit_xor row sum) n ≡ false → lowest ≤ bit_xor lowest n)
    → codes ≡ from_bits (code_word rows lowest) → correction ≡ combined codes ds → dual ≡ bit_xor lowest correction
    → length made ≡ length ds → ((i : ℕ) → i < length ds → get_or made i 0 ≡ (if bit_at chosen i == 1 then bit_xor (get_or ds i 0) dual else get_or ds i 0))
    → AreLeastDuals (rows ++ row ∷ []) (made ++ dual ∷ [])
duals_made rows ds row chosen sum lowest codes correction dual made duals is summed coded kept codes_is correction_is dual_is long each =
    let left : bit_xor row sum ≡ rest rows ds row duals = ap (bit_xor row) (summed ∙ ap (λ m. combined m rows) is) in
    let coded_rest = subst (λ v. code_bit v lowest ≡ true) left coded in
    let kept_rest = subst (λ v. (n : ℕ) → code_bit v n ≡ false → lowest ≤ bit_xor lowest n) left kept in
    let new : dual ≡ new_dual rows ds row duals lowest coded_rest kept_rest = dual_is ∙ ap (bit_xor lowest) (correction_is ∙ ap (λ m. combined m ds) codes_is) in
    subst (λ d. AreLeastDuals (rows ++ row ∷ []) (made ++ d ∷ [])) (sym new)
    (more_duals rows ds row duals lowest coded_rest kept_rest made long
    (λ i lt. each i lt ∙ (λ j. if bit_at (is j) i == 1 then bit_xor (get_or ds i 0) (new j) else get_or ds i 0)))

-- the least dependence of the first rows is that of all
pub least_of_all : (front back : List ℕ) (m : ℕ) → IsLeast (IsDependence front) m → IsLeast (IsDependence (front ++ back)) m
least_of_all front back m h =
    let total : length (front ++ back) ≡ length front + length back = length-append front back in
    let wider : 2 ^ length front ≤ 2 ^ length (front ++ back) = pow-le-pow_right (omega arith) (omega (arith, total)) in
    let inside = h.holds.within in
    record {
      holds = record {
        nonempty = h.holds.nonempty;
        within = omega (arith, wider, inside);
        cancels = combined_front front back m h.holds.within ∙ h.holds.cancels;
      };
      least = λ n d. pick n d (cases_lt n (2 ^ length front));
    }
  where
    pick : (n : ℕ) → IsDependence (front ++ back) n → (n < 2 ^ length front) ⊎ (2 ^ length front ≤ n) → m ≤ n
    pick n d (inl lt) = h.least n (record { nonempty = d.nonempty; within = lt; cancels = sym (combined_front front back n lt) ∙ d.cancels })
    pick n d (inr le) = let inside = h.holds.within in omega (arith, le, inside)

pub least_by_place : (rows : List ℕ) (i m : ℕ) → i < length rows → IsLeast (IsDependence (take i rows ++ get_or rows i 0 ∷ [])) m → IsLeast (IsDependence rows) m
least_by_place rows i m lt h =
    subst (λ xs. IsLeast (IsDependence xs) m) (take-append-drop (i + 1) rows)
    (least_of_all (take (i + 1) rows) (drop (i + 1) rows) m (subst (λ xs. IsLeast (IsDependence xs) m) (sym (take_more rows i 0 lt)) h))
