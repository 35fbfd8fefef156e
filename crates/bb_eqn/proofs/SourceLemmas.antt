-- Bits that are put into lanes, and the code bits of what the lanes then have.
use Rattle.std.proofs.Common.{arith, ◌≡◌, ◌≢◌, ℕ, ◌+◌, ◌-◌, ◌*◌, ◌/◌, ◌%◌, ◌^◌, ◌<◌, ◌≤◌, ◌==◌, zero, suc, Bool, true, false, if◌then◌else◌, List, [], ◌∷◌, ◌++◌, length, set, get_or, slice_get, Some, get_or-set_same, get_or-set_other, bit_and, bit_or, bit_xor, refl, sym, ap, subst, ◌∙◌}
use Rattle.std.specs.Int.{bit_at}
use Rattle.std.proofs.lemmas.Bool.Decides.{nat_tests}
use Rattle.std.proofs.lemmas.Nat.{one_shl, pow_below}
use Rattle.std.proofs.lemmas.Nat.Bits.{bit_at_lowest, bit_at-suc, bit_at-lt, bit_at_cat_low, bit_at_cat_high, shr_and_one}
use Rattle.std.proofs.Math.Nat.{pow-suc}
use Rattle.std.specs.Int.Bits.{or_zero_r}
use lib.Bits.{or_shifted_r}
use Rattle.std.proofs.lemmas.Option.{slice_get-get_or}
use Rattle.bb_base.specs.Booleans.{xor, parity_of_bits}
use Rattle.bb_base.specs.Bits.{bits, from_bits, picked}
use Rattle.bb_base.specs.Parity.{code_bit, code_of_bits}
use Rattle.bb_gf2.proofs.BitLaws.{code_of_bits-bits, from_bits-bits}
use Rattle.bb_gf2.proofs.Xor.{xor_assoc_bits}
use Rattle.bb_terms.specs.Register.{next_state, state_after}
use Rattle.bb_gf2.proofs.Injective.{next_below}
use Rattle.bb_eqn.specs.Lanes.{lane, in_lane, state_on}
use Rattle.bb_eqn.proofs.LaneLemmas.{lane_xor}

-- a bit put behind a word's bits
pub put_bit : (word taken from bit place : ℕ) → place < 64 → word < 2 ^ place → taken ≡ bit_and (from / 2 ^ bit) 1 → bit_or word (taken * 2 ^ place % 2 ^ 64) ≡ bit_at from bit * 2 ^ place + word
put_bit word taken from bit place less small is =
    ap (λ b. bit_or word (b * 2 ^ place % 2 ^ 64)) (is ∙ shr_and_one from bit) ∙ by (bit_at from bit) (bit_at-lt from bit)
  where
    by : (b : ℕ) → b < 2 → bit_or word (b * 2 ^ place % 2 ^ 64) ≡ b * 2 ^ place + word
    by zero h = let none : 0 * 2 ^ place % 2 ^ 64 ≡ 0 = omega arith in ap (bit_or word) none ∙ or_zero_r word ∙ omega arith
    by (suc zero) h =
        let shifted : 1 * 2 ^ place % 2 ^ 64 ≡ 1 * 2 ^ place = (let plain : 1 * 2 ^ place ≡ 2 ^ place = omega arith in one_shl place 64 less ∙ sym plain) in
        ap (bit_or word) shifted ∙ or_shifted_r 1 place word small
    by (suc (suc b)) h = absurd (omega (arith, h))

-- the lanes of a word with one bit more
pub lane_put : (place word b : ℕ) → word < 2 ^ place → b < 2 → lane place (b * 2 ^ place + word) ≡ (b == 1)
lane_put place word b small less =
    let none : place - place ≡ 0 = omega arith in
    let low : b % 2 ≡ b = omega (arith, less) in
    ap (λ n. n == 1) (bit_at_cat_high b place word place small (omega arith) ∙ ap (bit_at b) none ∙ bit_at_lowest b ∙ low)

pub lane_before : (place word b t : ℕ) → t < place → lane t (b * 2 ^ place + word) ≡ lane t word
lane_before place word b t less = ap (λ n. n == 1) (bit_at_cat_low b place word t less)

pub below_put : (place word b : ℕ) → word < 2 ^ place → b < 2 → b * 2 ^ place + word < 2 ^ (place + 1)
below_put place word b small less = by b less
  where
    twice : 2 ^ suc place ≡ 2 ^ place * 2
    twice = pow-suc 2 place

    more : suc place ≡ place + 1
    more = omega arith

    by : (b : ℕ) → b < 2 → b * 2 ^ place + word < 2 ^ (place + 1)
    by zero h = subst (λ n. 0 * 2 ^ place + word < 2 ^ n) more (omega (arith, twice, small))
    by (suc zero) h = subst (λ n. 1 * 2 ^ place + word < 2 ^ n) more (omega (arith, twice, small))
    by (suc (suc b)) h = absurd (omega (arith, h))

-- one row more has its bit
pub row_done : (f : ℕ → ℕ) (rows : List ℕ) (bit v : ℕ) → bit < length rows → v ≡ f bit → ((i : ℕ) → i < bit → get_or rows i 0 ≡ f i) → (i : ℕ) → i < bit + 1 → get_or (set rows bit v) i 0 ≡ f i
row_done f rows bit v less is done i near = by (i == bit) refl
  where
    by : (b : Bool) → (i == bit) ≡ b → get_or (set rows bit v) i 0 ≡ f i
    by true e = let same : i ≡ bit = grind (arith, nat_tests, e) in subst (λ n. get_or (set rows bit v) n 0 ≡ f n) (sym same) (get_or-set_same rows bit v 0 less ∙ is)
    by false e = let differs : i ≢ bit = (λ s. grind (arith, nat_tests, e, s)) in get_or-set_other rows bit i v 0 differs ∙ done i (omega (arith, near, differs))

pub row_left : (rows old : List ℕ) (bit v : ℕ) → ((i : ℕ) → bit ≤ i → get_or rows i 0 ≡ get_or old i 0) → (i : ℕ) → bit + 1 ≤ i → get_or (set rows bit v) i 0 ≡ get_or old i 0
row_left rows old bit v left i far = get_or-set_other rows bit i v 0 (λ s. omega (arith, far, s)) ∙ left i (omega (arith, far))

-- rows whose lane has a number's bits
bits_in_lane : (k t x : ℕ) (rows : List ℕ) → length rows ≡ k → ((i : ℕ) → i < k → lane t (get_or rows i 0) ≡ lane i x) → in_lane t rows ≡ bits k x
bits_in_lane zero t x [] long each = refl
bits_in_lane zero t x (r ∷ rows) long each = absurd (omega (arith, long))
bits_in_lane (suc k) t x [] long each = absurd (omega (arith, long))
bits_in_lane (suc k) t x (r ∷ rows) long each =
    let here : lane t r ≡ (x % 2 == 1) = each zero (omega arith) ∙ ap (λ n. n == 1) (bit_at_lowest x) in
    let rest : in_lane t rows ≡ bits k (x / 2) = bits_in_lane k t (x / 2) rows (omega (arith, long)) (λ i less. each (suc i) (omega (arith, less)) ∙ ap (λ n. n == 1) (bit_at-suc x i)) in
    λ i. here i ∷ rest i

-- the code bit in a lane
pub code_in_lane : (k t column x : ℕ) (rows : List ℕ) → length rows ≡ k → x < 2 ^ k → ((i : ℕ) → i < k → lane t (get_or rows i 0) ≡ lane i x) → code_of_bits column (in_lane t rows) ≡ code_bit column x
code_in_lane k t column x rows long small each = ap (code_of_bits column) (bits_in_lane k t x rows long each) ∙ code_of_bits-bits k column x small

-- the number of the bits in a lane
pub number_in_lane : (k t x : ℕ) (rows : List ℕ) → length rows ≡ k → x < 2 ^ k → ((i : ℕ) → i < k → lane t (get_or rows i 0) ≡ lane i x) → x ≡ from_bits (in_lane t rows)
number_in_lane k t x rows long small each = sym (from_bits-bits k x small) ∙ ap from_bits (sym (bits_in_lane k t x rows long each))

-- one column's exclusive or, row by row
code_one : (left : ℕ) (b : Bool) (rest : List Bool) → left % 2 ≡ 1 → code_of_bits left (b ∷ rest) ≡ xor b (code_of_bits (left / 2) rest)
code_one left b rest odd = ap (λ n. parity_of_bits (if n == 1 then b ∷ picked (left / 2) rest else picked (left / 2) rest)) odd

code_none : (left : ℕ) (b : Bool) (rest : List Bool) → (left % 2 ≡ 1 → ⊥) → code_of_bits left (b ∷ rest) ≡ code_of_bits (left / 2) rest
code_none left b rest even = let zero_left : left % 2 ≡ 0 = omega (arith, even) in ap (λ n. parity_of_bits (if n == 1 then b ∷ picked (left / 2) rest else picked (left / 2) rest)) zero_left

pub column_with : (t word row left : ℕ) (rest : List ℕ) (whole : Bool) → left % 2 ≡ 1 → xor (lane t word) (code_of_bits left (in_lane t (row ∷ rest))) ≡ whole → xor (lane t (bit_xor word row)) (code_of_bits (left / 2) (in_lane t rest)) ≡ whole
column_with t word row left rest whole odd so_far =
    let behind = code_of_bits (left / 2) (in_lane t rest) in
    ap (λ b. xor b behind) (lane_xor t word row) ∙ xor_assoc_bits (lane t word) (lane t row) behind ∙ ap (xor (lane t word)) (sym (code_one left (lane t row) (in_lane t rest) odd)) ∙ so_far

pub column_without : (t word row left : ℕ) (rest : List ℕ) (whole : Bool) → (left % 2 ≡ 1 → ⊥) → xor (lane t word) (code_of_bits left (in_lane t (row ∷ rest))) ≡ whole → xor (lane t word) (code_of_bits (left / 2) (in_lane t rest)) ≡ whole
column_without t word row left rest whole even so_far = ap (xor (lane t word)) (sym (code_none left (lane t row) (in_lane t rest) even)) ∙ so_far

-- one lane more has its state's bits
pub lanes_more : (f : ℕ → ℕ) (i t place word row state : ℕ) → row ≡ bit_at state i * 2 ^ place + word → word < 2 ^ place → state ≡ f place → (t < place → lane t word ≡ lane i (f t)) → t < place + 1 → lane t row ≡ lane i (f t)
lanes_more f i t place word row state is small now before near = ap (lane t) is ∙ by (t == place) refl
  where
    by : (b : Bool) → (t == place) ≡ b → lane t (bit_at state i * 2 ^ place + word) ≡ lane i (f t)
    by true e =
        let same : t ≡ place = grind (arith, nat_tests, e) in
        subst (λ n. lane n (bit_at state i * 2 ^ place + word) ≡ lane i (f n)) (sym same) (lane_put place word (bit_at state i) small (bit_at-lt state i) ∙ ap (lane i) now)
    by false e =
        let differs : t ≢ place = (λ s. grind (arith, nat_tests, e, s)) in
        let less : t < place = omega (arith, near, differs) in
        lane_before place word (bit_at state i) t less ∙ before less

-- one column more has its word
pub coded_more : (f : ℕ → ℕ → Bool) (columns words : List ℕ) (place item word : ℕ) → place < length words → place < length columns → item ≡ get_or columns place 0 → ((t : ℕ) → t < 64 → lane t word ≡ f item t)
    → ((j t column : ℕ) → j < place → slice_get columns j ≡ Some column → t < 64 → lane t (get_or words j 0) ≡ f column t)
    → (j t column : ℕ) → j < place + 1 → slice_get columns j ≡ Some column → t < 64 → lane t (get_or (set words place word) j 0) ≡ f column t
coded_more f columns words place item word less inside is here before j t column near stands h = by (j == place) refl
  where
    by : (b : Bool) → (j == place) ≡ b → lane t (get_or (set words place word) j 0) ≡ f column t
    by true e =
        let same : j ≡ place = grind (arith, nat_tests, e) in
        let there : slice_get columns place ≡ Some item = slice_get-get_or columns place 0 inside ∙ ap Some (sym is) in
        let one : item ≡ column = cc (there, stands, ap (slice_get columns) same) in
        ap (λ n. lane t (get_or (set words place word) n 0)) same ∙ ap (lane t) (get_or-set_same words place word 0 less) ∙ here t h ∙ ap (λ n. f n t) one
    by false e =
        let differs : j ≢ place = (λ s. grind (arith, nat_tests, e, s)) in
        ap (lane t) (get_or-set_other words place j word 0 differs) ∙ before j t column (omega (arith, near, differs)) stands h

pub state_on_zero : (degree mask x : ℕ) → state_on degree mask 0 x ≡ x
unfolding state_on
state_on_zero degree mask x = refl

pub state_on_more : (degree mask t x : ℕ) → state_on degree mask (t + 1) x ≡ next_state degree mask (state_on degree mask t x)
unfolding state_on
state_on_more degree mask t x = let more : t + 1 ≡ suc t = omega arith in ap (λ n. state_on degree mask n x) more

-- states in a row
pub state_on_after : (degree mask t n : ℕ) → state_on degree mask t (state_after degree mask n) ≡ state_after degree mask (n + t)
unfolding state_on
state_on_after degree mask zero n = ap (state_after degree mask) (omega arith)
state_on_after degree mask (suc t) n = let more : suc (n + t) ≡ n + suc t = omega arith in ap (next_state degree mask) (state_on_after degree mask t n) ∙ ap (state_after degree mask) more

pub state_on_below : (degree mask t x : ℕ) → x < 2 ^ degree → state_on degree mask t x < 2 ^ degree
unfolding state_on
state_on_below degree mask zero x small = small
state_on_below degree mask (suc t) x small = next_below degree mask (state_on degree mask t x)

-- a place that has an item
pub inside_list : (xs : List ℕ) (j x : ℕ) → slice_get xs j ≡ Some x → j < length xs
inside_list [] j x at = absurd (cc at)
inside_list (y ∷ xs) zero x at = omega arith
inside_list (y ∷ xs) (suc j) x at = let less = inside_list xs j x at in omega (arith, less)

-- a state has at most 32 bits
pub below_states : (degree x : ℕ) → degree ≤ 31 → x < 2 ^ degree → x < 2 ^ 32
below_states degree x most small = let more : 2 ^ degree < 2 ^ 32 = pow_below degree 32 (omega (arith, most)) in omega (arith, small, more)
