-- How the bit of a number is named, variable by variable.
use Rattle.std.proofs.Common.{arith, ◌≡◌, ℕ, zero, suc, ◌+◌, ◌-◌, ◌<◌, ◌≤◌, length, drop, refl, slice_get, true, cond, List, [], ◌∷◌, sym, ap, ◌∙◌}
use Rattle.std.specs.Prelude.{Option, Some, nat_lt}
use Rattle.std.proofs.lemmas.Bool.Decides.{nat_tests}
use Rattle.std.specs.Option.{option_map}
use Rattle.bb_base.specs.Variables.{Entry, Bit, bit_in, bit_of, range_width, index_at, bit_count}
use Rattle.bb_drive.specs.Nets.{bit_name, bit_text}

-- the next variable has the bit, or it is one of those behind
pub name_next :
    (es : List Entry) (i n b : ℕ) (v : Entry) → slice_get es i ≡ Some v
    → bit_name n (drop i es) b ≡ cond (nat_lt b (range_width v.1.range)) (record { variable = n; place = b }) (bit_name (n + 1) (drop (i + 1) es) (b - range_width v.1.range))
name_next [] i n b v h = cc
name_next (e ∷ es) zero n b v h =
    let same : e ≡ v = cc h in
    let k : n + 1 ≡ suc n = omega arith in
    ap (λ x. cond (nat_lt b (range_width x.1.range)) (record { variable = n; place = b }) (bit_name (suc n) es (b - range_width x.1.range))) same
    ∙ ap (λ m. cond (nat_lt b (range_width v.1.range)) (record { variable = n; place = b }) (bit_name m es (b - range_width v.1.range))) (sym k)
name_next (e ∷ es) (suc i) n b v h =
    let k : suc i + 1 ≡ suc (i + 1) = omega arith in
    name_next es i n b v h
    ∙ ap (λ m. cond (nat_lt b (range_width v.1.range)) (record { variable = n; place = b }) (bit_name (n + 1) (drop m (e ∷ es)) (b - range_width v.1.range))) (sym k)

-- a bit of the variable at an index is named by it
pub bit_found :
    (es : List Entry) (i b n : ℕ) (v : Entry) (name : List ℕ) (index : Option ℕ) → slice_get es i ≡ Some v → b < range_width v.1.range
    → bit_of es (bit_name i (drop i es) b) ≡ bit_text es n → name ≡ v.0 → index ≡ option_map (λ r. index_at r b) v.1.range
    → ◌≡◌ {A = List ℕ × Option ℕ} (name, index) ((bit_text es n).name, (bit_text es n).index)
bit_found es i b n v name index at inside whole of_name of_index =
    let next = name_next es i i b v at in
    let test : nat_lt b (range_width v.1.range) ≡ true = grind (arith, nat_tests, inside) in
    let here : bit_name i (drop i es) b ≡ record { variable = i; place = b } = next ∙ ap (λ t. cond t (record { variable = i; place = b }) (bit_name (i + 1) (drop (i + 1) es) (b - range_width v.1.range))) test in
    let bit : Bit = record { name = v.0; index = option_map (λ r. index_at r b) v.1.range } in
    let said : bit_text es n ≡ bit = sym whole ∙ (ap (bit_of es) here ∙ ap (λ e. bit_in e b) at) in
    (λ j. ((of_name ∙ ap (λ x. x.name) (sym said)) j, (of_index ∙ ap (λ x. x.index) (sym said)) j))

-- the bits from a variable on are its own and those behind it, and behind all variables there are none
pub count_next : (es : List Entry) (i : ℕ) (v : Entry) → slice_get es i ≡ Some v → bit_count (drop i es) ≡ range_width v.1.range + bit_count (drop (i + 1) es)
count_next [] i v h = cc
count_next (e ∷ es) zero v h =
    let same : e ≡ v = cc h in
    ap (λ (x : Entry). range_width x.1.range + bit_count es) same
count_next (e ∷ es) (suc i) v h =
    let k : suc i + 1 ≡ suc (i + 1) = omega arith in
    count_next es i v h ∙ ap (λ m. range_width v.1.range + bit_count (drop m (e ∷ es))) (sym k)

pub count_end : (es : List Entry) (i : ℕ) → length es ≤ i → bit_count (drop i es) ≡ 0
count_end [] zero h = refl
count_end [] (suc i) h = refl
count_end (e ∷ es) zero h = absurd (omega arith)
count_end (e ∷ es) (suc i) h = count_end es i (omega arith)
