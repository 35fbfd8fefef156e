-- The variables of a module, made ones among them, have different names, and have the bits that are made.
use Rattle.std.proofs.Common.{arith, ◌≡◌, ◌≢◌, ℕ, zero, suc, ◌+◌, ◌<◌, ◌≤◌, ◌^◌, Bool, true, false, not, ◌||◌, cond, List, [], ◌∷◌, ◌++◌, map, length, take, fold, refl, sym, ap, ◌∙◌, subst, AllPairs, decimal}
use Rattle.std.proofs.lemmas.Fmt.{decimal_injective}
use Rattle.std.proofs.lemmas.List.{get_or-map, length-take}
use Rattle.std.proofs.lemmas.List.Filters.{length-filter_both}
use Rattle.std.proofs.lemmas.List.FromFn.{length-range_with_len}
use Rattle.std.specs.Prelude.{filter}
use Rattle.std.specs.List.{AllByRecursion, range_with_len}
use Rattle.std.specs.Str.{bytes_eq}
use Rattle.bb_base.specs.Variables.{Entry, bit_count}
use Rattle.bb_base.specs.OwnNames.{made_name}
use Rattle.bb_base.proofs.Lists.{all_join, length_map, map_join}
use Rattle.bb_base.proofs.Distinct.{Distinct, distinct_map}
use Rattle.bb_net.proofs.CountLemmas.{variables_few}
use Rattle.bb_base.proofs.TimesLemmas.{times_range, once_distinct}
use Rattle.bb_parse.specs.declared.syntax.Module.{Module}
use Rattle.bb_parse.specs.declared.syntax.Decl.{Decl}
use Rattle.bb_fault.proofs.Keys.{same_name, name_itself}
use Rattle.bb_scope.specs.Names.{has_name, with_new_name, variable_names, mentioned}
use Rattle.bb_scope.specs.Declarations.{declarations}
use Rattle.bb_scope.specs.Variables.{entry_of, variables}
use Rattle.bb_drive.specs.Nets.{made_count, is_variable, made_names, made_variable}
use Rattle.bb_meaning.proofs.AllItems.{all_take, all_filter}
use Rattle.bb_assemble.proofs.NamedBits.{bit_count_join}
use Rattle.bb_assemble.proofs.NumberedNets.{distinct_apart}
use Rattle.bb_meaning.specs.Outcome.{work_in, variables_in}
use Rattle.bb_scope.proofs.Counting.{module-fresh}
use Rattle.bb_elab.proofs.PortLaws.{IsFine}

-- lists without repetitions --------------------------------------------------

distinct_filter : {X : Type 0} (p : X → Bool) (xs : List X) → Distinct xs → Distinct (filter p xs)
distinct_filter p [] once = tt
distinct_filter p (x ∷ xs) once = by (p x) (distinct_filter p xs once.1)
  where
    by : (t : Bool) → Distinct (filter p xs) → Distinct (cond t (x ∷ filter p xs) (filter p xs))
    by true rest = (all_filter (λ y. y ≢ x) p xs once.0, rest)
    by false rest = rest

distinct_take : {X : Type 0} (n : ℕ) (xs : List X) → Distinct xs → Distinct (take n xs)
distinct_take zero xs once = tt
distinct_take (suc n) [] once = tt
distinct_take (suc n) (x ∷ xs) once = (all_take (λ y. y ≢ x) n xs once.0, distinct_take n xs once.1)

distinct_join : {X : Type 0} (xs ys : List X) → Distinct xs → Distinct ys → AllByRecursion (λ y. AllByRecursion (λ x. x ≢ y) xs) ys → Distinct (xs ++ ys)
distinct_join [] ys once more apart = more
distinct_join (x ∷ xs) ys once more apart = (all_join (λ z. z ≢ x) xs ys once.0 (heads ys apart), distinct_join xs ys once.1 more (tails ys apart))
  where
    heads : (zs : List _) → AllByRecursion (λ y. AllByRecursion (λ z. z ≢ y) (x ∷ xs)) zs → AllByRecursion (λ z. z ≢ x) zs
    heads [] h = tt
    heads (z ∷ zs) h = ((λ same. h.0.0 (sym same)), heads zs h.1)

    tails : (zs : List _) → AllByRecursion (λ y. AllByRecursion (λ z. z ≢ y) (x ∷ xs)) zs → AllByRecursion (λ y. AllByRecursion (λ z. z ≢ y) xs) zs
    tails [] h = tt
    tails (z ∷ zs) h = (h.0.1, tails zs h.1)

-- names ------------------------------------------------------------------------

not_named : (names : List (List ℕ)) (name : List ℕ) → has_name names name ≡ false → AllByRecursion (λ n. n ≢ name) names
not_named [] name h = tt
not_named (n ∷ names) name h = by (bytes_eq name n) refl h (not_named names name)
  where
    by : (t : Bool) → bytes_eq name n ≡ t → (t || has_name names name) ≡ false → (has_name names name ≡ false → AllByRecursion (λ m. m ≢ name) names) → (n ≢ name) × AllByRecursion (λ m. m ≢ name) names
    by true e k rest = absurd (cc k)
    by false e k rest = ((λ same. differ same), rest k)
      where
        differ : n ≡ name → ⊥
        differ same = absurd (cc (sym (ap (bytes_eq name) same ∙ name_itself name) ∙ e))

-- a name that is added stands once
added_once : (names more : List (List ℕ)) → Distinct names → Distinct (fold with_new_name names more)
added_once names [] once = once
added_once names (m ∷ more) once = added_once (with_new_name names m) more (by (has_name names m) refl)
  where
    by : (t : Bool) → has_name names m ≡ t → Distinct (cond t names (names ++ m ∷ []))
    by true e = once
    by false e = distinct_join names (m ∷ []) once (tt, tt) (not_named names m e, tt)

entry_names : (decls : List Decl) (names : List (List ℕ)) → map (λ (v : Entry). v.0) (map (entry_of decls) names) ≡ names
entry_names decls [] = refl
entry_names decls (n ∷ names) = ap (λ ns. n ∷ ns) (entry_names decls names)

wire_names : (names : List (List ℕ)) → map (λ (v : Entry). v.0) (map made_variable names) ≡ names
wire_names [] = refl
wire_names (n ∷ names) = ap (λ ns. n ∷ ns) (wire_names names)

-- made names -------------------------------------------------------------------

one_number : (j k : ℕ) → j < 2 ^ 64 → k < 2 ^ 64 → made_name j ≡ made_name k → j ≡ k
one_number j k small less same =
    let digits : decimal j ≡ decimal k = cc same in
    decimal_injective j k small less digits

numbers_below : (end from n : ℕ) → from + n ≤ end → AllByRecursion (λ k. k < end) (range_with_len from n)
numbers_below end from zero h = tt
numbers_below end from (suc n) h = (omega (arith, h), numbers_below end (from + 1) n (omega (arith, h)))

made_once : (n : ℕ) → n ≤ 2 ^ 64 → Distinct (map made_name (range_with_len 0 n))
made_once n small = distinct_map made_name (λ k. k < 2 ^ 64) one_number (range_with_len 0 n) (numbers_below (2 ^ 64) 0 n (omega (arith, small))) (once_distinct (range_with_len 0 n) (λ net. times_range net 0 n))

-- no more different names than there are variables are theirs
none_equal : (key : List ℕ) (names : List (List ℕ)) → AllByRecursion (λ n. n ≢ key) names → length (filter (λ n. bytes_eq n key) names) ≡ 0
none_equal key [] h = refl
none_equal key (n ∷ names) h = by (bytes_eq n key) refl (none_equal key names h.1)
  where
    by : (t : Bool) → bytes_eq n key ≡ t → length (filter (λ n. bytes_eq n key) names) ≡ 0 → length (cond t (n ∷ filter (λ n. bytes_eq n key) names) (filter (λ n. bytes_eq n key) names)) ≡ 0
    by true e rest = absurd (h.0 (same_name n key e))
    by false e rest = rest

one_equal : (key : List ℕ) (names : List (List ℕ)) → Distinct names → length (filter (λ n. bytes_eq n key) names) ≤ 1
one_equal key [] once = omega arith
one_equal key (n ∷ names) once = by (bytes_eq n key) refl (one_equal key names once.1)
  where
    by : (t : Bool) → bytes_eq n key ≡ t → length (filter (λ n. bytes_eq n key) names) ≤ 1 → length (cond t (n ∷ filter (λ n. bytes_eq n key) names) (filter (λ n. bytes_eq n key) names)) ≤ 1
    by true e rest =
        let none = none_equal key names (subst (λ k. AllByRecursion (λ m. m ≢ k) names) (same_name n key e) once.0) in
        omega (arith, none)
    by false e rest = rest

either_few : {X : Type 0} (p q : X → Bool) (xs : List X) → length (filter (λ x. p x || q x) xs) ≤ length (filter p xs) + length (filter q xs)
either_few p q [] = omega arith
either_few p q (x ∷ xs) = by (p x) (q x) (either_few p q xs)
  where
    by : (s t : Bool) → length (filter (λ x. p x || q x) xs) ≤ length (filter p xs) + length (filter q xs)
        → length (cond (s || t) (x ∷ filter (λ x. p x || q x) xs) (filter (λ x. p x || q x) xs)) ≤ length (cond s (x ∷ filter p xs) (filter p xs)) + length (cond t (x ∷ filter q xs) (filter q xs))
    by true true h = omega (arith, h)
    by true false h = omega (arith, h)
    by false true h = omega (arith, h)
    by false false h = h

named_few : (table : List Entry) (names : List (List ℕ)) → Distinct names → length (filter (is_variable table) names) ≤ length table
named_few [] names once = omega (arith, none names)
  where
    none : (ns : List (List ℕ)) → length (filter (is_variable []) ns) ≡ 0
    none [] = refl
    none (n ∷ ns) = none ns
named_few (v ∷ table) names once = omega (arith, either_few (λ n. bytes_eq n v.0) (is_variable table) names, one_equal v.0 names once, named_few table names once)

-- as many names are made as are wanted
made_many : (table : List Entry) (count : ℕ) → count + length table ≤ 2 ^ 64 → length (made_names table count) ≡ count
made_many table count small =
    let names : List (List ℕ) = map made_name (range_with_len 0 (count + length table)) in
    let free = filter (λ n. not (is_variable table n)) names in
    let all : length names ≡ count + length table = length_map made_name (range_with_len 0 (count + length table)) ∙ length-range_with_len 0 (count + length table) in
    let parts = length-filter_both (is_variable table) (λ n. not (is_variable table n)) (λ n. refl) names in
    let few = named_few table names (made_once (count + length table) small) in
    omega (arith, length-take count free, all, parts, few)

-- all variables --------------------------------------------------------------------

wires_wide : (names : List (List ℕ)) → bit_count (map made_variable names) ≡ length names
wires_wide [] = refl
wires_wide (n ∷ names) = omega (arith, wires_wide names)

module _ (m : Module) (fine : IsFine m) where
  abbrev table : List Entry
  table = variables m

  abbrev count : ℕ
  count = made_count (variables m) (work_in m)

  abbrev made : List (List ℕ)
  made = made_names (variables m) (made_count (variables m) (work_in m))

  small : count + length table ≤ 2 ^ 64
  small = omega (arith, module-fresh m fine.parts, variables_few (variables m), fine.bits)

  -- all bits are those of variables
  pub bits_are_all : bit_count (variables_in m) ≡ (work_in m).fresh
  bits_are_all = omega (arith, bit_count_join table (map made_variable made), wires_wide made, made_many table count small, module-fresh m fine.parts)

  names_once : Distinct (map (λ (v : Entry). v.0) (variables_in m))
  names_once = subst Distinct (sym names) (distinct_join (variable_names m) made (added_once [] (mentioned m) tt) made_distinct free)
    where
      names : map (λ (v : Entry). v.0) (variables_in m) ≡ variable_names m ++ made
      names = map_join (λ (v : Entry). v.0) table (map made_variable made) ∙ (λ i. entry_names (declarations m) (variable_names m) i ++ wire_names made i)

      made_distinct : Distinct made
      made_distinct = distinct_take count (filter (λ n. not (is_variable table n)) (map made_name (range_with_len 0 (count + length table))))
          (distinct_filter (λ n. not (is_variable table n)) (map made_name (range_with_len 0 (count + length table))) (made_once (count + length table) small))

      passed : (names : List (List ℕ)) → AllByRecursion (λ n. is_variable table n ≡ false) (filter (λ n. not (is_variable table n)) names)
      passed [] = tt
      passed (n ∷ names) = by (is_variable table n) refl (passed names)
        where
          by : (t : Bool) → is_variable table n ≡ t → AllByRecursion (λ n. is_variable table n ≡ false) (filter (λ n. not (is_variable table n)) names)
              → AllByRecursion (λ n. is_variable table n ≡ false) (cond (not t) (n ∷ filter (λ n. not (is_variable table n)) names) (filter (λ n. not (is_variable table n)) names))
          by true e rest = rest
          by false e rest = (e, rest)

      named : (names : List (List ℕ)) (name : List ℕ) → is_variable (map (entry_of (declarations m)) names) name ≡ has_name names name
      named [] name = refl
      named (n ∷ names) name = ap (λ b. bytes_eq name n || b) (named names name)

      each : (names : List (List ℕ)) → AllByRecursion (λ n. is_variable table n ≡ false) names → AllByRecursion (λ n. AllByRecursion (λ k. k ≢ n) (variable_names m)) names
      each [] h = tt
      each (n ∷ names) h = (not_named (variable_names m) n (sym (named (variable_names m) n) ∙ h.0), each names h.1)

      free : AllByRecursion (λ n. AllByRecursion (λ k. k ≢ n) (variable_names m)) made
      free = each made (all_take (λ n. is_variable table n ≡ false) count (filter (λ n. not (is_variable table n)) (map made_name (range_with_len 0 (count + length table)))) (passed (map made_name (range_with_len 0 (count + length table)))))

  -- no two variables have one name
  pub variables_apart : AllPairs (λ v u. v.0 ≢ u.0) (variables_in m)
  variables_apart i j d less within =
      let long : length (map (λ (v : Entry). v.0) (variables_in m)) ≡ length (variables_in m) = length_map (λ (v : Entry). v.0) (variables_in m) in
      let first = get_or-map (λ (v : Entry). v.0) (variables_in m) i d d.0 (omega (arith, less, within)) in
      let second = get_or-map (λ (v : Entry). v.0) (variables_in m) j d d.0 within in
      λ same. distinct_apart (map (λ (v : Entry). v.0) (variables_in m)) names_once i j d.0 less (omega (arith, long, within)) (first ∙ same ∙ sym second)
