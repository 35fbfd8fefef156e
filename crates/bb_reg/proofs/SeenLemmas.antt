-- What observers give and read, by their cells and leaves.
use Rattle.std.proofs.Common.{◌≡◌, ℕ, zero, suc, ◌+◌, ◌<◌, List, [], ◌∷◌, ◌++◌, length, map, take, get_or, refl, sym, ap, ◌∙◌, arith}
use Rattle.std.proofs.lemmas.List.{get_or_read, take_more}
use Rattle.bb_terms.specs.declared.kind.Kind.TheVariants.{Input}
use Rattle.bb_base.proofs.Lists.{length_map, map_join}
use Rattle.bb_reg.specs.Draft.{bare_cell}
use Rattle.bb_reg.specs.Fitting.{EndsValue, seen_at, cell_at, leaves_at, no_observer, ends_of_all, ends_each}
use Rattle.std.specs.List.{flat_map}
use Rattle.bb_terms.specs.declared.plan.Cell.{Cell}
use Rattle.bb_reg.specs.Chosen.{given_by, given, read_nets, seen_cells}

pub given_seen : (cells : List Cell) (leaves : List (List ℕ)) → length cells ≡ length leaves → flat_map given_by cells ≡ given (seen_cells cells leaves)
given_seen [] leaves long = refl
given_seen (c ∷ cells) [] long = absurd (omega (arith, long))
given_seen (c ∷ cells) (xs ∷ leaves) long = ap (λ ks. given_by c ++ ks) (given_seen cells leaves (omega (arith, long)))

pub read_seen : {V : Type 0} (f : V → List ℕ) (cells : List Cell) (leaves : List V) → length cells ≡ length leaves → flat_map f leaves ≡ read_nets (seen_cells cells (map f leaves))
read_seen f [] [] long = refl
read_seen f [] (v ∷ leaves) long = absurd (omega (arith, long))
read_seen f (c ∷ cells) [] long = absurd (omega (arith, long))
read_seen f (c ∷ cells) (v ∷ leaves) long = ap (λ ks. f v ++ ks) (read_seen f cells leaves (omega (arith, long)))

-- the observer of a number has the cell and the leaves of that number
pub seen_get : (cells : List Cell) (leaves : List (List ℕ)) (i : ℕ) → length cells ≡ length leaves → seen_at (seen_cells cells leaves) i ≡ record { cell = cell_at cells i; leaves = leaves_at leaves i }
seen_get [] [] i long = refl
seen_get [] (xs ∷ leaves) i long = absurd (omega (arith, long))
seen_get (c ∷ cells) [] i long = absurd (omega (arith, long))
seen_get (c ∷ cells) (xs ∷ leaves) zero long = refl
seen_get (c ∷ cells) (xs ∷ leaves) (suc i) long = seen_get cells leaves i (omega (arith, long))

pub length_seen : (cells : List Cell) (leaves : List (List ℕ)) → length cells ≡ length leaves → length (seen_cells cells leaves) ≡ length cells
length_seen [] leaves long = refl
length_seen (c ∷ cells) [] long = absurd (omega (arith, long))
length_seen (c ∷ cells) (xs ∷ leaves) long = ap suc (length_seen cells leaves (omega (arith, long)))

-- the item of a map by its number
pub get_map : {X Y : Type 0} (f : X → Y) (xs : List X) (i : ℕ) (d : X) → get_or (map f xs) i (f d) ≡ f (get_or xs i d)
get_map f [] i d = refl
get_map f (x ∷ xs) zero d = refl
get_map f (x ∷ xs) (suc i) d = get_map f xs i d

-- one more observer
pub ends_more :
    {V : Type 0} (f : V → List ℕ) (cells : List Cell) (leaves : List V) (items : List EndsValue) (i : ℕ) (c : Cell) (v : V) (e : EndsValue) → length cells ≡ length leaves → i < length cells
    → items ≡ ends_each (take i (seen_cells cells (map f leaves))) → c ≡ get_or cells i c → v ≡ get_or leaves i v → e ≡ ends_of_all (record { cell = c; leaves = f v } ∷ [])
    → items ++ e ∷ [] ≡ ends_each (take (i + 1) (seen_cells cells (map f leaves)))
ends_more f cells leaves items i c v e long low before cell_is leaves_are is =
    let seen = seen_cells cells (map f leaves) in
    let long' : length cells ≡ length (map f leaves) = long ∙ sym (length_map f leaves) in
    let inside : i < length seen = omega (arith, low, length_seen cells (map f leaves) long') in
    let cell : cell_at cells i ≡ c = sym (get_or_read cells i c low cell_is (bare_cell Input 0)) in
    let own : leaves_at (map f leaves) i ≡ f v = sym (get_or_read (map f leaves) i (f v) (omega (arith, low, long')) (ap f leaves_are ∙ sym (get_map f leaves i v)) []) in
    let item : seen_at seen i ≡ record { cell = c; leaves = f v } = seen_get cells (map f leaves) i long' ∙ (λ k. record { cell = cell k; leaves = own k }) in
    (λ k. before k ++ is k ∷ []) ∙ sym (ap ends_each (take_more seen i no_observer inside ∙ ap (λ o. take i seen ++ o ∷ []) item) ∙ map_join (λ o. ends_of_all (o ∷ [])) (take i seen) (record { cell = c; leaves = f v } ∷ []))
