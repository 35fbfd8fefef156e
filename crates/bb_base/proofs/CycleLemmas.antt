-- Levels fall along every way back, so an order leaves no cycle.
use Rattle.std.proofs.Common.{arith, ◌≡◌, inl, inr, ℕ, suc, zero, ◌<◌, ◌==◌, Bool, true, false, List, [], ◌∷◌, length, refl, sym, ap, ◌∙◌, cond, subst, get_or, slice_get, nat_lt, Some}
use Rattle.std.proofs.lemmas.Bool.Decides.{nat_tests}
use Rattle.std.proofs.lemmas.Option.{slice_get_within, get_or_from_slice_get, slice_get-get_or}
use Rattle.std.specs.Prelude.{Contains}
use Rattle.std.specs.List.{list_all}
use Rattle.bb_base.specs.Net.{Gate}
use Rattle.bb_base.specs.Order.{drivers, is_within, is_empty, HasLevel, IsOrder, ComesBefore, Reads, ReadsGate, LeadsTo, IsCycle}

-- an item of a list has what all of it have
pub all_have : {X : Type 0} (p : X → Bool) (xs : List X) (i : ℕ) (x : X) → list_all p xs ≡ true → slice_get xs i ≡ Some x → p x ≡ true
all_have p [] i x all at = absurd (cc at)
all_have p (y ∷ xs) zero x all at = let same : y ≡ x = cc at in subst (λ z. p z ≡ true) same (grind (arith, nat_tests, all))
all_have p (y ∷ xs) (suc i) x all at = all_have p xs i x (grind (arith, nat_tests, all)) at

-- a gate that drives a net stands among its drivers
pub driver_there : (gates : List (Gate ℕ)) (net i : ℕ) (g : Gate ℕ) → slice_get gates i ≡ Some g → g.out ≡ net → (k : ℕ) × (slice_get (drivers gates net) k ≡ Some g)
driver_there [] net i g at drives = absurd (cc at)
driver_there (f ∷ gates) net zero g at drives =
    let same : f ≡ g = cc at in
    go (f.out == net) refl same
  where
    go : (b : Bool) → (f.out == net) ≡ b → f ≡ g → (k : ℕ) × (slice_get (cond b (f ∷ drivers gates net) (drivers gates net)) k ≡ Some g)
    go true e same = (0, ap Some same)
    go false e same = absurd (grind (arith, nat_tests, e, drives, ap (λ (x : Gate ℕ). x.out) same))
driver_there (f ∷ gates) net (suc i) g at drives = go (f.out == net) refl (driver_there gates net i g at drives)
  where
    go : (b : Bool) → (f.out == net) ≡ b → ((k : ℕ) × (slice_get (drivers gates net) k ≡ Some g)) → (k : ℕ) × (slice_get (cond b (f ∷ drivers gates net) (drivers gates net)) k ≡ Some g)
    go true e found = (suc found.0, found.1)
    go false e found = found

-- where an item stands
abbrev pub found_at : {X : Type 0} (xs : List X) (x : X) → Contains xs x → (p : ℕ) × (slice_get xs p ≡ Some x)
found_at xs x c = (c.0, slice_get-get_or xs c.0 x c.1 ∙ ap Some c.2)

-- the level of a gate that drives what another reads is the lower one
falls :
    (gates : List (Gate ℕ)) (f g : Gate ℕ) (i p a b : ℕ) → HasLevel gates f a → HasLevel gates g b → slice_get gates i ≡ Some g → slice_get f.ins p ≡ Some g.out → b < a
falls gates f g i p a b high low at reads = by a high refl
  where
    found : (k : ℕ) × (slice_get (drivers gates g.out) k ≡ Some g)
    found = driver_there gates g.out i g at refl

    no_drivers : is_empty (drivers gates g.out) ≡ true → ⊥
    no_drivers e = go (drivers gates g.out) refl found.1
      where
        go : (ds : List (Gate ℕ)) → drivers gates g.out ≡ ds → slice_get (drivers gates g.out) found.0 ≡ Some g → ⊥
        go [] s t = cc (t, ap (λ (ds : List (Gate ℕ)). slice_get ds found.0) s)
        go (d ∷ ds) s t = cc (e, ap is_empty s)

    by : (n : ℕ) → HasLevel gates f n → a ≡ n → b < a
    by zero h e = absurd (no_drivers (all_have (is_within gates 0) f.ins p g.out h.within reads))
    by (suc k) h e =
        let net = all_have (is_within gates (suc k)) f.ins p g.out h.within reads in
        let inside : list_all (is_within gates k) g.ins ≡ true = all_have (λ (x : Gate ℕ). list_all (is_within gates k) x.ins) (drivers gates g.out) found.0 g net found.1 in
        low_enough (nat_lt k b) refl inside
      where
        low_enough : (t : Bool) → nat_lt k b ≡ t → list_all (is_within gates k) g.ins ≡ true → b < a
        low_enough true s inside = absurd (cc (inside, low.least k (grind (arith, nat_tests, s))))
        low_enough false s inside = grind (arith, nat_tests, s, e)

pub follows :
    (gates : List (Gate ℕ)) (order : List ℕ) (i j reader driver : ℕ) → IsOrder gates order → slice_get order i ≡ Some reader → slice_get order j ≡ Some driver → ReadsGate gates reader driver → j < i
follows gates order i j reader driver o at there r = go (nat_lt j i) refl
  where
    place : (p : ℕ) × (slice_get r.gate.ins p ≡ Some r.source.out)
    place = found_at r.gate.ins r.source.out r.reads

    lower : o.level driver < o.level reader
    lower = falls gates r.gate r.source driver place.0 (o.level reader) (o.level driver) (o.levels reader r.gate r.stands) (o.levels driver r.source r.source_stands) r.source_stands place.1

    small_i : i < length order
    small_i = slice_get_within order i reader at

    small_j : j < length order
    small_j = slice_get_within order j driver there

    go : (b : Bool) → nat_lt j i ≡ b → j < i
    go true e = grind (arith, nat_tests, e)
    go false e = absurd (later (nat_lt i j) refl)
      where
        later : (d : Bool) → nat_lt i j ≡ d → ⊥
        later true s =
            let pair = o.ascending i j reader (grind (arith, nat_tests, s)) small_j in
            let a = get_or_from_slice_get order i reader reader at in
            let b = get_or_from_slice_get order j driver reader there in
            before (subst (λ x. ComesBefore o.level x (get_or order j reader)) a pair) b
          where
            before : ComesBefore o.level reader (get_or order j reader) → get_or order j reader ≡ driver → ⊥
            before pair same = elim (subst (ComesBefore o.level reader) same pair) [ inl less ↦ omega (arith, less, lower) | inr equal ↦ omega (arith, equal.0, lower) ]
        later false s =
            let here : i ≡ j = grind (arith, nat_tests, s, e) in
            let same : reader ≡ driver = cc (at, there, ap (slice_get order) here) in
            omega (arith, lower, ap o.level same)

-- the number of the first net's gate on a way
abbrev first_gate : (gates : List (Gate ℕ)) (n : ℕ) (xs : List ℕ) (last : ℕ) → LeadsTo (Reads gates) (n ∷ xs) last → ℕ
first_gate gates n [] last w = w.stands.0
first_gate gates n (m ∷ xs) last w = w.0.stands.0

-- levels fall along a way, down to a gate that drives its end
way_falls :
    (gates : List (Gate ℕ)) (order : List ℕ) (o : IsOrder gates order) (n : ℕ) (xs : List ℕ) (last i : ℕ) (e : Gate ℕ) (w : LeadsTo (Reads gates) (n ∷ xs) last)
    → slice_get gates i ≡ Some e → e.out ≡ last → o.level i < o.level (first_gate gates n xs last w)
way_falls gates order o n [] last i e w at drives =
    let here = found_at gates w.gate w.stands in
    let read = found_at w.gate.ins last w.reads in
    falls gates w.gate e i read.0 (o.level here.0) (o.level i) (o.levels here.0 w.gate here.1) (o.levels i e at) at (read.1 ∙ ap Some (sym drives))
way_falls gates order o n (m ∷ []) last i e w at drives =
    let rest = way_falls gates order o m [] last i e w.1 at drives in
    let here = found_at gates w.0.gate w.0.stands in
    let next = found_at gates w.1.gate w.1.stands in
    let read = found_at w.0.gate.ins m w.0.reads in
    let step = falls gates w.0.gate w.1.gate next.0 read.0 (o.level here.0) (o.level next.0) (o.levels here.0 w.0.gate here.1) (o.levels next.0 w.1.gate next.1) next.1 (read.1 ∙ ap Some (sym w.1.drives)) in
    omega (arith, rest, step)
way_falls gates order o n (m ∷ k ∷ xs) last i e w at drives =
    let rest = way_falls gates order o m (k ∷ xs) last i e w.1 at drives in
    let here = found_at gates w.0.gate w.0.stands in
    let next = found_at gates w.1.0.gate w.1.0.stands in
    let read = found_at w.0.gate.ins m w.0.reads in
    let step = falls gates w.0.gate w.1.0.gate next.0 read.0 (o.level here.0) (o.level next.0) (o.levels here.0 w.0.gate here.1) (o.levels next.0 w.1.0.gate next.1) next.1 (read.1 ∙ ap Some (sym w.1.0.drives)) in
    omega (arith, rest, step)

pub no_cycle : (gates : List (Gate ℕ)) (order nets : List ℕ) → IsOrder gates order → IsCycle gates nets → ⊥
no_cycle gates order [] o cycle = cycle
no_cycle gates order (n ∷ []) o cycle =
    let here = found_at gates cycle.gate cycle.stands in
    let less = way_falls gates order o n [] n here.0 cycle.gate cycle here.1 cycle.drives in
    omega (arith, less)
no_cycle gates order (n ∷ m ∷ xs) o cycle =
    let here = found_at gates cycle.0.gate cycle.0.stands in
    let less = way_falls gates order o n (m ∷ xs) n here.0 cycle.0.gate cycle here.1 cycle.0.drives in
    omega (arith, less)
