-- What bits copy, their copies, and the labels that go on along them.
use Rattle.std.proofs.Common.{◌≡◌, ◌≢◌, ◌∙◌, ◌⊎◌, inl, inr, ℕ, ◌+◌, ◌<◌, zero, suc, List, [], ◌∷◌, length, Bool, true, false, nat_eq, refl, sym, ap, arith, slice_set, Some, None}
use Rattle.std.proofs.lemmas.Grind.{common_steps}
use Rattle.std.proofs.lemmas.Bool.Decides.{nat_tests}
use Rattle.std.specs.Prelude.{Option}
use Rattle.bb_drive.specs.Origins.{entry_at, IsBefore, HasNewer, AreCopies}

-- tables -----------------------------------------------------------------

pub same_bit : (a b : ℕ) → nat_eq a b ≡ true → a ≡ b
same_bit a b e = grind (arith, nat_tests)

pub other_bit : (a b : ℕ) → nat_eq a b ≡ false → a ≢ b
other_bit a b e = grind (arith, nat_tests)

pub no_some : {A : Type 0} (a : A) → None ≡ Some a → ⊥
no_some a e = cc

pub same_some : (a b : ℕ) → Some a ≡ Some b → a ≡ b
same_some a b e = cc

-- an entry after a write
pub entry_here : (table : List (Option ℕ)) (i : ℕ) (x : Option ℕ) → i < length table → entry_at (slice_set table i x) i ≡ x
entry_here table i x small = grind (arith, common_steps)

pub entry_other : (table : List (Option ℕ)) (i b : ℕ) (x : Option ℕ) → b ≢ i → entry_at (slice_set table i x) b ≡ entry_at table b
entry_other table i b x other = grind (arith, common_steps)

-- there is none past the table's end
pub entry_within : (table : List (Option ℕ)) (b i : ℕ) → entry_at table b ≡ Some i → b < length table
entry_within [] b i h = cc
entry_within (x ∷ table) zero i h = omega arith
entry_within (x ∷ table) (suc b) i h = omega (arith, entry_within table b i h)

-- copies -----------------------------------------------------------------

-- a bit that copies none adds no copy
pub copy_passed : (backs : List (Option ℕ)) (n : ℕ) (newest older : List (Option ℕ)) → entry_at backs n ≡ None → AreCopies backs n newest older → AreCopies backs (n + 1) newest older
copy_passed backs n newest older none before = record {
  long_newest = before.long_newest;
  long_older = before.long_older;
  first = λ a c h. let f = before.first a c h in (omega (arith, f.0), f.1);
  next = before.next;
  all = λ b a below h. by_bit (nat_eq b n) b refl a below h;
}
  where
    widened : (b a : ℕ) → ((entry_at newest a ≡ Some b) ⊎ HasNewer older n b) → (entry_at newest a ≡ Some b) ⊎ HasNewer older (n + 1) b
    widened b a (inl h) = inl h
    widened b a (inr w) = inr (record { copy = w.copy; above = w.above; below = omega (arith, w.below); link = w.link })

    by_bit : (t : Bool) (b : ℕ) → nat_eq b n ≡ t → (a : ℕ) → b < n + 1 → entry_at backs b ≡ Some a → (entry_at newest a ≡ Some b) ⊎ HasNewer older (n + 1) b
    by_bit true b e a below h = absurd (no_some a (sym none ∙ (sym (ap (entry_at backs) (same_bit b n e)) ∙ h)))
    by_bit false b e a below h = let other = other_bit b n e in widened b a (before.all b a (omega arith) h)

-- a bit that copies another one is its newest copy then
pub copy_linked :
    (backs : List (Option ℕ)) (n net : ℕ) (newest older : List (Option ℕ)) → n < length backs → net < length backs → entry_at backs n ≡ Some net → AreCopies backs n newest older
    → AreCopies backs (n + 1) (slice_set newest net (Some n)) (slice_set older n (entry_at newest net))
copy_linked backs n net newest older small inside is before = record {
  long_newest = grind (arith, common_steps, before.long_newest);
  long_older = grind (arith, common_steps, before.long_older);
  first = λ a c h. first_by (nat_eq a net) a refl c h;
  next = λ b c h. next_by (nat_eq b n) b refl c h;
  all = λ b a below h. all_by (nat_eq b n) b refl a below h;
}
  where
    newest_here : entry_at (slice_set newest net (Some n)) net ≡ Some n
    newest_here = entry_here newest net (Some n) (omega (arith, before.long_newest))

    older_here : entry_at (slice_set older n (entry_at newest net)) n ≡ entry_at newest net
    older_here = entry_here older n (entry_at newest net) (omega (arith, before.long_older))

    first_by : (t : Bool) (a : ℕ) → nat_eq a net ≡ t → (c : ℕ) → entry_at (slice_set newest net (Some n)) a ≡ Some c → (c < n + 1) × (entry_at backs c ≡ Some a)
    first_by true a e c h =
        let k = same_bit a net e in
        let at = same_some n c (sym newest_here ∙ (sym (ap (entry_at (slice_set newest net (Some n))) k) ∙ h)) in
        (omega arith, sym (ap (entry_at backs) at) ∙ (is ∙ ap Some (sym k)))
    first_by false a e c h =
        let f = before.first a c (sym (entry_other newest net a (Some n) (other_bit a net e)) ∙ h) in
        (omega (arith, f.0), f.1)

    next_by : (t : Bool) (b : ℕ) → nat_eq b n ≡ t → (c : ℕ) → entry_at (slice_set older n (entry_at newest net)) b ≡ Some c → IsBefore backs b c
    next_by true b e c h =
        let k = same_bit b n e in
        let f = before.first net c (sym older_here ∙ (sym (ap (entry_at (slice_set older n (entry_at newest net))) k) ∙ h)) in
        record { source = net; newer = ap (entry_at backs) k ∙ is; older = f.1 }
    next_by false b e c h = before.next b c (sym (entry_other older n b (entry_at newest net) (other_bit b n e)) ∙ h)

    kept : (b a : ℕ) → nat_eq a net ≡ false → ((entry_at newest a ≡ Some b) ⊎ HasNewer older n b)
        → (entry_at (slice_set newest net (Some n)) a ≡ Some b) ⊎ HasNewer (slice_set older n (entry_at newest net)) (n + 1) b
    kept b a e (inl h) = inl (entry_other newest net a (Some n) (other_bit a net e) ∙ h)
    kept b a e (inr w) = inr (record { copy = w.copy; above = w.above; below = omega (arith, w.below); link = entry_other older n w.copy (entry_at newest net) (apart w.copy w.below) ∙ w.link })
      where
        apart : (m : ℕ) → m < n → m ≢ n
        apart m h = omega arith

    moved : (b a : ℕ) → nat_eq a net ≡ true → b < n → ((entry_at newest a ≡ Some b) ⊎ HasNewer older n b)
        → (entry_at (slice_set newest net (Some n)) a ≡ Some b) ⊎ HasNewer (slice_set older n (entry_at newest net)) (n + 1) b
    moved b a e below (inl h) = inr (record { copy = n; above = below; below = omega arith; link = older_here ∙ (sym (ap (entry_at newest) (same_bit a net e)) ∙ h) })
    moved b a e below (inr w) = inr (record { copy = w.copy; above = w.above; below = omega (arith, w.below); link = entry_other older n w.copy (entry_at newest net) (apart w.copy w.below) ∙ w.link })
      where
        apart : (m : ℕ) → m < n → m ≢ n
        apart m h = omega arith

    all_by : (t : Bool) (b : ℕ) → nat_eq b n ≡ t → (a : ℕ) → b < n + 1 → entry_at backs b ≡ Some a
        → (entry_at (slice_set newest net (Some n)) a ≡ Some b) ⊎ HasNewer (slice_set older n (entry_at newest net)) (n + 1) b
    all_by true b e a below h =
        let k = same_bit b n e in
        let at = same_some net a (sym is ∙ (sym (ap (entry_at backs) k) ∙ h)) in
        inl (sym (ap (entry_at (slice_set newest net (Some n))) at) ∙ (newest_here ∙ ap Some (sym k)))
    all_by false b e a below h =
        let other = other_bit b n e in
        let small : b < n = omega arith in
        by_net (nat_eq a net) refl small (before.all b a small h)
      where
        by_net : (t : Bool) → nat_eq a net ≡ t → b < n → ((entry_at newest a ≡ Some b) ⊎ HasNewer older n b)
            → (entry_at (slice_set newest net (Some n)) a ≡ Some b) ⊎ HasNewer (slice_set older n (entry_at newest net)) (n + 1) b
        by_net true e small w = moved b a e small w
        by_net false e small w = kept b a e w
