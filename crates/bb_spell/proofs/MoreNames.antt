-- The further names of a first line, one step at a time.
use Rattle.std.proofs.Common.{◌≡◌, ℕ, ◌≤◌, ◌<◌, zero, suc, List, [], ◌∷◌, length, drop, codes, Option, Some, None, Bool, true, false, refl, sym, ap, ◌∙◌, arith, length-drop}
use Rattle.bb_spell.specs.Front.{◌>>=◌, begins_with, front_name, Fails}
use Rattle.bb_spell.specs.Places.{after_names}
use Rattle.bb_spell.specs.declared.scan.LineFault.{LineFault}
use Rattle.bb_spell.specs.declared.scan.LineFault.TheVariants.{NotCanonical, NoMemory}
use Rattle.bb_spell.proofs.Shorter.{name_le}
use Rattle.bb_spell.proofs.MoreBits.{begins_long, bind_same}

pub names_end : (most : ℕ) (bytes : List ℕ) → begins_with (codes ", ") bytes ≡ false → after_names most bytes ≡ Some bytes
unfolding after_names
names_end zero bytes h = refl
names_end (suc most) bytes h = rw h refl

-- one name at least
pub names_one : (most : ℕ) (bytes : List ℕ) → begins_with (codes ", ") bytes ≡ true → after_names (suc most) bytes ≡ (front_name (drop 2 bytes) >>= (λ n. after_names most n.1))
unfolding after_names
names_one most bytes h = rw h refl

-- the same is read whatever number is allowed, where it is enough
names_same : (n m : ℕ) (bytes : List ℕ) → length bytes ≤ n → length bytes ≤ m → after_names n bytes ≡ after_names m bytes
names_same zero zero bytes h k = refl
names_same zero (suc m) [] h k = names_end zero [] refl ∙ sym (names_end (suc m) [] refl)
names_same zero (suc m) (x ∷ xs) h k = absurd (omega arith)
names_same (suc n) zero [] h k = names_end (suc n) [] refl ∙ sym (names_end zero [] refl)
names_same (suc n) zero (x ∷ xs) h k = absurd (omega arith)
names_same (suc n) (suc m) bytes h k = go (begins_with (codes ", ") bytes) refl (λ rest. names_same n m rest)
  where
    go : (b : Bool) → begins_with (codes ", ") bytes ≡ b → ((rest : List ℕ) → length rest ≤ n → length rest ≤ m → after_names n rest ≡ after_names m rest) → after_names (suc n) bytes ≡ after_names (suc m) bytes
    go false e rec = names_end (suc n) bytes e ∙ sym (names_end (suc m) bytes e)
    go true e rec =
        let long = begins_long bytes e in
        let two = length-drop 2 bytes in
        names_one n bytes e ∙ bind_same (front_name (drop 2 bytes)) _ _ (λ x at.
        let short = name_le (drop 2 bytes) x.0 x.1 at in
        rec x.1 (omega arith) (omega arith)) ∙ sym (names_one m bytes e)

-- another name
names_step : (bytes name rest : List ℕ) → begins_with (codes ", ") bytes ≡ true → front_name (drop 2 bytes) ≡ Some (name, rest) → after_names (length bytes) bytes ≡ after_names (length rest) rest
names_step [] name rest s t = cc
names_step (x ∷ xs) name rest s t =
    let long = begins_long (x ∷ xs) s in
    let short = name_le (drop 2 (x ∷ xs)) name rest t in
    let two = length-drop 2 (x ∷ xs) in
    names_one (length xs) (x ∷ xs) s ∙ ap (λ r. r >>= (λ n. after_names (length xs) n.1)) t ∙ names_same (length xs) (length rest) rest (omega arith) (omega arith)

-- no name where one has to stand
names_none : (bytes : List ℕ) → begins_with (codes ", ") bytes ≡ true → front_name (drop 2 bytes) ≡ None → after_names (length bytes) bytes ≡ None
names_none [] s t = cc
names_none (x ∷ xs) s t = names_one (length xs) (x ∷ xs) s ∙ ap (λ r. r >>= (λ n. after_names (length xs) n.1)) t

-- what follows is shorter
pub names_shorter : (bytes from name rest : List ℕ) → begins_with (codes ", ") bytes ≡ true → from ≡ drop 2 bytes → front_name from ≡ Some (name, rest) → length rest < length bytes
names_shorter bytes from name rest s f t =
    let long = begins_long bytes s in
    let short = name_le from name rest t in
    omega (arith, ap length f, length-drop 2 bytes)

-- what follows all names stays the same
pub names_kept : (bytes from name tail : List ℕ) (all : Option (List ℕ)) → begins_with (codes ", ") bytes ≡ true → from ≡ drop 2 bytes → front_name from ≡ Some (name, tail) → after_names (length bytes) bytes ≡ all → after_names (length tail) tail ≡ all
names_kept bytes from name tail all s f t h = sym (names_step bytes name tail s (ap front_name (sym f) ∙ t)) ∙ h

-- the end of the names
pub names_last : (bytes : List ℕ) (all : Option (List ℕ)) → begins_with (codes ", ") bytes ≡ false → after_names (length bytes) bytes ≡ all → all ≡ Some bytes
names_last bytes all s h = sym h ∙ names_end (length bytes) bytes s

-- a fault in the middle
pub names_fail : (e : LineFault) (bytes from : List ℕ) (all : Option (List ℕ)) → begins_with (codes ", ") bytes ≡ true → from ≡ drop 2 bytes → Fails e (front_name from) → after_names (length bytes) bytes ≡ all → Fails e all
names_fail NoMemory bytes from all s f t h = tt
names_fail NotCanonical bytes from all s f t h = sym h ∙ names_none bytes s (ap front_name (sym f) ∙ t)
