-- What a netlist's variables must be so that a self-test is woven into it.
use Rattle.std.proofs.Common.{arith, ◌≡◌, ℕ, ◌<◌, suc, zero, false, List, [], ◌∷◌, length, get_or}
use Rattle.std.specs.List.{AllByRecursion}
use Rattle.bb_base.specs.OwnNames.{is_reserved}
use Rattle.bb_base.specs.Variables.{Entry}
use Rattle.bb_ctl.specs.OwnNames.{IsOwnName}

-- the first variables have names that are not reserved
abbrev pub AreFree : List Entry → ℕ → Type 0
AreFree vs n = (k : ℕ) → k < n → (d : Entry) → is_reserved (get_or vs k d).0 ≡ false

pub own_names : (vs : List Entry) → AreFree vs (length vs) → AllByRecursion (λ v. IsOwnName v.0) vs
own_names [] each = tt
own_names (v ∷ vs) each =
    let free : is_reserved v.0 ≡ false = each zero (omega arith) v in
    (λ reserved. absurd (cc (reserved, free)), own_names vs (λ k less d. each (suc k) (omega (arith, less)) d))
