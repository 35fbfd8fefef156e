-- A signature cycle by cycle is that of the list of all cycles.
use Rattle.std.specs.Prelude.{◌≡◌, ℕ, zero, suc, Bool, List, [], ◌∷◌, ◌++◌}
use Rattle.bb_terms.specs.Signature.{signature}
use Rattle.bb_testrun.specs.Held.{signature_at}

-- what comes in the first so many cycles
abbrev pub lines_until : (ℕ → List Bool) → ℕ → List (List Bool)
lines_until z zero = []
lines_until z (suc t) = lines_until z t ++ z t ∷ []

abbrev pub SignaturesAgree : Type 0
SignaturesAgree = (l mask t : ℕ) (lines : ℕ → List Bool) → signature_at l mask lines t ≡ signature l mask (lines_until lines t)
