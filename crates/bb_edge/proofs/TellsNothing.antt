-- A store that tells nothing meets what is said of its contents.
use Rattle.std.proofs.Common.{ℕ, List, [], Option, None, Some, IfSome, refl}
use Rattle.bb_edge.specs.Told.{Untold, IsPrefix, Extends}

-- the front that was appended may be empty
pub front-untold : (writing : Option (List ℕ)) (bytes : List ℕ) → IfSome writing (λ name. (front : List ℕ) × IsPrefix front bytes × Extends Untold Untold front)
front-untold None bytes = tt
front-untold (Some name) bytes = ([], (bytes, refl), λ text shown. tt)
