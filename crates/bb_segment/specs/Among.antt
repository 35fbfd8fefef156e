-- The stops among some nets, in ascending order. No public contract cites this.
use Rattle.std.specs.Prelude.{◌≡◌, ◌↔◌, ℕ, Bool, true, List, Contains}
use Rattle.std.specs.List.Sorted.{IsStrictlyIncreasing}

-- these are the stops among the nets
pub record AreStops (stop : ℕ → Bool) (nets stops : List ℕ) : Type 0 where
  pub ascending : IsStrictlyIncreasing stops
  pub each : (net : ℕ) → Contains stops net ↔ (Contains nets net × (stop net ≡ true))
