-- Which nets of a netlist stand for symbols.
use Rattle.std.specs.Prelude.{◌≡◌, ℕ, ◌<◌, List, map, length, All}
use Rattle.bb_base.specs.Named.{Named}
use Rattle.bb_net.specs.Sites.{site_of}
use Rattle.bb_terms.specs.declared.wire.Wire.{Wire}
use Rattle.bb_written.specs.Written.{wire_site}

-- these are nets of b, and stand in order where these symbols of a's written netlist do
pub record AreNetsOf (a b : Named) (wires : List Wire) (nets : List ℕ) : Type 0 where
  pub below : All (λ net. net < length b.names) nets
  pub sites : map (site_of b) nets ≡ map (wire_site a) wires
