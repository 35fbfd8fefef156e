-- The nets of one netlist at the sites of another's. No public contract cites this.
use Rattle.std.specs.Prelude.{◌≡◌, ℕ, ◌<◌, List, length, Option, None, Some}
use Rattle.bb_base.specs.Places.{EachAt}
use Rattle.bb_base.specs.Named.{Named}
use Rattle.bb_net.specs.Sites.{Site, site_of}

-- the net at a site, where there is one
pub record IsNetAt (n : Named) (site : Site) (found : Option ℕ) : Type 0 where
  pub some : (net : ℕ) → found ≡ Some net → (net < length n.names) × (site_of n net ≡ site)
  pub none : found ≡ None → (net : ℕ) → net < length n.names → site_of n net ≡ site → ⊥

-- for each net of a the net of b at its site
pub record AreNetsAt (a b : Named) (nets : List (Option ℕ)) : Type 0 where
  pub long : length nets ≡ length a.names
  pub each : EachAt nets (λ net found. IsNetAt b (site_of a net) found)
