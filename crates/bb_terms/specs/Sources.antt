-- Source cells of nets, and the registers that generate in a session.
use Rattle.std.specs.Prelude.{◌≡◌, ℕ, true, false, Some, slice_get}
use Rattle.bb_terms.specs.declared.plan.Cell.{Cell}
use Rattle.bb_terms.specs.Kinds.{is_source}
use Rattle.bb_terms.specs.Plan.{PlanValue, IsCell, chain, compacts}

-- cell i of the chain is a source on the net
pub record IsSourceAt (p : PlanValue) (net i : ℕ) : Type 0 where
  pub source : Cell
  pub stands : slice_get (chain p) i ≡ Some source
  pub generates : is_source source.kind ≡ true
  pub on : source.net ≡ net

-- the net's source cell stands in a register that generates in session s
pub record IsGenerated (p : PlanValue) (s net : ℕ) : Type 0 where
  pub register : ℕ
  pub number : ℕ
  pub source : Cell
  pub stands : IsCell p number register source
  pub generates : is_source source.kind ≡ true
  pub on : source.net ≡ net
  pub apart : compacts p.sessions register s ≡ false
