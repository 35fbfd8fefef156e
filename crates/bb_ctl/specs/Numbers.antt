-- What is asked of a plan so that its cells, registers and sessions have numbers.
use Rattle.std.specs.Prelude.{◌<◌, ◌^◌, length}
use Rattle.bb_terms.specs.Plan.{PlanValue, chain}

-- there are few enough of each for numbers of 32 bits
pub record HasNumbers (p : PlanValue) : Type 0 where
  pub cells : length (chain p) < 2 ^ 32
  pub registers : length p.registers < 2 ^ 32
  pub sessions : length p.sessions < 2 ^ 32
