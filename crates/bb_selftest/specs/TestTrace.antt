-- Written netlists of valid plans, and their test runs, symbol by symbol.
use Rattle.std.specs.Prelude.{ℕ, ◌<◌, Bool, List, length}
use Rattle.bb_base.specs.Net.{Gate}
use Rattle.bb_base.specs.Run.{at}
use Rattle.bb_base.specs.Named.{Named, IsNamed}
use Rattle.bb_net.specs.Sites.{Site}
use Rattle.bb_terms.specs.Plan.{PlanValue}
use Rattle.bb_terms.specs.Valid.{IsValidPlan}
use Rattle.bb_terms.specs.declared.wire.Wire.{Wire}
use Rattle.bb_written.specs.Trace.{IsTestTrace}
use Rattle.bb_written.specs.Written.{wire_site, written}
use Rattle.bb_normal.specs.Mirrors.{Mirrors}
use Rattle.bb_ctl.specs.OwnNames.{HasOwnNames}
use Rattle.bb_testrun.specs.Traced.{KeptMeet}
use Rattle.bb_selftest.specs.WrittenLines.{sited_gate}

-- b has the drivers of the written netlist of a by p, which is a valid plan
pub record IsWrittenNetlist (a b : Named) (p : PlanValue) : Type 0 where
  pub original : IsNamed a
  pub own_names : HasOwnNames a
  pub named : IsNamed b
  pub plan : IsValidPlan a.netlist p
  pub mirrors : Mirrors (written a p) b

-- the bits of symbols in each cycle
abbrev pub wire_bits : Named → List (Site → Bool) → ℕ → Wire → Bool
wire_bits a vs c w = at vs c (wire_site a w)

-- they are a trace of a test of all that is added, and the original's gates meet this meaning
pub record IsTracedTest (gives : Gate Site → List Bool → Bool) (a : Named) (p : PlanValue) (vs : List (Site → Bool)) : Type 0 where
  pub trace : IsTestTrace a.netlist p (length vs) (wire_bits a vs)
  pub kept : (c : ℕ) → c < length vs → KeptMeet (λ g. gives (sited_gate a p g)) a.netlist p (wire_bits a vs c)
