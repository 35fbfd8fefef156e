-- A netlist with the sites of the written one is a self-test, and its text denotes it alone.
use Rattle.std.proofs.Common.{◌≡◌, ◌∙◌, ℕ, true, List, Ok, ap, subst}
use Rattle.bb_base.specs.Named.{Named, IsNamed, IsByBits}
use Rattle.bb_net.specs.Sites.{sited}
use Rattle.bb_meaning.specs.Denotes.{ElaboratesTo}
use Rattle.bb_print.specs.Elaborated.{Restores}
use Rattle.bb_terms.specs.Plan.{PlanValue}
use Rattle.bb_terms.specs.Valid.{IsValidPlan}
use Rattle.bb_ctl.specs.OwnNames.{HasOwnNames}
use Rattle.bb_written.specs.Written.{written}
use Rattle.bb_normal.specs.Mirrors.{Mirrors}
use Rattle.bb_selftest.specs.TestTrace.{IsWrittenNetlist}
use Rattle.bb_make.specs.Artifacts.{DenotesOnly, IsWovenFrom}

-- a text that restores a netlist numbered by bits denotes that netlist
pub denotes_only : (text : List ℕ) (b : Named) → Restores true text b → IsByBits b → DenotesOnly text b
denotes_only text b restores by_bits =
    let same = restores.same by_bits in
    record {
      elaborates = subst (λ (n : Named). ElaboratesTo true text (Ok n)) same restores.elaborates;
      only = λ result h. restores.only result h ∙ ap Ok same;
    }

-- it has the drivers of the written netlist
pub is_written : (mirrors : (a b : Named) (p : PlanValue) → sited b ≡ written a p → Mirrors (written a p) b) (a b : Named) (p : PlanValue) → IsNamed a → HasOwnNames a → IsValidPlan a.netlist p → IsWovenFrom a p b → IsWrittenNetlist a b p
is_written mirrors a b p original own valid woven = record { original = original; own_names = own; named = woven.named; plan = valid; mirrors = mirrors a b p woven.sites }
