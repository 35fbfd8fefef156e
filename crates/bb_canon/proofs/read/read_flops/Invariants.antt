use Rattle.std.proofs.Common.{ℕ, List, length}
use Rattle.bb_base.specs.Named.{Named}
use Rattle.bb_canon.specs.Sections.{IsSection, clocks}
use Rattle.bb_spell.specs.Limits.{IsBuildable}
use Rattle.bb_canon.specs.Along.{FlopsLeft}
use Rattle.bb_canon.proofs.read.read_flops.Given as goal

abbrev pub invariant-lines : goal.invariant-lines
invariant-lines l = record {
  section : (others : List (List ℕ)) → IsSection clocks l.text others → IsSection clocks l.rest others;
  left : (a : Named) (others : List (List ℕ)) → IsBuildable a → FlopsLeft a l.fn.draft l.text others → FlopsLeft a l.draft l.rest others;
}

abbrev pub decreases-lines : goal.decreases-lines
decreases-lines l = length l.rest
