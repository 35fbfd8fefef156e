use Rattle.std.proofs.Common.{ℕ, List, length}
use Rattle.bb_base.specs.Named.{Named}
use Rattle.bb_canon.specs.Sections.{IsSection, states_gate}
use Rattle.bb_spell.specs.Limits.{IsBuildable}
use Rattle.bb_canon.specs.Along.{GatesLeft}
use Rattle.bb_canon.proofs.read.read_gates.Given as goal

abbrev pub invariant-lines : goal.invariant-lines
invariant-lines l = record {
  section : (others : List (List ℕ)) → IsSection states_gate l.text others → IsSection states_gate l.rest others;
  left : (a : Named) (others : List (List ℕ)) → IsBuildable a → GatesLeft a l.fn.draft l.text others → GatesLeft a l.draft l.rest others;
}

abbrev pub decreases-lines : goal.decreases-lines
decreases-lines l = length l.rest
