use Rattle.std.proofs.Common.{◌≡◌, ℕ, List, length}
use Rattle.bb_base.specs.Named.{Named}
use Rattle.bb_canon.specs.Sections.{IsSection, declares}
use Rattle.bb_spell.specs.Limits.{IsBuildable}
use Rattle.bb_canon.specs.Along.{VariablesLeft, clock_text}
use Rattle.bb_canon.proofs.read.read_declarations.Given as goal

abbrev pub invariant-lines : goal.invariant-lines
invariant-lines l = record {
  section : (others : List (List ℕ)) → IsSection declares l.text others → IsSection declares l.rest others;
  left : (a : Named) (others : List (List ℕ)) → IsBuildable a → l.clock ≡ clock_text a → VariablesLeft a l.fn.draft l.text others → VariablesLeft a l.draft l.rest others;
}

abbrev pub decreases-lines : goal.decreases-lines
decreases-lines l = length l.rest
