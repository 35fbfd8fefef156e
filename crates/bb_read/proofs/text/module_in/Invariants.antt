use Rattle.std.proofs.Common.{length}
use Rattle.bb_read.specs.TextReading.{reading}
use Rattle.bb_read.proofs.TextLemmas.{Part}
use Rattle.bb_read.proofs.text.module_in.Given as goal

abbrev pub invariant-pieces : goal.invariant-pieces
invariant-pieces l = Part l.text l.rest (reading l.lexer l.parser)

abbrev pub decreases-pieces : goal.decreases-pieces
decreases-pieces l = length l.rest
