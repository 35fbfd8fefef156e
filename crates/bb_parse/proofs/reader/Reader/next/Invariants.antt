use Rattle.std.proofs.Common.{◌≡◌, ℕ, length}
use Rattle.bb_parse.specs.Machine.{passed_on}
use Rattle.bb_parse.proofs.reader.Reader.next.Given as goal

abbrev pub invariant-symbols : goal.invariant-symbols
invariant-symbols l = (line : ℕ) → passed_on l.fn.self.pending l.fn.self.draft l.kind line ≡ passed_on l.self.pending l.self.draft l.kind line

abbrev pub decreases-symbols : goal.decreases-symbols
decreases-symbols l = length l.self.pending
