use Rattle.std.proofs.Common.{◌≡◌, length}
use Rattle.bb_choose.proofs.NumberLemmas.{AreNoted}
use Rattle.bb_choose.proofs.sources.note_numbers.Given as goal

abbrev pub invariant-sources : goal.invariant-sources
invariant-sources l = record {
  long : length l.numbers ≡ length l.initial.numbers;
  each : AreNoted l.sources l.number l.numbers;
}
