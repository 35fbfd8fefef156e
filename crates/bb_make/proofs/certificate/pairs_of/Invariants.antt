use Rattle.std.proofs.Common.{◌≡◌, ◌++◌, length, drop, zip}
use Rattle.bb_make.proofs.certificate.pairs_of.Given as goal

abbrev pub invariant-leaves : goal.invariant-leaves
invariant-leaves l = record {
  long : length l.pairs.items ≡ l.place;
  so_far : l.pairs.items ++ zip (drop l.place l.leaves) (drop l.place l.duals) ≡ zip l.leaves l.duals;
}
