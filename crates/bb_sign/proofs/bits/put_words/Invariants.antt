use Rattle.std.proofs.Common.{◌≡◌, length}
use Rattle.bb_sign.proofs.PutLemmas.{ArePut}
use Rattle.bb_sign.proofs.bits.put_words.Given as goal

abbrev pub invariant-nets : goal.invariant-nets
invariant-nets l = record {
  long : length l.values ≡ length l.initial.values;
  so_far : ArePut l.nets l.words l.values l.place;
}
