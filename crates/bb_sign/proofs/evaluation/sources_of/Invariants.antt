use Rattle.std.proofs.Common.{◌≡◌, Some}
use Rattle.std.specs.List.{AllZip}
use Rattle.bb_sign.specs.Bits.{noted_column}
use Rattle.bb_sign.proofs.SourceLemmas.{AllBefore}
use Rattle.bb_sign.proofs.evaluation.sources_of.Given as goal

abbrev pub invariant-nets : goal.invariant-nets
invariant-nets l = record {
  noted : AllZip (λ net column. noted_column l.table net ≡ Some column) l.nets.items l.columns.items;
  all : AllBefore l.table l.net l.nets.items;
}
