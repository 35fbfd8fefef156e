use Rattle.std.proofs.Common.{◌≡◌, ◌++◌, drop}
use Rattle.std.specs.List.{flat_map}
use Rattle.bb_forms.specs.CertificateText.{pair_words}
use Rattle.bb_forms.proofs.certificate_printer.write_pairs.Given as goal

abbrev pub invariant-pairs : goal.invariant-pairs
invariant-pairs l = l.text.items ++ flat_map pair_words (drop l.pair-index l.pairs) ≡ l.fn.text.items ++ flat_map pair_words l.pairs
