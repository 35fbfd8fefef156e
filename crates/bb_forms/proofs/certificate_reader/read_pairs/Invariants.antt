use Rattle.std.proofs.Common.{◌≡◌, ◌+◌, ℕ, length}
use Rattle.bb_forms.specs.CertificateStages.{pair_at}
use Rattle.bb_forms.specs.Reading.{listed_items}
use Rattle.bb_forms.proofs.ItemLemmas.{with_items}
use Rattle.bb_forms.proofs.certificate_reader.read_pairs.Given as goal

-- the items so far, with those to come, are those of all
abbrev pub invariant-pairs : goal.invariant-pairs
invariant-pairs l = (room : ℕ) × (room + length l.pairs.items ≡ 16) × (with_items l.pairs.items (listed_items pair_at room l.rest) ≡ listed_items pair_at 16 l.bytes)

abbrev pub decreases-pairs : goal.decreases-pairs
decreases-pairs l = length l.rest
