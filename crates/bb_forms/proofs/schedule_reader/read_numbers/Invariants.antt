use Rattle.std.proofs.Common.{◌≡◌, ◌≤◌, ℕ, length}
use Rattle.bb_forms.specs.Fields.{field_limit}
use Rattle.bb_forms.specs.Reading.{front_number}
use Rattle.bb_forms.specs.Reading.{listed_items}
use Rattle.bb_forms.proofs.ItemLemmas.{with_items}
use Rattle.bb_forms.proofs.schedule_reader.read_numbers.Given as goal

-- the items so far, with those to come, are those of all
abbrev pub invariant-numbers : goal.invariant-numbers
invariant-numbers l = (room : ℕ) × (length l.rest ≤ room) × (with_items l.numbers.items (listed_items (front_number field_limit) room l.rest) ≡ listed_items (front_number field_limit) (length l.bytes) l.bytes)

abbrev pub decreases-numbers : goal.decreases-numbers
decreases-numbers l = length l.rest
