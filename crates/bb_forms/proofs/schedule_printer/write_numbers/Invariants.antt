use Rattle.std.proofs.Common.{◌≡◌, ◌++◌, drop}
use Rattle.std.specs.List.{flat_map}
use Rattle.bb_forms.specs.Fields.{number_word}
use Rattle.bb_forms.proofs.schedule_printer.write_numbers.Given as goal

abbrev pub invariant-numbers : goal.invariant-numbers
invariant-numbers l = l.text.items ++ flat_map number_word (drop l.number-index l.numbers) ≡ l.fn.text.items ++ flat_map number_word l.numbers
