use Rattle.std.proofs.Common.{◌≡◌, ◌∙◌, sym, ap, fold, flat_map}
use Rattle.std.proofs.lemmas.List.Sums.{fold-append}
use Rattle.bb_base.specs.Variables.{bit_count}
use Rattle.bb_drive.specs.Nets.{input_bits}
use Rattle.bb_targets.specs.Marks.{unmarked, with_mark}
use Rattle.bb_targets.specs.Targets.{item_targets, targets}
use Rattle.bb_targets.proofs.MarkLaws.{twice_found}
use Rattle.bb_targets.proofs.fault.first_twice.Goals as goal

pub returns : goal.returns
returns c =
    let table = c.args.scope.now in
    let items = c.args.items.now in
    let start : c.in_ok-marks.marks ≡ unmarked (bit_count table) = c.in_ok-marks.ensures ∙ ap unmarked (c.bits_of.ensures ∙ ap bit_count c.table.ensures) in
    let inputs : c.mark_inputs.new.marks ≡ fold with_mark (unmarked (bit_count table)) (input_bits table) = c.mark_inputs.ensures ∙ (λ i. fold with_mark (start i) (input_bits (c.table-2.ensures i))) in
    let all : c.mark_items.new.marks ≡ fold with_mark (unmarked (bit_count table)) (targets table items) =
    c.mark_items.ensures
    ∙ (ap (λ m. fold with_mark m (flat_map (item_targets table) items)) inputs ∙ sym (fold-append with_mark (unmarked (bit_count table)) (input_bits table) (flat_map (item_targets table) items))) in
    c.twice.ensures ∙ twice_found (bit_count table) (targets table items) c.mark_items.new.marks all
