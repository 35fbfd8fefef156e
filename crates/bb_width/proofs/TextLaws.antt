-- The order of faults, put together.
use Rattle.std.proofs.Common.{◌≡◌, Bool, List, sym, ap, ◌∙◌}
use Rattle.std.specs.Prelude.{Some, None}
use Rattle.std.specs.Option.{option_or}
use Rattle.bb_base.specs.Variables.{Entry}
use Rattle.bb_parse.specs.declared.syntax.Module.{Module}
use Rattle.bb_parse.specs.declared.syntax.Item.{Item}
use Rattle.bb_fault.specs.declared.fault.ElabFault.{ElabFault}
use Rattle.bb_fault.specs.Firsts.{first_answer}
use Rattle.bb_scope.specs.Variables.{variables}
use Rattle.bb_scope.specs.Cells.{unknown_item, unknown_cell}
use Rattle.bb_scope.specs.Parts.{item_fault, bad_part, too_many_nets}
use Rattle.bb_scope.specs.Text.{part_fault}

-- where no cell is unknown, the fault of an item is the first of parts
pub item_is_first :
    (own : Bool) (m : Module) (entries : List Entry) (items : List Item) (fault : ElabFault) → entries ≡ variables m → items ≡ m.items → first_answer unknown_item items ≡ None
    → first_answer (item_fault entries) items ≡ Some fault → part_fault own m ≡ Some fault
item_is_first own m entries items fault e i none here =
    let bad : bad_part m ≡ Some fault = (λ j. first_answer (item_fault (sym e j)) (sym i j)) ∙ here in
    let known : unknown_cell m ≡ None = ap (first_answer unknown_item) (sym i) ∙ none in
    (λ j. option_or (known j) (option_or (bad j) (too_many_nets own m)))
