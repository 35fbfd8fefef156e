-- The nets that are counted are those that items make.
use Rattle.std.proofs.Common.{arith, ◌≡◌, ◌+◌, List, [], ◌∷◌}
use Rattle.std.specs.Prelude.{None}
use Rattle.bb_base.specs.Variables.{Entry, bit_count}
use Rattle.bb_parse.specs.declared.syntax.Module.{Module}
use Rattle.bb_parse.specs.declared.syntax.Item.{Item}
use Rattle.bb_parse.specs.declared.syntax.Item.TheVariants as item
use Rattle.bb_fault.specs.Firsts.{first_answer}
use Rattle.bb_scope.specs.Variables.{variables}
use Rattle.bb_scope.specs.Parts.{item_fault, item_nets, items_nets, bad_part, all_bits}
use Rattle.bb_fault.specs.Work.{Work}
use Rattle.bb_scope.specs.Making.{item_made, items_made, work_of}
use Rattle.bb_fault.proofs.Parted.{none-first, none-second}
use Rattle.bb_scope.proofs.Assigns.{assign-fresh, prim-fresh}
use Rattle.bb_scope.proofs.Instances.{cell-fresh}

item-fresh : (table : List Entry) (i : Item) (w : Work) → item_fault table i ≡ None → (item_made table i w).1.fresh ≡ w.fresh + item_nets table i
item-fresh table (item.Decl decl) w h = omega arith
item-fresh table (item.Assign line left right) w h = assign-fresh table line left right w h
item-fresh table (item.Prim line o terms) w h = prim-fresh table line o terms w h
item-fresh table (item.Cell line cell conns) w h = cell-fresh table line cell conns w h

items-fresh : (table : List Entry) (items : List Item) (w : Work) → first_answer (item_fault table) items ≡ None → (items_made table items w).fresh ≡ w.fresh + items_nets table items
items-fresh table [] w h = omega arith
items-fresh table (i ∷ items) w h =
    let first = none-first (item_fault table i) (first_answer (item_fault table) items) h in
    let others = none-second (item_fault table i) (first_answer (item_fault table) items) h in
    omega (arith, item-fresh table i w first, items-fresh table items (item_made table i w).1 others)

-- all the numbers of bits and made nets are below the count
pub module-fresh : (m : Module) → bad_part m ≡ None → (work_of (variables m) m.items).fresh ≡ all_bits m
module-fresh m h = items-fresh (variables m) m.items (record { fresh = bit_count (variables m); gates = []; flops = [] }) h
