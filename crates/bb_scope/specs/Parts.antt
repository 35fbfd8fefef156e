-- The faults of pins, selects and widths, item by item and in an item part by part, and the nets that items make.
use Rattle.std.specs.Prelude.{ℕ, ◌+◌, Bool, ◌&&◌, nat_le, List, [], ◌∷◌, length, Option, Some, None, if◌then◌else◌}
use Rattle.std.specs.Option.{option_or}
use Rattle.std.specs.List.{list_all}
use Rattle.bb_base.specs.Variables.{Entry, bit_count}
use Rattle.bb_base.specs.declared.operator.Op.{Op}
use Rattle.bb_parse.specs.declared.syntax.Module.{Module}
use Rattle.bb_parse.specs.declared.syntax.Item.{Item}
use Rattle.bb_parse.specs.declared.syntax.Item.TheVariants as item
use Rattle.bb_parse.specs.declared.syntax.Conns.{Conns}
use Rattle.bb_parse.specs.declared.syntax.Conns.TheVariants.{Places, Pins}
use Rattle.bb_parse.specs.declared.syntax.Ref.{Ref}
use Rattle.bb_parse.specs.declared.syntax.Step.{Step}
use Rattle.bb_scope.specs.declared.cells.Body.{Body}
use Rattle.bb_scope.specs.declared.cells.Body.TheVariants.{FlipFlop, Gate, SecondInverted, Choice}
use Rattle.bb_fault.specs.declared.fault.ElabFault.{ElabFault}
use Rattle.bb_fault.specs.declared.fault.ElabFault.TheVariants.{BadPins}
use Rattle.bb_fault.specs.Firsts.{first_answer, on_some}
use Rattle.bb_scope.specs.Variables.{variables}
use Rattle.bb_fault.specs.Limits.{too_many}
use Rattle.bb_scope.specs.Cells.{Kind, kind_of, Pin, is_plain, is_given, are_right}
use Rattle.bb_scope.specs.References.{ref_fault, left_width}
use Rattle.bb_scope.specs.Sizes.{expr_fault, terminal_nets, value_nets}
use Rattle.bb_scope.specs.Terminals.{outs_of}

-- terminals as the primitive wants them
abbrev pub are_right_terms : Op → List (List Step) → Bool
are_right_terms o terms = nat_le 2 (length terms) && list_all is_plain (outs_of o terms)

-- faults --------------------------------------------------------------

abbrev pub pin_fault : List Entry → ℕ → Pin → Option ElabFault
pin_fault table line p = on_some p.1 None (expr_fault table line 1)

-- the first fault of the expressions that an instance is connected to
abbrev pub conns_fault : List Entry → ℕ → Conns → Option ElabFault
conns_fault table line (Places terms) = first_answer (expr_fault table line 1) terms
conns_fault table line (Pins pins) = first_answer (pin_fault table line) pins

abbrev pub cell_fault : List Entry → ℕ → Option Kind → Conns → Option ElabFault
cell_fault table line None conns = None
cell_fault table line (Some kind) conns = if are_right kind conns then conns_fault table line conns else Some (BadPins line)

abbrev pub prim_fault : List Entry → ℕ → Op → List (List Step) → Option ElabFault
prim_fault table line o terms = if are_right_terms o terms then first_answer (expr_fault table line 1) terms else Some (BadPins line)

-- the references of the left side come first
abbrev pub assign_fault : List Entry → ℕ → List Ref → List Step → Option ElabFault
assign_fault table line left right = option_or (first_answer (ref_fault table line) left) (expr_fault table line (left_width table left) right)

-- the first fault of an item
abbrev pub item_fault : List Entry → Item → Option ElabFault
item_fault table (item.Decl decl) = None
item_fault table (item.Assign line left right) = assign_fault table line left right
item_fault table (item.Prim line o terms) = prim_fault table line o terms
item_fault table (item.Cell line cell conns) = cell_fault table line (kind_of cell) conns

-- the first fault of pins, selects and widths
abbrev pub bad_part : Module → Option ElabFault
bad_part m = first_answer (item_fault (variables m)) m.items

-- made nets -----------------------------------------------------------

abbrev pub terms_nets : List Entry → List (List Step) → ℕ
terms_nets table [] = 0
terms_nets table (e ∷ es) = terminal_nets table e + terms_nets table es

abbrev pub pin_nets : List Entry → Pin → ℕ
pin_nets table p = on_some p.1 0 (terminal_nets table)

abbrev pub pins_nets : List Entry → List Pin → ℕ
pins_nets table [] = 0
pins_nets table (p ∷ pins) = pin_nets table p + pins_nets table pins

-- the nets between the gates of a cell
abbrev pub inner_nets : Body → ℕ
inner_nets FlipFlop = 0
inner_nets (Gate o) = 0
inner_nets (SecondInverted o) = 1
inner_nets Choice = 3

abbrev pub conns_nets : List Entry → Conns → ℕ
conns_nets table (Places terms) = terms_nets table terms
conns_nets table (Pins pins) = pins_nets table pins

-- an output that is absent or open gets a net; terminals in order leave none open
abbrev pub open_nets : Kind → Conns → ℕ
open_nets kind (Places terms) = 0
open_nets kind (Pins pins) = if is_given pins kind.out then 0 else 1

abbrev pub cell_nets : List Entry → Option Kind → Conns → ℕ
cell_nets table None conns = 0
cell_nets table (Some kind) conns = conns_nets table conns + inner_nets kind.body + open_nets kind conns

abbrev pub item_nets : List Entry → Item → ℕ
item_nets table (item.Decl decl) = 0
item_nets table (item.Assign line left right) = value_nets table right
item_nets table (item.Prim line o terms) = terms_nets table terms
item_nets table (item.Cell line cell conns) = cell_nets table (kind_of cell) conns

abbrev pub items_nets : List Entry → List Item → ℕ
items_nets table [] = 0
items_nets table (i ∷ items) = item_nets table i + items_nets table items

-- the bits of the variables, and the nets that expressions and cells make
abbrev pub all_bits : Module → ℕ
all_bits m = bit_count (variables m) + items_nets (variables m) m.items

-- the faults -----------------------------------------------------------

-- the fault of the variables' bits alone
abbrev pub too_many_bits : Bool → Module → Option ElabFault
too_many_bits own m = too_many own (bit_count (variables m))

-- that of all bits
abbrev pub too_many_nets : Bool → Module → Option ElabFault
too_many_nets own m = too_many own (all_bits m)
