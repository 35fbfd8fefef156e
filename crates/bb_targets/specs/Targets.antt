-- The bits of a text's variables that are driven, known before any gate is made.
use Rattle.std.specs.Prelude.{ℕ, nat_eq, nat_lt, List, [], ◌∷◌, ◌++◌, count_by, find, flat_map, Option, Some, None, if◌then◌else◌}
use Rattle.std.specs.List.{range_with_len}
use Rattle.std.specs.Option.{option_map}
use Rattle.std.specs.Str.{bytes_eq}
use Rattle.bb_base.specs.Variables.{Entry, bit_count}
use Rattle.bb_parse.specs.declared.syntax.Conns.{Conns}
use Rattle.bb_parse.specs.declared.syntax.Item.{Item}
use Rattle.bb_parse.specs.declared.syntax.Item.TheVariants as item
use Rattle.bb_fault.specs.declared.fault.ElabFault.{ElabFault}
use Rattle.bb_fault.specs.declared.fault.ElabFault.TheVariants.{TwoDrivers}
use Rattle.bb_scope.specs.Cells.{Kind, Pin, kind_of, pins_of}
use Rattle.bb_scope.specs.References.{ref_bits}
use Rattle.bb_scope.specs.Terminals.{outs_of}
use Rattle.bb_drive.specs.Nets.{input_bits, bit_text}
use Rattle.bb_scope.specs.Making.{driven_bits}

-- the bits of the pin that a cell drives
abbrev pub out_bits : List Entry → Kind → List Pin → List ℕ
out_bits table kind [] = []
out_bits table kind ((name, None) ∷ pins) = out_bits table kind pins
out_bits table kind ((name, Some steps) ∷ pins) = if bytes_eq kind.out name then driven_bits table steps else out_bits table kind pins

abbrev pub cell_targets : List Entry → Option Kind → Conns → List ℕ
cell_targets table None conns = []
cell_targets table (Some kind) conns = out_bits table kind (pins_of kind conns)

-- the bits that an item drives: of a left side, of a primitive's outputs, or of a cell's
abbrev pub item_targets : List Entry → Item → List ℕ
item_targets table (item.Decl decl) = []
item_targets table (item.Assign line left right) = flat_map (ref_bits table) left
item_targets table (item.Prim line op terms) = flat_map (driven_bits table) (outs_of op terms)
item_targets table (item.Cell line cell conns) = cell_targets table (kind_of cell) conns

-- all bits that are driven, one entry a driver; an input bit has one by itself
abbrev pub targets : List Entry → List Item → List ℕ
targets table items = input_bits table ++ flat_map (item_targets table) items

-- the first bit of the variables with two drivers
abbrev pub first_twice : List Entry → List Item → Option ℕ
first_twice table items = find (λ b. nat_lt 1 (count_by (nat_eq b) (targets table items))) (range_with_len 0 (bit_count table))

-- and its fault
abbrev pub twice_fault : List Entry → List Item → Option ElabFault
twice_fault table items = option_map (λ b. TwoDrivers (bit_text table b).name (bit_text table b).index) (first_twice table items)
