-- The first fault that a text shows before any gate is made: of names, declarations, cells, pins and widths.
use Rattle.std.specs.Prelude.{Bool, Option}
use Rattle.std.specs.Option.{option_or}
use Rattle.bb_parse.specs.declared.syntax.Module.{Module}
use Rattle.bb_fault.specs.declared.fault.ElabFault.{ElabFault}
use Rattle.bb_scope.specs.Names.{reserved}
use Rattle.bb_scope.specs.Declarations.{redeclared, bad_port}
use Rattle.bb_scope.specs.Cells.{unknown_cell}
use Rattle.bb_scope.specs.Parts.{too_many_bits, bad_part, too_many_nets}

-- the first fault of names and declarations
abbrev pub name_fault : Bool → Module → Option ElabFault
name_fault own m = option_or (reserved own m) (option_or (redeclared m) (option_or (bad_port m) (too_many_bits own m)))

-- the first fault of cells, pins, selects and widths, and of the nets that these make
abbrev pub part_fault : Bool → Module → Option ElabFault
part_fault own m = option_or (unknown_cell m) (option_or (bad_part m) (too_many_nets own m))

-- the first fault of a text
abbrev pub text_fault : Bool → Module → Option ElabFault
text_fault own m = option_or (name_fault own m) (part_fault own m)
