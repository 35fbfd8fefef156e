-- What the declarations so far say of each name, as a table keeps it.
-- (No outcome rests on these: they serve contracts of inner calls and proofs.)
use Rattle.std.specs.Prelude.{ℕ, Bool, false, not, ◌||◌, if◌then◌else◌, List, [], ◌∷◌, ◌++◌, Option, Some, None, is_some, find}
use Rattle.std.specs.Option.{option_or, option_map}
use Rattle.std.specs.Map.{lookup}
use Rattle.std.specs.Str.{bytes_eq}
use Rattle.indexmap.specs.IndexMap.{insert_entry}
use Rattle.bb_base.specs.declared.variable.Role.{Role}
use Rattle.bb_base.specs.declared.variable.Role.TheVariants.{Wire}
use Rattle.bb_base.specs.declared.variable.Variable.{Variable}
use Rattle.bb_base.specs.Variables.{Entry, is_port}
use Rattle.bb_parse.specs.declared.syntax.Decl.{Decl}
use Rattle.bb_scope.specs.declared.said.Said.{Said}
use Rattle.bb_fault.specs.declared.fault.ElabFault.{ElabFault}
use Rattle.bb_fault.specs.declared.fault.ElabFault.TheVariants.{Redeclared, BadPort}
use Rattle.bb_fault.specs.Firsts.{first_behind}
use Rattle.bb_scope.specs.Names.{has_name}
use Rattle.bb_scope.specs.Declarations.{range_eq, is_stray}

-- a table of what is said
abbrev pub Table : Type 0
Table = List (List ℕ × Said)

abbrev pub said_in : Table → List ℕ → Option Said
said_in table name = lookup (bytes_eq name) table

abbrev pub direction_of : Role → Option Role
direction_of role = if is_port role then Some role else None

-- a declaration clashes with what is said of its name
abbrev pub clashes_with : Option Said → Decl → Bool
clashes_with None d = false
clashes_with (Some s) d = (if is_port d.role then s.port else s.wire) || not (range_eq d.range s.range)

-- what is said once a declaration of the name is added: the first direction and the first range stand
abbrev pub said_with : Option Said → Decl → Said
said_with None d = record { role = d.role; port = is_port d.role; wire = not (is_port d.role); range = d.range }
said_with (Some s) d = record { role = if s.port then s.role else d.role; port = s.port || is_port d.role; wire = s.wire || not (is_port d.role); range = s.range }

abbrev pub with_decl : Table → Decl → Table
with_decl table d = insert_entry bytes_eq table d.name (said_with (said_in table d.name) d)

abbrev pub clash_of : Table → Decl → Option ElabFault
clash_of table d = if clashes_with (said_in table d.name) d then Some (Redeclared d.name None) else None

-- the fault of the first declaration that clashes with what is said by then
abbrev pub first_clash : Table → List Decl → Option ElabFault
first_clash table [] = None
first_clash table (d ∷ ds) = option_or (clash_of table d) (first_clash (with_decl table d) ds)

-- the variable that is said
abbrev pub variable_said : Option Said → Variable
variable_said None = record { range = None; role = Wire }
variable_said (Some s) = record { range = s.range; role = s.role }

-- whether a direction is said
abbrev pub is_directed : Option Said → Bool
is_directed None = false
is_directed (Some s) = s.port

-- the variables so far with a name, behind the others where it is new
abbrev pub with_said : Table → List Entry → List ℕ → List Entry
with_said said entries name = if is_some (lookup (bytes_eq name) entries) then entries else entries ++ (name, variable_said (said_in said name)) ∷ []

-- a name of the header that stands before, or of which no direction is said
abbrev pub is_odd_said : Table → List (List ℕ) → List ℕ → Bool
is_odd_said said before name = has_name before name || not (is_directed (said_in said name))

-- its fault, among names behind others
abbrev pub odd_fault : Table → List (List ℕ) → List (List ℕ) → Option ElabFault
odd_fault said before names = option_map (λ name. BadPort name None) (first_behind (is_odd_said said) before names)

-- the fault of a direction that names none of the header's names
abbrev pub stray_fault : List (List ℕ) → List Decl → Option ElabFault
stray_fault header decls = option_map (λ d. BadPort d.name None) (find (is_stray header) decls)
