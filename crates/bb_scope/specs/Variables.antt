-- The variables of a module: their names in order, and what is declared of each.
use Rattle.std.specs.Prelude.{ℕ, ◌&&◌, List, map, find, Option, None}
use Rattle.std.specs.Str.{bytes_eq}
use Rattle.bb_base.specs.Variables.{Entry}
use Rattle.bb_base.specs.declared.variable.Role.{Role}
use Rattle.bb_base.specs.declared.variable.Role.TheVariants.{Wire}
use Rattle.bb_base.specs.declared.variable.Variable.{Variable}
use Rattle.bb_parse.specs.declared.syntax.Module.{Module}
use Rattle.bb_parse.specs.declared.syntax.Decl.{Decl}
use Rattle.bb_fault.specs.Firsts.{on_some}
use Rattle.bb_scope.specs.Names.{variable_names}
use Rattle.bb_scope.specs.Declarations.{declarations, is_direction}

-- the direction of a port, and wire for any other name
abbrev pub declared_role : List Decl → List ℕ → Role
declared_role decls name = on_some (find (λ d. is_direction d && bytes_eq name d.name) decls) Wire (λ d. d.role)

-- the range of a declared name; a name without a declaration is a scalar
abbrev pub declared_range : List Decl → List ℕ → Option (ℕ × ℕ)
declared_range decls name = on_some (find (λ d. bytes_eq name d.name) decls) None (λ d. d.range)

abbrev pub variable_of : List Decl → List ℕ → Variable
variable_of decls name = record { range = declared_range decls name; role = declared_role decls name }

-- a name with its variable
abbrev pub entry_of : List Decl → List ℕ → Entry
entry_of decls name = (name, variable_of decls name)

-- the variables in order
abbrev pub variables : Module → List Entry
variables m = map (entry_of (declarations m)) (variable_names m)
