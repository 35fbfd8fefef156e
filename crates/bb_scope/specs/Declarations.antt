-- What is declared of names, and which declarations can't both stand.
use Rattle.std.specs.Prelude.{ℕ, nat_eq, Bool, true, false, not, ◌&&◌, ◌||◌, List, [], ◌∷◌, ◌++◌, find, flat_map, Option, Some, None}
use Rattle.std.specs.Option.{option_map, option_or}
use Rattle.std.specs.List.{list_any}
use Rattle.std.specs.Str.{bytes_eq}
use Rattle.bb_base.specs.Variables.{is_port}
use Rattle.bb_parse.specs.declared.syntax.Module.{Module}
use Rattle.bb_parse.specs.declared.syntax.Header.{Header}
use Rattle.bb_parse.specs.declared.syntax.Header.TheVariants.{Plain, Ansi}
use Rattle.bb_parse.specs.declared.syntax.Item.{Item}
use Rattle.bb_parse.specs.declared.syntax.Item.TheVariants as item
use Rattle.bb_parse.specs.declared.syntax.Decl.{Decl}
use Rattle.bb_fault.specs.declared.fault.ElabFault.{ElabFault}
use Rattle.bb_fault.specs.declared.fault.ElabFault.TheVariants.{Redeclared, BadPort}
use Rattle.bb_fault.specs.Firsts.{first_behind}
use Rattle.bb_scope.specs.Names.{header_names, has_name}

abbrev pub header_decls : Header → List Decl
header_decls (Plain names) = []
header_decls (Ansi decls) = decls

abbrev pub item_decls : Item → List Decl
item_decls (item.Decl decl) = decl ∷ []
item_decls (item.Assign line left right) = []
item_decls (item.Prim line op terms) = []
item_decls (item.Cell line cell conns) = []

-- the declarations in the text's order; they count wherever they stand
abbrev pub declarations : Module → List Decl
declarations m = header_decls m.header ++ flat_map item_decls m.items

-- a declaration as input or output, and not as wire
abbrev pub is_direction : Decl → Bool
is_direction d = is_port d.role

abbrev pub bool_eq : Bool → Bool → Bool
bool_eq true b = b
bool_eq false b = not b

-- ranges as they are written: none, [0:0], [1:0] and [0:1] all differ
abbrev pub range_eq : Option (ℕ × ℕ) → Option (ℕ × ℕ) → Bool
range_eq None None = true
range_eq None (Some b) = false
range_eq (Some a) None = false
range_eq (Some a) (Some b) = nat_eq a.0 b.0 && nat_eq a.1 b.1

-- two directions or two wires of one name, or a direction and a wire with different ranges
abbrev pub clashes : Decl → Decl → Bool
clashes d e = bytes_eq d.name e.name && (bool_eq (is_direction d) (is_direction e) || not (range_eq d.range e.range))

-- the fault of a declaration that clashes with one before it
abbrev pub redeclared : Module → Option ElabFault
redeclared m = option_map (λ d. Redeclared d.name None) (first_behind (λ before d. list_any (clashes d) before) [] (declarations m))

-- some declaration gives the name a direction
abbrev pub has_direction : List Decl → List ℕ → Bool
has_direction decls name = list_any (λ d. is_direction d && bytes_eq name d.name) decls

-- a name of the header that stands before, or has no direction
abbrev pub is_odd_port : List Decl → List (List ℕ) → List ℕ → Bool
is_odd_port decls before name = has_name before name || not (has_direction decls name)

-- a direction of a name that the header lacks
abbrev pub is_stray : List (List ℕ) → Decl → Bool
is_stray header d = is_direction d && not (has_name header d.name)

-- the fault of a port, the header's first
abbrev pub bad_port : Module → Option ElabFault
bad_port m =
    option_map (λ name. BadPort name None)
    (option_or (first_behind (is_odd_port (declarations m)) [] (header_names m.header))
    (option_map (λ d. d.name) (find (is_stray (header_names m.header)) (declarations m))))
