-- The names that a text uses for variables, in its order.
use Rattle.std.specs.Prelude.{ℕ, Bool, List, [], ◌∷◌, ◌++◌, map, fold, find, flat_map, Option, Some, None, true, false, if◌then◌else◌}
use Rattle.std.specs.Option.{option_map}
use Rattle.std.specs.List.{list_any}
use Rattle.std.specs.Str.{bytes_eq}
use Rattle.bb_parse.specs.declared.syntax.Module.{Module}
use Rattle.bb_parse.specs.declared.syntax.Header.{Header}
use Rattle.bb_parse.specs.declared.syntax.Header.TheVariants.{Plain, Ansi}
use Rattle.bb_parse.specs.declared.syntax.Item.{Item}
use Rattle.bb_parse.specs.declared.syntax.Item.TheVariants as item
use Rattle.bb_parse.specs.declared.syntax.Conns.{Conns}
use Rattle.bb_parse.specs.declared.syntax.Conns.TheVariants.{Places, Pins}
use Rattle.bb_parse.specs.declared.syntax.Step.{Step}
use Rattle.bb_parse.specs.declared.syntax.Step.TheVariants as step
use Rattle.bb_fault.specs.declared.fault.ElabFault.{ElabFault}
use Rattle.bb_fault.specs.declared.fault.ElabFault.TheVariants.{Reserved}
use Rattle.bb_base.specs.OwnNames.{is_reserved}

abbrev pub step_names : Step → List (List ℕ)
step_names (step.Ref ref) = ref.name ∷ []
step_names other = []

-- the names in an expression
abbrev pub steps_names : List Step → List (List ℕ)
steps_names steps = flat_map step_names steps

abbrev pub pin_names : Option (List Step) → List (List ℕ)
pin_names None = []
pin_names (Some steps) = steps_names steps

-- the names in what a cell is connected to; a pin's own name is no variable's
abbrev pub conns_names : Conns → List (List ℕ)
conns_names (Places terms) = flat_map steps_names terms
conns_names (Pins pins) = flat_map (λ p. pin_names p.1) pins

-- the names in an item; a cell's own name is no variable's
abbrev pub item_names : Item → List (List ℕ)
item_names (item.Decl decl) = decl.name ∷ []
item_names (item.Assign line left right) = map (λ r. r.name) left ++ steps_names right
item_names (item.Prim line op terms) = flat_map steps_names terms
item_names (item.Cell line cell conns) = conns_names conns

abbrev pub header_names : Header → List (List ℕ)
header_names (Plain names) = names
header_names (Ansi decls) = map (λ d. d.name) decls

-- every use of a name for a variable, the header's first
abbrev pub mentioned : Module → List (List ℕ)
mentioned m = header_names m.header ++ flat_map item_names m.items

abbrev pub has_name : List (List ℕ) → List ℕ → Bool
has_name names name = list_any (bytes_eq name) names

abbrev pub with_new_name : List (List ℕ) → List ℕ → List (List ℕ)
with_new_name names name = if has_name names name then names else names ++ name ∷ []

-- each name once, by its first use: ports stand first, since the header does
abbrev pub variable_names : Module → List (List ℕ)
variable_names m = fold with_new_name [] (mentioned m)

-- the fault of a reserved name: the module's is the first
abbrev pub reserved : Bool → Module → Option ElabFault
reserved true m = None
reserved false m = option_map (λ name. Reserved name None) (find is_reserved (m.name ∷ mentioned m))
