-- Modules whose names are names, whose numbers are in their ranges and whose gates have operators of keywords, as those of a text.
use Rattle.std.specs.Prelude.{◌^◌, ◌<◌, ◌≤◌, List, Option, Some, None}
use Rattle.std.specs.List.{AllByRecursion}
use Rattle.bb_base.specs.Tokens.{IsSize}
use Rattle.bb_base.specs.declared.operator.Op.{Op}
use Rattle.bb_base.specs.declared.operator.Op.TheVariants as ops
use Rattle.bb_base.specs.Variables.{IsRange}
use Rattle.bb_base.specs.Name.{IsName}
use Rattle.bb_parse.specs.declared.syntax.Ref.{Ref}
use Rattle.bb_parse.specs.declared.syntax.Step.{Step}
use Rattle.bb_parse.specs.declared.syntax.Step.TheVariants as steps
use Rattle.bb_parse.specs.declared.syntax.Decl.{Decl}
use Rattle.bb_parse.specs.declared.syntax.Conns.{Conns}
use Rattle.bb_parse.specs.declared.syntax.Conns.TheVariants as conns
use Rattle.bb_parse.specs.declared.syntax.Item.{Item}
use Rattle.bb_parse.specs.declared.syntax.Item.TheVariants as items
use Rattle.bb_parse.specs.declared.syntax.Header.{Header}
use Rattle.bb_parse.specs.declared.syntax.Header.TheVariants as headers
use Rattle.bb_parse.specs.declared.syntax.Module.{Module}
use Rattle.bb_parse.specs.Trees.{Name}

-- a variable's name, and indices below 2^31
pub record IsSoundRef (r : Ref) : Type 0 where
  pub name : IsName r.name
  pub select : IsRange r.select

-- a constant fits its size, and something is joined or repeated
abbrev pub IsSoundStep : Step → Type 0
IsSoundStep (steps.Ref r) = IsSoundRef r
IsSoundStep (steps.Const size value) = IsSize size × (value < 2 ^ size)
IsSoundStep (steps.Join n) = 1 ≤ n
IsSoundStep (steps.Repeat n) = (1 ≤ n) × (n < 2147483648)
IsSoundStep _ = Unit {0}

abbrev pub IsSoundExpr : List Step → Type 0
IsSoundExpr e = AllByRecursion IsSoundStep e

-- a declared name with a range below 2^31
pub record IsSoundDecl (d : Decl) : Type 0 where
  pub name : IsName d.name
  pub range : IsRange d.range

abbrev pub IsSoundValue : Option (List Step) → Type 0
IsSoundValue None = Unit {0}
IsSoundValue (Some e) = IsSoundExpr e

abbrev pub IsSoundPin : Name × Option (List Step) → Type 0
IsSoundPin p = IsName p.0 × IsSoundValue p.1

abbrev pub IsSoundConns : Conns → Type 0
IsSoundConns (conns.Places terms) = AllByRecursion IsSoundExpr terms
IsSoundConns (conns.Pins pins) = AllByRecursion IsSoundPin pins

-- an operator that a keyword names: any but a constant's
abbrev pub IsPrimitive : Op → Type 0
IsPrimitive ops.Zero = ⊥
IsPrimitive ops.One = ⊥
IsPrimitive op = Unit {0}

abbrev pub IsSoundItem : Item → Type 0
IsSoundItem (items.Decl d) = IsSoundDecl d
IsSoundItem (items.Assign line left right) = AllByRecursion IsSoundRef left × IsSoundExpr right
IsSoundItem (items.Prim line op terms) = IsPrimitive op × AllByRecursion IsSoundExpr terms
IsSoundItem (items.Cell line x c) = IsName x × IsSoundConns c

abbrev pub IsSoundHeader : Header → Type 0
IsSoundHeader (headers.Plain names) = AllByRecursion IsName names
IsSoundHeader (headers.Ansi ports) = AllByRecursion IsSoundDecl ports

pub record IsSoundModule (m : Module) : Type 0 where
  pub name : IsName m.name
  pub header : IsSoundHeader m.header
  pub items : AllByRecursion IsSoundItem m.items
