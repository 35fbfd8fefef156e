-- What is put into a module and into its statements as their tokens come.
use Rattle.std.specs.Prelude.{ℕ, List, [], ◌∷◌, ◌++◌, Option, Some, None}
use Rattle.bb_base.specs.declared.operator.Op.TheVariants as ops
use Rattle.bb_base.specs.declared.variable.Role.{Role}
use Rattle.bb_base.specs.declared.variable.Role.TheVariants as roles
use Rattle.bb_parse.specs.declared.draft.Draft.{Draft}
use Rattle.bb_parse.specs.declared.symbol.Place.{Place}
use Rattle.bb_parse.specs.declared.symbol.Place.TheVariants as places
use Rattle.bb_parse.specs.declared.symbol.Side.{Side}
use Rattle.bb_parse.specs.declared.symbol.Side.TheVariants as sides
use Rattle.bb_parse.specs.declared.symbol.Made.{Made}
use Rattle.bb_parse.specs.declared.symbol.Made.TheVariants as made
use Rattle.bb_parse.specs.declared.syntax.Step.{Step}
use Rattle.bb_parse.specs.declared.syntax.Step.TheVariants as steps
use Rattle.bb_parse.specs.declared.syntax.Conns.{Conns as ConnsValue}
use Rattle.bb_parse.specs.declared.syntax.Conns.TheVariants as conns
use Rattle.bb_parse.specs.declared.syntax.Item.TheVariants as items
use Rattle.bb_parse.specs.declared.syntax.Decl.{Decl}
use Rattle.bb_parse.specs.declared.syntax.Header.{Header as HeaderValue}
use Rattle.bb_parse.specs.declared.syntax.Header.TheVariants as headers
use Rattle.bb_parse.specs.declared.syntax.Module.{Module}
use Rattle.bb_parse.specs.Trees.{Name}

-- nothing yet
abbrev pub no_draft : Draft
no_draft = record { name = None; names = []; ports = []; items = []; line = 0; role = roles.Wire; range = None; op = ops.Buf; cell = None; word = None; pin = None; left = []; steps = []; terms = []; pins = [] }

-- more steps of the expression
abbrev pub put : Draft → List Step → Draft
put d more = record d { steps = d.steps ++ more }

abbrev pub made_step : Made → Step
made_step made.Not = steps.Not
made_step made.And = steps.And
made_step made.Or = steps.Or
made_step made.Xor = steps.Xor
made_step made.Xnor = steps.Xnor
made_step made.Cond = steps.Cond

-- a reference is complete: its name stands in the draft
abbrev pub ref_named : Side → Option Name → Option (ℕ × ℕ) → Draft → Draft
ref_named side None select d = d
ref_named sides.Left (Some x) select d = record d { left = d.left ++ record { name = x; select = select } ∷ []; word = None }
ref_named sides.Right (Some x) select d = record d { steps = d.steps ++ steps.Ref (record { name = x; select = select }) ∷ []; word = None }

abbrev pub ref_done : Side → Option (ℕ × ℕ) → Draft → Draft
ref_done side select d = ref_named side d.word select d

-- a statement of a role begins in a line
abbrev pub begin_decl : ℕ → Role → Draft → Draft
begin_decl line role d = record d { line = line; role = role; range = None }

-- one more name of the role and the range
abbrev pub new_decl : Name → Draft → Decl
new_decl x d = record { line = d.line; role = d.role; range = d.range; name = x }

abbrev pub declare : Place → Name → Draft → Draft
declare places.Header x d = record d { ports = d.ports ++ new_decl x d ∷ [] }
declare places.Body x d = record d { items = d.items ++ items.Decl (new_decl x d) ∷ [] }

-- an equation is complete
abbrev pub equation_done : Draft → Draft
equation_done d = record d { items = d.items ++ items.Assign d.line d.left d.steps ∷ []; left = []; steps = [] }

-- a terminal is complete
abbrev pub term_done : Draft → Draft
term_done d = record d { terms = d.terms ++ d.steps ∷ []; steps = [] }

-- a gate is complete
abbrev pub gate_done : Draft → Draft
gate_done d = record d { items = d.items ++ items.Prim d.line d.op d.terms ∷ []; terms = [] }

-- what an instance is connected to: pins where there are no terminals
abbrev pub conns_by : List (List Step) → List (Name × Option (List Step)) → ConnsValue
conns_by [] pins = conns.Pins pins
conns_by (t ∷ ts) pins = conns.Places (t ∷ ts)

-- an instance of a cell is complete
abbrev pub instance_of : Option Name → Draft → Draft
instance_of None d = d
instance_of (Some x) d = record d { items = d.items ++ items.Cell d.line x (conns_by d.terms d.pins) ∷ []; terms = []; pins = [] }

abbrev pub instance_done : Draft → Draft
instance_done d = instance_of d.cell d

-- a pin is complete, open or with an expression
abbrev pub pin_put : Option Name → Option (List Step) → Draft → Draft
pin_put None value d = d
pin_put (Some x) value d = record d { pins = d.pins ++ (x, value) ∷ []; pin = None; steps = [] }

abbrev pub open_pin_done : Draft → Draft
open_pin_done d = pin_put d.pin None d

abbrev pub pin_done : Draft → Draft
pin_done d = pin_put d.pin (Some d.steps) d

-- a header with directions has a port
abbrev pub header_by : List Name → List Decl → HeaderValue
header_by names [] = headers.Plain names
header_by names (p ∷ ps) = headers.Ansi (p ∷ ps)

abbrev pub module_by : Name → Draft → Module
module_by x d = record { name = x; header = header_by d.names d.ports; items = d.items }
