-- The module that a syntax tree stands for, and the one that a list of tokens denotes.
use Rattle.std.specs.Prelude.{◌≡◌, ℕ, ◌+◌, List, [], ◌∷◌, ◌++◌, map, Option, Some, None}
use Rattle.std.specs.Option.{option_map}
use Rattle.std.specs.List.{AllByRecursion}
use Rattle.bb_base.specs.declared.token.Token.{Token}
use Rattle.bb_base.specs.Tokens.{IsProper}
use Rattle.bb_base.specs.declared.operator.Op.{Op}
use Rattle.bb_base.specs.declared.variable.Role.{Role}
use Rattle.bb_base.specs.declared.variable.Role.TheVariants as roles
use Rattle.bb_parse.specs.declared.syntax.Ref.{Ref as RefValue}
use Rattle.bb_parse.specs.declared.syntax.Step.{Step}
use Rattle.bb_parse.specs.declared.syntax.Step.TheVariants as steps
use Rattle.bb_parse.specs.declared.syntax.Decl.{Decl}
use Rattle.bb_parse.specs.declared.syntax.Conns.{Conns as ConnsValue}
use Rattle.bb_parse.specs.declared.syntax.Conns.TheVariants as conns
use Rattle.bb_parse.specs.declared.syntax.Item.{Item}
use Rattle.bb_parse.specs.declared.syntax.Item.TheVariants as items
use Rattle.bb_parse.specs.declared.syntax.Header.{Header as HeaderValue}
use Rattle.bb_parse.specs.declared.syntax.Header.TheVariants as headers
use Rattle.bb_parse.specs.declared.syntax.Module.{Module}
use Rattle.bb_parse.specs.Trees.{Name, Select, Whole, Bit, Part, XorMark, ByCaret, ByTildeCaret, ByCaretTilde, Expr, AnExpr, Choice, NoChoice, Choose, Or, AnOr, Ors, NoOrs, MoreOrs, Xor, AnXor, Xors, NoXors, MoreXors, And, AnAnd, Ands, NoAnds, MoreAnds, Unary, Complement, Reference, Constant, Parens, Braces, Repeated, Exprs, NoExprs, MoreExprs, Terms, Left, Target, Targets, Lefts, NoLefts, MoreLefts, Direction, In, Out, Typed, Port, Again, Anew, Header, NoHeader, NoPorts, PlainPorts, TypedPorts, Equation, Gate, Pin, Conns, Places, NoPins, Pins, Instance, Statement, Directs, Wires, Assigns, Gates, Cells, File}
use Rattle.bb_parse.specs.Grammar.{file}

-- an index stands twice
abbrev pub select_of : Select → Option (ℕ × ℕ)
select_of Whole = None
select_of (Bit index) = Some (index, index)
select_of (Part from to) = Some (from, to)

abbrev pub ref_of : Name → Select → RefValue
ref_of x s = record { name = x; select = select_of s }

abbrev pub xor_step : XorMark → Step
xor_step ByCaret = steps.Xor
xor_step ByTildeCaret = steps.Xnor
xor_step ByCaretTilde = steps.Xnor

-- how many expressions follow the first
abbrev pub count : Exprs → ℕ
count NoExprs = 0
count (MoreExprs e es) = count es + 1

-- Postfix order: the operands, then the operator. Operands in a row group to the left, as each is followed by its operator.
abbrev mutual
  pub steps_of : Expr → List Step
  steps_of (AnExpr o c) = or_steps o ++ choice_steps c

  pub choice_steps : Choice → List Step
  choice_steps NoChoice = []
  choice_steps (Choose a b) = steps_of a ++ (steps_of b ++ steps.Cond ∷ [])

  pub or_steps : Or → List Step
  or_steps (AnOr x os) = xor_steps x ++ ors_steps os

  pub ors_steps : Ors → List Step
  ors_steps NoOrs = []
  ors_steps (MoreOrs x os) = xor_steps x ++ steps.Or ∷ ors_steps os

  pub xor_steps : Xor → List Step
  xor_steps (AnXor a xs) = and_steps a ++ xors_steps xs

  pub xors_steps : Xors → List Step
  xors_steps NoXors = []
  xors_steps (MoreXors m a xs) = and_steps a ++ xor_step m ∷ xors_steps xs

  pub and_steps : And → List Step
  and_steps (AnAnd u more) = unary_steps u ++ ands_steps more

  pub ands_steps : Ands → List Step
  ands_steps NoAnds = []
  ands_steps (MoreAnds u more) = unary_steps u ++ steps.And ∷ ands_steps more

  pub unary_steps : Unary → List Step
  unary_steps (Complement u) = unary_steps u ++ steps.Not ∷ []
  unary_steps (Reference x s) = steps.Ref (ref_of x s) ∷ []
  unary_steps (Constant size value) = steps.Const size value ∷ []
  unary_steps (Parens e) = steps_of e
  unary_steps (Braces e es) = steps_of e ++ (exprs_steps es ++ steps.Join (count es + 1) ∷ [])
  unary_steps (Repeated times e es) = steps_of e ++ (exprs_steps es ++ steps.Join (count es + 1) ∷ steps.Repeat times ∷ [])

  pub exprs_steps : Exprs → List Step
  exprs_steps NoExprs = []
  exprs_steps (MoreExprs e es) = steps_of e ++ exprs_steps es

-- each expression by itself
abbrev pub each : Exprs → List (List Step)
each NoExprs = []
each (MoreExprs e es) = steps_of e ∷ each es

abbrev pub terms_of : Terms → List (List Step)
terms_of t = steps_of t.first ∷ each t.more

-- the targets from left to right, however they are braced
abbrev mutual
  pub targets : Left → List RefValue
  targets (Target x s) = ref_of x s ∷ []
  targets (Targets l ls) = targets l ++ more_targets ls

  pub more_targets : Lefts → List RefValue
  more_targets NoLefts = []
  more_targets (MoreLefts l ls) = targets l ++ more_targets ls

abbrev pub direction_role : Direction → Role
direction_role In = roles.Input
direction_role Out = roles.Output

-- a name that is declared; of `wire` behind a direction nothing is kept
abbrev pub decl : ℕ → Role → Option (ℕ × ℕ) → Name → Decl
decl line role range x = record { line = line; role = role; range = range; name = x }

abbrev pub typed_decl : ℕ → Typed → Name → Decl
typed_decl line t x = decl line (direction_role t.direction) t.range x

-- a port without a direction takes the type of the one before it
abbrev pub port_decls : ℕ → Typed → List Port → List Decl
port_decls line t [] = []
port_decls line t (Again x ∷ ps) = typed_decl line t x ∷ port_decls line t ps
port_decls line t (Anew u x ∷ ps) = typed_decl line u x ∷ port_decls line u ps

-- the header of a module that begins in this line
abbrev pub header_of : ℕ → Header → HeaderValue
header_of line NoHeader = headers.Plain []
header_of line NoPorts = headers.Plain []
header_of line (PlainPorts x xs) = headers.Plain (x ∷ xs)
header_of line (TypedPorts t x ps) = headers.Ansi (typed_decl line t x ∷ port_decls line t ps)

abbrev pub pin_of : Pin → Name × Option (List Step)
pin_of p = (p.name, option_map steps_of p.value)

abbrev pub conns_of : Conns → ConnsValue
conns_of (Places t) = conns.Places (terms_of t)
conns_of NoPins = conns.Pins []
conns_of (Pins p ps) = conns.Pins (pin_of p ∷ map pin_of ps)

abbrev pub assign : ℕ → Equation → Item
assign line e = items.Assign line (targets e.left) (steps_of e.right)

abbrev pub prim : ℕ → Op → Gate → Item
prim line op g = items.Prim line op (terms_of g.terms)

abbrev pub cell : ℕ → Name → Instance → Item
cell line x i = items.Cell line x (conns_of i.conns)

-- one item for each name, equation, gate or instance
abbrev pub items_of : Statement → List Item
items_of (Directs line t x xs) = map (λ y. items.Decl (typed_decl line t y)) (x ∷ xs)
items_of (Wires line r x xs) = map (λ y. items.Decl (decl line roles.Wire r y)) (x ∷ xs)
items_of (Assigns line e es) = map (assign line) (e ∷ es)
items_of (Gates line k op g gs) = map (prim line op) (g ∷ gs)
items_of (Cells line x i is) = map (cell line x) (i ∷ is)

abbrev pub all_items : List Statement → List Item
all_items [] = []
all_items (s ∷ more) = items_of s ++ all_items more

abbrev pub module_of : File → Module
module_of f = record { name = f.name; header = header_of f.line f.header; items = all_items f.statements }

-- the tokens are a whole module, and it is this one
abbrev pub Denotes : List Token → Module → Type 0
Denotes tokens value = (f : File) × file f tokens [] × (module_of f ≡ value)

-- more tokens that a text may have make these a whole module
abbrev pub IsFront : List Token → Type 0
IsFront tokens = (rest : List Token) × AllByRecursion IsProper rest × ((f : File) × file f (tokens ++ rest) [])

-- the tokens before this one go on to a whole module, and with it no tokens do
pub record IsFirstBad (front : List Token) (token : Token) : Type 0 where
  pub goes_on : IsFront front
  pub none : (rest : List Token) (f : File) → file f (front ++ token ∷ rest) [] → ⊥

-- some token is the first bad one
abbrev pub HasFirstBad : List Token → Type 0
HasFirstBad tokens = (front : List Token) × (t : Token) × (rest : List Token) × (tokens ≡ front ++ t ∷ rest) × IsFirstBad front t
