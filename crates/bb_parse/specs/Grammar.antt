-- The grammar: the tokens that each syntax tree spans. This project's profile of Verilog (IEEE 1364).
use Rattle.std.specs.Prelude.{◌≡◌, ◌≤◌, ℕ, Bool, true, false, List, Option, Some, None}
use Rattle.bb_base.specs.declared.keyword.Keyword.{Keyword}
use Rattle.bb_base.specs.declared.keyword.Keyword.TheVariants as keys
use Rattle.bb_base.specs.declared.token.Mark.{Mark}
use Rattle.bb_base.specs.declared.token.Mark.TheVariants as marks
use Rattle.bb_base.specs.declared.token.TokenKind.TheVariants as kinds
use Rattle.bb_base.specs.declared.operator.Op.{Op}
use Rattle.bb_base.specs.declared.operator.Op.TheVariants as ops
use Rattle.bb_parse.specs.Spans.{Span, ◌⨾◌, nothing, such, word_at, word, key, mark, name, number, many}
use Rattle.bb_parse.specs.Trees.{Name, Select, Whole, Bit, Part, XorMark, ByCaret, ByTildeCaret, ByCaretTilde, Expr, AnExpr, Choice, NoChoice, Choose, Or, AnOr, Ors, NoOrs, MoreOrs, Xor, AnXor, Xors, NoXors, MoreXors, And, AnAnd, Ands, NoAnds, MoreAnds, Unary, Complement, Reference, Constant, Parens, Braces, Repeated, Exprs, NoExprs, MoreExprs, Terms, Left, Target, Targets, Lefts, NoLefts, MoreLefts, Direction, In, Out, Typed, Port, Again, Anew, Header, NoHeader, NoPorts, PlainPorts, TypedPorts, Equation, Gate, Pin, Conns, Places, NoPins, Pins, Instance, Statement, Directs, Wires, Assigns, Gates, Cells, File}

-- ref = name [ "[" number [ ":" number ] "]" ]
abbrev pub select : Select → Span
select Whole = nothing
select (Bit index) = mark marks.LeftBracket ⨾ number index ⨾ mark marks.RightBracket
select (Part from to) = mark marks.LeftBracket ⨾ number from ⨾ mark marks.Colon ⨾ number to ⨾ mark marks.RightBracket

abbrev pub xor_mark : XorMark → Mark
xor_mark ByCaret = marks.Caret
xor_mark ByTildeCaret = marks.TildeCaret
xor_mark ByCaretTilde = marks.CaretTilde

abbrev mutual
  -- expr = or [ "?" expr ":" expr ]
  pub expr : Expr → Span
  expr (AnExpr o c) = or o ⨾ choice c

  pub choice : Choice → Span
  choice NoChoice = nothing
  choice (Choose a b) = mark marks.Question ⨾ expr a ⨾ mark marks.Colon ⨾ expr b

  -- or = xor { "|" xor }
  pub or : Or → Span
  or (AnOr x os) = xor x ⨾ ors os

  pub ors : Ors → Span
  ors NoOrs = nothing
  ors (MoreOrs x os) = mark marks.Bar ⨾ xor x ⨾ ors os

  -- xor = and { ("^" | "~^" | "^~") and }
  pub xor : Xor → Span
  xor (AnXor a xs) = and a ⨾ xors xs

  pub xors : Xors → Span
  xors NoXors = nothing
  xors (MoreXors m a xs) = mark (xor_mark m) ⨾ and a ⨾ xors xs

  -- and = unary { "&" unary }
  pub and : And → Span
  and (AnAnd u more) = unary u ⨾ ands more

  pub ands : Ands → Span
  ands NoAnds = nothing
  ands (MoreAnds u more) = mark marks.Amp ⨾ unary u ⨾ ands more

  -- unary = "~" unary | ref | constant | "(" expr ")" | "{" expr { "," expr } "}" | "{" number "{" expr { "," expr } "}" "}"
  pub unary : Unary → Span
  unary (Complement u) = mark marks.Tilde ⨾ unary u
  unary (Reference x s) = name x ⨾ select s
  unary (Constant size value) = word (kinds.Const size value)
  unary (Parens e) = mark marks.LeftParen ⨾ expr e ⨾ mark marks.RightParen
  unary (Braces e es) = mark marks.LeftBrace ⨾ expr e ⨾ exprs es ⨾ mark marks.RightBrace
  unary (Repeated times e es) = such (1 ≤ times) (mark marks.LeftBrace ⨾ number times ⨾ mark marks.LeftBrace ⨾ expr e ⨾ exprs es ⨾ mark marks.RightBrace ⨾ mark marks.RightBrace)

  -- { "," expr }
  pub exprs : Exprs → Span
  exprs NoExprs = nothing
  exprs (MoreExprs e es) = mark marks.Comma ⨾ expr e ⨾ exprs es

-- terms = "(" expr { "," expr } ")"
abbrev pub terms : Terms → Span
terms t = mark marks.LeftParen ⨾ expr t.first ⨾ exprs t.more ⨾ mark marks.RightParen

-- left = ref | "{" left { "," left } "}"
abbrev mutual
  pub left : Left → Span
  left (Target x s) = name x ⨾ select s
  left (Targets l ls) = mark marks.LeftBrace ⨾ left l ⨾ lefts ls ⨾ mark marks.RightBrace

  pub lefts : Lefts → Span
  lefts NoLefts = nothing
  lefts (MoreLefts l ls) = mark marks.Comma ⨾ left l ⨾ lefts ls

-- { "," name }
abbrev pub names : List Name → Span
names xs = many (λ x. mark marks.Comma ⨾ name x) xs

-- dir = "input" | "output"
abbrev pub direction_key : Direction → Keyword
direction_key In = keys.Input
direction_key Out = keys.Output

abbrev pub wire : Bool → Span
wire true = key keys.Wire
wire false = nothing

-- range = "[" number ":" number "]"
abbrev pub range : Option (ℕ × ℕ) → Span
range None = nothing
range (Some r) = mark marks.LeftBracket ⨾ number r.0 ⨾ mark marks.Colon ⨾ number r.1 ⨾ mark marks.RightBracket

-- ["wire"] [range], behind a direction
abbrev pub rest_of_type : Typed → Span
rest_of_type t = wire t.wire ⨾ range t.range

-- ansi = dir ["wire"] [range] name { "," [ dir ["wire"] [range] ] name }
abbrev pub port : Port → Span
port (Again x) = name x
port (Anew t x) = key (direction_key t.direction) ⨾ rest_of_type t ⨾ name x

abbrev pub ports : List Port → Span
ports ps = many (λ p. mark marks.Comma ⨾ port p) ps

-- [ "(" [ plain | ansi ] ")" ]
abbrev pub header : Header → Span
header NoHeader = nothing
header NoPorts = mark marks.LeftParen ⨾ mark marks.RightParen
header (PlainPorts x xs) = mark marks.LeftParen ⨾ name x ⨾ names xs ⨾ mark marks.RightParen
header (TypedPorts t x ps) = mark marks.LeftParen ⨾ key (direction_key t.direction) ⨾ rest_of_type t ⨾ name x ⨾ ports ps ⨾ mark marks.RightParen

-- left "=" expr
abbrev pub equation : Equation → Span
equation e = left e.left ⨾ mark marks.Equals ⨾ expr e.right

-- the keywords of gates
abbrev pub gate_op : Keyword → Option Op
gate_op keys.And = Some ops.And
gate_op keys.Nand = Some ops.Nand
gate_op keys.Or = Some ops.Or
gate_op keys.Nor = Some ops.Nor
gate_op keys.Xor = Some ops.Xor
gate_op keys.Xnor = Some ops.Xnor
gate_op keys.Not = Some ops.Not
gate_op keys.Buf = Some ops.Buf
gate_op keys.Module = None
gate_op keys.Endmodule = None
gate_op keys.Input = None
gate_op keys.Output = None
gate_op keys.Wire = None
gate_op keys.Assign = None

-- [name] terms
abbrev pub maybe_name : Option Name → Span
maybe_name None = nothing
maybe_name (Some x) = name x

abbrev pub gate : Gate → Span
gate g = maybe_name g.instance ⨾ terms g.terms

-- pin = "." name "(" [expr] ")"
abbrev pub maybe_expr : Option Expr → Span
maybe_expr None = nothing
maybe_expr (Some e) = expr e

abbrev pub pin : Pin → Span
pin p = mark marks.Dot ⨾ name p.name ⨾ mark marks.LeftParen ⨾ maybe_expr p.value ⨾ mark marks.RightParen

-- conns = terms | "(" [ pin { "," pin } ] ")"
abbrev pub conns : Conns → Span
conns (Places t) = terms t
conns NoPins = mark marks.LeftParen ⨾ mark marks.RightParen
conns (Pins p ps) = mark marks.LeftParen ⨾ pin p ⨾ many (λ q. mark marks.Comma ⨾ pin q) ps ⨾ mark marks.RightParen

-- name conns
abbrev pub instance : Instance → Span
instance i = name i.name ⨾ conns i.conns

-- item = dir ["wire"] [range] name { "," name } ";" | "wire" [range] name { "," name } ";"
--      | "assign" left "=" expr { "," left "=" expr } ";" | prim [name] terms { "," [name] terms } ";" | name name conns { "," name conns } ";"
abbrev pub statement : Statement → Span
statement (Directs line t x xs) = word_at line (kinds.Key (direction_key t.direction)) ⨾ rest_of_type t ⨾ name x ⨾ names xs ⨾ mark marks.Semicolon
statement (Wires line r x xs) = word_at line (kinds.Key keys.Wire) ⨾ range r ⨾ name x ⨾ names xs ⨾ mark marks.Semicolon
statement (Assigns line e es) = word_at line (kinds.Key keys.Assign) ⨾ equation e ⨾ many (λ d. mark marks.Comma ⨾ equation d) es ⨾ mark marks.Semicolon
statement (Gates line k op g gs) = such (gate_op k ≡ Some op) (word_at line (kinds.Key k) ⨾ gate g ⨾ many (λ h. mark marks.Comma ⨾ gate h) gs ⨾ mark marks.Semicolon)
statement (Cells line x i is) = word_at line (kinds.Name x) ⨾ instance i ⨾ many (λ j. mark marks.Comma ⨾ instance j) is ⨾ mark marks.Semicolon

-- file = "module" name [ "(" [ plain | ansi ] ")" ] ";" item* "endmodule"
abbrev pub file : File → Span
file f = word_at f.line (kinds.Key keys.Module) ⨾ name f.name ⨾ header f.header ⨾ mark marks.Semicolon ⨾ many statement f.statements ⨾ key keys.Endmodule
