-- Syntax trees: what a production of the grammar is made of.
use Rattle.std.specs.Prelude.{ℕ, Bool, List, Option}
use Rattle.bb_base.specs.declared.keyword.Keyword.{Keyword}
use Rattle.bb_base.specs.declared.operator.Op.{Op}

-- the name of a variable, a cell, an instance or a pin
abbrev pub Name : Type 0
Name = List ℕ

-- what stands behind a variable's name: nothing, an index, or the first and the last of some
pub data Select : Type 0 where
  Whole : Select
  Bit : (index : ℕ) → Select
  Part : (from : ℕ) (to : ℕ) → Select

-- the marks of exclusive or, and of its complement
pub data XorMark : Type 0 where
  ByCaret : XorMark
  ByTildeCaret : XorMark
  ByCaretTilde : XorMark

-- expressions by precedence; of an operator that binds equally the operands stand in a row
mutual
  pub data Expr : Type 0 where
    AnExpr : Or → Choice → Expr

  pub data Choice : Type 0 where
    NoChoice : Choice
    Choose : Expr → Expr → Choice

  pub data Or : Type 0 where
    AnOr : Xor → Ors → Or

  pub data Ors : Type 0 where
    NoOrs : Ors
    MoreOrs : Xor → Ors → Ors

  pub data Xor : Type 0 where
    AnXor : And → Xors → Xor

  pub data Xors : Type 0 where
    NoXors : Xors
    MoreXors : XorMark → And → Xors → Xors

  pub data And : Type 0 where
    AnAnd : Unary → Ands → And

  pub data Ands : Type 0 where
    NoAnds : Ands
    MoreAnds : Unary → Ands → Ands

  pub data Unary : Type 0 where
    Complement : Unary → Unary
    Reference : Name → Select → Unary
    Constant : (size : ℕ) (value : ℕ) → Unary
    Parens : Expr → Unary
    Braces : Expr → Exprs → Unary
    Repeated : (times : ℕ) → Expr → Exprs → Unary

  pub data Exprs : Type 0 where
    NoExprs : Exprs
    MoreExprs : Expr → Exprs → Exprs

-- one expression or more
pub record Terms : Type 0 where
  pub first : Expr
  pub more : Exprs

-- the left side of an equation
mutual
  pub data Left : Type 0 where
    Target : Name → Select → Left
    Targets : Left → Lefts → Left

  pub data Lefts : Type 0 where
    NoLefts : Lefts
    MoreLefts : Left → Lefts → Lefts

-- a direction, `wire` or not, and a range or none
pub data Direction : Type 0 where
  In : Direction
  Out : Direction

pub record Typed : Type 0 where
  pub direction : Direction
  pub wire : Bool
  pub range : Option (ℕ × ℕ)

-- a further port of a header: of the type before it, or of its own
pub data Port : Type 0 where
  Again : Name → Port
  Anew : Typed → Name → Port

pub data Header : Type 0 where
  NoHeader : Header
  NoPorts : Header
  PlainPorts : Name → List Name → Header
  TypedPorts : Typed → Name → List Port → Header

pub record Equation : Type 0 where
  pub left : Left
  pub right : Expr

pub record Gate : Type 0 where
  pub instance : Option Name
  pub terms : Terms

pub record Pin : Type 0 where
  pub name : Name
  pub value : Option Expr

pub data Conns : Type 0 where
  Places : Terms → Conns
  NoPins : Conns
  Pins : Pin → List Pin → Conns

pub record Instance : Type 0 where
  pub name : Name
  pub conns : Conns

-- a statement, with the line of its first token
pub data Statement : Type 0 where
  Directs : (line : ℕ) → Typed → Name → List Name → Statement
  Wires : (line : ℕ) → Option (ℕ × ℕ) → Name → List Name → Statement
  Assigns : (line : ℕ) → Equation → List Equation → Statement
  Gates : (line : ℕ) → Keyword → Op → Gate → List Gate → Statement
  Cells : (line : ℕ) → Name → Instance → List Instance → Statement

-- a whole text, with the line of `module`
pub record File : Type 0 where
  pub line : ℕ
  pub name : Name
  pub header : Header
  pub statements : List Statement
