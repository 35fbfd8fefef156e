-- What an expression means in one cycle: a list of bits, from left to right, by the bits that variables have.
--
-- These are the operators of the language on the bits 0 and 1; no gate and no net stands here. Where the widths of operands differ the
-- text has a fault, and nothing is said of what its expressions mean.
use Rattle.std.specs.Prelude.{ℕ, zero, suc, ◌/◌, ◌%◌, ◌^◌, ◌==◌, ◌&&◌, ◌||◌, not, Bool, List, [], ◌∷◌, ◌++◌, map, Option, Some, None, if◌then◌else◌}
use Rattle.std.specs.List.{range_with_len}
use Rattle.bb_base.specs.Booleans.{xor}
use Rattle.bb_base.specs.Operators.{first_bit}
use Rattle.bb_base.specs.Variables.{Entry, Bit as BitText, range_width, index_at}
use Rattle.bb_parse.specs.Trees.{Name, Select, Whole, Bit, Part, XorMark, ByCaret, ByTildeCaret, ByCaretTilde, Expr, AnExpr, Choice, NoChoice, Choose, Or, AnOr, Ors, NoOrs, MoreOrs, Xor, AnXor, Xors, NoXors, MoreXors, And, AnAnd, Ands, NoAnds, MoreAnds, Unary, Complement, Reference, Constant, Parens, Braces, Repeated, Exprs, NoExprs, MoreExprs, Left, Target, Targets, Lefts, NoLefts, MoreLefts}
use Rattle.bb_scope.specs.References.{range_in}

-- references ------------------------------------------------------------

-- the bits that variables have, by their names in texts
abbrev pub Bits : Type 0
Bits = BitText → Bool

-- the name of a variable's only bit, and that of a vector's bit
abbrev pub only_bit : Name → BitText
only_bit x = record { name = x; index = None }

abbrev pub element : Name → ℕ → BitText
element x i = record { name = x; index = Some i }

-- the indices of a range, from its left number to its right one
abbrev pub indices : ℕ × ℕ → List ℕ
indices r = map (index_at r) (range_with_len 0 (range_width (Some r)))

-- the bits of a vector that have these indices
abbrev pub elements : Bits → Name → ℕ × ℕ → List Bool
elements bits x r = map (λ i. bits (element x i)) (indices r)

-- all bits of a variable: of a scalar its one, and of a vector those of its range
abbrev pub whole_variable : Bits → Name → Option (ℕ × ℕ) → List Bool
whole_variable bits x None = bits (only_bit x) ∷ []
whole_variable bits x (Some r) = elements bits x r

-- the bits that a reference names
abbrev pub reference_bits : List Entry → Bits → Name → Select → List Bool
reference_bits variables bits x Whole = whole_variable bits x (range_in variables x)
reference_bits variables bits x (Bit index) = bits (element x index) ∷ []
reference_bits variables bits x (Part from to) = elements bits x (from, to)

-- operators -------------------------------------------------------------

-- an operator of two bits on the bits that stand in the same places
abbrev pub bitwise : (Bool → Bool → Bool) → List Bool → List Bool → List Bool
bitwise f [] ys = []
bitwise f (a ∷ xs) [] = []
bitwise f (a ∷ xs) (b ∷ ys) = f a b ∷ bitwise f xs ys

abbrev pub xnor : Bool → Bool → Bool
xnor a b = not (xor a b)

abbrev pub by_mark : XorMark → Bool → Bool → Bool
by_mark ByCaret = xor
by_mark ByTildeCaret = xnor
by_mark ByCaretTilde = xnor

-- the lowest bits of a number, the highest of them first
abbrev pub number_bits : ℕ → ℕ → List Bool
number_bits zero value = []
number_bits (suc n) value = ((value / 2 ^ n) % 2 == 1) ∷ number_bits n value

-- so many copies side by side
abbrev pub copied_bits : ℕ → List Bool → List Bool
copied_bits zero bits = []
copied_bits (suc n) bits = bits ++ copied_bits n bits

-- expressions -------------------------------------------------------------

-- How references are read is given. Operands in a row group to the left: what stands before an operator is its left operand.
abbrev mutual
  pub value : (Name → Select → List Bool) → Expr → List Bool
  value read (AnExpr o c) = choice_value read (or_value read o) c

  -- the condition has one bit
  pub choice_value : (Name → Select → List Bool) → List Bool → Choice → List Bool
  choice_value read condition NoChoice = condition
  choice_value read condition (Choose a b) = if first_bit condition then value read a else value read b

  pub or_value : (Name → Select → List Bool) → Or → List Bool
  or_value read (AnOr x os) = ors_value read (xor_value read x) os

  pub ors_value : (Name → Select → List Bool) → List Bool → Ors → List Bool
  ors_value read before NoOrs = before
  ors_value read before (MoreOrs x os) = ors_value read (bitwise (λ a b. a || b) before (xor_value read x)) os

  pub xor_value : (Name → Select → List Bool) → Xor → List Bool
  xor_value read (AnXor a xs) = xors_value read (and_value read a) xs

  pub xors_value : (Name → Select → List Bool) → List Bool → Xors → List Bool
  xors_value read before NoXors = before
  xors_value read before (MoreXors mark a xs) = xors_value read (bitwise (by_mark mark) before (and_value read a)) xs

  pub and_value : (Name → Select → List Bool) → And → List Bool
  and_value read (AnAnd u us) = ands_value read (unary_value read u) us

  pub ands_value : (Name → Select → List Bool) → List Bool → Ands → List Bool
  ands_value read before NoAnds = before
  ands_value read before (MoreAnds u us) = ands_value read (bitwise (λ a b. a && b) before (unary_value read u)) us

  pub unary_value : (Name → Select → List Bool) → Unary → List Bool
  unary_value read (Complement u) = map not (unary_value read u)
  unary_value read (Reference x s) = read x s
  unary_value read (Constant size number) = number_bits size number
  unary_value read (Parens e) = value read e
  unary_value read (Braces e es) = value read e ++ side_by_side read es
  unary_value read (Repeated times e es) = copied_bits times (value read e ++ side_by_side read es)

  pub side_by_side : (Name → Select → List Bool) → Exprs → List Bool
  side_by_side read NoExprs = []
  side_by_side read (MoreExprs e es) = value read e ++ side_by_side read es

-- the bits of a left side, however it is braced
abbrev mutual
  pub left_value : (Name → Select → List Bool) → Left → List Bool
  left_value read (Target x s) = read x s
  left_value read (Targets l ls) = left_value read l ++ lefts_value read ls

  pub lefts_value : (Name → Select → List Bool) → Lefts → List Bool
  lefts_value read NoLefts = []
  lefts_value read (MoreLefts l ls) = left_value read l ++ lefts_value read ls
