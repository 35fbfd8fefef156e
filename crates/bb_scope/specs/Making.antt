-- The gates and flip-flops that the items of a module make, in the text's order.
--
-- Nets are numbers here: those of the bits of all variables, by variables and from left to right, and then one more for each made net.
use Rattle.std.specs.Prelude.{ℕ, zero, suc, ◌/◌, ◌%◌, ◌^◌, Bool, true, false, ◌&&◌, ◌==◌, List, [], ◌∷◌, ◌++◌, map, take, drop, reverse, flat_map, Option, Some, None, if◌then◌else◌}
use Rattle.std.specs.Str.{bytes_eq}
use Rattle.bb_base.specs.declared.operator.Op.{Op}
use Rattle.bb_base.specs.declared.operator.Op.TheVariants.{And, Or, Xor, Xnor, Not, Buf}
use Rattle.bb_base.specs.Variables.{Entry, bit_count}
use Rattle.bb_parse.specs.declared.syntax.Item.{Item}
use Rattle.bb_parse.specs.declared.syntax.Item.TheVariants as item
use Rattle.bb_parse.specs.declared.syntax.Conns.{Conns}
use Rattle.bb_parse.specs.declared.syntax.Step.{Step}
use Rattle.bb_parse.specs.declared.syntax.Step.TheVariants as step
use Rattle.bb_scope.specs.declared.value.Bit.{Bit}
use Rattle.bb_scope.specs.declared.value.Bit.TheVariants.{Net, Fixed}
use Rattle.bb_scope.specs.declared.cells.Body.{Body}
use Rattle.bb_scope.specs.declared.cells.Body.TheVariants.{FlipFlop, Gate, SecondInverted, Choice}
use Rattle.bb_scope.specs.Cells.{Kind, kind_of, Pin, pins_of}
use Rattle.bb_scope.specs.References.{ref_bits}
use Rattle.bb_scope.specs.Terminals.{is_last, outs_of, ins_of}
use Rattle.bb_fault.specs.Work.{◌>>=◌, Work, give, new_net, drive, make, make_onto, constant, flop_made}

-- operands and operators ------------------------------------------------

-- the nets of an operand, of which each constant bit gets one of its own
abbrev pub grounded : List Bit → Work → List ℕ × Work
grounded [] = give []
grounded (Net n ∷ bits) = do
  nets ← grounded bits
  give (n ∷ nets)
grounded (Fixed one ∷ bits) = do
  n ← make (constant one) []
  nets ← grounded bits
  give (n ∷ nets)

-- where an operator's gates go, from left to right: each to a new net, or each to its target
pub data Outs : Type 0 where
  New : Outs
  To : (targets : List ℕ) → Outs

abbrev pub first_out : Outs → Option ℕ
first_out New = None
first_out (To []) = None
first_out (To (t ∷ targets)) = Some t

abbrev pub other_outs : Outs → Outs
other_outs New = New
other_outs (To []) = New
other_outs (To (t ∷ targets)) = To targets

-- one gate for each bit
abbrev pub each_alone : Op → List ℕ → Outs → Work → List ℕ × Work
each_alone op [] outs = give []
each_alone op (a ∷ xs) outs = do
  n ← make_onto op (a ∷ []) (first_out outs)
  nets ← each_alone op xs (other_outs outs)
  give (n ∷ nets)

-- one gate for each pair of bits
abbrev pub each_pair : Op → List ℕ → List ℕ → Outs → Work → List ℕ × Work
each_pair op [] ys outs = give []
each_pair op (a ∷ xs) [] outs = give []
each_pair op (a ∷ xs) (b ∷ ys) outs = do
  n ← make_onto op (a ∷ b ∷ []) (first_out outs)
  nets ← each_pair op xs ys (other_outs outs)
  give (n ∷ nets)

-- for each pair And of the condition and a, And of its Not and b, and Or of these
abbrev pub each_choice : List ℕ → ℕ → List ℕ → List ℕ → Outs → Work → List ℕ × Work
each_choice c n [] ys outs = give []
each_choice c n (a ∷ xs) [] outs = give []
each_choice c n (a ∷ xs) (b ∷ ys) outs = do
  first ← make And (c ++ a ∷ [])
  second ← make And (n ∷ b ∷ [])
  either ← make_onto Or (first ∷ second ∷ []) (first_out outs)
  nets ← each_choice c n xs ys (other_outs outs)
  give (either ∷ nets)

abbrev pub as_value : List ℕ → List Bit
as_value nets = map (λ n. Net n) nets

abbrev pub inverted : Outs → List Bit → Work → List Bit × Work
inverted outs a = do
  xs ← grounded a
  nets ← each_alone Not xs outs
  give (as_value nets)

-- the constants of both operands come before the operator's gates
abbrev pub joined_by : Op → Outs → List Bit → List Bit → Work → List Bit × Work
joined_by op outs a b = do
  xs ← grounded a
  ys ← grounded b
  nets ← each_pair op xs ys outs
  give (as_value nets)

abbrev pub choice_between : Outs → List Bit → List Bit → List Bit → Work → List Bit × Work
choice_between outs c a b = do
  zs ← grounded c
  xs ← grounded a
  ys ← grounded b
  n ← make Not zs
  nets ← each_choice zs n xs ys outs
  give (as_value nets)

-- values --------------------------------------------------------------

-- the lowest bits of a number, the highest of them first
abbrev pub const_bits : ℕ → ℕ → List Bit
const_bits zero value = []
const_bits (suc n) value = Fixed ((value / 2 ^ n) % 2 == 1) ∷ const_bits n value

abbrev pub side_by_side : List (List Bit) → List Bit
side_by_side [] = []
side_by_side (v ∷ vs) = v ++ side_by_side vs

abbrev pub copies : ℕ → List Bit → List Bit
copies zero bits = []
copies (suc n) bits = bits ++ copies n bits

-- the value that stands last
abbrev pub last_value : List (List Bit) → List Bit
last_value [] = []
last_value (a ∷ rest) = a

-- steps: the values that stand open, the last one first -------------------

abbrev pub onto_stack : List (List Bit) → (Work → List Bit × Work) → Work → List (List Bit) × Work
onto_stack rest maker = do
  value ← maker
  give (value ∷ rest)

abbrev pub not_made : Outs → List (List Bit) → Work → List (List Bit) × Work
not_made outs (a ∷ rest) = onto_stack rest (inverted outs a)
not_made outs [] = give []

abbrev pub two_made : Op → Outs → List (List Bit) → Work → List (List Bit) × Work
two_made op outs (b ∷ a ∷ rest) = onto_stack rest (joined_by op outs a b)
two_made op outs few = give []

abbrev pub choice_made : Outs → List (List Bit) → Work → List (List Bit) × Work
choice_made outs (b ∷ a ∷ c ∷ rest) = onto_stack rest (choice_between outs c a b)
choice_made outs few = give []

abbrev pub repeat_made : ℕ → List (List Bit) → List (List Bit)
repeat_made times (a ∷ rest) = copies times a ∷ rest
repeat_made times [] = []

abbrev pub step_made : List Entry → Outs → Step → List (List Bit) → Work → List (List Bit) × Work
step_made table outs (step.Ref ref) stack = give (as_value (ref_bits table ref) ∷ stack)
step_made table outs (step.Const size value) stack = give (const_bits size value ∷ stack)
step_made table outs step.Not stack = not_made outs stack
step_made table outs step.And stack = two_made And outs stack
step_made table outs step.Or stack = two_made Or outs stack
step_made table outs step.Xor stack = two_made Xor outs stack
step_made table outs step.Xnor stack = two_made Xnor outs stack
step_made table outs step.Cond stack = choice_made outs stack
step_made table outs (step.Join count) stack = give (side_by_side (reverse (take count stack)) ∷ drop count stack)
step_made table outs (step.Repeat times) stack = give (repeat_made times stack)

abbrev pub steps_made : List Entry → List Step → List (List Bit) → Work → List (List Bit) × Work
steps_made table [] stack = give stack
steps_made table (s ∷ ss) stack = do
  next ← step_made table New s stack
  steps_made table ss next

-- the net of a terminal or pin that is read, as a list of one
abbrev pub terminal_made : List Entry → List Step → Work → List ℕ × Work
terminal_made table steps = do
  stack ← steps_made table steps []
  grounded (last_value stack)

abbrev pub terminals_made : List Entry → List (List Step) → Work → List ℕ × Work
terminals_made table [] = give []
terminals_made table (e ∷ es) = do
  first ← terminal_made table e
  more ← terminals_made table es
  give (first ++ more)

-- assigns -------------------------------------------------------------

-- a target whose value is a net gets Buf, one whose value is a constant Zero or One
abbrev pub copied_onto : List ℕ → List Bit → Work → List ℕ × Work
copied_onto [] bits = give []
copied_onto (t ∷ targets) [] = give []
copied_onto (t ∷ targets) (Net n ∷ bits) = do
  done ← drive Buf (n ∷ []) t
  copied_onto targets bits
copied_onto (t ∷ targets) (Fixed one ∷ bits) = do
  done ← drive (constant one) [] t
  copied_onto targets bits

abbrev pub makes_gates : Step → Bool
makes_gates (step.Ref ref) = false
makes_gates (step.Const size value) = false
makes_gates step.Not = true
makes_gates step.And = true
makes_gates step.Or = true
makes_gates step.Xor = true
makes_gates step.Xnor = true
makes_gates step.Cond = true
makes_gates (step.Join count) = false
makes_gates (step.Repeat times) = false

-- the steps of an assign: the gates of an operator that stands last drive the targets
abbrev pub assigned : List Entry → List ℕ → List Step → List (List Bit) → Work → List ℕ × Work
assigned table targets [] stack = copied_onto targets (last_value stack)
assigned table targets (s ∷ ss) stack =
    if is_last ss && makes_gates s
    then (do
      done ← step_made table (To targets) s stack
      give [])
    else (do
      next ← step_made table New s stack
      assigned table targets ss next)

-- primitives ------------------------------------------------------------

-- the nets of a terminal that is driven
abbrev pub driven_bits : List Entry → List Step → List ℕ
driven_bits table [] = []
driven_bits table (step.Ref ref ∷ ss) = ref_bits table ref
driven_bits table (other ∷ ss) = []

-- the same gate for each target
abbrev pub all_driven : Op → List ℕ → List ℕ → Work → List ℕ × Work
all_driven op ins [] = give []
all_driven op ins (t ∷ targets) = do
  done ← drive op ins t
  all_driven op ins targets

-- the terminals' expressions first, then a gate for each net that is driven
abbrev pub prim_made : List Entry → Op → List (List Step) → Work → List ℕ × Work
prim_made table op terms = do
  nets ← terminals_made table (ins_of op terms)
  all_driven op nets (flat_map (driven_bits table) (outs_of op terms))

-- cells -----------------------------------------------------------------

-- the nets of the pins that are read, by the pins' names
abbrev pub Read : Type 0
Read = List (List ℕ × List ℕ)

-- the pins' expressions, in the text's order
abbrev pub pins_made : List Entry → Kind → List Pin → Work → Read × Work
pins_made table kind [] = give []
pins_made table kind ((name, None) ∷ pins) = pins_made table kind pins
pins_made table kind ((name, Some steps) ∷ pins) =
    if bytes_eq kind.out name then pins_made table kind pins
    else (do
      nets ← terminal_made table steps
      read ← pins_made table kind pins
      give ((name, nets) ∷ read))

abbrev pub nets_of : Read → List ℕ → List ℕ
nets_of [] name = []
nets_of (r ∷ read) name = if bytes_eq name r.0 then r.1 else nets_of read name

-- where the output goes: to the net of its pin, or to a new one where that is absent or open
abbrev pub out_of : List Entry → Kind → List Pin → Outs
out_of table kind [] = New
out_of table kind ((name, None) ∷ pins) = out_of table kind pins
out_of table kind ((name, Some steps) ∷ pins) = if bytes_eq kind.out name then To (driven_bits table steps) else out_of table kind pins

abbrev pub out_net : Option ℕ → Work → ℕ × Work
out_net None = new_net
out_net (Some target) = give target

abbrev pub flip_flop_made : Outs → List (List ℕ) → Work → List ℕ × Work
flip_flop_made outs ((clock ∷ more) ∷ (d ∷ rest) ∷ others) = do
  q ← out_net (first_out outs)
  flop_made q d clock
flip_flop_made outs few = give []

abbrev pub all_nets : List (List ℕ) → List ℕ
all_nets [] = []
all_nets (ns ∷ others) = ns ++ all_nets others

abbrev pub gate_made : Op → Outs → List ℕ → Work → List ℕ × Work
gate_made op outs ins = do
  n ← make_onto op ins (first_out outs)
  give (n ∷ [])

abbrev pub second_inverted : Op → Outs → List (List ℕ) → Work → List ℕ × Work
second_inverted op outs (a ∷ b ∷ others) = do
  n ← make Not b
  gate_made op outs (a ++ n ∷ [])
second_inverted op outs few = give []

abbrev pub multiplexer_made : Outs → List (List ℕ) → Work → List ℕ × Work
multiplexer_made outs (a ∷ b ∷ s ∷ others) = do
  n ← make Not s
  each_choice s n b a outs
multiplexer_made outs few = give []

-- the body of a cell, from the nets of its inputs in their order
abbrev pub body_made : Body → Outs → List (List ℕ) → Work → List ℕ × Work
body_made FlipFlop outs ins = flip_flop_made outs ins
body_made (Gate op) outs ins = gate_made op outs (all_nets ins)
body_made (SecondInverted op) outs ins = second_inverted op outs ins
body_made Choice outs ins = multiplexer_made outs ins

abbrev pub kind_made : List Entry → Kind → List Pin → Work → List ℕ × Work
kind_made table kind pins = do
  read ← pins_made table kind pins
  body_made kind.body (out_of table kind pins) (map (nets_of read) kind.ins)

abbrev pub cell_made : List Entry → Option Kind → Conns → Work → List ℕ × Work
cell_made table None conns = give []
cell_made table (Some kind) conns = kind_made table kind (pins_of kind conns)

-- items -----------------------------------------------------------------

abbrev pub item_made : List Entry → Item → Work → List ℕ × Work
item_made table (item.Decl decl) = give []
item_made table (item.Assign line left right) = assigned table (flat_map (ref_bits table) left) right []
item_made table (item.Prim line op terms) = prim_made table op terms
item_made table (item.Cell line cell conns) = cell_made table (kind_of cell) conns

abbrev pub items_made : List Entry → List Item → Work → Work
items_made table [] w = w
items_made table (i ∷ items) w = items_made table items (item_made table i w).1

-- all that a module makes over its variables
abbrev pub work_of : List Entry → List Item → Work
work_of table items = items_made table items (record { fresh = bit_count table; gates = []; flops = [] })
