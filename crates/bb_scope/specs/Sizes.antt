-- How wide values are, what widths must agree, and how many nets expressions make.
-- An expression is in postfix order: a step takes the values that stand open, the last one first, and leaves one.
use Rattle.std.specs.Prelude.{ℕ, ◌+◌, ◌*◌, min, Bool, true, false, ◌&&◌, nat_lt, ◌==◌, List, [], ◌∷◌, take, drop, Option, Some, None, if◌then◌else◌}
use Rattle.std.specs.Option.{option_or}
use Rattle.bb_base.specs.Variables.{Entry}
use Rattle.bb_parse.specs.declared.syntax.Step.{Step}
use Rattle.bb_parse.specs.declared.syntax.Step.TheVariants as step
use Rattle.bb_scope.specs.declared.size.Size.{Size}
use Rattle.bb_fault.specs.declared.fault.ElabFault.{ElabFault}
use Rattle.bb_fault.specs.declared.fault.ElabFault.TheVariants.{WidthDiffers, TooWide}
use Rattle.bb_scope.specs.References.{ref_span, ref_fault, width_of, width_limit}
use Rattle.bb_scope.specs.Terminals.{is_last}

abbrev pub width : Size → ℕ
width a = a.nets + a.constants

-- a value whose bits are all nets
abbrev pub of_nets : ℕ → Size
of_nets width = record { nets = width; constants = 0 }

-- values one after the other
abbrev pub total : List Size → Size
total [] = of_nets 0
total (a ∷ sizes) = record { nets = a.nets + (total sizes).nets; constants = a.constants + (total sizes).constants }

abbrev pub repeated : ℕ → Size → Size
repeated times a = record { nets = times * a.nets; constants = times * a.constants }

-- faults --------------------------------------------------------------

abbrev pub too_wide : ℕ → Size → Option ElabFault
too_wide line a = if nat_lt width_limit (width a) then Some (TooWide line) else None

abbrev pub differs : ℕ → Bool → Option ElabFault
differs line agree = if agree then None else Some (WidthDiffers line)

-- operands have equal widths; no text lacks one
abbrev pub two_fault : ℕ → List Size → Option ElabFault
two_fault line (b ∷ a ∷ stack) = differs line (width a == width b)
two_fault line few = None

-- and a condition has one bit
abbrev pub choice_fault : ℕ → List Size → Option ElabFault
choice_fault line (b ∷ a ∷ c ∷ stack) = differs line ((width c == 1) && (width a == width b))
choice_fault line few = None

abbrev pub repeat_fault : ℕ → ℕ → List Size → Option ElabFault
repeat_fault line times (a ∷ stack) = too_wide line (repeated times a)
repeat_fault line times [] = None

-- the fault of a step on the values that stand open
abbrev pub step_fault : List Entry → ℕ → Step → List Size → Option ElabFault
step_fault table line (step.Ref ref) stack = ref_fault table line ref
step_fault table line (step.Const size value) stack = None
step_fault table line step.Not stack = None
step_fault table line step.And stack = two_fault line stack
step_fault table line step.Or stack = two_fault line stack
step_fault table line step.Xor stack = two_fault line stack
step_fault table line step.Xnor stack = two_fault line stack
step_fault table line step.Cond stack = choice_fault line stack
step_fault table line (step.Join count) stack = too_wide line (total (take count stack))
step_fault table line (step.Repeat times) stack = repeat_fault line times stack

-- values --------------------------------------------------------------

abbrev pub not_stack : List Size → List Size
not_stack (a ∷ stack) = of_nets (width a) ∷ stack
not_stack [] = []

-- where widths differ, the lesser one, so that this is no matter of faults
abbrev pub two_stack : List Size → List Size
two_stack (b ∷ a ∷ stack) = of_nets (min (width a) (width b)) ∷ stack
two_stack few = []

abbrev pub choice_stack : List Size → List Size
choice_stack (b ∷ a ∷ c ∷ stack) = of_nets (min (width a) (width b)) ∷ stack
choice_stack few = []

abbrev pub repeat_stack : ℕ → List Size → List Size
repeat_stack times (a ∷ stack) = repeated times a ∷ stack
repeat_stack times [] = []

-- the values that stand open after a step: an operator's bits are nets, and constants stay such until an operator takes them
abbrev pub step_stack : List Entry → Step → List Size → List Size
step_stack table (step.Ref ref) stack = of_nets (width_of (ref_span table ref)) ∷ stack
step_stack table (step.Const size value) stack = record { nets = 0; constants = size } ∷ stack
step_stack table step.Not stack = not_stack stack
step_stack table step.And stack = two_stack stack
step_stack table step.Or stack = two_stack stack
step_stack table step.Xor stack = two_stack stack
step_stack table step.Xnor stack = two_stack stack
step_stack table step.Cond stack = choice_stack stack
step_stack table (step.Join count) stack = total (take count stack) ∷ drop count stack
step_stack table (step.Repeat times) stack = repeat_stack times stack

-- made nets -----------------------------------------------------------

-- an operator's bits get nets, unless its gates drive targets
abbrev pub own_nets : Bool → ℕ → ℕ
own_nets drives width = if drives then 0 else width

abbrev pub not_nets : Bool → List Size → ℕ
not_nets drives (a ∷ stack) = a.constants + own_nets drives (width a)
not_nets drives [] = 0

abbrev pub two_nets : Bool → List Size → ℕ
two_nets drives (b ∷ a ∷ stack) = a.constants + b.constants + own_nets drives (min (width a) (width b))
two_nets drives few = 0

-- one for the condition's Not, and for each bit two besides its own
abbrev pub choice_nets : Bool → List Size → ℕ
choice_nets drives (b ∷ a ∷ c ∷ stack) = c.constants + a.constants + b.constants + 1 + 2 * min (width a) (width b) + own_nets drives (min (width a) (width b))
choice_nets drives few = 0

-- the nets that a step makes: one for each constant bit of its operands, and those of its gates
abbrev pub step_nets : Bool → Step → List Size → ℕ
step_nets drives (step.Ref ref) stack = 0
step_nets drives (step.Const size value) stack = 0
step_nets drives step.Not stack = not_nets drives stack
step_nets drives step.And stack = two_nets drives stack
step_nets drives step.Or stack = two_nets drives stack
step_nets drives step.Xor stack = two_nets drives stack
step_nets drives step.Xnor stack = two_nets drives stack
step_nets drives step.Cond stack = choice_nets drives stack
step_nets drives (step.Join count) stack = 0
step_nets drives (step.Repeat times) stack = 0

-- expressions ---------------------------------------------------------

-- the first fault of steps
abbrev pub steps_fault : List Entry → ℕ → List Step → List Size → Option ElabFault
steps_fault table line [] stack = None
steps_fault table line (s ∷ ss) stack = option_or (step_fault table line s stack) (steps_fault table line ss (step_stack table s stack))

-- the values that stand open after steps
abbrev pub steps_stack : List Entry → List Step → List Size → List Size
steps_stack table [] stack = stack
steps_stack table (s ∷ ss) stack = steps_stack table ss (step_stack table s stack)

-- the nets that steps make, of which the last one drives targets or not
abbrev pub steps_nets : List Entry → Bool → List Step → List Size → ℕ
steps_nets table drives [] stack = 0
steps_nets table drives (s ∷ ss) stack = step_nets (drives && is_last ss) s stack + steps_nets table drives ss (step_stack table s stack)

-- the value that stands last, of no bits where none does
abbrev pub last_size : List Size → Size
last_size [] = of_nets 0
last_size (a ∷ stack) = a

-- the fault of an expression whose value must have this width
abbrev pub expr_fault : List Entry → ℕ → ℕ → List Step → Option ElabFault
expr_fault table line wanted steps = option_or (steps_fault table line steps []) (differs line (width (last_size (steps_stack table steps [])) == wanted))

-- the nets of an expression at a terminal or pin, where a constant gets one
abbrev pub terminal_nets : List Entry → List Step → ℕ
terminal_nets table steps = steps_nets table false steps [] + (last_size (steps_stack table steps [])).constants

-- the nets of an assign's expression
abbrev pub value_nets : List Entry → List Step → ℕ
value_nets table steps = steps_nets table true steps []
