-- What the statements of a text say of bits: of those of one cycle, and of flip-flops from one cycle to the next.
use Rattle.std.specs.Prelude.{◌≡◌, ℕ, ◌<◌, Bool, true, false, not, ◌||◌, List, [], ◌∷◌, ◌++◌, map, zip, take, drop, length, flat_map, Option, Some, None, if◌then◌else◌}
use Rattle.std.specs.List.{AllByRecursion}
use Rattle.std.specs.Str.{bytes_eq}
use Rattle.bb_base.specs.declared.operator.Op.{Op}
use Rattle.bb_base.specs.Operators.{op_gives, first_bit}
use Rattle.bb_base.specs.Variables.{Entry, bit_count}
use Rattle.bb_parse.specs.Trees.{Name, Select, Expr, Exprs, NoExprs, MoreExprs, Terms, Equation, Gate, Conns, Places, NoPins, Pins, Instance, Statement, Directs, Wires, Assigns, Gates, Cells}
use Rattle.bb_base.specs.Run.{Meets}
use Rattle.bb_drive.specs.Nets.{bit_text}
use Rattle.bb_fault.specs.Work.{Work}
use Rattle.bb_scope.specs.declared.cells.Body.{Body}
use Rattle.bb_scope.specs.declared.cells.Body.TheVariants as body
use Rattle.bb_scope.specs.Cells.{Kind, kind_of}
use Rattle.bb_scope.specs.Terminals.{out_count}
use Rattle.bb_meaning.specs.Values.{Bits, value, left_value}

-- v gives each bit of these variables, by its number, what bits gives it by its name in texts
abbrev pub AreBitsOf : List Entry → (ℕ → Bool) → Bits → Type 0
AreBitsOf variables v bits = (number : ℕ) → number < bit_count variables → v number ≡ bits (bit_text variables number)

-- equations and gates -----------------------------------------------------

-- the left side has the value of the right side
abbrev pub EquationHolds : (Name → Select → List Bool) → Equation → Type 0
EquationHolds read e = left_value read e.left ≡ value read e.right

abbrev pub rest_of : Exprs → List Expr
rest_of NoExprs = []
rest_of (MoreExprs e es) = e ∷ rest_of es

abbrev pub terminals : Terms → List Expr
terminals t = t.first ∷ rest_of t.more

-- each terminal that a gate drives has what its operator gives on the bits of those that it reads
abbrev pub TerminalsHold : (Name → Select → List Bool) → Op → List Expr → Type 0
TerminalsHold read op es =
    AllByRecursion (λ out. value read out ≡ op_gives op (flat_map (value read) (drop (out_count op (length es)) es)) ∷ []) (take (out_count op (length es)) es)

abbrev pub GateHolds : (Name → Select → List Bool) → Op → Gate → Type 0
GateHolds read op g = TerminalsHold read op (terminals g.terms)

-- cells --------------------------------------------------------------------

-- a pin's name, and what it is connected to unless it is open
abbrev pub PinRead : Type 0
PinRead = Name × Option Expr

-- terminals in order are connected to the pins by place
abbrev pub pins_in : Kind → Conns → List PinRead
pins_in kind (Places t) = zip kind.places (map (λ e. Some e) (terminals t))
pins_in kind NoPins = []
pins_in kind (Pins p ps) = map (λ q. (q.name, q.value)) (p ∷ ps)

-- the value of what the pin of this name is connected to
abbrev pub pin_value : (Name → Select → List Bool) → List PinRead → Name → List Bool
pin_value read [] name = []
pin_value read ((n, None) ∷ pins) name = pin_value read pins name
pin_value read ((n, Some e) ∷ pins) name = if bytes_eq name n then value read e else pin_value read pins name

-- the pin of this name is connected
abbrev pub is_connected : List PinRead → Name → Bool
is_connected [] name = false
is_connected ((n, None) ∷ pins) name = is_connected pins name
is_connected ((n, Some e) ∷ pins) name = bytes_eq name n || is_connected pins name

-- what a cell gives on the values of its inputs, in the table's order: of a flip-flop that of its data input
abbrev pub cell_gives : Body → List (List Bool) → List Bool
cell_gives body.FlipFlop (clock ∷ d ∷ more) = d
cell_gives body.FlipFlop few = []
cell_gives (body.Gate op) ins = op_gives op (flat_map (λ a. a) ins) ∷ []
cell_gives (body.SecondInverted op) (a ∷ b ∷ more) = op_gives op (a ++ map not b) ∷ []
cell_gives (body.SecondInverted op) few = []
cell_gives body.Choice (a ∷ b ∷ select ∷ more) = if first_bit select then b else a
cell_gives body.Choice few = []

-- how a cell's output is read: that of a flip-flop in the next cycle
abbrev pub out_read : Body → (Name → Select → List Bool) → (Name → Select → List Bool) → Name → Select → List Bool
out_read body.FlipFlop read next = next
out_read (body.Gate op) read next = read
out_read (body.SecondInverted op) read next = read
out_read body.Choice read next = read

-- where its output is connected, it has what the cell gives
abbrev pub PinsHold : (Name → Select → List Bool) → (Name → Select → List Bool) → Kind → List PinRead → Type 0
PinsHold read next kind pins = is_connected pins kind.out ≡ true → pin_value (out_read kind.body read next) pins kind.out ≡ cell_gives kind.body (map (pin_value read pins) kind.ins)

abbrev pub InstanceHolds : (Name → Select → List Bool) → (Name → Select → List Bool) → Name → Instance → Type 0
InstanceHolds read next cell i = (kind : Kind) → kind_of cell ≡ Some kind → PinsHold read next kind (pins_in kind i.conns)

-- statements -----------------------------------------------------------------

-- what a statement says, where read reads references in one cycle, and next in the cycle behind it
abbrev pub StatementHolds : (Name → Select → List Bool) → (Name → Select → List Bool) → Statement → Type 0
StatementHolds read next (Directs line typed x xs) = Unit {0}
StatementHolds read next (Wires line range x xs) = Unit {0}
StatementHolds read next (Assigns line e es) = AllByRecursion (EquationHolds read) (e ∷ es)
StatementHolds read next (Gates line keyword op g gs) = AllByRecursion (GateHolds read op) (g ∷ gs)
StatementHolds read next (Cells line cell i is) = AllByRecursion (InstanceHolds read next cell) (i ∷ is)

-- one cycle of what items make, and the next: each gate meets its equation, and each flip-flop takes the bit of its d
pub record IsWorkCycle (w : Work) (v next : ℕ → Bool) : Type 0 where
  pub gates : AllByRecursion (Meets v) w.gates
  pub flops : AllByRecursion (λ f. next f.q ≡ v f.d) w.flops
