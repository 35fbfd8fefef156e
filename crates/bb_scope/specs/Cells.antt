-- The table of cells, and the pins that an instance must give.
use Rattle.std.specs.Prelude.{ℕ, Bool, true, false, not, ◌&&◌, ◌||◌, ◌==◌, List, [], ◌∷◌, map, length, zip, codes, nat_lt, Option, Some, None, if◌then◌else◌, is_some}
use Rattle.std.specs.List.{list_any, list_all}
use Rattle.std.specs.Map.{lookup}
use Rattle.std.specs.Str.{bytes_eq}
use Rattle.bb_base.specs.declared.operator.Op.{Op}
use Rattle.bb_base.specs.declared.operator.Op.TheVariants as op
use Rattle.bb_parse.specs.declared.syntax.Module.{Module}
use Rattle.bb_parse.specs.declared.syntax.Item.{Item}
use Rattle.bb_parse.specs.declared.syntax.Item.TheVariants as item
use Rattle.bb_parse.specs.declared.syntax.Conns.{Conns}
use Rattle.bb_parse.specs.declared.syntax.Conns.TheVariants.{Places, Pins}
use Rattle.bb_parse.specs.declared.syntax.Step.{Step}
use Rattle.bb_parse.specs.declared.syntax.Step.TheVariants as step
use Rattle.bb_scope.specs.declared.cells.Body.{Body}
use Rattle.bb_scope.specs.declared.cells.Body.TheVariants.{FlipFlop, Gate, SecondInverted, Choice}
use Rattle.bb_fault.specs.declared.fault.ElabFault.{ElabFault}
use Rattle.bb_fault.specs.declared.fault.ElabFault.TheVariants.{UnknownCell}
use Rattle.bb_fault.specs.Firsts.{first_answer, first_behind}
use Rattle.bb_scope.specs.Names.{has_name}

-- a kind of cell
pub record Kind : Type 0 where
  -- the pins that it reads, in the order in which its body takes them
  pub ins : List (List ℕ)
  -- the pin that it drives
  pub out : List ℕ
  pub body : Body
  -- the pins by place, where they may be given so
  pub places : List (List ℕ)

abbrev pub one_input : Op → Kind
one_input o = record { ins = codes "A" ∷ []; out = codes "Y"; body = Gate o; places = [] }

abbrev pub two_inputs : Body → Kind
two_inputs body = record { ins = codes "A" ∷ codes "B" ∷ []; out = codes "Y"; body = body; places = [] }

-- the table: the flip-flop of this project's own, and cells under the names that Yosys gives its internal gates
abbrev pub kinds : List (List ℕ × Kind)
kinds =
    (codes "dff", record { ins = codes "CK" ∷ codes "D" ∷ []; out = codes "Q"; body = FlipFlop; places = codes "CK" ∷ codes "Q" ∷ codes "D" ∷ [] })
    ∷ (codes "$_DFF_P_", record { ins = codes "C" ∷ codes "D" ∷ []; out = codes "Q"; body = FlipFlop; places = [] })
    ∷ (codes "$_NOT_", one_input op.Not)
    ∷ (codes "$_BUF_", one_input op.Buf)
    ∷ (codes "$_AND_", two_inputs (Gate op.And))
    ∷ (codes "$_OR_", two_inputs (Gate op.Or))
    ∷ (codes "$_NAND_", two_inputs (Gate op.Nand))
    ∷ (codes "$_NOR_", two_inputs (Gate op.Nor))
    ∷ (codes "$_XOR_", two_inputs (Gate op.Xor))
    ∷ (codes "$_XNOR_", two_inputs (Gate op.Xnor))
    ∷ (codes "$_ANDNOT_", two_inputs (SecondInverted op.And))
    ∷ (codes "$_ORNOT_", two_inputs (SecondInverted op.Or))
    ∷ (codes "$_MUX_", record { ins = codes "A" ∷ codes "B" ∷ codes "S" ∷ []; out = codes "Y"; body = Choice; places = [] })
    ∷ []

abbrev pub kind_of : List ℕ → Option Kind
kind_of name = lookup (bytes_eq name) kinds

abbrev pub unknown_item : Item → Option ElabFault
unknown_item (item.Decl decl) = None
unknown_item (item.Assign line left right) = None
unknown_item (item.Prim line o terms) = None
unknown_item (item.Cell line cell conns) = if is_some (kind_of cell) then None else Some (UnknownCell cell None)

-- the fault of a cell that the table lacks
abbrev pub unknown_cell : Module → Option ElabFault
unknown_cell m = first_answer unknown_item m.items

-- a pin of an instance: its name, and what it is connected to unless it is open
abbrev pub Pin : Type 0
Pin = List ℕ × Option (List Step)

-- an expression that is one reference
abbrev pub is_plain : List Step → Bool
is_plain [] = false
is_plain (step.Ref ref ∷ []) = true
is_plain (step.Ref ref ∷ next ∷ more) = false
is_plain (other ∷ more) = false

abbrev pub is_open_or_plain : Option (List Step) → Bool
is_open_or_plain None = true
is_open_or_plain (Some steps) = is_plain steps

-- terminals in order, as pins by name
abbrev pub by_place : Kind → List (List Step) → List Pin
by_place kind terms = zip kind.places (map (λ e. Some e) terms)

abbrev pub pins_of : Kind → Conns → List Pin
pins_of kind (Pins pins) = pins
pins_of kind (Places terms) = by_place kind terms

abbrev pub is_out : Kind → Pin → Bool
is_out kind p = bytes_eq kind.out p.0

-- the kind has the pin
abbrev pub is_known : Kind → Pin → Bool
is_known kind p = is_out kind p || has_name kind.ins p.0

-- a pin of the same name stands before
abbrev pub is_repeated : List Pin → Pin → Bool
is_repeated before p = list_any (λ q. bytes_eq p.0 q.0) before

-- the input is neither absent nor open
abbrev pub is_given : List Pin → List ℕ → Bool
is_given pins name = list_any (λ p. bytes_eq name p.0 && is_some p.1) pins

-- an output is open or a plain reference
abbrev pub is_right_out : Kind → Pin → Bool
is_right_out kind p = not (is_out kind p) || is_open_or_plain p.1

-- pins by name as the kind wants them
abbrev pub are_right_pins : Kind → List Pin → Bool
are_right_pins kind pins =
    list_all (is_known kind) pins && (not (is_some (first_behind is_repeated [] pins)) && (list_all (is_given pins) kind.ins && list_all (is_right_out kind) pins))

-- terminals as the kind wants them, where it may have any
abbrev pub are_right_places : Kind → List (List Step) → Bool
are_right_places kind terms = nat_lt 0 (length terms) && ((length terms == length kind.places) && list_all (is_right_out kind) (by_place kind terms))

-- what an instance is connected to is as the kind wants it
abbrev pub are_right : Kind → Conns → Bool
are_right kind (Pins pins) = are_right_pins kind pins
are_right kind (Places terms) = are_right_places kind terms
