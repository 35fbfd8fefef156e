-- What a module denotes: a named netlist, or its first fault.
use Rattle.std.specs.Prelude.{◌≡◌, ◌⊎◌, ℕ, ◌^◌, ◌-◌, min, Bool, List, [], ◌∷◌, length, Option, Some, None, slice_get, Result, Ok, Err}
use Rattle.std.specs.Option.{option_or}
use Rattle.bb_base.specs.Variables.{Entry}
use Rattle.bb_base.specs.Named.{Named}
use Rattle.bb_base.specs.Order.{IsLoop, HasOrder}
use Rattle.bb_parse.specs.declared.syntax.Module.{Module}
use Rattle.bb_fault.specs.declared.fault.ElabFault.{ElabFault}
use Rattle.bb_fault.specs.declared.fault.ElabFault.TheVariants.{Loop}
use Rattle.bb_fault.specs.Firsts.{on_some}
use Rattle.bb_scope.specs.Variables.{variables}
use Rattle.bb_fault.specs.Limits.{too_many}
use Rattle.bb_scope.specs.Cells.{unknown_cell}
use Rattle.bb_scope.specs.Parts.{bad_part}
use Rattle.bb_scope.specs.Text.{name_fault}
use Rattle.bb_fault.specs.Work.{Work}
use Rattle.bb_scope.specs.Making.{work_of}
use Rattle.bb_drive.specs.Nets.{all_variables, bit_text, driver_fault}
use Rattle.bb_drive.specs.Clock.{clock_fault}
use Rattle.bb_drive.specs.NamedOf.{kept, named_of}

-- what a module's items make
abbrev pub work_in : Module → Work
work_in m = work_of (variables m) m.items

-- its variables, and then those of made nets
abbrev pub variables_in : Module → List Entry
variables_in m = all_variables (variables m) (work_in m)

-- the first fault of drivers and clocks
abbrev pub net_fault : List Entry → Work → Option ElabFault
net_fault vars w = option_or (driver_fault vars w) (clock_fault vars w)

-- the fault of the bits of the variables and the nets that the items make, where these are more than the limit
abbrev pub too_many_made : Bool → Module → Option ElabFault
too_many_made own m = too_many own (work_in m).fresh

-- a module's first fault but a loop: of names and declarations, of cells, of pins, selects and widths, of the number of bits and nets, and of drivers and clocks
abbrev pub first_fault : Bool → Module → Option ElabFault
first_fault own m = option_or (name_fault own m) (option_or (unknown_cell m) (option_or (bad_part m) (option_or (too_many_made own m) (net_fault (variables_in m) (work_in m)))))

-- what a module without such a fault denotes
abbrev pub denoted : Module → Named
denoted m = named_of m.name (variables_in m) (work_in m)

-- the fault of a loop, by its first net's bit and its length
abbrev pub loop_fault : List Entry → Work → List ℕ → Option ElabFault
loop_fault vars w [] = None
loop_fault vars w (net ∷ more) =
    on_some (slice_get (kept vars w) net) None (λ b. Some (Loop (bit_text vars b).name (bit_text vars b).index (min (2 ^ 32 - 1) (length (net ∷ more)))))

-- the fault is that of the netlist's loop
pub record IsLooped (m : Module) (fault : ElabFault) : Type 0 where
  pub nets : List ℕ
  pub is_loop : IsLoop (denoted m).netlist.gates nets
  pub fault_is : loop_fault (variables_in m) (work_in m) nets ≡ Some fault

-- what elaboration of a module gives: the netlist that it denotes, or its first fault. A netlist with a loop is one but for its order.
abbrev pub IsOutcome : Bool → Module → Result Named ElabFault → Type 0
IsOutcome own m (Ok named) = (first_fault own m ≡ None) × (named ≡ denoted m) × HasOrder named.netlist.gates
IsOutcome own m (Err fault) = (first_fault own m ≡ Some fault) ⊎ ((first_fault own m ≡ None) × IsLooped m fault)
