-- The fault of a loop, by the names of a named netlist.
-- (No outcome rests on these: they serve contracts of inner calls and proofs.)
use Rattle.std.specs.Prelude.{◌≡◌, ℕ, ◌^◌, ◌-◌, min, List, [], ◌∷◌, length, Option, Some, None}
use Rattle.bb_base.specs.Variables.{Bit}
use Rattle.bb_base.specs.Named.{Named, net_text}
use Rattle.bb_base.specs.Order.{IsLoop}
use Rattle.bb_fault.specs.declared.fault.ElabFault.{ElabFault}
use Rattle.bb_fault.specs.declared.fault.ElabFault.TheVariants.{Loop}

-- the fault of a loop of so many nets, where this is how texts name its first net
abbrev pub loop_at : Bit → ℕ → ElabFault
loop_at bit count = Loop bit.name bit.index (min (2 ^ 32 - 1) count)

-- the fault of a loop by its first net
abbrev pub loop_in : Named → List ℕ → Option ElabFault
loop_in n [] = None
loop_in n (net ∷ more) = Some (loop_at (net_text n net) (length (net ∷ more)))

-- the fault is that of a loop of the netlist
pub record IsLoopIn (n : Named) (fault : ElabFault) : Type 0 where
  pub nets : List ℕ
  pub is_loop : IsLoop n.netlist.gates nets
  pub fault_is : loop_in n nets ≡ Some fault
