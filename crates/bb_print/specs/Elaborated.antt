-- What a canonical text elaborates to, where names of one's own are allowed and where not.
use Rattle.std.specs.Prelude.{◌≡◌, ◌≤◌, ℕ, Bool, true, false, List, All, Result, Ok}
use Rattle.bb_base.specs.Named.{Named, design_of, IsByBits}
use Rattle.bb_fault.specs.declared.fault.ElabFault.{ElabFault}
use Rattle.bb_base.specs.OwnNames.{is_reserved}
use Rattle.bb_base.specs.Variables.{bit_count, limit_of}
use Rattle.bb_base.specs.Order.{HasOrder}
use Rattle.bb_meaning.specs.Denotes.{ElaboratesTo}

-- names of one's own are allowed, or neither the module nor a variable has one
abbrev pub HasNamesFor : Bool → Named → Type 0
HasNamesFor true n = Unit {0}
HasNamesFor false n = (is_reserved n.module_name ≡ false) × All (λ v. is_reserved v.0 ≡ false) n.variables

-- the netlist has the names and no more bits than a text may have, and no loop
pub record IsElaborable (own : Bool) (n : Named) : Type 0 where
  pub names : HasNamesFor own n
  pub bits : bit_count n.variables ≤ limit_of own
  pub order : HasOrder n.netlist.gates

-- The text elaborates to a netlist of the same design, and to nothing else. It is the netlist itself where its nets are numbered by
-- variables and bits.
pub record Restores (own : Bool) (text : List ℕ) (n : Named) : Type 0 where
  pub read : Named
  pub elaborates : ElaboratesTo own text (Ok read)
  pub only : (result : Result Named ElabFault) → ElaboratesTo own text result → result ≡ Ok read
  pub design : design_of read ≡ design_of n
  pub same : IsByBits n → read ≡ n
