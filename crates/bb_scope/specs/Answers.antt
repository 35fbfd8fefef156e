-- What a call that looks for a fault may answer. Want of memory can come of any call, and says nothing of the fault.
use Rattle.std.specs.Prelude.{◌≡◌, ◌≢◌, Option, Some, None, Result, Ok, Err}
use Rattle.bb_fault.specs.declared.fault.ElabFault.{ElabFault}
use Rattle.bb_fault.specs.declared.fault.ElabFault.TheVariants.{NoMemory}

-- the fault, or some value where there is none
abbrev pub IsAnswer : {A : Type 0} → Option ElabFault → Result A ElabFault → Type 0
IsAnswer fault (Ok value) = fault ≡ None
IsAnswer fault (Err e) = e ≢ NoMemory → fault ≡ Some e

-- the fault, or this value where there is none
abbrev pub IsAnswerWith : {A : Type 0} → Option ElabFault → A → Result A ElabFault → Type 0
IsAnswerWith fault value (Ok a) = (fault ≡ None) × (a ≡ value)
IsAnswerWith fault value (Err e) = e ≢ NoMemory → fault ≡ Some e
