-- Which faults each call of a builder may answer.
use Rattle.bb_base.specs.declared.fault.NetFault.{NetFault}
use Rattle.bb_base.specs.declared.fault.NetFault.TheVariants.{Redeclared, TwoDrivers, Undriven, BadArity, TooMany, NoMemory}

-- the faults of a call that adds a gate
abbrev pub IsGateFault : NetFault → Type 0
IsGateFault (Redeclared v) = ⊥
IsGateFault (TwoDrivers net) = ⊥
IsGateFault (Undriven net) = ⊥
IsGateFault (BadArity gate) = Unit {0}
IsGateFault (TooMany count limit) = ⊥
IsGateFault NoMemory = Unit {0}

-- of one that adds a variable
abbrev pub IsVariableFault : NetFault → Type 0
IsVariableFault (Redeclared v) = Unit {0}
IsVariableFault (TwoDrivers net) = ⊥
IsVariableFault (Undriven net) = ⊥
IsVariableFault (BadArity gate) = ⊥
IsVariableFault (TooMany count limit) = Unit {0}
IsVariableFault NoMemory = Unit {0}

-- of one that adds a net
abbrev pub IsNetCallFault : NetFault → Type 0
IsNetCallFault (Redeclared v) = ⊥
IsNetCallFault (TwoDrivers net) = ⊥
IsNetCallFault (Undriven net) = ⊥
IsNetCallFault (BadArity gate) = ⊥
IsNetCallFault (TooMany count limit) = Unit {0}
IsNetCallFault NoMemory = Unit {0}

-- and of the last call
abbrev pub IsFinishFault : NetFault → Type 0
IsFinishFault (Redeclared v) = ⊥
IsFinishFault (TwoDrivers net) = Unit {0}
IsFinishFault (Undriven net) = Unit {0}
IsFinishFault (BadArity gate) = ⊥
IsFinishFault (TooMany count limit) = ⊥
IsFinishFault NoMemory = Unit {0}

-- and of a look at the drivers, which takes no memory
abbrev pub IsDriverFault : NetFault → Type 0
IsDriverFault (Redeclared v) = ⊥
IsDriverFault (TwoDrivers net) = Unit {0}
IsDriverFault (Undriven net) = Unit {0}
IsDriverFault (BadArity gate) = ⊥
IsDriverFault (TooMany count limit) = ⊥
IsDriverFault NoMemory = ⊥
