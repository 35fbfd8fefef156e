-- A builder's fault that is no refusal is want of memory, call by call.
use Rattle.std.proofs.Common.{◌≡◌, ℕ, refl}
use Rattle.bb_base.specs.Faults.{IsGateFault, IsVariableFault, IsNetCallFault, IsFinishFault}
use Rattle.bb_base.specs.declared.fault.NetFault.{NetFault}
use Rattle.bb_base.specs.declared.fault.NetFault.TheVariants.{Redeclared, TwoDrivers, Undriven, BadArity, TooMany, NoMemory}

-- no arity is wrong
pub gate_memory : (fault : NetFault) → IsGateFault fault → ((gate : ℕ) → fault ≡ BadArity gate → ⊥) → fault ≡ NoMemory
gate_memory (Redeclared v) h arity = absurd h
gate_memory (TwoDrivers net) h arity = absurd h
gate_memory (Undriven net) h arity = absurd h
gate_memory (BadArity gate) h arity = absurd (arity gate refl)
gate_memory (TooMany count limit) h arity = absurd h
gate_memory NoMemory h arity = refl

-- no name stands twice, and there is room
pub variable_memory : (fault : NetFault) → IsVariableFault fault → ((v : ℕ) → fault ≡ Redeclared v → ⊥) → ((count limit : ℕ) → fault ≡ TooMany count limit → ⊥) → fault ≡ NoMemory
variable_memory (Redeclared v) h twice many = absurd (twice v refl)
variable_memory (TwoDrivers net) h twice many = absurd h
variable_memory (Undriven net) h twice many = absurd h
variable_memory (BadArity gate) h twice many = absurd h
variable_memory (TooMany count limit) h twice many = absurd (many count limit refl)
variable_memory NoMemory h twice many = refl

-- there is room
pub net_memory : (fault : NetFault) → IsNetCallFault fault → ((count limit : ℕ) → fault ≡ TooMany count limit → ⊥) → fault ≡ NoMemory
net_memory (Redeclared v) h many = absurd h
net_memory (TwoDrivers net) h many = absurd h
net_memory (Undriven net) h many = absurd h
net_memory (BadArity gate) h many = absurd h
net_memory (TooMany count limit) h many = absurd (many count limit refl)
net_memory NoMemory h many = refl

-- no net has two drivers, and none is without one
pub finish_memory : (fault : NetFault) → IsFinishFault fault → ((net : ℕ) → fault ≡ TwoDrivers net → ⊥) → ((net : ℕ) → fault ≡ Undriven net → ⊥) → fault ≡ NoMemory
finish_memory (Redeclared v) h two none = absurd h
finish_memory (TwoDrivers net) h two none = absurd (two net refl)
finish_memory (Undriven net) h two none = absurd (none net refl)
finish_memory (BadArity gate) h two none = absurd h
finish_memory (TooMany count limit) h two none = absurd h
finish_memory NoMemory h two none = refl
