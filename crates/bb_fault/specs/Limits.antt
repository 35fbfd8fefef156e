-- How many bits a text may have.
use Rattle.std.specs.Prelude.{ℕ, ◌^◌, ◌-◌, min, nat_lt, Bool, Option, Some, None, if◌then◌else◌}
use Rattle.bb_base.specs.Variables.{limit_of}
use Rattle.bb_fault.specs.declared.fault.ElabFault.{ElabFault}
use Rattle.bb_fault.specs.declared.fault.ElabFault.TheVariants.{TooMany}

-- a count as a fault says it
abbrev pub told_count : ℕ → ℕ
told_count count = min (2 ^ 64 - 1) count

-- the fault of so many bits
abbrev pub too_many : Bool → ℕ → Option ElabFault
too_many own count = if nat_lt (limit_of own) count then Some (TooMany (told_count count) (limit_of own)) else None
