-- What a fault says.
use Rattle.bb_canon.specs.declared.draft.CanonFault.{CanonFault}
use Rattle.bb_canon.specs.declared.draft.CanonFault.TheVariants.{Line, Unfit, NoMemory}
use Rattle.bb_spell.specs.declared.scan.LineFault.{LineFault}
use Rattle.bb_spell.specs.declared.scan.LineFault.TheVariants as Scan

-- the fault names no line
abbrev pub NamesNoLine : CanonFault → Type 0
NamesNoLine (Line line) = ⊥
NamesNoLine Unfit = Unit {0}
NamesNoLine NoMemory = Unit {0}

-- memory ran out
abbrev pub IsMemory : LineFault → Type 0
IsMemory Scan.NotCanonical = ⊥
IsMemory Scan.NoMemory = Unit {0}

-- the reader ran out of memory
abbrev pub IsWant : CanonFault → Type 0
IsWant (Line line) = ⊥
IsWant Unfit = ⊥
IsWant NoMemory = Unit {0}
