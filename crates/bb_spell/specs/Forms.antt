-- The forms of lines, whatever they name: what each kind of line of a canonical text spells, and which may follow which.
use Rattle.std.specs.Prelude.{◌≡◌, min, ℕ, ◌+◌, List, [], codes, Some, ◌⊎◌}
use Rattle.std.specs.List.{AllByRecursion}
use Rattle.bb_base.specs.declared.operator.Op.{Op}
use Rattle.bb_base.specs.declared.operator.Op.TheVariants.{And, Nand, Or, Nor, Xor, Xnor, Not, Buf, Zero, One}
use Rattle.bb_base.specs.Name.{IsName}
use Rattle.bb_base.specs.Net.{Gate, Flop}
use Rattle.bb_base.specs.Variables.{Entry, Bit, IsEntry}
use Rattle.bb_spell.specs.TextLines.{IsLedTo, IsBadBehind}
use Rattle.bb_spell.specs.Spelling.{module_line, declaration, gate_line, flop_line}
use Rattle.bb_spell.specs.declared.places.Stage.{Stage}
use Rattle.bb_spell.specs.declared.places.Stage.TheVariants.{Head, Declarations, Gates, Flops, End}
use Rattle.bb_spell.specs.Writable.{IsBitText, IsFlopText}

-- how many bits are joined to a gate besides its output: none to a constant, and any number else
abbrev pub MayRead : Op → List Bit → Type 0
MayRead And ins = Unit {0}
MayRead Nand ins = Unit {0}
MayRead Or ins = Unit {0}
MayRead Nor ins = Unit {0}
MayRead Xor ins = Unit {0}
MayRead Xnor ins = Unit {0}
MayRead Not ins = Unit {0}
MayRead Buf ins = Unit {0}
MayRead Zero ins = ins ≡ []
MayRead One ins = ins ≡ []

-- a gate that can be written
pub record IsGateForm (g : Gate Bit) : Type 0 where
  pub out : IsBitText g.out
  pub ins : AllByRecursion IsBitText g.ins
  pub reads : MayRead g.op g.ins

-- the line is a first line, of any name and ports
abbrev pub IsHeadLine : List ℕ → Type 0
IsHeadLine line = (name : List ℕ) × (ports : List (List ℕ)) × IsName name × AllByRecursion IsName ports × (line ≡ module_line name ports)

-- the declaration of any variable
abbrev pub IsDeclarationLine : List ℕ → Type 0
IsDeclarationLine line = (v : Entry) × IsEntry v × (line ≡ declaration v)

-- the statement of any gate
abbrev pub IsGateLine : List ℕ → Type 0
IsGateLine line = (g : Gate Bit) × IsGateForm g × (line ≡ gate_line g)

-- the instance of any flip-flop of this number
abbrev pub IsFlopLine : ℕ → List ℕ → Type 0
IsFlopLine count line = (clock : Bit) × (f : Flop Bit) × IsBitText clock × IsFlopText f × (line ≡ flop_line (Some clock) count f)

-- from so many flip-flops a line leads to another one, or to the end
abbrev pub LeadsFromFlops : ℕ → List ℕ → Stage → Type 0
LeadsFromFlops count line to = ((to ≡ Flops (count + 1)) × IsFlopLine count line) ⊎ ((to ≡ End) × (line ≡ codes "endmodule"))

-- from gates to another one, or to where the first flip-flop leads, or to the end
abbrev pub LeadsFromGates : List ℕ → Stage → Type 0
LeadsFromGates line to = ((to ≡ Gates) × IsGateLine line) ⊎ LeadsFromFlops 0 line to

-- a line leads from one stage of a text to another
abbrev pub Leads : Stage → List ℕ → Stage → Type 0
Leads Head line to = (to ≡ Declarations) × IsHeadLine line
Leads Declarations line to = ((to ≡ Declarations) × IsDeclarationLine line) ⊎ LeadsFromGates line to
Leads Gates line to = LeadsFromGates line to
Leads (Flops count) line to = LeadsFromFlops count line to
Leads End line to = ⊥

-- the lines of the text lead from its beginning to its end
abbrev pub IsAllRight : List ℕ → Type 0
IsAllRight text = IsLedTo Leads Head End text

-- the line of this number is the first that may not stand in its place, or that is missing
abbrev pub IsFirstBadLine : ℕ → List ℕ → Type 0
IsFirstBadLine number text = IsBadBehind Leads End Head 0 number text

-- its number as it is told: at most the greatest that fits
abbrev pub IsBadLine : ℕ → List ℕ → Type 0
IsBadLine line text = (number : ℕ) × IsFirstBadLine number text × (line ≡ min 4294967295 number)
