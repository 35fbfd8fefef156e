-- What the calls of the parser have to do with the machine.
use Rattle.std.specs.Prelude.{◌≡◌, ℕ, List, Option, Some, None, Result, Ok, Err}
use Rattle.bb_base.specs.declared.token.TokenKind.{TokenKind}
use Rattle.bb_parse.specs.declared.draft.Draft.{Draft}
use Rattle.bb_parse.specs.declared.symbol.Symbol.{Symbol}
use Rattle.bb_parse.specs.declared.fault.ParseFault.{ParseFault}
use Rattle.bb_parse.specs.declared.fault.ParseFault.TheVariants as faults
use Rattle.bb_parse.specs.Machine.{Failed, Going, Parsing, passed_on, after_move, read_by}

-- what a call answers of where it stands
abbrev pub answer_of : Parsing → Result (Unit {0}) ParseFault
answer_of (Going pending draft) = Ok tt
answer_of (Failed fault) = Err fault

-- the state of the code, with the fault that it answers
abbrev pub state_of : Option ParseFault → List Symbol → Draft → Parsing
state_of None pending draft = Going pending draft
state_of (Some fault) pending draft = Failed fault

-- the parser stands where the machine does, unless memory ran out
abbrev pub Follows : Result (Unit {0}) ParseFault → Parsing → Parsing → Type 0
Follows (Ok done) p now = now ≡ p
Follows (Err (faults.Unreadable line)) p now = now ≡ p
Follows (Err faults.NoMemory) p now = now ≡ Failed faults.NoMemory

-- a call of the reader: it stands where the machine does, or answers its fault, unless memory ran out
abbrev pub MovesTo : Result (Unit {0}) ParseFault → Parsing → List Symbol → Draft → Type 0
MovesTo (Ok done) p pending draft = p ≡ Going pending draft
MovesTo (Err (faults.Unreadable line)) p pending draft = p ≡ Failed (faults.Unreadable line)
MovesTo (Err faults.NoMemory) p pending draft = Unit {0}

-- the first symbol that takes the token, with what is pending behind it then
abbrev pub Finds : Result (Option Symbol) ParseFault → List Symbol → Draft → TokenKind → List Symbol → Draft → Type 0
Finds (Ok None) pending draft kind after now = (line : ℕ) → passed_on pending draft kind line ≡ Failed (faults.Unreadable line)
Finds (Ok (Some s)) pending draft kind after now = (line : ℕ) → passed_on pending draft kind line ≡ after_move (read_by s kind line now) after line
Finds (Err (faults.Unreadable line)) pending draft kind after now = ⊥
Finds (Err faults.NoMemory) pending draft kind after now = Unit {0}
