-- What the text of a file comes to: the named netlist that it denotes, or why it denotes none (this project's own).
use Rattle.std.specs.Prelude.{ℕ, ◌<◌, ◌≤◌, Bool, false, List, length, Result, Ok, Err}
use Rattle.bb_base.specs.Named.{Named}
use Rattle.bb_grammar.specs.Texts.{HasLexFault, HasParseFault}
use Rattle.bb_meaning.specs.Denotes.{ElaboratesTo}
use Rattle.bb_read.specs.declared.refusal.TextRefusal.{TextRefusal}
use Rattle.bb_read.specs.declared.refusal.TextRefusal.TheVariants.{TooLong, Lex, Parse, Elab}

-- the most bytes of the input
abbrev pub file_limit : ℕ
file_limit = 67108864

-- the most bytes that are read of each file of a self-test
abbrev pub output_limit : ℕ
output_limit = 1099511627776

-- the text denotes this named netlist, with no names of this project's own but those of made wires
abbrev pub IsReadable : Named → List ℕ → Type 0
IsReadable a text = ElaboratesTo false text (Ok a)

-- The text denotes no netlist: it has more bytes than the limit, or else this is its first flaw, or else its module has this fault. `own`
-- allows names of this project's own, and the larger limit on bits.
abbrev pub IsTextRefused : (own : Bool) (limit : ℕ) → TextRefusal → List ℕ → Type 0
IsTextRefused own limit TooLong text = limit < length text
IsTextRefused own limit (Lex fault) text = (length text ≤ limit) × HasLexFault text fault
IsTextRefused own limit (Parse fault) text = (length text ≤ limit) × HasParseFault text fault
IsTextRefused own limit (Elab fault) text = (length text ≤ limit) × ElaboratesTo own text (Err fault)

-- what a text comes to: the named netlist that it denotes, or its refusal
abbrev pub ComesTo : (own : Bool) (limit : ℕ) → List ℕ → Result Named TextRefusal → Type 0
ComesTo own limit text (Ok named) = (length text ≤ limit) × ElaboratesTo own text (Ok named)
ComesTo own limit text (Err refusal) = IsTextRefused own limit refusal text
