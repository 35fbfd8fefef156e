-- The lines of refusals. Their words are this project's own.
use Rattle.std.specs.Prelude.{ℕ, List, [], ◌∷◌, ◌++◌, codes, decimal, Option, if◌then◌else◌}
use Rattle.bb_fault.specs.declared.fault.ElabFault.{ElabFault}
use Rattle.bb_fault.specs.declared.fault.ElabFault.TheVariants.{Reserved, Redeclared, BadPort, TooMany, UnknownCell, BadPins, BadSelect, WidthDiffers, TooWide, TwoDrivers, Undriven, ClockNotInput, TwoClocks, ClockAsData, Loop, NoMemory}
use Rattle.bb_spell.specs.Spelling.{stands_plain, spelled_index}
use Rattle.bb_base.specs.declared.lex_fault.LexFault.{LexFault}
use Rattle.bb_base.specs.declared.lex_fault.LexFault.TheVariants as lexical
use Rattle.bb_parse.specs.declared.fault.ParseFault.{ParseFault}
use Rattle.bb_parse.specs.declared.fault.ParseFault.TheVariants as grammar
use Rattle.bb_read.specs.declared.refusal.TextRefusal.{TextRefusal}
use Rattle.bb_read.specs.declared.refusal.TextRefusal.TheVariants as texts
use Rattle.bb_read.specs.declared.refusal.PlanRefusal.{PlanRefusal}
use Rattle.bb_read.specs.declared.refusal.PlanRefusal.TheVariants as plans
use Rattle.bb_read.specs.declared.refusal.FormRefusal.{FormRefusal}
use Rattle.bb_read.specs.declared.refusal.FormRefusal.TheVariants as forms
use Rattle.bb_read.specs.declared.refusal.Refusal.{Refusal}
use Rattle.bb_read.specs.declared.refusal.Refusal.TheVariants.{Input, Plan, Netlist, Schedule, Signatures, Certificate, Check}

-- a name in a line: as texts spell it, but with no space behind an escaped one
unfoldable pub said_name : List ℕ → List ℕ
said_name name = if stands_plain name then name else 92 ∷ name

-- a name, and the index of a vector's bit
abbrev pub said : List ℕ → Option ℕ → List ℕ
said name select = said_name name ++ spelled_index select

-- words behind the line that they speak of
abbrev pub at_line : ℕ → List ℕ → List ℕ
at_line line words = codes "line " ++ (decimal line ++ (codes " " ++ words))

-- the words of a fault of elaboration
abbrev pub elab_words : ElabFault → List ℕ
elab_words (Reserved name select) = codes "reserved " ++ said name select
elab_words (Redeclared name select) = codes "redeclared " ++ said name select
elab_words (BadPort name select) = codes "bad port " ++ said name select
elab_words (TooMany count limit) = codes "too many bits " ++ (decimal count ++ (codes " over " ++ decimal limit))
elab_words (UnknownCell name select) = codes "unknown cell " ++ said name select
elab_words (BadPins line) = at_line line (codes "bad pins")
elab_words (BadSelect line) = at_line line (codes "bad select")
elab_words (WidthDiffers line) = at_line line (codes "width differs")
elab_words (TooWide line) = at_line line (codes "too wide")
elab_words (TwoDrivers name select) = codes "two drivers " ++ said name select
elab_words (Undriven name select) = codes "undriven " ++ said name select
elab_words (ClockNotInput name select) = codes "clock not input " ++ said name select
elab_words (TwoClocks first second) = codes "two clocks " ++ (said first.0 first.1 ++ (codes " and " ++ said second.0 second.1))
elab_words (ClockAsData name select) = codes "clock as data " ++ said name select
elab_words (Loop name select count) = codes "loop through " ++ (said name select ++ (codes ", " ++ (decimal count ++ codes " nets")))
elab_words NoMemory = []

-- the words of a lexical fault
abbrev pub lex_words : LexFault → List ℕ
lex_words (lexical.BadByte line) = at_line line (codes "bad byte")
lex_words (lexical.BadNumber line) = at_line line (codes "bad number")
lex_words (lexical.LongName line) = at_line line (codes "long name")
lex_words (lexical.OpenComment line) = at_line line (codes "open comment")
lex_words lexical.NoMemory = []

-- the words of a fault of the grammar
abbrev pub parse_words : ParseFault → List ℕ
parse_words (grammar.Unreadable line) = at_line line (codes "unreadable")
parse_words grammar.NoMemory = []

-- the words of a text that denotes no netlist
abbrev pub text_words : TextRefusal → List ℕ
text_words texts.TooLong = codes "too long"
text_words (texts.Lex fault) = lex_words fault
text_words (texts.Parse fault) = parse_words fault
text_words (texts.Elab fault) = elab_words fault

-- the words of a netlist for which there is no plan
abbrev pub plan_words : PlanRefusal → List ℕ
plan_words (plans.GateTooWide name select inputs width) = codes "gate " ++ (said name select ++ (codes " has " ++ (decimal inputs ++ (codes " inputs over " ++ decimal width))))
plan_words (plans.TooFewStates max cells) = codes "degree limit " ++ (decimal max ++ (codes " for " ++ (decimal cells ++ codes " cells")))
plan_words (plans.NoColumn max name select) = codes "degree limit " ++ (decimal max ++ (codes " at source " ++ said name select))
plan_words (plans.TooManyCycles limit needed) = codes "cycle limit " ++ (decimal limit ++ (codes ", needed " ++ decimal needed))
plan_words (plans.NoFullPeriod degree) = codes "no full period at degree " ++ decimal degree

-- the words of a file that isn't of its form
abbrev pub form_words : FormRefusal → List ℕ
form_words forms.TooLong = codes "too long"
form_words (forms.Line line) = codes "line " ++ decimal line

-- the words of a rule that isn't met, and of the place at which it first isn't
abbrev pub rule_words : ℕ → ℕ → List ℕ
rule_words rule place = codes "rule " ++ (decimal rule ++ (codes " at " ++ decimal place))

-- the words of a refusal
abbrev pub refusal_words : Refusal → List ℕ
refusal_words (Input refusal) = codes "input: " ++ text_words refusal
refusal_words (Plan refusal) = codes "plan: " ++ plan_words refusal
refusal_words (Netlist refusal) = codes "netlist: " ++ text_words refusal
refusal_words (Schedule refusal) = codes "schedule: " ++ form_words refusal
refusal_words (Signatures refusal) = codes "signatures: " ++ form_words refusal
refusal_words (Certificate refusal) = codes "certificate: " ++ form_words refusal
refusal_words (Check rule place) = codes "check: " ++ rule_words rule place

-- the line of a refusal
abbrev pub refusal_line : Refusal → List ℕ
refusal_line refusal = codes "refused " ++ (refusal_words refusal ++ codes "\n")
