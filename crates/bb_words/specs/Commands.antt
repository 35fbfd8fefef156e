-- Commands, and the names of the files that each reads and writes.
use Rattle.std.specs.Prelude.{ℕ, List, [], ◌∷◌, ◌++◌, codes, string_bytes, Contains}
use Rattle.bb_words.specs.declared.command.Settings.{Settings}
use Rattle.bb_words.specs.declared.command.Command.{Command}
use Rattle.bb_words.specs.declared.command.Command.TheVariants.{Compile as CompileCode, Check as CheckCode, Sample as SampleCode}

-- what a call asks for, with names as lists of bytes
pub data CommandValue : Type 0 where
  Compile : (input prefix : List ℕ) (settings : Settings) → CommandValue
  Check : (input prefix : List ℕ) → CommandValue
  Sample : (number : ℕ) (prefix : List ℕ) (settings : Settings) → CommandValue

-- the same of a command of the code
abbrev pub command_value : Command → CommandValue
command_value (CompileCode input prefix settings) = Compile (string_bytes input) (string_bytes prefix) settings
command_value (CheckCode input prefix) = Check (string_bytes input) (string_bytes prefix)
command_value (SampleCode number prefix settings) = Sample number (string_bytes prefix) settings

-- the four files of a prefix: the netlist with its test, the schedule, the signatures and the certificate
abbrev pub files_of : List ℕ → List (List ℕ)
files_of prefix = (prefix ++ codes ".v") ∷ (prefix ++ codes ".sched") ∷ (prefix ++ codes ".sig") ∷ (prefix ++ codes ".cert") ∷ []

-- the names that a command reads, in order
abbrev pub names_read : CommandValue → List (List ℕ)
names_read (Compile input prefix settings) = input ∷ []
names_read (Check input prefix) = input ∷ files_of prefix
names_read (Sample number prefix settings) = []

-- the names that it writes, in order
abbrev pub names_written : CommandValue → List (List ℕ)
names_written (Compile input prefix settings) = files_of prefix
names_written (Check input prefix) = []
names_written (Sample number prefix settings) = (prefix ++ codes ".in.v") ∷ files_of prefix

-- it writes a name that it reads
abbrev pub HasSameName : CommandValue → Type 0
HasSameName command = (name : List ℕ) × Contains (names_read command) name × Contains (names_written command) name
