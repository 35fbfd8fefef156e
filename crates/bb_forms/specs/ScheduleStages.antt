-- How a text of a plan is read line by line. No public contract cites this.
use Rattle.std.specs.Prelude.{ℕ, ◌==◌, ◌^◌, ◌≤◌, nat_lt, List, [], ◌∷◌, ◌++◌, length, codes, Option, Some, None, if◌then◌else◌}
use Rattle.std.specs.Str.{bytes_eq}
use Rattle.bb_terms.specs.declared.kind.Kind.{Kind}
use Rattle.bb_terms.specs.declared.kind.Kind.TheVariants.{Input, State, Split, Cut, Watch, Output}
use Rattle.bb_terms.specs.declared.plan.Cell.{Cell}
use Rattle.bb_terms.specs.Plan.{RegisterValue, PlanValue}
use Rattle.bb_spell.specs.Front.{◌>>=◌, begins_with, after_mark, at_end, word_of, after_word}
use Rattle.bb_forms.specs.declared.schedule_reader.ScheduleStage.{ScheduleStage}
use Rattle.bb_forms.specs.declared.schedule_reader.ScheduleStage.TheVariants.{Head, Width, Degree, Mask, Registers, Cells, Sessions, Cycles, End}
use Rattle.bb_forms.specs.Fields.{field_limit}
use Rattle.bb_forms.specs.Reading.{front_number, front_hex, marked_number, marked_hex, listed_items}
use Rattle.bb_forms.specs.ScheduleText.{test_cycles}

-- the kind that a word says
unfoldable pub worded_kind : List ℕ → Option Kind
worded_kind word = if bytes_eq word (codes "output") then Some Output else (if bytes_eq word (codes "input") then Some Input else (if bytes_eq word (codes "state") then Some State else (if bytes_eq word (codes "split") then Some Split else (if bytes_eq word (codes "watch") then Some Watch else (if bytes_eq word (codes "cut") then Some Cut else None)))))

-- the cell that a line says
unfoldable pub cell_of : List ℕ → Option Cell
cell_of line = do
  from ← after_mark (codes "cell ") line
  kind ← worded_kind (word_of from)
  net ← front_number field_limit (after_word from)
  column ← front_hex net.1
  at_end (record { kind = kind; net = net.0; column = column.0 }) [] column.1

-- the session that a line says
unfoldable pub session_of : List ℕ → Option (List ℕ)
session_of line = after_mark (codes "session") line >>= (λ from. listed_items (front_number field_limit) (length from) from)

abbrev pub with_session : PlanValue → List ℕ → PlanValue
with_session p session = record { width = p.width; degree = p.degree; mask = p.mask; registers = p.registers; sessions = p.sessions ++ session ∷ [] }

abbrev pub with_register : PlanValue → RegisterValue → PlanValue
with_register p register = record { width = p.width; degree = p.degree; mask = p.mask; registers = p.registers ++ register ∷ []; sessions = p.sessions }

abbrev pub with_cell : RegisterValue → Cell → RegisterValue
with_cell g c = record { mask = g.mask; cells = g.cells ++ c ∷ [] }

abbrev pub without_registers : ℕ → ℕ → ℕ → PlanValue
without_registers width degree mask = record { width = width; degree = degree; mask = mask; registers = []; sessions = [] }

abbrev pub if_few : PlanValue → Option ScheduleStage
if_few p = if nat_lt (test_cycles p) (2 ^ 64) then Some (Sessions p) else None

-- behind registers, or a session: another session comes, or the cycles of the test run
unfoldable pub behind_session : PlanValue → List ℕ → Option ScheduleStage
behind_session p line = if begins_with (codes "session") line then (session_of line >>= (λ session. if_few (with_session p session))) else (marked_number (codes "cycles") (2 ^ 64) line >>= (λ n. if n == test_cycles p then Some (Cycles p) else None))

-- behind a whole register: another one comes, or what may come behind registers
unfoldable pub behind_register : PlanValue → List ℕ → Option ScheduleStage
behind_register p line = if begins_with (codes "register") line then (marked_hex (codes "register") line >>= (λ mask. Some (Cells p (record { mask = mask; cells = [] })))) else behind_session p line

-- behind a register's first line, or a cell of it: another cell comes, or what may come behind the register
unfoldable pub behind_cell : PlanValue → RegisterValue → List ℕ → Option ScheduleStage
behind_cell p g line = if begins_with (codes "cell") line then (cell_of line >>= (λ c. Some (Cells p (with_cell g c)))) else behind_register (with_register p g) line

-- the stage behind a line
abbrev pub schedule_stage : ScheduleStage → List ℕ → Option ScheduleStage
schedule_stage Head line = if bytes_eq line (codes "bilbo-schedule 1") then Some Width else None
schedule_stage Width line = marked_number (codes "width") field_limit line >>= (λ n. Some (Degree n))
schedule_stage (Degree width) line = marked_number (codes "degree") 21 line >>= (λ n. if n == 0 then None else Some (Mask width n))
schedule_stage (Mask width degree) line = marked_hex (codes "mask") line >>= (λ n. Some (Registers (without_registers width degree n)))
schedule_stage (Registers p) line = behind_register p line
schedule_stage (Cells p g) line = behind_cell p g line
schedule_stage (Sessions p) line = behind_session p line
schedule_stage (Cycles p) line = if bytes_eq line (codes "end") then Some (End p) else None
schedule_stage (End p) line = None

-- the degree that was read is small enough to be shifted by
abbrev pub IsShort : ScheduleStage → Type 0
IsShort Head = Unit {0}
IsShort Width = Unit {0}
IsShort (Degree width) = Unit {0}
IsShort (Mask width degree) = degree ≤ 20
IsShort (Registers p) = p.degree ≤ 20
IsShort (Cells p g) = p.degree ≤ 20
IsShort (Sessions p) = p.degree ≤ 20
IsShort (Cycles p) = p.degree ≤ 20
IsShort (End p) = p.degree ≤ 20
