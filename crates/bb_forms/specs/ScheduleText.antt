-- The text of a plan, which is the schedule of its test run. It is this project's own.
use Rattle.std.specs.Prelude.{◌≡◌, ℕ, ◌+◌, ◌*◌, ◌^◌, ◌<◌, ◌≤◌, List, [], ◌∷◌, ◌++◌, map, length, codes}
use Rattle.std.specs.List.{AllByRecursion, flat_map}
use Rattle.bb_spell.specs.Canonical.{with_feed}
use Rattle.bb_terms.specs.declared.kind.Kind.{Kind}
use Rattle.bb_terms.specs.declared.kind.Kind.TheVariants.{Input, State, Split, Cut, Watch, Output}
use Rattle.bb_terms.specs.declared.plan.Cell.{Cell}
use Rattle.bb_terms.specs.Plan.{RegisterValue, PlanValue}
use Rattle.bb_forms.specs.Fields.{field_limit, number_word, hex_word}

-- a kind of cell in lower case
abbrev pub kind_word : Kind → List ℕ
kind_word Input = codes "input"
kind_word State = codes "state"
kind_word Split = codes "split"
kind_word Cut = codes "cut"
kind_word Watch = codes "watch"
kind_word Output = codes "output"

-- the line of a cell: its kind, its net and its column
abbrev pub cell_line : Cell → List ℕ
cell_line c = codes "cell " ++ (kind_word c.kind ++ (number_word c.net ++ hex_word c.column))

-- the line that begins a register, with its mask
abbrev pub register_head : ℕ → List ℕ
register_head mask = codes "register" ++ hex_word mask

abbrev pub register_lines : RegisterValue → List (List ℕ)
register_lines g = register_head g.mask ∷ map cell_line g.cells

-- the line of a session: the numbers of the registers that compact
abbrev pub session_line : List ℕ → List ℕ
session_line session = codes "session" ++ flat_map number_word session

abbrev pub width_line : ℕ → List ℕ
width_line width = codes "width" ++ number_word width

abbrev pub degree_line : ℕ → List ℕ
degree_line degree = codes "degree" ++ number_word degree

abbrev pub mask_line : ℕ → List ℕ
mask_line mask = codes "mask" ++ hex_word mask

-- the cycles of the whole test run: one that clears the control, and run and unload cycles for each session
abbrev pub test_cycles : PlanValue → ℕ
test_cycles p = 1 + 2 * length p.sessions * 2 ^ p.degree

abbrev pub cycles_line : ℕ → List ℕ
cycles_line cycles = codes "cycles" ++ number_word cycles

abbrev pub frame_lines : PlanValue → List (List ℕ)
frame_lines p = codes "bilbo-schedule 1" ∷ width_line p.width ∷ degree_line p.degree ∷ mask_line p.mask ∷ []

abbrev pub schedule_lines : PlanValue → List (List ℕ)
schedule_lines p = frame_lines p ++ (flat_map register_lines p.registers ++ (map session_line p.sessions ++ cycles_line (test_cycles p) ∷ codes "end" ∷ []))

-- the text of a plan
abbrev pub schedule_text : PlanValue → List ℕ
schedule_text p = flat_map with_feed (schedule_lines p)

pub record IsFormedCell (c : Cell) : Type 0 where
  pub net : c.net < field_limit
  pub column : c.column < field_limit

pub record IsFormedRegister (g : RegisterValue) : Type 0 where
  pub mask : g.mask < field_limit
  pub cells : AllByRecursion IsFormedCell g.cells

-- what the form can say: a degree from 1 to 20, cycles below 2^64, and other numbers below 2^32
pub record IsFormedPlan (p : PlanValue) : Type 0 where
  pub width : p.width < field_limit
  pub least : 1 ≤ p.degree
  pub most : p.degree ≤ 20
  pub mask : p.mask < field_limit
  pub registers : AllByRecursion IsFormedRegister p.registers
  pub sessions : AllByRecursion (AllByRecursion (λ r. r < field_limit)) p.sessions
  pub cycles : test_cycles p < 2 ^ 64

-- the lines are those of some plan
abbrev pub AreScheduleLines : List (List ℕ) → Type 0
AreScheduleLines lines = (p : PlanValue) × IsFormedPlan p × (lines ≡ schedule_lines p)
