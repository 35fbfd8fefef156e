-- The rules of a plan, in their order: what must hold, and the place at which a rule first fails (this project's own).
use Rattle.std.specs.Prelude.{◌≡◌, ◌⊎◌, ℕ, suc, ◌<◌, ◌≤◌, ◌^◌, Bool, true, false, ◌&&◌, ◌||◌, List, length, map, take, Some, slice_get, Contains}
use Rattle.std.specs.List.{AllByRecursion, list_all, flat_map, range_with_len}
use Rattle.std.specs.List.Sorted.{IsStrictlyIncreasing}
use Rattle.bb_base.specs.Net.{Netlist, driven}
use Rattle.bb_base.specs.Drivers.{Drives}
use Rattle.bb_base.specs.declared.netlist.Driver.TheVariants.{Input as InputAt, Gate as GateAt, Flop as FlopAt}
use Rattle.bb_base.specs.Span.{IsIndependent}
use Rattle.bb_terms.specs.Register.{IsMask, IsFullPeriod}
use Rattle.bb_terms.specs.Walk.{IsFirstReturn}
use Rattle.bb_base.specs.Places.{EachAt, IsFirstWrong}
use Rattle.bb_terms.specs.Paths.{Start}
use Rattle.bb_terms.specs.Support.{AreLeaves}
use Rattle.bb_terms.specs.declared.kind.Kind.{Kind}
use Rattle.bb_terms.specs.declared.kind.Kind.TheVariants.{Input, State, Split, Cut, Watch, Output}
use Rattle.bb_terms.specs.declared.plan.Cell.{Cell}
use Rattle.bb_terms.specs.Kinds.{is_source, is_observer, takes_d, takes_net, only_generates}
use Rattle.bb_terms.specs.Plan.{RegisterValue, PlanValue, chain, IsCell, has_input}
use Rattle.bb_terms.specs.Lines.{is_stop, IsStart, IsLeafOf, column_of}

-- width, degree and mask are in bounds
pub record IsFrame (p : PlanValue) : Type 0 where
  pub width_least : 1 ≤ p.width
  pub width_most : p.width ≤ 12
  pub degree_least : 1 ≤ p.degree
  pub degree_most : p.degree ≤ 20
  pub mask_fits : IsMask p.degree p.mask

-- the register has 1 to 16 cells, and a mask of their number
pub record IsRegister (g : RegisterValue) : Type 0 where
  pub some : 1 ≤ length g.cells
  pub few : length g.cells ≤ 16
  pub mask_fits : IsMask (length g.cells) g.mask

abbrev pub IsInput : Netlist ℕ → ℕ → Type 0
IsInput a net = (i : ℕ) × Drives a (InputAt i) net

abbrev pub IsQ : Netlist ℕ → ℕ → Type 0
IsQ a net = (i : ℕ) × Drives a (FlopAt i) net

abbrev pub IsGateNet : Netlist ℕ → ℕ → Type 0
IsGateNet a net = (i : ℕ) × Drives a (GateAt i) net

-- a net on which such a cell may stand
abbrev pub MayStand : Netlist ℕ → Kind → ℕ → Type 0
MayStand a Input net = IsInput a net
MayStand a State net = IsQ a net
MayStand a Split net = IsQ a net
MayStand a Cut net = IsGateNet a net
MayStand a Watch net = IsQ a net
MayStand a Output net = IsGateNet a net × Contains a.outputs net

abbrev pub Fits : Netlist ℕ → Cell → Type 0
Fits a c = MayStand a c.kind c.net

-- on one net, two such cells are two sources, two observers of a flip-flop's d, or two observers of the net itself
abbrev pub meet : Kind → Kind → Bool
meet a b = (is_source a && is_source b) || ((takes_d a && takes_d b) || (takes_net a && takes_net b))

-- no cell before cell i meets it
abbrev pub IsApart : PlanValue → ℕ → Cell → Type 0
IsApart p i c = (j : ℕ) (d : Cell) → j < i → slice_get (chain p) j ≡ Some d → d.net ≡ c.net → meet d.kind c.kind ≡ false

-- a cell of this kind is on the net
pub record HasKind (p : PlanValue) (kind : Kind) (net : ℕ) : Type 0 where
  pub cell : Cell
  pub stands : Contains (chain p) cell
  pub of_kind : cell.kind ≡ kind
  pub on : cell.net ≡ net

-- the net has the cells that it needs: an input, a q, or an output that a gate drives
pub record IsServed (a : Netlist ℕ) (p : PlanValue) (net : ℕ) : Type 0 where
  pub input : IsInput a net → HasKind p Input net
  pub flop : IsQ a net → HasKind p State net ⊎ (HasKind p Split net × HasKind p Watch net)
  pub output : IsGateNet a net → Contains a.outputs net → HasKind p Output net ⊎ HasKind p Cut net

-- all nets
abbrev pub net_numbers : Netlist ℕ → List ℕ
net_numbers a = range_with_len 0 (length (driven a))

-- a register with an Input or Split cell has no others
abbrev pub IsPure : RegisterValue → Type 0
IsPure g = has_input g ≡ true → list_all (λ c. only_generates c.kind) g.cells ≡ true

-- the register exists, and has no Input or Split cell
abbrev pub MayCompact : PlanValue → ℕ → Type 0
MayCompact p r = (g : RegisterValue) × (slice_get p.registers r ≡ Some g) × (has_input g ≡ false)

-- session s lists some registers that may compact, in ascending order, and is not too long with those before it
pub record IsSession (p : PlanValue) (s : ℕ) (session : List ℕ) : Type 0 where
  pub some : 1 ≤ length session
  pub ascending : IsStrictlyIncreasing session
  pub compacting : AllByRecursion (MayCompact p) session
  pub few : length (flat_map (λ x. x) (take (suc s) p.sessions)) ≤ 2097152

-- a register that may compact is in some session
abbrev pub IsListed : PlanValue → ℕ → RegisterValue → Type 0
IsListed p r g = has_input g ≡ false → (session : List ℕ) × Contains p.sessions session × Contains session r

-- the column fits, and is 0 where the cell is no source
pub record IsColumn (p : PlanValue) (c : Cell) : Type 0 where
  pub below : c.column < 2 ^ p.degree
  pub none : is_source c.kind ≡ false → c.column ≡ 0

-- these are the leaves of the cell's line, in ascending order
pub record AreLeavesOf (a : Netlist ℕ) (p : PlanValue) (c : Cell) (leaves : List ℕ) : Type 0 where
  pub start : Start ℕ
  pub begins : IsStart a c start
  pub are : AreLeaves a.gates (is_stop a p) start leaves

-- an observer's line has at most so many leaves as the width
abbrev pub IsNarrow : Netlist ℕ → PlanValue → Cell → Type 0
IsNarrow a p c = is_observer c.kind ≡ true → (leaves : List ℕ) × AreLeavesOf a p c leaves × (length leaves ≤ p.width)

-- no register of the session holds a leaf of a line of one of them, itself included
abbrev pub HasNoConflict : Netlist ℕ → PlanValue → List ℕ → Type 0
HasNoConflict a p session =
    (r q i j : ℕ) (c source : Cell) → Contains session r → Contains session q → IsCell p i r c → is_observer c.kind ≡ true → IsCell p j q source → is_source source.kind ≡ true
    → IsLeafOf a p c source.net → ⊥

-- the columns of an observer's leaves are independent
abbrev pub IsCoded : Netlist ℕ → PlanValue → Cell → Type 0
IsCoded a p c = is_observer c.kind ≡ true → (leaves : List ℕ) × AreLeavesOf a p c leaves × IsIndependent (map (column_of p) leaves)

-- the rules in the order in which they are tried
pub data Rule : Type 0 where
  Frame : Rule
  Registers : Rule
  Kinds : Rule
  Apart : Rule
  Served : Rule
  Pure : Rule
  Sessions : Rule
  Compacted : Rule
  Room : Rule
  Columns : Rule
  Widths : Rule
  Conflicts : Rule
  Codes : Rule
  Period : Rule

abbrev pub rule_number : Rule → ℕ
rule_number Frame = 1
rule_number Registers = 2
rule_number Kinds = 3
rule_number Apart = 4
rule_number Served = 5
rule_number Pure = 6
rule_number Sessions = 7
rule_number Compacted = 8
rule_number Room = 9
rule_number Columns = 10
rule_number Widths = 11
rule_number Conflicts = 12
rule_number Codes = 13
rule_number Period = 14

-- the plan meets the rule
abbrev pub Holds : Netlist ℕ → PlanValue → Rule → Type 0
Holds a p Frame = IsFrame p
Holds a p Registers = EachAt p.registers (λ r g. IsRegister g)
Holds a p Kinds = EachAt (chain p) (λ i c. Fits a c)
Holds a p Apart = EachAt (chain p) (IsApart p)
Holds a p Served = EachAt (net_numbers a) (λ i net. IsServed a p net)
Holds a p Pure = EachAt p.registers (λ r g. IsPure g)
Holds a p Sessions = EachAt p.sessions (IsSession p)
Holds a p Compacted = EachAt p.registers (IsListed p)
Holds a p Room = length (chain p) ≤ 2 ^ p.degree
Holds a p Columns = EachAt (chain p) (λ i c. IsColumn p c)
Holds a p Widths = EachAt (chain p) (λ i c. IsNarrow a p c)
Holds a p Conflicts = EachAt p.sessions (λ s session. HasNoConflict a p session)
Holds a p Codes = EachAt (chain p) (λ i c. IsCoded a p c)
Holds a p Period = IsFullPeriod p.degree p.mask

-- the plan fails the rule, first at this place
abbrev pub FailsAt : Netlist ℕ → PlanValue → Rule → ℕ → Type 0
FailsAt a p Frame place = (place ≡ 0) × (IsFrame p → ⊥)
FailsAt a p Registers place = IsFirstWrong p.registers (λ r g. IsRegister g) place
FailsAt a p Kinds place = IsFirstWrong (chain p) (λ i c. Fits a c) place
FailsAt a p Apart place = IsFirstWrong (chain p) (IsApart p) place
FailsAt a p Served place = IsFirstWrong (net_numbers a) (λ i net. IsServed a p net) place
FailsAt a p Pure place = IsFirstWrong p.registers (λ r g. IsPure g) place
FailsAt a p Sessions place = IsFirstWrong p.sessions (IsSession p) place
FailsAt a p Compacted place = IsFirstWrong p.registers (IsListed p) place
FailsAt a p Room place = (place ≡ length (chain p)) × (2 ^ p.degree < place)
FailsAt a p Columns place = IsFirstWrong (chain p) (λ i c. IsColumn p c) place
FailsAt a p Widths place = IsFirstWrong (chain p) (λ i c. IsNarrow a p c) place
FailsAt a p Conflicts place = IsFirstWrong p.sessions (λ s session. HasNoConflict a p session) place
FailsAt a p Codes place = IsFirstWrong (chain p) (λ i c. IsCoded a p c) place
FailsAt a p Period place = IsFirstReturn p.degree p.mask place × (place < 2 ^ p.degree)
