-- What this crate's functions find and keep of a plan. No public contract cites this.
use Rattle.std.specs.Prelude.{◌≡◌, ℕ, ◌≤◌, ◌<◌, ◌==◌, Bool, true, false, not, ◌&&◌, ◌||◌, List, Option, None, length, fold, get_or, slice_get, Some, if◌then◌else◌, nat_eq}
use Rattle.std.specs.List.{AllByRecursion, list_any}
use Rattle.std.specs.List.Sorted.{IsStrictlyIncreasing}
use Rattle.bb_base.specs.Places.{EachAt, IsFirstWrong}
use Rattle.bb_base.specs.Net.{Netlist, driven}
use Rattle.bb_base.specs.declared.netlist.Driver.{Driver}
use Rattle.bb_base.specs.declared.netlist.Driver.TheVariants.{Input as InputAt, Gate as GateAt, Flop as FlopAt}
use Rattle.bb_terms.specs.declared.kind.Kind.{Kind}
use Rattle.bb_terms.specs.declared.kind.Kind.TheVariants.{Input, State, Split, Cut, Watch, Output}
use Rattle.bb_terms.specs.declared.plan.Cell.{Cell}
use Rattle.bb_terms.specs.Kinds.{is_source, takes_d, takes_net}
use Rattle.bb_terms.specs.Plan.{RegisterValue, PlanValue, has_input, lists_register}
use Rattle.bb_terms.specs.Rules.{MayCompact, meet}
use Rattle.bb_plan.specs.declared.table.OnNet.{OnNet}

-- none where the fact holds of each item, else the first place at which it doesn't
abbrev pub IsFound : {X : Type 0} → List X → (ℕ → X → Type 0) → Option ℕ → Type 0
IsFound xs P None = EachAt xs P
IsFound xs P (Some place) = IsFirstWrong xs P place

-- some registers in ascending order that may compact
pub record MayBeSession (p : PlanValue) (session : List ℕ) : Type 0 where
  pub some : 1 ≤ length session
  pub ascending : IsStrictlyIncreasing session
  pub compacting : AllByRecursion (MayCompact p) session

-- so many marks, at the registers that some session lists
pub record AreListed (registers : ℕ) (sessions : List (List ℕ)) (marks : List Bool) : Type 0 where
  pub long : length marks ≡ registers
  pub each : (r : ℕ) → r < registers → get_or marks r false ≡ list_any (lists_register r) sessions

-- a register that may compact is marked
abbrev pub IsListedIn : List Bool → ℕ → RegisterValue → Type 0
IsListedIn marks r g = has_input g ≡ false → get_or marks r false ≡ true

-- a mark at each output
pub record AreOutputs (a : Netlist ℕ) (marks : List Bool) : Type 0 where
  pub long : length marks ≡ length (driven a)
  pub each : (net : ℕ) → net < length (driven a) → get_or marks net false ≡ list_any (nat_eq net) a.outputs

-- a cell of this kind may stand on a net with this driver, which is an output or isn't
abbrev pub may_stand : Kind → Driver → Bool → Bool
may_stand Input (InputAt i) is_output = true
may_stand State (FlopAt i) is_output = true
may_stand Split (FlopAt i) is_output = true
may_stand Watch (FlopAt i) is_output = true
may_stand Cut (GateAt i) is_output = true
may_stand Output (GateAt i) is_output = is_output
may_stand _ _ is_output = false

-- a net without cells
abbrev pub blank : OnNet
blank = record { input = false; state = false; split = false; cut = false; watch = false; output = false }

-- a cell of this kind is on the net
abbrev pub has : OnNet → Kind → Bool
has on Input = on.input
has on State = on.state
has on Split = on.split
has on Cut = on.cut
has on Watch = on.watch
has on Output = on.output

abbrev pub with_kind : OnNet → Kind → OnNet
with_kind on Input = record on { input = true }
with_kind on State = record on { state = true }
with_kind on Split = record on { split = true }
with_kind on Cut = record on { cut = true }
with_kind on Watch = record on { watch = true }
with_kind on Output = record on { output = true }

-- the net has a cell that a cell of this kind would meet
abbrev pub meets : OnNet → Kind → Bool
meets on kind =
    (is_source kind && (((on.input || on.state) || on.split) || on.cut)) || (takes_d kind && (on.state || on.watch)) || (takes_net kind && (on.cut || on.output))

-- one cell more, where it is on the net
abbrev pub noted : ℕ → OnNet → Cell → OnNet
noted net on c = if c.net == net then with_kind on c.kind else on

-- the kinds of these cells on the net
abbrev pub on_net : List Cell → ℕ → OnNet
on_net cells net = fold (noted net) blank cells

-- for each of so many nets the kinds of the cells on it
pub record AreStanding (nets : ℕ) (cells : List Cell) (table : List OnNet) : Type 0 where
  pub long : length table ≡ nets
  pub each : (net : ℕ) → net < nets → get_or table net blank ≡ on_net cells net

-- no net has a cell
abbrev pub AreBlank : List OnNet → Type 0
AreBlank table = (net : ℕ) → net < length table → get_or table net blank ≡ blank

-- no cell of the list before the i-th meets it
abbrev pub IsApartIn : List Cell → ℕ → Cell → Type 0
IsApartIn cells i c = (j : ℕ) (d : Cell) → j < i → slice_get cells j ≡ Some d → d.net ≡ c.net → meet d.kind c.kind ≡ false

-- a net with this driver, which is an output or isn't, has the cells that it needs
abbrev pub is_served : Driver → Bool → OnNet → Bool
is_served (InputAt i) is_output on = on.input
is_served (FlopAt i) is_output on = on.state || (on.split && on.watch)
is_served (GateAt i) is_output on = not is_output || on.output || on.cut
