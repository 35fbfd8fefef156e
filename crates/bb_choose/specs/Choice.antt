-- The plan that is chosen for a netlist, and why there is none (this project's own).
use Rattle.std.specs.Prelude.{◌≡◌, ◌⊎◌, ℕ, ◌+◌, ◌*◌, ◌^◌, ◌<◌, ◌≤◌, false, List, length, Some, slice_get, Contains}
use Rattle.std.specs.List.{AllByRecursion, AllZip}
use Rattle.bb_base.specs.Firsts.{IsLeast}
use Rattle.bb_base.specs.Net.{Netlist}
use Rattle.bb_terms.specs.Register.{IsFullMask}
use Rattle.bb_code.specs.Columns.{AreAllColumns}
use Rattle.bb_code.specs.Degree.{IsCodeDegree, IsNeed}
use Rattle.bb_code.specs.declared.fault.Need.{Need}
use Rattle.bb_code.specs.declared.fault.Need.TheVariants.{Cells, Source}
use Rattle.bb_terms.specs.Kinds.{is_source}
use Rattle.bb_terms.specs.Plan.{RegisterValue, PlanValue, chain}
use Rattle.bb_reg.specs.Chosen.{GroupedValue, scheduled_of}
use Rattle.bb_choose.specs.ChosenPlan.{IsSameRegister}
use Rattle.bb_words.specs.declared.command.Settings.{Settings}
use Rattle.bb_choose.specs.Arranged.{IsArranged, segments_of, source_nets, source_columns, source_count, cell_count}

-- a degree in bounds that has no fewer states than there are cells, and a column for each source
abbrev pub IsDegreeFor : Settings → GroupedValue → ℕ → Type 0
IsDegreeFor settings grouped degree = IsCodeDegree (segments_of grouped) (source_count grouped) (cell_count grouped) settings.min_degree settings.max_degree degree

-- the cycles of a test: two halves of 2^degree cycles a session, and one more
abbrev pub cycle_count : GroupedValue → ℕ → ℕ
cycle_count grouped degree = 1 + 2 * length (scheduled_of grouped) * 2 ^ degree

-- the plan of these registers
pub record IsPlanOf (settings : Settings) (grouped : GroupedValue) (p : PlanValue) : Type 0 where
  pub width : p.width ≡ settings.width
  -- the registers, which have columns and masks
  pub registers : AllZip IsSameRegister p.registers grouped.registers
  pub sessions : p.sessions ≡ scheduled_of grouped
  pub degree : IsLeast (IsDegreeFor settings grouped) p.degree
  -- the columns of the source cells, in the order of the chain; others have none
  pub columns : AreAllColumns p.degree (segments_of grouped) (source_count grouped) (source_columns p.registers)
  pub others : AllByRecursion (λ c. is_source c.kind ≡ false → c.column ≡ 0) (chain p)
  pub mask : IsLeast (IsFullMask p.degree) p.mask
  pub masks : AllByRecursion (λ g. IsLeast (IsFullMask (length g.cells)) g.mask) p.registers

-- this holds of the registers that are chosen for the netlist
pub record OfArranged (a : Netlist ℕ) (order : List ℕ) (settings : Settings) (P : GroupedValue → Type 0) : Type 0 where
  pub grouped : GroupedValue
  pub arranged : IsArranged a order settings grouped
  pub holds : P grouped

-- the plan that is chosen for the netlist
abbrev pub IsChosenPlan : Netlist ℕ → List ℕ → Settings → PlanValue → Type 0
IsChosenPlan a order settings p = OfArranged a order settings (λ grouped. IsPlanOf settings grouped p)

-- what the highest degree lacks, where a source is named by its net
abbrev pub IsNeedOf : GroupedValue → ℕ → Need → Type 0
IsNeedOf grouped max (Cells cells) = IsNeed (segments_of grouped) (source_count grouped) (cell_count grouped) max (Cells cells)
IsNeedOf grouped max (Source net) =
    (source : ℕ) × (slice_get (source_nets grouped.registers) source ≡ Some net) × IsNeed (segments_of grouped) (source_count grouped) (cell_count grouped) max (Source source)

-- no degree in bounds will do
pub record LacksDegree (settings : Settings) (grouped : GroupedValue) (max : ℕ) (need : Need) : Type 0 where
  pub highest : max ≡ settings.max_degree
  pub none : (degree : ℕ) → IsDegreeFor settings grouped degree → ⊥
  pub lacks : IsNeedOf grouped max need

-- at the least degree a test takes more cycles than it may
pub record LacksCycles (settings : Settings) (grouped : GroupedValue) (needed limit : ℕ) : Type 0 where
  pub degree : ℕ
  pub least : IsLeast (IsDegreeFor settings grouped) degree
  pub needed_is : needed ≡ cycle_count grouped degree
  pub limit_is : limit ≡ settings.max_cycles
  pub over : limit < needed

-- some mask of the length has full period
abbrev pub HasFullMask : ℕ → Type 0
HasFullMask length = (mask : ℕ) × IsFullMask length mask

-- a register has this length, and no mask of it has full period
pub record IsUnmasked (registers : List RegisterValue) (cells : ℕ) : Type 0 where
  pub register : RegisterValue
  pub stands : Contains registers register
  pub long : length register.cells ≡ cells
  pub none : HasFullMask cells → ⊥

-- the degree has no mask of full period, or else this is the least length of a register that has none
abbrev pub IsFirstUnmasked : ℕ → List RegisterValue → ℕ → Type 0
IsFirstUnmasked degree registers length = ((length ≡ degree) × (HasFullMask degree → ⊥)) ⊎ (HasFullMask degree × IsLeast (IsUnmasked registers) length)

-- the cycles suffice, and a mask is missing
pub record LacksMask (settings : Settings) (grouped : GroupedValue) (length : ℕ) : Type 0 where
  pub degree : ℕ
  pub least : IsLeast (IsDegreeFor settings grouped) degree
  pub within : cycle_count grouped degree ≤ settings.max_cycles
  pub first : IsFirstUnmasked degree grouped.registers length
