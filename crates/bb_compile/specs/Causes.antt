-- Why `compile` and `sample` are refused (this project's own).
use Rattle.std.specs.Prelude.{◌≡◌, ℕ, ◌≤◌, false, List, length, Option}
use Rattle.bb_base.specs.Variables.{Bit}
use Rattle.bb_base.specs.Order.{IsOrder}
use Rattle.bb_base.specs.Named.{Named, net_text}
use Rattle.bb_terms.specs.Cuts.{IsFirstWide}
use Rattle.bb_code.specs.declared.fault.Need.TheVariants.{Cells, Source}
use Rattle.bb_words.specs.declared.command.Settings.{Settings}
use Rattle.bb_choose.specs.Choice.{OfArranged, LacksDegree, LacksCycles, LacksMask}
use Rattle.bb_sample.specs.Sample.{sample_of}
use Rattle.bb_read.specs.declared.refusal.PlanRefusal.{PlanRefusal}
use Rattle.bb_read.specs.declared.refusal.PlanRefusal.TheVariants as plans
use Rattle.bb_read.specs.declared.refusal.Refusal.{Refusal}
use Rattle.bb_read.specs.declared.refusal.Refusal.TheVariants.{Input, Plan, Netlist, Schedule, Signatures, Certificate, Check}
use Rattle.bb_read.specs.Texts.{file_limit, IsReadable, IsTextRefused}

-- the net has this name in texts
abbrev pub IsNameOf : Named → ℕ → List ℕ → Option ℕ → Type 0
IsNameOf a net name select = ◌≡◌ {A = Bit} (net_text a net) (record { name = name; index = select })

-- the first gate by number that has more different inputs than the width drives the net of this name
pub record IsWideGate (a : Named) (name : List ℕ) (select : Option ℕ) (inputs width : ℕ) : Type 0 where
  pub number : ℕ
  pub first : IsFirstWide a.netlist.gates width number inputs
  pub named : IsNameOf a first.gate.out name select

-- there is no plan for the netlist, whose gates have this order
abbrev pub IsPlanRefused : Named → List ℕ → Settings → PlanRefusal → Type 0
IsPlanRefused a order settings (plans.GateTooWide name select inputs width) = (width ≡ settings.width) × IsWideGate a name select inputs width
IsPlanRefused a order settings (plans.TooFewStates max cells) = OfArranged a.netlist order settings (λ grouped. LacksDegree settings grouped max (Cells cells))
IsPlanRefused a order settings (plans.NoColumn max name select) =
    (net : ℕ) × IsNameOf a net name select × OfArranged a.netlist order settings (λ grouped. LacksDegree settings grouped max (Source net))
IsPlanRefused a order settings (plans.TooManyCycles limit needed) = OfArranged a.netlist order settings (λ grouped. LacksCycles settings grouped needed limit)
IsPlanRefused a order settings (plans.NoFullPeriod degree) = OfArranged a.netlist order settings (λ grouped. LacksMask settings grouped degree)

-- the refusal is that there is no plan for the netlist, whose gates have this order
abbrev pub IsNetlistRefused : Named → List ℕ → Settings → Refusal → Type 0
IsNetlistRefused a order settings (Input refusal) = ⊥
IsNetlistRefused a order settings (Plan refusal) = IsPlanRefused a order settings refusal
IsNetlistRefused a order settings (Netlist refusal) = ⊥
IsNetlistRefused a order settings (Schedule refusal) = ⊥
IsNetlistRefused a order settings (Signatures refusal) = ⊥
IsNetlistRefused a order settings (Certificate refusal) = ⊥
IsNetlistRefused a order settings (Check rule place) = ⊥

-- the text denotes a netlist for which there is no plan
pub record HasNoPlan (settings : Settings) (refusal : PlanRefusal) (text : List ℕ) : Type 0 where
  pub short : length text ≤ file_limit
  pub original : Named
  pub readable : IsReadable original text
  pub order : List ℕ
  pub ordered : IsOrder original.netlist.gates order
  pub refused : IsPlanRefused original order settings refusal

-- the text has this refusal: it denotes no netlist, or one for which there is no plan
abbrev pub IsRefused : Settings → Refusal → List ℕ → Type 0
IsRefused settings (Input refusal) text = IsTextRefused false file_limit refusal text
IsRefused settings (Plan refusal) text = HasNoPlan settings refusal text
IsRefused settings (Netlist refusal) text = ⊥
IsRefused settings (Schedule refusal) text = ⊥
IsRefused settings (Signatures refusal) text = ⊥
IsRefused settings (Certificate refusal) text = ⊥
IsRefused settings (Check rule place) text = ⊥

-- the sample of this number has this refusal: there is no plan for it
pub record IsSampleRefused (settings : Settings) (number : ℕ) (refusal : Refusal) : Type 0 where
  pub order : List ℕ
  pub ordered : IsOrder (sample_of number).netlist.gates order
  pub refused : IsNetlistRefused (sample_of number) order settings refusal
