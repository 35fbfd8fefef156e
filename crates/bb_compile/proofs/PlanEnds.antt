-- Of a netlist of which something is made no plan is refused, and neither is one of a netlist that has room for one.
use Rattle.std.proofs.Common.{arith, ◌≡◌, ◌⊎◌, inl, inr, ℕ, ◌+◌, ◌*◌, ◌^◌, ◌≤◌, List, [], ◌∷◌, length, Contains, nat_eq, sym, ap, ◌∙◌, subst}
use Rattle.std.specs.List.{AllByRecursion, AllZip}
use Rattle.std.specs.Set.{distinct_count}
use Rattle.std.proofs.lemmas.List.Elements.{length_all_zip}
use Rattle.bb_base.specs.Firsts.{IsLeast}
use Rattle.bb_base.proofs.Contained.{either, none_in, at_place}
use Rattle.bb_base.specs.Net.{Netlist, Gate, IsNetlist}
use Rattle.bb_base.specs.Named.{Named}
use Rattle.bb_terms.specs.Cuts.{IsFirstWide}
use Rattle.bb_terms.specs.Register.{IsFullMask}
use Rattle.bb_terms.specs.Plan.{RegisterValue, PlanValue}
use Rattle.bb_reg.specs.Chosen.{GroupedValue}
use Rattle.bb_choose.specs.ChosenPlan.{IsSameCell, IsSameRegister}
use Rattle.bb_code.specs.declared.fault.Need.{Need}
use Rattle.bb_code.specs.declared.fault.Need.TheVariants.{Cells, Source}
use Rattle.bb_words.specs.declared.command.Settings.{Settings}
use Rattle.bb_choose.specs.Arranged.{AreInRange, IsArranged}
use Rattle.bb_choose.specs.Choice.{IsDegreeFor, IsPlanOf, OfArranged, LacksDegree, LacksCycles, LacksMask, HasFullMask, IsUnmasked, cycle_count}
use Rattle.bb_choose.specs.Enough.{IsEnough}
use Rattle.bb_make.specs.Artifacts.{ArtifactsValue, AreArtifacts}
use Rattle.bb_read.specs.declared.refusal.PlanRefusal.{PlanRefusal}
use Rattle.bb_read.specs.declared.refusal.PlanRefusal.TheVariants as plans
use Rattle.bb_read.specs.declared.refusal.Refusal.{Refusal}
use Rattle.bb_read.specs.declared.refusal.Refusal.TheVariants.{Input, Plan, Netlist as Written, Schedule, Signatures, Certificate, Check}
use Rattle.bb_compile.specs.Causes.{IsPlanRefused, IsNetlistRefused}

-- two least numbers are one
one_least : (P : ℕ → Type 0) (m n : ℕ) → IsLeast P m → IsLeast P n → m ≡ n
one_least P m n a b = let low = a.least n b.holds in let high = b.least m a.holds in omega (arith, low, high)

-- the length of each register has a mask of full period
masked : (registers others : List RegisterValue) → AllZip IsSameRegister registers others → AllByRecursion (λ (g : RegisterValue). IsLeast (IsFullMask (length g.cells)) g.mask) registers
    → (h : RegisterValue) → Contains others h → HasFullMask (length h.cells)
masked [] [] same masks h c = absurd (none_in h c)
masked [] (other ∷ others) same masks h c = absurd same
masked (g ∷ registers) [] same masks h c = absurd same
masked (g ∷ registers) (other ∷ others) same masks h c = by (either other others h c) (λ k. masked registers others same.1 masks.1 h k)
  where
    by : (other ≡ h) ⊎ Contains others h → (Contains others h → HasFullMask (length h.cells)) → HasFullMask (length h.cells)
    by (inl e) rest = subst (λ (x : RegisterValue). HasFullMask (length x.cells)) e (subst HasFullMask (length_all_zip IsSameCell g.cells other.cells same.0) (g.mask, masks.0.holds))
    by (inr k) rest = rest k

-- what is lacking where a plan was chosen of the same registers: nothing
has_degree : (settings : Settings) (grouped : GroupedValue) (p : PlanValue) (max : ℕ) (need : Need) → IsPlanOf settings grouped p → LacksDegree settings grouped max need → ⊥
has_degree settings grouped p max need plan lacks = lacks.none p.degree plan.degree.holds

has_cycles : (settings : Settings) (grouped : GroupedValue) (p : PlanValue) (needed limit : ℕ) → IsPlanOf settings grouped p
    → 1 + 2 * length p.sessions * 2 ^ p.degree ≤ settings.max_cycles → LacksCycles settings grouped needed limit → ⊥
has_cycles settings grouped p needed limit plan within lacks =
    let same : lacks.degree ≡ p.degree = one_least (IsDegreeFor settings grouped) lacks.degree p.degree lacks.least plan.degree in
    let count : needed ≡ cycle_count grouped p.degree = lacks.needed_is ∙ ap (cycle_count grouped) same in
    let sessions : 1 + 2 * length p.sessions * 2 ^ p.degree ≡ cycle_count grouped p.degree = ap (λ (s : List (List ℕ)). 1 + 2 * length s * 2 ^ p.degree) plan.sessions in
    let over = lacks.over in
    let limit_is = lacks.limit_is in
    let enough : needed ≤ settings.max_cycles = subst (λ n. n ≤ settings.max_cycles) (sessions ∙ sym count) within in
    omega (arith, over, limit_is, enough)

has_masks : (settings : Settings) (grouped : GroupedValue) (p : PlanValue) (cells : ℕ) → IsPlanOf settings grouped p → LacksMask settings grouped cells → ⊥
has_masks settings grouped p cells plan lacks = by lacks.first
  where
    same : lacks.degree ≡ p.degree
    same = one_least (IsDegreeFor settings grouped) lacks.degree p.degree lacks.least plan.degree

    by : ((cells ≡ lacks.degree) × (HasFullMask lacks.degree → ⊥)) ⊎ (HasFullMask lacks.degree × IsLeast (IsUnmasked grouped.registers) cells) → ⊥
    by (inl (is, none)) = none (subst HasFullMask (sym same) (p.mask, plan.mask.holds))
    by (inr (full, least)) =
        let u = least.holds in
        u.none (subst HasFullMask u.long (masked p.registers grouped.registers plan.registers plan.masks u.register u.stands))

-- the registers of a netlist are chosen in one way
abbrev pub OneArrangement : Type 0
OneArrangement = (a : Netlist ℕ) (order : List ℕ) (settings : Settings) (one other : GroupedValue) → IsNetlist a → IsArranged a order settings one → IsArranged a order settings other → one ≡ other

module _ (a : Named) (order : List ℕ) (settings : Settings) (made : ArtifactsValue) (one : OneArrangement) (netlist : IsNetlist a.netlist) (artifacts : AreArtifacts a order settings made) where
  -- the registers of the plan are those of which something is lacking
  of_plan : (P : GroupedValue → Type 0) → ((grouped : GroupedValue) → IsPlanOf settings grouped artifacts.plan → P grouped → ⊥) → OfArranged a.netlist order settings P → ⊥
  of_plan P never is =
      let chosen = artifacts.chosen in
      let same = one a.netlist order settings chosen.grouped is.grouped netlist chosen.arranged is.arranged in
      never is.grouped (subst (λ g. IsPlanOf settings g artifacts.plan) same chosen.holds) is.holds

  pub not_both : (refusal : PlanRefusal) → IsPlanRefused a order settings refusal → ⊥
  not_both (plans.GateTooWide name select inputs width) is =
      let gate = is.1.first in
      let few = at_place (λ (g : Gate ℕ). distinct_count nat_eq g.ins ≤ settings.width) a.netlist.gates is.1.number gate.gate artifacts.narrow gate.stands in
      let count = gate.count in
      let wide = gate.wide in
      let same = is.0 in
      omega (arith, few, count, wide, same)
  not_both (plans.TooFewStates max cells) is = of_plan (λ g. LacksDegree settings g max (Cells cells)) (λ g. has_degree settings g artifacts.plan max (Cells cells)) is
  not_both (plans.NoColumn max name select) is = of_plan (λ g. LacksDegree settings g max (Source is.0)) (λ g. has_degree settings g artifacts.plan max (Source is.0)) is.2
  not_both (plans.TooManyCycles limit needed) is = of_plan (λ g. LacksCycles settings g needed limit) (λ g p. has_cycles settings g artifacts.plan needed limit p artifacts.within) is
  not_both (plans.NoFullPeriod degree) is = of_plan (λ g. LacksMask settings g degree) (λ g. has_masks settings g artifacts.plan degree) is

-- what is known of a netlist that has room for a plan
pub record EnoughLaws : Type 0 where
  pub gate : (a : Netlist ℕ) (order : List ℕ) (settings : Settings) (gate inputs : ℕ) → IsEnough a order settings → IsFirstWide a.gates settings.width gate inputs → ⊥
  pub degree : (a : Netlist ℕ) (order : List ℕ) (settings : Settings) (max : ℕ) (need : Need) → IsNetlist a → AreInRange settings → IsEnough a order settings
      → OfArranged a order settings (λ grouped. LacksDegree settings grouped max need) → ⊥
  pub limit : (a : Netlist ℕ) (order : List ℕ) (settings : Settings) (needed limit : ℕ) → IsNetlist a → AreInRange settings → IsEnough a order settings
      → OfArranged a order settings (λ grouped. LacksCycles settings grouped needed limit) → ⊥
  pub period : (a : Netlist ℕ) (order : List ℕ) (settings : Settings) (cells : ℕ) → IsNetlist a → AreInRange settings → IsEnough a order settings
      → OfArranged a order settings (λ grouped. LacksMask settings grouped cells) → ⊥

-- it has no refusal
pub not_lacking : (laws : EnoughLaws) (a : Named) (order : List ℕ) (settings : Settings) (refusal : PlanRefusal) → IsNetlist a.netlist → AreInRange settings
    → IsEnough a.netlist order settings → IsPlanRefused a order settings refusal → ⊥
not_lacking laws a order settings (plans.GateTooWide name select inputs width) netlist range enough is =
    laws.gate a.netlist order settings is.1.number inputs enough (subst (λ w. IsFirstWide a.netlist.gates w is.1.number inputs) is.0 is.1.first)
not_lacking laws a order settings (plans.TooFewStates max cells) netlist range enough is = laws.degree a.netlist order settings max (Cells cells) netlist range enough is
not_lacking laws a order settings (plans.NoColumn max name select) netlist range enough is = laws.degree a.netlist order settings max (Source is.0) netlist range enough is.2
not_lacking laws a order settings (plans.TooManyCycles limit needed) netlist range enough is = laws.limit a.netlist order settings needed limit netlist range enough is
not_lacking laws a order settings (plans.NoFullPeriod degree) netlist range enough is = laws.period a.netlist order settings degree netlist range enough is

-- a netlist of which something is made has no refusal
pub netlist_made : (a : Named) (order : List ℕ) (settings : Settings) (made : ArtifactsValue) → OneArrangement → IsNetlist a.netlist → AreArtifacts a order settings made
    → (refusal : Refusal) → IsNetlistRefused a order settings refusal → ⊥
netlist_made a order settings made one netlist artifacts (Input refusal) is = is
netlist_made a order settings made one netlist artifacts (Plan refusal) is = not_both a order settings made one netlist artifacts refusal is
netlist_made a order settings made one netlist artifacts (Written refusal) is = is
netlist_made a order settings made one netlist artifacts (Schedule refusal) is = is
netlist_made a order settings made one netlist artifacts (Signatures refusal) is = is
netlist_made a order settings made one netlist artifacts (Certificate refusal) is = is
netlist_made a order settings made one netlist artifacts (Check rule place) is = is

-- neither has one that has room for a plan
pub netlist_roomy : EnoughLaws → (a : Named) (order : List ℕ) (settings : Settings) (refusal : Refusal) → IsNetlist a.netlist → AreInRange settings
    → IsEnough a.netlist order settings → IsNetlistRefused a order settings refusal → ⊥
netlist_roomy laws a order settings (Input refusal) netlist range enough is = is
netlist_roomy laws a order settings (Plan refusal) netlist range enough is = not_lacking laws a order settings refusal netlist range enough is
netlist_roomy laws a order settings (Written refusal) netlist range enough is = is
netlist_roomy laws a order settings (Schedule refusal) netlist range enough is = is
netlist_roomy laws a order settings (Signatures refusal) netlist range enough is = is
netlist_roomy laws a order settings (Certificate refusal) netlist range enough is = is
netlist_roomy laws a order settings (Check rule place) netlist range enough is = is
