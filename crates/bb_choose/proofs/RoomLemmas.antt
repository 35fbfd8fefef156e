-- Where there is room, nothing lacks: there is a degree, and at the least one cycles and masks suffice.
use Rattle.std.proofs.Common.{arith, inl, inr, ℕ, ◌*◌, ◌^◌, ◌≤◌, List, length, subst, nat_eq}
use Rattle.std.proofs.Math.Nat.{mul-le-mul_left}
use Rattle.std.specs.List.{AllByRecursion}
use Rattle.std.specs.Set.{distinct_count}
use Rattle.bb_base.proofs.Contained.{of_all, contains_at}
use Rattle.bb_base.specs.Net.{Gate, Netlist, IsNetlist}
use Rattle.bb_terms.specs.Cuts.{IsFirstWide}
use Rattle.bb_code.specs.declared.fault.Need.{Need}
use Rattle.bb_code.proofs.Existing.{columns_exist}
use Rattle.bb_code.proofs.OneChoice.{states_grow}
use Rattle.bb_terms.specs.Plan.{RegisterValue}
use Rattle.bb_reg.specs.Chosen.{GroupedValue, scheduled_of}
use Rattle.bb_words.specs.declared.command.Settings.{Settings}
use Rattle.bb_choose.specs.Arranged.{AreInRange, segments_of, source_count}
use Rattle.bb_choose.specs.Choice.{IsDegreeFor, OfArranged, LacksDegree, LacksCycles, LacksMask, IsFirstUnmasked, HasFullMask, cycle_count}
use Rattle.bb_choose.specs.Enough.{HasRoom, IsEnough}
use Rattle.bb_choose.proofs.ArrangementLemmas.{one_arrangement}

-- no gate is too wide
pub none_wide : (gates : List (Gate ℕ)) (width number inputs : ℕ) → AllByRecursion (λ g. distinct_count nat_eq g.ins ≤ width) gates → IsFirstWide gates width number inputs → ⊥
none_wide gates width number inputs all first =
    let low = of_all (λ (g : Gate ℕ). distinct_count nat_eq g.ins ≤ width) gates first.gate all (contains_at gates number first.gate first.stands) in
    let count = first.count in
    let over = first.wide in
    omega (arith, low, count, over)

-- a higher degree takes no fewer cycles
cycles_grow : (grouped : GroupedValue) (degree more : ℕ) → degree ≤ more → cycle_count grouped degree ≤ cycle_count grouped more
cycles_grow grouped degree more le =
    let halves : 2 * length (scheduled_of grouped) * 2 ^ degree ≤ 2 * length (scheduled_of grouped) * 2 ^ more = mul-le-mul_left (2 * length (scheduled_of grouped)) (states_grow degree more le) in
    omega (arith, halves)

module _ (settings : Settings) (grouped : GroupedValue) (range : AreInRange settings) (room : HasRoom settings grouped) where
  -- the degree with room has columns
  codes : IsDegreeFor settings grouped room.degree
  codes =
      let one = range.degree_least in
      let from = room.least in
      record {
        least = room.least;
        most = room.most;
        states = room.cells;
        columns = columns_exist room.degree (source_count grouped) room.listed room.size (segments_of grouped) (omega (arith, one, from)) room.within room.columns;
      }

  pub degree_there : (max : ℕ) (need : Need) → LacksDegree settings grouped max need → ⊥
  degree_there max need lacks = lacks.none room.degree codes

  pub cycles_suffice : (needed limit : ℕ) → LacksCycles settings grouped needed limit → ⊥
  cycles_suffice needed limit lacks =
      let low : lacks.degree ≤ room.degree = lacks.least.least room.degree codes in
      let more = cycles_grow grouped lacks.degree room.degree low in
      let is = lacks.needed_is in
      let limit_is = lacks.limit_is in
      let over = lacks.over in
      let most = room.cycles in
      omega (arith, more, is, limit_is, over, most)

  pub masks_there : (cells : ℕ) → LacksMask settings grouped cells → ⊥
  masks_there cells lacks = by lacks.first
    where
      low : lacks.degree ≤ room.degree
      low = lacks.least.least room.degree codes

      by : IsFirstUnmasked lacks.degree grouped.registers cells → ⊥
      by (inl h) = h.1 (room.degree_masks lacks.degree lacks.least.holds.least low)
      by (inr h) =
          let register = h.1.holds in
          register.none (subst HasFullMask register.long (of_all (λ (g : RegisterValue). HasFullMask (length g.cells)) grouped.registers register.register room.register_masks register.stands))

-- registers are chosen in one way, so what holds of them is never denied
never_both :
    (a : Netlist ℕ) (order : List ℕ) (settings : Settings) (P Q : GroupedValue → Type 0) → IsNetlist a → ((grouped : GroupedValue) → P grouped → Q grouped → ⊥) → OfArranged a order settings P → OfArranged a order settings Q → ⊥
never_both a order settings P Q netlist never one other = never one.grouped one.holds (subst Q (one_arrangement a order settings other.grouped one.grouped netlist other.arranged one.arranged) other.holds)

module _ (a : Netlist ℕ) (order : List ℕ) (settings : Settings) (netlist : IsNetlist a) (range : AreInRange settings) (enough : IsEnough a order settings) where
  pub no_degree : (max : ℕ) (need : Need) → OfArranged a order settings (λ grouped. LacksDegree settings grouped max need) → ⊥
  no_degree max need lacks = never_both a order settings (HasRoom settings) (λ grouped. LacksDegree settings grouped max need) netlist (λ grouped room. degree_there settings grouped range room max need) enough.room lacks

  pub no_cycles : (needed limit : ℕ) → OfArranged a order settings (λ grouped. LacksCycles settings grouped needed limit) → ⊥
  no_cycles needed limit lacks = never_both a order settings (HasRoom settings) (λ grouped. LacksCycles settings grouped needed limit) netlist (λ grouped room. cycles_suffice settings grouped range room needed limit) enough.room lacks

  pub no_mask : (cells : ℕ) → OfArranged a order settings (λ grouped. LacksMask settings grouped cells) → ⊥
  no_mask cells lacks = never_both a order settings (HasRoom settings) (λ grouped. LacksMask settings grouped cells) netlist (λ grouped room. masks_there settings grouped range room cells) enough.room lacks
