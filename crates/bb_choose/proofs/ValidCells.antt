-- A plan of chosen registers has their cells, and its frame, registers, room and columns meet their rules.
use Rattle.std.proofs.Common.{arith, ◌≡◌, ℕ, ◌<◌, ◌≤◌, ◌^◌, Bool, true, false, List, length, refl, subst, Contains, slice_index}
use Rattle.std.specs.List.{AllZip, flat_map}
use Rattle.std.proofs.lemmas.Option.{slice_get_within, get_or_from_slice_get}
use Rattle.bb_base.specs.Firsts.{IsLeast}
use Rattle.bb_base.proofs.Contained.{of_all, at_place, place_of, contains_at, contains_map}
use Rattle.bb_base.specs.Net.{Netlist, IsNetlist}
use Rattle.bb_base.specs.Order.{IsOrder}
use Rattle.bb_terms.specs.Paths.{is_free}
use Rattle.bb_terms.specs.Cuts.{AreCuts}
use Rattle.bb_segment.proofs.DrivenLemmas.{cuts_driven}
use Rattle.bb_terms.specs.Register.{IsFullMask}
use Rattle.bb_code.proofs.OneChoice.{columns_below}
use Rattle.bb_terms.specs.declared.plan.Cell.{Cell}
use Rattle.bb_terms.specs.Kinds.{is_source}
use Rattle.bb_terms.specs.Plan.{RegisterValue, PlanValue, chain}
use Rattle.bb_terms.specs.Rules.{Holds, Frame, Registers, Room, Columns}
use Rattle.bb_reg.specs.Draft.{DraftValue}
use Rattle.bb_reg.specs.Chosen.{GroupedValue, grouped_of}
use Rattle.bb_reg.proofs.ApartLemmas.{register_counts}
use Rattle.bb_reg.proofs.LineLemmas.{zip_long}
use Rattle.bb_choose.specs.ChosenPlan.{AreCutsOf, IsSameCell, IsSameRegister}
use Rattle.bb_choose.proofs.AlikeLemmas.{zip_forth}
use Rattle.bb_choose.proofs.SameCells.{chains_alike}
use Rattle.bb_words.specs.declared.command.Settings.{Settings}
use Rattle.bb_choose.specs.Arranged.{AreInRange, segments_of, source_columns, sources_of_chain}
use Rattle.bb_choose.specs.Choice.{IsPlanOf}
use Rattle.bb_choose.proofs.ReadyLemmas.{in_filtered}

-- the cuts of a netlist are cuts
pub cuts_of : (a : Netlist ℕ) (order : List ℕ) (width : ℕ) (cuts : List ℕ) → IsNetlist a → IsOrder a.gates order → AreCuts a.gates order width cuts → AreCutsOf a cuts
cuts_of a order width cuts is ordered cut = record {
  netlist = is;
  order = (order, ordered);
  ports = is.ports;
  ascending = cut.ascending;
  driven = λ net h. of_all (λ net. is_free a.gates net ≡ false) cuts net (cuts_driven a.gates order width cuts cut) h;
}

abbrev pub cells_in : List RegisterValue → List Cell
cells_in registers = flat_map (λ (g : RegisterValue). g.cells) registers

module _ (settings : Settings) (grouped : GroupedValue) (p : PlanValue) (plan : IsPlanOf settings grouped p) where
  -- the plan's chain has the cells of the registers
  pub alike : AllZip IsSameCell (chain p) (cells_in grouped.registers)
  alike = chains_alike p.registers grouped.registers plan.registers

  pub frame_held : (a : Netlist ℕ) → AreInRange settings → Holds a p Frame
  frame_held a range =
      let width = plan.width in
      let least = range.width_least in
      let most = range.width_most in
      let low = range.degree_least in
      let high = range.degree_most in
      let above = plan.degree.holds.least in
      let below = plan.degree.holds.most in
      record {
        width_least = omega (arith, width, least);
        width_most = omega (arith, width, most);
        degree_least = omega (arith, low, above);
        degree_most = omega (arith, high, below);
        mask_fits = plan.mask.holds.mask_fits;
      }

  pub room_held : (a : Netlist ℕ) → Holds a p Room
  room_held a =
      let long = zip_long IsSameCell (chain p) (cells_in grouped.registers) alike in
      let states = plan.degree.holds.states in
      omega (arith, long, states)

  -- a source's column fits
  source_below : (c : Cell) → Contains (chain p) c → is_source c.kind ≡ true → c.column < 2 ^ p.degree
  source_below c h source =
      let columns = source_columns p.registers in
      let listed = contains_map (λ (c : Cell). c.column) (sources_of_chain p.registers) c (in_filtered (λ (c : Cell). is_source c.kind) (chain p) c h source) in
      let at = place_of columns c.column listed in
      let small : slice_index columns at.0 < 2 ^ p.degree = columns_below p.degree (segments_of grouped) columns plan.columns.chosen at.0 (slice_get_within columns at.0 c.column at.1) in
      subst (λ n. n < 2 ^ p.degree) (get_or_from_slice_get columns at.0 c.column 0 at.1) small

  pub columns_held : (a : Netlist ℕ) → Holds a p Columns
  columns_held a i c at = record { below = by (is_source c.kind) refl; none = none }
    where
      none : is_source c.kind ≡ false → c.column ≡ 0
      none = at_place (λ (c : Cell). is_source c.kind ≡ false → c.column ≡ 0) (chain p) i c plan.others at

      by : (b : Bool) → is_source c.kind ≡ b → c.column < 2 ^ p.degree
      by true source = source_below c (contains_at (chain p) i c at) source
      by false other =
          let zero_is = none other in
          let some = slice_get_within (chain p) i c at in
          let room = room_held a in
          omega (arith, zero_is, some, room)

-- registers are of as many cells as those that are chosen
pub registers_held : (a : Netlist ℕ) (settings : Settings) (draft : DraftValue) (p : PlanValue) → AreInRange settings → IsPlanOf settings (grouped_of draft settings.register) p → Holds a p Registers
registers_held a settings draft p range plan r g at =
    let registers = (grouped_of draft settings.register).registers in
    let h = zip_forth IsSameRegister p.registers registers r g plan.registers at in
    let counts = at_place (λ (g : RegisterValue). (1 ≤ length g.cells) × (length g.cells ≤ settings.register)) registers r h.0 (register_counts draft settings.register range.register_least) h.1 in
    let long = zip_long IsSameCell g.cells h.0.cells h.2 in
    let mask = at_place (λ (g : RegisterValue). IsLeast (IsFullMask (length g.cells)) g.mask) p.registers r g plan.masks at in
    let low = counts.0 in
    let high = counts.1 in
    let most = range.register_most in
    record { some = omega (arith, low, long); few = omega (arith, high, long, most); mask_fits = mask.holds.mask_fits }
