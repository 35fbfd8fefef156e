-- The columns of an observer's leaves are those of the sources of its segment, so they are independent.
use Rattle.std.proofs.Common.{◌≡◌, ℕ, Bool, true, false, List, [], ◌∷◌, map, filter, refl, sym, ap, subst, ◌∙◌, Contains, slice_get, slice_index, Some, cond}
use Rattle.std.specs.Option.{option_map}
use Rattle.std.specs.List.{AllZip}
use Rattle.std.proofs.lemmas.Option.{slice_get-map, get_or_from_slice_get}
use Rattle.bb_base.proofs.Contained.{of_all, at_place, place_of, contains_at, map_on}
use Rattle.bb_base.proofs.Lists.{get_map, map_twice}
use Rattle.bb_base.specs.Net.{Netlist}
use Rattle.bb_base.specs.Span.{IsIndependent}
use Rattle.bb_code.specs.Columns.{columns_of}
use Rattle.bb_code.proofs.OneChoice.{segments_independent}
use Rattle.bb_terms.specs.declared.plan.Cell.{Cell}
use Rattle.bb_terms.specs.Kinds.{is_source}
use Rattle.bb_terms.specs.Plan.{PlanValue, chain}
use Rattle.bb_terms.specs.Lines.{column_of}
use Rattle.bb_terms.specs.Rules.{Holds, Apart, Codes}
use Rattle.bb_rules.proofs.CellLemmas.{column_is}
use Rattle.bb_reg.specs.Draft.{DraftValue, AreCells}
use Rattle.bb_reg.specs.Chosen.{GroupedValue, grouped_of}
use Rattle.bb_choose.specs.ChosenPlan.{AreCutsOf, IsSameCell}
use Rattle.bb_choose.proofs.CellRules.{apart_held}
use Rattle.bb_words.specs.declared.command.Settings.{Settings}
use Rattle.bb_choose.specs.Arranged.{sources_of_chain, source_nets, source_columns, source_number, segments_of, source_count}
use Rattle.bb_choose.specs.Choice.{IsPlanOf}
use Rattle.bb_choose.specs.Coding.{AreLeafNets}
use Rattle.bb_choose.proofs.NumberLemmas.{number_is}
use Rattle.bb_choose.proofs.CodeLemmas.{segments_fit}
use Rattle.bb_choose.proofs.ReadyLemmas.{of_filtered, ready_apart, ready_leaves}
use Rattle.bb_choose.proofs.ValidCells.{cells_in, alike}
use Rattle.bb_choose.proofs.ValidLines.{chosen, observed}

abbrev is_source_cell : Cell → Bool
is_source_cell c = is_source c.kind

abbrev net_of : Cell → ℕ
net_of c = c.net

abbrev column_in_cell : Cell → ℕ
column_in_cell c = c.column

-- the sources of cells that are the same are on the same nets
nets_alike : (cs ds : List Cell) → AllZip IsSameCell cs ds → map net_of (filter is_source_cell cs) ≡ map net_of (filter is_source_cell ds)
nets_alike [] [] same = refl
nets_alike [] (d ∷ ds) same = absurd same
nets_alike (c ∷ cs) [] same = absurd same
nets_alike (c ∷ cs) (d ∷ ds) same = by (is_source c.kind) (is_source d.kind) (ap is_source same.0.kind) (nets_alike cs ds same.1)
  where
    by : (x y : Bool) → x ≡ y → map net_of (filter is_source_cell cs) ≡ map net_of (filter is_source_cell ds)
        → map net_of (cond x (c ∷ filter is_source_cell cs) (filter is_source_cell cs)) ≡ map net_of (cond y (d ∷ filter is_source_cell ds) (filter is_source_cell ds))
    by true true e rest = λ i. same.0.net i ∷ rest i
    by true false e rest = absurd (cc e)
    by false true e rest = absurd (cc e)
    by false false e rest = rest

-- the column at a source's number is that of its net
column_there : (a : Netlist ℕ) (p : PlanValue) (number net : ℕ) → Holds a p Apart → slice_get (source_nets p.registers) number ≡ Some net → slice_index (source_columns p.registers) number ≡ column_of p net
column_there a p number net apart at =
    let sources = sources_of_chain p.registers in
    let c = get_map net_of sources number net at in
    let stands = of_filtered is_source_cell (chain p) c.0 (contains_at sources number c.0 c.1) in
    let place = place_of (chain p) c.0 stands.0 in
    let there = slice_get-map column_in_cell sources number ∙ ap (option_map column_in_cell) c.1 in
    get_or_from_slice_get (source_columns p.registers) number c.0.column 0 there ∙ (sym (column_is a p place.0 c.0 apart place.1 stands.1) ∙ ap (column_of p) c.2)

module _ (a : Netlist ℕ) (settings : Settings) (cuts : List ℕ) (draft : DraftValue) (p : PlanValue) (cuts_are : AreCutsOf a cuts) (cells : AreCells a cuts draft) (plan : IsPlanOf settings (grouped_of draft settings.register) p) where
  abbrev grouped : GroupedValue
  grouped = grouped_of draft settings.register

  abbrev nets : List ℕ
  nets = source_nets grouped.registers

  abbrev columns : List ℕ
  columns = source_columns p.registers

  -- the column of a leaf is that of its number
  leaf_column : (net : ℕ) → Contains nets net → slice_index columns (source_number nets net) ≡ column_of p net
  leaf_column net h =
      let at = place_of nets net h in
      let same : nets ≡ source_nets p.registers = sym (nets_alike (chain p) (cells_in grouped.registers) (alike settings grouped p plan)) in
      let number = number_is nets at.0 net (ready_apart a cuts draft settings.register cuts_are cells) at.1 in
      ap (slice_index columns) number ∙ column_there a p at.0 net (apart_held a cuts settings.register p cuts_are (chosen a settings cuts draft p cuts_are cells plan)) (ap (λ ns. slice_get ns at.0) (sym same) ∙ at.1)

  leaf_columns : (leaves : List ℕ) → AreLeafNets nets leaves → columns_of columns (map (source_number nets) leaves) ≡ map (column_of p) leaves
  leaf_columns leaves are =
      map_twice (slice_index columns) (source_number nets) leaves
      ∙ map_on (λ net. slice_index columns (source_number nets net)) (column_of p) leaves (λ net h. leaf_column net (of_all (Contains nets) leaves net are.sources h))

  pub codes_held : Holds a p Codes
  codes_held i c at observes =
      let line = observed a settings cuts draft p cuts_are cells plan i c at observes in
      let all = ready_leaves a cuts draft settings.register cuts_are cells in
      let each = segments_independent p.degree (source_count grouped) (segments_of grouped) columns (segments_fit grouped (ready_apart a cuts draft settings.register cuts_are cells) all) plan.columns in
      let segment = slice_get-map (map (source_number nets)) grouped.leaves i ∙ ap (option_map (map (source_number nets))) line.1 in
      let independent = at_place (λ segment. IsIndependent (columns_of columns segment)) (segments_of grouped) i (map (source_number nets) line.0) each segment in
      (line.0, line.2, subst IsIndependent (leaf_columns line.0 (at_place (AreLeafNets nets) grouped.leaves i line.0 all line.1)) independent)
