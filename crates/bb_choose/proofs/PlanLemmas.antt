-- Registers with columns and masks make the plan.
use Rattle.std.proofs.Common.{arith, ◌≡◌, ℕ, ◌<◌, ◌≤◌, Bool, true, false, List, [], ◌∷◌, ◌++◌, length, map, filter, refl, sym, ap, subst, ◌∙◌, Contains, slice_get, slice_index, get_or, Some, cond, if◌then◌else◌}
use Rattle.std.specs.Option.{option_map}
use Rattle.std.specs.List.{AllByRecursion, AllZip, flat_map}
use Rattle.std.proofs.lemmas.List.{same_lists}
use Rattle.std.proofs.lemmas.Option.{slice_get-get_or, slice_get_within, slice_get-map, get_or_from_slice_get}
use Rattle.bb_base.specs.Firsts.{IsLeast}
use Rattle.bb_base.proofs.Contained.{of_all, to_all, place_of, contains_at, contains_map}
use Rattle.bb_base.proofs.Lists.{length_map, map_join, all_parts, get_map, get_some}
use Rattle.bb_terms.specs.Register.{IsFullMask}
use Rattle.bb_terms.specs.declared.plan.Cell.{Cell}
use Rattle.bb_terms.specs.Kinds.{is_source}
use Rattle.bb_terms.specs.Plan.{RegisterValue}
use Rattle.bb_choose.specs.ChosenPlan.{IsSameCell, IsSameRegister}
use Rattle.bb_words.specs.declared.command.Settings.{Settings}
use Rattle.bb_code.specs.Columns.{AreAllColumns}
use Rattle.bb_reg.specs.Chosen.{GroupedValue, scheduled_of}
use Rattle.bb_choose.specs.Choice.{IsDegreeFor, IsPlanOf}
use Rattle.bb_choose.specs.Arranged.{source_nets, source_columns, sources_of_chain, segments_of, source_count}
use Rattle.bb_choose.specs.Coding.{AreNumbers, AreSourcesOf, HasColumn, coded_cell, coded_register}
use Rattle.bb_choose.proofs.ReadyLemmas.{in_filtered, of_filtered}

abbrev cells_of : List RegisterValue → List Cell
cells_of registers = flat_map (λ (g : RegisterValue). g.cells) registers

abbrev of_cell : Cell → ℕ
of_cell c = c.column

module _ (numbers columns masks : List ℕ) where
  abbrev code : Cell → Cell
  code = coded_cell numbers columns

  abbrev with_code : RegisterValue → RegisterValue
  with_code = coded_register numbers columns masks

  -- the same but for columns and masks
  cells_same : (cells : List Cell) → AllZip IsSameCell (map code cells) cells
  cells_same [] = tt
  cells_same (c ∷ cells) = (record { kind = refl; net = refl }, cells_same cells)

  pub registers_same : (registers : List RegisterValue) → AllZip IsSameRegister (map with_code registers) registers
  registers_same [] = tt
  registers_same (g ∷ registers) = (cells_same g.cells, registers_same registers)

  -- the chain of coded cells
  chain_coded : (registers : List RegisterValue) → cells_of (map with_code registers) ≡ map code (cells_of registers)
  chain_coded [] = refl
  chain_coded (g ∷ registers) = ap (λ cs. map code g.cells ++ cs) (chain_coded registers) ∙ sym (map_join code g.cells (cells_of registers))

  sources_coded : (cells : List Cell) → filter (λ (c : Cell). is_source c.kind) (map code cells) ≡ map code (filter (λ (c : Cell). is_source c.kind) cells)
  sources_coded [] = refl
  sources_coded (c ∷ cells) = by (is_source c.kind) (sources_coded cells)
    where
      by : (b : Bool) → filter (λ (c : Cell). is_source c.kind) (map code cells) ≡ map code (filter (λ (c : Cell). is_source c.kind) cells)
          → cond b (code c ∷ filter (λ (c : Cell). is_source c.kind) (map code cells)) (filter (λ (c : Cell). is_source c.kind) (map code cells)) ≡ map code (cond b (c ∷ filter (λ (c : Cell). is_source c.kind) cells) (filter (λ (c : Cell). is_source c.kind) cells))
      by true e = ap (λ cs. code c ∷ cs) e
      by false e = e

  -- cells that are no sources have no column
  none_bare : (c : Cell) → is_source c.kind ≡ false → (code c).column ≡ 0
  none_bare c e = (λ i. if e i then slice_index columns (slice_index numbers c.net) else 0)

  pub others_bare : (registers : List RegisterValue) → AllByRecursion (λ c. is_source c.kind ≡ false → c.column ≡ 0) (cells_of (map with_code registers))
  others_bare registers =
      let P : Cell → Type 0 = λ c. is_source c.kind ≡ false → c.column ≡ 0 in
      subst (AllByRecursion P) (sym (chain_coded registers)) (to_all P (map code (cells_of registers)) one)
    where
      one : (c : Cell) → Contains (map code (cells_of registers)) c → is_source c.kind ≡ false → c.column ≡ 0
      one c h e =
          let at = place_of (map code (cells_of registers)) c h in
          let d = get_map code (cells_of registers) at.0 c at.1 in
          subst (λ (k : Cell). is_source k.kind ≡ false → k.column ≡ 0) d.2 (none_bare d.0) e

  -- each register has its mask
  pub masks_coded : (registers : List RegisterValue) → AllByRecursion (λ g. IsLeast (IsFullMask (length g.cells)) (slice_index masks (length g.cells))) registers → AllByRecursion (λ g. IsLeast (IsFullMask (length g.cells)) g.mask) (map with_code registers)
  masks_coded [] all = tt
  masks_coded (g ∷ registers) all = (subst (λ k. IsLeast (IsFullMask k) (slice_index masks (length g.cells))) (sym (length_map code g.cells)) all.0, masks_coded registers all.1)

  -- the columns of sources
  pub columns_coded : (registers : List RegisterValue) → AreNumbers (source_nets registers) numbers → length columns ≡ length (source_nets registers) → source_columns (map with_code registers) ≡ columns
  columns_coded registers are long = ap (map of_cell) (ap (filter (λ (c : Cell). is_source c.kind)) (chain_coded registers) ∙ sources_coded (cells_of registers)) ∙ same_lists (map of_cell (map code (sources_of_chain registers))) columns whole each
    where
      whole : length (map of_cell (map code (sources_of_chain registers))) ≡ length columns
      whole = length_map of_cell (map code (sources_of_chain registers)) ∙ (length_map code (sources_of_chain registers) ∙ (sym (length_map (λ (c : Cell). c.net) (sources_of_chain registers)) ∙ sym long))

      each : (k : ℕ) (d : ℕ) → k < length (map of_cell (map code (sources_of_chain registers))) → get_or (map of_cell (map code (sources_of_chain registers))) k d ≡ get_or columns k d
      each k d small =
          let high : k < length columns = omega (arith, small, whole) in
          let item = get_some (sources_of_chain registers) k (let total = long in let mapped = length_map (λ (c : Cell). c.net) (sources_of_chain registers) in omega (arith, high, total, mapped)) in
          let c = item.0 in
          let there : slice_get (map of_cell (map code (sources_of_chain registers))) k ≡ Some (code c).column = slice_get-map of_cell (map code (sources_of_chain registers)) k ∙ ap (option_map of_cell) (slice_get-map code (sources_of_chain registers) k ∙ ap (option_map code) item.1) in
          let net : slice_get (source_nets registers) k ≡ Some c.net = slice_get-map (λ (c : Cell). c.net) (sources_of_chain registers) k ∙ ap (option_map (λ (c : Cell). c.net)) item.1 in
          let source = (of_filtered (λ (c : Cell). is_source c.kind) (cells_of registers) c (contains_at (sources_of_chain registers) k c item.1)).1 in
          let number : (code c).column ≡ slice_index columns k = (λ i. if source i then slice_index columns (slice_index numbers c.net) else 0) ∙ ap (slice_index columns) (are k c.net net) in
          let last : get_or columns k d ≡ slice_index columns k = get_or_from_slice_get columns k (get_or columns k 0) d (slice_get-get_or columns k 0 high) in
          get_or_from_slice_get (map of_cell (map code (sources_of_chain registers))) k (code c).column d there ∙ (number ∙ sym last)

  -- and each has one
  pub columns_there : (registers : List RegisterValue) → AreNumbers (source_nets registers) numbers → AllByRecursion (λ net. net < length numbers) (source_nets registers) → length columns ≡ length (source_nets registers)
      → AllByRecursion (λ g. AllByRecursion (HasColumn numbers columns) g.cells) registers
  columns_there registers are within long = all_parts (HasColumn numbers columns) (λ (g : RegisterValue). g.cells) registers (to_all (HasColumn numbers columns) (cells_of registers) one)
    where
      nets : List ℕ
      nets = source_nets registers

      stands : (c : Cell) → Contains (cells_of registers) c → is_source c.kind ≡ true → Contains nets c.net
      stands c h e = contains_map (λ (c : Cell). c.net) (sources_of_chain registers) c (in_filtered (λ (c : Cell). is_source c.kind) (cells_of registers) c h e)

      one : (c : Cell) → Contains (cells_of registers) c → HasColumn numbers columns c
      one c h = record {
        net = λ e. of_all (λ net. net < length numbers) nets c.net within (stands c h e);
        number = λ e.
            let at = place_of nets c.net (stands c h e) in
            let is = are at.0 c.net at.1 in
            let low = slice_get_within nets at.0 c.net at.1 in
            omega (arith, is, low, long);
      }

-- masks are enough
pub short_enough : (registers : List RegisterValue) (k : ℕ) → AllByRecursion (λ g. length g.cells ≤ 16) registers → k ≡ 17 → AllByRecursion (λ g. length g.cells < k) registers
short_enough registers k few is =
    to_all (λ (g : RegisterValue). length g.cells < k) registers (λ g h. let low = of_all (λ (g : RegisterValue). length g.cells ≤ 16) registers g few h in omega (arith, low, is))

-- this is the plan
pub plan_is :
    (settings : Settings) (grouped : GroupedValue) (nets numbers columns masks : List ℕ) (segments : List (List ℕ)) (degree mask : ℕ) (registers : List RegisterValue) (sessions : List (List ℕ)) → AreSourcesOf grouped nets numbers segments
    → registers ≡ map (coded_register numbers columns masks) grouped.registers → sessions ≡ scheduled_of grouped → IsLeast (IsDegreeFor settings grouped) degree
    → AreAllColumns degree (segments_of grouped) (source_count grouped) columns → IsLeast (IsFullMask degree) mask
    → AllByRecursion (λ g. IsLeast (IsFullMask (length g.cells)) (slice_index masks (length g.cells))) grouped.registers
    → IsPlanOf settings grouped (record { width = settings.width; degree = degree; mask = mask; registers = registers; sessions = sessions })
plan_is settings grouped nets numbers columns masks segments degree mask registers sessions sources is sessions_are least all full each =
    let own = grouped.registers in
    let are = subst (λ ns. AreNumbers ns numbers) sources.nets_are sources.numbers_are in
    record {
      width = refl;
      registers = subst (λ gs. AllZip IsSameRegister gs own) (sym is) (registers_same numbers columns masks own);
      sessions = sessions_are;
      degree = least;
      columns = subst (AreAllColumns degree (segments_of grouped) (source_count grouped)) (sym (ap source_columns is ∙ columns_coded numbers columns masks own are all.one_each)) all;
      others = subst (λ gs. AllByRecursion (λ c. is_source c.kind ≡ false → c.column ≡ 0) (cells_of gs)) (sym is) (others_bare numbers columns masks own);
      mask = full;
      masks = subst (AllByRecursion (λ (g : RegisterValue). IsLeast (IsFullMask (length g.cells)) g.mask)) (sym is) (masks_coded numbers columns masks own each);
    }

-- each source has a column
pub columns_all :
    (grouped : GroupedValue) (nets numbers columns : List ℕ) (segments : List (List ℕ)) (degree : ℕ) → AreSourcesOf grouped nets numbers segments → AreAllColumns degree (segments_of grouped) (source_count grouped) columns
    → AllByRecursion (λ g. AllByRecursion (HasColumn numbers columns) g.cells) grouped.registers
columns_all grouped nets numbers columns segments degree sources all =
    columns_there numbers columns [] grouped.registers (subst (λ ns. AreNumbers ns numbers) sources.nets_are sources.numbers_are) (subst (AllByRecursion (λ net. net < length numbers)) sources.nets_are sources.within) all.one_each
