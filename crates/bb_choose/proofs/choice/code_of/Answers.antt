use Rattle.std.proofs.Common.{arith, ◌≡◌, ℕ, List, Err, length, sym, ap, subst, ◌∙◌, Some, slice_get}
use Rattle.std.proofs.lemmas.Option.{slice_get-get_or}
use Rattle.arrayvec.specs.ArrayVec.{ArrayVec}
use Rattle.bb_base.proofs.Lists.{length_map}
use Rattle.bb_reg.specs.Chosen.{GroupedValue}
use Rattle.bb_code.specs.declared.fault.Need.TheVariants.{Cells, Source}
use Rattle.bb_code.specs.declared.fault.DegreeFault.TheVariants.{DegreeLimit}
use Rattle.bb_code.specs.Segments.{sources_of}
use Rattle.bb_choose.specs.Arranged.{source_count, cell_count}
use Rattle.bb_choose.specs.Choice.{LacksDegree}
use Rattle.bb_choose.proofs.CodeLemmas.{sources_few}
use Rattle.bb_choose.proofs.LackLemmas.{lacks_source, lacks_cells}
use Rattle.bb_choose.proofs.choice.code_of.Goals as goal

pub overflow_cast-count : goal.overflow_cast-count
overflow_cast-count c =
    let is = c.len-count.ensures in
    let nets = ap length c.requires.sources.nets_are in
    let few = sources_few c.args.grouped.now.registers in
    let cells = c.requires.few in
    omega (arith, is, nets, few, cells)

pub index-net-requires : goal.index-net-requires
index-net-requires c =
    let arm = c.in-Err-DegreeLimit-default-Source in
    let limit = arm.ensures.limit arm.max (Source arm.source) (ap Err (arm.field-0-is ∙ ap (DegreeLimit arm.max) arm.field-0-1-is)) in
    let low = limit.1.1 in
    let is = c.len-count.ensures in
    omega (arith, low, is)

pub returns-in-Err-DegreeLimit-default-Source-clause-limit : goal.returns-in-Err-DegreeLimit-default-Source-clause-limit
returns-in-Err-DegreeLimit-default-Source-clause-limit c = λ max need e.
    let line : ArrayVec ℕ → List ℕ = λ v. v.items in
    let arm = c.in-Err-DegreeLimit-default-Source in
    let nets = c.args.sources.now.nets.items in
    let limit = arm.ensures.limit arm.max (Source arm.source) (ap Err (arm.field-0-is ∙ ap (DegreeLimit arm.max) arm.field-0-1-is)) in
    let none = arm.ensures.none arm.max (Source arm.source) in
    let low = limit.1.1 in
    let is = c.len-count.ensures in
    let net = c.index-net.result.now in
    let at : slice_get nets arm.source ≡ Some net = slice_get-get_or nets arm.source net (omega (arith, low, is)) ∙ ap Some (sym c.index-net.ensures) in
    let top : arm.max ≡ max = cc e in
    let same : Source c.net.inside.0 ≡ need = cc e in
    let number = c.len-count.ensures in
    let nets_long = ap length c.requires.sources.nets_are in
    let count : c.len-count.result ≡ source_count c.args.grouped.now = omega (arith, number, nets_long) in
    let lines = c.len-cells.ensures in
    let lines_long = length_map line c.grouped.inside.leaves.items in
    let view = ap (λ (g : GroupedValue). length g.leaves) c.grouped.view_is in
    let each = c.requires.cells in
    let cells : c.len-cells.result ≡ cell_count c.args.grouped.now = omega (arith, lines, lines_long, view, each) in
    let lacks = lacks_source c.args.settings.now c.args.grouped.now (sources_of c.deref.result.now) nets c.len-count.result c.len-cells.result arm.source net arm.max
    (ap sources_of c.deref.ensures.value ∙ c.requires.sources.segments_are) c.requires.sources.nets_are count cells at limit.0 limit.1 (λ k. none k (ap Err (arm.field-0-is ∙ ap (DegreeLimit arm.max) arm.field-0-1-is))) in
    subst (LacksDegree c.args.settings.now c.args.grouped.now max) same (subst (λ k. LacksDegree c.args.settings.now c.args.grouped.now k (Source c.net.inside.0)) top (subst (λ n. LacksDegree c.args.settings.now c.args.grouped.now arm.max (Source n)) (sym c.net.view_is) lacks))

pub returns-in-Err-DegreeLimit-default-Cells-clause-limit : goal.returns-in-Err-DegreeLimit-default-Cells-clause-limit
returns-in-Err-DegreeLimit-default-Cells-clause-limit c = λ max need e.
    let line : ArrayVec ℕ → List ℕ = λ v. v.items in
    let arm = c.in-Err-DegreeLimit-default-Cells in
    let limit = arm.ensures.limit arm.max (Cells arm.cells) (ap Err (arm.field-0-is ∙ ap (DegreeLimit arm.max) arm.field-0-1-is)) in
    let none = arm.ensures.none arm.max (Cells arm.cells) in
    let top : arm.max ≡ max = cc e in
    let same : Cells arm.cells ≡ need = cc e in
    let number = c.len-count.ensures in
    let nets_long = ap length c.requires.sources.nets_are in
    let count : c.len-count.result ≡ source_count c.args.grouped.now = omega (arith, number, nets_long) in
    let lines = c.len-cells.ensures in
    let lines_long = length_map line c.grouped.inside.leaves.items in
    let view = ap (λ (g : GroupedValue). length g.leaves) c.grouped.view_is in
    let each = c.requires.cells in
    let cells : c.len-cells.result ≡ cell_count c.args.grouped.now = omega (arith, lines, lines_long, view, each) in
    let lacks = lacks_cells c.args.settings.now c.args.grouped.now (sources_of c.deref.result.now) c.len-count.result c.len-cells.result arm.cells arm.max
    (ap sources_of c.deref.ensures.value ∙ c.requires.sources.segments_are) count cells limit.0 limit.1 (λ k. none k (ap Err (arm.field-0-is ∙ ap (DegreeLimit arm.max) arm.field-0-1-is))) in
    subst (LacksDegree c.args.settings.now c.args.grouped.now max) same (subst (λ k. LacksDegree c.args.settings.now c.args.grouped.now k (Cells arm.cells)) top lacks)
