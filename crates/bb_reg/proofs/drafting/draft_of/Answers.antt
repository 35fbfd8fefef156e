use Rattle.std.proofs.Common.{arith, ◌≡◌, ◌∙◌, ◌++◌, ℕ, length, map, not, ap}
use Rattle.bb_base.proofs.Lists.{length_map}
use Rattle.bb_base.specs.Net.{Flop}
use Rattle.bb_terms.specs.Paths.{AtNet}
use Rattle.bb_terms.specs.Support.{AreLeaves, stop_at}
use Rattle.bb_terms.specs.declared.kind.Kind.TheVariants.{State, Watch, Cut, Output}
use Rattle.bb_reg.specs.Draft.{those, bare_cell, source_cells}
use Rattle.bb_reg.specs.LineTables.{reading_in}
use Rattle.bb_reg.proofs.LineLemmas.{zip_long, reading_long}
use Rattle.bb_reg.proofs.DraftLemmas.{cells_are}
use Rattle.bb_reg.proofs.drafting.draft_of.Goals as goal

pub self_reading-requires : goal.self_reading-requires
self_reading-requires c =
    let a = c.args.netlist.now in
    let lines = map (λ k. k.items) c.args.lines.flops.items in
    let long = zip_long (λ (f : Flop ℕ) leaves. AreLeaves a.gates (stop_at c.args.stops.now) (AtNet f.d) leaves) a.flops lines c.requires.flop_lines in
    omega (arith, ap length c.deref.ensures.value, length_map (λ k. k.items) c.args.lines.flops.items, long, ap length c.flops-flops.ensures.value)

pub sources_of-requires : goal.sources_of-requires
sources_of-requires c =
    let a = c.args.netlist.now in
    let lines = map (λ k. k.items) c.args.lines.flops.items in
    let long = zip_long (λ (f : Flop ℕ) leaves. AreLeaves a.gates (stop_at c.args.stops.now) (AtNet f.d) leaves) a.flops lines c.requires.flop_lines in
    let reading : c.in_ok-reading.reading.items ≡ reading_in a.flops lines = c.in_ok-reading.ensures ∙ (λ k. reading_in (c.flops-flops.ensures.value k) (map (λ k. k.items) (c.deref.ensures.value k))) in
    omega (arith, ap length c.deref-3.ensures.value, ap length reading, reading_long a.flops lines long)

pub observers_of-requires-clause-reading : goal.observers_of-requires-clause-reading
observers_of-requires-clause-reading c =
    let a = c.args.netlist.now in
    let lines = map (λ k. k.items) c.args.lines.flops.items in
    let long = zip_long (λ (f : Flop ℕ) leaves. AreLeaves a.gates (stop_at c.args.stops.now) (AtNet f.d) leaves) a.flops lines c.requires.flop_lines in
    let reading : c.in_ok-reading.reading.items ≡ reading_in a.flops lines = c.in_ok-reading.ensures ∙ (λ k. reading_in (c.flops-flops.ensures.value k) (map (λ k. k.items) (c.deref.ensures.value k))) in
    omega (arith, ap length c.deref-4.ensures.value, ap length reading, reading_long a.flops lines long, ap length c.flops-flops.ensures.value)

pub observers_of-requires-clause-others : goal.observers_of-requires-clause-others
observers_of-requires-clause-others c =
    let a = c.args.netlist.now in
    let lines = map (λ k. k.items) c.args.lines.flops.items in
    let long = zip_long (λ (f : Flop ℕ) leaves. AreLeaves a.gates (stop_at c.args.stops.now) (AtNet f.d) leaves) a.flops lines c.requires.flop_lines in
    let reading : c.in_ok-reading.reading.items ≡ reading_in a.flops lines = c.in_ok-reading.ensures ∙ (λ k. reading_in (c.flops-flops.ensures.value k) (map (λ k. k.items) (c.deref.ensures.value k))) in
    let others : c.in_ok-others.others.items ≡ map not (reading_in a.flops lines) = c.in_ok-others.ensures ∙ ap (map not) (c.deref-2.ensures.value ∙ reading) in
    omega (arith, ap length c.deref-5.ensures.value, ap length others, length_map not (reading_in a.flops lines), reading_long a.flops lines long, ap length c.flops-flops.ensures.value)

pub leaves_of-requires-clause-reading : goal.leaves_of-requires-clause-reading
leaves_of-requires-clause-reading c =
    let a = c.args.netlist.now in
    let lines = map (λ k. k.items) c.args.lines.flops.items in
    let long = zip_long (λ (f : Flop ℕ) leaves. AreLeaves a.gates (stop_at c.args.stops.now) (AtNet f.d) leaves) a.flops lines c.requires.flop_lines in
    let reading : c.in_ok-reading.reading.items ≡ reading_in a.flops lines = c.in_ok-reading.ensures ∙ (λ k. reading_in (c.flops-flops.ensures.value k) (map (λ k. k.items) (c.deref.ensures.value k))) in
    omega (arith, ap length c.deref-6.ensures.value, ap length reading, reading_long a.flops lines long, long, length_map (λ k. k.items) c.args.lines.flops.items)

pub leaves_of-requires-clause-others : goal.leaves_of-requires-clause-others
leaves_of-requires-clause-others c =
    let a = c.args.netlist.now in
    let lines = map (λ k. k.items) c.args.lines.flops.items in
    let long = zip_long (λ (f : Flop ℕ) leaves. AreLeaves a.gates (stop_at c.args.stops.now) (AtNet f.d) leaves) a.flops lines c.requires.flop_lines in
    let reading : c.in_ok-reading.reading.items ≡ reading_in a.flops lines = c.in_ok-reading.ensures ∙ (λ k. reading_in (c.flops-flops.ensures.value k) (map (λ k. k.items) (c.deref.ensures.value k))) in
    let others : c.in_ok-others.others.items ≡ map not (reading_in a.flops lines) = c.in_ok-others.ensures ∙ ap (map not) (c.deref-2.ensures.value ∙ reading) in
    omega (arith, ap length c.deref-7.ensures.value, ap length others, length_map not (reading_in a.flops lines), reading_long a.flops lines long, long, length_map (λ k. k.items) c.args.lines.flops.items)

pub returns : goal.returns
returns c =
    let a = c.args.netlist.now in
    let own = c.args.lines in
    let lines = map (λ k. k.items) own.flops.items in
    let cut_lines = map (λ k. k.items) own.cuts.items in
    let output_lines = map (λ k. k.items) own.outputs.items in
    let cuts = c.args.cuts.now in
    let outputs = c.args.outputs.now in
    let bits = c.in_ok-reading.reading.items in
    let flops = c.flops-flops.ensures.value in
    let reading : bits ≡ reading_in a.flops lines = c.in_ok-reading.ensures ∙ (λ k. reading_in (flops k) (map (λ k. k.items) (c.deref.ensures.value k))) in
    let others : c.in_ok-others.others.items ≡ map not bits = c.in_ok-others.ensures ∙ ap (map not) c.deref-2.ensures.value in
    cells_are a cuts outputs c.args.stops.now bits c.in_ok-others.others.items lines cut_lines output_lines c.in_ok-sources.sources.items c.in_ok-observers.observers.items (map (λ k. k.items) c.in_ok-leaves.leaves.items)
    c.flops-flops.ensures.netlist c.requires.stops c.requires.outputs c.requires.flop_lines c.requires.cut_lines c.requires.output_lines reading others
    (c.in_ok-sources.ensures ∙ ap (source_cells a) c.deref-3.ensures.value)
    (c.in_ok-observers.ensures
    ∙ (λ k. map (λ (f : Flop ℕ). bare_cell State f.q) (those (c.deref-5.ensures.value k) (flops k)) ++ (map (λ (f : Flop ℕ). bare_cell Watch f.q) (those (c.deref-4.ensures.value k) (flops k)) ++ (map (bare_cell Cut) cuts ++ map (bare_cell Output) outputs))))
    (c.in_ok-leaves.ensures ∙ (λ k. those (c.deref-7.ensures.value k) lines ++ (those (c.deref-6.ensures.value k) lines ++ (cut_lines ++ output_lines))))
