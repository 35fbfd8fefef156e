use Rattle.std.proofs.Common.{arith, ◌≡◌, ◌∙◌, ◌++◌, map, length, length-append, ap, sym, subst}
use Rattle.std.specs.List.{AllByRecursion}
use Rattle.bb_base.specs.Net.{renamed_gate, renamed_flop}
use Rattle.bb_base.specs.Named.{Named}
use Rattle.bb_base.specs.Building.{with_gates, with_flops}
use Rattle.bb_terms.specs.Plan.{chain}
use Rattle.bb_terms.specs.Reads.{qs_from}
use Rattle.bb_terms.specs.Registers.{control_rows}
use Rattle.bb_terms.specs.Numbering.{net_at, wires_in, HasWire}
use Rattle.bb_ctl.specs.ControlNets.{ControlNetsValue}
use Rattle.bb_lay.specs.Laying.{HasBothWires}
use Rattle.bb_weave.proofs.FillLemmas.{distinct_after, stand_after, both_after, rows_joined, rows_long, all_filled}
use Rattle.bb_weave.proofs.written.fill.Goals as goal

pub lines-requires-clause-distinct : goal.lines-requires-clause-distinct
lines-requires-clause-distinct c =
    let b = c.args.builder.now in
    let kept = c.args.kept.now in
    let p = c.args.valid.now.plan in
    let rows = c.args.rows.now in
    let can = c.requires.can in
    let one : c.add_rows.new.builder ≡ with_gates b (map (renamed_gate (net_at b kept)) rows.kept.items) = c.in_ok-add_rows.ensures ∙ ap (λ ks. with_gates b (map (renamed_gate (net_at b kept)) ks)) c.deref.ensures.value in
    distinct_after b c.add_rows.new.builder (map (renamed_gate (net_at b kept)) rows.kept.items) one can.distinct

pub lines-requires-clause-stands : goal.lines-requires-clause-stands
lines-requires-clause-stands c =
    let b = c.args.builder.now in
    let kept = c.args.kept.now in
    let p = c.args.valid.now.plan in
    let rows = c.args.rows.now in
    let can = c.requires.can in
    let one : c.add_rows.new.builder ≡ with_gates b (map (renamed_gate (net_at b kept)) rows.kept.items) = c.in_ok-add_rows.ensures ∙ ap (λ ks. with_gates b (map (renamed_gate (net_at b kept)) ks)) c.deref.ensures.value in
    stand_after b c.add_rows.new.builder (map (renamed_gate (net_at b kept)) rows.kept.items) kept (wires_in (control_rows p)) one can.control_stand

pub lines-requires-clause-cells : goal.lines-requires-clause-cells
lines-requires-clause-cells c =
    let b = c.args.builder.now in
    let kept = c.args.kept.now in
    let p = c.args.valid.now.plan in
    let rows = c.args.rows.now in
    let can = c.requires.can in
    let one : c.add_rows.new.builder ≡ with_gates b (map (renamed_gate (net_at b kept)) rows.kept.items) = c.in_ok-add_rows.ensures ∙ ap (λ ks. with_gates b (map (renamed_gate (net_at b kept)) ks)) c.deref.ensures.value in
    stand_after b c.add_rows.new.builder (map (renamed_gate (net_at b kept)) rows.kept.items) kept (qs_from 0 (chain p)) one can.qs_stand

pub add_rows-requires-2-clause-distinct : goal.add_rows-requires-2-clause-distinct
add_rows-requires-2-clause-distinct c =
    let b = c.args.builder.now in
    let kept = c.args.kept.now in
    let p = c.args.valid.now.plan in
    let rows = c.args.rows.now in
    let can = c.requires.can in
    let one : c.add_rows.new.builder ≡ with_gates b (map (renamed_gate (net_at b kept)) rows.kept.items) = c.in_ok-add_rows.ensures ∙ ap (λ ks. with_gates b (map (renamed_gate (net_at b kept)) ks)) c.deref.ensures.value in
    let two : c.lines.new.builder ≡ with_gates b (map (renamed_gate (net_at b kept)) (rows.kept.items ++ control_rows p)) = rows_joined b c.add_rows.new.builder c.lines.new.builder kept rows.kept.items (control_rows p) one c.in_ok-nets.ensures.added in
    distinct_after b c.lines.new.builder (map (renamed_gate (net_at b kept)) (rows.kept.items ++ control_rows p)) two can.distinct

pub add_rows-requires-2-clause-stands : goal.add_rows-requires-2-clause-stands
add_rows-requires-2-clause-stands c =
    let b = c.args.builder.now in
    let kept = c.args.kept.now in
    let p = c.args.valid.now.plan in
    let rows = c.args.rows.now in
    let can = c.requires.can in
    let one : c.add_rows.new.builder ≡ with_gates b (map (renamed_gate (net_at b kept)) rows.kept.items) = c.in_ok-add_rows.ensures ∙ ap (λ ks. with_gates b (map (renamed_gate (net_at b kept)) ks)) c.deref.ensures.value in
    let two : c.lines.new.builder ≡ with_gates b (map (renamed_gate (net_at b kept)) (rows.kept.items ++ control_rows p)) = rows_joined b c.add_rows.new.builder c.lines.new.builder kept rows.kept.items (control_rows p) one c.in_ok-nets.ensures.added in
    subst (λ gs. AllByRecursion (HasWire c.lines.new.builder kept) (wires_in gs)) (sym c.deref-2.ensures.value) (stand_after b c.lines.new.builder (map (renamed_gate (net_at b kept)) (rows.kept.items ++ control_rows p)) kept (wires_in rows.cells.items) two can.cells_stand)

pub add_rows-requires-2-clause-few : goal.add_rows-requires-2-clause-few
add_rows-requires-2-clause-few c =
    let b = c.args.builder.now in
    let kept = c.args.kept.now in
    let p = c.args.valid.now.plan in
    let rows = c.args.rows.now in
    let can = c.requires.can in
    let one : c.add_rows.new.builder ≡ with_gates b (map (renamed_gate (net_at b kept)) rows.kept.items) = c.in_ok-add_rows.ensures ∙ ap (λ ks. with_gates b (map (renamed_gate (net_at b kept)) ks)) c.deref.ensures.value in
    let two : c.lines.new.builder ≡ with_gates b (map (renamed_gate (net_at b kept)) (rows.kept.items ++ control_rows p)) = rows_joined b c.add_rows.new.builder c.lines.new.builder kept rows.kept.items (control_rows p) one c.in_ok-nets.ensures.added in
    omega (arith, rows_long b c.lines.new.builder kept (rows.kept.items ++ control_rows p) two, length-append rows.kept.items (control_rows p), ap length c.deref-2.ensures.value, can.few_cells)

pub add_flops-requires-clause-distinct : goal.add_flops-requires-clause-distinct
add_flops-requires-clause-distinct c =
    let b = c.args.builder.now in
    let kept = c.args.kept.now in
    let p = c.args.valid.now.plan in
    let rows = c.args.rows.now in
    let can = c.requires.can in
    let one : c.add_rows.new.builder ≡ with_gates b (map (renamed_gate (net_at b kept)) rows.kept.items) = c.in_ok-add_rows.ensures ∙ ap (λ ks. with_gates b (map (renamed_gate (net_at b kept)) ks)) c.deref.ensures.value in
    let two : c.lines.new.builder ≡ with_gates b (map (renamed_gate (net_at b kept)) (rows.kept.items ++ control_rows p)) = rows_joined b c.add_rows.new.builder c.lines.new.builder kept rows.kept.items (control_rows p) one c.in_ok-nets.ensures.added in
    let third : c.add_rows-2.new.builder ≡ with_gates c.lines.new.builder (map (renamed_gate (net_at c.lines.new.builder kept)) rows.cells.items) =
    c.in_ok-add_rows-2.ensures ∙ ap (λ ks. with_gates c.lines.new.builder (map (renamed_gate (net_at c.lines.new.builder kept)) ks)) c.deref-2.ensures.value in
    let three : c.add_rows-2.new.builder ≡ with_gates b (map (renamed_gate (net_at b kept)) ((rows.kept.items ++ control_rows p) ++ rows.cells.items)) =
    rows_joined b c.lines.new.builder c.add_rows-2.new.builder kept (rows.kept.items ++ control_rows p) rows.cells.items two third in
    distinct_after b c.add_rows-2.new.builder (map (renamed_gate (net_at b kept)) ((rows.kept.items ++ control_rows p) ++ rows.cells.items)) three can.distinct

pub add_flops-requires-clause-stands : goal.add_flops-requires-clause-stands
add_flops-requires-clause-stands c =
    let b = c.args.builder.now in
    let kept = c.args.kept.now in
    let p = c.args.valid.now.plan in
    let rows = c.args.rows.now in
    let can = c.requires.can in
    let one : c.add_rows.new.builder ≡ with_gates b (map (renamed_gate (net_at b kept)) rows.kept.items) = c.in_ok-add_rows.ensures ∙ ap (λ ks. with_gates b (map (renamed_gate (net_at b kept)) ks)) c.deref.ensures.value in
    let two : c.lines.new.builder ≡ with_gates b (map (renamed_gate (net_at b kept)) (rows.kept.items ++ control_rows p)) = rows_joined b c.add_rows.new.builder c.lines.new.builder kept rows.kept.items (control_rows p) one c.in_ok-nets.ensures.added in
    let third : c.add_rows-2.new.builder ≡ with_gates c.lines.new.builder (map (renamed_gate (net_at c.lines.new.builder kept)) rows.cells.items) =
    c.in_ok-add_rows-2.ensures ∙ ap (λ ks. with_gates c.lines.new.builder (map (renamed_gate (net_at c.lines.new.builder kept)) ks)) c.deref-2.ensures.value in
    let three : c.add_rows-2.new.builder ≡ with_gates b (map (renamed_gate (net_at b kept)) ((rows.kept.items ++ control_rows p) ++ rows.cells.items)) =
    rows_joined b c.lines.new.builder c.add_rows-2.new.builder kept (rows.kept.items ++ control_rows p) rows.cells.items two third in
    subst (AllByRecursion (HasBothWires c.add_rows-2.new.builder kept)) (sym c.deref-3.ensures.value) (both_after b c.add_rows-2.new.builder (map (renamed_gate (net_at b kept)) ((rows.kept.items ++ control_rows p) ++ rows.cells.items)) kept rows.flops.items three can.flops_stand)

pub returns-clause-filled : goal.returns-clause-filled
returns-clause-filled c =
    let b = c.args.builder.now in
    let kept = c.args.kept.now in
    let p = c.args.valid.now.plan in
    let rows = c.args.rows.now in
    let can = c.requires.can in
    let one : c.add_rows.new.builder ≡ with_gates b (map (renamed_gate (net_at b kept)) rows.kept.items) = c.in_ok-add_rows.ensures ∙ ap (λ ks. with_gates b (map (renamed_gate (net_at b kept)) ks)) c.deref.ensures.value in
    let third : c.add_rows-2.new.builder ≡ with_gates c.lines.new.builder (map (renamed_gate (net_at c.lines.new.builder kept)) rows.cells.items) =
    c.in_ok-add_rows-2.ensures ∙ ap (λ ks. with_gates c.lines.new.builder (map (renamed_gate (net_at c.lines.new.builder kept)) ks)) c.deref-2.ensures.value in
    all_filled b c.add_rows.new.builder c.lines.new.builder c.add_rows-2.new.builder c.add_flops.new.builder kept rows.kept.items (control_rows p) rows.cells.items rows.flops.items one c.in_ok-nets.ensures.added third
    (c.in_ok-add_flops.ensures ∙ ap (λ fs. with_flops c.add_rows-2.new.builder (map (renamed_flop (net_at c.add_rows-2.new.builder kept)) fs)) c.deref-3.ensures.value)

pub returns-clause-cells : goal.returns-clause-cells
returns-clause-cells c =
    let b = c.args.builder.now in
    let kept = c.args.kept.now in
    let p = c.args.valid.now.plan in
    let rows = c.args.rows.now in
    let can = c.requires.can in
    let one : c.add_rows.new.builder ≡ with_gates b (map (renamed_gate (net_at b kept)) rows.kept.items) = c.in_ok-add_rows.ensures ∙ ap (λ ks. with_gates b (map (renamed_gate (net_at b kept)) ks)) c.deref.ensures.value in
    ap (λ (v : ControlNetsValue). v.cells) c.nets.view_is ∙ c.in_ok-nets.ensures.nets.cells ∙ ap (λ (k : Named). map (net_at k kept) (qs_from 0 (chain p))) one
