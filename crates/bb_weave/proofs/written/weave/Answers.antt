use Rattle.std.proofs.Common.{◌≡◌, ◌∙◌, ℕ, List, length, map, ap, sym, subst}
use Rattle.std.specs.List.{range_with_len}
use Rattle.bb_base.specs.Net.{renamed_gate, renamed_flop}
use Rattle.bb_base.specs.Order.{HasOrder}
use Rattle.bb_base.specs.Named.{Named, IsByBits}
use Rattle.bb_base.specs.Building.{with_gates, with_flops}
use Rattle.bb_net.specs.Sites.{sited}
use Rattle.bb_terms.specs.Plan.{chain}
use Rattle.bb_terms.specs.declared.wire.Wire.TheVariants.{Kept}
use Rattle.bb_terms.specs.Reads.{qs_from}
use Rattle.bb_terms.specs.Numbering.{net_at}
use Rattle.bb_normal.specs.Normal.{Normal}
use Rattle.bb_weave.specs.Woven.{AreNetsOf}
use Rattle.bb_weave.specs.Filling.{CanFill}
use Rattle.bb_weave.proofs.WovenLemmas.{all_rows, laid_fill, is_written, is_driven, is_clocked, is_ordered, is_normal, by_bits, kept_nets, cell_nets}
use Rattle.bb_weave.proofs.written.weave.Goals as goal

pub fill-requires-clause-can : goal.fill-requires-clause-can
fill-requires-clause-can c =
    let l = c.in_ok-laid.laid in
    let h = c.in_ok-laid.ensures in
    subst (λ ks. CanFill l.builder ks c.args.valid.now.plan l.rows) (sym c.deref.ensures.value)
    (laid_fill c.args.named.now l.builder c.args.valid.now.plan l.kept.items l.rows c.netlist-original.ensures.named c.requires.own c.requires.valid.plan_valid c.requires.few h.adds h.laid h.kept h.rows)

pub finished-requires-clause-clock : goal.finished-requires-clause-clock
finished-requires-clause-clock c =
    let l = c.in_ok-laid.laid in
    let h = c.in_ok-laid.ensures in
    let a = c.args.named.now in
    let p = c.args.valid.now.plan in
    let b = l.builder in
    let n = c.fill.new.builder in
    let kept : List ℕ = l.kept.items in
    let e : n ≡ with_flops (with_gates b (map (renamed_gate (net_at b kept)) (all_rows p l.rows))) (map (renamed_flop (net_at b kept)) l.rows.flops.items) =
    c.in_ok-cells.ensures.filled ∙ ap (λ ks. with_flops (with_gates b (map (renamed_gate (net_at b ks)) (all_rows p l.rows))) (map (renamed_flop (net_at b ks)) l.rows.flops.items)) c.deref.ensures.value in
    is_clocked a b p kept l.rows c.netlist-original.ensures.named c.requires.own c.requires.valid.plan_valid c.requires.few h.adds h.laid h.kept h.rows n e

pub finished-requires-clause-once : goal.finished-requires-clause-once
finished-requires-clause-once c =
    let l = c.in_ok-laid.laid in
    let h = c.in_ok-laid.ensures in
    let a = c.args.named.now in
    let p = c.args.valid.now.plan in
    let b = l.builder in
    let n = c.fill.new.builder in
    let kept : List ℕ = l.kept.items in
    let e : n ≡ with_flops (with_gates b (map (renamed_gate (net_at b kept)) (all_rows p l.rows))) (map (renamed_flop (net_at b kept)) l.rows.flops.items) =
    c.in_ok-cells.ensures.filled ∙ ap (λ ks. with_flops (with_gates b (map (renamed_gate (net_at b ks)) (all_rows p l.rows))) (map (renamed_flop (net_at b ks)) l.rows.flops.items)) c.deref.ensures.value in
    is_driven a b p kept l.rows c.netlist-original.ensures.named c.requires.own c.requires.valid.plan_valid c.requires.few h.adds h.laid h.kept h.rows n e

pub order_of-requires : goal.order_of-requires
order_of-requires c =
    let l = c.in_ok-laid.laid in
    let h = c.in_ok-laid.ensures in
    let a = c.args.named.now in
    let p = c.args.valid.now.plan in
    let b = l.builder in
    let n = c.fill.new.builder in
    let kept : List ℕ = l.kept.items in
    let e : n ≡ with_flops (with_gates b (map (renamed_gate (net_at b kept)) (all_rows p l.rows))) (map (renamed_flop (net_at b kept)) l.rows.flops.items) =
    c.in_ok-cells.ensures.filled ∙ ap (λ ks. with_flops (with_gates b (map (renamed_gate (net_at b ks)) (all_rows p l.rows))) (map (renamed_flop (net_at b ks)) l.rows.flops.items)) c.deref.ensures.value in
    subst (λ (k : Named). HasOrder k.netlist.gates) (sym c.in_ok-woven.ensures.named) (is_ordered a b p kept l.rows c.netlist-original.ensures.named c.requires.own c.requires.valid.plan_valid c.requires.few h.adds h.laid h.kept h.rows n e c.in_ok-woven.ensures.valid)

pub returns-clause-written : goal.returns-clause-written
returns-clause-written c =
    let l = c.in_ok-laid.laid in
    let h = c.in_ok-laid.ensures in
    let a = c.args.named.now in
    let p = c.args.valid.now.plan in
    let b = l.builder in
    let n = c.fill.new.builder in
    let kept : List ℕ = l.kept.items in
    let e : n ≡ with_flops (with_gates b (map (renamed_gate (net_at b kept)) (all_rows p l.rows))) (map (renamed_flop (net_at b kept)) l.rows.flops.items) =
    c.in_ok-cells.ensures.filled ∙ ap (λ ks. with_flops (with_gates b (map (renamed_gate (net_at b ks)) (all_rows p l.rows))) (map (renamed_flop (net_at b ks)) l.rows.flops.items)) c.deref.ensures.value in
    ap sited c.in_ok-woven.ensures.named ∙ is_written a b p kept l.rows c.netlist-original.ensures.named c.requires.own c.requires.valid.plan_valid c.requires.few h.adds h.laid h.kept h.rows n e c.in_ok-woven.ensures.valid.consistent

pub returns-clause-by_bits : goal.returns-clause-by_bits
returns-clause-by_bits c =
    let l = c.in_ok-laid.laid in
    let h = c.in_ok-laid.ensures in
    let a = c.args.named.now in
    let p = c.args.valid.now.plan in
    let b = l.builder in
    let n = c.fill.new.builder in
    let kept : List ℕ = l.kept.items in
    let e : n ≡ with_flops (with_gates b (map (renamed_gate (net_at b kept)) (all_rows p l.rows))) (map (renamed_flop (net_at b kept)) l.rows.flops.items) =
    c.in_ok-cells.ensures.filled ∙ ap (λ ks. with_flops (with_gates b (map (renamed_gate (net_at b ks)) (all_rows p l.rows))) (map (renamed_flop (net_at b ks)) l.rows.flops.items)) c.deref.ensures.value in
    subst IsByBits (sym c.in_ok-woven.ensures.named) (by_bits a b p kept l.rows c.netlist-original.ensures.named c.requires.own c.requires.valid.plan_valid c.requires.few h.adds h.laid h.kept h.rows n e)

pub returns-clause-kept : goal.returns-clause-kept
returns-clause-kept c =
    let l = c.in_ok-laid.laid in
    let h = c.in_ok-laid.ensures in
    let a = c.args.named.now in
    let p = c.args.valid.now.plan in
    let b = l.builder in
    let n = c.fill.new.builder in
    let kept : List ℕ = l.kept.items in
    let e : n ≡ with_flops (with_gates b (map (renamed_gate (net_at b kept)) (all_rows p l.rows))) (map (renamed_flop (net_at b kept)) l.rows.flops.items) =
    c.in_ok-cells.ensures.filled ∙ ap (λ ks. with_flops (with_gates b (map (renamed_gate (net_at b ks)) (all_rows p l.rows))) (map (renamed_flop (net_at b ks)) l.rows.flops.items)) c.deref.ensures.value in
    subst (λ (k : Named). AreNetsOf a k (map Kept (range_with_len 0 (length a.names))) kept) (sym c.in_ok-woven.ensures.named) (kept_nets a b p kept l.rows c.netlist-original.ensures.named c.requires.own c.requires.valid.plan_valid c.requires.few h.adds h.laid h.kept h.rows n e c.in_ok-woven.ensures.valid.consistent)

pub returns-clause-cells : goal.returns-clause-cells
returns-clause-cells c =
    let l = c.in_ok-laid.laid in
    let h = c.in_ok-laid.ensures in
    let a = c.args.named.now in
    let p = c.args.valid.now.plan in
    let b = l.builder in
    let n = c.fill.new.builder in
    let kept : List ℕ = l.kept.items in
    let e : n ≡ with_flops (with_gates b (map (renamed_gate (net_at b kept)) (all_rows p l.rows))) (map (renamed_flop (net_at b kept)) l.rows.flops.items) =
    c.in_ok-cells.ensures.filled ∙ ap (λ ks. with_flops (with_gates b (map (renamed_gate (net_at b ks)) (all_rows p l.rows))) (map (renamed_flop (net_at b ks)) l.rows.flops.items)) c.deref.ensures.value in
    subst (λ (k : Named). AreNetsOf a k (qs_from 0 (chain p)) c.in_ok-cells.cells.items) (sym c.in_ok-woven.ensures.named)
    (subst (AreNetsOf a n (qs_from 0 (chain p))) (sym (c.in_ok-cells.ensures.cells ∙ ap (λ ks. map (net_at b ks) (qs_from 0 (chain p))) c.deref.ensures.value)) (cell_nets a b p kept l.rows c.netlist-original.ensures.named c.requires.own c.requires.valid.plan_valid c.requires.few h.adds h.laid h.kept h.rows n e c.in_ok-woven.ensures.valid.consistent))

pub returns-clause-normal : goal.returns-clause-normal
returns-clause-normal c =
    let l = c.in_ok-laid.laid in
    let h = c.in_ok-laid.ensures in
    let a = c.args.named.now in
    let p = c.args.valid.now.plan in
    let b = l.builder in
    let n = c.fill.new.builder in
    let kept : List ℕ = l.kept.items in
    let e : n ≡ with_flops (with_gates b (map (renamed_gate (net_at b kept)) (all_rows p l.rows))) (map (renamed_flop (net_at b kept)) l.rows.flops.items) =
    c.in_ok-cells.ensures.filled ∙ ap (λ ks. with_flops (with_gates b (map (renamed_gate (net_at b ks)) (all_rows p l.rows))) (map (renamed_flop (net_at b ks)) l.rows.flops.items)) c.deref.ensures.value in
    subst (λ (k : Named). Normal (sited a).netlist (sited k).netlist) (sym c.in_ok-woven.ensures.named) (is_normal a b p kept l.rows c.netlist-original.ensures.named c.requires.own c.requires.valid.plan_valid c.requires.few h.adds h.laid h.kept h.rows n e c.in_ok-woven.ensures.valid)
