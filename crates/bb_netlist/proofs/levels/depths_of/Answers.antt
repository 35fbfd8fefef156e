use Rattle.std.proofs.Common.{arith, ◌≡◌, ◌∙◌, ap, sym, subst, ℕ, List, Some, length, cond, ◌&&◌, ◌==◌, slice_get, slice_index}
use Rattle.std.specs.Prelude.{Option, nat_lt}
use Rattle.bb_base.specs.Net.{Gate, times}
use Rattle.bb_base.specs.Levels.{IsWork, AreDepths, work, depth_in, open_count}
use Rattle.bb_base.proofs.Lists.{whole_written}
use Rattle.bb_netlist.proofs.WorkLemmas.{first_work, work_done}
use Rattle.bb_netlist.proofs.levels.depths_of.Goals as goal

pub take_all-requires-clause-work : goal.take_all-requires-clause-work
take_all-requires-clause-work c =
    let depths = c.in_ok-depths.depths.items in
    let waits = c.in_ok-waits.waits.items in
    let ready = c.in_ok-ready.ready.items in
    let gates = c.args.gates.now in
    let long = c.in_ok-depths.ensures.long in
    let counts : (h : ℕ) (g : Gate ℕ) → slice_get gates h ≡ Some g → slice_index waits h ≡ open_count (depth_in depths) g.ins =
    λ h g at. c.in_ok-waits.ensures.each h g at ∙ ap (λ rs. open_count (depth_in rs) g.ins) c.deref.ensures.value in
    let start : (h : ℕ) → times h ready ≡ cond (nat_lt h (length waits) && slice_index waits h == 0) 1 0 = λ h. c.in_ok-ready.ensures h ∙ ap (λ (ws : List ℕ). cond (nat_lt h (length ws) && slice_index ws h == 0) 1 0) c.deref-2.ensures.value in
    let first = first_work c.args.nets gates depths waits ready c.requires long c.in_ok-waits.ensures.long c.in_ok-depths.ensures.each c.in_ok-depths.ensures.few counts start in
    let counted = subst (λ n. IsWork n gates (work depths waits ready)) (sym long) first in
    subst (λ (rs : List (Option ℕ)). IsWork (length rs) gates (work rs c.deref_mut-2.result.now ready)) (sym c.deref_mut.ensures.value)
    (subst (λ (ws : List ℕ). IsWork (length depths) gates (work depths ws ready)) (sym c.deref_mut-2.ensures.value) counted)

pub returns-clause-by_depth : goal.returns-clause-by_depth
returns-clause-by_depth c =
    let new = c.take_all.new.depths in
    let long : length new ≡ length c.in_ok-depths.depths.items = c.take_all.ensures.long ∙ ap length c.deref_mut.ensures.value in
    let whole = whole_written c.in_ok-depths.depths.len c.in_ok-depths.depths.items new (omega arith) long in
    let done = work_done (length c.deref_mut.result.now) c.args.gates.now new c.take_all.new.waits c.in_ok-take_all.ensures.work in
    let nets : length c.deref_mut.result.now ≡ c.args.nets = ap length c.deref_mut.ensures.value ∙ c.in_ok-depths.ensures.long in
    subst (λ (rs : List (Option ℕ)). AreDepths c.args.nets c.args.gates.now (depth_in rs)) (sym whole) (subst (λ n. AreDepths n c.args.gates.now (depth_in new)) nets done)
