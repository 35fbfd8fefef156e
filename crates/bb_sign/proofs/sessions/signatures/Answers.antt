use Rattle.std.proofs.Common.{arith, ◌≡◌, ◌<◌, ℕ, List, length, map, sym, ap, subst, ◌∙◌, slice_index, All}
use Rattle.bb_base.proofs.Lists.{whole_written}
use Rattle.bb_terms.specs.Plan.{PlanValue}
use Rattle.bb_sign.specs.Compactors.{IsCompactor, AreSigned}
use Rattle.bb_sign.proofs.ZipLemmas.{zip_long}
use Rattle.bb_sign.proofs.SessionLemmas.{sessions_within, signatures_are, of_items, put_is}
use Rattle.bb_sign.proofs.GrowthLemmas.{signed_none, held_none}
use Rattle.bb_sign.proofs.sessions.signatures.Goals as goal

pub walk-requires-clause-held : goal.walk-requires-clause-held
walk-requires-clause-held c =
    let long : length c.deref_mut-3.result.now ≡ length c.deref-2.result.now = omega (arith, ap length c.deref_mut-3.ensures.value, c.in_ok-held.ensures.long, c.len-2.ensures, c.in_ok-compactors.compactors.ok, ap length c.deref-2.ensures.value) in
    held_none c.deref-2.result.now c.deref_mut-3.result.now long (λ r. ap (λ (hs : List ℕ). slice_index hs r) c.deref_mut-3.ensures.value ∙ c.in_ok-held.ensures.zero r)

pub walk-requires-clause-zero : goal.walk-requires-clause-zero
walk-requires-clause-zero c = signed_none c.args.netlist.now c.plan-plan.result.now c.deref_mut-3.result.now (λ r. ap (λ (hs : List ℕ). slice_index hs r) c.deref_mut-3.ensures.value ∙ c.in_ok-held.ensures.zero r)

pub put_all-requires : goal.put_all-requires
put_all-requires c =
    let a = c.args.netlist.now in
    let p = c.args.valid.now.plan in
    let held = c.deref-3.ensures.value ∙ whole_written c.in_ok-held.held.len c.in_ok-held.held.items c.walk.new.held (omega arith) (c.walk.auto.held ∙ ap length c.deref_mut-3.ensures.value) in
    let sessions = c.in_ok-lists.ensures ∙ c.deref.ensures.value ∙ ap (λ (q : PlanValue). q.sessions) c.plan.view_is ∙ ap (λ (q : PlanValue). q.sessions) c.plan-plan.ensures in
    let each = zip_long (IsCompactor a) c.plan-plan.result.now.registers c.in_ok-compactors.compactors.items c.in_ok-compactors.ensures in
    let registers = ap (λ (q : PlanValue). length q.registers) c.plan-plan.ensures in
    let long : length p.registers ≡ length c.deref-3.result.now = omega (arith, ap length held, c.walk.ensures.long, ap length c.deref_mut-3.ensures.value, c.in_ok-held.ensures.long, c.len-2.ensures, c.in_ok-compactors.compactors.ok, each, registers) in
    of_items (λ session. All (λ r. r < length c.deref-3.result.now) session) (λ list. list.items) c.in_ok-lists.lists.items p.sessions sessions
    (subst (λ n. All (λ session. All (λ r. r < n) session) p.sessions) long (sessions_within a p c.requires.valid.plan_valid))

pub returns : goal.returns
returns c =
    let a = c.args.netlist.now in
    let p = c.args.valid.now.plan in
    let held = c.deref-3.ensures.value ∙ whole_written c.in_ok-held.held.len c.in_ok-held.held.items c.walk.new.held (omega arith) (c.walk.auto.held ∙ ap length c.deref_mut-3.ensures.value) in
    let signed = subst (AreSigned a p) (sym held) (subst (λ (q : PlanValue). AreSigned a q c.walk.new.held) c.plan-plan.ensures c.walk.ensures.signed) in
    let sessions = c.in_ok-lists.ensures ∙ c.deref.ensures.value ∙ ap (λ (q : PlanValue). q.sessions) c.plan.view_is ∙ ap (λ (q : PlanValue). q.sessions) c.plan-plan.ensures in
    record {
      signatures = signatures_are a p c.deref-3.result.now (map (λ list. list.items) c.put_all.new.lists.items) c.nets.ensures.netlist c.requires.valid.plan_valid signed
          (put_is (λ list. list.items) c.in_ok-lists.lists.items c.put_all.new.lists.items p.sessions c.deref-3.result.now sessions c.put_all.ensures);
    }
