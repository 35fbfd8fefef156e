use Rattle.std.proofs.Common.{arith, ◌≡◌, ◌≤◌, ◌<◌, ◌++◌, ◌∙◌, [], List, ℕ, None, refl, sym, ap, subst, length, take, drop, Some, slice_get}
use Rattle.std.proofs.lemmas.Grind.{common_steps}
use Rattle.std.proofs.lemmas.Option.{slice_get_read, get_or_from_slice_get}
use Rattle.bb_terms.specs.Plan.{RegisterValue, sessions_of}
use Rattle.bb_terms.specs.Registers.{rows_of_register, registers_from}
use Rattle.bb_ctl.proofs.ChainLemmas.{built_first, built_more, built_room, built_all}
use Rattle.bb_ctl.proofs.registers.push_registers.Goals as goal

pub split_at-requires : goal.split_at-requires
split_at-requires c =
    let same : c.deref-register-items.result.now ≡ c.args.plan.now.registers = c.deref-register-items.ensures.value ∙ ap (λ v. v.registers) c.plan.view_is in
    let g : RegisterValue = c.register-item.result in
    let r = c.registers.r in
    let at : slice_get c.deref-register-items.result.now r ≡ Some g = slice_get_read c.deref-register-items.result.now (length c.deref-register-items.result.now) r g refl c.registers-test.true c.register-item.is in
    let long : c.len.result ≡ length g.cells = grind (arith, common_steps, c.len.ensures, c.register.view_is) in
    omega (arith, long, built_room c.args.plan.now r c.registers.before c.registers.rest.now c.registers.rows.items _ g (subst (λ gs. slice_get gs r ≡ Some g) same at) c.registers.invariant)

pub registers-init : goal.registers-init
registers-init c = built_first c.args.plan.now c.args.qs.now c.args.rows.now.items c.requires.bits

pub registers-preserved : goal.registers-preserved
registers-preserved c =
    let same : c.deref-register-items.result.now ≡ c.args.plan.now.registers = c.deref-register-items.ensures.value ∙ ap (λ v. v.registers) c.plan.view_is in
    let g : RegisterValue = c.register-item.result in
    let r = c.registers.r in
    let rest = c.registers.rest.now in
    let at : slice_get c.deref-register-items.result.now r ≡ Some g = slice_get_read c.deref-register-items.result.now (length c.deref-register-items.result.now) r g refl c.registers-test.true c.register-item.is in
    let long : c.len.result ≡ length g.cells = grind (arith, common_steps, c.len.ensures, c.register.view_is) in
    let less : r < length c.args.turns.now = omega (arith, c.registers-test.true, ap length same, c.requires.turns.long) in
    let turn : List ℕ = c.index-turns-r.result in
    let listed : slice_get c.args.turns.now r ≡ Some turn = slice_get_read c.args.turns.now (length c.args.turns.now) r turn refl less c.index-turns-r.is in
    let sessions : c.as_slice.result.now ≡ sessions_of c.args.plan.now r = c.as_slice.ensures ∙ sym (get_or_from_slice_get c.args.turns.now r turn [] listed) ∙ c.requires.turns.each r less in
    let mask : c.register.inside.mask ≡ g.mask = ap (λ v. v.mask) c.register.view_is in
    built_more c.args.plan.now r c.registers.before c.last_or-before.result rest c.split_at.result.0.now c.split_at.result.1.now c.as_slice.result.now c.registers.rows.items c.push_register.new.rows.items
    (c.args.rows.now.items ++ registers_from c.args.plan.now 0 0 None c.args.plan.now.registers) g (subst (λ gs. slice_get gs r ≡ Some g) same at) c.registers.invariant
    (c.split_at.ensures.front ∙ ap (λ n. take n rest) long) (c.split_at.ensures.back ∙ ap (λ n. drop n rest) long) sessions c.last_or-before.ensures
    (c.in_ok-push_register.ensures ∙ ap (λ m. c.registers.rows.items ++ rows_of_register r c.as_slice.result.now c.registers.before m c.split_at.result.0.now) mask)

pub returns : goal.returns
returns c =
    let same : c.deref-register-items.result.now ≡ c.args.plan.now.registers = c.deref-register-items.ensures.value ∙ ap (λ v. v.registers) c.plan.view_is in
    built_all c.args.plan.now c.registers.r c.registers.before c.registers.rest.now c.registers.rows.items _ (subst (λ gs. length gs ≤ c.registers.r) same c.registers-test.false) c.registers.invariant
