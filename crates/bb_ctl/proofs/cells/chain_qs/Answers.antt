use Rattle.std.proofs.Common.{◌≡◌, ◌++◌, ◌∙◌, refl, ap, subst, length, Some, slice_get}
use Rattle.std.proofs.lemmas.Option.{slice_get_read}
use Rattle.bb_terms.specs.Plan.{RegisterValue, chain}
use Rattle.bb_terms.specs.Reads.{qs_from}
use Rattle.bb_ctl.proofs.ChainLemmas.{qs_next}
use Rattle.bb_ctl.proofs.cells.chain_qs.Goals as goal

pub registers-preserved : goal.registers-preserved
registers-preserved c =
    let same : c.deref-register-items.result.now ≡ c.args.plan.now.registers = c.deref-register-items.ensures.value ∙ ap (λ v. v.registers) c.plan.view_is in
    let g : RegisterValue = c.register-item.result in
    let r = c.registers.register-index in
    let at : slice_get c.deref-register-items.result.now r ≡ Some g = slice_get_read c.deref-register-items.result.now (length c.deref-register-items.result.now) r g refl c.registers-test.true c.register-item.is in
    let cells : c.deref.result.now ≡ g.cells = c.deref.ensures.value ∙ ap (λ v. v.cells) c.register.view_is in
    qs_next c.args.plan.now.registers (chain c.args.plan.now) r c.registers.qs.items c.push_qs.new.qs.items g (subst (λ gs. slice_get gs r ≡ Some g) same at) c.registers.invariant
    (c.in_ok-push_qs.ensures ∙ ap (λ cs. c.registers.qs.items ++ qs_from (length c.registers.qs.items) cs) cells)
