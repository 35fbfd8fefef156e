use Rattle.std.proofs.Common.{◌≡◌, ◌∙◌, ap, sym, subst, refl, length, All, Some, slice_get}
use Rattle.std.proofs.lemmas.Option.{slice_get_read}
use Rattle.std.proofs.lemmas.List.Elements.{All-from_recursion, recursion_from_All}
use Rattle.bb_terms.specs.Plan.{RegisterValue, chain}
use Rattle.bb_lay.specs.Tables.{IsOn}
use Rattle.bb_lay.proofs.TableLemmas.{register_inside}
use Rattle.bb_lay.proofs.cells.push_registers.Goals as goal

pub push_register-requires-clause-within : goal.push_register-requires-clause-within
push_register-requires-clause-within c =
    let gs = c.args.plan.now.registers in
    let same : c.deref-register-items.result.now ≡ gs = c.deref-register-items.ensures.value ∙ ap (λ v. v.registers) c.plan.view_is in
    let g : RegisterValue = c.register-item.result in
    let r = c.registers.r in
    let at : slice_get c.deref-register-items.result.now r ≡ Some g = slice_get_read c.deref-register-items.result.now (length c.deref-register-items.result.now) r g refl c.registers-test.true c.register-item.is in
    let cells : c.deref-cells.result.now ≡ g.cells = c.deref-cells.ensures.value ∙ ap (λ v. v.cells) c.register.view_is in
    let P = IsOn (length c.args.ds.now) in
    subst (All P) (sym cells) (All-from_recursion P g.cells (register_inside P gs r g (subst (λ ks. slice_get ks r ≡ Some g) same at) (recursion_from_All P (chain c.args.plan.now) c.requires.within)))
