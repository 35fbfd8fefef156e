use Rattle.std.proofs.Common.{arith, ◌≡◌, ◌≤◌, ◌∙◌, refl, ap, subst, length, Some, slice_get}
use Rattle.std.proofs.lemmas.Grind.{common_steps}
use Rattle.std.proofs.lemmas.Option.{slice_get_read}
use Rattle.bb_terms.specs.Plan.{RegisterValue}
use Rattle.bb_terms.proofs.ChainLemmas.{cells_next, no_cells}
use Rattle.bb_terms.proofs.plan.Plan.cells.Goals as goal

pub registers-init : goal.registers-init
registers-init c = record { fits = omega arith; all = omega arith }

pub registers-preserved : goal.registers-preserved
registers-preserved c =
    let same : c.deref-register-items.result.now ≡ c.args.self.now.registers = c.deref-register-items.ensures.value ∙ ap (λ v. v.registers) c.self.view_is in
    let g : RegisterValue = c.register-item.result in
    let at : slice_get c.deref-register-items.result.now c.registers.register-index ≡ Some g = slice_get_read c.deref-register-items.result.now (length c.deref-register-items.result.now) c.registers.register-index g refl c.registers-test.true c.register-item.is in
    let next = cells_next c.args.self.now.registers c.registers.register-index g (subst (λ gs. slice_get gs c.registers.register-index ≡ Some g) same at) in
    let long : c.len.result ≡ length g.cells = grind (arith, common_steps, c.len.ensures, c.register.view_is) in
    record {
      fits = omega (arith, c.saturating_add-count.type_inv);
      all = omega (arith, next, long, c.saturating_add-count.ensures, c.registers.invariant.all);
    }

pub returns : goal.returns
returns c =
    let same : c.deref-register-items.result.now ≡ c.args.self.now.registers = c.deref-register-items.ensures.value ∙ ap (λ v. v.registers) c.self.view_is in
    let end : length c.args.self.now.registers ≤ c.registers.register-index = subst (λ gs. length gs ≤ c.registers.register-index) same c.registers-test.false in
    let none = no_cells c.args.self.now.registers c.registers.register-index end in
    omega (arith, none, c.registers.invariant.fits, c.registers.invariant.all)
