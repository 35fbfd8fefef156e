use Rattle.std.proofs.Common.{◌+◌, ◌++◌, ◌∷◌, [], List, Some, take, sym, ap, subst, ◌∙◌, slice_get}
use Rattle.std.proofs.lemmas.Option.{slice_get-get_or}
use Rattle.std.specs.List.{AllZip}
use Rattle.bb_terms.specs.Plan.{RegisterValue, PlanValue}
use Rattle.bb_sign.specs.Compactors.{IsCompactor}
use Rattle.bb_sign.proofs.ZipLemmas.{zip_more}
use Rattle.bb_sign.proofs.compactors.compactors_of.Goals as goal

pub compactor_of-requires-clause-stands : goal.compactor_of-requires-clause-stands
compactor_of-requires-clause-stands c =
    let registers = c.deref-register-items.ensures.value ∙ ap (λ (q : PlanValue). q.registers) c.plan.view_is in (
      c.registers.register-index,
      ap (λ (gs : List RegisterValue). slice_get gs c.registers.register-index) (sym registers)
          ∙ (slice_get-get_or c.deref-register-items.result.now c.registers.register-index c.register-item.result c.registers-test.true ∙ ap Some (sym c.register-item.is)),
    )

pub registers-preserved : goal.registers-preserved
registers-preserved c =
    let registers = c.deref-register-items.ensures.value ∙ ap (λ (q : PlanValue). q.registers) c.plan.view_is in
    let so_far = subst (λ (gs : List RegisterValue). AllZip (IsCompactor c.args.netlist.now) (take c.registers.register-index gs) c.registers.compactors.items) (sym registers) c.registers.invariant in
    let more = zip_more (IsCompactor c.args.netlist.now) c.deref-register-items.result.now c.registers.compactors.items c.registers.register-index c.register-item.result c.in_ok-compactor_of.field-0 c.registers-test.true c.register-item.is so_far c.in_ok-compactor_of.ensures in
    subst (AllZip (IsCompactor c.args.netlist.now) (take (c.registers.register-index + 1) c.args.plan.now.registers)) (sym c.in_ok-push.ensures.items)
    (subst (λ (gs : List RegisterValue). AllZip (IsCompactor c.args.netlist.now) (take (c.registers.register-index + 1) gs) (c.registers.compactors.items ++ c.in_ok-compactor_of.field-0 ∷ [])) registers more)
