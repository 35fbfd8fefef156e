use Rattle.std.proofs.Common.{◌≡◌, ◌++◌, ◌+◌, ◌≤◌, ◌∙◌, refl, ap, sym, subst, drop, length, Some, slice_get, append-nil}
use Rattle.std.proofs.lemmas.Option.{slice_get_read}
use Rattle.bb_terms.specs.Plan.{RegisterValue, chain}
use Rattle.bb_terms.proofs.ChainLemmas.{cells_of}
use Rattle.bb_ctl.proofs.ChainLemmas.{cells_split}
use Rattle.bb_ctl.proofs.RowLemmas.{more}
use Rattle.bb_lay.proofs.Clocks.{drop_all}
use Rattle.bb_lay.proofs.reads.chain_of.Goals as goal

pub registers-preserved : goal.registers-preserved
registers-preserved c =
    let gs = c.args.plan.now.registers in
    let same : c.deref-register-items.result.now ≡ gs = c.deref-register-items.ensures.value ∙ ap (λ v. v.registers) c.plan.view_is in
    let g : RegisterValue = c.register-item.result in
    let r = c.registers.register-index in
    let at : slice_get c.deref-register-items.result.now r ≡ Some g = slice_get_read c.deref-register-items.result.now (length c.deref-register-items.result.now) r g refl c.registers-test.true c.register-item.is in
    let cells : c.deref.result.now ≡ g.cells = c.deref.ensures.value ∙ ap (λ v. v.cells) c.register.view_is in
    more c.registers.cells.items c.extend_from_slice.new.self.items g.cells (cells_of (drop r gs)) (cells_of (drop (r + 1) gs)) (chain c.args.plan.now) c.registers.invariant
    (c.in_ok-extend_from_slice.ensures.items ∙ ap (λ cs. c.registers.cells.items ++ cs) cells) (cells_split gs r g (subst (λ ks. slice_get ks r ≡ Some g) same at))

pub returns : goal.returns
returns c =
    let gs = c.args.plan.now.registers in
    let same : c.deref-register-items.result.now ≡ gs = c.deref-register-items.ensures.value ∙ ap (λ v. v.registers) c.plan.view_is in
    let none = drop_all c.registers.register-index gs (subst (λ ks. length ks ≤ c.registers.register-index) same c.registers-test.false) in
    sym (append-nil c.registers.cells.items) ∙ ap (λ ks. c.registers.cells.items ++ cells_of ks) (sym none) ∙ c.registers.invariant
