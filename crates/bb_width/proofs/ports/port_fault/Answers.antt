use Rattle.std.proofs.Common.{arith, ◌≡◌, subst}
use Rattle.std.specs.Prelude.{flat_map}
use Rattle.bb_scope.specs.Answers.{IsAnswer}
use Rattle.bb_scope.specs.Declarations.{item_decls, bad_port}
use Rattle.bb_scope.specs.Said.{stray_fault}
use Rattle.bb_width.proofs.TableLaws.{ports_are}
use Rattle.std.proofs.lemmas.Result.{err_from_is_err_and}
use Rattle.bb_width.proofs.ports.port_fault.Goals as goal

pub returns-in_err-odd_port : goal.returns-in_err-odd_port
returns-in_err-odd_port c =
    let e = ports_are c.args.module.now c.args.said.now.entries c.requires in
    let p = err_from_is_err_and c.from_residual.result c.from_residual.ensures.1 in
    rw (p.1, p.2)
    (λ h. let found = c.in_err-odd_port.ensures.fault h in
    grind (arith, e, found, c.new-header.ensures.empty))

pub returns : goal.returns
returns c =
    let e = ports_are c.args.module.now c.args.said.now.entries c.requires in
    let stray : stray_fault c.odd_port.new.before.keys (flat_map item_decls c.as_slice.result.now) ≡ bad_port c.args.module.now =
    grind (arith, e, c.in_ok-odd_port.ensures.fault, c.in_ok-odd_port.ensures.before, c.new-header.ensures.empty, c.as_slice.ensures) in
    subst (λ fault. IsAnswer fault c.stray_port.result) stray c.stray_port.ensures
