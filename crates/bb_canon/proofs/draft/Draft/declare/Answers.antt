use Rattle.std.proofs.Common.{◌≡◌, Some, Err, ap, sym, subst, ◌∙◌}
use Rattle.bb_base.specs.declared.variable.Variable.{Variable}
use Rattle.bb_base.specs.Named.{lookup_of}
use Rattle.bb_base.specs.Variables.{is_port}
use Rattle.bb_base.specs.Building.{with_variable, IsTooMany}
use Rattle.bb_canon.specs.Faults.{IsWant}
use Rattle.bb_canon.proofs.Declaring.{declared_follows, declared_step, declare_want}
use Rattle.bb_canon.proofs.draft.Draft.declare.Goals as goal

pub returns-then-not-may_come-clause-want : goal.returns-then-not-may_come-clause-want
returns-then-not-may_come-clause-want c = λ a v left h d name variable clock.
    let port = c.is_port_role-port.ensures ∙ ap (λ (u : Variable). is_port u.role) variable in
    let follows = declared_follows a c.args.self.now v left c.is_port_role-port.result h d port in
    let value = c.may_come.ensures.value in
    let t = c.if-not-may_come.true in
    cc (follows, value, t)

pub returns-in-Ok-clause-declared : goal.returns-in-Ok-clause-declared
returns-in-Ok-clause-declared c = λ a v left h d name variable clock.
    let placed = c.clock_place-clock.ensures.placed a v left h d name variable clock in
    declared_step a c.args.self.now c.variable.new.self v left c.args.name c.args.variable c.clock_place-clock.result h d name variable placed c.clock_place-clock.ensures.may
    (c.in-Ok.ensures.ok ∙ ap (λ n. with_variable n c.args.name c.args.variable c.clock_place-clock.result) c.self.view_is)

pub returns-in-Err-clause-want : goal.returns-in-Err-clause-want
returns-in-Err-clause-want c = λ a v left h d name variable clock.
    let placed = c.clock_place-clock.ensures.placed a v left h d name variable clock in
    subst IsWant (sym c.from.ensures) (declare_want a c.args.self.now v left c.args.name c.args.variable c.clock_place-clock.result c.in-Err.fault h d name variable placed c.in-Err.ensures.only
    (λ number e. subst (λ n. lookup_of c.args.name n ≡ Some number) c.self.view_is ((c.in-Err.ensures.redeclared number).0 (ap Err e)))
    (λ count limit e. subst (λ n. IsTooMany n c.args.name c.args.variable c.clock_place-clock.result count limit) c.self.view_is ((c.in-Err.ensures.many count limit).0 (ap Err e))))
