use Rattle.std.proofs.Common.{arith, sym, subst, All, ap, ◌∙◌}
use Rattle.bb_base.specs.Variables.{IsEntry, bit_count}
use Rattle.std.proofs.lemmas.List.Elements.{All-from_recursion}
use Rattle.bb_base.specs.Net.{HasArity}
use Rattle.bb_fault.specs.Work.{Work}
use Rattle.bb_drive.specs.Within.{IsWithin}
use Rattle.bb_meaning.specs.Outcome.{work_in}
use Rattle.bb_elab.proofs.NameLaws.{bits_are_all}
use Rattle.bb_elab.proofs.Arities.{module-fits}
use Rattle.bb_assemble.specs.Assembling.{ArePortsFirst}
use Rattle.bb_elab.proofs.PortLaws.{fine_text, all_entries, ports_stand_first}
use Rattle.bb_scope.proofs.Counting.{module-fresh}
use Rattle.bb_elab.proofs.WithinLaws.{work_within}
use Rattle.bb_elab.proofs.outcome.named_in.Goals as goal

pub wired-requires-clause-within : goal.wired-requires-clause-within
wired-requires-clause-within c = subst IsWithin (sym c.in_ok-vars.ensures.work) (work_within c.args.module.now)

pub wired-requires-clause-entries : goal.wired-requires-clause-entries
wired-requires-clause-entries c =
    subst (All IsEntry) (sym c.in_ok-vars.ensures.vars) (all_entries c.args.module.now c.requires.sound (fine_text c.args.own c.args.module.now c.requires.fine))

pub wired-requires-clause-ports_first : goal.wired-requires-clause-ports_first
wired-requires-clause-ports_first c = subst ArePortsFirst (sym c.in_ok-vars.ensures.vars) (ports_stand_first c.args.module.now (fine_text c.args.own c.args.module.now c.requires.fine).ports)

pub wired-requires-clause-total : goal.wired-requires-clause-total
wired-requires-clause-total c =
    ap bit_count c.in_ok-vars.ensures.vars ∙ bits_are_all c.args.module.now (fine_text c.args.own c.args.module.now c.requires.fine) ∙ sym (ap (λ (w : Work). w.fresh) c.in_ok-vars.ensures.work)

pub wired-requires-clause-arities : goal.wired-requires-clause-arities
wired-requires-clause-arities c =
    subst (λ (w : Work). All HasArity w.gates) (sym c.in_ok-vars.ensures.work)
    (All-from_recursion HasArity (work_in c.args.module.now).gates (module-fits c.args.module.now c.requires.sound (fine_text c.args.own c.args.module.now c.requires.fine).parts))

pub wired-requires-clause-room : goal.wired-requires-clause-room
wired-requires-clause-room c =
    let fine = fine_text c.args.own c.args.module.now c.requires.fine in
    omega (arith, ap (λ (w : Work). w.fresh) c.in_ok-vars.ensures.work, module-fresh c.args.module.now fine.parts, fine.bits)

pub made_in-requires-clause-room : goal.made_in-requires-clause-room
made_in-requires-clause-room c =
    let fine = fine_text c.args.own c.args.module.now c.requires.fine in
    omega (arith, module-fresh c.args.module.now fine.parts, fine.bits)
