use Rattle.std.proofs.Common.{ap}
use Rattle.bb_fault.specs.Work.{Work}
use Rattle.bb_drive.proofs.ClockLaws.{roots_free, labels_fed}
use Rattle.bb_drive.proofs.clock.clock_in.Goals as goal

pub origins_in-requires-clause-free : goal.origins_in-requires-clause-free
origins_in-requires-clause-free c =
    roots_free c.args.vars.now.entries c.args.work.now c.work.inside.fresh c.deref.result.now c.in_ok-roots.roots.items c.requires.driven (ap (λ (w : Work). w.fresh) c.work.view_is)
    c.deref.ensures.value c.in_ok-roots.ensures

pub clock_by-requires-clause-fed : goal.clock_by-requires-clause-fed
clock_by-requires-clause-fed c =
    labels_fed c.args.vars.now.entries c.args.work.now c.work.inside.fresh c.deref.result.now c.in_ok-roots.roots.items c.deref-2.result.now c.in_ok-labels.labels.items c.requires.within
    (ap (λ (w : Work). w.fresh) c.work.view_is) c.deref.ensures.value c.deref-2.ensures.value c.in_ok-roots.ensures c.in_ok-labels.ensures
