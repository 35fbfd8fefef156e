use Rattle.std.proofs.Common.{sym, subst, ap, refl, Err}
use Rattle.bb_words.specs.Commands.{Sample}
use Rattle.bb_read.specs.Files.{AreApart}
use Rattle.bb_top.proofs.FileLemmas.{files_apart}
use Rattle.bb_top.proofs.EndLemmas.{stopped_is, finished_is}
use Rattle.bb_top.proofs.commands.sample.Goals as goal

pub finish-requires-clause-apart : goal.finish-requires-clause-apart
finish-requires-clause-apart g c =
    let is = c.in-Ok.ensures.prepared in
    subst AreApart (sym is.files) (files_apart (Sample c.args.number c.args.prefix.now c.args.settings.now) is.made)

pub returns-in-Ok-clause-answered : goal.returns-in-Ok-clause-answered
returns-in-Ok-clause-answered g c =
    let is = c.in-Ok.ensures.prepared in
    finished_is (g.S.Store.holds c.args.store.now) (g.S.Store.write_faults c.args.store.now) is.made c.in-Ok.prepared.files c.in-Ok.prepared.line c.finish.result refl refl
    (record {
      made_for = is.made_of;
      files_are = is.files;
      line_is = is.line;
      never = λ refusal has. c.made_or_refused.ensures.samples c.args.settings.now c.args.number is.made refusal c.requires.least c.requires.most is.made_of has;
    })
    (record { known = c.finish.ensures.status; done = c.finish.ensures.done; write = c.finish.ensures.write; others = c.finish.ensures.others })

pub returns-in-Err-clause-answered : goal.returns-in-Err-clause-answered
returns-in-Err-clause-answered g c =
    let by = c.stopped.ensures in
    stopped_is c.in-Err.stop c.stopped.result
    (record {
      read = λ e. absurd (c.in-Err.ensures.no_read (ap Err e));
      refused = λ refusal e. c.in-Err.ensures.refused refusal (ap Err e);
      same = refl;
      never = λ refusal e room.
          c.room_is_enough.ensures.samples c.args.settings.now c.args.number room.order refusal c.requires.settings c.requires.least c.requires.most room.ordered room.enough
          (c.in-Err.ensures.refused refusal (ap Err e));
    })
    (record { known = by.known; not_done = by.not_done; not_usage = by.not_usage; refused = by.refused; read = by.read; write = by.write; memory = by.memory })
