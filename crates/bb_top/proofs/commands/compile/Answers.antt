use Rattle.std.proofs.Common.{sym, subst, ap, Err}
use Rattle.bb_words.specs.Commands.{Compile}
use Rattle.bb_read.specs.Files.{AreApart}
use Rattle.bb_top.proofs.FileLemmas.{files_apart}
use Rattle.bb_top.proofs.EndLemmas.{stopped_is, finished_is}
use Rattle.bb_top.proofs.commands.compile.Goals as goal

pub finish-requires-clause-apart : goal.finish-requires-clause-apart
finish-requires-clause-apart g c =
    let is = c.in-Ok.ensures.prepared in
    subst AreApart (sym is.files) (files_apart (Compile c.args.input.now c.args.prefix.now c.args.settings.now) is.made)

pub returns-in-Ok-clause-answered : goal.returns-in-Ok-clause-answered
returns-in-Ok-clause-answered g c =
    let is = c.in-Ok.ensures.prepared in
    finished_is (g.S.Store.holds c.prepare.new.store) (g.S.Store.write_faults c.prepare.new.store) is.made c.in-Ok.prepared.files c.in-Ok.prepared.line c.finish.result
    c.prepare.ensures.contents c.prepare.ensures.write_faults
    (record {
      made_for = is.made_of;
      files_are = is.files;
      line_is = is.line;
      never = λ refusal has. c.made_or_refused.ensures.texts c.args.settings.now has.0 is.made refusal (is.made_of has.0 has.1) has.2;
    })
    (record { known = c.finish.ensures.status; done = c.finish.ensures.done; write = c.finish.ensures.write; others = c.finish.ensures.others })

pub returns-in-Err-clause-answered : goal.returns-in-Err-clause-answered
returns-in-Err-clause-answered g c =
    let by = c.stopped.ensures in
    stopped_is c.in-Err.stop c.stopped.result
    (record {
      read = λ e. c.in-Err.ensures.read (ap Err e);
      refused = λ refusal e. c.in-Err.ensures.refused refusal (ap Err e);
      same = c.prepare.ensures.contents;
      never = λ refusal e needs.
          let fit = needs.2 in
          c.room_is_enough.ensures.texts c.args.settings.now needs.0 fit.original fit.room.order refusal c.requires.settings fit.short fit.readable fit.room.ordered fit.room.enough
          (c.in-Err.ensures.refused refusal (ap Err e) needs.0 needs.1);
    })
    (record { known = by.known; not_done = by.not_done; not_usage = by.not_usage; refused = by.refused; read = by.read; write = by.write; memory = by.memory })
