use Rattle.std.proofs.Common.{ap, Err}
use Rattle.bb_top.proofs.EndLemmas.{stopped_is, passed_is, unsaid_pass_is}
use Rattle.bb_top.proofs.commands.check.Goals as goal

pub returns-in-Ok-put-clause-answered : goal.returns-in-Ok-put-clause-answered
returns-in-Ok-put-clause-answered g c =
    let passed = c.in-Ok.ensures.passes in
    passed_is passed c.check.ensures.contents (λ refusal has. c.in-Ok.ensures.always_refused has.0 refusal has.1 has.2) c.in-Ok-put.ensures.all

pub returns-in-Err-put-clause-answered : goal.returns-in-Err-put-clause-answered
returns-in-Err-put-clause-answered g c =
    unsaid_pass_is c.in-Ok.ensures.passes c.check.ensures.contents c.in-Err-put.ensures.cause.failed c.in-Err-put.ensures.front

pub returns-in-Err-clause-answered : goal.returns-in-Err-clause-answered
returns-in-Err-clause-answered g c =
    let by = c.stopped.ensures in
    stopped_is c.in-Err.stop c.stopped.result
    (record {
      read = λ e. c.in-Err.ensures.read (ap Err e);
      refused = λ refusal e. c.in-Err.ensures.refused refusal (ap Err e);
      same = c.check.ensures.contents;
      never = λ refusal e needs. c.in-Err.ensures.complete needs.0 refusal needs.1 needs.2 (ap Err e);
    })
    (record { known = by.known; not_done = by.not_done; not_usage = by.not_usage; refused = by.refused; read = by.read; write = by.write; memory = by.memory })
