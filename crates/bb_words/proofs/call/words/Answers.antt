use Rattle.std.proofs.Common.{ap, map, string_bytes}
use Rattle.bb_words.proofs.Reading.{in_range}
use Rattle.bb_words.proofs.Commands.{answers, answers_usage, answers_same}
use Rattle.bb_words.proofs.call.words.Goals as goal

pub compile-requires : goal.compile-requires
compile-requires c = in_range _ _ c.in-Some-said_in.said c.in-Some-said_in.ensures.said

pub sample-requires : goal.sample-requires
sample-requires c = in_range _ _ c.in-Some-said_in.said c.in-Some-said_in.ensures.said

pub returns-in-compile-clause-command : goal.returns-in-compile-clause-command
returns-in-compile-clause-command c =
    let words = ap (map (λ w. string_bytes w)) c.in-Some.ensures.cases.0 in
    answers _ _ _ c.in-Some-said_in.said c.compile.result (cc (c.as_str.ensures.value, c.in-compile.is)) c.in-Some-said_in.ensures.said c.compile.ensures.command

pub returns-in-compile-clause-usage : goal.returns-in-compile-clause-usage
returns-in-compile-clause-usage c = λ err.
    let words = ap (map (λ w. string_bytes w)) c.in-Some.ensures.cases.0 in
    answers_usage _ _ _ c.in-Some-said_in.said (cc (c.as_str.ensures.value, c.in-compile.is)) c.in-Some-said_in.ensures.said (c.compile.ensures.usage err)

pub returns-in-compile-clause-same : goal.returns-in-compile-clause-same
returns-in-compile-clause-same c = λ err.
    let words = ap (map (λ w. string_bytes w)) c.in-Some.ensures.cases.0 in
    answers_same _ _ _ c.in-Some-said_in.said (cc (c.as_str.ensures.value, c.in-compile.is)) c.in-Some-said_in.ensures.said (c.compile.ensures.same err)

pub returns-in-check-clause-command : goal.returns-in-check-clause-command
returns-in-check-clause-command c =
    let words = ap (map (λ w. string_bytes w)) c.in-Some.ensures.cases.0 in
    answers _ _ _ c.in-Some-said_in.said c.check.result (cc (c.as_str.ensures.value, c.in-check.is)) c.in-Some-said_in.ensures.said c.check.ensures.command

pub returns-in-check-clause-usage : goal.returns-in-check-clause-usage
returns-in-check-clause-usage c = λ err.
    let words = ap (map (λ w. string_bytes w)) c.in-Some.ensures.cases.0 in
    answers_usage _ _ _ c.in-Some-said_in.said (cc (c.as_str.ensures.value, c.in-check.is)) c.in-Some-said_in.ensures.said (c.check.ensures.usage err)

pub returns-in-sample-clause-command : goal.returns-in-sample-clause-command
returns-in-sample-clause-command c =
    let words = ap (map (λ w. string_bytes w)) c.in-Some.ensures.cases.0 in
    answers _ _ _ c.in-Some-said_in.said c.sample.result (cc (c.as_str.ensures.value, c.in-sample.is)) c.in-Some-said_in.ensures.said c.sample.ensures.command

pub returns-in-sample-clause-usage : goal.returns-in-sample-clause-usage
returns-in-sample-clause-usage c = λ err.
    let words = ap (map (λ w. string_bytes w)) c.in-Some.ensures.cases.0 in
    answers_usage _ _ _ c.in-Some-said_in.said (cc (c.as_str.ensures.value, c.in-sample.is)) c.in-Some-said_in.ensures.said (c.sample.ensures.usage err)
