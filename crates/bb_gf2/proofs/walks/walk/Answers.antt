use Rattle.std.proofs.Common.{◌≡◌, ◌<◌, ◌^◌, ◌-◌, ◌+◌, sym, ap, ◌∙◌, arith}
use Rattle.bb_terms.specs.Register.{state_after}
use Rattle.bb_gf2.proofs.Orbit.{full_from_walk, late_from_full}
use Rattle.bb_gf2.proofs.WalkSteps.{size_is, walked, away_more}
use Rattle.bb_gf2.proofs.walks.walk.Goals as goal

pub returns-then-x-eq0-clause-short : goal.returns-then-x-eq0-clause-short
returns-then-x-eq0-clause-short c =
    let k = c.args.degree in
    let m = c.args.mask in
    let at = walked k m c.loop-steps.x c.next-x.result c.loop-steps.steps (omega arith) c.loop-steps.invariant.at c.next-x.ensures.state in
    let size = size_is k c.requires.degree.most in
    let early : c.loop-steps.steps < 2 ^ k = omega (arith, size) in
    (early, record { some = omega arith; back = sym at ∙ c.if-x-eq0.true; away = c.loop-steps.invariant.away })

pub returns-then-x-eq0-clause-not_full : goal.returns-then-x-eq0-clause-not_full
returns-then-x-eq0-clause-not_full c = λ full.
    let k = c.args.degree in
    let m = c.args.mask in
    let at = walked k m c.loop-steps.x c.next-x.result c.loop-steps.steps (omega arith) c.loop-steps.invariant.at c.next-x.ensures.state in
    let late = late_from_full k m c.loop-steps.steps full (omega arith) (sym at ∙ c.if-x-eq0.true) in
    let size = size_is k c.requires.degree.most in
    let early : c.loop-steps.steps < 2 ^ k = omega (arith, size) in
    omega (arith, late, early)

pub loop-steps-preserved : goal.loop-steps-preserved
loop-steps-preserved c =
    let k = c.args.degree in
    let m = c.args.mask in
    let steps = c.loop-steps.steps in
    let at = walked k m c.loop-steps.x c.next-x.result steps (omega arith) c.loop-steps.invariant.at c.next-x.ensures.state in
    let back : steps ≡ steps + 1 - 1 = omega arith in
    record {
      at = at ∙ ap (state_after k m) back;
      away = away_more k m steps c.loop-steps.invariant.away (λ zero. c.if-x-eq0.false (at ∙ zero));
    }

pub returns-clause-full : goal.returns-clause-full
returns-clause-full c =
    let k = c.args.degree in
    let m = c.args.mask in
    let done = size_is k c.requires.degree.most in
    full_from_walk k m c.requires.degree.least c.requires.mask (λ t some lt. c.loop-steps.invariant.away t some (omega (arith, lt, done)))
