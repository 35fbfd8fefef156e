use Rattle.std.proofs.Common.{◌-◌, true, false, Result, Ok, Err, OnOk, OnErr, ◌≡◌, ⊎_elim, sym, ◌∙◌, subst, arith}
use Rattle.std.specs.Result.{is_ok}
use Rattle.std.proofs.lemmas.Bool.{cases_lt}
use Rattle.bb_terms.specs.Register.{IsFullPeriod}
use Rattle.bb_gf2.proofs.WalkSteps.{size_is}
use Rattle.bb_gf2.proofs.masks.taps.Goals as goal

on_ok : {T E : Type 0} {P : Type 0} (r : Result T E) → is_ok r ≡ true → OnOk r P → P
on_ok (Ok x) e h = h
on_ok (Err d) e h = absurd cc

on_err : {T E : Type 0} {P : Type 0} (r : Result T E) → is_ok r ≡ false → OnErr r P → P
on_err (Ok x) e h = absurd cc
on_err (Err d) e h = h

pub returns-then-is_ok-clause-least : goal.returns-then-is_ok-clause-least
returns-then-is_ok-clause-least c =
    let k = c.args.degree in
    let mask = c.loop-mask.mask in
    let first = size_is (k - 1) (omega arith) in
    let last = size_is k c.requires.most in
    let full = on_ok c.walk.result (sym c.is_ok.ensures.value ∙ c.if-is_ok.true) c.walk.ensures.full in
    record {
      holds = record { mask_fits = record { last = omega (arith, first); below = omega (arith, last) }; full = full };
      least = λ m h. ⊎_elim (λ lt. absurd (c.loop-mask.invariant m lt h)) (λ le. le) (cases_lt m mask);
    }

pub loop-mask-preserved : goal.loop-mask-preserved
loop-mask-preserved c = λ m lt h.
    let mask = c.loop-mask.mask in
    let not_full = on_err c.walk.result (sym c.is_ok.ensures.value ∙ c.if-is_ok.false) c.walk.ensures.not_full in
    ⊎_elim (λ early. c.loop-mask.invariant m early h)
    (λ le. let same : m ≡ mask = omega (arith, le, lt) in not_full (subst (IsFullPeriod c.args.degree) same h.full)) (cases_lt m mask)

pub returns-clause-none : goal.returns-clause-none
returns-clause-none c = λ m h.
    let last = size_is c.args.degree c.requires.most in
    let below = h.mask_fits.below in
    c.loop-mask.invariant m (omega (arith, last, below)) h
