use Rattle.std.proofs.Common.{◌≡◌, ◌<◌, ◌≤◌, ℕ, length, slice_index, subst}
use Rattle.bb_base.specs.Firsts.{IsFirst}
use Rattle.bb_base.proofs.DriverLemmas.{counts_once, counts_few, counts_two, counts_none}
use Rattle.bb_base.proofs.drivers.check_drivers.Goals as goal

pub returns-in-Ok-clause-once : goal.returns-in-Ok-clause-once
returns-in-Ok-clause-once c =
    let same : c.deref.result.now ≡ c.in_ok-counts.counts.items = c.deref.ensures.value in
    counts_once c.in_ok-counts.counts.items c.args.driven.now c.args.nets c.in_ok-counts.ensures.long c.in_ok-counts.ensures.each (subst (λ k. (m : ℕ) → m < length k → slice_index k m ≡ 1) same c.in-Ok.ensures.ok)

pub returns-clause-two : goal.returns-clause-two
returns-clause-two c = λ net e.
    let same : c.deref.result.now ≡ c.in_ok-counts.counts.items = c.deref.ensures.value in
    counts_two c.in_ok-counts.counts.items c.args.driven.now c.args.nets net c.in_ok-counts.ensures.long c.in_ok-counts.ensures.each (subst (λ k. IsFirst (λ m. 2 ≤ slice_index k m) (length k) net) same (c.in-Err.ensures.two net e))

pub returns-clause-none : goal.returns-clause-none
returns-clause-none c = λ net e.
    let same : c.deref.result.now ≡ c.in_ok-counts.counts.items = c.deref.ensures.value in
    counts_none c.in_ok-counts.counts.items c.args.driven.now c.args.nets net c.in_ok-counts.ensures.long c.in_ok-counts.ensures.each (subst (λ k. IsFirst (λ m. slice_index k m ≡ 0) (length k) net) same (c.in-Err.ensures.none net e))

pub returns-clause-order : goal.returns-clause-order
returns-clause-order c = λ net e.
    let same : c.deref.result.now ≡ c.in_ok-counts.counts.items = c.deref.ensures.value in
    counts_few c.in_ok-counts.counts.items c.args.driven.now c.args.nets c.in_ok-counts.ensures.long c.in_ok-counts.ensures.each (subst (λ k. (m : ℕ) → m < length k → slice_index k m ≤ 1) same (c.in-Err.ensures.order net e))
