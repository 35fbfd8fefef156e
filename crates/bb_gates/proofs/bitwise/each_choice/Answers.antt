use Rattle.std.proofs.Common.{arith, ◌≡◌, ◌<◌, ◌+◌, ◌^◌, ℕ, List, ◌∷◌, drop, ap}
use Rattle.std.proofs.lemmas.Grind.{common_steps}
use Rattle.std.specs.Prelude.{Option}
use Rattle.bb_fault.specs.Work.{Work}
use Rattle.bb_scope.specs.Making.{Outs, first_out, other_outs, each_choice}
use Rattle.bb_gates.specs.Targets.{outs_in, outs_after, one_choice}
use Rattle.bb_gates.proofs.Grounding.{choice_goes_on}
use Rattle.bb_gates.proofs.Growing.{each-grows}
use Rattle.bb_gates.proofs.bitwise.each_choice.Goals as goal

-- there are numbers for the nets of one choice, where there is one for each net of all
fits :
    (c : List ℕ) (n : ℕ) (xs ys : List ℕ) (i x y : ℕ) (outs : Outs) (target : Option ℕ) (w all : Work) → drop i xs ≡ x ∷ drop (i + 1) xs → drop i ys ≡ y ∷ drop (i + 1) ys → target ≡ first_out outs
    → (each_choice c n (drop i xs) (drop i ys) outs w).1 ≡ all → all.fresh < 2 ^ 32 → (one_choice c n x y target w).1.fresh < 2 ^ 32
fits c n xs ys i x y outs target w all here there to made small =
    omega (
      arith,
      ap (λ t. (one_choice c n x y t w).1.fresh) to,
      ap (λ zs. (each_choice c n zs (drop i ys) outs w).1.fresh) here,
      ap (λ zs. (each_choice c n (x ∷ drop (i + 1) xs) zs outs w).1.fresh) there,
      ap (λ (v : Work). v.fresh) made,
      small,
      each-grows c n (drop (i + 1) xs) (drop (i + 1) ys) (other_outs outs) (one_choice c n x y (first_out outs) w).1,
    )

pub one_choice-requires : goal.one_choice-requires
one_choice-requires c =
    let i = c.loop-index.index in
    let xs = c.args.xs.now in
    let ys = c.args.ys.now in
    let x = c.index-xs-index.result in
    let y = c.in-Some.y.now in
    let outs = outs_in c.args.outs in
    let here : drop i xs ≡ x ∷ drop (i + 1) xs = grind (arith, common_steps) in
    let there : drop i ys ≡ y ∷ drop (i + 1) ys = grind (arith, common_steps, c.in-Some.ensures.lookup.1, c.in-Some.ensures.lookup.3.0) in
    record {
      room = fits c.args.condition.now c.args.inverse xs ys i x y (outs_after i outs) c.target_at.result c.loop-index.work (each_choice c.args.condition.now c.args.inverse xs ys outs c.args.work.now).1 here there c.target_at.ensures
          c.loop-index.invariant.work c.requires.room;
    }

pub loop-index-preserved : goal.loop-index-preserved
loop-index-preserved c =
    let i = c.loop-index.index in
    let xs = c.args.xs.now in
    let ys = c.args.ys.now in
    let x = c.index-xs-index.result in
    let y = c.in-Some.y.now in
    let outs = outs_in c.args.outs in
    let here : drop i xs ≡ x ∷ drop (i + 1) xs = grind (arith, common_steps) in
    let there : drop i ys ≡ y ∷ drop (i + 1) ys = grind (arith, common_steps, c.in-Some.ensures.lookup.1, c.in-Some.ensures.lookup.3.0) in
    let done =
    choice_goes_on c.args.condition.now c.args.inverse xs ys i x y outs c.loop-index.work c.one_choice.new.work c.in_ok-net.net c.target_at.result c.loop-index.nets.items c.push.new.self.items
    (each_choice c.args.condition.now c.args.inverse xs ys outs c.args.work.now) here there c.target_at.ensures c.in_ok-net.ensures c.in_ok-push.ensures.items c.loop-index.invariant.nets c.loop-index.invariant.work in
    record { nets = done.0; work = done.1 }
