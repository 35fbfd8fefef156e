use Rattle.std.proofs.Common.{arith, ◌≡◌, ◌<◌, ◌+◌, ◌^◌, ℕ, List, [], ◌∷◌, drop, ap}
use Rattle.std.proofs.lemmas.Grind.{common_steps}
use Rattle.std.specs.Prelude.{Option}
use Rattle.bb_base.specs.declared.operator.Op.{Op}
use Rattle.bb_fault.specs.Work.{Work, make_onto}
use Rattle.bb_scope.specs.Making.{Outs, first_out, other_outs, each_pair}
use Rattle.bb_gates.specs.Targets.{outs_in, outs_after}
use Rattle.bb_gates.proofs.Grounding.{after_next}
use Rattle.bb_gates.proofs.Growing.{pair-grows}
use Rattle.bb_gates.proofs.bitwise.each_pair.Goals as goal

-- there is a number for a gate's net, where there is one for each net of the operator
fits :
    (op : Op) (xs ys : List ℕ) (i x y : ℕ) (outs : Outs) (target : Option ℕ) (w all : Work) → drop i xs ≡ x ∷ drop (i + 1) xs → drop i ys ≡ y ∷ drop (i + 1) ys → target ≡ first_out outs
    → (each_pair op (drop i xs) (drop i ys) outs w).1 ≡ all → all.fresh < 2 ^ 32 → (make_onto op (x ∷ y ∷ []) target w).1.fresh < 2 ^ 32
fits op xs ys i x y outs target w all here there to made small =
    omega (
      arith,
      ap (λ t. (make_onto op (x ∷ y ∷ []) t w).1.fresh) to,
      ap (λ zs. (each_pair op zs (drop i ys) outs w).1.fresh) here,
      ap (λ zs. (each_pair op (x ∷ drop (i + 1) xs) zs outs w).1.fresh) there,
      ap (λ (v : Work). v.fresh) made,
      small,
      pair-grows op (drop (i + 1) xs) (drop (i + 1) ys) (other_outs outs) (make_onto op (x ∷ y ∷ []) (first_out outs) w).1,
    )

pub make_onto-requires : goal.make_onto-requires
make_onto-requires c =
    let i = c.loop-index.index in
    let xs = c.args.xs.now in
    let ys = c.args.ys.now in
    let x = c.index-xs-index.result in
    let y = c.in-Some.y.now in
    let outs = outs_in c.args.outs in
    let here : drop i xs ≡ x ∷ drop (i + 1) xs = grind (arith, common_steps) in
    let there : drop i ys ≡ y ∷ drop (i + 1) ys = grind (arith, common_steps, c.in-Some.ensures.lookup.1, c.in-Some.ensures.lookup.3.0) in
    record { room = fits c.args.op xs ys i x y (outs_after i outs) c.target_at.result c.loop-index.work (each_pair c.args.op xs ys outs c.args.work.now).1 here there c.target_at.ensures c.loop-index.invariant.work c.requires.room }

pub loop-index-preserved : goal.loop-index-preserved
loop-index-preserved c =
    let next = after_next c.loop-index.index (outs_in c.args.outs) in
    record {
      nets = grind (arith, common_steps, next, c.loop-index.invariant.nets);
      work = grind (arith, common_steps, next, c.loop-index.invariant.work);
    }
