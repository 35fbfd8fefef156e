use Rattle.std.proofs.Common.{arith, ◌≡◌, ◌<◌, ◌+◌, ◌^◌, ℕ, List, [], ◌∷◌, drop, ap}
use Rattle.std.proofs.lemmas.Grind.{common_steps}
use Rattle.std.specs.Prelude.{Option}
use Rattle.bb_base.specs.declared.operator.Op.{Op}
use Rattle.bb_fault.specs.Work.{Work, make_onto}
use Rattle.bb_scope.specs.Making.{Outs, first_out, other_outs, each_alone}
use Rattle.bb_gates.specs.Targets.{outs_in, outs_after}
use Rattle.bb_gates.proofs.Grounding.{after_next}
use Rattle.bb_gates.proofs.Growing.{alone-grows}
use Rattle.bb_gates.proofs.bitwise.each_alone.Goals as goal

-- there is a number for a gate's net, where there is one for each net of the operator
fits :
    (op : Op) (xs : List ℕ) (i x : ℕ) (outs : Outs) (target : Option ℕ) (w all : Work) → drop i xs ≡ x ∷ drop (i + 1) xs → target ≡ first_out outs → (each_alone op (drop i xs) outs w).1 ≡ all
    → all.fresh < 2 ^ 32 → (make_onto op (x ∷ []) target w).1.fresh < 2 ^ 32
fits op xs i x outs target w all here to made small =
    omega (
      arith,
      ap (λ t. (make_onto op (x ∷ []) t w).1.fresh) to,
      ap (λ ys. (each_alone op ys outs w).1.fresh) here,
      ap (λ (v : Work). v.fresh) made,
      small,
      alone-grows op (drop (i + 1) xs) (other_outs outs) (make_onto op (x ∷ []) (first_out outs) w).1,
    )

pub make_onto-requires : goal.make_onto-requires
make_onto-requires c =
    let i = c.loop-index.index in
    let xs = c.args.xs.now in
    let x = c.index-xs-index.result in
    let outs = outs_in c.args.outs in
    let here : drop i xs ≡ x ∷ drop (i + 1) xs = grind (arith, common_steps) in
    record { room = fits c.args.op xs i x (outs_after i outs) c.target_at.result c.loop-index.work (each_alone c.args.op xs outs c.args.work.now).1 here c.target_at.ensures c.loop-index.invariant.work c.requires.room }

pub loop-index-preserved : goal.loop-index-preserved
loop-index-preserved c =
    let next = after_next c.loop-index.index (outs_in c.args.outs) in
    record {
      nets = grind (arith, common_steps, next, c.loop-index.invariant.nets);
      work = grind (arith, common_steps, next, c.loop-index.invariant.work);
    }
