use Rattle.std.proofs.Common.{arith, ◌≡◌, ◌<◌, ◌^◌, ℕ, List, ◌∷◌, map, drop, ap}
use Rattle.std.proofs.lemmas.Grind.{common_steps}
use Rattle.std.specs.Borrow.{Bor}
use Rattle.bb_base.specs.declared.operator.Op.TheVariants.{Not}
use Rattle.bb_fault.specs.Work.{Work, make}
use Rattle.bb_scope.specs.Making.{Outs, multiplexer_made}
use Rattle.bb_gates.specs.Targets.{outs_in}
use Rattle.bb_gates.proofs.Growing.{each-grows}
use Rattle.bb_gates.proofs.cell_gates.multiplexer_made.Goals as goal

-- there is a number for the inverse's net, where there is one for each net of all
fits :
    (outs : Outs) (ins : List (List ℕ)) (x y s : List ℕ) (others : List (List ℕ)) (w : Work) → ins ≡ x ∷ y ∷ s ∷ others → (multiplexer_made outs ins w).1.fresh < 2 ^ 32 → (make Not s w).1.fresh < 2 ^ 32
fits outs ins x y s others w here small = omega (arith, ap (λ z. (multiplexer_made outs z w).1.fresh) here, small, each-grows s (make Not s w).0 y x outs (make Not s w).1)

pub make-requires : goal.make-requires
make-requires c =
    let outs = outs_in c.args.outs in
    let rest = map (λ (r : Bor (List ℕ)). r.now) (drop 3 c.args.ins.now) in
    let here : map (λ (r : Bor (List ℕ)). r.now) c.args.ins.now ≡ c.first-item.result.now ∷ c.second-item.result.now ∷ c.select-item.result.now ∷ rest = grind (arith, common_steps) in
    record { room = fits outs (map (λ r. r.now) c.args.ins.now) c.first-item.result.now c.second-item.result.now c.select-item.result.now rest c.args.work.now here c.requires.room }
