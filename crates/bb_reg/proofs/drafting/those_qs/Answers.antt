use Rattle.std.proofs.Common.{◌∙◌, ◌++◌, ◌∷◌, [], ℕ, map, take, sym, ap}
use Rattle.bb_base.specs.Net.{Flop}
use Rattle.bb_base.proofs.Lists.{map_join}
use Rattle.bb_reg.specs.Draft.{those}
use Rattle.bb_reg.proofs.DraftLemmas.{those_yes, those_no}
use Rattle.bb_reg.proofs.drafting.those_qs.Goals as goal
use Rattle.bb_reg.proofs.drafting.those_qs.Goals.{then-bits-number+in_ok-push, else-bits-number}

pub flops-preserved : goal.flops-preserved
flops-preserved c =
    let bits = c.args.bits.now in
    let flops = c.args.flops.now in
    let i = c.flops.number in
    elim c.if-bits-number.branch [
      | then-bits-number+in_ok-push w ↦
          ap (λ v. v.items) w.nets-is ∙ w.in_ok-push.ensures.items
          ∙ (λ k. c.flops.invariant k ++ (w.flop.view_is k).q ∷ [])
          ∙ sym (ap (map (λ (f : Flop ℕ). f.q)) (those_yes bits flops i w.index-flops-number.result c.requires c.flops-test.true w.if-bits-number.true w.index-flops-number.is)
          ∙ map_join (λ (f : Flop ℕ). f.q) (those (take i bits) (take i flops)) (w.index-flops-number.result ∷ []))
      | else-bits-number w ↦
          ap (λ v. v.items) w.nets-is ∙ c.flops.invariant
          ∙ sym (ap (map (λ (f : Flop ℕ). f.q)) (those_no bits flops i (record { q = 0; d = 0 }) c.requires c.flops-test.true w.if-bits-number.false))
    ]
