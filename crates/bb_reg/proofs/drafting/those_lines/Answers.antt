use Rattle.std.proofs.Common.{arith, ◌≡◌, ◌<◌, ◌∙◌, ◌++◌, ◌∷◌, [], length, map, sym, ap}
use Rattle.bb_base.proofs.Lists.{map_join, length_map}
use Rattle.bb_reg.proofs.SeenLemmas.{get_map}
use Rattle.bb_reg.proofs.DraftLemmas.{those_yes, those_no}
use Rattle.bb_reg.proofs.drafting.those_lines.Goals as goal
use Rattle.bb_reg.proofs.drafting.those_lines.Goals.{then-bits-number+in_ok-copied+in_ok-push, else-bits-number}

pub lines-preserved : goal.lines-preserved
lines-preserved c =
    let bits = c.args.bits.now in
    let own = c.args.lines.now in
    let lines = map (λ k. k.items) own in
    let i = c.lines.number in
    let long : length bits ≡ length lines = c.requires ∙ sym (length_map (λ k. k.items) own) in
    let low : i < length lines = omega (arith, c.lines-test.true, length_map (λ k. k.items) own) in
    elim c.if-bits-number.branch [
      | then-bits-number+in_ok-copied+in_ok-push w ↦
          let line = w.index-lines-number.result in
          ap (λ v. map (λ k. k.items) v.items) w.own-is ∙ ap (map (λ k. k.items)) w.in_ok-push.ensures.items
          ∙ map_join (λ k. k.items) c.lines.own.items (w.in_ok-copied.field-0 ∷ [])
          ∙ (λ k. c.lines.invariant k ++ w.in_ok-copied.ensures k ∷ [])
          ∙ sym (those_yes bits lines i line.items long low w.if-bits-number.true (ap (λ k. k.items) w.index-lines-number.is ∙ sym (get_map (λ k. k.items) own i line)))
      | else-bits-number w ↦
          ap (λ v. map (λ k. k.items) v.items) w.own-is ∙ c.lines.invariant
          ∙ sym (those_no bits lines i [] long low w.if-bits-number.false)
    ]
