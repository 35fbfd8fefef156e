use Rattle.std.proofs.Common.{arith, ◌≡◌, ◌≤◌, ◌+◌, ◌-◌, min, drop, fold, length, Some, slice_get, true, false, ap, ◌∙◌}
use Rattle.std.specs.List.{range_with_len}
use Rattle.bb_base.specs.Variables.{Entry, range_width}
use Rattle.bb_drive.specs.Nets.{bits_from}
use Rattle.bb_drive.specs.Tallies.{tally, is_role}
use Rattle.bb_drive.proofs.Tallied.{role_other, role_counted}
use Rattle.bb_drive.proofs.drivers.note_role.Goals as goal
use Rattle.bb_drive.proofs.drivers.note_role.Goals.{then-is_role, else-is_role}

pub loop-index-preserved : goal.loop-index-preserved
loop-index-preserved c =
    let es = c.args.vars.now.entries in
    let i = c.loop-index.index in
    let counts = c.loop-index.counts in
    let wanted = c.args.wanted in
    let first = c.loop-index.first in
    let next = c.saturating_add-next.result in
    let v : Entry = (c.unwrap.result.0.now, c.unwrap.result.1.now) in
    let at : slice_get es i ≡ Some v = grind (arith, c.get_index.ensures.entry, c.unwrap.ensures) in
    let fits : length counts ≤ 18446744073709551615 = omega arith in
    let saturates : next ≡ min 18446744073709551615 (first + range_width v.1.range) = omega (arith, c.range_width.ensures, c.saturating_add-next.ensures) in
    elim c.if-is_role.branch [
      | then-is_role w ↦
          let one : is_role wanted v.1.role ≡ true = grind (arith, c.is_role.ensures, w.if-is_role.true) in
          let end : min next (length counts) - first ≡ w.min.result - first = omega (arith, w.min.ensures, c.loop-index.auto.counts) in
          let counted = role_counted (is_role wanted) counts es i first next 18446744073709551615 v at one fits saturates in
          let new : c.if-is_role.counts ≡ fold tally counts (range_with_len first (min next (length counts) - first)) = grind (arith, w.counts-is, w.note_range.ensures, end) in
          ap (λ x. fold tally x (bits_from (is_role wanted) next (drop (i + 1) es))) new ∙ (counted ∙ c.loop-index.invariant)
      | else-is_role w ↦
          let other : is_role wanted v.1.role ≡ false = grind (arith, c.is_role.ensures, w.if-is_role.false) in
          let counted = role_other (is_role wanted) counts es i first next 18446744073709551615 v at other fits saturates in
          ap (λ x. fold tally x (bits_from (is_role wanted) next (drop (i + 1) es))) w.counts-is ∙ (counted ∙ c.loop-index.invariant)
    ]
