use Rattle.std.proofs.Common.{arith, ◌≡◌, ◌+◌, ◌++◌, ◌∷◌, [], ℕ, List, take, get_or, slice_set, sym, ap, subst, ◌∙◌}
use Rattle.std.proofs.lemmas.List.{take_more, get_or_default}
use Rattle.bb_ctl.specs.Turns.{turn_noted}
use Rattle.bb_ctl.proofs.TurnLemmas.{AreNoted, noted_more, noted_outside}
use Rattle.bb_ctl.proofs.turns.note_session.Goals as goal
use Rattle.bb_ctl.proofs.turns.note_session.Goals.{then-r-turns+in_ok-note, else-r-turns}

pub registers-preserved : goal.registers-preserved
registers-preserved c =
    let s = c.args.s in
    let k = c.registers.r-index in
    let session : List ℕ = c.args.session.now in
    let x : ℕ = get_or session k 0 in
    let old : List (List ℕ) = c.args.turns.now in
    let turns : List (List ℕ) = c.registers.turns in
    let list : take (k + 1) session ≡ take k session ++ x ∷ [] = take_more session k 0 c.registers-test.true in
    elim c.if-r-turns.branch [
      | then-r-turns+in_ok-note w ↦
          subst (AreNoted s (take (k + 1) session) old) (sym w.turns-is)
          (subst (λ ns. AreNoted s ns old (slice_set turns x w.note.new.self)) (sym list)
          (noted_more s x (take k session) old turns w.note.new.self c.requires c.registers.invariant w.if-r-turns.true (w.in_ok-note.ensures ∙ ap (λ e. turn_noted e s) (get_or_default turns x _ [] w.if-r-turns.true))))
      | else-r-turns w ↦
          subst (AreNoted s (take (k + 1) session) old) (sym w.turns-is)
          (subst (λ ns. AreNoted s ns old turns) (sym list) (noted_outside s x (take k session) old turns c.registers.invariant (λ less. omega (arith, less, w.if-r-turns.false))))
    ]
