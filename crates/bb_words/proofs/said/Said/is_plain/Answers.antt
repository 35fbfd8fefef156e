use Rattle.bb_words.specs.declared.setting.Setting.TheVariants.{Width, MinDegree, MaxDegree, MaxCycles, Register}
use Rattle.bb_words.proofs.said.Said.is_plain.Goals as goal
use Rattle.bb_words.proofs.said.Said.is_plain.Goals.{then-gives-via-then-gives, then-gives-via-else-gives+then-gives-2, then-gives-via-else-gives+else-gives-2+then-gives-3, then-gives-via-else-gives+else-gives-2+else-gives-3+then-gives-4, then-gives-via-else-gives+else-gives-2+else-gives-3+else-gives-4+then-gives-5}

pub returns-then-gives-clause-no : goal.returns-then-gives-clause-no
returns-then-gives-clause-no c = λ _ none. elim c.then-gives.branch [
  | then-gives-via-then-gives w ↦ c.gives.ensures.yes w.if-gives.true (none Width)
  | then-gives-via-else-gives+then-gives-2 w ↦ w.gives-else-gives.ensures.yes w.if-gives-2.true (none MinDegree)
  | then-gives-via-else-gives+else-gives-2+then-gives-3 w ↦ w.gives-else-gives-2.ensures.yes w.if-gives-3.true (none MaxDegree)
  | then-gives-via-else-gives+else-gives-2+else-gives-3+then-gives-4 w ↦ w.gives-else-gives-3.ensures.yes w.if-gives-4.true (none MaxCycles)
  | then-gives-via-else-gives+else-gives-2+else-gives-3+else-gives-4+then-gives-5 w ↦ w.gives-else-gives-4.ensures.yes w.if-gives-5.true (none Register)
]
