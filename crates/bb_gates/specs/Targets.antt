-- Where the gates of operators go, as the code has it: to new nets, or to targets.
-- (No outcome rests on these: they serve contracts of inner calls and proofs.)
use Rattle.std.specs.Prelude.{ℕ, zero, suc, List, [], ◌∷◌, ◌++◌, Option, Some, None}
use Rattle.std.specs.Borrow.{Bor}
use Rattle.bb_base.specs.declared.operator.Op.TheVariants.{And, Or}
use Rattle.bb_fault.specs.Work.{◌>>=◌, Work, make, make_onto}
use Rattle.bb_scope.specs.Making.{Outs, New, To, other_outs}

-- where gates go, as the code has it
abbrev pub outs_in : Option (Bor (List ℕ)) → Outs
outs_in None = New
outs_in (Some targets) = To targets.now

-- the same of targets of one's own
abbrev pub outs_given : Option (List ℕ) → Outs
outs_given None = New
outs_given (Some targets) = To targets

-- where they go behind so many gates
abbrev pub outs_after : ℕ → Outs → Outs
outs_after zero outs = outs
outs_after (suc n) outs = outs_after n (other_outs outs)

-- the gates of a choice between two bits
abbrev pub one_choice : List ℕ → ℕ → ℕ → ℕ → Option ℕ → Work → ℕ × Work
one_choice c n a b target = do
  first ← make And (c ++ a ∷ [])
  second ← make And (n ∷ b ∷ [])
  make_onto Or (first ∷ second ∷ []) target
