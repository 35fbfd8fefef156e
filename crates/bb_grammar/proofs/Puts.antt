-- Steps that are put behind one another.
use Rattle.std.proofs.Common.{◌≡◌, ℕ, ◌+◌, List, [], ◌∷◌, ◌++◌, sym, ◌∙◌, ap, arith, append_assoc, append-nil}
use Rattle.bb_parse.specs.declared.draft.Draft.{Draft}
use Rattle.bb_parse.specs.declared.syntax.Step.{Step}
use Rattle.bb_parse.specs.declared.syntax.Step.TheVariants as steps
use Rattle.bb_parse.specs.Drafts.{put}

pub put_none : (d : Draft) → d ≡ put d []
put_none d = ap (λ s. record d { steps = s }) (sym (append-nil d.steps))

pub put_two : (d : Draft) (u v : List Step) → put (put d u) v ≡ put d (u ++ v)
put_two d u v = ap (λ s. record d { steps = s }) (append_assoc d.steps u v)

-- an operand, its operator, and what follows
pub put_three : (d : Draft) (u : List Step) (x : Step) (v : List Step) → put (put (put d u) (x ∷ [])) v ≡ put d (u ++ x ∷ v)
put_three d u x v = put_two (put d u) (x ∷ []) v ∙ put_two d u (x ∷ v)

join_same : (a b : ℕ) (u : List Step) → a ≡ b → u ++ steps.Join a ∷ [] ≡ u ++ steps.Join b ∷ []
join_same a b u same = ap (λ n. u ++ steps.Join n ∷ []) same

pub put_joined : (d : Draft) (u v : List Step) (more n : ℕ) → put (put d u) (v ++ steps.Join (more + (n + 1)) ∷ []) ≡ put d ((u ++ v) ++ steps.Join (more + 1 + n) ∷ [])
put_joined d u v more n = put_two d u (v ++ steps.Join (more + (n + 1)) ∷ []) ∙ ap (put d) (sym (append_assoc u v (steps.Join (more + (n + 1)) ∷ [])) ∙ join_same (more + (n + 1)) (more + 1 + n) (u ++ v) (omega arith))

pub put_repeated : (d : Draft) (u v : List Step) (x y : Step) → put (put (put d u) (v ++ x ∷ [])) (y ∷ []) ≡ put d (u ++ (v ++ x ∷ y ∷ []))
put_repeated d u v x y = put_two (put d u) (v ++ x ∷ []) (y ∷ []) ∙ put_two d u ((v ++ x ∷ []) ++ y ∷ []) ∙ ap (λ w. put d (u ++ w)) (append_assoc v (x ∷ []) (y ∷ []))

pub put_no_more : (d : Draft) (n : ℕ) → put d (steps.Join n ∷ []) ≡ put d (steps.Join (0 + n) ∷ [])
put_no_more d n = ap (λ m. put d (steps.Join m ∷ [])) (omega arith)

-- an operand, and the rows behind it
pub put_five : (d : Draft) (a b c e f : List Step) → put (put (put (put (put d a) b) c) e) f ≡ put d ((((a ++ b) ++ c) ++ e) ++ f)
put_five d a b c e f =
    ap (λ g. put (put (put g c) e) f) (put_two d a b)
    ∙ ap (λ g. put (put g e) f) (put_two d (a ++ b) c)
    ∙ ap (λ g. put g f) (put_two d ((a ++ b) ++ c) e)
    ∙ put_two d (((a ++ b) ++ c) ++ e) f
