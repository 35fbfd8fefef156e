-- The value of an expression by its steps: a machine with the values that stand open, which comes to the value of the tree.
use Rattle.std.proofs.Common.{arith, ◌≡◌, ℕ, ◌+◌, Bool, not, ◌&&◌, ◌||◌, cond, List, [], ◌∷◌, ◌++◌, map, length, take, drop, reverse, refl, ap, sym, ◌∙◌, take_at, drop_at, append_assoc}
use Rattle.std.proofs.lemmas.List.{reverse-append, reverse-reverse, length-reverse}
use Rattle.std.specs.Prelude.{flat_map}
use Rattle.bb_base.specs.Booleans.{xor}
use Rattle.bb_base.specs.Operators.{first_bit}
use Rattle.bb_parse.specs.declared.syntax.Ref.{Ref}
use Rattle.bb_parse.specs.declared.syntax.Step.{Step}
use Rattle.bb_parse.specs.declared.syntax.Step.TheVariants as step
use Rattle.bb_parse.specs.Trees.{Name, Select, XorMark, ByCaret, ByTildeCaret, ByCaretTilde, Expr, AnExpr, Choice, NoChoice, Choose, Or, AnOr, Ors, NoOrs, MoreOrs, Xor, AnXor, Xors, NoXors, MoreXors, And, AnAnd, Ands, NoAnds, MoreAnds, Unary, Complement, Reference, Constant, Parens, Braces, Repeated, Exprs, NoExprs, MoreExprs}
use Rattle.bb_parse.specs.Meaning.{ref_of, xor_step, count, steps_of, choice_steps, or_steps, ors_steps, xor_steps, xors_steps, and_steps, ands_steps, unary_steps, exprs_steps}
use Rattle.bb_meaning.specs.Values.{bitwise, xnor, by_mark, number_bits, copied_bits, value, choice_value, or_value, ors_value, xor_value, xors_value, and_value, ands_value, unary_value, side_by_side}

-- steps on the values that stand open, the last one first

abbrev pub not_value : List (List Bool) → List (List Bool)
not_value (a ∷ rest) = map not a ∷ rest
not_value [] = []

abbrev pub two_value : (Bool → Bool → Bool) → List (List Bool) → List (List Bool)
two_value f (b ∷ a ∷ rest) = bitwise f a b ∷ rest
two_value f few = []

abbrev pub cond_value : List (List Bool) → List (List Bool)
cond_value (b ∷ a ∷ c ∷ rest) = cond (first_bit c) a b ∷ rest
cond_value few = []

abbrev pub repeat_value : ℕ → List (List Bool) → List (List Bool)
repeat_value times (a ∷ rest) = copied_bits times a ∷ rest
repeat_value times [] = []

abbrev pub step_value : (Ref → List Bool) → Step → List (List Bool) → List (List Bool)
step_value read (step.Ref r) stack = read r ∷ stack
step_value read (step.Const size number) stack = number_bits size number ∷ stack
step_value read step.Not stack = not_value stack
step_value read step.And stack = two_value (λ a b. a && b) stack
step_value read step.Or stack = two_value (λ a b. a || b) stack
step_value read step.Xor stack = two_value xor stack
step_value read step.Xnor stack = two_value xnor stack
step_value read step.Cond stack = cond_value stack
step_value read (step.Join n) stack = flat_map (λ a. a) (reverse (take n stack)) ∷ drop n stack
step_value read (step.Repeat n) stack = repeat_value n stack

abbrev pub steps_value : (Ref → List Bool) → List Step → List (List Bool) → List (List Bool)
steps_value read [] stack = stack
steps_value read (s ∷ ss) stack = steps_value read ss (step_value read s stack)

-- steps one after the other

pub steps-append : (read : Ref → List Bool) (xs ys : List Step) (stack : List (List Bool)) → steps_value read (xs ++ ys) stack ≡ steps_value read ys (steps_value read xs stack)
steps-append read [] ys stack = refl
steps-append read (x ∷ xs) ys stack = steps-append read xs ys (step_value read x stack)

-- values in braces: each stands open, and then they are side by side

abbrev each_value : (Name → Select → List Bool) → Exprs → List (List Bool)
each_value read NoExprs = []
each_value read (MoreExprs e es) = value read e ∷ each_value read es

each-length : (read : Name → Select → List Bool) (es : Exprs) → length (each_value read es) ≡ count es
each-length read NoExprs = refl
each-length read (MoreExprs e es) = omega (arith, each-length read es)

each-flat : (read : Name → Select → List Bool) (es : Exprs) → flat_map (λ a. a) (each_value read es) ≡ side_by_side read es
each-flat read NoExprs = refl
each-flat read (MoreExprs e es) = ap (λ z. value read e ++ z) (each-flat read es)

-- values that were put on the others one after the other come off together
join-values : (vs stack : List (List Bool)) (n : ℕ) (read : Ref → List Bool) → length vs ≡ n → step_value read (step.Join n) (reverse vs ++ stack) ≡ flat_map (λ a. a) vs ∷ stack
join-values vs stack n read h =
    let n_is : length (reverse vs) ≡ n = length-reverse vs ∙ h in
    λ i. flat_map (λ a. a) ((ap reverse (take_at (reverse vs) stack n n_is) ∙ reverse-reverse vs) i) ∷ drop_at (reverse vs) stack n n_is i

-- more values on the others
put-one : (vs : List (List Bool)) (a : List Bool) (stack : List (List Bool)) → reverse vs ++ a ∷ stack ≡ reverse (a ∷ vs) ++ stack
put-one vs a stack = sym (ap (λ z. z ++ stack) (reverse-append (a ∷ []) vs) ∙ append_assoc (reverse vs) (a ∷ []) stack)

-- a tree reads its references by name and select
abbrev pub by_ref : (Ref → List Bool) → Name → Select → List Bool
by_ref read x s = read (ref_of x s)

-- the steps of operands, and then more
two-parts : (read : Ref → List Bool) (xs ys : List Step) (stack middle last : List (List Bool)) → steps_value read xs stack ≡ middle → steps_value read ys middle ≡ last → steps_value read (xs ++ ys) stack ≡ last
two-parts read xs ys stack middle last h k = steps-append read xs ys stack ∙ (ap (steps_value read ys) h ∙ k)

xor-marked : (read : Ref → List Bool) (m : XorMark) (a b : List Bool) (stack : List (List Bool)) → step_value read (xor_step m) (b ∷ a ∷ stack) ≡ bitwise (by_mark m) a b ∷ stack
xor-marked read ByCaret a b stack = refl
xor-marked read ByTildeCaret a b stack = refl
xor-marked read ByCaretTilde a b stack = refl

-- the values of braces, and their join
braced : (read : Ref → List Bool) (e : Expr) (es : Exprs) (stack : List (List Bool)) →
    step_value read (step.Join (count es + 1)) (reverse (each_value (by_ref read) es) ++ value (by_ref read) e ∷ stack) ≡ (value (by_ref read) e ++ side_by_side (by_ref read) es) ∷ stack
braced read e es stack =
    let vs = value (by_ref read) e ∷ each_value (by_ref read) es in
    let many : length vs ≡ count es + 1 = omega (arith, each-length (by_ref read) es) in
    ap (step_value read (step.Join (count es + 1))) (put-one (each_value (by_ref read) es) (value (by_ref read) e) stack)
    ∙ (join-values vs stack (count es + 1) read many ∙ ap (λ z. (value (by_ref read) e ++ z) ∷ stack) (each-flat (by_ref read) es))

-- the steps of a tree put its value on the others
mutual
  pub expr-steps : (e : Expr) (read : Ref → List Bool) (stack : List (List Bool)) → steps_value read (steps_of e) stack ≡ value (by_ref read) e ∷ stack
  expr-steps (AnExpr o c) read stack = two-parts read (or_steps o) (choice_steps c) stack _ _ (or-steps o read stack) (choice-steps c read (or_value (by_ref read) o) stack)

  choice-steps : (c : Choice) (read : Ref → List Bool) (before : List Bool) (stack : List (List Bool)) → steps_value read (choice_steps c) (before ∷ stack) ≡ choice_value (by_ref read) before c ∷ stack
  choice-steps NoChoice read before stack = refl
  choice-steps (Choose a b) read before stack =
      two-parts read (steps_of a) _ (before ∷ stack) _ _ (expr-steps a read (before ∷ stack))
      (two-parts read (steps_of b) (step.Cond ∷ []) (value (by_ref read) a ∷ before ∷ stack) _ _ (expr-steps b read (value (by_ref read) a ∷ before ∷ stack)) refl)

  or-steps : (o : Or) (read : Ref → List Bool) (stack : List (List Bool)) → steps_value read (or_steps o) stack ≡ or_value (by_ref read) o ∷ stack
  or-steps (AnOr x os) read stack = two-parts read (xor_steps x) (ors_steps os) stack _ _ (xor-steps x read stack) (ors-steps os read (xor_value (by_ref read) x) stack)

  ors-steps : (os : Ors) (read : Ref → List Bool) (before : List Bool) (stack : List (List Bool)) → steps_value read (ors_steps os) (before ∷ stack) ≡ ors_value (by_ref read) before os ∷ stack
  ors-steps NoOrs read before stack = refl
  ors-steps (MoreOrs x os) read before stack =
      two-parts read (xor_steps x) (step.Or ∷ ors_steps os) (before ∷ stack) _ _ (xor-steps x read (before ∷ stack)) (ors-steps os read (bitwise (λ a b. a || b) before (xor_value (by_ref read) x)) stack)

  xor-steps : (x : Xor) (read : Ref → List Bool) (stack : List (List Bool)) → steps_value read (xor_steps x) stack ≡ xor_value (by_ref read) x ∷ stack
  xor-steps (AnXor a xs) read stack = two-parts read (and_steps a) (xors_steps xs) stack _ _ (and-steps a read stack) (xors-steps xs read (and_value (by_ref read) a) stack)

  xors-steps : (xs : Xors) (read : Ref → List Bool) (before : List Bool) (stack : List (List Bool)) → steps_value read (xors_steps xs) (before ∷ stack) ≡ xors_value (by_ref read) before xs ∷ stack
  xors-steps NoXors read before stack = refl
  xors-steps (MoreXors m a xs) read before stack =
      two-parts read (and_steps a) (xor_step m ∷ xors_steps xs) (before ∷ stack) _ _ (and-steps a read (before ∷ stack))
      (ap (steps_value read (xors_steps xs)) (xor-marked read m before (and_value (by_ref read) a) stack) ∙ xors-steps xs read (bitwise (by_mark m) before (and_value (by_ref read) a)) stack)

  and-steps : (a : And) (read : Ref → List Bool) (stack : List (List Bool)) → steps_value read (and_steps a) stack ≡ and_value (by_ref read) a ∷ stack
  and-steps (AnAnd u us) read stack = two-parts read (unary_steps u) (ands_steps us) stack _ _ (unary-steps u read stack) (ands-steps us read (unary_value (by_ref read) u) stack)

  ands-steps : (us : Ands) (read : Ref → List Bool) (before : List Bool) (stack : List (List Bool)) → steps_value read (ands_steps us) (before ∷ stack) ≡ ands_value (by_ref read) before us ∷ stack
  ands-steps NoAnds read before stack = refl
  ands-steps (MoreAnds u us) read before stack =
      two-parts read (unary_steps u) (step.And ∷ ands_steps us) (before ∷ stack) _ _ (unary-steps u read (before ∷ stack)) (ands-steps us read (bitwise (λ a b. a && b) before (unary_value (by_ref read) u)) stack)

  unary-steps : (u : Unary) (read : Ref → List Bool) (stack : List (List Bool)) → steps_value read (unary_steps u) stack ≡ unary_value (by_ref read) u ∷ stack
  unary-steps (Complement u) read stack = two-parts read (unary_steps u) (step.Not ∷ []) stack _ _ (unary-steps u read stack) refl
  unary-steps (Reference x s) read stack = refl
  unary-steps (Constant size number) read stack = refl
  unary-steps (Parens e) read stack = expr-steps e read stack
  unary-steps (Braces e es) read stack =
      two-parts read (steps_of e) _ stack _ _ (expr-steps e read stack)
      (two-parts read (exprs_steps es) (step.Join (count es + 1) ∷ []) (value (by_ref read) e ∷ stack) _ _ (exprs-steps es read (value (by_ref read) e ∷ stack)) (braced read e es stack))
  unary-steps (Repeated n e es) read stack =
      two-parts read (steps_of e) _ stack _ _ (expr-steps e read stack)
      (two-parts read (exprs_steps es) (step.Join (count es + 1) ∷ step.Repeat n ∷ []) (value (by_ref read) e ∷ stack) _ _ (exprs-steps es read (value (by_ref read) e ∷ stack))
      (ap (repeat_value n) (braced read e es stack)))

  exprs-steps : (es : Exprs) (read : Ref → List Bool) (stack : List (List Bool)) → steps_value read (exprs_steps es) stack ≡ reverse (each_value (by_ref read) es) ++ stack
  exprs-steps NoExprs read stack = refl
  exprs-steps (MoreExprs e es) read stack =
      two-parts read (steps_of e) (exprs_steps es) stack _ _ (expr-steps e read stack)
      (exprs-steps es read (value (by_ref read) e ∷ stack) ∙ put-one (each_value (by_ref read) es) (value (by_ref read) e) stack)
