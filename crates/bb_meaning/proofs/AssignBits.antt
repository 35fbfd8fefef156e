-- The bits of an assign's targets are those of its expression's value.
use Rattle.std.proofs.Common.{arith, ◌≡◌, ℕ, min, Bool, true, false, cond, List, [], ◌∷◌, ◌++◌, map, length, refl, ap, sym, ◌∙◌}
use Rattle.std.specs.Prelude.{None}
use Rattle.bb_base.specs.declared.operator.Op.{Op}
use Rattle.bb_base.specs.declared.operator.Op.TheVariants as op
use Rattle.bb_base.specs.Variables.{Entry}
use Rattle.bb_base.proofs.Lists.{all_front, all_back}
use Rattle.bb_parse.specs.declared.syntax.Ref.{Ref}
use Rattle.bb_parse.specs.declared.syntax.Step.{Step}
use Rattle.bb_parse.specs.declared.syntax.Step.TheVariants as step
use Rattle.bb_fault.proofs.Parted.{none-first, none-second}
use Rattle.bb_scope.specs.declared.value.Bit.{Bit}
use Rattle.bb_scope.specs.declared.value.Bit.TheVariants.{Net, Fixed}
use Rattle.bb_scope.specs.Names.{step_names, steps_names}
use Rattle.bb_scope.specs.Sizes.{width, step_fault, step_stack, steps_fault, steps_stack, last_size}
use Rattle.bb_fault.specs.Work.{Work, Clocked, make, drive, constant}
use Rattle.bb_scope.specs.Making.{New, To, grounded, each_alone, each_pair, each_choice, as_value, inverted, joined_by, choice_between, last_value, step_made, copied_onto, makes_gates, assigned}
use Rattle.bb_meaning.proofs.WithinSteps.{AreKnown, IsKnown}
use Rattle.bb_scope.specs.ValueSizes.{value_size, value_sizes}
use Rattle.bb_scope.proofs.Operators.{width_is, grounded-length, lesser}
use Rattle.bb_scope.proofs.Expressions.{counted}
use Rattle.bb_meaning.proofs.MadeBits.{AllMeet, read_bits, nets-read, drive-bits, constant-gives}
use Rattle.bb_meaning.proofs.StepValues.{step_value, steps_value}
use Rattle.bb_meaning.proofs.StepBits.{AreRead, read_all, last_bits, last-read, step-bits}

-- gates onto targets give these, where they are as many as the bits

alone-to : (o : Op) (xs targets : List ℕ) (w : Work) → length xs ≡ length targets → (each_alone o xs (To targets) w).0 ≡ targets
alone-to o [] [] w h = refl
alone-to o [] (t ∷ targets) w h = cc
alone-to o (a ∷ xs) [] w h = cc
alone-to o (a ∷ xs) (t ∷ targets) w h = ap (λ z. t ∷ z) (alone-to o xs targets (drive o (a ∷ []) t w).1 (omega (arith, h)))

pair-to : (o : Op) (xs ys targets : List ℕ) (w : Work) → min (length xs) (length ys) ≡ length targets → (each_pair o xs ys (To targets) w).0 ≡ targets
pair-to o [] ys [] w h = refl
pair-to o [] ys (t ∷ targets) w h = absurd (omega (arith, h))
pair-to o (a ∷ xs) [] [] w h = refl
pair-to o (a ∷ xs) [] (t ∷ targets) w h = absurd (omega (arith, h))
pair-to o (a ∷ xs) (b ∷ ys) [] w h = absurd (omega (arith, h))
pair-to o (a ∷ xs) (b ∷ ys) (t ∷ targets) w h = ap (λ z. t ∷ z) (pair-to o xs ys targets (drive o (a ∷ b ∷ []) t w).1 (omega (arith, h)))

choice-to : (c : List ℕ) (n : ℕ) (xs ys targets : List ℕ) (w : Work) → min (length xs) (length ys) ≡ length targets → (each_choice c n xs ys (To targets) w).0 ≡ targets
choice-to c n [] ys [] w h = refl
choice-to c n [] ys (t ∷ targets) w h = absurd (omega (arith, h))
choice-to c n (a ∷ xs) [] [] w h = refl
choice-to c n (a ∷ xs) [] (t ∷ targets) w h = absurd (omega (arith, h))
choice-to c n (a ∷ xs) (b ∷ ys) [] w h = absurd (omega (arith, h))
choice-to c n (a ∷ xs) (b ∷ ys) (t ∷ targets) w h =
    let w1 = make op.And (c ++ a ∷ []) w in
    let w2 = make op.And (n ∷ b ∷ []) w1.1 in
    let w3 = drive op.Or (w1.0 ∷ w2.0 ∷ []) t w2.1 in
    ap (λ z. t ∷ z) (choice-to c n xs ys targets w3.1 (omega (arith, h)))

inverted-to : (a : List Bit) (targets : List ℕ) (w : Work) → width (value_size a) ≡ length targets → (inverted (To targets) a w).0 ≡ as_value targets
inverted-to a targets w h = let ga = grounded a w in ap as_value (alone-to op.Not ga.0 targets ga.1 (omega (arith, h, grounded-length a w, width_is a)))

joined-to : (o : Op) (a b : List Bit) (targets : List ℕ) (w : Work) → lesser a b ≡ length targets → (joined_by o (To targets) a b w).0 ≡ as_value targets
joined-to o a b targets w h =
    let ga = grounded a w in
    let gb = grounded b ga.1 in
    ap as_value (pair-to o ga.0 gb.0 targets gb.1 (omega (arith, h, grounded-length a w, grounded-length b ga.1, width_is a, width_is b)))

chosen-to : (c a b : List Bit) (targets : List ℕ) (w : Work) → lesser a b ≡ length targets → (choice_between (To targets) c a b w).0 ≡ as_value targets
chosen-to c a b targets w h =
    let gc = grounded c w in
    let ga = grounded a gc.1 in
    let gb = grounded b ga.1 in
    let n = make op.Not gc.0 gb.1 in
    ap as_value (choice-to gc.0 n.0 ga.0 gb.0 targets n.1 (omega (arith, h, grounded-length a gc.1, grounded-length b ga.1, width_is a, width_is b)))

no-targets : (targets : List ℕ) → 0 ≡ length targets → [] ≡ as_value targets
no-targets [] h = refl
no-targets (t ∷ targets) h = cc

onto-targets :
    (table : List Entry) (targets : List ℕ) (s : Step) (stack : List (List Bit)) (w : Work) → makes_gates s ≡ true → width (last_size (step_stack table s (value_sizes stack))) ≡ length targets
    → last_value (step_made table (To targets) s stack w).0 ≡ as_value targets
onto-targets table targets (step.Ref r) stack w e h = cc
onto-targets table targets (step.Const n number) stack w e h = cc
onto-targets table targets step.Not [] w e h = no-targets targets (omega (arith, h))
onto-targets table targets step.Not (a ∷ rest) w e h = inverted-to a targets w (omega (arith, h))
onto-targets table targets step.And [] w e h = no-targets targets (omega (arith, h))
onto-targets table targets step.And (b ∷ []) w e h = no-targets targets (omega (arith, h))
onto-targets table targets step.And (b ∷ a ∷ rest) w e h = joined-to op.And a b targets w (omega (arith, h))
onto-targets table targets step.Or [] w e h = no-targets targets (omega (arith, h))
onto-targets table targets step.Or (b ∷ []) w e h = no-targets targets (omega (arith, h))
onto-targets table targets step.Or (b ∷ a ∷ rest) w e h = joined-to op.Or a b targets w (omega (arith, h))
onto-targets table targets step.Xor [] w e h = no-targets targets (omega (arith, h))
onto-targets table targets step.Xor (b ∷ []) w e h = no-targets targets (omega (arith, h))
onto-targets table targets step.Xor (b ∷ a ∷ rest) w e h = joined-to op.Xor a b targets w (omega (arith, h))
onto-targets table targets step.Xnor [] w e h = no-targets targets (omega (arith, h))
onto-targets table targets step.Xnor (b ∷ []) w e h = no-targets targets (omega (arith, h))
onto-targets table targets step.Xnor (b ∷ a ∷ rest) w e h = joined-to op.Xnor a b targets w (omega (arith, h))
onto-targets table targets step.Cond [] w e h = no-targets targets (omega (arith, h))
onto-targets table targets step.Cond (b ∷ []) w e h = no-targets targets (omega (arith, h))
onto-targets table targets step.Cond (b ∷ a ∷ []) w e h = no-targets targets (omega (arith, h))
onto-targets table targets step.Cond (b ∷ a ∷ c ∷ rest) w e h = chosen-to c a b targets w (omega (arith, h))
onto-targets table targets (step.Join n) stack w e h = cc
onto-targets table targets (step.Repeat n) stack w e h = cc

-- a target takes its bit

copied-bits : (v : ℕ → Bool) (F : Clocked → Type 0) (targets : List ℕ) (bits : List Bit) (w : Work) → length bits ≡ length targets → AllMeet v F (copied_onto targets bits w).1 → AllMeet v F w × (map v targets ≡ read_bits v bits)
copied-bits v F [] [] w e h = (h, refl)
copied-bits v F [] (b ∷ bits) w e h = cc
copied-bits v F (t ∷ targets) [] w e h = cc
copied-bits v F (t ∷ targets) (Net n ∷ bits) w e h =
    let k = copied-bits v F targets bits (drive op.Buf (n ∷ []) t w).1 (omega (arith, e)) h in
    let d = drive-bits v F op.Buf (n ∷ []) t w k.0 in
    (d.0, λ i. d.1 i ∷ k.1 i)
copied-bits v F (t ∷ targets) (Fixed one ∷ bits) w e h =
    let k = copied-bits v F targets bits (drive (constant one) [] t w).1 (omega (arith, e)) h in
    let d = drive-bits v F (constant one) [] t w k.0 in
    (d.0, λ i. (d.1 ∙ constant-gives one) i ∷ k.1 i)

last-length : (stack : List (List Bit)) → length (last_value stack) ≡ width (last_size (value_sizes stack))
last-length [] = refl
last-length (a ∷ rest) = sym (width_is a)

-- the last step of an assign
one-bits :
    (table : List Entry) (v : ℕ → Bool) (F : Clocked → Type 0) (read : Ref → List Bool) → AreRead table v read → (line : ℕ) (targets : List ℕ) (s : Step) (stack : List (List Bit)) (w : Work) (b : Bool)
    → makes_gates s ≡ b → AreKnown table (step_names s) → step_fault table line s (value_sizes stack) ≡ None → width (last_size (step_stack table s (value_sizes stack))) ≡ length targets
    → AllMeet v F (cond {A = Work → List ℕ × Work} b (λ z. ([], (step_made table (To targets) s stack z).1)) (λ z. copied_onto targets (last_value (step_made table New s stack z).0) (step_made table New s stack z).1) w).1
    → AllMeet v F w × (map v targets ≡ last_bits (step_value read s (read_all v stack)))
one-bits table v F read reads line targets s stack w true e known fine even h =
    let k = step-bits table v F read reads line (To targets) s stack w known fine h in
    (k.0, sym (nets-read v targets) ∙ (ap (read_bits v) (sym (onto-targets table targets s stack w e even)) ∙ (last-read v (step_made table (To targets) s stack w).0 ∙ ap last_bits k.1)))
one-bits table v F read reads line targets s stack w false e known fine even h =
    let made = step_made table New s stack w in
    let size : width (last_size (value_sizes made.0)) ≡ length targets = ap (λ z. width (last_size z)) (counted table s stack w).sizes ∙ even in
    let c = copied-bits v F targets (last_value made.0) made.1 (last-length made.0 ∙ size) h in
    let k = step-bits table v F read reads line New s stack w known fine c.0 in
    (k.0, c.1 ∙ (last-read v made.0 ∙ ap last_bits k.1))

-- an assign, where the targets are as many as the value's bits
pub assigned-bits :
    (table : List Entry) (v : ℕ → Bool) (F : Clocked → Type 0) (read : Ref → List Bool) → AreRead table v read → (line : ℕ) (targets : List ℕ) (steps : List Step) (stack : List (List Bit)) (w : Work)
    → AreKnown table (steps_names steps) → steps_fault table line steps (value_sizes stack) ≡ None → width (last_size (steps_stack table steps (value_sizes stack))) ≡ length targets
    → AllMeet v F (assigned table targets steps stack w).1 → AllMeet v F w × (map v targets ≡ last_bits (steps_value read steps (read_all v stack)))
assigned-bits table v F read reads line targets [] stack w known fine even h =
    let c = copied-bits v F targets (last_value stack) w (last-length stack ∙ even) h in
    (c.0, c.1 ∙ last-read v stack)
assigned-bits table v F read reads line targets (s ∷ []) stack w known fine even h =
    one-bits table v F read reads line targets s stack w (makes_gates s) refl (all_front (IsKnown table) (step_names s) [] known) (none-first (step_fault table line s (value_sizes stack)) None fine) even h
assigned-bits table v F read reads line targets (s ∷ next ∷ more) stack w known fine even h =
    let made = step_made table New s stack w in
    let sizes = (counted table s stack w).sizes in
    let first = none-first (step_fault table line s (value_sizes stack)) (steps_fault table line (next ∷ more) (step_stack table s (value_sizes stack))) fine in
    let others = none-second (step_fault table line s (value_sizes stack)) (steps_fault table line (next ∷ more) (step_stack table s (value_sizes stack))) fine in
    let rest =
    assigned-bits table v F read reads line targets (next ∷ more) made.0 made.1 (all_back (IsKnown table) (step_names s) (steps_names (next ∷ more)) known) (ap (steps_fault table line (next ∷ more)) sizes ∙ others)
    (ap (λ z. width (last_size (steps_stack table (next ∷ more) z))) sizes ∙ even) h in
    let here = step-bits table v F read reads line New s stack w (all_front (IsKnown table) (step_names s) (steps_names (next ∷ more)) known) first rest.0 in
    (here.0, rest.1 ∙ ap (λ z. last_bits (steps_value read (next ∷ more) z)) here.1)
