-- How many drivers of a variable's bit expressions, assigns and primitives add.
use Rattle.std.proofs.Common.{arith, ◌≡◌, ℕ, ◌<◌, Bool, true, false, cond, List, [], ◌∷◌, length, refl, sym, ap, ◌∙◌}
use Rattle.std.specs.Prelude.{None, flat_map}
use Rattle.bb_base.specs.declared.operator.Op.{Op}
use Rattle.bb_base.specs.declared.operator.Op.TheVariants as op
use Rattle.bb_base.specs.Variables.{Entry}
use Rattle.bb_parse.specs.declared.syntax.Ref.{Ref}
use Rattle.bb_parse.specs.declared.syntax.Step.{Step}
use Rattle.bb_parse.specs.declared.syntax.Step.TheVariants as step
use Rattle.bb_fault.specs.Firsts.{first_answer}
use Rattle.bb_fault.proofs.Parted.{none-second}
use Rattle.bb_scope.specs.declared.value.Bit.{Bit}
use Rattle.bb_scope.specs.References.{ref_fault, ref_bits, left_width}
use Rattle.bb_scope.specs.Terminals.{outs_of, ins_of}
use Rattle.bb_scope.specs.Sizes.{width, step_stack, steps_stack, last_size, expr_fault}
use Rattle.bb_scope.specs.Parts.{assign_fault}
use Rattle.bb_fault.specs.Work.{Work}
use Rattle.bb_scope.specs.Making.{New, To, last_value, step_made, steps_made, terminal_made, terminals_made, copied_onto, makes_gates, assigned, driven_bits, prim_made}
use Rattle.bb_scope.specs.ValueSizes.{value_sizes}
use Rattle.bb_scope.proofs.Operators.{width_is}
use Rattle.bb_scope.proofs.Expressions.{counted}
use Rattle.bb_scope.proofs.Assigns.{fine-width, targets-length}
use Rattle.bb_targets.proofs.MarkLaws.{hits}
use Rattle.bb_targets.proofs.Adding.{Adds, grounded-adds, inverted-adds, joined-adds, between-adds, copied-adds, driven-adds}

-- steps whose gates drive made nets add none
new-adds : (b : ℕ) (table : List Entry) (s : Step) (stack : List (List Bit)) (w : Work) → b < w.fresh → Adds b 0 w (step_made table New s stack w)
new-adds b table (step.Ref r) stack w small = record { grows = omega arith; adds = omega arith }
new-adds b table (step.Const n value) stack w small = record { grows = omega arith; adds = omega arith }
new-adds b table step.Not [] w small = record { grows = omega arith; adds = omega arith }
new-adds b table step.Not (x ∷ rest) w small = let k = inverted-adds b New x w small tt in record { grows = k.grows; adds = k.adds }
new-adds b table step.And [] w small = record { grows = omega arith; adds = omega arith }
new-adds b table step.And (y ∷ []) w small = record { grows = omega arith; adds = omega arith }
new-adds b table step.And (y ∷ x ∷ rest) w small = let k = joined-adds b op.And New x y w small tt in record { grows = k.grows; adds = k.adds }
new-adds b table step.Or [] w small = record { grows = omega arith; adds = omega arith }
new-adds b table step.Or (y ∷ []) w small = record { grows = omega arith; adds = omega arith }
new-adds b table step.Or (y ∷ x ∷ rest) w small = let k = joined-adds b op.Or New x y w small tt in record { grows = k.grows; adds = k.adds }
new-adds b table step.Xor [] w small = record { grows = omega arith; adds = omega arith }
new-adds b table step.Xor (y ∷ []) w small = record { grows = omega arith; adds = omega arith }
new-adds b table step.Xor (y ∷ x ∷ rest) w small = let k = joined-adds b op.Xor New x y w small tt in record { grows = k.grows; adds = k.adds }
new-adds b table step.Xnor [] w small = record { grows = omega arith; adds = omega arith }
new-adds b table step.Xnor (y ∷ []) w small = record { grows = omega arith; adds = omega arith }
new-adds b table step.Xnor (y ∷ x ∷ rest) w small = let k = joined-adds b op.Xnor New x y w small tt in record { grows = k.grows; adds = k.adds }
new-adds b table step.Cond [] w small = record { grows = omega arith; adds = omega arith }
new-adds b table step.Cond (y ∷ []) w small = record { grows = omega arith; adds = omega arith }
new-adds b table step.Cond (y ∷ x ∷ []) w small = record { grows = omega arith; adds = omega arith }
new-adds b table step.Cond (y ∷ x ∷ c ∷ rest) w small = let k = between-adds b New c x y w small tt in record { grows = k.grows; adds = k.adds }
new-adds b table (step.Join n) stack w small = record { grows = omega arith; adds = omega arith }
new-adds b table (step.Repeat n) [] w small = record { grows = omega arith; adds = omega arith }
new-adds b table (step.Repeat n) (x ∷ rest) w small = record { grows = omega arith; adds = omega arith }

no_targets : (b : ℕ) (targets : List ℕ) → 0 ≡ length targets → hits b targets ≡ 0
no_targets b [] h = refl
no_targets b (t ∷ targets) h = absurd (omega (arith, h))

-- an operator whose gates drive targets, of which there are as many as bits
to-adds :
    (b : ℕ) (table : List Entry) (targets : List ℕ) (s : Step) (stack : List (List Bit)) (w : Work) → b < w.fresh → makes_gates s ≡ true
    → width (last_size (step_stack table s (value_sizes stack))) ≡ length targets → Adds b (hits b targets) w (step_made table (To targets) s stack w)
to-adds b table targets (step.Ref r) stack w small e h = absurd (cc e)
to-adds b table targets (step.Const n value) stack w small e h = absurd (cc e)
to-adds b table targets step.Not [] w small e h = record { grows = omega arith; adds = omega (arith, no_targets b targets (omega (arith, h))) }
to-adds b table targets step.Not (x ∷ rest) w small e h = let k = inverted-adds b (To targets) x w small (omega (arith, h, width_is x)) in record { grows = k.grows; adds = k.adds }
to-adds b table targets step.And [] w small e h = record { grows = omega arith; adds = omega (arith, no_targets b targets (omega (arith, h))) }
to-adds b table targets step.And (y ∷ []) w small e h = record { grows = omega arith; adds = omega (arith, no_targets b targets (omega (arith, h))) }
to-adds b table targets step.And (y ∷ x ∷ rest) w small e h = let k = joined-adds b op.And (To targets) x y w small (omega (arith, h, width_is x, width_is y)) in record { grows = k.grows; adds = k.adds }
to-adds b table targets step.Or [] w small e h = record { grows = omega arith; adds = omega (arith, no_targets b targets (omega (arith, h))) }
to-adds b table targets step.Or (y ∷ []) w small e h = record { grows = omega arith; adds = omega (arith, no_targets b targets (omega (arith, h))) }
to-adds b table targets step.Or (y ∷ x ∷ rest) w small e h = let k = joined-adds b op.Or (To targets) x y w small (omega (arith, h, width_is x, width_is y)) in record { grows = k.grows; adds = k.adds }
to-adds b table targets step.Xor [] w small e h = record { grows = omega arith; adds = omega (arith, no_targets b targets (omega (arith, h))) }
to-adds b table targets step.Xor (y ∷ []) w small e h = record { grows = omega arith; adds = omega (arith, no_targets b targets (omega (arith, h))) }
to-adds b table targets step.Xor (y ∷ x ∷ rest) w small e h = let k = joined-adds b op.Xor (To targets) x y w small (omega (arith, h, width_is x, width_is y)) in record { grows = k.grows; adds = k.adds }
to-adds b table targets step.Xnor [] w small e h = record { grows = omega arith; adds = omega (arith, no_targets b targets (omega (arith, h))) }
to-adds b table targets step.Xnor (y ∷ []) w small e h = record { grows = omega arith; adds = omega (arith, no_targets b targets (omega (arith, h))) }
to-adds b table targets step.Xnor (y ∷ x ∷ rest) w small e h = let k = joined-adds b op.Xnor (To targets) x y w small (omega (arith, h, width_is x, width_is y)) in record { grows = k.grows; adds = k.adds }
to-adds b table targets step.Cond [] w small e h = record { grows = omega arith; adds = omega (arith, no_targets b targets (omega (arith, h))) }
to-adds b table targets step.Cond (y ∷ []) w small e h = record { grows = omega arith; adds = omega (arith, no_targets b targets (omega (arith, h))) }
to-adds b table targets step.Cond (y ∷ x ∷ []) w small e h = record { grows = omega arith; adds = omega (arith, no_targets b targets (omega (arith, h))) }
to-adds b table targets step.Cond (y ∷ x ∷ c ∷ rest) w small e h = let k = between-adds b (To targets) c x y w small (omega (arith, h, width_is x, width_is y)) in record { grows = k.grows; adds = k.adds }
to-adds b table targets (step.Join n) stack w small e h = absurd (cc e)
to-adds b table targets (step.Repeat n) stack w small e h = absurd (cc e)

steps-adds : (b : ℕ) (table : List Entry) (ss : List Step) (stack : List (List Bit)) (w : Work) → b < w.fresh → Adds b 0 w (steps_made table ss stack w)
steps-adds b table [] stack w small = record { grows = omega arith; adds = omega arith }
steps-adds b table (s ∷ ss) stack w small =
    let made = step_made table New s stack w in
    let one = new-adds b table s stack w small in
    let k = steps-adds b table ss made.0 made.1 (omega (arith, small, one.grows)) in
    record { grows = omega (arith, one.grows, k.grows); adds = omega (arith, one.adds, k.adds) }

pub terminal-adds : (b : ℕ) (table : List Entry) (ss : List Step) (w : Work) → b < w.fresh → Adds b 0 w (terminal_made table ss w)
terminal-adds b table ss w small =
    let made = steps_made table ss [] w in
    let one = steps-adds b table ss [] w small in
    let k = grounded-adds b (last_value made.0) made.1 (omega (arith, small, one.grows)) in
    record { grows = omega (arith, one.grows, k.grows); adds = omega (arith, one.adds, k.adds) }

terminals-adds : (b : ℕ) (table : List Entry) (es : List (List Step)) (w : Work) → b < w.fresh → Adds b 0 w (terminals_made table es w)
terminals-adds b table [] w small = record { grows = omega arith; adds = omega arith }
terminals-adds b table (e ∷ es) w small =
    let first = terminal_made table e w in
    let one = terminal-adds b table e w small in
    let k = terminals-adds b table es first.1 (omega (arith, small, one.grows)) in
    record { grows = omega (arith, one.grows, k.grows); adds = omega (arith, one.adds, k.adds) }

-- assigns

last-length : (stack : List (List Bit)) → length (last_value stack) ≡ width (last_size (value_sizes stack))
last-length [] = refl
last-length (a ∷ rest) = sym (width_is a)

-- the last step of an assign
one-adds :
    (b : ℕ) (table : List Entry) (targets : List ℕ) (s : Step) (stack : List (List Bit)) (w : Work) (t : Bool) → b < w.fresh → makes_gates s ≡ t
    → width (last_size (step_stack table s (value_sizes stack))) ≡ length targets
    → Adds b (hits b targets) w (cond {A = Work → List ℕ × Work} t (λ z. ([], (step_made table (To targets) s stack z).1)) (λ z. copied_onto targets (last_value (step_made table New s stack z).0) (step_made table New s stack z).1) w)
one-adds b table targets s stack w true small e even = let k = to-adds b table targets s stack w small e even in record { grows = k.grows; adds = k.adds }
one-adds b table targets s stack w false small e even =
    let made = step_made table New s stack w in
    let size : width (last_size (value_sizes made.0)) ≡ length targets = ap (λ z. width (last_size z)) (counted table s stack w).sizes ∙ even in
    let one = new-adds b table s stack w small in
    let k = copied-adds b targets (last_value made.0) made.1 (last-length made.0 ∙ size) in
    record { grows = omega (arith, one.grows, k.grows); adds = omega (arith, one.adds, k.adds) }

assigned-adds :
    (b : ℕ) (table : List Entry) (targets : List ℕ) (steps : List Step) (stack : List (List Bit)) (w : Work) → b < w.fresh → width (last_size (steps_stack table steps (value_sizes stack))) ≡ length targets
    → Adds b (hits b targets) w (assigned table targets steps stack w)
assigned-adds b table targets [] stack w small even = copied-adds b targets (last_value stack) w (last-length stack ∙ even)
assigned-adds b table targets (s ∷ []) stack w small even = one-adds b table targets s stack w (makes_gates s) small refl even
assigned-adds b table targets (s ∷ next ∷ more) stack w small even =
    let made = step_made table New s stack w in
    let one = new-adds b table s stack w small in
    let k = assigned-adds b table targets (next ∷ more) made.0 made.1 (omega (arith, small, one.grows)) (ap (λ z. width (last_size (steps_stack table (next ∷ more) z))) (counted table s stack w).sizes ∙ even) in
    record { grows = omega (arith, one.grows, k.grows); adds = omega (arith, one.adds, k.adds) }

pub assign-adds :
    (b : ℕ) (table : List Entry) (line : ℕ) (left : List Ref) (right : List Step) (w : Work) → b < w.fresh → assign_fault table line left right ≡ None
    → Adds b (hits b (flat_map (ref_bits table) left)) w (assigned table (flat_map (ref_bits table) left) right [] w)
assign-adds b table line left right w small fine =
    let e = none-second (first_answer (ref_fault table line) left) (expr_fault table line (left_width table left) right) fine in
    assigned-adds b table (flat_map (ref_bits table) left) right [] w small (fine-width table line (left_width table left) right e ∙ sym (targets-length table left))

-- primitives

pub prim-adds : (b : ℕ) (table : List Entry) (o : Op) (terms : List (List Step)) (w : Work) → b < w.fresh → Adds b (hits b (flat_map (driven_bits table) (outs_of o terms))) w (prim_made table o terms w)
prim-adds b table o terms w small =
    let made = terminals_made table (ins_of o terms) w in
    let one = terminals-adds b table (ins_of o terms) w small in
    let k = driven-adds b o made.0 (flat_map (driven_bits table) (outs_of o terms)) made.1 in
    record { grows = omega (arith, one.grows, k.grows); adds = omega (arith, one.adds, k.adds) }
