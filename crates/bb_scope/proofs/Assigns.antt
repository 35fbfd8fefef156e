-- How many nets assigns, primitives and cells make.
use Rattle.std.proofs.Common.{arith, ◌≡◌, ℕ, suc, zero, ◌+◌, ◌≤◌, List, [], ◌∷◌, length, take, drop, refl, ap, sym, ◌∙◌, Bool, true, false, ◌&&◌, ◌==◌, cond, subst, rules, length-append, nat_le}
use Rattle.std.specs.Prelude.{Option, Some, None, flat_map}
use Rattle.std.specs.List.{list_all}
use Rattle.bb_base.specs.declared.operator.Op.{Op}
use Rattle.bb_base.specs.declared.operator.Op.TheVariants as op
use Rattle.bb_base.specs.Variables.{Entry}
use Rattle.bb_parse.specs.declared.syntax.Ref.{Ref}
use Rattle.bb_parse.specs.declared.syntax.Step.{Step}
use Rattle.bb_parse.specs.declared.syntax.Step.TheVariants as step
use Rattle.bb_fault.specs.declared.fault.ElabFault.{ElabFault}
use Rattle.bb_fault.specs.declared.fault.ElabFault.TheVariants.{BadPins}
use Rattle.bb_scope.specs.declared.value.Bit.{Bit}
use Rattle.bb_scope.specs.declared.value.Bit.TheVariants.{Net, Fixed}
use Rattle.bb_scope.specs.declared.size.Size.{Size}
use Rattle.bb_fault.specs.Firsts.{first_answer}
use Rattle.bb_scope.specs.Cells.{is_plain}
use Rattle.bb_scope.specs.References.{ref_fault, left_width, ref_bits}
use Rattle.bb_scope.specs.Sizes.{width, step_stack, step_nets, steps_stack, steps_nets, steps_fault, last_size, differs, expr_fault, terminal_nets, value_nets}
use Rattle.bb_scope.specs.Terminals.{is_last, out_count, outs_of, ins_of}
use Rattle.bb_scope.specs.Parts.{are_right_terms, terms_nets, prim_fault, assign_fault}
use Rattle.bb_fault.specs.Work.{Work, drive, constant}
use Rattle.bb_scope.specs.Making.{New, To, last_value, step_made, copied_onto, makes_gates, assigned, terminals_made, terminal_made, all_driven, driven_bits, prim_made}
use Rattle.bb_scope.specs.ValueSizes.{value_sizes}
use Rattle.bb_fault.proofs.Parted.{both-second, none-second}
use Rattle.bb_scope.proofs.Operators.{inverted-onto, joined-onto, chosen-onto}
use Rattle.bb_scope.proofs.Expressions.{ref-length, counted, terminal-fresh}

copied-fresh : (targets : List ℕ) (bits : List Bit) (w : Work) → (copied_onto targets bits w).1.fresh ≡ w.fresh
copied-fresh [] bits w = refl
copied-fresh (t ∷ targets) [] w = refl
copied-fresh (t ∷ targets) (Net n ∷ bits) w = copied-fresh targets bits (drive op.Buf (n ∷ []) t w).1
copied-fresh (t ∷ targets) (Fixed one ∷ bits) w = copied-fresh targets bits (drive (constant one) [] t w).1

-- an operator whose gates drive targets, of which there are enough
onto-fresh :
    (table : List Entry) (targets : List ℕ) (s : Step) (stack : List (List Bit)) (w : Work) → makes_gates s ≡ true → width (last_size (step_stack table s (value_sizes stack))) ≤ length targets
    → (step_made table (To targets) s stack w).1.fresh ≡ w.fresh + step_nets true s (value_sizes stack)
onto-fresh table targets (step.Ref r) stack w e h = cc
onto-fresh table targets (step.Const n value) stack w e h = cc
onto-fresh table targets step.Not [] w e h = omega arith
onto-fresh table targets step.Not (a ∷ rest) w e h = inverted-onto a targets w (omega (arith, h))
onto-fresh table targets step.And [] w e h = omega arith
onto-fresh table targets step.And (b ∷ []) w e h = omega arith
onto-fresh table targets step.And (b ∷ a ∷ rest) w e h = joined-onto op.And a b targets w (omega (arith, h))
onto-fresh table targets step.Or [] w e h = omega arith
onto-fresh table targets step.Or (b ∷ []) w e h = omega arith
onto-fresh table targets step.Or (b ∷ a ∷ rest) w e h = joined-onto op.Or a b targets w (omega (arith, h))
onto-fresh table targets step.Xor [] w e h = omega arith
onto-fresh table targets step.Xor (b ∷ []) w e h = omega arith
onto-fresh table targets step.Xor (b ∷ a ∷ rest) w e h = joined-onto op.Xor a b targets w (omega (arith, h))
onto-fresh table targets step.Xnor [] w e h = omega arith
onto-fresh table targets step.Xnor (b ∷ []) w e h = omega arith
onto-fresh table targets step.Xnor (b ∷ a ∷ rest) w e h = joined-onto op.Xnor a b targets w (omega (arith, h))
onto-fresh table targets step.Cond [] w e h = omega arith
onto-fresh table targets step.Cond (b ∷ []) w e h = omega arith
onto-fresh table targets step.Cond (b ∷ a ∷ []) w e h = omega arith
onto-fresh table targets step.Cond (b ∷ a ∷ c ∷ rest) w e h = chosen-onto c a b targets w (omega (arith, h))
onto-fresh table targets (step.Join n) stack w e h = cc
onto-fresh table targets (step.Repeat n) stack w e h = cc

-- what is no operator makes no nets
no-nets : (d : Bool) (s : Step) (stack : List Size) → makes_gates s ≡ false → step_nets d s stack ≡ step_nets false s stack
no-nets d (step.Ref r) stack e = refl
no-nets d (step.Const n value) stack e = refl
no-nets d step.Not stack e = cc
no-nets d step.And stack e = cc
no-nets d step.Or stack e = cc
no-nets d step.Xor stack e = cc
no-nets d step.Xnor stack e = cc
no-nets d step.Cond stack e = cc
no-nets d (step.Join n) stack e = refl
no-nets d (step.Repeat n) stack e = refl

-- the last step of an assign
one-fresh :
    (table : List Entry) (targets : List ℕ) (s : Step) (stack : List (List Bit)) (w : Work) (b : Bool) → makes_gates s ≡ b → width (last_size (step_stack table s (value_sizes stack))) ≤ length targets
    → (cond {A = Work → List ℕ × Work} b (λ v. ([], (step_made table (To targets) s stack v).1)) (λ v. copied_onto targets (last_value (step_made table New s stack v).0) (step_made table New s stack v).1) w).1.fresh
    ≡ w.fresh + (step_nets true s (value_sizes stack) + 0)
one-fresh table targets s stack w true e h = omega (arith, onto-fresh table targets s stack w e h)
one-fresh table targets s stack w false e h =
    let here = counted table s stack w in
    let made = step_made table New s stack w in
    omega (arith, copied-fresh targets (last_value made.0) made.1, here.fresh, no-nets true s (value_sizes stack) e)

-- an assign, where the targets are as many as the value's bits
pub assigned-fresh :
    (table : List Entry) (targets : List ℕ) (steps : List Step) (stack : List (List Bit)) (w : Work) → width (last_size (steps_stack table steps (value_sizes stack))) ≤ length targets
    → (assigned table targets steps stack w).1.fresh ≡ w.fresh + steps_nets table true steps (value_sizes stack)
assigned-fresh table targets [] stack w h = copied-fresh targets (last_value stack) w ∙ omega arith
assigned-fresh table targets (s ∷ []) stack w h = one-fresh table targets s stack w (makes_gates s) refl h
assigned-fresh table targets (s ∷ next ∷ more) stack w h =
    let here = counted table s stack w in
    let made = step_made table New s stack w in
    let rest : steps_nets table true (next ∷ more) (value_sizes made.0) ≡ steps_nets table true (next ∷ more) (step_stack table s (value_sizes stack)) = ap (λ z. steps_nets table true (next ∷ more) z) here.sizes in
    let same : steps_stack table (next ∷ more) (value_sizes made.0) ≡ steps_stack table (next ∷ more) (step_stack table s (value_sizes stack)) = ap (λ z. steps_stack table (next ∷ more) z) here.sizes in
    let few : width (last_size (steps_stack table (next ∷ more) (value_sizes made.0))) ≤ length targets = subst (λ z. width (last_size z) ≤ length targets) (sym same) h in
    let others : step_nets (true && is_last (next ∷ more)) s (value_sizes stack) ≡ step_nets false s (value_sizes stack) = refl in
    omega (arith, assigned-fresh table targets (next ∷ more) made.0 made.1 few, here.fresh, rest, others)

-- the targets of a left side are its bits
pub targets-length : (table : List Entry) (left : List Ref) → length (flat_map (ref_bits table) left) ≡ left_width table left
targets-length table [] = refl
targets-length table (r ∷ left) =
    length-append (ref_bits table r) (flat_map (ref_bits table) left) ∙ (λ i. ref-length table r i + targets-length table left i)

pub agreed : (line : ℕ) (b : Bool) → differs line b ≡ None → b ≡ true
agreed line true h = refl
agreed line false h = cc

-- the width of an expression without a fault
pub fine-width : (table : List Entry) (line wanted : ℕ) (steps : List Step) → expr_fault table line wanted steps ≡ None → width (last_size (steps_stack table steps [])) ≡ wanted
fine-width table line wanted steps h =
    let e = agreed line (width (last_size (steps_stack table steps [])) == wanted) (none-second (steps_fault table line steps []) (differs line (width (last_size (steps_stack table steps [])) == wanted)) h) in
    search (rules, e)

pub assign-fresh :
    (table : List Entry) (line : ℕ) (left : List Ref) (right : List Step) (w : Work) → assign_fault table line left right ≡ None
    → (assigned table (flat_map (ref_bits table) left) right [] w).1.fresh ≡ w.fresh + value_nets table right
assign-fresh table line left right w h =
    let e = none-second (first_answer (ref_fault table line) left) (expr_fault table line (left_width table left) right) h in
    let width_is = fine-width table line (left_width table left) right e in
    assigned-fresh table (flat_map (ref_bits table) left) right [] w (omega (arith, width_is, targets-length table left))

-- primitives

terminals-fresh : (table : List Entry) (es : List (List Step)) (w : Work) → (terminals_made table es w).1.fresh ≡ w.fresh + terms_nets table es
terminals-fresh table [] w = omega arith
terminals-fresh table (e ∷ es) w =
    let first = terminal_made table e w in
    omega (arith, terminal-fresh table e w, terminals-fresh table es first.1)

driven-fresh : (o : Op) (ins targets : List ℕ) (w : Work) → (all_driven o ins targets w).1.fresh ≡ w.fresh
driven-fresh o ins [] w = refl
driven-fresh o ins (t ∷ targets) w = driven-fresh o ins targets (drive o ins t w).1

-- a plain reference makes no nets
pub plain-nets : (table : List Entry) (e : List Step) → is_plain e ≡ true → terminal_nets table e ≡ 0
plain-nets table [] h = cc
plain-nets table (step.Ref r ∷ []) h = omega arith
plain-nets table (step.Ref r ∷ next ∷ more) h = cc
plain-nets table (step.Const n value ∷ ss) h = cc
plain-nets table (step.Not ∷ ss) h = cc
plain-nets table (step.And ∷ ss) h = cc
plain-nets table (step.Or ∷ ss) h = cc
plain-nets table (step.Xor ∷ ss) h = cc
plain-nets table (step.Xnor ∷ ss) h = cc
plain-nets table (step.Cond ∷ ss) h = cc
plain-nets table (step.Join n ∷ ss) h = cc
plain-nets table (step.Repeat n ∷ ss) h = cc

-- terminals of which the first so many are plain make the nets of the others
plain-front : (table : List Entry) (n : ℕ) (es : List (List Step)) → list_all is_plain (take n es) ≡ true → terms_nets table es ≡ terms_nets table (drop n es)
plain-front table zero es h = refl
plain-front table (suc n) [] h = refl
plain-front table (suc n) (e ∷ es) h = go (is_plain e) refl h (plain-front table n es)
  where
    go : (b : Bool) → is_plain e ≡ b → (b && list_all is_plain (take n es)) ≡ true → (list_all is_plain (take n es) ≡ true → terms_nets table es ≡ terms_nets table (drop n es))
        → terminal_nets table e + terms_nets table es ≡ terms_nets table (drop n es)
    go true p k ih = omega (arith, plain-nets table e p, ih k)
    go false p k ih = cc

pub right-terms : (line : ℕ) (b : Bool) (f : Option ElabFault) → cond b f (Some (BadPins line)) ≡ None → b ≡ true
right-terms line true f h = refl
right-terms line false f h = cc

pub prim-fresh :
    (table : List Entry) (line : ℕ) (o : Op) (terms : List (List Step)) (w : Work) → prim_fault table line o terms ≡ None → (prim_made table o terms w).1.fresh ≡ w.fresh + terms_nets table terms
prim-fresh table line o terms w h =
    let right = right-terms line (are_right_terms o terms) (first_answer (expr_fault table line 1) terms) h in
    let plain = both-second (nat_le 2 (length terms)) (list_all is_plain (outs_of o terms)) right in
    let made = terminals_made table (ins_of o terms) w in
    omega (arith, terminals-fresh table (ins_of o terms) w, driven-fresh o made.0 (flat_map (driven_bits table) (outs_of o terms)) made.1, plain-front table (out_count o (length terms)) terms plain)
