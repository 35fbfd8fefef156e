-- What the items of a sound module without a fault make has arities that hold.
use Rattle.std.proofs.Common.{arith, ◌≡◌, ℕ, suc, zero, ◌-◌, ◌≤◌, List, [], ◌∷◌, ◌++◌, length, map, drop, refl, ap, sym, subst, ◌∙◌, Bool, true, false, not, ◌&&◌, ◌==◌, cond, rules, nat_le, nat_lt, length-append, length-drop}
use Rattle.std.proofs.lemmas.Bool.Decides.{nat_tests}
use Rattle.std.specs.Prelude.{Option, Some, None, is_some, flat_map}
use Rattle.std.specs.List.{AllByRecursion, list_all}
use Rattle.std.specs.Map.{lookup}
use Rattle.std.specs.Str.{bytes_eq}
use Rattle.bb_base.specs.declared.operator.Op.{Op}
use Rattle.bb_base.specs.declared.operator.Op.TheVariants as op
use Rattle.bb_base.specs.Operators.{IsArity}
use Rattle.bb_base.specs.Variables.{Entry}
use Rattle.bb_base.proofs.Lists.{all_join, length_map}
use Rattle.bb_base.specs.Net.{HasArity}
use Rattle.bb_parse.specs.declared.syntax.Module.{Module}
use Rattle.bb_parse.specs.declared.syntax.Item.{Item}
use Rattle.bb_parse.specs.declared.syntax.Item.TheVariants as item
use Rattle.bb_parse.specs.declared.syntax.Conns.{Conns}
use Rattle.bb_parse.specs.declared.syntax.Conns.TheVariants.{Places, Pins}
use Rattle.bb_parse.specs.declared.syntax.Step.{Step}
use Rattle.bb_parse.specs.declared.syntax.Step.TheVariants as step
use Rattle.bb_parse.specs.Sound.{IsSoundModule, IsSoundItem, IsPrimitive}
use Rattle.bb_fault.specs.declared.fault.ElabFault.{ElabFault}
use Rattle.bb_fault.specs.Firsts.{first_answer, first_behind}
use Rattle.bb_fault.proofs.Parted.{both-first, both-second, none-first, none-second}
use Rattle.bb_scope.specs.declared.cells.Body.{Body}
use Rattle.bb_scope.specs.declared.cells.Body.TheVariants.{FlipFlop, Gate, SecondInverted, Choice}
use Rattle.bb_scope.specs.Names.{has_name}
use Rattle.bb_scope.specs.References.{ref_fault, ref_bits, left_width}
use Rattle.bb_scope.specs.Variables.{variables}
use Rattle.bb_scope.specs.Cells.{Kind, kinds, kind_of, Pin, is_plain, by_place, pins_of, is_known, is_repeated, is_given, is_right_out, are_right_pins, are_right_places}
use Rattle.bb_scope.specs.Terminals.{out_count, outs_of, ins_of}
use Rattle.bb_scope.specs.Sizes.{width, step_stack, step_fault, steps_fault, steps_stack, last_size, differs, expr_fault}
use Rattle.bb_scope.specs.Parts.{are_right_terms, pin_fault, cell_fault, prim_fault, item_fault, bad_part}
use Rattle.bb_fault.specs.Work.{Work, drive, make, make_onto, constant}
use Rattle.bb_scope.specs.declared.value.Bit.{Bit}
use Rattle.bb_scope.specs.declared.value.Bit.TheVariants.{Net, Fixed}
use Rattle.bb_scope.specs.Making.{Outs, New, To, first_out, other_outs, grounded, each_alone, each_pair, each_choice, inverted, joined_by, choice_between, last_value, step_made, steps_made, terminal_made, terminals_made, copied_onto, makes_gates, assigned, driven_bits, all_driven, prim_made, Read, pins_made, nets_of, out_of, out_net, all_nets, body_made, kind_made, cell_made, item_made, items_made}
use Rattle.bb_scope.specs.ValueSizes.{value_size, value_sizes}
use Rattle.bb_meaning.specs.Outcome.{work_in}
use Rattle.bb_scope.proofs.Operators.{width_is, grounded-length}
use Rattle.bb_scope.proofs.Expressions.{counted}
use Rattle.bb_scope.proofs.Assigns.{agreed, right-terms}
use Rattle.bb_scope.proofs.Instances.{terminal-length, takes, IsRow, all_rows, row_of, OneEach, one-each, placed-fault, placed-all, some-place, right-conns, fine-conns}

-- the gates that were made have arities that hold
abbrev pub Fits : Work → Type 0
Fits w = AllByRecursion HasArity w.gates

-- calls that make gates ------------------------------------------------------

drive-fits : (o : Op) (ins : List ℕ) (out : ℕ) (w : Work) → IsArity o (length ins) → Fits w → Fits (drive o ins out w).1
drive-fits o ins out w arity fits = all_join HasArity w.gates (record { op = o; out = out; ins = ins } ∷ []) fits (arity, tt)

make-fits : (o : Op) (ins : List ℕ) (w : Work) → IsArity o (length ins) → Fits w → Fits (make o ins w).1
make-fits o ins w arity fits = all_join HasArity w.gates (record { op = o; out = w.fresh; ins = ins } ∷ []) fits (arity, tt)

onto-fits : (o : Op) (ins : List ℕ) (out : Option ℕ) (w : Work) → IsArity o (length ins) → Fits w → Fits (make_onto o ins out w).1
onto-fits o ins None w arity fits = make-fits o ins w arity fits
onto-fits o ins (Some t) w arity fits = drive-fits o ins t w arity fits

constant-arity : (one : Bool) → IsArity (constant one) 0
constant-arity true = refl
constant-arity false = refl

grounded-fits : (bits : List Bit) (w : Work) → Fits w → Fits (grounded bits w).1
grounded-fits [] w fits = fits
grounded-fits (Net n ∷ bits) w fits = grounded-fits bits w fits
grounded-fits (Fixed one ∷ bits) w fits = grounded-fits bits (make (constant one) [] w).1 (make-fits (constant one) [] w (constant-arity one) fits)

alone-fits : (xs : List ℕ) (outs : Outs) (w : Work) → Fits w → Fits (each_alone op.Not xs outs w).1
alone-fits [] outs w fits = fits
alone-fits (a ∷ xs) outs w fits = alone-fits xs (other_outs outs) (make_onto op.Not (a ∷ []) (first_out outs) w).1 (onto-fits op.Not (a ∷ []) (first_out outs) w refl fits)

pair-fits : (o : Op) (xs ys : List ℕ) (outs : Outs) (w : Work) → IsArity o 2 → Fits w → Fits (each_pair o xs ys outs w).1
pair-fits o [] ys outs w two fits = fits
pair-fits o (a ∷ xs) [] outs w two fits = fits
pair-fits o (a ∷ xs) (b ∷ ys) outs w two fits =
    pair-fits o xs ys (other_outs outs) (make_onto o (a ∷ b ∷ []) (first_out outs) w).1 two (onto-fits o (a ∷ b ∷ []) (first_out outs) w two fits)

choice-fits : (c : List ℕ) (n : ℕ) (xs ys : List ℕ) (outs : Outs) (w : Work) → Fits w → Fits (each_choice c n xs ys outs w).1
choice-fits c n [] ys outs w fits = fits
choice-fits c n (a ∷ xs) [] outs w fits = fits
choice-fits c n (a ∷ xs) (b ∷ ys) outs w fits =
    let one = make op.And (c ++ a ∷ []) w in
    let two = make op.And (n ∷ b ∷ []) one.1 in
    choice-fits c n xs ys (other_outs outs) (make_onto op.Or (one.0 ∷ two.0 ∷ []) (first_out outs) two.1).1
    (onto-fits op.Or (one.0 ∷ two.0 ∷ []) (first_out outs) two.1 (omega arith)
    (make-fits op.And (n ∷ b ∷ []) one.1 (omega arith) (make-fits op.And (c ++ a ∷ []) w (omega (arith, length-append c (a ∷ []))) fits)))

inverted-fits : (outs : Outs) (a : List Bit) (w : Work) → Fits w → Fits (inverted outs a w).1
inverted-fits outs a w fits = alone-fits (grounded a w).0 outs (grounded a w).1 (grounded-fits a w fits)

joined-fits : (o : Op) (outs : Outs) (a b : List Bit) (w : Work) → IsArity o 2 → Fits w → Fits (joined_by o outs a b w).1
joined-fits o outs a b w two fits =
    let x = grounded a w in
    let y = grounded b x.1 in
    pair-fits o x.0 y.0 outs y.1 two (grounded-fits b x.1 (grounded-fits a w fits))

chosen-fits : (outs : Outs) (c a b : List Bit) (w : Work) → length c ≡ 1 → Fits w → Fits (choice_between outs c a b w).1
chosen-fits outs c a b w one fits =
    let z = grounded c w in
    let x = grounded a z.1 in
    let y = grounded b x.1 in
    let n = make op.Not z.0 y.1 in
    choice-fits z.0 n.0 x.0 y.0 outs n.1 (make-fits op.Not z.0 y.1 (grounded-length c w ∙ one) (grounded-fits b x.1 (grounded-fits a z.1 (grounded-fits c w fits))))

-- expressions -------------------------------------------------------------------

step-fits : (table : List Entry) (line : ℕ) (outs : Outs) (s : Step) (stack : List (List Bit)) (w : Work) → step_fault table line s (value_sizes stack) ≡ None → Fits w → Fits (step_made table outs s stack w).1
step-fits table line outs (step.Ref r) stack w h fits = fits
step-fits table line outs (step.Const n value) stack w h fits = fits
step-fits table line outs step.Not [] w h fits = fits
step-fits table line outs step.Not (a ∷ rest) w h fits = inverted-fits outs a w fits
step-fits table line outs step.And [] w h fits = fits
step-fits table line outs step.And (b ∷ []) w h fits = fits
step-fits table line outs step.And (b ∷ a ∷ rest) w h fits = joined-fits op.And outs a b w (omega arith) fits
step-fits table line outs step.Or [] w h fits = fits
step-fits table line outs step.Or (b ∷ []) w h fits = fits
step-fits table line outs step.Or (b ∷ a ∷ rest) w h fits = joined-fits op.Or outs a b w (omega arith) fits
step-fits table line outs step.Xor [] w h fits = fits
step-fits table line outs step.Xor (b ∷ []) w h fits = fits
step-fits table line outs step.Xor (b ∷ a ∷ rest) w h fits = joined-fits op.Xor outs a b w (omega arith) fits
step-fits table line outs step.Xnor [] w h fits = fits
step-fits table line outs step.Xnor (b ∷ []) w h fits = fits
step-fits table line outs step.Xnor (b ∷ a ∷ rest) w h fits = joined-fits op.Xnor outs a b w (omega arith) fits
step-fits table line outs step.Cond [] w h fits = fits
step-fits table line outs step.Cond (b ∷ []) w h fits = fits
step-fits table line outs step.Cond (b ∷ a ∷ []) w h fits = fits
step-fits table line outs step.Cond (b ∷ a ∷ c ∷ rest) w h fits = chosen-fits outs c a b w (sym (width_is c) ∙ equal (width (value_size c)) 1 condition) fits
  where
    condition : (width (value_size c) == 1) ≡ true
    condition = both-first (width (value_size c) == 1) (width (value_size a) == width (value_size b)) (agreed line ((width (value_size c) == 1) && (width (value_size a) == width (value_size b))) h)

    equal : (x y : ℕ) → (x == y) ≡ true → x ≡ y
    equal x y e = search (rules, e)
step-fits table line outs (step.Join n) stack w h fits = fits
step-fits table line outs (step.Repeat n) stack w h fits = fits

-- the fault of the steps that are left, over what the first one leaves
next-fine : (table : List Entry) (line : ℕ) (s : Step) (ss : List Step) (stack : List (List Bit)) (w : Work) → steps_fault table line (s ∷ ss) (value_sizes stack) ≡ None → steps_fault table line ss (value_sizes (step_made table New s stack w).0) ≡ None
next-fine table line s ss stack w h =
    ap (steps_fault table line ss) (counted table s stack w).sizes ∙ none-second (step_fault table line s (value_sizes stack)) (steps_fault table line ss (step_stack table s (value_sizes stack))) h

first-fine : (table : List Entry) (line : ℕ) (s : Step) (ss : List Step) (stack : List (List Bit)) → steps_fault table line (s ∷ ss) (value_sizes stack) ≡ None → step_fault table line s (value_sizes stack) ≡ None
first-fine table line s ss stack h = none-first (step_fault table line s (value_sizes stack)) (steps_fault table line ss (step_stack table s (value_sizes stack))) h

steps-fits : (table : List Entry) (line : ℕ) (ss : List Step) (stack : List (List Bit)) (w : Work) → steps_fault table line ss (value_sizes stack) ≡ None → Fits w → Fits (steps_made table ss stack w).1
steps-fits table line [] stack w h fits = fits
steps-fits table line (s ∷ ss) stack w h fits =
    let made = step_made table New s stack w in
    steps-fits table line ss made.0 made.1 (next-fine table line s ss stack w h) (step-fits table line New s stack w (first-fine table line s ss stack h) fits)

terminal-fits : (table : List Entry) (line wanted : ℕ) (steps : List Step) (w : Work) → expr_fault table line wanted steps ≡ None → Fits w → Fits (terminal_made table steps w).1
terminal-fits table line wanted steps w h fits =
    let made = steps_made table steps [] w in
    grounded-fits (last_value made.0) made.1
    (steps-fits table line steps [] w (none-first (steps_fault table line steps []) (differs line (width (last_size (steps_stack table steps [])) == wanted)) h) fits)

-- assigns ---------------------------------------------------------------------------

copied-fits : (targets : List ℕ) (bits : List Bit) (w : Work) → Fits w → Fits (copied_onto targets bits w).1
copied-fits [] bits w fits = fits
copied-fits (t ∷ targets) [] w fits = fits
copied-fits (t ∷ targets) (Net n ∷ bits) w fits = copied-fits targets bits (drive op.Buf (n ∷ []) t w).1 (drive-fits op.Buf (n ∷ []) t w refl fits)
copied-fits (t ∷ targets) (Fixed one ∷ bits) w fits = copied-fits targets bits (drive (constant one) [] t w).1 (drive-fits (constant one) [] t w (constant-arity one) fits)

last-fits : (table : List Entry) (line : ℕ) (targets : List ℕ) (s : Step) (stack : List (List Bit)) (w : Work) (b : Bool) → step_fault table line s (value_sizes stack) ≡ None → Fits w
    → Fits (cond {A = Work → List ℕ × Work} b (λ v. ([], (step_made table (To targets) s stack v).1)) (λ v. copied_onto targets (last_value (step_made table New s stack v).0) (step_made table New s stack v).1) w).1
last-fits table line targets s stack w true h fits = step-fits table line (To targets) s stack w h fits
last-fits table line targets s stack w false h fits =
    let made = step_made table New s stack w in
    copied-fits targets (last_value made.0) made.1 (step-fits table line New s stack w h fits)

assigned-fits : (table : List Entry) (line : ℕ) (targets : List ℕ) (steps : List Step) (stack : List (List Bit)) (w : Work) → steps_fault table line steps (value_sizes stack) ≡ None → Fits w → Fits (assigned table targets steps stack w).1
assigned-fits table line targets [] stack w h fits = copied-fits targets (last_value stack) w fits
assigned-fits table line targets (s ∷ []) stack w h fits = last-fits table line targets s stack w (makes_gates s) (first-fine table line s [] stack h) fits
assigned-fits table line targets (s ∷ next ∷ more) stack w h fits =
    let made = step_made table New s stack w in
    assigned-fits table line targets (next ∷ more) made.0 made.1 (next-fine table line s (next ∷ more) stack w h) (step-fits table line New s stack w (first-fine table line s (next ∷ more) stack h) fits)

-- primitives ------------------------------------------------------------------------

-- the terminals that are read
record AreRead (table : List Entry) (es : List (List Step)) (w : Work) : Type 0 where
  fits : Fits (terminals_made table es w).1
  long : length (terminals_made table es w).0 ≡ length es

terminals-fits : (table : List Entry) (line : ℕ) (es : List (List Step)) (w : Work) → first_answer (expr_fault table line 1) es ≡ None → Fits w → AreRead table es w
terminals-fits table line [] w h fits = record { fits = fits; long = refl }
terminals-fits table line (e ∷ es) w h fits =
    let here = none-first (expr_fault table line 1 e) (first_answer (expr_fault table line 1) es) h in
    let first = terminal_made table e w in
    let rest = terminals-fits table line es first.1 (none-second (expr_fault table line 1 e) (first_answer (expr_fault table line 1) es) h) (terminal-fits table line 1 e w here fits) in
    record { fits = rest.fits; long = length-append first.0 (terminals_made table es first.1).0 ∙ omega (arith, terminal-length table line e w here, rest.long) }

dropped-fine : {X : Type 0} (f : X → Option ElabFault) (n : ℕ) (xs : List X) → first_answer f xs ≡ None → first_answer f (drop n xs) ≡ None
dropped-fine f zero xs h = h
dropped-fine f (suc n) [] h = h
dropped-fine f (suc n) (x ∷ xs) h = dropped-fine f n xs (none-second (f x) (first_answer f xs) h)

all-driven-fits : (o : Op) (ins targets : List ℕ) (w : Work) → IsArity o (length ins) → Fits w → Fits (all_driven o ins targets w).1
all-driven-fits o ins [] w arity fits = fits
all-driven-fits o ins (t ∷ targets) w arity fits = all-driven-fits o ins targets (drive o ins t w).1 arity (drive-fits o ins t w arity fits)

-- a primitive of so many terminals reads as many as its operator takes
read-arity : (o : Op) (terms read : ℕ) → IsPrimitive o → 2 ≤ terms → read ≡ terms - out_count o terms → IsArity o read
read-arity op.Not terms read p h e = omega (arith, e, h)
read-arity op.Buf terms read p h e = omega (arith, e, h)
read-arity op.And terms read p h e = omega (arith, e, h)
read-arity op.Nand terms read p h e = omega (arith, e, h)
read-arity op.Or terms read p h e = omega (arith, e, h)
read-arity op.Nor terms read p h e = omega (arith, e, h)
read-arity op.Xor terms read p h e = omega (arith, e, h)
read-arity op.Xnor terms read p h e = omega (arith, e, h)
read-arity op.Zero terms read p h e = absurd p
read-arity op.One terms read p h e = absurd p

right-fault : (line : ℕ) (b : Bool) (f g : Option ElabFault) → cond b f g ≡ None → b ≡ true → f ≡ None
right-fault line true f g h e = h
right-fault line false f g h e = cc

prim-fits : (table : List Entry) (line : ℕ) (o : Op) (terms : List (List Step)) (w : Work) → IsPrimitive o → prim_fault table line o terms ≡ None → Fits w → Fits (prim_made table o terms w).1
prim-fits table line o terms w primitive h fits =
    let right = right-terms line (are_right_terms o terms) (first_answer (expr_fault table line 1) terms) h in
    let fine = right-fault line (are_right_terms o terms) (first_answer (expr_fault table line 1) terms) _ h right in
    let two : 2 ≤ length terms = at_least (length terms) (both-first (nat_le 2 (length terms)) (list_all is_plain (outs_of o terms)) right) in
    let read = terminals-fits table line (ins_of o terms) w (dropped-fine (expr_fault table line 1) (out_count o (length terms)) terms fine) fits in
    let made = terminals_made table (ins_of o terms) w in
    all-driven-fits o made.0 (flat_map (driven_bits table) (outs_of o terms)) made.1
    (read-arity o (length terms) (length made.0) primitive two (read.long ∙ length-drop (out_count o (length terms)) terms)) read.fits
  where
    at_least : (n : ℕ) → nat_le 2 n ≡ true → 2 ≤ n
    at_least n e = grind (arith, nat_tests)

-- cells -----------------------------------------------------------------------------

pins-fits : (table : List Entry) (line : ℕ) (kind : Kind) (pins : List Pin) (w : Work) → first_answer (pin_fault table line) pins ≡ None → Fits w → Fits (pins_made table kind pins w).1
pins-fits table line kind [] w h fits = fits
pins-fits table line kind ((name, None) ∷ pins) w h fits = pins-fits table line kind pins w h fits
pins-fits table line kind ((name, Some steps) ∷ pins) w h fits =
    go (bytes_eq kind.out name) (pins-fits table line kind pins w rest fits)
    (pins-fits table line kind pins (terminal_made table steps w).1 rest (terminal-fits table line 1 steps w (none-first (expr_fault table line 1 steps) (first_answer (pin_fault table line) pins) h) fits))
  where
    rest : first_answer (pin_fault table line) pins ≡ None
    rest = none-second (expr_fault table line 1 steps) (first_answer (pin_fault table line) pins) h

    go : (b : Bool) → Fits (pins_made table kind pins w).1 → Fits (pins_made table kind pins (terminal_made table steps w).1).1
        → Fits (cond {A = Work → Read × Work} b (pins_made table kind pins) (λ v. ((name, (terminal_made table steps v).0) ∷ (pins_made table kind pins (terminal_made table steps v).1).0, (pins_made table kind pins (terminal_made table steps v).1).1)) w).1
    go true skip more = skip
    go false skip more = more

-- the operator of a body takes so many inputs
abbrev takes_inputs : Body → ℕ → Type 0
takes_inputs FlipFlop n = Unit {0}
takes_inputs (Gate o) n = IsArity o n
takes_inputs (SecondInverted o) n = IsArity o n
takes_inputs Choice n = Unit {0}

abbrev AllTake : List (List ℕ × Kind) → Type 0
AllTake [] = Unit {0}
AllTake (r ∷ rows) = takes_inputs r.1.body (length r.1.ins) × AllTake rows

all_take_inputs : AllTake kinds
all_take_inputs = (tt, (tt, (refl, (refl, (omega arith, (omega arith, (omega arith, (omega arith, (omega arith, (omega arith, (omega arith, (omega arith, (tt, tt)))))))))))))

take_of : (test : List ℕ → Bool) (rows : List (List ℕ × Kind)) (kind : Kind) → AllTake rows → lookup test rows ≡ Some kind → takes_inputs kind.body (length kind.ins)
take_of test [] kind h e = cc
take_of test (r ∷ rows) kind h e = go (test r.0) e (take_of test rows kind h.1)
  where
    same : (a b : Kind) → Some a ≡ Some b → a ≡ b
    same a b e = cc

    go : (b : Bool) → cond b (Some r.1) (lookup test rows) ≡ Some kind → (lookup test rows ≡ Some kind → takes_inputs kind.body (length kind.ins)) → takes_inputs kind.body (length kind.ins)
    go true e rest = subst (λ (k : Kind). takes_inputs k.body (length k.ins)) (same r.1 kind e) h.0
    go false e rest = rest e

nets-many : (ins : List (List ℕ)) → OneEach ins → length (all_nets ins) ≡ length ins
nets-many [] h = refl
nets-many (ns ∷ ins) h = length-append ns (all_nets ins) ∙ omega (arith, h.0, nets-many ins h.1)

register-fits : (outs : Outs) (ins : List (List ℕ)) (w : Work) → Fits w → Fits (body_made FlipFlop outs ins w).1
register-fits outs [] w fits = fits
register-fits outs ([] ∷ ins) w fits = fits
register-fits outs ((k ∷ more) ∷ []) w fits = fits
register-fits outs ((k ∷ more) ∷ [] ∷ others) w fits = fits
register-fits outs ((k ∷ more) ∷ (d ∷ rest) ∷ others) w fits = go (first_out outs)
  where
    go : (out : Option ℕ) → Fits (out_net out w).1
    go None = fits
    go (Some t) = fits

body-fits : (body : Body) (outs : Outs) (ins : List (List ℕ)) (w : Work) → takes body (length ins) ≡ true → takes_inputs body (length ins) → OneEach ins → Fits w → Fits (body_made body outs ins w).1
body-fits FlipFlop outs ins w t arity h fits = register-fits outs ins w fits
body-fits (Gate o) outs ins w t arity h fits = onto-fits o (all_nets ins) (first_out outs) w (subst (IsArity o) (sym (nets-many ins h)) arity) fits
body-fits (SecondInverted o) outs [] w t arity h fits = fits
body-fits (SecondInverted o) outs (a ∷ []) w t arity h fits = fits
body-fits (SecondInverted o) outs (a ∷ b ∷ others) w t arity h fits =
    let n = make op.Not b w in
    let two : length (a ∷ b ∷ others) ≡ length (a ++ n.0 ∷ []) = equal (length (a ∷ b ∷ others)) 2 t ∙ omega (arith, h.0, length-append a (n.0 ∷ [])) in
    onto-fits o (a ++ n.0 ∷ []) (first_out outs) n.1 (subst (IsArity o) two arity) (make-fits op.Not b w h.1.0 fits)
  where
    equal : (x y : ℕ) → (x == y) ≡ true → x ≡ y
    equal x y e = search (rules, e)
body-fits Choice outs [] w t arity h fits = fits
body-fits Choice outs (a ∷ []) w t arity h fits = fits
body-fits Choice outs (a ∷ b ∷ []) w t arity h fits = fits
body-fits Choice outs (a ∷ b ∷ s ∷ others) w t arity h fits =
    let n = make op.Not s w in
    choice-fits s n.0 b a outs n.1 (make-fits op.Not s w h.1.1.0 fits)

-- a kind of the table
record IsInTable (kind : Kind) : Type 0 where
  row : IsRow kind
  takes : takes_inputs kind.body (length kind.ins)

kind-fits : (table : List Entry) (line : ℕ) (kind : Kind) (pins : List Pin) (w : Work) → IsInTable kind → list_all (is_given pins) kind.ins ≡ true → first_answer (pin_fault table line) pins ≡ None → Fits w
    → Fits (kind_made table kind pins w).1
kind-fits table line kind pins w known g f fits =
    let made = pins_made table kind pins w in
    let ins = map (nets_of made.0) kind.ins in
    let long : length ins ≡ length kind.ins = length_map (nets_of made.0) kind.ins in
    body-fits kind.body (out_of table kind pins) ins made.1 (ap (takes kind.body) long ∙ known.row.count) (subst (takes_inputs kind.body) (sym long) known.takes)
    (one-each table line kind pins w kind.ins known.row.apart g f) (pins-fits table line kind pins w f fits)

-- terminals by place give all inputs
places-given : (kind : Kind) (terms : List (List Step)) → IsRow kind → are_right_places kind terms ≡ true → (length terms ≡ length kind.places) × (list_all (is_given (by_place kind terms)) kind.ins ≡ true)
places-given kind terms row r =
    let rest = both-second (nat_lt 0 (length terms)) ((length terms == length kind.places) && list_all (is_right_out kind) (by_place kind terms)) r in
    let some = both-first (nat_lt 0 (length terms)) ((length terms == length kind.places) && list_all (is_right_out kind) (by_place kind terms)) r in
    let same : length terms ≡ length kind.places = equal (length terms) (length kind.places) (both-first (length terms == length kind.places) (list_all (is_right_out kind) (by_place kind terms)) rest) in
    let among = some-place kind.places (list_all (has_name kind.places) (kind.out ∷ kind.ins)) (length terms) some same row.placed in
    let given = placed-all kind.places (kind.out ∷ kind.ins) terms same among in
    (same, both-second (is_given (by_place kind terms) kind.out) (list_all (is_given (by_place kind terms)) kind.ins) given)
  where
    equal : (x y : ℕ) → (x == y) ≡ true → x ≡ y
    equal x y e = search (rules, e)

known-fits : (table : List Entry) (line : ℕ) (kind : Kind) (conns : Conns) (w : Work) → IsInTable kind → cell_fault table line (Some kind) conns ≡ None → Fits w → Fits (kind_made table kind (pins_of kind conns) w).1
known-fits table line kind (Places terms) w known f fits =
    let right = right-conns line (are_right_places kind terms) (first_answer (expr_fault table line 1) terms) f in
    let given = places-given kind terms known.row right in
    kind-fits table line kind (by_place kind terms) w known given.1 (placed-fault table line kind.places terms given.0 ∙ fine-conns line (are_right_places kind terms) (first_answer (expr_fault table line 1) terms) f) fits
known-fits table line kind (Pins pins) w known f fits =
    let right = right-conns line (are_right_pins kind pins) (first_answer (pin_fault table line) pins) f in
    let two = both-second (list_all (is_known kind) pins) (not (is_some (first_behind is_repeated [] pins)) && (list_all (is_given pins) kind.ins && list_all (is_right_out kind) pins)) right in
    let three = both-second (not (is_some (first_behind is_repeated [] pins))) (list_all (is_given pins) kind.ins && list_all (is_right_out kind) pins) two in
    kind-fits table line kind pins w known (both-first (list_all (is_given pins) kind.ins) (list_all (is_right_out kind) pins) three) (fine-conns line (are_right_pins kind pins) (first_answer (pin_fault table line) pins) f) fits

cell-fits : (table : List Entry) (line : ℕ) (name : List ℕ) (conns : Conns) (w : Work) → cell_fault table line (kind_of name) conns ≡ None → Fits w → Fits (cell_made table (kind_of name) conns w).1
cell-fits table line name conns w f fits = go (kind_of name) refl f
  where
    go : (k : Option Kind) → kind_of name ≡ k → cell_fault table line k conns ≡ None → Fits (cell_made table k conns w).1
    go None e f = fits
    go (Some kind) e f = known-fits table line kind conns w (record { row = row_of (bytes_eq name) kinds kind all_rows e; takes = take_of (bytes_eq name) kinds kind all_take_inputs e }) f fits

-- items -----------------------------------------------------------------------------

item-fits : (table : List Entry) (i : Item) (w : Work) → IsSoundItem i → item_fault table i ≡ None → Fits w → Fits (item_made table i w).1
item-fits table (item.Decl decl) w s h fits = fits
item-fits table (item.Assign line left right) w s h fits =
    let e = none-second (first_answer (ref_fault table line) left) (expr_fault table line (left_width table left) right) h in
    assigned-fits table line (flat_map (ref_bits table) left) right [] w
    (none-first (steps_fault table line right []) (differs line (width (last_size (steps_stack table right [])) == left_width table left)) e) fits
item-fits table (item.Prim line o terms) w s h fits = prim-fits table line o terms w s.0 h fits
item-fits table (item.Cell line cell conns) w s h fits = cell-fits table line cell conns w h fits

items-fit : (table : List Entry) (items : List Item) (w : Work) → AllByRecursion IsSoundItem items → first_answer (item_fault table) items ≡ None → Fits w → Fits (items_made table items w)
items-fit table [] w s h fits = fits
items-fit table (i ∷ items) w s h fits =
    items-fit table items (item_made table i w).1 s.1 (none-second (item_fault table i) (first_answer (item_fault table) items) h)
    (item-fits table i w s.0 (none-first (item_fault table i) (first_answer (item_fault table) items) h) fits)

-- what a sound module without a fault makes
pub module-fits : (m : Module) → IsSoundModule m → bad_part m ≡ None → Fits (work_in m)
module-fits m s h = items-fit (variables m) m.items (record { fresh = _; gates = []; flops = [] }) s.items h tt
