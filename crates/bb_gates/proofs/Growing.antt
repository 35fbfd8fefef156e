-- What makes gates takes no net away: the number of the next net doesn't fall.
use Rattle.std.proofs.Common.{arith, ◌≡◌, ◌≤◌, ℕ, Bool, true, false, ◌&&◌, cond, List, [], ◌∷◌, ◌++◌, map, ap}
use Rattle.std.specs.Prelude.{Option, Some, None, flat_map}
use Rattle.std.specs.Str.{bytes_eq}
use Rattle.bb_base.specs.declared.operator.Op.{Op}
use Rattle.bb_base.specs.declared.operator.Op.TheVariants.{And, Or, Xor, Xnor, Not, Buf}
use Rattle.bb_base.specs.Variables.{Entry, bit_count}
use Rattle.bb_parse.specs.declared.syntax.Item.{Item}
use Rattle.bb_parse.specs.declared.syntax.Item.TheVariants as item
use Rattle.bb_parse.specs.declared.syntax.Conns.{Conns}
use Rattle.bb_parse.specs.declared.syntax.Step.{Step}
use Rattle.bb_parse.specs.declared.syntax.Step.TheVariants as step
use Rattle.bb_scope.specs.declared.value.Bit.{Bit}
use Rattle.bb_scope.specs.declared.value.Bit.TheVariants.{Net, Fixed}
use Rattle.bb_scope.specs.declared.cells.Body.{Body}
use Rattle.bb_scope.specs.declared.cells.Body.TheVariants.{FlipFlop, Gate, SecondInverted, Choice}
use Rattle.bb_scope.specs.Cells.{Kind, kind_of, Pin, pins_of}
use Rattle.bb_scope.specs.References.{ref_bits}
use Rattle.bb_scope.specs.Terminals.{is_last, outs_of, ins_of}
use Rattle.bb_fault.specs.Work.{Work, drive, make, make_onto, constant}
use Rattle.bb_scope.specs.Making.{Outs, New, To, Read, grounded, first_out, other_outs, each_alone, each_pair, each_choice, inverted, joined_by, choice_between, last_value, not_made, two_made, choice_made, step_made, steps_made, terminal_made, terminals_made, copied_onto, makes_gates, assigned, driven_bits, all_driven, prim_made, pins_made, nets_of, out_of, out_net, flip_flop_made, all_nets, gate_made, second_inverted, multiplexer_made, body_made, kind_made, cell_made, item_made, items_made, work_of}

-- operands and operators ------------------------------------------------

pub onto-grows : (op : Op) (ins : List ℕ) (target : Option ℕ) (w : Work) → w.fresh ≤ (make_onto op ins target w).1.fresh
onto-grows op ins None w = omega arith
onto-grows op ins (Some t) w = omega arith

pub grounded-grows : (bits : List Bit) (w : Work) → w.fresh ≤ (grounded bits w).1.fresh
grounded-grows [] w = omega arith
grounded-grows (Net n ∷ bits) w = grounded-grows bits w
grounded-grows (Fixed one ∷ bits) w = omega (arith, grounded-grows bits (make (constant one) [] w).1)

pub alone-grows : (op : Op) (xs : List ℕ) (outs : Outs) (w : Work) → w.fresh ≤ (each_alone op xs outs w).1.fresh
alone-grows op [] outs w = omega arith
alone-grows op (x ∷ xs) outs w =
    omega (arith, onto-grows op (x ∷ []) (first_out outs) w, alone-grows op xs (other_outs outs) (make_onto op (x ∷ []) (first_out outs) w).1)

pub pair-grows : (op : Op) (xs ys : List ℕ) (outs : Outs) (w : Work) → w.fresh ≤ (each_pair op xs ys outs w).1.fresh
pair-grows op [] ys outs w = omega arith
pair-grows op (x ∷ xs) [] outs w = omega arith
pair-grows op (x ∷ xs) (y ∷ ys) outs w =
    omega (arith, onto-grows op (x ∷ y ∷ []) (first_out outs) w, pair-grows op xs ys (other_outs outs) (make_onto op (x ∷ y ∷ []) (first_out outs) w).1)

pub each-grows : (c : List ℕ) (n : ℕ) (xs ys : List ℕ) (outs : Outs) (w : Work) → w.fresh ≤ (each_choice c n xs ys outs w).1.fresh
each-grows c n [] ys outs w = omega arith
each-grows c n (x ∷ xs) [] outs w = omega arith
each-grows c n (x ∷ xs) (y ∷ ys) outs w =
    let u = (make And (c ++ x ∷ []) w).1 in
    let first = (make And (c ++ x ∷ []) w).0 in
    let v = (make And (n ∷ y ∷ []) u).1 in
    let second = (make And (n ∷ y ∷ []) u).0 in
    let z = (make_onto Or (first ∷ second ∷ []) (first_out outs) v).1 in
    omega (arith, onto-grows Or (first ∷ second ∷ []) (first_out outs) v, each-grows c n xs ys (other_outs outs) z)

pub inverted-grows : (outs : Outs) (a : List Bit) (w : Work) → w.fresh ≤ (inverted outs a w).1.fresh
inverted-grows outs a w = omega (arith, grounded-grows a w, alone-grows Not (grounded a w).0 outs (grounded a w).1)

pub joined-grows : (op : Op) (outs : Outs) (a b : List Bit) (w : Work) → w.fresh ≤ (joined_by op outs a b w).1.fresh
joined-grows op outs a b w =
    let u = (grounded a w).1 in
    let v = (grounded b u).1 in
    omega (arith, grounded-grows a w, grounded-grows b u, pair-grows op (grounded a w).0 (grounded b u).0 outs v)

pub chosen-grows : (outs : Outs) (c a b : List Bit) (w : Work) → w.fresh ≤ (choice_between outs c a b w).1.fresh
chosen-grows outs c a b w =
    let t = (grounded c w).1 in
    let u = (grounded a t).1 in
    let v = (grounded b u).1 in
    let n = (make Not (grounded c w).0 v).0 in
    omega (arith, grounded-grows c w, grounded-grows a t, grounded-grows b u, each-grows (grounded c w).0 n (grounded a t).0 (grounded b u).0 outs (make Not (grounded c w).0 v).1)

-- steps -------------------------------------------------------------------

pub not-grows : (outs : Outs) (stack : List (List Bit)) (w : Work) → w.fresh ≤ (not_made outs stack w).1.fresh
not-grows outs [] w = omega arith
not-grows outs (a ∷ rest) w = inverted-grows outs a w

pub two-grows : (op : Op) (outs : Outs) (stack : List (List Bit)) (w : Work) → w.fresh ≤ (two_made op outs stack w).1.fresh
two-grows op outs [] w = omega arith
two-grows op outs (b ∷ []) w = omega arith
two-grows op outs (b ∷ a ∷ rest) w = joined-grows op outs a b w

pub choice-grows : (outs : Outs) (stack : List (List Bit)) (w : Work) → w.fresh ≤ (choice_made outs stack w).1.fresh
choice-grows outs [] w = omega arith
choice-grows outs (b ∷ []) w = omega arith
choice-grows outs (b ∷ a ∷ []) w = omega arith
choice-grows outs (b ∷ a ∷ c ∷ rest) w = chosen-grows outs c a b w

pub step-grows : (table : List Entry) (outs : Outs) (s : Step) (stack : List (List Bit)) (w : Work) → w.fresh ≤ (step_made table outs s stack w).1.fresh
step-grows table outs (step.Ref r) stack w = omega arith
step-grows table outs (step.Const size value) stack w = omega arith
step-grows table outs step.Not stack w = not-grows outs stack w
step-grows table outs step.And stack w = two-grows And outs stack w
step-grows table outs step.Or stack w = two-grows Or outs stack w
step-grows table outs step.Xor stack w = two-grows Xor outs stack w
step-grows table outs step.Xnor stack w = two-grows Xnor outs stack w
step-grows table outs step.Cond stack w = choice-grows outs stack w
step-grows table outs (step.Join count) stack w = omega arith
step-grows table outs (step.Repeat times) stack w = omega arith

pub steps-grow : (table : List Entry) (steps : List Step) (stack : List (List Bit)) (w : Work) → w.fresh ≤ (steps_made table steps stack w).1.fresh
steps-grow table [] stack w = omega arith
steps-grow table (s ∷ ss) stack w =
    omega (arith, step-grows table New s stack w, steps-grow table ss (step_made table New s stack w).0 (step_made table New s stack w).1)

pub terminal-grows : (table : List Entry) (steps : List Step) (w : Work) → w.fresh ≤ (terminal_made table steps w).1.fresh
terminal-grows table steps w = omega (arith, steps-grow table steps [] w, grounded-grows (last_value (steps_made table steps [] w).0) (steps_made table steps [] w).1)

pub terminals-grow : (table : List Entry) (terms : List (List Step)) (w : Work) → w.fresh ≤ (terminals_made table terms w).1.fresh
terminals-grow table [] w = omega arith
terminals-grow table (e ∷ es) w = omega (arith, terminal-grows table e w, terminals-grow table es (terminal_made table e w).1)

-- assigns and primitives ----------------------------------------------------

pub copied-grows : (targets : List ℕ) (bits : List Bit) (w : Work) → w.fresh ≤ (copied_onto targets bits w).1.fresh
copied-grows [] bits w = omega arith
copied-grows (t ∷ targets) [] w = omega arith
copied-grows (t ∷ targets) (Net n ∷ bits) w = omega (arith, copied-grows targets bits (drive Buf (n ∷ []) t w).1)
copied-grows (t ∷ targets) (Fixed one ∷ bits) w = omega (arith, copied-grows targets bits (drive (constant one) [] t w).1)

pub assigned-grows : (table : List Entry) (targets : List ℕ) (steps : List Step) (stack : List (List Bit)) (w : Work) → w.fresh ≤ (assigned table targets steps stack w).1.fresh
assigned-grows table targets [] stack w = copied-grows targets (last_value stack) w
assigned-grows table targets (s ∷ ss) stack w =
    go (is_last ss && makes_gates s) (step-grows table (To targets) s stack w) (step-grows table New s stack w)
    (assigned-grows table targets ss (step_made table New s stack w).0 (step_made table New s stack w).1)
  where
    go : (b : Bool) → w.fresh ≤ (step_made table (To targets) s stack w).1.fresh → w.fresh ≤ (step_made table New s stack w).1.fresh
        → (step_made table New s stack w).1.fresh ≤ (assigned table targets ss (step_made table New s stack w).0 (step_made table New s stack w).1).1.fresh
        → w.fresh ≤ (cond {A = Work → List ℕ × Work} b (λ v. ([], (step_made table (To targets) s stack v).1)) (λ v. assigned table targets ss (step_made table New s stack v).0 (step_made table New s stack v).1) w).1.fresh
    go true last next rest = last
    go false last next rest = omega (arith, next, rest)

pub driven-grows : (op : Op) (ins targets : List ℕ) (w : Work) → w.fresh ≤ (all_driven op ins targets w).1.fresh
driven-grows op ins [] w = omega arith
driven-grows op ins (t ∷ targets) w = omega (arith, driven-grows op ins targets (drive op ins t w).1)

pub prim-grows : (table : List Entry) (op : Op) (terms : List (List Step)) (w : Work) → w.fresh ≤ (prim_made table op terms w).1.fresh
prim-grows table op terms w =
    let made = terminals_made table (ins_of op terms) w in
    omega (arith, terminals-grow table (ins_of op terms) w, driven-grows op made.0 (flat_map (driven_bits table) (outs_of op terms)) made.1)

-- cells -------------------------------------------------------------------

pub pins-grow : (table : List Entry) (kind : Kind) (pins : List Pin) (w : Work) → w.fresh ≤ (pins_made table kind pins w).1.fresh
pins-grow table kind [] w = omega arith
pins-grow table kind ((name, None) ∷ pins) w = pins-grow table kind pins w
pins-grow table kind ((name, Some steps) ∷ pins) w =
    go (bytes_eq kind.out name) (pins-grow table kind pins w) (terminal-grows table steps w) (pins-grow table kind pins (terminal_made table steps w).1)
  where
    go : (b : Bool) → w.fresh ≤ (pins_made table kind pins w).1.fresh → w.fresh ≤ (terminal_made table steps w).1.fresh
        → (terminal_made table steps w).1.fresh ≤ (pins_made table kind pins (terminal_made table steps w).1).1.fresh
        → w.fresh ≤ (cond {A = Work → Read × Work} b (pins_made table kind pins)
        (λ v. ((name, (terminal_made table steps v).0) ∷ (pins_made table kind pins (terminal_made table steps v).1).0, (pins_made table kind pins (terminal_made table steps v).1).1)) w).1.fresh
    go true rest first others = rest
    go false rest first others = omega (arith, first, others)

out-grows : (target : Option ℕ) (w : Work) → w.fresh ≤ (out_net target w).1.fresh
out-grows None w = omega arith
out-grows (Some t) w = omega arith

flop-grows : (outs : Outs) (ins : List (List ℕ)) (w : Work) → w.fresh ≤ (flip_flop_made outs ins w).1.fresh
flop-grows outs [] w = omega arith
flop-grows outs ([] ∷ ins) w = omega arith
flop-grows outs ((k ∷ more) ∷ []) w = omega arith
flop-grows outs ((k ∷ more) ∷ [] ∷ others) w = omega arith
flop-grows outs ((k ∷ more) ∷ (d ∷ rest) ∷ others) w = out-grows (first_out outs) w

pub gate-grows : (op : Op) (outs : Outs) (ins : List ℕ) (w : Work) → w.fresh ≤ (gate_made op outs ins w).1.fresh
gate-grows op outs ins w = onto-grows op ins (first_out outs) w

second-grows : (op : Op) (outs : Outs) (ins : List (List ℕ)) (w : Work) → w.fresh ≤ (second_inverted op outs ins w).1.fresh
second-grows op outs [] w = omega arith
second-grows op outs (x ∷ []) w = omega arith
second-grows op outs (x ∷ y ∷ others) w = omega (arith, gate-grows op outs (x ++ (make Not y w).0 ∷ []) (make Not y w).1)

select-grows : (outs : Outs) (ins : List (List ℕ)) (w : Work) → w.fresh ≤ (multiplexer_made outs ins w).1.fresh
select-grows outs [] w = omega arith
select-grows outs (x ∷ []) w = omega arith
select-grows outs (x ∷ y ∷ []) w = omega arith
select-grows outs (x ∷ y ∷ s ∷ others) w = omega (arith, each-grows s (make Not s w).0 y x outs (make Not s w).1)

pub body-grows : (body : Body) (outs : Outs) (ins : List (List ℕ)) (w : Work) → w.fresh ≤ (body_made body outs ins w).1.fresh
body-grows FlipFlop outs ins w = flop-grows outs ins w
body-grows (Gate op) outs ins w = gate-grows op outs (all_nets ins) w
body-grows (SecondInverted op) outs ins w = second-grows op outs ins w
body-grows Choice outs ins w = select-grows outs ins w

pub kind-grows : (table : List Entry) (kind : Kind) (pins : List Pin) (w : Work) → w.fresh ≤ (kind_made table kind pins w).1.fresh
kind-grows table kind pins w =
    let made = pins_made table kind pins w in
    omega (arith, pins-grow table kind pins w, body-grows kind.body (out_of table kind pins) (map (nets_of made.0) kind.ins) made.1)

cell-grows : (table : List Entry) (kind : Option Kind) (conns : Conns) (w : Work) → w.fresh ≤ (cell_made table kind conns w).1.fresh
cell-grows table None conns w = omega arith
cell-grows table (Some kind) conns w = kind-grows table kind (pins_of kind conns) w

-- items -------------------------------------------------------------------

pub item-grows : (table : List Entry) (i : Item) (w : Work) → w.fresh ≤ (item_made table i w).1.fresh
item-grows table (item.Decl decl) w = omega arith
item-grows table (item.Assign line left right) w = assigned-grows table (flat_map (ref_bits table) left) right [] w
item-grows table (item.Prim line op terms) w = prim-grows table op terms w
item-grows table (item.Cell line cell conns) w = cell-grows table (kind_of cell) conns w

pub items-grow : (table : List Entry) (items : List Item) (w : Work) → w.fresh ≤ (items_made table items w).fresh
items-grow table [] w = omega arith
items-grow table (i ∷ items) w = omega (arith, item-grows table i w, items-grow table items (item_made table i w).1)

-- the bits of the variables stand
pub work-grows : (table : List Entry) (items : List Item) → bit_count table ≤ (work_of table items).fresh
work-grows table items = items-grow table items (record { fresh = bit_count table; gates = []; flops = [] })

-- parts of makers that a test decides --------------------------------------

-- a step of an assign, and then the others
pub other-grows :
    (table : List Entry) (targets : List ℕ) (s : Step) (ss : List Step) (stack : List (List Bit)) (w : Work) → (is_last ss && makes_gates s) ≡ false
    → (step_made table New s stack w).1.fresh ≤ (assigned table targets (s ∷ ss) stack w).1.fresh
other-grows table targets s ss stack w h =
    omega (
      arith,
      assigned-grows table targets ss (step_made table New s stack w).0 (step_made table New s stack w).1,
      ap (λ b. (cond {A = Work → List ℕ × Work} b (λ v. ([], (step_made table (To targets) s stack v).1)) (λ v. assigned table targets ss (step_made table New s stack v).0 (step_made table New s stack v).1) w).1.fresh) h,
    )

-- a pin that is read, and then the others
pub pin-grows :
    (table : List Entry) (kind : Kind) (name : List ℕ) (steps : List Step) (pins : List Pin) (w : Work) → bytes_eq kind.out name ≡ false
    → (terminal_made table steps w).1.fresh ≤ (pins_made table kind ((name, Some steps) ∷ pins) w).1.fresh
pin-grows table kind name steps pins w h =
    omega (
      arith,
      pins-grow table kind pins (terminal_made table steps w).1,
      ap (λ b. (cond {A = Work → Read × Work} b (pins_made table kind pins)
          (λ v. ((name, (terminal_made table steps v).0) ∷ (pins_made table kind pins (terminal_made table steps v).1).0, (pins_made table kind pins (terminal_made table steps v).1).1)) w).1.fresh) h,
    )

pub ruleset growth = (onto-grows, grounded-grows, alone-grows, pair-grows, each-grows, inverted-grows, joined-grows, chosen-grows, step-grows, steps-grow, terminal-grows, terminals-grow, copied-grows, assigned-grows, driven-grows, pins-grow, gate-grows, body-grows, item-grows, items-grow, work-grows)
