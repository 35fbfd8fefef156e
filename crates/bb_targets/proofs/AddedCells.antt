-- How many drivers of a variable's bit an instance of a cell adds.
use Rattle.std.proofs.Common.{arith, ◌≡◌, ℕ, suc, ◌<◌, min, Bool, true, false, not, ◌&&◌, ◌||◌, ◌==◌, cond, List, [], ◌∷◌, ◌++◌, map, length, refl, ap, ◌∙◌, nat_lt, rules}
use Rattle.std.specs.Prelude.{Option, Some, None, is_some}
use Rattle.std.specs.List.{list_all}
use Rattle.std.specs.Str.{bytes_eq}
use Rattle.bb_base.specs.declared.operator.Op.{Op}
use Rattle.bb_base.specs.declared.operator.Op.TheVariants.{Not}
use Rattle.bb_base.specs.Variables.{Entry}
use Rattle.bb_base.proofs.Lists.{length_map}
use Rattle.bb_parse.specs.declared.syntax.Conns.{Conns}
use Rattle.bb_parse.specs.declared.syntax.Conns.TheVariants.{Places, Pins}
use Rattle.bb_fault.specs.Firsts.{first_answer, first_behind}
use Rattle.bb_fault.proofs.Parted.{both-first, both-second, none-first, none-second}
use Rattle.bb_scope.specs.declared.cells.Body.{Body}
use Rattle.bb_scope.specs.declared.cells.Body.TheVariants.{FlipFlop, Gate, SecondInverted, Choice}
use Rattle.bb_scope.specs.Names.{has_name}
use Rattle.bb_scope.specs.Cells.{Kind, kinds, kind_of, Pin, is_plain, by_place, pins_of, is_known, is_repeated, is_given, is_right_out, are_right_pins, are_right_places}
use Rattle.bb_scope.specs.Sizes.{expr_fault}
use Rattle.bb_scope.specs.Parts.{pin_fault, cell_fault}
use Rattle.bb_fault.specs.Work.{Work, make}
use Rattle.bb_scope.specs.Making.{Outs, To, Read, first_out, terminal_made, driven_bits, pins_made, nets_of, out_of, out_net, flip_flop_made, all_nets, gate_made, second_inverted, multiplexer_made, body_made, kind_made, cell_made}
use Rattle.bb_scope.proofs.Instances.{plain-bit, takes, IsRow, all_rows, row_of, OneEach, one-each, placed-fault, placed-all, some-place, right-conns, fine-conns}
use Rattle.bb_targets.specs.Targets.{out_bits, cell_targets}
use Rattle.bb_targets.proofs.MarkLaws.{hits}
use Rattle.bb_targets.proofs.Adding.{Adds, at_target, at_outs, AreFor, one_for, for_same, hit_none, make-adds, flop-adds, onto-adds, each-adds}
use Rattle.bb_targets.proofs.AddedSteps.{terminal-adds}

-- pins that are read
pins-adds : (b : ℕ) (table : List Entry) (kind : Kind) (pins : List Pin) (w : Work) → b < w.fresh → Adds b 0 w (pins_made table kind pins w)
pins-adds b table kind [] w small = record { grows = omega arith; adds = omega arith }
pins-adds b table kind ((name, None) ∷ pins) w small = let k = pins-adds b table kind pins w small in record { grows = k.grows; adds = k.adds }
pins-adds b table kind ((name, Some steps) ∷ pins) w small =
    let one = terminal-adds b table steps w small in
    go (bytes_eq kind.out name) (pins-adds b table kind pins w small) one (pins-adds b table kind pins (terminal_made table steps w).1 (omega (arith, small, one.grows)))
  where
    go : (t : Bool) → Adds b 0 w (pins_made table kind pins w) → Adds b 0 w (terminal_made table steps w) → Adds b 0 (terminal_made table steps w).1 (pins_made table kind pins (terminal_made table steps w).1)
        → Adds b 0 w (cond {A = Work → Read × Work} t (pins_made table kind pins) (λ v. ((name, (terminal_made table steps v).0) ∷ (pins_made table kind pins (terminal_made table steps v).1).0, (pins_made table kind pins (terminal_made table steps v).1).1)) w)
    go true skip one more = skip
    go false skip one more = record { grows = omega (arith, one.grows, more.grows); adds = omega (arith, one.adds, more.adds) }

-- the output's target, where it is connected
out-for :
    (table : List Entry) (line : ℕ) (kind : Kind) (pins : List Pin) → list_all (is_right_out kind) pins ≡ true → first_answer (pin_fault table line) pins ≡ None → AreFor (out_of table kind pins) 1
out-for table line kind [] r f = tt
out-for table line kind ((n, None) ∷ pins) r f = out-for table line kind pins (both-second (is_right_out kind (n, None)) (list_all (is_right_out kind) pins) r) f
out-for table line kind ((n, Some steps) ∷ pins) r f =
    go (bytes_eq kind.out n) (both-first (is_right_out kind (n, Some steps)) (list_all (is_right_out kind) pins) r)
    (out-for table line kind pins (both-second (is_right_out kind (n, Some steps)) (list_all (is_right_out kind) pins) r) (none-second (expr_fault table line 1 steps) (first_answer (pin_fault table line) pins) f))
  where
    go : (t : Bool) → (not t || is_plain steps) ≡ true → AreFor (out_of table kind pins) 1 → AreFor (cond t (To (driven_bits table steps)) (out_of table kind pins)) 1
    go true p rest = plain-bit table line steps p (none-first (expr_fault table line 1 steps) (first_answer (pin_fault table line) pins) f)
    go false p rest = rest

out-hits : (b : ℕ) (table : List Entry) (kind : Kind) (pins : List Pin) → at_outs b (out_of table kind pins) ≡ hits b (out_bits table kind pins)
out-hits b table kind [] = refl
out-hits b table kind ((n, None) ∷ pins) = out-hits b table kind pins
out-hits b table kind ((n, Some steps) ∷ pins) = go (bytes_eq kind.out n) (out-hits b table kind pins)
  where
    go : (t : Bool) → at_outs b (out_of table kind pins) ≡ hits b (out_bits table kind pins)
        → at_outs b (cond t (To (driven_bits table steps)) (out_of table kind pins)) ≡ hits b (cond t (driven_bits table steps) (out_bits table kind pins))
    go true rest = refl
    go false rest = rest

-- bodies

gate-adds : (b : ℕ) (o : Op) (outs : Outs) (ins : List ℕ) (w : Work) → b < w.fresh → AreFor outs 1 → Adds b (at_outs b outs) w (gate_made o outs ins w)
gate-adds b o outs ins w small h = let k = onto-adds b o ins (first_out outs) w small in record { grows = k.grows; adds = omega (arith, k.adds, one_for b outs h) }

flip-adds : (b : ℕ) (outs : Outs) (x y : List ℕ) (w : Work) → b < w.fresh → AreFor outs 1 → length x ≡ 1 → length y ≡ 1 → Adds b (at_outs b outs) w (flip_flop_made outs (x ∷ y ∷ []) w)
flip-adds b outs [] y w small h one two = absurd (omega (arith, one))
flip-adds b outs (c ∷ x) [] w small h one two = absurd (omega (arith, two))
flip-adds b outs (c ∷ x) (d ∷ y) w small h one two = go (first_out outs) (one_for b outs h)
  where
    go : (target : Option ℕ) → at_outs b outs ≡ at_target b target
        → Adds {A = List ℕ} b (at_outs b outs) w ([], record { fresh = (out_net target w).1.fresh; gates = (out_net target w).1.gates; flops = (out_net target w).1.flops ++ record { q = (out_net target w).0; d = d; clock = c } ∷ [] })
    go None e = let k = flop-adds b w.fresh d c w in record { grows = omega arith; adds = omega (arith, k.adds, e, hit_none b w.fresh small) }
    go (Some t) e = let k = flop-adds b t d c w in record { grows = omega arith; adds = omega (arith, k.adds, e) }

second-adds : (b : ℕ) (o : Op) (outs : Outs) (x y : List ℕ) (others : List (List ℕ)) (w : Work) → b < w.fresh → AreFor outs 1 → Adds b (at_outs b outs) w (second_inverted o outs (x ∷ y ∷ others) w)
second-adds b o outs x y others w small h =
    let n = make Not y w in
    let one = make-adds b Not y w small in
    let k = gate-adds b o outs (x ++ n.0 ∷ []) n.1 (omega (arith, small, one.grows)) h in
    record { grows = omega (arith, one.grows, k.grows); adds = omega (arith, one.adds, k.adds) }

mux-adds : (b : ℕ) (outs : Outs) (x y s : List ℕ) (w : Work) → b < w.fresh → AreFor outs 1 → length x ≡ 1 → length y ≡ 1 → Adds b (at_outs b outs) w (multiplexer_made outs (x ∷ y ∷ s ∷ []) w)
mux-adds b outs x y s w small h one two =
    let n = make Not s w in
    let first = make-adds b Not s w small in
    let k = each-adds b s n.0 y x outs n.1 (omega (arith, small, first.grows)) (for_same outs 1 (min (length y) (length x)) h (omega (arith, one, two))) in
    record { grows = omega (arith, first.grows, k.grows); adds = omega (arith, first.adds, k.adds) }

body-adds :
    (b : ℕ) (body : Body) (outs : Outs) (ins : List (List ℕ)) (w : Work) → b < w.fresh → AreFor outs 1 → takes body (length ins) ≡ true → OneEach ins → Adds b (at_outs b outs) w (body_made body outs ins w)
body-adds b FlipFlop outs [] w small h t one = cc
body-adds b FlipFlop outs (x ∷ []) w small h t one = cc
body-adds b FlipFlop outs (x ∷ y ∷ []) w small h t one = flip-adds b outs x y w small h one.0 one.1.0
body-adds b FlipFlop outs (x ∷ y ∷ c ∷ more) w small h t one = absurd (too_many (length more) (search (rules, t)))
  where
    too_many : (n : ℕ) → suc (suc (suc n)) ≡ 2 → ⊥
    too_many n e = omega (arith, e)
body-adds b (Gate o) outs ins w small h t one = gate-adds b o outs (all_nets ins) w small h
body-adds b (SecondInverted o) outs [] w small h t one = cc
body-adds b (SecondInverted o) outs (x ∷ []) w small h t one = cc
body-adds b (SecondInverted o) outs (x ∷ y ∷ others) w small h t one = second-adds b o outs x y others w small h
body-adds b Choice outs [] w small h t one = cc
body-adds b Choice outs (x ∷ []) w small h t one = cc
body-adds b Choice outs (x ∷ y ∷ []) w small h t one = cc
body-adds b Choice outs (x ∷ y ∷ s ∷ []) w small h t one = mux-adds b outs x y s w small h one.0 one.1.0
body-adds b Choice outs (x ∷ y ∷ s ∷ z ∷ more) w small h t one = absurd (too_many (length more) (search (rules, t)))
  where
    too_many : (n : ℕ) → suc (suc (suc (suc n))) ≡ 3 → ⊥
    too_many n e = omega (arith, e)

-- instances

-- pins as their kind wants them, without a fault
record IsRight (table : List Entry) (line : ℕ) (kind : Kind) (pins : List Pin) : Type 0 where
  outs : list_all (is_right_out kind) pins ≡ true
  given : list_all (is_given pins) kind.ins ≡ true
  fine : first_answer (pin_fault table line) pins ≡ None

right-pins : (table : List Entry) (line : ℕ) (kind : Kind) (conns : Conns) → IsRow kind → cell_fault table line (Some kind) conns ≡ None → IsRight table line kind (pins_of kind conns)
right-pins table line kind (Places terms) row f =
    let r = right-conns line (are_right_places kind terms) (first_answer (expr_fault table line 1) terms) f in
    let fine = fine-conns line (are_right_places kind terms) (first_answer (expr_fault table line 1) terms) f in
    let rest = both-second (nat_lt 0 (length terms)) ((length terms == length kind.places) && list_all (is_right_out kind) (by_place kind terms)) r in
    let some = both-first (nat_lt 0 (length terms)) ((length terms == length kind.places) && list_all (is_right_out kind) (by_place kind terms)) r in
    let same : length terms ≡ length kind.places = equal (length terms) (length kind.places) (both-first (length terms == length kind.places) (list_all (is_right_out kind) (by_place kind terms)) rest) in
    let among = some-place kind.places (list_all (has_name kind.places) (kind.out ∷ kind.ins)) (length terms) some same row.placed in
    let given = placed-all kind.places (kind.out ∷ kind.ins) terms same among in
    record {
      outs = both-second (length terms == length kind.places) (list_all (is_right_out kind) (by_place kind terms)) rest;
      given = both-second (is_given (by_place kind terms) kind.out) (list_all (is_given (by_place kind terms)) kind.ins) given;
      fine = placed-fault table line kind.places terms same ∙ fine;
    }
  where
    equal : (a b : ℕ) → (a == b) ≡ true → a ≡ b
    equal a b h = search (rules, h)
right-pins table line kind (Pins pins) row f =
    let right = right-conns line (are_right_pins kind pins) (first_answer (pin_fault table line) pins) f in
    let two = both-second (list_all (is_known kind) pins) (not (is_some (first_behind is_repeated [] pins)) && (list_all (is_given pins) kind.ins && list_all (is_right_out kind) pins)) right in
    let three = both-second (not (is_some (first_behind is_repeated [] pins))) (list_all (is_given pins) kind.ins && list_all (is_right_out kind) pins) two in
    record {
      outs = both-second (list_all (is_given pins) kind.ins) (list_all (is_right_out kind) pins) three;
      given = both-first (list_all (is_given pins) kind.ins) (list_all (is_right_out kind) pins) three;
      fine = fine-conns line (are_right_pins kind pins) (first_answer (pin_fault table line) pins) f;
    }

kind-adds :
    (b : ℕ) (table : List Entry) (line : ℕ) (kind : Kind) (pins : List Pin) (w : Work) → b < w.fresh → IsRow kind → IsRight table line kind pins
    → Adds b (hits b (out_bits table kind pins)) w (kind_made table kind pins w)
kind-adds b table line kind pins w small row right =
    let made = pins_made table kind pins w in
    let ins = map (nets_of made.0) kind.ins in
    let count : takes kind.body (length ins) ≡ true = ap (takes kind.body) (length_map (nets_of made.0) kind.ins) ∙ row.count in
    let one = pins-adds b table kind pins w small in
    let k = body-adds b kind.body (out_of table kind pins) ins made.1 (omega (arith, small, one.grows)) (out-for table line kind pins right.outs right.fine) count
    (one-each table line kind pins w kind.ins row.apart right.given right.fine) in
    record { grows = omega (arith, one.grows, k.grows); adds = omega (arith, one.adds, k.adds, out-hits b table kind pins) }

pub cell-adds :
    (b : ℕ) (table : List Entry) (line : ℕ) (name : List ℕ) (conns : Conns) (w : Work) → b < w.fresh → cell_fault table line (kind_of name) conns ≡ None
    → Adds b (hits b (cell_targets table (kind_of name) conns)) w (cell_made table (kind_of name) conns w)
cell-adds b table line name conns w small f = go (kind_of name) refl f
  where
    go : (k : Option Kind) → kind_of name ≡ k → cell_fault table line k conns ≡ None → Adds b (hits b (cell_targets table k conns)) w (cell_made table k conns w)
    go None e f = record { grows = omega arith; adds = omega arith }
    go (Some kind) e f = let row = row_of (bytes_eq name) kinds kind all_rows e in kind-adds b table line kind (pins_of kind conns) w small row (right-pins table line kind conns row f)
