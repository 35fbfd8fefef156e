-- The bit that a cell drives is what the cell gives on those of its inputs; a flip-flop's stands among the flip-flops.
use Rattle.std.proofs.Common.{arith, ◌≡◌, ℕ, suc, Bool, true, false, not, ◌&&◌, ◌||◌, ◌==◌, cond, List, [], ◌∷◌, ◌++◌, map, length, refl, ap, sym, ◌∙◌, subst, nat_lt, rules}
use Rattle.std.proofs.lemmas.List.{map-append}
use Rattle.std.specs.Prelude.{Option, Some, None, flat_map, is_some}
use Rattle.std.specs.List.{AllByRecursion, list_all}
use Rattle.std.specs.Str.{bytes_eq}
use Rattle.bb_base.specs.Operators.{op_gives}
use Rattle.bb_base.specs.declared.operator.Op.{Op}
use Rattle.bb_base.specs.declared.operator.Op.TheVariants.{And, Or, Not}
use Rattle.bb_base.specs.Variables.{Entry}
use Rattle.bb_base.proofs.Lists.{all_front, all_back, length_map}
use Rattle.bb_parse.specs.declared.syntax.Conns.{Conns}
use Rattle.bb_parse.specs.declared.syntax.Conns.TheVariants.{Places, Pins}
use Rattle.bb_parse.specs.declared.syntax.Ref.{Ref}
use Rattle.bb_fault.specs.Firsts.{first_answer, first_behind}
use Rattle.bb_fault.proofs.Parted.{both-first, both-second, none-first, none-second}
use Rattle.bb_scope.specs.declared.cells.Body.{Body}
use Rattle.bb_scope.specs.declared.cells.Body.TheVariants.{FlipFlop, Gate, SecondInverted, Choice}
use Rattle.bb_scope.specs.Names.{conns_names, has_name}
use Rattle.bb_scope.specs.Cells.{Kind, kinds, kind_of, Pin, is_plain, by_place, pins_of, is_known, is_repeated, is_given, is_right_out, are_right_pins, are_right_places}
use Rattle.bb_scope.specs.Sizes.{expr_fault}
use Rattle.bb_scope.specs.Parts.{pin_fault, cell_fault}
use Rattle.bb_fault.specs.Work.{Work, Clocked, make, make_onto, flop_made}
use Rattle.bb_scope.specs.Making.{Outs, To, Read, first_out, terminal_made, driven_bits, pins_made, nets_of, out_of, out_net, flip_flop_made, all_nets, second_inverted, multiplexer_made, body_made, kind_made, cell_made}
use Rattle.bb_meaning.proofs.WithinSteps.{AreKnown}
use Rattle.bb_meaning.specs.Statements.{cell_gives}
use Rattle.bb_scope.proofs.Instances.{apart, plain-bit, takes, IsRow, all_rows, row_of, OneEach, one-each, placed-fault, placed-all, some-place, right-conns, fine-conns}
use Rattle.bb_meaning.proofs.MadeBits.{AllMeet, make-bits, onto-bits, choice-bits}
use Rattle.bb_meaning.proofs.StepBits.{AreRead, terminal-bits}
use Rattle.bb_meaning.proofs.Pins.{IsPinKnown, pins-known}
use Rattle.bb_meaning.proofs.PrimBits.{value_by_steps, plain-value}

-- the value of what the pin of this name is connected to, and whether one is, by steps
abbrev pub pin_by_steps : (Ref → List Bool) → List Pin → List ℕ → List Bool
pin_by_steps read [] name = []
pin_by_steps read ((n, None) ∷ pins) name = pin_by_steps read pins name
pin_by_steps read ((n, Some e) ∷ pins) name = cond (bytes_eq name n) (value_by_steps read e) (pin_by_steps read pins name)

abbrev pub is_linked : List Pin → List ℕ → Bool
is_linked [] name = false
is_linked ((n, None) ∷ pins) name = is_linked pins name
is_linked ((n, Some e) ∷ pins) name = bytes_eq name n || is_linked pins name

-- the pins that are read ------------------------------------------------------

abbrev PinsRead : (ℕ → Bool) → (Clocked → Type 0) → (Ref → List Bool) → Kind → List Pin → Work → Read → Type 0
PinsRead v F read kind pins w made = AllMeet v F w × ((name : List ℕ) → bytes_eq kind.out name ≡ false → map v (nets_of made name) ≡ pin_by_steps read pins name)

pins-bits :
    (table : List Entry) (v : ℕ → Bool) (F : Clocked → Type 0) (read : Ref → List Bool) → AreRead table v read → (line : ℕ) (kind : Kind) (pins : List Pin) (w : Work)
    → AllByRecursion (IsPinKnown table) pins → first_answer (pin_fault table line) pins ≡ None → AllMeet v F (pins_made table kind pins w).1
    → PinsRead v F read kind pins w (pins_made table kind pins w).0
pins-bits table v F read reads line kind [] w known fine h = (h, λ name a. refl)
pins-bits table v F read reads line kind ((n, None) ∷ pins) w known fine h = pins-bits table v F read reads line kind pins w known.1 fine h
pins-bits table v F read reads line kind ((n, Some steps) ∷ pins) w known fine h =
    go (bytes_eq kind.out n) refl h (pins-bits table v F read reads line kind pins w known.1 others) (pins-bits table v F read reads line kind pins (terminal_made table steps w).1 known.1 others)
  where
    others : first_answer (pin_fault table line) pins ≡ None
    others = none-second (expr_fault table line 1 steps) (first_answer (pin_fault table line) pins) fine

    first : expr_fault table line 1 steps ≡ None
    first = none-first (expr_fault table line 1 steps) (first_answer (pin_fault table line) pins) fine

    go : (b : Bool) → bytes_eq kind.out n ≡ b
        → AllMeet v F (cond {A = Work → Read × Work} b (pins_made table kind pins) (λ z. ((n, (terminal_made table steps z).0) ∷ (pins_made table kind pins (terminal_made table steps z).1).0, (pins_made table kind pins (terminal_made table steps z).1).1)) w).1
        → (AllMeet v F (pins_made table kind pins w).1 → PinsRead v F read kind pins w (pins_made table kind pins w).0)
        → (AllMeet v F (pins_made table kind pins (terminal_made table steps w).1).1 → PinsRead v F read kind pins (terminal_made table steps w).1 (pins_made table kind pins (terminal_made table steps w).1).0)
        → PinsRead v F read kind ((n, Some steps) ∷ pins) w (cond {A = Work → Read × Work} b (pins_made table kind pins) (λ z. ((n, (terminal_made table steps z).0) ∷ (pins_made table kind pins (terminal_made table steps z).1).0, (pins_made table kind pins (terminal_made table steps z).1).1)) w).0
    go true e h skip more =
        let k = skip h in
        (k.0, λ name a. k.1 name a ∙ ap (λ t. cond t (value_by_steps read steps) (pin_by_steps read pins name)) (sym (apart kind name n a e)))
    go false e h skip more =
        let k = more h in
        let t = terminal-bits table v F read reads line 1 steps w known.0 first k.0 in
        (t.0, λ name a. pick (bytes_eq name n) name t.1 (k.1 name a))
      where
        pick : (b : Bool) (name : List ℕ) → map v (terminal_made table steps w).0 ≡ value_by_steps read steps → map v (nets_of (pins_made table kind pins (terminal_made table steps w).1).0 name) ≡ pin_by_steps read pins name
            → map v (cond b (terminal_made table steps w).0 (nets_of (pins_made table kind pins (terminal_made table steps w).1).0 name)) ≡ cond b (value_by_steps read steps) (pin_by_steps read pins name)
        pick true name here rest = here
        pick false name here rest = rest

-- the inputs of a body
inputs-bits :
    (v : ℕ → Bool) (read : Ref → List Bool) (kind : Kind) (pins : List Pin) (made : Read) (names : List (List ℕ)) → list_all (λ n. not (bytes_eq kind.out n)) names ≡ true
    → ((name : List ℕ) → bytes_eq kind.out name ≡ false → map v (nets_of made name) ≡ pin_by_steps read pins name) → map (map v) (map (nets_of made) names) ≡ map (pin_by_steps read pins) names
inputs-bits v read kind pins made [] a each = refl
inputs-bits v read kind pins made (n ∷ names) a each =
    λ i. each n (negated (bytes_eq kind.out n) (both-first (not (bytes_eq kind.out n)) (list_all (λ n. not (bytes_eq kind.out n)) names) a)) i
    ∷ inputs-bits v read kind pins made names (both-second (not (bytes_eq kind.out n)) (list_all (λ n. not (bytes_eq kind.out n)) names) a) each i
  where
    negated : (b : Bool) → not b ≡ true → b ≡ false
    negated true h = cc
    negated false h = refl

-- bodies ------------------------------------------------------------------------

-- where the output goes to a net: the bit that it has, or the flip-flop that it is of
abbrev pub IsDriven : (ℕ → Bool) → (Clocked → Type 0) → Body → ℕ → List (List ℕ) → Type 0
IsDriven v F FlipFlop t ((c ∷ more) ∷ (d ∷ rest) ∷ others) = F (record { q = t; d = d; clock = c })
IsDriven v F FlipFlop t few = Unit {0}
IsDriven v F (Gate o) t ins = v t ∷ [] ≡ cell_gives (Gate o) (map (map v) ins)
IsDriven v F (SecondInverted o) t ins = v t ∷ [] ≡ cell_gives (SecondInverted o) (map (map v) ins)
IsDriven v F Choice t ins = v t ∷ [] ≡ cell_gives Choice (map (map v) ins)

abbrev BodyHolds : (ℕ → Bool) → (Clocked → Type 0) → Body → Outs → List (List ℕ) → Work → Type 0
BodyHolds v F body outs ins w = AllMeet v F w × ((t : ℕ) → first_out outs ≡ Some t → IsDriven v F body t ins)

-- the net that a gate drives
onto-target : (v : ℕ → Bool) (o : Op) (ins : List ℕ) (target : Option ℕ) (w : Work) (t : ℕ) (b : Bool) → target ≡ Some t → v (make_onto o ins target w).0 ≡ b → v t ≡ b
onto-target v o ins None w t b e h = cc
onto-target v o ins (Some u) w t b e h = ap v (same u t e) ∙ h
  where
    same : (u t : ℕ) → Some u ≡ Some t → t ≡ u
    same u t e = cc

flat-nets : (v : ℕ → Bool) (ins : List (List ℕ)) → map v (all_nets ins) ≡ flat_map (λ a. a) (map (map v) ins)
flat-nets v [] = refl
flat-nets v (ns ∷ ins) = map-append v ns (all_nets ins) ∙ ap (λ z. map v ns ++ z) (flat-nets v ins)

gate-body : (v : ℕ → Bool) (F : Clocked → Type 0) (o : Op) (outs : Outs) (ins : List (List ℕ)) (w : Work) → AllMeet v F (body_made (Gate o) outs ins w).1 → BodyHolds v F (Gate o) outs ins w
gate-body v F o outs ins w h =
    let k = onto-bits v F o (all_nets ins) (first_out outs) w h in
    (k.0, λ t e. ap (λ z. z ∷ []) (onto-target v o (all_nets ins) (first_out outs) w t (op_gives o (map v (all_nets ins))) e k.1 ∙ ap (op_gives o) (flat-nets v ins)))

second-body :
    (v : ℕ → Bool) (F : Clocked → Type 0) (o : Op) (outs : Outs) (a b : List ℕ) (others : List (List ℕ)) (w : Work) → length b ≡ 1 → AllMeet v F (second_inverted o outs (a ∷ b ∷ others) w).1
    → BodyHolds v F (SecondInverted o) outs (a ∷ b ∷ others) w
second-body v F o outs a [] others w one h = cc
second-body v F o outs a (x ∷ []) others w one h =
    let n = make Not (x ∷ []) w in
    let k = onto-bits v F o (a ++ n.0 ∷ []) (first_out outs) n.1 h in
    let m = make-bits v F Not (x ∷ []) w k.0 in (
      m.0,
      λ t e. ap (λ z. z ∷ []) (onto-target v o (a ++ n.0 ∷ []) (first_out outs) n.1 t (op_gives o (map v (a ++ n.0 ∷ []))) e k.1
          ∙ ap (op_gives o) (map-append v a (n.0 ∷ []) ∙ ap (λ z. map v a ++ z ∷ []) m.1)),
    )
second-body v F o outs a (x ∷ y ∷ more) others w one h = cc

choice-body :
    (v : ℕ → Bool) (F : Clocked → Type 0) (outs : Outs) (a b s : List ℕ) (w : Work) → length a ≡ 1 → length b ≡ 1 → length s ≡ 1 → AllMeet v F (multiplexer_made outs (a ∷ b ∷ s ∷ []) w).1
    → BodyHolds v F Choice outs (a ∷ b ∷ s ∷ []) w
choice-body v F outs [] b s w one two three h = cc
choice-body v F outs (x ∷ more) [] s w one two three h = cc
choice-body v F outs (x ∷ more) (y ∷ others) [] w one two three h = cc
choice-body v F outs (x ∷ u ∷ more) (y ∷ others) (z ∷ rest) w one two three h = cc
choice-body v F outs (x ∷ []) (y ∷ u ∷ others) (z ∷ rest) w one two three h = cc
choice-body v F outs (x ∷ []) (y ∷ []) (z ∷ u ∷ rest) w one two three h = cc
choice-body v F outs (x ∷ []) (y ∷ []) (z ∷ []) w one two three h =
    let n = make Not (z ∷ []) w in
    let k = choice-bits v F z n.0 (y ∷ []) (x ∷ []) outs n.1 h in
    let m = make-bits v F Not (z ∷ []) w k.0 in
    let first = make And (z ∷ y ∷ []) n.1 in
    let second = make And (n.0 ∷ x ∷ []) first.1 in
    let either = make_onto Or (first.0 ∷ second.0 ∷ []) (first_out outs) second.1 in (
      m.0,
      λ t e. ap (λ c. c ∷ []) (onto-target v Or (first.0 ∷ second.0 ∷ []) (first_out outs) second.1 t (cond (v z) (v y) (v x)) e (only (v either.0) (cond (v z) (v y) (v x)) (k.1 m.1)))
          ∙ singles (v z) (v y) (v x),
    )
  where
    only : (a b : Bool) → a ∷ [] ≡ b ∷ [] → a ≡ b
    only a b h = cc

    singles : (c a b : Bool) → cond c a b ∷ [] ≡ cond c (a ∷ []) (b ∷ [])
    singles true a b = refl
    singles false a b = refl

flop-body : (v : ℕ → Bool) (F : Clocked → Type 0) (outs : Outs) (a b : List ℕ) (w : Work) → length a ≡ 1 → length b ≡ 1 → AllMeet v F (flip_flop_made outs (a ∷ b ∷ []) w).1 → BodyHolds v F FlipFlop outs (a ∷ b ∷ []) w
flop-body v F outs [] b w one two h = cc
flop-body v F outs (c ∷ a) [] w one two h = cc
flop-body v F outs (c ∷ a) (d ∷ b) w one two h = go (first_out outs) h
  where
    go : (target : Option ℕ) → AllMeet v F (flop_made (out_net target w).0 d c (out_net target w).1).1 → AllMeet v F w × ((t : ℕ) → target ≡ Some t → F (record { q = t; d = d; clock = c }))
    go None h = ((h.0, all_front F w.flops (record { q = w.fresh; d = d; clock = c } ∷ []) h.1), λ t e. absurd (cc e))
    go (Some u) h = (
      (h.0, all_front F w.flops (record { q = u; d = d; clock = c } ∷ []) h.1),
      λ t e. subst (λ q. F (record { q = q; d = d; clock = c })) (same u t e) (all_back F w.flops (record { q = u; d = d; clock = c } ∷ []) h.1).0,
    )
      where
        same : (u t : ℕ) → Some u ≡ Some t → u ≡ t
        same u t e = cc

body-bits :
    (v : ℕ → Bool) (F : Clocked → Type 0) (body : Body) (outs : Outs) (ins : List (List ℕ)) (w : Work) → takes body (length ins) ≡ true → OneEach ins → AllMeet v F (body_made body outs ins w).1
    → BodyHolds v F body outs ins w
body-bits v F FlipFlop outs [] w t one h = cc
body-bits v F FlipFlop outs (a ∷ []) w t one h = cc
body-bits v F FlipFlop outs (a ∷ b ∷ []) w t one h = flop-body v F outs a b w one.0 one.1.0 h
body-bits v F FlipFlop outs (a ∷ b ∷ c ∷ more) w t one h = absurd (too_many (length more) (search (rules, t)))
  where
    too_many : (n : ℕ) → suc (suc (suc n)) ≡ 2 → ⊥
    too_many n e = omega (arith, e)
body-bits v F (Gate o) outs ins w t one h = gate-body v F o outs ins w h
body-bits v F (SecondInverted o) outs [] w t one h = cc
body-bits v F (SecondInverted o) outs (a ∷ []) w t one h = cc
body-bits v F (SecondInverted o) outs (a ∷ b ∷ others) w t one h = second-body v F o outs a b others w one.1.0 h
body-bits v F Choice outs [] w t one h = cc
body-bits v F Choice outs (a ∷ []) w t one h = cc
body-bits v F Choice outs (a ∷ b ∷ []) w t one h = cc
body-bits v F Choice outs (a ∷ b ∷ s ∷ []) w t one h = choice-body v F outs a b s w one.0 one.1.0 one.1.1.0 h
body-bits v F Choice outs (a ∷ b ∷ s ∷ x ∷ more) w t one h = absurd (too_many (length more) (search (rules, t)))
  where
    too_many : (n : ℕ) → suc (suc (suc (suc n))) ≡ 3 → ⊥
    too_many n e = omega (arith, e)

-- outputs -------------------------------------------------------------------------

-- the net that the output goes to
record IsOut (table : List Entry) (kind : Kind) (pins : List Pin) (v : ℕ → Bool) (read : Ref → List Bool) : Type 0 where
  target : ℕ
  stands : first_out (out_of table kind pins) ≡ Some target
  value : pin_by_steps read pins kind.out ≡ v target ∷ []

out-bits :
    (table : List Entry) (v : ℕ → Bool) (read : Ref → List Bool) → AreRead table v read → (line : ℕ) (kind : Kind) (pins : List Pin)
    → AllByRecursion (IsPinKnown table) pins → list_all (is_right_out kind) pins ≡ true → first_answer (pin_fault table line) pins ≡ None → is_linked pins kind.out ≡ true → IsOut table kind pins v read
out-bits table v read reads line kind [] known right fine linked = absurd (cc linked)
out-bits table v read reads line kind ((n, None) ∷ pins) known right fine linked =
    let rest = out-bits table v read reads line kind pins known.1 (both-second (is_right_out kind (n, None)) (list_all (is_right_out kind) pins) right) fine linked in
    record { target = rest.target; stands = rest.stands; value = rest.value }
out-bits table v read reads line kind ((n, Some steps) ∷ pins) known right fine linked =
    go (bytes_eq kind.out n) refl linked (both-first (is_right_out kind (n, Some steps)) (list_all (is_right_out kind) pins) right)
    (out-bits table v read reads line kind pins known.1 (both-second (is_right_out kind (n, Some steps)) (list_all (is_right_out kind) pins) right) (none-second (expr_fault table line 1 steps) (first_answer (pin_fault table line) pins) fine))
  where
    single : (targets : List ℕ) → length targets ≡ 1 → (t : ℕ) × (targets ≡ t ∷ [])
    single [] h = absurd (cc h)
    single (t ∷ []) h = (t, refl)
    single (t ∷ u ∷ more) h = absurd (cc h)

    go : (b : Bool) → bytes_eq kind.out n ≡ b → (b || is_linked pins kind.out) ≡ true → (not b || is_plain steps) ≡ true → (is_linked pins kind.out ≡ true → IsOut table kind pins v read)
        → IsOut table kind ((n, Some steps) ∷ pins) v read
    go true e l p rest =
        let first = none-first (expr_fault table line 1 steps) (first_answer (pin_fault table line) pins) fine in
        let one = single (driven_bits table steps) (plain-bit table line steps p first) in
        record {
          target = one.0;
          stands = ap (λ b. first_out (cond b (To (driven_bits table steps)) (out_of table kind pins))) e ∙ ap (λ z. first_out (To z)) one.1;
          value = ap (λ b. cond b (value_by_steps read steps) (pin_by_steps read pins kind.out)) e ∙ (sym (plain-value table v read reads line steps known.0 p first) ∙ ap (map v) one.1);
        }
    go false e l p rest =
        let k = rest l in
        record {
          target = k.target;
          stands = ap (λ b. first_out (cond b (To (driven_bits table steps)) (out_of table kind pins))) e ∙ k.stands;
          value = ap (λ b. cond b (value_by_steps read steps) (pin_by_steps read pins kind.out)) e ∙ k.value;
        }

-- cells ---------------------------------------------------------------------------

-- how the output of a cell is read, and the valuation of its net: of a flip-flop those of the next cycle
abbrev pub out_by : {A : Type 0} → Body → A → A → A
out_by FlipFlop now next = next
out_by (Gate o) now next = now
out_by (SecondInverted o) now next = now
out_by Choice now next = now

out-reads :
    (table : List Entry) (v u : ℕ → Bool) (read next : Ref → List Bool) → AreRead table v read → AreRead table u next → (body : Body) → AreRead table (out_by body v u) (out_by body read next)
out-reads table v u read next reads nexts FlipFlop = nexts
out-reads table v u read next reads nexts (Gate o) = reads
out-reads table v u read next reads nexts (SecondInverted o) = reads
out-reads table v u read next reads nexts Choice = reads

-- a flip-flop takes its bit at the next edge
abbrev pub TakesNext : (ℕ → Bool) → (ℕ → Bool) → Clocked → Type 0
TakesNext v u f = u f.q ≡ v f.d

-- what a driven net has is what the cell gives
gives-bit :
    (v u : ℕ → Bool) (body : Body) (t : ℕ) (ins : List (List ℕ)) → takes body (length ins) ≡ true → OneEach ins → IsDriven v (TakesNext v u) body t ins → out_by body v u t ∷ [] ≡ cell_gives body (map (map v) ins)
gives-bit v u (Gate o) t ins k one h = h
gives-bit v u (SecondInverted o) t ins k one h = h
gives-bit v u Choice t ins k one h = h
gives-bit v u FlipFlop t [] k one h = cc
gives-bit v u FlipFlop t (a ∷ []) k one h = cc
gives-bit v u FlipFlop t ([] ∷ b ∷ others) k one h = absurd (cc one.0)
gives-bit v u FlipFlop t ((c ∷ more) ∷ [] ∷ others) k one h = absurd (cc one.1.0)
gives-bit v u FlipFlop t ((c ∷ more) ∷ (d ∷ []) ∷ others) k one h = ap (λ z. z ∷ []) h
gives-bit v u FlipFlop t ((c ∷ more) ∷ (d ∷ e ∷ rest) ∷ others) k one h = absurd (cc one.1.0)

-- pins as their kind wants them, without a fault
record IsRight (table : List Entry) (line : ℕ) (kind : Kind) (pins : List Pin) : Type 0 where
  outs : list_all (is_right_out kind) pins ≡ true
  given : list_all (is_given pins) kind.ins ≡ true
  fine : first_answer (pin_fault table line) pins ≡ None

right-pins : (table : List Entry) (line : ℕ) (kind : Kind) (conns : Conns) → IsRow kind → cell_fault table line (Some kind) conns ≡ None → IsRight table line kind (pins_of kind conns)
right-pins table line kind (Places terms) row f =
    let r = right-conns line (are_right_places kind terms) (first_answer (expr_fault table line 1) terms) f in
    let fine = fine-conns line (are_right_places kind terms) (first_answer (expr_fault table line 1) terms) f in
    let rest = both-second (nat_lt 0 (length terms)) ((length terms == length kind.places) && list_all (is_right_out kind) (by_place kind terms)) r in
    let some = both-first (nat_lt 0 (length terms)) ((length terms == length kind.places) && list_all (is_right_out kind) (by_place kind terms)) r in
    let same : length terms ≡ length kind.places = equal (length terms) (length kind.places) (both-first (length terms == length kind.places) (list_all (is_right_out kind) (by_place kind terms)) rest) in
    let among = some-place kind.places (list_all (has_name kind.places) (kind.out ∷ kind.ins)) (length terms) some same row.placed in
    let given = placed-all kind.places (kind.out ∷ kind.ins) terms same among in
    record {
      outs = both-second (length terms == length kind.places) (list_all (is_right_out kind) (by_place kind terms)) rest;
      given = both-second (is_given (by_place kind terms) kind.out) (list_all (is_given (by_place kind terms)) kind.ins) given;
      fine = placed-fault table line kind.places terms same ∙ fine;
    }
  where
    equal : (a b : ℕ) → (a == b) ≡ true → a ≡ b
    equal a b h = search (rules, h)
right-pins table line kind (Pins pins) row f =
    let right = right-conns line (are_right_pins kind pins) (first_answer (pin_fault table line) pins) f in
    let two = both-second (list_all (is_known kind) pins) (not (is_some (first_behind is_repeated [] pins)) && (list_all (is_given pins) kind.ins && list_all (is_right_out kind) pins)) right in
    let three = both-second (not (is_some (first_behind is_repeated [] pins))) (list_all (is_given pins) kind.ins && list_all (is_right_out kind) pins) two in
    record {
      outs = both-second (list_all (is_given pins) kind.ins) (list_all (is_right_out kind) pins) three;
      given = both-first (list_all (is_given pins) kind.ins) (list_all (is_right_out kind) pins) three;
      fine = fine-conns line (are_right_pins kind pins) (first_answer (pin_fault table line) pins) f;
    }

-- where its output is connected, it has what the cell gives
abbrev pub PinsHoldBy : (Ref → List Bool) → (Ref → List Bool) → Kind → List Pin → Type 0
PinsHoldBy read next kind pins = is_linked pins kind.out ≡ true → pin_by_steps (out_by kind.body read next) pins kind.out ≡ cell_gives kind.body (map (pin_by_steps read pins) kind.ins)

kind-bits :
    (table : List Entry) (v u : ℕ → Bool) (read next : Ref → List Bool) → AreRead table v read → AreRead table u next → (line : ℕ) (kind : Kind) (pins : List Pin) (w : Work)
    → IsRow kind → AllByRecursion (IsPinKnown table) pins → IsRight table line kind pins → AllMeet v (TakesNext v u) (kind_made table kind pins w).1
    → AllMeet v (TakesNext v u) w × PinsHoldBy read next kind pins
kind-bits table v u read next reads nexts line kind pins w row known right h =
    let F = TakesNext v u in
    let made = pins_made table kind pins w in
    let ins = map (nets_of made.0) kind.ins in
    let count : takes kind.body (length ins) ≡ true = ap (takes kind.body) (length_map (nets_of made.0) kind.ins) ∙ row.count in
    let one = one-each table line kind pins w kind.ins row.apart right.given right.fine in
    let body = body-bits v F kind.body (out_of table kind pins) ins made.1 count one h in
    let p = pins-bits table v F read reads line kind pins w known right.fine body.0 in (
      p.0,
      λ linked.
          let out = out-bits table (out_by kind.body v u) (out_by kind.body read next) (out-reads table v u read next reads nexts kind.body) line kind pins known right.outs right.fine linked in
          out.value ∙ (gives-bit v u kind.body out.target ins count one (body.1 out.target out.stands) ∙ ap (cell_gives kind.body) (inputs-bits v read kind pins made.0 kind.ins row.apart p.1)),
    )

-- an instance
abbrev pub CellHolds : (Ref → List Bool) → (Ref → List Bool) → List ℕ → Conns → Type 0
CellHolds read next name conns = (kind : Kind) → kind_of name ≡ Some kind → PinsHoldBy read next kind (pins_of kind conns)

pub cell-bits :
    (table : List Entry) (v u : ℕ → Bool) (read next : Ref → List Bool) → AreRead table v read → AreRead table u next → (line : ℕ) (name : List ℕ) (conns : Conns) (w : Work)
    → AreKnown table (conns_names conns) → cell_fault table line (kind_of name) conns ≡ None → AllMeet v (TakesNext v u) (cell_made table (kind_of name) conns w).1
    → AllMeet v (TakesNext v u) w × CellHolds read next name conns
cell-bits table v u read next reads nexts line name conns w known fine h = go (kind_of name) refl fine h
  where
    go : (k : Option Kind) → kind_of name ≡ k → cell_fault table line k conns ≡ None → AllMeet v (TakesNext v u) (cell_made table k conns w).1
        → AllMeet v (TakesNext v u) w × ((kind : Kind) → k ≡ Some kind → PinsHoldBy read next kind (pins_of kind conns))
    go None e f m = (m, λ kind k. absurd (cc k))
    go (Some kind) e f m =
        let row = row_of (bytes_eq name) kinds kind all_rows e in
        let k = kind-bits table v u read next reads nexts line kind (pins_of kind conns) w row (pins-known table kind conns known) (right-pins table line kind conns row f) m in
        (k.0, λ other same. subst (λ q. PinsHoldBy read next q (pins_of q conns)) (one kind other same) k.1)
      where
        one : (a b : Kind) → Some a ≡ Some b → a ≡ b
        one a b e = cc
