use Rattle.std.proofs.Common.{arith, ◌≡◌, ◌<◌, ◌^◌, ℕ, ◌+◌, false, cond, List, [], ◌∷◌, ◌++◌, drop, sym, ap, subst, ◌∙◌, append_assoc}
use Rattle.std.proofs.lemmas.Grind.{common_steps}
use Rattle.std.specs.Prelude.{Some}
use Rattle.std.specs.Str.{bytes_eq}
use Rattle.bb_base.specs.Variables.{Entry}
use Rattle.bb_parse.specs.declared.syntax.Step.{Step}
use Rattle.bb_scope.specs.Cells.{Kind, Pin}
use Rattle.bb_scope.specs.Kinds.{kind_value}
use Rattle.bb_fault.specs.Work.{Work}
use Rattle.bb_scope.specs.Making.{Read, terminal_made, pins_made}
use Rattle.bb_gates.proofs.Growing.{pin-grows}
use Rattle.bb_scope.specs.Names.{pin_names}
use Rattle.bb_scope.specs.Uses.{AreNext}
use Rattle.bb_scope.proofs.UseLaws.{next_item, next_items}
use Rattle.bb_gates.proofs.cell_gates.pins_made.Goals as goal
use Rattle.bb_gates.proofs.cell_gates.pins_made.Goals.{in-Some+then-ne+in_ok-nets+in_ok-push, in-Some+else-ne, in_default}

-- a pin that is read and the pins behind it
read_first : (table : List Entry) (kind : Kind) (name : List ℕ) (steps : List Step) (pins : List Pin) (w : Work) → bytes_eq kind.out name ≡ false
    → (pins_made table kind ((name, Some steps) ∷ pins) w).0 ≡ (name, (terminal_made table steps w).0) ∷ (pins_made table kind pins (terminal_made table steps w).1).0
read_first table kind name steps pins w h =
    ap (λ b. (cond {A = Work → Read × Work} b (pins_made table kind pins) (λ v. ((name, (terminal_made table steps v).0) ∷ (pins_made table kind pins (terminal_made table steps v).1).0, (pins_made table kind pins (terminal_made table steps v).1).1)) w).0) h

-- the nets that are read with those of one more pin
read_grows : (table : List Entry) (kind : Kind) (name : List ℕ) (steps : List Step) (pins : List Pin) (w v : Work) (read : Read) (nets : List ℕ) → bytes_eq kind.out name ≡ false
    → nets ≡ (terminal_made table steps w).0 → v ≡ (terminal_made table steps w).1
    → (read ++ (name, nets) ∷ []) ++ (pins_made table kind pins v).0 ≡ read ++ (pins_made table kind ((name, Some steps) ∷ pins) w).0
read_grows table kind name steps pins w v read nets h n k =
    append_assoc read ((name, nets) ∷ []) (pins_made table kind pins v).0
    ∙ ((λ i. read ++ (name, n i) ∷ (pins_made table kind pins (k i)).0) ∙ ap (λ z. read ++ z) (sym (read_first table kind name steps pins w h)))

pub terminal_made-requires-clause-next : goal.terminal_made-requires-clause-next
terminal_made-requires-clause-next c =
    let is : c.pin-item.result.1 ≡ Some c.in-Some.steps.now = grind (arith, common_steps, c.pin.view_is, c.in-Some.is) in
    subst (λ e. AreNext c.args.scope.now (pin_names e) c.loop-pin.rest.now) is
    (next_item (λ p. pin_names p.1) c.args.scope.now c.args.pins.now c.loop-pin.pin-index c.pin-item.result c.loop-pin.rest.now c.loop-pin.invariant.next c.pin-item.is c.loop-pin-test.true)

-- there are numbers for the nets of a pin that is read, where there is one for each net of all
fits :
    (table : List Entry) (kind : Kind) (all_pins pins : List Pin) (name : List ℕ) (steps : List Step) (w all : Work) → all_pins ≡ (name, Some steps) ∷ pins → bytes_eq kind.out name ≡ false
    → (pins_made table kind all_pins w).1 ≡ all → all.fresh < 2 ^ 32 → (terminal_made table steps w).1.fresh < 2 ^ 32
fits table kind all_pins pins name steps w all here apart made small =
    omega (arith, ap (λ ps. (pins_made table kind ps w).1.fresh) here, ap (λ (v : Work). v.fresh) made, small, pin-grows table kind name steps pins w apart)

pub terminal_made-requires-clause-room : goal.terminal_made-requires-clause-room
terminal_made-requires-clause-room c =
    let name = c.pin.inside.name.now in
    let steps = c.in-Some.steps.now in
    let i = c.loop-pin.pin-index in
    let pins = c.args.pins.now in
    let rest = drop (i + 1) pins in
    let first : drop i pins ≡ (name, Some steps) ∷ rest = grind (arith, common_steps, c.pin-item.is) in
    let apart : bytes_eq c.args.kind.now.out.now name ≡ false = grind (arith, common_steps, c.ne.ensures) in
    fits c.args.scope.now (kind_value c.args.kind.now) (drop i pins) rest name steps c.loop-pin.work (pins_made c.args.scope.now (kind_value c.args.kind.now) pins c.args.work.now).1 first apart c.loop-pin.invariant.work c.requires.room

pub loop-pin-preserved : goal.loop-pin-preserved
loop-pin-preserved c =
    let next =
    next_items (λ p. pin_names p.1) c.args.scope.now c.args.pins.now c.loop-pin.pin-index c.pin-item.result c.loop-pin.rest.now c.behind_pin-rest.result.now c.loop-pin.invariant.next c.pin-item.is
    c.loop-pin-test.true c.behind_pin-rest.ensures in
    elim c.match-pin.branch [
      | in-Some+then-ne+in_ok-nets+in_ok-push w ↦
          let name = c.pin.inside.name.now in
          let steps = w.in-Some.steps.now in
          let rest = drop (c.loop-pin.pin-index + 1) c.args.pins.now in
          let first : drop c.loop-pin.pin-index c.args.pins.now ≡ (name, Some steps) ∷ rest = grind (arith, common_steps, c.pin-item.is) in
          let apart : bytes_eq c.args.kind.now.out.now name ≡ false = grind (arith, common_steps, w.ne.ensures) in
          let more = read_grows c.args.scope.now (kind_value c.args.kind.now) name steps rest c.loop-pin.work w.terminal_made.new.work c.loop-pin.read.items w.in_ok-nets.nets.items apart w.in_ok-nets.ensures.value w.in_ok-nets.ensures.work in
          record {
            next = next;
            read = grind (arith, first, more, w.in_ok-push.ensures.items, c.loop-pin.invariant.read);
            work = grind (arith, common_steps, w.ne.ensures, w.in_ok-nets.ensures.value, w.in_ok-nets.ensures.work, c.loop-pin.invariant.work, c.pin-item.is);
          }
      | in-Some+else-ne w ↦ record { next = next; read = grind (arith, common_steps, w.ne.ensures, c.loop-pin.invariant.read, c.pin-item.is); work = grind (arith, common_steps, w.ne.ensures, c.loop-pin.invariant.work, c.pin-item.is) }
      | in_default w ↦ record { next = next; read = grind (arith, common_steps, c.loop-pin.invariant.read, c.pin-item.is); work = grind (arith, common_steps, c.loop-pin.invariant.work, c.pin-item.is) }
    ]
