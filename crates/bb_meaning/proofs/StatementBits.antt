-- The statements of a text hold of the bits of the nets that its module makes.
use Rattle.std.proofs.Common.{◌≡◌, ℕ, Bool, ◌||◌, cond, List, [], ◌∷◌, ◌++◌, map, zip, take, drop, length, refl, ap, sym, ◌∙◌, subst, append-nil, append_assoc}
use Rattle.std.proofs.lemmas.List.{take-map}
use Rattle.std.specs.Prelude.{Some, None, flat_map}
use Rattle.std.specs.Option.{option_map}
use Rattle.std.specs.List.{AllByRecursion}
use Rattle.std.specs.Str.{bytes_eq}
use Rattle.bb_base.specs.Operators.{op_gives}
use Rattle.bb_base.specs.declared.operator.Op.{Op}
use Rattle.bb_base.specs.Variables.{Entry, bit_count}
use Rattle.bb_base.proofs.Lists.{all_front, all_back, all_map, map_twice, length_map}
use Rattle.bb_parse.specs.declared.syntax.Ref.{Ref}
use Rattle.bb_parse.specs.Trees as tree
use Rattle.bb_parse.specs.Trees.{Name, Expr, Exprs, NoExprs, MoreExprs, Terms, Left, Target, Targets, Lefts, NoLefts, MoreLefts, Equation, Gate, Conns, Places, NoPins, Pins, Instance, Statement, Directs, Wires, Assigns, Gates, Cells, File}
use Rattle.bb_parse.specs.Meaning.{steps_of, each, terms_of, targets, more_targets, conns_of, assign, prim, cell, items_of, all_items, module_of}
use Rattle.bb_scope.specs.Cells.{Kind, Pin as StepsPin, pins_of}
use Rattle.bb_scope.specs.Names.{steps_names, item_names, header_names}
use Rattle.bb_scope.specs.Terminals.{out_count}
use Rattle.bb_scope.specs.Variables.{variables}
use Rattle.bb_scope.specs.declared.cells.Body.{Body}
use Rattle.bb_scope.specs.declared.cells.Body.TheVariants as body
use Rattle.bb_scope.specs.Parts.{bad_part}
use Rattle.bb_base.specs.Run.{Meets}
use Rattle.bb_scope.specs.Sizes.{expr_fault}
use Rattle.bb_fault.specs.Work.{Work, Clocked}
use Rattle.bb_scope.specs.Making.{terminal_made, work_of}
use Rattle.bb_meaning.proofs.WithinSteps.{IsKnown}
use Rattle.bb_meaning.specs.Values.{Bits, value, left_value, lefts_value, reference_bits}
use Rattle.bb_meaning.specs.Statements.{AreBitsOf, EquationHolds, rest_of, terminals, TerminalsHold, GateHolds, PinRead, pins_in, pin_value, is_connected, cell_gives, out_read, PinsHold, InstanceHolds, StatementHolds, IsWorkCycle}
use Rattle.bb_meaning.proofs.Mentioned.{mentioned_known}
use Rattle.bb_meaning.proofs.StepValues.{by_ref, expr-steps}
use Rattle.bb_meaning.proofs.StepBits.{last_bits, drop-map, terminal-bits}
use Rattle.bb_meaning.proofs.RefBits.{named, same-reading, are-read}
use Rattle.bb_meaning.proofs.PrimBits.{value_by_steps, PrimHolds}
use Rattle.bb_meaning.proofs.CellBits.{pin_by_steps, is_linked, PinsHoldBy, out_by}
use Rattle.bb_meaning.proofs.ItemBits.{ItemHolds, items-bits}

-- expressions and left sides

pub by-tree : (read : Ref → List Bool) (e : Expr) → value_by_steps read (steps_of e) ≡ value (by_ref read) e
by-tree read e = ap last_bits (expr-steps e read [])

flat-join : (read : Ref → List Bool) (xs ys : List Ref) → flat_map read (xs ++ ys) ≡ flat_map read xs ++ flat_map read ys
flat-join read [] ys = refl
flat-join read (x ∷ xs) ys = ap (λ z. read x ++ z) (flat-join read xs ys) ∙ sym (append_assoc (read x) (flat_map read xs) (flat_map read ys))

mutual
  left-tree : (l : Left) (read : Ref → List Bool) → flat_map read (targets l) ≡ left_value (by_ref read) l
  left-tree (Target x s) read = append-nil (by_ref read x s)
  left-tree (Targets l ls) read = flat-join read (targets l) (more_targets ls) ∙ (λ i. left-tree l read i ++ lefts-tree ls read i)

  lefts-tree : (ls : Lefts) (read : Ref → List Bool) → flat_map read (more_targets ls) ≡ lefts_value (by_ref read) ls
  lefts-tree NoLefts read = refl
  lefts-tree (MoreLefts l ls) read = flat-join read (targets l) (more_targets ls) ∙ (λ i. left-tree l read i ++ lefts-tree ls read i)

-- terminals

each-is : (es : Exprs) → each es ≡ map steps_of (rest_of es)
each-is NoExprs = refl
each-is (MoreExprs e es) = ap (λ z. steps_of e ∷ z) (each-is es)

terms-are : (t : Terms) → terms_of t ≡ map steps_of (terminals t)
terms-are t = ap (λ z. steps_of t.first ∷ z) (each-is t.more)

flat-values : (read : Ref → List Bool) (es : List Expr) → flat_map (value_by_steps read) (map steps_of es) ≡ flat_map (value (by_ref read)) es
flat-values read [] = refl
flat-values read (e ∷ es) = λ i. by-tree read e i ++ flat-values read es i

prim-tree : (read : Ref → List Bool) (o : Op) (es : List Expr) → PrimHolds read o (map steps_of es) → TerminalsHold (by_ref read) o es
prim-tree read o es h =
    let n = out_count o (length (map steps_of es)) in
    let count : n ≡ out_count o (length es) = ap (out_count o) (length_map steps_of es) in
    let ins : flat_map (value_by_steps read) (drop n (map steps_of es)) ≡ flat_map (value (by_ref read)) (drop (out_count o (length es)) es) =
    ap (flat_map (value_by_steps read)) (drop-map steps_of n es) ∙ (flat-values read (drop n es) ∙ ap (λ k. flat_map (value (by_ref read)) (drop k es)) count) in
    let outs : take n (map steps_of es) ≡ map steps_of (take (out_count o (length es)) es) = take-map steps_of n es ∙ ap (λ k. map steps_of (take k es)) count in
    let gives = λ (bits : List Bool). op_gives o bits ∷ [] in
    all_map (λ out. value_by_steps read out ≡ gives (flat_map (value_by_steps read) (drop n (map steps_of es)))) (λ out. value (by_ref read) out ≡ gives (flat_map (value (by_ref read)) (drop (out_count o (length es)) es)))
    steps_of (λ e same. sym (by-tree read e) ∙ (same ∙ ap gives ins)) (take (out_count o (length es)) es)
    (subst (AllByRecursion (λ out. value_by_steps read out ≡ gives (flat_map (value_by_steps read) (drop n (map steps_of es))))) outs h)

-- pins

abbrev stepped : PinRead → StepsPin
stepped p = (p.0, option_map steps_of p.1)

zip-stepped : (names : List Name) (es : List Expr) → zip names (map (λ e. Some e) (map steps_of es)) ≡ map stepped (zip names (map (λ e. Some e) es))
zip-stepped [] es = refl
zip-stepped (n ∷ names) [] = refl
zip-stepped (n ∷ names) (e ∷ es) = ap (λ z. (n, Some (steps_of e)) ∷ z) (zip-stepped names es)

pins-are : (kind : Kind) (c : Conns) → pins_of kind (conns_of c) ≡ map stepped (pins_in kind c)
pins-are kind (Places t) = ap (λ z. zip kind.places (map (λ e. Some e) z)) (terms-are t) ∙ zip-stepped kind.places (terminals t)
pins-are kind NoPins = refl
pins-are kind (Pins p ps) = sym (map_twice stepped (λ (q : tree.Pin). (q.name, q.value)) (p ∷ ps))

pin-tree : (read : Ref → List Bool) (pins : List PinRead) (name : Name) → pin_by_steps read (map stepped pins) name ≡ pin_value (by_ref read) pins name
pin-tree read [] name = refl
pin-tree read ((n, None) ∷ pins) name = pin-tree read pins name
pin-tree read ((n, Some e) ∷ pins) name = λ i. cond (bytes_eq name n) (by-tree read e i) (pin-tree read pins name i)

linked-tree : (pins : List PinRead) (name : Name) → is_linked (map stepped pins) name ≡ is_connected pins name
linked-tree [] name = refl
linked-tree ((n, None) ∷ pins) name = linked-tree pins name
linked-tree ((n, Some e) ∷ pins) name = ap (λ b. bytes_eq name n || b) (linked-tree pins name)

ins-tree : (read : Ref → List Bool) (pins : List PinRead) (names : List Name) → map (pin_by_steps read (map stepped pins)) names ≡ map (pin_value (by_ref read) pins) names
ins-tree read pins [] = refl
ins-tree read pins (n ∷ names) = λ i. pin-tree read pins n i ∷ ins-tree read pins names i

out-tree : (read next : Ref → List Bool) (b : Body) → by_ref (out_by b read next) ≡ out_read b (by_ref read) (by_ref next)
out-tree read next body.FlipFlop = refl
out-tree read next (body.Gate o) = refl
out-tree read next (body.SecondInverted o) = refl
out-tree read next body.Choice = refl

pins-tree : (read next : Ref → List Bool) (kind : Kind) (pins : List PinRead) → PinsHoldBy read next kind (map stepped pins) → PinsHold (by_ref read) (by_ref next) kind pins
pins-tree read next kind pins h connected =
    sym (pin-tree (out_by kind.body read next) pins kind.out ∙ ap (λ r. pin_value r pins kind.out) (out-tree read next kind.body))
    ∙ (h (linked-tree pins kind.out ∙ connected) ∙ ap (cell_gives kind.body) (ins-tree read pins kind.ins))

-- statements

equation-tree : (read next : Ref → List Bool) (line : ℕ) (e : Equation) → ItemHolds read next (assign line e) → EquationHolds (by_ref read) e
equation-tree read next line e h = sym (left-tree e.left read) ∙ (h ∙ by-tree read e.right)

gate-tree : (read next : Ref → List Bool) (line : ℕ) (o : Op) (g : Gate) → ItemHolds read next (prim line o g) → GateHolds (by_ref read) o g
gate-tree read next line o g h = prim-tree read o (terminals g.terms) (subst (PrimHolds read o) (terms-are g.terms) h)

instance-tree : (read next : Ref → List Bool) (line : ℕ) (name : Name) (i : Instance) → ItemHolds read next (cell line name i) → InstanceHolds (by_ref read) (by_ref next) name i
instance-tree read next line name i h kind e = pins-tree read next kind (pins_in kind i.conns) (subst (PinsHoldBy read next kind) (pins-are kind i.conns) (h kind e))

statement-tree : (read next : Ref → List Bool) (s : Statement) → AllByRecursion (ItemHolds read next) (items_of s) → StatementHolds (by_ref read) (by_ref next) s
statement-tree read next (Directs line t x xs) h = tt
statement-tree read next (Wires line r x xs) h = tt
statement-tree read next (Assigns line e es) h = all_map (ItemHolds read next) (EquationHolds (by_ref read)) (assign line) (equation-tree read next line) (e ∷ es) h
statement-tree read next (Gates line k o g gs) h = all_map (ItemHolds read next) (GateHolds (by_ref read) o) (prim line o) (gate-tree read next line o) (g ∷ gs) h
statement-tree read next (Cells line x i is) h = all_map (ItemHolds read next) (InstanceHolds (by_ref read) (by_ref next) x) (cell line x) (instance-tree read next line x) (i ∷ is) h

statements-tree : (read next : Ref → List Bool) (ss : List Statement) → AllByRecursion (ItemHolds read next) (all_items ss) → AllByRecursion (StatementHolds (by_ref read) (by_ref next)) ss
statements-tree read next [] h = tt
statements-tree read next (s ∷ ss) h =
    (statement-tree read next s (all_front (ItemHolds read next) (items_of s) (all_items ss) h), statements-tree read next ss (all_back (ItemHolds read next) (items_of s) (all_items ss) h))

-- the statements of a module without a fault of its parts
pub statements-hold :
    (f : File) (v u : ℕ → Bool) (bits next : Bits) → bad_part (module_of f) ≡ None
    → IsWorkCycle (work_of (variables (module_of f)) (module_of f).items) v u
    → AreBitsOf (variables (module_of f)) v bits → AreBitsOf (variables (module_of f)) u next
    → AllByRecursion (StatementHolds (reference_bits (variables (module_of f)) bits) (reference_bits (variables (module_of f)) next)) f.statements
statements-hold f v u bits next fine cycle of then =
    let m = module_of f in
    let table = variables m in
    let known = all_back (IsKnown table) (header_names m.header) (flat_map item_names m.items) (mentioned_known m) in
    let items =
    items-bits table v u (named table bits) (named table next) (are-read table v bits of) (are-read table u next then) m.items (record { fresh = bit_count table; gates = []; flops = [] }) known fine (cycle.gates, cycle.flops) in
    subst (λ r. AllByRecursion (StatementHolds r (reference_bits table next)) f.statements) (same-reading table bits)
    (subst (λ r. AllByRecursion (StatementHolds (by_ref (named table bits)) r) f.statements) (same-reading table next) (statements-tree (named table bits) (named table next) f.statements items.1))

-- an expression at a terminal
pub terminal-means :
    (table : List Entry) (v : ℕ → Bool) (bits : Bits) (line wanted : ℕ) (e : Expr) (w : Work) → AllByRecursion (IsKnown table) (steps_names (steps_of e)) → expr_fault table line wanted (steps_of e) ≡ None
    → AllByRecursion (Meets v) (terminal_made table (steps_of e) w).1.gates → AreBitsOf table v bits → map v (terminal_made table (steps_of e) w).0 ≡ value (reference_bits table bits) e
terminal-means table v bits line wanted e w known fine gates of =
    let k = terminal-bits table v (λ f. Unit {0}) (named table bits) (are-read table v bits of) line wanted (steps_of e) w known fine (gates, all_done (terminal_made table (steps_of e) w).1.flops) in
    k.1 ∙ (by-tree (named table bits) e ∙ ap (λ r. value r e) (same-reading table bits))
  where
    all_done : (flops : List Clocked) → AllByRecursion (λ f. Unit {0}) flops
    all_done [] = tt
    all_done (f ∷ flops) = (tt, all_done flops)
