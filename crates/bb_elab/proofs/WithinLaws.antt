-- Every bit of a gate or flip-flop that items make is one that stands.
use Rattle.std.proofs.Common.{arith, ℕ, ◌<◌, ◌≤◌, Bool, true, false, cond, List, [], ◌∷◌, ◌++◌, map}
use Rattle.std.proofs.lemmas.List.Elements.{All-from_recursion}
use Rattle.std.specs.Prelude.{Option, Some, None, flat_map}
use Rattle.std.specs.List.{AllByRecursion}
use Rattle.std.specs.Str.{bytes_eq}
use Rattle.bb_base.specs.declared.operator.Op.{Op}
use Rattle.bb_base.specs.declared.operator.Op.TheVariants.{Not}
use Rattle.bb_base.specs.Variables.{Entry, bit_count}
use Rattle.bb_base.proofs.Lists.{all_front, all_back, all_join, all_map, all_parts}
use Rattle.bb_parse.specs.declared.syntax.Module.{Module}
use Rattle.bb_parse.specs.declared.syntax.Item.{Item}
use Rattle.bb_parse.specs.declared.syntax.Item.TheVariants as item
use Rattle.bb_parse.specs.declared.syntax.Conns.{Conns}
use Rattle.bb_parse.specs.declared.syntax.Ref.{Ref}
use Rattle.bb_scope.specs.declared.cells.Body.{Body}
use Rattle.bb_scope.specs.declared.cells.Body.TheVariants.{FlipFlop, Gate, SecondInverted, Choice}
use Rattle.bb_scope.specs.Names.{steps_names, conns_names, item_names, header_names}
use Rattle.bb_scope.specs.Variables.{variables}
use Rattle.bb_scope.specs.Cells.{Kind, kind_of, Pin, pins_of}
use Rattle.bb_drive.specs.Within.{IsGateWithin, IsFlopWithin, IsWithin}
use Rattle.bb_meaning.specs.Outcome.{work_in}
use Rattle.bb_fault.specs.Work.{Work, make}
use Rattle.bb_scope.specs.Making.{Outs, To, Read, first_out, terminal_made, driven_bits, pins_made, nets_of, out_of, out_net, flip_flop_made, all_nets, gate_made, second_inverted, multiplexer_made, body_made, kind_made, cell_made, item_made, items_made}
use Rattle.bb_scope.specs.References.{ref_bits}
use Rattle.bb_meaning.proofs.Mentioned.{mentioned_known}
use Rattle.bb_meaning.proofs.Pins.{IsPinKnown, pins-known}
use Rattle.bb_meaning.proofs.AllItems.{all_flat}
use Rattle.bb_meaning.proofs.WithinGates.{AreBelow, AreOutsBelow, IsBelow, IsDone, IsInside, IsOutBelow, Keeps, each-keeps, first_below, make-keeps, nets_more, new-keeps, onto-keeps, outs_more}
use Rattle.bb_meaning.proofs.WithinSteps.{AreKnown, IsKnown, assigned-keeps, driven_below, prim-keeps, ref_below, terminal-keeps}

-- cells ---------------------------------------------------------------------------

-- the nets of the pins that are read stand
abbrev IsReadBelow : ℕ → Read → Type 0
IsReadBelow end read = AllByRecursion (λ r. AreBelow end r.1) read

-- the pins' expressions, the nets of a pin, and where the output goes
pins-keeps : (table : List Entry) (kind : Kind) (pins : List Pin) (w : Work) → IsInside w → bit_count table ≤ w.fresh → AllByRecursion (IsPinKnown table) pins → Keeps IsReadBelow w (pins_made table kind pins w)
pins-keeps table kind [] w is base known = record { grows = omega arith; value = tt; inside = is }
pins-keeps table kind ((name, None) ∷ pins) w is base known = pins-keeps table kind pins w is base known.1
pins-keeps table kind ((name, Some steps) ∷ pins) w is base known =
    go (bytes_eq kind.out name) (pins-keeps table kind pins w is base known.1) (terminal-keeps table steps w is base known.0)
    (λ a. pins-keeps table kind pins (terminal_made table steps w).1 a.inside (omega (arith, base, a.grows)) known.1)
  where
    go : (b : Bool) → Keeps IsReadBelow w (pins_made table kind pins w) → Keeps AreBelow w (terminal_made table steps w)
        → (Keeps AreBelow w (terminal_made table steps w) → Keeps IsReadBelow (terminal_made table steps w).1 (pins_made table kind pins (terminal_made table steps w).1))
        → Keeps IsReadBelow w (cond b (pins_made table kind pins)
        (λ v. ((name, (terminal_made table steps v).0) ∷ (pins_made table kind pins (terminal_made table steps v).1).0, (pins_made table kind pins (terminal_made table steps v).1).1)) w)
    go true k a rest = k
    go false k a rest =
        let b = rest a in
        let v = (terminal_made table steps w).1 in
        record { grows = omega (arith, a.grows, b.grows); value = (nets_more v.fresh (pins_made table kind pins v).1.fresh (terminal_made table steps w).0 b.grows a.value, b.value); inside = b.inside }

nets_below : (end : ℕ) (read : Read) (name : List ℕ) → IsReadBelow end read → AreBelow end (nets_of read name)
nets_below end [] name all = tt
nets_below end (r ∷ read) name all = go (bytes_eq name r.0) (nets_below end read name all.1)
  where
    go : (b : Bool) → AreBelow end (nets_of read name) → AreBelow end (cond b r.1 (nets_of read name))
    go true rest = all.0
    go false rest = rest

out_below : (table : List Entry) (kind : Kind) (pins : List Pin) → AllByRecursion (IsPinKnown table) pins → AreOutsBelow (bit_count table) (out_of table kind pins)
out_below table kind [] known = tt
out_below table kind ((name, None) ∷ pins) known = out_below table kind pins known.1
out_below table kind ((name, Some steps) ∷ pins) known = go (bytes_eq kind.out name) (out_below table kind pins known.1)
  where
    go : (b : Bool) → AreOutsBelow (bit_count table) (out_of table kind pins) → AreOutsBelow (bit_count table) (cond b (To (driven_bits table steps)) (out_of table kind pins))
    go true rest = driven_below table steps known.0
    go false rest = rest

-- the net of an output
net-keeps : (target : Option ℕ) (w : Work) → IsInside w → IsOutBelow w.fresh target → Keeps IsBelow w (out_net target w)
net-keeps None w is out = new-keeps w is
net-keeps (Some t) w is out = record { grows = omega arith; value = out; inside = is }

-- the nets of inputs stand
abbrev AreListsBelow : ℕ → List (List ℕ) → Type 0
AreListsBelow end lists = AllByRecursion (AreBelow end) lists

-- nothing is made
nothing : {A : Type 0} (a : A) (w : Work) → IsInside w → Keeps IsDone w (a, w)
nothing a w is = record { grows = omega arith; value = tt; inside = is }

-- the bodies of cells
register-keeps : (outs : Outs) (ins : List (List ℕ)) (w : Work) → IsInside w → AreOutsBelow w.fresh outs → AreListsBelow w.fresh ins → Keeps IsDone w (flip_flop_made outs ins w)
register-keeps outs [] w is out all = nothing [] w is
register-keeps outs ([] ∷ ins) w is out all = nothing [] w is
register-keeps outs ((k ∷ more) ∷ []) w is out all = nothing [] w is
register-keeps outs ((k ∷ more) ∷ [] ∷ others) w is out all = nothing [] w is
register-keeps outs ((k ∷ more) ∷ (d ∷ rest) ∷ others) w is out all =
    let a = net-keeps (first_out outs) w is (first_below w.fresh outs out) in
    let v = (out_net (first_out outs) w).1 in
    let q = (out_net (first_out outs) w).0 in
    record {
      grows = a.grows;
      value = tt;
      inside = record {
        gates = a.inside.gates;
        flops = all_join (IsFlopWithin v.fresh) v.flops (record { q = q; d = d; clock = k } ∷ []) a.inside.flops
            (record { q = a.value; d = omega (arith, all.1.0.0, a.grows); clock = omega (arith, all.0.0, a.grows) }, tt);
      };
    }

all_below : (end : ℕ) (lists : List (List ℕ)) → AreListsBelow end lists → AreBelow end (all_nets lists)
all_below end [] all = tt
all_below end (ns ∷ lists) all = all_join (λ n. n < end) ns (all_nets lists) all.0 (all_below end lists all.1)

gate-keeps : (op : Op) (outs : Outs) (ins : List ℕ) (w : Work) → IsInside w → AreOutsBelow w.fresh outs → AreBelow w.fresh ins → Keeps IsDone w (gate_made op outs ins w)
gate-keeps op outs ins w is out below =
    let a = onto-keeps op ins (first_out outs) w is below (first_below w.fresh outs out) in
    record { grows = a.grows; value = tt; inside = a.inside }

second-keeps : (op : Op) (outs : Outs) (ins : List (List ℕ)) (w : Work) → IsInside w → AreOutsBelow w.fresh outs → AreListsBelow w.fresh ins → Keeps IsDone w (second_inverted op outs ins w)
second-keeps op outs [] w is out all = nothing [] w is
second-keeps op outs (x ∷ []) w is out all = nothing [] w is
second-keeps op outs (x ∷ y ∷ others) w is out all =
    let a = make-keeps Not y w is all.1.0 in
    let v = (make Not y w).1 in
    let n = (make Not y w).0 in
    let b = gate-keeps op outs (x ++ n ∷ []) v a.inside (outs_more w.fresh v.fresh outs a.grows out) (all_join (λ m. m < v.fresh) x (n ∷ []) (nets_more w.fresh v.fresh x a.grows all.0) (a.value, tt)) in
    record { grows = omega (arith, a.grows, b.grows); value = tt; inside = b.inside }

select-keeps : (outs : Outs) (ins : List (List ℕ)) (w : Work) → IsInside w → AreOutsBelow w.fresh outs → AreListsBelow w.fresh ins → Keeps IsDone w (multiplexer_made outs ins w)
select-keeps outs [] w is out all = nothing [] w is
select-keeps outs (x ∷ []) w is out all = nothing [] w is
select-keeps outs (x ∷ y ∷ []) w is out all = nothing [] w is
select-keeps outs (x ∷ y ∷ s ∷ others) w is out all =
    let a = make-keeps Not s w is all.1.1.0 in
    let v = (make Not s w).1 in
    let n = (make Not s w).0 in
    let b =
    each-keeps s n y x outs v a.inside (nets_more w.fresh v.fresh s a.grows all.1.1.0) a.value (nets_more w.fresh v.fresh y a.grows all.1.0) (nets_more w.fresh v.fresh x a.grows all.0)
    (outs_more w.fresh v.fresh outs a.grows out) in
    record { grows = omega (arith, a.grows, b.grows); value = tt; inside = b.inside }

body-keeps : (body : Body) (outs : Outs) (ins : List (List ℕ)) (w : Work) → IsInside w → AreOutsBelow w.fresh outs → AreListsBelow w.fresh ins → Keeps IsDone w (body_made body outs ins w)
body-keeps FlipFlop outs ins w is out all = register-keeps outs ins w is out all
body-keeps (Gate op) outs ins w is out all = gate-keeps op outs (all_nets ins) w is out (all_below w.fresh ins all)
body-keeps (SecondInverted op) outs ins w is out all = second-keeps op outs ins w is out all
body-keeps Choice outs ins w is out all = select-keeps outs ins w is out all

-- the inputs of a body
inputs_below : (end : ℕ) (read : Read) (names : List (List ℕ)) → IsReadBelow end read → AreListsBelow end (map (nets_of read) names)
inputs_below end read [] all = tt
inputs_below end read (n ∷ names) all = (nets_below end read n all, inputs_below end read names all)

-- a cell
kind-keeps : (table : List Entry) (kind : Kind) (pins : List Pin) (w : Work) → IsInside w → bit_count table ≤ w.fresh → AllByRecursion (IsPinKnown table) pins → Keeps IsDone w (kind_made table kind pins w)
kind-keeps table kind pins w is base known =
    let a = pins-keeps table kind pins w is base known in
    let v = (pins_made table kind pins w).1 in
    let read = (pins_made table kind pins w).0 in
    let b =
    body-keeps kind.body (out_of table kind pins) (map (nets_of read) kind.ins) v a.inside
    (outs_more (bit_count table) v.fresh (out_of table kind pins) (omega (arith, base, a.grows)) (out_below table kind pins known)) (inputs_below v.fresh read kind.ins a.value) in
    record { grows = omega (arith, a.grows, b.grows); value = tt; inside = b.inside }

cell-keeps : (table : List Entry) (kind : Option Kind) (conns : Conns) (w : Work) → IsInside w → bit_count table ≤ w.fresh → AreKnown table (conns_names conns) → Keeps IsDone w (cell_made table kind conns w)
cell-keeps table None conns w is base known = nothing [] w is
cell-keeps table (Some kind) conns w is base known = kind-keeps table kind (pins_of kind conns) w is base (pins-known table kind conns known)

-- items ---------------------------------------------------------------------------

-- an item, and items
item-keeps : (table : List Entry) (i : Item) (w : Work) → IsInside w → bit_count table ≤ w.fresh → AreKnown table (item_names i) → Keeps IsDone w (item_made table i w)
item-keeps table (item.Decl decl) w is base known = nothing [] w is
item-keeps table (item.Assign line left right) w is base known =
    let refs = all_map (IsKnown table) (λ (r : Ref). IsKnown table r.name) (λ r. r.name) (λ r h. h) left (all_front (IsKnown table) (map (λ r. r.name) left) (steps_names right) known) in
    let targets = flat_map (ref_bits table) left in
    let below = all_flat (λ n. n < bit_count table) (λ (r : Ref). IsKnown table r.name) (ref_bits table) (ref_below table) left refs in
    assigned-keeps table targets right [] w is base (nets_more (bit_count table) w.fresh targets base below) (all_back (IsKnown table) (map (λ r. r.name) left) (steps_names right) known) tt
item-keeps table (item.Prim line op terms) w is base known = prim-keeps table op terms w is base (all_parts (IsKnown table) steps_names terms known)
item-keeps table (item.Cell line cell conns) w is base known = cell-keeps table (kind_of cell) conns w is base known

items-keep : (table : List Entry) (items : List Item) (w : Work) → IsInside w → bit_count table ≤ w.fresh → AreKnown table (flat_map item_names items) → IsInside (items_made table items w)
items-keep table [] w is base known = is
items-keep table (i ∷ items) w is base known =
    let a = item-keeps table i w is base (all_front (IsKnown table) (item_names i) (flat_map item_names items) known) in
    items-keep table items (item_made table i w).1 a.inside (omega (arith, base, a.grows)) (all_back (IsKnown table) (item_names i) (flat_map item_names items) known)

-- the work of a module is within its bits
pub work_within : (m : Module) → IsWithin (work_in m)
work_within m =
    let is = items-keep (variables m) m.items (record { fresh = bit_count (variables m); gates = []; flops = [] }) (record { gates = tt; flops = tt }) (omega arith)
    (all_back (IsKnown (variables m)) (header_names m.header) (flat_map item_names m.items) (mentioned_known m)) in
    record { gates = All-from_recursion (IsGateWithin (work_in m).fresh) (work_in m).gates is.gates; flops = All-from_recursion (IsFlopWithin (work_in m).fresh) (work_in m).flops is.flops }
