-- What the items of a module say of bits holds of those of the nets that they make.
use Rattle.std.proofs.Common.{◌≡◌, ℕ, Bool, ◌==◌, List, [], ◌∷◌, ◌++◌, map, refl, sym, ◌∙◌}
use Rattle.std.proofs.lemmas.List.{map-append}
use Rattle.std.specs.Prelude.{None, flat_map}
use Rattle.std.specs.List.{AllByRecursion}
use Rattle.bb_base.specs.Variables.{Entry}
use Rattle.bb_base.proofs.Lists.{all_front, all_back, all_parts}
use Rattle.bb_parse.specs.declared.syntax.Item.{Item}
use Rattle.bb_parse.specs.declared.syntax.Item.TheVariants as item
use Rattle.bb_parse.specs.declared.syntax.Ref.{Ref}
use Rattle.bb_parse.specs.declared.syntax.Step.{Step}
use Rattle.bb_fault.specs.Firsts.{first_answer}
use Rattle.bb_fault.proofs.Parted.{none-first, none-second}
use Rattle.bb_scope.specs.Names.{steps_names, item_names}
use Rattle.bb_scope.specs.References.{ref_fault, ref_bits, left_width}
use Rattle.bb_scope.specs.Sizes.{width, differs, steps_stack, last_size, steps_fault, expr_fault}
use Rattle.bb_scope.specs.Parts.{assign_fault, item_fault}
use Rattle.bb_fault.specs.Work.{Work}
use Rattle.bb_scope.specs.Making.{assigned, item_made, items_made}
use Rattle.bb_meaning.proofs.WithinSteps.{AreKnown, IsKnown}
use Rattle.bb_scope.proofs.Assigns.{fine-width, targets-length}
use Rattle.bb_meaning.proofs.MadeBits.{AllMeet}
use Rattle.bb_meaning.proofs.StepBits.{AreRead, ref-bits}
use Rattle.bb_meaning.proofs.AssignBits.{assigned-bits}
use Rattle.bb_meaning.proofs.PrimBits.{value_by_steps, PrimHolds, prim-bits}
use Rattle.bb_meaning.proofs.CellBits.{TakesNext, CellHolds, cell-bits}

-- what an item says
abbrev pub ItemHolds : (Ref → List Bool) → (Ref → List Bool) → Item → Type 0
ItemHolds read next (item.Decl decl) = Unit {0}
ItemHolds read next (item.Assign line left right) = flat_map read left ≡ value_by_steps read right
ItemHolds read next (item.Prim line op terms) = PrimHolds read op terms
ItemHolds read next (item.Cell line cell conns) = CellHolds read next cell conns

-- the bits of a left side
left-bits :
    (table : List Entry) (v : ℕ → Bool) (read : Ref → List Bool) → AreRead table v read → (line : ℕ) (left : List Ref) → AreKnown table (map (λ r. r.name) left)
    → first_answer (ref_fault table line) left ≡ None → map v (flat_map (ref_bits table) left) ≡ flat_map read left
left-bits table v read reads line [] known fine = refl
left-bits table v read reads line (r ∷ left) known fine =
    map-append v (ref_bits table r) (flat_map (ref_bits table) left)
    ∙ (λ i. ref-bits table v read reads line r known.0 (none-first (ref_fault table line r) (first_answer (ref_fault table line) left) fine) i
    ++ left-bits table v read reads line left known.1 (none-second (ref_fault table line r) (first_answer (ref_fault table line) left) fine) i)

assign-bits :
    (table : List Entry) (v u : ℕ → Bool) (read : Ref → List Bool) → AreRead table v read → (line : ℕ) (left : List Ref) (right : List Step) (w : Work)
    → AreKnown table (map (λ r. r.name) left ++ steps_names right) → assign_fault table line left right ≡ None → AllMeet v (TakesNext v u) (assigned table (flat_map (ref_bits table) left) right [] w).1
    → AllMeet v (TakesNext v u) w × (flat_map read left ≡ value_by_steps read right)
assign-bits table v u read reads line left right w known fine h =
    let refs = none-first (first_answer (ref_fault table line) left) (expr_fault table line (left_width table left) right) fine in
    let e = none-second (first_answer (ref_fault table line) left) (expr_fault table line (left_width table left) right) fine in
    let steps = none-first (steps_fault table line right []) (differs line (width (last_size (steps_stack table right [])) == left_width table left)) e in
    let k =
    assigned-bits table v (TakesNext v u) read reads line (flat_map (ref_bits table) left) right [] w (all_back (IsKnown table) (map (λ r. r.name) left) (steps_names right) known) steps
    (fine-width table line (left_width table left) right e ∙ sym (targets-length table left)) h in
    (k.0, sym (left-bits table v read reads line left (all_front (IsKnown table) (map (λ r. r.name) left) (steps_names right) known) refs) ∙ k.1)

item-bits :
    (table : List Entry) (v u : ℕ → Bool) (read next : Ref → List Bool) → AreRead table v read → AreRead table u next → (i : Item) (w : Work)
    → AreKnown table (item_names i) → item_fault table i ≡ None → AllMeet v (TakesNext v u) (item_made table i w).1 → AllMeet v (TakesNext v u) w × ItemHolds read next i
item-bits table v u read next reads nexts (item.Decl decl) w known fine h = (h, tt)
item-bits table v u read next reads nexts (item.Assign line left right) w known fine h = assign-bits table v u read reads line left right w known fine h
item-bits table v u read next reads nexts (item.Prim line op terms) w known fine h = prim-bits table v (TakesNext v u) read reads line op terms w (all_parts (IsKnown table) steps_names terms known) fine h
item-bits table v u read next reads nexts (item.Cell line cell conns) w known fine h = cell-bits table v u read next reads nexts line cell conns w known fine h

-- all items hold
pub items-bits :
    (table : List Entry) (v u : ℕ → Bool) (read next : Ref → List Bool) → AreRead table v read → AreRead table u next → (items : List Item) (w : Work)
    → AreKnown table (flat_map item_names items) → first_answer (item_fault table) items ≡ None → AllMeet v (TakesNext v u) (items_made table items w)
    → AllMeet v (TakesNext v u) w × AllByRecursion (ItemHolds read next) items
items-bits table v u read next reads nexts [] w known fine h = (h, tt)
items-bits table v u read next reads nexts (i ∷ items) w known fine h =
    let more =
    items-bits table v u read next reads nexts items (item_made table i w).1 (all_back (IsKnown table) (item_names i) (flat_map item_names items) known)
    (none-second (item_fault table i) (first_answer (item_fault table) items) fine) h in
    let here =
    item-bits table v u read next reads nexts i w (all_front (IsKnown table) (item_names i) (flat_map item_names items) known) (none-first (item_fault table i) (first_answer (item_fault table) items) fine) more.0 in
    (here.0, (here.1, more.1))
