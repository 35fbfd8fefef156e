-- Expressions, assigns and primitives keep to bits that stand.
use Rattle.std.proofs.Common.{arith, ◌≡◌, ℕ, zero, suc, ◌+◌, ◌-◌, ◌<◌, ◌≤◌, nat_le, Bool, true, false, ◌&&◌, ◌||◌, cond, List, [], ◌∷◌, take, reverse, length, refl, ap}
use Rattle.std.proofs.lemmas.Bool.Decides.{nat_tests}
use Rattle.std.specs.Prelude.{Option, Some, None, flat_map}
use Rattle.std.specs.Map.{lookup}
use Rattle.std.specs.List.{AllByRecursion, range_with_len}
use Rattle.std.specs.Str.{bytes_eq}
use Rattle.bb_base.specs.declared.operator.Op.{Op}
use Rattle.bb_base.specs.declared.operator.Op.TheVariants.{And, Or, Xor, Xnor, Buf}
use Rattle.bb_base.specs.Variables.{Entry, range_width, bit_count}
use Rattle.bb_base.proofs.Lists.{all_front, all_back, all_join}
use Rattle.bb_parse.specs.declared.syntax.Ref.{Ref}
use Rattle.bb_parse.specs.declared.syntax.Step.{Step}
use Rattle.bb_parse.specs.declared.syntax.Step.TheVariants as step
use Rattle.bb_scope.specs.declared.value.Bit.{Bit}
use Rattle.bb_scope.specs.declared.value.Bit.TheVariants.{Net, Fixed}
use Rattle.bb_scope.specs.declared.references.Span.{Span}
use Rattle.bb_fault.specs.Firsts.{on_some}
use Rattle.bb_scope.specs.Names.{step_names, steps_names}
use Rattle.bb_scope.specs.References.{range_in, distance, is_in_range, selected, ref_span, first_number, span_bits, ref_bits}
use Rattle.bb_scope.specs.Terminals.{is_last, out_count, outs_of, ins_of}
use Rattle.bb_drive.specs.Nets.{is_variable}
use Rattle.bb_fault.specs.Work.{Work, drive, constant}
use Rattle.bb_scope.specs.Making.{Outs, New, To, inverted, joined_by, choice_between, const_bits, side_by_side, copies, last_value, onto_stack, not_made, two_made, choice_made, repeat_made, step_made, steps_made, terminal_made, terminals_made, copied_onto, makes_gates, assigned, driven_bits, all_driven, prim_made}
use Rattle.bb_meaning.proofs.AllItems.{all_flat, all_take, all_drop, all_reverse}
use Rattle.bb_meaning.proofs.WithinGates.{AreBelow, AreBitsBelow, AreOutsBelow, IsBitBelow, IsDone, IsInside, IsStackBelow, Keeps, by-keeps, chosen-keeps, drive-keeps, grounded-keeps, inverted-keeps, nets_more, stack_more, value_below}

-- references ------------------------------------------------------------------

-- a name is that of a variable
abbrev pub IsKnown : List Entry → List ℕ → Type 0
IsKnown table name = is_variable table name ≡ true

-- the names are those of variables
abbrev pub AreKnown : List Entry → List (List ℕ) → Type 0
AreKnown table names = AllByRecursion (IsKnown table) names

-- the bits of a variable that stands end where all do
pub ends_within : (table : List Entry) (name : List ℕ) → is_variable table name ≡ true → first_number table name + range_width (range_in table name) ≤ bit_count table
ends_within [] name known = absurd (cc known)
ends_within (v ∷ table) name known = go (bytes_eq name v.0) refl known (ends_within table name)
  where
    go : (b : Bool) → bytes_eq name v.0 ≡ b → (b || is_variable table name) ≡ true → (is_variable table name ≡ true → first_number table name + range_width (range_in table name) ≤ bit_count table)
        → cond b 0 (range_width v.1.range + first_number table name) + range_width (on_some (cond b (Some v.1) (lookup (bytes_eq name) table)) None (λ v. v.range)) ≤ range_width v.1.range + bit_count table
    go true e h rest = omega arith
    go false e h rest = omega (arith, rest h)

-- a select inside a range, which runs as that does, ends where it does
pub part_within : (l r a b : ℕ) → (is_in_range (l, r) a && (is_in_range (l, r) b && nat_le (distance l a) (distance l b))) ≡ true → distance l a + ((a - b) + (b - a) + 1) ≤ (l - r) + (r - l) + 1
part_within l r a b h = grind (arith, nat_tests, h)

-- so do the bits of a part of it
pub part_ends : (range select : Option (ℕ × ℕ)) (s : Span) → selected range select ≡ Some s → s.first + s.width ≤ range_width range
part_ends range None s h = let same : record { first = 0; width = range_width range } ≡ s = cc h in omega (arith, ap (λ (x : Span). x.first) same, ap (λ (x : Span). x.width) same)
part_ends None (Some p) s h = absurd (cc h)
part_ends (Some r) (Some p) s h = go (is_in_range r p.0 && (is_in_range r p.1 && nat_le (distance r.0 p.0) (distance r.0 p.1))) refl h
  where
    go : (b : Bool) → (is_in_range r p.0 && (is_in_range r p.1 && nat_le (distance r.0 p.0) (distance r.0 p.1))) ≡ b
        → cond b (Some (record { first = distance r.0 p.0; width = range_width (Some p) })) None ≡ Some s → s.first + s.width ≤ range_width (Some r)
    go false e k = absurd (cc k)
    go true e k =
        let same : record { first = distance r.0 p.0; width = range_width (Some p) } ≡ s = cc k in
        omega (arith, part_within r.0 r.1 p.0 p.1 e, ap (λ (x : Span). x.first) same, ap (λ (x : Span). x.width) same)

-- numbers from one on
pub range_below : (end from n : ℕ) → from + n ≤ end → AreBelow end (range_with_len from n)
range_below end from zero small = tt
range_below end from (suc n) small = (omega (arith, small), range_below end (from + 1) n (omega (arith, small)))

-- the bits that a reference to a variable names
pub ref_below : (table : List Entry) (r : Ref) → IsKnown table r.name → AreBelow (bit_count table) (ref_bits table r)
ref_below table r known = go (ref_span table r) refl
  where
    go : (s : Option Span) → ref_span table r ≡ s → AreBelow (bit_count table) (span_bits (first_number table r.name) s)
    go None e = tt
    go (Some s) e = range_below (bit_count table) (first_number table r.name + s.first) s.width (omega (arith, part_ends (range_in table r.name) r.select s e, ends_within table r.name known))

-- values ------------------------------------------------------------------------

-- constants, joined values, copies and the last value
pub const_below : (end n value : ℕ) → AreBitsBelow end (const_bits n value)
const_below end zero value = tt
const_below end (suc n) value = (tt, const_below end n value)

pub joined_below : (end : ℕ) (stack : List (List Bit)) → IsStackBelow end stack → AreBitsBelow end (side_by_side stack)
joined_below end [] all = tt
joined_below end (v ∷ stack) all = all_join (IsBitBelow end) v (side_by_side stack) all.0 (joined_below end stack all.1)

pub copies_below : (end times : ℕ) (bits : List Bit) → AreBitsBelow end bits → AreBitsBelow end (copies times bits)
copies_below end zero bits all = tt
copies_below end (suc n) bits all = all_join (IsBitBelow end) bits (copies n bits) all (copies_below end n bits all)

pub last_below : (end : ℕ) (stack : List (List Bit)) → IsStackBelow end stack → AreBitsBelow end (last_value stack)
last_below end [] all = tt
last_below end (v ∷ stack) all = all.0

-- steps -------------------------------------------------------------------------

-- a value on those that stand open
pub stacked : (rest : List (List Bit)) (maker : Work → List Bit × Work) (w : Work) → IsStackBelow w.fresh rest → Keeps AreBitsBelow w (maker w) → Keeps IsStackBelow w (onto_stack rest maker w)
stacked rest maker w all k = record { grows = k.grows; value = (k.value, stack_more w.fresh (maker w).1.fresh rest k.grows all); inside = k.inside }

pub none_left : (w : Work) → IsInside w → Keeps {A = List (List Bit)} IsStackBelow w ([], w)
none_left w is = record { grows = omega arith; value = tt; inside = is }

-- a step on the values that stand open
pub not-keeps : (outs : Outs) (stack : List (List Bit)) (w : Work) → IsInside w → AreOutsBelow w.fresh outs → IsStackBelow w.fresh stack → Keeps IsStackBelow w (not_made outs stack w)
not-keeps outs [] w is out all = none_left w is
not-keeps outs (a ∷ rest) w is out all = stacked rest (inverted outs a) w all.1 (inverted-keeps outs a w is all.0 out)

pub two-keeps : (op : Op) (outs : Outs) (stack : List (List Bit)) (w : Work) → IsInside w → AreOutsBelow w.fresh outs → IsStackBelow w.fresh stack → Keeps IsStackBelow w (two_made op outs stack w)
two-keeps op outs [] w is out all = none_left w is
two-keeps op outs (b ∷ []) w is out all = none_left w is
two-keeps op outs (b ∷ a ∷ rest) w is out all = stacked rest (joined_by op outs a b) w all.1.1 (by-keeps op outs a b w is all.1.0 all.0 out)

pub choice-keeps : (outs : Outs) (stack : List (List Bit)) (w : Work) → IsInside w → AreOutsBelow w.fresh outs → IsStackBelow w.fresh stack → Keeps IsStackBelow w (choice_made outs stack w)
choice-keeps outs [] w is out all = none_left w is
choice-keeps outs (b ∷ []) w is out all = none_left w is
choice-keeps outs (b ∷ a ∷ []) w is out all = none_left w is
choice-keeps outs (b ∷ a ∷ c ∷ rest) w is out all = stacked rest (choice_between outs c a b) w all.1.1.1 (chosen-keeps outs c a b w is all.1.1.0 all.1.0 all.0 out)

pub repeat_below : (end times : ℕ) (stack : List (List Bit)) → IsStackBelow end stack → IsStackBelow end (repeat_made times stack)
repeat_below end times [] all = tt
repeat_below end times (a ∷ rest) all = (copies_below end times a all.0, all.1)

-- a step keeps to bits that stand, where those of all variables do
pub step-keeps :
    (table : List Entry) (outs : Outs) (s : Step) (stack : List (List Bit)) (w : Work) → IsInside w → bit_count table ≤ w.fresh → AreKnown table (step_names s) → AreOutsBelow w.fresh outs → IsStackBelow w.fresh stack
    → Keeps IsStackBelow w (step_made table outs s stack w)
step-keeps table outs (step.Ref r) stack w is base known out all = record {
  grows = omega arith;
  value = (value_below w.fresh (ref_bits table r) (nets_more (bit_count table) w.fresh (ref_bits table r) base (ref_below table r known.0)), all);
  inside = is;
}
step-keeps table outs (step.Const size value) stack w is base known out all = record { grows = omega arith; value = (const_below w.fresh size value, all); inside = is }
step-keeps table outs step.Not stack w is base known out all = not-keeps outs stack w is out all
step-keeps table outs step.And stack w is base known out all = two-keeps And outs stack w is out all
step-keeps table outs step.Or stack w is base known out all = two-keeps Or outs stack w is out all
step-keeps table outs step.Xor stack w is base known out all = two-keeps Xor outs stack w is out all
step-keeps table outs step.Xnor stack w is base known out all = two-keeps Xnor outs stack w is out all
step-keeps table outs step.Cond stack w is base known out all = choice-keeps outs stack w is out all
step-keeps table outs (step.Join count) stack w is base known out all = record {
  grows = omega arith;
  value = (
    joined_below w.fresh (reverse (take count stack)) (all_reverse (AreBitsBelow w.fresh) (take count stack) (all_take (AreBitsBelow w.fresh) count stack all)),
    all_drop (AreBitsBelow w.fresh) count stack all,
  );
  inside = is;
}
step-keeps table outs (step.Repeat times) stack w is base known out all = record { grows = omega arith; value = repeat_below w.fresh times stack all; inside = is }

-- steps, and the expressions of terminals
pub steps-keeps :
    (table : List Entry) (steps : List Step) (stack : List (List Bit)) (w : Work) → IsInside w → bit_count table ≤ w.fresh → AreKnown table (steps_names steps) → IsStackBelow w.fresh stack
    → Keeps IsStackBelow w (steps_made table steps stack w)
steps-keeps table [] stack w is base known all = record { grows = omega arith; value = all; inside = is }
steps-keeps table (s ∷ ss) stack w is base known all =
    let a = step-keeps table New s stack w is base (all_front (IsKnown table) (step_names s) (steps_names ss) known) tt all in
    let v = (step_made table New s stack w).1 in
    let b = steps-keeps table ss (step_made table New s stack w).0 v a.inside (omega (arith, base, a.grows)) (all_back (IsKnown table) (step_names s) (steps_names ss) known) a.value in
    record { grows = omega (arith, a.grows, b.grows); value = b.value; inside = b.inside }

pub terminal-keeps : (table : List Entry) (steps : List Step) (w : Work) → IsInside w → bit_count table ≤ w.fresh → AreKnown table (steps_names steps) → Keeps AreBelow w (terminal_made table steps w)
terminal-keeps table steps w is base known =
    let a = steps-keeps table steps [] w is base known tt in
    let v = (steps_made table steps [] w).1 in
    let stack = (steps_made table steps [] w).0 in
    let b = grounded-keeps (last_value stack) v a.inside (last_below v.fresh stack a.value) in
    record { grows = omega (arith, a.grows, b.grows); value = b.value; inside = b.inside }

pub terminals-keeps :
    (table : List Entry) (terms : List (List Step)) (w : Work) → IsInside w → bit_count table ≤ w.fresh → AllByRecursion (λ e. AreKnown table (steps_names e)) terms → Keeps AreBelow w (terminals_made table terms w)
terminals-keeps table [] w is base known = record { grows = omega arith; value = tt; inside = is }
terminals-keeps table (e ∷ terms) w is base known =
    let a = terminal-keeps table e w is base known.0 in
    let v = (terminal_made table e w).1 in
    let first = (terminal_made table e w).0 in
    let b = terminals-keeps table terms v a.inside (omega (arith, base, a.grows)) known.1 in
    let z = (terminals_made table terms v).1 in
    record { grows = omega (arith, a.grows, b.grows); value = all_join (λ n. n < z.fresh) first (terminals_made table terms v).0 (nets_more v.fresh z.fresh first b.grows a.value) b.value; inside = b.inside }

-- assigns and primitives --------------------------------------------------------

-- copies onto targets
pub copied-keeps : (targets : List ℕ) (bits : List Bit) (w : Work) → IsInside w → AreBelow w.fresh targets → AreBitsBelow w.fresh bits → Keeps IsDone w (copied_onto targets bits w)
copied-keeps [] bits w is below all = record { grows = omega arith; value = tt; inside = is }
copied-keeps (t ∷ targets) [] w is below all = record { grows = omega arith; value = tt; inside = is }
copied-keeps (t ∷ targets) (Net n ∷ bits) w is below all =
    let a = drive-keeps Buf (n ∷ []) t w is (all.0, tt) below.0 in
    let b = copied-keeps targets bits (drive Buf (n ∷ []) t w).1 a.inside below.1 all.1 in
    record { grows = omega (arith, a.grows, b.grows); value = tt; inside = b.inside }
copied-keeps (t ∷ targets) (Fixed one ∷ bits) w is below all =
    let a = drive-keeps (constant one) [] t w is tt below.0 in
    let b = copied-keeps targets bits (drive (constant one) [] t w).1 a.inside below.1 all.1 in
    record { grows = omega (arith, a.grows, b.grows); value = tt; inside = b.inside }

-- an assign's steps
pub assigned-keeps :
    (table : List Entry) (targets : List ℕ) (steps : List Step) (stack : List (List Bit)) (w : Work) → IsInside w → bit_count table ≤ w.fresh → AreBelow w.fresh targets → AreKnown table (steps_names steps)
    → IsStackBelow w.fresh stack → Keeps IsDone w (assigned table targets steps stack w)
assigned-keeps table targets [] stack w is base below known all = copied-keeps targets (last_value stack) w is below (last_below w.fresh stack all)
assigned-keeps table targets (s ∷ ss) stack w is base below known all =
    go (is_last ss && makes_gates s) (step-keeps table (To targets) s stack w is base first below all) (step-keeps table New s stack w is base first tt all)
    (λ a. assigned-keeps table targets ss (step_made table New s stack w).0 (step_made table New s stack w).1 a.inside (omega (arith, base, a.grows)) (nets_more w.fresh (step_made table New s stack w).1.fresh targets a.grows below)
    (all_back (IsKnown table) (step_names s) (steps_names ss) known) a.value)
  where
    first : AreKnown table (step_names s)
    first = all_front (IsKnown table) (step_names s) (steps_names ss) known

    go : (b : Bool) → Keeps IsStackBelow w (step_made table (To targets) s stack w) → Keeps IsStackBelow w (step_made table New s stack w)
        → (Keeps IsStackBelow w (step_made table New s stack w) → Keeps IsDone (step_made table New s stack w).1 (assigned table targets ss (step_made table New s stack w).0 (step_made table New s stack w).1))
        → Keeps IsDone w (cond {A = Work → List ℕ × Work} b (λ v. ([], (step_made table (To targets) s stack v).1)) (λ v. assigned table targets ss (step_made table New s stack v).0 (step_made table New s stack v).1) w)
    go true k l rest = record { grows = k.grows; value = tt; inside = k.inside }
    go false k l rest = let m = rest l in record { grows = omega (arith, l.grows, m.grows); value = tt; inside = m.inside }

-- the nets of a terminal that is driven
pub driven_below : (table : List Entry) (steps : List Step) → AreKnown table (steps_names steps) → AreBelow (bit_count table) (driven_bits table steps)
driven_below table [] known = tt
driven_below table (step.Ref r ∷ ss) known = ref_below table r known.0
driven_below table (step.Const size value ∷ ss) known = tt
driven_below table (step.Not ∷ ss) known = tt
driven_below table (step.And ∷ ss) known = tt
driven_below table (step.Or ∷ ss) known = tt
driven_below table (step.Xor ∷ ss) known = tt
driven_below table (step.Xnor ∷ ss) known = tt
driven_below table (step.Cond ∷ ss) known = tt
driven_below table (step.Join count ∷ ss) known = tt
driven_below table (step.Repeat times ∷ ss) known = tt

-- the same gate for each target
pub driven-keeps : (op : Op) (ins targets : List ℕ) (w : Work) → IsInside w → AreBelow w.fresh ins → AreBelow w.fresh targets → Keeps IsDone w (all_driven op ins targets w)
driven-keeps op ins [] w is read below = record { grows = omega arith; value = tt; inside = is }
driven-keeps op ins (t ∷ targets) w is read below =
    let a = drive-keeps op ins t w is read below.0 in
    let b = driven-keeps op ins targets (drive op ins t w).1 a.inside read below.1 in
    record { grows = omega (arith, a.grows, b.grows); value = tt; inside = b.inside }

-- a primitive
pub prim-keeps :
    (table : List Entry) (op : Op) (terms : List (List Step)) (w : Work) → IsInside w → bit_count table ≤ w.fresh → AllByRecursion (λ e. AreKnown table (steps_names e)) terms → Keeps IsDone w (prim_made table op terms w)
prim-keeps table op terms w is base known =
    let ins = ins_of op terms in
    let a = terminals-keeps table ins w is base (all_drop (λ e. AreKnown table (steps_names e)) (out_count op (length terms)) terms known) in
    let v = (terminals_made table ins w).1 in
    let nets = (terminals_made table ins w).0 in
    let targets = flat_map (driven_bits table) (outs_of op terms) in
    let below =
    all_flat (λ n. n < bit_count table) (λ e. AreKnown table (steps_names e)) (driven_bits table) (driven_below table) (outs_of op terms)
    (all_take (λ e. AreKnown table (steps_names e)) (out_count op (length terms)) terms known) in
    let b = driven-keeps op nets targets v a.inside a.value (nets_more (bit_count table) v.fresh targets (omega (arith, base, a.grows)) below) in
    record { grows = omega (arith, a.grows, b.grows); value = tt; inside = b.inside }
