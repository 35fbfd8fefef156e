-- Calls that make gates keep to bits that stand.
use Rattle.std.proofs.Common.{arith, ℕ, suc, ◌<◌, ◌≤◌, List, [], ◌∷◌, ◌++◌}
use Rattle.std.proofs.lemmas.List.Elements.{All-from_recursion, recursion_from_All}
use Rattle.std.specs.Prelude.{Option, Some, None}
use Rattle.std.specs.List.{AllByRecursion}
use Rattle.bb_base.specs.declared.operator.Op.{Op}
use Rattle.bb_base.specs.declared.operator.Op.TheVariants.{And, Or, Not}
use Rattle.bb_base.specs.Net.{Gate as GateOf}
use Rattle.bb_base.proofs.Lists.{all_join}
use Rattle.bb_scope.specs.declared.value.Bit.{Bit}
use Rattle.bb_scope.specs.declared.value.Bit.TheVariants.{Net, Fixed}
use Rattle.bb_drive.specs.Within.{IsGateWithin, IsFlopWithin}
use Rattle.bb_fault.specs.Work.{Work, Clocked, new_net, drive, make, make_onto, constant}
use Rattle.bb_scope.specs.Making.{Outs, New, To, grounded, first_out, other_outs, each_alone, each_pair, each_choice, as_value, inverted, joined_by, choice_between}

-- bits that stand ---------------------------------------------------------

abbrev pub AreBelow : ℕ → List ℕ → Type 0
AreBelow end nets = AllByRecursion (λ n. n < end) nets

abbrev pub IsBitBelow : ℕ → Bit → Type 0
IsBitBelow end (Net n) = n < end
IsBitBelow end (Fixed one) = Unit {0}

-- the nets of a value, and of the values that stand open, stand
abbrev pub AreBitsBelow : ℕ → List Bit → Type 0
AreBitsBelow end bits = AllByRecursion (IsBitBelow end) bits

abbrev pub IsStackBelow : ℕ → List (List Bit) → Type 0
IsStackBelow end stack = AllByRecursion (AreBitsBelow end) stack

-- bits that stand still do once there are more
pub nets_more : (end more : ℕ) (nets : List ℕ) → end ≤ more → AreBelow end nets → AreBelow more nets
nets_more end more [] h all = tt
nets_more end more (n ∷ nets) h all = (omega (arith, h, all.0), nets_more end more nets h all.1)

pub bits_more : (end more : ℕ) (bits : List Bit) → end ≤ more → AreBitsBelow end bits → AreBitsBelow more bits
bits_more end more [] h all = tt
bits_more end more (Net n ∷ bits) h all = (omega (arith, h, all.0), bits_more end more bits h all.1)
bits_more end more (Fixed one ∷ bits) h all = (tt, bits_more end more bits h all.1)

pub stack_more : (end more : ℕ) (stack : List (List Bit)) → end ≤ more → IsStackBelow end stack → IsStackBelow more stack
stack_more end more [] h all = tt
stack_more end more (v ∷ stack) h all = (bits_more end more v h all.0, stack_more end more stack h all.1)

-- work within its bits ------------------------------------------------------

-- work is within its bits
pub record IsInside (w : Work) : Type 0 where
  pub gates : AllByRecursion (IsGateWithin w.fresh) w.gates
  pub flops : AllByRecursion (IsFlopWithin w.fresh) w.flops

-- gates and flip-flops stay within more bits
pub gates_more : (end more : ℕ) (gates : List (GateOf ℕ)) → end ≤ more → AllByRecursion (IsGateWithin end) gates → AllByRecursion (IsGateWithin more) gates
gates_more end more [] h all = tt
gates_more end more (g ∷ gates) h all = (
  record {
    out = omega (arith, h, all.0.out);
    ins = All-from_recursion (λ n. n < more) g.ins (nets_more end more g.ins h (recursion_from_All (λ n. n < end) g.ins all.0.ins));
  },
  gates_more end more gates h all.1,
)

pub flops_more : (end more : ℕ) (flops : List Clocked) → end ≤ more → AllByRecursion (IsFlopWithin end) flops → AllByRecursion (IsFlopWithin more) flops
flops_more end more [] h all = tt
flops_more end more (f ∷ flops) h all = (record { q = omega (arith, h, all.0.q); d = omega (arith, h, all.0.d); clock = omega (arith, h, all.0.clock) }, flops_more end more flops h all.1)

-- what a call that makes gates gave fits what it left, which is within its bits
pub record Keeps {A : Type 0} (P : ℕ → A → Type 0) (w : Work) (r : A × Work) : Type 0 where
  pub grows : w.fresh ≤ r.1.fresh
  pub value : P r.1.fresh r.0
  pub inside : IsInside r.1

-- what a call gave is a net that stands, or doesn't matter
abbrev pub IsBelow : ℕ → ℕ → Type 0
IsBelow end n = n < end

abbrev pub IsDone : {A : Type 0} → ℕ → A → Type 0
IsDone end a = Unit {0}

-- a new net, a gate that drives a net, and one that drives a new net
pub new-keeps : (w : Work) → IsInside w → Keeps IsBelow w (new_net w)
new-keeps w is = record {
  grows = omega arith;
  value = omega arith;
  inside = record { gates = gates_more w.fresh (suc w.fresh) w.gates (omega arith) is.gates; flops = flops_more w.fresh (suc w.fresh) w.flops (omega arith) is.flops };
}

pub drive-keeps : (op : Op) (ins : List ℕ) (out : ℕ) (w : Work) → IsInside w → AreBelow w.fresh ins → out < w.fresh → Keeps IsBelow w (drive op ins out w)
drive-keeps op ins out w is below small = record {
  grows = omega arith;
  value = small;
  inside = record {
    gates = all_join (IsGateWithin w.fresh) w.gates (record { op = op; out = out; ins = ins } ∷ []) is.gates (record { out = small; ins = All-from_recursion (λ n. n < w.fresh) ins below }, tt);
    flops = is.flops;
  };
}

pub make-keeps : (op : Op) (ins : List ℕ) (w : Work) → IsInside w → AreBelow w.fresh ins → Keeps IsBelow w (make op ins w)
make-keeps op ins w is below =
    let a = new-keeps w is in
    let b = drive-keeps op ins (new_net w).0 (new_net w).1 a.inside (nets_more w.fresh (new_net w).1.fresh ins a.grows below) a.value in
    record { grows = omega (arith, a.grows, b.grows); value = b.value; inside = b.inside }

-- the targets of gates stand
abbrev pub IsOutBelow : ℕ → Option ℕ → Type 0
IsOutBelow end None = Unit {0}
IsOutBelow end (Some t) = t < end

abbrev pub AreOutsBelow : ℕ → Outs → Type 0
AreOutsBelow end New = Unit {0}
AreOutsBelow end (To targets) = AreBelow end targets

pub outs_more : (end more : ℕ) (outs : Outs) → end ≤ more → AreOutsBelow end outs → AreOutsBelow more outs
outs_more end more New h all = tt
outs_more end more (To targets) h all = nets_more end more targets h all

-- the first target, and the others
pub first_below : (end : ℕ) (outs : Outs) → AreOutsBelow end outs → IsOutBelow end (first_out outs)
first_below end New all = tt
first_below end (To []) all = tt
first_below end (To (t ∷ targets)) all = all.0

pub others_below : (end : ℕ) (outs : Outs) → AreOutsBelow end outs → AreOutsBelow end (other_outs outs)
others_below end New all = tt
others_below end (To []) all = tt
others_below end (To (t ∷ targets)) all = all.1

-- a gate that drives its target or a new net
pub onto-keeps : (op : Op) (ins : List ℕ) (target : Option ℕ) (w : Work) → IsInside w → AreBelow w.fresh ins → IsOutBelow w.fresh target → Keeps IsBelow w (make_onto op ins target w)
onto-keeps op ins None w is below out = make-keeps op ins w is below
onto-keeps op ins (Some t) w is below out = drive-keeps op ins t w is below out

-- operands and operators -----------------------------------------------------

-- the constants of an operand
pub grounded-keeps : (bits : List Bit) (w : Work) → IsInside w → AreBitsBelow w.fresh bits → Keeps AreBelow w (grounded bits w)
grounded-keeps [] w is below = record { grows = omega arith; value = tt; inside = is }
grounded-keeps (Net n ∷ bits) w is below =
    let a = grounded-keeps bits w is below.1 in
    record { grows = a.grows; value = (omega (arith, below.0, a.grows), a.value); inside = a.inside }
grounded-keeps (Fixed one ∷ bits) w is below =
    let a = make-keeps (constant one) [] w is tt in
    let v = (make (constant one) [] w).1 in
    let b = grounded-keeps bits v a.inside (bits_more w.fresh v.fresh bits a.grows below.1) in
    record { grows = omega (arith, a.grows, b.grows); value = (omega (arith, a.value, b.grows), b.value); inside = b.inside }

-- the gates of an operator, bit by bit
pub alone-keeps : (op : Op) (xs : List ℕ) (outs : Outs) (w : Work) → IsInside w → AreBelow w.fresh xs → AreOutsBelow w.fresh outs → Keeps AreBelow w (each_alone op xs outs w)
alone-keeps op [] outs w is below out = record { grows = omega arith; value = tt; inside = is }
alone-keeps op (x ∷ xs) outs w is below out =
    let a = onto-keeps op (x ∷ []) (first_out outs) w is (below.0, tt) (first_below w.fresh outs out) in
    let v = (make_onto op (x ∷ []) (first_out outs) w).1 in
    let b = alone-keeps op xs (other_outs outs) v a.inside (nets_more w.fresh v.fresh xs a.grows below.1) (outs_more w.fresh v.fresh (other_outs outs) a.grows (others_below w.fresh outs out)) in
    record { grows = omega (arith, a.grows, b.grows); value = (omega (arith, a.value, b.grows), b.value); inside = b.inside }

pub pair-keeps :
    (op : Op) (xs ys : List ℕ) (outs : Outs) (w : Work) → IsInside w → AreBelow w.fresh xs → AreBelow w.fresh ys → AreOutsBelow w.fresh outs → Keeps AreBelow w (each_pair op xs ys outs w)
pair-keeps op [] ys outs w is below also out = record { grows = omega arith; value = tt; inside = is }
pair-keeps op (x ∷ xs) [] outs w is below also out = record { grows = omega arith; value = tt; inside = is }
pair-keeps op (x ∷ xs) (y ∷ ys) outs w is below also out =
    let a = onto-keeps op (x ∷ y ∷ []) (first_out outs) w is (below.0, (also.0, tt)) (first_below w.fresh outs out) in
    let v = (make_onto op (x ∷ y ∷ []) (first_out outs) w).1 in
    let b =
    pair-keeps op xs ys (other_outs outs) v a.inside (nets_more w.fresh v.fresh xs a.grows below.1) (nets_more w.fresh v.fresh ys a.grows also.1)
    (outs_more w.fresh v.fresh (other_outs outs) a.grows (others_below w.fresh outs out)) in
    record { grows = omega (arith, a.grows, b.grows); value = (omega (arith, a.value, b.grows), b.value); inside = b.inside }

pub each-keeps :
    (c : List ℕ) (n : ℕ) (xs ys : List ℕ) (outs : Outs) (w : Work) → IsInside w → AreBelow w.fresh c → n < w.fresh → AreBelow w.fresh xs → AreBelow w.fresh ys → AreOutsBelow w.fresh outs
    → Keeps AreBelow w (each_choice c n xs ys outs w)
each-keeps c n [] ys outs w is when small below also out = record { grows = omega arith; value = tt; inside = is }
each-keeps c n (x ∷ xs) [] outs w is when small below also out = record { grows = omega arith; value = tt; inside = is }
each-keeps c n (x ∷ xs) (y ∷ ys) outs w is when small below also out =
    let a = make-keeps And (c ++ x ∷ []) w is (all_join (λ m. m < w.fresh) c (x ∷ []) when (below.0, tt)) in
    let u = (make And (c ++ x ∷ []) w).1 in
    let first = (make And (c ++ x ∷ []) w).0 in
    let b = make-keeps And (n ∷ y ∷ []) u a.inside (omega (arith, small, a.grows), (omega (arith, also.0, a.grows), tt)) in
    let v = (make And (n ∷ y ∷ []) u).1 in
    let second = (make And (n ∷ y ∷ []) u).0 in
    let up : w.fresh ≤ v.fresh = omega (arith, a.grows, b.grows) in
    let d =
    onto-keeps Or (first ∷ second ∷ []) (first_out outs) v b.inside (omega (arith, a.value, b.grows), (b.value, tt))
    (first_below v.fresh outs (outs_more w.fresh v.fresh outs up out)) in
    let z = (make_onto Or (first ∷ second ∷ []) (first_out outs) v).1 in
    let over : w.fresh ≤ z.fresh = omega (arith, up, d.grows) in
    let e =
    each-keeps c n xs ys (other_outs outs) z d.inside (nets_more w.fresh z.fresh c over when) (omega (arith, small, over)) (nets_more w.fresh z.fresh xs over below.1) (nets_more w.fresh z.fresh ys over also.1)
    (outs_more w.fresh z.fresh (other_outs outs) over (others_below w.fresh outs out)) in
    record { grows = omega (arith, over, e.grows); value = (omega (arith, d.value, e.grows), e.value); inside = e.inside }

-- nets as a value
pub value_below : (end : ℕ) (nets : List ℕ) → AreBelow end nets → AreBitsBelow end (as_value nets)
value_below end [] all = tt
value_below end (n ∷ nets) all = (all.0, value_below end nets all.1)

-- the operators
pub inverted-keeps : (outs : Outs) (a : List Bit) (w : Work) → IsInside w → AreBitsBelow w.fresh a → AreOutsBelow w.fresh outs → Keeps AreBitsBelow w (inverted outs a w)
inverted-keeps outs a w is below out =
    let g = grounded-keeps a w is below in
    let v = (grounded a w).1 in
    let xs = (grounded a w).0 in
    let h = alone-keeps Not xs outs v g.inside g.value (outs_more w.fresh v.fresh outs g.grows out) in
    record { grows = omega (arith, g.grows, h.grows); value = value_below (each_alone Not xs outs v).1.fresh (each_alone Not xs outs v).0 h.value; inside = h.inside }

pub by-keeps :
    (op : Op) (outs : Outs) (a b : List Bit) (w : Work) → IsInside w → AreBitsBelow w.fresh a → AreBitsBelow w.fresh b → AreOutsBelow w.fresh outs → Keeps AreBitsBelow w (joined_by op outs a b w)
by-keeps op outs a b w is below also out =
    let g = grounded-keeps a w is below in
    let u = (grounded a w).1 in
    let xs = (grounded a w).0 in
    let h = grounded-keeps b u g.inside (bits_more w.fresh u.fresh b g.grows also) in
    let v = (grounded b u).1 in
    let ys = (grounded b u).0 in
    let up : w.fresh ≤ v.fresh = omega (arith, g.grows, h.grows) in
    let i = pair-keeps op xs ys outs v h.inside (nets_more u.fresh v.fresh xs h.grows g.value) h.value (outs_more w.fresh v.fresh outs up out) in
    record { grows = omega (arith, up, i.grows); value = value_below (each_pair op xs ys outs v).1.fresh (each_pair op xs ys outs v).0 i.value; inside = i.inside }

pub chosen-keeps :
    (outs : Outs) (c a b : List Bit) (w : Work) → IsInside w → AreBitsBelow w.fresh c → AreBitsBelow w.fresh a → AreBitsBelow w.fresh b → AreOutsBelow w.fresh outs → Keeps AreBitsBelow w (choice_between outs c a b w)
chosen-keeps outs c a b w is when below also out =
    let f = grounded-keeps c w is when in
    let t = (grounded c w).1 in
    let zs = (grounded c w).0 in
    let g = grounded-keeps a t f.inside (bits_more w.fresh t.fresh a f.grows below) in
    let u = (grounded a t).1 in
    let xs = (grounded a t).0 in
    let to_u : w.fresh ≤ u.fresh = omega (arith, f.grows, g.grows) in
    let h = grounded-keeps b u g.inside (bits_more w.fresh u.fresh b to_u also) in
    let v = (grounded b u).1 in
    let ys = (grounded b u).0 in
    let t_to_v : t.fresh ≤ v.fresh = omega (arith, g.grows, h.grows) in
    let i = make-keeps Not zs v h.inside (nets_more t.fresh v.fresh zs t_to_v f.value) in
    let y = (make Not zs v).1 in
    let n = (make Not zs v).0 in
    let t_to_y : t.fresh ≤ y.fresh = omega (arith, t_to_v, i.grows) in
    let u_to_y : u.fresh ≤ y.fresh = omega (arith, h.grows, i.grows) in
    let to_y : w.fresh ≤ y.fresh = omega (arith, to_u, u_to_y) in
    let j =
    each-keeps zs n xs ys outs y i.inside (nets_more t.fresh y.fresh zs t_to_y f.value) i.value (nets_more u.fresh y.fresh xs u_to_y g.value) (nets_more v.fresh y.fresh ys i.grows h.value)
    (outs_more w.fresh y.fresh outs to_y out) in
    record { grows = omega (arith, to_y, j.grows); value = value_below (each_choice zs n xs ys outs y).1.fresh (each_choice zs n xs ys outs y).0 j.value; inside = j.inside }
