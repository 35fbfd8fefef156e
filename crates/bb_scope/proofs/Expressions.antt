-- How many nets expressions make: as many as are counted.
use Rattle.std.proofs.Common.{arith, ◌≡◌, ℕ, suc, zero, ◌+◌, ◌*◌, List, [], ◌∷◌, ◌++◌, length, take, drop, reverse, refl, ap, ◌∙◌, false}
use Rattle.std.proofs.lemmas.Grind.{reverse_onto}
use Rattle.std.proofs.lemmas.List.FromFn.{length-range_with_len}
use Rattle.std.specs.Prelude.{Option, Some, None}
use Rattle.bb_base.specs.declared.operator.Op.{Op}
use Rattle.bb_base.specs.declared.operator.Op.TheVariants as op
use Rattle.bb_base.specs.Variables.{Entry}
use Rattle.bb_parse.specs.declared.syntax.Ref.{Ref}
use Rattle.bb_parse.specs.declared.syntax.Step.{Step}
use Rattle.bb_parse.specs.declared.syntax.Step.TheVariants as step
use Rattle.bb_scope.specs.declared.references.Span.{Span}
use Rattle.bb_scope.specs.declared.value.Bit.{Bit}
use Rattle.bb_scope.specs.declared.value.Bit.TheVariants.{Net, Fixed}
use Rattle.bb_scope.specs.References.{ref_span, width_of, span_bits, ref_bits, first_number}
use Rattle.bb_scope.specs.Sizes.{of_nets, total, step_stack, step_nets, steps_stack, steps_nets, last_size, terminal_nets}
use Rattle.bb_fault.specs.Work.{Work}
use Rattle.bb_scope.specs.Making.{New, const_bits, side_by_side, copies, last_value, joined_by, step_made, steps_made, terminal_made}
use Rattle.bb_scope.specs.ValueSizes.{value_size, value_sizes}
use Rattle.bb_scope.proofs.Operators.{grounded-fresh, value-size, lesser, inverted-size, joined-size, chosen-size, inverted-fresh, joined-fresh, chosen-fresh}

-- values

bits-length : (first : ℕ) (s : Option Span) → length (span_bits first s) ≡ width_of s
bits-length first None = refl
bits-length first (Some s) = length-range_with_len (first + s.first) s.width

pub ref-length : (table : List Entry) (r : Ref) → length (ref_bits table r) ≡ width_of (ref_span table r)
ref-length table r = bits-length (first_number table r.name) (ref_span table r)

const-size : (n value : ℕ) → value_size (const_bits n value) ≡ record { nets = 0; constants = n }
const-size zero value = refl
const-size (suc n) value = ap (λ s. record { nets = s.nets; constants = suc s.constants }) (const-size n value)

append-nets : (a b : List Bit) → (value_size (a ++ b)).nets ≡ (value_size a).nets + (value_size b).nets
append-nets [] b = omega arith
append-nets (Net n ∷ a) b = let h = append-nets a b in omega (arith, h)
append-nets (Fixed one ∷ a) b = append-nets a b

append-constants : (a b : List Bit) → (value_size (a ++ b)).constants ≡ (value_size a).constants + (value_size b).constants
append-constants [] b = omega arith
append-constants (Net n ∷ a) b = append-constants a b
append-constants (Fixed one ∷ a) b = let h = append-constants a b in omega (arith, h)

joined-nets : (xs ys : List (List Bit)) → (value_size (side_by_side (xs ++ ys))).nets ≡ (value_size (side_by_side xs)).nets + (value_size (side_by_side ys)).nets
joined-nets [] ys = omega arith
joined-nets (x ∷ xs) ys = let h = joined-nets xs ys in omega (arith, h, append-nets x (side_by_side (xs ++ ys)), append-nets x (side_by_side xs))

joined-constants : (xs ys : List (List Bit)) → (value_size (side_by_side (xs ++ ys))).constants ≡ (value_size (side_by_side xs)).constants + (value_size (side_by_side ys)).constants
joined-constants [] ys = omega arith
joined-constants (x ∷ xs) ys = let h = joined-constants xs ys in omega (arith, h, append-constants x (side_by_side (xs ++ ys)), append-constants x (side_by_side xs))

reversed-nets : (vs : List (List Bit)) → (value_size (side_by_side (reverse vs))).nets ≡ (total (value_sizes vs)).nets
reversed-nets [] = refl
reversed-nets (v ∷ vs) =
    ap (λ z. (value_size (side_by_side z)).nets) (reverse_onto vs v []) ∙ omega (arith, reversed-nets vs, append-nets v [], joined-nets (reverse vs) (v ∷ []))

reversed-constants : (vs : List (List Bit)) → (value_size (side_by_side (reverse vs))).constants ≡ (total (value_sizes vs)).constants
reversed-constants [] = refl
reversed-constants (v ∷ vs) =
    ap (λ z. (value_size (side_by_side z)).constants) (reverse_onto vs v []) ∙ omega (arith, reversed-constants vs, append-constants v [], joined-constants (reverse vs) (v ∷ []))

sizes-take : (n : ℕ) (vs : List (List Bit)) → value_sizes (take n vs) ≡ take n (value_sizes vs)
sizes-take zero vs = refl
sizes-take (suc n) [] = refl
sizes-take (suc n) (v ∷ vs) = ap (λ z. value_size v ∷ z) (sizes-take n vs)

sizes-drop : (n : ℕ) (vs : List (List Bit)) → value_sizes (drop n vs) ≡ drop n (value_sizes vs)
sizes-drop zero vs = refl
sizes-drop (suc n) [] = refl
sizes-drop (suc n) (v ∷ vs) = sizes-drop n vs

join-size : (n : ℕ) (vs : List (List Bit)) → value_size (side_by_side (reverse (take n vs))) ≡ total (take n (value_sizes vs))
join-size n vs =
    (λ i. record { nets = reversed-nets (take n vs) i; constants = reversed-constants (take n vs) i }) ∙ ap total (sizes-take n vs)

more_times : (n k : ℕ) → k + n * k ≡ suc n * k
more_times n k = grind arith

copies-nets : (n : ℕ) (a : List Bit) → (value_size (copies n a)).nets ≡ n * (value_size a).nets
copies-nets zero a = grind arith
copies-nets (suc n) a = append-nets a (copies n a) ∙ (ap (λ z. (value_size a).nets + z) (copies-nets n a) ∙ more_times n (value_size a).nets)

copies-constants : (n : ℕ) (a : List Bit) → (value_size (copies n a)).constants ≡ n * (value_size a).constants
copies-constants zero a = grind arith
copies-constants (suc n) a = append-constants a (copies n a) ∙ (ap (λ z. (value_size a).constants + z) (copies-constants n a) ∙ more_times n (value_size a).constants)

-- steps

-- what a step leaves, and how many nets it makes
pub record Counted (table : List Entry) (s : Step) (stack : List (List Bit)) (w : Work) : Type 0 where
  pub sizes : value_sizes (step_made table New s stack w).0 ≡ step_stack table s (value_sizes stack)
  pub fresh : (step_made table New s stack w).1.fresh ≡ w.fresh + step_nets false s (value_sizes stack)

two-counted :
    (o : Op) (a b : List Bit) (rest : List (List Bit)) (w : Work)
    → (value_size (joined_by o New a b w).0 ∷ value_sizes rest ≡ of_nets (lesser a b) ∷ value_sizes rest) × ((joined_by o New a b w).1.fresh ≡ w.fresh + ((value_size a).constants + (value_size b).constants + lesser a b))
two-counted o a b rest w = (ap (λ s. s ∷ value_sizes rest) (joined-size o New a b w), joined-fresh o a b w)

pub counted : (table : List Entry) (s : Step) (stack : List (List Bit)) (w : Work) → Counted table s stack w
counted table (step.Ref r) stack w =
    record {
      sizes = ap (λ s. s ∷ value_sizes stack) (value-size (ref_bits table r) ∙ ap of_nets (ref-length table r));
      fresh = omega arith;
    }
counted table (step.Const n value) stack w = record { sizes = ap (λ s. s ∷ value_sizes stack) (const-size n value); fresh = omega arith }
counted table step.Not [] w = record { sizes = refl; fresh = omega arith }
counted table step.Not (a ∷ rest) w = record { sizes = ap (λ s. s ∷ value_sizes rest) (inverted-size New a w); fresh = inverted-fresh a w }
counted table step.And [] w = record { sizes = refl; fresh = omega arith }
counted table step.And (b ∷ []) w = record { sizes = refl; fresh = omega arith }
counted table step.And (b ∷ a ∷ rest) w = let h = two-counted op.And a b rest w in record { sizes = h.0; fresh = h.1 }
counted table step.Or [] w = record { sizes = refl; fresh = omega arith }
counted table step.Or (b ∷ []) w = record { sizes = refl; fresh = omega arith }
counted table step.Or (b ∷ a ∷ rest) w = let h = two-counted op.Or a b rest w in record { sizes = h.0; fresh = h.1 }
counted table step.Xor [] w = record { sizes = refl; fresh = omega arith }
counted table step.Xor (b ∷ []) w = record { sizes = refl; fresh = omega arith }
counted table step.Xor (b ∷ a ∷ rest) w = let h = two-counted op.Xor a b rest w in record { sizes = h.0; fresh = h.1 }
counted table step.Xnor [] w = record { sizes = refl; fresh = omega arith }
counted table step.Xnor (b ∷ []) w = record { sizes = refl; fresh = omega arith }
counted table step.Xnor (b ∷ a ∷ rest) w = let h = two-counted op.Xnor a b rest w in record { sizes = h.0; fresh = h.1 }
counted table step.Cond [] w = record { sizes = refl; fresh = omega arith }
counted table step.Cond (b ∷ []) w = record { sizes = refl; fresh = omega arith }
counted table step.Cond (b ∷ a ∷ []) w = record { sizes = refl; fresh = omega arith }
counted table step.Cond (b ∷ a ∷ c ∷ rest) w = record { sizes = ap (λ s. s ∷ value_sizes rest) (chosen-size New c a b w); fresh = chosen-fresh c a b w }
counted table (step.Join n) stack w = record { sizes = λ i. join-size n stack i ∷ sizes-drop n stack i; fresh = omega arith }
counted table (step.Repeat n) [] w = record { sizes = refl; fresh = omega arith }
counted table (step.Repeat n) (a ∷ rest) w = record { sizes = λ i. record { nets = copies-nets n a i; constants = copies-constants n a i } ∷ value_sizes rest; fresh = omega arith }

-- the same of steps one after the other
pub record AllCounted (table : List Entry) (ss : List Step) (stack : List (List Bit)) (w : Work) : Type 0 where
  pub sizes : value_sizes (steps_made table ss stack w).0 ≡ steps_stack table ss (value_sizes stack)
  pub fresh : (steps_made table ss stack w).1.fresh ≡ w.fresh + steps_nets table false ss (value_sizes stack)

pub all-counted : (table : List Entry) (ss : List Step) (stack : List (List Bit)) (w : Work) → AllCounted table ss stack w
all-counted table [] stack w = record { sizes = refl; fresh = omega arith }
all-counted table (s ∷ ss) stack w =
    let here = counted table s stack w in
    let next = (step_made table New s stack w).0 in
    let after = (step_made table New s stack w).1 in
    let more = all-counted table ss next after in
    let rest : steps_nets table false ss (value_sizes next) ≡ steps_nets table false ss (step_stack table s (value_sizes stack)) = ap (λ z. steps_nets table false ss z) here.sizes in
    record {
      sizes = more.sizes ∙ ap (λ z. steps_stack table ss z) here.sizes;
      fresh = omega (arith, more.fresh, here.fresh, rest);
    }

last-constants : (stack : List (List Bit)) → (value_size (last_value stack)).constants ≡ (last_size (value_sizes stack)).constants
last-constants [] = refl
last-constants (a ∷ rest) = refl

-- the net of a terminal, with those before it
pub terminal-fresh : (table : List Entry) (steps : List Step) (w : Work) → (terminal_made table steps w).1.fresh ≡ w.fresh + terminal_nets table steps
terminal-fresh table steps w =
    let all = all-counted table steps [] w in
    let made = steps_made table steps [] w in
    let last : (last_size (value_sizes made.0)).constants ≡ (last_size (steps_stack table steps [])).constants = ap (λ z. (last_size z).constants) all.sizes in
    omega (arith, grounded-fresh (last_value made.0) made.1, all.fresh, last-constants made.0, last)
