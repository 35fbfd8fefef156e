-- The bits of what the steps of an expression make are those of its value.
use Rattle.std.proofs.Common.{◌≡◌, ℕ, suc, zero, ◌/◌, ◌%◌, ◌^◌, Bool, true, false, not, ◌&&◌, ◌||◌, ◌==◌, List, [], ◌∷◌, ◌++◌, map, take, drop, reverse, refl, ap, sym, ◌∙◌, rules}
use Rattle.std.proofs.lemmas.List.{map-append, take-map}
use Rattle.std.proofs.lemmas.Grind.{reverse_onto}
use Rattle.std.specs.Prelude.{Option, Some, None, flat_map}
use Rattle.bb_base.specs.Booleans.{xor}
use Rattle.bb_base.specs.declared.operator.Op.{Op}
use Rattle.bb_base.specs.declared.operator.Op.TheVariants as op
use Rattle.bb_base.specs.Variables.{Entry}
use Rattle.bb_base.proofs.Lists.{all_front, all_back}
use Rattle.bb_base.proofs.BooleanLemmas.{and_true, or_false}
use Rattle.bb_parse.specs.declared.syntax.Ref.{Ref}
use Rattle.bb_parse.specs.declared.syntax.Step.{Step}
use Rattle.bb_parse.specs.declared.syntax.Step.TheVariants as step
use Rattle.bb_scope.specs.declared.references.Span.{Span}
use Rattle.bb_fault.proofs.Parted.{both-first, both-second, none-first, none-second}
use Rattle.bb_scope.specs.declared.value.Bit.{Bit}
use Rattle.bb_scope.specs.Names.{step_names, steps_names}
use Rattle.bb_scope.specs.References.{ref_span, ref_fault, span_fault, ref_bits}
use Rattle.bb_scope.specs.Sizes.{width, step_fault, step_stack, steps_fault, differs, expr_fault, last_size, steps_stack}
use Rattle.bb_fault.specs.Work.{Work, Clocked}
use Rattle.bb_scope.specs.Making.{Outs, New, const_bits, copies as copies_made, side_by_side, last_value, joined_by, choice_between, step_made, steps_made, terminal_made}
use Rattle.bb_meaning.proofs.WithinSteps.{AreKnown, IsKnown}
use Rattle.bb_scope.specs.ValueSizes.{value_size, value_sizes}
use Rattle.bb_meaning.specs.Values.{bitwise, xnor, number_bits, copied_bits}
use Rattle.bb_scope.proofs.Operators.{width_is}
use Rattle.bb_scope.proofs.Expressions.{counted}
use Rattle.bb_meaning.proofs.MadeBits.{AllMeet, read_bits, bit_read, nets-read, of_two, grounded-bits, inverted-bits, joined-bits, chosen-bits}
use Rattle.bb_meaning.proofs.StepValues.{step_value, steps_value}

-- references are read as the nets of their bits have it
abbrev pub AreRead : List Entry → (ℕ → Bool) → (Ref → List Bool) → Type 0
AreRead table v read = (r : Ref) (s : Span) → IsKnown table r.name → ref_span table r ≡ Some s → map v (ref_bits table r) ≡ read r

abbrev pub read_all : (ℕ → Bool) → List (List Bit) → List (List Bool)
read_all v stack = map (read_bits v) stack

-- a reference without a fault, and a constant

pub ref-bits : (table : List Entry) (v : ℕ → Bool) (read : Ref → List Bool) → AreRead table v read → (line : ℕ) (r : Ref) → IsKnown table r.name → ref_fault table line r ≡ None → map v (ref_bits table r) ≡ read r
ref-bits table v read reads line r known h = go (ref_span table r) refl h
  where
    go : (s : Option Span) → ref_span table r ≡ s → span_fault line s ≡ None → map v (ref_bits table r) ≡ read r
    go None e k = absurd (cc k)
    go (Some s) e k = reads r s known e

const-bits : (v : ℕ → Bool) (n number : ℕ) → read_bits v (const_bits n number) ≡ number_bits n number
const-bits v zero number = refl
const-bits v (suc n) number = ap (λ z. ((number / 2 ^ n) % 2 == 1) ∷ z) (const-bits v n number)

-- values side by side, and copies

flat-bits : (v : ℕ → Bool) (vs : List (List Bit)) → read_bits v (side_by_side vs) ≡ flat_map (λ a. a) (read_all v vs)
flat-bits v [] = refl
flat-bits v (a ∷ vs) = map-append (bit_read v) a (side_by_side vs) ∙ ap (λ z. read_bits v a ++ z) (flat-bits v vs)

map-reverse : {X Y : Type 0} (f : X → Y) (xs : List X) → map f (reverse xs) ≡ reverse (map f xs)
map-reverse f [] = refl
map-reverse f (x ∷ xs) =
    ap (map f) (reverse_onto xs x []) ∙ (map-append f (reverse xs) (x ∷ []) ∙ (ap (λ z. z ++ f x ∷ []) (map-reverse f xs) ∙ sym (reverse_onto (map f xs) (f x) [])))

pub drop-map : {X Y : Type 0} (f : X → Y) (n : ℕ) (xs : List X) → drop n (map f xs) ≡ map f (drop n xs)
drop-map f zero xs = refl
drop-map f (suc n) [] = refl
drop-map f (suc n) (x ∷ xs) = drop-map f n xs

join-bits : (v : ℕ → Bool) (n : ℕ) (stack : List (List Bit)) →
    read_all v (side_by_side (reverse (take n stack)) ∷ drop n stack) ≡ flat_map (λ a. a) (reverse (take n (read_all v stack))) ∷ drop n (read_all v stack)
join-bits v n stack =
    λ i. (flat-bits v (reverse (take n stack)) ∙ ap (flat_map (λ a. a)) (map-reverse (read_bits v) (take n stack) ∙ ap reverse (sym (take-map (read_bits v) n stack)))) i ∷ sym (drop-map (read_bits v) n stack) i

copies-bits : (v : ℕ → Bool) (n : ℕ) (a : List Bit) → read_bits v (copies_made n a) ≡ copied_bits n (read_bits v a)
copies-bits v zero a = refl
copies-bits v (suc n) a = map-append (bit_read v) a (copies_made n a) ∙ ap (λ z. read_bits v a ++ z) (copies-bits v n a)

-- operators of two bits that agree give the same bit by bit

same-bits : (f g : Bool → Bool → Bool) → ((a b : Bool) → f a b ≡ g a b) → (xs ys : List Bool) → bitwise f xs ys ≡ bitwise g xs ys
same-bits f g h [] ys = refl
same-bits f g h (a ∷ xs) [] = refl
same-bits f g h (a ∷ xs) (b ∷ ys) = λ i. h a b i ∷ same-bits f g h xs ys i

and-two : (a b : Bool) → of_two op.And a b ≡ (a && b)
and-two a b = ap (λ z. a && z) (and_true b)

or-two : (a b : Bool) → of_two op.Or a b ≡ (a || b)
or-two a b = ap (λ z. a || z) (or_false b)

xor-two : (a b : Bool) → of_two op.Xor a b ≡ xor a b
xor-two true true = refl
xor-two true false = refl
xor-two false true = refl
xor-two false false = refl

xnor-two : (a b : Bool) → of_two op.Xnor a b ≡ xnor a b
xnor-two a b = ap not (xor-two a b)

-- a step --------------------------------------------------------------------

-- the gates before it meet their equations, and what it leaves has the bits of its value
abbrev StepHolds : (ℕ → Bool) → (Clocked → Type 0) → Work → List (List Bit) → List (List Bool) → Type 0
StepHolds v F w made values = AllMeet v F w × (read_all v made ≡ values)

two-holds :
    (v : ℕ → Bool) (F : Clocked → Type 0) (o : Op) (f : Bool → Bool → Bool) (outs : Outs) (b a : List Bit) (rest : List (List Bit)) (w : Work) → ((x y : Bool) → of_two o x y ≡ f x y) → AllMeet v F (joined_by o outs a b w).1
    → StepHolds v F w ((joined_by o outs a b w).0 ∷ rest) (bitwise f (read_bits v a) (read_bits v b) ∷ read_all v rest)
two-holds v F o f outs b a rest w same h =
    let k = joined-bits v F o outs a b w h in
    (k.0, λ i. (k.1 ∙ same-bits (of_two o) f same (read_bits v a) (read_bits v b)) i ∷ read_all v rest)

agrees : (line : ℕ) (b : Bool) → differs line b ≡ None → b ≡ true
agrees line true h = refl
agrees line false h = cc

same_numbers : (a b : ℕ) → (a == b) ≡ true → a ≡ b
same_numbers a b h = search (rules, h)

choice-holds :
    (v : ℕ → Bool) (F : Clocked → Type 0) (line : ℕ) (outs : Outs) (b a c : List Bit) (rest : List (List Bit)) (w : Work)
    → differs line ((width (value_size c) == 1) && (width (value_size a) == width (value_size b))) ≡ None → AllMeet v F (choice_between outs c a b w).1
    → StepHolds v F w ((choice_between outs c a b w).0 ∷ rest) (step_value (λ r. []) step.Cond (read_bits v b ∷ read_bits v a ∷ read_bits v c ∷ read_all v rest))
choice-holds v F line outs b a c rest w fine h =
    let both = agrees line ((width (value_size c) == 1) && (width (value_size a) == width (value_size b))) fine in
    let one = same_numbers (width (value_size c)) 1 (both-first (width (value_size c) == 1) (width (value_size a) == width (value_size b)) both) in
    let even = same_numbers (width (value_size a)) (width (value_size b)) (both-second (width (value_size c) == 1) (width (value_size a) == width (value_size b)) both) in
    let k = chosen-bits v F outs c a b w (sym (width_is c) ∙ one) (sym (width_is a) ∙ (even ∙ width_is b)) h in
    (k.0, ap (λ z. z ∷ read_all v rest) k.1)

pub step-bits :
    (table : List Entry) (v : ℕ → Bool) (F : Clocked → Type 0) (read : Ref → List Bool) → AreRead table v read → (line : ℕ) (outs : Outs) (s : Step) (stack : List (List Bit)) (w : Work)
    → AreKnown table (step_names s) → step_fault table line s (value_sizes stack) ≡ None → AllMeet v F (step_made table outs s stack w).1
    → StepHolds v F w (step_made table outs s stack w).0 (step_value read s (read_all v stack))
step-bits table v F read reads line outs (step.Ref r) stack w known fine h = (h, ap (λ z. z ∷ read_all v stack) (nets-read v (ref_bits table r) ∙ ref-bits table v read reads line r known.0 fine))
step-bits table v F read reads line outs (step.Const n number) stack w known fine h = (h, ap (λ z. z ∷ read_all v stack) (const-bits v n number))
step-bits table v F read reads line outs step.Not [] w known fine h = (h, refl)
step-bits table v F read reads line outs step.Not (a ∷ rest) w known fine h = let k = inverted-bits v F outs a w h in (k.0, ap (λ z. z ∷ read_all v rest) k.1)
step-bits table v F read reads line outs step.And [] w known fine h = (h, refl)
step-bits table v F read reads line outs step.And (b ∷ []) w known fine h = (h, refl)
step-bits table v F read reads line outs step.And (b ∷ a ∷ rest) w known fine h = two-holds v F op.And (λ x y. x && y) outs b a rest w and-two h
step-bits table v F read reads line outs step.Or [] w known fine h = (h, refl)
step-bits table v F read reads line outs step.Or (b ∷ []) w known fine h = (h, refl)
step-bits table v F read reads line outs step.Or (b ∷ a ∷ rest) w known fine h = two-holds v F op.Or (λ x y. x || y) outs b a rest w or-two h
step-bits table v F read reads line outs step.Xor [] w known fine h = (h, refl)
step-bits table v F read reads line outs step.Xor (b ∷ []) w known fine h = (h, refl)
step-bits table v F read reads line outs step.Xor (b ∷ a ∷ rest) w known fine h = two-holds v F op.Xor xor outs b a rest w xor-two h
step-bits table v F read reads line outs step.Xnor [] w known fine h = (h, refl)
step-bits table v F read reads line outs step.Xnor (b ∷ []) w known fine h = (h, refl)
step-bits table v F read reads line outs step.Xnor (b ∷ a ∷ rest) w known fine h = two-holds v F op.Xnor xnor outs b a rest w xnor-two h
step-bits table v F read reads line outs step.Cond [] w known fine h = (h, refl)
step-bits table v F read reads line outs step.Cond (b ∷ []) w known fine h = (h, refl)
step-bits table v F read reads line outs step.Cond (b ∷ a ∷ []) w known fine h = (h, refl)
step-bits table v F read reads line outs step.Cond (b ∷ a ∷ c ∷ rest) w known fine h = choice-holds v F line outs b a c rest w fine h
step-bits table v F read reads line outs (step.Join n) stack w known fine h = (h, join-bits v n stack)
step-bits table v F read reads line outs (step.Repeat n) [] w known fine h = (h, refl)
step-bits table v F read reads line outs (step.Repeat n) (a ∷ rest) w known fine h = (h, ap (λ z. z ∷ read_all v rest) (copies-bits v n a))

-- steps one after the other
pub steps-bits :
    (table : List Entry) (v : ℕ → Bool) (F : Clocked → Type 0) (read : Ref → List Bool) → AreRead table v read → (line : ℕ) (ss : List Step) (stack : List (List Bit)) (w : Work)
    → AreKnown table (steps_names ss) → steps_fault table line ss (value_sizes stack) ≡ None → AllMeet v F (steps_made table ss stack w).1
    → StepHolds v F w (steps_made table ss stack w).0 (steps_value read ss (read_all v stack))
steps-bits table v F read reads line [] stack w known fine h = (h, refl)
steps-bits table v F read reads line (s ∷ ss) stack w known fine h =
    let made = step_made table New s stack w in
    let first = none-first (step_fault table line s (value_sizes stack)) (steps_fault table line ss (step_stack table s (value_sizes stack))) fine in
    let others = none-second (step_fault table line s (value_sizes stack)) (steps_fault table line ss (step_stack table s (value_sizes stack))) fine in
    let more = steps-bits table v F read reads line ss made.0 made.1 (all_back (IsKnown table) (step_names s) (steps_names ss) known) (ap (steps_fault table line ss) (counted table s stack w).sizes ∙ others) h in
    let here = step-bits table v F read reads line New s stack w (all_front (IsKnown table) (step_names s) (steps_names ss) known) first more.0 in
    (here.0, more.1 ∙ ap (steps_value read ss) here.1)

-- the value that stands last
abbrev pub last_bits : List (List Bool) → List Bool
last_bits [] = []
last_bits (a ∷ rest) = a

pub last-read : (v : ℕ → Bool) (stack : List (List Bit)) → read_bits v (last_value stack) ≡ last_bits (read_all v stack)
last-read v [] = refl
last-read v (a ∷ rest) = refl

-- the nets of a terminal have the bits of its expression's value
pub terminal-bits :
    (table : List Entry) (v : ℕ → Bool) (F : Clocked → Type 0) (read : Ref → List Bool) → AreRead table v read → (line wanted : ℕ) (steps : List Step) (w : Work)
    → AreKnown table (steps_names steps) → expr_fault table line wanted steps ≡ None → AllMeet v F (terminal_made table steps w).1
    → AllMeet v F w × (map v (terminal_made table steps w).0 ≡ last_bits (steps_value read steps []))
terminal-bits table v F read reads line wanted steps w known fine h =
    let made = steps_made table steps [] w in
    let first = none-first (steps_fault table line steps []) (differs line (width (last_size (steps_stack table steps [])) == wanted)) fine in
    let ground = grounded-bits v F (last_value made.0) made.1 h in
    let all = steps-bits table v F read reads line steps [] w known first ground.0 in
    (all.0, ground.1 ∙ (last-read v made.0 ∙ ap last_bits all.1))
