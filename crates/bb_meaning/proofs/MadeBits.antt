-- The bits of the nets that operators make, wherever the gates that are made meet their equations.
use Rattle.std.proofs.Common.{◌≡◌, ℕ, suc, Bool, true, false, not, ◌&&◌, ◌||◌, cond, List, [], ◌∷◌, map, length, refl, ap, sym, ◌∙◌}
use Rattle.std.specs.Prelude.{Option, Some, None}
use Rattle.std.specs.List.{AllByRecursion}
use Rattle.bb_base.specs.Operators.{op_gives, first_bit}
use Rattle.bb_base.specs.declared.operator.Op.{Op}
use Rattle.bb_base.specs.declared.operator.Op.TheVariants.{And, Or, Not}
use Rattle.bb_base.proofs.Lists.{all_front, all_back, map_twice, length_map}
use Rattle.bb_base.specs.Run.{Meets}
use Rattle.bb_scope.specs.declared.value.Bit.{Bit}
use Rattle.bb_scope.specs.declared.value.Bit.TheVariants.{Net, Fixed}
use Rattle.bb_fault.specs.Work.{Work, Clocked, make, make_onto, drive, constant}
use Rattle.bb_scope.specs.Making.{Outs, grounded, each_alone, each_pair, each_choice, first_out, other_outs, as_value, inverted, joined_by, choice_between}
use Rattle.bb_meaning.specs.Values.{bitwise}

-- each gate that has been made meets its equation, and F holds of each flip-flop
abbrev pub AllMeet : (ℕ → Bool) → (Clocked → Type 0) → Work → Type 0
AllMeet v F w = AllByRecursion (Meets v) w.gates × AllByRecursion F w.flops

-- the bit of a bit of a value
abbrev pub bit_read : (ℕ → Bool) → Bit → Bool
bit_read v (Net n) = v n
bit_read v (Fixed one) = one

-- the bits of a value
abbrev pub read_bits : (ℕ → Bool) → List Bit → List Bool
read_bits v bits = map (bit_read v) bits

-- gates

pub drive-bits : (v : ℕ → Bool) (F : Clocked → Type 0) (op : Op) (ins : List ℕ) (out : ℕ) (w : Work) → AllMeet v F (drive op ins out w).1 → AllMeet v F w × (v out ≡ op_gives op (map v ins))
drive-bits v F op ins out w h =
    ((all_front (Meets v) w.gates (record { op = op; out = out; ins = ins } ∷ []) h.0, h.1), (all_back (Meets v) w.gates (record { op = op; out = out; ins = ins } ∷ []) h.0).0)

pub make-bits : (v : ℕ → Bool) (F : Clocked → Type 0) (op : Op) (ins : List ℕ) (w : Work) → AllMeet v F (make op ins w).1 → AllMeet v F w × (v (make op ins w).0 ≡ op_gives op (map v ins))
make-bits v F op ins w h = drive-bits v F op ins w.fresh (record { fresh = suc w.fresh; gates = w.gates; flops = w.flops }) h

pub onto-bits :
    (v : ℕ → Bool) (F : Clocked → Type 0) (op : Op) (ins : List ℕ) (target : Option ℕ) (w : Work) → AllMeet v F (make_onto op ins target w).1 → AllMeet v F w × (v (make_onto op ins target w).0 ≡ op_gives op (map v ins))
onto-bits v F op ins None w h = make-bits v F op ins w h
onto-bits v F op ins (Some t) w h = drive-bits v F op ins t w h

pub constant-gives : (one : Bool) → op_gives (constant one) [] ≡ one
constant-gives true = refl
constant-gives false = refl

-- operands

pub grounded-bits : (v : ℕ → Bool) (F : Clocked → Type 0) (bits : List Bit) (w : Work) → AllMeet v F (grounded bits w).1 → AllMeet v F w × (map v (grounded bits w).0 ≡ read_bits v bits)
grounded-bits v F [] w h = (h, refl)
grounded-bits v F (Net n ∷ bits) w h = let k = grounded-bits v F bits w h in (k.0, ap (λ z. v n ∷ z) k.1)
grounded-bits v F (Fixed one ∷ bits) w h =
    let k = grounded-bits v F bits (make (constant one) [] w).1 h in
    let m = make-bits v F (constant one) [] w k.0 in
    (m.0, λ i. (m.1 ∙ constant-gives one) i ∷ k.1 i)

pub nets-read : (v : ℕ → Bool) (nets : List ℕ) → read_bits v (as_value nets) ≡ map v nets
nets-read v nets = map_twice (bit_read v) (λ n. Net n) nets

-- one gate for each bit, pair or choice

abbrev pub of_two : Op → Bool → Bool → Bool
of_two op a b = op_gives op (a ∷ b ∷ [])

alone-bits : (v : ℕ → Bool) (F : Clocked → Type 0) (xs : List ℕ) (outs : Outs) (w : Work) → AllMeet v F (each_alone Not xs outs w).1 → AllMeet v F w × (map v (each_alone Not xs outs w).0 ≡ map not (map v xs))
alone-bits v F [] outs w h = (h, refl)
alone-bits v F (a ∷ xs) outs w h =
    let k = alone-bits v F xs (other_outs outs) (make_onto Not (a ∷ []) (first_out outs) w).1 h in
    let m = onto-bits v F Not (a ∷ []) (first_out outs) w k.0 in
    (m.0, λ i. m.1 i ∷ k.1 i)

pair-bits :
    (v : ℕ → Bool) (F : Clocked → Type 0) (op : Op) (xs ys : List ℕ) (outs : Outs) (w : Work) → AllMeet v F (each_pair op xs ys outs w).1
    → AllMeet v F w × (map v (each_pair op xs ys outs w).0 ≡ bitwise (of_two op) (map v xs) (map v ys))
pair-bits v F op [] ys outs w h = (h, refl)
pair-bits v F op (a ∷ xs) [] outs w h = (h, refl)
pair-bits v F op (a ∷ xs) (b ∷ ys) outs w h =
    let k = pair-bits v F op xs ys (other_outs outs) (make_onto op (a ∷ b ∷ []) (first_out outs) w).1 h in
    let m = onto-bits v F op (a ∷ b ∷ []) (first_out outs) w k.0 in
    (m.0, λ i. m.1 i ∷ k.1 i)

chosen-bit : (c a b : Bool) → ((c && (a && true)) || ((not c && (b && true)) || false)) ≡ cond c a b
chosen-bit true true true = refl
chosen-bit true true false = refl
chosen-bit true false true = refl
chosen-bit true false false = refl
chosen-bit false true true = refl
chosen-bit false true false = refl
chosen-bit false false true = refl
chosen-bit false false false = refl

pub choice-bits :
    (v : ℕ → Bool) (F : Clocked → Type 0) (z n : ℕ) (xs ys : List ℕ) (outs : Outs) (w : Work) → AllMeet v F (each_choice (z ∷ []) n xs ys outs w).1
    → AllMeet v F w × (v n ≡ not (v z) → map v (each_choice (z ∷ []) n xs ys outs w).0 ≡ bitwise (cond (v z)) (map v xs) (map v ys))
choice-bits v F z n [] ys outs w h = (h, λ e. refl)
choice-bits v F z n (a ∷ xs) [] outs w h = (h, λ e. refl)
choice-bits v F z n (a ∷ xs) (b ∷ ys) outs w h =
    let w1 = make And (z ∷ a ∷ []) w in
    let w2 = make And (n ∷ b ∷ []) w1.1 in
    let w3 = make_onto Or (w1.0 ∷ w2.0 ∷ []) (first_out outs) w2.1 in
    let k = choice-bits v F z n xs ys (other_outs outs) w3.1 h in
    let m3 = onto-bits v F Or (w1.0 ∷ w2.0 ∷ []) (first_out outs) w2.1 k.0 in
    let m2 = make-bits v F And (n ∷ b ∷ []) w1.1 m3.0 in
    let m1 = make-bits v F And (z ∷ a ∷ []) w m2.0 in
    (m1.0, λ e. λ i. (m3.1 ∙ ((λ j. m1.1 j || ((m2.1 ∙ ap (λ t. t && (v b && true)) e) j || false)) ∙ chosen-bit (v z) (v a) (v b))) i ∷ k.1 e i)

-- operators

pub inverted-bits : (v : ℕ → Bool) (F : Clocked → Type 0) (outs : Outs) (a : List Bit) (w : Work) → AllMeet v F (inverted outs a w).1 → AllMeet v F w × (read_bits v (inverted outs a w).0 ≡ map not (read_bits v a))
inverted-bits v F outs a w h =
    let ga = grounded a w in
    let k = alone-bits v F ga.0 outs ga.1 h in
    let ka = grounded-bits v F a w k.0 in
    (ka.0, nets-read v (each_alone Not ga.0 outs ga.1).0 ∙ (k.1 ∙ ap (map not) ka.1))

pub joined-bits :
    (v : ℕ → Bool) (F : Clocked → Type 0) (op : Op) (outs : Outs) (a b : List Bit) (w : Work) → AllMeet v F (joined_by op outs a b w).1
    → AllMeet v F w × (read_bits v (joined_by op outs a b w).0 ≡ bitwise (of_two op) (read_bits v a) (read_bits v b))
joined-bits v F op outs a b w h =
    let ga = grounded a w in
    let gb = grounded b ga.1 in
    let k = pair-bits v F op ga.0 gb.0 outs gb.1 h in
    let kb = grounded-bits v F b ga.1 k.0 in
    let ka = grounded-bits v F a w kb.0 in
    (ka.0, nets-read v (each_pair op ga.0 gb.0 outs gb.1).0 ∙ (k.1 ∙ (λ i. bitwise (of_two op) (ka.1 i) (kb.1 i))))

-- a choice by one bit between two values of one width
whole-choice : (c : Bool) (xs ys : List Bool) → length xs ≡ length ys → bitwise (cond c) xs ys ≡ cond c xs ys
whole-choice true [] [] h = refl
whole-choice false [] [] h = refl
whole-choice c [] (b ∷ ys) h = cc
whole-choice c (a ∷ xs) [] h = cc
whole-choice true (a ∷ xs) (b ∷ ys) h = ap (λ z. a ∷ z) (whole-choice true xs ys (cc h))
whole-choice false (a ∷ xs) (b ∷ ys) h = ap (λ z. b ∷ z) (whole-choice false xs ys (cc h))

-- the gates of a choice by a net
abbrev choice_by : Outs → ℕ → List Bit → List Bit → Work → List ℕ × Work
choice_by outs z a b w =
    each_choice (z ∷ []) (make Not (z ∷ []) (grounded b (grounded a w).1).1).0 (grounded a w).0 (grounded b (grounded a w).1).0 outs (make Not (z ∷ []) (grounded b (grounded a w).1).1).1

choice-from :
    (v : ℕ → Bool) (F : Clocked → Type 0) (outs : Outs) (z : ℕ) (a b : List Bit) (w : Work) → length a ≡ length b → AllMeet v F (choice_by outs z a b w).1
    → AllMeet v F w × (map v (choice_by outs z a b w).0 ≡ cond (v z) (read_bits v a) (read_bits v b))
choice-from v F outs z a b w same h =
    let ga = grounded a w in
    let gb = grounded b ga.1 in
    let n = make Not (z ∷ []) gb.1 in
    let k = choice-bits v F z n.0 ga.0 gb.0 outs n.1 h in
    let kn = make-bits v F Not (z ∷ []) gb.1 k.0 in
    let kb = grounded-bits v F b ga.1 kn.0 in
    let ka = grounded-bits v F a w kb.0 in
    let even : length (read_bits v a) ≡ length (read_bits v b) = length_map (bit_read v) a ∙ (same ∙ sym (length_map (bit_read v) b)) in
    (ka.0, k.1 kn.1 ∙ ((λ i. bitwise (cond (v z)) (ka.1 i) (kb.1 i)) ∙ whole-choice (v z) (read_bits v a) (read_bits v b) even))

-- a choice by one bit, between values of one width
pub chosen-bits :
    (v : ℕ → Bool) (F : Clocked → Type 0) (outs : Outs) (c a b : List Bit) (w : Work) → length c ≡ 1 → length a ≡ length b → AllMeet v F (choice_between outs c a b w).1
    → AllMeet v F w × (read_bits v (choice_between outs c a b w).0 ≡ cond (first_bit (read_bits v c)) (read_bits v a) (read_bits v b))
chosen-bits v F outs [] a b w one same h = cc
chosen-bits v F outs (Net z ∷ []) a b w one same h =
    let k = choice-from v F outs z a b w same h in
    (k.0, nets-read v (choice_by outs z a b w).0 ∙ k.1)
chosen-bits v F outs (Fixed bit ∷ []) a b w one same h =
    let z = make (constant bit) [] w in
    let k = choice-from v F outs z.0 a b z.1 same h in
    let m = make-bits v F (constant bit) [] w k.0 in
    (m.0, nets-read v (choice_by outs z.0 a b z.1).0 ∙ (k.1 ∙ ap (λ t. cond t (read_bits v a) (read_bits v b)) (m.1 ∙ constant-gives bit)))
chosen-bits v F outs (x ∷ y ∷ c) a b w one same h = cc
