-- How many nets operators make.
use Rattle.std.proofs.Common.{arith, ◌≡◌, ℕ, suc, ◌+◌, ◌*◌, ◌≤◌, min, List, [], ◌∷◌, ◌++◌, length, refl, ap, sym, ◌∙◌}
use Rattle.bb_base.specs.declared.operator.Op.{Op}
use Rattle.bb_base.specs.declared.operator.Op.TheVariants.{And, Or, Not}
use Rattle.bb_scope.specs.declared.value.Bit.{Bit}
use Rattle.bb_scope.specs.declared.value.Bit.TheVariants.{Net, Fixed}
use Rattle.bb_scope.specs.Sizes.{width, of_nets}
use Rattle.bb_fault.specs.Work.{Work, make, make_onto, drive, constant}
use Rattle.bb_scope.specs.Making.{Outs, New, To, grounded, each_alone, each_pair, each_choice, first_out, other_outs, as_value, inverted, joined_by, choice_between}
use Rattle.bb_scope.specs.ValueSizes.{value_size}

-- operands

pub width_is : (bits : List Bit) → width (value_size bits) ≡ length bits
width_is [] = refl
width_is (Net n ∷ bits) = let h = width_is bits in omega (arith, h)
width_is (Fixed one ∷ bits) = let h = width_is bits in omega (arith, h)

pub grounded-fresh : (bits : List Bit) (w : Work) → (grounded bits w).1.fresh ≡ w.fresh + (value_size bits).constants
grounded-fresh [] w = omega arith
grounded-fresh (Net n ∷ bits) w = grounded-fresh bits w
grounded-fresh (Fixed one ∷ bits) w = let h = grounded-fresh bits (make (constant one) [] w).1 in omega (arith, h)

pub grounded-length : (bits : List Bit) (w : Work) → length (grounded bits w).0 ≡ length bits
grounded-length [] w = refl
grounded-length (Net n ∷ bits) w = ap suc (grounded-length bits w)
grounded-length (Fixed one ∷ bits) w = ap suc (grounded-length bits (make (constant one) [] w).1)

pub value-size : (nets : List ℕ) → value_size (as_value nets) ≡ of_nets (length nets)
value-size [] = refl
value-size (n ∷ nets) = ap (λ s. record { nets = suc s.nets; constants = s.constants }) (value-size nets)

-- gates to new nets

alone-fresh : (op : Op) (xs : List ℕ) (w : Work) → (each_alone op xs New w).1.fresh ≡ w.fresh + length xs
alone-fresh op [] w = omega arith
alone-fresh op (a ∷ xs) w = let h = alone-fresh op xs (make op (a ∷ []) w).1 in omega (arith, h)

pair-fresh : (op : Op) (xs ys : List ℕ) (w : Work) → (each_pair op xs ys New w).1.fresh ≡ w.fresh + min (length xs) (length ys)
pair-fresh op [] ys w = omega arith
pair-fresh op (a ∷ xs) [] w = omega arith
pair-fresh op (a ∷ xs) (b ∷ ys) w = let h = pair-fresh op xs ys (make op (a ∷ b ∷ []) w).1 in omega (arith, h)

choice-fresh : (c : List ℕ) (n : ℕ) (xs ys : List ℕ) (w : Work) → (each_choice c n xs ys New w).1.fresh ≡ w.fresh + 3 * min (length xs) (length ys)
choice-fresh c n [] ys w = omega arith
choice-fresh c n (a ∷ xs) [] w = omega arith
choice-fresh c n (a ∷ xs) (b ∷ ys) w =
    let w1 = make And (c ++ a ∷ []) w in
    let w2 = make And (n ∷ b ∷ []) w1.1 in
    let w3 = make Or (w1.0 ∷ w2.0 ∷ []) w2.1 in
    let h = choice-fresh c n xs ys w3.1 in
    omega (arith, h)

-- how many bits they give

alone-length : (op : Op) (xs : List ℕ) (outs : Outs) (w : Work) → length (each_alone op xs outs w).0 ≡ length xs
alone-length op [] outs w = refl
alone-length op (a ∷ xs) outs w = ap suc (alone-length op xs (other_outs outs) (make_onto op (a ∷ []) (first_out outs) w).1)

pair-length : (op : Op) (xs ys : List ℕ) (outs : Outs) (w : Work) → length (each_pair op xs ys outs w).0 ≡ min (length xs) (length ys)
pair-length op [] ys outs w = omega arith
pair-length op (a ∷ xs) [] outs w = omega arith
pair-length op (a ∷ xs) (b ∷ ys) outs w = let h = pair-length op xs ys (other_outs outs) (make_onto op (a ∷ b ∷ []) (first_out outs) w).1 in omega (arith, h)

choice-length : (c : List ℕ) (n : ℕ) (xs ys : List ℕ) (outs : Outs) (w : Work) → length (each_choice c n xs ys outs w).0 ≡ min (length xs) (length ys)
choice-length c n [] ys outs w = omega arith
choice-length c n (a ∷ xs) [] outs w = omega arith
choice-length c n (a ∷ xs) (b ∷ ys) outs w =
    let w1 = make And (c ++ a ∷ []) w in
    let w2 = make And (n ∷ b ∷ []) w1.1 in
    let h = choice-length c n xs ys (other_outs outs) (make_onto Or (w1.0 ∷ w2.0 ∷ []) (first_out outs) w2.1).1 in
    omega (arith, h)

-- gates to targets, where there are enough

alone-onto : (op : Op) (xs targets : List ℕ) (w : Work) → length xs ≤ length targets → (each_alone op xs (To targets) w).1.fresh ≡ w.fresh
alone-onto op [] targets w h = refl
alone-onto op (a ∷ xs) [] w h = absurd (omega (arith, h))
alone-onto op (a ∷ xs) (t ∷ targets) w h = alone-onto op xs targets (drive op (a ∷ []) t w).1 (omega (arith, h))

pair-onto : (op : Op) (xs ys targets : List ℕ) (w : Work) → min (length xs) (length ys) ≤ length targets → (each_pair op xs ys (To targets) w).1.fresh ≡ w.fresh
pair-onto op [] ys targets w h = refl
pair-onto op (a ∷ xs) [] targets w h = refl
pair-onto op (a ∷ xs) (b ∷ ys) [] w h = absurd (omega (arith, h))
pair-onto op (a ∷ xs) (b ∷ ys) (t ∷ targets) w h = pair-onto op xs ys targets (drive op (a ∷ b ∷ []) t w).1 (omega (arith, h))

choice-onto : (c : List ℕ) (n : ℕ) (xs ys targets : List ℕ) (w : Work) → min (length xs) (length ys) ≤ length targets → (each_choice c n xs ys (To targets) w).1.fresh ≡ w.fresh + 2 * min (length xs) (length ys)
choice-onto c n [] ys targets w h = omega arith
choice-onto c n (a ∷ xs) [] targets w h = omega arith
choice-onto c n (a ∷ xs) (b ∷ ys) [] w h = absurd (omega (arith, h))
choice-onto c n (a ∷ xs) (b ∷ ys) (t ∷ targets) w h =
    let w1 = make And (c ++ a ∷ []) w in
    let w2 = make And (n ∷ b ∷ []) w1.1 in
    let w3 = drive Or (w1.0 ∷ w2.0 ∷ []) t w2.1 in
    let k = choice-onto c n xs ys targets w3.1 (omega (arith, h)) in
    omega (arith, k)

-- operators

abbrev pub lesser : List Bit → List Bit → ℕ
lesser a b = min (width (value_size a)) (width (value_size b))

pub inverted-size : (outs : Outs) (a : List Bit) (w : Work) → value_size (inverted outs a w).0 ≡ of_nets (width (value_size a))
inverted-size outs a w =
    let ga = grounded a w in
    value-size (each_alone Not ga.0 outs ga.1).0 ∙ ap of_nets (alone-length Not ga.0 outs ga.1 ∙ (grounded-length a w ∙ sym (width_is a)))

pub joined-size : (op : Op) (outs : Outs) (a b : List Bit) (w : Work) → value_size (joined_by op outs a b w).0 ≡ of_nets (lesser a b)
joined-size op outs a b w =
    let ga = grounded a w in
    let gb = grounded b ga.1 in
    let n : length (each_pair op ga.0 gb.0 outs gb.1).0 ≡ lesser a b = omega (arith, pair-length op ga.0 gb.0 outs gb.1, grounded-length a w, grounded-length b ga.1, width_is a, width_is b) in
    value-size (each_pair op ga.0 gb.0 outs gb.1).0 ∙ ap of_nets n

pub chosen-size : (outs : Outs) (c a b : List Bit) (w : Work) → value_size (choice_between outs c a b w).0 ≡ of_nets (lesser a b)
chosen-size outs c a b w =
    let gc = grounded c w in
    let ga = grounded a gc.1 in
    let gb = grounded b ga.1 in
    let n = make Not gc.0 gb.1 in
    let l : length (each_choice gc.0 n.0 ga.0 gb.0 outs n.1).0 ≡ lesser a b =
    omega (arith, choice-length gc.0 n.0 ga.0 gb.0 outs n.1, grounded-length a gc.1, grounded-length b ga.1, width_is a, width_is b) in
    value-size (each_choice gc.0 n.0 ga.0 gb.0 outs n.1).0 ∙ ap of_nets l

pub inverted-fresh : (a : List Bit) (w : Work) → (inverted New a w).1.fresh ≡ w.fresh + ((value_size a).constants + width (value_size a))
inverted-fresh a w = let ga = grounded a w in omega (arith, grounded-fresh a w, alone-fresh Not ga.0 ga.1, grounded-length a w, width_is a)

pub joined-fresh : (op : Op) (a b : List Bit) (w : Work) → (joined_by op New a b w).1.fresh ≡ w.fresh + ((value_size a).constants + (value_size b).constants + lesser a b)
joined-fresh op a b w =
    let ga = grounded a w in
    let gb = grounded b ga.1 in
    omega (arith, grounded-fresh a w, grounded-fresh b ga.1, pair-fresh op ga.0 gb.0 gb.1, grounded-length a w, grounded-length b ga.1, width_is a, width_is b)

pub chosen-fresh :
    (c a b : List Bit) (w : Work) → (choice_between New c a b w).1.fresh ≡ w.fresh + ((value_size c).constants + (value_size a).constants + (value_size b).constants + 1 + 2 * lesser a b + lesser a b)
chosen-fresh c a b w =
    let gc = grounded c w in
    let ga = grounded a gc.1 in
    let gb = grounded b ga.1 in
    let n = make Not gc.0 gb.1 in
    omega (arith, grounded-fresh c w, grounded-fresh a gc.1, grounded-fresh b ga.1, choice-fresh gc.0 n.0 ga.0 gb.0 n.1, grounded-length a gc.1, grounded-length b ga.1, width_is a, width_is b)

pub inverted-onto : (a : List Bit) (targets : List ℕ) (w : Work) → width (value_size a) ≤ length targets → (inverted (To targets) a w).1.fresh ≡ w.fresh + ((value_size a).constants + 0)
inverted-onto a targets w h =
    let ga = grounded a w in
    let k = alone-onto Not ga.0 targets ga.1 (omega (arith, h, grounded-length a w, width_is a)) in
    omega (arith, grounded-fresh a w, k)

pub joined-onto : (op : Op) (a b : List Bit) (targets : List ℕ) (w : Work) → lesser a b ≤ length targets → (joined_by op (To targets) a b w).1.fresh ≡ w.fresh + ((value_size a).constants + (value_size b).constants + 0)
joined-onto op a b targets w h =
    let ga = grounded a w in
    let gb = grounded b ga.1 in
    let k = pair-onto op ga.0 gb.0 targets gb.1 (omega (arith, h, grounded-length a w, grounded-length b ga.1, width_is a, width_is b)) in
    omega (arith, grounded-fresh a w, grounded-fresh b ga.1, k)

pub chosen-onto :
    (c a b : List Bit) (targets : List ℕ) (w : Work) → lesser a b ≤ length targets
    → (choice_between (To targets) c a b w).1.fresh ≡ w.fresh + ((value_size c).constants + (value_size a).constants + (value_size b).constants + 1 + 2 * lesser a b + 0)
chosen-onto c a b targets w h =
    let gc = grounded c w in
    let ga = grounded a gc.1 in
    let gb = grounded b ga.1 in
    let n = make Not gc.0 gb.1 in
    let k = choice-onto gc.0 n.0 ga.0 gb.0 targets n.1 (omega (arith, h, grounded-length a gc.1, grounded-length b ga.1, width_is a, width_is b)) in
    omega (arith, grounded-fresh c w, grounded-fresh a gc.1, grounded-fresh b ga.1, k, grounded-length a gc.1, grounded-length b ga.1, width_is a, width_is b)
