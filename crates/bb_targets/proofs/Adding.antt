-- How many drivers of a variable's bit operators add: one for each place at which it is among their targets.
use Rattle.std.proofs.Common.{arith, ◌≡◌, ℕ, suc, ◌+◌, ◌<◌, ◌≤◌, min, Bool, false, cond, List, [], ◌∷◌, ◌++◌, length, map, refl, sym, ap, ◌∙◌}
use Rattle.std.proofs.lemmas.Bool.Decides.{nat_tests}
use Rattle.std.specs.Prelude.{Option, Some, None, nat_eq}
use Rattle.bb_base.specs.declared.operator.Op.{Op}
use Rattle.bb_base.specs.declared.operator.Op.TheVariants.{And, Or, Not, Buf}
use Rattle.bb_base.proofs.Lists.{map_join}
use Rattle.bb_base.specs.Net.{Gate}
use Rattle.bb_scope.specs.declared.value.Bit.{Bit}
use Rattle.bb_scope.specs.declared.value.Bit.TheVariants.{Net, Fixed}
use Rattle.bb_fault.specs.Work.{Work, Clocked, drive, make, make_onto, constant, flop_made}
use Rattle.bb_scope.specs.Making.{Outs, New, To, grounded, first_out, other_outs, each_alone, each_pair, each_choice, inverted, joined_by, choice_between, copied_onto, all_driven}
use Rattle.bb_scope.proofs.Operators.{grounded-length}
use Rattle.bb_targets.proofs.MarkLaws.{hits, hits_head, hits_join}

-- how many gates and flip-flops drive the bit
abbrev pub drivers : ℕ → Work → ℕ
drivers b w = hits b (map (λ (g : Gate ℕ). g.out) w.gates) + hits b (map (λ (f : Clocked). f.q) w.flops)

-- so many drivers of the bit are added
pub record Adds {A : Type 0} (b n : ℕ) (w : Work) (r : A × Work) : Type 0 where
  pub grows : w.fresh ≤ r.1.fresh
  pub adds : drivers b r.1 ≡ drivers b w + n

abbrev pub hit : ℕ → ℕ → ℕ
hit b x = cond (nat_eq b x) 1 0

pub hit_none : (b x : ℕ) → b < x → hit b x ≡ 0
hit_none b x less = let other : nat_eq b x ≡ false = grind (arith, nat_tests, less) in ap {B = ℕ} (λ (t : Bool). cond t 1 0) other

-- single gates and flip-flops

pub drive-adds : (b : ℕ) (op : Op) (ins : List ℕ) (out : ℕ) (w : Work) → Adds b (hit b out) w (drive op ins out w)
drive-adds b op ins out w = record {
  grows = omega arith;
  adds =
      let outs : map (λ (g : Gate ℕ). g.out) (w.gates ++ record { op = op; out = out; ins = ins } ∷ []) ≡ map (λ (g : Gate ℕ). g.out) w.gates ++ out ∷ [] = map_join (λ (g : Gate ℕ). g.out) w.gates (record { op = op; out = out; ins = ins } ∷ []) in
      omega (arith, ap (hits b) outs, hits_join b (map (λ (g : Gate ℕ). g.out) w.gates) (out ∷ []), hits_head b out []);
}

pub make-adds : (b : ℕ) (op : Op) (ins : List ℕ) (w : Work) → b < w.fresh → Adds b 0 w (make op ins w)
make-adds b op ins w small =
    let d = drive-adds b op ins w.fresh (record { fresh = suc w.fresh; gates = w.gates; flops = w.flops }) in
    record { grows = omega arith; adds = omega (arith, d.adds, hit_none b w.fresh small) }

pub flop-adds : (b q d clock : ℕ) (w : Work) → Adds b (hit b q) w (flop_made q d clock w)
flop-adds b q d clock w = record {
  grows = omega arith;
  adds =
      let qs : map (λ (f : Clocked). f.q) (w.flops ++ record { q = q; d = d; clock = clock } ∷ []) ≡ map (λ (f : Clocked). f.q) w.flops ++ q ∷ [] = map_join (λ (f : Clocked). f.q) w.flops (record { q = q; d = d; clock = clock } ∷ []) in
      omega (arith, ap (hits b) qs, hits_join b (map (λ (f : Clocked). f.q) w.flops) (q ∷ []), hits_head b q []);
}

-- a target, or none
abbrev pub at_target : ℕ → Option ℕ → ℕ
at_target b None = 0
at_target b (Some t) = hit b t

pub onto-adds : (b : ℕ) (op : Op) (ins : List ℕ) (target : Option ℕ) (w : Work) → b < w.fresh → Adds b (at_target b target) w (make_onto op ins target w)
onto-adds b op ins None w small = make-adds b op ins w small
onto-adds b op ins (Some t) w small = drive-adds b op ins t w

-- lists of gates

abbrev pub at_outs : ℕ → Outs → ℕ
at_outs b New = 0
at_outs b (To targets) = hits b targets

-- there is a target for each of so many gates, or for none
abbrev pub AreFor : Outs → ℕ → Type 0
AreFor New n = Unit {0}
AreFor (To targets) n = length targets ≡ n

pub for_same : (outs : Outs) (n k : ℕ) → AreFor outs n → n ≡ k → AreFor outs k
for_same New n k h e = tt
for_same (To targets) n k h e = h ∙ e

pub none_for : (b : ℕ) (outs : Outs) → AreFor outs 0 → at_outs b outs ≡ 0
none_for b New h = refl
none_for b (To []) h = refl
none_for b (To (t ∷ targets)) h = absurd (omega (arith, h))

first_for : (b n : ℕ) (outs : Outs) → AreFor outs (suc n) → at_outs b outs ≡ at_target b (first_out outs) + at_outs b (other_outs outs)
first_for b n New h = refl
first_for b n (To []) h = absurd (omega (arith, h))
first_for b n (To (t ∷ targets)) h = hits_head b t targets

others_for : (n : ℕ) (outs : Outs) → AreFor outs (suc n) → AreFor (other_outs outs) n
others_for n New h = tt
others_for n (To []) h = absurd (omega (arith, h))
others_for n (To (t ∷ targets)) h = omega (arith, h)

-- where one gate is made, its target is all
pub one_for : (b : ℕ) (outs : Outs) → AreFor outs 1 → at_outs b outs ≡ at_target b (first_out outs)
one_for b outs h = omega (arith, first_for b 0 outs h, none_for b (other_outs outs) (others_for 0 outs h))

pub grounded-adds : (b : ℕ) (bits : List Bit) (w : Work) → b < w.fresh → Adds b 0 w (grounded bits w)
grounded-adds b [] w small = record { grows = omega arith; adds = omega arith }
grounded-adds b (Net n ∷ bits) w small = let k = grounded-adds b bits w small in record { grows = k.grows; adds = k.adds }
grounded-adds b (Fixed one ∷ bits) w small =
    let m = make-adds b (constant one) [] w small in
    let k = grounded-adds b bits (make (constant one) [] w).1 (omega (arith, small, m.grows)) in
    record { grows = omega (arith, m.grows, k.grows); adds = omega (arith, m.adds, k.adds) }

alone-adds : (b : ℕ) (op : Op) (xs : List ℕ) (outs : Outs) (w : Work) → b < w.fresh → AreFor outs (length xs) → Adds b (at_outs b outs) w (each_alone op xs outs w)
alone-adds b op [] outs w small h = record { grows = omega arith; adds = omega (arith, none_for b outs h) }
alone-adds b op (a ∷ xs) outs w small h =
    let one = onto-adds b op (a ∷ []) (first_out outs) w small in
    let k = alone-adds b op xs (other_outs outs) (make_onto op (a ∷ []) (first_out outs) w).1 (omega (arith, small, one.grows)) (others_for (length xs) outs h) in
    record { grows = omega (arith, one.grows, k.grows); adds = omega (arith, one.adds, k.adds, first_for b (length xs) outs h) }

pair-adds : (b : ℕ) (op : Op) (xs ys : List ℕ) (outs : Outs) (w : Work) → b < w.fresh → AreFor outs (min (length xs) (length ys)) → Adds b (at_outs b outs) w (each_pair op xs ys outs w)
pair-adds b op [] ys outs w small h = record { grows = omega arith; adds = omega (arith, none_for b outs (for_same outs (min 0 (length ys)) 0 h (omega arith))) }
pair-adds b op (x ∷ xs) [] outs w small h = record { grows = omega arith; adds = omega (arith, none_for b outs (for_same outs (min (suc (length xs)) 0) 0 h (omega arith))) }
pair-adds b op (x ∷ xs) (y ∷ ys) outs w small h =
    let n = min (length xs) (length ys) in
    let more : AreFor outs (suc n) = for_same outs (min (suc (length xs)) (suc (length ys))) (suc n) h (omega arith) in
    let one = onto-adds b op (x ∷ y ∷ []) (first_out outs) w small in
    let k = pair-adds b op xs ys (other_outs outs) (make_onto op (x ∷ y ∷ []) (first_out outs) w).1 (omega (arith, small, one.grows)) (others_for n outs more) in
    record { grows = omega (arith, one.grows, k.grows); adds = omega (arith, one.adds, k.adds, first_for b n outs more) }

pub each-adds : (b : ℕ) (c : List ℕ) (n : ℕ) (xs ys : List ℕ) (outs : Outs) (w : Work) → b < w.fresh → AreFor outs (min (length xs) (length ys)) → Adds b (at_outs b outs) w (each_choice c n xs ys outs w)
each-adds b c n [] ys outs w small h = record { grows = omega arith; adds = omega (arith, none_for b outs (for_same outs (min 0 (length ys)) 0 h (omega arith))) }
each-adds b c n (x ∷ xs) [] outs w small h = record { grows = omega arith; adds = omega (arith, none_for b outs (for_same outs (min (suc (length xs)) 0) 0 h (omega arith))) }
each-adds b c n (x ∷ xs) (y ∷ ys) outs w small h =
    let k = min (length xs) (length ys) in
    let more : AreFor outs (suc k) = for_same outs (min (suc (length xs)) (suc (length ys))) (suc k) h (omega arith) in
    let w1 = make And (c ++ x ∷ []) w in
    let w2 = make And (n ∷ y ∷ []) w1.1 in
    let w3 = make_onto Or (w1.0 ∷ w2.0 ∷ []) (first_out outs) w2.1 in
    let a1 = make-adds b And (c ++ x ∷ []) w small in
    let a2 = make-adds b And (n ∷ y ∷ []) w1.1 (omega (arith, small, a1.grows)) in
    let a3 = onto-adds b Or (w1.0 ∷ w2.0 ∷ []) (first_out outs) w2.1 (omega (arith, small, a1.grows, a2.grows)) in
    let a4 = each-adds b c n xs ys (other_outs outs) w3.1 (omega (arith, small, a1.grows, a2.grows, a3.grows)) (others_for k outs more) in
    record { grows = omega (arith, a1.grows, a2.grows, a3.grows, a4.grows); adds = omega (arith, a1.adds, a2.adds, a3.adds, a4.adds, first_for b k outs more) }

-- operators

pub inverted-adds : (b : ℕ) (outs : Outs) (a : List Bit) (w : Work) → b < w.fresh → AreFor outs (length a) → Adds b (at_outs b outs) w (inverted outs a w)
inverted-adds b outs a w small h =
    let ga = grounded a w in
    let one = grounded-adds b a w small in
    let k = alone-adds b Not ga.0 outs ga.1 (omega (arith, small, one.grows)) (for_same outs (length a) (length ga.0) h (sym (grounded-length a w))) in
    record { grows = omega (arith, one.grows, k.grows); adds = omega (arith, one.adds, k.adds) }

pub joined-adds : (b : ℕ) (op : Op) (outs : Outs) (x y : List Bit) (w : Work) → b < w.fresh → AreFor outs (min (length x) (length y)) → Adds b (at_outs b outs) w (joined_by op outs x y w)
joined-adds b op outs x y w small h =
    let gx = grounded x w in
    let gy = grounded y gx.1 in
    let one = grounded-adds b x w small in
    let two = grounded-adds b y gx.1 (omega (arith, small, one.grows)) in
    let k = pair-adds b op gx.0 gy.0 outs gy.1 (omega (arith, small, one.grows, two.grows))
    (for_same outs (min (length x) (length y)) (min (length gx.0) (length gy.0)) h (omega (arith, grounded-length x w, grounded-length y gx.1))) in
    record { grows = omega (arith, one.grows, two.grows, k.grows); adds = omega (arith, one.adds, two.adds, k.adds) }

pub between-adds : (b : ℕ) (outs : Outs) (c x y : List Bit) (w : Work) → b < w.fresh → AreFor outs (min (length x) (length y)) → Adds b (at_outs b outs) w (choice_between outs c x y w)
between-adds b outs c x y w small h =
    let gc = grounded c w in
    let gx = grounded x gc.1 in
    let gy = grounded y gx.1 in
    let n = make Not gc.0 gy.1 in
    let one = grounded-adds b c w small in
    let two = grounded-adds b x gc.1 (omega (arith, small, one.grows)) in
    let three = grounded-adds b y gx.1 (omega (arith, small, one.grows, two.grows)) in
    let four = make-adds b Not gc.0 gy.1 (omega (arith, small, one.grows, two.grows, three.grows)) in
    let k = each-adds b gc.0 n.0 gx.0 gy.0 outs n.1 (omega (arith, small, one.grows, two.grows, three.grows, four.grows))
    (for_same outs (min (length x) (length y)) (min (length gx.0) (length gy.0)) h (omega (arith, grounded-length x gc.1, grounded-length y gx.1))) in
    record { grows = omega (arith, one.grows, two.grows, three.grows, four.grows, k.grows); adds = omega (arith, one.adds, two.adds, three.adds, four.adds, k.adds) }

-- gates that drive targets

pub copied-adds : (b : ℕ) (targets : List ℕ) (bits : List Bit) (w : Work) → length bits ≡ length targets → Adds b (hits b targets) w (copied_onto targets bits w)
copied-adds b [] [] w e = record { grows = omega arith; adds = omega arith }
copied-adds b [] (x ∷ bits) w e = cc
copied-adds b (t ∷ targets) [] w e = cc
copied-adds b (t ∷ targets) (Net n ∷ bits) w e =
    let one = drive-adds b Buf (n ∷ []) t w in
    let k = copied-adds b targets bits (drive Buf (n ∷ []) t w).1 (omega (arith, e)) in
    record { grows = omega (arith, one.grows, k.grows); adds = omega (arith, one.adds, k.adds, hits_head b t targets) }
copied-adds b (t ∷ targets) (Fixed one ∷ bits) w e =
    let d = drive-adds b (constant one) [] t w in
    let k = copied-adds b targets bits (drive (constant one) [] t w).1 (omega (arith, e)) in
    record { grows = omega (arith, d.grows, k.grows); adds = omega (arith, d.adds, k.adds, hits_head b t targets) }

pub driven-adds : (b : ℕ) (op : Op) (ins targets : List ℕ) (w : Work) → Adds b (hits b targets) w (all_driven op ins targets w)
driven-adds b op ins [] w = record { grows = omega arith; adds = omega arith }
driven-adds b op ins (t ∷ targets) w =
    let one = drive-adds b op ins t w in
    let k = driven-adds b op ins targets (drive op ins t w).1 in
    record { grows = omega (arith, one.grows, k.grows); adds = omega (arith, one.adds, k.adds, hits_head b t targets) }
