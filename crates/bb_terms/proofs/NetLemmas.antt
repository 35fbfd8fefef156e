-- Nets of a netlist: what drives and reads them.
use Rattle.std.proofs.Common.{◌≡◌, ◌≢◌, ◌⊎◌, inl, inr, ℕ, ◌<◌, ◌==◌, Bool, true, false, List, [], ◌∷◌, ◌++◌, length, map, refl, sym, ap, subst, ◌∙◌, arith, cond, Contains}
use Rattle.std.proofs.lemmas.Bool.Decides.{nat_tests}
use Rattle.std.proofs.lemmas.List.Elements.{recursion_from_All}
use Rattle.std.specs.List.{AllByRecursion, flat_map}
use Rattle.bb_base.specs.Net.{Gate, Flop, Netlist, driven, reads, IsNetlist}
use Rattle.bb_base.specs.Order.{drivers, is_empty}
use Rattle.bb_base.proofs.GateLemmas.{driven_distinct, input_undriven, flop_undriven}
use Rattle.bb_base.proofs.Contained.{either, none_in, of_all, contains_map, contains_at, place_of}
use Rattle.bb_base.proofs.Distinct.{Distinct}
use Rattle.bb_base.proofs.Lists.{all_front, all_back, all_parts}
use Rattle.bb_terms.specs.Paths.{is_free}
use Rattle.bb_terms.proofs.ReadLemmas.{no_gate}
use Rattle.bb_terms.specs.Lines.{d_of}
use Rattle.bb_terms.specs.Rules.{IsInput, IsQ, IsGateNet}

distinct_front : {X : Type 0} (xs ys : List X) → Distinct (xs ++ ys) → Distinct xs
distinct_front [] ys h = tt
distinct_front (x ∷ xs) ys h = (all_front (λ y. y ≢ x) xs ys h.0, distinct_front xs ys h.1)

distinct_back : {X : Type 0} (xs ys : List X) → Distinct (xs ++ ys) → Distinct ys
distinct_back [] ys h = h
distinct_back (x ∷ xs) ys h = distinct_back xs ys h.1

-- where images are distinct, items with one image are one item
pub one_image : {X Y : Type 0} (f : X → Y) (xs : List X) (x y : X) → Distinct (map f xs) → Contains xs x → Contains xs y → f x ≡ f y → x ≡ y
one_image f [] x y once c d same = absurd (none_in x c)
one_image {X} {Y} f (z ∷ xs) x y once c d same = by (either z xs x c) (either z xs y d) (λ c d. one_image f xs x y once.1 c d same)
  where
    other : (w : X) → Contains xs w → f w ≡ f z → ⊥
    other w c = of_all (λ (v : Y). v ≢ f z) (map f xs) (f w) once.0 (contains_map f xs w c)

    by : (z ≡ x) ⊎ Contains xs x → (z ≡ y) ⊎ Contains xs y → (Contains xs x → Contains xs y → x ≡ y) → x ≡ y
    by (inl e) (inl k) rest = sym e ∙ k
    by (inl e) (inr d) rest = absurd (other y d (sym same ∙ ap f (sym e)))
    by (inr c) (inl k) rest = absurd (other x c (same ∙ ap f (sym k)))
    by (inr c) (inr d) rest = rest c d

outs_distinct : (a : Netlist ℕ) → IsNetlist a → Distinct (map (λ (g : Gate ℕ). g.out) a.gates)
outs_distinct a fits = distinct_front (map (λ g. g.out) a.gates) (map (λ f. f.q) a.flops) (distinct_back a.inputs (map (λ g. g.out) a.gates ++ map (λ f. f.q) a.flops) (driven_distinct a fits))

qs_distinct : (a : Netlist ℕ) → IsNetlist a → Distinct (map (λ (f : Flop ℕ). f.q) a.flops)
qs_distinct a fits = distinct_back (map (λ g. g.out) a.gates) (map (λ f. f.q) a.flops) (distinct_back a.inputs (map (λ g. g.out) a.gates ++ map (λ f. f.q) a.flops) (driven_distinct a fits))

-- a net has one gate at most
pub one_gate : (a : Netlist ℕ) (f g : Gate ℕ) → IsNetlist a → Contains a.gates f → Contains a.gates g → f.out ≡ g.out → f ≡ g
one_gate a f g fits c d same = one_image (λ (g : Gate ℕ). g.out) a.gates f g (outs_distinct a fits) c d same

-- the d of a flip-flop by its q
pub d_is : (a : Netlist ℕ) (f : Flop ℕ) → IsNetlist a → Contains a.flops f → d_of a.flops f.q ≡ f.d
d_is a f fits c = find a.flops (qs_distinct a fits) c
  where
    find : (flops : List (Flop ℕ)) → Distinct (map (λ (f : Flop ℕ). f.q) flops) → Contains flops f → d_of flops f.q ≡ f.d
    find [] once c = absurd (none_in f c)
    find (e ∷ flops) once c = by (e.q == f.q) refl (either e flops f c) (λ c. find flops once.1 c)
      where
        by : (b : Bool) → (e.q == f.q) ≡ b → (e ≡ f) ⊎ Contains flops f → (Contains flops f → d_of flops f.q ≡ f.d) → cond b e.d (d_of flops f.q) ≡ f.d
        by true same (inl k) rest = ap (λ (g : Flop ℕ). g.d) k
        by true same (inr c) rest = let one : f.q ≡ e.q = grind (arith, nat_tests, same) in absurd (of_all (λ (q : ℕ). q ≢ e.q) (map (λ (f : Flop ℕ). f.q) flops) f.q once.0 (contains_map (λ (f : Flop ℕ). f.q) flops f c) one)
        by false other (inl k) rest = absurd (let one : e.q ≡ f.q = ap (λ (g : Flop ℕ). g.q) k in grind (arith, nat_tests, other, one))
        by false other (inr c) rest = rest c

below : (a : Netlist ℕ) → ℕ → Type 0
below a net = net < length (driven a)

-- what a gate reads, a d and an output are nets
pub input_within : (a : Netlist ℕ) (g : Gate ℕ) (net : ℕ) → IsNetlist a → Contains a.gates g → Contains g.ins net → net < length (driven a)
unfolding below
input_within a g net fits c read =
    let all : AllByRecursion (below a) (reads a) = recursion_from_All (below a) (reads a) fits.reads_nets in
    let behind = all_back (below a) a.outputs (flat_map (λ g. g.ins) a.gates ++ map (λ f. f.d) a.flops) all in
    let gates = all_front (below a) (flat_map (λ g. g.ins) a.gates) (map (λ f. f.d) a.flops) behind in
    of_all (below a) g.ins net (of_all (λ (g : Gate ℕ). AllByRecursion (below a) g.ins) a.gates g (all_parts (below a) (λ (g : Gate ℕ). g.ins) a.gates gates) c) read

pub d_within : (a : Netlist ℕ) (f : Flop ℕ) → IsNetlist a → Contains a.flops f → f.d < length (driven a)
unfolding below
d_within a f fits c =
    let all : AllByRecursion (below a) (reads a) = recursion_from_All (below a) (reads a) fits.reads_nets in
    let behind = all_back (below a) a.outputs (flat_map (λ g. g.ins) a.gates ++ map (λ f. f.d) a.flops) all in
    let flops = all_back (below a) (flat_map (λ g. g.ins) a.gates) (map (λ f. f.d) a.flops) behind in
    of_all (below a) (map (λ f. f.d) a.flops) f.d flops (contains_map (λ (f : Flop ℕ). f.d) a.flops f c)

-- outputs of gates, q's and inputs are nets
pub out_within : (a : Netlist ℕ) (g : Gate ℕ) → IsNetlist a → Contains a.gates g → g.out < length (driven a)
unfolding below
out_within a g fits c =
    let all : AllByRecursion (below a) (driven a) = recursion_from_All (below a) (driven a) fits.drives_nets in
    let behind = all_back (below a) a.inputs (map (λ g. g.out) a.gates ++ map (λ f. f.q) a.flops) all in
    let gates = all_front (below a) (map (λ g. g.out) a.gates) (map (λ f. f.q) a.flops) behind in
    of_all (below a) (map (λ g. g.out) a.gates) g.out gates (contains_map (λ (g : Gate ℕ). g.out) a.gates g c)

pub q_within : (a : Netlist ℕ) (f : Flop ℕ) → IsNetlist a → Contains a.flops f → f.q < length (driven a)
unfolding below
q_within a f fits c =
    let all : AllByRecursion (below a) (driven a) = recursion_from_All (below a) (driven a) fits.drives_nets in
    let behind = all_back (below a) a.inputs (map (λ g. g.out) a.gates ++ map (λ f. f.q) a.flops) all in
    let flops = all_back (below a) (map (λ g. g.out) a.gates) (map (λ f. f.q) a.flops) behind in
    of_all (below a) (map (λ f. f.q) a.flops) f.q flops (contains_map (λ (f : Flop ℕ). f.q) a.flops f c)

pub input_net_within : (a : Netlist ℕ) (net : ℕ) → IsNetlist a → IsInput a net → net < length (driven a)
unfolding below
input_net_within a net fits i =
    let all : AllByRecursion (below a) (driven a) = recursion_from_All (below a) (driven a) fits.drives_nets in
    of_all (below a) a.inputs net (all_front (below a) a.inputs (map (λ g. g.out) a.gates ++ map (λ f. f.q) a.flops) all) (contains_at a.inputs i.0 net i.1)

-- a net with a gate is not free
pub driven_net : (a : Netlist ℕ) (g : Gate ℕ) → Contains a.gates g → is_free a.gates g.out ≡ true → ⊥
driven_net a g c free = no_gate g.out a.gates g (none (drivers a.gates g.out) free) c refl
  where
    none : (gs : List (Gate ℕ)) → is_empty gs ≡ true → gs ≡ []
    none [] h = refl
    none (g ∷ gs) h = absurd (cc h)

-- an input and a q are free
pub free_input : (a : Netlist ℕ) (net : ℕ) → IsNetlist a → IsInput a net → is_free a.gates net ≡ true
free_input a net fits i = ap is_empty (input_undriven a i.0 net fits (input_net_within a net fits i) i.1)

pub free_q : (a : Netlist ℕ) (net : ℕ) → IsNetlist a → IsQ a net → is_free a.gates net ≡ true
free_q a net fits q =
    let c = contains_at a.flops q.0 q.1.0 q.1.1 in
    ap is_empty (flop_undriven a q.0 net q.1.0 fits (subst (λ n. n < length (driven a)) q.1.2 (q_within a q.1.0 fits c)) q.1.1 q.1.2)

-- a gate's output by its place
pub gate_net : (a : Netlist ℕ) (g : Gate ℕ) → Contains a.gates g → IsGateNet a g.out
gate_net a g c = let there = place_of a.gates g c in (there.0, (g, there.1, refl))

pub q_net : (a : Netlist ℕ) (f : Flop ℕ) → Contains a.flops f → IsQ a f.q
q_net a f c = let there = place_of a.flops f c in (there.0, (f, there.1, refl))
