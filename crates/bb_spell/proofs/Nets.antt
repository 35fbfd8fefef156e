-- The nets that gates and flip-flops speak of have names.
use Rattle.std.proofs.Common.{◌≡◌, ℕ, ◌<◌, List, [], ◌∷◌, ◌++◌, length, map, get_or, sym, subst, All, Some}
use Rattle.std.specs.List.{AllByRecursion, flat_map}
use Rattle.std.proofs.lemmas.List.Elements.{All-from_recursion, recursion_from_All}
use Rattle.bb_base.specs.Net.{Gate, Flop, driven, reads}
use Rattle.bb_base.specs.Variables.{IsBit}
use Rattle.bb_base.specs.Named.{Named, IsNamed}
use Rattle.bb_base.specs.declared.variable.BitName.{BitName}
use Rattle.bb_base.proofs.Lists.{all_front, all_back, all_map}

-- a fact of all items of all parts
pub all_flat : {X Y : Type 0} (P : Y → Type 0) (f : X → List Y) (xs : List X) → AllByRecursion P (flat_map f xs) → AllByRecursion (λ x. AllByRecursion P (f x)) xs
all_flat P f [] h = tt
all_flat P f (x ∷ xs) h = (all_front P (f x) (flat_map f xs) h, all_flat P f xs (all_back P (f x) (flat_map f xs) h))

-- a fact of all items holds of the one that stands at a place
at_place : {X : Type 0} (P : X → Type 0) (xs : List X) (i : ℕ) (x : X) → AllByRecursion P xs → i < length xs → x ≡ get_or xs i x → P x
at_place P xs i x all within at = subst P (sym at) (All-from_recursion P xs all i x within)

abbrev Net : Named → ℕ → Type 0
Net n net = net < length n.names

driven_all : (n : Named) → IsNamed n → AllByRecursion (Net n) (driven n.netlist)
driven_all n h = recursion_from_All (Net n) (driven n.netlist) h.consistent.drives_nets

reads_all : (n : Named) → IsNamed n → AllByRecursion (Net n) (reads n.netlist)
reads_all n h = recursion_from_All (Net n) (reads n.netlist) h.consistent.reads_nets

pub gate_out : (n : Named) (items : List (Gate ℕ)) (i : ℕ) (g : Gate ℕ) → IsNamed n → items ≡ n.netlist.gates → i < length items → g ≡ get_or items i g → g.out < length n.names
gate_out n items i g h same within at =
    let outs = all_front (Net n) (map (λ p. p.out) n.netlist.gates) (map (λ f. f.q) n.netlist.flops) (all_back (Net n) n.netlist.inputs (map (λ p. p.out) n.netlist.gates ++ map (λ f. f.q) n.netlist.flops) (driven_all n h)) in
    at_place (λ p. Net n p.out) n.netlist.gates i g (all_map (Net n) (λ p. Net n p.out) (λ p. p.out) (λ p k. k) n.netlist.gates outs) (subst (λ xs. i < length xs) same within) (subst (λ xs. g ≡ get_or xs i g) same at)

pub gate_ins : (n : Named) (items : List (Gate ℕ)) (i : ℕ) (g : Gate ℕ) → IsNamed n → items ≡ n.netlist.gates → i < length items → g ≡ get_or items i g → All (λ net. net < length n.names) g.ins
gate_ins n items i g h same within at =
    let ins = all_front (Net n) (flat_map (λ (p : Gate ℕ). p.ins) n.netlist.gates) (map (λ f. f.d) n.netlist.flops) (all_back (Net n) n.netlist.outputs (flat_map (λ (p : Gate ℕ). p.ins) n.netlist.gates ++ map (λ f. f.d) n.netlist.flops) (reads_all n h)) in
    let here = at_place (λ (p : Gate ℕ). AllByRecursion (Net n) p.ins) n.netlist.gates i g (all_flat (Net n) (λ (p : Gate ℕ). p.ins) n.netlist.gates ins) (subst (λ xs. i < length xs) same within) (subst (λ xs. g ≡ get_or xs i g) same at) in
    All-from_recursion (Net n) g.ins here

pub flop_q : (n : Named) (items : List (Flop ℕ)) (i : ℕ) (f : Flop ℕ) → IsNamed n → items ≡ n.netlist.flops → i < length items → f ≡ get_or items i f → f.q < length n.names
flop_q n items i f h same within at =
    let qs = all_back (Net n) (map (λ (p : Gate ℕ). p.out) n.netlist.gates) (map (λ p. p.q) n.netlist.flops) (all_back (Net n) n.netlist.inputs (map (λ p. p.out) n.netlist.gates ++ map (λ p. p.q) n.netlist.flops) (driven_all n h)) in
    at_place (λ p. Net n p.q) n.netlist.flops i f (all_map (Net n) (λ p. Net n p.q) (λ p. p.q) (λ p k. k) n.netlist.flops qs) (subst (λ xs. i < length xs) same within) (subst (λ xs. f ≡ get_or xs i f) same at)

pub flop_d : (n : Named) (items : List (Flop ℕ)) (i : ℕ) (f : Flop ℕ) → IsNamed n → items ≡ n.netlist.flops → i < length items → f ≡ get_or items i f → f.d < length n.names
flop_d n items i f h same within at =
    let ds = all_back (Net n) (flat_map (λ (p : Gate ℕ). p.ins) n.netlist.gates) (map (λ p. p.d) n.netlist.flops) (all_back (Net n) n.netlist.outputs (flat_map (λ (p : Gate ℕ). p.ins) n.netlist.gates ++ map (λ p. p.d) n.netlist.flops) (reads_all n h)) in
    at_place (λ p. Net n p.d) n.netlist.flops i f (all_map (Net n) (λ p. Net n p.d) (λ p. p.d) (λ p k. k) n.netlist.flops ds) (subst (λ xs. i < length xs) same within) (subst (λ xs. f ≡ get_or xs i f) same at)

-- the clock is a bit
pub clock_bit : (n : Named) (bit : BitName) → IsNamed n → n.clock ≡ Some bit → IsBit n.variables bit
clock_bit n bit h e = (h.consistent.clock bit e).stands
