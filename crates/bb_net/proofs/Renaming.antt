-- Nets that stand in a netlist, and the netlist under other names for them.
use Rattle.std.proofs.Common.{arith, ◌≡◌, ℕ, zero, suc, ◌<◌, List, [], ◌∷◌, ◌++◌, length, map, Bool, refl, ◌∙◌, Decides}
use Rattle.std.proofs.lemmas.List.Elements.{recursion_from_All}
use Rattle.std.specs.List.{AllByRecursion, flat_map}
use Rattle.bb_base.specs.Net.{Gate, Flop, Netlist, IsNetlist, driven, reads, renamed, renamed_gate, renamed_flop}
use Rattle.bb_base.specs.Run.{at}
use Rattle.bb_base.proofs.Lists.{all_front, all_back, all_map, all_parts, map_twice, same_map, same_map_at}
use Rattle.bb_base.proofs.Contained.{both_all, to_all, of_all}
use Rattle.bb_base.proofs.Renamed.{Back, FindsAll}
use Rattle.bb_base.proofs.Distinct.{Distinct, distinct_map, find_in, found_all}
use Rattle.bb_base.proofs.TimesLemmas.{standing}
use Rattle.bb_base.proofs.GateLemmas.{driven_distinct}

-- a fact of all nets that stand in a netlist
pub record OfAllNets {N : Type 0} (P : N → Type 0) (n : Netlist N) : Type 0 where
  pub inputs : AllByRecursion P n.inputs
  pub outputs : AllByRecursion P n.outputs
  pub gates : AllByRecursion (λ (g : Gate N). P g.out × AllByRecursion P g.ins) n.gates
  pub flops : AllByRecursion (λ (f : Flop N). P f.q × P f.d) n.flops

-- it is one of all that is driven and all that is read
pub all_nets : {N : Type 0} (P : N → Type 0) (n : Netlist N) → AllByRecursion P (driven n) → AllByRecursion P (reads n) → OfAllNets P n
all_nets {N} P n a b = record {
  inputs = all_front P n.inputs (outs ++ qs) a;
  outputs = all_front P n.outputs (ins ++ ds) b;
  gates = both_all (λ (g : Gate N). P g.out) (λ (g : Gate N). AllByRecursion P g.ins) n.gates (all_map P (λ (g : Gate N). P g.out) (λ g. g.out) (λ g h. h) n.gates (all_front P outs qs behind)) (all_parts P (λ g. g.ins) n.gates (all_front P ins ds read));
  flops = both_all (λ (f : Flop N). P f.q) (λ (f : Flop N). P f.d) n.flops (all_map P (λ (f : Flop N). P f.q) (λ f. f.q) (λ f h. h) n.flops (all_back P outs qs behind)) (all_map P (λ (f : Flop N). P f.d) (λ f. f.d) (λ f h. h) n.flops (all_back P ins ds read));
}
  where
    outs : List N
    outs = map (λ (g : Gate N). g.out) n.gates

    qs : List N
    qs = map (λ (f : Flop N). f.q) n.flops

    ins : List N
    ins = flat_map (λ (g : Gate N). g.ins) n.gates

    ds : List N
    ds = map (λ (f : Flop N). f.d) n.flops

    behind : AllByRecursion P (outs ++ qs)
    behind = all_back P n.inputs (outs ++ qs) a

    read : AllByRecursion P (ins ++ ds)
    read = all_back P n.outputs (ins ++ ds) b

-- nets of a netlist are below their count
pub nets_below : (n : Netlist ℕ) → IsNetlist n → OfAllNets (λ m. m < length (driven n)) n
nets_below n is = all_nets (λ m. m < length (driven n)) n (recursion_from_All (λ m. m < length (driven n)) (driven n) is.drives_nets) (recursion_from_All (λ m. m < length (driven n)) (reads n) is.reads_nets)

-- one renaming after another
pub renamed_twice : {A B C : Type 0} (f : A → B) (g : B → C) (n : Netlist A) → renamed g (renamed f n) ≡ renamed (λ x. g (f x)) n
renamed_twice {A} {B} {C} f g n =
    let gates : map (renamed_gate g) (map (renamed_gate f) n.gates) ≡ map (renamed_gate (λ x. g (f x))) n.gates =
    map_twice (renamed_gate g) (renamed_gate f) n.gates ∙ same_map (λ (h : Gate A). renamed_gate g (renamed_gate f h)) (renamed_gate (λ x. g (f x))) (λ h. gate_twice h) n.gates in
    λ i. record { inputs = map_twice g f n.inputs i; outputs = map_twice g f n.outputs i; gates = gates i; flops = map_twice (renamed_flop g) (renamed_flop f) n.flops i }
  where
    gate_twice : (h : Gate A) → renamed_gate g (renamed_gate f h) ≡ renamed_gate (λ x. g (f x)) h
    gate_twice h = λ i. record { op = h.op; out = g (f h.out); ins = map_twice g f h.ins i }

-- names that agree on all nets that stand
pub renamed_alike : {M N : Type 0} (f g : M → N) (P : M → Type 0) → ((x : M) → P x → f x ≡ g x) → (n : Netlist M) → OfAllNets P n → renamed f n ≡ renamed g n
renamed_alike {M} {N} f g P same n all =
    let inputs = same_map_at f g P same n.inputs all.inputs in
    let outputs = same_map_at f g P same n.outputs all.outputs in
    let gates = same_map_at (renamed_gate f) (renamed_gate g) (λ (h : Gate M). P h.out × AllByRecursion P h.ins) gate_same n.gates all.gates in
    let flops = same_map_at (renamed_flop f) (renamed_flop g) (λ (p : Flop M). P p.q × P p.d) flop_same n.flops all.flops in
    λ i. record { inputs = inputs i; outputs = outputs i; gates = gates i; flops = flops i }
  where
    gate_same : (h : Gate M) → P h.out × AllByRecursion P h.ins → renamed_gate f h ≡ renamed_gate g h
    gate_same h e = let ins = same_map_at f g P same h.ins e.1 in λ i. record { op = h.op; out = same h.out e.0 i; ins = ins i }

    flop_same : (p : Flop M) → P p.q × P p.d → renamed_flop f p ≡ renamed_flop g p
    flop_same p e = λ i. record { q = same p.q e.0 i; d = same p.d e.1 i }

-- finding nets by name ----------------------------------------------------

-- names of different numbers below a count differ
abbrev pub OneToOne : {N : Type 0} → (ℕ → N) → ℕ → Type 0
OneToOne f count = (a b : ℕ) → a < count → b < count → f a ≡ f b → a ≡ b

-- the names of all driven nets
pub names_distinct : {N : Type 0} (f : ℕ → N) (n : Netlist ℕ) → IsNetlist n → OneToOne f (length (driven n)) → Distinct (map f (driven n))
names_distinct f n is one = distinct_map f (λ m. m < length (driven n)) one (driven n) (recursion_from_All (λ m. m < length (driven n)) (driven n) is.drives_nets) (driven_distinct n is)

module _ {N : Type 0} (eq : N → N → Bool) (decides : (a b : N) → Decides (eq a b) (a ≡ b)) (f : ℕ → N) (n : Netlist ℕ) (is : IsNetlist n) (one : OneToOne f (length (driven n))) where
  -- the net of this name
  abbrev pub net_named : N → ℕ
  net_named = find_in eq f 0 (driven n)

  all_found : AllByRecursion (Back f net_named) (driven n)
  all_found = found_all eq decides f 0 (driven n) (names_distinct f n is one)

  pub found : (m : ℕ) → m < length (driven n) → net_named (f m) ≡ m
  found m small = standing (Back f net_named) m (driven n) (omega (arith, is.one_driver m small)) all_found

  -- all nets are found that stand
  pub finds_all : FindsAll f net_named n
  finds_all =
      let read = to_all (Back f net_named) (reads n) (λ m c. found m (of_all (λ k. k < length (driven n)) (reads n) m (recursion_from_All (λ k. k < length (driven n)) (reads n) is.reads_nets) c)) in
      let all = all_nets (Back f net_named) n all_found read in
      record { inputs = all.inputs; gates = all.gates; flops = all.flops }

-- the bits of a run carried along a map of nets, by the cycle
pub at_map : {M N : Type 0} (g : N → M) (ws : List (M → Bool)) (c : ℕ) (net : N) → at (map (λ w k. w (g k)) ws) c net ≡ at ws c (g net)
at_map g [] c net = refl
at_map g (w ∷ ws) zero net = refl
at_map g (w ∷ ws) (suc c) net = at_map g ws c net
