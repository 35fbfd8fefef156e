-- Each step of a draft on the way to a netlist.
use Rattle.std.proofs.Common.{◌≡◌, ◌≢◌, ℕ, ◌≤◌, ◌<◌, zero, suc, List, [], ◌∷◌, ◌++◌, length, map, Option, Some, None, Bool, true, false, nat_lt, All, AllPairs, Contains, get_or, refl, sym, ap, ◌∙◌, arith, subst, if◌then◌else◌, IsSome, ◌↔◌}
use Rattle.std.specs.List.{AllByRecursion, list_any, flat_map}
use Rattle.std.specs.Option.{ForSome}
use Rattle.std.proofs.lemmas.List.Elements.{recursion_from_All, All-from_recursion, Contains-get_or}
use Rattle.std.proofs.lemmas.List.{append-nil}
use Rattle.std.proofs.lemmas.Option.{slice_get_within}
use Rattle.std.proofs.lemmas.Bool.Decides.{nat_tests}
use Rattle.bb_base.specs.declared.variable.BitName.{BitName}
use Rattle.bb_base.specs.Net.{Gate, Flop, driven, reads, times, renamed_gate, renamed_flop}
use Rattle.bb_base.specs.Operators.{IsArity}
use Rattle.bb_base.specs.Variables.{Entry, IsBit, is_input, is_port, role_bits, bit_eq}
use Rattle.bb_base.specs.Named.{Named, IsNamed, IsConsistent, name_of_net, IsClock}
use Rattle.bb_base.specs.Building.{with_net, with_gate, with_flop, net_limit}
use Rattle.bb_base.proofs.Lists.{all_front, all_back, all_join, all_map, all_parts, map_join, map_twice, length_map, same_map_at}
use Rattle.bb_net.proofs.ConsistentLemmas.{net_fits, gate_fits, flop_fits}
use Rattle.bb_spell.specs.Limits.{IsBuildable}
use Rattle.bb_canon.specs.Toward.{IsDrawn, IsGateOf, IsDeclared, clock_among}
use Rattle.bb_canon.proofs.Distincts.{alike_push, alike_few, times_stands, stands}
use Rattle.bb_canon.proofs.RoleBits.{front_within, role_alike}

abbrev none : BitName
none = record { variable = 0; place = 0 }

-- a name stays where it is
pub name_front : (names more : List BitName) (m : ℕ) (d : BitName) → m < length names → get_or (names ++ more) m d ≡ get_or names m d
name_front [] more m d h = absurd (omega arith)
name_front (b ∷ bs) more zero d h = refl
name_front (b ∷ bs) more (suc m) d h = name_front bs more m d (omega arith)

pub name_kept : (n : Named) (bit : BitName) (m : ℕ) → m < length n.names → name_of_net (with_net n bit) m ≡ name_of_net n m
name_kept n bit m h = go (list_any (bit_eq bit) n.names)
  where
    go : (b : Bool) → get_or (if b then n.names else n.names ++ bit ∷ []) m none ≡ get_or n.names m none
    go true = refl
    go false = name_front n.names (bit ∷ []) m none h

abbrev IsNet : Named → ℕ → Type 0
IsNet n net = net < length n.names

-- gates and flip-flops keep their names
gate_kept : (n m : Named) → ((k : ℕ) → k < length n.names → name_of_net m k ≡ name_of_net n k) → (g : Gate ℕ) → g.out < length n.names → AllByRecursion (IsNet n) g.ins → renamed_gate (name_of_net m) g ≡ renamed_gate (name_of_net n) g
gate_kept n m kept g out ins =
    let one : name_of_net m g.out ≡ name_of_net n g.out = kept g.out out in
    let two : map (name_of_net m) g.ins ≡ map (name_of_net n) g.ins = same_map_at (name_of_net m) (name_of_net n) (IsNet n) kept g.ins ins in
    λ i. record { op = g.op; out = one i; ins = two i }

two_at : {X Y : Type 0} (f g : X → Y) (P Q : X → Type 0) → ((x : X) → P x → Q x → f x ≡ g x) → (xs : List X) → AllByRecursion P xs → AllByRecursion Q xs → map f xs ≡ map g xs
two_at f g P Q e [] h k = refl
two_at f g P Q e (x ∷ xs) h k = λ i. e x h.0 k.0 i ∷ two_at f g P Q e xs h.1 k.1 i

gates_kept : (n m : Named) → IsConsistent n → ((k : ℕ) → k < length n.names → name_of_net m k ≡ name_of_net n k) → map (renamed_gate (name_of_net m)) n.netlist.gates ≡ map (renamed_gate (name_of_net n)) n.netlist.gates
gates_kept n m h kept =
    let nets = recursion_from_All (IsNet n) (driven n.netlist) h.drives_nets in
    let reading = recursion_from_All (IsNet n) (reads n.netlist) h.reads_nets in
    let outs = all_front (IsNet n) (map (λ p. p.out) n.netlist.gates) (map (λ f. f.q) n.netlist.flops) (all_back (IsNet n) n.netlist.inputs (map (λ p. p.out) n.netlist.gates ++ map (λ f. f.q) n.netlist.flops) nets) in
    let ins = all_front (IsNet n) (flat_map (λ (p : Gate ℕ). p.ins) n.netlist.gates) (map (λ f. f.d) n.netlist.flops) (all_back (IsNet n) n.netlist.outputs (flat_map (λ (p : Gate ℕ). p.ins) n.netlist.gates ++ map (λ f. f.d) n.netlist.flops) reading) in
    two_at (renamed_gate (name_of_net m)) (renamed_gate (name_of_net n)) (λ (p : Gate ℕ). IsNet n p.out) (λ (p : Gate ℕ). AllByRecursion (IsNet n) p.ins) (gate_kept n m kept) n.netlist.gates
    (all_map (IsNet n) (λ p. IsNet n p.out) (λ p. p.out) (λ p k. k) n.netlist.gates outs) (all_parts (IsNet n) (λ (p : Gate ℕ). p.ins) n.netlist.gates ins)

flop_kept : (n m : Named) → ((k : ℕ) → k < length n.names → name_of_net m k ≡ name_of_net n k) → (f : Flop ℕ) → f.q < length n.names → f.d < length n.names → renamed_flop (name_of_net m) f ≡ renamed_flop (name_of_net n) f
flop_kept n m kept f q d = λ i. record { q = kept f.q q i; d = kept f.d d i }

flops_kept : (n m : Named) → IsConsistent n → ((k : ℕ) → k < length n.names → name_of_net m k ≡ name_of_net n k) → map (renamed_flop (name_of_net m)) n.netlist.flops ≡ map (renamed_flop (name_of_net n)) n.netlist.flops
flops_kept n m h kept =
    let nets = recursion_from_All (IsNet n) (driven n.netlist) h.drives_nets in
    let reading = recursion_from_All (IsNet n) (reads n.netlist) h.reads_nets in
    let qs = all_back (IsNet n) (map (λ (p : Gate ℕ). p.out) n.netlist.gates) (map (λ p. p.q) n.netlist.flops) (all_back (IsNet n) n.netlist.inputs (map (λ p. p.out) n.netlist.gates ++ map (λ p. p.q) n.netlist.flops) nets) in
    let ds = all_back (IsNet n) (flat_map (λ (p : Gate ℕ). p.ins) n.netlist.gates) (map (λ p. p.d) n.netlist.flops) (all_back (IsNet n) n.netlist.outputs (flat_map (λ (p : Gate ℕ). p.ins) n.netlist.gates ++ map (λ p. p.d) n.netlist.flops) reading) in
    two_at (renamed_flop (name_of_net m)) (renamed_flop (name_of_net n)) (λ (p : Flop ℕ). IsNet n p.q) (λ (p : Flop ℕ). IsNet n p.d) (flop_kept n m kept) n.netlist.flops
    (all_map (IsNet n) (λ p. IsNet n p.q) (λ p. p.q) (λ p k. k) n.netlist.flops qs) (all_map (IsNet n) (λ p. IsNet n p.d) (λ p. p.d) (λ p k. k) n.netlist.flops ds)

-- a net's bit stands, and is not the clock's
pub bit_of_net : (a : Named) (net : ℕ) → IsNamed a → net < length a.names → IsBit a.variables (name_of_net a net)
bit_of_net a net h within = h.consistent.bits net none within

not_clock : (a : Named) (net : ℕ) → IsNamed a → net < length a.names → ForSome a.clock (λ c. name_of_net a net ≢ c)
not_clock a net h within = λ c e. h.consistent.apart_from_clock c e net none within

contains_net : (a : Named) (net : ℕ) → net < length a.names → Contains a.names (name_of_net a net)
contains_net a net h = Contains-get_or a.names net none h

-- a net of the netlist, drawn
pub drawn_net : (a n : Named) (gates : List (Gate ℕ)) (flops : List (Flop ℕ)) (net : ℕ) → IsNamed a → IsDrawn a n gates flops → net < length a.names → IsDrawn a (with_net n (name_of_net a net)) gates flops
drawn_net a n gates flops net h d within =
    let bit : BitName = name_of_net a net in
    let stands : IsBit n.variables bit = subst (λ vs. IsBit vs bit) (sym d.variables) (bit_of_net a net h within) in
    let apart : ForSome n.clock (λ c. bit ≢ c) = subst (λ o. ForSome o (λ c. bit ≢ c)) (sym d.clock) (not_clock a net h within) in
    let kept : (k : ℕ) → k < length n.names → name_of_net (with_net n bit) k ≡ name_of_net n k = name_kept n bit in
    record {
      module_name = d.module_name;
      variables = d.variables;
      clock = d.clock;
      consistent = net_fits n bit d.consistent stands apart;
      within = all_in (list_any (bit_eq bit) n.names) bit (contains_net a net within) d.within;
      alike = all_apart (list_any (bit_eq bit) n.names) refl bit d.alike;
      gates_are = gates_kept n (with_net n bit) d.consistent kept ∙ d.gates_are;
      flops_are = flops_kept n (with_net n bit) d.consistent kept ∙ d.flops_are;
    }
  where
    all_in : (b : Bool) (bit : BitName) → Contains a.names bit → AllByRecursion (Contains a.names) n.names → AllByRecursion (Contains a.names) (if b then n.names else n.names ++ bit ∷ [])
    all_in true bit c k = k
    all_in false bit c k = all_join (Contains a.names) n.names (bit ∷ []) k (c, tt)

    all_apart : (b : Bool) → list_any (bit_eq (name_of_net a net)) n.names ≡ b → (bit : BitName) → AllPairs (λ x y. x ≢ y) n.names → AllPairs (λ x y. x ≢ y) (if b then n.names else n.names ++ name_of_net a net ∷ [])
    all_apart true e bit k = k
    all_apart false e bit k = alike_push n.names (name_of_net a net) k e

-- and they are few enough
pub drawn_few : (a n : Named) (gates : List (Gate ℕ)) (flops : List (Flop ℕ)) → IsBuildable a → IsDrawn a n gates flops → length n.names ≤ net_limit
drawn_few a n gates flops h d = omega (arith, alike_few n.names a.names d.alike d.within, h.nets)

-- a gate of the netlist, drawn
pub drawn_gate : (a n : Named) (gates : List (Gate ℕ)) (flops : List (Flop ℕ)) (g : Gate ℕ) (out : ℕ) (ins : List ℕ) → IsDrawn a n gates flops → IsGateOf a g → out < length n.names → All (λ net. net < length n.names) ins
    → name_of_net n out ≡ name_of_net a g.out → map (name_of_net n) ins ≡ map (name_of_net a) g.ins → IsDrawn a (with_gate n g.op out ins) (gates ++ g ∷ []) flops
drawn_gate a n gates flops g out ins d h below_out below_ins same_out same_ins =
    let long : length ins ≡ length g.ins = sym (length_map (name_of_net n) ins) ∙ ap length same_ins ∙ length_map (name_of_net a) g.ins in
    let new : Gate ℕ = record { op = g.op; out = out; ins = ins } in
    let one : renamed_gate (name_of_net n) new ≡ renamed_gate (name_of_net a) g = λ i. record { op = g.op; out = same_out i; ins = same_ins i } in
    record {
      module_name = d.module_name;
      variables = d.variables;
      clock = d.clock;
      consistent = gate_fits n g.op out ins d.consistent below_out below_ins (subst (IsArity g.op) (sym long) h.arity);
      within = d.within;
      alike = d.alike;
      gates_are = map_join (renamed_gate (name_of_net n)) n.netlist.gates (new ∷ []) ∙ (λ i. d.gates_are i ++ one i ∷ []) ∙ sym (map_join (renamed_gate (name_of_net a)) gates (g ∷ []));
      flops_are = d.flops_are;
    }

-- a flip-flop of the netlist, drawn
pub drawn_flop : (a n : Named) (gates : List (Gate ℕ)) (flops : List (Flop ℕ)) (f : Flop ℕ) (q d : ℕ) → IsDrawn a n gates flops → q < length n.names → d < length n.names → name_of_net n q ≡ name_of_net a f.q → name_of_net n d ≡ name_of_net a f.d
    → IsDrawn a (with_flop n q d) gates (flops ++ f ∷ [])
drawn_flop a n gates flops f q d w below_q below_d same_q same_d =
    let new : Flop ℕ = record { q = q; d = d } in
    let one : renamed_flop (name_of_net n) new ≡ renamed_flop (name_of_net a) f = λ i. record { q = same_q i; d = same_d i } in
    record {
      module_name = w.module_name;
      variables = w.variables;
      clock = w.clock;
      consistent = flop_fits n q d w.consistent below_q below_d;
      within = w.within;
      alike = w.alike;
      gates_are = w.gates_are;
      flops_are = map_join (renamed_flop (name_of_net n)) n.netlist.flops (new ∷ []) ∙ (λ i. w.flops_are i ++ one i ∷ []) ∙ sym (map_join (renamed_flop (name_of_net a)) flops (f ∷ []));
    }

among_all : (c : Option BitName) (vs : List Entry) → ForSome c (IsClock vs) → clock_among c (length vs) ≡ c
among_all None vs h = refl
among_all (Some c) vs h =
    let within : c.variable < length vs = slice_get_within vs c.variable (h c refl).stands.entry (h c refl).stands.stands in
    let t : nat_lt c.variable (length vs) ≡ true = grind (arith, nat_tests) in
    rw t refl

-- all variables declared, nothing else
pub declared_drawn : (a n : Named) → IsNamed a → IsDeclared a n [] → IsDrawn a n [] []
declared_drawn a n h d =
    let vs : n.variables ≡ a.variables = sym (append-nil n.variables) ∙ d.variables in
    record {
      module_name = d.module_name;
      variables = vs;
      clock = d.clock ∙ ap (λ ws. clock_among a.clock (length ws)) vs ∙ among_all a.clock a.variables h.consistent.clock;
      consistent = d.consistent;
      within = subst (AllByRecursion (Contains a.names)) (sym d.names) (front_within a n.variables [] h d.variables);
      alike = subst (AllPairs (λ x y. x ≢ y)) (sym d.names) (role_alike is_port a.clock 0 n.variables);
      gates_are = ap (map (renamed_gate (name_of_net n))) d.gates;
      flops_are = ap (map (renamed_flop (name_of_net n))) d.flops;
    }

-- every net is driven once
names_driven : (a n : Named) → IsNamed a → IsDrawn a n a.netlist.gates a.netlist.flops → map (name_of_net n) (driven n.netlist) ≡ map (name_of_net a) (driven a.netlist)
names_driven a n h d =
    let f : ℕ → BitName = name_of_net n in
    let g : ℕ → BitName = name_of_net a in
    let outs_n : List ℕ = map (λ (p : Gate ℕ). p.out) n.netlist.gates in
    let outs_a : List ℕ = map (λ (p : Gate ℕ). p.out) a.netlist.gates in
    let qs_n : List ℕ = map (λ (p : Flop ℕ). p.q) n.netlist.flops in
    let qs_a : List ℕ = map (λ (p : Flop ℕ). p.q) a.netlist.flops in
    let inputs : map f n.netlist.inputs ≡ map g a.netlist.inputs = d.consistent.inputs ∙ (λ i. role_bits is_input (d.clock i) 0 (d.variables i)) ∙ sym h.consistent.inputs in
    let outs : map f outs_n ≡ map g outs_a =
    map_twice f (λ (p : Gate ℕ). p.out) n.netlist.gates ∙ sym (map_twice (λ (p : Gate BitName). p.out) (renamed_gate f) n.netlist.gates) ∙ ap (map (λ (p : Gate BitName). p.out)) d.gates_are
    ∙ map_twice (λ (p : Gate BitName). p.out) (renamed_gate g) a.netlist.gates ∙ sym (map_twice g (λ (p : Gate ℕ). p.out) a.netlist.gates) in
    let qs : map f qs_n ≡ map g qs_a =
    map_twice f (λ (p : Flop ℕ). p.q) n.netlist.flops ∙ sym (map_twice (λ (p : Flop BitName). p.q) (renamed_flop f) n.netlist.flops) ∙ ap (map (λ (p : Flop BitName). p.q)) d.flops_are
    ∙ map_twice (λ (p : Flop BitName). p.q) (renamed_flop g) a.netlist.flops ∙ sym (map_twice g (λ (p : Flop ℕ). p.q) a.netlist.flops) in
    map_join f n.netlist.inputs (outs_n ++ qs_n) ∙ ap (λ z. map f n.netlist.inputs ++ z) (map_join f outs_n qs_n) ∙ (λ i. inputs i ++ (outs i ++ qs i))
    ∙ sym (map_join g a.netlist.inputs (outs_a ++ qs_a) ∙ ap (λ z. map g a.netlist.inputs ++ z) (map_join g outs_a qs_a))

default_same : (bs : List BitName) (k : ℕ) (x y : BitName) → k < length bs → get_or bs k x ≡ get_or bs k y
default_same [] k x y h = absurd (omega arith)
default_same (b ∷ bs) zero x y h = refl
default_same (b ∷ bs) (suc k) x y h = default_same bs k x y (omega arith)

pub driven_once : (a n : Named) → IsNamed a → IsDrawn a n a.netlist.gates a.netlist.flops → (m : ℕ) → m < length n.names → times m (driven n.netlist) ≡ 1
driven_once a n h d m within =
    let there : Contains a.names (name_of_net n m) = All-from_recursion (Contains a.names) n.names d.within m none within in
    let k : ℕ = there.0 in
    let bit : name_of_net a k ≡ name_of_net n m = default_same a.names k none (name_of_net n m) there.1 ∙ there.2 in
    let of_n = times_stands n.names m (driven n.netlist) d.alike within (recursion_from_All (IsNet n) (driven n.netlist) d.consistent.drives_nets) in
    let of_a = times_stands a.names k (driven a.netlist) h.alike there.1 (recursion_from_All (IsNet a) (driven a.netlist) h.consistent.drives_nets) in
    let net : k < length (driven a.netlist) = subst (λ l. k < l) h.names there.1 in
    of_n ∙ (λ i. stands (sym bit i) (names_driven a n h d i)) ∙ sym of_a ∙ h.netlist.one_driver k net

-- a clock stands exactly where flip-flops do
pub drawn_clocked : (a n : Named) → IsNamed a → IsDrawn a n a.netlist.gates a.netlist.flops → IsSome n.clock ↔ (0 < length n.netlist.flops)
drawn_clocked a n h d =
    let long : length n.netlist.flops ≡ length a.netlist.flops = sym (length_map (renamed_flop (name_of_net n)) n.netlist.flops) ∙ ap length d.flops_are ∙ length_map (renamed_flop (name_of_net a)) a.netlist.flops in
    subst (λ l. IsSome n.clock ↔ (0 < l)) (sym long) (subst (λ c. IsSome c ↔ (0 < length a.netlist.flops)) (sym d.clock) h.clocked)
