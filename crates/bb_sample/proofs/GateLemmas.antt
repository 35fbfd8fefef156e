-- Gates and flip-flops that are added one after another, and what those of a sample read.
use Rattle.std.proofs.Common.{◌≡◌, ℕ, zero, suc, ◌+◌, ◌-◌, ◌*◌, ◌<◌, ◌≤◌, List, [], ◌∷◌, ◌++◌, length, map, All, refl, sym, ap, ◌∙◌, arith, append_assoc, append-nil, length-append, zero-add}
use Rattle.std.proofs.lemmas.List.Elements.{All-append, All-from_recursion, recursion_from_All}
use Rattle.std.proofs.lemmas.List.FromFn.{map-range_with_len_more, length-map-range_with_len}
use Rattle.std.specs.List.{AllByRecursion, range_with_len, flat_map}
use Rattle.bb_base.specs.Operators.{IsArity}
use Rattle.bb_base.proofs.Lists.{all_join, all_map_back}
use Rattle.bb_base.specs.Net.{Gate, Flop, reads, HasArity}
use Rattle.bb_base.specs.Named.{Named}
use Rattle.bb_base.specs.Building.{with_gates, with_flops}
use Rattle.bb_sample.specs.Draws.{draw, generator_after}
use Rattle.bb_sample.specs.Sample.{input_count, output_count, flop_count, net_count, gate_net, pool_size, pool_net, operator_of, gate_at, buffer_at, flop_at, sample_netlist}
use Rattle.bb_sample.proofs.DrawLemmas.{drawn_below}
use Rattle.bb_sample.proofs.NetLemmas.{inputs_are, range_under, pool_before, gate_stands}

-- none, and one more
pub no_gates : (n : Named) → with_gates n [] ≡ n
no_gates n = ap (λ gs. record n { netlist = record n.netlist { gates = gs } }) (append-nil n.netlist.gates)

pub gates_more : (old now new : Named) (f : ℕ → Gate ℕ) (j : ℕ) → now ≡ with_gates old (map f (range_with_len 0 j)) → new ≡ with_gates now (f j ∷ []) → new ≡ with_gates old (map f (range_with_len 0 (j + 1)))
gates_more old now new f j so_far added =
    let gs : List (Gate ℕ) = map f (range_with_len 0 j) in
    let next : map f (range_with_len 0 (j + 1)) ≡ gs ++ f j ∷ [] = map-range_with_len_more f 0 j j (zero-add j) in
    added ∙ ap (λ (k : Named). with_gates k (f j ∷ [])) so_far ∙ ap (λ ks. record old { netlist = record old.netlist { gates = ks } }) (append_assoc old.netlist.gates gs (f j ∷ [])) ∙ ap (with_gates old) (sym next)

pub gates_long : (old now : Named) (f : ℕ → Gate ℕ) (j : ℕ) → now ≡ with_gates old (map f (range_with_len 0 j)) → length now.netlist.gates ≡ length old.netlist.gates + j
gates_long old now f j e =
    let all = ap (λ (k : Named). length k.netlist.gates) e in
    omega (arith, all, length-append old.netlist.gates (map f (range_with_len 0 j)), length-map-range_with_len f 0 j)

pub no_flops : (n : Named) → with_flops n [] ≡ n
no_flops n = ap (λ fs. record n { netlist = record n.netlist { flops = fs } }) (append-nil n.netlist.flops)

pub flops_more : (old now new : Named) (f : ℕ → Flop ℕ) (j : ℕ) → now ≡ with_flops old (map f (range_with_len 0 j)) → new ≡ with_flops now (f j ∷ []) → new ≡ with_flops old (map f (range_with_len 0 (j + 1)))
flops_more old now new f j so_far added =
    let fs : List (Flop ℕ) = map f (range_with_len 0 j) in
    let next : map f (range_with_len 0 (j + 1)) ≡ fs ++ f j ∷ [] = map-range_with_len_more f 0 j j (zero-add j) in
    added ∙ ap (λ (k : Named). with_flops k (f j ∷ [])) so_far ∙ ap (λ ks. record old { netlist = record old.netlist { flops = ks } }) (append_assoc old.netlist.flops fs (f j ∷ [])) ∙ ap (with_flops old) (sym next)

pub flops_long : (old now : Named) (f : ℕ → Flop ℕ) (j : ℕ) → now ≡ with_flops old (map f (range_with_len 0 j)) → length now.netlist.flops ≡ length old.netlist.flops + j
flops_long old now f j e =
    let all = ap (λ (k : Named). length k.netlist.flops) e in
    omega (arith, all, length-append old.netlist.flops (map f (range_with_len 0 j)), length-map-range_with_len f 0 j)

-- a fact of both inputs of a gate, and of a gate's one input
pub both : (P : ℕ → Type 0) (a b : ℕ) → P a → P b → All P (a ∷ b ∷ [])
both P a b h k = All-from_recursion P (a ∷ b ∷ []) (h, (k, tt))

pub only : (P : ℕ → Type 0) (a : ℕ) → P a → All P (a ∷ [])
only P a h = All-from_recursion P (a ∷ []) (h, tt)

-- every operator that is drawn takes two inputs
pub takes_two : (k : ℕ) → IsArity (operator_of k) 2
takes_two zero = omega arith
takes_two (suc zero) = omega arith
takes_two (suc (suc zero)) = omega arith
takes_two (suc (suc (suc zero))) = omega arith
takes_two (suc (suc (suc (suc zero)))) = omega arith
takes_two (suc (suc (suc (suc (suc zero))))) = omega arith
takes_two (suc (suc (suc (suc (suc (suc k)))))) = omega arith

-- what holds of all numbers below a count holds of what they give
pub all_given : {X : Type 0} (P : X → Type 0) (f : ℕ → X) (n : ℕ) → ((j : ℕ) → j < n → P (f j)) → AllByRecursion P (map f (range_with_len 0 n))
all_given P f n each = all_map_back P (λ j. j < n) f each (range_with_len 0 n) (recursion_from_All (λ j. j < n) (range_with_len 0 n) (range_under 0 n n (omega arith)))

-- facts of all items of lists one after another
all_flat : {X Y : Type 0} (P : Y → Type 0) (f : X → List Y) (xs : List X) → AllByRecursion (λ x. AllByRecursion P (f x)) xs → AllByRecursion P (flat_map f xs)
all_flat P f [] h = tt
all_flat P f (x ∷ xs) h = all_join P (f x) (flat_map f xs) h.0 (all_flat P f xs h.1)

-- a draw among the nets that gate j may read comes before its output
pub draw_before : (number j k : ℕ) → pool_net number (draw number k (pool_size number j)) < gate_net number j
draw_before number j k =
    let some : 0 < pool_size number j = omega (arith, inputs_are) in
    pool_before number j (draw number k (pool_size number j)) (drawn_below (generator_after number (k + 1)) (pool_size number j) some)

module _ (number : ℕ) (some : 1 ≤ number) where
  abbrev Stands : ℕ → Type 0
  Stands net = net < net_count number

  abbrev ReadsNets : Gate ℕ → Type 0
  ReadsNets g = AllByRecursion Stands g.ins

  abbrev TakesNet : Flop ℕ → Type 0
  TakesNet f = Stands f.d

  gate_reads : (j : ℕ) → j < number → ReadsNets (gate_at number j)
  gate_reads j within =
      let stands = gate_stands number j within in
      (omega (arith, stands, draw_before number j (3 * j + 1)), (omega (arith, stands, draw_before number j (3 * j + 2)), tt))

  buffer_reads : (j : ℕ) → j < output_count number → ReadsNets (buffer_at number j)
  buffer_reads j within = (gate_stands number (number - 1 - j) (omega (arith, some)), tt)

  flop_takes : (i : ℕ) → i < flop_count number → TakesNet (flop_at number i)
  flop_takes i within = gate_stands number (draw number (3 * number + i) number) (drawn_below (generator_after number (3 * number + i + 1)) number some)

  all_gates_read : All Stands (flat_map (λ (g : Gate ℕ). g.ins) (sample_netlist number).gates)
  all_gates_read =
      let gs : List (Gate ℕ) = map (gate_at number) (range_with_len 0 number) in
      let bs : List (Gate ℕ) = map (buffer_at number) (range_with_len 0 (output_count number)) in
      All-from_recursion Stands (flat_map (λ (g : Gate ℕ). g.ins) (gs ++ bs))
      (all_flat Stands (λ (g : Gate ℕ). g.ins) (gs ++ bs) (all_join ReadsNets gs bs (all_given ReadsNets (gate_at number) number gate_reads) (all_given ReadsNets (buffer_at number) (output_count number) buffer_reads)))

  all_flops_take : All Stands (map (λ (f : Flop ℕ). f.d) (sample_netlist number).flops)
  all_flops_take =
      let fs : List (Flop ℕ) = map (flop_at number) (range_with_len 0 (flop_count number)) in
      All-from_recursion Stands (map (λ (f : Flop ℕ). f.d) fs) (all_map_back Stands TakesNet (λ (f : Flop ℕ). f.d) (λ f h. h) fs (all_given TakesNet (flop_at number) (flop_count number) flop_takes))

  pub reads_below : All (λ net. net < net_count number) (reads (sample_netlist number))
  reads_below =
      let outputs : input_count + output_count number ≤ net_count number = omega arith in
      All-append Stands (range_with_len input_count (output_count number)) _ (range_under input_count (output_count number) (net_count number) outputs)
      (All-append Stands (flat_map (λ (g : Gate ℕ). g.ins) (sample_netlist number).gates) (map (λ (f : Flop ℕ). f.d) (sample_netlist number).flops) all_gates_read all_flops_take)

pub all_fit : (number : ℕ) → All HasArity (sample_netlist number).gates
all_fit number =
    All-from_recursion HasArity (sample_netlist number).gates
    (all_join HasArity (map (gate_at number) (range_with_len 0 number)) (map (buffer_at number) (range_with_len 0 (output_count number)))
    (all_given HasArity (gate_at number) number (λ j within. takes_two (draw number (3 * j) 6))) (all_given HasArity (buffer_at number) (output_count number) (λ j within. refl)))
