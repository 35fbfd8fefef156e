-- Ranks of a sample's nets: inputs and flip-flops below all gates, gates in the order in which they are drawn, outputs above them.
use Rattle.std.proofs.Common.{◌≡◌, ℕ, ◌+◌, ◌-◌, ◌*◌, ◌<◌, ◌≤◌, nat_lt, Bool, true, false, map, if◌then◌else◌, refl, arith}
use Rattle.std.proofs.lemmas.Bool.Decides.{nat_tests}
use Rattle.std.specs.List.{range_with_len}
use Rattle.bb_base.proofs.Lists.{all_join}
use Rattle.bb_base.specs.Order.{HasOrder, HasRanks, FallsAlong}
use Rattle.bb_runs.proofs.Ranks.{ranks_order}
use Rattle.bb_sample.specs.Draws.{draw, generator_after}
use Rattle.bb_sample.specs.Sample.{input_count, output_count, flop_count, gate_net, pool_size, pool_net, gate_at, buffer_at, sample_netlist, sample_of}
use Rattle.bb_sample.proofs.DrawLemmas.{drawn_below}
use Rattle.bb_sample.proofs.NetLemmas.{inputs_are}
use Rattle.bb_sample.proofs.GateLemmas.{all_given}
use Rattle.bb_sample.proofs.WholeLemmas.{netlist_fits}

-- over any sizes of i, o, q and g
abbrev rank_in : ℕ → ℕ → ℕ → ℕ → ℕ → ℕ
rank_in w t f n net = if nat_lt net w then 0 else (if nat_lt net (w + t) then n + 1 else (net + 1) - (w + t + f))

gate_rank : (w t f n j : ℕ) → rank_in w t f n (w + t + f + j) ≡ j + 1
gate_rank w t f n j = by (nat_lt (w + t + f + j) w) refl (nat_lt (w + t + f + j) (w + t)) refl
  where
    by : (a : Bool) → nat_lt (w + t + f + j) w ≡ a → (b : Bool) → nat_lt (w + t + f + j) (w + t) ≡ b → (if a then 0 else (if b then n + 1 else (w + t + f + j + 1) - (w + t + f))) ≡ j + 1
    by true x b y = absurd (let less : w + t + f + j < w = grind (arith, nat_tests, x) in omega (arith, less))
    by false x true y = absurd (let less : w + t + f + j < w + t = grind (arith, nat_tests, y) in omega (arith, less))
    by false x false y = omega arith

output_rank : (w t f n j : ℕ) → j < t → rank_in w t f n (w + j) ≡ n + 1
output_rank w t f n j within = by (nat_lt (w + j) w) refl (nat_lt (w + j) (w + t)) refl
  where
    by : (a : Bool) → nat_lt (w + j) w ≡ a → (b : Bool) → nat_lt (w + j) (w + t) ≡ b → (if a then 0 else (if b then n + 1 else (w + j + 1) - (w + t + f))) ≡ n + 1
    by true x b y = absurd (let less : w + j < w = grind (arith, nat_tests, x) in omega (arith, less))
    by false x true y = refl
    by false x false y = absurd (let past : w + t ≤ w + j = grind (arith, nat_tests, y) in omega (arith, past, within))

-- a net of o's is none that a gate may read
pool_rank : (w t f n j place : ℕ) → place < w + f + j → rank_in w t f n (if nat_lt place w then place else place + t) ≤ j
pool_rank w t f n j place within = by (nat_lt place w) refl
  where
    behind : (a : Bool) → nat_lt (place + t) w ≡ a → (b : Bool) → nat_lt (place + t) (w + t) ≡ b → w ≤ place → (if a then 0 else (if b then n + 1 else (place + t + 1) - (w + t + f))) ≤ j
    behind true x b y past = omega arith
    behind false x true y past = absurd (let less : place + t < w + t = grind (arith, nat_tests, y) in omega (arith, less, past))
    behind false x false y past = omega (arith, within)

    front : (a : Bool) → nat_lt place w ≡ a → place < w → (if a then 0 else (if nat_lt place (w + t) then n + 1 else (place + 1) - (w + t + f))) ≤ j
    front true x less = omega arith
    front false x less = absurd (let past : w ≤ place = grind (arith, nat_tests, x) in omega (arith, past, less))

    by : (c : Bool) → nat_lt place w ≡ c → rank_in w t f n (if c then place else place + t) ≤ j
    by true e = front (nat_lt place w) refl (grind (arith, nat_tests, e))
    by false e = behind (nat_lt (place + t) w) refl (nat_lt (place + t) (w + t)) refl (grind (arith, nat_tests, e))

module _ (number : ℕ) where
  abbrev rank : ℕ → ℕ
  rank net = rank_in input_count (output_count number) (flop_count number) number net

  read_low : (j k : ℕ) → rank (pool_net number (draw number k (pool_size number j))) < rank (gate_net number j)
  read_low j k =
      let some : 0 < pool_size number j = omega (arith, inputs_are) in
      let place = draw number k (pool_size number j) in
      let within : place < pool_size number j = drawn_below (generator_after number (k + 1)) (pool_size number j) some in
      let low = pool_rank input_count (output_count number) (flop_count number) number j place within in
      let high = gate_rank input_count (output_count number) (flop_count number) number j in
      omega (arith, low, high)

  buffer_falls : 1 ≤ number → (j : ℕ) → j < output_count number → FallsAlong rank (buffer_at number j)
  buffer_falls some j within =
      let low = gate_rank input_count (output_count number) (flop_count number) number (number - 1 - j) in
      let high = output_rank input_count (output_count number) (flop_count number) number j within in
      (omega (arith, low, high, some), tt)

  sample_ranks : 1 ≤ number → HasRanks (sample_netlist number).gates
  sample_ranks some = (
    rank,
    all_join (FallsAlong rank) (map (gate_at number) (range_with_len 0 number)) (map (buffer_at number) (range_with_len 0 (output_count number)))
        (all_given (FallsAlong rank) (gate_at number) number (λ j within. (read_low j (3 * j + 1), (read_low j (3 * j + 2), tt))))
        (all_given (FallsAlong rank) (buffer_at number) (output_count number) (buffer_falls some)),
  )

pub sample_order : (number : ℕ) → 1 ≤ number → number ≤ 65536 → HasOrder (sample_of number).netlist.gates
sample_order number some few = ranks_order (sample_netlist number) (netlist_fits number some few) (sample_ranks number some)
