-- Flip-flops, and the wires of rows, one after another.
use Rattle.std.proofs.Common.{arith, ◌≡◌, ℕ, ◌+◌, ◌-◌, ◌<◌, suc, List, [], ◌∷◌, ◌++◌, map, filter, take, drop, cond, Bool, true, Some, slice_get, sym, ap, ◌∙◌, append_assoc}
use Rattle.bb_base.proofs.Lists.{map_join}
use Rattle.bb_base.specs.Net.{Flop, renamed_flop}
use Rattle.bb_base.specs.Named.{Named}
use Rattle.bb_base.specs.Building.{with_flop, with_flops}
use Rattle.bb_terms.specs.declared.plan.Cell.{Cell}
use Rattle.bb_terms.specs.declared.wire.Wire.{Wire}
use Rattle.bb_terms.specs.declared.wire.Wire.TheVariants.{Word, WordNext, Ring, RingNext, Next}
use Rattle.bb_terms.specs.Reads.{q_of}
use Rattle.bb_written.specs.Cells.{flop, word_flops, ring_flops, cell_flops}
use Rattle.bb_lay.proofs.Clocks.{drop_pop, take_push}

pub words_next : (i n : ℕ) → i < n → word_flops i (n - i) ≡ flop (Word i) (WordNext i) ∷ word_flops (i + 1) (n - (i + 1))
words_next i n h =
    let count : n - i ≡ suc (n - (i + 1)) = omega (arith, h) in
    let next : suc i ≡ i + 1 = omega arith in
    ap (word_flops i) count ∙ ap (λ k. flop (Word i) (WordNext i) ∷ word_flops k (n - (i + 1))) next

pub rings_next : (s n : ℕ) → s < n → ring_flops s (n - s) ≡ flop (Ring s) (RingNext s) ∷ ring_flops (s + 1) (n - (s + 1))
rings_next s n h =
    let count : n - s ≡ suc (n - (s + 1)) = omega (arith, h) in
    let next : suc s ≡ s + 1 = omega arith in
    ap (ring_flops s) count ∙ ap (λ k. flop (Ring s) (RingNext s) ∷ ring_flops k (n - (s + 1))) next

pub cells_next : (i : ℕ) (cells : List Cell) (c : Cell) → slice_get cells i ≡ Some c → cell_flops i (drop i cells) ≡ flop (q_of i c) (Next i) ∷ cell_flops (i + 1) (drop (i + 1) cells)
cells_next i cells c at =
    let next : suc i ≡ i + 1 = omega arith in
    ap (cell_flops i) (drop_pop cells i c at) ∙ ap (λ k. flop (q_of i c) (Next i) ∷ cell_flops k (drop (i + 1) cells)) next

-- a filter of what is left, with the next item
pub passed : {X : Type 0} (f : X → Wire) (test : Wire → Bool) (xs : List X) (i : ℕ) (x : X) (old all : List Wire) → slice_get xs i ≡ Some x → test (f x) ≡ true → old ++ filter test (map f (drop i xs)) ≡ all → (old ++ f x ∷ []) ++ filter test (map f (drop (i + 1) xs)) ≡ all
passed f test xs i x old all at t h =
    append_assoc old (f x ∷ []) (filter test (map f (drop (i + 1) xs))) ∙ ap (λ b. old ++ cond b (f x ∷ filter test (map f (drop (i + 1) xs))) (filter test (map f (drop (i + 1) xs)))) (sym t)
    ∙ ap (λ ks. old ++ filter test (map f ks)) (sym (drop_pop xs i x at)) ∙ h

-- a flip-flop more in a builder
pub flops_step : (fn b new : Named) (f : Wire → ℕ) (rows : List (Flop Wire)) (i q d : ℕ) (row : Flop Wire) → slice_get rows i ≡ Some row → b ≡ with_flops fn (map (renamed_flop f) (take i rows)) → q ≡ f row.q → d ≡ f row.d → new ≡ with_flop b q d
    → new ≡ with_flops fn (map (renamed_flop f) (take (i + 1) rows))
flops_step fn b new f rows i q d row at so_far q_is d_is added =
    let front : List (Flop ℕ) = map (renamed_flop f) (take i rows) in
    let all : (fn.netlist.flops ++ front) ++ record { q = f row.q; d = f row.d } ∷ [] ≡ fn.netlist.flops ++ map (renamed_flop f) (take (i + 1) rows) =
    append_assoc fn.netlist.flops front (record { q = f row.q; d = f row.d } ∷ []) ∙ ap (λ fs. fn.netlist.flops ++ fs) (sym (ap (map (renamed_flop f)) (take_push rows i row at) ∙ map_join (renamed_flop f) (take i rows) (row ∷ []))) in
    added ∙ (λ j. with_flop (so_far j) (q_is j) (d_is j)) ∙ (λ j. record fn { netlist = record fn.netlist { flops = all j } })
