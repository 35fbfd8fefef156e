-- What stands stays while rows are added, and all of them together.
use Rattle.std.proofs.Common.{arith, ◌≡◌, ℕ, ◌+◌, List, [], ◌∷◌, ◌++◌, map, length, length-append, append_assoc, sym, ap, subst, ◌∙◌}
use Rattle.std.specs.List.{AllByRecursion}
use Rattle.bb_base.proofs.Lists.{map_join, length_map}
use Rattle.bb_base.specs.Net.{Gate, Flop, renamed_gate, renamed_flop}
use Rattle.bb_base.specs.Named.{Named}
use Rattle.bb_base.specs.Building.{with_gates, with_flops}
use Rattle.bb_terms.specs.declared.wire.Wire.{Wire}
use Rattle.bb_terms.specs.Numbering.{net_at, HasWire, HasDistinctNets}
use Rattle.bb_ctl.proofs.NetLemmas.{still_distinct, still_stands, all_still_stand}
use Rattle.bb_lay.specs.Laying.{HasBothWires}

pub distinct_after : (b n : Named) (gates : List (Gate ℕ)) → n ≡ with_gates b gates → HasDistinctNets b → HasDistinctNets n
distinct_after b n gates e h = subst HasDistinctNets (sym e) (still_distinct b gates h)

pub stand_after : (b n : Named) (gates : List (Gate ℕ)) (kept : List ℕ) (ws : List Wire) → n ≡ with_gates b gates → AllByRecursion (HasWire b kept) ws → AllByRecursion (HasWire n kept) ws
stand_after b n gates kept ws e h = subst (λ (k : Named). AllByRecursion (HasWire k kept) ws) (sym e) (all_still_stand b gates kept ws h)

both_still : (b : Named) (gates : List (Gate ℕ)) (kept : List ℕ) (fs : List (Flop Wire)) → AllByRecursion (HasBothWires b kept) fs → AllByRecursion (HasBothWires (with_gates b gates) kept) fs
both_still b gates kept [] h = tt
both_still b gates kept (f ∷ fs) h = ((still_stands b gates kept f.q h.0.0, still_stands b gates kept f.d h.0.1), both_still b gates kept fs h.1)

pub both_after : (b n : Named) (gates : List (Gate ℕ)) (kept : List ℕ) (fs : List (Flop Wire)) → n ≡ with_gates b gates → AllByRecursion (HasBothWires b kept) fs → AllByRecursion (HasBothWires n kept) fs
both_after b n gates kept fs e h = subst (λ (k : Named). AllByRecursion (HasBothWires k kept) fs) (sym e) (both_still b gates kept fs h)

-- more rows behind rows
pub rows_joined : (b n m : Named) (kept : List ℕ) (xs ys : List (Gate Wire)) → n ≡ with_gates b (map (renamed_gate (net_at b kept)) xs) → m ≡ with_gates n (map (renamed_gate (net_at n kept)) ys)
    → m ≡ with_gates b (map (renamed_gate (net_at b kept)) (xs ++ ys))
rows_joined b n m kept xs ys e k =
    let f : Gate Wire → Gate ℕ = renamed_gate (net_at b kept) in
    k ∙ ap (λ (o : Named). with_gates o (map (renamed_gate (net_at o kept)) ys)) e ∙ ap (λ gates. record b { netlist = record b.netlist { gates = gates } }) (append_assoc b.netlist.gates (map f xs) (map f ys))
    ∙ ap (with_gates b) (sym (map_join f xs ys))

pub rows_long : (b n : Named) (kept : List ℕ) (xs : List (Gate Wire)) → n ≡ with_gates b (map (renamed_gate (net_at b kept)) xs) → length n.netlist.gates ≡ length b.netlist.gates + length xs
rows_long b n kept xs e =
    let f : Gate Wire → Gate ℕ = renamed_gate (net_at b kept) in
    omega (arith, ap (λ (k : Named). length k.netlist.gates) e, length-append b.netlist.gates (map f xs), length_map f xs)

-- all rows and flip-flops
pub all_filled : (b one two three four : Named) (kept : List ℕ) (xs ys zs : List (Gate Wire)) (fs : List (Flop Wire)) → one ≡ with_gates b (map (renamed_gate (net_at b kept)) xs) → two ≡ with_gates one (map (renamed_gate (net_at one kept)) ys)
    → three ≡ with_gates two (map (renamed_gate (net_at two kept)) zs) → four ≡ with_flops three (map (renamed_flop (net_at three kept)) fs)
    → four ≡ with_flops (with_gates b (map (renamed_gate (net_at b kept)) (xs ++ (ys ++ zs)))) (map (renamed_flop (net_at b kept)) fs)
all_filled b one two three four kept xs ys zs fs e f g h =
    let all = rows_joined b two three kept (xs ++ ys) zs (rows_joined b one two kept xs ys e f) g ∙ ap (λ rows. with_gates b (map (renamed_gate (net_at b kept)) rows)) (append_assoc xs ys zs) in
    h ∙ ap (λ (o : Named). with_flops o (map (renamed_flop (net_at o kept)) fs)) all
