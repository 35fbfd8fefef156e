-- the chain as one list of bits, and its unloading
use Rattle.std.proofs.Common.{◌≡◌, ℕ, ◌+◌, ◌*◌, ◌<◌, ◌≤◌, zero, suc, List, [], ◌∷◌, ◌++◌, length, map, Bool, true, false, not, ◌&&◌, refl, sym, ap, subst, ◌∙◌, arith, Option, Some, None}
use Rattle.std.specs.List.{flat_map}
use Rattle.bb_base.specs.Net.{Netlist}
use Rattle.bb_terms.specs.OnBits.{last_of}
use Rattle.bb_base.specs.Run.{Meets}
use Rattle.bb_terms.specs.OnBits.{shifted, zeros, bits_after}
use Rattle.bb_terms.specs.Controller.{controller}
use Rattle.bb_terms.specs.Reads.{q_of, qs_from}
use Rattle.bb_terms.specs.declared.wire.Wire.{Wire}
use Rattle.bb_terms.specs.declared.wire.Wire.TheVariants.{Test, Init, Go, Running, Shifting, Ring, Phase}
use Rattle.bb_terms.specs.Plan.{RegisterValue, PlanValue, chain}
use Rattle.bb_terms.specs.declared.plan.Cell.{Cell}
use Rattle.bb_testrun.specs.Control.{ReturnsAfter}
use Rattle.bb_testrun.specs.Held.{run_cycle_of, unload_cycle_of, held_by, shifts, held_from}
use Rattle.bb_written.specs.Modes.{bit_or_zero, EachRegister, PartMeets}
use Rattle.bb_written.specs.Trace.{IsTestTrace}
use Rattle.bb_base.proofs.Lists.{all_front}
use Rattle.bb_testrun.proofs.ControlLines.{lines, last_map}
use Rattle.bb_testrun.proofs.Phases.{unloading}
use Rattle.bb_testrun.proofs.RegisterSteps.{each_both, length_qs}
use Rattle.bb_testrun.proofs.Steps.{Loaded, shifting_on, clears}
use Rattle.bb_testrun.proofs.Induction.{now, held_at, AllZero, loaded_at, parts_at}
use Rattle.bb_written.proofs.Parts.{rows_meet}

shifted_join : {T : Type 0} (x : T) (xs ys : List T) → shifted x (xs ++ ys) ≡ shifted x xs ++ shifted (last_of x xs) ys
shifted_join x [] ys = refl
shifted_join x (y ∷ xs) ys = ap (λ zs. x ∷ zs) (shifted_join y xs ys)

last_join : {T : Type 0} (x : T) (xs ys : List T) → last_of x (xs ++ ys) ≡ last_of (last_of x xs) ys
last_join x [] ys = refl
last_join x (y ∷ xs) ys = last_join y xs ys

map_some : (v : Wire → Bool) (ws : List Wire) → map (bit_or_zero v) (map Some ws) ≡ map v ws
map_some v [] = refl
map_some v (w ∷ ws) = ap (λ bs. v w ∷ bs) (map_some v ws)

pub last_bit : (v : Wire → Bool) (before : Option Wire) (ws : List Wire) → bit_or_zero v (last_of before (map Some ws)) ≡ last_of (bit_or_zero v before) (map v ws)
last_bit v before ws = last_map (bit_or_zero v) before (map Some ws) ∙ ap (last_of (bit_or_zero v before)) (map_some v ws)

qs_join : (i : ℕ) (cs ds : List Cell) → qs_from i (cs ++ ds) ≡ qs_from i cs ++ qs_from (i + length cs) ds
qs_join i [] ds = let e : i ≡ i + 0 = omega arith in ap (λ k. qs_from k ds) e
qs_join i (c ∷ cs) ds = let e : suc i + length cs ≡ i + suc (length cs) = omega arith in ap (λ ws. q_of i c ∷ ws) (qs_join (suc i) cs ds ∙ ap (λ k. qs_from (suc i) cs ++ qs_from k ds) e)

map_join : {Word Y : Type 0} (f : Word → Y) (xs ys : List Word) → map f (xs ++ ys) ≡ map f xs ++ map f ys
map_join f [] ys = refl
map_join f (x ∷ xs) ys = ap (λ zs. f x ∷ zs) (map_join f xs ys)

bits_join : (v : Wire → Bool) (i : ℕ) (cs ds : List Cell) → map v (qs_from i (cs ++ ds)) ≡ map v (qs_from i cs) ++ map v (qs_from (i + length cs) ds)
bits_join v i cs ds = ap (map v) (qs_join i cs ds) ∙ map_join v (qs_from i cs) (qs_from (i + length cs) ds)

-- the chain shifts as one
chain_shifts : (v w : Wire → Bool) (r i : ℕ) (before : Option Wire) (gs : List RegisterValue)
    → EachRegister (λ r i before g. map w (qs_from i g.cells) ≡ shifted (bit_or_zero v before) (map v (qs_from i g.cells))) r i before gs
    → map w (qs_from i (flat_map (λ g. g.cells) gs)) ≡ shifted (bit_or_zero v before) (map v (qs_from i (flat_map (λ g. g.cells) gs)))
chain_shifts v w r i before [] h = refl
chain_shifts v w r i before (g ∷ gs) h =
    let rest = chain_shifts v w (suc r) (i + length g.cells) _ gs h.1 in
    let ds = flat_map (λ g. g.cells) gs in
    bits_join w i g.cells ds ∙ (λ j. h.0 j ++ (rest ∙ ap (λ b. shifted b (map v (qs_from (i + length g.cells) ds))) (last_bit v before (qs_from i g.cells))) j)
    ∙ sym (shifted_join (bit_or_zero v before) (map v (qs_from i g.cells)) (map v (qs_from (i + length g.cells) ds))) ∙ ap (shifted (bit_or_zero v before)) (sym (bits_join v i g.cells ds))

-- the registers' bits one after another
chain_of : (a : Netlist ℕ) (p : PlanValue) (size : ℕ) (v : ℕ → Wire → Bool) (s : ℕ) (x : Wire → Bool) (r i : ℕ) (before : Option Wire) (gs : List RegisterValue)
    → EachRegister (λ r i before g. map x (qs_from i g.cells) ≡ held_by a p size v s size r g) r i before gs → map x (qs_from i (flat_map (λ g. g.cells) gs)) ≡ held_from a p size v s r gs
chain_of a p size v s x r i before [] h = refl
chain_of a p size v s x r i before (g ∷ gs) h =
    let rest = chain_of a p size v s x (suc r) (i + length g.cells) _ gs h.1 in
    bits_join x i g.cells (flat_map (λ g. g.cells) gs) ∙ (λ j. h.0 j ++ rest j)

-- enough shifts leave 0
shifts_first : (n : ℕ) (bs : List Bool) → shifts n (false ∷ bs) ≡ false ∷ shifts n bs
shifts_first zero bs = refl
shifts_first (suc n) bs = ap (shifted false) (shifts_first n bs)

shifts_inner : (n : ℕ) (bs : List Bool) → shifts (suc n) bs ≡ shifts n (shifted false bs)
shifts_inner zero bs = refl
shifts_inner (suc n) bs = ap (shifted false) (shifts_inner n bs)

length_shifted : (x : Bool) (bs : List Bool) → length (shifted x bs) ≡ length bs
length_shifted x [] = refl
length_shifted x (b ∷ bs) = ap suc (length_shifted b bs)

shifts_nil : (n : ℕ) → shifts n [] ≡ []
shifts_nil zero = refl
shifts_nil (suc n) = ap (shifted false) (shifts_nil n)

pub shifts_out : (n : ℕ) (bs : List Bool) → length bs ≤ n → shifts n bs ≡ zeros (length bs)
shifts_out n [] h = shifts_nil n
shifts_out zero (b ∷ bs) h = absurd (omega (arith, h))
shifts_out (suc n) (b ∷ bs) h =
    shifts_inner n (b ∷ bs) ∙ shifts_first n (shifted b bs) ∙ ap (λ cs. false ∷ cs) (shifts_out n (shifted b bs) (let e : length (shifted b bs) ≡ length bs = length_shifted b bs in omega (arith, h, e)) ∙ ap zeros (length_shifted b bs))

tail_of : {Word : Type 0} → List Word → List Word
tail_of [] = []
tail_of (x ∷ xs) = xs

head_of : List Bool → Bool
head_of [] = false
head_of (x ∷ xs) = x

zero_cells : (x : Wire → Bool) (i : ℕ) (cs ds : List Cell) → map x (qs_from i (cs ++ ds)) ≡ zeros (length (cs ++ ds))
    → (map x (qs_from i cs) ≡ zeros (length cs)) × (map x (qs_from (i + length cs) ds) ≡ zeros (length ds))
unfolding tail_of head_of
zero_cells x i [] ds h = (refl, subst (λ k. map x (qs_from k ds) ≡ zeros (length ds)) (let e : i ≡ i + 0 = omega arith in e) h)
zero_cells x i (c ∷ cs) ds h =
    let rest = zero_cells x (suc i) cs ds (ap tail_of h) in
    let here : x (q_of i c) ≡ false = ap head_of h in
    let e : suc i + length cs ≡ i + suc (length cs) = omega arith in
    (λ j. here j ∷ rest.0 j, subst (λ k. map x (qs_from k ds) ≡ zeros (length ds)) e rest.1)

zero_each : (x : Wire → Bool) (r i : ℕ) (before : Option Wire) (gs : List RegisterValue) → map x (qs_from i (flat_map (λ g. g.cells) gs)) ≡ zeros (length (flat_map (λ g. g.cells) gs))
    → EachRegister (AllZero x) r i before gs
zero_each x r i before [] h = tt
zero_each x r i before (g ∷ gs) h = let one = zero_cells x i g.cells (flat_map (λ g. g.cells) gs) h in (one.0, zero_each x (suc r) (i + length g.cells) _ gs one.1)

pub unload_at : (a : Netlist ℕ) (p : PlanValue) (size n : ℕ) (v : ℕ → Wire → Bool) → IsTestTrace a p n v → ReturnsAfter p.degree p.mask size → (s j : ℕ) → s < length p.sessions → j ≤ size → unload_cycle_of size s j < n
    → EachRegister (AllZero (v (run_cycle_of size s 0))) 0 0 None p.registers
    → map (v (unload_cycle_of size s j)) (qs_from 0 (chain p)) ≡ shifts j (held_from a p size v s 0 p.registers)
unload_at a p size n v h cycle s zero more le lt base =
    let e : run_cycle_of size s size ≡ unload_cycle_of size s 0 = omega arith in
    subst (λ c. map (v c) (qs_from 0 (chain p)) ≡ held_from a p size v s 0 p.registers) e
    (chain_of a p size v s (v (run_cycle_of size s size)) 0 0 None p.registers (held_at a p size n v h cycle s size more (omega arith) (omega arith) base))
unload_at a p size n v h cycle s (suc j) more le lt base =
    let before = unload_at a p size n v h cycle s j more (omega arith) (omega arith) base in
    let k = now a p n v h (2 * s * size + size + j) s true (bits_after p.degree p.mask j) (omega arith) more (unloading p.degree p.mask size s j cycle (omega arith)) in
    let e : suc (unload_cycle_of size s j) ≡ unload_cycle_of size s (suc j) = omega arith in
    subst (λ c. map (v c) (qs_from 0 (chain p)) ≡ shifts (suc j) (held_from a p size v s 0 p.registers)) e
    (chain_shifts (v (unload_cycle_of size s j)) (v (suc (unload_cycle_of size s j))) 0 0 None p.registers
    (each_both (PartMeets a p (v (unload_cycle_of size s j))) (λ r i before g. Loaded (v (unload_cycle_of size s j)) (v (suc (unload_cycle_of size s j))) i g)
    (λ r i before g. map (v (suc (unload_cycle_of size s j))) (qs_from i g.cells) ≡ shifted (bit_or_zero (v (unload_cycle_of size s j)) before) (map (v (unload_cycle_of size s j)) (qs_from i g.cells)))
    (λ r i before g m l. shifting_on a p (v (unload_cycle_of size s j)) (v (suc (unload_cycle_of size s j))) r i before g k.normal k.running k.shifting m l) 0 0 None p.registers
    k.each (loaded_at a p n v h (unload_cycle_of size s j) (omega arith)))
    ∙ ap (shifted false) before)

-- cycle 0 clears all cells
pub clear_line : (x go end late : Bool) → go ≡ false → x ≡ ((go && not end) && late) → x ≡ false
clear_line x go end late h e = grind arith

pub go_off : (go t i : Bool) → i ≡ true → go ≡ (t && not i) → go ≡ false
go_off go t i h e = grind arith

first_clear : (a : Netlist ℕ) (p : PlanValue) (n : ℕ) (v : ℕ → Wire → Bool) → IsTestTrace a p n v → 1 < n → EachRegister (AllZero (v 1)) 0 0 None p.registers
first_clear a p n v h lt =
    let l = lines p (v 0) (all_front (Meets (v 0)) (controller p) _ (rows_meet a p n v h 0 (omega arith))) in
    let go = go_off (v 0 Go) (v 0 Test) (v 0 Init) (h.start (omega arith)).1 l.go in
    each_both (PartMeets a p (v 0)) (λ r i before g. Loaded (v 0) (v 1) i g) (AllZero (v 1))
    (λ r i before g m k. clears a p (v 0) (v 1) r i before g (l.normal ∙ ap not (h.start (omega arith)).0)
    (clear_line (v 0 Running) (v 0 Go) (v 0 (Ring (length p.sessions))) (not (v 0 Phase)) go l.running) (clear_line (v 0 Shifting) (v 0 Go) (v 0 (Ring (length p.sessions))) (v 0 Phase) go l.shifting) m k)
    0 0 None p.registers (parts_at a p n v h 0 (omega arith)) (loaded_at a p n v h 0 lt)

length_held : (a : Netlist ℕ) (p : PlanValue) (size : ℕ) (v : ℕ → Wire → Bool) (c s : ℕ) → map (v c) (qs_from 0 (chain p)) ≡ held_from a p size v s 0 p.registers → length (held_from a p size v s 0 p.registers) ≡ length (chain p)
length_held a p size v c s e = ap length (sym e) ∙ length_qs (v c) 0 (chain p)

-- each session begins with all cells 0
pub base_at : (a : Netlist ℕ) (p : PlanValue) (size n : ℕ) (v : ℕ → Wire → Bool) → IsTestTrace a p n v → ReturnsAfter p.degree p.mask size → length (chain p) ≤ size → (s : ℕ) → s ≤ length p.sessions → run_cycle_of size s 0 < n
    → EachRegister (AllZero (v (run_cycle_of size s 0))) 0 0 None p.registers
base_at a p size n v h cycle fits zero le lt = let e : 1 ≡ run_cycle_of size 0 0 = omega arith in subst (λ c. EachRegister (AllZero (v c)) 0 0 None p.registers) e (first_clear a p n v h (omega arith))
base_at a p size n v h cycle fits (suc s) le lt =
    let e : unload_cycle_of size s size ≡ run_cycle_of size (suc s) 0 = grind arith in
    let within : unload_cycle_of size s size < n = omega (arith, e, lt) in
    let base = base_at a p size n v h cycle fits s (omega arith) (omega arith) in
    let first = unload_at a p size n v h cycle s 0 (omega arith) (omega arith) (omega arith) base in
    let end = unload_at a p size n v h cycle s size (omega arith) (omega arith) within base in
    let long = length_held a p size v (unload_cycle_of size s 0) s first in
    subst (λ c. EachRegister (AllZero (v c)) 0 0 None p.registers) e
    (zero_each (v (unload_cycle_of size s size)) 0 0 None p.registers (end ∙ shifts_out size (held_from a p size v s 0 p.registers) (omega (arith, fits, long)) ∙ ap zeros long))
