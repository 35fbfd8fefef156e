-- The test run: what stands in the registers in each cycle.
use Rattle.std.specs.Prelude.{◌≡◌, ℕ, ◌+◌, ◌*◌, ◌<◌, ◌≤◌, zero, suc, Bool, true, false, ◌&&◌, List, [], ◌∷◌, ◌++◌, length, map, if◌then◌else◌, None}
use Rattle.bb_base.specs.Net.{Netlist}
use Rattle.bb_terms.specs.OnBits.{last_of}
use Rattle.bb_terms.specs.OnBits.{shifted, zeros, bits_after}
use Rattle.bb_terms.specs.Controller.{register_word}
use Rattle.bb_terms.specs.Reads.{qs_from}
use Rattle.bb_terms.specs.declared.wire.Wire.{Wire}
use Rattle.bb_terms.specs.declared.wire.Wire.TheVariants.{So, Done, Running, Shifting}
use Rattle.bb_terms.specs.Kinds.{has_line, is_source}
use Rattle.bb_terms.specs.Plan.{RegisterValue, PlanValue, chain, compacts}
use Rattle.bb_terms.specs.declared.plan.Cell.{Cell}
use Rattle.bb_base.specs.Parity.{code_of_bits}
use Rattle.bb_terms.specs.Signature.{signature_step}
use Rattle.bb_written.specs.Modes.{z_bit, EachRegister}

-- one step of a signature register, its lines first
abbrev pub signature_with : ℕ → List Bool → List Bool → List Bool
signature_with mask lines cells = signature_step mask cells lines

-- what it holds after so many cycles, where these are its lines in each
abbrev pub signature_at : ℕ → ℕ → (ℕ → List Bool) → ℕ → List Bool
signature_at l mask lines zero = zeros l
signature_at l mask lines (suc t) = signature_with mask (lines t) (signature_at l mask lines t)

-- run cycle t of session s, where a walk takes size steps
abbrev pub run_cycle_of : ℕ → ℕ → ℕ → ℕ
run_cycle_of size s t = suc (2 * s * size + t)

abbrev pub unload_cycle_of : ℕ → ℕ → ℕ → ℕ
unload_cycle_of size s j = suc (2 * s * size + size + j)

-- the bits of a register's lines in run cycle t of session s
abbrev pub line_bits : Netlist ℕ → PlanValue → ℕ → (ℕ → Wire → Bool) → ℕ → List Cell → ℕ → List Bool
line_bits a p size v s cells t = map (λ c. has_line c.kind && z_bit a p (v (run_cycle_of size s t)) c) cells

-- what register r holds in run cycle t of session s: the signature so far, or its cells' code words
abbrev pub held_by : Netlist ℕ → PlanValue → ℕ → (ℕ → Wire → Bool) → ℕ → ℕ → ℕ → RegisterValue → List Bool
held_by a p size v s t r g =
    if compacts p.sessions r s then signature_at (length g.cells) g.mask (line_bits a p size v s g.cells) t
    else map (λ c. is_source c.kind && code_of_bits c.column (bits_after p.degree p.mask t)) g.cells

-- these bits after j shifts
abbrev pub shifts : ℕ → List Bool → List Bool
shifts zero bs = bs
shifts (suc j) bs = shifted false (shifts j bs)

-- what the chain holds when the run cycles of session s are over
abbrev pub held_from : Netlist ℕ → PlanValue → ℕ → (ℕ → Wire → Bool) → ℕ → ℕ → List RegisterValue → List Bool
held_from a p size v s r [] = []
held_from a p size v s r (g ∷ gs) = held_by a p size v s size r g ++ held_from a p size v s (suc r) gs

-- in the run cycles each register holds its signature or its code words
abbrev pub HoldsInRun : Netlist ℕ → PlanValue → ℕ → ℕ → (ℕ → Wire → Bool) → Type 0
HoldsInRun a p size n v =
    (s t : ℕ) → s < length p.sessions → t ≤ size → run_cycle_of size s t < n
    → EachRegister (λ r i before g. map (v (run_cycle_of size s t)) (qs_from i g.cells) ≡ held_by a p size v s t r g) 0 0 None p.registers

-- in the unload cycles the chain is shifted out
abbrev pub ShiftsInUnload : Netlist ℕ → PlanValue → ℕ → ℕ → (ℕ → Wire → Bool) → Type 0
ShiftsInUnload a p size n v =
    (s j : ℕ) → s < length p.sessions → j ≤ size → unload_cycle_of size s j < n
    → map (v (unload_cycle_of size s j)) (qs_from 0 (chain p)) ≡ shifts j (held_from a p size v s 0 p.registers)

-- what comes out
abbrev pub GivesOut : Netlist ℕ → PlanValue → ℕ → ℕ → (ℕ → Wire → Bool) → Type 0
GivesOut a p size n v =
    (s j : ℕ) → s < length p.sessions → j < size → unload_cycle_of size s j < n
    → (v (unload_cycle_of size s j) So ≡ last_of false (shifts j (held_from a p size v s 0 p.registers))) × (v (unload_cycle_of size s j) Done ≡ false)

-- the word of the complete register in the run cycles
abbrev pub WalksInRun : PlanValue → ℕ → ℕ → (ℕ → Wire → Bool) → Type 0
WalksInRun p size n v =
    (s t : ℕ) → s < length p.sessions → t < size → run_cycle_of size s t < n
    → (map (v (run_cycle_of size s t)) (register_word p) ≡ bits_after p.degree p.mask t) × (v (run_cycle_of size s t) Running ≡ true) × (v (run_cycle_of size s t) Shifting ≡ false)
    × (v (run_cycle_of size s t) So ≡ false) × (v (run_cycle_of size s t) Done ≡ false)

-- afterwards the test is over
abbrev pub IsOver : PlanValue → ℕ → ℕ → (ℕ → Wire → Bool) → Type 0
IsOver p size n v = (c : ℕ) → 2 * length p.sessions * size ≤ c → suc c < n → (v (suc c) Done ≡ true) × (v (suc c) So ≡ false)

-- the first cycle
abbrev pub BeginsQuiet : ℕ → (ℕ → Wire → Bool) → Type 0
BeginsQuiet n v = 0 < n → (v 0 So ≡ false) × (v 0 Done ≡ false)
