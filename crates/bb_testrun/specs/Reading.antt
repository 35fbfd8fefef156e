-- Each vector of a segment's leaves comes in the run cycles.
use Rattle.std.specs.Prelude.{◌≡◌, ℕ, ◌<◌, ◌^◌, slice_index, Bool, false, ◌&&◌, ◌==◌, List, [], ◌∷◌, length, map, Some}
use Rattle.std.specs.List.{list_any}
use Rattle.bb_base.specs.Net.{Netlist}
use Rattle.bb_base.specs.Dual.{AreDuals}
use Rattle.bb_terms.specs.OnBits.{bits_after}
use Rattle.bb_terms.specs.Reads.{read}
use Rattle.bb_terms.specs.declared.wire.Wire.{Wire}
use Rattle.bb_terms.specs.Kinds.{is_behind}
use Rattle.bb_terms.specs.Lines.{source_of}
use Rattle.bb_terms.specs.Plan.{PlanValue, chain, compacts}
use Rattle.bb_terms.specs.declared.plan.Cell.{Cell}
use Rattle.bb_testrun.specs.Held.{run_cycle_of}
use Rattle.bb_base.specs.Parity.{code_of_bits}
use Rattle.bb_written.specs.Trace.{IsTestTrace}

-- net n has a source cell with this column, in a register that generates in session s
pub record Generates (p : PlanValue) (s n column : ℕ) : Type 0 where
  pub register : ℕ
  pub cell : Cell
  pub is : source_of p n ≡ Some (register, cell)
  pub coded : cell.column ≡ column
  pub apart : compacts p.sessions register s ≡ false
  pub own : is_behind cell.kind ≡ false → list_any (λ c. is_behind c.kind && (c.net == n)) (chain p) ≡ false

-- the leaves of a segment have these columns in session s
abbrev pub AllGenerate : PlanValue → ℕ → List ℕ → List ℕ → Type 0
AllGenerate p s [] [] = Unit {0}
AllGenerate p s (n ∷ ns) (c ∷ cs) = Generates p s n c × AllGenerate p s ns cs
AllGenerate p s [] (c ∷ cs) = ⊥
AllGenerate p s (n ∷ ns) [] = ⊥

-- in run cycle t the reads of these leaves are their code words, in every added trace
abbrev pub ReadsCodes : Netlist ℕ → PlanValue → ℕ → Type 0
ReadsCodes a p size =
    (s t : ℕ) (leaves columns : List ℕ) → s < length p.sessions → t < size → AllGenerate p s leaves columns
    → (n : ℕ) (v : ℕ → Wire → Bool) → IsTestTrace a p n v → run_cycle_of size s t < n
    → map (λ l. v (run_cycle_of size s t) (read p l)) leaves ≡ map (λ c. code_of_bits c (bits_after p.degree p.mask t)) columns

-- each vector of leaves whose columns have duals comes at a run cycle, which is the same in all traces
abbrev pub MeetsAll : Netlist ℕ → PlanValue → Type 0
MeetsAll a p =
    (s : ℕ) (leaves columns duals : List ℕ) → s < length p.sessions → AllGenerate p s leaves columns → AreDuals columns duals → ((place : ℕ) → place < length duals → slice_index duals place < 2 ^ p.degree)
    → (u : List Bool) → length u ≡ length columns
    → (t : ℕ) × (t < 2 ^ p.degree) × ((n : ℕ) (v : ℕ → Wire → Bool) → IsTestTrace a p n v → run_cycle_of (2 ^ p.degree) s t < n → map (λ l. v (run_cycle_of (2 ^ p.degree) s t) (read p l)) leaves ≡ u)
