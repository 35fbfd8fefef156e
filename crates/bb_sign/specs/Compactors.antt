-- Registers as they take in their lines: where each line starts, and what a register holds after a state. No public contract cites this.
use Rattle.std.specs.Prelude.{◌≡◌, ℕ, ◌<◌, ◌≤◌, ◌^◌, zero, suc, Bool, false, List, length, map, Option, None, Some, slice_get, slice_index, All}
use Rattle.std.specs.List.{AllZip, range_with_len}
use Rattle.bb_base.specs.Net.{Gate, Netlist}
use Rattle.bb_base.specs.Run.{by_op}
use Rattle.bb_base.specs.Bits.{from_bits}
use Rattle.bb_terms.specs.Signature.{signature, next_signature}
use Rattle.bb_terms.specs.Paths.{Start}
use Rattle.bb_terms.specs.Function.{line_bit}
use Rattle.bb_terms.specs.Support.{start_in, StartExists}
use Rattle.bb_terms.specs.declared.start.Start.{Start as CodeStart}
use Rattle.bb_eqn.specs.Values.{bits_at}
use Rattle.bb_eqn.specs.Lanes.{in_lane}
use Rattle.bb_terms.specs.declared.plan.Cell.{Cell}
use Rattle.bb_terms.specs.Plan.{RegisterValue, PlanValue, has_input}
use Rattle.bb_terms.specs.Lines.{IsStart}
use Rattle.bb_terms.specs.Rules.{MayCompact}
use Rattle.bb_terms.specs.Signatures.{IsSigned, HasSignature}

-- the mask of a register's feedback, and where its lines start
pub record CompactorValue : Type 0 where
  pub mask : ℕ
  pub starts : List CodeStart

-- this start exists, and the cell's line starts there
pub record IsLineStart (a : Netlist ℕ) (c : Cell) (start : CodeStart) : Type 0 where
  pub exists : StartExists a start
  pub begins : (from : Start ℕ) → start_in a.gates start ≡ Some from → IsStart a c from

-- a compactor of few lines, all of which start somewhere
pub record HasFewLines (a : Netlist ℕ) (compactor : CompactorValue) : Type 0 where
  pub count : length compactor.starts ≤ 16
  pub exist : All (StartExists a) compactor.starts

-- the compactor of a register: it has the lines of all cells, where the register may compact
pub record IsCompactor (a : Netlist ℕ) (g : RegisterValue) (compactor : CompactorValue) : Type 0 where
  pub mask : compactor.mask ≡ g.mask
  pub few : HasFewLines a compactor
  pub lines : has_input g ≡ false → AllZip (IsLineStart a) g.cells compactor.starts

-- the bit at a start, where there is one
abbrev pub line_bit_in : (ℕ → Bool) → Option (Start ℕ) → Bool
line_bit_in v None = false
line_bit_in v (Some start) = line_bit by_op start v

abbrev pub start_bit : List (Gate ℕ) → (ℕ → Bool) → CodeStart → Bool
start_bit gates v start = line_bit_in v (start_in gates start)

-- the bits of some lines as a number
abbrev pub line_word : List (Gate ℕ) → (ℕ → Bool) → List CodeStart → ℕ
line_word gates v starts = from_bits (map (start_bit gates v) starts)

-- what a register of so many cells holds after it took in its lines at so many states
abbrev pub taken_in : ℕ → ℕ → (ℕ → ℕ) → ℕ → ℕ → ℕ
taken_in cells mask lines zero held = held
taken_in cells mask lines (suc t) held = next_signature cells mask (taken_in cells mask lines t held) (lines t)

-- what a compactor holds after it took in its lines in so many lanes
abbrev pub compacted : List (Gate ℕ) → List ℕ → CompactorValue → ℕ → ℕ → ℕ
compacted gates values compactor count held =
    taken_in (length compactor.starts) compactor.mask (λ t. line_word gates (bits_at (in_lane t values)) compactor.starts) count held

-- each compactor holds a number of its length
pub record AreHeld (compactors : List CompactorValue) (held : List ℕ) : Type 0 where
  pub long : length held ≡ length compactors
  pub below : (r : ℕ) (compactor : CompactorValue) → slice_get compactors r ≡ Some compactor → slice_index held r < 2 ^ length compactor.starts

-- the registers that may compact hold the signatures of so many states
abbrev pub AreSignedUntil : Netlist ℕ → PlanValue → ℕ → List ℕ → Type 0
AreSignedUntil a p states held =
    (r : ℕ) (g : RegisterValue) (written : ℕ) → slice_get p.registers r ≡ Some g → has_input g ≡ false → (h : HasSignature a p g written)
    → slice_index held r ≡ from_bits (signature (length g.cells) g.mask (map (λ t. map (h.bits t) g.cells) (range_with_len 0 states)))

-- the registers that may compact hold their signatures
abbrev pub AreSigned : Netlist ℕ → PlanValue → List ℕ → Type 0
AreSigned a p held = (r written : ℕ) → MayCompact p r → IsSigned a p r written → slice_index held r ≡ written
