-- The chain, register after register.
use Rattle.std.proofs.Common.{arith, ◌≡◌, ℕ, zero, suc, ◌+◌, ◌≤◌, refl, drop, length, slice_get, List, [], ◌∷◌, sym, ap, ◌∙◌, length-append}
use Rattle.std.specs.Prelude.{Some}
use Rattle.std.specs.List.{flat_map}
use Rattle.bb_terms.specs.declared.plan.Cell.{Cell}
use Rattle.bb_terms.specs.Plan.{RegisterValue}

-- the cells of some registers
abbrev pub cells_of : List RegisterValue → List Cell
cells_of registers = flat_map (λ (g : RegisterValue). g.cells) registers

-- cells from a register on
pub cells_next : (registers : List RegisterValue) (r : ℕ) (g : RegisterValue) → slice_get registers r ≡ Some g → length (cells_of (drop r registers)) ≡ length g.cells + length (cells_of (drop (r + 1) registers))
cells_next [] r g h = cc
cells_next (f ∷ registers) zero g h = let same : f ≡ g = cc h in length-append f.cells (cells_of registers) ∙ ap (λ (e : RegisterValue). length e.cells + length (cells_of registers)) same
cells_next (f ∷ registers) (suc r) g h = let k : suc r + 1 ≡ suc (r + 1) = omega arith in cells_next registers r g h ∙ ap (λ n. length g.cells + length (cells_of (drop n (f ∷ registers)))) (sym k)

-- behind the last register stand none
pub no_cells : (registers : List RegisterValue) (r : ℕ) → length registers ≤ r → length (cells_of (drop r registers)) ≡ 0
no_cells [] zero h = refl
no_cells [] (suc r) h = refl
no_cells (g ∷ registers) zero h = absurd (omega (arith, h))
no_cells (g ∷ registers) (suc r) h = no_cells registers r (omega (arith, h))
