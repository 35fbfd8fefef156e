-- What the cells of a register take, by bits.
use Rattle.std.specs.Prelude.{◌≡◌, ℕ, ◌+◌, suc, List, [], ◌∷◌, length, map, Bool, false, ◌&&◌, ◌||◌, not, Option, Some, None}
use Rattle.std.specs.List.{AllByRecursion}
use Rattle.bb_base.specs.Net.{Netlist}
use Rattle.bb_terms.specs.OnBits.{last_of}
use Rattle.bb_base.specs.Run.{Meets}
use Rattle.bb_terms.specs.Controller.{word_ahead}
use Rattle.bb_terms.specs.Reads.{line, qs_from}
use Rattle.bb_terms.specs.Registers.{rows_of_register}
use Rattle.bb_terms.specs.declared.wire.Wire.{Wire}
use Rattle.bb_terms.specs.declared.wire.Wire.TheVariants.{First, Latches, Takes, Codes, Running, Shifting, NotTest, Ring}
use Rattle.bb_base.specs.Bits.{picked}
use Rattle.bb_base.specs.Booleans.{xor, parity_of_bits, some_true}
use Rattle.bb_terms.specs.Kinds.{is_source, has_line}
use Rattle.bb_terms.specs.Plan.{RegisterValue, PlanValue, sessions_of}
use Rattle.bb_terms.specs.declared.plan.Cell.{Cell}
use Rattle.bb_written.specs.Cells.{rows_of_cells}

-- the bits that the cells take, where b, n and e are the mode, x the bit before them and qs their bits
abbrev pub taken : (Cell → Bool) → (Cell → Bool) → Bool → Bool → Bool → Bool → List Cell → List Bool → List Bool
taken z g b n e x [] qs = []
taken z g b n e x (c ∷ cs) [] = []
taken z g b n e x (c ∷ cs) (q ∷ qs) = xor (has_line c.kind && (b && z c)) (xor (n && x) (is_source c.kind && (e && g c))) ∷ taken z g b n e q cs qs

-- the bits of the lines and of the code lines
abbrev pub z_bit : Netlist ℕ → PlanValue → (Wire → Bool) → Cell → Bool
z_bit a p v c = v (line a p c)

abbrev pub g_bit : PlanValue → (Wire → Bool) → Cell → Bool
g_bit p v c = parity_of_bits (picked c.column (map v (word_ahead p)))

-- the register's session is on
abbrev pub is_on : PlanValue → (Wire → Bool) → ℕ → Bool
is_on p v r = some_true (map v (map Ring (sessions_of p r)))

abbrev pub bit_or_zero : (Wire → Bool) → Option Wire → Bool
bit_or_zero v None = false
bit_or_zero v (Some w) = v w

-- a fact of each register, its number, its first cell's and the cell before it
abbrev pub EachRegister : (ℕ → ℕ → Option Wire → RegisterValue → Type 0) → ℕ → ℕ → Option Wire → List RegisterValue → Type 0
EachRegister F r i before [] = Unit {0}
EachRegister F r i before (g ∷ gs) = F r i before g × EachRegister F (suc r) (i + length g.cells) (last_of before (map Some (qs_from i g.cells))) gs

-- the register's part of the table holds
pub record PartMeets (a : Netlist ℕ) (p : PlanValue) (v : Wire → Bool) (r i : ℕ) (before : Option Wire) (g : RegisterValue) : Type 0 where
  pub lines : AllByRecursion (Meets v) (rows_of_register r (sessions_of p r) before g.mask (qs_from i g.cells))
  pub cells : AllByRecursion (Meets v) (rows_of_cells a p r i (First r) g.cells)

-- the mode lines of a register, where not both run and shift
pub record Modes (v : Wire → Bool) (r : ℕ) (on : Bool) (before feedback : Bool) : Type 0 where
  pub latch : v (Latches r) ≡ (v NotTest || (v Running && on))
  pub takes : v (Takes r) ≡ ((v Running && on) || v Shifting)
  pub codes : v (Codes r) ≡ (v Running && not on)
  pub first : (v Running && v Shifting) ≡ false → (v (Takes r) && v (First r)) ≡ ((v Running && (on && feedback)) || (v Shifting && before))
