-- Compactors of a valid plan's registers.
use Rattle.std.proofs.Common.{arith, ◌≡◌, ℕ, List, [], ◌∷◌, refl, slice_get, Some, All}
use Rattle.std.proofs.lemmas.List.Elements.{All-from_recursion}
use Rattle.std.specs.List.{AllByRecursion, AllZip}
use Rattle.bb_base.proofs.Contained.{by_place}
use Rattle.bb_base.specs.Net.{Netlist}
use Rattle.bb_terms.specs.Support.{StartExists}
use Rattle.bb_terms.specs.declared.start.Start.{Start as CodeStart}
use Rattle.bb_terms.specs.declared.plan.Cell.{Cell}
use Rattle.bb_terms.specs.Plan.{RegisterValue, PlanValue}
use Rattle.bb_terms.specs.Rules.{Kinds, Registers, Fits}
use Rattle.bb_terms.specs.Valid.{IsValidPlan}
use Rattle.bb_sign.specs.Compactors.{CompactorValue, IsLineStart, HasFewLines, IsCompactor}
use Rattle.bb_sign.proofs.ColumnLemmas.{in_chain}
use Rattle.bb_sign.proofs.ZipLemmas.{zip_long}

-- each compactor has few lines
pub all_few : (a : Netlist ℕ) (registers : List RegisterValue) (compactors : List CompactorValue) → AllZip (IsCompactor a) registers compactors → All (HasFewLines a) compactors
all_few a registers compactors zip = All-from_recursion (HasFewLines a) compactors (each registers compactors zip)
  where
    each : (registers : List RegisterValue) (compactors : List CompactorValue) → AllZip (IsCompactor a) registers compactors → AllByRecursion (HasFewLines a) compactors
    each [] [] zip = tt
    each [] (k ∷ compactors) zip = absurd zip
    each (g ∷ registers) [] zip = absurd zip
    each (g ∷ registers) (k ∷ compactors) zip = (zip.0.few, each registers compactors zip.1)

-- the cells of a register fit
pub cells_fit : (a : Netlist ℕ) (p : PlanValue) (r : ℕ) (g : RegisterValue) → IsValidPlan a p → slice_get p.registers r ≡ Some g → All (Fits a) g.cells
cells_fit a p r g valid stands = All-from_recursion (Fits a) g.cells (by_place (Fits a) g.cells (λ k c at. let i = in_chain p r k g c stands at in valid.meets Kinds i.0 c i.1))

starts_exist : (a : Netlist ℕ) (cells : List Cell) (starts : List CodeStart) → AllZip (IsLineStart a) cells starts → AllByRecursion (StartExists a) starts
starts_exist a [] [] zip = tt
starts_exist a [] (s ∷ starts) zip = absurd zip
starts_exist a (c ∷ cells) [] zip = absurd zip
starts_exist a (c ∷ cells) (s ∷ starts) zip = (zip.0.exists, starts_exist a cells starts zip.1)

-- the compactor of a register that may compact
pub with_lines : (a : Netlist ℕ) (p : PlanValue) (r : ℕ) (g : RegisterValue) (starts : List CodeStart) → IsValidPlan a p → slice_get p.registers r ≡ Some g → AllZip (IsLineStart a) g.cells starts
    → IsCompactor a g (record { mask = g.mask; starts = starts })
with_lines a p r g starts valid stands zip = record {
  mask = refl;
  few = record {
    count = let most = (valid.meets Registers r g stands).few in let long = zip_long (IsLineStart a) g.cells starts zip in omega (arith, most, long);
    exist = All-from_recursion (StartExists a) starts (starts_exist a g.cells starts zip);
  };
  lines = λ none. zip;
}
