-- The chain of all cells, each with its register's number. No public contract cites this.
use Rattle.std.specs.Prelude.{◌≡◌, ℕ, ◌<◌, ◌&&◌, ◌==◌, suc, Bool, true, List, [], ◌∷◌, ◌++◌, map, Some, slice_get, slice_index}
use Rattle.std.specs.List.{list_any}
use Rattle.bb_terms.specs.declared.plan.Cell.{Cell}
use Rattle.bb_terms.specs.Kinds.{is_source, is_cut}
use Rattle.bb_terms.specs.Plan.{RegisterValue}
use Rattle.bb_plan.specs.declared.chain.Link.{Link}

-- the cells of one register
abbrev pub links_in : ℕ → List Cell → List Link
links_in r cells = map (λ c. record { cell = c; register = r }) cells

-- the cells of registers, the first of which has the number r
abbrev pub links_from : ℕ → List RegisterValue → List Link
links_from r [] = []
links_from r (g ∷ registers) = links_in r g.cells ++ links_from (suc r) registers

-- a Cut cell is on the net
abbrev pub has_cut : List Link → ℕ → Bool
has_cut links net = list_any (λ l. is_cut l.cell.kind && (l.cell.net == net)) links

-- every cell is on one of so many nets
abbrev pub AreOnNets : ℕ → List Link → Type 0
AreOnNets nets links = (i : ℕ) (l : Link) → slice_get links i ≡ Some l → l.cell.net < nets

-- no net is in two source cells
abbrev pub HaveOneSource : List Link → Type 0
HaveOneSource links = (i j : ℕ) (l m : Link) → slice_get links i ≡ Some l → slice_get links j ≡ Some m → is_source l.cell.kind ≡ true → is_source m.cell.kind ≡ true → l.cell.net ≡ m.cell.net → i ≡ j

-- for each net with a source cell that cell's number
abbrev pub AreSources : List Link → List ℕ → Type 0
AreSources links table = (i : ℕ) (l : Link) → slice_get links i ≡ Some l → is_source l.cell.kind ≡ true → slice_index table l.cell.net ≡ i

-- the column and the register of a cell, by its number
abbrev pub column_of_cell : List Link → ℕ → ℕ
column_of_cell links i = slice_index (map (λ l. l.cell.column) links) i

abbrev pub register_of_cell : List Link → ℕ → ℕ
register_of_cell links i = slice_index (map (λ l. l.register) links) i
