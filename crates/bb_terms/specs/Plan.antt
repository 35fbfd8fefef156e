-- Plans as values, and the chain of all cells.
use Rattle.std.specs.Prelude.{◌≡◌, ℕ, zero, suc, ◌+◌, Bool, false, List, [], ◌∷◌, length, take, filter, if◌then◌else◌, Some, nat_eq, slice_get}
use Rattle.std.specs.List.{list_any, flat_map, enumerate_from}
use Rattle.bb_terms.specs.declared.plan.Cell.{Cell}
use Rattle.bb_terms.specs.Kinds.{is_observer, only_generates}

pub record RegisterValue : Type 0 where
  pub mask : ℕ
  pub cells : List Cell

pub record PlanValue : Type 0 where
  pub width : ℕ
  pub degree : ℕ
  pub mask : ℕ
  pub registers : List RegisterValue
  pub sessions : List (List ℕ)

-- all cells, register after register
abbrev pub chain : PlanValue → List Cell
chain p = flat_map (λ g. g.cells) p.registers

-- cell i of the chain is c, in register r
pub record IsCell (p : PlanValue) (i r : ℕ) (c : Cell) : Type 0 where
  pub register : RegisterValue
  pub stands : slice_get p.registers r ≡ Some register
  pub place : ℕ
  pub at : slice_get register.cells place ≡ Some c
  pub number : i ≡ length (flat_map (λ g. g.cells) (take r p.registers)) + place

-- the observers with their cell numbers
abbrev pub observers : PlanValue → List (ℕ × Cell)
observers p = filter (λ o. is_observer o.1.kind) (enumerate_from 0 (chain p))

-- the register has an Input or Split cell, so it compacts in no session
abbrev pub has_input : RegisterValue → Bool
has_input g = list_any (λ c. only_generates c.kind) g.cells

-- a session lists the register
abbrev pub lists_register : ℕ → List ℕ → Bool
lists_register r session = list_any (nat_eq r) session

-- register r compacts in session s
abbrev pub compacts : List (List ℕ) → ℕ → ℕ → Bool
compacts [] r s = false
compacts (session ∷ rest) r zero = lists_register r session
compacts (session ∷ rest) r (suc s) = compacts rest r s

-- the numbers of the sessions that list register r, the first session being s
abbrev pub sessions_from : ℕ → List (List ℕ) → ℕ → List ℕ
sessions_from s [] r = []
sessions_from s (session ∷ rest) r = if lists_register r session then s ∷ sessions_from (suc s) rest r else sessions_from (suc s) rest r

abbrev pub sessions_of : PlanValue → ℕ → List ℕ
sessions_of p r = sessions_from 0 p.sessions r
