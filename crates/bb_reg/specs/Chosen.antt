-- Registers and sessions by first fit (this project's own choice).
use Rattle.std.specs.Prelude.{ℕ, suc, Bool, not, ◌&&◌, ◌||◌, List, [], ◌∷◌, ◌++◌, length, map, take, drop, if◌then◌else◌, nat_eq, nat_lt}
use Rattle.std.specs.List.{fold, list_any, flat_map}
use Rattle.bb_terms.specs.declared.plan.Cell.{Cell}
use Rattle.bb_terms.specs.Kinds.{reads_back}
use Rattle.bb_terms.specs.Plan.{RegisterValue, has_input}
use Rattle.bb_reg.specs.Draft.{DraftValue}

-- an observer with the leaves of its line
pub record Seen : Type 0 where
  pub cell : Cell
  pub leaves : List ℕ

abbrev pub seen_cells : List Cell → List (List ℕ) → List Seen
seen_cells [] leaves = []
seen_cells (c ∷ cells) [] = []
seen_cells (c ∷ cells) (xs ∷ leaves) = record { cell = c; leaves = xs } ∷ seen_cells cells leaves

-- into the first group that it fits, else into a new one behind the others
abbrev pub first_fit : {X : Type 0} → (X → List X → Bool) → List (List X) → X → List (List X)
first_fit fits [] x = (x ∷ []) ∷ []
first_fit fits (group ∷ more) x = if fits x group then (group ++ x ∷ []) ∷ more else group ∷ first_fit fits more x

-- one after another by first fit
abbrev pub fitted : {X : Type 0} → (X → List X → Bool) → List X → List (List X)
fitted fits xs = fold (first_fit fits) [] xs

-- the net that lines can read the cell's bit back from: of a State or Cut cell
abbrev pub given_by : Cell → List ℕ
given_by c = if reads_back c.kind then c.net ∷ [] else []

-- what observers give to lines, and what their own lines read
abbrev pub given : List Seen → List ℕ
given group = flat_map (λ o. given_by o.cell) group

abbrev pub read_nets : List Seen → List ℕ
read_nets group = flat_map (λ o. o.leaves) group

-- some net is in both lists
abbrev pub share : List ℕ → List ℕ → Bool
share xs ys = list_any (λ x. list_any (nat_eq x) ys) xs

-- some observers of one group give a leaf of a line of the other
abbrev pub conflict : List Seen → List Seen → Bool
conflict a b = share (given a) (read_nets b) || share (given b) (read_nets a)

-- two observers clash where one gives a leaf of the other's line
abbrev pub clash : Seen → Seen → Bool
clash a b = conflict (a ∷ []) (b ∷ [])

-- the sources in runs of so many
abbrev pub in_runs : ℕ → List Cell → List (List Cell)
in_runs most cells = fitted (λ c run. nat_lt (length run) most) cells

-- the observers in registers of so many, none in clash with one before it
abbrev pub in_registers : ℕ → List Seen → List (List Seen)
in_registers most observers = fitted (λ o register. nat_lt (length register) most && not (list_any (clash o) register)) observers

-- numbered registers in sessions, none in conflict with one before it
abbrev pub numbered_sessions : List (ℕ × List Seen) → List (List (ℕ × List Seen))
numbered_sessions registers = fitted (λ x session. not (list_any (λ y. conflict x.1 y.1) session)) registers

-- the numbers of the registers in each session
abbrev pub in_sessions : List (ℕ × List Seen) → List (List ℕ)
in_sessions registers = map (map (λ x. x.0)) (numbered_sessions registers)

-- registers with the leaves of the line of each cell, in the order of the chain; Input and Split cells have none
pub record GroupedValue : Type 0 where
  pub registers : List RegisterValue
  pub leaves : List (List ℕ)

-- a register without a mask
abbrev pub register_of : List Cell → RegisterValue
register_of cells = record { mask = 0; cells = cells }

-- a draft's sources in runs, then its observers in registers
abbrev pub grouped_of : DraftValue → ℕ → GroupedValue
grouped_of draft most = record {
  registers = map register_of (in_runs most draft.sources) ++ map (λ group. register_of (map (λ o. o.cell) group)) (in_registers most (seen_cells draft.observers draft.leaves));
  leaves = map (λ c. []) draft.sources ++ flat_map (map (λ o. o.leaves)) (in_registers most (seen_cells draft.observers draft.leaves));
}

-- the registers that may compact, with their numbers, the first being r
abbrev pub compacting_from : ℕ → List RegisterValue → List (List ℕ) → List (ℕ × List Seen)
compacting_from r [] leaves = []
compacting_from r (g ∷ registers) leaves =
    if has_input g
    then compacting_from (suc r) registers (drop (length g.cells) leaves)
    else (r, seen_cells g.cells (take (length g.cells) leaves)) ∷ compacting_from (suc r) registers (drop (length g.cells) leaves)

-- the sessions of all registers that may compact
abbrev pub scheduled_of : GroupedValue → List (List ℕ)
scheduled_of grouped = in_sessions (compacting_from 0 grouped.registers grouped.leaves)
