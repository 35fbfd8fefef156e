-- How cuts are found: entries of nets, and the places of gates whose entries are still to be settled. No public contract cites this.
use Rattle.std.specs.Prelude.{◌≡◌, ◌≢◌, ◌↔◌, ◌||◌, ◌&&◌, ◌==◌, ◌+◌, ◌*◌, ◌-◌, ℕ, ◌<◌, ◌≤◌, Bool, true, false, List, [], ◌∷◌, ◌++◌, length, count_by, not, nat_lt, nat_le, slice_index_or, AllPairs, Contains}
use Rattle.std.specs.List.Sorted.{IsStrictlyIncreasing}
use Rattle.bb_base.specs.Net.{Gate}
use Rattle.bb_terms.specs.Support.{stop_at}
use Rattle.bb_terms.specs.Cuts.{StandsAt, is_stop_with, AreTurns}

-- the entry of a net
abbrev pub table_entry : List (List ℕ) → ℕ → List ℕ
table_entry table net = slice_index_or table net []

-- these are the numbers of the list, in ascending order
pub record IsSetOf (numbers set : List ℕ) : Type 0 where
  pub ascending : IsStrictlyIncreasing set
  pub each : (n : ℕ) → Contains set n ↔ Contains numbers n

-- the numbers in the entries of some nets
pub record AreGathered (table : List (List ℕ)) (nets numbers : List ℕ) : Type 0 where
  pub from : (n : ℕ) → Contains numbers n → (m : ℕ) × Contains nets m × Contains (table_entry table m) n
  pub into : (m n : ℕ) → Contains nets m → Contains (table_entry table m) n → Contains numbers n

-- the union of the entries of some nets, in ascending order
pub record IsUnion (table : List (List ℕ)) (nets union : List ℕ) : Type 0 where
  pub ascending : IsStrictlyIncreasing union
  pub each : (n : ℕ) → Contains union n ↔ ((m : ℕ) × Contains nets m × Contains (table_entry table m) n)

-- the first of two nets with their counts is the one to cut
abbrev pub is_rather : (count net other_count other : ℕ) → Bool
is_rather count net other_count other = nat_lt other_count count || (other_count == count) && nat_le net other

-- of some nets the one to cut
pub record IsWidest (stop : ℕ → Bool) (table : List (List ℕ)) (nets : List ℕ) (net : ℕ) : Type 0 where
  pub input : Contains nets net
  pub no_stop : stop net ≡ false
  pub most : (other : ℕ) → Contains nets other → stop other ≡ false → is_rather (length (table_entry table net)) net (length (table_entry table other)) other ≡ true

-- for each net the places before this one whose gates read it
pub record AreReadersAt (gates : List (Gate ℕ)) (order : List ℕ) (upto : ℕ) (readers : List (List ℕ)) : Type 0 where
  pub all : (place net : ℕ) (g : Gate ℕ) → place < upto → StandsAt gates order place g → Contains g.ins net → Contains (table_entry readers net) place
  pub only : (place net : ℕ) → Contains (table_entry readers net) place → (g : Gate ℕ) × StandsAt gates order place g × Contains g.ins net

-- the gate's inputs have a narrow union, and its output has it for its entry, where it is no stop
pub record IsWalked (stop : ℕ → Bool) (table : List (List ℕ)) (width : ℕ) (g : Gate ℕ) : Type 0 where
  pub union : List ℕ
  pub is : IsUnion table g.ins union
  pub narrow : length union ≤ width
  pub entry : stop g.out ≡ false → table_entry table g.out ≡ union

-- what holds between two places: all gates are done but those in the queue, and each turn was the next cut
pub record IsCutting (gates : List (Gate ℕ)) (order : List ℕ) (width : ℕ) (stops : List Bool) (table : List (List ℕ)) (queue turns : List ℕ) : Type 0 where
  pub long : length table ≡ length stops
  pub stops_are : (net : ℕ) → stop_at stops net ≡ is_stop_with gates turns net
  pub at_stops : (net : ℕ) → net < length stops → stop_at stops net ≡ true → table_entry table net ≡ net ∷ []
  pub done : (place : ℕ) (g : Gate ℕ) → StandsAt gates order place g → (Contains queue place → ⊥) → IsWalked (stop_at stops) table width g
  pub pending : (place : ℕ) → Contains queue place → place < length order
  pub once : AllPairs (λ a b. a ≢ b) turns
  pub steps : (rest : List ℕ) → AreTurns gates order width turns rest → AreTurns gates order width [] (turns ++ rest)

-- the first place in a queue, or how many there are where it is empty
abbrev pub queue_front : List ℕ → ℕ → ℕ
queue_front [] count = count
queue_front (place ∷ places) count = place

-- what falls from place to place: nets that are no stops, and the places behind the first one in the queue
abbrev pub weight : (count : ℕ) (stops : List Bool) (queue : List ℕ) → ℕ
weight count stops queue = count_by not stops * (count + 1) + (count - queue_front queue count)
