-- What a walk keeps: marks of the nets that were met, and the nets in the order in which they were. No public contract but `Walk`'s cites this.
use Rattle.std.specs.Prelude.{◌≡◌, ◌≢◌, ◌↔◌, ◌⊎◌, ℕ, ◌<◌, ◌^◌, Bool, true, false, List, length, take, count_by, Some, slice_get, slice_index_or, AllPairs, Contains}
use Rattle.bb_base.specs.Net.{Gate}
use Rattle.bb_base.specs.Order.{Reads}
use Rattle.bb_terms.specs.Paths.{IsReached}

-- the net is marked
abbrev pub is_marked_net : List Bool → ℕ → Bool
is_marked_net marks net = slice_index_or marks net false

-- no mark stands
pub record IsClear (marks : List Bool) (met : List ℕ) : Type 0 where
  pub none : (net : ℕ) → is_marked_net marks net ≡ false
  pub long : length met ≡ length marks
  pub few : length marks < 2 ^ 32

-- the first nets in `met`, up to the end, are those that are marked, each once
pub record IsMet (marks : List Bool) (met : List ℕ) (end : ℕ) : Type 0 where
  pub long : length met ≡ length marks
  pub few : length marks < 2 ^ 32
  pub count : count_by (λ b. b) marks ≡ end
  pub each : (net : ℕ) → (is_marked_net marks net ≡ true) ↔ Contains (take end met) net
  pub apart : AllPairs (λ a b. a ≢ b) (take end met)

-- a list has what it had before and these, and no more
pub record HasMore (before added after : List ℕ) : Type 0 where
  pub kept : (net : ℕ) → Contains before net → Contains after net
  pub met : (net : ℕ) → Contains added net → Contains after net
  pub only : (net : ℕ) → Contains after net → Contains before net ⊎ Contains added net

-- the walk stands before one of the nets met: all are reached, and what is read behind those passed was met
pub record IsWalk (gates : List (Gate ℕ)) (stop : ℕ → Bool) (start met : List ℕ) (next : ℕ) : Type 0 where
  pub starts : (net : ℕ) → Contains start net → Contains met net
  pub reached : (net : ℕ) → Contains met net → IsReached gates stop start net
  pub passed : (place net input : ℕ) → place < next → slice_get met place ≡ Some net → stop net ≡ false → Reads gates net input → Contains met input
