-- Where a walk back through gates leads: cones that end at stops (McCluskey, 1984).
use Rattle.std.specs.Prelude.{◌≡◌, ◌⊎◌, ℕ, Bool, true, false, List, [], ◌∷◌, Contains}
use Rattle.bb_base.specs.Net.{Gate, renamed_gate}
use Rattle.bb_base.specs.Order.{Reads, drivers, is_empty}

-- no gate drives the net
abbrev pub is_free : List (Gate ℕ) → ℕ → Bool
is_free gates net = is_empty (drivers gates net)

-- where a walk starts: at a net, or behind a gate
pub data Start (N : Type 0) : Type 0 where
  AtNet : (net : N) → Start N
  Behind : (gate : Gate N) → Start N

-- the nets from which it goes
abbrev pub starts : {N : Type 0} → Start N → List N
starts (AtNet net) = net ∷ []
starts (Behind gate) = gate.ins

-- the same start under other names
abbrev pub renamed_start : {M N : Type 0} → (M → N) → Start M → Start N
renamed_start f (AtNet net) = AtNet (f net)
renamed_start f (Behind gate) = Behind (renamed_gate f gate)

-- a path back from a net: each net before the last is no stop, and its gate reads the next
abbrev pub IsPathBack : {N : Type 0} → List (Gate N) → (N → Bool) → N → List N → N → Type 0
IsPathBack gates stop net [] last = net ≡ last
IsPathBack gates stop net (next ∷ path) last = (stop net ≡ false) × Reads gates net next × IsPathBack gates stop next path last

-- a path leads there from one of these nets
pub record IsReached {N : Type 0} (gates : List (Gate N)) (stop : N → Bool) (from : List N) (net : N) : Type 0 where
  pub first : N
  pub stands : Contains from first
  pub path : List N
  pub leads : IsPathBack gates stop first path net

-- a walk ends at the net
abbrev pub IsLeaf : {N : Type 0} → List (Gate N) → (N → Bool) → Start N → N → Type 0
IsLeaf gates stop start net = IsReached gates stop (starts start) net × (stop net ≡ true)

-- the gate is passed on the way, its own gate aside
abbrev pub LiesBehind : {N : Type 0} → List (Gate N) → (N → Bool) → Start N → Gate N → Type 0
LiesBehind gates stop start gate = IsReached gates stop (starts start) gate.out × (stop gate.out ≡ false)

-- the gate lies in the segment: it is passed, or the walk starts behind it
abbrev pub LiesIn : {N : Type 0} → List (Gate N) → (N → Bool) → Start N → Gate N → Type 0
LiesIn gates stop (AtNet net) g = LiesBehind gates stop (AtNet net) g
LiesIn gates stop (Behind own) g = (g ≡ own) ⊎ LiesBehind gates stop (Behind own) g
