-- The function of a segment: the bit of a line, given the bits of its leaves.
use Rattle.std.specs.Prelude.{◌≡◌, Bool, List, map, Contains}
use Rattle.bb_base.specs.Net.{Gate}
use Rattle.bb_base.specs.Run.{MeetsBy}
use Rattle.bb_terms.specs.Paths.{Start, AtNet, Behind, IsLeaf, LiesBehind}

-- w gives the leaves these bits, and the gates passed meet their equations
pub record Assigns {N : Type 0} (gives : Gate N → List Bool → Bool) (gates : List (Gate N)) (stop : N → Bool) (start : Start N) (bits w : N → Bool) : Type 0 where
  pub leaves : (net : N) → IsLeaf gates stop start net → w net ≡ bits net
  pub passed : (g : Gate N) → Contains gates g → LiesBehind gates stop start g → MeetsBy gives w g

-- the line's bit in an assignment
abbrev pub line_bit : {N : Type 0} → (Gate N → List Bool → Bool) → Start N → (N → Bool) → Bool
line_bit gives (AtNet net) w = w net
line_bit gives (Behind gate) w = gives gate (map w gate.ins)

-- the segment's function gives this bit, where the leaves have these
pub record IsBitOf {N : Type 0} (gives : Gate N → List Bool → Bool) (gates : List (Gate N)) (stop : N → Bool) (start : Start N) (bits : N → Bool) (bit : Bool) : Type 0 where
  pub w : N → Bool
  pub assigns : Assigns gives gates stop start bits w
  pub is : line_bit gives start w ≡ bit

-- the net that is observed
abbrev pub end_of : {N : Type 0} → Start N → N
end_of (AtNet net) = net
end_of (Behind gate) = gate.out

-- the gate behind which the walk starts is one of these
abbrev pub StandsIn : {N : Type 0} → List (Gate N) → Start N → Type 0
StandsIn gates (AtNet net) = Unit {0}
StandsIn gates (Behind gate) = Contains gates gate
