-- The cuts that leave every gate a narrow support (this project's own choice).
use Rattle.std.specs.Prelude.{◌≡◌, ◌⊎◌, ℕ, ◌<◌, ◌≤◌, ◌||◌, Bool, false, List, [], ◌∷◌, ◌++◌, length, Some, nat_eq, slice_get, Contains}
use Rattle.std.specs.List.{list_any}
use Rattle.std.specs.Set.{distinct_count}
use Rattle.std.specs.List.Sorted.{IsPermutation, IsStrictlyIncreasing}
use Rattle.bb_base.specs.Net.{Gate}
use Rattle.bb_terms.specs.Paths.{is_free, Start, AtNet, Behind}
use Rattle.bb_terms.specs.Support.{AreLeaves}

-- the first gate by number that has more distinct input nets than the width, and how many
pub record IsFirstWide (gates : List (Gate ℕ)) (width number inputs : ℕ) : Type 0 where
  pub gate : Gate ℕ
  pub stands : slice_get gates number ≡ Some gate
  pub count : inputs ≡ distinct_count nat_eq gate.ins
  pub wide : width < inputs
  pub before : (h : ℕ) (g : Gate ℕ) → h < number → slice_get gates h ≡ Some g → distinct_count nat_eq g.ins ≤ width

-- a walk stops at inputs and q's, which no gate drives, and at the cuts so far
abbrev pub is_stop_with : List (Gate ℕ) → List ℕ → ℕ → Bool
is_stop_with gates cuts net = is_free gates net || list_any (nat_eq net) cuts

-- a start has so many leaves
pub record HasSupport (gates : List (Gate ℕ)) (cuts : List ℕ) (start : Start ℕ) (count : ℕ) : Type 0 where
  pub leaves : List ℕ
  pub are : AreLeaves gates (is_stop_with gates cuts) start leaves
  pub count_is : count ≡ length leaves

-- more leaves than the width lie behind the gate
pub record IsTooWide (gates : List (Gate ℕ)) (cuts : List ℕ) (width : ℕ) (gate : Gate ℕ) : Type 0 where
  pub count : ℕ
  pub support : HasSupport gates cuts (Behind gate) count
  pub wide : width < count

-- the net is the one of the two to cut: it has more leaves, or as many and no higher number
pub record IsCutRather (gates : List (Gate ℕ)) (cuts : List ℕ) (net other : ℕ) : Type 0 where
  pub count : ℕ
  pub support : HasSupport gates cuts (AtNet net) count
  pub other_count : ℕ
  pub other_support : HasSupport gates cuts (AtNet other) other_count
  pub rather : (other_count < count) ⊎ ((other_count ≡ count) × (net ≤ other))

-- the gate stands at this place of the order
pub record StandsAt (gates : List (Gate ℕ)) (order : List ℕ) (place : ℕ) (gate : Gate ℕ) : Type 0 where
  pub number : ℕ
  pub ordered : slice_get order place ≡ Some number
  pub stands : slice_get gates number ≡ Some gate

-- the next cut: of the first gate in order that is too wide, the input that is no stop and has the most leaves
pub record IsNextCut (gates : List (Gate ℕ)) (order : List ℕ) (width : ℕ) (cuts : List ℕ) (net : ℕ) : Type 0 where
  pub place : ℕ
  pub gate : Gate ℕ
  pub stands : StandsAt gates order place gate
  pub wide : IsTooWide gates cuts width gate
  pub first : (earlier : ℕ) (g : Gate ℕ) → earlier < place → StandsAt gates order earlier g → IsTooWide gates cuts width g → ⊥
  pub input : Contains gate.ins net
  pub no_stop : is_stop_with gates cuts net ≡ false
  pub most : (other : ℕ) → Contains gate.ins other → is_stop_with gates cuts other ≡ false → IsCutRather gates cuts net other

-- one cut after another, behind those before, until no gate is too wide
abbrev pub AreTurns : List (Gate ℕ) → List ℕ → ℕ → (before turns : List ℕ) → Type 0
AreTurns gates order width before [] = (g : Gate ℕ) → Contains gates g → IsTooWide gates before width g → ⊥
AreTurns gates order width before (net ∷ turns) = IsNextCut gates order width before net × AreTurns gates order width (before ++ net ∷ []) turns

-- the cuts in ascending order
pub record AreCuts (gates : List (Gate ℕ)) (order : List ℕ) (width : ℕ) (cuts : List ℕ) : Type 0 where
  pub turns : List ℕ
  pub steps : AreTurns gates order width [] turns
  pub same : IsPermutation turns cuts
  pub ascending : IsStrictlyIncreasing cuts
