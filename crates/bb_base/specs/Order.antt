-- The order in which gates are evaluated, and the loop that stands where there is none.
use Rattle.std.specs.Prelude.{◌≡◌, ◌≢◌, ◌⊎◌, ℕ, zero, suc, ◌<◌, Bool, true, false, ◌==◌, List, [], ◌∷◌, ◌++◌, length, filter, AllPairs, Some, slice_get, Contains}
use Rattle.std.specs.List.{AllByRecursion, list_all, range_with_len}
use Rattle.std.specs.List.Sorted.{IsPermutation}
use Rattle.bb_base.specs.Net.{Gate}

-- the gates that drive a net
abbrev pub drivers : List (Gate ℕ) → ℕ → List (Gate ℕ)
drivers gates net = filter (λ g. g.out == net) gates

abbrev pub is_empty : {A : Type 0} → List A → Bool
is_empty [] = true
is_empty (x ∷ xs) = false

-- every way back from the net passes at most so many gates
abbrev pub is_within : List (Gate ℕ) → ℕ → ℕ → Bool
is_within gates zero net = is_empty (drivers gates net)
is_within gates (suc k) net = list_all (λ g. list_all (is_within gates k) g.ins) (drivers gates net)

-- The gate's level: 0 where no gate drives an input of it, else one more than the highest level among its input gates. So ways
-- back from its inputs pass at most so many gates, and not always fewer.
pub record HasLevel (gates : List (Gate ℕ)) (g : Gate ℕ) (level : ℕ) : Type 0 where
  pub within : list_all (is_within gates level) g.ins ≡ true
  pub least : (k : ℕ) → k < level → list_all (is_within gates k) g.ins ≡ false

-- a net whose gate has no level: some way back from it never ends
abbrev pub IsStuck : List (Gate ℕ) → ℕ → Type 0
IsStuck gates net = (k : ℕ) → is_within gates k net ≡ false

-- the one gate comes before the other: by level, then by number
abbrev pub ComesBefore : (ℕ → ℕ) → ℕ → ℕ → Type 0
ComesBefore level h j = (level h < level j) ⊎ ((level h ≡ level j) × (h < j))

-- the numbers of all gates by level, then by number
pub record IsOrder (gates : List (Gate ℕ)) (order : List ℕ) : Type 0 where
  pub level : ℕ → ℕ
  pub levels : (h : ℕ) (g : Gate ℕ) → slice_get gates h ≡ Some g → HasLevel gates g (level h)
  pub each_once : IsPermutation (range_with_len 0 (length gates)) order
  pub ascending : AllPairs (ComesBefore level) order

-- the gates have an order
abbrev pub HasOrder : List (Gate ℕ) → Type 0
HasOrder gates = (order : List ℕ) × IsOrder gates order

-- each input of the gate has a lower number than its output
abbrev pub FallsAlong : {N : Type 0} → (N → ℕ) → Gate N → Type 0
FallsAlong rank g = AllByRecursion (λ net. rank net < rank g.out) g.ins

-- nets have ranks: numbers that fall along every gate
abbrev pub HasRanks : {N : Type 0} → List (Gate N) → Type 0
HasRanks {N} gates = (rank : N → ℕ) × AllByRecursion (FallsAlong rank) gates

-- a gate drives the net and reads the other
pub record Reads {N : Type 0} (gates : List (Gate N)) (net input : N) : Type 0 where
  pub gate : Gate N
  pub stands : Contains gates gate
  pub drives : gate.out ≡ net
  pub reads : Contains gate.ins input

-- each net of the list leads to the next one, and the last to this net
abbrev pub LeadsTo : {N : Type 0} → (N → N → Type 0) → List N → N → Type 0
LeadsTo step [] last = Unit {0}
LeadsTo step (n ∷ []) last = step n last
LeadsTo step (n ∷ m ∷ ms) last = step n m × LeadsTo step (m ∷ ms) last

-- gates form a cycle: the gate of each net reads the next net, and that of the last the first
abbrev pub IsCycle : {N : Type 0} → List (Gate N) → List N → Type 0
IsCycle gates [] = ⊥
IsCycle gates (n ∷ ns) = LeadsTo (Reads gates) (n ∷ ns) n

-- the first input of the net's gate whose own gate has no level
pub record IsFirstStuck (gates : List (Gate ℕ)) (net input : ℕ) : Type 0 where
  pub gate : Gate ℕ
  pub stands : Contains gates gate
  pub drives : gate.out ≡ net
  pub place : ℕ
  pub reads : slice_get gate.ins place ≡ Some input
  pub stuck : IsStuck gates input
  pub first : (q m : ℕ) → q < place → slice_get gate.ins q ≡ Some m → IsStuck gates m → ⊥

-- the least net whose gate has no level
pub record IsLeastStuck (gates : List (Gate ℕ)) (net : ℕ) : Type 0 where
  pub stuck : IsStuck gates net
  pub least : (m : ℕ) → m < net → IsStuck gates m → ⊥

-- there is a first item, and it has P
abbrev pub BeginsWith : {X : Type 0} → List X → (X → Type 0) → Type 0
BeginsWith [] P = ⊥
BeginsWith (n ∷ ns) P = P n

-- The loop that is named: a walk from the least net whose gate has no level, each time to the first input whose gate has none, up
-- to the first net that is met twice; the loop is the walk from that net on.
pub record IsLoop (gates : List (Gate ℕ)) (nets : List ℕ) : Type 0 where
  pub before : List ℕ
  pub first : ℕ
  pub start : BeginsWith (before ++ nets) (IsLeastStuck gates)
  pub walk : LeadsTo (IsFirstStuck gates) (before ++ nets) first
  pub again : BeginsWith nets (λ n. n ≡ first)
  pub met_once : AllPairs (λ a b. a ≢ b) (before ++ nets)

-- the gate of the first number reads what the gate of the other drives
pub record ReadsGate (gates : List (Gate ℕ)) (reader driver : ℕ) : Type 0 where
  pub gate : Gate ℕ
  pub stands : slice_get gates reader ≡ Some gate
  pub source : Gate ℕ
  pub source_stands : slice_get gates driver ≡ Some source
  pub reads : Contains gate.ins source.out
