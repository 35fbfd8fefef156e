-- Depths of nets, by the equation at each net alone.
use Rattle.std.specs.Prelude.{◌≡◌, ℕ, suc, ◌+◌, ◌*◌, ◌%◌, ◌<◌, ◌≤◌, ◌^◌, ◌==◌, ◌&&◌, max, Bool, true, false, if◌then◌else◌, List, [], ◌∷◌, length, All, Option, Some, None, count_by, slice_index, slice_index_or, slice_get}
use Rattle.std.specs.List.{AllByRecursion}
use Rattle.bb_base.specs.Net.{Gate, times}
use Rattle.bb_base.specs.Order.{drivers}

-- the higher of two depths, none where one of them is
abbrev pub higher : Option ℕ → Option ℕ → Option ℕ
higher None b = None
higher (Some a) None = None
higher (Some a) (Some b) = Some (max a b)

abbrev pub highest : (ℕ → Option ℕ) → List ℕ → Option ℕ
highest depth [] = Some 0
highest depth (n ∷ ns) = higher (depth n) (highest depth ns)

abbrev pub next_depth : Option ℕ → Option ℕ
next_depth None = None
next_depth (Some l) = Some (suc l)

-- the depth of a gate's output is one more than the highest of its inputs, or none where one of these has none
abbrev pub MeetsDepth : (ℕ → Option ℕ) → Gate ℕ → Type 0
MeetsDepth depth g = depth g.out ≡ next_depth (highest depth g.ins)

-- each of so many nets that no gate drives has depth 0, and every gate meets the equation
pub record AreDepths (nets : ℕ) (gates : List (Gate ℕ)) (depth : ℕ → Option ℕ) : Type 0 where
  pub free : (n : ℕ) → n < nets → drivers gates n ≡ [] → depth n ≡ Some 0
  pub driven : AllByRecursion (MeetsDepth depth) gates

-- the table's depth of a net
abbrev pub depth_in : List (Option ℕ) → ℕ → Option ℕ
depth_in depths n = slice_index_or depths n None

-- there is no depth yet
abbrev pub is_open : Option ℕ → Bool
is_open None = true
is_open (Some r) = false

-- how many of the nets have no depth yet
abbrev pub open_count : (ℕ → Option ℕ) → List ℕ → ℕ
open_count depth ins = count_by (λ n. is_open (depth n)) ins

-- the inputs of a gate, where there is one
abbrev pub inputs_in : Option (Gate ℕ) → List ℕ
inputs_in None = []
inputs_in (Some g) = g.ins

-- the inputs of the gate of this number, none where there is no such gate
abbrev pub inputs_at : List (Gate ℕ) → ℕ → List ℕ
inputs_at gates h = inputs_in (slice_get gates h)

-- the gates so far: depths of nets, how many inputs of each gate have none, and the gates to be taken next
pub record Work : Type 0 where
  pub depths : List (Option ℕ)
  pub waits : List ℕ
  pub ready : List ℕ

abbrev pub work : List (Option ℕ) → List ℕ → List ℕ → Work
work depths waits ready = record { depths = depths; waits = waits; ready = ready }

-- 1 where a gate is to be taken: it waits for no input, and its output has no depth yet
abbrev pub due_in : List (Option ℕ) → ℕ → Option (Gate ℕ) → ℕ
due_in depths wait None = 0
due_in depths wait (Some g) = if wait == 0 && is_open (depth_in depths g.out) then 1 else 0

abbrev pub due : List (Gate ℕ) → List (Option ℕ) → List ℕ → ℕ → ℕ
due gates depths waits h = due_in depths (slice_index waits h) (slice_get gates h)

-- what holds between two gates
pub record IsWork (nets : ℕ) (gates : List (Gate ℕ)) (w : Work) : Type 0 where
  pub long_depths : length w.depths ≡ nets
  pub long_waits : length w.waits ≡ length gates
  pub free : (n : ℕ) → n < nets → drivers gates n ≡ [] → depth_in w.depths n ≡ Some 0
  pub waits : (h : ℕ) (g : Gate ℕ) → slice_get gates h ≡ Some g → slice_index w.waits h ≡ open_count (depth_in w.depths) g.ins
  pub met : (h r : ℕ) (g : Gate ℕ) → slice_get gates h ≡ Some g → depth_in w.depths g.out ≡ Some r → MeetsDepth (depth_in w.depths) g
  pub ready : (h : ℕ) → times h w.ready ≡ due gates w.depths w.waits h
  -- no depth is above the number of depths that gates have got
  pub low : (n r : ℕ) → n < nets → depth_in w.depths n ≡ Some r → r + count_by is_open w.depths ≤ length gates
  pub few : count_by is_open w.depths ≤ length gates

-- gates read and drive nets below their count, and no two drive one
pub record AreGates (nets : ℕ) (gates : List (Gate ℕ)) : Type 0 where
  pub few : length gates < 2 ^ 32
  pub drives : All (λ g. g.out < nets) gates
  pub reads : All (λ g. All (λ n. n < nets) g.ins) gates
  pub apart : (h j : ℕ) (f g : Gate ℕ) → slice_get gates h ≡ Some f → slice_get gates j ≡ Some g → f.out ≡ g.out → h ≡ j

-- for each net the gates that read it, as often as they do
pub record AreReaders (nets : ℕ) (gates : List (Gate ℕ)) (readers : List (List ℕ)) : Type 0 where
  pub long : length readers ≡ nets
  pub each : (n h : ℕ) → n < nets → times h (slice_index_or readers n []) ≡ times n (inputs_at gates h)

-- the depth, and 0 where there is none
abbrev pub number_of : Option ℕ → ℕ
number_of None = 0
number_of (Some r) = r

-- a gate's depth and number in one key, and the number in it
abbrev pub key_at : Option ℕ → ℕ → ℕ
key_at depth h = number_of depth * 4294967296 + h

abbrev pub number_in : ℕ → ℕ
number_in key = key % 4294967296

-- the first of some nets that has no depth
pub record IsFirstOpen (depth : ℕ → Option ℕ) (nets : List ℕ) (net : ℕ) : Type 0 where
  pub place : ℕ
  pub stands : slice_get nets place ≡ Some net
  pub no_depth : depth net ≡ None
  pub first : (q m : ℕ) → q < place → slice_get nets q ≡ Some m → depth m ≡ None → ⊥
