-- Tables of bits by which the clock is found: what each bit copies, its copies as a list, and the input bit that feeds it.
-- (No outcome rests on these: they serve contracts of inner calls and proofs.)
use Rattle.std.specs.Prelude.{◌≡◌, ◌<◌, ◌⊎◌, ℕ, nat_eq, Bool, true, false, not, ◌||◌, List, [], ◌∷◌, length, count_by, Option, Some, None, if◌then◌else◌, slice_index_or, slice_set}
use Rattle.bb_base.specs.Net.{Gate}
use Rattle.bb_base.specs.Variables.{Entry}
use Rattle.bb_drive.specs.Nets.{has_bit, input_bits}
use Rattle.std.specs.List.{AllByRecursion}
use Rattle.bb_fault.specs.Firsts.{first_answer}
use Rattle.bb_fault.specs.Work.{Work, Clocked}
use Rattle.bb_drive.specs.Clock.{copied_net, origin_within, origin}

-- what a table has for a bit, none past its end
abbrev pub entry_at : List (Option ℕ) → ℕ → Option ℕ
entry_at table b = slice_index_or table b None

-- the bit has a mark
abbrev pub is_marked : List Bool → ℕ → Bool
is_marked marks b = slice_index_or marks b false

-- there is no entry
abbrev pub is_unlabelled : Option ℕ → Bool
is_unlabelled None = true
is_unlabelled (Some n) = false

-- two copies of one bit, the second of them the older one
pub record IsBefore (backs : List (Option ℕ)) (b c : ℕ) : Type 0 where
  pub source : ℕ
  pub newer : entry_at backs b ≡ Some source
  pub older : entry_at backs c ≡ Some source

-- the bit is the copy before another one below a count
pub record HasNewer (older : List (Option ℕ)) (count b : ℕ) : Type 0 where
  pub copy : ℕ
  pub above : b < copy
  pub below : copy < count
  pub link : entry_at older copy ≡ Some b

-- the copies of the bits below a count, as a list through two tables: the newest copy of each bit, and the copy before it of the same bit
pub record AreCopies (backs : List (Option ℕ)) (count : ℕ) (newest older : List (Option ℕ)) : Type 0 where
  pub long_newest : length newest ≡ length backs
  pub long_older : length older ≡ length backs
  pub first : (a c : ℕ) → entry_at newest a ≡ Some c → (c < count) × (entry_at backs c ≡ Some a)
  pub next : (b c : ℕ) → entry_at older b ≡ Some c → IsBefore backs b c
  pub all : (b a : ℕ) → b < count → entry_at backs b ≡ Some a
      → (entry_at newest a ≡ Some b) ⊎ HasNewer older count b

-- how many gates drive a bit that has a label
abbrev pub reached : List (Option ℕ) → List (Gate ℕ) → ℕ
reached labels gates = count_by (λ g. not (is_unlabelled (entry_at labels g.out))) gates

-- the bit that a table names, where it names one, has this label
abbrev pub HasLabel : List (Option ℕ) → Option ℕ → ℕ → Type 0
HasLabel labels link i = (c : ℕ) → link ≡ Some c → entry_at labels c ≡ Some i

-- the tables that do not change: the bits where labels begin, the gates, what each bit copies, and its copies
pub record Ways : Type 0 where
  pub roots : List Bool
  pub gates : List (Gate ℕ)
  pub backs : List (Option ℕ)
  pub newest : List (Option ℕ)
  pub older : List (Option ℕ)

-- labels begin where no gate copies, and the copies are those of the gates
pub record AreWays (w : Ways) : Type 0 where
  pub long : length w.roots ≡ length w.backs
  pub backs : (b : ℕ) → b < length w.backs → entry_at w.backs b ≡ copied_net w.gates b
  pub inside : (b a : ℕ) → entry_at w.backs b ≡ Some a → a < length w.backs
  pub free : (b : ℕ) → is_marked w.roots b ≡ true → entry_at w.backs b ≡ None
  pub copies : AreCopies w.backs (length w.backs) w.newest w.older

-- labels on their way: each is that of a root, stands at a bit that the root feeds, and has gone on from the bits that do not wait.
-- The way back from a labelled bit is no longer than the number of gates that labels have reached
pub record AreLabels (w : Ways) (labels : List (Option ℕ)) (waits : ℕ → Bool) : Type 0 where
  pub long : length labels ≡ length w.backs
  pub rooted : (b : ℕ) → is_marked w.roots b ≡ true → entry_at labels b ≡ Some b
  pub sound : (b i : ℕ) → entry_at labels b ≡ Some i → (is_marked w.roots i ≡ true) × (origin_within (reached labels w.gates) w.gates b ≡ i)
  pub parent : (b a i : ℕ) → entry_at labels b ≡ Some i → entry_at w.backs b ≡ Some a → entry_at labels a ≡ Some i
  pub newest : (b i : ℕ) → entry_at labels b ≡ Some i → waits b ≡ false → HasLabel labels (entry_at w.newest b) i
  pub older : (b i : ℕ) → entry_at labels b ≡ Some i → waits b ≡ false → HasLabel labels (entry_at w.older b) i

-- labels that have gone on as far as they go: a copy of a labelled bit has its label
pub record AreSpread (gates : List (Gate ℕ)) (backs : List (Option ℕ)) (roots : List Bool) (labels : List (Option ℕ)) : Type 0 where
  pub long : length labels ≡ length backs
  pub rooted : (b : ℕ) → is_marked roots b ≡ true → entry_at labels b ≡ Some b
  pub sound : (b i : ℕ) → entry_at labels b ≡ Some i → (is_marked roots i ≡ true) × (origin_within (reached labels gates) gates b ≡ i)
  pub closed : (b a i : ℕ) → entry_at backs b ≡ Some a → entry_at labels a ≡ Some i → entry_at labels b ≡ Some i

-- the labels after a bit gets one, where it has none yet
abbrev pub labelled : List (Option ℕ) → Option ℕ → ℕ → List (Option ℕ)
labelled labels None i = labels
labelled labels (Some c) i = if is_unlabelled (entry_at labels c) then slice_set labels c (Some i) else labels

-- the bit that gets a label so
abbrev pub newly_labelled : List (Option ℕ) → Option ℕ → List ℕ
newly_labelled labels None = []
newly_labelled labels (Some c) = if is_unlabelled (entry_at labels c) then c ∷ [] else []

-- a label is the origin of its bit and marked, and each bit whose origin is marked has a label
pub record AreOrigins (w : Work) (roots : List Bool) (labels : List (Option ℕ)) : Type 0 where
  pub long : length labels ≡ w.fresh
  pub sound : (b i : ℕ) → entry_at labels b ≡ Some i → (is_marked roots i ≡ true) × (origin w b ≡ i)
  pub full : (b : ℕ) → b < w.fresh → is_marked roots (origin w b) ≡ true → entry_at labels b ≡ Some (origin w b)

-- the bits that the marks gain
pub record AreMarked (bits : List ℕ) (before after : List Bool) : Type 0 where
  pub long : length after ≡ length before
  pub each : (b : ℕ) → b < length before → is_marked after b ≡ (is_marked before b || has_bit bits b)

-- the input bit that feeds a bit through Buf gates alone
abbrev pub fed_by : List Entry → Work → ℕ → Option ℕ
fed_by vars w b = if has_bit (input_bits vars) (origin w b) then Some (origin w b) else None

-- each bit's label is the input bit that feeds it
pub record AreFed (vars : List Entry) (w : Work) (labels : List (Option ℕ)) : Type 0 where
  pub long : length labels ≡ w.fresh
  pub each : (b : ℕ) → b < w.fresh → entry_at labels b ≡ fed_by vars w b

-- exactly these bits below a count are marked
pub record AreMarks (bits : List ℕ) (count : ℕ) (marks : List Bool) : Type 0 where
  pub long : length marks ≡ count
  pub each : (b : ℕ) → b < count → is_marked marks b ≡ has_bit bits b

-- the label is another one than the clock
abbrev pub is_other : ℕ → Option ℕ → Bool
is_other clock None = true
is_other clock (Some o) = not (nat_eq clock o)

-- the bit of this label is data
abbrev pub is_data_label : Option ℕ → Option ℕ → Bool
is_data_label None label = true
is_data_label (Some clock) label = is_other clock label

-- each clock pin has its origin as a label
abbrev pub ArePinsFed : Work → List (Option ℕ) → Type 0
ArePinsFed w labels = AllByRecursion (λ (f : Clocked). entry_at labels f.clock ≡ Some (origin w f.clock)) w.flops

-- the label, where it is another one than this
abbrev pub another : ℕ → Option ℕ → Option ℕ
another clock None = None
another clock (Some o) = if nat_eq clock o then None else Some o

-- the first other label of a clock pin
abbrev pub other_label : ℕ → List (Option ℕ) → List Clocked → Option ℕ
other_label clock labels flops = first_answer (λ (f : Clocked). another clock (entry_at labels f.clock)) flops

-- the label of the first flip-flop's clock pin
abbrev pub first_label : List (Option ℕ) → List Clocked → Option ℕ
first_label labels [] = None
first_label labels (f ∷ flops) = entry_at labels f.clock
