-- First fit by number: what each item gives and reads, and which groups it clashes with. No public contract cites this.
use Rattle.std.specs.Prelude.{◌≡◌, ℕ, ◌<◌, ◌≤◌, Bool, true, false, not, ◌&&◌, ◌||◌, List, [], ◌∷◌, length, map, nat_eq, nat_lt, Option, None, Some, slice_get, slice_index_or, unwrap_or}
use Rattle.std.specs.List.{list_any, range_with_len}
use Rattle.std.specs.Map.{lookup}
use Rattle.std.specs.BTreeMap.{is_at}
use Rattle.std.specs.Ordering.{nat_cmp}
use Rattle.bb_terms.specs.declared.kind.Kind.TheVariants.{Input}
use Rattle.bb_terms.specs.declared.plan.Cell.{Cell}
use Rattle.bb_reg.specs.Draft.{bare_cell}
use Rattle.bb_reg.specs.Chosen.{Seen, fitted, given, read_nets, share}

-- the nets that an item gives to lines, and those that its own lines read
pub record EndsValue : Type 0 where
  pub gives : List ℕ
  pub reads : List ℕ

-- one gives what the other reads
abbrev pub ends_clash : EndsValue → EndsValue → Bool
ends_clash a b = share a.gives b.reads || share b.gives a.reads

-- the item of this number
abbrev pub ends_at : List EndsValue → ℕ → EndsValue
ends_at items i = slice_index_or items i (record { gives = []; reads = [] })

-- a group has room for the item of this number, and none of it clashes
abbrev pub fits_in : List EndsValue → ℕ → ℕ → List ℕ → Bool
fits_in items most i group = nat_lt (length group) most && not (list_any (λ j. ends_clash (ends_at items i) (ends_at items j)) group)

-- the numbers of the first items in groups of so many
abbrev pub groups_of : List EndsValue → ℕ → ℕ → List (List ℕ)
groups_of items most count = fitted (fits_in items most) (range_with_len 0 count)

-- the group of this number
abbrev pub group_at : List (List ℕ) → ℕ → List ℕ
group_at groups g = slice_index_or groups g []

-- the number is among the keys of a set
abbrev pub holds : List ℕ → ℕ → Bool
holds keys n = list_any (is_at (nat_cmp n)) keys

-- the numbers noted for a net
abbrev pub numbers_at : List (ℕ × List ℕ) → ℕ → List ℕ
numbers_at entries net = unwrap_or (lookup (is_at (nat_cmp net)) entries) []

-- for each net the numbers of the lists that hold it are noted
abbrev pub AreNoted : (lists : ℕ → List ℕ) (count : ℕ) → List (ℕ × List ℕ) → Type 0
AreNoted lists count entries = (net j : ℕ) → list_any (nat_eq j) (numbers_at entries net) ≡ (nat_lt j count && list_any (nat_eq net) (lists j))

-- this is the group of the item, where it is placed
abbrev pub is_home_in : Option ℕ → ℕ → Bool
is_home_in None g = false
is_home_in (Some h) g = nat_eq g h

abbrev pub is_home : List ℕ → ℕ → ℕ → Bool
is_home homes g j = is_home_in (slice_get homes j) g

-- this is the group of an item that holds one of the nets
abbrev pub is_met : List (ℕ × List ℕ) → List ℕ → List ℕ → ℕ → Bool
is_met entries homes nets g = list_any (λ net. list_any (is_home homes g) (numbers_at entries net)) nets

-- so many items are placed: each has its group's number, and the groups with room are open
pub record IsFitted (items : List EndsValue) (most count : ℕ) (groups : List (List ℕ)) (homes open_groups : List ℕ) : Type 0 where
  pub groups_are : groups ≡ groups_of items most count
  pub placed : length homes ≡ count
  pub few : length groups ≤ count
  pub homes_are : (g j : ℕ) → list_any (nat_eq j) (group_at groups g) ≡ is_home homes g j
  pub open_are : (g : ℕ) → holds open_groups g ≡ (nat_lt g (length groups) && nat_lt (length (group_at groups g)) most)

-- this is the first open group that isn't met, where there is one
pub record IsFirstFree (open_groups met : List ℕ) (g : ℕ) : Type 0 where
  pub stands : holds open_groups g ≡ true
  pub free : holds met g ≡ false
  pub first : (h : ℕ) → h < g → holds open_groups h ≡ true → holds met h ≡ true

-- this is the first group that the item fits in, or it fits in none
abbrev pub IsHomeFor : List EndsValue → ℕ → ℕ → List (List ℕ) → Option ℕ → Type 0
IsHomeFor items most i groups None = (g : ℕ) → g < length groups → fits_in items most i (group_at groups g) ≡ false
IsHomeFor items most i groups (Some g) =
    (g < length groups) × (fits_in items most i (group_at groups g) ≡ true) × ((h : ℕ) → h < g → fits_in items most i (group_at groups h) ≡ false)

-- an observer without leaves stands for the one behind the last
abbrev pub no_observer : Seen
no_observer = record { cell = bare_cell Input 0; leaves = [] }

-- the observer of this number, its cell and its leaves
abbrev pub seen_at : List Seen → ℕ → Seen
seen_at observers i = slice_index_or observers i no_observer

abbrev pub cell_at : List Cell → ℕ → Cell
cell_at cells i = slice_index_or cells i (bare_cell Input 0)

abbrev pub leaves_at : List (List ℕ) → ℕ → List ℕ
leaves_at leaves i = slice_index_or leaves i []

-- what a group of observers gives and reads
abbrev pub ends_of_all : List Seen → EndsValue
ends_of_all group = record { gives = given group; reads = read_nets group }

abbrev pub ends_each : List Seen → List EndsValue
ends_each observers = map (λ o. ends_of_all (o ∷ [])) observers
