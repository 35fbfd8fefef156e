-- The numbers of a command that words mean are in their ranges.
use Rattle.std.proofs.Common.{arith, ◌≡◌, ◌==◌, if◌then◌else◌, Bool, true, false, ℕ, List, [], ◌∷◌, refl, sym, subst, slice_index_or}
use Rattle.std.specs.List.{AllByRecursion, flat_map}
use Rattle.std.proofs.lemmas.Bool.Decides.{Decides-eqb}
use Rattle.bb_base.proofs.Lists.{all_join}
use Rattle.bb_words.specs.declared.setting.Setting.{Setting}
use Rattle.bb_words.specs.declared.setting.Setting.TheVariants.{Width, MinDegree, MaxDegree, MaxCycles, Register}
use Rattle.bb_words.specs.declared.command.Settings.{Settings}
use Rattle.bb_words.specs.Options.{row_of, place_of, IsInRange}
use Rattle.bb_words.specs.Commands.{CommandValue, Compile, Check, Sample}
use Rattle.bb_words.specs.Calls.{PieceValue, Positional, Apart, Joined, IsPiece, numbers_in, setting_in, AreSettings, Means}
use Rattle.bb_words.proofs.Pieces.{one_place}
use Rattle.bb_choose.specs.Arranged.{AreInRange}
use Rattle.bb_top.specs.Steps.{AreRanged}

-- the numbers that options give are in range
given : (s : Setting) (pieces : List PieceValue) → AllByRecursion IsPiece pieces → AllByRecursion (IsInRange s) (flat_map (numbers_in s) pieces)
given s [] h = tt
given s (p ∷ pieces) h = all_join (IsInRange s) (numbers_in s p) (flat_map (numbers_in s) pieces) (one p h.0) (given s pieces h.1)
  where
    either : (t : Setting) (n : ℕ) → IsInRange t n → (b : Bool) → (place_of s == place_of t) ≡ b → AllByRecursion (IsInRange s) (if b then n ∷ [] else [])
    either t n range true e = let same : t ≡ s = one_place t s (sym ((Decides-eqb (place_of s) (place_of t)).0 e)) in (subst (λ x. IsInRange x n) same range, tt)
    either t n range false e = tt

    one : (q : PieceValue) → IsPiece q → AllByRecursion (IsInRange s) (numbers_in s q)
    one (Positional w) k = tt
    one (Apart t n) k = either t n k (place_of s == place_of t) refl
    one (Joined t n) k = either t n k (place_of s == place_of t) refl

default_in_range : (s : Setting) → IsInRange s (row_of s).default
default_in_range Width = (omega arith, omega arith)
default_in_range MinDegree = (omega arith, omega arith)
default_in_range MaxDegree = (omega arith, omega arith)
default_in_range MaxCycles = (omega arith, omega arith)
default_in_range Register = (omega arith, omega arith)

-- and so is what they set
first_in_range : (s : Setting) (numbers : List ℕ) → AllByRecursion (IsInRange s) numbers → IsInRange s (slice_index_or numbers 0 (row_of s).default)
first_in_range s [] h = default_in_range s
first_in_range s (n ∷ numbers) h = h.0

settings_in_range : (pieces : List PieceValue) (settings : Settings) → AllByRecursion IsPiece pieces → AreSettings (λ s. flat_map (numbers_in s) pieces) settings → AreInRange settings
settings_in_range pieces settings each are = record {
  width_least = (at Width).0;
  width_most = (at Width).1;
  degree_least = (at MinDegree).0;
  degrees = are.degrees;
  degree_most = (at MaxDegree).1;
  register_least = (at Register).0;
  register_most = (at Register).1;
}
  where
    at : (s : Setting) → IsInRange s (setting_in settings s)
    at s = subst (IsInRange s) (sym (are.each s)) (first_in_range s (flat_map (numbers_in s) pieces) (given s pieces each))

pub command_ranged : (words : List (List ℕ)) (command : CommandValue) → Means words command → AreRanged command
command_ranged words (Compile input prefix settings) means = settings_in_range means.pieces settings means.each means.takes.1
command_ranged words (Check input prefix) means = tt
command_ranged words (Sample number prefix settings) means = (means.takes.1, means.takes.2, settings_in_range means.pieces settings means.each means.takes.3)
