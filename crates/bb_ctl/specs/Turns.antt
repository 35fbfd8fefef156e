-- The sessions of each register, noted one session after the other. No public contract cites this.
use Rattle.std.specs.Prelude.{◌≡◌, ℕ, ◌<◌, ◌==◌, Bool, false, List, [], ◌∷◌, ◌++◌, length, if◌then◌else◌, slice_index_or}
use Rattle.bb_terms.specs.OnBits.{last_of}
use Rattle.bb_terms.specs.Plan.{PlanValue, lists_register, sessions_of}

-- the last session is s
abbrev pub ends_with : ℕ → List ℕ → Bool
ends_with s [] = false
ends_with s (t ∷ sessions) = last_of t sessions == s

-- session s behind the others, once
abbrev pub turn_noted : List ℕ → ℕ → List ℕ
turn_noted sessions s = if ends_with s sessions then sessions else sessions ++ s ∷ []

-- the sessions of register r
abbrev pub turns_at : List (List ℕ) → ℕ → List ℕ
turns_at turns r = slice_index_or turns r []

-- the same, and session s where it lists the register
abbrev pub with_turn : ℕ → List ℕ → ℕ → List ℕ → List ℕ
with_turn s session r sessions = if lists_register r session then sessions ++ s ∷ [] else sessions

-- each register has its sessions
pub record AreSessionsOf (p : PlanValue) (turns : List (List ℕ)) : Type 0 where
  pub long : length turns ≡ length p.registers
  pub each : (r : ℕ) → r < length turns → turns_at turns r ≡ sessions_of p r
