-- The text of signatures, session by session. It is this project's own.
use Rattle.std.specs.Prelude.{◌≡◌, ℕ, ◌+◌, ◌<◌, ◌≤◌, List, [], ◌∷◌, ◌++◌, map, length, codes}
use Rattle.std.specs.List.{AllByRecursion, flat_map}
use Rattle.bb_spell.specs.Canonical.{with_feed}
use Rattle.bb_forms.specs.declared.signature.Signature.{Signature}
use Rattle.bb_forms.specs.Fields.{field_limit, number_word, hex_word}

-- the line of a register's signature
abbrev pub signature_line : Signature → List ℕ
signature_line s = codes "register" ++ (number_word s.register ++ hex_word s.value)

-- the line that begins a session, by its number
abbrev pub session_head : ℕ → List ℕ
session_head n = codes "session" ++ number_word n

-- the lines of sessions, the first of which has the number n
abbrev pub signed_from : ℕ → List (List Signature) → List (List ℕ)
signed_from n [] = []
signed_from n (session ∷ sessions) = session_head n ∷ (map signature_line session ++ signed_from (n + 1) sessions)

abbrev pub signature_lines : List (List Signature) → List (List ℕ)
signature_lines sessions = codes "bilbo-signatures 1" ∷ (signed_from 0 sessions ++ codes "end" ∷ [])

-- the text of the sessions' signatures
abbrev pub signature_text : List (List Signature) → List ℕ
signature_text sessions = flat_map with_feed (signature_lines sessions)

pub record IsSignature (s : Signature) : Type 0 where
  pub register : s.register < field_limit
  pub value : s.value < field_limit

-- what the form can say: numbers and sessions' numbers below 2^32
pub record AreFormedSignatures (sessions : List (List Signature)) : Type 0 where
  pub each : AllByRecursion (AllByRecursion IsSignature) sessions
  pub few : length sessions ≤ field_limit

-- the lines are those of some signatures
abbrev pub AreSignatureLines : List (List ℕ) → Type 0
AreSignatureLines lines = (sessions : List (List Signature)) × AreFormedSignatures sessions × (lines ≡ signature_lines sessions)
