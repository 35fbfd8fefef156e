-- The signatures of sessions, from a session on.
use Rattle.std.proofs.Common.{arith, ◌≡◌, ◌∙◌, ℕ, zero, suc, ◌<◌, ◌≤◌, List, [], ◌∷◌, ◌++◌, length, map, drop, get_or, refl, ap, sym}
use Rattle.std.specs.List.{AllZip}
use Rattle.bb_forms.specs.declared.signature.Signature.{Signature}
use Rattle.bb_make.specs.Files.{signed_session, signed_sessions}

-- as many values as registers
abbrev pub AreLong : List (List ℕ) → List (List ℕ) → Type 0
AreLong sessions values = AllZip (λ session written. length written ≡ length session) sessions values

-- a session has as many values as registers, and stands before the sessions behind it
pub sessions_next : {X : Type 0} (items : X → List ℕ) (sessions : List (List ℕ)) (values : List X) (place : ℕ) (session : List ℕ) (value : X) → place < length sessions → session ≡ get_or sessions place session → value ≡ get_or values place value
    → AreLong sessions (map items values)
    → (length (items value) ≡ length session) × (signed_sessions (drop place sessions) (drop place (map items values)) ≡ signed_session session (items value) ∷ signed_sessions (drop (suc place) sessions) (drop (suc place) (map items values)))
sessions_next items [] values place session value less is here long = absurd (omega (arith, less))
sessions_next items (s ∷ ss) [] place session value less is here long = absurd long
sessions_next items (s ∷ ss) (v ∷ vs) zero session value less is here long = (
  ap (λ x. length (items x)) here ∙ long.0 ∙ ap length (sym is),
  ap (λ x. x ∷ signed_sessions ss (map items vs)) (ap (λ x. signed_session s (items x)) (sym here) ∙ ap (λ x. signed_session x (items value)) (sym is)),
)
sessions_next items (s ∷ ss) (v ∷ vs) (suc place) session value less is here long = sessions_next items ss vs place session value (omega (arith, less)) is here long.1

snoc : {Y : Type 0} (items : Y → List Signature) (so_far : List Y) (x : Y) (rest : List (List Signature)) → map items (so_far ++ x ∷ []) ++ rest ≡ map items so_far ++ (items x ∷ rest)
snoc items [] x rest = refl
snoc items (y ∷ ys) x rest = ap (λ z. items y ∷ z) (snoc items ys x rest)

-- one session more is done, and one less is ahead
pub sessions_done : {Y : Type 0} (items : Y → List Signature) (so_far more : List Y) (x : Y) (ahead rest whole : List (List Signature)) → more ≡ so_far ++ x ∷ [] → map items so_far ++ ahead ≡ whole → ahead ≡ items x ∷ rest → map items more ++ rest ≡ whole
sessions_done items so_far more x ahead rest whole grown done here = ap (λ ys. map items ys ++ rest) grown ∙ snoc items so_far x rest ∙ ap (λ z. map items so_far ++ z) (sym here) ∙ done

-- there are no more of them than sessions
pub signed_few : (sessions values : List (List ℕ)) → length (signed_sessions sessions values) ≤ length sessions
signed_few [] values = omega arith
signed_few (s ∷ ss) [] = omega arith
signed_few (s ∷ ss) (v ∷ vs) = let rest = signed_few ss vs in omega (arith, rest)
