-- A token on its way down the stack.
use Rattle.std.proofs.Common.{◌≡◌, ℕ, ◌<◌, List, [], ◌∷◌, length, true, false, ◌∙◌, ap, arith, if◌then◌else◌}
use Rattle.bb_base.specs.declared.token.TokenKind.{TokenKind}
use Rattle.bb_parse.specs.declared.draft.Draft.{Draft}
use Rattle.bb_parse.specs.declared.symbol.Symbol.{Symbol}
use Rattle.bb_parse.specs.declared.fault.ParseFault.TheVariants as faults
use Rattle.bb_parse.specs.Passes.{passes, passed}
use Rattle.bb_parse.specs.Machine.{Parsing, Failed, passed_on, after_move, read_by}

-- the first symbol takes the token
pub taken : (before : ℕ → Parsing) (pending more : List Symbol) (s : Symbol) (k : TokenKind) (d : Draft) → pending ≡ s ∷ more → passes s k ≡ false → ((line : ℕ) → before line ≡ passed_on pending d k line) → (line : ℕ) → before line ≡ after_move (read_by s k line d) more line
taken before pending more s k d first stays h line =
    h line ∙ ap (λ p. passed_on p d k line) first ∙ ap (λ b. if b then passed_on more (passed s d) k line else after_move (read_by s k line d) more line) stays

-- the first symbol lets the token pass
pub let_by : (before : ℕ → Parsing) (pending more : List Symbol) (s : Symbol) (k : TokenKind) (d : Draft) → pending ≡ s ∷ more → passes s k ≡ true → ((line : ℕ) → before line ≡ passed_on pending d k line) → (line : ℕ) → before line ≡ passed_on more (passed s d) k line
let_by before pending more s k d first passing h line =
    h line ∙ ap (λ p. passed_on p d k line) first ∙ ap (λ b. if b then passed_on more (passed s d) k line else after_move (read_by s k line d) more line) passing

-- no symbol is left
pub none_left : (before : ℕ → Parsing) (pending : List Symbol) (k : TokenKind) (d : Draft) → pending ≡ [] → ((line : ℕ) → before line ≡ passed_on pending d k line) → (line : ℕ) → before line ≡ Failed (faults.Unreadable line)
none_left before pending k d none h line = h line ∙ ap (λ p. passed_on p d k line) none

-- the stack is shorter
pub shorter : {S : Type 0} (pending more now : List S) (s : S) → pending ≡ s ∷ more → now ≡ more → length now < length pending
shorter pending more now s first same = omega (arith, ap length first, ap length same)
