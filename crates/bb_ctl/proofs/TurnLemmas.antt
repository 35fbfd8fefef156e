-- Sessions of registers, one session after the other.
use Rattle.std.proofs.Common.{◌≡◌, ℕ, zero, suc, ◌+◌, ◌-◌, ◌<◌, ◌≤◌, ◌==◌, ◌||◌, Bool, true, false, nat_eq, nat_lt, List, [], ◌∷◌, ◌++◌, length, take, slice_set, slice_get, Some, if◌then◌else◌, refl, sym, ap, subst, ◌∙◌, arith}
use Rattle.std.specs.List.{AllByRecursion}
use Rattle.std.proofs.lemmas.Grind.{common_steps}
use Rattle.std.proofs.lemmas.Option.{same_Some}
use Rattle.std.proofs.lemmas.Bool.Decides.{nat_tests}
use Rattle.std.proofs.lemmas.List.{take_all}
use Rattle.std.proofs.lemmas.List.Folds.{list_any-append}
use Rattle.bb_base.proofs.BooleanLemmas.{or_false}
use Rattle.bb_terms.specs.OnBits.{last_of}
use Rattle.bb_terms.specs.Plan.{PlanValue, lists_register, sessions_from}
use Rattle.bb_ctl.specs.Turns.{ends_with, turn_noted, turns_at, with_turn, AreSessionsOf}

-- the last session, by its place
last_get : (t : ℕ) (sessions : List ℕ) → slice_get (t ∷ sessions) (length sessions) ≡ Some (last_of t sessions)
last_get t [] = refl
last_get t (u ∷ sessions) = last_get u sessions

pub ends_get : (s last : ℕ) (sessions : List ℕ) → slice_get sessions (length sessions - 1) ≡ Some last → (last == s) ≡ ends_with s sessions
ends_get s last [] h = cc
ends_get s last (t ∷ sessions) h =
    let place : length (t ∷ sessions) - 1 ≡ length sessions = omega arith in
    ap (λ l. l == s) (same_Some last (last_of t sessions) (sym h ∙ ap (slice_get (t ∷ sessions)) place ∙ last_get t sessions))

-- a session noted behind earlier ones, and noted again
ends_behind : (s t : ℕ) (sessions : List ℕ) → (last_of t (sessions ++ s ∷ []) == s) ≡ true
ends_behind s t [] = grind (arith, nat_tests)
ends_behind s t (u ∷ sessions) = ends_behind s u sessions

pub noted_again : (s : ℕ) (sessions : List ℕ) → turn_noted (sessions ++ s ∷ []) s ≡ sessions ++ s ∷ []
noted_again s [] = ap (λ b. if b then s ∷ [] else s ∷ s ∷ []) (let e : (s == s) ≡ true = grind (arith, nat_tests) in e)
noted_again s (t ∷ sessions) = ap (λ b. if b then t ∷ (sessions ++ s ∷ []) else t ∷ (sessions ++ s ∷ []) ++ s ∷ []) (ends_behind s t sessions)

last_below : (s t : ℕ) (sessions : List ℕ) → t < s → AllByRecursion (λ u. u < s) sessions → (last_of t sessions == s) ≡ false
last_below s t [] h all = grind (arith, nat_tests)
last_below s t (u ∷ sessions) h all = last_below s u sessions all.0 all.1

pub noted_first : (s : ℕ) (sessions : List ℕ) → AllByRecursion (λ u. u < s) sessions → turn_noted sessions s ≡ sessions ++ s ∷ []
noted_first s [] all = refl
noted_first s (t ∷ sessions) all = ap (λ b. if b then t ∷ sessions else t ∷ (sessions ++ s ∷ [])) (last_below s t sessions all.0 all.1)

-- what is noted of the registers so far
pub record AreNoted (s : ℕ) (session : List ℕ) (old new : List (List ℕ)) : Type 0 where
  pub long : length new ≡ length old
  pub each : (r : ℕ) → r < length old → turns_at new r ≡ with_turn s session r (turns_at old r)

-- one register more
lists_more : (r x : ℕ) (session : List ℕ) → lists_register r (session ++ x ∷ []) ≡ (lists_register r session || (r == x))
lists_more r x session = list_any-append (nat_eq r) session (x ∷ []) ∙ ap (λ b. lists_register r session || b) (or_false (r == x))

other_turn : (s x r : ℕ) (session sessions : List ℕ) → (r == x) ≡ false → with_turn s session r sessions ≡ with_turn s (session ++ x ∷ []) r sessions
other_turn s x r session sessions h = ap (λ b. if b then sessions ++ s ∷ [] else sessions) (sym (lists_more r x session ∙ ap (λ b. lists_register r session || b) h ∙ or_false (lists_register r session)))

own_turn : (s x : ℕ) (session sessions : List ℕ) → AllByRecursion (λ u. u < s) sessions → turn_noted (with_turn s session x sessions) s ≡ with_turn s (session ++ x ∷ []) x sessions
own_turn s x session sessions all = by (lists_register x session) refl
  where
    same : (x == x) ≡ true
    same = grind (arith, nat_tests)

    by : (b : Bool) → lists_register x session ≡ b → turn_noted (if b then sessions ++ s ∷ [] else sessions) s ≡ with_turn s (session ++ x ∷ []) x sessions
    by true e = noted_again s sessions ∙ ap (λ b. if b then sessions ++ s ∷ [] else sessions) (sym (lists_more x x session ∙ (λ i. e i || same i)))
    by false e = noted_first s sessions all ∙ ap (λ b. if b then sessions ++ s ∷ [] else sessions) (sym (lists_more x x session ∙ (λ i. e i || same i)))

entry_there : (turns : List (List ℕ)) (x : ℕ) (sessions : List ℕ) → x < length turns → turns_at (slice_set turns x sessions) x ≡ sessions
entry_there turns x sessions less = grind (arith, common_steps, less)

entry_other : (turns : List (List ℕ)) (x r : ℕ) (sessions : List ℕ) → (r == x) ≡ false → turns_at (slice_set turns x sessions) r ≡ turns_at turns r
entry_other [] x r sessions apart = refl
entry_other (t ∷ turns) zero zero sessions apart = cc
entry_other (t ∷ turns) zero (suc r) sessions apart = refl
entry_other (t ∷ turns) (suc x) zero sessions apart = refl
entry_other (t ∷ turns) (suc x) (suc r) sessions apart = entry_other turns x r sessions (grind (arith, nat_tests, apart))

pub noted_more : (s x : ℕ) (session : List ℕ) (old turns : List (List ℕ)) (entry : List ℕ) → ((r : ℕ) → AllByRecursion (λ t. t < s) (turns_at old r)) → AreNoted s session old turns → x < length turns → entry ≡ turn_noted (turns_at turns x) s
    → AreNoted s (session ++ x ∷ []) old (slice_set turns x entry)
noted_more s x session old turns entry below h less e = record {
  long = let long = h.long in grind (arith, common_steps, long);
  each = λ r within. by r within (r == x) refl;
}
  where
    by : (r : ℕ) → r < length old → (b : Bool) → (r == x) ≡ b → turns_at (slice_set turns x entry) r ≡ with_turn s (session ++ x ∷ []) r (turns_at old r)
    by r within true t =
        let same : r ≡ x = grind (arith, nat_tests) in
        ap (turns_at (slice_set turns x entry)) same ∙ entry_there turns x entry less ∙ e ∙ ap (λ k. turn_noted k s) (h.each x (subst (λ k. k < length old) same within))
        ∙ own_turn s x session (turns_at old x) (below x) ∙ ap (λ k. with_turn s (session ++ x ∷ []) k (turns_at old k)) (sym same)
    by r within false t = entry_other turns x r entry t ∙ h.each r within ∙ other_turn s x r session (turns_at old r) t

-- a number that is no register's
pub noted_outside : (s x : ℕ) (session : List ℕ) (old turns : List (List ℕ)) → AreNoted s session old turns → (x < length turns → ⊥) → AreNoted s (session ++ x ∷ []) old turns
noted_outside s x session old turns h out = record {
  long = h.long;
  each = λ r within.
      let long = h.long in
      let apart : (r == x) ≡ false = by r within (r == x) refl in
      h.each r within ∙ other_turn s x r session (turns_at old r) apart;
}
  where
    by : (r : ℕ) → r < length old → (b : Bool) → (r == x) ≡ b → b ≡ false
    by r within true t = absurd (out (let same : r ≡ x = grind (arith, nat_tests) in omega (arith, within, h.long, same)))
    by r within false t = refl

-- sessions that list a register, one more
sessions_more : (first i r : ℕ) (sessions : List (List ℕ)) (session : List ℕ) → slice_get sessions i ≡ Some session → sessions_from first (take (i + 1) sessions) r ≡ with_turn (first + i) session r (sessions_from first (take i sessions) r)
sessions_more first i r [] session h = cc
sessions_more first zero r (t ∷ sessions) session h =
    let same : t ≡ session = cc h in
    let start : first ≡ first + 0 = omega arith in
    (λ k. if lists_register r (same k) then start k ∷ [] else [])
sessions_more first (suc i) r (t ∷ sessions) session h =
    let next : suc i + 1 ≡ suc (i + 1) = omega arith in
    let number : suc first + i ≡ first + suc i = omega arith in
    ap (λ k. sessions_from first (take k (t ∷ sessions)) r) next
    ∙ ap (λ rest. if lists_register r t then first ∷ rest else rest) (sessions_more (suc first) i r sessions session h ∙ ap (λ k. with_turn k session r (sessions_from (suc first) (take i sessions) r)) number)
    ∙ by (lists_register r t) (lists_register r session)
  where
    by : (b d : Bool) → (if b then first ∷ (if d then sessions_from (suc first) (take i sessions) r ++ (first + suc i) ∷ [] else sessions_from (suc first) (take i sessions) r) else (if d then sessions_from (suc first) (take i sessions) r ++ (first + suc i) ∷ [] else sessions_from (suc first) (take i sessions) r))
        ≡ (if d then (if b then first ∷ sessions_from (suc first) (take i sessions) r else sessions_from (suc first) (take i sessions) r) ++ (first + suc i) ∷ [] else (if b then first ∷ sessions_from (suc first) (take i sessions) r else sessions_from (suc first) (take i sessions) r))
    by true true = refl
    by true false = refl
    by false true = refl
    by false false = refl

-- they are below the next
sessions_below : (first i r : ℕ) (sessions : List (List ℕ)) → AllByRecursion (λ t. t < first + i) (sessions_from first (take i sessions) r)
sessions_below first zero r sessions = tt
sessions_below first (suc i) r [] = tt
sessions_below first (suc i) r (t ∷ sessions) =
    let number : suc first + i ≡ first + suc i = omega arith in
    by (lists_register r t) (subst (λ k. AllByRecursion (λ u. u < k) (sessions_from (suc first) (take i sessions) r)) number (sessions_below (suc first) i r sessions))
  where
    by : (b : Bool) → AllByRecursion (λ u. u < first + suc i) (sessions_from (suc first) (take i sessions) r)
        → AllByRecursion (λ u. u < first + suc i) (if b then first ∷ sessions_from (suc first) (take i sessions) r else sessions_from (suc first) (take i sessions) r)
    by true rest = (omega arith, rest)
    by false rest = rest

-- what is noted of the first sessions
pub record AreTurnsUntil (p : PlanValue) (s : ℕ) (turns : List (List ℕ)) : Type 0 where
  pub long : length turns ≡ length p.registers
  pub each : (r : ℕ) → r < length turns → turns_at turns r ≡ sessions_from 0 (take s p.sessions) r

pub turns_none : (p : PlanValue) (turns : List (List ℕ)) → length turns ≡ length p.registers → ((r : ℕ) → turns_at turns r ≡ []) → AreTurnsUntil p 0 turns
turns_none p turns long none = record { long = long; each = λ r less. none r }

past_end : (turns : List (List ℕ)) (r : ℕ) → length turns ≤ r → turns_at turns r ≡ []
past_end [] r h = refl
past_end (t ∷ turns) zero h = absurd (omega (arith, h))
past_end (t ∷ turns) (suc r) h = past_end turns r (omega (arith, h))

-- those of the first sessions are below the next
pub turns_below : (p : PlanValue) (s : ℕ) (turns : List (List ℕ)) → AreTurnsUntil p s turns → (r : ℕ) → AllByRecursion (λ t. t < s) (turns_at turns r)
turns_below p s turns h r = by (nat_lt r (length turns)) refl
  where
    by : (b : Bool) → nat_lt r (length turns) ≡ b → AllByRecursion (λ t. t < s) (turns_at turns r)
    by true e =
        let start : 0 + s ≡ s = omega arith in
        subst (AllByRecursion (λ t. t < s)) (sym (h.each r (grind (arith, nat_tests, e)))) (subst (λ k. AllByRecursion (λ t. t < k) (sessions_from 0 (take s p.sessions) r)) start (sessions_below 0 s r p.sessions))
    by false e = subst (AllByRecursion (λ t. t < s)) (sym (past_end turns r (grind (arith, nat_tests, e)))) tt

pub turns_more : (p : PlanValue) (s : ℕ) (session : List ℕ) (old new : List (List ℕ)) → slice_get p.sessions s ≡ Some session → AreTurnsUntil p s old → AreNoted s session old new → AreTurnsUntil p (s + 1) new
turns_more p s session old new at h n = record {
  long = n.long ∙ h.long;
  each = λ r less.
      let within : r < length old = omega (arith, less, n.long) in
      let start : 0 + s ≡ s = omega arith in
      n.each r within ∙ ap (with_turn s session r) (h.each r within) ∙ sym (sessions_more 0 s r p.sessions session at ∙ ap (λ k. with_turn k session r (sessions_from 0 (take s p.sessions) r)) start);
}

pub turns_all : (p : PlanValue) (s : ℕ) (turns : List (List ℕ)) → length p.sessions ≤ s → AreTurnsUntil p s turns → AreSessionsOf p turns
turns_all p s turns end h = record { long = h.long; each = λ r less. h.each r less ∙ ap (λ ss. sessions_from 0 ss r) (take_all s p.sessions end) }
