-- Where a run stands after a fault, the tokens that it keeps, and texts in pieces.
use Rattle.std.proofs.Common.{◌≡◌, ℕ, ◌+◌, ◌<◌, Bool, true, false, cond, List, [], ◌∷◌, ◌++◌, length, get_or, drop, Err, refl, sym, ap, subst, ◌∙◌, append_assoc, append-nil, drop-cons, add-one}
use Rattle.bb_lex.specs.declared.bytes.Class.{Class}
use Rattle.bb_base.specs.declared.lex_fault.LexFault.{LexFault}
use Rattle.bb_base.specs.declared.lex_fault.LexFault.TheVariants as faults
use Rattle.bb_base.specs.declared.token.Token.{Token}
use Rattle.bb_lex.specs.Bytes.{class_of}
use Rattle.bb_lex.specs.Machine.{Mode, Failed, Machine, at, Action, Goes, Gives, Ending, Ends, Spells, Breaks, ending, going, begun_by, act, close_as, goes_on, more, begin, begin_by, step, run, close, told, IsKept, Stands, after_tokens}

pub same : (tokens : List Token) → IsKept tokens tokens
same tokens = ([], sym (append-nil tokens))

pub then : (a b c : List Token) → IsKept a b → IsKept b c → IsKept a c
then a b c p q = (p.0 ++ q.0, q.1 ∙ ap (λ (x : List Token). x ++ q.0) p.1 ∙ append_assoc a p.0 q.0)

act_extends : (a : Action) (line : ℕ) (tokens : List Token) → IsKept tokens (act a line tokens).tokens
act_extends (Goes mode after) line tokens = same tokens
act_extends (Gives kind) line tokens = (_, refl)

close_extends : (e : Ending) (line : ℕ) (tokens : List Token) → IsKept tokens (close_as e line tokens).tokens
close_extends Ends line tokens = same tokens
close_extends (Spells kind) line tokens = (_, refl)
close_extends (Breaks fault) line tokens = same tokens

begin_extends : (mode : Mode) (c : Class) (b line : ℕ) (tokens : List Token) → IsKept tokens (begin_by mode c b line tokens).tokens
begin_extends (Failed fault) c b line tokens = same tokens
begin_extends mode c b line tokens = act_extends (begun_by c b line) line tokens

step_extends : (m : Machine) (b : ℕ) → IsKept m.tokens (step m b).tokens
step_extends m b = by (goes_on m.now.mode b)
  where
    by : (t : Bool) → IsKept m.tokens (cond t (more b m) (begin (class_of b) b (close m))).tokens
    by true = act_extends (going m.now.mode b m.now.line) m.now.line m.tokens
    by false = then m.tokens (close m).tokens (begin (class_of b) b (close m)).tokens (close_extends (ending m.now.mode m.now.line) m.now.line m.tokens) (begin_extends (close m).now.mode (class_of b) b (close m).now.line (close m).tokens)

-- a run keeps the tokens that were there
pub run_extends : (m : Machine) (bytes : List ℕ) → IsKept m.tokens (run m bytes).tokens
run_extends m [] = same m.tokens
run_extends m (b ∷ bytes) = then m.tokens (step m b).tokens (run m (b ∷ bytes)).tokens (step_extends m b) (run_extends (step m b) bytes)

-- ---- one byte

-- a byte that is part of what has begun
pub on : (m : Machine) (b : ℕ) → goes_on m.now.mode b ≡ true → step m b ≡ more b m
on m b h = ap (λ (t : Bool). cond t (more b m) (begin (class_of b) b (close m))) h

-- a byte that isn't
pub off : (m : Machine) (b : ℕ) → goes_on m.now.mode b ≡ false → step m b ≡ begin (class_of b) b (close m)
off m b h = ap (λ (t : Bool). cond t (more b m) (begin (class_of b) b (close m))) h

-- ---- faults

told_failed : (fault : LexFault) (mode : Mode) → Err fault ≡ told mode → mode ≡ Failed fault
told_failed fault (Failed other) h = cc
told_failed fault mode h = absurd cc

begin_failed : (c : Class) (b : ℕ) (m : Machine) (fault : LexFault) → m.now.mode ≡ Failed fault → begin c b m ≡ m
begin_failed c b m fault h = ap (λ (x : Mode). begin_by x c b m.now.line m.tokens) h ∙ ap (λ (x : Mode). at x m.now.line m.tokens) (sym h)

-- a failed machine takes no more
pub stays : (m : Machine) (fault : LexFault) (bytes : List ℕ) → m.now.mode ≡ Failed fault → run m bytes ≡ m
stays m fault [] h = refl
stays m fault (b ∷ bytes) h = ap (λ (x : Machine). run x bytes) (ap (λ (x : Mode). step (at x m.now.line m.tokens) b) h
    ∙ ap (λ (x : Mode). at x m.now.line m.tokens) (sym h)) ∙ stays m fault bytes h

-- nor does it change at the end
pub stays_closed : (m : Machine) (fault : LexFault) → m.now.mode ≡ Failed fault → close m ≡ m
stays_closed m fault h = ap (λ (x : Mode). close (at x m.now.line m.tokens)) h ∙ ap (λ (x : Mode). at x m.now.line m.tokens) (sym h)

stays_so : (m after : Machine) (fault : LexFault) (bytes : List ℕ) → after ≡ m → Err fault ≡ told after.now.mode → after ≡ run m bytes
stays_so m after fault bytes e h = e ∙ sym (stays m fault bytes (sym (ap (λ (x : Machine). x.now.mode) e) ∙ told_failed fault after.now.mode h))

-- a fault stands, whatever bytes come after it
pub stands_on : (fault : LexFault) (m after : Machine) (bytes : List ℕ) → Stands {A = Unit {0}} (Err fault) m after → Err fault ≡ told after.now.mode → Stands {A = Unit {0}} (Err fault) (run m bytes) after
stands_on faults.NoMemory m after bytes e h = then after.tokens m.tokens (run m bytes).tokens e (run_extends m bytes)
stands_on fault m after bytes e h = stays_so m after _ bytes e h

-- a fault that was answered before stands
pub stands_at_once : (fault : LexFault) (m : Machine) (bytes : List ℕ) → Err fault ≡ told m.now.mode → Stands {A = Unit {0}} (Err fault) (run m bytes) m
stands_at_once faults.NoMemory m bytes h = run_extends m bytes
stands_at_once fault m bytes h = stays_so m m _ bytes refl h

ended_so : (m after : Machine) (b : ℕ) (fault : LexFault) → after ≡ close m → Err fault ≡ told after.now.mode → after ≡ begin (class_of b) b (close m)
ended_so m after b fault e h = e ∙ sym (begin_failed (class_of b) b (close m) fault (sym (ap (λ (x : Machine). x.now.mode) e) ∙ told_failed fault after.now.mode h))

ended_by : (fault : LexFault) (m after : Machine) (b : ℕ) → Stands {A = Unit {0}} (Err fault) (close m) after → Err fault ≡ told after.now.mode → Stands {A = Unit {0}} (Err fault) (begin (class_of b) b (close m)) after
ended_by faults.NoMemory m after b e h = then after.tokens (close m).tokens (begin (class_of b) b (close m)).tokens e (begin_extends (close m).now.mode (class_of b) b (close m).now.line (close m).tokens)
ended_by fault m after b e h = ended_so m after b _ e h

-- a fault at the end of what had begun stands at the byte after it
pub ended_stands : (fault : LexFault) (m after : Machine) (b : ℕ) → goes_on m.now.mode b ≡ false → Stands {A = Unit {0}} (Err fault) (close m) after → Err fault ≡ told after.now.mode → Stands {A = Unit {0}} (Err fault) (step m b) after
ended_stands fault m after b f e h = subst (λ (x : Machine). Stands {A = Unit {0}} (Err fault) x after) (sym (off m b f)) (ended_by fault m after b e h)

-- one byte of what is left
pub run_at : (m : Machine) (bytes : List ℕ) (i : ℕ) → i < length bytes → run m (drop i bytes) ≡ run (step m (get_or bytes i 0)) (drop (i + 1) bytes)
run_at m bytes i h = rw add-one (ap (run m) (drop-cons bytes i 0 h))

-- ---- pieces

-- reading a text is reading it in two pieces
pub run-append : (m : Machine) (xs ys : List ℕ) → run m (xs ++ ys) ≡ run (run m xs) ys
run-append m [] ys = refl
run-append m (b ∷ xs) ys = run-append (step m b) xs ys

-- ---- tokens that were taken away

act_shift : (ts : List Token) (a : Action) (line : ℕ) (tokens : List Token) → act a line (ts ++ tokens) ≡ after_tokens ts (act a line tokens)
act_shift ts (Goes mode after) line tokens = refl
act_shift ts (Gives kind) line tokens = ap (at _ line) (append_assoc ts tokens _)

close_as_shift : (ts : List Token) (e : Ending) (line : ℕ) (tokens : List Token) → close_as e line (ts ++ tokens) ≡ after_tokens ts (close_as e line tokens)
close_as_shift ts Ends line tokens = refl
close_as_shift ts (Spells kind) line tokens = ap (at _ line) (append_assoc ts tokens _)
close_as_shift ts (Breaks fault) line tokens = refl

-- what ends gives its token behind those that were there
pub close_shift : (ts : List Token) (m : Machine) → close (after_tokens ts m) ≡ after_tokens ts (close m)
close_shift ts m = close_as_shift ts (ending m.now.mode m.now.line) m.now.line m.tokens

begin_shift : (ts : List Token) (mode : Mode) (c : Class) (b line : ℕ) (tokens : List Token) → begin_by mode c b line (ts ++ tokens) ≡ after_tokens ts (begin_by mode c b line tokens)
begin_shift ts (Failed fault) c b line tokens = refl
begin_shift ts mode c b line tokens = act_shift ts (begun_by c b line) line tokens

step_shift : (ts : List Token) (m : Machine) (b : ℕ) → step (after_tokens ts m) b ≡ after_tokens ts (step m b)
step_shift ts m b = by (goes_on m.now.mode b)
  where
    by : (t : Bool) → cond t (more b (after_tokens ts m)) (begin (class_of b) b (close (after_tokens ts m)))
        ≡ after_tokens ts (cond t (more b m) (begin (class_of b) b (close m)))
    by true = act_shift ts (going m.now.mode b m.now.line) m.now.line m.tokens
    by false = ap (begin (class_of b) b) (close_shift ts m) ∙ begin_shift ts (close m).now.mode (class_of b) b (close m).now.line (close m).tokens

-- a run that begins behind tokens gives what it gives alone, behind them
pub run_shift : (ts : List Token) (m : Machine) (bytes : List ℕ) → run (after_tokens ts m) bytes ≡ after_tokens ts (run m bytes)
run_shift ts m [] = refl
run_shift ts m (b ∷ bytes) = ap (λ (x : Machine). run x bytes) (step_shift ts m b) ∙ run_shift ts (step m b) bytes
