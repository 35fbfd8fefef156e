-- Each token that the machine gives is proper.
use Rattle.std.proofs.Common.{◌≡◌, ℕ, ◌+◌, ◌^◌, ◌<◌, ◌≤◌, min, nat_lt, Bool, true, false, cond, ◌&&◌, ◌||◌, ◌==◌, length, Option, Some, None, List, [], ◌∷◌, ◌++◌, refl, subst, arith}
use Rattle.std.specs.List.{AllByRecursion}
use Rattle.std.proofs.lemmas.Bool.Decides.{nat_tests}
use Rattle.std.proofs.lemmas.List.Elements.{All-from_recursion}
use Rattle.bb_base.specs.Name.{IsName, IsNameByte, is_name_byte}
use Rattle.bb_lex.specs.declared.bytes.Class.{Class}
use Rattle.bb_lex.specs.declared.bytes.Class.TheVariants as class
use Rattle.bb_lex.specs.declared.bytes.Base.{Base}
use Rattle.bb_lex.specs.declared.lexer.Fence.TheVariants.{Comment}
use Rattle.bb_lex.specs.declared.lexer.Place.TheVariants.{Outside}
use Rattle.bb_base.specs.declared.lex_fault.LexFault.{LexFault}
use Rattle.bb_base.specs.declared.lex_fault.LexFault.TheVariants as faults
use Rattle.bb_base.specs.declared.keyword.Keyword.{Keyword}
use Rattle.bb_base.specs.declared.token.TokenKind.{TokenKind}
use Rattle.bb_base.specs.declared.token.TokenKind.TheVariants as kinds
use Rattle.bb_base.specs.declared.token.Token.{Token}
use Rattle.bb_lex.specs.Bytes.{between, class_of, is_odd, base_of, radix_of, is_digit_or_low, with_digit, line_after}
use Rattle.bb_base.specs.Keywords.{keyword_of}
use Rattle.bb_lex.specs.Keywords.{kind_by, word_kind}
use Rattle.bb_lex.specs.Fences.{closer, place_after, shown}
use Rattle.bb_lex.specs.Machine.{Mode, Between, InName, InNumber, AtQuote, AtBase, InConstant, AtTilde, AtCaret, AtParen, AtSlash, AtTick, InLine, InFence, AtBackslash, InEscaped, Failed, Machine, one, number_limit, constant_limit, grown, goes_on, Action, Goes, Gives, quoted, based, going, Ending, Ends, Spells, Breaks, checked, is_short, ending, begun_by, act, close_as, close, begin, begin_by, more, step, run, start}
use Rattle.bb_base.specs.Tokens.{IsSize, IsProperKind, IsProper}
use Rattle.bb_lex.specs.Ranges.{IsSoundMode, IsSound}
use Rattle.bb_base.proofs.Lists.{all_join}
use Rattle.bb_lex.proofs.ByteLemmas.{letter_plain, word_plain, graphic_plain, either as or_left}

-- what an action brings is proper
abbrev IsSoundAction : Action → Type 0
IsSoundAction (Goes mode line) = IsSoundMode mode
IsSoundAction (Gives kind) = IsProperKind kind

-- what an end brings is proper
abbrev IsSoundEnding : Ending → Type 0
IsSoundEnding Ends = Unit {0}
IsSoundEnding (Spells kind) = IsProperKind kind
IsSoundEnding (Breaks fault) = Unit {0}

act_sound : (a : Action) (line : ℕ) (tokens : List Token) → IsSoundAction a → AllByRecursion IsProper tokens → IsSound (act a line tokens)
act_sound (Goes mode after) line tokens h k = record { tokens = k; mode = h }
act_sound (Gives kind) line tokens h k = record { tokens = all_join IsProper tokens (one kind line) k (h, tt); mode = tt }

close_as_sound : (e : Ending) (line : ℕ) (tokens : List Token) → IsSoundEnding e → AllByRecursion IsProper tokens → IsSound (close_as e line tokens)
close_as_sound Ends line tokens h k = record { tokens = k; mode = tt }
close_as_sound (Spells kind) line tokens h k = record { tokens = all_join IsProper tokens (one kind line) k (h, tt); mode = tt }
close_as_sound (Breaks fault) line tokens h k = record { tokens = k; mode = tt }

size_is : (n : ℕ) → between 1 128 n ≡ true → IsSize n
size_is n h = grind (arith, nat_tests)

quoted_sound : (n line : ℕ) (t : Bool) → between 1 128 n ≡ t → IsSoundMode (cond t (AtQuote false n) (Failed (faults.BadNumber line)))
quoted_sound n line true h = size_is n h
quoted_sound n line false h = tt

based_sound : (o : Option Base) (size : ℕ) → IsSize size → IsSoundMode (based o size)
based_sound (Some base) size h = h
based_sound None size h = h

either : (t : Bool) (a b : Mode) → IsSoundMode a → IsSoundMode b → IsSoundMode (cond t a b)
either true a b h k = h
either false a b h k = k

either_action : (t : Bool) (a b : Action) → IsSoundAction a → IsSoundAction b → IsSoundAction (cond t a b)
either_action true a b h k = h
either_action false a b h k = k

-- a name with one more byte has bytes of names
grown_plain : (bytes : List ℕ) (b : ℕ) → AllByRecursion IsNameByte bytes → IsNameByte b → AllByRecursion IsNameByte (grown bytes b)
grown_plain bytes b h k = by (nat_lt (length bytes) 1025)
  where
    by : (t : Bool) → AllByRecursion IsNameByte (cond t (bytes ++ b ∷ []) bytes)
    by true = all_join IsNameByte bytes (b ∷ []) h (k, tt)
    by false = h

odd_or_plain : (bytes : List ℕ) (b line : ℕ) (t : Bool) → is_odd b ≡ t → (is_name_byte b || is_odd b) ≡ true → AllByRecursion IsNameByte bytes
    → IsSoundMode (cond t (Failed (faults.BadByte line)) (InEscaped (grown bytes b)))
odd_or_plain bytes b line true is g h = tt
odd_or_plain bytes b line false is g h = grown_plain bytes b h (graphic_plain b (or_left (is_name_byte b) (is_odd b) g is))

going_sound : (mode : Mode) (b line : ℕ) → goes_on mode b ≡ true → IsSoundMode mode → IsSoundAction (going mode b line)
going_sound Between b line g h = tt
going_sound (InName bytes) b line g h = grown_plain bytes b h (word_plain b g)
going_sound (InNumber n) b line g h = either (b == 39) (quoted n line) (InNumber (min (with_digit 10 n b) number_limit)) (quoted_sound n line (between 1 128 n) refl) tt
going_sound (AtQuote signed size) b line g h = based_sound (base_of b) size h
going_sound (AtBase size base) b line g h = h
going_sound (InConstant size base n) b line g h = either (is_digit_or_low base b) (InConstant size base (min (with_digit (radix_of base) n b) constant_limit)) (Failed (faults.BadNumber line)) h tt
going_sound AtTilde b line g h = tt
going_sound AtCaret b line g h = tt
going_sound AtParen b line g h = tt
going_sound AtSlash b line g h = either (b == 47) InLine (InFence Comment Outside false line) tt tt
going_sound (AtTick matched) b line g h = either (nat_lt matched 8) (AtTick (matched + 1)) InLine tt tt
going_sound InLine b line g h = tt
going_sound (InFence fence place star from) b line g h = either_action (star && shown place b == closer fence) (Goes Between line) (Goes (InFence fence (place_after fence place b) (shown place b == 42) from) (line_after line b)) tt tt
going_sound AtBackslash b line g h = (graphic_plain b g, tt)
going_sound (InEscaped bytes) b line g h = odd_or_plain bytes b line (is_odd b) refl g h
going_sound (Failed fault) b line g h = tt

checked_sound : (t : Bool) (kind : TokenKind) (fault : LexFault) → (t ≡ true → IsProperKind kind) → IsSoundEnding (checked t kind fault)
checked_sound true kind fault h = h refl
checked_sound false kind fault h = tt

-- a name of 1 to 1,024 bytes of names
name_is : (bytes : List ℕ) → AllByRecursion IsNameByte bytes → is_short bytes ≡ true → IsName bytes
name_is bytes h k = let size : (1 ≤ length bytes) × (length bytes ≤ 1024) = grind (arith, nat_tests) in record { some = size.0; short = size.1; plain = All-from_recursion IsNameByte bytes h }

word_proper : (o : Option Keyword) (word : List ℕ) → IsName word → IsProperKind (kind_by o word)
word_proper (Some keyword) word h = tt
word_proper None word h = h

below : (m n : ℕ) → nat_lt m n ≡ true → m < n
below m n h = grind (arith, nat_tests)

fits_size : (n size : ℕ) → size ≤ 128 → nat_lt n (2 ^ min size 128) ≡ true → n < 2 ^ size
fits_size n size h k = let e : min size 128 ≡ size = omega arith in subst (λ (x : ℕ). n < 2 ^ x) e (below n (2 ^ min size 128) k)

ending_sound : (mode : Mode) (line : ℕ) → IsSoundMode mode → IsSoundEnding (ending mode line)
ending_sound (InName bytes) line h = checked_sound (is_short bytes) (word_kind bytes) (faults.LongName line) (λ t. word_proper (keyword_of bytes) bytes (name_is bytes h t))
ending_sound (InNumber n) line h = checked_sound (nat_lt n number_limit) (kinds.Number n) (faults.BadNumber line) (λ t. below n number_limit t)
ending_sound (InConstant size base n) line h = checked_sound (nat_lt n (2 ^ min size 128)) (kinds.Const size n) (faults.BadNumber line) (λ t. (h, fits_size n size h.1 t))
ending_sound (InEscaped bytes) line h = checked_sound (is_short bytes) (kinds.Name bytes) (faults.LongName line) (λ t. name_is bytes h t)
ending_sound mode line h = tt

opened_sound : (c : Class) (b line : ℕ) → class_of b ≡ c → IsSoundAction (begun_by c b line)
opened_sound class.Letter b line is = (letter_plain b is, tt)
opened_sound c b line is = tt

begin_sound : (mode : Mode) (b line : ℕ) (tokens : List Token) → AllByRecursion IsProper tokens → IsSound (begin_by mode (class_of b) b line tokens)
begin_sound (Failed fault) b line tokens h = record { tokens = h; mode = tt }
begin_sound mode b line tokens h = act_sound (begun_by (class_of b) b line) line tokens (opened_sound (class_of b) b line refl) h

-- the end of what has begun gives a proper token
pub close_sound : (m : Machine) → IsSound m → IsSound (close m)
close_sound m h = close_as_sound (ending m.now.mode m.now.line) m.now.line m.tokens (ending_sound m.now.mode m.now.line h.mode) h.tokens

step_sound : (m : Machine) (b : ℕ) → IsSound m → IsSound (step m b)
step_sound m b h = by (goes_on m.now.mode b) refl
  where
    by : (t : Bool) → goes_on m.now.mode b ≡ t → IsSound (cond t (more b m) (begin (class_of b) b (close m)))
    by true g = act_sound (going m.now.mode b m.now.line) m.now.line m.tokens (going_sound m.now.mode b m.now.line g h.mode) h.tokens
    by false g = begin_sound (close m).now.mode b (close m).now.line (close m).tokens (close_sound m h).tokens

-- a run gives proper tokens
pub run_sound : (m : Machine) (bytes : List ℕ) → IsSound m → IsSound (run m bytes)
run_sound m [] h = h
run_sound m (b ∷ bytes) h = run_sound (step m b) bytes (step_sound m b h)

-- a text begins without any
pub start_sound : IsSound start
start_sound = record { tokens = tt; mode = tt }
