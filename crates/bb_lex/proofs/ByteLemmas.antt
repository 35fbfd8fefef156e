-- What the tests of bytes have to do with one another.
use Rattle.std.proofs.Common.{◌≡◌, ℕ, ◌+◌, ◌≤◌, min, Bool, true, false, ◌&&◌, ◌||◌, ◌==◌, nat_lt, List, [], ◌∷◌, ◌++◌, Some, None, sym, ap, ◌∙◌, refl, arith}
use Rattle.std.proofs.lemmas.Bool.Decides.{nat_tests}
use Rattle.bb_base.specs.Name.{IsNameByte}
use Rattle.bb_lex.specs.declared.bytes.Class.TheVariants as class
use Rattle.bb_lex.specs.declared.bytes.Base.{Base}
use Rattle.bb_lex.specs.declared.bytes.Base.TheVariants.{Binary, Octal, Decimal, Hexadecimal}
use Rattle.bb_base.specs.declared.token.Mark.{Mark}
use Rattle.bb_lex.specs.declared.lexer.Fence.{Fence}
use Rattle.bb_lex.specs.declared.lexer.Fence.TheVariants.{Comment, Attribute}
use Rattle.bb_base.specs.Name.{is_name_byte}
use Rattle.bb_base.specs.Words.{is_word_byte}
use Rattle.bb_lex.specs.Bytes.{class_of, is_number, is_constant, is_odd, is_sign, base_of, radix_of, digit_of, is_digit, is_digit_or_low, AllOf, feed, feeds}
use Rattle.bb_lex.specs.Fences.{opener, closer}
use Rattle.bb_lex.specs.Text.{is_in_line, timescale}
use Rattle.bb_lex.specs.Machine.{Mode, InName, AtBackslash, InEscaped, goes_on, constant_limit}

-- a letter may stand in a name
pub letter_plain : (b : ℕ) → class_of b ≡ class.Letter → IsNameByte b
unfolding class_of
letter_plain b h = grind (arith, nat_tests)

-- what goes on a simple name may stand in a name
pub word_plain : (b : ℕ) → is_word_byte b ≡ true → IsNameByte b
word_plain b h = grind (arith, nat_tests)

-- a byte of an escaped name may stand in a name
pub graphic_plain : (b : ℕ) → is_name_byte b ≡ true → IsNameByte b
graphic_plain b h = grind (arith, nat_tests)

pub either : (a b : Bool) → (a || b) ≡ true → b ≡ false → a ≡ true
either true b h k = refl
either false b h k = absurd cc

-- a byte that goes on a simple name
pub name_goes : (mode : Mode) (name : List ℕ) (b : ℕ) → mode ≡ InName name → goes_on mode b ≡ true → IsNameByte b
name_goes mode name b h k = word_plain b (sym (ap (λ (m : Mode). goes_on m b) h) ∙ k)

-- the first byte of an escaped name
pub escaped_begins : (mode : Mode) (b : ℕ) → mode ≡ AtBackslash → goes_on mode b ≡ true → IsNameByte b
escaped_begins mode b h k = graphic_plain b (sym (ap (λ (m : Mode). goes_on m b) h) ∙ k)

-- a byte that goes on an escaped name
pub escaped_goes : (mode : Mode) (name : List ℕ) (b : ℕ) → mode ≡ InEscaped name → goes_on mode b ≡ true → is_odd b ≡ false → IsNameByte b
escaped_goes mode name b h k odd = graphic_plain b (either (is_name_byte b) (is_odd b) (sym (ap (λ (m : Mode). goes_on m b) h) ∙ k) odd)

-- ---- line feeds

pub feed_star : feed 42 ≡ 0
unfolding feed
feed_star = refl

pub feed_slash : feed 47 ≡ 0
unfolding feed
feed_slash = refl

pub feed_backslash : feed 92 ≡ 0
unfolding feed
feed_backslash = refl

pub feed_tick : feed 96 ≡ 0
unfolding feed
feed_tick = refl

pub feed_paren : feed 40 ≡ 0
unfolding feed
feed_paren = refl

pub feed_tilde : feed 126 ≡ 0
unfolding feed
feed_tilde = refl

pub feed_caret : feed 94 ≡ 0
unfolding feed
feed_caret = refl

pub feed_quote : feed 39 ≡ 0
unfolding feed
feed_quote = refl

pub opener_feed : (fence : Fence) → feed (opener fence) ≡ 0
opener_feed Comment = feed_slash
opener_feed Attribute = feed_paren

pub closer_feed : (fence : Fence) → feed (closer fence) ≡ 0
unfolding feed
closer_feed Comment = refl
closer_feed Attribute = refl

pub timescale_feeds : feeds timescale ≡ 0
unfolding feed
timescale_feeds = refl

pub letter_feed : (b : ℕ) → class_of b ≡ class.Letter → feed b ≡ 0
unfolding class_of feed
letter_feed b h = grind (arith, nat_tests)

pub digit_feed : (b : ℕ) → class_of b ≡ class.Digit → feed b ≡ 0
unfolding class_of feed
digit_feed b h = grind (arith, nat_tests)

pub single_feed : (b : ℕ) (mark : Mark) → class_of b ≡ class.Single mark → feed b ≡ 0
unfolding class_of feed
single_feed b mark h = grind (arith, nat_tests)

pub word_feed : (b : ℕ) → is_word_byte b ≡ true → feed b ≡ 0
unfolding feed
word_feed b h = grind (arith, nat_tests)

pub number_feed : (b : ℕ) → is_number b ≡ true → feed b ≡ 0
unfolding is_number feed
number_feed b h = grind (arith, nat_tests)

pub graphic_feed : (b : ℕ) → is_name_byte b ≡ true → feed b ≡ 0
unfolding feed
graphic_feed b h = grind (arith, nat_tests)

pub constant_feed : (b : ℕ) → is_constant b ≡ true → feed b ≡ 0
unfolding is_constant feed
constant_feed b h = grind (arith, nat_tests)

pub sign_feed : (b : ℕ) → is_sign b ≡ true → feed b ≡ 0
unfolding is_sign feed
sign_feed b h = grind (arith, nat_tests)

pub base_feed : (b : ℕ) (base : Base) → base_of b ≡ Some base → feed b ≡ 0
unfolding base_of feed
base_feed b base h = grind (arith, nat_tests)

pub inside_feed : (b : ℕ) → is_in_line b ≡ true → feed b ≡ 0
unfolding feed
inside_feed b h = grind (arith, nat_tests)

-- none in bytes that all pass a test which a line feed doesn't
pub feeds_none : (p : ℕ → Bool) → ((b : ℕ) → p b ≡ true → feed b ≡ 0) → (bytes : List ℕ) → AllOf p bytes → feeds bytes ≡ 0
feeds_none p none [] h = refl
feeds_none p none (b ∷ bytes) h = omega (arith, none b h.0, feeds_none p none bytes h.1)

pub feeds-append : (xs ys : List ℕ) → feeds (xs ++ ys) ≡ feeds xs + feeds ys
feeds-append [] ys = omega arith
feeds-append (b ∷ xs) ys = omega (arith, feeds-append xs ys)

-- ---- digits

digit_most : (b : ℕ) → digit_of b ≤ 16
unfolding digit_of
digit_most b = grind (arith, nat_tests)

-- a digit is below the limit of numbers
pub digit_capped : (b : ℕ) → digit_of b ≡ min (digit_of b) 2147483648
digit_capped b = let h = digit_most b in omega arith

-- a digit is below the limit of constants
pub figure_capped : (b : ℕ) → digit_of b ≡ min (digit_of b) constant_limit
figure_capped b = let h = digit_most b in omega arith

pub number_no_quote : (b : ℕ) → is_number b ≡ true → (b == 39) ≡ false
unfolding is_number
number_no_quote b h = grind (arith, nat_tests)

radix_most : (base : Base) → radix_of base ≤ 16
radix_most Binary = omega arith
radix_most Octal = omega arith
radix_most Decimal = omega arith
radix_most Hexadecimal = omega arith

pub radix_least : (base : Base) → 2 ≤ radix_of base
radix_least Binary = omega arith
radix_least Octal = omega arith
radix_least Decimal = omega arith
radix_least Hexadecimal = omega arith

figure_by : (b r : ℕ) → r ≤ 16 → (b == 95 || nat_lt (digit_of b) r) ≡ true → is_constant b ≡ true
unfolding is_constant digit_of
figure_by b r h k = grind (arith, nat_tests)

-- a digit of a base, or `_`, belongs to a constant
pub figure_goes : (base : Base) (b : ℕ) → is_digit_or_low base b ≡ true → is_constant b ≡ true
figure_goes base b h = figure_by b (radix_of base) (radix_most base) h

figure_class : (b r : ℕ) → r ≤ 16 → nat_lt (digit_of b) r ≡ true → is_constant b ≡ true
unfolding is_constant digit_of
figure_class b r h k = grind (arith, nat_tests)

-- a digit of a base belongs to a constant
pub digit_goes : (base : Base) (b : ℕ) → is_digit base b ≡ true → is_constant b ≡ true
digit_goes base b h = figure_class b (radix_of base) (radix_most base) h

-- the sign is no letter of a base
pub sign_no_base : (b : ℕ) → is_sign b ≡ true → base_of b ≡ None
unfolding is_sign base_of
sign_no_base b h = grind (arith, nat_tests)

-- ---- classes of bytes that are known

pub slash_is : class_of 47 ≡ class.Slash
unfolding class_of
slash_is = refl

pub backslash_is : class_of 92 ≡ class.Backslash
unfolding class_of
backslash_is = refl

pub tick_is : class_of 96 ≡ class.Tick
unfolding class_of
tick_is = refl

pub paren_is : class_of 40 ≡ class.Paren
unfolding class_of
paren_is = refl

pub tilde_is : class_of 126 ≡ class.Tilde
unfolding class_of
tilde_is = refl

pub caret_is : class_of 94 ≡ class.Caret
unfolding class_of
caret_is = refl

pub graphic_no_odd : (b : ℕ) → is_name_byte b ≡ true → is_odd b ≡ false
unfolding is_odd
graphic_no_odd b h = grind (arith, nat_tests)

pub or_false : (a b : Bool) → (a || b) ≡ false → (a ≡ false) × (b ≡ false)
or_false true b h = absurd cc
or_false false b h = (refl, h)

pub both_false : (a b : Bool) → a ≡ false → b ≡ false → (a || b) ≡ false
both_false a b h k = cc

pub and_true : (a b : Bool) → (a && b) ≡ true → (a ≡ true) × (b ≡ true)
and_true true b h = (refl, h)
and_true false b h = absurd cc
