-- Names of added nets are names.
use Rattle.std.proofs.Common.{◌≡◌, ℕ, ◌<◌, ◌≤◌, ◌^◌, ◌&&◌, nat_le, nat_lt, List, [], ◌∷◌, ◌++◌, length, length-append, All, codes, decimal, Bool, true, false, Option, None, Some, IfSome, refl, sym, subst, arith}
use Rattle.std.proofs.lemmas.Bool.Decides.{nat_tests}
use Rattle.std.proofs.lemmas.List.Elements.{All-append, All-from_recursion}
use Rattle.std.proofs.lemmas.Fmt.{length-decimal-le, decimal_nonempty}
use Rattle.std.specs.List.{AllByRecursion, list_all}
use Rattle.bb_base.specs.Name.{IsName, IsNameByte, is_name_byte}
use Rattle.bb_base.proofs.OwnNameLemmas.{decimal_plain}
use Rattle.bb_terms.specs.declared.wire.Wire.{Wire}
use Rattle.bb_terms.specs.declared.wire.Wire.TheVariants.{Kept, Test, Init, So, Done, NotInit, NotTest, Go, NotGo, Parity, Low, Feed, Word, WordNext, Wrap, Phase, PhaseTurned, PhaseNext, Advance, NotAdvance, Ring, RingKept, RingMoved, RingOr, RingNext, NotOver, Live, NotPhase, Running, Shifting, On, Compacts, Latches, Takes, Off, Codes, Feedback, Signed, Carried, First, Line, Chain, Code, Coded, Next, InTest, InNormal, Read, Held}
use Rattle.bb_terms.specs.Wires.{wire_label, with_number, symbol_name, IsAdded}

pub numbered_name : (front text : List ℕ) (n : ℕ) → n < 2 ^ 32 → length front ≤ 8 → All IsNameByte front → text ≡ front ++ decimal n → IsName text
numbered_name front text n small short plain e =
    let long = length-decimal-le 10 n (omega arith) (omega arith) (omega arith) in
    subst IsName (sym e)
    (record {
      some = omega (arith, length-append front (decimal n), decimal_nonempty n (omega arith));
      short = omega (arith, length-append front (decimal n), long);
      plain = All-append IsNameByte front (decimal n) plain (All-from_recursion IsNameByte (decimal n) (decimal_plain n (omega arith)));
    })

plain_bytes : (bs : List ℕ) → list_all is_name_byte bs ≡ true → AllByRecursion IsNameByte bs
plain_bytes [] h = tt
plain_bytes (b ∷ bs) h = by (is_name_byte b) refl h (λ k. plain_bytes bs k)
  where
    by : (t : Bool) → is_name_byte b ≡ t → (t && list_all is_name_byte bs) ≡ true → (list_all is_name_byte bs ≡ true → AllByRecursion IsNameByte bs) → IsNameByte b × AllByRecursion IsNameByte bs
    by true e k rest = ((grind (arith, nat_tests, e), grind (arith, nat_tests, e)), rest k)
    by false e k rest = absurd (cc k)

-- the front of a name, and its number
record Fine (front : List ℕ) (number : Option ℕ) : Type 0 where
  plain : list_all is_name_byte front ≡ true
  short : nat_le (length front) 8 ≡ true
  some : nat_lt 0 (length front) ≡ true
  small : IfSome number (λ n. n < 2 ^ 32)

fine : (w : Wire) → IsAdded w → Fine (wire_label w).0 (wire_label w).1
fine (Kept net) h = absurd h
fine Test h = record { plain = refl; short = refl; some = refl; small = h }
fine Init h = record { plain = refl; short = refl; some = refl; small = h }
fine So h = record { plain = refl; short = refl; some = refl; small = h }
fine Done h = record { plain = refl; short = refl; some = refl; small = h }
fine NotInit h = record { plain = refl; short = refl; some = refl; small = h }
fine NotTest h = record { plain = refl; short = refl; some = refl; small = h }
fine Go h = record { plain = refl; short = refl; some = refl; small = h }
fine NotGo h = record { plain = refl; short = refl; some = refl; small = h }
fine Parity h = record { plain = refl; short = refl; some = refl; small = h }
fine Low h = record { plain = refl; short = refl; some = refl; small = h }
fine Feed h = record { plain = refl; short = refl; some = refl; small = h }
fine (Word i) h = record { plain = refl; short = refl; some = refl; small = h }
fine (WordNext i) h = record { plain = refl; short = refl; some = refl; small = h }
fine Wrap h = record { plain = refl; short = refl; some = refl; small = h }
fine Phase h = record { plain = refl; short = refl; some = refl; small = h }
fine PhaseTurned h = record { plain = refl; short = refl; some = refl; small = h }
fine PhaseNext h = record { plain = refl; short = refl; some = refl; small = h }
fine Advance h = record { plain = refl; short = refl; some = refl; small = h }
fine NotAdvance h = record { plain = refl; short = refl; some = refl; small = h }
fine (Ring i) h = record { plain = refl; short = refl; some = refl; small = h }
fine (RingKept i) h = record { plain = refl; short = refl; some = refl; small = h }
fine (RingMoved i) h = record { plain = refl; short = refl; some = refl; small = h }
fine (RingOr i) h = record { plain = refl; short = refl; some = refl; small = h }
fine (RingNext i) h = record { plain = refl; short = refl; some = refl; small = h }
fine NotOver h = record { plain = refl; short = refl; some = refl; small = h }
fine Live h = record { plain = refl; short = refl; some = refl; small = h }
fine NotPhase h = record { plain = refl; short = refl; some = refl; small = h }
fine Running h = record { plain = refl; short = refl; some = refl; small = h }
fine Shifting h = record { plain = refl; short = refl; some = refl; small = h }
fine (On i) h = record { plain = refl; short = refl; some = refl; small = h }
fine (Compacts i) h = record { plain = refl; short = refl; some = refl; small = h }
fine (Latches i) h = record { plain = refl; short = refl; some = refl; small = h }
fine (Takes i) h = record { plain = refl; short = refl; some = refl; small = h }
fine (Off i) h = record { plain = refl; short = refl; some = refl; small = h }
fine (Codes i) h = record { plain = refl; short = refl; some = refl; small = h }
fine (Feedback i) h = record { plain = refl; short = refl; some = refl; small = h }
fine (Signed i) h = record { plain = refl; short = refl; some = refl; small = h }
fine (Carried i) h = record { plain = refl; short = refl; some = refl; small = h }
fine (First i) h = record { plain = refl; short = refl; some = refl; small = h }
fine (Line i) h = record { plain = refl; short = refl; some = refl; small = h }
fine (Chain i) h = record { plain = refl; short = refl; some = refl; small = h }
fine (Code i) h = record { plain = refl; short = refl; some = refl; small = h }
fine (Coded i) h = record { plain = refl; short = refl; some = refl; small = h }
fine (Next i) h = record { plain = refl; short = refl; some = refl; small = h }
fine (InTest i) h = record { plain = refl; short = refl; some = refl; small = h }
fine (InNormal i) h = record { plain = refl; short = refl; some = refl; small = h }
fine (Read i) h = record { plain = refl; short = refl; some = refl; small = h }
fine (Held i) h = record { plain = refl; short = refl; some = refl; small = h }

is_name : (front : List ℕ) (number : Option ℕ) → Fine front number → IsName (with_number front number)
is_name front None h = record { some = grind (arith, nat_tests, h.some); short = short_enough; plain = All-from_recursion IsNameByte front (plain_bytes front h.plain) }
  where
    short_enough : length front ≤ 1024
    short_enough = let short : length front ≤ 8 = grind (arith, nat_tests, h.short) in omega (arith, short)
is_name front (Some n) h = numbered_name front (front ++ decimal n) n h.small (grind (arith, nat_tests, h.short)) (All-from_recursion IsNameByte front (plain_bytes front h.plain)) refl

pub name_is : (w : Wire) → IsAdded w → IsName (symbol_name w)
name_is w h = is_name (wire_label w).0 (wire_label w).1 (fine w h)

pub clock_is_name : IsName (codes "bt_clk")
clock_is_name = is_name (codes "bt_clk") None (record { plain = refl; short = refl; some = refl; small = tt })
