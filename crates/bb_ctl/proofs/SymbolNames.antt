-- The name of an added symbol is one.
use Rattle.std.proofs.Common.{◌≡◌, ℕ, ◌<◌, ◌≤◌, ◌^◌, ◌++◌, ◌&&◌, List, [], ◌∷◌, length, length-append, decimal, nat_le, Bool, true, false, Option, None, Some, IfSome, refl, sym, subst, arith}
use Rattle.std.proofs.lemmas.Bool.Decides.{nat_tests}
use Rattle.std.proofs.lemmas.Fmt.{length-decimal-le, decimal_nonempty}
use Rattle.std.proofs.lemmas.List.Elements.{All-from_recursion}
use Rattle.std.specs.List.{AllByRecursion, list_all}
use Rattle.bb_base.specs.Name.{IsName, IsNameByte, is_name_byte}
use Rattle.bb_base.proofs.Lists.{all_join}
use Rattle.bb_base.proofs.OwnNameLemmas.{decimal_plain}
use Rattle.bb_terms.specs.declared.wire.Wire.{Wire}
use Rattle.bb_terms.specs.declared.wire.Wire.TheVariants.{Kept, Test, Init, So, Done, NotInit, NotTest, Go, NotGo, Parity, Low, Feed, Word, WordNext, Wrap, Phase, PhaseTurned, PhaseNext, Advance, NotAdvance, Ring, RingKept, RingMoved, RingOr, RingNext, NotOver, Live, NotPhase, Running, Shifting, On, Compacts, Latches, Takes, Off, Codes, Feedback, Signed, Carried, First, Line, Chain, Code, Coded, Next, InTest, InNormal, Read, Held}
use Rattle.bb_terms.specs.Wires.{wire_label, with_number, symbol_name, IsAdded}
use Rattle.bb_terms.specs.Numbering.{kept_of}
use Rattle.bb_ctl.proofs.Names.{small_number}

-- 1 to 8 bytes of a name
abbrev is_front : List ℕ → Bool
is_front bytes = (nat_le 1 (length bytes) && nat_le (length bytes) 8) && list_all is_name_byte bytes

fronts_fit : (w : Wire) → kept_of w ≡ None → is_front (wire_label w).0 ≡ true
fronts_fit (Kept net) h = absurd (cc h)
fronts_fit Test h = refl
fronts_fit Init h = refl
fronts_fit So h = refl
fronts_fit Done h = refl
fronts_fit NotInit h = refl
fronts_fit NotTest h = refl
fronts_fit Go h = refl
fronts_fit NotGo h = refl
fronts_fit Parity h = refl
fronts_fit Low h = refl
fronts_fit Feed h = refl
fronts_fit (Word i) h = refl
fronts_fit (WordNext i) h = refl
fronts_fit Wrap h = refl
fronts_fit Phase h = refl
fronts_fit PhaseTurned h = refl
fronts_fit PhaseNext h = refl
fronts_fit Advance h = refl
fronts_fit NotAdvance h = refl
fronts_fit (Ring s) h = refl
fronts_fit (RingKept s) h = refl
fronts_fit (RingMoved s) h = refl
fronts_fit (RingOr s) h = refl
fronts_fit (RingNext s) h = refl
fronts_fit NotOver h = refl
fronts_fit Live h = refl
fronts_fit NotPhase h = refl
fronts_fit Running h = refl
fronts_fit Shifting h = refl
fronts_fit (On r) h = refl
fronts_fit (Compacts r) h = refl
fronts_fit (Latches r) h = refl
fronts_fit (Takes r) h = refl
fronts_fit (Off r) h = refl
fronts_fit (Codes r) h = refl
fronts_fit (Feedback r) h = refl
fronts_fit (Signed r) h = refl
fronts_fit (Carried r) h = refl
fronts_fit (First r) h = refl
fronts_fit (Line i) h = refl
fronts_fit (Chain i) h = refl
fronts_fit (Code i) h = refl
fronts_fit (Coded i) h = refl
fronts_fit (Next i) h = refl
fronts_fit (InTest i) h = refl
fronts_fit (InNormal i) h = refl
fronts_fit (Read i) h = refl
fronts_fit (Held i) h = refl

both : (a b : Bool) → (a && b) ≡ true → (a ≡ true) × (b ≡ true)
both true true h = (refl, refl)
both true false h = absurd (cc h)
both false b h = absurd (cc h)

name_byte : (b : ℕ) → is_name_byte b ≡ true → IsNameByte b
name_byte b h = (grind (arith, nat_tests, h), grind (arith, nat_tests, h))

plain_bytes : (bytes : List ℕ) → list_all is_name_byte bytes ≡ true → AllByRecursion IsNameByte bytes
plain_bytes [] h = tt
plain_bytes (b ∷ bytes) h = let parts = both (is_name_byte b) (list_all is_name_byte bytes) h in (name_byte b parts.0, plain_bytes bytes parts.1)

front_and_number : (front : List ℕ) (number : Option ℕ) → is_front front ≡ true → IfSome number (λ n. n < 2 ^ 32) → IsName (with_number front number)
front_and_number front None h small =
    let parts = both (nat_le 1 (length front) && nat_le (length front) 8) (list_all is_name_byte front) h in
    record { some = grind (arith, nat_tests, parts.0); short = grind (arith, nat_tests, parts.0); plain = All-from_recursion IsNameByte front (plain_bytes front parts.1) }
front_and_number front (Some n) h small =
    let parts = both (nat_le 1 (length front) && nat_le (length front) 8) (list_all is_name_byte front) h in
    let long = length-decimal-le 10 n (omega arith) (omega (arith, small)) (omega (arith, small)) in
    let most : length front ≤ 8 = grind (arith, nat_tests, parts.0) in
    record {
      some = omega (arith, length-append front (decimal n), decimal_nonempty n (omega (arith, small)));
      short = omega (arith, length-append front (decimal n), long, most);
      plain = All-from_recursion IsNameByte (front ++ decimal n) (all_join IsNameByte front (decimal n) (plain_bytes front parts.1) (decimal_plain n (omega (arith, small))));
    }

pub symbol_is_name : (w : Wire) (text : List ℕ) (number : Option ℕ) → kept_of w ≡ None → number ≡ (wire_label w).1 → IfSome number (λ n. n < 2 ^ 32) → text ≡ with_number (wire_label w).0 number → IsName text
symbol_is_name w text number added is small e = subst IsName (sym e) (front_and_number (wire_label w).0 number (fronts_fit w added) small)

-- an added symbol is none of the original's nets
pub added_is_new : (w : Wire) → IsAdded w → kept_of w ≡ None
added_is_new (Kept net) h = absurd h
added_is_new Test h = refl
added_is_new Init h = refl
added_is_new So h = refl
added_is_new Done h = refl
added_is_new NotInit h = refl
added_is_new NotTest h = refl
added_is_new Go h = refl
added_is_new NotGo h = refl
added_is_new Parity h = refl
added_is_new Low h = refl
added_is_new Feed h = refl
added_is_new (Word i) h = refl
added_is_new (WordNext i) h = refl
added_is_new Wrap h = refl
added_is_new Phase h = refl
added_is_new PhaseTurned h = refl
added_is_new PhaseNext h = refl
added_is_new Advance h = refl
added_is_new NotAdvance h = refl
added_is_new (Ring s) h = refl
added_is_new (RingKept s) h = refl
added_is_new (RingMoved s) h = refl
added_is_new (RingOr s) h = refl
added_is_new (RingNext s) h = refl
added_is_new NotOver h = refl
added_is_new Live h = refl
added_is_new NotPhase h = refl
added_is_new Running h = refl
added_is_new Shifting h = refl
added_is_new (On r) h = refl
added_is_new (Compacts r) h = refl
added_is_new (Latches r) h = refl
added_is_new (Takes r) h = refl
added_is_new (Off r) h = refl
added_is_new (Codes r) h = refl
added_is_new (Feedback r) h = refl
added_is_new (Signed r) h = refl
added_is_new (Carried r) h = refl
added_is_new (First r) h = refl
added_is_new (Line i) h = refl
added_is_new (Chain i) h = refl
added_is_new (Code i) h = refl
added_is_new (Coded i) h = refl
added_is_new (Next i) h = refl
added_is_new (InTest i) h = refl
added_is_new (InNormal i) h = refl
added_is_new (Read i) h = refl
added_is_new (Held i) h = refl

-- and has a name
pub name_is : (w : Wire) → IsAdded w → IsName (symbol_name w)
name_is w h = front_and_number (wire_label w).0 (wire_label w).1 (fronts_fit w (added_is_new w h)) (small_number w h)
