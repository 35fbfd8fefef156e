-- The clock and each other label are bits of variables.
use Rattle.std.proofs.Common.{◌≡◌, ℕ, ◌<◌, List, [], ◌∷◌, Bool, true, false, cond, Option, Some, None, nat_eq, sym, ap, ◌∙◌, arith}
use Rattle.std.proofs.lemmas.List.Elements.{recursion_from_All}
use Rattle.std.specs.List.{AllByRecursion}
use Rattle.std.specs.Option.{option_or}
use Rattle.bb_base.specs.Variables.{Entry, is_input, bit_count}
use Rattle.bb_fault.specs.Work.{Work, Clocked}
use Rattle.bb_drive.specs.Within.{IsWithin, IsFlopWithin}
use Rattle.bb_drive.specs.Nets.{has_bit, input_bits}
use Rattle.bb_drive.specs.Clock.{clock_of}
use Rattle.bb_drive.specs.Origins.{entry_at, AreFed, ArePinsFed, fed_by, another, other_label}
use Rattle.bb_drive.proofs.BitBounds.{bits_in}
use Rattle.bb_drive.proofs.ClockLaws.{fed_input, clock_input}
use Rattle.bb_drive.proofs.OriginLaws.{same_some, no_some}

pub clock_inside : (vars : List Entry) (w : Work) (labels : List (Option ℕ)) (clock : ℕ) → IsWithin w → AreFed vars w labels → ArePinsFed w labels → clock_of w ≡ Some clock → clock < bit_count vars
clock_inside vars w labels clock within fed pins h = omega (arith, bits_in is_input 0 vars clock (clock_input vars w labels clock within fed pins h))

other_input :
    (vars : List Entry) (w : Work) (labels : List (Option ℕ)) (clock other : ℕ) → AreFed vars w labels → (flops : List Clocked) → AllByRecursion (IsFlopWithin w.fresh) flops
    → other_label clock labels flops ≡ Some other → has_bit (input_bits vars) other ≡ true
other_input vars w labels clock other fed [] small h = absurd (no_some other h)
other_input vars w labels clock other fed (f ∷ flops) small h = by (entry_at labels f.clock) (sym (fed.each f.clock small.0.clock)) h (other_input vars w labels clock other fed flops small.1)
  where
    by : (l : Option ℕ) → fed_by vars w f.clock ≡ l → option_or (another clock l) (other_label clock labels flops) ≡ Some other
        → (other_label clock labels flops ≡ Some other → has_bit (input_bits vars) other ≡ true) → has_bit (input_bits vars) other ≡ true
    by None e k rest = rest k
    by (Some label) e k rest = test (nat_eq clock label) k
      where
        test : (t : Bool) → option_or (cond t None (Some label)) (other_label clock labels flops) ≡ Some other → has_bit (input_bits vars) other ≡ true
        test true k = rest k
        test false k = ap (has_bit (input_bits vars)) (sym (same_some label other k)) ∙ fed_input vars w f.clock label e

pub other_inside : (vars : List Entry) (w : Work) (labels : List (Option ℕ)) (clock other : ℕ) → IsWithin w → AreFed vars w labels → other_label clock labels w.flops ≡ Some other → other < bit_count vars
other_inside vars w labels clock other within fed h = omega (arith, bits_in is_input 0 vars other (other_input vars w labels clock other fed w.flops (recursion_from_All (IsFlopWithin w.fresh) w.flops within.flops) h))
