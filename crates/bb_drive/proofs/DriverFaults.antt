-- The first fault of drivers, by the bits that the counts find.
use Rattle.std.proofs.Common.{◌≡◌, ℕ, slice_index, length, ◌&&◌, List, sym, ap, ◌∙◌}
use Rattle.std.specs.Prelude.{Option, Some, None, nat_eq, nat_lt, find}
use Rattle.std.specs.List.{range_with_len}
use Rattle.std.specs.Option.{option_map, option_or}
use Rattle.bb_base.specs.Variables.{Entry}
use Rattle.bb_fault.specs.declared.fault.ElabFault.{ElabFault}
use Rattle.bb_fault.specs.declared.fault.ElabFault.TheVariants.{TwoDrivers, Undriven}
use Rattle.bb_fault.specs.Work.{Work}
use Rattle.bb_drive.specs.Nets.{bits_driven, bits_read, bit_text, two_drivers, undriven, driver_fault}
use Rattle.bb_drive.specs.Tallies.{tallies}
use Rattle.bb_drive.proofs.DriverTests.{first_twice_is, first_undriven_is}

-- what walks over the counts find
abbrev pub twice_in : List ℕ → Option ℕ
twice_in counts = find (λ m. nat_lt 1 (slice_index counts m)) (range_with_len 0 (length counts))

abbrev pub undriven_in : List ℕ → List ℕ → Option ℕ
undriven_in drivers readers = find (λ m. nat_eq (slice_index drivers m) 0 && nat_lt 0 (slice_index readers m)) (range_with_len 0 (length drivers))

abbrev fault_of : (List ℕ → Option ℕ → ElabFault) → List Entry → ℕ → ElabFault
fault_of fault vars b = fault (bit_text vars b).name (bit_text vars b).index

two_is : (vars : List Entry) (w : Work) (counts : List ℕ) (found : Option ℕ) → counts ≡ tallies w.fresh (bits_driven vars w) → found ≡ twice_in counts → two_drivers vars w ≡ option_map (fault_of TwoDrivers vars) found
two_is vars w counts found same is = ap (option_map (fault_of TwoDrivers vars)) (sym (is ∙ first_twice_is w.fresh (bits_driven vars w) (bits_read vars w) counts same))

undriven_is :
    (vars : List Entry) (w : Work) (drivers readers : List ℕ) (found : Option ℕ) → drivers ≡ tallies w.fresh (bits_driven vars w) → readers ≡ tallies w.fresh (bits_read vars w) → found ≡ undriven_in drivers readers
    → undriven vars w ≡ option_map (fault_of Undriven vars) found
undriven_is vars w drivers readers found same also is = ap (option_map (fault_of Undriven vars)) (sym (is ∙ first_undriven_is w.fresh (bits_driven vars w) (bits_read vars w) drivers readers same also))

-- the fault about a bit, by its text
about : (fault : List ℕ → Option ℕ → ElabFault) (vars : List Entry) (bit : ℕ) (name : List ℕ) (index : Option ℕ)
    → ◌≡◌ {A = List ℕ × Option ℕ} (name, index) ((bit_text vars bit).name, (bit_text vars bit).index) → fault_of fault vars bit ≡ fault name index
about fault vars bit name index text = sym (ap (λ (t : List ℕ × Option ℕ). fault t.0 t.1) text)

pub fault_of_two :
    (vars : List Entry) (w : Work) (counts : List ℕ) (found : Option ℕ) (bit : ℕ) (name : List ℕ) (index : Option ℕ) → counts ≡ tallies w.fresh (bits_driven vars w) → found ≡ twice_in counts → found ≡ Some bit
    → ◌≡◌ {A = List ℕ × Option ℕ} (name, index) ((bit_text vars bit).name, (bit_text vars bit).index) → driver_fault vars w ≡ Some (TwoDrivers name index)
fault_of_two vars w counts found bit name index same is some text =
    ap (λ f. option_or f (undriven vars w)) (two_is vars w counts found same is ∙ ap (option_map (fault_of TwoDrivers vars)) some) ∙ ap Some (about TwoDrivers vars bit name index text)

pub fault_of_undriven :
    (vars : List Entry) (w : Work) (drivers readers : List ℕ) (two found : Option ℕ) (bit : ℕ) (name : List ℕ) (index : Option ℕ)
    → drivers ≡ tallies w.fresh (bits_driven vars w) → readers ≡ tallies w.fresh (bits_read vars w) → two ≡ twice_in drivers → two ≡ None → found ≡ undriven_in drivers readers → found ≡ Some bit
    → ◌≡◌ {A = List ℕ × Option ℕ} (name, index) ((bit_text vars bit).name, (bit_text vars bit).index) → driver_fault vars w ≡ Some (Undriven name index)
fault_of_undriven vars w drivers readers two found bit name index same also is none is_found some text =
    ap (λ f. option_or f (undriven vars w)) (two_is vars w drivers two same is ∙ ap (option_map (fault_of TwoDrivers vars)) none)
    ∙ (undriven_is vars w drivers readers found same also is_found ∙ (ap (option_map (fault_of Undriven vars)) some ∙ ap Some (about Undriven vars bit name index text)))

pub no_fault :
    (vars : List Entry) (w : Work) (drivers readers : List ℕ) (two found : Option ℕ) → drivers ≡ tallies w.fresh (bits_driven vars w) → readers ≡ tallies w.fresh (bits_read vars w)
    → two ≡ twice_in drivers → two ≡ None → found ≡ undriven_in drivers readers → found ≡ None → driver_fault vars w ≡ None
no_fault vars w drivers readers two found same also is none is_found none_found =
    ap (λ f. option_or f (undriven vars w)) (two_is vars w drivers two same is ∙ ap (option_map (fault_of TwoDrivers vars)) none)
    ∙ (undriven_is vars w drivers readers found same also is_found ∙ ap (option_map (fault_of Undriven vars)) none_found)
