-- What texts name in a netlist that is being read. No public contract cites this.
use Rattle.std.specs.Prelude.{ℕ, ◌-◌, ◌&&◌, Bool, false, not, nat_le, nat_lt, length, Option, Some, None, slice_get, if◌then◌else◌}
use Rattle.std.specs.List.{list_all}
use Rattle.bb_base.specs.declared.fault.NetFault.{NetFault}
use Rattle.bb_base.specs.declared.fault.NetFault.TheVariants.{Redeclared, TwoDrivers, Undriven, BadArity, TooMany, NoMemory}
use Rattle.bb_base.specs.declared.variable.BitName.{BitName}
use Rattle.bb_base.specs.Variables.{Bit, bit_at, is_port}
use Rattle.bb_base.specs.Named.{Named, lookup_of}
use Rattle.bb_spell.specs.Front.{◌>>=◌}
use Rattle.bb_canon.specs.declared.draft.CanonFault.{CanonFault}
use Rattle.bb_canon.specs.declared.draft.CanonFault.TheVariants as Canon

-- a builder's refusal, as this reader's
abbrev pub canon_fault : NetFault → CanonFault
canon_fault (Redeclared v) = Canon.Unfit
canon_fault (TwoDrivers net) = Canon.Unfit
canon_fault (Undriven net) = Canon.Unfit
canon_fault (BadArity gate) = Canon.Unfit
canon_fault (TooMany count limit) = Canon.Unfit
canon_fault NoMemory = Canon.NoMemory

-- the place of an index of a range, from the left
abbrev pub index_place : ℕ × ℕ → ℕ → Option ℕ
index_place r i = if nat_le r.0 r.1 then (if nat_le r.0 i && nat_le i r.1 then Some (i - r.0) else None) else (if nat_le r.1 i && nat_le i r.0 then Some (r.0 - i) else None)

-- the place of an index where the variable is a vector, and the only place of a variable without indices
abbrev pub indexed_place : Option (ℕ × ℕ) → Option ℕ → Option ℕ
indexed_place None None = Some 0
indexed_place None (Some i) = None
indexed_place (Some r) None = None
indexed_place (Some r) (Some i) = index_place r i

-- the bit that a text names
abbrev pub named_bit : Named → Bit → Option BitName
named_bit n b = lookup_of b.name n >>= (λ number. slice_get n.variables number >>= (λ v. indexed_place v.1.range b.index >>= (λ place. Some (bit_at number place))))

-- a variable may come next: ports come before the others, and there are fewer than can be
abbrev pub may_come : Named → Bool → Bool
may_come n port = if port && not (list_all (λ v. is_port v.1.role) n.variables) then false else nat_lt (length n.variables) 4294967295
