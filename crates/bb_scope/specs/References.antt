-- The bits that a reference names: a variable, or a part of a vector that runs as its range does.
use Rattle.std.specs.Prelude.{ℕ, ◌+◌, ◌-◌, Bool, ◌&&◌, ◌||◌, nat_le, nat_lt, List, [], ◌∷◌, Option, Some, None, if◌then◌else◌}
use Rattle.std.specs.Map.{lookup}
use Rattle.std.specs.Str.{bytes_eq}
use Rattle.bb_base.specs.Variables.{Entry, range_width}
use Rattle.bb_parse.specs.declared.syntax.Ref.{Ref}
use Rattle.bb_scope.specs.declared.references.Span.{Span}
use Rattle.bb_fault.specs.declared.fault.ElabFault.{ElabFault}
use Rattle.bb_fault.specs.declared.fault.ElabFault.TheVariants.{BadSelect, TooWide}
use Rattle.bb_fault.specs.Firsts.{on_some}
use Rattle.std.specs.List.{range_with_len}

-- the range of a variable, none for a scalar
abbrev pub range_in : List Entry → List ℕ → Option (ℕ × ℕ)
range_in table name = on_some (lookup (bytes_eq name) table) None (λ v. v.range)

-- how far two indices lie apart
abbrev pub distance : ℕ → ℕ → ℕ
distance a b = (a - b) + (b - a)

abbrev pub is_in_range : ℕ × ℕ → ℕ → Bool
is_in_range range i = (nat_le range.0 i && nat_le i range.1) || (nat_le range.1 i && nat_le i range.0)

-- the bits that a select names, none where it is bad: of a scalar, outside the range, or against its direction
abbrev pub selected : Option (ℕ × ℕ) → Option (ℕ × ℕ) → Option Span
selected range None = Some (record { first = 0; width = range_width range })
selected None (Some s) = None
selected (Some r) (Some s) =
    if is_in_range r s.0 && (is_in_range r s.1 && nat_le (distance r.0 s.0) (distance r.0 s.1))
    then Some (record { first = distance r.0 s.0; width = range_width (Some s) }) else None

abbrev pub ref_span : List Entry → Ref → Option Span
ref_span table ref = selected (range_in table ref.name) ref.select

abbrev pub width_of : Option Span → ℕ
width_of None = 0
width_of (Some s) = s.width

-- a value has at most so many bits
abbrev pub width_limit : ℕ
width_limit = 65536

abbrev pub span_fault : ℕ → Option Span → Option ElabFault
span_fault line None = Some (BadSelect line)
span_fault line (Some s) = if nat_lt width_limit s.width then Some (TooWide line) else None

-- the fault of a reference
abbrev pub ref_fault : List Entry → ℕ → Ref → Option ElabFault
ref_fault table line ref = span_fault line (ref_span table ref)

-- the bits of a left side
abbrev pub left_width : List Entry → List Ref → ℕ
left_width table [] = 0
left_width table (r ∷ refs) = width_of (ref_span table r) + left_width table refs

-- the number of a variable's first bit: how many bits the variables before it have
abbrev pub first_number : List Entry → List ℕ → ℕ
first_number [] name = 0
first_number (v ∷ vs) name = if bytes_eq name v.0 then 0 else range_width v.1.range + first_number vs name

abbrev pub span_bits : ℕ → Option Span → List ℕ
span_bits first None = []
span_bits first (Some s) = range_with_len (first + s.first) s.width

-- the bits that a reference names, from left to right
abbrev pub ref_bits : List Entry → Ref → List ℕ
ref_bits table ref = span_bits (first_number table ref.name) (ref_span table ref)
