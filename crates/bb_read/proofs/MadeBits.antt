-- A module without a fault has no more bits than the limit, with those of made wires.
use Rattle.std.proofs.Common.{◌≡◌, ℕ, ◌+◌, ◌≤◌, Bool, true, false, not, filter, nat_lt, List, [], ◌∷◌, ◌++◌, length, map, Option, Some, None, refl, arith}
use Rattle.std.specs.Option.{option_or}
use Rattle.std.specs.List.{range_with_len}
use Rattle.std.proofs.lemmas.List.{length-take}
use Rattle.std.proofs.lemmas.Bool.Decides.{nat_tests}
use Rattle.bb_base.specs.Variables.{Entry, bit_count, limit_of}
use Rattle.bb_parse.specs.declared.syntax.Module.{Module}
use Rattle.bb_scope.specs.Variables.{variables}
use Rattle.bb_fault.specs.Limits.{too_many}
use Rattle.bb_scope.specs.Parts.{bad_part, too_many_bits}
use Rattle.bb_drive.specs.Nets.{made_variable, made_names, made_count, is_variable}
use Rattle.bb_base.specs.OwnNames.{made_name}
use Rattle.bb_meaning.specs.Outcome.{first_fault, net_fault, too_many_made, variables_in, work_in}
use Rattle.bb_scope.specs.Text.{name_fault}
use Rattle.bb_scope.specs.Cells.{unknown_cell}
use Rattle.bb_scope.specs.Names.{reserved}
use Rattle.bb_scope.specs.Declarations.{redeclared, bad_port}

-- where neither of two faults is one, each is none
none_first : {A : Type 0} (a b : Option A) → option_or a b ≡ None → a ≡ None
none_first None b e = refl
none_first (Some x) b e = absurd (cc e)

none_second : {A : Type 0} (a b : Option A) → option_or a b ≡ None → b ≡ None
none_second None b e = e
none_second (Some x) b e = absurd (cc e)

-- bits of two lists together
count_both : (vs ws : List Entry) → bit_count (vs ++ ws) ≡ bit_count vs + bit_count ws
count_both [] ws = omega arith
count_both (v ∷ vs) ws = omega (arith, count_both vs ws)

-- a made wire has one bit
count_made : (names : List (List ℕ)) → bit_count (map made_variable names) ≡ length names
count_made [] = refl
count_made (n ∷ names) = omega (arith, count_made names)

-- at most so many names are made
names_few : (table : List Entry) (count : ℕ) → length (made_names table count) ≤ count
names_few table count =
    let found = filter (λ n. not (is_variable table n)) (map made_name (range_with_len 0 (count + length table))) in
    omega (arith, length-take count found)

-- a count without a fault is within the limit
within : (own : Bool) (count : ℕ) → too_many own count ≡ None → count ≤ limit_of own
within own count none = by (nat_lt (limit_of own) count) refl
  where
    by : (x : Bool) → nat_lt (limit_of own) count ≡ x → count ≤ limit_of own
    by true e = absurd (grind (arith, e, none))
    by false e = grind (arith, nat_tests)

pub few_bits : (own : Bool) (m : Module) → first_fault own m ≡ None → bit_count (variables_in m) ≤ limit_of own
few_bits own m none =
    let w = work_in m in
    let table = variables m in
    let nets = net_fault (variables_in m) w in
    let name = none_first (name_fault own m) (option_or (unknown_cell m) (option_or (bad_part m) (option_or (too_many_made own m) nets))) none in
    let declared = none_second (reserved own m) (option_or (redeclared m) (option_or (bad_port m) (too_many_bits own m))) name in
    let ports = none_second (redeclared m) (option_or (bad_port m) (too_many_bits own m)) declared in
    let few = within own (bit_count table) (none_second (bad_port m) (too_many_bits own m) ports) in
    let cells = none_second (name_fault own m) (option_or (unknown_cell m) (option_or (bad_part m) (option_or (too_many_made own m) nets))) none in
    let parts = none_second (unknown_cell m) (option_or (bad_part m) (option_or (too_many_made own m) nets)) cells in
    let fits = within own w.fresh (none_first (too_many_made own m) nets (none_second (bad_part m) (option_or (too_many_made own m) nets) parts)) in
    let names = made_names table (made_count table w) in
    let both = count_both table (map made_variable names) in
    let short = names_few table (made_count table w) in
    let made = count_made names in
    omega (arith, both, short, made, fits, few)
