-- How often bits are driven or read, where two stands for more.
-- (No outcome rests on these: they serve contracts of inner calls and proofs.)
use Rattle.std.specs.Prelude.{ℕ, ◌+◌, min, Bool, not, List, fold, replicate, slice_index, slice_set}
use Rattle.bb_base.specs.Variables.{is_input, is_output, is_port}
use Rattle.bb_base.specs.declared.variable.Role.{Role}
use Rattle.bb_base.specs.declared.variable.Role.TheVariants.{Input, Output, Wire}

-- a bit once more; a number beyond all bits changes nothing
abbrev pub tally : List ℕ → ℕ → List ℕ
tally counts bit = slice_set counts bit (min 2 (slice_index counts bit + 1))

-- how often each of so many bits stands in a list
abbrev pub tallies : ℕ → List ℕ → List ℕ
tallies count bits = fold tally (replicate count 0) bits

-- whether a role is this one
abbrev pub is_role : Role → Role → Bool
is_role Input role = is_input role
is_role Output role = is_output role
is_role Wire role = not (is_port role)
