-- The sample netlist of a number: its variables, its nets, and each gate and each flip-flop as a formula of its place.
--
-- Sample n has n gates of two inputs, drawn one after another, a Buf gate for each output, and a flip-flop for each 16 of n. Nets are
-- numbered by variables and from left to right: first `i`, then `o`, then `q`, then `g`. This is this project's own.
use Rattle.std.specs.Prelude.{ℕ, ◌+◌, ◌-◌, ◌*◌, ◌/◌, nat_lt, min, Bool, true, false, List, [], ◌∷◌, ◌++◌, map, codes, Option, Some, None, slice_index_or, if◌then◌else◌}
use Rattle.std.specs.List.{range_with_len}
use Rattle.bb_base.specs.declared.operator.Op.{Op}
use Rattle.bb_base.specs.declared.operator.Op.TheVariants.{And, Nand, Or, Nor, Xor, Xnor, Buf}
use Rattle.bb_base.specs.declared.variable.Role.{Role}
use Rattle.bb_base.specs.declared.variable.Role.TheVariants.{Input, Output, Wire}
use Rattle.bb_base.specs.declared.variable.Variable.{Variable}
use Rattle.bb_base.specs.declared.variable.BitName.{BitName}
use Rattle.bb_base.specs.Variables.{Entry, bit_at}
use Rattle.bb_base.specs.Net.{Gate, Flop, Netlist}
use Rattle.bb_base.specs.Named.{Named}
use Rattle.bb_sample.specs.Draws.{draw}

-- how many inputs a sample has beside the clock
unfoldable pub input_count : ℕ
input_count = 16

-- how many outputs
abbrev pub output_count : ℕ → ℕ
output_count number = min number 8

-- how many flip-flops
abbrev pub flop_count : ℕ → ℕ
flop_count number = number / 16

-- there is a clock where there is a flip-flop
abbrev pub is_clocked : ℕ → Bool
is_clocked number = nat_lt 0 (flop_count number)

-- how many nets
abbrev pub net_count : ℕ → ℕ
net_count number = input_count + output_count number + flop_count number + number

-- the nets of o, q and g at a place from the left; i's are their places
abbrev pub output_net : ℕ → ℕ
output_net place = input_count + place

abbrev pub state_net : ℕ → ℕ → ℕ
state_net number place = input_count + output_count number + place

abbrev pub gate_net : ℕ → ℕ → ℕ
gate_net number place = input_count + output_count number + flop_count number + place

-- what gate j may read is i, all of q, and the bits of g before its own: so many nets
abbrev pub pool_size : ℕ → ℕ → ℕ
pool_size number j = input_count + flop_count number + j

-- the net of a place among them: o's nets stand between i's and q's, and no gate reads them
abbrev pub pool_net : ℕ → ℕ → ℕ
pool_net number place = if nat_lt place input_count then place else place + output_count number

-- the operators that are drawn
abbrev pub operator_of : ℕ → Op
operator_of number = slice_index_or (And ∷ Nand ∷ Or ∷ Nor ∷ Xor ∷ Xnor ∷ []) number And

-- gate j has three draws: its operator, its first input, its second input
abbrev pub gate_at : ℕ → ℕ → Gate ℕ
gate_at number j = record {
  op = operator_of (draw number (3 * j) 6);
  out = gate_net number j;
  ins = pool_net number (draw number (3 * j + 1) (pool_size number j)) ∷ pool_net number (draw number (3 * j + 2) (pool_size number j)) ∷ [];
}

-- output j is that of the j-th gate from the last
abbrev pub buffer_at : ℕ → ℕ → Gate ℕ
buffer_at number j = record { op = Buf; out = output_net j; ins = gate_net number (number - 1 - j) ∷ [] }

-- flip-flop i has one draw, behind those of all gates: the gate whose output it takes
abbrev pub flop_at : ℕ → ℕ → Flop ℕ
flop_at number i = record { q = state_net number i; d = gate_net number (draw number (3 * number + i) number) }

abbrev pub sample_netlist : ℕ → Netlist ℕ
sample_netlist number = record {
  inputs = range_with_len 0 input_count;
  outputs = range_with_len input_count (output_count number);
  gates = map (gate_at number) (range_with_len 0 number) ++ map (buffer_at number) (range_with_len 0 (output_count number));
  flops = map (flop_at number) (range_with_len 0 (flop_count number));
}

-- a vector of this width, whose left index is 0
abbrev pub vector_of : Role → ℕ → Variable
vector_of role width = record { range = Some (0, width - 1); role = role }

abbrev pub vector : List ℕ → Role → ℕ → Entry
vector name role width = (name, vector_of role width)

abbrev pub clock_entry : Entry
clock_entry = (codes "clk", record { range = None; role = Input })

-- the variables, with a clock and without
abbrev pub variables_of : Bool → ℕ → List Entry
variables_of true number =
    clock_entry ∷ vector (codes "i") Input input_count ∷ vector (codes "o") Output (output_count number) ∷ vector (codes "q") Wire (flop_count number) ∷ vector (codes "g") Wire number ∷ []
variables_of false number = vector (codes "i") Input input_count ∷ vector (codes "o") Output (output_count number) ∷ vector (codes "g") Wire number ∷ []

abbrev pub sample_clock : Bool → Option BitName
sample_clock true = Some (bit_at 0 0)
sample_clock false = None

-- the bits of the variable of this number
abbrev pub bits_of : ℕ → ℕ → List BitName
bits_of number width = map (bit_at number) (range_with_len 0 width)

-- the bits of all vectors, with a clock before them and without
abbrev pub bits_of_vectors : Bool → ℕ → List BitName
bits_of_vectors true number = bits_of 1 input_count ++ bits_of 2 (output_count number) ++ bits_of 3 (flop_count number) ++ bits_of 4 number
bits_of_vectors false number = bits_of 0 input_count ++ bits_of 1 (output_count number) ++ bits_of 2 number

-- the whole sample
abbrev pub sample_of : ℕ → Named
sample_of number = record {
  module_name = codes "sample";
  variables = variables_of (is_clocked number) number;
  clock = sample_clock (is_clocked number);
  names = bits_of_vectors (is_clocked number) number;
  netlist = sample_netlist number;
}
