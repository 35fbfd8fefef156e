-- The named netlist of what the items of a module make.
use Rattle.std.specs.Prelude.{ℕ, nat_eq, List, map, filter}
use Rattle.std.specs.List.{position_or_len}
use Rattle.std.specs.Option.{option_map}
use Rattle.bb_base.specs.Variables.{Entry}
use Rattle.bb_base.specs.Named.{Named}
use Rattle.bb_base.specs.Net.{Netlist, renamed}
use Rattle.bb_fault.specs.Work.{Work}
use Rattle.bb_drive.specs.Nets.{input_bits, output_bits, nets, bit_name}
use Rattle.bb_drive.specs.Clock.{clock_of, is_data}

-- the nets but the clock's
abbrev pub kept : List Entry → Work → List ℕ
kept vars w = filter (is_data w) (nets vars w)

-- the netlist over bits, without the clock's nets and the Buf gates that drive them
abbrev pub by_bits : List Entry → Work → Netlist ℕ
by_bits vars w =
    record {
      inputs = filter (is_data w) (input_bits vars);
      outputs = output_bits vars;
      gates = filter (λ g. is_data w g.out) w.gates;
      flops = map (λ f. record { q = f.q; d = f.d }) w.flops;
    }

-- a net's number is its place among the nets that are kept
abbrev pub place_among : List ℕ → ℕ → ℕ
place_among bits b = position_or_len (nat_eq b) bits

abbrev pub netlist_by_number : List Entry → Work → Netlist ℕ
netlist_by_number vars w = renamed (place_among (kept vars w)) (by_bits vars w)

abbrev pub named_of : List ℕ → List Entry → Work → Named
named_of module_name vars w =
    record {
      module_name = module_name;
      variables = vars;
      clock = option_map (bit_name 0 vars) (clock_of w);
      names = map (bit_name 0 vars) (kept vars w);
      netlist = netlist_by_number vars w;
    }
