-- The written netlist: the original's gates, reading behind the cells, and the gates and flip-flops of the self-test. It is a table
-- over symbols, and a module under the names of texts.
use Rattle.std.specs.Prelude.{ℕ, Bool, true, false, List, [], ◌∷◌, ◌++◌, map, filter, take, drop, codes, Option, None, Some}
use Rattle.bb_base.specs.declared.variable.Role.{Role}
use Rattle.bb_base.specs.declared.variable.Role.TheVariants.{Input, Output, Wire as WireRole}
use Rattle.bb_base.specs.Net.{Gate, Netlist, renamed}
use Rattle.bb_base.specs.Variables.{Entry}
use Rattle.bb_base.specs.Named.{Named}
use Rattle.bb_base.specs.Variables.{ports_of}
use Rattle.bb_net.specs.Sites.{Site, site_of, Sited, sited}
use Rattle.bb_terms.specs.Plan.{PlanValue}
use Rattle.bb_terms.specs.declared.wire.Wire.{Wire}
use Rattle.bb_terms.specs.declared.wire.Wire.TheVariants.{Kept, Test, Init, So, Done}
use Rattle.bb_terms.specs.Wires.{symbol_name}
use Rattle.bb_terms.specs.Reads.{read}
use Rattle.bb_terms.specs.Controller.{gate_row}
use Rattle.bb_terms.specs.Registers.{control_rows}
use Rattle.bb_written.specs.Cells.{all_cells_from, flops}

-- the added gates, in the order of their statements
abbrev pub test_gates : Netlist ℕ → PlanValue → List (Gate Wire)
test_gates a p = control_rows p ++ all_cells_from a p 0 0 p.registers

-- a gate of the original, reading behind the cells
abbrev pub written_gate : PlanValue → Gate ℕ → Gate Wire
written_gate p g = gate_row g.op (Kept g.out) (map (read p) g.ins)

abbrev pub written_netlist : Netlist ℕ → PlanValue → Netlist Wire
written_netlist a p =
    record {
      inputs = map Kept a.inputs ++ Test ∷ Init ∷ [];
      outputs = map Kept a.outputs ++ So ∷ Done ∷ [];
      gates = map (written_gate p) a.gates ++ test_gates a p;
      flops = flops p;
    }

-- the net is an added one and no port
abbrev pub is_inner : Wire → Bool
is_inner (Kept net) = false
is_inner Test = false
is_inner Init = false
is_inner So = false
is_inner Done = false
is_inner w = true

-- the added wires: the outputs of added gates, and then the bits of added flip-flops
abbrev pub inner_wires : Netlist ℕ → PlanValue → List Wire
inner_wires a p = filter is_inner (map (λ g. g.out) (test_gates a p)) ++ filter is_inner (map (λ f. f.q) (flops p))

-- the site of a variable of one bit
abbrev pub scalar_site : List ℕ → Site
scalar_site name = record { name = name; place = 0 }

-- each net's site: an original net keeps its own
abbrev pub wire_site : Named → Wire → Site
wire_site a (Kept net) = site_of a net
wire_site a w = scalar_site (symbol_name w)

-- a variable of one bit
abbrev pub scalar_entry : Role → List ℕ → Entry
scalar_entry role name = (name, record { range = None; role = role })

-- the added clock, where the original has none
abbrev pub added_clock : {B : Type 0} → Option B → List Entry
added_clock (Some clock) = []
added_clock None = scalar_entry Input (codes "bt_clk") ∷ []

abbrev pub written_clock : Option Site → Option Site
written_clock (Some clock) = Some clock
written_clock None = Some (scalar_site (codes "bt_clk"))

abbrev pub added_ports : List Entry
added_ports = scalar_entry Input (symbol_name Test) ∷ scalar_entry Input (symbol_name Init) ∷ scalar_entry Output (symbol_name So) ∷ scalar_entry Output (symbol_name Done) ∷ []

abbrev pub inner_entry : Wire → Entry
inner_entry w = scalar_entry WireRole (symbol_name w)

-- the variables in order: the original's ports, the added ones, the original's wires, and the added ones
abbrev pub written_variables : Named → PlanValue → List Entry
written_variables a p =
    take (ports_of a.variables) a.variables
    ++ (added_clock a.clock ++ (added_ports ++ (drop (ports_of a.variables) a.variables ++ map inner_entry (inner_wires a.netlist p))))

abbrev pub written : Named → PlanValue → Sited
written a p =
    record {
      module_name = a.module_name;
      variables = written_variables a p;
      clock = written_clock (sited a).clock;
      netlist = renamed (wire_site a) (written_netlist a.netlist p);
    }
