use Rattle.std.proofs.Common.{◌≡◌, ◌+◌, ◌<◌, ◌≤◌, ◌++◌, ◌∷◌, [], None, length, length-append, ap, ◌∙◌, arith}
use Rattle.std.proofs.lemmas.Grind.{common_steps}
use Rattle.std.specs.Str.{bytes_eq}
use Rattle.indexmap.specs.IndexMap.{get}
use Rattle.indexmap.proofs.CallerLemmas.{insert_entry-new}
use Rattle.bb_base.specs.declared.variable.Variable.{Variable}
use Rattle.bb_base.specs.Named.{Named}
use Rattle.bb_base.specs.Building.{with_variable, net_limit, port_bits}
use Rattle.bb_base.specs.Variables.{ports_of}
use Rattle.bb_net.proofs.VariableLemmas.{variable_is, variable_added, ports_more}
use Rattle.bb_net.proofs.builder.Builder.variable.Goals as goal

pub invariant_of-self-2 : goal.invariant_of-self-2
invariant_of-self-2 c =
    let v : Variable = record { range = c.args.range; role = c.args.role } in
    let none : get bytes_eq c.self.inside.variables c.args.name ≡ None = grind (arith, common_steps, c.get_index_of.ensures.found) in
    let entries : c.insert.new.self.entries ≡ c.self.inside.variables.entries ++ (c.args.name, v) ∷ [] = c.in-Ok-insert.ensures.entries ∙ insert_entry-new bytes_eq c.self.inside.variables c.args.name v none in
    let m : Named = record {
      module_name = c.self.inside.«module»;
      variables = c.self.inside.variables.entries;
      clock = c.self.inside.clock;
      names = c.self.inside.names.keys;
      netlist = record { inputs = c.self.inside.inputs.items; outputs = c.self.inside.outputs.items; gates = c.self.inside.gates.items; flops = c.self.inside.flops.items };
    } in
    let after : Named = record {
      module_name = c.self.inside.«module»;
      variables = c.insert.new.self.entries;
      clock = c.clock_after-self-inside.result;
      names = c.add_bits.new.names.keys;
      netlist = record { inputs = c.add_bits.new.inputs.items; outputs = c.add_bits.new.outputs.items; gates = c.self.inside.gates.items; flops = c.self.inside.flops.items };
    } in
    let is : after ≡ with_variable m c.args.name v c.args.clock = variable_is m c.args.name v c.args.clock c.len-number.result c.insert.new.self.entries c.clock_after-self-inside.result c.add_bits.new.names.keys c.add_bits.new.inputs.items c.add_bits.new.outputs.items
    c.len-number.ensures.len entries c.clock_after-self-inside.ensures c.in-Ok.ensures.names c.in-Ok.ensures.inputs c.in-Ok.ensures.outputs in
    let kept = c.self.invariant in
    let few : length c.insert.new.self.entries < 4294967296 = omega (arith, ap length entries, length-append c.self.inside.variables.entries ((c.args.name, v) ∷ []), c.requires.few, ap (λ (k : Named). length k.variables) c.self.view_is) in
    let short : length c.add_bits.new.names.keys ≤ net_limit = omega (arith, ap length c.in-Ok.ensures.names, length-append c.self.inside.names.keys (port_bits c.len-number.result v c.args.clock), c.net_count.ensures c.len-number.result) in
    let ports : c.self.inside.ports + c.port_count.result ≡ ports_of c.insert.new.self.entries =
    (λ i. kept.3 i + c.port_count.ensures i) ∙ ports_more c.self.inside.variables.entries c.insert.new.self.entries (c.args.name, v) entries in
    (variable_added m c.args.self.now after c.args.name v c.args.clock c.self.view_is kept.0 c.bytes-valid.ensures.valid c.requires.range c.requires.ports_first c.requires.clock is, few, short, ports)

pub returns-clause-ok : goal.returns-clause-ok
returns-clause-ok c =
    let v : Variable = record { range = c.args.range; role = c.args.role } in
    let none : get bytes_eq c.self.inside.variables c.args.name ≡ None = grind (arith, common_steps, c.get_index_of.ensures.found) in
    let entries : c.insert.new.self.entries ≡ c.self.inside.variables.entries ++ (c.args.name, v) ∷ [] = c.in-Ok-insert.ensures.entries ∙ insert_entry-new bytes_eq c.self.inside.variables c.args.name v none in
    let m : Named = record {
      module_name = c.self.inside.«module»;
      variables = c.self.inside.variables.entries;
      clock = c.self.inside.clock;
      names = c.self.inside.names.keys;
      netlist = record { inputs = c.self.inside.inputs.items; outputs = c.self.inside.outputs.items; gates = c.self.inside.gates.items; flops = c.self.inside.flops.items };
    } in
    variable_is m c.args.name v c.args.clock c.len-number.result c.insert.new.self.entries c.clock_after-self-inside.result c.add_bits.new.names.keys c.add_bits.new.inputs.items c.add_bits.new.outputs.items
    c.len-number.ensures.len entries c.clock_after-self-inside.ensures c.in-Ok.ensures.names c.in-Ok.ensures.inputs c.in-Ok.ensures.outputs ∙ ap (λ k. with_variable k c.args.name v c.args.clock) c.self.view_is
