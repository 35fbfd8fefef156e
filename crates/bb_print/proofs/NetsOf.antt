-- The nets that stand in a named netlist, part by part.
use Rattle.std.proofs.Common.{◌<◌, ℕ, List, ◌++◌, length, map}
use Rattle.std.specs.List.{AllByRecursion, flat_map}
use Rattle.std.proofs.lemmas.List.Elements.{recursion_from_All}
use Rattle.bb_base.specs.Net.{Gate, Flop, driven, reads}
use Rattle.bb_base.specs.Named.{Named, IsNamed}
use Rattle.bb_base.proofs.Lists.{all_front, all_back, all_map, all_parts}

module _ (a : Named) (h : IsNamed a) where
  abbrev IsNet : ℕ → Type 0
  IsNet n = n < length a.names

  abbrev outs : List ℕ
  outs = map (λ (g : Gate ℕ). g.out) a.netlist.gates

  abbrev qs : List ℕ
  qs = map (λ (f : Flop ℕ). f.q) a.netlist.flops

  abbrev ins : List ℕ
  ins = flat_map (λ (g : Gate ℕ). g.ins) a.netlist.gates

  abbrev ds : List ℕ
  ds = map (λ (f : Flop ℕ). f.d) a.netlist.flops

  pub driven_nets : AllByRecursion (λ n. n < length a.names) (driven a.netlist)
  driven_nets = recursion_from_All IsNet (driven a.netlist) h.consistent.drives_nets

  pub read_nets : AllByRecursion (λ n. n < length a.names) (reads a.netlist)
  read_nets = recursion_from_All IsNet (reads a.netlist) h.consistent.reads_nets

  pub input_nets : AllByRecursion (λ n. n < length a.names) a.netlist.inputs
  input_nets = all_front IsNet a.netlist.inputs (outs ++ qs) driven_nets

  pub out_nets : AllByRecursion (λ n. n < length a.names) (map (λ (g : Gate ℕ). g.out) a.netlist.gates)
  out_nets = all_front IsNet outs qs (all_back IsNet a.netlist.inputs (outs ++ qs) driven_nets)

  pub q_nets : AllByRecursion (λ n. n < length a.names) (map (λ (f : Flop ℕ). f.q) a.netlist.flops)
  q_nets = all_back IsNet outs qs (all_back IsNet a.netlist.inputs (outs ++ qs) driven_nets)

  pub output_nets : AllByRecursion (λ n. n < length a.names) a.netlist.outputs
  output_nets = all_front IsNet a.netlist.outputs (ins ++ ds) read_nets

  pub in_nets : AllByRecursion (λ n. n < length a.names) (flat_map (λ (g : Gate ℕ). g.ins) a.netlist.gates)
  in_nets = all_front IsNet ins ds (all_back IsNet a.netlist.outputs (ins ++ ds) read_nets)

  pub d_nets : AllByRecursion (λ n. n < length a.names) (map (λ (f : Flop ℕ). f.d) a.netlist.flops)
  d_nets = all_back IsNet ins ds (all_back IsNet a.netlist.outputs (ins ++ ds) read_nets)

  pub gate_outs : AllByRecursion (λ (g : Gate ℕ). g.out < length a.names) a.netlist.gates
  gate_outs = all_map IsNet (λ (g : Gate ℕ). IsNet g.out) (λ (g : Gate ℕ). g.out) (λ g k. k) a.netlist.gates out_nets

  pub gate_ins : AllByRecursion (λ (g : Gate ℕ). AllByRecursion (λ n. n < length a.names) g.ins) a.netlist.gates
  gate_ins = all_parts IsNet (λ (g : Gate ℕ). g.ins) a.netlist.gates in_nets

  pub flop_qs : AllByRecursion (λ (f : Flop ℕ). f.q < length a.names) a.netlist.flops
  flop_qs = all_map IsNet (λ (f : Flop ℕ). IsNet f.q) (λ (f : Flop ℕ). f.q) (λ f k. k) a.netlist.flops q_nets

  pub flop_ds : AllByRecursion (λ (f : Flop ℕ). f.d < length a.names) a.netlist.flops
  flop_ds = all_map IsNet (λ (f : Flop ℕ). IsNet f.d) (λ (f : Flop ℕ). f.d) (λ f k. k) a.netlist.flops d_nets
