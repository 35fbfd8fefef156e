-- By sites, what was filled is the written netlist.
use Rattle.std.proofs.Common.{◌≡◌, ℕ, List, [], ◌∷◌, ◌++◌, map, sym, ap, ◌∙◌}
use Rattle.std.specs.List.{AllByRecursion}
use Rattle.std.specs.Option.{option_map}
use Rattle.bb_base.specs.Variables.{role_bits, is_input, is_output}
use Rattle.bb_base.proofs.Contained.{to_all, both_all}
use Rattle.bb_base.proofs.Lists.{all_back, all_map, map_twice, map_join, same_map_at}
use Rattle.bb_base.specs.Net.{Flop, renamed_gate, renamed_flop, driven}
use Rattle.bb_base.specs.Named.{Named, IsNamed, name_of_net}
use Rattle.bb_net.specs.Sites.{site_of_bit, site_of, sited}
use Rattle.bb_terms.specs.Plan.{PlanValue}
use Rattle.bb_terms.specs.Valid.{IsValidPlan}
use Rattle.bb_terms.specs.declared.wire.Wire.{Wire}
use Rattle.bb_terms.specs.declared.wire.Wire.TheVariants.{Kept, Test, Init, So, Done}
use Rattle.bb_terms.specs.Numbering.{net_at}
use Rattle.bb_terms.specs.Wires.{symbol_name}
use Rattle.bb_written.specs.Cells.{flops}
use Rattle.bb_written.specs.Written.{scalar_site, wire_site, written_netlist, inner_wires, written_clock, written}
use Rattle.bb_written.proofs.Rising.{q_in}
use Rattle.bb_written.proofs.Reached.{RowHolds, d_in, ds_hold}
use Rattle.bb_written.proofs.Driven.{d_inside, holds, rows_all}
use Rattle.bb_written.proofs.Sizes.{ahead_long}
use Rattle.bb_weave.proofs.Filled.{IsFilled}
use Rattle.bb_weave.proofs.PortSites.{inputs_are, outputs_are, clock_site}

module _ (a : Named) (p : PlanValue) (n : Named) (kept : List ℕ) (named : IsNamed a) (valid : IsValidPlan a.netlist p) (filled : IsFilled a p n kept) where
  abbrev number : Wire → ℕ
  number w = net_at n kept w

  -- the symbol's net stands where the symbol does
  abbrev Stands : Wire → Type 0
  Stands w = site_of n (number w) ≡ wire_site a w

  drivers_stand : AllByRecursion Stands (driven (written_netlist a.netlist p))
  drivers_stand = to_all Stands (driven (written_netlist a.netlist p)) (λ w c. (filled.found w c).site)

  rows_stand : AllByRecursion (RowHolds Stands) (written_netlist a.netlist p).gates
  rows_stand = rows_all a.netlist p named.netlist valid Stands drivers_stand

  qs_stand : AllByRecursion Stands (map q_in (flops p))
  qs_stand = all_back Stands (map (λ g. g.out) (written_netlist a.netlist p).gates) (map q_in (flops p)) (all_back Stands (written_netlist a.netlist p).inputs (map (λ g. g.out) (written_netlist a.netlist p).gates ++ map q_in (flops p)) drivers_stand)

  ds_stand : AllByRecursion Stands (map d_in (flops p))
  ds_stand = ds_hold Stands a.netlist p (holds a.netlist p named.netlist valid Stands drivers_stand) (d_inside a.netlist named.netlist) (ahead_long p)

  flops_stand : AllByRecursion (λ (f : Flop Wire). Stands f.q × Stands f.d) (flops p)
  flops_stand =
      both_all (λ (f : Flop Wire). Stands f.q) (λ (f : Flop Wire). Stands f.d) (flops p) (all_map Stands (λ (f : Flop Wire). Stands f.q) q_in (λ f h. h) (flops p) qs_stand) (all_map Stands (λ (f : Flop Wire). Stands f.d) d_in (λ f h. h) (flops p) ds_stand)

  -- gates and flip-flops
  rows_are : map (renamed_gate (site_of n)) n.netlist.gates ≡ map (renamed_gate (wire_site a)) (written_netlist a.netlist p).gates
  rows_are =
      ap (map (renamed_gate (site_of n))) filled.gates ∙ map_twice (renamed_gate (site_of n)) (renamed_gate number) (written_netlist a.netlist p).gates
      ∙ same_map_at (λ g. renamed_gate (site_of n) (renamed_gate number g)) (renamed_gate (wire_site a)) (RowHolds Stands)
      (λ g r.
      let ins = map_twice (site_of n) number g.ins ∙ same_map_at (λ w. site_of n (number w)) (wire_site a) Stands (λ w e. e) g.ins r.1 in
      λ i. record { op = g.op; out = r.0 i; ins = ins i })
      (written_netlist a.netlist p).gates rows_stand

  states_are : map (renamed_flop (site_of n)) n.netlist.flops ≡ map (renamed_flop (wire_site a)) (flops p)
  states_are =
      ap (map (renamed_flop (site_of n))) filled.flops_are ∙ map_twice (renamed_flop (site_of n)) (renamed_flop number) (flops p)
      ∙ same_map_at (λ f. renamed_flop (site_of n) (renamed_flop number f)) (renamed_flop (wire_site a)) (λ (f : Flop Wire). Stands f.q × Stands f.d) (λ f r. λ i. record { q = r.0 i; d = r.1 i }) (flops p) flops_stand

  -- ports
  by_bits : (nets : List ℕ) → map (site_of n) nets ≡ map (site_of_bit n.variables) (map (name_of_net n) nets)
  by_bits nets = sym (map_twice (site_of_bit n.variables) (name_of_net n) nets)

  own_bits : (nets : List ℕ) → map (site_of_bit a.variables) (map (name_of_net a) nets) ≡ map (wire_site a) (map Kept nets)
  own_bits nets = map_twice (site_of_bit a.variables) (name_of_net a) nets ∙ sym (map_twice (wire_site a) Kept nets)

  ports_in : map (site_of n) n.netlist.inputs ≡ map (wire_site a) (written_netlist a.netlist p).inputs
  ports_in =
      by_bits n.netlist.inputs ∙ ap (map (site_of_bit n.variables)) filled.consistent.inputs ∙ (λ i. map (site_of_bit (filled.variables i)) (role_bits is_input (filled.clock i) 0 (filled.variables i)))
      ∙ inputs_are a named.consistent (inner_wires a.netlist p)
      ∙ ap (λ bits. map (site_of_bit a.variables) bits ++ scalar_site (symbol_name Test) ∷ scalar_site (symbol_name Init) ∷ []) (sym named.consistent.inputs)
      ∙ ap (λ ks. ks ++ scalar_site (symbol_name Test) ∷ scalar_site (symbol_name Init) ∷ []) (own_bits a.netlist.inputs) ∙ sym (map_join (wire_site a) (map Kept a.netlist.inputs) (Test ∷ Init ∷ []))

  ports_out : map (site_of n) n.netlist.outputs ≡ map (wire_site a) (written_netlist a.netlist p).outputs
  ports_out =
      by_bits n.netlist.outputs ∙ ap (map (site_of_bit n.variables)) filled.consistent.outputs ∙ (λ i. map (site_of_bit (filled.variables i)) (role_bits is_output (filled.clock i) 0 (filled.variables i)))
      ∙ outputs_are a named.consistent (inner_wires a.netlist p)
      ∙ ap (λ bits. map (site_of_bit a.variables) bits ++ scalar_site (symbol_name So) ∷ scalar_site (symbol_name Done) ∷ []) (sym named.consistent.outputs)
      ∙ ap (λ ks. ks ++ scalar_site (symbol_name So) ∷ scalar_site (symbol_name Done) ∷ []) (own_bits a.netlist.outputs) ∙ sym (map_join (wire_site a) (map Kept a.netlist.outputs) (So ∷ Done ∷ []))

  clock_is : option_map (site_of_bit n.variables) n.clock ≡ written_clock (option_map (site_of_bit a.variables) a.clock)
  clock_is = (λ i. option_map (site_of_bit (filled.variables i)) (filled.clock i)) ∙ clock_site a named.consistent (inner_wires a.netlist p)

  pub filled_is_written : sited n ≡ written a p
  filled_is_written =
      λ i. record { module_name = filled.module_name i; variables = filled.variables i; clock = clock_is i; netlist = record { inputs = ports_in i; outputs = ports_out i; gates = rows_are i; flops = states_are i } }
