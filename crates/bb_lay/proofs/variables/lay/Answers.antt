use Rattle.std.proofs.Common.{arith, ◌≡◌, ◌≢◌, ◌++◌, ap, sym, subst, length, map, drop, All, Contains, ◌∙◌, ◌+◌, slice_get, slice_index, Some}
use Rattle.std.specs.Option.{ForSome}
use Rattle.bb_base.specs.Variables.{IsBit, bit_at, ports_of}
use Rattle.bb_base.specs.Named.{Named, name_of_net}
use Rattle.bb_written.specs.Written.{added_clock, added_ports, inner_entry}
use Rattle.bb_lay.specs.Laying.{AddsAll, IsLaid, new_number, scalar_bits, laid_variables, laid_bits, wires_from, clock_or}
use Rattle.bb_lay.proofs.KeptNets.{bits_moved, all_stand, none_clock}
use Rattle.bb_lay.proofs.LaidLemmas.{few_variables, laid_names, laid_room}
use Rattle.bb_lay.proofs.variables.lay.Goals as goal

pub kept_nets-requires-clause-few : goal.kept_nets-requires-clause-few
kept_nets-requires-clause-few c = omega (arith, few_variables c.args.named.now c.args.wires.now c.requires.stand, c.count_added.ensures.count)

pub kept_nets-requires-clause-bits : goal.kept_nets-requires-clause-bits
kept_nets-requires-clause-bits c =
    let a = c.args.named.now in
    let b = c.lay_variables.new.builder in
    let ws = c.args.wires.now in
    let is = laid_names a b c.args.builder.now ws c.requires.started c.in_ok-lay_variables.ensures.adds in
    subst (λ k. All (λ bit. IsBit b.variables (bit_at (new_number (ports_of a.variables) k bit.variable) bit.place)) a.names) (sym c.count_added.ensures.count)
    (bits_moved a b c.count_added.ensures.named.consistent (added_clock a.clock ++ added_ports) (map inner_entry ws) (scalar_bits (ports_of a.variables + length (added_clock a.clock)) 4) (scalar_bits (wires_from a + length (drop (ports_of a.variables) a.variables)) (length ws)) is.0 is.1)

pub kept_nets-requires-clause-no_clock : goal.kept_nets-requires-clause-no_clock
kept_nets-requires-clause-no_clock c =
    let a = c.args.named.now in
    let b = c.lay_variables.new.builder in
    let ws = c.args.wires.now in
    let is = laid_names a b c.args.builder.now ws c.requires.started c.in_ok-lay_variables.ensures.adds in
    subst (λ k. ForSome b.clock (λ x. All (λ bit. bit_at (new_number (ports_of a.variables) k bit.variable) bit.place ≢ x) a.names)) (sym c.count_added.ensures.count)
    (none_clock a b c.count_added.ensures.named.consistent (added_clock a.clock ++ added_ports) (map inner_entry ws) (scalar_bits (ports_of a.variables + length (added_clock a.clock)) 4) (scalar_bits (wires_from a + length (drop (ports_of a.variables) a.variables)) (length ws)) is.0 is.1 c.in_ok-lay_variables.ensures.laid)

pub kept_nets-requires-clause-stand : goal.kept_nets-requires-clause-stand
kept_nets-requires-clause-stand c =
    let a = c.args.named.now in
    let b = c.lay_variables.new.builder in
    let ws = c.args.wires.now in
    let is = laid_names a b c.args.builder.now ws c.requires.started c.in_ok-lay_variables.ensures.adds in
    subst (λ k. All (λ bit. Contains b.names (bit_at (new_number (ports_of a.variables) k bit.variable) bit.place)) a.names) (sym c.count_added.ensures.count)
    (all_stand a b c.count_added.ensures.named.consistent (added_clock a.clock ++ added_ports) (map inner_entry ws) (scalar_bits (ports_of a.variables + length (added_clock a.clock)) 4) (scalar_bits (wires_from a + length (drop (ports_of a.variables) a.variables)) (length ws)) is.0 is.1)

pub kept_nets-requires-clause-room : goal.kept_nets-requires-clause-room
kept_nets-requires-clause-room c = laid_room c.args.named.now c.lay_variables.new.builder c.args.builder.now c.args.wires.now c.requires.started c.requires.stand c.in_ok-lay_variables.ensures.adds c.in_ok-lay_variables.ensures.laid

pub returns-clause-adds : goal.returns-clause-adds
returns-clause-adds c =
    subst (λ b. AddsAll c.args.builder.now b (laid_variables c.args.named.now c.args.wires.now) (laid_bits c.args.named.now c.args.wires.now) (clock_or c.args.named.now.clock (ports_of c.args.named.now.variables))) (sym c.in_ok-kept.ensures.same) c.in_ok-lay_variables.ensures.adds

pub returns-clause-laid : goal.returns-clause-laid
returns-clause-laid c = subst IsLaid (sym c.in_ok-kept.ensures.same) c.in_ok-lay_variables.ensures.laid

pub returns-clause-kept : goal.returns-clause-kept
returns-clause-kept c =
    let a = c.args.named.now in
    let same : c.kept_nets.new.builder ≡ c.lay_variables.new.builder = c.in_ok-kept.ensures.same in
    record {
      long = c.in_ok-kept.ensures.long;
      each = λ net less. ap (λ (b : Named). slice_get b.names (slice_index c.in_ok-kept.kept.items net)) same ∙ c.in_ok-kept.ensures.nets net less
          ∙ ap (λ k. Some (bit_at (new_number (ports_of a.variables) k (name_of_net a net).variable) (name_of_net a net).place)) c.count_added.ensures.count;
    }
