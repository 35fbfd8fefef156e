use Rattle.std.proofs.Common.{arith, Err, ◌≡◌, ℕ, All, List, length, map, filter, ap, sym, subst, ◌∙◌}
use Rattle.bb_base.specs.Net.{Gate, Flop, renamed_gate, HasArity}
use Rattle.bb_base.specs.Named.{Named, IsNamed}
use Rattle.bb_fault.specs.Work.{Work}
use Rattle.bb_drive.specs.Nets.{bit_name}
use Rattle.bb_drive.specs.NamedOf.{kept, named_of}
use Rattle.bb_drive.specs.Within.{IsGateWithin}
use Rattle.bb_assemble.specs.Assembling.{number_for, is_kept, numbered_flop}
use Rattle.bb_drive.specs.Origins.{is_marked}
use Rattle.bb_assemble.proofs.BuiltLaws.{AreFlags, same_flags, flags_long, all_below, all_few, IsNumbered, numbered, keeps_ports, names_kept, names_count, HasParts, parts_of, assembled, clocked}
use Rattle.bb_assemble.proofs.FewLaws.{gates_fewer, flops_fewer, driven_once}
use Rattle.bb_assemble.proofs.KeptLaws.{clock_is_input}
use Rattle.bb_net.proofs.OnlyMemory.{finish_memory}
use Rattle.std.proofs.lemmas.List.Elements.{recursion_from_All}
use Rattle.bb_assemble.proofs.KeptNets.{IsFineWork}
use Rattle.bb_assemble.proofs.KeptGates.{gates_have, flops_have}
use Rattle.bb_assemble.proofs.assembly.assemble.Goals as goal

pub numbers_of-requires-clause-within : goal.numbers_of-requires-clause-within
numbers_of-requires-clause-within c = all_below c.args.vars.entries c.args.work.now c.args.bits.now c.work.inside.fresh c.requires.nets (ap (λ (w : Work). w.fresh) c.work.view_is)

pub numbers_of-requires-clause-few : goal.numbers_of-requires-clause-few
numbers_of-requires-clause-few c = all_few c.args.vars.entries c.args.work.now c.args.bits.now c.work.inside.fresh c.requires.nets (ap (λ (w : Work). w.fresh) c.work.view_is)

pub numbers_of-requires-clause-flags : goal.numbers_of-requires-clause-flags
numbers_of-requires-clause-flags c =
    let flags : AreFlags c.args.work.now c.as_slice-flags.result.now = same_flags c.args.work.now c.args.clock.now.data.items c.as_slice-flags.result.now c.requires.data c.as_slice-flags.ensures.value in
    flags_long c.args.work.now c.as_slice-flags.result.now c.work.inside.fresh flags (ap (λ (w : Work). w.fresh) c.work.view_is)

pub add_variables-requires-clause-ports : goal.add_variables-requires-clause-ports
add_variables-requires-clause-ports c =
    let flags : AreFlags c.args.work.now c.as_slice-flags.result.now = same_flags c.args.work.now c.args.clock.now.data.items c.as_slice-flags.result.now c.requires.data c.as_slice-flags.ensures.value in
    let fresh : c.work.inside.fresh ≡ c.args.work.now.fresh = ap (λ (w : Work). w.fresh) c.work.view_is in
    let numbers : IsNumbered c.args.vars.entries c.args.work.now c.as_slice-numbers.result.now c.in_ok-nets.count =
    numbered c.args.vars.entries c.args.work.now c.work.inside.fresh c.args.bits.now c.as_slice-flags.result.now c.in_ok-nets.nets.items c.as_slice-numbers.result.now c.in_ok-nets.count c.in_ok-nets.ensures c.as_slice-numbers.ensures.value fresh
    c.requires.nets flags in
    keeps_ports c.args.vars.entries c.args.work.now c.args.clock.now.bit c.as_slice-numbers.result.now c.in_ok-nets.count c.requires.driven c.requires.clocked c.requires.within c.requires.clock numbers

pub add_gates-requires-clause-names : goal.add_gates-requires-clause-names
add_gates-requires-clause-names c =
    let flags : AreFlags c.args.work.now c.as_slice-flags.result.now = same_flags c.args.work.now c.args.clock.now.data.items c.as_slice-flags.result.now c.requires.data c.as_slice-flags.ensures.value in
    let fresh : c.work.inside.fresh ≡ c.args.work.now.fresh = ap (λ (w : Work). w.fresh) c.work.view_is in
    let numbers : IsNumbered c.args.vars.entries c.args.work.now c.as_slice-numbers.result.now c.in_ok-nets.count =
    numbered c.args.vars.entries c.args.work.now c.work.inside.fresh c.args.bits.now c.as_slice-flags.result.now c.in_ok-nets.nets.items c.as_slice-numbers.result.now c.in_ok-nets.count c.in_ok-nets.ensures c.as_slice-numbers.ensures.value fresh
    c.requires.nets flags in
    let names : c.add_variables.new.builder.names ≡ map (bit_name 0 c.args.vars.entries) (kept c.args.vars.entries c.args.work.now) =
    names_kept c.args.vars.entries c.add_variables.new.builder.variables c.args.work.now c.add_variables.new.builder.names c.as_slice-numbers.result.now c.in_ok-nets.count numbers c.in_ok-add_variables.ensures.variables (c.requires.total ∙ sym numbers.long)
    c.in_ok-add_variables.ensures.stands.names in
    names_count c.args.vars.entries c.args.work.now c.add_variables.new.builder.names c.as_slice-numbers.result.now c.in_ok-nets.count numbers names

pub add_gates-requires-clause-within : goal.add_gates-requires-clause-within
add_gates-requires-clause-within c =
    let flags : AreFlags c.args.work.now c.as_slice-flags.result.now = same_flags c.args.work.now c.args.clock.now.data.items c.as_slice-flags.result.now c.requires.data c.as_slice-flags.ensures.value in
    let fresh : c.work.inside.fresh ≡ c.args.work.now.fresh = ap (λ (w : Work). w.fresh) c.work.view_is in
    let numbers : IsNumbered c.args.vars.entries c.args.work.now c.as_slice-numbers.result.now c.in_ok-nets.count =
    numbered c.args.vars.entries c.args.work.now c.work.inside.fresh c.args.bits.now c.as_slice-flags.result.now c.in_ok-nets.nets.items c.as_slice-numbers.result.now c.in_ok-nets.count c.in_ok-nets.ensures c.as_slice-numbers.ensures.value fresh
    c.requires.nets flags in
    let gates : c.deref.result.now ≡ c.args.work.now.gates = c.deref.ensures.value ∙ ap (λ (w : Work). w.gates) c.work.view_is in
    subst (λ n. All (IsGateWithin n) c.deref.result.now) (sym numbers.long) (subst (All (IsGateWithin c.args.work.now.fresh)) (sym gates) c.requires.within.gates)

pub add_gates-requires-clause-flags : goal.add_gates-requires-clause-flags
add_gates-requires-clause-flags c =
    let flags : AreFlags c.args.work.now c.as_slice-flags.result.now = same_flags c.args.work.now c.args.clock.now.data.items c.as_slice-flags.result.now c.requires.data c.as_slice-flags.ensures.value in
    let fresh : c.work.inside.fresh ≡ c.args.work.now.fresh = ap (λ (w : Work). w.fresh) c.work.view_is in
    let numbers : IsNumbered c.args.vars.entries c.args.work.now c.as_slice-numbers.result.now c.in_ok-nets.count =
    numbered c.args.vars.entries c.args.work.now c.work.inside.fresh c.args.bits.now c.as_slice-flags.result.now c.in_ok-nets.nets.items c.as_slice-numbers.result.now c.in_ok-nets.count c.in_ok-nets.ensures c.as_slice-numbers.ensures.value fresh
    c.requires.nets flags in
    flags_long c.args.work.now c.as_slice-flags.result.now (length c.as_slice-numbers.result.now) flags numbers.long

pub add_flops-requires-clause-names : goal.add_flops-requires-clause-names
add_flops-requires-clause-names c =
    let flags : AreFlags c.args.work.now c.as_slice-flags.result.now = same_flags c.args.work.now c.args.clock.now.data.items c.as_slice-flags.result.now c.requires.data c.as_slice-flags.ensures.value in
    let fresh : c.work.inside.fresh ≡ c.args.work.now.fresh = ap (λ (w : Work). w.fresh) c.work.view_is in
    let numbers : IsNumbered c.args.vars.entries c.args.work.now c.as_slice-numbers.result.now c.in_ok-nets.count =
    numbered c.args.vars.entries c.args.work.now c.work.inside.fresh c.args.bits.now c.as_slice-flags.result.now c.in_ok-nets.nets.items c.as_slice-numbers.result.now c.in_ok-nets.count c.in_ok-nets.ensures c.as_slice-numbers.ensures.value fresh
    c.requires.nets flags in
    let names : c.add_variables.new.builder.names ≡ map (bit_name 0 c.args.vars.entries) (kept c.args.vars.entries c.args.work.now) =
    names_kept c.args.vars.entries c.add_variables.new.builder.variables c.args.work.now c.add_variables.new.builder.names c.as_slice-numbers.result.now c.in_ok-nets.count numbers c.in_ok-add_variables.ensures.variables (c.requires.total ∙ sym numbers.long)
    c.in_ok-add_variables.ensures.stands.names in
    names_count c.args.vars.entries c.args.work.now c.add_variables.new.builder.names c.as_slice-numbers.result.now c.in_ok-nets.count numbers names ∙ sym (ap (λ (n : Named). length n.names) c.in_ok-add_gates.ensures)

pub finish-requires : goal.finish-requires
finish-requires c =
    let gates : List (Gate ℕ) = map (renamed_gate (number_for c.as_slice-numbers.result.now)) (filter (λ g. is_marked c.as_slice-flags.result.now g.out) c.deref.result.now) in
    let flops : List (Flop ℕ) = map (numbered_flop (number_for c.as_slice-numbers.result.now)) c.deref-2.result.now in
    let parts : HasParts c.args.name c.args.vars.entries c.args.clock.now.bit c.add_variables.new.builder.names gates flops c.add_flops.new.builder =
    parts_of c.args.name c.args.vars.entries c.args.clock.now.bit (is_kept c.as_slice-numbers.result.now c.in_ok-nets.count) gates flops c.in_ok-builder.builder c.add_variables.new.builder c.add_gates.new.builder c.add_flops.new.builder
    c.in_ok-builder.ensures c.in_ok-add_variables.ensures.variables c.in_ok-add_variables.ensures.stands c.in_ok-add_gates.ensures c.in_ok-add_flops.ensures in
    let flops_in = c.deref-2.ensures.value ∙ ap (λ (w : Work). w.flops) c.work.view_is in
    record {
      clock = clocked c.args.name c.args.vars.entries c.args.work.now c.args.clock.now.bit c.add_variables.new.builder.names gates c.deref-2.result.now (number_for c.as_slice-numbers.result.now) c.add_flops.new.builder c.requires.clocked
          c.requires.within c.requires.clock flops_in parts;
    }

pub returns-in-Ok-clause-named : goal.returns-in-Ok-clause-named
returns-in-Ok-clause-named c =
    let flags : AreFlags c.args.work.now c.as_slice-flags.result.now = same_flags c.args.work.now c.args.clock.now.data.items c.as_slice-flags.result.now c.requires.data c.as_slice-flags.ensures.value in
    let fresh : c.work.inside.fresh ≡ c.args.work.now.fresh = ap (λ (w : Work). w.fresh) c.work.view_is in
    let numbers : IsNumbered c.args.vars.entries c.args.work.now c.as_slice-numbers.result.now c.in_ok-nets.count =
    numbered c.args.vars.entries c.args.work.now c.work.inside.fresh c.args.bits.now c.as_slice-flags.result.now c.in_ok-nets.nets.items c.as_slice-numbers.result.now c.in_ok-nets.count c.in_ok-nets.ensures c.as_slice-numbers.ensures.value fresh
    c.requires.nets flags in
    let fine : IsFineWork c.args.vars.entries c.args.work.now = record { drivers = c.requires.driven; clocks = c.requires.clocked; within = c.requires.within; total = c.requires.total } in
    let same : c.add_flops.new.builder ≡ named_of c.args.name c.args.vars.entries c.args.work.now =
    assembled c.args.name c.args.vars.entries c.args.work.now c.args.clock.now.bit c.as_slice-flags.result.now c.as_slice-numbers.result.now c.in_ok-nets.count c.deref.result.now c.deref-2.result.now c.in_ok-builder.builder
    c.add_variables.new.builder c.add_gates.new.builder c.add_flops.new.builder fine c.requires.clock flags numbers (c.deref.ensures.value ∙ ap (λ (w : Work). w.gates) c.work.view_is)
    (c.deref-2.ensures.value ∙ ap (λ (w : Work). w.flops) c.work.view_is) c.in_ok-builder.ensures c.in_ok-add_variables.ensures.variables c.in_ok-add_variables.ensures.stands c.in_ok-add_gates.ensures c.in_ok-add_flops.ensures
    c.in-Ok.ensures.fits in
    c.in-Ok.ensures.named ∙ same

pub returns-in-Ok-clause-valid : goal.returns-in-Ok-clause-valid
returns-in-Ok-clause-valid c =
    let flags : AreFlags c.args.work.now c.as_slice-flags.result.now = same_flags c.args.work.now c.args.clock.now.data.items c.as_slice-flags.result.now c.requires.data c.as_slice-flags.ensures.value in
    let fresh : c.work.inside.fresh ≡ c.args.work.now.fresh = ap (λ (w : Work). w.fresh) c.work.view_is in
    let numbers : IsNumbered c.args.vars.entries c.args.work.now c.as_slice-numbers.result.now c.in_ok-nets.count =
    numbered c.args.vars.entries c.args.work.now c.work.inside.fresh c.args.bits.now c.as_slice-flags.result.now c.in_ok-nets.nets.items c.as_slice-numbers.result.now c.in_ok-nets.count c.in_ok-nets.ensures c.as_slice-numbers.ensures.value fresh
    c.requires.nets flags in
    let fine : IsFineWork c.args.vars.entries c.args.work.now = record { drivers = c.requires.driven; clocks = c.requires.clocked; within = c.requires.within; total = c.requires.total } in
    let same : c.add_flops.new.builder ≡ named_of c.args.name c.args.vars.entries c.args.work.now =
    assembled c.args.name c.args.vars.entries c.args.work.now c.args.clock.now.bit c.as_slice-flags.result.now c.as_slice-numbers.result.now c.in_ok-nets.count c.deref.result.now c.deref-2.result.now c.in_ok-builder.builder
    c.add_variables.new.builder c.add_gates.new.builder c.add_flops.new.builder fine c.requires.clock flags numbers (c.deref.ensures.value ∙ ap (λ (w : Work). w.gates) c.work.view_is)
    (c.deref-2.ensures.value ∙ ap (λ (w : Work). w.flops) c.work.view_is) c.in_ok-builder.ensures c.in_ok-add_variables.ensures.variables c.in_ok-add_variables.ensures.stands c.in_ok-add_gates.ensures c.in_ok-add_flops.ensures
    c.in-Ok.ensures.fits in
    subst IsNamed same c.in-Ok.ensures.valid

pub only_memory-requires : goal.only_memory-requires
only_memory-requires c =
    let flags : AreFlags c.args.work.now c.as_slice-flags.result.now = same_flags c.args.work.now c.args.clock.now.data.items c.as_slice-flags.result.now c.requires.data c.as_slice-flags.ensures.value in
    let fresh : c.work.inside.fresh ≡ c.args.work.now.fresh = ap (λ (w : Work). w.fresh) c.work.view_is in
    let numbers : IsNumbered c.args.vars.entries c.args.work.now c.as_slice-numbers.result.now c.in_ok-nets.count =
    numbered c.args.vars.entries c.args.work.now c.work.inside.fresh c.args.bits.now c.as_slice-flags.result.now c.in_ok-nets.nets.items c.as_slice-numbers.result.now c.in_ok-nets.count c.in_ok-nets.ensures c.as_slice-numbers.ensures.value fresh
    c.requires.nets flags in
    let fine : IsFineWork c.args.vars.entries c.args.work.now = record { drivers = c.requires.driven; clocks = c.requires.clocked; within = c.requires.within; total = c.requires.total } in
    let same : c.add_flops.new.builder ≡ named_of c.args.name c.args.vars.entries c.args.work.now =
    assembled c.args.name c.args.vars.entries c.args.work.now c.args.clock.now.bit c.as_slice-flags.result.now c.as_slice-numbers.result.now c.in_ok-nets.count c.deref.result.now c.deref-2.result.now c.in_ok-builder.builder
    c.add_variables.new.builder c.add_gates.new.builder c.add_flops.new.builder fine c.requires.clock flags numbers (c.deref.ensures.value ∙ ap (λ (w : Work). w.gates) c.work.view_is)
    (c.deref-2.ensures.value ∙ ap (λ (w : Work). w.flops) c.work.view_is) c.in_ok-builder.ensures c.in_ok-add_variables.ensures.variables c.in_ok-add_variables.ensures.stands c.in_ok-add_gates.ensures c.in_ok-add_flops.ensures
    c.in-Err.ensures.fits in
    let once = driven_once c.args.vars.entries c.args.work.now fine c.args.name c.add_flops.new.builder same in
    let two = c.in-Err.ensures.two in
    let none = c.in-Err.ensures.none in
    finish_memory c.in-Err.fault c.in-Err.ensures.only (λ net e. let first = two net (ap Err e) in omega (arith, first.here, once net first.within))
    (λ net e. let first = none net (ap Err e) in omega (arith, first.here, once net first.within))

pub add_gates-requires-clause-nets : goal.add_gates-requires-clause-nets
add_gates-requires-clause-nets c =
    let flags : AreFlags c.args.work.now c.as_slice-flags.result.now = same_flags c.args.work.now c.args.clock.now.data.items c.as_slice-flags.result.now c.requires.data c.as_slice-flags.ensures.value in
    let fresh : c.work.inside.fresh ≡ c.args.work.now.fresh = ap (λ (w : Work). w.fresh) c.work.view_is in
    let numbers : IsNumbered c.args.vars.entries c.args.work.now c.as_slice-numbers.result.now c.in_ok-nets.count =
    numbered c.args.vars.entries c.args.work.now c.work.inside.fresh c.args.bits.now c.as_slice-flags.result.now c.in_ok-nets.nets.items c.as_slice-numbers.result.now c.in_ok-nets.count c.in_ok-nets.ensures c.as_slice-numbers.ensures.value fresh
    c.requires.nets flags in
    let fine : IsFineWork c.args.vars.entries c.args.work.now = record { drivers = c.requires.driven; clocks = c.requires.clocked; within = c.requires.within; total = c.requires.total } in
    gates_have c.args.vars.entries c.args.work.now fine (recursion_from_All HasArity c.args.work.now.gates c.requires.arities) c.as_slice-flags.result.now c.as_slice-numbers.result.now c.in_ok-nets.count c.deref.result.now numbers flags
    (c.deref.ensures.value ∙ ap (λ (w : Work). w.gates) c.work.view_is)

pub add_gates-requires-clause-arities : goal.add_gates-requires-clause-arities
add_gates-requires-clause-arities c = subst (All HasArity) (sym (c.deref.ensures.value ∙ ap (λ (w : Work). w.gates) c.work.view_is)) c.requires.arities

pub add_flops-requires-clause-nets : goal.add_flops-requires-clause-nets
add_flops-requires-clause-nets c =
    let flags : AreFlags c.args.work.now c.as_slice-flags.result.now = same_flags c.args.work.now c.args.clock.now.data.items c.as_slice-flags.result.now c.requires.data c.as_slice-flags.ensures.value in
    let fresh : c.work.inside.fresh ≡ c.args.work.now.fresh = ap (λ (w : Work). w.fresh) c.work.view_is in
    let numbers : IsNumbered c.args.vars.entries c.args.work.now c.as_slice-numbers.result.now c.in_ok-nets.count =
    numbered c.args.vars.entries c.args.work.now c.work.inside.fresh c.args.bits.now c.as_slice-flags.result.now c.in_ok-nets.nets.items c.as_slice-numbers.result.now c.in_ok-nets.count c.in_ok-nets.ensures c.as_slice-numbers.ensures.value fresh
    c.requires.nets flags in
    let fine : IsFineWork c.args.vars.entries c.args.work.now = record { drivers = c.requires.driven; clocks = c.requires.clocked; within = c.requires.within; total = c.requires.total } in
    flops_have c.args.vars.entries c.args.work.now fine c.as_slice-numbers.result.now c.in_ok-nets.count c.deref-2.result.now numbers (c.deref-2.ensures.value ∙ ap (λ (w : Work). w.flops) c.work.view_is)

pub add_variables-requires-clause-total : goal.add_variables-requires-clause-total
add_variables-requires-clause-total c =
    let flags : AreFlags c.args.work.now c.as_slice-flags.result.now = same_flags c.args.work.now c.args.clock.now.data.items c.as_slice-flags.result.now c.requires.data c.as_slice-flags.ensures.value in
    let fresh : c.work.inside.fresh ≡ c.args.work.now.fresh = ap (λ (w : Work). w.fresh) c.work.view_is in
    let numbers : IsNumbered c.args.vars.entries c.args.work.now c.as_slice-numbers.result.now c.in_ok-nets.count =
    numbered c.args.vars.entries c.args.work.now c.work.inside.fresh c.args.bits.now c.as_slice-flags.result.now c.in_ok-nets.nets.items c.as_slice-numbers.result.now c.in_ok-nets.count c.in_ok-nets.ensures c.as_slice-numbers.ensures.value fresh
    c.requires.nets flags in
    c.requires.total ∙ sym numbers.long

pub add_variables-requires-clause-room : goal.add_variables-requires-clause-room
add_variables-requires-clause-room c =
    let flags : AreFlags c.args.work.now c.as_slice-flags.result.now = same_flags c.args.work.now c.args.clock.now.data.items c.as_slice-flags.result.now c.requires.data c.as_slice-flags.ensures.value in
    let fresh : c.work.inside.fresh ≡ c.args.work.now.fresh = ap (λ (w : Work). w.fresh) c.work.view_is in
    let numbers : IsNumbered c.args.vars.entries c.args.work.now c.as_slice-numbers.result.now c.in_ok-nets.count =
    numbered c.args.vars.entries c.args.work.now c.work.inside.fresh c.args.bits.now c.as_slice-flags.result.now c.in_ok-nets.nets.items c.as_slice-numbers.result.now c.in_ok-nets.count c.in_ok-nets.ensures c.as_slice-numbers.ensures.value fresh
    c.requires.nets flags in
    omega (arith, numbers.long, c.requires.room)

pub add_variables-requires-clause-clock : goal.add_variables-requires-clause-clock
add_variables-requires-clause-clock c = λ b is. clock_is_input c.args.vars.entries c.args.work.now b c.requires.clocked c.requires.within (sym c.requires.clock ∙ is)

pub add_gates-requires-clause-few : goal.add_gates-requires-clause-few
add_gates-requires-clause-few c =
    let fine : IsFineWork c.args.vars.entries c.args.work.now = record { drivers = c.requires.driven; clocks = c.requires.clocked; within = c.requires.within; total = c.requires.total } in
    omega (arith, gates_fewer c.args.vars.entries c.args.work.now fine, c.requires.room, ap length (c.deref.ensures.value ∙ ap (λ (w : Work). w.gates) c.work.view_is))

pub add_flops-requires-clause-few : goal.add_flops-requires-clause-few
add_flops-requires-clause-few c =
    let fine : IsFineWork c.args.vars.entries c.args.work.now = record { drivers = c.requires.driven; clocks = c.requires.clocked; within = c.requires.within; total = c.requires.total } in
    omega (arith, flops_fewer c.args.vars.entries c.args.work.now fine, c.requires.room, ap length (c.deref-2.ensures.value ∙ ap (λ (w : Work). w.flops) c.work.view_is))
