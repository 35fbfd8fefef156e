use Rattle.std.proofs.Common.{length, ◌≡◌, ◌++◌, ◌∷◌, List, ap, sym, ◌∙◌, arith}
use Rattle.bb_base.specs.Variables.{Entry}
use Rattle.bb_assemble.specs.Assembling.{is_kept}
use Rattle.bb_assemble.proofs.RoomLaws.{next_inside, clock_role, names_few, name_fresh}
use Rattle.bb_assemble.proofs.VariableSteps.{next_entry, ports_before, clock_so_far, names_so_far, port_bit, next_stands, next_count, next_split}
use Rattle.bb_assemble.proofs.assembly.add_variables.Goals as goal

pub width_of-width-requires : goal.width_of-width-requires
width_of-width-requires c =
    let now : List Entry = c.loop-name.builder.variables in
    let e : Entry = (c.in-Some.name, c.in-Some.variable) in
    (next_entry c.args.vars.entries now c.next.new.self e (ap (λ vs. now ++ vs) (sym c.in-Some.ensures.steps) ∙ c.loop-name.invariant.split) c.requires.entries).range

pub add_variable-requires-clause-range : goal.add_variable-requires-clause-range
add_variable-requires-clause-range c =
    let now : List Entry = c.loop-name.builder.variables in
    let e : Entry = (c.in-Some.name, c.in-Some.variable) in
    (next_entry c.args.vars.entries now c.next.new.self e (ap (λ vs. now ++ vs) (sym c.in-Some.ensures.steps) ∙ c.loop-name.invariant.split) c.requires.entries).range

pub add_variable-requires-clause-ports_first : goal.add_variable-requires-clause-ports_first
add_variable-requires-clause-ports_first c =
    let now : List Entry = c.loop-name.builder.variables in
    let e : Entry = (c.in-Some.name, c.in-Some.variable) in
    ports_before c.args.vars.entries now c.next.new.self e (ap (λ vs. now ++ vs) (sym c.in-Some.ensures.steps) ∙ c.loop-name.invariant.split) c.requires.ports_first

pub add_variable-requires-clause-clock_before : goal.add_variable-requires-clause-clock_before
add_variable-requires-clause-clock_before c =
    clock_so_far c.args.vars.entries c.loop-name.builder.variables c.loop-name.name-iterator c.args.clock c.loop-name.builder.clock c.loop-name.number c.loop-name.invariant.split c.loop-name.invariant.number c.loop-name.invariant.stands.clock_is

pub add_variable-requires-clause-before : goal.add_variable-requires-clause-before
add_variable-requires-clause-before c =
    names_so_far c.args.vars.entries c.loop-name.builder.variables c.loop-name.name-iterator (is_kept c.args.numbers.now c.args.count) c.loop-name.builder.names c.loop-name.number c.loop-name.invariant.split c.loop-name.invariant.number
    c.loop-name.invariant.stands.names

pub add_variable-requires-clause-port : goal.add_variable-requires-clause-port
add_variable-requires-clause-port c = λ port p less.
    let now : List Entry = c.loop-name.builder.variables in
    let e : Entry = (c.in-Some.name, c.in-Some.variable) in
    let inside = next_inside c.args.vars.entries now c.next.new.self e c.loop-name.number c.loop-name.first c.width_of-width.result (length c.args.numbers.now) (ap (λ vs. now ++ vs) (sym c.in-Some.ensures.steps) ∙ c.loop-name.invariant.split)
    c.loop-name.invariant.number c.loop-name.invariant.first c.width_of-width.ensures.width c.requires.total in
    port_bit c.args.vars.entries now c.next.new.self e c.args.clock c.place_in-place.result (is_kept c.args.numbers.now c.args.count) c.loop-name.first c.width_of-width.result _ p
    (ap (λ vs. now ++ vs) (sym c.in-Some.ensures.steps) ∙ c.loop-name.invariant.split) c.loop-name.invariant.first c.width_of-width.ensures.width c.requires.ports c.place_in-place.ensures port inside.0 less

pub loop-name-preserved : goal.loop-name-preserved
loop-name-preserved c =
    let now : List Entry = c.loop-name.builder.variables in
    let e : Entry = (c.in-Some.name, c.in-Some.variable) in
    let split : now ++ e ∷ c.next.new.self ≡ c.args.vars.entries = ap (λ vs. now ++ vs) (sym c.in-Some.ensures.steps) ∙ c.loop-name.invariant.split in
    let counts = next_count c.loop-name.builder c.add_variable.new.builder e c.place_in-place.result _ c.loop-name.number c.loop-name.first c.width_of-width.result c.loop-name.invariant.number c.loop-name.invariant.first
    c.width_of-width.ensures.width c.in_ok-add_variable.ensures in
    record {
      split = next_split c.args.vars.entries now c.next.new.self c.add_variable.new.builder.variables e split c.in_ok-add_variable.ensures.variables;
      number = omega (arith, counts.0);
      first = counts.1;
      stands = next_stands c.args.builder.now c.loop-name.builder c.add_variable.new.builder c.args.vars.entries c.next.new.self e c.args.clock c.place_in-place.result (is_kept c.args.numbers.now c.args.count) c.loop-name.number c.loop-name.first
          c.width_of-width.result split c.loop-name.invariant.number c.loop-name.invariant.first c.width_of-width.ensures.width c.place_in-place.ensures c.loop-name.invariant.stands c.in_ok-add_variable.ensures;
    }

pub add_variable-requires-clause-few : goal.add_variable-requires-clause-few
add_variable-requires-clause-few c =
    let now : List Entry = c.loop-name.builder.variables in
    let e : Entry = (c.in-Some.name, c.in-Some.variable) in
    let inside = next_inside c.args.vars.entries now c.next.new.self e c.loop-name.number c.loop-name.first c.width_of-width.result (length c.args.numbers.now) (ap (λ vs. now ++ vs) (sym c.in-Some.ensures.steps) ∙ c.loop-name.invariant.split)
    c.loop-name.invariant.number c.loop-name.invariant.first c.width_of-width.ensures.width c.requires.total in
    omega (arith, inside.1, c.requires.room)

pub add_variable-requires-clause-within : goal.add_variable-requires-clause-within
add_variable-requires-clause-within c =
    let now : List Entry = c.loop-name.builder.variables in
    let e : Entry = (c.in-Some.name, c.in-Some.variable) in
    let inside = next_inside c.args.vars.entries now c.next.new.self e c.loop-name.number c.loop-name.first c.width_of-width.result (length c.args.numbers.now) (ap (λ vs. now ++ vs) (sym c.in-Some.ensures.steps) ∙ c.loop-name.invariant.split)
    c.loop-name.invariant.number c.loop-name.invariant.first c.width_of-width.ensures.width c.requires.total in
    inside.0

pub add_variable-requires-clause-fresh : goal.add_variable-requires-clause-fresh
add_variable-requires-clause-fresh c =
    let now : List Entry = c.loop-name.builder.variables in
    let e : Entry = (c.in-Some.name, c.in-Some.variable) in
    name_fresh c.loop-name.builder c.args.vars.entries c.next.new.self e (ap (λ vs. now ++ vs) (sym c.in-Some.ensures.steps) ∙ c.loop-name.invariant.split) c.len-variables.ensures.unique

pub add_variable-requires-clause-input : goal.add_variable-requires-clause-input
add_variable-requires-clause-input c =
    let now : List Entry = c.loop-name.builder.variables in
    let e : Entry = (c.in-Some.name, c.in-Some.variable) in
    clock_role c.args.vars.entries now c.next.new.self e c.args.clock c.place_in-place.result c.loop-name.first c.width_of-width.result (ap (λ vs. now ++ vs) (sym c.in-Some.ensures.steps) ∙ c.loop-name.invariant.split)
    c.loop-name.invariant.first c.width_of-width.ensures.width c.place_in-place.ensures c.requires.clock

pub add_variable-requires-clause-names : goal.add_variable-requires-clause-names
add_variable-requires-clause-names c =
    names_few c.args.vars.entries c.loop-name.builder.variables (is_kept c.args.numbers.now c.args.count) c.loop-name.builder.names c.loop-name.first c.loop-name.invariant.stands.names c.loop-name.invariant.first

pub overflow_add-number : goal.overflow_add-number
overflow_add-number c =
    let now : List Entry = c.loop-name.builder.variables in
    let e : Entry = (c.in-Some.name, c.in-Some.variable) in
    let inside = next_inside c.args.vars.entries now c.next.new.self e c.loop-name.number c.loop-name.first c.width_of-width.result (length c.args.numbers.now) (ap (λ vs. now ++ vs) (sym c.in-Some.ensures.steps) ∙ c.loop-name.invariant.split)
    c.loop-name.invariant.number c.loop-name.invariant.first c.width_of-width.ensures.width c.requires.total in
    omega (arith, inside.1, c.requires.room)

pub overflow_add-first : goal.overflow_add-first
overflow_add-first c =
    let now : List Entry = c.loop-name.builder.variables in
    let e : Entry = (c.in-Some.name, c.in-Some.variable) in
    let inside = next_inside c.args.vars.entries now c.next.new.self e c.loop-name.number c.loop-name.first c.width_of-width.result (length c.args.numbers.now) (ap (λ vs. now ++ vs) (sym c.in-Some.ensures.steps) ∙ c.loop-name.invariant.split)
    c.loop-name.invariant.number c.loop-name.invariant.first c.width_of-width.ensures.width c.requires.total in
    omega (arith, inside.0, c.requires.room)
