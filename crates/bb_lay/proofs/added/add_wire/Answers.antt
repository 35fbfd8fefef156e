use Rattle.std.proofs.Common.{arith, sym, subst, refl, ◌++◌, ◌∷◌, []}
use Rattle.bb_base.specs.declared.variable.Role.TheVariants.{Wire as WireRole}
use Rattle.bb_lay.specs.Laying.{AddsAll, CanStand, scalar_bits}
use Rattle.bb_lay.proofs.Scalars.{scalar, scalar_laid}
use Rattle.bb_lay.proofs.OwnWires.{wire_declared, wire_room, wire_adds}
use Rattle.bb_lay.proofs.added.add_wire.Goals as goal

pub add_bit-requires-clause-room : goal.add_bit-requires-clause-room
add_bit-requires-clause-room c =
    let old = c.args.builder.now in
    let mid = c.declare.new.builder in
    let name = c.in_ok-name.name in
    let adds = wire_declared old mid name (scalar WireRole) refl c.in_ok-number.ensures.added in
    let can = subst (λ n. CanStand (old.variables ++ (n, scalar WireRole) ∷ [])) (sym c.in_ok-name.ensures) c.requires.stand in
    let room = wire_room old mid name (scalar WireRole) adds c.requires.laid 1 refl can in
    omega (arith, room)

pub returns-clause-laid : goal.returns-clause-laid
returns-clause-laid c =
    let old = c.args.builder.now in
    let mid = c.declare.new.builder in
    let name = c.in_ok-name.name in
    let adds = wire_declared old mid name (scalar WireRole) refl c.in_ok-number.ensures.added in
    let own = wire_adds old mid name (scalar WireRole) adds c.requires.laid c.add_bit.new.builder (scalar_bits c.in_ok-number.number 1) c.in_ok-add_bit.ensures in
    scalar_laid old c.add_bit.new.builder name WireRole c.requires.laid (subst (λ n. AddsAll old c.add_bit.new.builder ((name, scalar WireRole) ∷ []) (scalar_bits n 1) old.clock) c.in_ok-number.ensures.number own)
