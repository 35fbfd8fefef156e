use Rattle.std.proofs.Common.{◌≡◌, ◌+◌, subst, map, drop, Some, slice_get, slice_index_or}
use Rattle.std.proofs.lemmas.Option.{slice_get-get_or}
use Rattle.bb_terms.specs.declared.wire.Wire.{Wire}
use Rattle.bb_terms.specs.declared.wire.Wire.TheVariants.{Kept}
use Rattle.bb_written.specs.Written.{inner_entry}
use Rattle.bb_lay.proofs.Clocks.{drop_pop}
use Rattle.bb_lay.proofs.Scalars.{GoesOn, scalar_can}
use Rattle.bb_lay.proofs.added.add_wires.Goals as goal

pub add_wire-requires-clause-stand : goal.add_wire-requires-clause-stand
add_wire-requires-clause-stand c =
    let fn = c.args.builder.now in
    let ws = c.args.wires.now in
    let i = c.wires.wire-index in
    let w : Wire = slice_index_or ws i (Kept 0) in
    let at : slice_get ws i ≡ Some w = slice_get-get_or ws i (Kept 0) c.wires-test.true in
    scalar_can fn (map inner_entry ws) c.wires.builder (inner_entry w) (map inner_entry (drop (i + 1) ws)) (subst (λ ks. GoesOn fn (map inner_entry ws) c.wires.builder (map inner_entry ks)) (drop_pop ws i w at) c.wires.invariant) c.requires.stand
