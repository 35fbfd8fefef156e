use Rattle.std.proofs.Common.{◌≡◌, ◌∷◌, List, Some, slice_get, length, map, take, refl, sym, subst}
use Rattle.std.proofs.lemmas.Option.{slice_get_read}
use Rattle.std.specs.List.{AllByRecursion}
use Rattle.bb_base.specs.Net.{Gate, renamed_gate}
use Rattle.bb_base.specs.Named.{Named}
use Rattle.bb_terms.specs.declared.wire.Wire.{Wire}
use Rattle.bb_terms.specs.Numbering.{net_at, HasWire}
use Rattle.bb_ctl.proofs.NetLemmas.{all_still_stand, row_stands, row_added}
use Rattle.bb_ctl.proofs.numbering.add_rows.Goals as goal

pub add_row-requires-clause-stands : goal.add_row-requires-clause-stands
add_row-requires-clause-stands c =
    let b : Named = c.args.builder.now in
    let rows : List (Gate Wire) = c.args.rows.now in
    let row : Gate Wire = c.row-item.result in
    let i = c.rows.row-index in
    let at : slice_get rows i ≡ Some row = slice_get_read rows (length rows) i row refl c.rows-test.true c.row-item.is in
    let stand = all_still_stand b (map (renamed_gate (net_at b c.args.kept.now)) (take i rows)) c.args.kept.now (row.out ∷ row.ins) (row_stands (HasWire b c.args.kept.now) rows i row c.requires.stands at) in
    subst (λ n. AllByRecursion (HasWire n c.args.kept.now) (row.out ∷ row.ins)) (sym c.rows.invariant) stand

pub rows-preserved : goal.rows-preserved
rows-preserved c =
    let rows : List (Gate Wire) = c.args.rows.now in
    let row : Gate Wire = c.row-item.result in
    let i = c.rows.row-index in
    let at : slice_get rows i ≡ Some row = slice_get_read rows (length rows) i row refl c.rows-test.true c.row-item.is in
    row_added c.args.builder.now c.rows.builder c.add_row.new.builder c.args.kept.now rows i row at c.rows.invariant c.in_ok-add_row.ensures
