use Rattle.std.proofs.Common.{◌≡◌, ℕ, ◌++◌, ◌∷◌, [], ◌<◌, ◌==◌, if◌then◌else◌, bit_xor, refl, sym, ap, ◌∙◌, subst, length, get_or}
use Rattle.arrayvec.proofs.ArrayVecLemmas.{items-with_items}
use Rattle.std.specs.Int.{bit_at}
use Rattle.bb_base.specs.Bits.{from_bits}
use Rattle.bb_base.specs.Parity.{code_word}
use Rattle.bb_base.specs.Span.{combined}
use Rattle.bb_base.specs.Dual.{AreLeastDuals}
use Rattle.bb_gf2.proofs.Rows.{dependence_found, duals_made}
use Rattle.bb_gf2.proofs.vectors.add_row.Goals as goal

pub returns-then-rest-eq0-clause-err : goal.returns-then-rest-eq0-clause-err
returns-then-rest-eq0-clause-err c =
    dependence_found c.args.rows.now c.args.duals.now.items c.args.row c.code_mask-subset.result c.combined.result c.requires.duals c.requires.room
    (c.code_mask-subset.ensures ∙ ap (λ ds. from_bits (code_word ds c.args.row)) c.as_slice.ensures.value) c.combined.ensures c.if-rest-eq0.true

pub returns-clause-ok : goal.returns-clause-ok
returns-clause-ok c =
    let ds = c.args.duals.now.items in
    let dual = bit_xor c.lowest_one-lowest.result c.combined-2.result in
    let vectors : c.as_mut_slice.result.now ≡ ds = c.as_mut_slice.ensures.value in
    let long : length c.add_where.new.vectors ≡ length ds = c.add_where.auto.vectors ∙ ap length vectors in
    let each = subst (λ xs. (i : ℕ) → i < length xs → get_or c.add_where.new.vectors i 0 ≡ (if bit_at c.code_mask-subset.result i == 1 then bit_xor (get_or xs i 0) dual else get_or xs i 0)) vectors c.add_where.ensures in
    let made = duals_made c.args.rows.now ds c.args.row c.code_mask-subset.result c.combined.result c.lowest_one-lowest.result c.code_mask.result c.combined-2.result dual c.add_where.new.vectors
    c.requires.duals (c.code_mask-subset.ensures ∙ ap (λ ds. from_bits (code_word ds c.args.row)) c.as_slice.ensures.value) c.combined.ensures
    c.lowest_one-lowest.ensures.coded c.lowest_one-lowest.ensures.least c.code_mask.ensures (c.combined-2.ensures ∙ ap (combined c.code_mask.result) c.as_slice-2.ensures.value) refl
    long each in
    let pushed = c.push.ensures.items ∙ ap (λ xs. xs ++ dual ∷ []) (items-with_items (record { items = ds }) c.add_where.new.vectors long) in
    subst (AreLeastDuals (c.args.rows.now ++ c.args.row ∷ [])) (sym pushed) made
