use Rattle.std.proofs.Common.{◌≡◌, ◌≤◌, ◌^◌, ◌*◌, ◌+◌, ◌%◌, min, map, take, sym, ap, ◌∙◌, arith, ℕ}
use Rattle.std.proofs.Math.Nat.{pow-le-pow_right}
use Rattle.bb_code.specs.Marks.{sizes}
use Rattle.bb_code.proofs.Marking.{room_more, read_more}
use Rattle.bb_code.proofs.marks.room_for.Goals as goal

pub loop-rows-init : goal.loop-rows-init
loop-rows-init c =
    let grown : 2 ^ 1 ≤ 2 ^ c.args.degree = pow-le-pow_right (omega arith) c.requires.least in
    omega (arith, grown)

-- a power of two that fits is what the shift gives
shifted : (k : ℕ) → k ≤ 31 → 1 * 2 ^ k % 18446744073709551616 ≡ 2 ^ k
shifted k le =
    let grown : 2 ^ k ≤ 2 ^ 31 = pow-le-pow_right (omega arith) le in
    omega (arith, grown)

pub loop-rows-preserved : goal.loop-rows-preserved
loop-rows-preserved c =
    let spans = c.args.spans.now in
    let i = c.loop-rows.rows-index in
    let long = c.len.ensures.value in
    let fits : c.len.result ≤ 16 = c.len.ensures.fits in
    let most = shifted c.args.degree c.requires.most in
    let size = shifted c.len.result (omega (arith, fits)) ∙ ap (λ n. 2 ^ n) long in
    let room = c.min-room.ensures ∙ (λ j. min (most j) (c.loop-rows.room + size j)) in
    room_more (2 ^ c.args.degree) c.loop-rows.room c.min-room.result (map (λ rows. rows.items) (take i spans)) c.rows-item.result.items c.loop-rows.invariant room
    ∙ ap (λ ys. min (2 ^ c.args.degree) (2 + sizes ys)) (sym (read_more (λ rows. rows.items) spans i c.rows-item.result c.loop-rows-test.true c.rows-item.is))
