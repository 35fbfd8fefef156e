use Rattle.std.proofs.Common.{◌≡◌, ◌<◌, ◌≤◌, ℕ, List, length, take, ap, arith}
use Rattle.std.proofs.lemmas.List.{length-take-le}
use Rattle.bb_code.specs.Columns.{given_columns}
use Rattle.bb_code.proofs.Given.{length_given}
use Rattle.bb_code.proofs.choice.given_columns.Goals as goal

room_left : (columns segment rows : List ℕ) (i : ℕ) → i < length segment → length segment ≤ 16 → rows ≡ given_columns columns (take i segment) → length rows < 16
room_left columns segment rows i lt long e =
    let size = ap length e in
    let short = length_given columns (take i segment) in
    let front = length-take-le i segment (omega (arith, lt)) in
    omega (arith, size, short, front, lt, long)

pub push-requires : goal.push-requires
push-requires c = (omega arith, room_left c.args.columns.now c.args.segment.now c.loop-source.rows.items c.loop-source.source-index c.loop-source-test.true c.requires c.loop-source.invariant)
