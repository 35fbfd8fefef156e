use Rattle.std.proofs.Common.{sym, ap, ◌∙◌, subst, arith, w32}
use Rattle.std.specs.Int.{trailing_zeros}
use Rattle.std.proofs.lemmas.Nat.{one_shl}
use Rattle.std.proofs.lemmas.Nat.Bits.{bit_at-trailing_zeros}
use Rattle.bb_base.specs.Parity.{code_bit}
use Rattle.bb_gf2.proofs.Low.{Keeps, lowest_coded, lowest_keeps}
use Rattle.bb_gf2.proofs.vectors.lowest_one.Goals as goal

pub returns-clause-coded : goal.returns-clause-coded
returns-clause-coded c =
    let v = c.args.v in
    let zeros = bit_at-trailing_zeros w32 v (omega arith) (omega arith) in
    ap (code_bit v) (one_shl (trailing_zeros w32 v) 32 zeros.0) ∙ lowest_coded (trailing_zeros w32 v) v zeros.1 zeros.2

pub returns-clause-least : goal.returns-clause-least
returns-clause-least c = λ missed misses.
    let v = c.args.v in
    let zeros = bit_at-trailing_zeros w32 v (omega arith) (omega arith) in
    subst (Keeps missed) (sym (one_shl (trailing_zeros w32 v) 32 zeros.0)) (lowest_keeps (trailing_zeros w32 v) v zeros.1 zeros.2 missed misses)
