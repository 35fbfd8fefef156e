use Rattle.std.proofs.Common.{◌≡◌, ℕ, ap, ◌∙◌, nat_lt, ◌^◌, min, arith}
use Rattle.bb_lex.proofs.CappedLemmas.{no_high}
use Rattle.bb_lex.proofs.constant.fits.Goals as goal

pub returns-else-size-ge128 : goal.returns-else-size-ge128
returns-else-size-ge128 c =
    let e : c.args.size ≡ min c.args.size 128 = omega arith in
    no_high c.args.value c.args.size ∙ ap (λ (s : ℕ). nat_lt c.args.value (2 ^ s)) e
