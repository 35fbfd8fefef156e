use Rattle.std.proofs.Common.{◌≡◌, ℕ, Result, Ok, Err}
use Rattle.std.specs.Prelude.{IfErr, OnErr}
use Rattle.bb_terms.specs.Register.{IsFullMask}
use Rattle.bb_gf2.specs.declared.masks.NoFullPeriod.{NoFullPeriod}
use Rattle.bb_choose.specs.Choice.{IsUnmasked}
use Rattle.bb_choose.specs.Coding.{HasLength}
use Rattle.bb_choose.proofs.MaskLemmas.{unmasked}
use Rattle.bb_choose.proofs.masks.mask_for.Goals as goal

faulty : (r : Result ℕ NoFullPeriod) (registers : _) (cells : ℕ) → HasLength registers cells → OnErr r ((mask : ℕ) → IsFullMask cells mask → ⊥) → IfErr r (λ fault. fault.degree ≡ cells) → IfErr r (λ fault. (fault.degree ≡ cells) × IsUnmasked registers cells)
faulty (Ok x) registers cells h none is = tt
faulty (Err e) registers cells h none is = (is, unmasked registers cells h (λ m. none m.0 m.1))

pub returns-clause-fault : goal.returns-clause-fault
returns-clause-fault c = faulty c.taps.result c.args.registers.now c.args.cells (c.has_length.ensures.0 c.if-not-has_length.false) c.taps.ensures.none c.taps.ensures.degree
