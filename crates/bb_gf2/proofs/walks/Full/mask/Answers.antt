use Rattle.std.proofs.Common.{subst}
use Rattle.bb_terms.specs.Register.{IsFullPeriod}
use Rattle.bb_terms.specs.Walk.{Taps}
use Rattle.bb_gf2.proofs.Orbit.{full_from_walk}
use Rattle.bb_gf2.proofs.walks.Full.mask.Goals as goal

pub returns-clause-full : goal.returns-clause-full
returns-clause-full c =
    let kept = c.self.invariant in
    subst (λ (taps : Taps). IsFullPeriod taps.degree taps.mask) c.self.view_is (full_from_walk c.self.inside.degree c.self.inside.mask kept.degree_fits.least kept.mask_fits kept.away)
