use Rattle.std.proofs.lemmas.Bool.{eqb-true, eq-eqb}
use Rattle.bb_gf2.proofs.Cosets.{in_span_from_zero, zero_from_in_span}
use Rattle.bb_gf2.proofs.spans.Basis.in_span.Goals as goal

pub returns : goal.returns
returns c =
    let least = c.reduce.ensures.least in (
      λ zero. in_span_from_zero c.args.self.now c.args.v c.reduce.result least (eqb-true c.reduce.result 0 zero),
      λ inside. eq-eqb c.reduce.result 0 (zero_from_in_span c.args.self.now c.args.v c.reduce.result least inside),
    )
