use Rattle.std.proofs.Common.{subst}
use Rattle.std.proofs.lemmas.Result.{IfOk-weaker}
use Rattle.bb_base.specs.Order.{IsOrder}
use Rattle.bb_base.specs.Named.{Named}
use Rattle.bb_make.specs.Artifacts.{AreArtifacts}
use Rattle.bb_compile.specs.Made.{IsMadeSample}
use Rattle.bb_compile.proofs.sampled.artifacts_of.Goals as goal

pub returns-clause-made : goal.returns-clause-made
returns-clause-made c =
    let settings = c.args.settings.now in
    let number = c.args.number in
    let order = c.in_ok-order.order in
    let same = c.requires.sample in
    IfOk-weaker c.made_of.result (AreArtifacts c.args.named.now order settings) (IsMadeSample settings number)
    (λ made artifacts. record {
      denotes = c.sample_texts_denote.ensures number c.requires.some c.requires.few;
      order = order;
      ordered = subst (λ (a : Named). IsOrder a.netlist.gates order) same c.in_ok-order.ensures;
      artifacts = subst (λ (a : Named). AreArtifacts a order settings made) same artifacts;
    })
    c.made_of.ensures.made
