use Rattle.std.proofs.lemmas.Result.{IfOk-weaker}
use Rattle.bb_make.specs.Artifacts.{AreArtifacts}
use Rattle.bb_compile.specs.Prepared.{IsMadeOf}
use Rattle.bb_compile.proofs.CallEnds.{text_refused}
use Rattle.bb_compile.proofs.compiled.artifacts_of.Goals as goal

pub returns-clause-made : goal.returns-clause-made
returns-clause-made g c =
    let held = g.S.Store.holds c.args.store.now in
    let settings = c.args.settings.now in
    IfOk-weaker c.made_of.result (AreArtifacts c.in-Ok.found.0 c.in-Ok.found.1 settings) (IsMadeOf c.args.input.now settings held)
    (λ made artifacts text told.
    let read = c.in-Ok.ensures.named text told in
    record { short = read.0; original = c.in-Ok.found.0; readable = read.1; order = c.in-Ok.found.1; ordered = c.in-Ok.ensures.order; artifacts = artifacts })
    c.made_of.ensures.made

pub returns-clause-refused : goal.returns-clause-refused
returns-clause-refused g c = λ refusal e text told.
    let read = c.in-Ok.ensures.named text told in
    text_refused c.args.settings.now text c.in-Ok.found.0 c.in-Ok.found.1 refusal read.0 read.1 c.in-Ok.ensures.order (c.made_of.ensures.refused refusal e)
