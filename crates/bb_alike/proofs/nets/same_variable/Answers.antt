use Rattle.std.proofs.Common.{◌≡◌, sym, ap, ◌∙◌}
use Rattle.bb_base.specs.Named.{lookup_of}
use Rattle.bb_alike.proofs.nets.same_variable.Goals as goal

pub returns : goal.returns
returns c = λ v at.
    let both = sym c.variable.ensures.value ∙ at in
    let same : c.variable.result.0.now ≡ v.0 = cc both in
    c.lookup.ensures ∙ ap (λ name. lookup_of name c.args.within.now) same
