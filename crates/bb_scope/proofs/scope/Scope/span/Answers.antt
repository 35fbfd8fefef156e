use Rattle.std.proofs.Common.{ap, ◌∙◌, []}
use Rattle.bb_scope.specs.References.{selected}
use Rattle.bb_scope.proofs.ScopeLaws.{next_place, next_within}
use Rattle.bb_scope.proofs.scope.Scope.span.Goals as goal

pub place-place-requires : goal.place-place-requires
place-place-requires c = next_within c.args.self.now c.args.reference.now.name [] c.args.uses.now 0 c.requires

pub returns : goal.returns
returns c =
    let place = next_place c.args.self.now c.args.reference.now.name [] c.args.uses.now 0 c.place-place.result c.requires c.place-place.ensures.place in
    c.selected.ensures ∙ ap (λ p. selected p.range c.args.reference.now.select) place
