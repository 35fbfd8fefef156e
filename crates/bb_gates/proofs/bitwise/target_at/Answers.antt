use Rattle.std.proofs.Common.{◌≡◌, ap, sym, ◌∙◌}
use Rattle.std.specs.Prelude.{slice_get}
use Rattle.bb_scope.specs.Making.{first_out}
use Rattle.bb_gates.specs.Targets.{outs_in, outs_after}
use Rattle.bb_gates.proofs.Grounding.{new_first, target_first, got}
use Rattle.bb_gates.proofs.bitwise.target_at.Goals as goal

pub returns-in-None : goal.returns-in-None
returns-in-None c = sym (ap (λ outs. first_out (outs_after c.args.index (outs_in outs))) c.in-None.is ∙ new_first c.args.index)

pub returns-in-Some : goal.returns-in-Some
returns-in-Some c =
    let at : c.copied.result ≡ slice_get c.in-Some.targets.now c.args.index = c.copied.ensures ∙ got c.in-Some.targets.now c.args.index c.get.result c.get.ensures.lookup.1 c.get.ensures.lookup.3 in
    at ∙ sym (ap (λ outs. first_out (outs_after c.args.index (outs_in outs))) c.in-Some.is ∙ target_first c.args.index c.in-Some.targets.now)
