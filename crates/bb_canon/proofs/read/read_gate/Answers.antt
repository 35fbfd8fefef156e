use Rattle.std.proofs.Common.{◌≡◌, [], sym, ◌∙◌}
use Rattle.std.proofs.lemmas.Option.{same_Some}
use Rattle.bb_base.specs.Net.{renamed_gate}
use Rattle.bb_base.specs.Named.{net_text}
use Rattle.bb_canon.proofs.read.read_gate.Goals as goal

pub returns-in-Ok-clause-want : goal.returns-in-Ok-clause-want
returns-in-Ok-clause-want c = λ a gates g b d is few says.
    let same : c.in-Ok.statement ≡ renamed_gate (net_text a) g = same_Some c.in-Ok.statement says.item (sym c.in-Ok.ensures ∙ says.reads) ∙ says.is in
    c.state.ensures.want a gates [] g b d is few same
