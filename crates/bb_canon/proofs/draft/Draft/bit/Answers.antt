use Rattle.std.proofs.Common.{sym}
use Rattle.bb_canon.proofs.Drafts.{bit_stands}
use Rattle.bb_canon.proofs.draft.Draft.bit.Goals as goal

pub returns-clause-stands : goal.returns-clause-stands
returns-clause-stands c =
    bit_stands c.self.inside.builder c.args.self.now c.self.inside.variables.items _ c.in_ok-number.number c.in_ok-place.place c.index-variable.result.now c.self.view_is c.self.invariant.0 (sym c.in_ok-number.ensures) c.index-variable.ensures
    c.in_ok-place.ensures.within
