use Rattle.std.proofs.Common.{rules, ◌≡◌, subst, sym}
use Rattle.bb_base.specs.Name.{IsName}
use Rattle.bb_base.specs.OwnNames.{made_name}
use Rattle.bb_base.proofs.OwnNameLemmas.{made_is_name}
use Rattle.bb_base.proofs.own_name.made_name.Goals as goal

pub new-requires : goal.new-requires
new-requires c =
    let text : c.as_bytes.result.now ≡ made_name c.args.number = search rules in
    subst IsName (sym text) (made_is_name c.args.number c.ranges.number.fits)
