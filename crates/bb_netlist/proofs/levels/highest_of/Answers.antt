use Rattle.std.proofs.Common.{◌≡◌, ◌∙◌, ap, sym, Some}
use Rattle.std.specs.Option.{unwrap_or}
use Rattle.bb_netlist.proofs.DepthLemmas.{closed_highest}
use Rattle.bb_base.specs.Levels.{depth_in}
use Rattle.bb_netlist.proofs.levels.highest_of.Goals as goal

pub returns : goal.returns
returns c =
    let some = closed_highest (depth_in c.args.depths.now) c.args.nets.now c.requires.by_depth in
    let is : c.unwrap_or.result ≡ some.0 = c.unwrap_or.ensures ∙ ap (λ o. unwrap_or o 0) (c.highest.ensures ∙ some.1) in
    some.1 ∙ ap Some (sym is)
