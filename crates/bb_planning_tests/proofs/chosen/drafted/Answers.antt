use Rattle.std.proofs.Common.{subst, arith}
use Rattle.bb_terms.specs.Cuts.{is_stop_with}
use Rattle.bb_terms.specs.Paths.{Behind}
use Rattle.bb_terms.specs.Support.{AreLeaves}
use Rattle.bb_planning_tests.proofs.chosen.drafted.Goals as goal

pub cells-requires-clause-narrow : goal.cells-requires-clause-narrow
cells-requires-clause-narrow c = λ g leaves h are.
    let gates = c.args.netlist.now.gates in
    let behind = subst (λ cuts. AreLeaves gates (is_stop_with gates cuts) (Behind g) leaves) c.deref.ensures.value are in
    let short = c.in-Ok.ensures.short g leaves h behind in
    let width = c.requires.width in
    omega (arith, short, width)
