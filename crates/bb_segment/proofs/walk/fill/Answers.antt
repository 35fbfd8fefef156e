use Rattle.std.proofs.Common.{take}
use Rattle.bb_terms.specs.Paths.{starts}
use Rattle.bb_terms.specs.Support.{stop_at}
use Rattle.bb_segment.proofs.WalkLemmas.{reached_from, only_met}
use Rattle.bb_segment.proofs.walk.fill.Goals as goal

pub returns-clause-each : goal.returns-clause-each
returns-clause-each c = λ from net e h.
    reached_from c.args.netlist.now.gates (stop_at c.args.stops.now) (take c.begin-begun.result c.begin-begun.new.met) (starts from) net (only_met (starts from) (take c.begin-begun.result c.begin-begun.new.met) (c.begin-begun.ensures.has from e))
    (c.follow.ensures.each net h)

pub returns-clause-all : goal.returns-clause-all
returns-clause-all c = λ from net e r.
    c.follow.ensures.all net (reached_from c.args.netlist.now.gates (stop_at c.args.stops.now) (starts from) (take c.begin-begun.result c.begin-begun.new.met) net (c.begin-begun.ensures.has from e).met r)
