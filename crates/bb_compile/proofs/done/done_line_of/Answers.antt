use Rattle.bb_compile.proofs.DoneLemmas.{done_line_is}
use Rattle.bb_compile.proofs.done.done_line_of.Goals as goal

pub returns : goal.returns
returns c =
    done_line_is c.args.summary c.new-line.result.items c.put_netlist.new.line.items c.put_plan.new.line.items c.extend_from_slice.new.self.items c.new-line.ensures.items
    c.in_ok-put_netlist.ensures c.in_ok-put_plan.ensures c.in_ok-extend_from_slice.ensures.items
