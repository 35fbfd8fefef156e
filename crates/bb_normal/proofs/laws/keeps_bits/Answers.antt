use Rattle.bb_normal.proofs.Flops.{keeps_flops}
use Rattle.bb_normal.proofs.Outside.{keeps_bits}
use Rattle.bb_written.proofs.Forward.{forward}
use Rattle.bb_normal.proofs.laws.keeps_bits.Goals as goal

pub returns : goal.returns
returns c = λ a b p named has served m. keeps_bits a b p named has (forward a.netlist p (keeps_flops a.netlist p named.netlist served)) m
