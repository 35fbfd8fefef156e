use Rattle.bb_choose.proofs.RoomLemmas.{none_wide, no_degree, no_cycles, no_mask}
use Rattle.bb_choose.proofs.completeness.enough_is_chosen.Goals as goal

pub returns-clause-gate : goal.returns-clause-gate
returns-clause-gate c = λ a order settings gate inputs enough first. none_wide a.gates settings.width gate inputs enough.narrow first

pub returns-clause-degree : goal.returns-clause-degree
returns-clause-degree c = λ a order settings max need netlist range enough lacks. no_degree a order settings netlist range enough max need lacks

pub returns-clause-limit : goal.returns-clause-limit
returns-clause-limit c = λ a order settings needed limit netlist range enough lacks. no_cycles a order settings netlist range enough needed limit lacks

pub returns-clause-period : goal.returns-clause-period
returns-clause-period c = λ a order settings cells netlist range enough lacks. no_mask a order settings netlist range enough cells lacks
