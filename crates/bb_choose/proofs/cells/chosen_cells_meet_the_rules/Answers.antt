use Rattle.bb_choose.proofs.CellRules.{kinds_held, apart_held, served_held, pure_held}
use Rattle.bb_choose.proofs.cells.chosen_cells_meet_the_rules.Goals as goal

pub returns-clause-kinds : goal.returns-clause-kinds
returns-clause-kinds c a cuts most p are chosen = kinds_held a cuts most p are chosen

pub returns-clause-apart : goal.returns-clause-apart
returns-clause-apart c a cuts most p are chosen = apart_held a cuts most p are chosen

pub returns-clause-served : goal.returns-clause-served
returns-clause-served c a cuts most p are chosen = served_held a cuts most p are chosen

pub returns-clause-pure : goal.returns-clause-pure
returns-clause-pure c a cuts most p are chosen = pure_held a cuts most p are chosen
