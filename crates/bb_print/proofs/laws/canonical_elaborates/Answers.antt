use Rattle.bb_print.proofs.PrintedDenoted.{no_fault, denoted_named, denoted_design, denoted_same, elaborated}
use Rattle.bb_print.proofs.Restored.{text_restores}
use Rattle.bb_print.proofs.laws.canonical_elaborates.Goals as goal

pub returns-clause-fault : goal.returns-clause-fault
returns-clause-fault c = λ own a h named small. no_fault a h own named small

pub returns-clause-named : goal.returns-clause-named
returns-clause-named c = λ a h. denoted_named a h

pub returns-clause-design : goal.returns-clause-design
returns-clause-design c = λ a h. denoted_design a h

pub returns-clause-same : goal.returns-clause-same
returns-clause-same c = λ a h ordered. denoted_same a h ordered

pub returns-clause-outcome : goal.returns-clause-outcome
returns-clause-outcome c = λ own a h fits. elaborated a h own fits

pub returns-clause-restores : goal.returns-clause-restores
returns-clause-restores c = λ own a h fits. text_restores own a h fits
