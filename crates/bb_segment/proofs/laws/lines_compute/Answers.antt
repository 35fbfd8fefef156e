use Rattle.bb_terms.proofs.FunctionLemmas.{computes}
use Rattle.bb_segment.proofs.laws.lines_compute.Goals as goal

pub returns-clause-by_number : goal.returns-clause-by_number
returns-clause-by_number c = λ gives gates stop start v meets stands. computes gives gates stop v meets start stands

pub returns-clause-by_name : goal.returns-clause-by_name
returns-clause-by_name c = λ gives gates stop start v meets stands. computes gives gates stop v meets start stands
