use Rattle.bb_lay.proofs.Stand.{variables_stand}
use Rattle.bb_lay.proofs.laws.written_variables_stand.Goals as goal

pub returns : goal.returns
returns c = λ a p named own valid few. variables_stand a p named own valid few
