use Rattle.bb_selftest.proofs.Functions.{functions_agree}
use Rattle.bb_selftest.proofs.walk_laws.functions_agree.Goals as goal

pub returns : goal.returns
returns c = λ a b p i cell start gives bits bit named own valid m at begins. functions_agree a b p named own valid m i cell start at begins gives bits bit
