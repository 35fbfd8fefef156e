use Rattle.bb_testrun.proofs.LineLaws.{lines_compute}
use Rattle.bb_testrun.proofs.SignatureLaws.{signatures_agree}
use Rattle.bb_testrun.proofs.ReadCodes.{reads_codes}
use Rattle.bb_testrun.proofs.laws.lines_read.Goals as goal

pub returns : goal.returns
returns c = record { lines = lines_compute; codes = reads_codes; signatures = signatures_agree }
