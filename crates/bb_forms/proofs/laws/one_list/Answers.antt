use Rattle.bb_forms.specs.SignatureText.{AreSignatureLines}
use Rattle.bb_forms.proofs.FormLemmas.{one_bad}
use Rattle.bb_forms.proofs.SignatureReading.{one_text, no_bad}
use Rattle.bb_forms.proofs.laws.one_list.Goals as goal

pub returns-clause-one : goal.returns-clause-one
returns-clause-one c = one_text

pub returns-clause-all : goal.returns-clause-all
returns-clause-all c = no_bad

pub returns-clause-line : goal.returns-clause-line
returns-clause-line c = one_bad AreSignatureLines
