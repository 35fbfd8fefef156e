use Rattle.bb_top.proofs.PassLemmas.{made_passes, made_needs, sample_passes, sample_needs}
use Rattle.bb_top.proofs.laws.compiled_files_pass.Goals as goal

pub returns-clause-texts : goal.returns-clause-texts
returns-clause-texts c = made_passes (record { ready = c.read_netlists_are_ready.ensures.texts; pass = c.made_files_pass.ensures; enough = c.audit_is_enough.ensures })

pub returns-clause-files : goal.returns-clause-files
returns-clause-files c = made_needs (record { ready = c.read_netlists_are_ready.ensures.texts; pass = c.made_files_pass.ensures; enough = c.audit_is_enough.ensures })

pub returns-clause-samples : goal.returns-clause-samples
returns-clause-samples c = sample_passes (record { ready = c.read_netlists_are_ready.ensures.texts; pass = c.made_files_pass.ensures; enough = c.audit_is_enough.ensures })

pub returns-clause-sample_files : goal.returns-clause-sample_files
returns-clause-sample_files c = sample_needs (record { ready = c.read_netlists_are_ready.ensures.texts; pass = c.made_files_pass.ensures; enough = c.audit_is_enough.ensures })
