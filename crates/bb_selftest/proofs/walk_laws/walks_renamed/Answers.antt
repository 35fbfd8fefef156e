use Rattle.bb_selftest.proofs.Renamed.{path_under_names, image_under_names, reached_same, leaves_under_names, passed_under_names}
use Rattle.bb_selftest.proofs.walk_laws.walks_renamed.Goals as goal

pub returns-clause-path : goal.returns-clause-path
returns-clause-path c = path_under_names

pub returns-clause-image : goal.returns-clause-image
returns-clause-image c = image_under_names

pub returns-clause-reached : goal.returns-clause-reached
returns-clause-reached c = reached_same

pub returns-clause-leaves : goal.returns-clause-leaves
returns-clause-leaves c = leaves_under_names

pub returns-clause-passed : goal.returns-clause-passed
returns-clause-passed c = passed_under_names
