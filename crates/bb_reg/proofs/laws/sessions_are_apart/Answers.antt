use Rattle.std.proofs.Common.{not, ℕ, List}
use Rattle.std.specs.List.{list_any}
use Rattle.bb_reg.specs.Chosen.{Seen, conflict}
use Rattle.bb_reg.proofs.ApartLemmas.{sessions_apart}
use Rattle.bb_reg.proofs.OnceLemmas.{fitted_once}
use Rattle.bb_reg.proofs.laws.sessions_are_apart.Goals as goal

pub returns-clause-once : goal.returns-clause-once
returns-clause-once c = fitted_once (λ (x : ℕ × List Seen) session. not (list_any (λ (y : ℕ × List Seen). conflict x.1 y.1) session))

pub returns-clause-apart : goal.returns-clause-apart
returns-clause-apart c = sessions_apart
