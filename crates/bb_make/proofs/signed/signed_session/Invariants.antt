use Rattle.std.proofs.Common.{◌≡◌, ◌++◌, drop}
use Rattle.bb_make.specs.Files.{signed_session}
use Rattle.bb_make.proofs.signed.signed_session.Given as goal

abbrev pub invariant-registers : goal.invariant-registers
invariant-registers l = l.list.items ++ signed_session (drop l.place l.registers) (drop l.place l.values) ≡ signed_session l.registers l.values
