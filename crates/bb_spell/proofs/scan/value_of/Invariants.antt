use Rattle.std.proofs.Common.{◌≡◌, ◌≤◌, drop, min}
use Rattle.bb_spell.specs.Front.{value_after}
use Rattle.bb_spell.proofs.scan.value_of.Given as goal

abbrev pub invariant-digits : goal.invariant-digits
invariant-digits l = record {
  value : min (value_after l.value (drop l.digit-index l.digits)) l.cap ≡ min (value_after 0 l.digits) l.cap;
  bound : l.value ≤ l.cap;
}
