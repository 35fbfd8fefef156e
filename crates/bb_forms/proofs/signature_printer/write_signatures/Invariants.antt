use Rattle.std.proofs.Common.{◌≡◌, ◌++◌, drop, map}
use Rattle.std.specs.List.{flat_map}
use Rattle.bb_spell.specs.Canonical.{with_feed}
use Rattle.bb_forms.specs.SignatureText.{signature_line}
use Rattle.bb_forms.proofs.signature_printer.write_signatures.Given as goal

abbrev pub invariant-signatures : goal.invariant-signatures
invariant-signatures l = l.text.items ++ flat_map with_feed (map signature_line (drop l.signature-index l.signatures)) ≡ l.fn.text.items ++ flat_map with_feed (map signature_line l.signatures)
