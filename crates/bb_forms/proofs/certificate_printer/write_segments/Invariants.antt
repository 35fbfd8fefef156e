use Rattle.std.proofs.Common.{◌≡◌, ◌++◌, drop, map}
use Rattle.std.specs.List.{flat_map}
use Rattle.bb_spell.specs.Canonical.{with_feed}
use Rattle.bb_forms.specs.CertificateText.{segment_line}
use Rattle.bb_forms.proofs.certificate_printer.write_segments.Given as goal

abbrev pub invariant-segments : goal.invariant-segments
invariant-segments l = l.text.items ++ flat_map with_feed (map segment_line (drop l.segment-index l.segments)) ≡ l.fn.text.items ++ flat_map with_feed (map segment_line l.segments)
