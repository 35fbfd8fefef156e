-- Lines of a certificate beside segments.
use Rattle.std.proofs.Common.{◌≡◌, map}
use Rattle.bb_terms.specs.Valid.{SegmentValue}
use Rattle.bb_forms.specs.CertificateText.{CertificateSegmentValue}
use Rattle.bb_audit.specs.Certified.{line_cells, segment_cells}

pub same_cells : (line : CertificateSegmentValue) (segment : SegmentValue) → line.cell ≡ segment.cell → map (λ pair. pair.0) line.pairs ≡ segment.leaves → line_cells line ≡ segment_cells segment
same_cells line segment cell leaves = λ i. (cell i, leaves i)
