-- Signatures that are being read. No public contract cites this.
use Rattle.std.specs.Prelude.{List}
use Rattle.bb_forms.specs.declared.signature.Signature.{Signature}

-- the sessions before, and the signatures of the one that is being read
pub record ListingValue : Type 0 where
  pub done : List (List Signature)
  pub current : List Signature
