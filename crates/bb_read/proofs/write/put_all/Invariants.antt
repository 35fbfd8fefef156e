use Rattle.std.proofs.Common.{◌≡◌, IfSome, length}
use Rattle.bb_edge.specs.Told.{SameBut}
use Rattle.bb_read.proofs.WriteLemmas.{Written}
use Rattle.bb_read.proofs.write.put_all.Given as goal

-- a front of the text is written, and the rest is left
abbrev pub invariant-pieces : goal.invariant-pieces
invariant-pieces g l = record {
  writing : g.S.Store.writing l.store ≡ g.S.Store.writing l.fn.store;
  written : Written (g.S.Store.writing l.fn.store) (g.S.Store.holds l.fn.store) (g.S.Store.holds l.store) l.rest l.text;
  others : IfSome (g.S.Store.writing l.fn.store) (λ name. SameBut name (g.S.Store.holds l.fn.store) (g.S.Store.holds l.store));
  read_faults : g.S.Store.read_faults l.store ≡ g.S.Store.read_faults l.fn.store;
  faults : g.S.Store.write_faults l.store ≡ g.S.Store.write_faults l.fn.store;
}

abbrev pub decreases-pieces : goal.decreases-pieces
decreases-pieces g l = length l.rest
