use Rattle.std.proofs.Common.{◌≡◌, None, take}
use Rattle.bb_read.proofs.FileLemmas.{AreWritten}
use Rattle.bb_read.proofs.files.write_files.Given as goal

-- the files up to here are written
abbrev pub invariant-files : goal.invariant-files
invariant-files g l = record {
  free : g.S.Store.writing l.store ≡ None;
  written : AreWritten (take l.file-index l.files) (g.S.Store.holds l.fn.store) (g.S.Store.holds l.store);
  read_faults : g.S.Store.read_faults l.store ≡ g.S.Store.read_faults l.fn.store;
  faults : g.S.Store.write_faults l.store ≡ g.S.Store.write_faults l.fn.store;
}
