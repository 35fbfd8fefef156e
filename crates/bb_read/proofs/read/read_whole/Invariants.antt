use Rattle.std.proofs.Common.{◌≡◌, ◌≤◌, ◌++◌, ◌-◌, ℕ, List, vec_len}
use Rattle.bb_edge.specs.Told.{Held, Left, IsReading}
use Rattle.bb_read.proofs.read.read_whole.Given as goal

-- what was read and what is left are the text
abbrev pub invariant-pieces : goal.invariant-pieces
invariant-pieces g l = record {
  begun : IsReading (g.S.Store.reading l.store);
  rest : (text : List ℕ) → g.S.Store.holds l.fn.store l.name ≡ Held text → (left : List ℕ) × (g.S.Store.reading l.store ≡ Left left) × (text ≡ l.all.items ++ left);
  short : vec_len l.all ≤ l.limit;
  later : g.S.Store.read_faults l.fn.store ≤ g.S.Store.read_faults l.store;
  contents : g.S.Store.holds l.store ≡ g.S.Store.holds l.fn.store;
  writing : g.S.Store.writing l.store ≡ g.S.Store.writing l.fn.store;
  write_faults : g.S.Store.write_faults l.store ≡ g.S.Store.write_faults l.fn.store;
}

abbrev pub decreases-pieces : goal.decreases-pieces
decreases-pieces g l = l.limit - vec_len l.all
