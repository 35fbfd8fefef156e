use Rattle.std.proofs.Common.{◌≡◌, ◌<◌, ◌++◌, length, map, take, drop, slice_index, All}
use Rattle.bb_sign.proofs.sessions.put_held.Given as goal

abbrev pub invariant-list : goal.invariant-list
invariant-list l = record {
  long : length l.list ≡ length l.initial.list;
  so_far : take l.place l.list ++ map (slice_index l.held) (drop l.place l.list) ≡ map (slice_index l.held) l.initial.list;
  ahead : All (λ r. r < length l.held) (drop l.place l.list);
}
