use Rattle.std.proofs.Common.{◌≡◌, ◌<◌, ◌++◌, length, map, take, drop, slice_index, All}
use Rattle.bb_sign.proofs.sessions.put_all.Given as goal

abbrev pub invariant-lists : goal.invariant-lists
invariant-lists l = record {
  long : length l.lists.items ≡ length l.initial.lists.items;
  so_far : map (λ list. list.items) (take l.place l.lists.items) ++ map (λ list. map (slice_index l.held) list.items) (drop l.place l.lists.items) ≡ map (λ list. map (slice_index l.held) list.items) l.initial.lists.items;
  ahead : All (λ list. All (λ r. r < length l.held) list.items) (drop l.place l.lists.items);
}
