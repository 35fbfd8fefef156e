-- Paths back: longer, joined, under other names, and from a stop.
use Rattle.std.proofs.Common.{◌≡◌, List, [], ◌∷◌, ◌++◌, map, Bool, true, false, refl, sym, ap, subst, Contains}
use Rattle.bb_base.specs.Net.{Gate, renamed_gate}
use Rattle.bb_base.specs.Order.{Reads}
use Rattle.bb_terms.specs.Paths.{Start, AtNet, Behind, renamed_start, IsPathBack, IsReached, IsLeaf}
use Rattle.bb_base.proofs.Contained.{contains_map}

module _ {N : Type 0} (gates : List (Gate N)) (stop : N → Bool) where
  -- two paths in a row are a path
  pub paths_join : (path more : List N) (net between last : N) → IsPathBack gates stop net path between → IsPathBack gates stop between more last → IsPathBack gates stop net (path ++ more) last
  paths_join [] more net between last h k = subst (λ n. IsPathBack gates stop n more last) (sym h) k
  paths_join (next ∷ path) more net between last h k = (h.0, h.1, paths_join path more next between last h.2 k)

  -- a step on from a net that is no stop
  pub path_more : (path : List N) (net last next : N) → IsPathBack gates stop net path last → stop last ≡ false → Reads gates last next → IsPathBack gates stop net (path ++ next ∷ []) next
  path_more path net last next h no_stop reads = paths_join path (next ∷ []) net last next h (no_stop, reads, refl)

  pub reached_more : (from : List N) (net next : N) → IsReached gates stop from net → stop net ≡ false → Reads gates net next → IsReached gates stop from next
  reached_more from net next h no_stop reads = record { first = h.first; stands = h.stands; path = h.path ++ next ∷ []; leads = path_more h.path h.first net next h.leads no_stop reads }

  -- each net is reached from itself
  pub reached_here : (from : List N) (net : N) → Contains from net → IsReached gates stop from net
  reached_here from net c = record { first = net; stands = c; path = []; leads = refl }

  -- no path leads on from a stop
  pub ends_at_stop : (path : List N) (net last : N) → stop net ≡ true → IsPathBack gates stop net path last → net ≡ last
  ends_at_stop [] net last s h = h
  ends_at_stop (next ∷ path) net last s h = absurd (cc (s, h.0))

-- paths under other names
module _ {M N : Type 0} (f : M → N) (gates : List (Gate M)) (stop : N → Bool) where
  reads_renamed : (net input : M) → Reads gates net input → Reads (map (renamed_gate f) gates) (f net) (f input)
  reads_renamed net input r = record {
    gate = renamed_gate f r.gate;
    stands = contains_map (renamed_gate f) gates r.gate r.stands;
    drives = ap f r.drives;
    reads = contains_map f r.gate.ins input r.reads;
  }

  pub path_renamed : (path : List M) (net last : M) → IsPathBack gates (λ m. stop (f m)) net path last → IsPathBack (map (renamed_gate f) gates) stop (f net) (map f path) (f last)
  path_renamed [] net last h = ap f h
  path_renamed (next ∷ path) net last h = (h.0, reads_renamed net next h.1, path_renamed path next last h.2)

  reached_renamed : (from : List M) (net : M) → IsReached gates (λ m. stop (f m)) from net → IsReached (map (renamed_gate f) gates) stop (map f from) (f net)
  reached_renamed from net r = record { first = f r.first; stands = contains_map f from r.first r.stands; path = map f r.path; leads = path_renamed r.path r.first net r.leads }

  pub leaf_renamed : (start : Start M) (net : M) → IsLeaf gates (λ m. stop (f m)) start net → IsLeaf (map (renamed_gate f) gates) stop (renamed_start f start) (f net)
  leaf_renamed (AtNet m) net leaf = (reached_renamed (m ∷ []) net leaf.0, leaf.1)
  leaf_renamed (Behind g) net leaf = (reached_renamed g.ins net leaf.0, leaf.1)
