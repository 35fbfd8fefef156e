-- Leaves by one step of a walk: at a stop, at an open net, and behind a gate.
use Rattle.std.proofs.Common.{◌≡◌, ◌⊎◌, ◌↔◌, inl, inr, List, [], ◌∷◌, Bool, true, false, sym, ap, subst, ◌∙◌, Contains}
use Rattle.std.specs.List.{AllByRecursion}
use Rattle.bb_base.specs.Net.{Gate}
use Rattle.bb_base.proofs.Contained.{here, either, none_in, of_all}
use Rattle.bb_terms.specs.Paths.{AtNet, Behind, IsPathBack, IsReached, IsLeaf, LiesBehind}
use Rattle.bb_terms.proofs.PathLemmas.{reached_here, ends_at_stop}

module _ {N : Type 0} (gates : List (Gate N)) (stop : N → Bool) where
  only_first : (m x : N) → Contains (m ∷ []) x → m ≡ x
  only_first m x h = by (either m [] x h)
    where
      by : (m ≡ x) ⊎ Contains [] x → m ≡ x
      by (inl e) = e
      by (inr none) = absurd (none_in x none)

  -- a stop is its own leaf, and has no other
  pub at_stop : (m net : N) → stop m ≡ true → IsLeaf gates stop (AtNet m) net ↔ (m ≡ net)
  at_stop m net s = (
    λ leaf.
        let r = leaf.0 in
        let first = only_first m r.first r.stands in
        first ∙ ends_at_stop gates stop r.path r.first net (subst (λ n. stop n ≡ true) first s) r.leads,
    λ e. (subst (IsReached gates stop (m ∷ [])) e (reached_here gates stop (m ∷ []) m (here m [])), subst (λ n. stop n ≡ true) e s),
  )

  -- the leaves behind a gate are those at its inputs
  pub behind_gate : (g : Gate N) (net : N) → IsLeaf gates stop (Behind g) net ↔ ((m : N) × Contains g.ins m × IsLeaf gates stop (AtNet m) net)
  behind_gate g net = (
    λ leaf. let r = leaf.0 in (r.first, r.stands, (record { first = r.first; stands = here r.first []; path = r.path; leads = r.leads }, leaf.1)),
    λ h.
        let r = h.2.0 in
        let first = only_first h.0 r.first r.stands in
        (record { first = r.first; stands = subst (Contains g.ins) first h.1; path = r.path; leads = r.leads }, h.2.1),
  )

  -- the leaves at a net that is no stop are those behind its only gate
  pub at_open : (g : Gate N) (m net : N) → stop m ≡ false → Contains gates g → g.out ≡ m → ((h : Gate N) → Contains gates h → h.out ≡ m → h ≡ g) → IsLeaf gates stop (AtNet m) net ↔ IsLeaf gates stop (Behind g) net
  at_open g m net s c out only = (forth, back)
    where
      walk : (path : List N) → stop net ≡ true → IsPathBack gates stop m path net → IsReached gates stop g.ins net
      walk [] stops leads = let same : stop m ≡ stop net = ap stop leads in absurd (cc (s, stops, same))
      walk (next ∷ path) stops leads =
          let reads = leads.1 in
          record { first = next; stands = subst (λ (h : Gate N). Contains h.ins next) (only reads.gate reads.stands reads.drives) reads.reads; path = path; leads = leads.2 }

      forth : IsLeaf gates stop (AtNet m) net → IsLeaf gates stop (Behind g) net
      forth leaf =
          let r = leaf.0 in
          (walk r.path leaf.1 (subst (λ n. IsPathBack gates stop n r.path net) (sym (only_first m r.first r.stands)) r.leads), leaf.1)

      back : IsLeaf gates stop (Behind g) net → IsLeaf gates stop (AtNet m) net
      back leaf =
          let r = leaf.0 in
          (record { first = m; stands = here m []; path = r.first ∷ r.path; leads = (s, record { gate = g; stands = c; drives = out; reads = r.stands }, r.leads) }, leaf.1)

-- a walk from nets that are stops ends there
module _ {N : Type 0} (gates : List (Gate N)) (stop : N → Bool) (g : Gate N) (stops : AllByRecursion (λ net. stop net ≡ true) g.ins) where
  pub ends_there : (net : N) → Contains g.ins net ↔ IsLeaf gates stop (Behind g) net
  ends_there net = (
    λ c. (reached_here gates stop g.ins net c, of_all (λ n. stop n ≡ true) g.ins net stops c),
    λ leaf.
        let r = leaf.0 in
        let at = of_all (λ n. stop n ≡ true) g.ins r.first stops r.stands in
        subst (Contains g.ins) (ends_at_stop gates stop r.path r.first net at r.leads) r.stands,
  )

  pub passes_none : (h : Gate N) → LiesBehind gates stop (Behind g) h → ⊥
  passes_none h lies =
      let r = lies.0 in
      let at = of_all (λ n. stop n ≡ true) g.ins r.first stops r.stands in
      let same = ends_at_stop gates stop r.path r.first h.out at r.leads in
      let stopped : stop h.out ≡ true = subst (λ n. stop n ≡ true) same at in
      absurd (cc (stopped, lies.1))
