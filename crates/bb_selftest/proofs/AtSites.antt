-- Walks back at sites, in a netlist whose drivers are the written one's.
use Rattle.std.proofs.Common.{◌≡◌, ◌↔◌, ◌⊎◌, inl, inr, ℕ, ◌<◌, ◌≤◌, ◌||◌, List, [], ◌∷◌, ◌++◌, length, map, filter, cond, Bool, true, false, refl, sym, ap, subst, ◌∙◌, Contains, slice_get, Some}
use Rattle.std.specs.List.{list_any}
use Rattle.bb_base.proofs.Contained.{here, there, either, none_in, contains_map, contains_at, place_of}
use Rattle.bb_base.specs.Net.{Gate, Netlist, driven, reads, renamed_gate}
use Rattle.bb_base.specs.Named.{Named, IsNamed}
use Rattle.bb_net.specs.Sites.{Site, sited}
use Rattle.bb_net.proofs.SiteLemmas.{site_decides}
use Rattle.bb_terms.specs.Paths.{Start, AtNet, IsReached, IsLeaf, LiesBehind, LiesIn}
use Rattle.bb_terms.specs.declared.kind.Kind.{Kind}
use Rattle.bb_terms.specs.declared.kind.Kind.TheVariants.{Input, State, Split, Cut, Watch, Output}
use Rattle.bb_terms.specs.declared.plan.Cell.{Cell}
use Rattle.bb_terms.specs.Kinds.{is_source, has_line}
use Rattle.bb_terms.specs.Plan.{PlanValue, chain}
use Rattle.bb_terms.specs.Lines.{is_stop, IsStart, IsStartOf}
use Rattle.bb_terms.specs.Rules.{Kinds, Served, Widths, IsGateNet, IsQ, MayStand, AreLeavesOf}
use Rattle.bb_terms.specs.Valid.{IsValidPlan}
use Rattle.bb_rules.proofs.CellLemmas.{cell_at}
use Rattle.bb_rules.proofs.SourceLemmas.{in_register}
use Rattle.bb_rules.proofs.CoverLemmas.{all_covered}
use Rattle.bb_terms.proofs.NetLemmas.{input_net_within, out_within, q_within}
use Rattle.bb_terms.specs.declared.wire.Wire.{Wire}
use Rattle.bb_terms.specs.Reads.{read, line}
use Rattle.bb_written.specs.Written.{wire_site, written_gate, written_netlist, written}
use Rattle.bb_normal.specs.Mirrors.{Mirrors}
use Rattle.bb_ctl.specs.OwnNames.{HasOwnNames}
use Rattle.bb_normal.proofs.Standing.{written_sites_differ}
use Rattle.bb_selftest.specs.Renaming.{IsRenaming}
use Rattle.bb_selftest.specs.Segments.{IsNetOf, IsSourceRead, StopsAtReads, HasSameSegment}
use Rattle.bb_selftest.specs.WrittenLines.{IsObserver, read_site, line_site, same_site, is_read_site, sited_gate}
use Rattle.bb_selftest.specs.WrittenSegments.{HasSegment}
use Rattle.bb_selftest.specs.Covers.{Covers}
use Rattle.bb_selftest.specs.Bounded.{IsBoundedLine}
use Rattle.bb_selftest.proofs.Steps.{IsReachedImage, of_map}
use Rattle.bb_selftest.proofs.Renamed.{passed_under_names, leaves_under_names, reached_under_names, gate_under_names}
use Rattle.bb_selftest.proofs.Standing.{out_has, in_has, gate_there, read_has, line_has}
use Rattle.bb_selftest.proofs.Agreement.{segments_agree}

-- a site among what is read of source cells
read_found : (a : Named) (p : PlanValue) (s : Site) (cells : List Cell) → list_any (same_site s) (map (λ c. read_site a p c.net) (filter (λ c. is_source c.kind) cells)) ≡ true
    → (c : Cell) × Contains cells c × (is_source c.kind ≡ true) × (s ≡ read_site a p c.net)
read_found a p s [] h = absurd (cc h)
read_found a p s (c ∷ cells) h = by (is_source c.kind) refl h (λ h. read_found a p s cells h)
  where
    later : (d : Cell) × Contains cells d × (is_source d.kind ≡ true) × (s ≡ read_site a p d.net) → (d : Cell) × Contains (c ∷ cells) d × (is_source d.kind ≡ true) × (s ≡ read_site a p d.net)
    later more = (more.0, there c cells more.0 more.1, more.2, more.3)

    on : is_source c.kind ≡ true → (b : Bool) → same_site s (read_site a p c.net) ≡ b → (b || list_any (same_site s) (map (λ c. read_site a p c.net) (filter (λ c. is_source c.kind) cells))) ≡ true
        → (list_any (same_site s) (map (λ c. read_site a p c.net) (filter (λ c. is_source c.kind) cells)) ≡ true → (d : Cell) × Contains cells d × (is_source d.kind ≡ true) × (s ≡ read_site a p d.net))
        → (d : Cell) × Contains (c ∷ cells) d × (is_source d.kind ≡ true) × (s ≡ read_site a p d.net)
    on source true same h rest = (c, here c cells, source, (site_decides s (read_site a p c.net)).0 same)
    on source false other h rest = later (rest h)

    by : (b : Bool) → is_source c.kind ≡ b → list_any (same_site s) (map (λ c. read_site a p c.net) (cond b (c ∷ filter (λ c. is_source c.kind) cells) (filter (λ c. is_source c.kind) cells))) ≡ true
        → (list_any (same_site s) (map (λ c. read_site a p c.net) (filter (λ c. is_source c.kind) cells)) ≡ true → (d : Cell) × Contains cells d × (is_source d.kind ≡ true) × (s ≡ read_site a p d.net))
        → (d : Cell) × Contains (c ∷ cells) d × (is_source d.kind ≡ true) × (s ≡ read_site a p d.net)
    by true source h rest = on source (same_site s (read_site a p c.net)) refl h rest
    by false other h rest = later (rest h)

or_right : (x y : Bool) → y ≡ true → (x || y) ≡ true
or_right true y h = refl
or_right false y h = h

found_read : (a : Named) (p : PlanValue) (s : Site) (cells : List Cell) (c : Cell) → Contains cells c → is_source c.kind ≡ true → s ≡ read_site a p c.net
    → list_any (same_site s) (map (λ c. read_site a p c.net) (filter (λ c. is_source c.kind) cells)) ≡ true
found_read a p s [] c h source is = absurd (none_in c h)
found_read a p s (d ∷ cells) c h source is = by (is_source d.kind) refl (either d cells c h) (λ h. found_read a p s cells c h source is)
  where
    by : (b : Bool) → is_source d.kind ≡ b → (d ≡ c) ⊎ Contains cells c → (Contains cells c → list_any (same_site s) (map (λ c. read_site a p c.net) (filter (λ c. is_source c.kind) cells)) ≡ true)
        → list_any (same_site s) (map (λ c. read_site a p c.net) (cond b (d ∷ filter (λ c. is_source c.kind) cells) (filter (λ c. is_source c.kind) cells))) ≡ true
    by true k (inl e) rest =
        ap (λ (t : Bool). t || list_any (same_site s) (map (λ c. read_site a p c.net) (filter (λ c. is_source c.kind) cells)))
        ((site_decides s (read_site a p d.net)).1 (is ∙ ap (λ (x : Cell). read_site a p x.net) (sym e)))
    by true k (inr h) rest = or_right (same_site s (read_site a p d.net)) _ (rest h)
    by false k (inl e) rest = absurd (let own : is_source d.kind ≡ true = ap (λ (x : Cell). is_source x.kind) e ∙ source in cc (own, k))
    by false k (inr h) rest = rest h

line_of_start : (a : Netlist ℕ) (kind : Kind) (net : ℕ) (start : Start ℕ) → IsStartOf a kind net start → has_line kind ≡ true
line_of_start a Input net start h = absurd h
line_of_start a State net start h = refl
line_of_start a Split net start h = refl
line_of_start a Cut net start h = refl
line_of_start a Watch net start h = refl
line_of_start a Output net start h = refl

-- the written netlist over symbols, its nets, and where walks stop there
abbrev symbols : Named → PlanValue → Netlist Wire
symbols a p = written_netlist a.netlist p

abbrev nets : Named → PlanValue → List Wire
nets a p = driven (symbols a p) ++ reads (symbols a p)

abbrev pub stops_here : Named → PlanValue → Wire → Bool
stops_here a p w = is_read_site a p (wire_site a w)

module _ (a : Named) (p : PlanValue) (named : IsNamed a) (own : HasOwnNames a) (valid : IsValidPlan a.netlist p) where
  -- a cell stands on a net
  on_gate : (net : ℕ) → IsGateNet a.netlist net → net < length (driven a.netlist)
  on_gate net g = subst (λ n. n < length (driven a.netlist)) g.1.2 (out_within a.netlist g.1.0 named.netlist (contains_at a.netlist.gates g.0 g.1.0 g.1.1))

  on_flop : (net : ℕ) → IsQ a.netlist net → net < length (driven a.netlist)
  on_flop net q = subst (λ n. n < length (driven a.netlist)) q.1.2 (q_within a.netlist q.1.0 named.netlist (contains_at a.netlist.flops q.0 q.1.0 q.1.1))

  on_net : (kind : Kind) (net : ℕ) → MayStand a.netlist kind net → net < length (driven a.netlist)
  on_net Input net h = input_net_within a.netlist net named.netlist h
  on_net State net h = on_flop net h
  on_net Split net h = on_flop net h
  on_net Cut net h = on_gate net h
  on_net Watch net h = on_flop net h
  on_net Output net h = on_gate net h.0

  cell_on_net : (c : Cell) → Contains (chain p) c → c.net < length (driven a.netlist)
  cell_on_net c h = let at = place_of (chain p) c h in on_net c.kind c.net (valid.meets Kinds at.0 c at.1)

  pub reads_stop : StopsAtReads a.netlist p (stops_here a p)
  reads_stop w stands = (forth, back)
    where
      forth : is_read_site a p (wire_site a w) ≡ true → IsSourceRead p w
      forth e =
          let c = read_found a p (wire_site a w) (chain p) e in
          let net = cell_on_net c.0 c.1 in
          let one = written_sites_differ a p w (read p c.0.net) named own valid stands (read_has a.netlist p named.netlist (valid.meets Served) c.0.net net) c.3 in
          record { source = c.0; stands = c.1; generates = c.2; is = sym one }

      back : IsSourceRead p w → is_read_site a p (wire_site a w) ≡ true
      back s = found_read a p (wire_site a w) (chain p) s.source s.stands s.generates (ap (wire_site a) (sym s.is))

module _ (a b : Named) (p : PlanValue) (named : IsNamed a) (own : HasOwnNames a) (valid : IsValidPlan a.netlist p) (m : Mirrors (written a p) b) where
  pub named_apart : IsRenaming (wire_site a) (nets a p) (symbols a p).gates (stops_here a p) (sited b).netlist.gates (is_read_site a p)
  named_apart = record {
    one = λ v w hv hw e. written_sites_differ a p v w named own valid hv hw e;
    outs = λ g c. out_has (symbols a p) g c;
    ins = λ g net c i. in_has (symbols a p) g net c i;
    each = m.gates;
    same = λ w h. refl;
  }

  gate_at : (k : Gate Wire) → Contains (symbols a p).gates k → Contains (sited b).netlist.gates (renamed_gate (wire_site a) k)
  gate_at k stands = gate_under_names (wire_site a) (nets a p) (symbols a p).gates (stops_here a p) (sited b).netlist.gates (is_read_site a p) named_apart k stands

  -- a gate of the original stands
  pub sited_stands : (g : Gate ℕ) → Contains a.netlist.gates g → Contains (sited b).netlist.gates (sited_gate a p g)
  sited_stands g stands = gate_at (written_gate p g) (gate_there a.netlist p g stands)

  -- the walk from a net that stands, beside the walk over symbols
  module _ (w : Wire) (stands_there : IsNetOf (symbols a p) w) where
    passed_at : (h : Gate Site) → Contains (sited b).netlist.gates h → LiesBehind (sited b).netlist.gates (is_read_site a p) (AtNet (wire_site a w)) h
        ↔ ((k : Gate Wire) × Contains (symbols a p).gates k × LiesBehind (symbols a p).gates (stops_here a p) (AtNet w) k × (renamed_gate (wire_site a) k ≡ h))
    passed_at h stands = passed_under_names (wire_site a) (nets a p) (symbols a p).gates (stops_here a p) (sited b).netlist.gates (is_read_site a p) named_apart (AtNet w) (stands_there, tt) h stands

    leaves_at : (s : Site) → IsLeaf (sited b).netlist.gates (is_read_site a p) (AtNet (wire_site a w)) s ↔ ((v : Wire) × IsLeaf (symbols a p).gates (stops_here a p) (AtNet w) v × (wire_site a v ≡ s))
    leaves_at s = leaves_under_names (wire_site a) (nets a p) (symbols a p).gates (stops_here a p) (sited b).netlist.gates (is_read_site a p) named_apart (AtNet w) (stands_there, tt) s

    reached_at : (s : Site) → IsReached (sited b).netlist.gates (is_read_site a p) (wire_site a w ∷ []) s → IsReachedImage (Contains (nets a p)) (wire_site a) (symbols a p).gates (stops_here a p) (w ∷ []) s
    reached_at s r = reached_under_names (wire_site a) (nets a p) (symbols a p).gates (stops_here a p) (sited b).netlist.gates (is_read_site a p) named_apart (AtNet w) (stands_there, tt) s r

  module _ (i : ℕ) (c : Cell) (start : Start ℕ) (at : slice_get (chain p) i ≡ Some c) (begins : IsStart a.netlist c start) where
    over_symbols : HasSameSegment a.netlist p (stops_here a p) c start
    over_symbols = segments_agree a.netlist p named.netlist (valid.meets Kinds) (valid.meets Served) (stops_here a p) (reads_stop a p named own valid) i c start at begins

    line_there : IsNetOf (symbols a p) (line a.netlist p c)
    line_there = line_has a.netlist p i c at (line_of_start a.netlist c.kind c.net start begins)

    passed_back : (g : Gate ℕ) → Contains a.netlist.gates g → LiesIn a.netlist.gates (is_stop a.netlist p) start g → LiesBehind (sited b).netlist.gates (is_read_site a p) (AtNet (line_site a p c)) (sited_gate a p g)
    passed_back g stands lies =
        let k : Gate Wire = written_gate p g in
        let in_symbols = gate_there a.netlist p g stands in
        let behind = (over_symbols.passed k in_symbols).1 (g, stands, lies, refl) in
        (passed_at (line a.netlist p c) line_there (sited_gate a p g) (sited_stands g stands)).1
        (k, in_symbols, behind, refl)

    pub has_segment : HasSegment a b p c start
    has_segment = record {
      passed = λ h stands. (
        λ lies.
            let k = (passed_at (line a.netlist p c) line_there h stands).0 lies in
            let g = (over_symbols.passed k.0 k.1).0 k.2 in
            (g.0, g.1, g.2, ap (renamed_gate (wire_site a)) g.3 ∙ k.3),
        λ t. subst (LiesBehind (sited b).netlist.gates (is_read_site a p) (AtNet (line_site a p c))) t.3 (passed_back t.0 t.1 t.2),
      );
      leaves = λ s. (
        λ leaf.
            let w = (leaves_at (line a.netlist p c) line_there s).0 leaf in
            let net = (over_symbols.leaves w.0).0 w.1 in
            (net.0, net.1, ap (wire_site a) net.2 ∙ w.2),
        λ t.
            let leaf = (over_symbols.leaves (read p t.0)).1 (t.0, t.1, refl) in
            (leaves_at (line a.netlist p c) line_there s).1 (read p t.0, leaf, t.2),
      );
    }

    ends_at : (s : Site) → IsReached (sited b).netlist.gates (is_read_site a p) (line_site a p c ∷ []) s → (is_read_site a p s ≡ true) ⊎ ((g : Gate Site) × Contains (sited b).netlist.gates g × (g.out ≡ s))
    ends_at s r = by (over_symbols.ends there.net there.reached)
      where
        there : IsReachedImage (Contains (nets a p)) (wire_site a) (symbols a p).gates (stops_here a p) (line a.netlist p c ∷ []) s
        there = reached_at (line a.netlist p c) line_there s r

        by : (stops_here a p there.net ≡ true) ⊎ ((g : Gate Wire) × Contains (symbols a p).gates g × (g.out ≡ there.net)) → (is_read_site a p s ≡ true) ⊎ ((g : Gate Site) × Contains (sited b).netlist.gates g × (g.out ≡ s))
        by (inl e) = inl (sym (ap (is_read_site a p) there.is) ∙ e)
        by (inr g) = inr (
          renamed_gate (wire_site a) g.0,
          gate_at g.0 g.1,
          ap (wire_site a) g.2 ∙ there.is,
        )

  bounded_by : (i : ℕ) (c : Cell) (leaves : List ℕ) → slice_get (chain p) i ≡ Some c → AreLeavesOf a.netlist p c leaves → length leaves ≤ p.width → IsBoundedLine a b p c
  bounded_by i c leaves at are few =
      let segment = has_segment i c are.start at are.begins in
      record {
        ends = ends_at i c are.start at are.begins;
        leaves = leaves;
        are = are;
        few = few;
        same = λ s. (
          λ leaf.
              let net = (segment.leaves s).0 leaf in
              subst (Contains (map (read_site a p) leaves)) net.2 (contains_map (read_site a p) leaves net.0 ((are.are.each net.0).1 net.1)),
          λ stands.
              let net = of_map (read_site a p) leaves s stands in
              (segment.leaves s).1 (net.0, (are.are.each net.0).0 net.1, net.2),
        );
      }

  pub bounded : (i r : ℕ) (c : Cell) → IsObserver p i r c → IsBoundedLine a b p c
  bounded i r c o =
      let at = cell_at p i r c o.stands in
      let narrow = valid.meets Widths i c at o.observes in
      bounded_by i c narrow.0 at narrow.1 narrow.2

  pub covers : Covers a b p
  covers g stands used =
      let covered = all_covered a.netlist p g named.netlist (valid.meets Served) stands used in
      let at = place_of (chain p) covered.cell covered.stands in
      let register = in_register p at.0 covered.cell at.1 in
      record {
        stands = sited_stands g stands;
        i = at.0;
        r = register.0;
        cell = covered.cell;
        observer = record { stands = register.1; observes = covered.observes };
        lies = passed_back at.0 covered.cell covered.start at.1 covered.begins g stands covered.lies;
      }
