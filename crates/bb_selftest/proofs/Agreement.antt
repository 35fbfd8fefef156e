-- The walk back from a line through the written gates passes what the walk in the original does.
use Rattle.std.proofs.Common.{◌≡◌, ◌↔◌, ◌⊎◌, inl, inr, ℕ, ◌+◌, ◌<◌, List, [], ◌∷◌, length, map, Bool, true, false, refl, sym, ap, subst, ◌∙◌, Contains, slice_get, Some, None}
use Rattle.std.proofs.lemmas.List.Elements.{Contains-append_cases}
use Rattle.std.specs.List.{AllByRecursion}
use Rattle.bb_base.proofs.Contained.{here, either, none_in, of_all, to_all, contains_map, contains_at, place_of}
use Rattle.bb_base.specs.Net.{Gate, Netlist, driven, IsNetlist}
use Rattle.bb_base.specs.Order.{Reads}
use Rattle.bb_terms.specs.Paths.{Start, AtNet, Behind, starts, is_free, IsPathBack, IsReached, IsLeaf, LiesBehind, LiesIn}
use Rattle.bb_terms.specs.Change.{Change}
use Rattle.bb_terms.proofs.PathLemmas.{reached_here}
use Rattle.bb_terms.proofs.FunctionLemmas.{driver_of}
use Rattle.bb_terms.specs.declared.kind.Kind.{Kind}
use Rattle.bb_terms.specs.declared.kind.Kind.TheVariants.{Input, State, Split, Cut, Watch, Output}
use Rattle.bb_terms.specs.declared.plan.Cell.{Cell}
use Rattle.bb_terms.specs.Kinds.{is_source, is_behind, is_flop}
use Rattle.bb_terms.specs.Plan.{PlanValue, chain}
use Rattle.bb_terms.specs.Lines.{is_stop, d_of, StartsBehind, IsStartOf, IsStart}
use Rattle.bb_terms.specs.Rules.{Kinds, Served, Holds, Fits, IsQ, MayStand}
use Rattle.bb_terms.proofs.NetLemmas.{input_within, d_is, d_within, driven_net, one_gate}
use Rattle.bb_terms.proofs.StopLemmas.{source_at, source_stops, free_stops, flop_free}
use Rattle.bb_terms.specs.declared.wire.Wire.{Wire}
use Rattle.bb_terms.specs.declared.wire.Wire.TheVariants.{Kept, Read}
use Rattle.bb_terms.specs.Reads.{read, line, line_by}
use Rattle.bb_written.specs.Written.{test_gates, written_gate, written_netlist}
use Rattle.bb_testrun.specs.Traced.{on_wires}
use Rattle.bb_testrun.proofs.TracedRuns.{added_same}
use Rattle.bb_selftest.specs.Segments.{IsSourceRead, StopsAtReads, HasSameSegment}
use Rattle.bb_selftest.proofs.Steps.{StepsAgree, IsReachedImage, of_map, first_reached, leaves_agree, other_passes, first_passes}
use Rattle.bb_selftest.proofs.Standing.{ReadsBehind, ReadsItself, read_cases, one_read, gate_there, out_has, read_has}

same_bits : (x y : Bool) → (x ≡ true → y ≡ true) → (y ≡ true → x ≡ true) → x ≡ y
same_bits true y h k = sym (h refl)
same_bits false true h k = k refl
same_bits false false h k = refl

never : (b : Bool) → (b ≡ true → ⊥) → b ≡ false
never true h = absurd (h refl)
never false h = refl

-- no added gate drives a net of the original
never_kept : (a : Netlist ℕ) (p : PlanValue) (h : Gate Wire) (net : ℕ) → Contains (test_gates a p) h → h.out ≡ Kept net → ⊥
never_kept a p h net c e =
    let f : Change ℕ = λ m. Some [] in
    let none : on_wires f h.out ≡ None = of_all (λ (g : Gate Wire). on_wires f g.out ≡ None) (test_gates a p) h (added_same f a p) c in
    let some : on_wires f h.out ≡ Some [] = ap (on_wires f) e in
    cc (none, some)

-- a written gate that drives a net of the original is that of one of its gates
kept_gate : (a : Netlist ℕ) (p : PlanValue) (h : Gate Wire) (net : ℕ) → Contains (written_netlist a p).gates h → h.out ≡ Kept net → (g : Gate ℕ) × Contains a.gates g × (written_gate p g ≡ h) × (g.out ≡ net)
kept_gate a p h net c e = by (Contains-append_cases (map (written_gate p) a.gates) (test_gates a p) h c)
  where
    by : Contains (map (written_gate p) a.gates) h ⊎ Contains (test_gates a p) h → (g : Gate ℕ) × Contains a.gates g × (written_gate p g ≡ h) × (g.out ≡ net)
    by (inl own) =
        let g = of_map (written_gate p) a.gates h own in
        let out : Kept g.0.out ≡ Kept net = ap (λ (k : Gate Wire). k.out) g.2 ∙ e in
        (g.0, g.1, g.2, cc out)
    by (inr added) = absurd (never_kept a p h net added e)

behind_source : (kind : Kind) → is_behind kind ≡ true → is_source kind ≡ true
behind_source Input h = refl
behind_source State h = absurd (cc h)
behind_source Split h = absurd (cc h)
behind_source Cut h = refl
behind_source Watch h = absurd (cc h)
behind_source Output h = absurd (cc h)

source_flop : (kind : Kind) → is_source kind ≡ true → is_behind kind ≡ false → is_flop kind ≡ true
source_flop Input h k = absurd (cc k)
source_flop State h k = refl
source_flop Split h k = refl
source_flop Cut h k = absurd (cc k)
source_flop Watch h k = absurd (cc h)
source_flop Output h k = absurd (cc h)

-- the nets reached from a net that is no stop and that one gate drives
module _ {N : Type 0} (gates : List (Gate N)) (stop : N → Bool) (g : Gate N) (no_stop : stop g.out ≡ false) (c : Contains gates g) (only : (h : Gate N) → Contains gates h → h.out ≡ g.out → h ≡ g) where
  single : (m : N) → Contains (g.out ∷ []) m → g.out ≡ m
  single m h = by (either g.out [] m h)
    where
      by : (g.out ≡ m) ⊎ Contains [] m → g.out ≡ m
      by (inl e) = e
      by (inr none) = absurd (none_in m none)

  pub at_or_behind : (net : N) → IsReached gates stop (g.out ∷ []) net → (g.out ≡ net) ⊎ IsReached gates stop g.ins net
  at_or_behind net r = by r.path (subst (λ m. IsPathBack gates stop m r.path net) (sym (single r.first r.stands)) r.leads)
    where
      by : (path : List N) → IsPathBack gates stop g.out path net → (g.out ≡ net) ⊎ IsReached gates stop g.ins net
      by [] leads = inl leads
      by (next ∷ path) leads =
          let step = leads.1 in
          inr (record { first = next; stands = subst (λ (h : Gate N). Contains h.ins next) (only step.gate step.stands step.drives) step.reads; path = path; leads = leads.2 })

  pub behind_too : (net : N) → IsReached gates stop g.ins net → IsReached gates stop (g.out ∷ []) net
  behind_too net r = record { first = g.out; stands = here g.out []; path = r.first ∷ r.path; leads = (no_stop, record { gate = g; stands = c; drives = refl; reads = r.stands }, r.leads) }

-- where a line's walk starts, and which symbol the line is
pub data IsLine (a : Netlist ℕ) (p : PlanValue) (c : Cell) (start : Start ℕ) : Type 0 where
  AtRead : (net : ℕ) (within : net < length (driven a)) (begins : start ≡ AtNet net) (is : line a p c ≡ read p net) → IsLine a p c start
  AtGate : (g : Gate ℕ) (stands : Contains a.gates g) (begins : start ≡ Behind g) (is : line a p c ≡ Kept g.out) → IsLine a p c start

pub line_is : (a : Netlist ℕ) (p : PlanValue) (fits : IsNetlist a) (c : Cell) (start : Start ℕ) → Fits a c → IsStart a c start → IsLine a p c start
line_is a p fits c start may begins = by c.kind refl may begins
  where
    of_line : (kind : Kind) → c.kind ≡ kind → line a p c ≡ line_by kind a p c.net
    of_line kind k = ap (λ k. line_by k a p c.net) k

    at_d : IsQ a c.net → start ≡ AtNet (d_of a.flops c.net) → line a p c ≡ read p (d_of a.flops c.net) → IsLine a p c start
    at_d q e is =
        let stands = contains_at a.flops q.0 q.1.0 q.1.1 in
        let d : d_of a.flops c.net ≡ q.1.0.d = ap (d_of a.flops) (sym q.1.2) ∙ d_is a q.1.0 fits stands in
        AtRead (d_of a.flops c.net) (subst (λ n. n < length (driven a)) (sym d) (d_within a q.1.0 fits stands)) e is

    behind : StartsBehind a c.net start → line a p c ≡ Kept c.net → IsLine a p c start
    behind s is = AtGate s.0 s.1 s.3 (is ∙ ap Kept (sym s.2))

    by : (kind : Kind) → c.kind ≡ kind → MayStand a kind c.net → IsStartOf a kind c.net start → IsLine a p c start
    by Input k may s = absurd s
    by State k may s = at_d may s (of_line State k)
    by Split k may s = at_d may s (of_line Split k)
    by Watch k may s = at_d may s (of_line Watch k)
    by Cut k may s = behind s (of_line Cut k)
    by Output k may s = behind s (of_line Output k)

module _ (a : Netlist ℕ) (p : PlanValue) (fits : IsNetlist a) (kinds : Holds a p Kinds) (served : Holds a p Served) where
  -- a net that is no stop is read itself
  pub plain : (net : ℕ) → is_stop a p net ≡ false → read p net ≡ Kept net
  plain net no_stop = by (read_cases 0 (chain p) net)
    where
      by : ReadsBehind 0 (chain p) net (read p net) ⊎ ReadsItself (chain p) net (read p net) → read p net ≡ Kept net
      by (inl h) =
          let stops = source_stops a p net h.place fits kinds (record { source = h.cell; stands = h.at; generates = behind_source h.cell.kind h.behind; on = h.on }) in
          absurd (cc (stops, no_stop))
      by (inr h) = h.is

  module _ (stop : Wire → Bool) (stops : StopsAtReads a p stop) where
    -- the written walk stops at what is read of a net where the original's stops at the net
    pub stop_same : (net : ℕ) → net < length (driven a) → stop (read p net) ≡ is_stop a p net
    stop_same net within = same_bits (stop (read p net)) (is_stop a p net) forth back
      where
        forth : stop (read p net) ≡ true → is_stop a p net ≡ true
        forth e =
            let s = (stops (read p net) (read_has a p fits served net within)).0 e in
            let at = place_of (chain p) s.source s.stands in
            source_stops a p net at.0 fits kinds (record { source = s.source; stands = at.1; generates = s.generates; on = one_read p s.source.net net s.is })

        back : is_stop a p net ≡ true → stop (read p net) ≡ true
        back e =
            let s = source_at a p net fits served within e in
            (stops (read p net) (read_has a p fits served net within)).1 (record { source = s.1.source; stands = contains_at (chain p) s.0 s.1.source s.1.stands; generates = s.1.generates; is = ap (read p) s.1.on })

    -- and goes on at each gate's output
    pub passes_out : (g : Gate ℕ) → Contains a.gates g → stop (Kept g.out) ≡ false
    passes_out g c = never (stop (Kept g.out)) (λ e. none ((stops (Kept g.out) (out_has (written_netlist a p) (written_gate p g) (gate_there a p g c))).0 e))
      where
        at_flop : (s : Cell) → Contains (chain p) s → is_source s.kind ≡ true → ReadsBehind 0 (chain p) s.net (read p s.net) ⊎ ReadsItself (chain p) s.net (read p s.net) → read p s.net ≡ Kept g.out → ⊥
        at_flop s stands source (inl h) e = let both : Read (0 + h.place) ≡ Kept g.out = sym h.is ∙ e in cc both
        at_flop s stands source (inr h) e =
            let both : Kept s.net ≡ Kept g.out = sym h.is ∙ e in
            let net : s.net ≡ g.out = cc both in
            let at = place_of (chain p) s stands in
            let flop = source_flop s.kind source (h.none at.0 s at.1 refl) in
            driven_net a g c (ap (is_free a.gates) (sym net) ∙ flop_free a p at.0 s fits kinds at.1 flop)

        none : IsSourceRead p (Kept g.out) → ⊥
        none s = at_flop s.source s.stands s.generates (read_cases 0 (chain p) s.source.net) s.is

    gate_step : (net input : ℕ) → is_stop a p net ≡ false → Reads a.gates net input → Reads (written_netlist a p).gates (read p net) (read p input)
    gate_step net input no_stop r = record {
      gate = written_gate p r.gate;
      stands = gate_there a p r.gate r.stands;
      drives = ap Kept r.drives ∙ sym (plain net no_stop);
      reads = contains_map (read p) r.gate.ins input r.reads;
    }

    step_from : (net : ℕ) (w : Wire) → is_stop a p net ≡ false → Reads (written_netlist a p).gates (read p net) w → (input : ℕ) × Reads a.gates net input × (read p input ≡ w)
    step_from net w no_stop r =
        let g = kept_gate a p r.gate net r.stands (r.drives ∙ plain net no_stop) in
        let input = of_map (read p) g.0.ins w (subst (λ (k : Gate Wire). Contains k.ins w) (sym g.2) r.reads) in
        (input.0, record { gate = g.0; stands = g.1; drives = g.3; reads = input.1 }, input.2)

    agree : StepsAgree (λ net. net < length (driven a)) (read p) a.gates (is_stop a p) (written_netlist a p).gates stop
    agree = record {
      same = stop_same;
      forth = λ net input within no_stop r. (input_within a r.gate input fits r.stands r.reads, gate_step net input no_stop r);
      back = λ net w within no_stop r. step_from net w no_stop r;
    }

    -- walks whose starts are what is read of the original's
    module _ (start : Start ℕ) (other : Start Wire) (from : starts other ≡ map (read p) (starts start)) (within : AllByRecursion (λ net. net < length (driven a)) (starts start)) where
      passed_forth : (h : Gate Wire) → Contains (written_netlist a p).gates h → LiesBehind (written_netlist a p).gates stop other h → (g : Gate ℕ) × Contains a.gates g × LiesBehind a.gates (is_stop a p) start g × (written_gate p g ≡ h)
      passed_forth h c lies =
          let r = first_passes (λ net. net < length (driven a)) (read p) a.gates (is_stop a p) (written_netlist a p).gates stop agree start other from within h lies in
          let g = kept_gate a p h r.0 c (sym r.4 ∙ plain r.0 r.3) in
          (g.0, g.1, subst (λ n. IsReached a.gates (is_stop a p) (starts start) n × (is_stop a p n ≡ false)) (sym g.3) (r.2, r.3), g.2)

      passed_back : (g : Gate ℕ) → LiesBehind a.gates (is_stop a p) start g → LiesBehind (written_netlist a p).gates stop other (written_gate p g)
      passed_back g lies =
          other_passes (λ net. net < length (driven a)) (read p) a.gates (is_stop a p) (written_netlist a p).gates stop agree start other from within g (written_gate p g) (plain g.out lies.1) lies

      leaves_same : (w : Wire) → IsLeaf (written_netlist a p).gates stop other w ↔ ((net : ℕ) × IsLeaf a.gates (is_stop a p) start net × (read p net ≡ w))
      leaves_same w = leaves_agree (λ net. net < length (driven a)) (read p) a.gates (is_stop a p) (written_netlist a p).gates stop agree start other from within w

      ends_there : (w : Wire) → IsReached (written_netlist a p).gates stop (starts other) w → (stop w ≡ true) ⊎ ((g : Gate Wire) × Contains (written_netlist a p).gates g × (g.out ≡ w))
      ends_there w r = by (is_stop a p there.net) refl
        where
          there : IsReachedImage (λ net. net < length (driven a)) (read p) a.gates (is_stop a p) (starts start) w
          there = first_reached (λ net. net < length (driven a)) (read p) a.gates (is_stop a p) (written_netlist a p).gates stop agree start other from within w r

          by : (b : Bool) → is_stop a p there.net ≡ b → (stop w ≡ true) ⊎ ((g : Gate Wire) × Contains (written_netlist a p).gates g × (g.out ≡ w))
          by true stopped = inl (sym (ap stop there.is) ∙ stop_same there.net there.stands_net ∙ stopped)
          by false no_stop =
              let d = open_net there.net no_stop in
              inr (written_gate p d.0, gate_there a p d.0 d.1, ap Kept d.2 ∙ sym (plain there.net no_stop) ∙ there.is)
            where
              open_net : (net : ℕ) → is_stop a p net ≡ false → (g : Gate ℕ) × Contains a.gates g × (g.out ≡ net)
              open_net net no_stop = go (is_free a.gates net) refl
                where
                  go : (b : Bool) → is_free a.gates net ≡ b → (g : Gate ℕ) × Contains a.gates g × (g.out ≡ net)
                  go true free = let s = free_stops a p net free in absurd (cc (s, no_stop))
                  go false not_free = driver_of net a.gates not_free

    -- the segment of a line that is what is read of a net
    same_at_net : (c : Cell) (net : ℕ) → net < length (driven a) → line a p c ≡ read p net → HasSameSegment a p stop c (AtNet net)
    same_at_net c net within is =
        let from : starts (AtNet (line a p c)) ≡ map (read p) (starts (AtNet net)) = λ i. is i ∷ [] in
        let all : AllByRecursion (λ net. net < length (driven a)) (net ∷ []) = (within, tt) in
        let other : Start Wire = AtNet (line a p c) in
        record {
          passed = λ h c. (passed_forth (AtNet net) other from all h c, λ g. subst (LiesBehind (written_netlist a p).gates stop other) g.3 (passed_back (AtNet net) other from all g.0 g.2));
          leaves = leaves_same (AtNet net) other from all;
          ends = ends_there (AtNet net) other from all;
        }

    -- and of one that is a gate's output
    module _ (c : Cell) (g : Gate ℕ) (stands : Contains a.gates g) (is : line a p c ≡ Kept g.out) where
      all_within : AllByRecursion (λ net. net < length (driven a)) g.ins
      all_within = to_all (λ net. net < length (driven a)) g.ins (λ net i. input_within a g net fits stands i)

      only : (h : Gate Wire) → Contains (written_netlist a p).gates h → h.out ≡ Kept g.out → h ≡ written_gate p g
      only h c e =
          let k = kept_gate a p h g.out c e in
          sym k.2 ∙ ap (written_gate p) (one_gate a k.0 g fits k.1 stands k.3)

      reached_cases : (w : Wire) → IsReached (written_netlist a p).gates stop (line a p c ∷ []) w → (Kept g.out ≡ w) ⊎ IsReached (written_netlist a p).gates stop (map (read p) g.ins) w
      reached_cases w r =
          at_or_behind (written_netlist a p).gates stop (written_gate p g) (passes_out g stands) (gate_there a p g stands) only w (subst (λ l. IsReached (written_netlist a p).gates stop (l ∷ []) w) is r)

      reached_in : (w : Wire) → IsReached (written_netlist a p).gates stop (map (read p) g.ins) w → IsReached (written_netlist a p).gates stop (line a p c ∷ []) w
      reached_in w r =
          subst (λ l. IsReached (written_netlist a p).gates stop (l ∷ []) w) (sym is) (behind_too (written_netlist a p).gates stop (written_gate p g) (passes_out g stands) (gate_there a p g stands) only w r)

      same_behind : HasSameSegment a p stop c (Behind g)
      same_behind = record {
        passed = λ h k. (
          λ lies. forth h k lies.1 (reached_cases h.out lies.0),
          λ t. subst (LiesBehind (written_netlist a p).gates stop (AtNet (line a p c))) t.3 (back t.0 t.2),
        );
        leaves = λ w. (
          λ leaf. (leaves_same (Behind g) (Behind (written_gate p g)) refl all_within w).0 (no_line w leaf.1 (reached_cases w leaf.0), leaf.1),
          λ t. let leaf = (leaves_same (Behind g) (Behind (written_gate p g)) refl all_within w).1 t in (reached_in w leaf.0, leaf.1),
        );
        ends = λ w r. ends w (reached_cases w r);
      }
        where
          forth : (h : Gate Wire) → Contains (written_netlist a p).gates h → stop h.out ≡ false → (Kept g.out ≡ h.out) ⊎ IsReached (written_netlist a p).gates stop (map (read p) g.ins) h.out
              → (k : Gate ℕ) × Contains a.gates k × LiesIn a.gates (is_stop a p) (Behind g) k × (written_gate p k ≡ h)
          forth h k no_stop (inl e) = (g, stands, inl refl, sym (only h k (sym e)))
          forth h k no_stop (inr r) = let f = passed_forth (Behind g) (Behind (written_gate p g)) refl all_within h k (r, no_stop) in (f.0, f.1, inr f.2, f.3)

          back : (k : Gate ℕ) → LiesIn a.gates (is_stop a p) (Behind g) k → LiesBehind (written_netlist a p).gates stop (AtNet (line a p c)) (written_gate p k)
          back k (inl e) =
              let own : LiesBehind (written_netlist a p).gates stop (AtNet (line a p c)) (written_gate p g) =
              (subst (IsReached (written_netlist a p).gates stop (line a p c ∷ [])) is (reached_here (written_netlist a p).gates stop (line a p c ∷ []) (line a p c) (here (line a p c) [])), passes_out g stands) in
              subst (λ (k : Gate ℕ). LiesBehind (written_netlist a p).gates stop (AtNet (line a p c)) (written_gate p k)) (sym e) own
          back k (inr lies) = let f = passed_back (Behind g) (Behind (written_gate p g)) refl all_within k lies in (reached_in (Kept k.out) f.0, f.1)

          no_line : (w : Wire) → stop w ≡ true → (Kept g.out ≡ w) ⊎ IsReached (written_netlist a p).gates stop (map (read p) g.ins) w → IsReached (written_netlist a p).gates stop (map (read p) g.ins) w
          no_line w stopped (inl e) = let open_out : stop w ≡ false = sym (ap stop e) ∙ passes_out g stands in absurd (cc (open_out, stopped))
          no_line w stopped (inr r) = r

          ends : (w : Wire) → (Kept g.out ≡ w) ⊎ IsReached (written_netlist a p).gates stop (map (read p) g.ins) w → (stop w ≡ true) ⊎ ((h : Gate Wire) × Contains (written_netlist a p).gates h × (h.out ≡ w))
          ends w (inl e) = inr (written_gate p g, gate_there a p g stands, e)
          ends w (inr r) = ends_there (Behind g) (Behind (written_gate p g)) refl all_within w r

    -- each line has the original's segment
    pub segments_agree : (i : ℕ) (c : Cell) (start : Start ℕ) → slice_get (chain p) i ≡ Some c → IsStart a c start → HasSameSegment a p stop c start
    segments_agree i c start at begins = by (line_is a p fits c start (kinds i c at) begins)
      where
        by : IsLine a p c start → HasSameSegment a p stop c start
        by (AtRead net within e is) = subst (HasSameSegment a p stop c) (sym e) (same_at_net c net within is)
        by (AtGate g stands e is) = subst (HasSameSegment a p stop c) (sym e) (same_behind c g stands is)
