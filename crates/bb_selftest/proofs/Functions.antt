-- A line's function at sites is its function in the original, whatever the gates mean.
use Rattle.std.proofs.Common.{◌≡◌, ◌↔◌, ◌⊎◌, inl, inr, ℕ, zero, suc, ◌+◌, ◌<◌, List, [], ◌∷◌, length, map, if◌then◌else◌, Bool, true, false, refl, sym, ap, subst, ◌∙◌, arith, Contains, slice_get, Some}
use Rattle.std.specs.List.{range_with_len}
use Rattle.bb_base.proofs.Contained.{here, there, either, none_in, of_all, map_on}
use Rattle.bb_base.proofs.Lists.{map_twice}
use Rattle.bb_base.specs.Net.{Gate, Netlist, driven, IsNetlist}
use Rattle.bb_base.specs.Named.{Named, IsNamed}
use Rattle.bb_net.specs.Sites.{Site, sited}
use Rattle.bb_net.proofs.SiteLemmas.{site_decides}
use Rattle.bb_terms.specs.Paths.{Start, AtNet, Behind, starts, IsPathBack, IsReached, LiesBehind, LiesIn}
use Rattle.bb_terms.specs.Function.{line_bit, IsBitOf}
use Rattle.bb_terms.proofs.PathLemmas.{reached_here, reached_more}
use Rattle.bb_terms.specs.declared.plan.Cell.{Cell}
use Rattle.bb_terms.specs.Plan.{PlanValue, chain}
use Rattle.bb_terms.specs.Lines.{is_stop, IsStart}
use Rattle.bb_terms.specs.Rules.{Kinds, Served, net_numbers}
use Rattle.bb_terms.specs.Valid.{IsValidPlan}
use Rattle.bb_terms.proofs.NetLemmas.{input_within, out_within}
use Rattle.bb_terms.specs.declared.wire.Wire.TheVariants.{Kept}
use Rattle.bb_terms.specs.Reads.{read}
use Rattle.bb_written.specs.Written.{wire_site, written_gate, written_netlist, written}
use Rattle.bb_normal.specs.Mirrors.{Mirrors}
use Rattle.bb_ctl.specs.OwnNames.{HasOwnNames}
use Rattle.bb_normal.proofs.Standing.{written_sites_differ}
use Rattle.bb_selftest.specs.WrittenLines.{read_site, line_site, same_site, is_read_site, sited_gate}
use Rattle.bb_selftest.specs.WrittenSegments.{HasSegment}
use Rattle.bb_selftest.proofs.Standing.{ReadsBehind, ReadsItself, read_cases, one_read, gate_there, out_has, read_has}
use Rattle.bb_selftest.proofs.Agreement.{IsLine, AtRead, AtGate, line_is, plain, stop_same, passes_out}
use Rattle.bb_selftest.proofs.AtSites.{stops_here, reads_stop, has_segment, sited_stands}

lies_in : (gates : List (Gate ℕ)) (stop : ℕ → Bool) (start : Start ℕ) (g : Gate ℕ) → LiesBehind gates stop start g → LiesIn gates stop start g
lies_in gates stop (AtNet net) g h = h
lies_in gates stop (Behind own) g h = inr h

-- the bit that the first of these nets with this site has
abbrev bit_at : (ℕ → Site) → (ℕ → Bool) → List ℕ → Site → Bool
bit_at site v [] s = false
bit_at site v (net ∷ more) s = if same_site s (site net) then v net else bit_at site v more s

bit_is : (site : ℕ → Site) (v : ℕ → Bool) (nets : List ℕ) (net : ℕ) → ((m : ℕ) → Contains nets m → site m ≡ site net → m ≡ net) → Contains nets net → bit_at site v nets (site net) ≡ v net
bit_is site v [] net one c = absurd (none_in net c)
bit_is site v (m ∷ more) net one c = by (same_site (site net) (site m)) refl (either m more net c) (λ c. bit_is site v more net (λ k h. one k (there m more k h)) c)
  where
    by : (b : Bool) → same_site (site net) (site m) ≡ b → (m ≡ net) ⊎ Contains more net → (Contains more net → bit_at site v more (site net) ≡ v net) → (if b then v m else bit_at site v more (site net)) ≡ v net
    by true same h rest = ap v (one m (here m more) (sym ((site_decides (site net) (site m)).0 same)))
    by false other (inl e) rest = absurd (let same = (site_decides (site net) (site m)).1 (ap site (sym e)) in cc (same, other))
    by false other (inr h) rest = rest h

numbers_from : (first count i : ℕ) → i < count → Contains (range_with_len first count) (first + i)
numbers_from first zero i less = absurd (omega (arith, less))
numbers_from first (suc count) zero less = let e : first ≡ first + 0 = omega arith in subst (Contains (range_with_len first (suc count))) e (here first (range_with_len (first + 1) count))
numbers_from first (suc count) (suc i) less =
    let e : (first + 1) + i ≡ first + suc i = omega arith in
    there first (range_with_len (first + 1) count) (first + suc i) (subst (Contains (range_with_len (first + 1) count)) e (numbers_from (first + 1) count i (omega (arith, less))))

numbers_below : (first count m : ℕ) → Contains (range_with_len first count) m → m < first + count
numbers_below first zero m h = absurd (none_in m h)
numbers_below first (suc count) m h = by (either first (range_with_len (first + 1) count) m h) (λ h. numbers_below (first + 1) count m h)
  where
    by : (first ≡ m) ⊎ Contains (range_with_len (first + 1) count) m → (Contains (range_with_len (first + 1) count) m → m < (first + 1) + count) → m < first + suc count
    by (inl e) rest = omega (arith, e)
    by (inr h) rest = let less = rest h in omega (arith, less)

-- nets reached from nets are nets
path_within : (a : Netlist ℕ) (stop : ℕ → Bool) (path : List ℕ) (net last : ℕ) → IsNetlist a → net < length (driven a) → IsPathBack a.gates stop net path last → last < length (driven a)
path_within a stop [] net last fits within h = subst (λ n. n < length (driven a)) h within
path_within a stop (next ∷ path) net last fits within h = path_within a stop path next last fits (input_within a h.1.gate next fits h.1.stands h.1.reads) h.2

module _ (a b : Named) (p : PlanValue) (named : IsNamed a) (own : HasOwnNames a) (valid : IsValidPlan a.netlist p) (m : Mirrors (written a p) b) (i : ℕ) (c : Cell) (start : Start ℕ) (at : slice_get (chain p) i ≡ Some c)
    (begins : IsStart a.netlist c start) (gives : Gate Site → List Bool → Bool) (bits : Site → Bool) (bit : Bool) where
  segment : HasSegment a b p c start
  segment = has_segment a b p named own valid m i c start at begins

  its_line : IsLine a.netlist p c start
  its_line = line_is a.netlist p named.netlist c start (valid.meets Kinds i c at) begins

  -- a passed gate's output is read itself
  out_site : (g : Gate ℕ) → LiesBehind a.netlist.gates (is_stop a.netlist p) start g → read_site a p g.out ≡ wire_site a (Kept g.out)
  out_site g lies = ap (wire_site a) (plain a.netlist p named.netlist (valid.meets Kinds) (valid.meets Served) g.out lies.1)

  ins_twice : (w : Site → Bool) (g : Gate ℕ) → map w (sited_gate a p g).ins ≡ map (λ net. w (read_site a p net)) g.ins
  ins_twice w g = map_twice w (wire_site a) (map (read p) g.ins) ∙ map_twice (λ v. w (wire_site a v)) (read p) g.ins

  -- from the written netlist to the original
  module _ (h : IsBitOf gives (sited b).netlist.gates (is_read_site a p) (AtNet (line_site a p c)) bits bit) where
    meets_there : (g : Gate ℕ) → Contains a.netlist.gates g → LiesIn a.netlist.gates (is_stop a.netlist p) start g → h.w (wire_site a (Kept g.out)) ≡ gives (sited_gate a p g) (map (λ net. h.w (read_site a p net)) g.ins)
    meets_there g stands lies =
        let stands_there = sited_stands a b p named own valid m g stands in
        h.assigns.passed (sited_gate a p g) stands_there ((segment.passed (sited_gate a p g) stands_there).1 (g, stands, lies, refl)) ∙ ap (gives (sited_gate a p g)) (ins_twice h.w g)

    to_original : IsBitOf (λ g. gives (sited_gate a p g)) a.netlist.gates (is_stop a.netlist p) start (λ net. bits (read_site a p net)) bit
    to_original = record {
      w = λ net. h.w (read_site a p net);
      assigns = record {
        leaves = λ net leaf. h.assigns.leaves (read_site a p net) ((segment.leaves (read_site a p net)).1 (net, leaf, refl));
        passed = λ g stands lies. ap h.w (out_site g lies) ∙ meets_there g stands (lies_in a.netlist.gates (is_stop a.netlist p) start g lies);
      };
      is = ends its_line;
    }
      where
        ends : IsLine a.netlist p c start → line_bit (λ g. gives (sited_gate a p g)) start (λ net. h.w (read_site a p net)) ≡ bit
        ends (AtRead net within e is) = ap (λ s. line_bit (λ g. gives (sited_gate a p g)) s (λ net. h.w (read_site a p net))) e ∙ ap (λ v. h.w (wire_site a v)) (sym is) ∙ h.is
        ends (AtGate g stands e is) =
            ap (λ s. line_bit (λ g. gives (sited_gate a p g)) s (λ net. h.w (read_site a p net))) e
            ∙ sym (meets_there g stands (subst (λ s. LiesIn a.netlist.gates (is_stop a.netlist p) s g) (sym e) (inl refl))) ∙ ap (λ v. h.w (wire_site a v)) (sym is) ∙ h.is

  -- and back
  module _ (h : IsBitOf (λ g. gives (sited_gate a p g)) a.netlist.gates (is_stop a.netlist p) start (λ net. bits (read_site a p net)) bit) where
    -- the bit of a site: the line's, or that of the net that is read there
    abbrev bit_there : Site → Bool
    bit_there s = if same_site s (line_site a p c) then bit else bit_at (read_site a p) h.w (net_numbers a.netlist) s

    at_line : bit_there (line_site a p c) ≡ bit
    at_line = ap (λ (t : Bool). if t then bit else bit_at (read_site a p) h.w (net_numbers a.netlist) (line_site a p c)) ((site_decides (line_site a p c) (line_site a p c)).1 refl)

    one_net : (x y : ℕ) → x < length (driven a.netlist) → y < length (driven a.netlist) → read_site a p x ≡ read_site a p y → x ≡ y
    one_net x y hx hy e =
        one_read p x y
        (written_sites_differ a p (read p x) (read p y) named own valid (read_has a.netlist p named.netlist (valid.meets Served) x hx) (read_has a.netlist p named.netlist (valid.meets Served) y hy) e)

    -- the line has its bit at a net that is read there
    line_too : (net : ℕ) → net < length (driven a.netlist) → IsReached a.netlist.gates (is_stop a.netlist p) (starts start) net → line_site a p c ≡ read_site a p net → bit ≡ h.w net
    line_too net within reached same = by its_line
      where
        by : IsLine a.netlist p c start → bit ≡ h.w net
        by (AtRead d within_d e is) =
            let net_is : d ≡ net = one_net d net within_d within (ap (wire_site a) (sym is) ∙ same) in
            sym h.is ∙ ap (λ s. line_bit (λ g. gives (sited_gate a p g)) s h.w) e ∙ ap h.w net_is
        by (AtGate g stands e is) = found (read_cases 0 (chain p) net)
          where
            read_is : Kept g.out ≡ read p net
            read_is = written_sites_differ a p (Kept g.out) (read p net) named own valid (out_has (written_netlist a.netlist p) (written_gate p g) (gate_there a.netlist p g stands)) (read_has a.netlist p named.netlist (valid.meets Served) net within) (ap (wire_site a) (sym is) ∙ same)

            found : ReadsBehind 0 (chain p) net (read p net) ⊎ ReadsItself (chain p) net (read p net) → bit ≡ h.w net
            found (inl k) = let both = read_is ∙ k.is in absurd (cc both)
            found (inr k) =
                let both : Kept g.out ≡ Kept net = read_is ∙ k.is in
                let net_is : g.out ≡ net = cc both in
                let no_stop : is_stop a.netlist p net ≡ false =
                sym (stop_same a.netlist p named.netlist (valid.meets Kinds) (valid.meets Served) (stops_here a p) (reads_stop a p named own valid) net within) ∙ ap (stops_here a p) (sym read_is)
                ∙ passes_out a.netlist p named.netlist (valid.meets Kinds) (valid.meets Served) (stops_here a p) (reads_stop a p named own valid) g stands in
                let lies : LiesBehind a.netlist.gates (is_stop a.netlist p) start g = subst (λ n. IsReached a.netlist.gates (is_stop a.netlist p) (starts start) n × (is_stop a.netlist p n ≡ false)) (sym net_is) (reached, no_stop) in
                sym h.is ∙ ap (λ s. line_bit (λ g. gives (sited_gate a p g)) s h.w) e ∙ sym (h.assigns.passed g stands lies) ∙ ap h.w net_is

    -- what is read of a net that is reached has the net's bit
    bit_of_read : (net : ℕ) → net < length (driven a.netlist) → IsReached a.netlist.gates (is_stop a.netlist p) (starts start) net → bit_there (read_site a p net) ≡ h.w net
    bit_of_read net within reached = by (same_site (read_site a p net) (line_site a p c)) refl
      where
        there_is : bit_at (read_site a p) h.w (net_numbers a.netlist) (read_site a p net) ≡ h.w net
        there_is =
            let e : 0 + net ≡ net = omega arith in
            bit_is (read_site a p) h.w (net_numbers a.netlist) net
            (λ k stands same. let below = numbers_below 0 (length (driven a.netlist)) k stands in one_net k net (omega (arith, below)) within same)
            (subst (Contains (net_numbers a.netlist)) e (numbers_from 0 (length (driven a.netlist)) net within))

        by : (b : Bool) → same_site (read_site a p net) (line_site a p c) ≡ b → (if b then bit else bit_at (read_site a p) h.w (net_numbers a.netlist) (read_site a p net)) ≡ h.w net
        by true same = line_too net within reached (sym ((site_decides (read_site a p net) (line_site a p c)).0 same))
        by false other = there_is

    starts_inside : (net : ℕ) → Contains (starts start) net → net < length (driven a.netlist)
    starts_inside net stands = by its_line
      where
        by : IsLine a.netlist p c start → net < length (driven a.netlist)
        by (AtRead d within e is) = of_all (λ n. n < length (driven a.netlist)) (d ∷ []) net (within, tt) (subst (λ s. Contains (starts s) net) e stands)
        by (AtGate g there e is) = input_within a.netlist g net named.netlist there (subst (λ s. Contains (starts s) net) e stands)

    reached_within : (net : ℕ) → IsReached a.netlist.gates (is_stop a.netlist p) (starts start) net → net < length (driven a.netlist)
    reached_within net r = path_within a.netlist (is_stop a.netlist p) r.path r.first net named.netlist (starts_inside r.first r.stands) r.leads

    -- what a gate of the segment reads is reached
    input_reached : (s : Start ℕ) (g : Gate ℕ) (net : ℕ) → Contains a.netlist.gates g → LiesIn a.netlist.gates (is_stop a.netlist p) s g → Contains g.ins net → IsReached a.netlist.gates (is_stop a.netlist p) (starts s) net
    input_reached (AtNet d) g net stands lies reads = reached_more a.netlist.gates (is_stop a.netlist p) (d ∷ []) g.out net lies.0 lies.1 (record { gate = g; stands = stands; drives = refl; reads = reads })
    input_reached (Behind k) g net stands (inl e) reads = reached_here a.netlist.gates (is_stop a.netlist p) k.ins net (subst (λ (x : Gate ℕ). Contains x.ins net) e reads)
    input_reached (Behind k) g net stands (inr lies) reads = reached_more a.netlist.gates (is_stop a.netlist p) k.ins g.out net lies.0 lies.1 (record { gate = g; stands = stands; drives = refl; reads = reads })

    ins_same : (g : Gate ℕ) → Contains a.netlist.gates g → LiesIn a.netlist.gates (is_stop a.netlist p) start g → map bit_there (sited_gate a p g).ins ≡ map h.w g.ins
    ins_same g stands lies =
        ins_twice bit_there g
        ∙ map_on (λ net. bit_there (read_site a p net)) h.w g.ins (λ net reads. let r = input_reached start g net stands lies reads in bit_of_read net (reached_within net r) r)

    -- a gate's output has the bit that it gives
    out_bit : (g : Gate ℕ) → Contains a.netlist.gates g → LiesIn a.netlist.gates (is_stop a.netlist p) start g → bit_there (wire_site a (Kept g.out)) ≡ gives (sited_gate a p g) (map h.w g.ins)
    out_bit g stands lies = by its_line
      where
        behind : LiesBehind a.netlist.gates (is_stop a.netlist p) start g → bit_there (wire_site a (Kept g.out)) ≡ gives (sited_gate a p g) (map h.w g.ins)
        behind k = ap bit_there (sym (out_site g k)) ∙ bit_of_read g.out (out_within a.netlist g named.netlist stands) k.0 ∙ h.assigns.passed g stands k

        by : IsLine a.netlist p c start → bit_there (wire_site a (Kept g.out)) ≡ gives (sited_gate a p g) (map h.w g.ins)
        by (AtRead d within e is) = behind (subst (λ s. LiesBehind a.netlist.gates (is_stop a.netlist p) s g) (sym e) (subst (λ s. LiesIn a.netlist.gates (is_stop a.netlist p) s g) e lies))
        by (AtGate k there e is) = own_or (subst (λ s. LiesIn a.netlist.gates (is_stop a.netlist p) s g) e lies)
          where
            own_or : (g ≡ k) ⊎ LiesBehind a.netlist.gates (is_stop a.netlist p) (Behind k) g → bit_there (wire_site a (Kept g.out)) ≡ gives (sited_gate a p g) (map h.w g.ins)
            own_or (inl same) =
                ap (λ (x : Gate ℕ). bit_there (wire_site a (Kept x.out))) same ∙ ap (λ v. bit_there (wire_site a v)) (sym is) ∙ at_line ∙ sym h.is ∙ ap (λ s. line_bit (λ g. gives (sited_gate a p g)) s h.w) e
                ∙ ap (λ (x : Gate ℕ). gives (sited_gate a p x) (map h.w x.ins)) (sym same)
            own_or (inr lies) = behind (subst (λ s. LiesBehind a.netlist.gates (is_stop a.netlist p) s g) (sym e) lies)

    from_original : IsBitOf gives (sited b).netlist.gates (is_read_site a p) (AtNet (line_site a p c)) bits bit
    from_original = record {
      w = bit_there;
      assigns = record {
        leaves = λ s leaf.
            let net = (segment.leaves s).0 leaf in
            ap bit_there (sym net.2) ∙ bit_of_read net.0 (reached_within net.0 net.1.0) net.1.0 ∙ h.assigns.leaves net.0 net.1 ∙ ap bits net.2;
        passed = λ k stands lies.
            let g = (segment.passed k stands).0 lies in
            subst (λ (x : Gate Site). bit_there x.out ≡ gives x (map bit_there x.ins)) g.3 (out_bit g.0 g.1 g.2 ∙ sym (ap (gives (sited_gate a p g.0)) (ins_same g.0 g.1 g.2)));
      };
      is = at_line;
    }

  pub functions_agree : IsBitOf gives (sited b).netlist.gates (is_read_site a p) (AtNet (line_site a p c)) bits bit ↔ IsBitOf (λ g. gives (sited_gate a p g)) a.netlist.gates (is_stop a.netlist p) start (λ net. bits (read_site a p net)) bit
  functions_agree = (to_original, from_original)
