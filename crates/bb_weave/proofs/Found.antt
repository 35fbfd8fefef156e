-- Each driven symbol has a net, which stands where the symbol does.
use Rattle.std.proofs.Common.{arith, ◌≡◌, ◌≢◌, ℕ, ◌+◌, ◌<◌, ◌≤◌, zero, suc, nat_lt, List, [], ◌∷◌, ◌++◌, map, filter, take, drop, length, length-append, AllPairs, Bool, true, false, not, cond, None, Some, slice_get, slice_index, get_or, position, refl, sym, ap, subst, ◌∙◌, Contains}
use Rattle.std.proofs.lemmas.Bool.Decides.{nat_tests}
use Rattle.std.proofs.lemmas.List.Quantifiers.{position-Some}
use Rattle.std.proofs.lemmas.Option.{slice_get_within, get_or_from_slice_get, slice_get-get_or}
use Rattle.std.proofs.lemmas.Slice.Eq.{bytes_eq-Decides}
use Rattle.std.specs.List.{AllByRecursion, position_or_len, range_with_len}
use Rattle.std.specs.Str.{bytes_eq}
use Rattle.bb_base.specs.declared.variable.BitName.{BitName}
use Rattle.bb_base.specs.declared.variable.Role.TheVariants.{Input, Output}
use Rattle.bb_base.specs.Variables.{Entry, IsBit, bit_at, bit_eq, is_port, ports_of, role_bits}
use Rattle.bb_base.proofs.BitLemmas.{found_bit}
use Rattle.bb_base.proofs.Contained.{of_all, to_all, contains_map, place_of}
use Rattle.bb_base.proofs.Lists.{all_join, all_map_back, get_front, get_back, get_map, map_join}
use Rattle.bb_base.specs.Net.{Gate, Flop, driven}
use Rattle.bb_base.specs.Named.{Named, IsNamed, name_of_net, lookup_of}
use Rattle.bb_net.specs.Sites.{site_in, site_of, site_of_bit}
use Rattle.bb_net.proofs.Renaming.{OfAllNets}
use Rattle.bb_terms.specs.Plan.{PlanValue}
use Rattle.bb_terms.specs.Valid.{IsValidPlan}
use Rattle.bb_terms.specs.declared.wire.Wire.{Wire}
use Rattle.bb_terms.specs.declared.wire.Wire.TheVariants.{Kept, Test, Init, So, Done, NotInit, NotTest, Go, NotGo, Parity, Low, Feed, Word, WordNext, Wrap, Phase, PhaseTurned, PhaseNext, Advance, NotAdvance, Ring, RingKept, RingMoved, RingOr, RingNext, NotOver, Live, NotPhase, Running, Shifting, On, Compacts, Latches, Takes, Off, Codes, Feedback, Signed, Carried, First, Line, Chain, Code, Coded, Next, InTest, InNormal, Read, Held}
use Rattle.bb_terms.specs.Wires.{symbol_name}
use Rattle.bb_terms.specs.Numbering.{found_net, net_by, net_for, number_or_zero}
use Rattle.bb_ctl.proofs.SymbolNames.{added_is_new}
use Rattle.bb_written.specs.Cells.{flops}
use Rattle.bb_written.specs.Written.{test_gates, written_gate, written_netlist, is_inner, inner_wires, scalar_entry, scalar_site, added_clock, added_ports, inner_entry, written_variables}
use Rattle.bb_normal.proofs.Numbered.{IsNumbered}
use Rattle.bb_normal.proofs.Ranks.{New, Side, IsKept, IsNew, is_new, side}
use Rattle.bb_normal.proofs.Standing.{all_of}
use Rattle.bb_written.proofs.Rising.{out_of, q_in}
use Rattle.bb_lay.specs.Laying.{AreKept, new_number, laid_bits, all_net_bits, scalar_bits, wires_from}
use Rattle.bb_lay.proofs.Clocks.{front_long, ports_within}
use Rattle.bb_lay.proofs.KeptNets.{in_first, in_second, in_range, in_filter, moved_stands}
use Rattle.bb_lay.proofs.Stand.{laid_are}
use Rattle.bb_weave.proofs.Filled.{IsFound}

-- some item is found where one passes
place_le : {X : Type 0} (p : X → Bool) (xs : List X) (i : ℕ) (x : X) → slice_get xs i ≡ Some x → p x ≡ true → position_or_len p xs ≤ i
place_le p [] i x h t = absurd (cc h)
place_le p (y ∷ ys) zero x h t =
    let same : y ≡ x = cc h in
    let pass : p y ≡ true = ap p same ∙ t in
    rw pass (omega arith)
place_le p (y ∷ ys) (suc i) x h t = go (p y) (place_le p ys i x h t)
  where
    go : (b : Bool) → position_or_len p ys ≤ i → cond (not b) (1 + position_or_len p ys) 0 ≤ suc i
    go true le = omega arith
    go false le = omega arith

found_at : (k n : ℕ) → k < n → cond (nat_lt k n) (Some k) None ≡ Some k
found_at k n h = let t : nat_lt k n ≡ true = grind (arith, nat_tests) in rw t refl

position_found : {X : Type 0} (p : X → Bool) (xs : List X) (i : ℕ) (x : X) → slice_get xs i ≡ Some x → p x ≡ true → (k : ℕ) × (position p xs ≡ Some k)
position_found p xs i x h t =
    let le = place_le p xs i x h t in
    let within = slice_get_within xs i x h in
    (position_or_len p xs, found_at (position_or_len p xs) (length xs) (omega arith))

-- where no two variables have one name, the one that is found has it
same_place : (vs : List Entry) → AllPairs (λ v w. v.0 ≢ w.0) vs → (i j : ℕ) (v w : Entry) → slice_get vs i ≡ Some v → slice_get vs j ≡ Some w → v.0 ≡ w.0 → i ≡ j
same_place vs apart i j v w at there same = by (nat_lt i j) (nat_lt j i) refl refl
  where
    first : get_or vs i v ≡ v
    first = get_or_from_slice_get vs i v v at

    second : get_or vs j v ≡ w
    second = get_or_from_slice_get vs j w v there

    by : (s t : Bool) → nat_lt i j ≡ s → nat_lt j i ≡ t → i ≡ j
    by true t e f = absurd (apart i j v (let less : i < j = grind (arith, nat_tests, e) in less) (slice_get_within vs j w there) (ap (λ (k : Entry). k.0) first ∙ same ∙ sym (ap (λ (k : Entry). k.0) second)))
    by false true e f = absurd (apart j i v (let less : j < i = grind (arith, nat_tests, f) in less) (slice_get_within vs i v at) (ap (λ (k : Entry). k.0) second ∙ sym same ∙ sym (ap (λ (k : Entry). k.0) first)))
    by false false e f =
        let low : j ≤ i = grind (arith, nat_tests, e) in
        let high : i ≤ j = grind (arith, nat_tests, f) in
        omega (arith, low, high)

map_at : {X Y : Type 0} (f : X → Y) (xs : List X) (i : ℕ) (x : X) → slice_get xs i ≡ Some x → slice_get (map f xs) i ≡ Some (f x)
map_at f [] i x h = absurd (cc h)
map_at f (y ∷ ys) zero x h = let same : y ≡ x = cc h in ap (λ k. Some (f k)) same
map_at f (y ∷ ys) (suc i) x h = map_at f ys i x h

-- a variable is found by its name
lookup_is : (b : Named) → AllPairs (λ v w. v.0 ≢ w.0) b.variables → (j : ℕ) (e : Entry) → slice_get b.variables j ≡ Some e → lookup_of e.0 b ≡ Some j
lookup_is b apart j e at =
    let names : List (List ℕ) = map (λ (v : Entry). v.0) b.variables in
    let found = position_found (bytes_eq e.0) names j e.0 (map_at (λ (v : Entry). v.0) b.variables j e at) ((bytes_eq-Decides e.0 e.0).1 refl) in
    let first = position-Some (bytes_eq e.0) names found.0 e.0 found.1 in
    let here : slice_get names found.0 ≡ Some (get_or names found.0 e.0) = slice_get-get_or names found.0 e.0 first.0 in
    let same : e.0 ≡ get_or names found.0 e.0 = (bytes_eq-Decides e.0 (get_or names found.0 e.0)).0 first.1 in
    let entry = get_map (λ (v : Entry). v.0) b.variables found.0 (get_or names found.0 e.0) here in
    found.1 ∙ ap Some (same_place b.variables apart found.0 j entry.0 e entry.1 at (entry.2 ∙ sym same))

own_bit : (bit : BitName) → bit_eq bit bit ≡ true
own_bit bit = grind (arith, nat_tests)

-- an added symbol whose variable and bit stand has its net
found_new : (a b : Named) (kept : List ℕ) (w : Wire) (j : ℕ) (e : Entry) → New w → AllPairs (λ v w. v.0 ≢ w.0) b.variables → slice_get b.variables j ≡ Some e → e.0 ≡ symbol_name w → Contains b.names (bit_at j 0) → IsFound a b kept w
found_new a b kept w j e new apart at name there =
    let lookup : lookup_of (symbol_name w) b ≡ Some j = subst (λ n. lookup_of n b ≡ Some j) name (lookup_is b apart j e at) in
    let place = place_of b.names (bit_at j 0) there in
    let found = position_found (bit_eq (bit_at j 0)) b.names place.0 (bit_at j 0) place.1 (own_bit (bit_at j 0)) in
    let stands : slice_get b.names found.0 ≡ Some (bit_at j 0) = found_bit b.names (bit_at j 0) found.0 found.1 in
    let has : net_for b kept w ≡ Some found.0 = ap (net_by b kept (symbol_name w)) (added_is_new w new.added) ∙ ap (found_net b) lookup ∙ found.1 in
    let bit : name_of_net b found.0 ≡ bit_at j 0 = get_or_from_slice_get b.names found.0 (bit_at j 0) (record { variable = 0; place = 0 }) stands in
    let site : site_of b found.0 ≡ scalar_site (symbol_name w) = ap (site_of_bit b.variables) bit ∙ ap (λ o. site_in o 0) at ∙ ap scalar_site name in
    record { has = record { net = found.0; found = has; stands = slice_get_within b.names found.0 (bit_at j 0) stands }; site = ap (λ o. site_of b (number_or_zero o)) has ∙ site ∙ sym (new.site a) }

-- an added port: its place among them
record HasPort (w : Wire) : Type 0 where
  place : ℕ
  entry : Entry
  stands : slice_get added_ports place ≡ Some entry
  name : entry.0 ≡ symbol_name w

port_of : (w : Wire) → is_new w ≡ true → is_inner w ≡ false → HasPort w
port_of (Kept net) new outer = absurd (cc new)
port_of Test new outer = record { place = 0; entry = scalar_entry Input (symbol_name Test); stands = refl; name = refl }
port_of Init new outer = record { place = 1; entry = scalar_entry Input (symbol_name Init); stands = refl; name = refl }
port_of So new outer = record { place = 2; entry = scalar_entry Output (symbol_name So); stands = refl; name = refl }
port_of Done new outer = record { place = 3; entry = scalar_entry Output (symbol_name Done); stands = refl; name = refl }
port_of NotInit new outer = absurd (cc outer)
port_of NotTest new outer = absurd (cc outer)
port_of Go new outer = absurd (cc outer)
port_of NotGo new outer = absurd (cc outer)
port_of Parity new outer = absurd (cc outer)
port_of Low new outer = absurd (cc outer)
port_of Feed new outer = absurd (cc outer)
port_of (Word i) new outer = absurd (cc outer)
port_of (WordNext i) new outer = absurd (cc outer)
port_of Wrap new outer = absurd (cc outer)
port_of Phase new outer = absurd (cc outer)
port_of PhaseTurned new outer = absurd (cc outer)
port_of PhaseNext new outer = absurd (cc outer)
port_of Advance new outer = absurd (cc outer)
port_of NotAdvance new outer = absurd (cc outer)
port_of (Ring i) new outer = absurd (cc outer)
port_of (RingKept i) new outer = absurd (cc outer)
port_of (RingMoved i) new outer = absurd (cc outer)
port_of (RingOr i) new outer = absurd (cc outer)
port_of (RingNext i) new outer = absurd (cc outer)
port_of NotOver new outer = absurd (cc outer)
port_of Live new outer = absurd (cc outer)
port_of NotPhase new outer = absurd (cc outer)
port_of Running new outer = absurd (cc outer)
port_of Shifting new outer = absurd (cc outer)
port_of (On i) new outer = absurd (cc outer)
port_of (Compacts i) new outer = absurd (cc outer)
port_of (Latches i) new outer = absurd (cc outer)
port_of (Takes i) new outer = absurd (cc outer)
port_of (Off i) new outer = absurd (cc outer)
port_of (Codes i) new outer = absurd (cc outer)
port_of (Feedback i) new outer = absurd (cc outer)
port_of (Signed i) new outer = absurd (cc outer)
port_of (Carried i) new outer = absurd (cc outer)
port_of (First i) new outer = absurd (cc outer)
port_of (Line i) new outer = absurd (cc outer)
port_of (Chain i) new outer = absurd (cc outer)
port_of (Code i) new outer = absurd (cc outer)
port_of (Coded i) new outer = absurd (cc outer)
port_of (Next i) new outer = absurd (cc outer)
port_of (InTest i) new outer = absurd (cc outer)
port_of (InNormal i) new outer = absurd (cc outer)
port_of (Read i) new outer = absurd (cc outer)
port_of (Held i) new outer = absurd (cc outer)

-- what is laid, under the names of its variables
module _ (a b : Named) (p : PlanValue) (kept : List ℕ) (named : IsNamed a) (valid : IsValidPlan a.netlist p) (apart : AllPairs (λ v w. v.0 ≢ w.0) b.variables)
    (variables : b.variables ≡ written_variables a p) (names : b.names ≡ laid_bits a (inner_wires a.netlist p)) (kept_are : AreKept a b kept) where
  abbrev inner : List Wire
  inner = inner_wires a.netlist p

  abbrev count : ℕ
  count = ports_of a.variables

  abbrev front : List Entry
  front = take count a.variables

  abbrev back : List Entry
  back = drop count a.variables

  abbrev clk : List Entry
  clk = added_clock a.clock

  abbrev own : List BitName
  own = all_net_bits a.names count (wires_from a) back

  abbrev port_bits : List BitName
  port_bits = role_bits is_port a.clock 0 front

  found_kept : (net : ℕ) → net < length a.names → IsFound a b kept (Kept net)
  found_kept net less =
      let bit : BitName = name_of_net a net in
      let stands : IsBit a.variables bit = named.consistent.bits net (record { variable = 0; place = 0 }) less in
      let moved_bit : BitName = bit_at (new_number count (length (clk ++ added_ports)) bit.variable) bit.place in
      let at : slice_get b.names (slice_index kept net) ≡ Some moved_bit = kept_are.each net less in
      let has : slice_get kept net ≡ Some (slice_index kept net) = slice_get-get_or kept net 0 (omega (arith, less, kept_are.long)) in
      let name : name_of_net b (slice_index kept net) ≡ moved_bit = get_or_from_slice_get b.names (slice_index kept net) moved_bit (record { variable = 0; place = 0 }) at in
      let variable : slice_get b.variables moved_bit.variable ≡ Some stands.entry =
      ap (λ vs. slice_get vs moved_bit.variable) (variables ∙ sym (laid_are a p inner refl)) ∙ moved_stands a.variables (clk ++ added_ports) (map inner_entry inner) count bit.variable stands.entry (ports_within a.variables) stands.stands in
      record {
        has = record { net = slice_index kept net; found = has; stands = slice_get_within b.names (slice_index kept net) moved_bit at };
        site = ap (λ o. site_of b (number_or_zero o)) has ∙ ap (site_of_bit b.variables) name ∙ ap (λ o. site_in o bit.place) variable ∙ sym (ap (λ o. site_in o bit.place) stands.stands);
      }

  found_port : (w : Wire) → New w → HasPort w → IsFound a b kept w
  found_port w new h =
      let less : h.place < 4 = slice_get_within added_ports h.place h.entry h.stands in
      let rest : List Entry = back ++ map inner_entry inner in
      let j : ℕ = length front + (length clk + h.place) in
      let at : slice_get b.variables j ≡ Some h.entry =
      ap (λ vs. slice_get vs j) variables ∙ get_back front (clk ++ (added_ports ++ rest)) (length clk + h.place) ∙ get_back clk (added_ports ++ rest) h.place ∙ get_front added_ports rest h.place less ∙ h.stands in
      let number : count + length clk + h.place ≡ j = omega (arith, front_long a.variables) in
      let last : List BitName = own ++ scalar_bits (wires_from a + length back) (length inner) in
      let there : Contains b.names (bit_at j 0) =
      subst (λ ns. Contains ns (bit_at j 0)) (sym names)
      (in_second port_bits (scalar_bits (count + length clk) 4 ++ last) (bit_at j 0)
      (in_first (scalar_bits (count + length clk) 4) last (bit_at j 0)
      (subst (λ n. Contains (scalar_bits (count + length clk) 4) (bit_at n 0)) number (contains_map (λ n. bit_at n 0) (range_with_len (count + length clk) 4) (count + length clk + h.place) (in_range (count + length clk) 4 h.place less))))) in
      found_new a b kept w j h.entry new apart at h.name there

  found_inner : (w : Wire) → New w → Contains inner w → IsFound a b kept w
  found_inner w new c =
      let place = place_of inner w c in
      let k : ℕ = place.0 in
      let less : k < length inner = slice_get_within inner k w place.1 in
      let last : List Entry = map inner_entry inner in
      let j : ℕ = length front + (length clk + (length added_ports + (length back + k))) in
      let at : slice_get b.variables j ≡ Some (inner_entry w) =
      ap (λ vs. slice_get vs j) variables ∙ get_back front (clk ++ (added_ports ++ (back ++ last))) (length clk + (length added_ports + (length back + k))) ∙ get_back clk (added_ports ++ (back ++ last)) (length added_ports + (length back + k))
      ∙ get_back added_ports (back ++ last) (length back + k) ∙ get_back back last k ∙ map_at inner_entry inner k w place.1 in
      let from : ℕ = wires_from a + length back in
      let number : from + k ≡ j = omega (arith, front_long a.variables, length-append clk added_ports) in
      let ports : List BitName = scalar_bits (count + length clk) 4 in
      let bits : List BitName = scalar_bits from (length inner) in
      let there : Contains b.names (bit_at j 0) =
      subst (λ ns. Contains ns (bit_at j 0)) (sym names)
      (in_second port_bits (ports ++ (own ++ bits)) (bit_at j 0)
      (in_second ports (own ++ bits) (bit_at j 0)
      (in_second own bits (bit_at j 0)
      (subst (λ n. Contains bits (bit_at n 0)) number (contains_map (λ n. bit_at n 0) (range_with_len from (length inner)) (from + k) (in_range from (length inner) k less)))))) in
      found_new a b kept w j (inner_entry w) new apart at refl there

  -- an added net that is no port is an added wire
  abbrev IsThere : Wire → Type 0
  IsThere w = is_inner w ≡ true → Contains inner w

  abbrev rows : List (Gate Wire)
  rows = map (written_gate p) a.netlist.gates

  abbrev added : List (Gate Wire)
  added = test_gates a.netlist p

  inner_there : AllByRecursion IsThere (driven (written_netlist a.netlist p))
  inner_there =
      all_join IsThere (map Kept a.netlist.inputs ++ Test ∷ Init ∷ []) (map out_of (rows ++ added) ++ map q_in (flops p))
      (all_join IsThere (map Kept a.netlist.inputs) (Test ∷ Init ∷ []) (keeps a.netlist.inputs) ((λ t. absurd (cc t)), ((λ t. absurd (cc t)), tt)))
      (all_join IsThere (map out_of (rows ++ added)) (map q_in (flops p))
      (subst (AllByRecursion IsThere) (sym (map_join out_of rows added)) (all_join IsThere (map out_of rows) (map out_of added) (outs a.netlist.gates)
      (to_all IsThere (map out_of added) (λ w c t. in_first (filter is_inner (map out_of added)) (filter is_inner (map q_in (flops p))) w (in_filter is_inner (map out_of added) w t c)))))
      (to_all IsThere (map q_in (flops p)) (λ w c t. in_second (filter is_inner (map out_of added)) (filter is_inner (map q_in (flops p))) w (in_filter is_inner (map q_in (flops p)) w t c))))
    where
      keeps : (nets : List ℕ) → AllByRecursion IsThere (map Kept nets)
      keeps [] = tt
      keeps (net ∷ nets) = ((λ t. absurd (cc t)), keeps nets)

      outs : (gs : List (Gate ℕ)) → AllByRecursion IsThere (map out_of (map (written_gate p) gs))
      outs [] = tt
      outs (g ∷ gs) = ((λ t. absurd (cc t)), outs gs)

  -- and it is numbered
  numbered : AllByRecursion (IsNumbered (length (driven a.netlist))) (driven (written_netlist a.netlist p))
  numbered =
      let P : Wire → Type 0 = IsNumbered (length (driven a.netlist)) in
      let all : OfAllNets P (written_netlist a.netlist p) = all_of a p named valid in
      all_join P (written_netlist a.netlist p).inputs _ all.inputs
      (all_join P (map out_of (written_netlist a.netlist p).gates) _ (all_map_back P (λ (g : Gate Wire). P g.out × AllByRecursion P g.ins) out_of (λ g h. h.0) (written_netlist a.netlist p).gates all.gates)
      (all_map_back P (λ (f : Flop Wire). P f.q × P f.d) q_in (λ f h. h.0) (flops p) all.flops))

  pub found_driven : (w : Wire) → Contains (driven (written_netlist a.netlist p)) w → IsFound a b kept w
  found_driven w c =
      let number : IsNumbered (length (driven a.netlist)) w = of_all (IsNumbered (length (driven a.netlist))) (driven (written_netlist a.netlist p)) w numbered c in
      by (side (length (driven a.netlist)) w number) number
    where
      by : Side w → IsNumbered (length (driven a.netlist)) w → IsFound a b kept w
      by (IsKept net is) number =
          let less : net < length (driven a.netlist) = subst (IsNumbered (length (driven a.netlist))) is number in
          subst (IsFound a b kept) (sym is) (found_kept net (omega (arith, less, named.names)))
      by (IsNew new) number = on (is_inner w) refl
        where
          on : (t : Bool) → is_inner w ≡ t → IsFound a b kept w
          on true t = found_inner w new (of_all IsThere (driven (written_netlist a.netlist p)) w inner_there c t)
          on false t = found_port w new (port_of w new.new t)
