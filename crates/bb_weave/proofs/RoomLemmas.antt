-- The cells and registers of a plan that keeps its rules add at most 23 wires for each net.
use Rattle.std.proofs.Common.{arith, ◌≡◌, ◌≢◌, ◌⊎◌, inl, inr, ℕ, ◌+◌, ◌*◌, ◌<◌, ◌≤◌, suc, ◌&&◌, ◌||◌, nat_eq, Bool, true, false, cond, if◌then◌else◌, List, [], ◌∷◌, ◌++◌, map, filter, length, Some, slice_get, refl, sym, ap, subst, ◌∙◌, take, drop, take-append-drop, Contains}
use Rattle.std.proofs.lemmas.Bool.Decides.{nat_tests}
use Rattle.std.proofs.lemmas.Map.Views.{Contains-from_any}
use Rattle.std.specs.List.{AllByRecursion, sum_by, range_with_len}
use Rattle.std.proofs.lemmas.List.FromFn.{length-range_with_len}
use Rattle.std.proofs.lemmas.List.Elements.{All-from_recursion}
use Rattle.std.proofs.lemmas.List.Sums.{sum_by-cons, sum_by-append, sum_by-le}
use Rattle.std.specs.Prelude.{Option, None}
use Rattle.bb_base.specs.declared.variable.BitName.{BitName}
use Rattle.bb_base.specs.Variables.{Entry, bit_count, ports_of}
use Rattle.bb_base.proofs.Contained.{here, there, either, none_in, of_all, to_all, by_place, place_of, contains_at, contains_map}
use Rattle.bb_base.proofs.Distinct.{Distinct, few_distinct}
use Rattle.bb_base.proofs.Lists.{all_back, length_map}
use Rattle.bb_base.specs.Net.{Gate, Flop, Netlist, driven, IsNetlist}
use Rattle.bb_base.proofs.GateLemmas.{driven_distinct}
use Rattle.bb_base.specs.Named.{Named, IsNamed}
use Rattle.bb_net.proofs.CountLemmas.{nets_few}
use Rattle.bb_netlist.proofs.Sorting.{Ascends, ascend_pairs}
use Rattle.bb_terms.specs.Paths.{is_free}
use Rattle.bb_terms.specs.declared.plan.Cell.{Cell}
use Rattle.bb_terms.specs.declared.kind.Kind.{Kind}
use Rattle.bb_terms.specs.declared.kind.Kind.TheVariants.{Input, State, Split, Cut, Watch, Output}
use Rattle.bb_terms.specs.Kinds.{is_source, only_generates}
use Rattle.bb_terms.specs.Plan.{PlanValue, RegisterValue, chain, has_input, lists_register, sessions_from, sessions_of}
use Rattle.bb_terms.specs.Rules.{Holds, Registers, Kinds, Apart, Sessions, IsInput, IsQ, IsGateNet, MayStand, Fits, MayCompact, meet}
use Rattle.bb_terms.specs.Valid.{IsValidPlan}
use Rattle.bb_terms.proofs.ChainLemmas.{cells_of}
use Rattle.bb_terms.proofs.NetLemmas.{driven_net, free_input, free_q, input_net_within, out_within, q_within}
use Rattle.bb_rules.proofs.SessionLemmas.{none_passes}
use Rattle.bb_terms.specs.declared.wire.Wire.{Wire}
use Rattle.bb_written.specs.Written.{added_clock, added_ports, inner_entry, inner_wires, written_variables}
use Rattle.bb_written.proofs.Few.{are_few}
use Rattle.bb_lay.proofs.Standing.{bits_join}
use Rattle.bb_weave.specs.Room.{wires_of_kind, wires_in_sessions, cell_wires, register_wires}
use Rattle.bb_weave.proofs.Counted.{wires_counted}

-- by their numbers ------------------------------------------------------------------

wires_most : (k : Kind) → wires_of_kind k ≤ 9
wires_most Input = omega arith
wires_most State = omega arith
wires_most Split = omega arith
wires_most Cut = omega arith
wires_most Watch = omega arith
wires_most Output = omega arith

sessions_most : (ss : List ℕ) → wires_in_sessions ss ≤ 10
sessions_most [] = omega arith
sessions_most (s ∷ ss) = omega arith

-- a sum has at most so much for each item
sum_most : {X : Type 0} (f : X → ℕ) (most : ℕ) → ((x : X) → f x ≤ most) → (xs : List X) → sum_by f xs ≤ length xs * most
sum_most {X} f most each xs = sum_by-le f most xs (All-from_recursion (λ (x : X). f x ≤ most) xs (to_all (λ (x : X). f x ≤ most) xs (λ x c. each x)))

pub at_most : (p : PlanValue) → register_wires p + cell_wires p ≤ 10 * length p.registers + 9 * length (chain p)
at_most p =
    let numbers : List ℕ = range_with_len 0 (length p.registers) in
    omega (
      arith,
      sum_most (λ (r : ℕ). wires_in_sessions (sessions_of p r)) 10 (λ r. sessions_most (sessions_of p r)) numbers,
      length-range_with_len 0 (length p.registers),
      sum_most (λ (c : Cell). wires_of_kind c.kind) 9 (λ c. wires_most c.kind) (chain p),
    )

-- by nets: each cell has a part of a register's wires ---------------------------------------

-- the wires of a cell, and those of a register that it may have alone
abbrev weight : Kind → ℕ
weight Input = 12
weight State = 15
weight Split = 9
weight Cut = 19
weight Watch = 14
weight Output = 14

four : (k : Kind) → wires_of_kind k + 4 ≤ weight k
four Input = omega arith
four State = omega arith
four Split = omega arith
four Cut = omega arith
four Watch = omega arith
four Output = omega arith

ten : (k : Kind) → only_generates k ≡ false → wires_of_kind k + 10 ≤ weight k
ten Input h = absurd (cc h)
ten State h = omega arith
ten Split h = absurd (cc h)
ten Cut h = omega arith
ten Watch h = omega arith
ten Output h = omega arith

module _ (f w : Cell → ℕ) (extra : ℕ) where
  no_more : (cs : List Cell) → AllByRecursion (λ c. f c + extra ≤ w c) cs → sum_by f cs ≤ sum_by w cs
  no_more [] h = omega arith
  no_more (c ∷ cs) h = omega (arith, sum_by-cons f c cs, sum_by-cons w c cs, h.0, no_more cs h.1)

  with_extra : (cs : List Cell) → 1 ≤ length cs → AllByRecursion (λ c. f c + extra ≤ w c) cs → extra + sum_by f cs ≤ sum_by w cs
  with_extra [] some h = absurd (omega (arith, some))
  with_extra (c ∷ cs) some h = omega (arith, sum_by-cons f c cs, sum_by-cons w c cs, h.0, no_more cs h.1)

abbrev wires_of : Cell → ℕ
wires_of c = wires_of_kind c.kind

abbrev weight_of : Cell → ℕ
weight_of c = weight c.kind

listed : (r : ℕ) (session : List ℕ) → lists_register r session ≡ true → Contains session r
listed r session h = Contains-from_any {eq = nat_eq} (λ x y e. grind (arith, nat_tests, e)) r session h

-- a register with a session is listed in one
some_session : (first : ℕ) (sessions : List (List ℕ)) (r s : ℕ) (ss : List ℕ) → sessions_from first sessions r ≡ s ∷ ss → (session : List ℕ) × Contains sessions session × Contains session r
some_session first [] r s ss e = absurd (cc e)
some_session first (x ∷ sessions) r s ss e = by (lists_register r x) refl e (λ k. some_session (suc first) sessions r s ss k)
  where
    by : (b : Bool) → lists_register r x ≡ b → (if b then first ∷ sessions_from (suc first) sessions r else sessions_from (suc first) sessions r) ≡ s ∷ ss
        → (sessions_from (suc first) sessions r ≡ s ∷ ss → (session : List ℕ) × Contains sessions session × Contains session r) → (session : List ℕ) × Contains (x ∷ sessions) session × Contains session r
    by true t e rest = (x, here x sessions, listed r x t)
    by false t e rest = let more = rest e in (more.0, there x sessions more.0 more.1, more.2)

module _ (a : Netlist ℕ) (p : PlanValue) (registers : Holds a p Registers) (sessions : Holds a p Sessions) where
  -- the wires of a register and of its cells
  register_weight : (r : ℕ) (g : RegisterValue) → slice_get p.registers r ≡ Some g → wires_in_sessions (sessions_of p r) + sum_by wires_of g.cells ≤ sum_by weight_of g.cells
  register_weight r g at = by (sessions_of p r) refl
    where
      pure : (s : ℕ) (ss : List ℕ) → sessions_of p r ≡ s ∷ ss → has_input g ≡ false
      pure s ss e =
          let some = some_session 0 p.sessions r s ss e in
          let place = place_of p.sessions some.0 some.1 in
          let may : MayCompact p r = of_all (MayCompact p) some.0 r (sessions place.0 some.0 place.1).compacting some.2 in
          let both : Some may.0 ≡ Some g = sym may.1 ∙ at in
          let same : may.0 ≡ g = cc both in
          ap has_input (sym same) ∙ may.2

      by : (ss : List ℕ) → sessions_of p r ≡ ss → wires_in_sessions ss + sum_by wires_of g.cells ≤ sum_by weight_of g.cells
      by [] e = with_extra wires_of weight_of 4 g.cells (registers r g at).some (to_all (λ (c : Cell). wires_of c + 4 ≤ weight_of c) g.cells (λ c stands. four c.kind))
      by (s ∷ ss) e = with_extra wires_of weight_of 10 g.cells (registers r g at).some (to_all (λ (c : Cell). wires_of c + 10 ≤ weight_of c) g.cells
          (λ c stands. let place = place_of g.cells c stands in ten c.kind (none_passes (λ (d : Cell). only_generates d.kind) g.cells place.0 c (pure s ss e) place.1)))

  abbrev count : ℕ → ℕ
  count r = wires_in_sessions (sessions_of p r)

  all_weigh : (r : ℕ) (gs : List RegisterValue) → ((k : ℕ) (g : RegisterValue) → slice_get gs k ≡ Some g → count (r + k) + sum_by wires_of g.cells ≤ sum_by weight_of g.cells)
      → sum_by count (range_with_len r (length gs)) + sum_by wires_of (cells_of gs) ≤ sum_by weight_of (cells_of gs)
  all_weigh r [] each = omega arith
  all_weigh r (g ∷ gs) each =
      let first : r + 0 ≡ r = omega arith in
      let head : count r + sum_by wires_of g.cells ≤ sum_by weight_of g.cells = subst (λ m. count m + sum_by wires_of g.cells ≤ sum_by weight_of g.cells) first (each 0 g refl) in
      let rest = all_weigh (r + 1) gs (λ k h at. let next : r + suc k ≡ r + 1 + k = omega arith in subst (λ m. count m + sum_by wires_of h.cells ≤ sum_by weight_of h.cells) next (each (suc k) h at)) in
      omega (arith, head, rest, sum_by-cons count r (range_with_len (r + 1) (length gs)), sum_by-append wires_of g.cells (cells_of gs), sum_by-append weight_of g.cells (cells_of gs))

  weighed : register_wires p + cell_wires p ≤ sum_by weight_of (chain p)
  weighed = all_weigh 0 p.registers (λ k g at. let zero_more : k ≡ 0 + k = omega arith in subst (λ m. count m + sum_by wires_of g.cells ≤ sum_by weight_of g.cells) zero_more (register_weight k g at))

-- by nets: a net has one source cell at most, and one cell that is not Split -------------------

abbrev stands_alone : Kind → Bool
stands_alone Input = true
stands_alone State = true
stands_alone Split = false
stands_alone Cut = true
stands_alone Watch = true
stands_alone Output = true

two_parts : (cs : List Cell) → sum_by weight_of cs ≤ 9 * length (filter (λ c. is_source c.kind) cs) + 14 * length (filter (λ c. stands_alone c.kind) cs)
two_parts [] = omega arith
two_parts (c ∷ cs) = let rest = by c.kind (two_parts cs) in omega (arith, sum_by-cons weight_of c cs, rest)
  where
    by : (k : Kind) → sum_by weight_of cs ≤ 9 * length (filter (λ c. is_source c.kind) cs) + 14 * length (filter (λ c. stands_alone c.kind) cs)
        → weight k + sum_by weight_of cs
        ≤ 9 * length (cond (is_source k) (c ∷ filter (λ c. is_source c.kind) cs) (filter (λ c. is_source c.kind) cs)) + 14 * length (cond (stands_alone k) (c ∷ filter (λ c. stands_alone c.kind) cs) (filter (λ c. stands_alone c.kind) cs))
    by Input h = omega (arith, h)
    by State h = omega (arith, h)
    by Split h = omega (arith, h)
    by Cut h = omega (arith, h)
    by Watch h = omega (arith, h)
    by Output h = omega (arith, h)

-- what drives the net of a cell
data Side : Type 0 where
  AtInput : Side
  AtFlop : Side
  AtGate : Side

abbrev side : Kind → Side
side Input = AtInput
side State = AtFlop
side Split = AtFlop
side Cut = AtGate
side Watch = AtFlop
side Output = AtGate

abbrev IsOn : Netlist ℕ → Side → ℕ → Type 0
IsOn a AtInput net = IsInput a net
IsOn a AtFlop net = IsQ a net
IsOn a AtGate net = IsGateNet a net

on_side : (a : Netlist ℕ) (k : Kind) (net : ℕ) → MayStand a k net → IsOn a (side k) net
on_side a Input net h = h
on_side a State net h = h
on_side a Split net h = h
on_side a Cut net h = h
on_side a Watch net h = h
on_side a Output net h = h.0

in_back : {X : Type 0} (xs ys : List X) (y : X) → Contains ys y → Contains (xs ++ ys) y
in_back [] ys y c = c
in_back (x ∷ xs) ys y c = there x (xs ++ ys) y (in_back xs ys y c)

-- no item of distinct ones stands in both of two parts
in_one_part : {X : Type 0} (xs ys : List X) (x : X) → Distinct (xs ++ ys) → Contains xs x → Contains ys x → ⊥
in_one_part [] ys x once c d = none_in x c
in_one_part {X} (z ∷ xs) ys x once c d = by (either z xs x c) (λ c. in_one_part xs ys x once.1 c d)
  where
    by : (z ≡ x) ⊎ Contains xs x → (Contains xs x → ⊥) → ⊥
    by (inl same) rest = of_all (λ (y : X). y ≢ z) ys x (all_back (λ (y : X). y ≢ z) xs ys once.0) d (sym same)
    by (inr c) rest = rest c

-- two cells that may stand beside each other
abbrev MayBoth : Cell → Cell → Type 0
MayBoth c d = c.net ≡ d.net → meet c.kind d.kind ≡ false

-- the nets of the cells that pass a test
abbrev nets_of : (Kind → Bool) → List Cell → List ℕ
nets_of test cs = map (λ c. c.net) (filter (λ c. test c.kind) cs)

module _ (a : Netlist ℕ) (fits : IsNetlist a) where
  gate_free : (net : ℕ) → IsGateNet a net → is_free a.gates net ≡ true → ⊥
  gate_free net h free = driven_net a h.1.0 (contains_at a.gates h.0 h.1.0 h.1.1) (subst (λ n. is_free a.gates n ≡ true) (sym h.1.2) free)

  input_flop : (net : ℕ) → IsInput a net → IsQ a net → ⊥
  input_flop net i q =
      let outs : List ℕ = map (λ (g : Gate ℕ). g.out) a.gates in
      let qs : List ℕ = map (λ (f : Flop ℕ). f.q) a.flops in
      let stands : Contains qs q.1.0.q = contains_map (λ (f : Flop ℕ). f.q) a.flops q.1.0 (contains_at a.flops q.0 q.1.0 q.1.1) in
      in_one_part a.inputs (outs ++ qs) net (driven_distinct a fits) (contains_at a.inputs i.0 net i.1) (in_back outs qs net (subst (Contains qs) q.1.2 stands))

  one_side : (s t : Side) (net : ℕ) → IsOn a s net → IsOn a t net → s ≡ t
  one_side AtInput AtInput net h k = refl
  one_side AtInput AtFlop net h k = absurd (input_flop net h k)
  one_side AtInput AtGate net h k = absurd (gate_free net k (free_input a net fits h))
  one_side AtFlop AtInput net h k = absurd (input_flop net k h)
  one_side AtFlop AtFlop net h k = refl
  one_side AtFlop AtGate net h k = absurd (gate_free net k (free_q a net fits h))
  one_side AtGate AtInput net h k = absurd (gate_free net h (free_input a net fits k))
  one_side AtGate AtFlop net h k = absurd (gate_free net h (free_q a net fits k))
  one_side AtGate AtGate net h k = refl

  within : (s : Side) (net : ℕ) → IsOn a s net → net < length (driven a)
  within AtInput net h = input_net_within a net fits h
  within AtFlop net h = subst (λ n. n < length (driven a)) h.1.2 (q_within a h.1.0 fits (contains_at a.flops h.0 h.1.0 h.1.1))
  within AtGate net h = subst (λ n. n < length (driven a)) h.1.2 (out_within a h.1.0 fits (contains_at a.gates h.0 h.1.0 h.1.1))

  -- cells of which no two on one net can pass the test are no more than the nets
  module _ (test : Kind → Bool) (meets : (k j : Kind) → test k ≡ true → test j ≡ true → side k ≡ side j → meet k j ≡ true) where
    nets_below : (cs : List Cell) → AllByRecursion (Fits a) cs → AllByRecursion (λ net. net < length (driven a)) (nets_of test cs)
    nets_below [] fit = tt
    nets_below (c ∷ cs) fit = by (test c.kind) (nets_below cs fit.1)
      where
        by : (b : Bool) → AllByRecursion (λ net. net < length (driven a)) (map (λ c. c.net) (filter (λ c. test c.kind) cs)) → AllByRecursion (λ net. net < length (driven a)) (map (λ c. c.net) (cond b (c ∷ filter (λ c. test c.kind) cs) (filter (λ c. test c.kind) cs)))
        by true rest = (within (side c.kind) c.net (on_side a c.kind c.net fit.0), rest)
        by false rest = rest

    nets_apart : (cs : List Cell) → AllByRecursion (Fits a) cs → Ascends MayBoth cs → Ascends (λ m n. m ≢ n) (nets_of test cs)
    nets_apart [] fit apart = tt
    nets_apart (c ∷ cs) fit apart = by (test c.kind) refl (nets_apart cs fit.1 apart.1)
      where
        others : test c.kind ≡ true → (ds : List Cell) → AllByRecursion (Fits a) ds → AllByRecursion (MayBoth c) ds → AllByRecursion (λ n. c.net ≢ n) (map (λ c. c.net) (filter (λ c. test c.kind) ds))
        others here [] fits_all may = tt
        others here (d ∷ ds) fits_all may = go (test d.kind) refl (others here ds fits_all.1 may.1)
          where
            conflict : test d.kind ≡ true → c.net ≢ d.net
            conflict k same =
                let on : IsOn a (side d.kind) c.net = subst (IsOn a (side d.kind)) (sym same) (on_side a d.kind d.net fits_all.0) in
                let one : side c.kind ≡ side d.kind = one_side (side c.kind) (side d.kind) c.net (on_side a c.kind c.net fit.0) on in
                let yes : meet c.kind d.kind ≡ true = meets c.kind d.kind here k one in
                let no : meet c.kind d.kind ≡ false = may.0 same in
                absurd (cc (yes, no))

            go : (b : Bool) → test d.kind ≡ b → AllByRecursion (λ n. c.net ≢ n) (map (λ c. c.net) (filter (λ c. test c.kind) ds)) → AllByRecursion (λ n. c.net ≢ n) (map (λ c. c.net) (cond b (d ∷ filter (λ c. test c.kind) ds) (filter (λ c. test c.kind) ds)))
            go true k rest = (conflict k, rest)
            go false k rest = rest

        by : (b : Bool) → test c.kind ≡ b → Ascends (λ m n. m ≢ n) (map (λ c. c.net) (filter (λ c. test c.kind) cs)) → Ascends (λ m n. m ≢ n) (map (λ c. c.net) (cond b (c ∷ filter (λ c. test c.kind) cs) (filter (λ c. test c.kind) cs)))
        by true k rest = (others k cs fit.1 apart.0, rest)
        by false k rest = rest

    few_cells : (cs : List Cell) → AllByRecursion (Fits a) cs → Ascends MayBoth cs → length (filter (λ c. test c.kind) cs) ≤ length (driven a)
    few_cells cs fit apart =
        let few = few_distinct (nets_of test cs) (length (driven a)) (ascend_pairs (λ m n. m ≢ n) (nets_of test cs) (nets_apart cs fit apart)) (nets_below cs fit) in
        omega (arith, few, length_map (λ (c : Cell). c.net) (filter (λ (c : Cell). test c.kind) cs))

or_first : (x y z : Bool) → x ≡ true → y ≡ true → ((x && y) || z) ≡ true
or_first true true z h k = refl
or_first true false z h k = absurd (cc k)
or_first false y z h k = absurd (cc h)

sources_meet : (k j : Kind) → is_source k ≡ true → is_source j ≡ true → side k ≡ side j → meet k j ≡ true
sources_meet k j h l same = or_first (is_source k) (is_source j) _ h l

others_meet : (k j : Kind) → stands_alone k ≡ true → stands_alone j ≡ true → side k ≡ side j → meet k j ≡ true
others_meet Input Input h l same = refl
others_meet Input State h l same = absurd (cc same)
others_meet Input Split h l same = absurd (cc l)
others_meet Input Cut h l same = absurd (cc same)
others_meet Input Watch h l same = absurd (cc same)
others_meet Input Output h l same = absurd (cc same)
others_meet State Input h l same = absurd (cc same)
others_meet State State h l same = refl
others_meet State Split h l same = absurd (cc l)
others_meet State Cut h l same = absurd (cc same)
others_meet State Watch h l same = refl
others_meet State Output h l same = absurd (cc same)
others_meet Split j h l same = absurd (cc h)
others_meet Cut Input h l same = absurd (cc same)
others_meet Cut State h l same = absurd (cc same)
others_meet Cut Split h l same = absurd (cc l)
others_meet Cut Cut h l same = refl
others_meet Cut Watch h l same = absurd (cc same)
others_meet Cut Output h l same = refl
others_meet Watch Input h l same = absurd (cc same)
others_meet Watch State h l same = refl
others_meet Watch Split h l same = absurd (cc l)
others_meet Watch Cut h l same = absurd (cc same)
others_meet Watch Watch h l same = refl
others_meet Watch Output h l same = absurd (cc same)
others_meet Output Input h l same = absurd (cc same)
others_meet Output State h l same = absurd (cc same)
others_meet Output Split h l same = absurd (cc l)
others_meet Output Cut h l same = refl
others_meet Output Watch h l same = absurd (cc same)
others_meet Output Output h l same = refl

later : {X : Type 0} (R : X → X → Type 0) (xs : List X) → ((i j : ℕ) (x y : X) → i < j → slice_get xs i ≡ Some x → slice_get xs j ≡ Some y → R x y) → Ascends R xs
later R [] h = tt
later R (x ∷ xs) h = (by_place (R x) xs (λ k y at. h 0 (suc k) x y (omega arith) refl at), later R xs (λ i j y z less at bt. h (suc i) (suc j) y z (omega (arith, less)) at bt))

-- so the wires of cells and registers are few
pub by_nets : (a : Netlist ℕ) (p : PlanValue) → IsNetlist a → Holds a p Registers → Holds a p Kinds → Holds a p Apart → Holds a p Sessions → register_wires p + cell_wires p ≤ 23 * length (driven a)
by_nets a p fits registers kinds apart sessions =
    let fit : AllByRecursion (Fits a) (chain p) = by_place (Fits a) (chain p) (λ i c at. kinds i c at) in
    let may : Ascends MayBoth (chain p) = later MayBoth (chain p) (λ i j c d less at bt. apart j d bt i c less at) in
    let sources = few_cells a fits is_source sources_meet (chain p) fit may in
    let others = few_cells a fits stands_alone others_meet (chain p) fit may in
    omega (arith, weighed a p registers sessions, two_parts (chain p), sources, others)

-- the bits of the written netlist ------------------------------------------------------

inner_bits : (ws : List Wire) → bit_count (map inner_entry ws) ≡ length ws
inner_bits [] = refl
inner_bits (w ∷ ws) = omega (arith, inner_bits ws)

clock_bits : (clock : Option BitName) → bit_count (added_clock clock) ≤ 1
clock_bits None = omega arith
clock_bits (Some c) = omega arith

all_bits : (a : Named) (p : PlanValue) → bit_count (written_variables a p) ≤ bit_count a.variables + 5 + length (inner_wires a.netlist p)
all_bits a p =
    let n : ℕ = ports_of a.variables in
    let own : List Entry = take n a.variables in
    let back : List Entry = drop n a.variables in
    let clock : List Entry = added_clock a.clock in
    let inner : List Entry = map inner_entry (inner_wires a.netlist p) in
    omega (
      arith,
      bits_join own (clock ++ (added_ports ++ (back ++ inner))),
      bits_join clock (added_ports ++ (back ++ inner)),
      bits_join added_ports (back ++ inner),
      bits_join back inner,
      bits_join own back,
      ap bit_count (take-append-drop n a.variables),
      inner_bits (inner_wires a.netlist p),
      clock_bits a.clock,
    )

module _ (a : Named) (p : PlanValue) (named : IsNamed a) (valid : IsValidPlan a.netlist p) where
  pub bits_few : bit_count (written_variables a p) ≤ 24 * bit_count a.variables + 5 * length p.sessions + 2 * p.degree + 25
  bits_few =
      let wires = by_nets a.netlist p named.netlist (valid.meets Registers) (valid.meets Kinds) (valid.meets Apart) (valid.meets Sessions) in
      omega (arith, all_bits a p, wires_counted a.netlist p, wires, nets_few a named, named.names)

  pub room : bit_count a.variables ≤ 2097152 → bit_count (written_variables a p) ≤ 31 * 1048576 + 65
  room few =
      let small = are_few a.netlist p valid in
      omega (arith, few, all_bits a p, wires_counted a.netlist p, at_most p, small.degree, small.cells, small.registers, small.sessions)
