-- No net of the written netlist is driven twice: the added ones rise in the order of their statements, the original's inputs and gates
-- drive nets of their own, and so do the flip-flops that have cells.
use Rattle.std.proofs.Common.{arith, ◌≡◌, ◌≢◌, ℕ, ◌<◌, ◌&&◌, ◌||◌, not, zero, suc, List, [], ◌∷◌, ◌++◌, length, map, filter, cond, Bool, true, false, if◌then◌else◌, Option, Some, None, slice_get, refl, sym, ap, subst, ◌∙◌, append_assoc, Contains}
use Rattle.std.proofs.lemmas.List.Elements.{filter-append}
use Rattle.std.specs.List.{AllByRecursion}
use Rattle.bb_base.proofs.Contained.{of_all, to_all, by_place, contains_map, contains_at}
use Rattle.bb_base.proofs.Distinct.{Distinct, distinct_map}
use Rattle.bb_base.proofs.Lists.{all_join, all_front, all_back, map_join}
use Rattle.bb_base.specs.Net.{Gate, Flop, Netlist, IsNetlist, driven}
use Rattle.bb_base.proofs.GateLemmas.{driven_distinct}
use Rattle.bb_terms.specs.declared.plan.Cell.{Cell}
use Rattle.bb_terms.specs.declared.kind.Kind.{Kind}
use Rattle.bb_terms.specs.declared.kind.Kind.TheVariants.{Input, State, Split, Cut, Watch, Output}
use Rattle.bb_terms.specs.Kinds.{is_source, is_flop}
use Rattle.bb_terms.specs.Plan.{PlanValue, chain}
use Rattle.bb_terms.specs.Rules.{Apart, Kinds, MayStand, IsQ, meet}
use Rattle.bb_terms.specs.Valid.{IsValidPlan}
use Rattle.bb_terms.specs.declared.wire.Wire.{Wire}
use Rattle.bb_terms.specs.declared.wire.Wire.TheVariants.{Kept, Test, Init, Phase, PhaseNext}
use Rattle.bb_terms.specs.Numbering.{kept_of}
use Rattle.bb_terms.specs.Reads.{q_by}
use Rattle.bb_terms.specs.Wires.{IsAdded}
use Rattle.bb_ctl.proofs.SymbolNames.{added_is_new}
use Rattle.bb_written.specs.Cells.{flop, word_flops, ring_flops, cell_flops, flops}
use Rattle.bb_written.specs.Written.{test_gates, written_gate, written_netlist}
use Rattle.bb_written.proofs.Few.{AreFew, are_few}
use Rattle.bb_written.proofs.Rising.{Rises, out_of, q_in, rises_join, rises_filter, rises_added, rises_distinct, outs_rise, qs_rise}
use Rattle.bb_written.proofs.Sizes.{ahead_long, cells_counted}

-- lists in two parts --------------------------------------------------------------

-- items that don't pass a test differ from one that does
module _ {X : Type 0} (test : X → Bool) where
  apart_of : (x : X) (xs : List X) → test x ≡ true → AllByRecursion (λ y. y ≢ x) (filter test xs) → AllByRecursion (λ y. y ≢ x) xs
  apart_of x [] e h = tt
  apart_of x (y ∷ ys) e h = by (test y) refl h (apart_of x ys e)
    where
      by : (b : Bool) → test y ≡ b → AllByRecursion (λ z. z ≢ x) (cond b (y ∷ filter test ys) (filter test ys)) → (AllByRecursion (λ z. z ≢ x) (filter test ys) → AllByRecursion (λ z. z ≢ x) ys)
          → AllByRecursion (λ z. z ≢ x) (y ∷ ys)
      by true u k rest = (k.0, rest k.1)
      by false u k rest = ((λ same. cc (sym u ∙ ap test same ∙ e)), rest k)

-- items are distinct where those that pass a test are, and those that don't
pub split_distinct : {X : Type 0} (test : X → Bool) (xs : List X) → Distinct (filter test xs) → Distinct (filter (λ x. not (test x)) xs) → Distinct xs
split_distinct test [] h k = tt
split_distinct {X} test (x ∷ xs) h k = by (test x) refl h k (λ m n. split_distinct test xs m n)
  where
    by : (b : Bool) → test x ≡ b → Distinct (cond b (x ∷ filter test xs) (filter test xs)) → Distinct (cond (not b) (x ∷ filter (λ y. not (test y)) xs) (filter (λ y. not (test y)) xs))
        → (Distinct (filter test xs) → Distinct (filter (λ y. not (test y)) xs) → Distinct xs) → Distinct (x ∷ xs)
    by true e m n rest = (apart_of test x xs e m.0, rest m.1 n)
    by false e m n rest = (apart_of (λ y. not (test y)) x xs (ap not e) n.0, rest m n.1)

-- other distinct items of the second part stand in its place
pub part_distinct : {X : Type 0} (xs ys zs : List X) → Distinct (xs ++ ys) → Distinct zs → AllByRecursion (Contains ys) zs → Distinct (xs ++ zs)
part_distinct [] ys zs h k c = k
part_distinct {X} (x ∷ xs) ys zs h k c = (all_join (λ m. m ≢ x) xs zs (all_front (λ m. m ≢ x) xs ys h.0) (others zs c), part_distinct xs ys zs h.1 k c)
  where
    others : (us : List X) → AllByRecursion (Contains ys) us → AllByRecursion (λ m. m ≢ x) us
    others [] d = tt
    others (u ∷ us) d = (of_all (λ m. m ≢ x) ys u (all_back (λ m. m ≢ x) xs ys h.0) d.0, others us d.1)

-- the nets of flip-flops that have cells ---------------------------------------------

abbrev pub flop_nets : List Cell → List ℕ
flop_nets [] = []
flop_nets (c ∷ cs) = if is_flop c.kind then c.net ∷ flop_nets cs else flop_nets cs

source_too : (k : Kind) → is_flop k ≡ true → is_source k ≡ true
source_too Input e = refl
source_too State e = refl
source_too Split e = refl
source_too Cut e = refl
source_too Watch e = cc e
source_too Output e = cc e

both_sources : (x y z : Bool) → x ≡ true → y ≡ true → ((x && y) || z) ≡ true
both_sources x y z e k = ap (λ b. (b && y) || z) e ∙ ap (λ b. (true && b) || z) k

-- two cells of flip-flops meet where they stand on one net
flops_meet : (k l : Kind) → is_flop k ≡ true → is_flop l ≡ true → meet k l ≡ true
flops_meet k l e f = both_sources (is_source k) (is_source l) _ (source_too k e) (source_too l f)

later : (net : ℕ) (cs : List Cell) → ((i : ℕ) (d : Cell) → slice_get cs i ≡ Some d → is_flop d.kind ≡ true → d.net ≢ net) → AllByRecursion (λ m. m ≢ net) (flop_nets cs)
later net [] h = tt
later net (c ∷ cs) h = by (is_flop c.kind) refl (later net cs (λ i d at. h (suc i) d at))
  where
    by : (b : Bool) → is_flop c.kind ≡ b → AllByRecursion (λ m. m ≢ net) (flop_nets cs) → AllByRecursion (λ m. m ≢ net) (if b then c.net ∷ flop_nets cs else flop_nets cs)
    by true e rest = (h 0 c refl e, rest)
    by false e rest = rest

flop_nets_distinct : (cs : List Cell) → ((i j : ℕ) (c d : Cell) → i < j → slice_get cs i ≡ Some c → slice_get cs j ≡ Some d → is_flop c.kind ≡ true → is_flop d.kind ≡ true → d.net ≢ c.net) → Distinct (flop_nets cs)
flop_nets_distinct [] h = tt
flop_nets_distinct (c ∷ cs) h = by (is_flop c.kind) refl (flop_nets_distinct cs (λ i j x y less at there. h (suc i) (suc j) x y (omega (arith, less)) at there))
  where
    by : (b : Bool) → is_flop c.kind ≡ b → Distinct (flop_nets cs) → Distinct (if b then c.net ∷ flop_nets cs else flop_nets cs)
    by true e rest = (later c.net cs (λ i d at f. h 0 (suc i) c d (omega arith) refl at e f), rest)
    by false e rest = rest

nets_in : (P : ℕ → Type 0) (cs : List Cell) → AllByRecursion (λ (c : Cell). is_flop c.kind ≡ true → P c.net) cs → AllByRecursion P (flop_nets cs)
nets_in P [] h = tt
nets_in P (c ∷ cs) h = by (is_flop c.kind) refl (nets_in P cs h.1)
  where
    by : (b : Bool) → is_flop c.kind ≡ b → AllByRecursion P (flop_nets cs) → AllByRecursion P (if b then c.net ∷ flop_nets cs else flop_nets cs)
    by true e rest = (h.0 e, rest)
    by false e rest = rest

q_of_flop : (a : Netlist ℕ) (k : Kind) (net : ℕ) → MayStand a k net → is_flop k ≡ true → IsQ a net
q_of_flop a Input net h e = absurd (cc e)
q_of_flop a State net h e = h
q_of_flop a Split net h e = h
q_of_flop a Cut net h e = absurd (cc e)
q_of_flop a Watch net h e = absurd (cc e)
q_of_flop a Output net h e = absurd (cc e)

-- symbols -------------------------------------------------------------------------------

abbrev pub is_none : Option ℕ → Bool
is_none None = true
is_none (Some net) = false

-- the symbol is none of the original's nets
abbrev pub other_net : Wire → Bool
other_net w = is_none (kept_of w)

abbrev pub own_net : Wire → Bool
own_net w = not (other_net w)

none_own : (ws : List Wire) → AllByRecursion IsAdded ws → filter own_net ws ≡ []
none_own [] h = refl
none_own (w ∷ ws) h = ap (λ o. cond (not (is_none o)) (w ∷ filter own_net ws) (filter own_net ws)) (added_is_new w h.0) ∙ none_own ws h.1

words_own : (i k : ℕ) (rest : List (Flop Wire)) → filter own_net (map q_in (word_flops i k ++ rest)) ≡ filter own_net (map q_in rest)
words_own i zero rest = refl
words_own i (suc k) rest = words_own (suc i) k rest

rings_own : (s k : ℕ) (rest : List (Flop Wire)) → filter own_net (map q_in (ring_flops s k ++ rest)) ≡ filter own_net (map q_in rest)
rings_own s zero rest = refl
rings_own s (suc k) rest = rings_own (suc s) k rest

cells_own : (i : ℕ) (cs : List Cell) → filter own_net (map q_in (cell_flops i cs)) ≡ map Kept (flop_nets cs)
cells_own i [] = refl
cells_own i (c ∷ cs) = by c.kind (cells_own (suc i) cs)
  where
    by : (k : Kind) → filter own_net (map q_in (cell_flops (suc i) cs)) ≡ map Kept (flop_nets cs)
        → filter own_net (q_by k c.net i ∷ map q_in (cell_flops (suc i) cs)) ≡ map Kept (if is_flop k then c.net ∷ flop_nets cs else flop_nets cs)
    by Input rest = rest
    by State rest = ap (λ ws. Kept c.net ∷ ws) rest
    by Split rest = ap (λ ws. Kept c.net ∷ ws) rest
    by Cut rest = rest
    by Watch rest = rest
    by Output rest = rest

-- the written netlist's drivers ------------------------------------------------------------

module _ (a : Netlist ℕ) (p : PlanValue) (is : IsNetlist a) (valid : IsValidPlan a p) where
  few : AreFew p
  few = are_few a p valid

  abbrev ports : List Wire
  ports = map Kept a.inputs ++ Test ∷ Init ∷ []

  abbrev outs : List Wire
  outs = map out_of (map (written_gate p) a.gates ++ test_gates a p)

  abbrev qs : List Wire
  qs = map q_in (flops p)

  outs_up : Rises 2 (map out_of (test_gates a p)) 7696581394432
  outs_up = outs_rise a p (omega (arith, ahead_long p, few.degree)) (omega (arith, few.sessions)) (omega (arith, few.registers, few.cells)) (omega (arith, cells_counted p.registers, few.cells))

  ports_up : (nets : List ℕ) → Rises 0 (filter other_net (map Kept nets ++ Test ∷ Init ∷ [])) 2
  ports_up [] = (omega arith, (tt, (omega arith, (tt, omega arith))))
  ports_up (net ∷ nets) = ports_up nets

  rows_up : (gs : List (Gate ℕ)) → Rises 2 (filter other_net (map out_of (map (written_gate p) gs ++ test_gates a p))) 7696581394432
  rows_up [] = rises_filter other_net 2 7696581394432 (map out_of (test_gates a p)) outs_up
  rows_up (g ∷ gs) = rows_up gs

  qs_up : Rises 7696581394432 (filter other_net qs) 12094627905536
  qs_up = qs_rise other_net (λ net. refl) p (omega (arith, few.degree)) (omega (arith, few.sessions)) (omega (arith, few.cells))

  -- the added ones
  others_distinct : Distinct (filter other_net (driven (written_netlist a p)))
  others_distinct =
      let split : filter other_net (ports ++ (outs ++ qs)) ≡ filter other_net ports ++ (filter other_net outs ++ filter other_net qs) =
      filter-append other_net ports (outs ++ qs) ∙ ap (λ ws. filter other_net ports ++ ws) (filter-append other_net outs qs) in
      let rise : Rises 0 (filter other_net ports ++ (filter other_net outs ++ filter other_net qs)) 12094627905536 =
      rises_join 0 2 12094627905536 (filter other_net ports) (filter other_net outs ++ filter other_net qs) (ports_up a.inputs) (rises_join 2 7696581394432 12094627905536 (filter other_net outs) (filter other_net qs) (rows_up a.gates) qs_up) in
      subst Distinct (sym split) (rises_distinct 0 12094627905536 (filter other_net ports ++ (filter other_net outs ++ filter other_net qs)) rise)

  ports_own : (nets : List ℕ) → filter own_net (map Kept nets ++ Test ∷ Init ∷ []) ≡ map Kept nets
  ports_own [] = refl
  ports_own (net ∷ nets) = ap (λ ws. Kept net ∷ ws) (ports_own nets)

  rows_own : (gs : List (Gate ℕ)) → filter own_net (map out_of (map (written_gate p) gs ++ test_gates a p)) ≡ map Kept (map (λ g. g.out) gs)
  rows_own [] = none_own (map out_of (test_gates a p)) (rises_added 2 7696581394432 (map out_of (test_gates a p)) outs_up)
  rows_own (g ∷ gs) = ap (λ ws. Kept g.out ∷ ws) (rows_own gs)

  qs_own : filter own_net qs ≡ map Kept (flop_nets (chain p))
  qs_own =
      words_own 0 p.degree (flop Phase PhaseNext ∷ (ring_flops 0 (length p.sessions) ++ cell_flops 0 (chain p))) ∙ rings_own 0 (length p.sessions) (cell_flops 0 (chain p)) ∙ cells_own 0 (chain p)

  abbrev gate_nets : List ℕ
  gate_nets = map (λ (g : Gate ℕ). g.out) a.gates

  abbrev q_nets : List ℕ
  q_nets = map (λ (f : Flop ℕ). f.q) a.flops

  -- the original's
  own_are : filter own_net (driven (written_netlist a p)) ≡ map Kept (a.inputs ++ (gate_nets ++ flop_nets (chain p)))
  own_are =
      filter-append own_net ports (outs ++ qs) ∙ ap (λ ws. filter own_net ports ++ ws) (filter-append own_net outs qs) ∙ (λ i. ports_own a.inputs i ++ (rows_own a.gates i ++ qs_own i))
      ∙ sym (map_join Kept a.inputs (gate_nets ++ flop_nets (chain p)) ∙ ap (λ ks. map Kept a.inputs ++ ks) (map_join Kept gate_nets (flop_nets (chain p))))

  one_cell : (i j : ℕ) (c d : Cell) → i < j → slice_get (chain p) i ≡ Some c → slice_get (chain p) j ≡ Some d → is_flop c.kind ≡ true → is_flop d.kind ≡ true → d.net ≢ c.net
  one_cell i j c d less at there e f = λ same. cc (sym (flops_meet c.kind d.kind e f) ∙ valid.meets Apart j d there i c less at (sym same))

  qs_in : AllByRecursion (Contains q_nets) (flop_nets (chain p))
  qs_in = nets_in (Contains q_nets) (chain p) (by_place (λ (c : Cell). is_flop c.kind ≡ true → Contains q_nets c.net) (chain p) (λ i c at e. q_there c.net (q_of_flop a c.kind c.net (valid.meets Kinds i c at) e)))
    where
      q_there : (net : ℕ) → IsQ a net → Contains q_nets net
      q_there net q = subst (Contains q_nets) q.1.2 (contains_map (λ (f : Flop ℕ). f.q) a.flops q.1.0 (contains_at a.flops q.0 q.1.0 q.1.1))

  nets_apart : Distinct (a.inputs ++ (gate_nets ++ flop_nets (chain p)))
  nets_apart =
      subst Distinct (append_assoc a.inputs gate_nets (flop_nets (chain p)))
      (part_distinct (a.inputs ++ gate_nets) q_nets (flop_nets (chain p)) (subst Distinct (sym (append_assoc a.inputs gate_nets q_nets)) (driven_distinct a is)) (flop_nets_distinct (chain p) one_cell) qs_in)

  owns_distinct : Distinct (filter own_net (driven (written_netlist a p)))
  owns_distinct =
      let nets : List ℕ = a.inputs ++ (gate_nets ++ flop_nets (chain p)) in
      subst Distinct (sym own_are) (distinct_map Kept (λ m. Unit {0}) (λ m k x y e. cc e) nets (to_all (λ m. Unit {0}) nets (λ m c. tt)) nets_apart)

  pub drivers_distinct : Distinct (driven (written_netlist a p))
  drivers_distinct = split_distinct other_net (driven (written_netlist a p)) others_distinct owns_distinct
