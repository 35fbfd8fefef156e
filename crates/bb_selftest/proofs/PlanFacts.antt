-- What a valid plan gives its test runs.
use Rattle.std.proofs.Common.{◌≡◌, ◌⊎◌, inl, inr, ℕ, zero, suc, ◌≤◌, ◌^◌, ◌&&◌, ◌||◌, ◌==◌, nat_eq, Bool, true, false, List, [], ◌∷◌, length, refl, sym, ap, ◌∙◌, arith, Some, slice_get, Contains}
use Rattle.std.proofs.lemmas.Bool.Decides.{nat_tests}
use Rattle.std.specs.List.{list_any, list_all}
use Rattle.bb_base.proofs.Contained.{either, none_in, place_of}
use Rattle.bb_base.specs.Net.{Netlist, IsNetlist}
use Rattle.bb_base.specs.Parity.{code_bit, code_of_bits}
use Rattle.bb_gf2.proofs.BitLaws.{code_of_bits-bits}
use Rattle.bb_terms.specs.Register.{state_after}
use Rattle.bb_terms.specs.OnBits.{bits_after}
use Rattle.bb_gf2.proofs.BitSteps.{bits-state}
use Rattle.bb_gf2.proofs.Orbit.{state_below}
use Rattle.bb_terms.specs.declared.kind.Kind.{Kind}
use Rattle.bb_terms.specs.declared.kind.Kind.TheVariants.{Input, State, Split, Cut, Watch, Output}
use Rattle.bb_terms.specs.declared.plan.Cell.{Cell}
use Rattle.bb_terms.specs.Kinds.{is_source, is_observer, is_behind, has_line, only_generates}
use Rattle.bb_terms.specs.Plan.{PlanValue, chain, compacts, lists_register, has_input, IsCell}
use Rattle.bb_terms.specs.Lines.{IsLeafOf, column_of, source_of}
use Rattle.bb_terms.specs.Rules.{Frame, Kinds, Apart, Served, Pure, Sessions, Compacted, Room, Conflicts, Period, IsFrame}
use Rattle.bb_terms.specs.Sources.{IsSourceAt, IsGenerated}
use Rattle.bb_terms.specs.Valid.{IsValidPlan}
use Rattle.bb_rules.proofs.CellLemmas.{cell_at, column_is}
use Rattle.bb_rules.proofs.SessionLemmas.{generated}
use Rattle.bb_rules.proofs.SourceLemmas.{source_is, one_source}
use Rattle.bb_terms.proofs.StopLemmas.{source_stops}
use Rattle.bb_testrun.specs.Control.{ReturnsAfter}
use Rattle.bb_testrun.specs.Computes.{ReadsAtStops}
use Rattle.bb_testrun.specs.Reading.{Generates}
use Rattle.bb_testrun.proofs.FullLaws.{full_walks_cycle}

-- some item passes a test
pub some_passes : {X : Type 0} (test : X → Bool) (xs : List X) → list_any test xs ≡ true → (k : ℕ) × (x : X) × (slice_get xs k ≡ Some x) × (test x ≡ true)
some_passes test [] h = absurd (cc h)
some_passes {X} test (y ∷ xs) h = by (test y) refl h (λ h. some_passes test xs h)
  where
    by : (b : Bool) → test y ≡ b → (b || list_any test xs) ≡ true → (list_any test xs ≡ true → (k : ℕ) × (x : X) × (slice_get xs k ≡ Some x) × (test x ≡ true)) → (k : ℕ) × (x : X) × (slice_get (y ∷ xs) k ≡ Some x) × (test x ≡ true)
    by true e h more = (0, y, refl, e)
    by false e h more = let rest = more h in (suc rest.0, rest.1, rest.2, rest.3)

first_true : (a b : Bool) → (a && b) ≡ true → a ≡ true
first_true true b h = refl
first_true false b h = absurd (cc h)

second_true : (a b : Bool) → (a && b) ≡ true → b ≡ true
second_true true b h = h
second_true false b h = absurd (cc h)

behind_is_source : (kind : Kind) → is_behind kind ≡ true → is_source kind ≡ true
behind_is_source Input h = refl
behind_is_source State h = absurd (cc h)
behind_is_source Split h = absurd (cc h)
behind_is_source Cut h = refl
behind_is_source Watch h = absurd (cc h)
behind_is_source Output h = absurd (cc h)

pub observer_has_line : (kind : Kind) → is_observer kind ≡ true → has_line kind ≡ true
observer_has_line Input h = absurd (cc h)
observer_has_line State h = refl
observer_has_line Split h = refl
observer_has_line Cut h = refl
observer_has_line Watch h = refl
observer_has_line Output h = refl

-- a code bit on lists of bits is that on numbers
pub code_at_step : (k mask t column : ℕ) → 1 ≤ k → code_of_bits column (bits_after k mask t) ≡ code_bit column (state_after k mask t)
code_at_step k mask t column some = ap (code_of_bits column) (sym (bits-state k mask t some)) ∙ code_of_bits-bits k column (state_after k mask t) (state_below k mask t)

-- the session's number is below their count
pub session_less : (r s : ℕ) (sessions : List (List ℕ)) → compacts sessions r s ≡ true → suc s ≤ length sessions
session_less r s [] h = absurd (cc h)
session_less r zero (x ∷ sessions) h = omega arith
session_less r (suc s) (x ∷ sessions) h = let rest = session_less r s sessions h in omega (arith, rest)

-- a register that a session has is listed
lists : (r : ℕ) (session : List ℕ) → Contains session r → lists_register r session ≡ true
lists r [] c = absurd (none_in r c)
lists r (x ∷ session) c = by (nat_eq r x) refl (either x session r c) (λ c. lists r session c)
  where
    by : (b : Bool) → nat_eq r x ≡ b → (x ≡ r) ⊎ Contains session r → (Contains session r → lists_register r session ≡ true) → (nat_eq r x || lists_register r session) ≡ true
    by true e c more = ap (λ b. b || lists_register r session) e
    by false e (inl same) more = absurd (grind (arith, nat_tests, e, same))
    by false e (inr c) more = ap (λ b. b || lists_register r session) e ∙ more c

pub compacts_at : (r : ℕ) (sessions : List (List ℕ)) (s : ℕ) (session : List ℕ) → slice_get sessions s ≡ Some session → Contains session r → compacts sessions r s ≡ true
compacts_at r [] s session at c = absurd (cc at)
compacts_at r (x ∷ sessions) zero session at c = let same : x ≡ session = cc at in ap (lists_register r) same ∙ lists r session c
compacts_at r (x ∷ sessions) (suc s) session at c = compacts_at r sessions s session at c

all_pass : {X : Type 0} (test : X → Bool) (xs : List X) (k : ℕ) (x : X) → list_all test xs ≡ true → slice_get xs k ≡ Some x → test x ≡ true
all_pass test [] k x h at = absurd (cc at)
all_pass test (y ∷ xs) zero x h at = let same : y ≡ x = cc at in ap test (sym same) ∙ first_true (test y) _ h
all_pass test (y ∷ xs) (suc k) x h at = all_pass test xs k x (second_true (test y) _ h) at

observer_no_input : (kind : Kind) → is_observer kind ≡ true → only_generates kind ≡ true → ⊥
observer_no_input Input h k = cc h
observer_no_input State h k = cc k
observer_no_input Split h k = cc h
observer_no_input Cut h k = cc k
observer_no_input Watch h k = cc k
observer_no_input Output h k = cc k

module _ (a : Netlist ℕ) (p : PlanValue) (valid : IsValidPlan a p) where
  frame : IsFrame p
  frame = valid.meets Frame

  pub some_degree : 1 ≤ p.degree
  some_degree = frame.degree_least

  pub returns : ReturnsAfter p.degree p.mask (2 ^ p.degree)
  returns = full_walks_cycle p.degree p.mask frame.degree_least frame.mask_fits (valid.meets Period)

  pub room : length (chain p) ≤ 2 ^ p.degree
  room = valid.meets Room

  pub code_is : (column t : ℕ) → code_of_bits column (bits_after p.degree p.mask t) ≡ code_bit column (state_after p.degree p.mask t)
  code_is column t = code_at_step p.degree p.mask t column frame.degree_least

  -- a cell behind which a net is read is a source on it
  behind_source : (net : ℕ) → list_any (λ c. is_behind c.kind && (c.net == net)) (chain p) ≡ true → (i : ℕ) × (h : IsSourceAt p net i) × (is_behind h.source.kind ≡ true)
  behind_source net h =
      let c = some_passes (λ (c : Cell). is_behind c.kind && (c.net == net)) (chain p) h in
      let behind = first_true (is_behind c.1.kind) (c.1.net == net) c.3 in
      let on : c.1.net ≡ net = (let e = second_true (is_behind c.1.kind) (c.1.net == net) c.3 in grind (arith, nat_tests, e)) in
      (c.0, record { source = c.1; stands = c.2; generates = behind_is_source c.1.kind behind; on = on }, behind)

  pub reads_at_stops : IsNetlist a → ReadsAtStops a p
  reads_at_stops fits net passed = by (list_any (λ c. is_behind c.kind && (c.net == net)) (chain p)) refl
    where
      by : (b : Bool) → list_any (λ c. is_behind c.kind && (c.net == net)) (chain p) ≡ b → list_any (λ c. is_behind c.kind && (c.net == net)) (chain p) ≡ false
      by false e = e
      by true e = let h = behind_source net e in absurd (let stops = source_stops a p net h.0 fits (valid.meets Kinds) h.1 in cc (passed, stops))

  -- a leaf of a line that compacts generates, by its column
  pub leaf_generates : IsNetlist a → (s r i net : ℕ) (c : Cell) → compacts p.sessions r s ≡ true → IsCell p i r c → IsLeafOf a p c net → Generates p s net (column_of p net)
  leaf_generates fits s r i net c h cell leaf =
      let g : IsGenerated p s net = generated a p s r i net c fits (valid.meets Kinds) (valid.meets Served) (valid.meets Sessions) (valid.meets Conflicts) h cell leaf in
      let stands : slice_get (chain p) g.number ≡ Some g.source = cell_at p g.number g.register g.source g.stands in
      record {
        register = g.register;
        cell = g.source;
        is = ap (source_of p) (sym g.on) ∙ source_is a p g.number g.register g.source (valid.meets Apart) g.stands g.generates;
        coded = sym (column_is a p g.number g.source (valid.meets Apart) stands g.generates) ∙ ap (column_of p) g.on;
        apart = g.apart;
        own = λ front. by g stands front (list_any (λ c. is_behind c.kind && (c.net == net)) (chain p)) refl;
      }
    where
      by : (g : IsGenerated p s net) → slice_get (chain p) g.number ≡ Some g.source → is_behind g.source.kind ≡ false → (b : Bool) → list_any (λ c. is_behind c.kind && (c.net == net)) (chain p) ≡ b
          → list_any (λ c. is_behind c.kind && (c.net == net)) (chain p) ≡ false
      by g stands front false e = e
      by g stands front true e =
          let h = behind_source net e in
          let here : IsSourceAt p net g.number = record { source = g.source; stands = stands; generates = g.generates; on = g.on } in
          let place : h.0 ≡ g.number = one_source a p net h.0 g.number (valid.meets Apart) h.1 here in
          let both : Some h.1.source ≡ Some g.source = sym h.1.stands ∙ ap (slice_get (chain p)) place ∙ stands in
          let same : h.1.source ≡ g.source = cc both in
          let behind : is_behind g.source.kind ≡ true = ap (λ (c : Cell). is_behind c.kind) (sym same) ∙ h.2 in
          absurd (cc (front, behind))

  -- an observer's register compacts in some session
  pub some_session : (i r : ℕ) (c : Cell) → IsCell p i r c → is_observer c.kind ≡ true → (s : ℕ) × (compacts p.sessions r s ≡ true)
  some_session i r c cell observes = by (has_input cell.register) refl
    where
      by : (b : Bool) → has_input cell.register ≡ b → (s : ℕ) × (compacts p.sessions r s ≡ true)
      by true e = absurd (observer_no_input c.kind observes (all_pass (λ (c : Cell). only_generates c.kind) cell.register.cells cell.place c (valid.meets Pure r cell.register cell.stands e) cell.at))
      by false e =
          let listed = valid.meets Compacted r cell.register cell.stands e in
          let there = place_of p.sessions listed.0 listed.1 in
          (there.0, compacts_at r p.sessions there.0 listed.0 there.1 listed.2)
