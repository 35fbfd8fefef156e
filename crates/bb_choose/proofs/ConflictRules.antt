-- In a session no register holds a leaf of a line of one of them.
use Rattle.std.proofs.Common.{arith, ◌≡◌, ◌⊎◌, inl, inr, ℕ, ◌<◌, nat_eq, nat_lt, Bool, true, false, List, [], ◌∷◌, ◌++◌, map, refl, sym, ap, subst, ◌∙◌, get_or, if◌then◌else◌, slice_get, Some, Contains}
use Rattle.std.specs.Prelude.{AllPairs}
use Rattle.std.specs.List.{AllByRecursion, list_any, flat_map}
use Rattle.std.proofs.lemmas.Bool.Decides.{nat_tests}
use Rattle.std.proofs.lemmas.List.Elements.{Contains-append_left, Contains-append_right}
use Rattle.std.proofs.lemmas.Option.{slice_get_within, get_or_from_slice_get}
use Rattle.bb_base.proofs.Contained.{here, there, either, none_in, at_place, contains_at, place_of}
use Rattle.bb_base.proofs.Lists.{get_map}
use Rattle.bb_base.specs.Net.{Netlist}
use Rattle.bb_terms.specs.Paths.{IsLeaf}
use Rattle.bb_terms.specs.Cuts.{is_stop_with}
use Rattle.bb_segment.proofs.SetLemmas.{true_member}
use Rattle.bb_terms.specs.declared.kind.Kind.{Kind}
use Rattle.bb_terms.specs.declared.kind.Kind.TheVariants.{Input, State, Split, Cut, Watch, Output}
use Rattle.bb_terms.specs.declared.plan.Cell.{Cell}
use Rattle.bb_terms.specs.Kinds.{is_source, only_generates, reads_back}
use Rattle.bb_terms.specs.Plan.{RegisterValue, PlanValue, IsCell}
use Rattle.bb_terms.specs.Lines.{is_stop, IsStart, IsStartOf, IsLeafOf}
use Rattle.bb_terms.specs.Rules.{Holds, Conflicts}
use Rattle.bb_rules.proofs.CodeLemmas.{one_start}
use Rattle.bb_reg.specs.Chosen.{Seen, seen_cells, given_by, given, read_nets, share, clash, conflict, grouped_of}
use Rattle.bb_reg.proofs.ApartLemmas.{registers_apart, sessions_apart}
use Rattle.bb_reg.proofs.MetLemmas.{any_in}
use Rattle.bb_reg.proofs.NaturalLemmas.{fitted_all}
use Rattle.bb_choose.specs.ChosenPlan.{AreCutsOf, IsSameCell, IsSameRegister, IsChosen}
use Rattle.bb_choose.proofs.AlikeLemmas.{zip_forth}
use Rattle.bb_choose.proofs.ScheduleLemmas.{observing_register, groups_of, IsNumbered, each_numbered, register_there}
use Rattle.bb_choose.proofs.OwnLineLemmas.{IsSeen, each_seen}
use Rattle.bb_choose.proofs.StopLemmas.{or_left, or_right, stops_same}
use Rattle.bb_choose.proofs.SessionRules.{numbered_of, sessions_of, fits_session, sessions_are}

-- what one item adds to a joined list
in_flat : {X : Type 0} (f : X → List ℕ) (xs : List X) (x : X) (n : ℕ) → Contains xs x → Contains (f x) n → Contains (flat_map f xs) n
in_flat f [] x n c d = absurd (none_in x c)
in_flat {X} f (y ∷ xs) x n c d = by (either y xs x c) (λ c. in_flat f xs x n c d)
  where
    by : (y ≡ x) ⊎ Contains xs x → (Contains xs x → Contains (flat_map f xs) n) → Contains (f y ++ flat_map f xs) n
    by (inl same) rest = Contains-append_left (f y) (flat_map f xs) n (subst (λ z. Contains (f z) n) (sym same) d)
    by (inr c) rest = Contains-append_right (f y) (flat_map f xs) n (rest c)

-- a group gives its observers' nets
gives : (group : List Seen) (o : Seen) → Contains group o → reads_back o.cell.kind ≡ true → Contains (given group) o.cell.net
gives group o c back = in_flat (λ o. given_by o.cell) group o o.cell.net c (subst (λ (b : Bool). Contains (if b then o.cell.net ∷ [] else []) o.cell.net) (sym back) (here o.cell.net []))

-- a net of both lists
shared : (xs ys : List ℕ) (n : ℕ) → Contains xs n → Contains ys n → share xs ys ≡ true
shared xs ys n c d = any_in (λ x. list_any (nat_eq x) ys) xs n c (true_member ys n d)

-- the first gives a leaf of a line of the second
meets : (ys xs : List Seen) (o e : Seen) → Contains ys o → reads_back o.cell.kind ≡ true → Contains xs e → Contains e.leaves o.cell.net → share (given ys) (read_nets xs) ≡ true
meets ys xs o e c back d leaf = shared (given ys) (read_nets xs) o.cell.net (gives ys o c back) (in_flat (λ o. o.leaves) xs e o.cell.net d leaf)

-- a source that doesn't generate alone
reading_back : (kind : Kind) → is_source kind ≡ true → only_generates kind ≡ false → reads_back kind ≡ true
reading_back Input s e = absurd (cc e)
reading_back State s e = refl
reading_back Split s e = absurd (cc e)
reading_back Cut s e = refl
reading_back Watch s e = absurd (cc s)
reading_back Output s e = absurd (cc s)

-- a fact of all pairs, of two
of_pairs : {X : Type 0} (R : X → X → Type 0) (xs : List X) (i j : ℕ) (x y : X) → AllPairs R xs → slice_get xs i ≡ Some x → slice_get xs j ≡ Some y → i < j → R x y
of_pairs R xs i j x y h at there less =
    subst (R x) (get_or_from_slice_get xs j y x there) (subst (λ z. R z (get_or xs j x)) (get_or_from_slice_get xs i x x at) (h i j x less (slice_get_within xs j y there)))

some_same : {X : Type 0} (x y : X) → Some x ≡ Some y → x ≡ y
some_same x y e = cc e

-- the observer of a register's cell, where the register is listed
record Seat (session : List (ℕ × List Seen)) (r : ℕ) (c : Cell) : Type 0 where
  number : ℕ
  register : ℕ × List Seen
  stands : slice_get session number ≡ Some register
  place : ℕ
  observer : Seen
  at : slice_get register.1 place ≡ Some observer
  kind : c.kind ≡ observer.cell.kind
  net : c.net ≡ observer.cell.net

module _ (a : Netlist ℕ) (cuts : List ℕ) (most : ℕ) (p : PlanValue) (cuts_are : AreCutsOf a cuts) (h : IsChosen a cuts most p) where
  -- each listed register's cell has one
  seat : (session : List (ℕ × List Seen)) (r i : ℕ) (c : Cell) → AllByRecursion (IsNumbered h.draft most) session → Contains (map (λ x. x.0) session) r → IsCell p i r c → Seat session r c
  seat session r i c numbered listed cell =
      let k = place_of (map (λ (x : ℕ × List Seen). x.0) session) r listed in
      let x = get_map (λ (x : ℕ × List Seen). x.0) session k.0 r k.1 in
      let is = at_place (IsNumbered h.draft most) session k.0 x.0 numbered x.1 in
      let registers = (grouped_of h.draft most).registers in
      let own = zip_forth IsSameRegister p.registers registers r cell.register h.registers cell.stands in
      let there : slice_get registers r ≡ Some (observing_register x.0.1) = ap (slice_get registers) (sym x.2) ∙ register_there h.draft most x.0 is in
      let same : own.0 ≡ observing_register x.0.1 = some_same own.0 (observing_register x.0.1) (sym own.1 ∙ there) in
      let d = zip_forth IsSameCell cell.register.cells own.0.cells cell.place c own.2 cell.at in
      let o = get_map (λ (o : Seen). o.cell) x.0.1 cell.place d.0 (subst (λ (g : RegisterValue). slice_get g.cells cell.place ≡ Some d.0) same d.1) in
      record {
        number = k.0;
        register = x.0;
        stands = x.1;
        place = cell.place;
        observer = o.0;
        at = o.1;
        kind = d.2.kind ∙ ap (λ (c : Cell). c.kind) (sym o.2);
        net = d.2.net ∙ ap (λ (c : Cell). c.net) (sym o.2);
      }

  -- whose leaves are those of its line
  seen_at : (session : List (ℕ × List Seen)) (r : ℕ) (c : Cell) → AllByRecursion (IsNumbered h.draft most) session → (s : Seat session r c) → IsSeen a cuts s.observer
  seen_at session r c numbered s =
      let is = at_place (IsNumbered h.draft most) session s.number s.register numbered s.stands in
      at_place (IsSeen a cuts) s.register.1 s.place s.observer (at_place (AllByRecursion (IsSeen a cuts)) (groups_of h.draft most) is.place s.register.1 (each_seen a cuts h.draft most cuts_are h.cells) is.stands) s.at

  -- a leaf of a cell's line is one of its observer's leaves
  leaf_seen : (c : Cell) (o : Seen) (net : ℕ) → IsSeen a cuts o → c.kind ≡ o.cell.kind → c.net ≡ o.cell.net → IsLeafOf a p c net → Contains o.leaves net
  leaf_seen c o net seen kind on leaf =
      let begins : IsStart a o.cell leaf.start = subst (λ n. IsStartOf a o.cell.kind n leaf.start) on (subst (λ k. IsStartOf a k c.net leaf.start) kind leaf.begins) in
      let start = one_start a o.cell leaf.start seen.line.start cuts_are.netlist begins seen.line.begins in
      let stops : (λ n. is_stop a p n) ≡ is_stop_with a.gates cuts = λ i n. stops_same a cuts most p h n i in
      (seen.line.are.each net).1 (subst (λ s. IsLeaf a.gates (is_stop_with a.gates cuts) s net) start (subst (λ stop. IsLeaf a.gates stop leaf.start net) stops leaf.leaf))

  clear : (b : Bool) → b ≡ true → b ≡ false → ⊥
  clear b e f = cc (e, f)

  -- in one register
  no_clash : (group : List Seen) (o e : Seen) (i j : ℕ) → AllPairs (λ x y. clash y x ≡ false) group → IsSeen a cuts o → slice_get group i ≡ Some o → slice_get group j ≡ Some e
      → reads_back e.cell.kind ≡ true → Contains o.leaves e.cell.net → ⊥
  no_clash group o e i j apart seen at there back leaf = by (nat_lt i j) refl (nat_lt j i) refl
    where
      met : share (given (e ∷ [])) (read_nets (o ∷ [])) ≡ true
      met = meets (e ∷ []) (o ∷ []) e o (here e []) back (here o []) leaf

      by : (b : Bool) → nat_lt i j ≡ b → (d : Bool) → nat_lt j i ≡ d → ⊥
      by true less d k = clear (clash e o) (or_left (share (given (e ∷ [])) (read_nets (o ∷ []))) (share (given (o ∷ [])) (read_nets (e ∷ []))) met) (of_pairs (λ x y. clash y x ≡ false) group i j o e apart at there (grind (arith, nat_tests, less)))
      by false less true more = clear (clash o e) (or_right (share (given (o ∷ [])) (read_nets (e ∷ []))) (share (given (e ∷ [])) (read_nets (o ∷ []))) met) (of_pairs (λ x y. clash y x ≡ false) group j i e o apart there at (grind (arith, nat_tests, more)))
      by false less false more =
          let place : i ≡ j = grind (arith, nat_tests, less, more) in
          let same : e ≡ o = some_same e o (sym there ∙ ap (slice_get group) (sym place) ∙ at) in
          seen.apart (subst (λ (x : Seen). reads_back x.cell.kind ≡ true) same back) (subst (λ (x : Seen). Contains o.leaves x.cell.net) same leaf)

  -- in one session
  no_conflict : (session : List (ℕ × List Seen)) (r q : ℕ) (c source : Cell) → AllPairs (λ x y. conflict y.1 x.1 ≡ false) session → AllByRecursion (IsNumbered h.draft most) session
      → (s : Seat session r c) (t : Seat session q source) → is_source source.kind ≡ true → IsLeafOf a p c source.net → ⊥
  no_conflict session r q c source apart numbered s t generates leaf = by (nat_lt s.number t.number) refl (nat_lt t.number s.number) refl
    where
      seen : IsSeen a cuts s.observer
      seen = seen_at session r c numbered s

      giver : IsSeen a cuts t.observer
      giver = seen_at session q source numbered t

      back : reads_back t.observer.cell.kind ≡ true
      back = reading_back t.observer.cell.kind (ap is_source (sym t.kind) ∙ generates) giver.observes

      read : Contains s.observer.leaves t.observer.cell.net
      read = leaf_seen c s.observer t.observer.cell.net seen s.kind s.net (subst (IsLeafOf a p c) t.net leaf)

      met : share (given t.register.1) (read_nets s.register.1) ≡ true
      met = meets t.register.1 s.register.1 t.observer s.observer (contains_at t.register.1 t.place t.observer t.at) back (contains_at s.register.1 s.place s.observer s.at) read

      by : (b : Bool) → nat_lt s.number t.number ≡ b → (d : Bool) → nat_lt t.number s.number ≡ d → ⊥
      by true less d k =
          clear (conflict t.register.1 s.register.1) (or_left (share (given t.register.1) (read_nets s.register.1)) (share (given s.register.1) (read_nets t.register.1)) met)
          (of_pairs (λ (x y : ℕ × List Seen). conflict y.1 x.1 ≡ false) session s.number t.number s.register t.register apart s.stands t.stands (grind (arith, nat_tests, less)))
      by false less true more =
          clear (conflict s.register.1 t.register.1) (or_right (share (given s.register.1) (read_nets t.register.1)) (share (given t.register.1) (read_nets s.register.1)) met)
          (of_pairs (λ (x y : ℕ × List Seen). conflict y.1 x.1 ≡ false) session t.number s.number t.register s.register apart t.stands s.stands (grind (arith, nat_tests, more)))
      by false less false more =
          let place : s.number ≡ t.number = grind (arith, nat_tests, less, more) in
          let same : t.register ≡ s.register = some_same t.register s.register (sym t.stands ∙ ap (slice_get session) (sym place) ∙ s.stands) in
          let is = at_place (IsNumbered h.draft most) session s.number s.register numbered s.stands in
          no_clash s.register.1 s.observer t.observer s.place t.place
          (at_place (AllPairs (λ x y. clash y x ≡ false)) (groups_of h.draft most) is.place s.register.1 (registers_apart (seen_cells h.draft.observers h.draft.leaves) most) is.stands) seen s.at
          (subst (λ (x : ℕ × List Seen). slice_get x.1 t.place ≡ Some t.observer) same t.at) back read

  pub conflicts_meet : Holds a p Conflicts
  conflicts_meet s session at r q i j c source in_r in_q cell observes source_cell generates leaf =
      let number : List (ℕ × List Seen) → List ℕ = map (λ x. x.0) in
      let all = sessions_of h.draft most in
      let own = get_map number all s session (ap (λ ss. slice_get ss s) (sym (sessions_are a cuts most p h)) ∙ at) in
      let apart = at_place (AllPairs (λ (x y : ℕ × List Seen). conflict y.1 x.1 ≡ false)) all s own.0 (sessions_apart (numbered_of h.draft most)) own.1 in
      let numbered = at_place (AllByRecursion (IsNumbered h.draft most)) all s own.0 (fitted_all (IsNumbered h.draft most) fits_session (numbered_of h.draft most) (each_numbered h.draft most)) own.1 in
      let first = seat own.0 r i c numbered (subst (λ ns. Contains ns r) (sym own.2) in_r) cell in
      let second = seat own.0 q j source numbered (subst (λ ns. Contains ns q) (sym own.2) in_q) source_cell in
      no_conflict own.0 r q c source apart numbered first second generates leaf
