-- Sessions with a clash are those with a conflict.
use Rattle.std.proofs.Common.{arith, ◌≡◌, ℕ, zero, suc, ◌+◌, ◌<◌, ◌≤◌, ◌^◌, ◌==◌, List, [], length, map, All, Bool, true, false, cond, nat_eq, refl, sym, ap, subst, ◌∙◌, slice_get, get_or, Option, Some, None, Result, Ok, Err, IfOk, Contains}
use Rattle.std.proofs.lemmas.Bool.Decides.{nat_tests}
use Rattle.std.proofs.lemmas.List.{take_all}
use Rattle.std.proofs.lemmas.List.Elements.{All-from_recursion}
use Rattle.std.proofs.lemmas.Option.{slice_get_within, slice_get-get_or, get_or_from_slice_get}
use Rattle.std.specs.List.{AllZip, flat_map, list_any}
use Rattle.bb_base.specs.Places.{EachAt, IsFirstWrong}
use Rattle.bb_base.proofs.Contained.{none_in, of_all, to_all, by_place, contains_map, place_of, contains_at}
use Rattle.bb_base.specs.Net.{Netlist}
use Rattle.bb_terms.specs.declared.plan.Cell.{Cell}
use Rattle.bb_terms.specs.Kinds.{is_observer}
use Rattle.bb_terms.specs.Plan.{PlanValue, chain, IsCell, observers, lists_register}
use Rattle.bb_terms.specs.Rules.{Sessions, Conflicts, Holds, HasNoConflict, MayCompact}
use Rattle.bb_rules.proofs.CellLemmas.{cell_at}
use Rattle.bb_plan.specs.Answers.{MeetsTo, IsVerdict}
use Rattle.bb_plan.proofs.Items.{any_item, any_of}
use Rattle.bb_plan.specs.declared.chain.Link.{Link}
use Rattle.bb_plan.specs.Chain.{links_from, register_of_cell}
use Rattle.bb_plan.specs.Layout.{LineValue, IsObservedLine}
use Rattle.bb_plan.specs.Clashes.{feeders_of_line, feeders_in, feeders_at, session_clashes}
use Rattle.bb_plan.proofs.ChainLemmas.{at_link, chain_long, cell_of_link, link_of_cell, register_read}
use Rattle.bb_plan.proofs.LineLemmas.{of_map}
use Rattle.bb_plan.proofs.ObserverLemmas.{observer_is, is_observer_at, zip_left, zip_right}
use Rattle.bb_plan.proofs.PlaceLemmas.{in_parts, of_parts, few_parts}

listed : (q : ℕ) (session : List ℕ) → lists_register q session ≡ true → Contains session q
listed q session e =
    let h = any_item (nat_eq q) session e in
    let test = h.2 in
    let same : h.0 ≡ q = grind (arith, nat_tests, test) in
    subst (Contains session) same h.1

lists_it : (q : ℕ) (session : List ℕ) → Contains session q → lists_register q session ≡ true
lists_it q session c = any_of (nat_eq q) session q c (grind (arith, nat_tests))

-- a plan has few sessions
pub few_sessions : (a : Netlist ℕ) (p : PlanValue) → MeetsTo a p 10 → length p.sessions ≤ 2 ^ 31
few_sessions a p before = by (length p.sessions) refl
  where
    by : (n : ℕ) → length p.sessions ≡ n → length p.sessions ≤ 2 ^ 31
    by zero e = omega (arith, e)
    by (suc s) e =
        let at = last s e in
        let sum = (before Sessions (omega arith) s at.0 at.1).few in
        let whole = ap (λ (xs : List (List ℕ)). length (flat_map (λ (x : List ℕ). x) xs)) (take_all (suc s) p.sessions (omega (arith, e))) in
        let parts = few_parts (λ (x : List ℕ). x) p.sessions (λ i x there. (before Sessions (omega arith) i x there).some) in
        omega (arith, sum, whole, parts)
      where
        last : (s : ℕ) → length p.sessions ≡ suc s → (x : List ℕ) × (slice_get p.sessions s ≡ Some x)
        last s e = (get_or p.sessions s [], slice_get-get_or p.sessions s [] (omega (arith, e)))

-- its sessions list registers
listed_low : (a : Netlist ℕ) (p : PlanValue) (s : ℕ) (x : List ℕ) → MeetsTo a p 10 → slice_get p.sessions s ≡ Some x → (r : ℕ) → Contains x r → r < length p.registers
listed_low a p s x before at r c =
    let may = of_all (MayCompact p) x r (before Sessions (omega arith) s x at).compacting c in
    slice_get_within p.registers r may.0 may.1

pub sessions_low : (a : Netlist ℕ) (p : PlanValue) → MeetsTo a p 10 → All (λ session. All (λ r. r < length p.registers) session) p.sessions
sessions_low a p before =
    All-from_recursion (λ session. All (λ r. r < length p.registers) session) p.sessions
    (by_place (λ session. All (λ r. r < length p.registers) session) p.sessions (λ s x at. All-from_recursion (λ r. r < length p.registers) x (to_all (λ r. r < length p.registers) x (listed_low a p s x before at))))

-- links have registers of the plan
pub registers_low : (p : PlanValue) (links : List Link) → links ≡ links_from 0 p.registers → All (λ l. l.register < length p.registers) links
registers_low p links is = All-from_recursion (λ l. l.register < length p.registers) links
    (by_place (λ l. l.register < length p.registers) links (λ i l at. let cell = cell_of_link p i l (ap (λ ls. slice_get ls i) (sym is) ∙ at) in slice_get_within p.registers l.register cell.register cell.stands))

module _ (a : Netlist ℕ) (p : PlanValue) (links : List Link) (lines : List LineValue) (chain_is : links ≡ links_from 0 p.registers) (zipped : AllZip (IsObservedLine a p) (observers p) lines) where
  -- the observer of a line
  record HasObserver (line : LineValue) : Type 0 where
    number : ℕ
    cell : Cell
    stands : slice_get (chain p) number ≡ Some cell
    observes : is_observer cell.kind ≡ true
    is : IsObservedLine a p (number, cell) line

  observed : (line : LineValue) → Contains lines line → HasObserver line
  observed line c =
      let k = place_of lines line c in
      let o = zip_right (IsObservedLine a p) (observers p) lines zipped k.0 line k.1 in
      let is = observer_is 0 (chain p) k.0 o.0.0 o.0.1 o.1 in
      let same : is.place ≡ o.0.0 = (let e = is.number in omega (arith, e)) in
      record { number = o.0.0; cell = o.0.1; stands = ap (slice_get (chain p)) (sym same) ∙ is.stands; observes = is.observes; is = o.2 }

  long : length links ≡ length (chain p)
  long = ap length chain_is ∙ chain_long p

  source_low : (line : LineValue) → Contains lines line → (j : ℕ) → Contains line.sources j → j < length links
  source_low line c j h =
      let o = observed line c in
      let s = (o.is.each j).0 h in
      let less = slice_get_within (chain p) j s.source s.stands in
      let all = long in
      omega (arith, less, all)

  -- lines speak of cells of the chain
  pub lines_low : All (λ line. line.cell < length links) lines
  lines_low = All-from_recursion (λ line. line.cell < length links) lines (to_all (λ line. line.cell < length links) lines (λ line c.
      let o = observed line c in
      let less = slice_get_within (chain p) o.number o.cell o.stands in
      let cell = o.is.cell in
      let all = long in
      omega (arith, less, cell, all)))

  pub sources_low : All (λ line. All (λ i. i < length links) line.sources) lines
  sources_low = All-from_recursion (λ line. All (λ i. i < length links) line.sources) lines
      (to_all (λ line. All (λ i. i < length links) line.sources) lines (λ line c. All-from_recursion (λ i. i < length links) line.sources (to_all (λ i. i < length links) line.sources (source_low line c))))

  pub sources_few : All (λ line. length line.sources ≤ 16) lines
  sources_few = All-from_recursion (λ line. length line.sources ≤ 16) lines (to_all (λ line. length line.sources ≤ 16) lines (λ line c. (observed line c).is.few))

  -- a cell's register is read off the links
  register_is : (i : ℕ) (c : Cell) → slice_get (chain p) i ≡ Some c → IsCell p i (register_of_cell links i) c
  register_is i c at =
      let l = at_link p i c at in
      let there : slice_get links i ≡ Some l.0 = ap (λ ls. slice_get ls i) chain_is ∙ l.1 in
      let number = register_read links i l.0 there in
      subst (λ (d : Cell). IsCell p i (register_of_cell links i) d) l.2 (subst (λ r. IsCell p i r l.0.cell) (sym number) (cell_of_link p i l.0 l.1))

  register_of : (i r : ℕ) (c : Cell) → IsCell p i r c → register_of_cell links i ≡ r
  register_of i r c h = register_read links i (record { cell = c; register = r }) (ap (λ ls. slice_get ls i) chain_is ∙ link_of_cell p i r c h)

  -- a register that feeds another has the source of a line in it
  record IsFed (r q : ℕ) : Type 0 where
    line : LineValue
    stands : Contains lines line
    into : register_of_cell links line.cell ≡ r
    source : ℕ
    reads : Contains line.sources source
    from : register_of_cell links source ≡ q

  fed_by : (r q : ℕ) → Contains (feeders_in links lines r) q → IsFed r q
  fed_by r q c =
      let h = of_parts (feeders_of_line links r) lines q c in
      by h.0 h.1 (register_of_cell links h.0.cell == r) refl h.2
    where
      by : (line : LineValue) → Contains lines line → (b : Bool) → (register_of_cell links line.cell == r) ≡ b → Contains (cond b (map (register_of_cell links) line.sources) []) q → IsFed r q
      by line stands true e h =
          let j = of_map (register_of_cell links) line.sources q h in
          record { line = line; stands = stands; into = grind (arith, nat_tests, e); source = j.0; reads = j.1; from = j.2 }
      by line stands false e h = absurd (none_in q h)

  feeds : (r q : ℕ) → IsFed r q → Contains (feeders_in links lines r) q
  feeds r q h =
      let test : (register_of_cell links h.line.cell == r) ≡ true = (let e = h.into in grind (arith, nat_tests, e)) in
      let reg = subst (Contains (map (register_of_cell links) h.line.sources)) h.from (contains_map (register_of_cell links) h.line.sources h.source h.reads) in
      in_parts (feeders_of_line links r) lines h.line q h.stands (subst (λ b. Contains (cond b (map (register_of_cell links) h.line.sources) []) q) (sym test) reg)

  fed_low : (r q : ℕ) → Contains (feeders_in links lines r) q → q < length p.registers
  fed_low r q c =
      let h = fed_by r q c in
      let o = observed h.line h.stands in
      let s = (o.is.each h.source).0 h.reads in
      let cell = register_is h.source s.source s.stands in
      let less = slice_get_within p.registers (register_of_cell links h.source) cell.register cell.stands in
      let same = h.from in
      omega (arith, less, same)

  module _ (table : List (List ℕ)) (table_long : length table ≡ length p.registers) (each : (r : ℕ) → r < length p.registers → feeders_at table r ≡ feeders_in links lines r) where
    pub feeders_low : All (λ qs. All (λ q. q < length table) qs) table
    feeders_low = All-from_recursion (λ qs. All (λ q. q < length table) qs) table (by_place (λ qs. All (λ q. q < length table) qs) table entry)
      where
        entry : (k : ℕ) (qs : List ℕ) → slice_get table k ≡ Some qs → All (λ q. q < length table) qs
        entry k qs at =
            let less = slice_get_within table k qs at in
            let inside : k < length p.registers = omega (arith, less, table_long) in
            let read : feeders_at table k ≡ qs = get_or_from_slice_get table k qs [] at in
            All-from_recursion (λ q. q < length table) qs (to_all (λ q. q < length table) qs (λ q c.
            let low = fed_low k q (subst (λ (xs : List ℕ). Contains xs q) (sym read ∙ each k inside) c) in
            omega (arith, low, table_long)))

    module _ (session : List ℕ) (low : (r : ℕ) → Contains session r → r < length p.registers) where
      -- a clash is a conflict
      pub has_conflict : session_clashes table session ≡ true → HasNoConflict a p session → ⊥
      has_conflict e none =
          let r = any_item (λ r. list_any (λ q. lists_register q session) (feeders_at table r)) session e in
          let q = any_item (λ q. lists_register q session) (feeders_at table r.0) r.2 in
          let h = fed_by r.0 q.0 (subst (λ (xs : List ℕ). Contains xs q.0) (each r.0 (low r.0 r.1)) q.1) in
          let o = observed h.line h.stands in
          let s = (o.is.each h.source).0 h.reads in
          let cell : IsCell p o.number r.0 o.cell = subst (λ k. IsCell p o.number k o.cell) (ap (register_of_cell links) (sym o.is.cell) ∙ h.into) (register_is o.number o.cell o.stands) in
          let source : IsCell p h.source q.0 s.source = subst (λ k. IsCell p h.source k s.source) h.from (register_is h.source s.source s.stands) in
          none r.0 q.0 o.number h.source o.cell s.source r.1 (listed q.0 session q.2) cell o.observes source s.generates s.leaf

      -- and where there is none, there is no conflict
      pub no_conflict : session_clashes table session ≡ false → HasNoConflict a p session
      no_conflict e r q i j c source hr hq cell observes at generates leaf =
          let stands = cell_at p i r c cell in
          let k = is_observer_at 0 (chain p) i c stands observes in
          let line = zip_left (IsObservedLine a p) (observers p) lines zipped k.0 (0 + i, c) k.1 in
          let reads = (line.2.each j).1 (record { source = source; stands = cell_at p j q source at; generates = generates; leaf = leaf }) in
          let number : line.0.cell ≡ i = (let is = line.2.cell in omega (arith, is)) in
          let fed = feeds r q (record { line = line.0; stands = contains_at lines k.0 line.0 line.1; into = ap (register_of_cell links) number ∙ register_of i r c cell; source = j; reads = reads; from = register_of j q source at }) in
          let inner = any_of (λ x. lists_register x session) (feeders_at table r) q (subst (λ (xs : List ℕ). Contains xs q) (sym (each r (low r hr))) fed) (lists_it q session hq) in
          let outer = any_of (λ x. list_any (λ y. lists_register y session) (feeders_at table x)) session r hr inner in
          let never : true ≡ false = sym outer ∙ e in
          absurd (cc never)

    not_false : (b : Bool) → (b ≡ false → ⊥) → b ≡ true
    not_false true h = refl
    not_false false h = absurd (h refl)

    conflicts_none : MeetsTo a p 10 → EachAt p.sessions (λ s session. session_clashes table session ≡ false) → Holds a p Conflicts
    conflicts_none before none s session at = no_conflict session (listed_low a p s session before at) (none s session at)

    conflict_first : MeetsTo a p 10 → (place : ℕ) → IsFirstWrong p.sessions (λ s session. session_clashes table session ≡ false) place → IsFirstWrong p.sessions (λ s session. HasNoConflict a p session) place
    conflict_first before place h = record {
      item = h.item;
      stands = h.stands;
      wrong = has_conflict h.item (listed_low a p place h.item before h.stands) (not_false (session_clashes table h.item) h.wrong);
      before = λ s session less at. no_conflict session (listed_low a p s session before at) (h.before s session less at);
    }

    -- what the search answers is what the rule asks
    pub conflict_answer : {E : Type 0} (result : Result (Option ℕ) E) → MeetsTo a p 10 → IfOk result (λ place. place ≡ None → EachAt p.sessions (λ s session. session_clashes table session ≡ false))
        → IfOk result (λ place. (s : ℕ) → place ≡ Some s → IsFirstWrong p.sessions (λ s session. session_clashes table session ≡ false) s) → IfOk result (IsVerdict a p Conflicts)
    conflict_answer (Ok None) before none first = conflicts_none before (none refl)
    conflict_answer (Ok (Some place)) before none first = conflict_first before place (first place refl)
    conflict_answer (Err e) before none first = none
