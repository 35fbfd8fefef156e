-- Each vector of a line's leaves comes, and so does what shows a change.
use Rattle.std.proofs.Common.{◌≡◌, ◌<◌, ◌^◌, ◌∙◌, ℕ, Bool, true, List, length, sym, ap}
use Rattle.bb_base.specs.Run.{at}
use Rattle.bb_base.specs.Named.{Named}
use Rattle.bb_net.specs.Sites.{Site, sited}
use Rattle.bb_terms.specs.Register.{state_after}
use Rattle.bb_terms.specs.Paths.{Start}
use Rattle.bb_terms.specs.Function.{IsBitOf}
use Rattle.bb_terms.specs.Change.{Change, IsChangeOf, gives_by}
use Rattle.bb_terms.proofs.FunctionLemmas.{one_bit}
use Rattle.bb_terms.specs.declared.plan.Cell.{Cell}
use Rattle.bb_terms.specs.Plan.{PlanValue, compacts}
use Rattle.bb_terms.specs.Lines.{is_stop, IsStart, IsLeafOf}
use Rattle.bb_terms.specs.Rules.{Columns, Codes, Period}
use Rattle.bb_terms.specs.Signatures.{code_at}
use Rattle.bb_rules.proofs.CellLemmas.{cell_at}
use Rattle.bb_rules.proofs.CodeLemmas.{vectors_come}
use Rattle.bb_terms.proofs.StopLemmas.{free_stops}
use Rattle.bb_selftest.specs.WrittenLines.{IsObserver, read_site, line_site, sited_gate}
use Rattle.bb_selftest.specs.Bounded.{IsBoundedLine}
use Rattle.bb_selftest.specs.TestRun.{IsTestRunBy, run_cycle}
use Rattle.bb_selftest.specs.TestTrace.{IsWrittenNetlist}
use Rattle.bb_selftest.specs.Exhausted.{ComesAt, IsExhausted}
use Rattle.bb_selftest.specs.Tested.{ShowsChange}
use Rattle.bb_selftest.proofs.Steps.{of_map}
use Rattle.bb_selftest.proofs.PlanFacts.{some_session}
use Rattle.bb_selftest.proofs.ClauseLaws.{lines, codes}
use Rattle.bb_selftest.proofs.Signing.{leaves_only, no_change, no_change_fits}

module _ (a b : Named) (p : PlanValue) (f : Change Site) (w : IsWrittenNetlist a b p) (change : IsChangeOf (sited a).netlist.gates f) (i r : ℕ) (c : Cell) (observer : IsObserver p i r c) where
  -- a state at which the line's leaves have these bits
  step : (u : ℕ → Bool) → (t : ℕ) × (t < 2 ^ p.degree) × ((net : ℕ) → IsLeafOf a.netlist p c net → code_at p (state_after p.degree p.mask t) net ≡ u net)
  step u = vectors_come a.netlist p i c w.original.netlist (w.plan.meets Columns) (w.plan.meets Codes) (w.plan.meets Period) (cell_at p i r c observer.stands) observer.observes u

  pub exhausted : IsBoundedLine a b p c → IsExhausted (gives_by f) a b p r c
  exhausted bounded = record { some = some_session a.netlist p w.plan i r c observer.stands observer.observes; each = each }
    where
      comes : (s : ℕ) → compacts p.sessions r s ≡ true → (u : Site → Bool) (t : ℕ) → t < 2 ^ p.degree
          → ((net : ℕ) → IsLeafOf a.netlist p c net → code_at p (state_after p.degree p.mask t) net ≡ u (read_site a p net)) → ComesAt (gives_by f) a b p c s u t
      comes s h u t low is vs test less leaf stands =
          let net = of_map (read_site a p) bounded.leaves leaf ((bounded.same leaf).0 stands) in
          let own : IsLeafOf a.netlist p c net.0 = record { start = bounded.are.start; begins = bounded.are.begins; leaf = (bounded.are.are.each net.0).0 net.1 } in
          ap (at vs (run_cycle p s t)) (sym net.2) ∙ codes a b p f w change vs test s t i r net.0 c low less observer h own ∙ is net.0 own ∙ ap u net.2

      each : (s : ℕ) → compacts p.sessions r s ≡ true → (u : Site → Bool) → (t : ℕ) × (t < 2 ^ p.degree) × ComesAt (gives_by f) a b p c s u t
      each s h u = let t = step (λ net. u (read_site a p net)) in (t.0, t.1, comes s h u t.0 t.1 t.2)

  -- a line's bit where its leaves have these bits
  line_at : (start : Start ℕ) → IsStart a.netlist c start → (u : ℕ → Bool) (bit : Bool) → IsBitOf (λ g. gives_by f (sited_gate a p g)) a.netlist.gates (is_stop a.netlist p) start u bit
      → (s : ℕ) → compacts p.sessions r s ≡ true → (t : ℕ) → t < 2 ^ p.degree → ((net : ℕ) → IsLeafOf a.netlist p c net → code_at p (state_after p.degree p.mask t) net ≡ u net)
      → (vs : List (Site → Bool)) → IsTestRunBy (gives_by f) b vs → run_cycle p s t < length vs → at vs (run_cycle p s t) (line_site a p c) ≡ bit
  line_at start begins u bit is s h t low leaves vs test less =
      let own = lines a b p f w change vs test (run_cycle p s t) i r c start less observer begins in
      let there = leaves_only (λ g. gives_by f (sited_gate a p g)) a.netlist.gates (is_stop a.netlist p) start (λ net. at vs (run_cycle p s t) (read_site a p net)) u (at vs (run_cycle p s t) (line_site a p c))
      (λ net leaf. let at_leaf : IsLeafOf a.netlist p c net = record { start = start; begins = begins; leaf = leaf } in codes a b p f w change vs test s t i r net c low less observer h at_leaf ∙ leaves net at_leaf) own in
      one_bit (λ g. gives_by f (sited_gate a p g)) a.netlist.gates w.plan.order.0 (is_stop a.netlist p) start u (at vs (run_cycle p s t) (line_site a p c)) bit w.plan.order.1 (free_stops a.netlist p) there is

pub shows : (a b : Named) (p : PlanValue) (f : Change Site) (w : IsWrittenNetlist a b p) → IsChangeOf (sited a).netlist.gates f → (i r : ℕ) (c : Cell) → IsObserver p i r c → ShowsChange f a b p r c
shows a b p f w change i r c observer start begins u one other is_one is_other differs s h =
    let t = step a b p f w change i r c observer u in (
      t.0,
      t.1,
      λ vs ws test changed less more same.
          let first = line_at a b p no_change w (no_change_fits a b p w) i r c observer start begins u one is_one s h t.0 t.1 t.2 vs test less in
          let second = line_at a b p f w change i r c observer start begins u other is_other s h t.0 t.1 t.2 ws changed more in
          differs (sym second ∙ same ∙ first),
    )
