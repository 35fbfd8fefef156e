-- The clauses on each test run, at sites.
use Rattle.std.proofs.Common.{◌≡◌, ◌⊎◌, inl, inr, ℕ, suc, ◌+◌, ◌*◌, ◌<◌, ◌≤◌, ◌^◌, ◌&&◌, nat_le, take, Bool, true, false, List, length, map, refl, ap, ◌∙◌, arith, Some, slice_get, Contains}
use Rattle.std.specs.List.{flat_map}
use Rattle.bb_base.proofs.Contained.{map_on, place_of}
use Rattle.bb_base.proofs.Lists.{map_twice}
use Rattle.bb_base.specs.Net.{Gate, IsNetlist}
use Rattle.bb_base.specs.Run.{at}
use Rattle.bb_base.specs.Named.{Named}
use Rattle.bb_net.specs.Sites.{Site}
use Rattle.bb_base.specs.Parity.{code_bit}
use Rattle.bb_terms.specs.Register.{state_after}
use Rattle.bb_terms.specs.Signature.{signature}
use Rattle.bb_terms.specs.Paths.{Start}
use Rattle.bb_terms.specs.Function.{IsBitOf}
use Rattle.bb_terms.specs.declared.plan.Cell.{Cell}
use Rattle.bb_terms.specs.Kinds.{is_source, has_line}
use Rattle.bb_terms.specs.Plan.{RegisterValue, PlanValue, chain, compacts, IsCell}
use Rattle.bb_terms.specs.Lines.{is_stop, IsStart, IsLeafOf, column_of}
use Rattle.bb_terms.specs.Rules.{Sessions}
use Rattle.bb_terms.specs.Signatures.{code_at}
use Rattle.bb_terms.specs.Valid.{IsValidPlan}
use Rattle.bb_rules.proofs.SessionLemmas.{observes}
use Rattle.bb_terms.specs.Reads.{qs_from}
use Rattle.bb_written.specs.Written.{wire_site}
use Rattle.bb_normal.specs.Normal.{site_so, site_done}
use Rattle.bb_testrun.specs.Held.{line_bits}
use Rattle.bb_testrun.specs.SignatureSoFar.{lines_until}
use Rattle.bb_testrun.proofs.LineLaws.{lines_compute}
use Rattle.bb_testrun.proofs.ReadCodes.{read_code}
use Rattle.bb_testrun.proofs.SignatureLaws.{signatures_agree}
use Rattle.bb_selftest.specs.WrittenLines.{IsObserver, q_site, q_sites_from, read_site, line_site, sited_gate}
use Rattle.bb_selftest.specs.TestRun.{run_cycle, unload_cycle}
use Rattle.bb_selftest.specs.TestTrace.{IsTracedTest, wire_bits}
use Rattle.bb_selftest.specs.Signed.{IsRegisterAt, lines_at, signature_until}
use Rattle.bb_selftest.specs.Unloads.{IsUnloadCycle}
use Rattle.bb_selftest.proofs.PlanFacts.{observer_has_line, returns, room, code_is, reads_at_stops, leaf_generates, session_less}
use Rattle.bb_selftest.proofs.CellBits.{signed_at, coded_at, comes_at, quiet_at, done_at}

module _ (a : Named) (p : PlanValue) (fits : IsNetlist a.netlist) (valid : IsValidPlan a.netlist p) (gives : Gate Site → List Bool → Bool) (vs : List (Site → Bool)) (t : IsTracedTest gives a p vs) where
  pub line_follows : (c i r : ℕ) (cell : Cell) (start : Start ℕ) → c < length vs → IsObserver p i r cell → IsStart a.netlist cell start
      → IsBitOf (λ g. gives (sited_gate a p g)) a.netlist.gates (is_stop a.netlist p) start (λ net. at vs c (read_site a p net)) (at vs c (line_site a p cell))
  line_follows c i r cell start less observer begins = lines_compute a.netlist p (reads_at_stops a.netlist p valid fits) (λ g. gives (sited_gate a p g)) (wire_bits a vs c) (t.kept c less) cell start begins

  pub leaf_is_coded : (s u r i net : ℕ) (cell : Cell) → u < 2 ^ p.degree → run_cycle p s u < length vs → IsCell p i r cell → compacts p.sessions r s ≡ true → IsLeafOf a.netlist p cell net
      → at vs (run_cycle p s u) (read_site a p net) ≡ code_at p (state_after p.degree p.mask u) net
  leaf_is_coded s u r i net cell low less stands h leaf =
      read_code a.netlist p (2 ^ p.degree) (length vs) (wire_bits a vs) t.trace (returns a.netlist p valid) (room a.netlist p valid) s u (session_less r s p.sessions h) low less net (column_of p net)
      (leaf_generates a.netlist p valid fits s r i net cell h stands leaf)
      ∙ code_is a.netlist p valid (column_of p net) u

  pub cell_is_coded : (s u i r : ℕ) (c : Cell) → s < length p.sessions → u < 2 ^ p.degree → run_cycle p s u < length vs → IsCell p i r c → compacts p.sessions r s ≡ false
      → at vs (run_cycle p s u) (q_site a i c) ≡ (is_source c.kind && code_bit c.column (state_after p.degree p.mask u))
  cell_is_coded s u i r c session low less cell h =
      coded_at a.netlist p (2 ^ p.degree) (length vs) (wire_bits a vs) t.trace (returns a.netlist p valid) (room a.netlist p valid) s u i r c session (omega (arith, low)) less cell h
      ∙ ap (λ b. is_source c.kind && b) (code_is a.netlist p valid c.column u)

  -- in each cycle of a run, and in the one behind it, a register that compacts holds the signature so far
  lines_are : (s r : ℕ) (g : RegisterValue) → slice_get p.registers r ≡ Some g → compacts p.sessions r s ≡ true → (u : ℕ) → line_bits a.netlist p (2 ^ p.degree) (wire_bits a vs) s g.cells u ≡ lines_at a p vs s g u
  lines_are s r g stands h u = map_on (λ (c : Cell). has_line c.kind && at vs (run_cycle p s u) (line_site a p c)) (λ (c : Cell). at vs (run_cycle p s u) (line_site a p c)) g.cells each
    where
      each : (c : Cell) → Contains g.cells c → (has_line c.kind && at vs (run_cycle p s u) (line_site a p c)) ≡ at vs (run_cycle p s u) (line_site a p c)
      each c within =
          let there = place_of g.cells c within in
          let cell : IsCell p (length (flat_map (λ (g : RegisterValue). g.cells) (take r p.registers)) + there.0) r c = record { register = g; stands = stands; place = there.0; at = there.1; number = refl } in
          ap (λ b. b && at vs (run_cycle p s u) (line_site a p c)) (observer_has_line c.kind (observes a.netlist p s r _ c (valid.meets Sessions) h cell))

  pub holds_until : (s u i r : ℕ) (g : RegisterValue) → u ≤ 2 ^ p.degree → run_cycle p s u < length vs → IsRegisterAt p i r g → compacts p.sessions r s ≡ true
      → map (at vs (run_cycle p s u)) (q_sites_from a i g.cells) ≡ signature_until a p vs s g u
  holds_until s u i r g low less is h =
      map_twice (at vs (run_cycle p s u)) (wire_site a) (qs_from i g.cells)
      ∙ signed_at a.netlist p (2 ^ p.degree) (length vs) (wire_bits a vs) t.trace (returns a.netlist p valid) (room a.netlist p valid) s u i r g (session_less r s p.sessions h) low less is h
      ∙ signatures_agree (length g.cells) g.mask u (line_bits a.netlist p (2 ^ p.degree) (wire_bits a vs) s g.cells)
      ∙ (λ j. signature (length g.cells) g.mask (lines_until (λ k. lines_are s r g is.stands h k j) u))

  pub cell_comes_out : (s j i r : ℕ) (c : Cell) → s < length p.sessions → IsCell p i r c → i + suc j ≡ length (chain p) → unload_cycle p s j < length vs
      → at vs (unload_cycle p s j) site_so ≡ (compacts p.sessions r s && at vs (unload_cycle p s 0) (q_site a i c))
  cell_comes_out s j i r c session cell place less =
      comes_at a.netlist p (2 ^ p.degree) (length vs) (wire_bits a vs) t.trace (returns a.netlist p valid) (room a.netlist p valid) s j i r c session cell place less

  pub quiet_elsewhere : (c : ℕ) → c < length vs → IsUnloadCycle p c ⊎ (at vs c site_so ≡ false)
  quiet_elsewhere c less = by (quiet_at a.netlist p (2 ^ p.degree) (length vs) (wire_bits a vs) t.trace (returns a.netlist p valid) (room a.netlist p valid) c less)
    where
      by : ((s : ℕ) × (j : ℕ) × (s < length p.sessions) × (j < length (chain p)) × (c ≡ unload_cycle p s j)) ⊎ (at vs c site_so ≡ false) → IsUnloadCycle p c ⊎ (at vs c site_so ≡ false)
      by (inl h) = inl (record { s = h.0; j = h.1; session = h.2; cell = h.3; is = h.4 })
      by (inr e) = inr e

  pub end_told : (c : ℕ) → c < length vs → at vs c site_done ≡ nat_le (1 + 2 * length p.sessions * 2 ^ p.degree) c
  end_told c less = done_at a.netlist p (2 ^ p.degree) (length vs) (wire_bits a vs) t.trace (returns a.netlist p valid) (room a.netlist p valid) c less
