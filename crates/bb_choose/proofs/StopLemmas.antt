-- In a chosen plan walks stop at the cuts.
use Rattle.std.proofs.Common.{◌≡◌, ◌⊎◌, inl, inr, ℕ, ◌||◌, nat_eq, not, Bool, true, false, List, ◌++◌, map, refl, sym, ap, subst, ◌∙◌, Contains}
use Rattle.std.specs.List.{AllByRecursion, AllZip, list_any, flat_map}
use Rattle.std.proofs.lemmas.List.Elements.{Contains-append_left, Contains-append_right}
use Rattle.std.proofs.lemmas.List.Sorted.{Contains-permutation, IsPermutation-sym}
use Rattle.bb_base.proofs.Contained.{of_all, contains_at, contains_map, place_of}
use Rattle.bb_base.proofs.Lists.{all_join}
use Rattle.bb_base.specs.Net.{Flop, Netlist}
use Rattle.bb_terms.specs.Paths.{is_free}
use Rattle.bb_terms.specs.Cuts.{is_stop_with}
use Rattle.bb_segment.proofs.SetLemmas.{member_true, true_member}
use Rattle.bb_terms.specs.declared.kind.Kind.TheVariants.{State, Cut, Watch}
use Rattle.bb_terms.specs.declared.plan.Cell.{Cell}
use Rattle.bb_terms.specs.Kinds.{is_cut}
use Rattle.bb_terms.specs.Plan.{RegisterValue, PlanValue, chain}
use Rattle.bb_terms.specs.Lines.{is_stop}
use Rattle.bb_terms.specs.Rules.{HasKind}
use Rattle.bb_terms.proofs.StopLemmas.{stop_cases, cut_stops, free_stops}
use Rattle.bb_reg.specs.Draft.{DraftValue, AreCells, HasLeavesWith, bare_cell, those}
use Rattle.bb_reg.specs.Chosen.{grouped_of}
use Rattle.bb_reg.proofs.LineLemmas.{zip_long}
use Rattle.bb_reg.proofs.MetLemmas.{same_bit}
use Rattle.bb_reg.proofs.OnceLemmas.{chain_once}
use Rattle.bb_choose.specs.ChosenPlan.{IsSameCell, IsChosen}
use Rattle.bb_choose.proofs.AlikeLemmas.{zip_forth, zip_back}
use Rattle.bb_choose.proofs.DraftedLemmas.{all_of, sources_all, observers_all}
use Rattle.bb_choose.proofs.SameCells.{chains_alike}

-- one of two bits is 1
pub or_left : (a b : Bool) → a ≡ true → (a || b) ≡ true
or_left a b e = ap (λ c. c || b) e

pub or_right : (a b : Bool) → b ≡ true → (a || b) ≡ true
or_right true b e = refl
or_right false b e = e

-- the drafted cells are those of the chain
abbrev drafted : DraftValue → List Cell
drafted draft = draft.sources ++ draft.observers

abbrev grouped_chain : DraftValue → ℕ → List Cell
grouped_chain draft most = flat_map (λ (g : RegisterValue). g.cells) (grouped_of draft most).registers

draft_to_chain : (a : Netlist ℕ) (cuts : List ℕ) (draft : DraftValue) (most : ℕ) (c : Cell) → AreCells a cuts draft → Contains (drafted draft) c → Contains (grouped_chain draft most) c
draft_to_chain a cuts draft most c are h =
    Contains-permutation (draft.sources ++ draft.observers) (flat_map (λ (g : RegisterValue). g.cells) (grouped_of draft most).registers) c (chain_once draft most (zip_long (HasLeavesWith a cuts) draft.observers draft.leaves are.leaves_are)) h

chain_to_draft : (a : Netlist ℕ) (cuts : List ℕ) (draft : DraftValue) (most : ℕ) (c : Cell) → AreCells a cuts draft → Contains (grouped_chain draft most) c → Contains (drafted draft) c
chain_to_draft a cuts draft most c are h =
    let there = flat_map (λ (g : RegisterValue). g.cells) (grouped_of draft most).registers in
    Contains-permutation there (draft.sources ++ draft.observers) c (IsPermutation-sym (draft.sources ++ draft.observers) there (chain_once draft most (zip_long (HasLeavesWith a cuts) draft.observers draft.leaves are.leaves_are))) h

-- Cut cells stand on cuts, and each cut has one
cuts_listed : (a : Netlist ℕ) (cuts : List ℕ) (draft : DraftValue) → AreCells a cuts draft → AllByRecursion (λ c. is_cut c.kind ≡ true → Contains cuts c.net) (drafted draft)
cuts_listed a cuts draft are =
    let P : Cell → Type 0 = λ c. is_cut c.kind ≡ true → Contains cuts c.net in
    all_join P draft.sources draft.observers (subst (AllByRecursion P) (sym are.sources_are) (sources_all P a are.reading (λ net e. absurd (cc e)) (λ f e. absurd (cc e))))
    (subst (AllByRecursion P) (sym are.observers_are) (observers_all P a cuts are.reading (all_of (λ (f : Flop ℕ). P (bare_cell State f.q)) (λ f e. absurd (cc e)) (those (map not are.reading) a.flops)) (λ f e. absurd (cc e)) (λ net c e. c) (λ net e. absurd (cc e))))

cut_cell : (a : Netlist ℕ) (cuts : List ℕ) (draft : DraftValue) (net : ℕ) → AreCells a cuts draft → Contains cuts net → Contains (drafted draft) (bare_cell Cut net)
cut_cell a cuts draft net are c =
    Contains-append_right draft.sources draft.observers (bare_cell Cut net) (subst (λ cells. Contains cells (bare_cell Cut net)) (sym are.observers_are)
    (Contains-append_right (map (λ (f : Flop ℕ). bare_cell State f.q) (those (map not are.reading) a.flops)) _ (bare_cell Cut net)
    (Contains-append_right (map (λ (f : Flop ℕ). bare_cell Watch f.q) (those are.reading a.flops)) _ (bare_cell Cut net)
    (Contains-append_left (map (bare_cell Cut) cuts) _ (bare_cell Cut net) (contains_map (bare_cell Cut) cuts net c)))))

module _ (a : Netlist ℕ) (cuts : List ℕ) (most : ℕ) (p : PlanValue) (h : IsChosen a cuts most p) where
  -- in the plan too
  alike : AllZip IsSameCell (chain p) (grouped_chain h.draft most)
  alike = chains_alike p.registers (grouped_of h.draft most).registers h.registers

  listed : (net : ℕ) → HasKind p Cut net → Contains cuts net
  listed net kind =
      let at = place_of (chain p) kind.cell kind.stands in
      let d = zip_forth IsSameCell (chain p) (grouped_chain h.draft most) at.0 kind.cell alike at.1 in
      let stands = chain_to_draft a cuts h.draft most d.0 h.cells (contains_at (grouped_chain h.draft most) at.0 d.0 d.1) in
      let cut : is_cut d.0.kind ≡ true = ap is_cut (sym d.2.kind ∙ kind.of_kind) in
      subst (Contains cuts) (sym d.2.net ∙ kind.on) (of_all (λ (c : Cell). is_cut c.kind ≡ true → Contains cuts c.net) (drafted h.draft) d.0 (cuts_listed a cuts h.draft h.cells) stands cut)

  has_cell : (net : ℕ) → Contains cuts net → HasKind p Cut net
  has_cell net c =
      let stands = draft_to_chain a cuts h.draft most (bare_cell Cut net) h.cells (cut_cell a cuts h.draft net h.cells c) in
      let at = place_of (grouped_chain h.draft most) (bare_cell Cut net) stands in
      let d = zip_back IsSameCell (chain p) (grouped_chain h.draft most) at.0 (bare_cell Cut net) alike at.1 in
      record { cell = d.0; stands = contains_at (chain p) at.0 d.0 d.1; of_kind = d.2.kind; on = d.2.net }

  -- so walks stop at the same nets
  pub stops_same : (net : ℕ) → is_stop a p net ≡ is_stop_with a.gates cuts net
  stops_same net = same_bit (is_stop a p net) (is_stop_with a.gates cuts net) (λ e. forth (stop_cases a p net e)) (λ e. back (is_free a.gates net) refl e)
    where
      forth : (is_free a.gates net ≡ true) ⊎ HasKind p Cut net → is_stop_with a.gates cuts net ≡ true
      forth (inl free) = or_left (is_free a.gates net) (list_any (nat_eq net) cuts) free
      forth (inr kind) = or_right (is_free a.gates net) (list_any (nat_eq net) cuts) (true_member cuts net (listed net kind))

      back : (b : Bool) → is_free a.gates net ≡ b → (b || list_any (nat_eq net) cuts) ≡ true → is_stop a p net ≡ true
      back true free e = free_stops a p net free
      back false driven e = cut_stops a p net (has_cell net (member_true cuts net e))
