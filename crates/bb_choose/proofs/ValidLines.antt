-- The lines of a chosen plan's observers: their leaves are those that were noted, and they are no more than the width.
use Rattle.std.proofs.Common.{arith, ◌≡◌, ◌⊎◌, inl, inr, ℕ, ◌≤◌, ◌&&◌, ◌||◌, not, Bool, true, false, List, [], ◌∷◌, length, refl, sym, ap, subst, ◌∙◌, Contains, slice_get, Some, nat_eq}
use Rattle.std.specs.List.{list_any}
use Rattle.bb_base.proofs.Contained.{here, either, none_in}
use Rattle.bb_base.specs.Net.{Gate, Netlist, IsNetlist}
use Rattle.bb_terms.specs.Paths.{is_free, Start, AtNet, Behind}
use Rattle.bb_terms.specs.Support.{AreLeaves}
use Rattle.bb_terms.specs.Cuts.{AreCuts}
use Rattle.bb_terms.specs.Function.{StandsIn}
use Rattle.bb_terms.proofs.FunctionLemmas.{driver_of}
use Rattle.bb_segment.proofs.LeafLemmas.{at_stop, at_open}
use Rattle.bb_segment.proofs.ShortLemmas.{short_supports}
use Rattle.bb_segment.proofs.SupportLemmas.{one_support}
use Rattle.bb_terms.specs.declared.kind.Kind.{Kind}
use Rattle.bb_terms.specs.declared.kind.Kind.TheVariants.{Input, State, Split, Cut, Watch, Output}
use Rattle.bb_terms.specs.declared.plan.Cell.{Cell}
use Rattle.bb_terms.specs.Kinds.{is_source, is_observer, only_generates}
use Rattle.bb_terms.specs.Plan.{PlanValue, chain}
use Rattle.bb_terms.specs.Lines.{is_stop, cut_nets, IsStartOf}
use Rattle.bb_terms.specs.Rules.{Holds, Widths, AreLeavesOf}
use Rattle.bb_terms.proofs.NetLemmas.{one_gate}
use Rattle.bb_reg.specs.Draft.{DraftValue, AreCells}
use Rattle.bb_reg.specs.Chosen.{grouped_of}
use Rattle.bb_choose.specs.ChosenPlan.{AreCutsOf, IsChosen, IsSameCell}
use Rattle.bb_choose.proofs.AlikeLemmas.{zip_forth}
use Rattle.bb_choose.proofs.StopLemmas.{stops_same}
use Rattle.bb_words.specs.declared.command.Settings.{Settings}
use Rattle.bb_choose.specs.Arranged.{AreInRange}
use Rattle.bb_choose.specs.Choice.{IsPlanOf}
use Rattle.bb_choose.proofs.LinedLemmas.{IsLined, chain_lined}
use Rattle.bb_choose.proofs.ValidCells.{cells_in, alike}

own_leaf : (gates : List (Gate ℕ)) (stop : ℕ → Bool) (net : ℕ) → stop net ≡ true → AreLeaves gates stop (AtNet net) (net ∷ [])
own_leaf gates stop net stops = record {
  ascending = λ k less. absurd (omega (arith, less));
  each = λ n. (λ c. (at_stop gates stop net n stops).1 (only n (either net [] n c)), λ leaf. subst (Contains (net ∷ [])) ((at_stop gates stop net n stops).0 leaf) (here net []));
}
  where
    only : (n : ℕ) → (net ≡ n) ⊎ Contains [] n → net ≡ n
    only n (inl e) = e
    only n (inr none) = absurd (none_in n none)

-- no line has more leaves than the width, where no gate has more behind it
narrow_line :
    (a : Netlist ℕ) (stop : ℕ → Bool) (width : ℕ) (start : Start ℕ) (leaves : List ℕ) → IsNetlist a → 1 ≤ width → ((net : ℕ) → stop net ≡ false → is_free a.gates net ≡ false)
    → ((g : Gate ℕ) (leaves : List ℕ) → Contains a.gates g → AreLeaves a.gates stop (Behind g) leaves → length leaves ≤ width) → StandsIn a.gates start → AreLeaves a.gates stop start leaves → length leaves ≤ width
narrow_line a stop width (AtNet m) leaves is some driven behind stands are = by (stop m) refl
  where
    by : (b : Bool) → stop m ≡ b → length leaves ≤ width
    by true e =
        let long = ap length (one_support a.gates stop (AtNet m) leaves (m ∷ []) are (own_leaf a.gates stop m e)) in
        omega (arith, long, some)
    by false e =
        let d = driver_of m a.gates (driven m e) in
        behind d.0 leaves d.1 (record {
          ascending = are.ascending;
          each = λ net.
              let same = at_open a.gates stop d.0 m net e d.1 d.2 (λ h c out. one_gate a h d.0 is c d.1 (out ∙ sym d.2)) in
              (λ c. same.0 ((are.each net).0 c), λ leaf. (are.each net).1 (same.1 leaf));
        })
narrow_line a stop width (Behind g) leaves is some driven behind stands are = behind g leaves stands are

-- a line's walk starts at a net, or behind a gate of the netlist
start_stands : (a : Netlist ℕ) (kind : Kind) (net : ℕ) (start : Start ℕ) → IsStartOf a kind net start → StandsIn a.gates start
start_stands a Input net start h = absurd h
start_stands a State net start h = subst (StandsIn a.gates) (sym h) tt
start_stands a Split net start h = subst (StandsIn a.gates) (sym h) tt
start_stands a Cut net start h = subst (StandsIn a.gates) (sym h.3) h.1
start_stands a Watch net start h = subst (StandsIn a.gates) (sym h) tt
start_stands a Output net start h = subst (StandsIn a.gates) (sym h.3) h.1

-- an observer doesn't generate alone
not_both : (source observer : Bool) → observer ≡ true → (source && not observer) ≡ true → ⊥
not_both true true e f = cc f
not_both false observer e f = cc f
not_both true false e f = cc e

none_free : (free cut : Bool) → (free || cut) ≡ false → free ≡ false
none_free true cut e = e
none_free false cut e = refl

module _ (a : Netlist ℕ) (settings : Settings) (cuts : List ℕ) (draft : DraftValue) (p : PlanValue) (cuts_are : AreCutsOf a cuts) (cells : AreCells a cuts draft) (plan : IsPlanOf settings (grouped_of draft settings.register) p) where
  -- the plan has the chosen cells
  pub chosen : IsChosen a cuts settings.register p
  chosen = record { draft = draft; cells = cells; registers = plan.registers; sessions = plan.sessions }

  abbrev registered : List Cell
  registered = cells_in (grouped_of draft settings.register).registers

  abbrev noted : List (List ℕ)
  noted = (grouped_of draft settings.register).leaves

  line_of : (c d : Cell) (leaves : List ℕ) → IsSameCell c d → is_observer c.kind ≡ true → IsLined a cuts d leaves → AreLeavesOf a p c leaves
  line_of c d leaves same observes (inl bare) = absurd (not_both (is_source c.kind) (is_observer c.kind) observes (ap only_generates same.kind ∙ bare.0))
  line_of c d leaves same observes (inr line) = record {
    start = line.start;
    begins = subst (λ k. IsStartOf a k c.net line.start) (sym same.kind) (subst (λ n. IsStartOf a d.kind n line.start) (sym same.net) line.begins);
    are = subst (λ (s : ℕ → Bool). AreLeaves a.gates s line.start leaves) (λ k net. sym (stops_same a cuts settings.register p chosen net) k) line.are;
  }

  -- an observer's line has the leaves that were noted for its cell
  pub observed : (i : ℕ) (c : Cell) → slice_get (chain p) i ≡ Some c → is_observer c.kind ≡ true → (leaves : List ℕ) × (slice_get noted i ≡ Some leaves) × AreLeavesOf a p c leaves
  observed i c at observes =
      let d = zip_forth IsSameCell (chain p) registered i c (alike settings (grouped_of draft settings.register) p plan) at in
      let line = zip_forth (IsLined a cuts) registered noted i d.0 (chain_lined a cuts draft settings.register cuts_are cells) d.1 in
      (line.0, line.1, line_of c d.0 line.0 d.2 observes line.2)

  -- a net where a walk goes on has a gate, behind which there are no more leaves than the width
  driven_on : (net : ℕ) → is_stop a p net ≡ false → is_free a.gates net ≡ false
  driven_on net = none_free (is_free a.gates net) (list_any (nat_eq net) (cut_nets p))

  pub widths_held : (order : List ℕ) → AreInRange settings → AreCuts a.gates order settings.width cuts → Holds a p Widths
  widths_held order range cut i c at observes =
      let line = observed i c at observes in
      let least = range.width_least in
      let few = narrow_line a (is_stop a p) settings.width line.2.start line.0 cuts_are.netlist (omega (arith, least)) driven_on behind (start_stands a c.kind c.net line.2.start line.2.begins) line.2.are in
      let width = plan.width in
      (line.0, line.2, omega (arith, few, width))
    where
      behind : (g : Gate ℕ) (leaves : List ℕ) → Contains a.gates g → AreLeaves a.gates (is_stop a p) (Behind g) leaves → length leaves ≤ settings.width
      behind g leaves c are =
          short_supports a.gates order settings.width cuts g leaves cut c (subst (λ (s : ℕ → Bool). AreLeaves a.gates s (Behind g) leaves) (λ k net. stops_same a cuts settings.register p chosen net k) are)
