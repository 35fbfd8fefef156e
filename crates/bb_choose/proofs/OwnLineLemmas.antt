-- No observer is a leaf of its own line.
use Rattle.std.proofs.Common.{◌≡◌, ◌↔◌, ℕ, ◌&&◌, nat_lt, not, Bool, true, false, List, [], ◌∷◌, length, map, refl, sym, ap, subst, ◌∙◌, Contains}
use Rattle.std.specs.List.{AllByRecursion, AllZip, list_any}
use Rattle.bb_base.proofs.Contained.{to_all}
use Rattle.bb_base.specs.Net.{Gate, Flop, Netlist}
use Rattle.bb_base.specs.Order.{HasOrder, Reads, LeadsTo}
use Rattle.bb_base.proofs.CycleLemmas.{no_cycle}
use Rattle.bb_terms.specs.Paths.{Start, AtNet, Behind, IsPathBack, IsLeaf}
use Rattle.bb_terms.specs.Cuts.{is_stop_with}
use Rattle.bb_terms.specs.declared.kind.Kind.TheVariants.{State}
use Rattle.bb_terms.specs.declared.plan.Cell.{Cell}
use Rattle.bb_terms.specs.Kinds.{only_generates, reads_back}
use Rattle.bb_terms.specs.Lines.{d_of, IsStart}
use Rattle.bb_terms.proofs.NetLemmas.{d_is}
use Rattle.bb_reg.specs.Draft.{DraftValue, AreCells, HasLeavesWith, bare_cell, those}
use Rattle.bb_reg.specs.Chosen.{Seen, seen_cells, clash}
use Rattle.bb_reg.proofs.NaturalLemmas.{fitted_all}
use Rattle.bb_choose.specs.ChosenPlan.{AreCutsOf}
use Rattle.bb_choose.proofs.DraftedLemmas.{observers_all, observers_observe}
use Rattle.bb_choose.proofs.ScheduleLemmas.{groups_of}

-- the nets of a path but for the last
abbrev before : ℕ → List ℕ → List ℕ
before first [] = []
before first (next ∷ path) = first ∷ before next path

-- each net of a path back reads the next
path_leads : (gates : List (Gate ℕ)) (stop : ℕ → Bool) (net first last : ℕ) (path : List ℕ) → Reads gates net first → IsPathBack gates stop first path last → LeadsTo (Reads gates) (net ∷ before first path) last
path_leads gates stop net first last [] r h = subst (Reads gates net) h r
path_leads gates stop net first last (next ∷ path) r h = (r, path_leads gates stop first next last path h.1 h.2)

-- where gates have an order, no net lies behind its own gate
none_behind : (gates : List (Gate ℕ)) (stop : ℕ → Bool) (g : Gate ℕ) → HasOrder gates → Contains gates g → IsLeaf gates stop (Behind g) g.out → ⊥
none_behind gates stop g order c leaf =
    let reached = leaf.0 in
    let reads : Reads gates g.out reached.first = record { gate = g; stands = c; drives = refl; reads = reached.stands } in
    no_cycle gates order.0 (g.out ∷ before reached.first reached.path) order.1 (path_leads gates stop g.out reached.first g.out reached.path reads reached.leads)

-- the cell is no leaf of its own line
abbrev IsNoLeafOfItself : Netlist ℕ → List ℕ → Cell → Type 0
IsNoLeafOfItself a cuts c = (start : Start ℕ) → IsStart a c start → reads_back c.kind ≡ true → IsLeaf a.gates (is_stop_with a.gates cuts) start c.net → ⊥

-- so of each flip-flop that isn't self-reading
states_quiet : (a : Netlist ℕ) (cuts : List ℕ) (flops : List (Flop ℕ)) (reading : List Bool) → AllByRecursion (λ f. d_of a.flops f.q ≡ f.d) flops
    → AllZip (λ f b. (b ≡ true) ↔ IsLeaf a.gates (is_stop_with a.gates cuts) (AtNet f.d) f.q) flops reading → AllByRecursion (λ f. IsNoLeafOfItself a cuts (bare_cell State f.q)) (those (map not reading) flops)
states_quiet a cuts [] [] d h = tt
states_quiet a cuts [] (b ∷ reading) d h = tt
states_quiet a cuts (f ∷ flops) [] d h = tt
states_quiet a cuts (f ∷ flops) (true ∷ reading) d h = states_quiet a cuts flops reading d.1 h.1
states_quiet a cuts (f ∷ flops) (false ∷ reading) d h = (
  (λ start begins back leaf.
      let at : start ≡ AtNet f.d = begins ∙ ap AtNet d.0 in
      let set : false ≡ true = h.0.1 (subst (λ s. IsLeaf a.gates (is_stop_with a.gates cuts) s f.q) at leaf) in
      cc set),
  states_quiet a cuts flops reading d.1 h.1,
)

-- and of each drafted observer
none_reads_itself : (a : Netlist ℕ) (cuts : List ℕ) (draft : DraftValue) → AreCutsOf a cuts → AreCells a cuts draft → AllByRecursion (IsNoLeafOfItself a cuts) draft.observers
none_reads_itself a cuts draft cuts_are are =
    subst (AllByRecursion (IsNoLeafOfItself a cuts)) (sym are.observers_are)
    (observers_all (IsNoLeafOfItself a cuts) a cuts are.reading
    (states_quiet a cuts a.flops are.reading (to_all (λ (f : Flop ℕ). d_of a.flops f.q ≡ f.d) a.flops (λ f c. d_is a f cuts_are.netlist c)) are.self_reading)
    (λ f start begins back leaf. cc back)
    (λ net c start begins back leaf.
    let stop = is_stop_with a.gates cuts in
    let behind : IsLeaf a.gates stop (Behind begins.0) net = subst (λ s. IsLeaf a.gates stop s net) begins.3 leaf in
    none_behind a.gates stop begins.0 cuts_are.order begins.1 (subst (IsLeaf a.gates stop (Behind begins.0)) (sym begins.2) behind))
    (λ net start begins back leaf. cc back))

-- an observer with the leaves of its line, of which it is none
pub record IsSeen (a : Netlist ℕ) (cuts : List ℕ) (o : Seen) : Type 0 where
  pub line : HasLeavesWith a cuts o.cell o.leaves
  pub apart : reads_back o.cell.kind ≡ true → Contains o.leaves o.cell.net → ⊥
  pub observes : only_generates o.cell.kind ≡ false

-- each drafted observer is
seen_each : (a : Netlist ℕ) (cuts : List ℕ) (cells : List Cell) (leaves : List (List ℕ)) → AllZip (HasLeavesWith a cuts) cells leaves → AllByRecursion (IsNoLeafOfItself a cuts) cells → AllByRecursion (λ c. only_generates c.kind ≡ false) cells
    → AllByRecursion (IsSeen a cuts) (seen_cells cells leaves)
seen_each a cuts [] [] h k e = tt
seen_each a cuts [] (l ∷ leaves) h k e = absurd h
seen_each a cuts (c ∷ cells) [] h k e = absurd h
seen_each a cuts (c ∷ cells) (l ∷ leaves) h k e =
    (record { line = h.0; apart = λ back contained. k.0 h.0.start h.0.begins back ((h.0.are.each c.net).0 contained); observes = e.0 }, seen_each a cuts cells leaves h.1 k.1 e.1)

-- each observer of a register is
pub each_seen : (a : Netlist ℕ) (cuts : List ℕ) (draft : DraftValue) (most : ℕ) → AreCutsOf a cuts → AreCells a cuts draft → AllByRecursion (AllByRecursion (IsSeen a cuts)) (groups_of draft most)
each_seen a cuts draft most cuts_are are =
    let seen = seen_cells draft.observers draft.leaves in
    fitted_all (IsSeen a cuts) (λ o register. nat_lt (length register) most && not (list_any (clash o) register)) seen
    (seen_each a cuts draft.observers draft.leaves are.leaves_are (none_reads_itself a cuts draft cuts_are are) (subst (AllByRecursion (λ (c : Cell). only_generates c.kind ≡ false)) (sym are.observers_are) (observers_observe a cuts are.reading)))
