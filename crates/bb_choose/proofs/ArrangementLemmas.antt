-- The registers of a netlist are chosen in one way: cuts, the cells with them and the leaves of their lines are one each.
use Rattle.std.proofs.Common.{◌≡◌, ◌↔◌, ℕ, Bool, true, false, List, [], ◌∷◌, refl, sym, ap, subst, ◌∙◌}
use Rattle.std.specs.List.{AllZip}
use Rattle.bb_base.specs.Net.{Netlist, IsNetlist}
use Rattle.bb_terms.specs.Paths.{AtNet, IsLeaf}
use Rattle.bb_terms.specs.Support.{AreLeaves}
use Rattle.bb_terms.specs.Cuts.{is_stop_with}
use Rattle.bb_segment.proofs.CutLemmas.{one_choice}
use Rattle.bb_segment.proofs.SupportLemmas.{one_support}
use Rattle.bb_terms.specs.declared.plan.Cell.{Cell}
use Rattle.bb_rules.proofs.CodeLemmas.{one_start}
use Rattle.bb_reg.specs.Draft.{DraftValue, AreCells, HasLeavesWith, source_cells, observer_cells}
use Rattle.bb_reg.specs.Chosen.{GroupedValue, grouped_of}
use Rattle.bb_words.specs.declared.command.Settings.{Settings}
use Rattle.bb_choose.specs.Arranged.{IsArranged}

-- a list that is item by item of another is one, where each item has one
zip_one : {X Y : Type 0} (R : X → Y → Type 0) → ((x : X) (y z : Y) → R x y → R x z → y ≡ z) → (xs : List X) (ys zs : List Y) → AllZip R xs ys → AllZip R xs zs → ys ≡ zs
zip_one R one [] [] [] h k = refl
zip_one R one [] [] (z ∷ zs) h k = absurd k
zip_one R one [] (y ∷ ys) zs h k = absurd h
zip_one R one (x ∷ xs) [] zs h k = absurd h
zip_one R one (x ∷ xs) (y ∷ ys) [] h k = absurd k
zip_one R one (x ∷ xs) (y ∷ ys) (z ∷ zs) h k = let first = one x y z h.0 k.0 in let rest = zip_one R one xs ys zs h.1 k.1 in λ i. first i ∷ rest i

-- a statement has one truth value
one_bool : (P : Type 0) (b c : Bool) → (b ≡ true) ↔ P → (c ≡ true) ↔ P → b ≡ c
one_bool P true true h k = refl
one_bool P false false h k = refl
one_bool P true false h k = absurd (let e = k.1 (h.0 refl) in cc e)
one_bool P false true h k = absurd (let e = h.1 (k.0 refl) in cc e)

-- a cell's line has one list of leaves
one_line : (a : Netlist ℕ) (cuts : List ℕ) → IsNetlist a → (c : Cell) (xs ys : List ℕ) → HasLeavesWith a cuts c xs → HasLeavesWith a cuts c ys → xs ≡ ys
one_line a cuts netlist c xs ys h k =
    let start = one_start a c h.start k.start netlist h.begins k.begins in
    let stop = is_stop_with a.gates cuts in
    one_support a.gates stop k.start xs ys (subst (λ s. AreLeaves a.gates stop s xs) start h.are) k.are

draft_value : List Cell → List Cell → List (List ℕ) → DraftValue
draft_value sources observers leaves = record { sources = sources; observers = observers; leaves = leaves }

-- a netlist with its cuts has one draft
one_draft : (a : Netlist ℕ) (cuts : List ℕ) (x y : DraftValue) → IsNetlist a → AreCells a cuts x → AreCells a cuts y → x ≡ y
unfolding draft_value
one_draft a cuts x y netlist h k =
    let stop = is_stop_with a.gates cuts in
    let reading : h.reading ≡ k.reading =
    zip_one (λ f b. (b ≡ true) ↔ IsLeaf a.gates stop (AtNet f.d) f.q) (λ f b c. one_bool (IsLeaf a.gates stop (AtNet f.d) f.q) b c) a.flops h.reading k.reading h.self_reading k.self_reading in
    let sources : x.sources ≡ y.sources = h.sources_are ∙ (ap (source_cells a) reading ∙ sym k.sources_are) in
    let observers : x.observers ≡ y.observers = h.observers_are ∙ (ap (observer_cells a cuts) reading ∙ sym k.observers_are) in
    let leaves : x.leaves ≡ y.leaves = zip_one (HasLeavesWith a cuts) (one_line a cuts netlist) y.observers x.leaves y.leaves (subst (λ cs. AllZip (HasLeavesWith a cuts) cs x.leaves) observers h.leaves_are) k.leaves_are in
    λ i. draft_value (sources i) (observers i) (leaves i)

pub one_arrangement : (a : Netlist ℕ) (order : List ℕ) (settings : Settings) (one other : GroupedValue) → IsNetlist a → IsArranged a order settings one → IsArranged a order settings other → one ≡ other
one_arrangement a order settings one other netlist h k =
    let cuts : h.cuts ≡ k.cuts = one_choice a.gates order settings.width h.cuts k.cuts h.cuts_are k.cuts_are in
    let draft : h.draft ≡ k.draft = one_draft a k.cuts h.draft k.draft netlist (subst (λ cs. AreCells a cs h.draft) cuts h.cells_are) k.cells_are in
    h.grouped_is ∙ (ap (λ d. grouped_of d settings.register) draft ∙ sym k.grouped_is)
