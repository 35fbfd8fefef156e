-- Cells that are alike but for their columns: what speaks of kinds and nets alone holds of both.
use Rattle.std.proofs.Common.{◌≡◌, ◌⊎◌, inl, inr, ℕ, ◌+◌, ◌==◌, ◌&&◌, ◌||◌, Bool, List, [], ◌∷◌, refl, sym, ◌∙◌, cond, Contains, count_by, subst}
use Rattle.std.proofs.lemmas.List.Sums.{sum_by-cons}
use Rattle.std.specs.List.{AllByRecursion, AllZip, flat_map, list_any, list_all}
use Rattle.bb_base.proofs.Contained.{here, there, either, none_in}
use Rattle.bb_terms.specs.declared.kind.Kind.{Kind}
use Rattle.bb_terms.specs.declared.plan.Cell.{Cell}
use Rattle.bb_terms.specs.Kinds.{only_generates}
use Rattle.bb_terms.specs.Plan.{RegisterValue}
use Rattle.bb_terms.specs.Rules.{IsPure}
use Rattle.bb_reg.proofs.DraftLemmas.{zip_join}
use Rattle.bb_choose.specs.ChosenPlan.{IsSameCell, IsSameRegister}

-- the chains of registers that are alike
pub chains_alike : (gs hs : List RegisterValue) → AllZip IsSameRegister gs hs → AllZip IsSameCell (flat_map (λ (g : RegisterValue). g.cells) gs) (flat_map (λ (g : RegisterValue). g.cells) hs)
chains_alike [] [] same = tt
chains_alike [] (h ∷ hs) same = absurd same
chains_alike (g ∷ gs) [] same = absurd same
chains_alike (g ∷ gs) (h ∷ hs) same = zip_join IsSameCell g.cells (flat_map (λ (g : RegisterValue). g.cells) gs) h.cells (flat_map (λ (g : RegisterValue). g.cells) hs) same.0 (chains_alike gs hs same.1)

-- a fact of all cells
pub all_alike : (P : Cell → Type 0) → ((c d : Cell) → IsSameCell c d → P d → P c) → (cs ds : List Cell) → AllZip IsSameCell cs ds → AllByRecursion P ds → AllByRecursion P cs
all_alike P over [] [] same all = tt
all_alike P over [] (d ∷ ds) same all = absurd same
all_alike P over (c ∷ cs) [] same all = absurd same
all_alike P over (c ∷ cs) (d ∷ ds) same all = (over c d same.0 all.0, all_alike P over cs ds same.1 all.1)

-- a cell that stands among those alike
pub has_alike : (cs ds : List Cell) (d : Cell) → AllZip IsSameCell cs ds → Contains ds d → (c : Cell) × Contains cs c × IsSameCell c d
has_alike [] [] d same h = absurd (none_in d h)
has_alike [] (e ∷ ds) d same h = absurd same
has_alike (c ∷ cs) [] d same h = absurd same
has_alike (c ∷ cs) (e ∷ ds) d same h = by (either e ds d h) (λ more. has_alike cs ds d same.1 more)
  where
    by : (e ≡ d) ⊎ Contains ds d → (Contains ds d → (b : Cell) × Contains cs b × IsSameCell b d) → (b : Cell) × Contains (c ∷ cs) b × IsSameCell b d
    by (inl k) rest = (c, here c cs, subst (IsSameCell c) k same.0)
    by (inr more) rest = let found = rest more in (found.0, there c cs found.0 found.1, found.2)

-- a cell on the net, of a kind that passes the test
abbrev pub is_on : (Kind → Bool) → ℕ → Cell → Bool
is_on test net c = test c.kind && (c.net == net)

-- how many they are
pub count_alike : (test : Kind → Bool) (net : ℕ) (cs ds : List Cell) → AllZip IsSameCell cs ds → count_by (is_on test net) cs ≡ count_by (is_on test net) ds
count_alike test net [] [] same = refl
count_alike test net [] (d ∷ ds) same = absurd same
count_alike test net (c ∷ cs) [] same = absurd same
count_alike test net (c ∷ cs) (d ∷ ds) same =
    let one : (b : Cell) → ℕ = λ b. cond (is_on test net b) 1 0 in
    sum_by-cons one c cs ∙ (λ i. cond {A = ℕ} (test (same.0.kind i) && (same.0.net i == net)) 1 0 + count_alike test net cs ds same.1 i) ∙ sym (sum_by-cons one d ds)

-- some have a kind that passes the test, and all have
pub any_alike : (test : Kind → Bool) (cs ds : List Cell) → AllZip IsSameCell cs ds → list_any (λ c. test c.kind) cs ≡ list_any (λ c. test c.kind) ds
any_alike test [] [] same = refl
any_alike test [] (d ∷ ds) same = absurd same
any_alike test (c ∷ cs) [] same = absurd same
any_alike test (c ∷ cs) (d ∷ ds) same = (λ i. test (same.0.kind i) || any_alike test cs ds same.1 i)

each_alike : (test : Kind → Bool) (cs ds : List Cell) → AllZip IsSameCell cs ds → list_all (λ c. test c.kind) cs ≡ list_all (λ c. test c.kind) ds
each_alike test [] [] same = refl
each_alike test [] (d ∷ ds) same = absurd same
each_alike test (c ∷ cs) [] same = absurd same
each_alike test (c ∷ cs) (d ∷ ds) same = (λ i. test (same.0.kind i) && each_alike test cs ds same.1 i)

-- a register with an Input or Split cell has no others
pub pure_alike : (gs hs : List RegisterValue) → AllZip IsSameRegister gs hs → AllByRecursion IsPure hs → AllByRecursion IsPure gs
pure_alike [] [] same all = tt
pure_alike [] (h ∷ hs) same all = absurd same
pure_alike (g ∷ gs) [] same all = absurd same
pure_alike (g ∷ gs) (h ∷ hs) same all = (
  λ input. each_alike only_generates g.cells h.cells same.0 ∙ all.0 (sym (any_alike only_generates g.cells h.cells same.0) ∙ input),
  pure_alike gs hs same.1 all.1,
)
