-- How many leaves and registers the chain of a draft has.
use Rattle.std.proofs.Common.{arith, ◌≡◌, ℕ, ◌+◌, ◌≤◌, not, ◌&&◌, nat_lt, List, [], ◌∷◌, ◌++◌, length, map, refl, sym, ◌∙◌, length-append}
use Rattle.std.specs.List.{AllByRecursion, flat_map, list_any}
use Rattle.std.proofs.lemmas.List.Sorted.{length_permutation}
use Rattle.bb_base.proofs.Lists.{length_map}
use Rattle.bb_terms.specs.declared.plan.Cell.{Cell}
use Rattle.bb_terms.specs.Plan.{RegisterValue}
use Rattle.bb_reg.specs.Draft.{DraftValue}
use Rattle.bb_reg.specs.Chosen.{Seen, clash, in_registers, seen_cells, grouped_of}
use Rattle.bb_reg.proofs.SeenLemmas.{length_seen}
use Rattle.bb_reg.proofs.OnceLemmas.{fitted_once, chain_once}
use Rattle.bb_reg.proofs.ApartLemmas.{register_counts}

-- the chain is as long as the draft
pub chain_long : (draft : DraftValue) (most : ℕ) → length draft.leaves ≡ length draft.observers → length (flat_map (λ (g : RegisterValue). g.cells) (grouped_of draft most).registers) ≡ length draft.sources + length draft.observers
chain_long draft most long = length_permutation (draft.sources ++ draft.observers) (flat_map (λ (g : RegisterValue). g.cells) (grouped_of draft most).registers) (chain_once draft most long) ∙ length-append draft.sources draft.observers

each_leaves : (groups : List (List Seen)) → length (flat_map (map (λ (o : Seen). o.leaves)) groups) ≡ length (flat_map (λ group. group) groups)
each_leaves [] = refl
each_leaves (group ∷ groups) =
    let one = length-append (map (λ (o : Seen). o.leaves) group) (flat_map (map (λ (o : Seen). o.leaves)) groups) in
    let two = length-append group (flat_map (λ group. group) groups) in
    omega (arith, one, two, length_map (λ (o : Seen). o.leaves) group, each_leaves groups)

-- each cell of the chain has its entry of leaves
pub leaves_each : (draft : DraftValue) (most : ℕ) → length draft.leaves ≡ length draft.observers → length (grouped_of draft most).leaves ≡ length (flat_map (λ (g : RegisterValue). g.cells) (grouped_of draft most).registers)
leaves_each draft most long =
    let seen = seen_cells draft.observers draft.leaves in
    let groups = in_registers most seen in
    let all = length_permutation seen (flat_map (λ group. group) groups) (fitted_once (λ o register. nat_lt (length register) most && not (list_any (clash o) register)) seen) in
    omega (
      arith,
      length-append (map {B = List ℕ} (λ (c : Cell). []) draft.sources) (flat_map (map (λ (o : Seen). o.leaves)) groups),
      length_map {Y = List ℕ} (λ (c : Cell). []) draft.sources,
      each_leaves groups,
      all,
      length_seen draft.observers draft.leaves (sym long),
      chain_long draft most long,
    )

no_more_registers : (registers : List RegisterValue) (most : ℕ) → AllByRecursion (λ (g : RegisterValue). (1 ≤ length g.cells) × (length g.cells ≤ most)) registers → length registers ≤ length (flat_map (λ (g : RegisterValue). g.cells) registers)
no_more_registers [] most h = omega arith
no_more_registers (g ∷ registers) most h =
    let some = h.0.0 in
    omega (arith, some, length-append g.cells (flat_map (λ (g : RegisterValue). g.cells) registers), no_more_registers registers most h.1)

-- and no register is without a cell
pub few_registers : (draft : DraftValue) (most : ℕ) → 1 ≤ most → length draft.leaves ≡ length draft.observers → length (grouped_of draft most).registers ≤ length draft.sources + length draft.observers
few_registers draft most least long = omega (arith, no_more_registers (grouped_of draft most).registers most (register_counts draft most least), chain_long draft most long)
