use Rattle.std.proofs.Common.{◌≡◌, ◌+◌, ◌≤◌, ◌++◌, [], length, map, ap, sym, subst, ◌∙◌}
use Rattle.std.specs.List.{flat_map}
use Rattle.bb_reg.specs.Draft.{DraftValue}
use Rattle.bb_terms.specs.Plan.{RegisterValue}
use Rattle.bb_reg.specs.Chosen.{GroupedValue, in_runs, register_of}
use Rattle.bb_reg.specs.Fitting.{cell_at, leaves_at}
use Rattle.bb_reg.proofs.NaturalLemmas.{grouped_by_number}
use Rattle.bb_reg.proofs.GroupedLemmas.{leaves_each, few_registers}
use Rattle.bb_reg.proofs.registers.group.Goals as goal

pub returns-clause-grouped : goal.returns-clause-grouped
returns-clause-grouped c =
    let d = c.args.draft.now in
    let most = c.args.most in
    let groups = c.in_ok-groups.groups.items in
    let registers = c.in_ok-registers.registers.items in
    let leaves = map (λ k. k.items) c.in_ok-leaves.leaves.items in
    let sources = ap (λ (v : DraftValue). v.sources) c.draft.view_is in
    let cells = c.deref-2.ensures.value ∙ ap (λ (v : DraftValue). v.observers) c.draft.view_is in
    let own = ap (map (λ k. k.items)) c.deref-5.ensures.value ∙ ap (λ (v : DraftValue). v.leaves) c.draft.view_is in
    grouped_by_number d most groups registers c.add_registers.new.registers.items leaves (map (λ k. k.items) c.add_all_leaves.new.added.items) c.requires.leaves c.in_ok-groups.ensures.groups
    (c.in_ok-registers.ensures ∙ ap (λ ks. map register_of (in_runs most ks)) (c.deref.ensures.value ∙ sources))
    (c.in_ok-add_registers.ensures ∙ (λ k. registers ++ map (λ group. register_of (map (cell_at (cells k)) group)) (c.deref-3.ensures.value k)))
    (c.in_ok-leaves.ensures ∙ ap (map (λ x. [])) (c.deref-4.ensures.value ∙ sources))
    (c.in_ok-add_all_leaves.ensures ∙ (λ k. leaves ++ flat_map (map (leaves_at (own k))) (c.deref-6.ensures.value k)))

pub returns-clause-leaves : goal.returns-clause-leaves
returns-clause-leaves c =
    let d = c.args.draft.now in
    subst (λ (g : GroupedValue). length g.leaves ≡ length (flat_map (λ (k : RegisterValue). k.cells) g.registers)) (sym (returns-clause-grouped c)) (leaves_each d c.args.most c.requires.leaves)

pub returns-clause-few : goal.returns-clause-few
returns-clause-few c =
    let d = c.args.draft.now in
    subst (λ (g : GroupedValue). length g.registers ≤ length d.sources + length d.observers) (sym (returns-clause-grouped c)) (few_registers d c.args.most c.requires.least c.requires.leaves)
