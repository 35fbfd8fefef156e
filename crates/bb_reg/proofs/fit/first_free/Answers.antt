use Rattle.std.proofs.Common.{[], ◌∷◌, ◌++◌, sym, ap, ◌∙◌, subst, append_assoc, ◌≡◌, true}
use Rattle.bb_reg.specs.Fitting.{holds, IsFirstFree}
use Rattle.bb_base.proofs.Lists.{all_join}
use Rattle.bb_reg.proofs.FitLemmas.{at_first, all_met}
use Rattle.bb_reg.proofs.fit.first_free.Goals as goal

pub groups-init : goal.groups-init
groups-init c = (tt, tt, ([], sym (c.into_iter-group-iterator.ensures.into_iter_gives ∙ c.iter-group-items.ensures.rest), tt))

pub groups-preserved : goal.groups-preserved
groups-preserved c =
    let b = c.groups.invariant.2 in
    let g = c.in-Some.group.now in
    let list = b.1 ∙ ap (λ ks. b.0 ++ ks) c.in-Some.ensures.steps ∙ sym (append_assoc b.0 (g ∷ []) c.next.new.self) in
    (tt, tt, (b.0 ++ g ∷ [], list, all_join (λ h. holds c.args.met.now.keys h ≡ true) b.0 (g ∷ []) b.2 (sym c.contains.ensures ∙ c.if-not-contains.false, tt)))

pub returns-then-not-contains-clause-some : goal.returns-then-not-contains-clause-some
returns-then-not-contains-clause-some c = λ g e.
    let b = c.groups.invariant.2 in
    let h = c.in-Some.group.now in
    let f = at_first c.args.open_groups.now.keys c.args.met.now.keys b.0 c.next.new.self h c.iter-group-items.ensures.ordered (b.1 ∙ ap (λ ks. b.0 ++ ks) c.in-Some.ensures.steps) b.2 (sym c.contains.ensures ∙ c.if-not-contains.true) in
    let same : h ≡ g = cc e in
    subst (IsFirstFree c.args.open_groups.now.keys c.args.met.now.keys) same f

pub returns-clause-none : goal.returns-clause-none
returns-clause-none c = λ e g h.
    let b = c.groups.invariant.2 in
    all_met c.args.open_groups.now.keys c.args.met.now.keys b.0 c.groups.group-iterator b.1 c.in-None.ensures.steps.0 b.2 g h
