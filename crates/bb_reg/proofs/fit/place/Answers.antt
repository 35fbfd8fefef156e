use Rattle.std.proofs.Common.{◌+◌, ◌≡◌, ◌∙◌, sym, ap, ℕ, List, [], subst, length, nat_eq, nat_lt, if◌then◌else◌}
use Rattle.std.proofs.lemmas.List.{get_or_read}
use Rattle.bb_reg.specs.Fitting.{IsFitted, group_at, holds}
use Rattle.bb_reg.proofs.PlaceLemmas.{fitting_placed, placed_within}
use Rattle.bb_reg.proofs.fit.place.Goals as goal

pub returns : goal.returns
returns c =
    let f = c.args.fitting.now in
    let h = c.in_ok-group.group in
    let groups = c.put.new.groups.items in
    let p = c.in_ok-group.ensures in
    let low = placed_within c.args.items.now c.args.most c.args.number h f.groups.items groups c.args.home c.requires.home p.home p.joined p.begun p.added in
    let group : c.as_slice-size.result.now ≡ group_at groups h = c.as_slice-size.ensures ∙ get_or_read groups h c.index.result.now low c.index.ensures [] in
    subst (λ (hs : List ℕ). IsFitted c.args.items.now c.args.most (c.args.number + 1) groups hs c.mark.new.open_groups.keys) (sym c.in_ok-push.ensures.items)
    (fitting_placed c.args.items.now c.args.most c.args.number h f.groups.items groups f.homes.items f.open_groups.keys c.mark.new.open_groups.keys c.args.home c.requires.fitting c.requires.home
    p.home p.joined p.begun p.added
    (λ g. c.in_ok-mark.ensures g ∙ ap (λ (ks : List ℕ). if nat_eq g h then nat_lt (length ks) c.args.most else holds f.open_groups.keys g) group))
