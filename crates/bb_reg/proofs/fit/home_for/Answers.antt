use Rattle.std.proofs.Common.{◌≡◌, ℕ, List, [], ◌||◌, ◌∙◌, sym, ap}
use Rattle.std.proofs.lemmas.List.{get_or_read}
use Rattle.bb_reg.specs.Fitting.{EndsValue, ends_at, is_met}
use Rattle.bb_reg.proofs.MetLemmas.{met_is, home_is}
use Rattle.bb_reg.proofs.fit.home_for.Goals as goal

pub returns : goal.returns
returns c =
    let f = c.args.fitting.now in
    let items = c.args.items.now in
    let item : ends_at items c.args.number ≡ c.index-items-number.result = sym (get_or_read items c.args.number c.index-items-number.result c.requires.within c.index-items-number.is (record { gives = []; reads = [] })) in
    home_is items c.args.most c.args.number f.groups.items f.homes.items f.open_groups.keys c.in_ok-met.met.keys c.first_free.result c.requires.fitting
    (λ g. c.in_ok-met.ensures g
    ∙ ap (λ (hs : List ℕ). is_met c.args.givers.now hs c.index-items-number.result.reads g || is_met c.args.readers.now hs c.index-items-number.result.gives g) c.deref.ensures.value
    ∙ ap (λ (e : EndsValue). is_met c.args.givers.now f.homes.items e.reads g || is_met c.args.readers.now f.homes.items e.gives g) (sym item)
    ∙ met_is items c.args.most c.args.number f.groups.items f.homes.items f.open_groups.keys c.args.givers.now c.args.readers.now c.requires.within c.requires.fitting c.requires.givers c.requires.readers g)
    c.first_free.ensures.none c.first_free.ensures.some
