-- Walks back in two lists of gates whose steps agree under a map of nets.
use Rattle.std.proofs.Common.{◌≡◌, ◌↔◌, List, [], ◌∷◌, map, Bool, false, refl, sym, ap, subst, ◌∙◌, Contains}
use Rattle.std.specs.List.{AllByRecursion}
use Rattle.bb_base.proofs.Contained.{of_all, contains_map, contains_at, place_of}
use Rattle.bb_base.proofs.Lists.{get_map}
use Rattle.bb_base.specs.Net.{Gate}
use Rattle.bb_base.specs.Order.{Reads}
use Rattle.bb_terms.specs.Paths.{Start, starts, IsPathBack, IsReached, IsLeaf, LiesBehind}

-- an item of a map is the image of one
pub of_map : {X Y : Type 0} (f : X → Y) (xs : List X) (y : Y) → Contains (map f xs) y → (x : X) × Contains xs x × (f x ≡ y)
of_map f xs y h =
    let at = place_of (map f xs) y h in
    let from = get_map f xs at.0 y at.1 in
    (from.0, contains_at xs at.0 from.0 from.1, from.2)

-- at the nets that stand a step in the first list is one in the other, each step in the other comes from one in the first, and they stop alike
pub record StepsAgree {M N : Type 0} (stands : M → Type 0) (f : M → N) (gates : List (Gate M)) (stop : M → Bool) (others : List (Gate N)) (stops : N → Bool) : Type 0 where
  pub same : (net : M) → stands net → stops (f net) ≡ stop net
  pub forth : (net input : M) → stands net → stop net ≡ false → Reads gates net input → stands input × Reads others (f net) (f input)
  pub back : (net : M) (y : N) → stands net → stop net ≡ false → Reads others (f net) y → (input : M) × Reads gates net input × (f input ≡ y)

-- a path in the other list, as one in the first
pub record IsImage {M N : Type 0} (stands : M → Type 0) (f : M → N) (gates : List (Gate M)) (stop : M → Bool) (net : M) (ys : List N) (y : N) : Type 0 where
  pub path : List M
  pub last : M
  pub leads : IsPathBack gates stop net path last
  pub stands_last : stands last
  pub stands_path : AllByRecursion stands path
  pub path_is : map f path ≡ ys
  pub last_is : f last ≡ y

-- a net that is reached in the other list, as one in the first
pub record IsReachedImage {M N : Type 0} (stands : M → Type 0) (f : M → N) (gates : List (Gate M)) (stop : M → Bool) (from : List M) (y : N) : Type 0 where
  pub net : M
  pub stands_net : stands net
  pub reached : IsReached gates stop from net
  pub is : f net ≡ y

module _ {M N : Type 0} (stands : M → Type 0) (f : M → N) (gates : List (Gate M)) (stop : M → Bool) (others : List (Gate N)) (stops : N → Bool) (agree : StepsAgree stands f gates stop others stops) where
  pub path_forth : (path : List M) (net last : M) → stands net → IsPathBack gates stop net path last → IsPathBack others stops (f net) (map f path) (f last) × stands last
  path_forth [] net last h leads = (ap f leads, subst stands leads h)
  path_forth (next ∷ path) net last h leads =
      let step = agree.forth net next h leads.0 leads.1 in
      let rest = path_forth path next last step.0 leads.2 in
      ((agree.same net h ∙ leads.0, step.1, rest.0), rest.1)

  pub path_back : (ys : List N) (net : M) (first y : N) → stands net → f net ≡ first → IsPathBack others stops first ys y → IsImage stands f gates stop net ys y
  path_back [] net first y h e leads = record { path = []; last = net; leads = refl; stands_last = h; stands_path = tt; path_is = refl; last_is = e ∙ leads }
  path_back (x ∷ ys) net first y h e leads =
      let no_stop : stop net ≡ false = sym (agree.same net h) ∙ ap stops e ∙ leads.0 in
      let step = agree.back net x h no_stop (subst (λ n. Reads others n x) (sym e) leads.1) in
      let within = agree.forth net step.0 h no_stop step.1 in
      let rest = path_back ys step.0 x y within.0 step.2 leads.2 in
      let whole : map f (step.0 ∷ rest.path) ≡ x ∷ ys = λ i. step.2 i ∷ rest.path_is i in
      record { path = step.0 ∷ rest.path; last = rest.last; leads = (no_stop, step.1, rest.leads); stands_last = rest.stands_last; stands_path = (within.0, rest.stands_path); path_is = whole; last_is = rest.last_is }

  pub reached_forth : (from : List M) (net : M) → AllByRecursion stands from → IsReached gates stop from net → IsReached others stops (map f from) (f net) × stands net
  reached_forth from net all r =
      let there = path_forth r.path r.first net (of_all stands from r.first all r.stands) r.leads in
      (record { first = f r.first; stands = contains_map f from r.first r.stands; path = map f r.path; leads = there.0 }, there.1)

  pub reached_back : (from : List M) (y : N) → AllByRecursion stands from → IsReached others stops (map f from) y → IsReachedImage stands f gates stop from y
  reached_back from y all r =
      let first = of_map f from r.first r.stands in
      let there = path_back r.path first.0 r.first y (of_all stands from first.0 all first.1) first.2 r.leads in
      record { net = there.last; stands_net = there.stands_last; reached = record { first = first.0; stands = first.1; path = there.path; leads = there.leads }; is = there.last_is }

  -- from starts whose nets are images
  module _ (start : Start M) (other : Start N) (from : starts other ≡ map f (starts start)) (all : AllByRecursion stands (starts start)) where
    pub other_reached : (net : M) → IsReached gates stop (starts start) net → IsReached others stops (starts other) (f net) × stands net
    other_reached net r =
        let there = reached_forth (starts start) net all r in
        (subst (λ ns. IsReached others stops ns (f net)) (sym from) there.0, there.1)

    pub first_reached : (y : N) → IsReached others stops (starts other) y → IsReachedImage stands f gates stop (starts start) y
    first_reached y r = reached_back (starts start) y all (subst (λ ns. IsReached others stops ns y) from r)

    pub other_leaf : (net : M) → IsLeaf gates stop start net → IsLeaf others stops other (f net) × stands net
    other_leaf net leaf =
        let there = other_reached net leaf.0 in
        ((there.0, agree.same net there.1 ∙ leaf.1), there.1)

    pub first_leaf : (y : N) → IsLeaf others stops other y → (net : M) × IsLeaf gates stop start net × (f net ≡ y)
    first_leaf y leaf =
        let r = first_reached y leaf.0 in
        (r.net, (r.reached, sym (agree.same r.net r.stands_net) ∙ ap stops r.is ∙ leaf.1), r.is)

    pub leaves_agree : (y : N) → IsLeaf others stops other y ↔ ((net : M) × IsLeaf gates stop start net × (f net ≡ y))
    leaves_agree y = (first_leaf y, λ h. subst (IsLeaf others stops other) h.2 (other_leaf h.0 h.1).0)

    pub other_passes : (g : Gate M) (k : Gate N) → f g.out ≡ k.out → LiesBehind gates stop start g → LiesBehind others stops other k
    other_passes g k out lies =
        let there = other_reached g.out lies.0 in
        subst (λ y. IsReached others stops (starts other) y × (stops y ≡ false)) out (there.0, agree.same g.out there.1 ∙ lies.1)

    pub first_passes : (k : Gate N) → LiesBehind others stops other k → (net : M) × stands net × IsReached gates stop (starts start) net × (stop net ≡ false) × (f net ≡ k.out)
    first_passes k lies =
        let r = first_reached k.out lies.0 in
        (r.net, r.stands_net, r.reached, sym (agree.same r.net r.stands_net) ∙ ap stops r.is ∙ lies.1, r.is)
