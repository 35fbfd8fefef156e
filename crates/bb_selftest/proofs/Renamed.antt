-- Walks back through the same gates under other names.
use Rattle.std.proofs.Common.{◌≡◌, ◌↔◌, List, [], ◌∷◌, map, Bool, false, refl, sym, ap, subst, ◌∙◌, Contains}
use Rattle.std.specs.List.{AllByRecursion}
use Rattle.bb_base.proofs.Contained.{contains_map}
use Rattle.bb_base.specs.Net.{Gate, renamed_gate}
use Rattle.bb_terms.specs.Paths.{Start, AtNet, Behind, starts, renamed_start, IsPathBack, IsReached, IsLeaf, LiesBehind}
use Rattle.bb_selftest.specs.Renaming.{IsRenaming}
use Rattle.bb_selftest.proofs.Steps.{StepsAgree, IsImage, IsReachedImage, of_map, path_forth, path_back, first_reached, other_reached, leaves_agree, other_passes, first_passes}

module _ {M N : Type 0} (name : M → N) (nets : List M) (gates : List (Gate M)) (stop : M → Bool) (others : List (Gate N)) (stops : N → Bool) (r : IsRenaming name nets gates stop others stops) where
  agree : StepsAgree (Contains nets) name gates stop others stops
  agree = record {
    same = r.same;
    forth = λ net input h no s. (
      r.ins s.gate input s.stands s.reads,
      record { gate = renamed_gate name s.gate; stands = (r.each (renamed_gate name s.gate)).1 (contains_map (renamed_gate name) gates s.gate s.stands); drives = ap name s.drives; reads = contains_map name s.gate.ins input s.reads },
    );
    back = λ net y h no s.
        let g = of_map (renamed_gate name) gates s.gate ((r.each s.gate).0 s.stands) in
        let input = of_map name g.0.ins y (subst (λ (k : Gate N). Contains k.ins y) (sym g.2) s.reads) in
        let out : name g.0.out ≡ name net = ap (λ (k : Gate N). k.out) g.2 ∙ s.drives in
        (input.0, record { gate = g.0; stands = g.1; drives = r.one g.0.out net (r.outs g.0 g.1) h out; reads = input.1 }, input.2);
  }

  pub gate_under_names : (g : Gate M) → Contains gates g → Contains others (renamed_gate name g)
  gate_under_names g c = (r.each (renamed_gate name g)).1 (contains_map (renamed_gate name) gates g c)

  -- paths
  pub image_of : (net : M) (ys : List N) (y : N) → Contains nets net → IsPathBack others stops (name net) ys y → IsImage (Contains nets) name gates stop net ys y
  image_of net ys y h leads = path_back (Contains nets) name gates stop others stops agree ys net (name net) y h refl leads

  pub image_under_names : (net : M) (ys : List N) (y : N) → Contains nets net → IsPathBack others stops (name net) ys y → (path : List M) × (last : M) × (map name path ≡ ys) × (name last ≡ y) × IsPathBack gates stop net path last
  image_under_names net ys y h leads = let there = image_of net ys y h leads in (there.path, there.last, there.path_is, there.last_is, there.leads)

  one_path : (xs ys : List M) → AllByRecursion (Contains nets) xs → AllByRecursion (Contains nets) ys → map name xs ≡ map name ys → xs ≡ ys
  one_path [] [] h k e = refl
  one_path [] (y ∷ ys) h k e = absurd (cc e)
  one_path (x ∷ xs) [] h k e = absurd (cc e)
  one_path (x ∷ xs) (y ∷ ys) h k e =
      let first : name x ≡ name y = cc e in
      let more : map name xs ≡ map name ys = cc e in
      let here = r.one x y h.0 k.0 first in
      let rest = one_path xs ys h.1 k.1 more in
      λ i. here i ∷ rest i

  pub path_under_names : (net : M) (path : List M) (last : M) → Contains nets net → AllByRecursion (Contains nets) path → Contains nets last
      → IsPathBack gates stop net path last ↔ IsPathBack others stops (name net) (map name path) (name last)
  path_under_names net path last h all k = (λ leads. (path_forth (Contains nets) name gates stop others stops agree path net last h leads).0, back)
    where
      back : IsPathBack others stops (name net) (map name path) (name last) → IsPathBack gates stop net path last
      back leads =
          let there = image_of net (map name path) (name last) h leads in
          let same_path = one_path there.path path there.stands_path all there.path_is in
          let same_last = r.one there.last last there.stands_last k there.last_is in
          subst (IsPathBack gates stop net path) same_last (subst (λ ns. IsPathBack gates stop net ns there.last) same_path there.leads)

  starts_renamed : (start : Start M) → starts (renamed_start name start) ≡ map name (starts start)
  starts_renamed (AtNet net) = refl
  starts_renamed (Behind g) = refl

  module _ (start : Start M) (all : AllByRecursion (Contains nets) (starts start)) where
    -- the nets reached
    pub reached_under_names : (y : N) → IsReached others stops (starts (renamed_start name start)) y → IsReachedImage (Contains nets) name gates stop (starts start) y
    reached_under_names y h = first_reached (Contains nets) name gates stop others stops agree start (renamed_start name start) (starts_renamed start) all y h

    pub reached_same : (y : N) → IsReached others stops (starts (renamed_start name start)) y ↔ ((net : M) × IsReached gates stop (starts start) net × (name net ≡ y))
    reached_same y = (
      λ h. let there = reached_under_names y h in (there.net, there.reached, there.is),
      λ t. subst (IsReached others stops (starts (renamed_start name start))) t.2 (other_reached (Contains nets) name gates stop others stops agree start (renamed_start name start) (starts_renamed start) all t.0 t.1).0,
    )

    -- the leaves
    pub leaves_under_names : (y : N) → IsLeaf others stops (renamed_start name start) y ↔ ((net : M) × IsLeaf gates stop start net × (name net ≡ y))
    leaves_under_names y = leaves_agree (Contains nets) name gates stop others stops agree start (renamed_start name start) (starts_renamed start) all y

    -- the gates that are passed
    pub passed_under_names : (k : Gate N) → Contains others k → LiesBehind others stops (renamed_start name start) k ↔ ((g : Gate M) × Contains gates g × LiesBehind gates stop start g × (renamed_gate name g ≡ k))
    passed_under_names k c = (forth, back)
      where
        forth : LiesBehind others stops (renamed_start name start) k → (g : Gate M) × Contains gates g × LiesBehind gates stop start g × (renamed_gate name g ≡ k)
        forth lies =
            let there = first_passes (Contains nets) name gates stop others stops agree start (renamed_start name start) (starts_renamed start) all k lies in
            let g = of_map (renamed_gate name) gates k ((r.each k).0 c) in
            let net : there.0 ≡ g.0.out = r.one there.0 g.0.out there.1 (r.outs g.0 g.1) (there.4 ∙ sym (ap (λ (h : Gate N). h.out) g.2)) in
            (g.0, g.1, subst (λ n. IsReached gates stop (starts start) n × (stop n ≡ false)) net (there.2, there.3), g.2)

        back : (g : Gate M) × Contains gates g × LiesBehind gates stop start g × (renamed_gate name g ≡ k) → LiesBehind others stops (renamed_start name start) k
        back h = other_passes (Contains nets) name gates stop others stops agree start (renamed_start name start) (starts_renamed start) all h.0 k (ap (λ (g : Gate N). g.out) h.3) h.2
