use Rattle.std.proofs.Common.{◌≡◌, ℕ, List, [], arith, ap, subst, sym, ◌∙◌, length}
use Rattle.bb_edge.specs.Files.{FileValue, IsPlaceOf, with_file}
use Rattle.bb_edge.proofs.FileLemmas.{add-none, is_place-added, is_place-with_file, place-length, set-read}
use Rattle.bb_edge.proofs.files.Files.start.Goals as goal

pub index_mut-requires : goal.index_mut-requires
index_mut-requires c =
    omega (arith, place-length c.args.name.now c.args.self.now c.in-Some.place (sym c.in-Some.ensures.value), ap length c.self.view_is, c.self.inside.list.ok.0)

pub returns-in-Some-clause-ok : goal.returns-in-Some-clause-ok
returns-in-Some-clause-ok c =
    set-read c.args.name.now [] c.args.self.now c.self.inside.list.items c.in-Some.place _ _ c.self.view_is (sym c.in-Some.ensures.value) c.index_mut.ensures.value c.clear.ensures

pub returns-in-Some-clause-place : goal.returns-in-Some-clause-place
returns-in-Some-clause-place c =
    subst (λ (files : List FileValue). IsPlaceOf files c.args.name.now c.in-Some.place) (sym (returns-in-Some-clause-ok c))
    (is_place-with_file c.args.name.now c.args.name.now [] c.args.self.now c.in-Some.place (sym c.in-Some.ensures.value))

pub returns-in_ok-add-in-None-clause-ok : goal.returns-in_ok-add-in-None-clause-ok
returns-in_ok-add-in-None-clause-ok c = c.in_ok-add-in-None.ensures.ok ∙ add-none c.args.name.now [] c.args.self.now (sym c.in-None.ensures.value)

pub returns-in_ok-add-in-None-clause-place : goal.returns-in_ok-add-in-None-clause-place
returns-in_ok-add-in-None-clause-place c =
    let behind : length c.args.self.now ≡ c.len-place.result = omega (arith, c.len-place.ensures, c.self.inside.list.ok.0, ap length c.self.view_is) in
    let added = is_place-added c.args.name.now [] c.args.self.now (sym c.in-None.ensures.value) in
    subst (λ (files : List FileValue). IsPlaceOf files c.args.name.now c.len-place.result) (sym (returns-in_ok-add-in-None-clause-ok c))
    (subst (λ (place : ℕ). IsPlaceOf (with_file c.args.name.now [] c.args.self.now) c.args.name.now place) behind added)
