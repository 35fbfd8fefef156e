use Rattle.std.proofs.Common.{ℕ, List, arith, ap, sym, ◌∙◌, length}
use Rattle.bb_edge.proofs.FileLemmas.{add-none, place-length, set-read}
use Rattle.bb_edge.proofs.files.Files.set.Goals as goal

pub index_mut-requires : goal.index_mut-requires
index_mut-requires c =
    omega (arith, place-length c.args.name.now c.args.self.now c.in-Some.place (sym c.in-Some.ensures.value), ap length c.self.view_is, c.self.inside.list.ok.0)

pub returns-in_ok-bytes-in-Some-clause-ok : goal.returns-in_ok-bytes-in-Some-clause-ok
returns-in_ok-bytes-in-Some-clause-ok c =
    set-read c.args.name.now c.args.bytes.now c.args.self.now c.self.inside.list.items c.in-Some.place _ _ c.self.view_is (sym c.in-Some.ensures.value) c.index_mut.ensures.value
    (c.replace.ensures ∙ ap (λ (bytes : List ℕ). (c.index_mut.result.now.0, bytes)) c.in_ok-bytes-in-Some.ensures.items)

pub returns-in_ok-add-in-None-clause-ok : goal.returns-in_ok-add-in-None-clause-ok
returns-in_ok-add-in-None-clause-ok c = c.in_ok-add-in-None.ensures.ok ∙ add-none c.args.name.now c.args.bytes.now c.args.self.now (sym c.in-None.ensures.value)
