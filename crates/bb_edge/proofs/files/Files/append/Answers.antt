use Rattle.std.proofs.Common.{ℕ, List, arith, ap, ◌∙◌, ◌++◌, length}
use Rattle.bb_edge.specs.Files.{FileValue, file_name, bytes_at}
use Rattle.bb_edge.proofs.FileLemmas.{place-length, read-file, set-read}
use Rattle.bb_edge.proofs.files.Files.append.Goals as goal

pub index_mut-requires : goal.index_mut-requires
index_mut-requires c =
    let files = c.args.self.now in
    omega (arith, place-length (file_name files c.args.place) files c.args.place c.requires, ap length c.self.view_is, c.self.inside.list.ok.0)

pub returns-clause-ok : goal.returns-clause-ok
returns-clause-ok c =
    let files = c.args.self.now in
    let name = file_name files c.args.place in
    let items = c.self.inside.list.items in
    let had = c.index_mut.result.now in
    let read = read-file name files items c.args.place had c.self.view_is c.requires c.index_mut.ensures.value in
    set-read name (bytes_at files c.args.place ++ c.args.bytes.now) files items c.args.place had c.append.new.self c.self.view_is c.requires c.index_mut.ensures.value
    (c.in_ok-append.ensures.ok ∙ ap (λ (bytes : List ℕ). (had.0, bytes ++ c.args.bytes.now)) (ap (λ (f : FileValue). f.1) read))
