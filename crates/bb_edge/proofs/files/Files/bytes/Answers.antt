use Rattle.std.proofs.Common.{arith, ap, ◌∙◌, length}
use Rattle.bb_edge.specs.Files.{FileValue, file_name}
use Rattle.bb_edge.proofs.FileLemmas.{place-length, read-file}
use Rattle.bb_edge.proofs.files.Files.bytes.Goals as goal

pub index-requires : goal.index-requires
index-requires c =
    let files = c.args.self.now in
    omega (arith, place-length (file_name files c.args.place) files c.args.place c.requires, ap length c.self.view_is, c.self.inside.list.ok.0)

pub returns : goal.returns
returns c =
    let files = c.args.self.now in
    c.bytes.ensures ∙ ap (λ (f : FileValue). f.1) (read-file (file_name files c.args.place) files c.self.inside.list.items c.args.place _ c.self.view_is c.requires c.index.ensures)
