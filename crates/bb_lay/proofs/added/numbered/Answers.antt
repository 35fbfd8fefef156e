use Rattle.std.proofs.Common.{◌≡◌, ◌++◌, decimal, rules, arith}
use Rattle.bb_lay.proofs.NameLemmas.{numbered_name}
use Rattle.bb_lay.proofs.added.numbered.Goals as goal

pub new-requires : goal.new-requires
new-requires c =
    let text : c.as_bytes.result.now ≡ c.args.front.now ++ decimal c.args.number = search rules in
    numbered_name c.args.front.now c.as_bytes.result.now c.args.number (omega arith) c.requires.short c.requires.plain text
