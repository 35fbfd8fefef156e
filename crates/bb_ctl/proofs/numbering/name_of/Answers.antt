use Rattle.std.proofs.Common.{◌≡◌, ◌++◌, ◌∙◌, Some, decimal, sym, ap, rules, arith}
use Rattle.bb_ctl.proofs.SymbolNames.{symbol_is_name}
use Rattle.bb_ctl.proofs.numbering.name_of.Goals as goal

pub new-requires-in-Some : goal.new-requires-in-Some
new-requires-in-Some c =
    let number = c.in-Some.number in
    let text : c.as_bytes-in-Some.result.now ≡ c.label-number.result.0.now ++ decimal number = search rules in
    symbol_is_name c.args.wire c.as_bytes-in-Some.result.now (Some number) c.requires.added (sym c.in-Some.is ∙ c.label-number.ensures.number) (omega arith) (text ∙ ap (λ front. front ++ decimal number) c.label-number.ensures.front)
