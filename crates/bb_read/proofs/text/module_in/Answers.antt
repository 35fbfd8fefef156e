use Rattle.std.proofs.Common.{◌≡◌, ◌++◌, ap, arith, [], Err}
use Rattle.std.proofs.lemmas.Grind.{common_steps}
use Rattle.std.proofs.lemmas.Bool.Decides.{nat_tests}
use Rattle.std.proofs.lemmas.List.{take-append-drop}
use Rattle.bb_grammar.specs.Texts.{HasLexFault, HasParseFault}
use Rattle.bb_read.specs.declared.fault.ReadFault.TheVariants as read
use Rattle.bb_read.specs.TextReading.{reading}
use Rattle.bb_read.proofs.TextLemmas.{part_starts, part_goes, part_broken, part_ends, no_bytes, whole_at_end, err_gives}
use Rattle.bb_read.proofs.text.module_in.Goals as goal

pub pieces-init : goal.pieces-init
pieces-init c = part_starts c.args.text.now c.new-lexer.result c.new-parser.result c.new-lexer.ensures c.new-parser.ensures

pub returns-in_err-feed-clause-lex : goal.returns-in_err-feed-clause-lex
returns-in_err-feed-clause-lex c = λ fault e.
    let split : c.pieces.rest.now ≡ c.split_at.result.0.now ++ c.split_at.result.1.now = grind (arith, take-append-drop) in
    part_broken (λ t. HasLexFault t fault) c.args.text.now c.pieces.rest.now c.split_at.result.0.now c.split_at.result.1.now (reading c.pieces.lexer c.pieces.parser) c.pieces.invariant split
    (c.in_err-feed.ensures.lex fault (ap Err (err_gives (λ x. x) c.from_residual.result c.in_err-feed.field-0.0 (read.Lex fault) c.from_residual.ensures.1 e)))

pub returns-in_err-feed-clause-parse : goal.returns-in_err-feed-clause-parse
returns-in_err-feed-clause-parse c = λ fault e.
    let split : c.pieces.rest.now ≡ c.split_at.result.0.now ++ c.split_at.result.1.now = grind (arith, take-append-drop) in
    part_broken (λ t. HasParseFault t fault) c.args.text.now c.pieces.rest.now c.split_at.result.0.now c.split_at.result.1.now (reading c.pieces.lexer c.pieces.parser) c.pieces.invariant split
    (c.in_err-feed.ensures.parse fault (ap Err (err_gives (λ x. x) c.from_residual.result c.in_err-feed.field-0.0 (read.Parse fault) c.from_residual.ensures.1 e)))

pub pieces-preserved : goal.pieces-preserved
pieces-preserved c =
    let split : c.pieces.rest.now ≡ c.split_at.result.0.now ++ c.split_at.result.1.now = grind (arith, take-append-drop) in
    part_goes c.args.text.now c.pieces.rest.now c.split_at.result.0.now c.split_at.result.1.now (reading c.pieces.lexer c.pieces.parser) (reading c.feed.new.lexer c.feed.new.parser) c.pieces.invariant split
    c.in_ok-feed.ensures.goes_on

pub returns-clause-whole : goal.returns-clause-whole
returns-clause-whole c =
    let empty : c.pieces.rest.now ≡ [] = no_bytes c.pieces.rest.now (grind (arith, common_steps, nat_tests)) in
    whole_at_end c.finish.result c.args.text.now (reading c.pieces.lexer c.pieces.parser) (part_ends c.args.text.now c.pieces.rest.now (reading c.pieces.lexer c.pieces.parser) c.pieces.invariant empty) c.finish.ensures.whole

pub returns-clause-lex : goal.returns-clause-lex
returns-clause-lex c = λ fault e.
    let empty : c.pieces.rest.now ≡ [] = no_bytes c.pieces.rest.now (grind (arith, common_steps, nat_tests)) in
    c.finish.ensures.lex fault e c.args.text.now (part_ends c.args.text.now c.pieces.rest.now (reading c.pieces.lexer c.pieces.parser) c.pieces.invariant empty)

pub returns-clause-parse : goal.returns-clause-parse
returns-clause-parse c = λ fault e.
    let empty : c.pieces.rest.now ≡ [] = no_bytes c.pieces.rest.now (grind (arith, common_steps, nat_tests)) in
    c.finish.ensures.parse fault e c.args.text.now (part_ends c.args.text.now c.pieces.rest.now (reading c.pieces.lexer c.pieces.parser) c.pieces.invariant empty)
