use Rattle.std.proofs.Common.{◌∙◌, ap, sym, subst, ◌++◌, Err}
use Rattle.bb_lex.specs.Machine as lexing
use Rattle.bb_parse.specs.Standing as standing
use Rattle.bb_grammar.specs.Texts.{HasParseFault}
use Rattle.bb_read.specs.declared.fault.ReadFault.TheVariants as read
use Rattle.bb_read.specs.Faults.{of_lex, of_parse}
use Rattle.bb_read.specs.TextReading.{reading}
use Rattle.bb_read.proofs.TextLemmas.{LexerLaws, RangeLaws, ParserLaws, FaultStands, read_on, fed_lexeme, fed_token, err_gives, parse_line}
use Rattle.bb_read.proofs.text.feed.Goals as goal

pub returns-in_err-parse_all-clause-parse : goal.returns-in_err-parse_all-clause-parse
returns-in_err-parse_all-clause-parse c = λ fault e text rest h.
    let lexer_laws : LexerLaws = record { exact = c.one_reading.ensures.exact; pieces = c.any_cutting.ensures.pieces; taken = c.any_cutting.ensures.taken; taken_at_end = c.any_cutting.ensures.taken_at_end } in
    let parser_laws : ParserLaws = record { exact = c.one_module.ensures.exact; stands = c.first_bad_token.ensures.stands; any = c.first_bad_token.ensures.any; parts = c.in_parts.ensures.parts; fault = c.in_parts.ensures.fault } in
    let found = parse_line c.in_err-parse_all.field-0.0 fault (err_gives of_parse c.from_residual.result c.in_err-parse_all.field-0.0 (read.Parse fault) c.from_residual.ensures.1 e) in
    let bad = c.in_err-parse_all.ensures.bad found.0 (ap Err found.1) in
    subst (HasParseFault ((text ++ c.args.piece.now) ++ rest)) (sym found.2)
    (fed_token lexer_laws parser_laws text c.args.piece.now rest (reading c.args.lexer.now c.args.parser.now) c.feed-fed.result (lexing.seen c.feed-fed.new.self c.feed-fed.new.out.items) bad.0 bad.1 found.0 h
    (subst (λ ts. lexing.Stands c.feed-fed.result (lexing.run (lexing.seen c.args.lexer.now ts) c.args.piece.now) (lexing.seen c.feed-fed.new.self c.feed-fed.new.out.items)) c.new-tokens.ensures.items c.feed-fed.ensures.stands)
    bad.2 bad.3)

pub returns-in_err-fed-clause-lex : goal.returns-in_err-fed-clause-lex
returns-in_err-fed-clause-lex c = λ fault e text rest h.
    let lexer_laws : LexerLaws = record { exact = c.one_reading.ensures.exact; pieces = c.any_cutting.ensures.pieces; taken = c.any_cutting.ensures.taken; taken_at_end = c.any_cutting.ensures.taken_at_end } in
    let parser_laws : ParserLaws = record { exact = c.one_module.ensures.exact; stands = c.first_bad_token.ensures.stands; any = c.first_bad_token.ensures.any; parts = c.in_parts.ensures.parts; fault = c.in_parts.ensures.fault } in
    let stays : FaultStands = record { run = c.a_fault_stands.ensures.run; close = c.a_fault_stands.ensures.close } in
    fed_lexeme lexer_laws stays parser_laws text c.args.piece.now rest (reading c.args.lexer.now c.args.parser.now) c.feed-fed.new.self c.feed-fed.new.out.items c.in_err-fed.field-0.0 fault h
    (subst (λ ts. lexing.Stands {A = Unit {0}} (Err c.in_err-fed.field-0.0) (lexing.run (lexing.seen c.args.lexer.now ts) c.args.piece.now) (lexing.seen c.feed-fed.new.self c.feed-fed.new.out.items)) c.new-tokens.ensures.items c.in_err-fed.ensures.stands)
    c.in_err-fed.ensures.told
    (ap standing.answer_of (sym c.in_ok-parse_all.ensures.run) ∙ c.in_ok-parse_all.ensures.going h.no_grammatical)
    (err_gives of_lex c.from_residual-in_err-fed.result c.in_err-fed.field-0.0 (read.Lex fault) c.from_residual-in_err-fed.ensures.1 e)

pub returns-clause-goes_on : goal.returns-clause-goes_on
returns-clause-goes_on c = λ text h.
    let lexer_laws : LexerLaws = record { exact = c.one_reading.ensures.exact; pieces = c.any_cutting.ensures.pieces; taken = c.any_cutting.ensures.taken; taken_at_end = c.any_cutting.ensures.taken_at_end } in
    let parser_laws : ParserLaws = record { exact = c.one_module.ensures.exact; stands = c.first_bad_token.ensures.stands; any = c.first_bad_token.ensures.any; parts = c.in_parts.ensures.parts; fault = c.in_parts.ensures.fault } in
    let ranges : RangeLaws = record { start = c.in_range.ensures.start; run = c.in_range.ensures.run; close = c.in_range.ensures.close } in
    read_on lexer_laws ranges parser_laws text c.args.piece.now (reading c.args.lexer.now c.args.parser.now) (reading c.feed-fed.new.self c.parse_all.new.parser) c.feed-fed.new.out.items h
    (c.in_ok-fed.ensures.stands ∙ ap (λ ts. lexing.run (lexing.seen c.args.lexer.now ts) c.args.piece.now) c.new-tokens.ensures.items)
    (sym c.in_ok-fed.ensures.told)
    c.in_ok-parse_all.ensures.run
    (c.in_ok-parse_all.ensures.going h.no_grammatical)
