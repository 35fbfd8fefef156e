use Rattle.std.proofs.Common.{◌∙◌, ap, sym, subst, ℕ, Err}
use Rattle.bb_lex.specs.Machine as lexing
use Rattle.bb_parse.specs.Machine as parsing
use Rattle.bb_parse.specs.Standing as standing
use Rattle.bb_grammar.specs.Texts.{HasParseFault}
use Rattle.bb_read.specs.declared.fault.ReadFault.TheVariants as read
use Rattle.bb_read.specs.Faults.{of_lex, of_parse}
use Rattle.bb_read.specs.TextReading.{reading}
use Rattle.bb_read.proofs.TextLemmas.{LexerLaws, RangeLaws, ParserLaws, ended_token, ended_lexeme, ended, ended_whole, ended_sound, ended_short, err_gives, parse_line}
use Rattle.bb_read.proofs.text.finish.Goals as goal

pub returns-in_err-parse_all-clause-parse : goal.returns-in_err-parse_all-clause-parse
returns-in_err-parse_all-clause-parse c = λ fault e text h.
    let lexer_laws : LexerLaws = record { exact = c.one_reading.ensures.exact; pieces = c.any_cutting.ensures.pieces; taken = c.any_cutting.ensures.taken; taken_at_end = c.any_cutting.ensures.taken_at_end } in
    let parser_laws : ParserLaws = record { exact = c.one_module.ensures.exact; stands = c.first_bad_token.ensures.stands; any = c.first_bad_token.ensures.any; parts = c.in_parts.ensures.parts; fault = c.in_parts.ensures.fault } in
    let found = parse_line c.in_err-parse_all.field-0.0 fault (err_gives of_parse c.from_residual.result c.in_err-parse_all.field-0.0 (read.Parse fault) c.from_residual.ensures.1 e) in
    let bad = c.in_err-parse_all.ensures.bad found.0 (ap Err found.1) in
    subst (HasParseFault text) (sym found.2)
    (ended_token lexer_laws parser_laws text (reading c.args.lexer.now c.args.parser) c.finish-end.result (lexing.seen c.finish-end.new.self c.finish-end.new.out.items) bad.0 bad.1 found.0 h
    (subst (λ ts. lexing.Stands c.finish-end.result (lexing.close (lexing.seen c.args.lexer.now ts)) (lexing.seen c.finish-end.new.self c.finish-end.new.out.items)) c.new-tokens.ensures.items c.finish-end.ensures.stands)
    bad.2 bad.3)

pub returns-in_err-line-clause-lex : goal.returns-in_err-line-clause-lex
returns-in_err-line-clause-lex c = λ fault e text h.
    let lexer_laws : LexerLaws = record { exact = c.one_reading.ensures.exact; pieces = c.any_cutting.ensures.pieces; taken = c.any_cutting.ensures.taken; taken_at_end = c.any_cutting.ensures.taken_at_end } in
    let parser_laws : ParserLaws = record { exact = c.one_module.ensures.exact; stands = c.first_bad_token.ensures.stands; any = c.first_bad_token.ensures.any; parts = c.in_parts.ensures.parts; fault = c.in_parts.ensures.fault } in
    ended_lexeme lexer_laws parser_laws text (reading c.args.lexer.now c.args.parser) c.finish-end.new.self c.finish-end.new.out.items c.in_err-line.field-0.0 fault h
    (subst (λ ts. lexing.Stands {A = ℕ} (Err c.in_err-line.field-0.0) (lexing.close (lexing.seen c.args.lexer.now ts)) (lexing.seen c.finish-end.new.self c.finish-end.new.out.items)) c.new-tokens.ensures.items c.in_err-line.ensures.stands)
    c.in_err-line.ensures.answer
    (ap standing.answer_of (sym c.in_ok-parse_all.ensures.run) ∙ c.in_ok-parse_all.ensures.going h.no_grammatical)
    (err_gives of_lex c.from_residual-in_err-line.result c.in_err-line.field-0.0 (read.Lex fault) c.from_residual-in_err-line.ensures.1 e)

pub returns-in_err-syntax-clause-parse : goal.returns-in_err-syntax-clause-parse
returns-in_err-syntax-clause-parse c = λ fault e text h.
    let lexer_laws : LexerLaws = record { exact = c.one_reading.ensures.exact; pieces = c.any_cutting.ensures.pieces; taken = c.any_cutting.ensures.taken; taken_at_end = c.any_cutting.ensures.taken_at_end } in
    let parser_laws : ParserLaws = record { exact = c.one_module.ensures.exact; stands = c.first_bad_token.ensures.stands; any = c.first_bad_token.ensures.any; parts = c.in_parts.ensures.parts; fault = c.in_parts.ensures.fault } in
    let ranges : RangeLaws = record { start = c.in_range.ensures.start; run = c.in_range.ensures.run; close = c.in_range.ensures.close } in
    let last = ended lexer_laws ranges parser_laws text (reading c.args.lexer.now c.args.parser) c.finish-end.new.self c.finish-end.new.out.items c.in_ok-line.line h
    (c.in_ok-line.ensures.stands ∙ ap (λ ts. lexing.close (lexing.seen c.args.lexer.now ts)) c.new-tokens.ensures.items)
    c.in_ok-line.ensures.answer
    (ap standing.answer_of (sym c.in_ok-parse_all.ensures.run) ∙ c.in_ok-parse_all.ensures.going h.no_grammatical) in
    let found = parse_line c.in_err-syntax.field-0.0 fault (err_gives of_parse c.from_residual-in_err-syntax.result c.in_err-syntax.field-0.0 (read.Parse fault) c.from_residual-in_err-syntax.ensures.1 e) in
    subst (HasParseFault text) (sym found.2)
    (ended_short parser_laws c.cut_short.ensures text (reading c.args.lexer.now c.args.parser) c.finish-end.new.out.items c.in_ok-line.line found.0 last
    (ap (λ p. parsing.end p c.in_ok-line.line) (sym c.in_ok-parse_all.ensures.run) ∙ (sym c.in_err-syntax.ensures ∙ ap Err found.1)))

pub returns-clause-whole : goal.returns-clause-whole
returns-clause-whole c = λ text h.
    let lexer_laws : LexerLaws = record { exact = c.one_reading.ensures.exact; pieces = c.any_cutting.ensures.pieces; taken = c.any_cutting.ensures.taken; taken_at_end = c.any_cutting.ensures.taken_at_end } in
    let parser_laws : ParserLaws = record { exact = c.one_module.ensures.exact; stands = c.first_bad_token.ensures.stands; any = c.first_bad_token.ensures.any; parts = c.in_parts.ensures.parts; fault = c.in_parts.ensures.fault } in
    let ranges : RangeLaws = record { start = c.in_range.ensures.start; run = c.in_range.ensures.run; close = c.in_range.ensures.close } in
    let last = ended lexer_laws ranges parser_laws text (reading c.args.lexer.now c.args.parser) c.finish-end.new.self c.finish-end.new.out.items c.in_ok-line.line h
    (c.in_ok-line.ensures.stands ∙ ap (λ ts. lexing.close (lexing.seen c.args.lexer.now ts)) c.new-tokens.ensures.items)
    c.in_ok-line.ensures.answer
    (ap standing.answer_of (sym c.in_ok-parse_all.ensures.run) ∙ c.in_ok-parse_all.ensures.going h.no_grammatical) in
    let whole = ap (λ p. parsing.end p c.in_ok-line.line) (sym c.in_ok-parse_all.ensures.run) ∙ sym c.in_ok-syntax.ensures in (
      ended_whole parser_laws text (reading c.args.lexer.now c.args.parser) c.finish-end.new.out.items c.in_ok-line.line c.in_ok-syntax.syntax last whole,
      ended_sound parser_laws c.in_range-2.ensures text (reading c.args.lexer.now c.args.parser) c.finish-end.new.out.items c.in_ok-line.line c.in_ok-syntax.syntax last whole,
    )
