use Rattle.std.proofs.Common.{map, ap, lit<, string_bytes}
use Rattle.std.proofs.lemmas.Str.Pattern.{split_parts}
use Rattle.bb_words.proofs.FirstPieces.{word_first, joined_first, apart_first}
use Rattle.bb_words.proofs.piece.piece_in.Goals as goal

pub returns-then-is_positional-clause-found : goal.returns-then-is_positional-clause-found
returns-then-is_positional-clause-found c =
    let words = ap (map (λ w. string_bytes w)) c.in_ok-first.ensures.cases.0 in
    word_first _ c.as_str-word.result _ (cc) (c.is_positional.ensures.0 c.if-is_positional.true)

pub returns-in-Some-clause-found : goal.returns-in-Some-clause-found
returns-in-Some-clause-found c =
    let words = ap (map (λ w. string_bytes w)) c.in_ok-first.ensures.cases.0 in
    let parts = split_parts 61 c.in_ok-option.option.now c.split_once.result c.split_once.ensures.cases (lit< tt) in
    joined_first _ c.in_ok-option.option.now c.in-Some.name.now c.in-Some.text.now _ c.in_ok-setting.setting c.in_ok-setting.number (cc (c.in_ok-option.ensures))
    (rw c.in-Some.is at parts).0 c.in_ok-setting.ensures.found.0 c.in_ok-setting.ensures.found.1 c.in_ok-setting.ensures.found.2

pub returns-clause-found : goal.returns-clause-found
returns-clause-found c =
    let words = ap (map (λ w. string_bytes w)) c.in_ok-first.ensures.cases.0 in
    let behind = ap (map (λ w. string_bytes w)) c.in_ok-text.ensures.cases.0 in
    apart_first _ c.in_ok-option.option.now c.as_str.result.now _ c.in_ok-setting-2.setting c.in_ok-setting-2.number (cc (c.in_ok-option.ensures))
    c.in_ok-setting-2.ensures.found.0 c.in_ok-setting-2.ensures.found.1 c.in_ok-setting-2.ensures.found.2
