-- Symbols that may be empty, and the tokens that go by them to what follows.
use Rattle.std.specs.Prelude.{Bool, true, false, not, [], ◌∷◌, None}
use Rattle.bb_base.specs.declared.token.Mark.TheVariants as marks
use Rattle.bb_base.specs.declared.token.TokenKind.{TokenKind}
use Rattle.bb_base.specs.declared.token.TokenKind.TheVariants as kinds
use Rattle.bb_parse.specs.declared.draft.Draft.{Draft}
use Rattle.bb_parse.specs.declared.symbol.Symbol.{Symbol}
use Rattle.bb_parse.specs.declared.symbol.Symbol.TheVariants as symbols
use Rattle.bb_parse.specs.Drafts.{put, made_step, ref_done}

-- tokens with which a symbol that may be empty begins
abbrev pub is_bracket : TokenKind → Bool
is_bracket (kinds.Mark marks.LeftBracket) = true
is_bracket _ = false

abbrev pub is_amp : TokenKind → Bool
is_amp (kinds.Mark marks.Amp) = true
is_amp _ = false

abbrev pub is_xor : TokenKind → Bool
is_xor (kinds.Mark marks.Caret) = true
is_xor (kinds.Mark marks.TildeCaret) = true
is_xor (kinds.Mark marks.CaretTilde) = true
is_xor _ = false

abbrev pub is_bar : TokenKind → Bool
is_bar (kinds.Mark marks.Bar) = true
is_bar _ = false

abbrev pub is_question : TokenKind → Bool
is_question (kinds.Mark marks.Question) = true
is_question _ = false

abbrev pub begins_operator : TokenKind → Bool
begins_operator (kinds.Mark marks.Amp) = true
begins_operator (kinds.Mark marks.Caret) = true
begins_operator (kinds.Mark marks.TildeCaret) = true
begins_operator (kinds.Mark marks.CaretTilde) = true
begins_operator (kinds.Mark marks.Bar) = true
begins_operator (kinds.Mark marks.Question) = true
begins_operator _ = false

-- the symbol is empty, and the token is for what follows behind it
abbrev pub passes : Symbol → TokenKind → Bool
passes (symbols.Put m) k = true
passes (symbols.Select side) k = not (is_bracket k)
passes symbols.Operators k = not (begins_operator k)
passes symbols.Ands k = not (is_amp k)
passes symbols.Xors k = not (is_xor k)
passes symbols.Ors k = not (is_bar k)
passes symbols.Choice k = not (is_question k)
passes _ k = false

-- what becomes of the draft where a symbol is empty
abbrev pub passed : Symbol → Draft → Draft
passed (symbols.Put m) d = put d (made_step m ∷ [])
passed (symbols.Select side) d = ref_done side None d
passed _ d = d
