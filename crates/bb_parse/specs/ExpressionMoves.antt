-- How a token is taken by each symbol of an expression, and by a mark that must stand.
use Rattle.std.specs.Prelude.{ℕ, ◌+◌, ◌==◌, if◌then◌else◌, [], ◌∷◌, Some, None}
use Rattle.bb_base.specs.declared.token.Mark.{Mark}
use Rattle.bb_base.specs.declared.token.Mark.TheVariants as marks
use Rattle.bb_base.specs.declared.token.TokenKind.{TokenKind}
use Rattle.bb_base.specs.declared.token.TokenKind.TheVariants as kinds
use Rattle.bb_parse.specs.declared.draft.Draft.{Draft}
use Rattle.bb_parse.specs.declared.symbol.Side.{Side}
use Rattle.bb_parse.specs.declared.symbol.Side.TheVariants as sides
use Rattle.bb_parse.specs.declared.symbol.Made.TheVariants as made
use Rattle.bb_parse.specs.declared.symbol.Symbol.TheVariants as symbols
use Rattle.bb_parse.specs.declared.syntax.Step.TheVariants as steps
use Rattle.bb_parse.specs.Drafts.{put, ref_done}
use Rattle.bb_parse.specs.Moves.{Move, with_behind, goes}

-- an operand with its prefixes
abbrev pub read_unary : TokenKind → Draft → Move
read_unary (kinds.Mark marks.Tilde) d = goes (symbols.Unary ∷ symbols.Put made.Not ∷ []) d
read_unary (kinds.Name x) d = goes (symbols.Select sides.Right ∷ []) (record d { word = Some x })
read_unary (kinds.Const size value) d = goes [] (put d (steps.Const size value ∷ []))
read_unary (kinds.Mark marks.LeftParen) d = goes (symbols.Expr ∷ symbols.Mark marks.RightParen ∷ []) d
read_unary (kinds.Mark marks.LeftBrace) d = goes (symbols.Braced ∷ []) d
read_unary _ d = None

abbrev pub read_expr : TokenKind → Draft → Move
read_expr k d = with_behind (symbols.Operators ∷ []) (read_unary k d)

abbrev pub read_select : Side → TokenKind → Draft → Move
read_select side (kinds.Mark marks.LeftBracket) d = goes (symbols.SelectFrom side ∷ []) d
read_select side _ d = None

abbrev pub read_select_from : Side → TokenKind → Draft → Move
read_select_from side (kinds.Number n) d = goes (symbols.SelectTo side n ∷ []) d
read_select_from side _ d = None

abbrev pub read_select_to : Side → ℕ → TokenKind → Draft → Move
read_select_to side from (kinds.Mark marks.RightBracket) d = goes [] (ref_done side (Some (from, from)) d)
read_select_to side from (kinds.Mark marks.Colon) d = goes (symbols.SelectLast side from ∷ []) d
read_select_to side from _ d = None

abbrev pub read_select_last : Side → ℕ → TokenKind → Draft → Move
read_select_last side from (kinds.Number n) d = goes (symbols.SelectEnd side from n ∷ []) d
read_select_last side from _ d = None

abbrev pub read_select_end : Side → ℕ → ℕ → TokenKind → Draft → Move
read_select_end side from to (kinds.Mark marks.RightBracket) d = goes [] (ref_done side (Some (from, to)) d)
read_select_end side from to _ d = None

-- a repeat is at least one
abbrev pub begin_repeat : ℕ → Draft → Move
begin_repeat n d = if n == 0 then None else goes (symbols.Mark marks.LeftBrace ∷ symbols.Expr ∷ symbols.Joined 1 ∷ symbols.RepeatEnd n ∷ []) d

abbrev pub read_braced : TokenKind → Draft → Move
read_braced (kinds.Number n) d = begin_repeat n d
read_braced k d = with_behind (symbols.Joined 1 ∷ []) (read_expr k d)

abbrev pub read_joined : ℕ → TokenKind → Draft → Move
read_joined n (kinds.Mark marks.Comma) d = goes (symbols.Expr ∷ symbols.Joined (n + 1) ∷ []) d
read_joined n (kinds.Mark marks.RightBrace) d = goes [] (put d (steps.Join n ∷ []))
read_joined n _ d = None

abbrev pub read_repeat_end : ℕ → TokenKind → Draft → Move
read_repeat_end n (kinds.Mark marks.RightBrace) d = goes [] (put d (steps.Repeat n ∷ []))
read_repeat_end n _ d = None

-- one more operand, and then its operator
abbrev pub read_ands : TokenKind → Draft → Move
read_ands (kinds.Mark marks.Amp) d = goes (symbols.Unary ∷ symbols.Put made.And ∷ symbols.Ands ∷ []) d
read_ands _ d = None

abbrev pub read_xors : TokenKind → Draft → Move
read_xors (kinds.Mark marks.Caret) d = goes (symbols.Unary ∷ symbols.Ands ∷ symbols.Put made.Xor ∷ symbols.Xors ∷ []) d
read_xors (kinds.Mark marks.TildeCaret) d = goes (symbols.Unary ∷ symbols.Ands ∷ symbols.Put made.Xnor ∷ symbols.Xors ∷ []) d
read_xors (kinds.Mark marks.CaretTilde) d = goes (symbols.Unary ∷ symbols.Ands ∷ symbols.Put made.Xnor ∷ symbols.Xors ∷ []) d
read_xors _ d = None

abbrev pub read_ors : TokenKind → Draft → Move
read_ors (kinds.Mark marks.Bar) d = goes (symbols.Unary ∷ symbols.Ands ∷ symbols.Xors ∷ symbols.Put made.Or ∷ symbols.Ors ∷ []) d
read_ors _ d = None

abbrev pub read_choice : TokenKind → Draft → Move
read_choice (kinds.Mark marks.Question) d = goes (symbols.Expr ∷ symbols.Mark marks.Colon ∷ symbols.Expr ∷ symbols.Put made.Cond ∷ []) d
read_choice _ d = None

-- the first operator behind an operand: as if the four symbols stood here
abbrev pub read_operators : TokenKind → Draft → Move
read_operators (kinds.Mark marks.Amp) d = goes (symbols.Unary ∷ symbols.Put made.And ∷ symbols.Ands ∷ symbols.Xors ∷ symbols.Ors ∷ symbols.Choice ∷ []) d
read_operators (kinds.Mark marks.Caret) d = goes (symbols.Unary ∷ symbols.Ands ∷ symbols.Put made.Xor ∷ symbols.Xors ∷ symbols.Ors ∷ symbols.Choice ∷ []) d
read_operators (kinds.Mark marks.TildeCaret) d = goes (symbols.Unary ∷ symbols.Ands ∷ symbols.Put made.Xnor ∷ symbols.Xors ∷ symbols.Ors ∷ symbols.Choice ∷ []) d
read_operators (kinds.Mark marks.CaretTilde) d = goes (symbols.Unary ∷ symbols.Ands ∷ symbols.Put made.Xnor ∷ symbols.Xors ∷ symbols.Ors ∷ symbols.Choice ∷ []) d
read_operators (kinds.Mark marks.Bar) d = goes (symbols.Unary ∷ symbols.Ands ∷ symbols.Xors ∷ symbols.Put made.Or ∷ symbols.Ors ∷ symbols.Choice ∷ []) d
read_operators (kinds.Mark marks.Question) d = goes (symbols.Expr ∷ symbols.Mark marks.Colon ∷ symbols.Expr ∷ symbols.Put made.Cond ∷ []) d
read_operators _ d = None

abbrev pub mark_number : Mark → ℕ
mark_number marks.LeftParen = 0
mark_number marks.RightParen = 1
mark_number marks.LeftBracket = 2
mark_number marks.RightBracket = 3
mark_number marks.LeftBrace = 4
mark_number marks.RightBrace = 5
mark_number marks.Comma = 6
mark_number marks.Semicolon = 7
mark_number marks.Colon = 8
mark_number marks.Dot = 9
mark_number marks.Equals = 10
mark_number marks.Amp = 11
mark_number marks.Bar = 12
mark_number marks.Caret = 13
mark_number marks.Tilde = 14
mark_number marks.TildeCaret = 15
mark_number marks.CaretTilde = 16
mark_number marks.Question = 17

abbrev pub read_mark : Mark → TokenKind → Draft → Move
read_mark m (kinds.Mark n) d = if mark_number m == mark_number n then goes [] d else None
read_mark m _ d = None
