-- How a token is taken by each symbol of statements.
use Rattle.std.specs.Prelude.{ℕ, [], ◌∷◌, Option, Some, None}
use Rattle.bb_base.specs.declared.keyword.Keyword.{Keyword}
use Rattle.bb_base.specs.declared.keyword.Keyword.TheVariants as keys
use Rattle.bb_base.specs.declared.token.Mark.TheVariants as marks
use Rattle.bb_base.specs.declared.token.TokenKind.{TokenKind}
use Rattle.bb_base.specs.declared.token.TokenKind.TheVariants as kinds
use Rattle.bb_base.specs.declared.operator.Op.{Op}
use Rattle.bb_base.specs.declared.variable.Role.TheVariants as roles
use Rattle.bb_parse.specs.declared.draft.Draft.{Draft}
use Rattle.bb_parse.specs.declared.symbol.Place.TheVariants as places
use Rattle.bb_parse.specs.declared.symbol.Side.TheVariants as sides
use Rattle.bb_parse.specs.declared.symbol.Symbol.TheVariants as symbols
use Rattle.bb_parse.specs.Grammar.{gate_op}
use Rattle.bb_parse.specs.Drafts.{begin_decl, equation_done, term_done, gate_done, instance_done, open_pin_done, pin_done}
use Rattle.bb_parse.specs.Moves.{Move, with_behind, goes}
use Rattle.bb_parse.specs.ExpressionMoves.{read_expr}

-- gates of an operator begin in a line, where the keyword has one
abbrev pub begin_gates : Option Op → ℕ → Draft → Move
begin_gates None line d = None
begin_gates (Some op) line d = goes (symbols.Gate ∷ symbols.MoreGates ∷ symbols.Items ∷ []) (record d { line = line; op = op })

abbrev pub read_keyword : Keyword → ℕ → Draft → Move
read_keyword keys.Endmodule line d = goes [] d
read_keyword keys.Input line d = goes (symbols.Type places.Body ∷ symbols.MoreDecls ∷ symbols.Items ∷ []) (begin_decl line roles.Input d)
read_keyword keys.Output line d = goes (symbols.Type places.Body ∷ symbols.MoreDecls ∷ symbols.Items ∷ []) (begin_decl line roles.Output d)
read_keyword keys.Wire line d = goes (symbols.Range places.Body ∷ symbols.MoreDecls ∷ symbols.Items ∷ []) (begin_decl line roles.Wire d)
read_keyword keys.Assign line d = goes (symbols.Equation ∷ symbols.MoreEquations ∷ symbols.Items ∷ []) (record d { line = line })
read_keyword keyword line d = begin_gates (gate_op keyword) line d

abbrev pub read_items : TokenKind → ℕ → Draft → Move
read_items (kinds.Key keyword) line d = read_keyword keyword line d
read_items (kinds.Name x) line d = goes (symbols.Instance ∷ symbols.MoreInstances ∷ symbols.Items ∷ []) (record d { line = line; cell = Some x })
read_items _ line d = None

abbrev pub read_more_decls : TokenKind → Draft → Move
read_more_decls (kinds.Mark marks.Comma) d = goes (symbols.Declared places.Body ∷ symbols.MoreDecls ∷ []) d
read_more_decls (kinds.Mark marks.Semicolon) d = goes [] d
read_more_decls _ d = None

abbrev pub read_left : TokenKind → Draft → Move
read_left (kinds.Name x) d = goes (symbols.Select sides.Left ∷ []) (record d { word = Some x })
read_left (kinds.Mark marks.LeftBrace) d = goes (symbols.Left ∷ symbols.MoreLefts ∷ []) d
read_left _ d = None

abbrev pub read_more_lefts : TokenKind → Draft → Move
read_more_lefts (kinds.Mark marks.Comma) d = goes (symbols.Left ∷ symbols.MoreLefts ∷ []) d
read_more_lefts (kinds.Mark marks.RightBrace) d = goes [] d
read_more_lefts _ d = None

abbrev pub read_equation : TokenKind → Draft → Move
read_equation k d = with_behind (symbols.Mark marks.Equals ∷ symbols.Expr ∷ []) (read_left k d)

abbrev pub read_more_equations : TokenKind → Draft → Move
read_more_equations (kinds.Mark marks.Comma) d = goes (symbols.Equation ∷ symbols.MoreEquations ∷ []) (equation_done d)
read_more_equations (kinds.Mark marks.Semicolon) d = goes [] (equation_done d)
read_more_equations _ d = None

abbrev pub read_gate : TokenKind → Draft → Move
read_gate (kinds.Name x) d = goes (symbols.Mark marks.LeftParen ∷ symbols.Expr ∷ symbols.MoreTerms ∷ []) d
read_gate (kinds.Mark marks.LeftParen) d = goes (symbols.Expr ∷ symbols.MoreTerms ∷ []) d
read_gate _ d = None

abbrev pub read_more_terms : TokenKind → Draft → Move
read_more_terms (kinds.Mark marks.Comma) d = goes (symbols.Expr ∷ symbols.MoreTerms ∷ []) (term_done d)
read_more_terms (kinds.Mark marks.RightParen) d = goes [] (term_done d)
read_more_terms _ d = None

abbrev pub read_more_gates : TokenKind → Draft → Move
read_more_gates (kinds.Mark marks.Comma) d = goes (symbols.Gate ∷ symbols.MoreGates ∷ []) (gate_done d)
read_more_gates (kinds.Mark marks.Semicolon) d = goes [] (gate_done d)
read_more_gates _ d = None

abbrev pub read_instance : TokenKind → Draft → Move
read_instance (kinds.Name x) d = goes (symbols.Mark marks.LeftParen ∷ symbols.Conns ∷ []) d
read_instance _ d = None

abbrev pub read_more_instances : TokenKind → Draft → Move
read_more_instances (kinds.Mark marks.Comma) d = goes (symbols.Instance ∷ symbols.MoreInstances ∷ []) (instance_done d)
read_more_instances (kinds.Mark marks.Semicolon) d = goes [] (instance_done d)
read_more_instances _ d = None

abbrev pub read_conns : TokenKind → Draft → Move
read_conns (kinds.Mark marks.RightParen) d = goes [] d
read_conns (kinds.Mark marks.Dot) d = goes (symbols.PinName ∷ symbols.Mark marks.LeftParen ∷ symbols.PinValue ∷ symbols.MorePins ∷ []) d
read_conns k d = with_behind (symbols.MoreTerms ∷ []) (read_expr k d)

abbrev pub read_pin_name : TokenKind → Draft → Move
read_pin_name (kinds.Name x) d = goes [] (record d { pin = Some x })
read_pin_name _ d = None

abbrev pub read_pin_value : TokenKind → Draft → Move
read_pin_value (kinds.Mark marks.RightParen) d = goes [] (open_pin_done d)
read_pin_value k d = with_behind (symbols.PinEnd ∷ []) (read_expr k d)

abbrev pub read_pin_end : TokenKind → Draft → Move
read_pin_end (kinds.Mark marks.RightParen) d = goes [] (pin_done d)
read_pin_end _ d = None

abbrev pub read_more_pins : TokenKind → Draft → Move
read_more_pins (kinds.Mark marks.Comma) d = goes (symbols.Mark marks.Dot ∷ symbols.PinName ∷ symbols.Mark marks.LeftParen ∷ symbols.PinValue ∷ symbols.MorePins ∷ []) d
read_more_pins (kinds.Mark marks.RightParen) d = goes [] d
read_more_pins _ d = None
