-- What follows an accepted token completes the symbol that took it.
use Rattle.std.proofs.Common.{◌≡◌, ℕ, List, [], ◌∷◌, ◌++◌, get_or, Some, None, Bool, true, false, refl, sym, ◌∙◌, ap, arith, ◌==◌, if◌then◌else◌}
use Rattle.std.proofs.lemmas.Bool.Decides.{nat_tests}
use Rattle.bb_base.specs.declared.token.Mark.{Mark}
use Rattle.bb_base.specs.declared.token.Mark.TheVariants as marks
use Rattle.bb_base.specs.declared.token.Token.{Token}
use Rattle.bb_base.specs.declared.token.TokenKind.{TokenKind}
use Rattle.bb_base.specs.declared.token.TokenKind.TheVariants as kinds
use Rattle.bb_parse.specs.declared.draft.Draft.{Draft}
use Rattle.bb_parse.specs.declared.symbol.Symbol.{Symbol}
use Rattle.bb_parse.specs.declared.symbol.Symbol.TheVariants as symbols
use Rattle.bb_grammar.proofs.Spelled.{token, all_span}
use Rattle.bb_parse.specs.Moves.{goes}
use Rattle.bb_parse.specs.ExpressionMoves.{mark_number, read_mark}
use Rattle.bb_parse.specs.Machine.{read_by}
use Rattle.bb_grammar.proofs.BackSteps.{back_declared, back_file, back_header, back_module_name, back_more_decls, back_more_names, back_more_ports, back_plain_name, back_port, back_ports, back_range, back_range_from, back_range_to, back_to, back_type}
use Rattle.bb_grammar.proofs.BackExpressions.{back_ands, back_braced, back_choice, back_expr, back_joined, back_operators, back_ors, back_repeat_end, back_select, back_select_end, back_select_from, back_select_last, back_select_to, back_unary, back_xors}
use Rattle.bb_grammar.proofs.BackStatements.{back_conns, back_equation, back_gate, back_instance, back_items, back_left, back_more_equations, back_more_gates, back_more_instances, back_more_lefts, back_more_pins, back_more_terms, back_pin_end, back_pin_name, back_pin_value}

-- the mark of a number
abbrev mark_at : ℕ → Mark
mark_at n = get_or (marks.LeftParen ∷ marks.RightParen ∷ marks.LeftBracket ∷ marks.RightBracket ∷ marks.LeftBrace ∷ marks.RightBrace ∷ marks.Comma ∷ marks.Semicolon ∷ marks.Colon ∷ marks.Dot ∷ marks.Equals ∷ marks.Amp ∷ marks.Bar ∷ marks.Caret ∷ marks.Tilde ∷ marks.TildeCaret ∷ marks.CaretTilde ∷ marks.Question ∷ []) n marks.LeftParen

pub mark_at_number : (m : Mark) → mark_at (mark_number m) ≡ m
mark_at_number marks.LeftParen = refl
mark_at_number marks.RightParen = refl
mark_at_number marks.LeftBracket = refl
mark_at_number marks.RightBracket = refl
mark_at_number marks.LeftBrace = refl
mark_at_number marks.RightBrace = refl
mark_at_number marks.Comma = refl
mark_at_number marks.Semicolon = refl
mark_at_number marks.Colon = refl
mark_at_number marks.Dot = refl
mark_at_number marks.Equals = refl
mark_at_number marks.Amp = refl
mark_at_number marks.Bar = refl
mark_at_number marks.Caret = refl
mark_at_number marks.Tilde = refl
mark_at_number marks.TildeCaret = refl
mark_at_number marks.CaretTilde = refl
mark_at_number marks.Question = refl

pub numbers_same : (a b : ℕ) → (a == b) ≡ true → a ≡ b
numbers_same a b h = grind (arith, nat_tests)

pub mark_same : (m n : Mark) → (mark_number m == mark_number n) ≡ true → m ≡ n
mark_same m n h = sym (mark_at_number m) ∙ ap mark_at (numbers_same (mark_number m) (mark_number n) h) ∙ mark_at_number n

pub back_mark_by : (b : Bool) (n o : Mark) (line : ℕ) (d : Draft) (m : List Symbol × Draft) (ss : List Symbol) (ts : List Token) → (mark_number n == mark_number o) ≡ b → (if b then goes [] d else None) ≡ Some m → all_span (m.0 ++ ss) ts → all_span (symbols.Mark n ∷ ss) (token (kinds.Mark o) line ∷ ts)
back_mark_by false n o line d m ss ts is h sp = cc
back_mark_by true n o line d m ss ts is h sp = (ts, (line, ap (λ x. token (kinds.Mark x) line ∷ ts) (sym (mark_same n o is))), back_to ss ts h sp)

pub back_mark : (n : Mark) (k : TokenKind) (line : ℕ) (d : Draft) (m : List Symbol × Draft) (ss : List Symbol) (ts : List Token) → read_mark n k d ≡ Some m → all_span (m.0 ++ ss) ts → all_span (symbols.Mark n ∷ ss) (token k line ∷ ts)
back_mark n (kinds.Mark o) line d m ss ts h sp = back_mark_by (mark_number n == mark_number o) n o line d m ss ts refl h sp
back_mark n _ line d m ss ts h sp = cc

pub back_read : (s : Symbol) (k : TokenKind) (line : ℕ) (d : Draft) (m : List Symbol × Draft) (ss : List Symbol) (ts : List Token) → read_by s k line d ≡ Some m → all_span (m.0 ++ ss) ts → all_span (s ∷ ss) (token k line ∷ ts)
back_read symbols.File k line d m ss ts h sp = back_file k line d m ss ts h sp
back_read symbols.ModuleName k line d m ss ts h sp = back_module_name k line d m ss ts h sp
back_read symbols.Header k line d m ss ts h sp = back_header k line d m ss ts h sp
back_read symbols.Ports k line d m ss ts h sp = back_ports k line d m ss ts h sp
back_read symbols.PlainName k line d m ss ts h sp = back_plain_name k line d m ss ts h sp
back_read symbols.MoreNames k line d m ss ts h sp = back_more_names k line d m ss ts h sp
back_read symbols.Port k line d m ss ts h sp = back_port k line d m ss ts h sp
back_read symbols.MorePorts k line d m ss ts h sp = back_more_ports k line d m ss ts h sp
back_read (symbols.Type place) k line d m ss ts h sp = back_type place k line d m ss ts h sp
back_read (symbols.Range place) k line d m ss ts h sp = back_range place k line d m ss ts h sp
back_read symbols.RangeFrom k line d m ss ts h sp = back_range_from k line d m ss ts h sp
back_read (symbols.RangeTo i) k line d m ss ts h sp = back_range_to i k line d m ss ts h sp
back_read (symbols.Declared place) k line d m ss ts h sp = back_declared place k line d m ss ts h sp
back_read symbols.Items k line d m ss ts h sp = back_items k line d m ss ts h sp
back_read symbols.MoreDecls k line d m ss ts h sp = back_more_decls k line d m ss ts h sp
back_read symbols.Equation k line d m ss ts h sp = back_equation k line d m ss ts h sp
back_read symbols.MoreEquations k line d m ss ts h sp = back_more_equations k line d m ss ts h sp
back_read symbols.Left k line d m ss ts h sp = back_left k line d m ss ts h sp
back_read symbols.MoreLefts k line d m ss ts h sp = back_more_lefts k line d m ss ts h sp
back_read symbols.Gate k line d m ss ts h sp = back_gate k line d m ss ts h sp
back_read symbols.MoreGates k line d m ss ts h sp = back_more_gates k line d m ss ts h sp
back_read symbols.MoreTerms k line d m ss ts h sp = back_more_terms k line d m ss ts h sp
back_read symbols.Instance k line d m ss ts h sp = back_instance k line d m ss ts h sp
back_read symbols.Conns k line d m ss ts h sp = back_conns k line d m ss ts h sp
back_read symbols.MoreInstances k line d m ss ts h sp = back_more_instances k line d m ss ts h sp
back_read symbols.PinName k line d m ss ts h sp = back_pin_name k line d m ss ts h sp
back_read symbols.PinValue k line d m ss ts h sp = back_pin_value k line d m ss ts h sp
back_read symbols.PinEnd k line d m ss ts h sp = back_pin_end k line d m ss ts h sp
back_read symbols.MorePins k line d m ss ts h sp = back_more_pins k line d m ss ts h sp
back_read (symbols.Select side) k line d m ss ts h sp = back_select side k line d m ss ts h sp
back_read (symbols.SelectFrom side) k line d m ss ts h sp = back_select_from side k line d m ss ts h sp
back_read (symbols.SelectTo side i) k line d m ss ts h sp = back_select_to side i k line d m ss ts h sp
back_read (symbols.SelectLast side i) k line d m ss ts h sp = back_select_last side i k line d m ss ts h sp
back_read (symbols.SelectEnd side i j) k line d m ss ts h sp = back_select_end side i j k line d m ss ts h sp
back_read symbols.Expr k line d m ss ts h sp = back_expr k line d m ss ts h sp
back_read symbols.Unary k line d m ss ts h sp = back_unary k line d m ss ts h sp
back_read symbols.Braced k line d m ss ts h sp = back_braced k line d m ss ts h sp
back_read (symbols.Joined n) k line d m ss ts h sp = back_joined n k line d m ss ts h sp
back_read (symbols.RepeatEnd n) k line d m ss ts h sp = back_repeat_end n k line d m ss ts h sp
back_read symbols.Operators k line d m ss ts h sp = back_operators k line d m ss ts h sp
back_read symbols.Ands k line d m ss ts h sp = back_ands k line d m ss ts h sp
back_read symbols.Xors k line d m ss ts h sp = back_xors k line d m ss ts h sp
back_read symbols.Ors k line d m ss ts h sp = back_ors k line d m ss ts h sp
back_read symbols.Choice k line d m ss ts h sp = back_choice k line d m ss ts h sp
back_read (symbols.Mark n) k line d m ss ts h sp = back_mark n k line d m ss ts h sp
back_read (symbols.Put made) k line d m ss ts h sp = cc
