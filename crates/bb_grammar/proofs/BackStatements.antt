-- What follows an accepted token completes the symbol that took it: statements.
use Rattle.std.proofs.Common.{◌≡◌, ℕ, List, [], ◌∷◌, ◌++◌, Option, Some, None, refl, sym, subst}
use Rattle.bb_base.specs.declared.keyword.Keyword.{Keyword}
use Rattle.bb_base.specs.declared.keyword.Keyword.TheVariants as keys
use Rattle.bb_base.specs.declared.token.Mark.{Mark}
use Rattle.bb_base.specs.declared.token.Mark.TheVariants as marks
use Rattle.bb_base.specs.declared.token.Token.{Token}
use Rattle.bb_base.specs.declared.token.TokenKind.{TokenKind}
use Rattle.bb_base.specs.declared.token.TokenKind.TheVariants as kinds
use Rattle.bb_base.specs.declared.operator.Op.{Op}
use Rattle.bb_parse.specs.declared.draft.Draft.{Draft}
use Rattle.bb_parse.specs.declared.symbol.Symbol.{Symbol}
use Rattle.bb_parse.specs.declared.symbol.Symbol.TheVariants as symbols
use Rattle.bb_parse.specs.Trees.{NoExprs, MoreExprs, Target, Targets, NoLefts, MoreLefts, In, Out, Places, NoPins, Pins, Directs, Wires, Assigns, Gates, Cells}
use Rattle.bb_parse.specs.Grammar
use Rattle.bb_parse.specs.Grammar.{gate_op}
use Rattle.bb_grammar.proofs.Spelled.{token, all_span}
use Rattle.bb_parse.specs.StatementMoves.{begin_gates, read_conns, read_equation, read_gate, read_instance, read_items, read_keyword, read_left, read_more_equations, read_more_gates, read_more_instances, read_more_lefts, read_more_pins, read_more_terms, read_pin_end, read_pin_name, read_pin_value}
use Rattle.bb_grammar.proofs.BackSteps.{back_behind, back_to}
use Rattle.bb_grammar.proofs.BackExpressions.{back_expr_and}

pub back_left : (k : TokenKind) (line : ℕ) (d : Draft) (m : List Symbol × Draft) (ss : List Symbol) (ts : List Token) → read_left k d ≡ Some m → all_span (m.0 ++ ss) ts → all_span (symbols.Left ∷ ss) (token k line ∷ ts)
back_left (kinds.Name x) line d m ss ts h sp =
    let (a, (sel, select), after) = back_to ss ts h sp in
    (a, (Target x sel, (ts, (line, refl), select)), after)
back_left (kinds.Mark marks.LeftBrace) line d m ss ts h sp =
    let (a, (l, one), (b, (ls, more), after)) = back_to ss ts h sp in
    (b, (Targets l ls, (ts, (line, refl), (a, one, more))), after)
back_left _ line d m ss ts h sp = cc

pub back_more_lefts : (k : TokenKind) (line : ℕ) (d : Draft) (m : List Symbol × Draft) (ss : List Symbol) (ts : List Token) → read_more_lefts k d ≡ Some m → all_span (m.0 ++ ss) ts → all_span (symbols.MoreLefts ∷ ss) (token k line ∷ ts)
back_more_lefts (kinds.Mark marks.Comma) line d m ss ts h sp =
    let (a, (l, one), (b, (ls, more), after)) = back_to ss ts h sp in
    (b, (MoreLefts l ls, (more.0, (ts, (line, refl), (a, one, more.1)), more.2)), after)
back_more_lefts (kinds.Mark marks.RightBrace) line d m ss ts h sp = (ts, (NoLefts, (token (kinds.Mark marks.RightBrace) line ∷ ts, refl, (line, refl))), back_to ss ts h sp)
back_more_lefts _ line d m ss ts h sp = cc

pub to_equation : (ss : List Symbol) (ts : List Token) → all_span (symbols.Left ∷ symbols.Mark marks.Equals ∷ symbols.Expr ∷ ss) ts → all_span (symbols.Equation ∷ ss) ts
to_equation ss ts (a, (l, left), (b, equals, (c, (e, right), after))) = (c, (record { left = l; right = e }, (a, left, (b, equals, right))), after)

pub back_equation : (k : TokenKind) (line : ℕ) (d : Draft) (m : List Symbol × Draft) (ss : List Symbol) (ts : List Token) → read_equation k d ≡ Some m → all_span (m.0 ++ ss) ts → all_span (symbols.Equation ∷ ss) (token k line ∷ ts)
back_equation k line d m ss ts h sp =
    let (n, found, rest) = back_behind (symbols.Mark marks.Equals ∷ symbols.Expr ∷ []) ss (read_left k d) m ts h sp in
    to_equation ss (token k line ∷ ts) (back_left k line d n (symbols.Mark marks.Equals ∷ symbols.Expr ∷ ss) ts found rest)

pub back_more_equations : (k : TokenKind) (line : ℕ) (d : Draft) (m : List Symbol × Draft) (ss : List Symbol) (ts : List Token) → read_more_equations k d ≡ Some m → all_span (m.0 ++ ss) ts → all_span (symbols.MoreEquations ∷ ss) (token k line ∷ ts)
back_more_equations (kinds.Mark marks.Comma) line d m ss ts h sp =
    let (a, (x, one), (b, (xs, more), after)) = back_to ss ts h sp in
    (b, (x ∷ xs, (more.0, (a, (ts, (line, refl), one), more.1), more.2)), after)
back_more_equations (kinds.Mark marks.Semicolon) line d m ss ts h sp = (ts, ([], (token (kinds.Mark marks.Semicolon) line ∷ ts, refl, (line, refl))), back_to ss ts h sp)
back_more_equations _ line d m ss ts h sp = cc

pub back_gate : (k : TokenKind) (line : ℕ) (d : Draft) (m : List Symbol × Draft) (ss : List Symbol) (ts : List Token) → read_gate k d ≡ Some m → all_span (m.0 ++ ss) ts → all_span (symbols.Gate ∷ ss) (token k line ∷ ts)
back_gate (kinds.Name x) line d m ss ts h sp =
    let (a, paren, (b, (e, expr), (c, (es, more), after))) = back_to ss ts h sp in
    (c, (record { instance = Some x; terms = record { first = e; more = es } }, (ts, (line, refl), (a, paren, (b, expr, more)))), after)
back_gate (kinds.Mark marks.LeftParen) line d m ss ts h sp =
    let (a, (e, expr), (b, (es, more), after)) = back_to ss ts h sp in
    (b, (record { instance = None; terms = record { first = e; more = es } }, (token (kinds.Mark marks.LeftParen) line ∷ ts, refl, (ts, (line, refl), (a, expr, more)))), after)
back_gate _ line d m ss ts h sp = cc

pub back_more_gates : (k : TokenKind) (line : ℕ) (d : Draft) (m : List Symbol × Draft) (ss : List Symbol) (ts : List Token) → read_more_gates k d ≡ Some m → all_span (m.0 ++ ss) ts → all_span (symbols.MoreGates ∷ ss) (token k line ∷ ts)
back_more_gates (kinds.Mark marks.Comma) line d m ss ts h sp =
    let (a, (x, one), (b, (xs, more), after)) = back_to ss ts h sp in
    (b, (x ∷ xs, (more.0, (a, (ts, (line, refl), one), more.1), more.2)), after)
back_more_gates (kinds.Mark marks.Semicolon) line d m ss ts h sp = (ts, ([], (token (kinds.Mark marks.Semicolon) line ∷ ts, refl, (line, refl))), back_to ss ts h sp)
back_more_gates _ line d m ss ts h sp = cc

pub back_more_terms : (k : TokenKind) (line : ℕ) (d : Draft) (m : List Symbol × Draft) (ss : List Symbol) (ts : List Token) → read_more_terms k d ≡ Some m → all_span (m.0 ++ ss) ts → all_span (symbols.MoreTerms ∷ ss) (token k line ∷ ts)
back_more_terms (kinds.Mark marks.Comma) line d m ss ts h sp =
    let (a, (e, one), (b, (es, more), after)) = back_to ss ts h sp in
    (b, (MoreExprs e es, (more.0, (ts, (line, refl), (a, one, more.1)), more.2)), after)
back_more_terms (kinds.Mark marks.RightParen) line d m ss ts h sp = (ts, (NoExprs, (token (kinds.Mark marks.RightParen) line ∷ ts, refl, (line, refl))), back_to ss ts h sp)
back_more_terms _ line d m ss ts h sp = cc

pub back_instance : (k : TokenKind) (line : ℕ) (d : Draft) (m : List Symbol × Draft) (ss : List Symbol) (ts : List Token) → read_instance k d ≡ Some m → all_span (m.0 ++ ss) ts → all_span (symbols.Instance ∷ ss) (token k line ∷ ts)
back_instance (kinds.Name x) line d m ss ts h sp =
    let (a, paren, (b, conns, after)) = back_to ss ts h sp in
    let (l, opened) = paren in
    let (tree, span) = conns l in
    (b, (record { name = x; conns = tree }, (ts, (line, refl), subst (λ f. Grammar.conns tree f b) (sym opened) span)), after)
back_instance _ line d m ss ts h sp = cc

pub to_places : (ss : List Symbol) (ts : List Token) → all_span (symbols.Expr ∷ symbols.MoreTerms ∷ ss) ts → all_span (symbols.Conns ∷ ss) ts
to_places ss ts (a, (e, expr), (b, (es, more), after)) = (b, (λ l. (Places (record { first = e; more = es }), (ts, (l, refl), (a, expr, more)))), after)

pub back_conns_mark : (n : Mark) (line : ℕ) (d : Draft) (m : List Symbol × Draft) (ss : List Symbol) (ts : List Token) → read_conns (kinds.Mark n) d ≡ Some m → all_span (m.0 ++ ss) ts → all_span (symbols.Conns ∷ ss) (token (kinds.Mark n) line ∷ ts)
back_conns_mark marks.RightParen line d m ss ts h sp = (ts, (λ l. (NoPins, (token (kinds.Mark marks.RightParen) line ∷ ts, (l, refl), (line, refl)))), back_to ss ts h sp)
back_conns_mark marks.Dot line d m ss ts h sp =
    let (a, (x, name), (b, paren, (c, (v, value), (f, (ps, more), after)))) = back_to ss ts h sp in
    (f, (λ l. (Pins (record { name = x; value = v }) ps, (token (kinds.Mark marks.Dot) line ∷ ts, (l, refl), (c, (ts, (line, refl), (a, name, (b, paren, value))), more)))), after)
back_conns_mark n line d m ss ts h sp = to_places ss (token (kinds.Mark n) line ∷ ts) (back_expr_and symbols.MoreTerms (kinds.Mark n) line d m ss ts h sp)

pub back_conns : (k : TokenKind) (line : ℕ) (d : Draft) (m : List Symbol × Draft) (ss : List Symbol) (ts : List Token) → read_conns k d ≡ Some m → all_span (m.0 ++ ss) ts → all_span (symbols.Conns ∷ ss) (token k line ∷ ts)
back_conns (kinds.Mark n) line d m ss ts h sp = back_conns_mark n line d m ss ts h sp
back_conns k line d m ss ts h sp = to_places ss (token k line ∷ ts) (back_expr_and symbols.MoreTerms k line d m ss ts h sp)

pub back_more_instances : (k : TokenKind) (line : ℕ) (d : Draft) (m : List Symbol × Draft) (ss : List Symbol) (ts : List Token) → read_more_instances k d ≡ Some m → all_span (m.0 ++ ss) ts → all_span (symbols.MoreInstances ∷ ss) (token k line ∷ ts)
back_more_instances (kinds.Mark marks.Comma) line d m ss ts h sp =
    let (a, (x, one), (b, (xs, more), after)) = back_to ss ts h sp in
    (b, (x ∷ xs, (more.0, (a, (ts, (line, refl), one), more.1), more.2)), after)
back_more_instances (kinds.Mark marks.Semicolon) line d m ss ts h sp = (ts, ([], (token (kinds.Mark marks.Semicolon) line ∷ ts, refl, (line, refl))), back_to ss ts h sp)
back_more_instances _ line d m ss ts h sp = cc

pub back_pin_name : (k : TokenKind) (line : ℕ) (d : Draft) (m : List Symbol × Draft) (ss : List Symbol) (ts : List Token) → read_pin_name k d ≡ Some m → all_span (m.0 ++ ss) ts → all_span (symbols.PinName ∷ ss) (token k line ∷ ts)
back_pin_name (kinds.Name x) line d m ss ts h sp = (ts, (x, (line, refl)), back_to ss ts h sp)
back_pin_name _ line d m ss ts h sp = cc

pub to_value : (ss : List Symbol) (ts : List Token) → all_span (symbols.Expr ∷ symbols.PinEnd ∷ ss) ts → all_span (symbols.PinValue ∷ ss) ts
to_value ss ts (a, (e, expr), (b, paren, after)) = (b, (Some e, (a, expr, paren)), after)

pub back_value_mark : (n : Mark) (line : ℕ) (d : Draft) (m : List Symbol × Draft) (ss : List Symbol) (ts : List Token) → read_pin_value (kinds.Mark n) d ≡ Some m → all_span (m.0 ++ ss) ts → all_span (symbols.PinValue ∷ ss) (token (kinds.Mark n) line ∷ ts)
back_value_mark marks.RightParen line d m ss ts h sp = (ts, (None, (token (kinds.Mark marks.RightParen) line ∷ ts, refl, (line, refl))), back_to ss ts h sp)
back_value_mark n line d m ss ts h sp = to_value ss (token (kinds.Mark n) line ∷ ts) (back_expr_and symbols.PinEnd (kinds.Mark n) line d m ss ts h sp)

pub back_pin_value : (k : TokenKind) (line : ℕ) (d : Draft) (m : List Symbol × Draft) (ss : List Symbol) (ts : List Token) → read_pin_value k d ≡ Some m → all_span (m.0 ++ ss) ts → all_span (symbols.PinValue ∷ ss) (token k line ∷ ts)
back_pin_value (kinds.Mark n) line d m ss ts h sp = back_value_mark n line d m ss ts h sp
back_pin_value k line d m ss ts h sp = to_value ss (token k line ∷ ts) (back_expr_and symbols.PinEnd k line d m ss ts h sp)

pub back_pin_end : (k : TokenKind) (line : ℕ) (d : Draft) (m : List Symbol × Draft) (ss : List Symbol) (ts : List Token) → read_pin_end k d ≡ Some m → all_span (m.0 ++ ss) ts → all_span (symbols.PinEnd ∷ ss) (token k line ∷ ts)
back_pin_end (kinds.Mark marks.RightParen) line d m ss ts h sp = (ts, (line, refl), back_to ss ts h sp)
back_pin_end _ line d m ss ts h sp = cc

pub back_more_pins : (k : TokenKind) (line : ℕ) (d : Draft) (m : List Symbol × Draft) (ss : List Symbol) (ts : List Token) → read_more_pins k d ≡ Some m → all_span (m.0 ++ ss) ts → all_span (symbols.MorePins ∷ ss) (token k line ∷ ts)
back_more_pins (kinds.Mark marks.Comma) line d m ss ts h sp =
    let (a, dot, (b, (x, name), (c, paren, (f, (v, value), (g, (ps, more), after))))) = back_to ss ts h sp in
    (g, (record { name = x; value = v } ∷ ps, (more.0, (f, (ts, (line, refl), (a, dot, (b, name, (c, paren, value)))), more.1), more.2)), after)
back_more_pins (kinds.Mark marks.RightParen) line d m ss ts h sp = (ts, ([], (token (kinds.Mark marks.RightParen) line ∷ ts, refl, (line, refl))), back_to ss ts h sp)
back_more_pins _ line d m ss ts h sp = cc

pub back_gates : (k : Keyword) (op : Option Op) (line : ℕ) (d : Draft) (m : List Symbol × Draft) (ss : List Symbol) (ts : List Token) → gate_op k ≡ op → begin_gates op line d ≡ Some m → all_span (m.0 ++ ss) ts → all_span (symbols.Items ∷ ss) (token (kinds.Key k) line ∷ ts)
back_gates k None line d m ss ts is h sp = cc
back_gates k (Some op) line d m ss ts is h sp =
    let (a, (g, one), (b, (gs, more), (c, (sts, body), after))) = back_to ss ts h sp in
    (c, (Gates line k op g gs ∷ sts, (body.0, (b, (is, (ts, refl, (a, one, more))), body.1), body.2)), after)

pub back_keyword : (k : Keyword) (line : ℕ) (d : Draft) (m : List Symbol × Draft) (ss : List Symbol) (ts : List Token) → read_keyword k line d ≡ Some m → all_span (m.0 ++ ss) ts → all_span (symbols.Items ∷ ss) (token (kinds.Key k) line ∷ ts)
back_keyword keys.Endmodule line d m ss ts h sp = (ts, ([], (token (kinds.Key keys.Endmodule) line ∷ ts, refl, (line, refl))), back_to ss ts h sp)
back_keyword keys.Input line d m ss ts h sp =
    let (a, (w, r, x, mid, type, name), (b, (xs, more), (c, (sts, body), after))) = back_to ss ts h sp in
    (c, (Directs line (record { direction = In; wire = w; range = r }) x xs ∷ sts, (body.0, (b, (ts, refl, (mid, type, (a, name, more))), body.1), body.2)), after)
back_keyword keys.Output line d m ss ts h sp =
    let (a, (w, r, x, mid, type, name), (b, (xs, more), (c, (sts, body), after))) = back_to ss ts h sp in
    (c, (Directs line (record { direction = Out; wire = w; range = r }) x xs ∷ sts, (body.0, (b, (ts, refl, (mid, type, (a, name, more))), body.1), body.2)), after)
back_keyword keys.Wire line d m ss ts h sp =
    let (a, (r, x, mid, range, name), (b, (xs, more), (c, (sts, body), after))) = back_to ss ts h sp in
    (c, (Wires line r x xs ∷ sts, (body.0, (b, (ts, refl, (mid, range, (a, name, more))), body.1), body.2)), after)
back_keyword keys.Assign line d m ss ts h sp =
    let (a, (e, one), (b, (es, more), (c, (sts, body), after))) = back_to ss ts h sp in
    (c, (Assigns line e es ∷ sts, (body.0, (b, (ts, refl, (a, one, more)), body.1), body.2)), after)
back_keyword k line d m ss ts h sp = back_gates k (gate_op k) line d m ss ts refl h sp

pub back_items : (k : TokenKind) (line : ℕ) (d : Draft) (m : List Symbol × Draft) (ss : List Symbol) (ts : List Token) → read_items k line d ≡ Some m → all_span (m.0 ++ ss) ts → all_span (symbols.Items ∷ ss) (token k line ∷ ts)
back_items (kinds.Key k) line d m ss ts h sp = back_keyword k line d m ss ts h sp
back_items (kinds.Name x) line d m ss ts h sp =
    let (a, (i, one), (b, (is, more), (c, (sts, body), after))) = back_to ss ts h sp in
    (c, (Cells line x i is ∷ sts, (body.0, (b, (ts, refl, (a, one, more)), body.1), body.2)), after)
back_items _ line d m ss ts h sp = cc
