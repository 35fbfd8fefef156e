-- What follows an accepted token completes the symbol that took it: expressions.
use Rattle.std.proofs.Common.{◌≡◌, ℕ, ◌≤◌, zero, suc, List, [], ◌∷◌, ◌++◌, Some, None, false, refl, sym, ◌∙◌, ap, subst, arith, ◌==◌, if◌then◌else◌}
use Rattle.std.proofs.lemmas.Bool.Decides.{nat_tests}
use Rattle.bb_base.specs.declared.token.Mark.TheVariants as marks
use Rattle.bb_base.specs.declared.token.Token.{Token}
use Rattle.bb_base.specs.declared.token.TokenKind.{TokenKind}
use Rattle.bb_base.specs.declared.token.TokenKind.TheVariants as kinds
use Rattle.bb_parse.specs.declared.draft.Draft.{Draft}
use Rattle.bb_parse.specs.declared.symbol.Side.{Side}
use Rattle.bb_parse.specs.declared.symbol.Made.TheVariants as made
use Rattle.bb_parse.specs.declared.symbol.Symbol.{Symbol}
use Rattle.bb_parse.specs.declared.symbol.Symbol.TheVariants as symbols
use Rattle.bb_parse.specs.Trees.{Bit, Part, ByCaret, ByTildeCaret, ByCaretTilde, AnExpr, Choose, Or, AnOr, MoreOrs, Xor, AnXor, MoreXors, And, AnAnd, MoreAnds, Complement, Reference, Constant, Parens, Braces, Repeated, NoExprs, MoreExprs, NoAnds, NoXors, NoOrs}
use Rattle.bb_parse.specs.Grammar
use Rattle.bb_parse.specs.Moves.{with_behind, goes}
use Rattle.bb_grammar.proofs.Spelled.{token, all_span}
use Rattle.bb_parse.specs.ExpressionMoves.{begin_repeat, read_ands, read_braced, read_choice, read_expr, read_joined, read_operators, read_ors, read_repeat_end, read_select, read_select_end, read_select_from, read_select_last, read_select_to, read_unary, read_xors}
use Rattle.bb_grammar.proofs.BackSteps.{back_behind, back_to}

pub back_unary : (k : TokenKind) (line : ℕ) (d : Draft) (m : List Symbol × Draft) (ss : List Symbol) (ts : List Token) → read_unary k d ≡ Some m → all_span (m.0 ++ ss) ts → all_span (symbols.Unary ∷ ss) (token k line ∷ ts)
back_unary (kinds.Mark marks.Tilde) line d m ss ts h sp =
    let (a, (u, unary), (b, none, after)) = back_to ss ts h sp in
    (a, (Complement u, (ts, (line, refl), unary)), subst (all_span ss) (sym none) after)
back_unary (kinds.Name x) line d m ss ts h sp =
    let (a, (sel, select), after) = back_to ss ts h sp in
    (a, (Reference x sel, (ts, (line, refl), select)), after)
back_unary (kinds.Const size value) line d m ss ts h sp = (ts, (Constant size value, (line, refl)), back_to ss ts h sp)
back_unary (kinds.Mark marks.LeftParen) line d m ss ts h sp =
    let (a, (e, expr), (b, mark, after)) = back_to ss ts h sp in
    (b, (Parens e, (ts, (line, refl), (a, expr, mark))), after)
back_unary (kinds.Mark marks.LeftBrace) line d m ss ts h sp =
    let (a, braced, after) = back_to ss ts h sp in
    (a, braced line, after)
back_unary _ line d m ss ts h sp = cc

pub to_four : (ss : List Symbol) (ts : List Token) → all_span (symbols.Operators ∷ ss) ts → all_span (symbols.Ands ∷ symbols.Xors ∷ symbols.Ors ∷ symbols.Choice ∷ ss) ts
to_four ss ts (e, (a, x, o, c, (b, ands, (f, xors, (g, ors, choice)))), after) = (b, (a, ands), (f, (x, xors), (g, (o, ors), (e, (c, choice), after))))

pub to_and : (ss : List Symbol) (ts : List Token) → all_span (symbols.Unary ∷ symbols.Ands ∷ ss) ts → (mid : List Token) × ((a : And) × Grammar.and a ts mid) × all_span ss mid
to_and ss ts (a, (u, unary), (b, (more, ands), after)) = (b, (AnAnd u more, (a, unary, ands)), after)

pub to_xor : (ss : List Symbol) (ts : List Token) → all_span (symbols.Unary ∷ symbols.Ands ∷ symbols.Xors ∷ ss) ts → (mid : List Token) × ((x : Xor) × Grammar.xor x ts mid) × all_span ss mid
to_xor ss ts sp =
    let (a, (one, and), (b, (more, xors), after)) = to_and (symbols.Xors ∷ ss) ts sp in
    (b, (AnXor one more, (a, and, xors)), after)

pub to_or : (ss : List Symbol) (ts : List Token) → all_span (symbols.Unary ∷ symbols.Ands ∷ symbols.Xors ∷ symbols.Ors ∷ ss) ts → (mid : List Token) × ((o : Or) × Grammar.or o ts mid) × all_span ss mid
to_or ss ts sp =
    let (a, (one, xor), (b, (more, ors), after)) = to_xor (symbols.Ors ∷ ss) ts sp in
    (b, (AnOr one more, (a, xor, ors)), after)

pub to_expr : (ss : List Symbol) (ts : List Token) → all_span (symbols.Unary ∷ symbols.Operators ∷ ss) ts → all_span (symbols.Expr ∷ ss) ts
to_expr ss ts (first, unary, behind_it) =
    let (a, (one, or), (b, (more, choice), after)) = to_or (symbols.Choice ∷ ss) ts (first, unary, to_four ss first behind_it) in
    (b, (AnExpr one more, (a, or, choice)), after)

pub back_expr : (k : TokenKind) (line : ℕ) (d : Draft) (m : List Symbol × Draft) (ss : List Symbol) (ts : List Token) → read_expr k d ≡ Some m → all_span (m.0 ++ ss) ts → all_span (symbols.Expr ∷ ss) (token k line ∷ ts)
back_expr k line d m ss ts h sp =
    let (n, found, rest) = back_behind (symbols.Operators ∷ []) ss (read_unary k d) m ts h sp in
    to_expr ss (token k line ∷ ts) (back_unary k line d n (symbols.Operators ∷ ss) ts found rest)

-- an expression's first token, before one more symbol
pub back_expr_and : (s : Symbol) (k : TokenKind) (line : ℕ) (d : Draft) (m : List Symbol × Draft) (ss : List Symbol) (ts : List Token) → with_behind (s ∷ []) (read_expr k d) ≡ Some m → all_span (m.0 ++ ss) ts → all_span (symbols.Expr ∷ s ∷ ss) (token k line ∷ ts)
back_expr_and s k line d m ss ts h sp =
    let (n, found, rest) = back_behind (s ∷ []) ss (read_expr k d) m ts h sp in
    back_expr k line d n (s ∷ ss) ts found rest

pub to_braces : (ss : List Symbol) (ts : List Token) → all_span (symbols.Expr ∷ symbols.Joined 1 ∷ ss) ts → all_span (symbols.Braced ∷ ss) ts
to_braces ss ts (a, (e, expr), (b, (es, more), after)) = (b, (λ l. (Braces e es, (ts, (l, refl), (a, expr, more)))), after)

pub begun_repeat : (n : ℕ) (d : Draft) (m : List Symbol × Draft) → begin_repeat n d ≡ Some m → (1 ≤ n) × (goes (symbols.Mark marks.LeftBrace ∷ symbols.Expr ∷ symbols.Joined 1 ∷ symbols.RepeatEnd n ∷ []) d ≡ Some m)
begun_repeat zero d m h = cc
begun_repeat (suc n) d m h = (omega arith, sym (ap (λ b. if b then None else goes (symbols.Mark marks.LeftBrace ∷ symbols.Expr ∷ symbols.Joined 1 ∷ symbols.RepeatEnd (suc n) ∷ []) d) (not_zero n)) ∙ h)
  where
    not_zero : (n : ℕ) → (suc n == 0) ≡ false
    not_zero n = grind (arith, nat_tests)

pub back_repeat : (n line : ℕ) (d : Draft) (m : List Symbol × Draft) (ss : List Symbol) (ts : List Token) → begin_repeat n d ≡ Some m → all_span (m.0 ++ ss) ts → all_span (symbols.Braced ∷ ss) (token (kinds.Number n) line ∷ ts)
back_repeat n line d m ss ts h sp =
    let (some, found) = begun_repeat n d m h in
    let (a, brace, (b, (e, expr), (c, (es, more), (f, end, after)))) = back_to ss ts found sp in
    (f, (λ l. (Repeated n e es, (some, (token (kinds.Number n) line ∷ ts, (l, refl), (ts, (line, refl), (a, brace, (b, expr, (more.0, more.1, (c, more.2, end))))))))), after)

pub back_braced : (k : TokenKind) (line : ℕ) (d : Draft) (m : List Symbol × Draft) (ss : List Symbol) (ts : List Token) → read_braced k d ≡ Some m → all_span (m.0 ++ ss) ts → all_span (symbols.Braced ∷ ss) (token k line ∷ ts)
back_braced (kinds.Number n) line d m ss ts h sp = back_repeat n line d m ss ts h sp
back_braced (kinds.Key k) line d m ss ts h sp = to_braces ss (token (kinds.Key k) line ∷ ts) (back_expr_and (symbols.Joined 1) (kinds.Key k) line d m ss ts h sp)
back_braced (kinds.Name x) line d m ss ts h sp = to_braces ss (token (kinds.Name x) line ∷ ts) (back_expr_and (symbols.Joined 1) (kinds.Name x) line d m ss ts h sp)
back_braced (kinds.Const size value) line d m ss ts h sp = to_braces ss (token (kinds.Const size value) line ∷ ts) (back_expr_and (symbols.Joined 1) (kinds.Const size value) line d m ss ts h sp)
back_braced (kinds.Mark n) line d m ss ts h sp = to_braces ss (token (kinds.Mark n) line ∷ ts) (back_expr_and (symbols.Joined 1) (kinds.Mark n) line d m ss ts h sp)

pub back_joined : (n : ℕ) (k : TokenKind) (line : ℕ) (d : Draft) (m : List Symbol × Draft) (ss : List Symbol) (ts : List Token) → read_joined n k d ≡ Some m → all_span (m.0 ++ ss) ts → all_span (symbols.Joined n ∷ ss) (token k line ∷ ts)
back_joined n (kinds.Mark marks.Comma) line d m ss ts h sp =
    let (a, (e, one), (b, (es, more), after)) = back_to ss ts h sp in
    (b, (MoreExprs e es, (more.0, (ts, (line, refl), (a, one, more.1)), more.2)), after)
back_joined n (kinds.Mark marks.RightBrace) line d m ss ts h sp = (ts, (NoExprs, (token (kinds.Mark marks.RightBrace) line ∷ ts, refl, (line, refl))), back_to ss ts h sp)
back_joined n _ line d m ss ts h sp = cc

pub back_repeat_end : (n : ℕ) (k : TokenKind) (line : ℕ) (d : Draft) (m : List Symbol × Draft) (ss : List Symbol) (ts : List Token) → read_repeat_end n k d ≡ Some m → all_span (m.0 ++ ss) ts → all_span (symbols.RepeatEnd n ∷ ss) (token k line ∷ ts)
back_repeat_end n (kinds.Mark marks.RightBrace) line d m ss ts h sp = (ts, (line, refl), back_to ss ts h sp)
back_repeat_end n _ line d m ss ts h sp = cc

pub back_ands : (k : TokenKind) (line : ℕ) (d : Draft) (m : List Symbol × Draft) (ss : List Symbol) (ts : List Token) → read_ands k d ≡ Some m → all_span (m.0 ++ ss) ts → all_span (symbols.Ands ∷ ss) (token k line ∷ ts)
back_ands (kinds.Mark marks.Amp) line d m ss ts h sp =
    let (a, (u, unary), (b, none, (c, (more, ands), after))) = back_to ss ts h sp in
    (c, (MoreAnds u more, (ts, (line, refl), (a, unary, subst (λ f. Grammar.ands more f c) (sym none) ands))), after)
back_ands _ line d m ss ts h sp = cc

pub back_xors : (k : TokenKind) (line : ℕ) (d : Draft) (m : List Symbol × Draft) (ss : List Symbol) (ts : List Token) → read_xors k d ≡ Some m → all_span (m.0 ++ ss) ts → all_span (symbols.Xors ∷ ss) (token k line ∷ ts)
back_xors (kinds.Mark marks.Caret) line d m ss ts h sp =
    let (a, (one, and), (b, none, (c, (more, xors), after))) = to_and (symbols.Put made.Xor ∷ symbols.Xors ∷ ss) ts (back_to ss ts h sp) in
    (c, (MoreXors ByCaret one more, (ts, (line, refl), (a, and, subst (λ f. Grammar.xors more f c) (sym none) xors))), after)
back_xors (kinds.Mark marks.TildeCaret) line d m ss ts h sp =
    let (a, (one, and), (b, none, (c, (more, xors), after))) = to_and (symbols.Put made.Xnor ∷ symbols.Xors ∷ ss) ts (back_to ss ts h sp) in
    (c, (MoreXors ByTildeCaret one more, (ts, (line, refl), (a, and, subst (λ f. Grammar.xors more f c) (sym none) xors))), after)
back_xors (kinds.Mark marks.CaretTilde) line d m ss ts h sp =
    let (a, (one, and), (b, none, (c, (more, xors), after))) = to_and (symbols.Put made.Xnor ∷ symbols.Xors ∷ ss) ts (back_to ss ts h sp) in
    (c, (MoreXors ByCaretTilde one more, (ts, (line, refl), (a, and, subst (λ f. Grammar.xors more f c) (sym none) xors))), after)
back_xors _ line d m ss ts h sp = cc

pub back_ors : (k : TokenKind) (line : ℕ) (d : Draft) (m : List Symbol × Draft) (ss : List Symbol) (ts : List Token) → read_ors k d ≡ Some m → all_span (m.0 ++ ss) ts → all_span (symbols.Ors ∷ ss) (token k line ∷ ts)
back_ors (kinds.Mark marks.Bar) line d m ss ts h sp =
    let (a, (one, xor), (b, none, (c, (more, ors), after))) = to_xor (symbols.Put made.Or ∷ symbols.Ors ∷ ss) ts (back_to ss ts h sp) in
    (c, (MoreOrs one more, (ts, (line, refl), (a, xor, subst (λ f. Grammar.ors more f c) (sym none) ors))), after)
back_ors _ line d m ss ts h sp = cc

pub back_choice : (k : TokenKind) (line : ℕ) (d : Draft) (m : List Symbol × Draft) (ss : List Symbol) (ts : List Token) → read_choice k d ≡ Some m → all_span (m.0 ++ ss) ts → all_span (symbols.Choice ∷ ss) (token k line ∷ ts)
back_choice (kinds.Mark marks.Question) line d m ss ts h sp =
    let (a, (x, first), (b, colon, (c, (y, second), (e, none, after)))) = back_to ss ts h sp in
    (c, (Choose x y, (ts, (line, refl), (a, first, (b, colon, second)))), subst (all_span ss) (sym none) after)
back_choice _ line d m ss ts h sp = cc

pub to_operators : (ss : List Symbol) (ts : List Token) → all_span (symbols.Ands ∷ symbols.Xors ∷ symbols.Ors ∷ symbols.Choice ∷ ss) ts → all_span (symbols.Operators ∷ ss) ts
to_operators ss ts (b, (a, ands), (f, (x, xors), (g, (o, ors), (e, (c, choice), after)))) = (e, (a, x, o, c, (b, ands, (f, xors, (g, ors, choice)))), after)

pub back_operators : (k : TokenKind) (line : ℕ) (d : Draft) (m : List Symbol × Draft) (ss : List Symbol) (ts : List Token) → read_operators k d ≡ Some m → all_span (m.0 ++ ss) ts → all_span (symbols.Operators ∷ ss) (token k line ∷ ts)
back_operators (kinds.Mark marks.Amp) line d m ss ts h sp = to_operators ss (token (kinds.Mark marks.Amp) line ∷ ts) (back_ands (kinds.Mark marks.Amp) line d (symbols.Unary ∷ symbols.Put made.And ∷ symbols.Ands ∷ [], d) (symbols.Xors ∷ symbols.Ors ∷ symbols.Choice ∷ ss) ts refl (back_to ss ts h sp))
back_operators (kinds.Mark marks.Caret) line d m ss ts h sp = to_operators ss (token (kinds.Mark marks.Caret) line ∷ ts) ((token (kinds.Mark marks.Caret) line ∷ ts, (NoAnds, refl), back_xors (kinds.Mark marks.Caret) line d (symbols.Unary ∷ symbols.Ands ∷ symbols.Put made.Xor ∷ symbols.Xors ∷ [], d) (symbols.Ors ∷ symbols.Choice ∷ ss) ts refl (back_to ss ts h sp)))
back_operators (kinds.Mark marks.TildeCaret) line d m ss ts h sp = to_operators ss (token (kinds.Mark marks.TildeCaret) line ∷ ts) ((token (kinds.Mark marks.TildeCaret) line ∷ ts, (NoAnds, refl), back_xors (kinds.Mark marks.TildeCaret) line d (symbols.Unary ∷ symbols.Ands ∷ symbols.Put made.Xnor ∷ symbols.Xors ∷ [], d) (symbols.Ors ∷ symbols.Choice ∷ ss) ts refl (back_to ss ts h sp)))
back_operators (kinds.Mark marks.CaretTilde) line d m ss ts h sp = to_operators ss (token (kinds.Mark marks.CaretTilde) line ∷ ts) ((token (kinds.Mark marks.CaretTilde) line ∷ ts, (NoAnds, refl), back_xors (kinds.Mark marks.CaretTilde) line d (symbols.Unary ∷ symbols.Ands ∷ symbols.Put made.Xnor ∷ symbols.Xors ∷ [], d) (symbols.Ors ∷ symbols.Choice ∷ ss) ts refl (back_to ss ts h sp)))
back_operators (kinds.Mark marks.Bar) line d m ss ts h sp = to_operators ss (token (kinds.Mark marks.Bar) line ∷ ts) ((token (kinds.Mark marks.Bar) line ∷ ts, (NoAnds, refl), (token (kinds.Mark marks.Bar) line ∷ ts, (NoXors, refl), back_ors (kinds.Mark marks.Bar) line d (symbols.Unary ∷ symbols.Ands ∷ symbols.Xors ∷ symbols.Put made.Or ∷ symbols.Ors ∷ [], d) (symbols.Choice ∷ ss) ts refl (back_to ss ts h sp))))
back_operators (kinds.Mark marks.Question) line d m ss ts h sp = to_operators ss (token (kinds.Mark marks.Question) line ∷ ts) ((token (kinds.Mark marks.Question) line ∷ ts, (NoAnds, refl), (token (kinds.Mark marks.Question) line ∷ ts, (NoXors, refl), (token (kinds.Mark marks.Question) line ∷ ts, (NoOrs, refl), back_choice (kinds.Mark marks.Question) line d (symbols.Expr ∷ symbols.Mark marks.Colon ∷ symbols.Expr ∷ symbols.Put made.Cond ∷ [], d) (ss) ts refl (back_to ss ts h sp)))))
back_operators _ line d m ss ts h sp = cc

pub back_select : (side : Side) (k : TokenKind) (line : ℕ) (d : Draft) (m : List Symbol × Draft) (ss : List Symbol) (ts : List Token) → read_select side k d ≡ Some m → all_span (m.0 ++ ss) ts → all_span (symbols.Select side ∷ ss) (token k line ∷ ts)
back_select side (kinds.Mark marks.LeftBracket) line d m ss ts h sp =
    let (a, select, after) = back_to ss ts h sp in
    (a, select line, after)
back_select side _ line d m ss ts h sp = cc

pub back_select_from : (side : Side) (k : TokenKind) (line : ℕ) (d : Draft) (m : List Symbol × Draft) (ss : List Symbol) (ts : List Token) → read_select_from side k d ≡ Some m → all_span (m.0 ++ ss) ts → all_span (symbols.SelectFrom side ∷ ss) (token k line ∷ ts)
back_select_from side (kinds.Number n) line d m ss ts h sp =
    let (a, select, after) = back_to ss ts h sp in
    (a, (λ l. select l line), after)
back_select_from side _ line d m ss ts h sp = cc

pub back_select_to : (side : Side) (i : ℕ) (k : TokenKind) (line : ℕ) (d : Draft) (m : List Symbol × Draft) (ss : List Symbol) (ts : List Token) → read_select_to side i k d ≡ Some m → all_span (m.0 ++ ss) ts → all_span (symbols.SelectTo side i ∷ ss) (token k line ∷ ts)
back_select_to side i (kinds.Mark marks.RightBracket) line d m ss ts h sp = (ts, (λ l f. (Bit i, (token (kinds.Number i) f ∷ token (kinds.Mark marks.RightBracket) line ∷ ts, (l, refl), (token (kinds.Mark marks.RightBracket) line ∷ ts, (f, refl), (line, refl))))), back_to ss ts h sp)
back_select_to side i (kinds.Mark marks.Colon) line d m ss ts h sp =
    let (a, (j, last), after) = back_to ss ts h sp in
    (a, (λ l f. (Part i j, (token (kinds.Number i) f ∷ token (kinds.Mark marks.Colon) line ∷ ts, (l, refl), (token (kinds.Mark marks.Colon) line ∷ ts, (f, refl), (ts, (line, refl), last))))), after)
back_select_to side i _ line d m ss ts h sp = cc

pub back_select_last : (side : Side) (i : ℕ) (k : TokenKind) (line : ℕ) (d : Draft) (m : List Symbol × Draft) (ss : List Symbol) (ts : List Token) → read_select_last side i k d ≡ Some m → all_span (m.0 ++ ss) ts → all_span (symbols.SelectLast side i ∷ ss) (token k line ∷ ts)
back_select_last side i (kinds.Number n) line d m ss ts h sp =
    let (a, bracket, after) = back_to ss ts h sp in
    (a, (n, (ts, (line, refl), bracket)), after)
back_select_last side i _ line d m ss ts h sp = cc

pub back_select_end : (side : Side) (i j : ℕ) (k : TokenKind) (line : ℕ) (d : Draft) (m : List Symbol × Draft) (ss : List Symbol) (ts : List Token) → read_select_end side i j k d ≡ Some m → all_span (m.0 ++ ss) ts → all_span (symbols.SelectEnd side i j ∷ ss) (token k line ∷ ts)
back_select_end side i j (kinds.Mark marks.RightBracket) line d m ss ts h sp = (ts, (line, refl), back_to ss ts h sp)
back_select_end side i j _ line d m ss ts h sp = cc
