-- What follows an accepted token completes the symbol that took it: headers and declarations.
use Rattle.std.proofs.Common.{◌≡◌, ℕ, List, [], ◌∷◌, ◌++◌, Option, Some, None, true, false, refl, sym, subst, append_assoc}
use Rattle.bb_base.specs.declared.keyword.Keyword.TheVariants as keys
use Rattle.bb_base.specs.declared.token.Mark.TheVariants as marks
use Rattle.bb_base.specs.declared.token.Token.{Token}
use Rattle.bb_base.specs.declared.token.TokenKind.{TokenKind}
use Rattle.bb_base.specs.declared.token.TokenKind.TheVariants as kinds
use Rattle.bb_parse.specs.declared.draft.Draft.{Draft}
use Rattle.bb_parse.specs.declared.symbol.Place.{Place}
use Rattle.bb_parse.specs.declared.symbol.Symbol.{Symbol}
use Rattle.bb_parse.specs.declared.symbol.Symbol.TheVariants as symbols
use Rattle.bb_parse.specs.Trees.{In, Out, Again, Anew, NoHeader, NoPorts, PlainPorts, TypedPorts}
use Rattle.bb_parse.specs.Moves.{Move, with_behind, read_declared, read_file, read_header, read_module_name, read_more_names, read_more_ports, read_plain_name, read_port, read_ports, read_range, read_range_from, read_range_to, read_type}
use Rattle.bb_grammar.proofs.Spelled.{token, all_span}
use Rattle.bb_parse.specs.StatementMoves.{read_more_decls}

-- what follows a move, at the symbols that it names
pub back_to : {new : List Symbol} {d : Draft} {m : List Symbol × Draft} (ss : List Symbol) (ts : List Token) → ◌≡◌ {A = Option (List Symbol × Draft)} (Some (new, d)) (Some m) → all_span (m.0 ++ ss) ts → all_span (new ++ ss) ts
back_to {new} {d} {m} ss ts h sp = subst (λ l. all_span (l ++ ss) ts) (sym (names_same new d m h)) sp
  where
    names_same : (new : List Symbol) (d : Draft) (m : List Symbol × Draft) → ◌≡◌ {A = Option (List Symbol × Draft)} (Some (new, d)) (Some m) → new ≡ m.0
    names_same new d m h = cc

-- a move that was put before more symbols
pub back_behind : (more ss : List Symbol) (b : Move) (m : List Symbol × Draft) (ts : List Token) → with_behind more b ≡ Some m → all_span (m.0 ++ ss) ts → (n : List Symbol × Draft) × (b ≡ Some n) × all_span (n.0 ++ (more ++ ss)) ts
back_behind more ss None m ts h sp = cc
back_behind more ss (Some n) m ts h sp = (n, refl, subst (λ l. all_span l ts) (append_assoc n.0 more ss) (back_to ss ts h sp))

pub back_file : (k : TokenKind) (line : ℕ) (d : Draft) (m : List Symbol × Draft) (ss : List Symbol) (ts : List Token) → read_file k line d ≡ Some m → all_span (m.0 ++ ss) ts → all_span (symbols.File ∷ ss) (token k line ∷ ts)
back_file (kinds.Key keys.Module) line d m ss ts h sp =
    let (a, (x, name), (b, (head, header), (c, (sts, body), after))) = back_to ss ts h sp in
    (c, (record { line = line; name = x; header = head; statements = sts }, (ts, refl, (a, name, (header.0, header.1, (b, header.2, body))))), after)
back_file _ line d m ss ts h sp = cc

pub back_module_name : (k : TokenKind) (line : ℕ) (d : Draft) (m : List Symbol × Draft) (ss : List Symbol) (ts : List Token) → read_module_name k d ≡ Some m → all_span (m.0 ++ ss) ts → all_span (symbols.ModuleName ∷ ss) (token k line ∷ ts)
back_module_name (kinds.Name x) line d m ss ts h sp = (ts, (x, (line, refl)), back_to ss ts h sp)
back_module_name _ line d m ss ts h sp = cc

pub back_header : (k : TokenKind) (line : ℕ) (d : Draft) (m : List Symbol × Draft) (ss : List Symbol) (ts : List Token) → read_header k d ≡ Some m → all_span (m.0 ++ ss) ts → all_span (symbols.Header ∷ ss) (token k line ∷ ts)
back_header (kinds.Mark marks.Semicolon) line d m ss ts h sp = (ts, (NoHeader, (token (kinds.Mark marks.Semicolon) line ∷ ts, refl, (line, refl))), back_to ss ts h sp)
back_header (kinds.Mark marks.LeftParen) line d m ss ts h sp =
    let (a, head, (b, mark, after)) = back_to ss ts h sp in
    let (tree, span) = head line in
    (b, (tree, (a, span, mark)), after)
back_header _ line d m ss ts h sp = cc

pub back_ports : (k : TokenKind) (line : ℕ) (d : Draft) (m : List Symbol × Draft) (ss : List Symbol) (ts : List Token) → read_ports k d ≡ Some m → all_span (m.0 ++ ss) ts → all_span (symbols.Ports ∷ ss) (token k line ∷ ts)
back_ports (kinds.Mark marks.RightParen) line d m ss ts h sp = (ts, (λ l. (NoPorts, (token (kinds.Mark marks.RightParen) line ∷ ts, (l, refl), (line, refl)))), back_to ss ts h sp)
back_ports (kinds.Name x) line d m ss ts h sp =
    let (a, (xs, more), after) = back_to ss ts h sp in
    (a, (λ l. (PlainPorts x xs, (token (kinds.Name x) line ∷ ts, (l, refl), (ts, (line, refl), more)))), after)
back_ports (kinds.Key keys.Input) line d m ss ts h sp =
    let (a, (w, r, x, mid, type, name), (b, (ps, more), after)) = back_to ss ts h sp in
    (b, (λ l. (TypedPorts (record { direction = In; wire = w; range = r }) x ps, (token (kinds.Key keys.Input) line ∷ ts, (l, refl), (ts, (line, refl), (mid, type, (a, name, more)))))), after)
back_ports (kinds.Key keys.Output) line d m ss ts h sp =
    let (a, (w, r, x, mid, type, name), (b, (ps, more), after)) = back_to ss ts h sp in
    (b, (λ l. (TypedPorts (record { direction = Out; wire = w; range = r }) x ps, (token (kinds.Key keys.Output) line ∷ ts, (l, refl), (ts, (line, refl), (mid, type, (a, name, more)))))), after)
back_ports _ line d m ss ts h sp = cc

pub back_plain_name : (k : TokenKind) (line : ℕ) (d : Draft) (m : List Symbol × Draft) (ss : List Symbol) (ts : List Token) → read_plain_name k d ≡ Some m → all_span (m.0 ++ ss) ts → all_span (symbols.PlainName ∷ ss) (token k line ∷ ts)
back_plain_name (kinds.Name x) line d m ss ts h sp = (ts, (x, (line, refl)), back_to ss ts h sp)
back_plain_name _ line d m ss ts h sp = cc

pub back_more_names : (k : TokenKind) (line : ℕ) (d : Draft) (m : List Symbol × Draft) (ss : List Symbol) (ts : List Token) → read_more_names k d ≡ Some m → all_span (m.0 ++ ss) ts → all_span (symbols.MoreNames ∷ ss) (token k line ∷ ts)
back_more_names (kinds.Mark marks.Comma) line d m ss ts h sp =
    let (a, (x, name), (b, (xs, more), after)) = back_to ss ts h sp in
    (b, (x ∷ xs, (more.0, (a, (ts, (line, refl), name), more.1), more.2)), after)
back_more_names (kinds.Mark marks.RightParen) line d m ss ts h sp = (ts, ([], (token (kinds.Mark marks.RightParen) line ∷ ts, refl, (line, refl))), back_to ss ts h sp)
back_more_names _ line d m ss ts h sp = cc

pub back_port : (k : TokenKind) (line : ℕ) (d : Draft) (m : List Symbol × Draft) (ss : List Symbol) (ts : List Token) → read_port k d ≡ Some m → all_span (m.0 ++ ss) ts → all_span (symbols.Port ∷ ss) (token k line ∷ ts)
back_port (kinds.Name x) line d m ss ts h sp = (ts, (Again x, (line, refl)), back_to ss ts h sp)
back_port (kinds.Key keys.Input) line d m ss ts h sp =
    let (a, (w, r, x, mid, type, name), after) = back_to ss ts h sp in
    (a, (Anew (record { direction = In; wire = w; range = r }) x, (ts, (line, refl), (mid, type, name))), after)
back_port (kinds.Key keys.Output) line d m ss ts h sp =
    let (a, (w, r, x, mid, type, name), after) = back_to ss ts h sp in
    (a, (Anew (record { direction = Out; wire = w; range = r }) x, (ts, (line, refl), (mid, type, name))), after)
back_port _ line d m ss ts h sp = cc

pub back_more_ports : (k : TokenKind) (line : ℕ) (d : Draft) (m : List Symbol × Draft) (ss : List Symbol) (ts : List Token) → read_more_ports k d ≡ Some m → all_span (m.0 ++ ss) ts → all_span (symbols.MorePorts ∷ ss) (token k line ∷ ts)
back_more_ports (kinds.Mark marks.Comma) line d m ss ts h sp =
    let (a, (x, port), (b, (xs, more), after)) = back_to ss ts h sp in
    (b, (x ∷ xs, (more.0, (a, (ts, (line, refl), port), more.1), more.2)), after)
back_more_ports (kinds.Mark marks.RightParen) line d m ss ts h sp = (ts, ([], (token (kinds.Mark marks.RightParen) line ∷ ts, refl, (line, refl))), back_to ss ts h sp)
back_more_ports _ line d m ss ts h sp = cc

pub back_range : (place : Place) (k : TokenKind) (line : ℕ) (d : Draft) (m : List Symbol × Draft) (ss : List Symbol) (ts : List Token) → read_range place k d ≡ Some m → all_span (m.0 ++ ss) ts → all_span (symbols.Range place ∷ ss) (token k line ∷ ts)
back_range place (kinds.Mark marks.LeftBracket) line d m ss ts h sp =
    let (a, (i, j, numbers), (b, (x, name), after)) = back_to ss ts h sp in
    (b, (Some (i, j), x, a, (ts, (line, refl), numbers), name), after)
back_range place (kinds.Name x) line d m ss ts h sp = (ts, (None, x, token (kinds.Name x) line ∷ ts, refl, (line, refl)), back_to ss ts h sp)
back_range place _ line d m ss ts h sp = cc

pub back_type : (place : Place) (k : TokenKind) (line : ℕ) (d : Draft) (m : List Symbol × Draft) (ss : List Symbol) (ts : List Token) → read_type place k d ≡ Some m → all_span (m.0 ++ ss) ts → all_span (symbols.Type place ∷ ss) (token k line ∷ ts)
back_type place (kinds.Key keys.Wire) line d m ss ts h sp =
    let (a, (r, x, mid, range, name), after) = back_to ss ts h sp in
    (a, (true, r, x, mid, (ts, (line, refl), range), name), after)
back_type place (kinds.Mark marks.LeftBracket) line d m ss ts h sp =
    let (a, (i, j, numbers), (b, (x, name), after)) = back_to ss ts h sp in
    (b, (false, Some (i, j), x, a, (token (kinds.Mark marks.LeftBracket) line ∷ ts, refl, (ts, (line, refl), numbers)), name), after)
back_type place (kinds.Name x) line d m ss ts h sp = (ts, (false, None, x, token (kinds.Name x) line ∷ ts, (token (kinds.Name x) line ∷ ts, refl, refl), (line, refl)), back_to ss ts h sp)
back_type place _ line d m ss ts h sp = cc

pub back_range_from : (k : TokenKind) (line : ℕ) (d : Draft) (m : List Symbol × Draft) (ss : List Symbol) (ts : List Token) → read_range_from k d ≡ Some m → all_span (m.0 ++ ss) ts → all_span (symbols.RangeFrom ∷ ss) (token k line ∷ ts)
back_range_from (kinds.Number n) line d m ss ts h sp =
    let (a, colon, (b, (j, number), (c, bracket, after))) = back_to ss ts h sp in
    (c, (n, j, (ts, (line, refl), (a, colon, (b, number, bracket)))), after)
back_range_from _ line d m ss ts h sp = cc

pub back_range_to : (i : ℕ) (k : TokenKind) (line : ℕ) (d : Draft) (m : List Symbol × Draft) (ss : List Symbol) (ts : List Token) → read_range_to i k d ≡ Some m → all_span (m.0 ++ ss) ts → all_span (symbols.RangeTo i ∷ ss) (token k line ∷ ts)
back_range_to i (kinds.Number n) line d m ss ts h sp = (ts, (n, (line, refl)), back_to ss ts h sp)
back_range_to i _ line d m ss ts h sp = cc

pub back_declared : (place : Place) (k : TokenKind) (line : ℕ) (d : Draft) (m : List Symbol × Draft) (ss : List Symbol) (ts : List Token) → read_declared place k d ≡ Some m → all_span (m.0 ++ ss) ts → all_span (symbols.Declared place ∷ ss) (token k line ∷ ts)
back_declared place (kinds.Name x) line d m ss ts h sp = (ts, (x, (line, refl)), back_to ss ts h sp)
back_declared place _ line d m ss ts h sp = cc

pub back_more_decls : (k : TokenKind) (line : ℕ) (d : Draft) (m : List Symbol × Draft) (ss : List Symbol) (ts : List Token) → read_more_decls k d ≡ Some m → all_span (m.0 ++ ss) ts → all_span (symbols.MoreDecls ∷ ss) (token k line ∷ ts)
back_more_decls (kinds.Mark marks.Comma) line d m ss ts h sp =
    let (a, (x, one), (b, (xs, more), after)) = back_to ss ts h sp in
    (b, (x ∷ xs, (more.0, (a, (ts, (line, refl), one), more.1), more.2)), after)
back_more_decls (kinds.Mark marks.Semicolon) line d m ss ts h sp = (ts, ([], (token (kinds.Mark marks.Semicolon) line ∷ ts, refl, (line, refl))), back_to ss ts h sp)
back_more_decls _ line d m ss ts h sp = cc
