-- What the symbols of a stack span, without their values.
use Rattle.std.proofs.Common.{◌≡◌, ℕ, List, [], ◌∷◌, Bool, Option}
use Rattle.bb_base.specs.declared.keyword.Keyword.TheVariants as keys
use Rattle.bb_base.specs.declared.token.Mark.TheVariants as marks
use Rattle.bb_base.specs.declared.token.Token.{Token}
use Rattle.bb_base.specs.declared.token.TokenKind.{TokenKind}
use Rattle.bb_base.specs.declared.token.TokenKind.TheVariants as kinds
use Rattle.bb_parse.specs.declared.symbol.Symbol.{Symbol}
use Rattle.bb_parse.specs.declared.symbol.Symbol.TheVariants as symbols
use Rattle.bb_parse.specs.Spans.{Span, ◌⨾◌, nothing, key, mark, name, number, many}
use Rattle.bb_parse.specs.Trees.{Name, Select, Expr, Choice, Ors, Xors, Ands, Unary, Exprs, Left, Lefts, Port, Header, Equation, Gate, Pin, Conns, Instance, Statement, File}
use Rattle.bb_parse.specs.Grammar.{select, expr, choice, ors, xors, ands, unary, exprs, left, lefts, names, wire, range, port, ports, header, equation, gate, maybe_expr, pin, conns, instance, statement, file}

-- a token of a kind in a line
abbrev pub token : TokenKind → ℕ → Token
token kind line = record { kind = kind; line = line }

-- what a symbol spans; of one whose front is read already, whatever line that stood in
abbrev pub spans : Symbol → Span
spans symbols.File ts rest = (f : File) × file f ts rest
spans symbols.ModuleName ts rest = (x : Name) × name x ts rest
spans symbols.Header ts rest = (h : Header) × (header h ⨾ mark marks.Semicolon) ts rest
spans symbols.Ports ts rest = (line : ℕ) → (h : Header) × header h (token (kinds.Mark marks.LeftParen) line ∷ ts) rest
spans symbols.PlainName ts rest = (x : Name) × name x ts rest
spans symbols.MoreNames ts rest = (xs : List Name) × (names xs ⨾ mark marks.RightParen) ts rest
spans symbols.Port ts rest = (p : Port) × port p ts rest
spans symbols.MorePorts ts rest = (ps : List Port) × (ports ps ⨾ mark marks.RightParen) ts rest
spans (symbols.Type place) ts rest = (w : Bool) × (r : Option (ℕ × ℕ)) × (x : Name) × (mid : List Token) × (wire w ⨾ range r) ts mid × name x mid rest
spans (symbols.Range place) ts rest = (r : Option (ℕ × ℕ)) × (x : Name) × (mid : List Token) × range r ts mid × name x mid rest
spans symbols.RangeFrom ts rest = (i : ℕ) × (j : ℕ) × (number i ⨾ mark marks.Colon ⨾ number j ⨾ mark marks.RightBracket) ts rest
spans (symbols.RangeTo i) ts rest = (j : ℕ) × number j ts rest
spans (symbols.Declared place) ts rest = (x : Name) × name x ts rest
spans symbols.Items ts rest = (ss : List Statement) × (many statement ss ⨾ key keys.Endmodule) ts rest
spans symbols.MoreDecls ts rest = (xs : List Name) × (names xs ⨾ mark marks.Semicolon) ts rest
spans symbols.Equation ts rest = (e : Equation) × equation e ts rest
spans symbols.MoreEquations ts rest = (es : List Equation) × (many (λ e. mark marks.Comma ⨾ equation e) es ⨾ mark marks.Semicolon) ts rest
spans symbols.Left ts rest = (l : Left) × left l ts rest
spans symbols.MoreLefts ts rest = (ls : Lefts) × (lefts ls ⨾ mark marks.RightBrace) ts rest
spans symbols.Gate ts rest = (g : Gate) × gate g ts rest
spans symbols.MoreGates ts rest = (gs : List Gate) × (many (λ g. mark marks.Comma ⨾ gate g) gs ⨾ mark marks.Semicolon) ts rest
spans symbols.MoreTerms ts rest = (es : Exprs) × (exprs es ⨾ mark marks.RightParen) ts rest
spans symbols.Instance ts rest = (i : Instance) × instance i ts rest
spans symbols.Conns ts rest = (line : ℕ) → (c : Conns) × conns c (token (kinds.Mark marks.LeftParen) line ∷ ts) rest
spans symbols.MoreInstances ts rest = (is : List Instance) × (many (λ i. mark marks.Comma ⨾ instance i) is ⨾ mark marks.Semicolon) ts rest
spans symbols.PinName ts rest = (x : Name) × name x ts rest
spans symbols.PinValue ts rest = (v : Option Expr) × (maybe_expr v ⨾ mark marks.RightParen) ts rest
spans symbols.PinEnd ts rest = mark marks.RightParen ts rest
spans symbols.MorePins ts rest = (ps : List Pin) × (many (λ p. mark marks.Comma ⨾ pin p) ps ⨾ mark marks.RightParen) ts rest
spans (symbols.Select side) ts rest = (s : Select) × select s ts rest
spans (symbols.SelectFrom side) ts rest = (line : ℕ) → (s : Select) × select s (token (kinds.Mark marks.LeftBracket) line ∷ ts) rest
spans (symbols.SelectTo side i) ts rest = (line after : ℕ) → (s : Select) × select s (token (kinds.Mark marks.LeftBracket) line ∷ token (kinds.Number i) after ∷ ts) rest
spans (symbols.SelectLast side i) ts rest = (j : ℕ) × (number j ⨾ mark marks.RightBracket) ts rest
spans (symbols.SelectEnd side i j) ts rest = mark marks.RightBracket ts rest
spans symbols.Expr ts rest = (e : Expr) × expr e ts rest
spans symbols.Unary ts rest = (u : Unary) × unary u ts rest
spans symbols.Braced ts rest = (line : ℕ) → (u : Unary) × unary u (token (kinds.Mark marks.LeftBrace) line ∷ ts) rest
spans (symbols.Joined n) ts rest = (es : Exprs) × (exprs es ⨾ mark marks.RightBrace) ts rest
spans (symbols.RepeatEnd n) ts rest = mark marks.RightBrace ts rest
spans symbols.Operators ts rest = (a : Ands) × (x : Xors) × (o : Ors) × (c : Choice) × (ands a ⨾ xors x ⨾ ors o ⨾ choice c) ts rest
spans symbols.Ands ts rest = (a : Ands) × ands a ts rest
spans symbols.Xors ts rest = (x : Xors) × xors x ts rest
spans symbols.Ors ts rest = (o : Ors) × ors o ts rest
spans symbols.Choice ts rest = (c : Choice) × choice c ts rest
spans (symbols.Put made) ts rest = nothing ts rest
spans (symbols.Mark m) ts rest = mark m ts rest

-- the symbols span the tokens one behind the other, to the end
abbrev pub all_span : List Symbol → List Token → Type 0
all_span [] ts = ts ≡ []
all_span (s ∷ ss) ts = (mid : List Token) × spans s ts mid × all_span ss mid
