-- Each symbol spans some tokens, whatever follows.
use Rattle.std.proofs.Common.{◌<◌, ◌^◌, List, [], ◌∷◌, None, false, refl, arith}
use Rattle.bb_base.specs.declared.keyword.Keyword.TheVariants as keys
use Rattle.bb_base.specs.declared.keyword.Keyword.{Keyword}
use Rattle.bb_base.specs.declared.token.Mark.{Mark}
use Rattle.bb_base.specs.declared.token.Mark.TheVariants as marks
use Rattle.bb_base.specs.declared.token.Token.{Token}
use Rattle.bb_base.specs.declared.token.TokenKind.TheVariants as kinds
use Rattle.bb_parse.specs.declared.symbol.Symbol.{Symbol}
use Rattle.bb_parse.specs.declared.symbol.Symbol.TheVariants as symbols
use Rattle.bb_parse.specs.Trees.{Whole, Bit, AnExpr, NoChoice, AnOr, NoOrs, AnXor, NoXors, AnAnd, NoAnds, Expr, Constant, Braces, NoExprs, Target, NoLefts, Again, NoHeader, NoPorts, NoPins}
use Rattle.bb_parse.specs.Grammar.{expr}
use Rattle.bb_base.specs.Tokens.{IsProper}
use Rattle.bb_base.specs.Name.{IsName, IsNameByte}
use Rattle.bb_base.specs.Tokens.{IsSize}
use Rattle.std.specs.List.{AllByRecursion}
use Rattle.std.proofs.lemmas.List.Elements.{All-from_recursion}
use Rattle.bb_grammar.proofs.Spelled.{token, spans, all_span}

-- tokens that stand for any of their kind
abbrev some_name : Token
some_name = token (kinds.Name (97 ∷ [])) 1

abbrev some_number : Token
some_number = token (kinds.Number 0) 1

abbrev one_bit : Token
one_bit = token (kinds.Const 1 0) 1

abbrev one_key : Keyword → Token
one_key k = token (kinds.Key k) 1

abbrev one_mark : Mark → Token
one_mark m = token (kinds.Mark m) 1

abbrev bit_expr : Expr
bit_expr = AnExpr (AnOr (AnXor (AnAnd (Constant 1 0) NoAnds) NoXors) NoOrs) NoChoice

live_bit : (rest : List Token) → expr bit_expr (one_bit ∷ rest) rest
live_bit rest = (rest, (rest, (rest, (rest, (1, refl), refl), refl), refl), refl)

proper_name : IsName (97 ∷ [])
proper_name = record { some = omega arith; short = omega arith; plain = All-from_recursion IsNameByte (97 ∷ []) ((omega arith, omega arith), tt) }

proper_number : 0 < 2147483648
proper_number = omega arith

proper_bit : IsSize 1 × (0 < 2 ^ 1)
proper_bit = ((omega arith, omega arith), omega arith)

-- tokens that a text may have, which the symbol spans
abbrev pub Live : Symbol → List Token → Type 0
Live s rest = (ts : List Token) × AllByRecursion IsProper ts × spans s ts rest

pub live : (s : Symbol) (rest : List Token) → AllByRecursion IsProper rest → Live s rest
live symbols.File rest rest_proper = (one_key keys.Module ∷ some_name ∷ one_mark marks.Semicolon ∷ one_key keys.Endmodule ∷ rest, (tt, (proper_name, (tt, (tt, rest_proper)))), (record { line = 1; name = 97 ∷ []; header = NoHeader; statements = [] }, (_, refl, (_, (1, refl), (_, refl, (_, (1, refl), (_, refl, (1, refl))))))))
live symbols.ModuleName rest rest_proper = (some_name ∷ rest, (proper_name, rest_proper), (97 ∷ [], (1, refl)))
live symbols.Header rest rest_proper = (one_mark marks.Semicolon ∷ rest, (tt, rest_proper), (NoHeader, (_, refl, (1, refl))))
live symbols.Ports rest rest_proper = (one_mark marks.RightParen ∷ rest, (tt, rest_proper), λ l. (NoPorts, (one_mark marks.RightParen ∷ rest, (l, refl), (1, refl))))
live symbols.PlainName rest rest_proper = (some_name ∷ rest, (proper_name, rest_proper), (97 ∷ [], (1, refl)))
live symbols.MoreNames rest rest_proper = (one_mark marks.RightParen ∷ rest, (tt, rest_proper), ([], (_, refl, (1, refl))))
live symbols.Port rest rest_proper = (some_name ∷ rest, (proper_name, rest_proper), (Again (97 ∷ []), (1, refl)))
live symbols.MorePorts rest rest_proper = (one_mark marks.RightParen ∷ rest, (tt, rest_proper), ([], (_, refl, (1, refl))))
live (symbols.Type place) rest rest_proper = (some_name ∷ rest, (proper_name, rest_proper), (false, None, 97 ∷ [], some_name ∷ rest, (_, refl, refl), (1, refl)))
live (symbols.Range place) rest rest_proper = (some_name ∷ rest, (proper_name, rest_proper), (None, 97 ∷ [], some_name ∷ rest, refl, (1, refl)))
live symbols.RangeFrom rest rest_proper = (some_number ∷ one_mark marks.Colon ∷ some_number ∷ one_mark marks.RightBracket ∷ rest, (proper_number, (tt, (proper_number, (tt, rest_proper)))), (0, 0, (_, (1, refl), (_, (1, refl), (_, (1, refl), (1, refl))))))
live (symbols.RangeTo i) rest rest_proper = (some_number ∷ rest, (proper_number, rest_proper), (0, (1, refl)))
live (symbols.Declared place) rest rest_proper = (some_name ∷ rest, (proper_name, rest_proper), (97 ∷ [], (1, refl)))
live symbols.Items rest rest_proper = (one_key keys.Endmodule ∷ rest, (tt, rest_proper), ([], (_, refl, (1, refl))))
live symbols.MoreDecls rest rest_proper = (one_mark marks.Semicolon ∷ rest, (tt, rest_proper), ([], (_, refl, (1, refl))))
live symbols.MoreEquations rest rest_proper = (one_mark marks.Semicolon ∷ rest, (tt, rest_proper), ([], (_, refl, (1, refl))))
live symbols.MoreGates rest rest_proper = (one_mark marks.Semicolon ∷ rest, (tt, rest_proper), ([], (_, refl, (1, refl))))
live symbols.MoreInstances rest rest_proper = (one_mark marks.Semicolon ∷ rest, (tt, rest_proper), ([], (_, refl, (1, refl))))
live symbols.Equation rest rest_proper = (some_name ∷ one_mark marks.Equals ∷ one_bit ∷ rest, (proper_name, (tt, (proper_bit, rest_proper))), (record { left = Target (97 ∷ []) Whole; right = bit_expr }, (_, (_, (1, refl), refl), (_, (1, refl), live_bit rest))))
live symbols.Left rest rest_proper = (some_name ∷ rest, (proper_name, rest_proper), (Target (97 ∷ []) Whole, (_, (1, refl), refl)))
live symbols.MoreLefts rest rest_proper = (one_mark marks.RightBrace ∷ rest, (tt, rest_proper), (NoLefts, (_, refl, (1, refl))))
live symbols.Gate rest rest_proper = (one_mark marks.LeftParen ∷ one_bit ∷ one_mark marks.RightParen ∷ rest, (tt, (proper_bit, (tt, rest_proper))), (record { instance = None; terms = record { first = bit_expr; more = NoExprs } }, (_, refl, (_, (1, refl), (_, live_bit (one_mark marks.RightParen ∷ rest), (_, refl, (1, refl)))))))
live symbols.MoreTerms rest rest_proper = (one_mark marks.RightParen ∷ rest, (tt, rest_proper), (NoExprs, (_, refl, (1, refl))))
live symbols.Instance rest rest_proper = (some_name ∷ one_mark marks.LeftParen ∷ one_mark marks.RightParen ∷ rest, (proper_name, (tt, (tt, rest_proper))), (record { name = 97 ∷ []; conns = NoPins }, (_, (1, refl), (_, (1, refl), (1, refl)))))
live symbols.Conns rest rest_proper = (one_mark marks.RightParen ∷ rest, (tt, rest_proper), λ l. (NoPins, (one_mark marks.RightParen ∷ rest, (l, refl), (1, refl))))
live symbols.PinName rest rest_proper = (some_name ∷ rest, (proper_name, rest_proper), (97 ∷ [], (1, refl)))
live symbols.PinValue rest rest_proper = (one_mark marks.RightParen ∷ rest, (tt, rest_proper), (None, (_, refl, (1, refl))))
live symbols.PinEnd rest rest_proper = (one_mark marks.RightParen ∷ rest, (tt, rest_proper), (1, refl))
live symbols.MorePins rest rest_proper = (one_mark marks.RightParen ∷ rest, (tt, rest_proper), ([], (_, refl, (1, refl))))
live (symbols.Select side) rest rest_proper = (rest, rest_proper, (Whole, refl))
live (symbols.SelectFrom side) rest rest_proper = (some_number ∷ one_mark marks.RightBracket ∷ rest, (proper_number, (tt, rest_proper)), λ l. (Bit 0, (some_number ∷ one_mark marks.RightBracket ∷ rest, (l, refl), (one_mark marks.RightBracket ∷ rest, (1, refl), (1, refl)))))
live (symbols.SelectTo side i) rest rest_proper = (one_mark marks.RightBracket ∷ rest, (tt, rest_proper), λ l f. (Bit i, (token (kinds.Number i) f ∷ one_mark marks.RightBracket ∷ rest, (l, refl), (one_mark marks.RightBracket ∷ rest, (f, refl), (1, refl)))))
live (symbols.SelectLast side i) rest rest_proper = (some_number ∷ one_mark marks.RightBracket ∷ rest, (proper_number, (tt, rest_proper)), (0, (_, (1, refl), (1, refl))))
live (symbols.SelectEnd side i j) rest rest_proper = (one_mark marks.RightBracket ∷ rest, (tt, rest_proper), (1, refl))
live symbols.Expr rest rest_proper = (one_bit ∷ rest, (proper_bit, rest_proper), (bit_expr, live_bit rest))
live symbols.Unary rest rest_proper = (one_bit ∷ rest, (proper_bit, rest_proper), (Constant 1 0, (1, refl)))
live symbols.Braced rest rest_proper = (one_bit ∷ one_mark marks.RightBrace ∷ rest, (proper_bit, (tt, rest_proper)), λ l. (Braces bit_expr NoExprs, (one_bit ∷ one_mark marks.RightBrace ∷ rest, (l, refl), (one_mark marks.RightBrace ∷ rest, live_bit (one_mark marks.RightBrace ∷ rest), (one_mark marks.RightBrace ∷ rest, refl, (1, refl))))))
live (symbols.Joined n) rest rest_proper = (one_mark marks.RightBrace ∷ rest, (tt, rest_proper), (NoExprs, (_, refl, (1, refl))))
live (symbols.RepeatEnd n) rest rest_proper = (one_mark marks.RightBrace ∷ rest, (tt, rest_proper), (1, refl))
live symbols.Operators rest rest_proper = (rest, rest_proper, (NoAnds, NoXors, NoOrs, NoChoice, (rest, refl, (rest, refl, (rest, refl, refl)))))
live symbols.Ands rest rest_proper = (rest, rest_proper, (NoAnds, refl))
live symbols.Xors rest rest_proper = (rest, rest_proper, (NoXors, refl))
live symbols.Ors rest rest_proper = (rest, rest_proper, (NoOrs, refl))
live symbols.Choice rest rest_proper = (rest, rest_proper, (NoChoice, refl))
live (symbols.Put made) rest rest_proper = (rest, rest_proper, refl)
live (symbols.Mark m) rest rest_proper = (one_mark m ∷ rest, (tt, rest_proper), (1, refl))

-- some tokens complete what is pending
pub all_live : (ss : List Symbol) → (ts : List Token) × AllByRecursion IsProper ts × all_span ss ts
all_live [] = ([], tt, refl)
all_live (s ∷ ss) =
    let more = all_live ss in
    let first = live s more.0 more.1 in
    (first.0, first.1, (more.0, first.2, more.2))
