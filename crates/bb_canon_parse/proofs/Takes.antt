-- Spans of the grammar, by the kinds of the tokens that they take.
use Rattle.std.proofs.Common.{◌≡◌, ℕ, List, [], ◌∷◌, ◌++◌, map, Option, Some, None, refl, sym, ap, ◌∙◌, append_assoc, subst}
use Rattle.bb_base.specs.declared.token.Mark.TheVariants as marks
use Rattle.bb_base.specs.declared.token.Token.{Token}
use Rattle.bb_base.specs.declared.token.TokenKind.{TokenKind}
use Rattle.bb_base.specs.declared.token.TokenKind.TheVariants.{Name, Number, Mark}
use Rattle.bb_base.specs.Variables.{Bit}
use Rattle.bb_parse.specs.Spans.{Span, ◌⨾◌, nothing, such, word, mark, name, number}
use Rattle.bb_parse.specs.Trees as trees
use Rattle.bb_parse.specs.Grammar as grammar
use Rattle.bb_canon_parse.proofs.LineKinds.{Kinds, range_kinds, index_kinds, bit_kinds, further_bits}

abbrev pub kind : Token → TokenKind
kind t = t.kind

-- tokens of these kinds are spanned so, whatever their lines and what follows them
abbrev pub Takes : Kinds → Span → Type 0
Takes ks span = (tokens rest : List Token) → map kind tokens ≡ ks → span (tokens ++ rest) rest

-- tokens in two parts by their kinds
pub record Cut (ks ms : Kinds) (tokens : List Token) : Type 0 where
  pub front : List Token
  pub back : List Token
  pub whole : tokens ≡ front ++ back
  pub fronts : map kind front ≡ ks
  pub backs : map kind back ≡ ms

pub cons_same : {A : Type 0} (x y : A) (xs ys : List A) → x ∷ xs ≡ y ∷ ys → (x ≡ y) × (xs ≡ ys)
cons_same x y xs ys h =
    let one : x ≡ y = cc in
    let two : xs ≡ ys = cc in
    (one, two)

pub cut : (ks ms : Kinds) (tokens : List Token) → map kind tokens ≡ ks ++ ms → Cut ks ms tokens
cut [] ms tokens e = record { front = []; back = tokens; whole = refl; fronts = refl; backs = e }
cut (k ∷ ks) ms [] e = cc
cut (k ∷ ks) ms (t ∷ ts) e =
    let same = cons_same t.kind k (map kind ts) (ks ++ ms) e in
    let c = cut ks ms ts same.1 in
    record { front = t ∷ c.front; back = c.back; whole = ap (λ z. t ∷ z) c.whole; fronts = λ i. same.0 i ∷ c.fronts i; backs = c.backs }

pub whole_again : (ks ms : Kinds) (tokens rest : List Token) (c : Cut ks ms tokens) → c.front ++ (c.back ++ rest) ≡ tokens ++ rest
whole_again ks ms tokens rest c = sym (append_assoc c.front c.back rest) ∙ ap (λ z. z ++ rest) (sym c.whole)

-- one span behind another
pub takes_join : (ks ms : Kinds) (p q : Span) → Takes ks p → Takes ms q → Takes (ks ++ ms) (p ⨾ q)
takes_join ks ms p q h k tokens rest e =
    let c = cut ks ms tokens e in
    (c.back ++ rest, subst (λ z. p z (c.back ++ rest)) (whole_again ks ms tokens rest c) (h c.front (c.back ++ rest) c.fronts), k c.back rest c.backs)

pub takes_same : (ks ms : Kinds) (p : Span) → ks ≡ ms → Takes ks p → Takes ms p
takes_same ks ms p same h tokens rest e = h tokens rest (e ∙ sym same)

pub takes_nothing : Takes [] nothing
takes_nothing [] rest e = refl
takes_nothing (t ∷ ts) rest e = cc

pub takes_word : (k : TokenKind) → Takes (k ∷ []) (word k)
takes_word k [] rest e = cc
takes_word k (t ∷ []) rest e =
    let same = cons_same t.kind k [] [] e in
    (t.line, λ i. record { kind = same.0 i; line = t.line } ∷ rest)
takes_word k (t ∷ u ∷ ts) rest e = cc

-- a token, and a span behind it
pub takes_first : (k : TokenKind) (ms : Kinds) (q : Span) → Takes ms q → Takes (k ∷ ms) (word k ⨾ q)
takes_first k ms q h = takes_join (k ∷ []) ms (word k) q (takes_word k) h

-- with nothing behind or before
pub takes_alone : (ks : Kinds) (p : Span) → Takes ks p → Takes ks (p ⨾ nothing)
takes_alone ks p h tokens rest e = (rest, h tokens rest e, refl)

pub takes_behind : (ks : Kinds) (p : Span) → Takes ks p → Takes ks (nothing ⨾ p)
takes_behind ks p h tokens rest e = (tokens ++ rest, refl, h tokens rest e)

pub such_is : (fact : Type 0) (p : Span) (from to : List Token) → fact → p from to → such fact p from to
such_is fact p from to f s = (f, s)

-- bits
abbrev pub index_select : Option ℕ → trees.Select
index_select None = trees.Whole
index_select (Some i) = trees.Bit i

pub takes_index : (i : Option ℕ) → Takes (index_kinds i) (grammar.select (index_select i))
takes_index None = takes_nothing
takes_index (Some i) = takes_first (Mark marks.LeftBracket) (Number i ∷ Mark marks.RightBracket ∷ []) (number i ⨾ mark marks.RightBracket) (takes_first (Number i) (Mark marks.RightBracket ∷ []) (mark marks.RightBracket) (takes_word (Mark marks.RightBracket)))

pub takes_bit : (b : Bit) → Takes (bit_kinds b) (name b.name ⨾ grammar.select (index_select b.index))
takes_bit b = takes_first (Name b.name) (index_kinds b.index) (grammar.select (index_select b.index)) (takes_index b.index)

-- an expression that is one operand
abbrev pub just : trees.Unary → trees.Expr
just u = trees.AnExpr (trees.AnOr (trees.AnXor (trees.AnAnd u trees.NoAnds) trees.NoXors) trees.NoOrs) trees.NoChoice

pub takes_just : (u : trees.Unary) (ks : Kinds) → Takes ks (grammar.unary u) → Takes ks (grammar.expr (just u))
takes_just u ks h =
    let one : Takes ks (grammar.unary u ⨾ nothing) = takes_alone ks (grammar.unary u) h in
    let two : Takes ks ((grammar.unary u ⨾ nothing) ⨾ nothing) = takes_alone ks (grammar.unary u ⨾ nothing) one in
    let three : Takes ks (((grammar.unary u ⨾ nothing) ⨾ nothing) ⨾ nothing) = takes_alone ks ((grammar.unary u ⨾ nothing) ⨾ nothing) two in
    takes_alone ks (((grammar.unary u ⨾ nothing) ⨾ nothing) ⨾ nothing) three

abbrev pub bit_expr : Bit → trees.Expr
bit_expr b = just (trees.Reference b.name (index_select b.index))

pub takes_bit_expr : (b : Bit) → Takes (bit_kinds b) (grammar.expr (bit_expr b))
takes_bit_expr b = takes_just (trees.Reference b.name (index_select b.index)) (bit_kinds b) (takes_bit b)

abbrev pub bit_exprs : List Bit → trees.Exprs
bit_exprs [] = trees.NoExprs
bit_exprs (b ∷ bs) = trees.MoreExprs (bit_expr b) (bit_exprs bs)

pub takes_bits : (bs : List Bit) → Takes (further_bits bs) (grammar.exprs (bit_exprs bs))
takes_bits [] = takes_nothing
takes_bits (b ∷ bs) =
    takes_first (Mark marks.Comma) (bit_kinds b ++ further_bits bs) (grammar.expr (bit_expr b) ⨾ grammar.exprs (bit_exprs bs)) (takes_join (bit_kinds b) (further_bits bs) (grammar.expr (bit_expr b)) (grammar.exprs (bit_exprs bs)) (takes_bit_expr b) (takes_bits bs))

-- bits in parentheses
abbrev pub bit_terms : Bit → List Bit → trees.Terms
bit_terms out ins = record { first = bit_expr out; more = bit_exprs ins }

abbrev pub terms_kinds : Bit → List Bit → Kinds → Kinds
terms_kinds out ins behind = Mark marks.LeftParen ∷ (bit_kinds out ++ (further_bits ins ++ Mark marks.RightParen ∷ behind))

pub takes_terms : (out : Bit) (ins : List Bit) → Takes (terms_kinds out ins []) (grammar.terms (bit_terms out ins))
takes_terms out ins =
    let right : Kinds = Mark marks.RightParen ∷ [] in
    let exprs : Span = grammar.exprs (bit_exprs ins) in
    takes_first (Mark marks.LeftParen) (bit_kinds out ++ (further_bits ins ++ right)) (grammar.expr (bit_expr out) ⨾ (exprs ⨾ mark marks.RightParen))
    (takes_join (bit_kinds out) (further_bits ins ++ right) (grammar.expr (bit_expr out)) (exprs ⨾ mark marks.RightParen) (takes_bit_expr out)
    (takes_join (further_bits ins) right exprs (mark marks.RightParen) (takes_bits ins) (takes_word (Mark marks.RightParen))))

pub terms_behind : (out : Bit) (ins : List Bit) (behind : Kinds) → terms_kinds out ins [] ++ behind ≡ terms_kinds out ins behind
terms_behind out ins behind =
    let right : Kinds = Mark marks.RightParen ∷ [] in
    ap (λ z. Mark marks.LeftParen ∷ z) (append_assoc (bit_kinds out) (further_bits ins ++ right) behind ∙ ap (λ z. bit_kinds out ++ z) (append_assoc (further_bits ins) right behind))

-- no further parts, and the semicolon
pub takes_end : Takes (Mark marks.Semicolon ∷ []) (nothing ⨾ mark marks.Semicolon)
takes_end = takes_behind (Mark marks.Semicolon ∷ []) (mark marks.Semicolon) (takes_word (Mark marks.Semicolon))

-- declarations
pub takes_range : (r : Option (ℕ × ℕ)) → Takes (range_kinds r) (grammar.range r)
takes_range None = takes_nothing
takes_range (Some r) =
    let right : Kinds = Mark marks.RightBracket ∷ [] in
    takes_first (Mark marks.LeftBracket) (Number r.0 ∷ Mark marks.Colon ∷ Number r.1 ∷ right) (number r.0 ⨾ (mark marks.Colon ⨾ (number r.1 ⨾ mark marks.RightBracket)))
    (takes_first (Number r.0) (Mark marks.Colon ∷ Number r.1 ∷ right) (mark marks.Colon ⨾ (number r.1 ⨾ mark marks.RightBracket))
    (takes_first (Mark marks.Colon) (Number r.1 ∷ right) (number r.1 ⨾ mark marks.RightBracket) (takes_first (Number r.1) right (mark marks.RightBracket) (takes_word (Mark marks.RightBracket)))))

pub takes_named : (x : List ℕ) → Takes (Name x ∷ Mark marks.Semicolon ∷ []) (name x ⨾ (grammar.names [] ⨾ mark marks.Semicolon))
takes_named x = takes_first (Name x) (Mark marks.Semicolon ∷ []) (nothing ⨾ mark marks.Semicolon) takes_end
