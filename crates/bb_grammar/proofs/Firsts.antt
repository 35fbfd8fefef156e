-- What the tokens behind a tree begin with, so that a symbol that may be empty lets them pass.
use Rattle.std.proofs.Common.{◌≡◌, ℕ, ◌<◌, ◌≤◌, List, [], ◌∷◌, Bool, true, false, not, refl, sym, ap, subst, arith, if◌then◌else◌}
use Rattle.bb_base.specs.declared.token.Mark.{Mark}
use Rattle.bb_base.specs.declared.token.Mark.TheVariants as marks
use Rattle.bb_base.specs.declared.token.Token.{Token}
use Rattle.bb_base.specs.declared.token.TokenKind.{TokenKind}
use Rattle.bb_base.specs.declared.token.TokenKind.TheVariants as kinds
use Rattle.bb_parse.specs.declared.draft.Draft.{Draft}
use Rattle.bb_parse.specs.declared.symbol.Symbol.{Symbol}
use Rattle.bb_parse.specs.declared.symbol.Symbol.TheVariants as symbols
use Rattle.bb_parse.specs.declared.symbol.Side.{Side}
use Rattle.bb_parse.specs.Spans.{word, mark}
use Rattle.bb_parse.specs.Trees.{XorMark, ByCaret, ByTildeCaret, ByCaretTilde, Expr, AnExpr, Or, AnOr, Xor, AnXor, And, AnAnd, Unary, Complement, Reference, Constant, Parens, Braces, Repeated, Choice, NoChoice, Choose, Ors, NoOrs, MoreOrs, Xors, NoXors, MoreXors, Ands, NoAnds, MoreAnds, Exprs, NoExprs, MoreExprs}
use Rattle.bb_parse.specs.Grammar.{xor_mark, expr, or, xor, and, unary, choice, ors, xors, ands, exprs}
use Rattle.bb_parse.specs.Passes.{passes, passed, is_bracket, is_amp, is_xor, is_bar, is_question}
use Rattle.bb_parse.specs.Machine.{Going, passed_on, run, after_move, read_by}

-- how tightly a token binds what stands before it
abbrev pub mark_rank : Mark → ℕ
mark_rank marks.LeftBracket = 5
mark_rank marks.Amp = 4
mark_rank marks.Caret = 3
mark_rank marks.TildeCaret = 3
mark_rank marks.CaretTilde = 3
mark_rank marks.Bar = 2
mark_rank marks.Question = 1
mark_rank _ = 0

abbrev pub rank : TokenKind → ℕ
rank (kinds.Mark m) = mark_rank m
rank (kinds.Key k) = 0
rank (kinds.Name x) = 0
rank (kinds.Number n) = 0
rank (kinds.Const size value) = 0

-- a token follows that binds less tightly
abbrev pub Below : ℕ → List Token → Type 0
Below r [] = ⊥
Below r (t ∷ ts) = rank t.kind < r

pub below_more : (r s : ℕ) (ts : List Token) → r ≤ s → Below r ts → Below s ts
below_more r s [] h b = b
below_more r s (t ∷ ts) h b = omega arith

pub below_mark : (m : Mark) (r : ℕ) (ts rest : List Token) → mark_rank m < r → mark m ts rest → Below r ts
below_mark m r ts rest h w = subst (Below r) (sym w.1) h

pub below_same : (r : ℕ) (ts rest : List Token) → ts ≡ rest → Below r rest → Below r ts
below_same r ts rest same b = subst (Below r) (sym same) b

xor_rank : (m : XorMark) → mark_rank (xor_mark m) < 4
xor_rank ByCaret = omega arith
xor_rank ByTildeCaret = omega arith
xor_rank ByCaretTilde = omega arith

pub before_ands : (a : Ands) (ts rest : List Token) → ands a ts rest → Below 4 rest → Below 5 ts
before_ands NoAnds ts rest same b = below_same 5 ts rest same (below_more 4 5 rest (omega arith) b)
before_ands (MoreAnds u a) ts rest s b = below_mark marks.Amp 5 ts s.0 (omega arith) s.1

pub before_xors : (x : Xors) (ts rest : List Token) → xors x ts rest → Below 3 rest → Below 4 ts
before_xors NoXors ts rest same b = below_same 4 ts rest same (below_more 3 4 rest (omega arith) b)
before_xors (MoreXors m a x) ts rest s b = below_mark (xor_mark m) 4 ts s.0 (xor_rank m) s.1

pub before_ors : (o : Ors) (ts rest : List Token) → ors o ts rest → Below 2 rest → Below 3 ts
before_ors NoOrs ts rest same b = below_same 3 ts rest same (below_more 2 3 rest (omega arith) b)
before_ors (MoreOrs x o) ts rest s b = below_mark marks.Bar 3 ts s.0 (omega arith) s.1

pub before_choice : (c : Choice) (ts rest : List Token) → choice c ts rest → Below 1 rest → Below 2 ts
before_choice NoChoice ts rest same b = below_same 2 ts rest same (below_more 1 2 rest (omega arith) b)
before_choice (Choose x y) ts rest s b = below_mark marks.Question 2 ts s.0 (omega arith) s.1

pub before_exprs : (es : Exprs) (m : Mark) (ts end rest : List Token) → mark_rank m < 1 → exprs es ts end → mark m end rest → Below 1 ts
before_exprs NoExprs m ts end rest h same w = below_same 1 ts end same (below_mark m 1 end rest h w)
before_exprs (MoreExprs e es) m ts end rest h s w = below_mark marks.Comma 1 ts s.0 (omega arith) s.1

-- ---- what each symbol that may be empty lets pass
select_mark : (m : Mark) → mark_rank m < 5 → not (is_bracket (kinds.Mark m)) ≡ true
select_mark marks.LeftBracket h = absurd (omega arith)
select_mark _ h = refl

select_kind : (k : TokenKind) → rank k < 5 → not (is_bracket k) ≡ true
select_kind (kinds.Mark m) h = select_mark m h
select_kind _ h = refl

ands_mark : (m : Mark) → mark_rank m < 4 → not (is_amp (kinds.Mark m)) ≡ true
ands_mark marks.Amp h = absurd (omega arith)
ands_mark _ h = refl

ands_kind : (k : TokenKind) → rank k < 4 → not (is_amp k) ≡ true
ands_kind (kinds.Mark m) h = ands_mark m h
ands_kind _ h = refl

xors_mark : (m : Mark) → mark_rank m < 3 → not (is_xor (kinds.Mark m)) ≡ true
xors_mark marks.Caret h = absurd (omega arith)
xors_mark marks.TildeCaret h = absurd (omega arith)
xors_mark marks.CaretTilde h = absurd (omega arith)
xors_mark _ h = refl

xors_kind : (k : TokenKind) → rank k < 3 → not (is_xor k) ≡ true
xors_kind (kinds.Mark m) h = xors_mark m h
xors_kind _ h = refl

ors_mark : (m : Mark) → mark_rank m < 2 → not (is_bar (kinds.Mark m)) ≡ true
ors_mark marks.Bar h = absurd (omega arith)
ors_mark _ h = refl

ors_kind : (k : TokenKind) → rank k < 2 → not (is_bar k) ≡ true
ors_kind (kinds.Mark m) h = ors_mark m h
ors_kind _ h = refl

choice_mark : (m : Mark) → mark_rank m < 1 → not (is_question (kinds.Mark m)) ≡ true
choice_mark marks.Question h = absurd (omega arith)
choice_mark _ h = refl

choice_kind : (k : TokenKind) → rank k < 1 → not (is_question k) ≡ true
choice_kind (kinds.Mark m) h = choice_mark m h
choice_kind _ h = refl

pass : (s : Symbol) (ss : List Symbol) (d : Draft) (t : Token) (ts : List Token) → passes s t.kind ≡ true → run (Going (s ∷ ss) d) (t ∷ ts) ≡ run (Going ss (passed s d)) (t ∷ ts)
pass s ss d t ts h = ap (λ b. run (if b then passed_on ss (passed s d) t.kind t.line else after_move (read_by s t.kind t.line d) ss t.line) ts) h

pub pass_put : (m : _) (r : ℕ) (ss : List Symbol) (d : Draft) (ts : List Token) → Below r ts → run (Going (symbols.Put m ∷ ss) d) ts ≡ run (Going ss (passed (symbols.Put m) d)) ts
pass_put m r ss d [] b = absurd b
pass_put m r ss d (t ∷ ts) b = refl

pub pass_select : (side : Side) (ss : List Symbol) (d : Draft) (ts : List Token) → Below 5 ts → run (Going (symbols.Select side ∷ ss) d) ts ≡ run (Going ss (passed (symbols.Select side) d)) ts
pass_select side ss d [] b = absurd b
pass_select side ss d (t ∷ ts) b = pass (symbols.Select side) ss d t ts (select_kind t.kind b)

pub pass_ands : (ss : List Symbol) (d : Draft) (ts : List Token) → Below 4 ts → run (Going (symbols.Ands ∷ ss) d) ts ≡ run (Going ss d) ts
pass_ands ss d [] b = absurd b
pass_ands ss d (t ∷ ts) b = pass symbols.Ands ss d t ts (ands_kind t.kind b)

pub pass_xors : (ss : List Symbol) (d : Draft) (ts : List Token) → Below 3 ts → run (Going (symbols.Xors ∷ ss) d) ts ≡ run (Going ss d) ts
pass_xors ss d [] b = absurd b
pass_xors ss d (t ∷ ts) b = pass symbols.Xors ss d t ts (xors_kind t.kind b)

pub pass_ors : (ss : List Symbol) (d : Draft) (ts : List Token) → Below 2 ts → run (Going (symbols.Ors ∷ ss) d) ts ≡ run (Going ss d) ts
pass_ors ss d [] b = absurd b
pass_ors ss d (t ∷ ts) b = pass symbols.Ors ss d t ts (ors_kind t.kind b)

pub pass_choice : (ss : List Symbol) (d : Draft) (ts : List Token) → Below 1 ts → run (Going (symbols.Choice ∷ ss) d) ts ≡ run (Going ss d) ts
pass_choice ss d [] b = absurd b
pass_choice ss d (t ∷ ts) b = pass symbols.Choice ss d t ts (choice_kind t.kind b)

-- ---- what an expression begins with
abbrev pub is_operand : TokenKind → Bool
is_operand (kinds.Mark marks.Tilde) = true
is_operand (kinds.Mark marks.LeftParen) = true
is_operand (kinds.Mark marks.LeftBrace) = true
is_operand (kinds.Name x) = true
is_operand (kinds.Const size value) = true
is_operand _ = false

abbrev pub Starts : List Token → Type 0
Starts [] = ⊥
Starts (t ∷ ts) = is_operand t.kind ≡ true

starts_word : (k : TokenKind) (ts rest : List Token) → is_operand k ≡ true → word k ts rest → Starts ts
starts_word k ts rest h w = subst Starts (sym w.1) h

pub starts_unary : (u : Unary) (ts rest : List Token) → unary u ts rest → Starts ts
starts_unary (Complement u) ts rest s = starts_word (kinds.Mark marks.Tilde) ts s.0 refl s.1
starts_unary (Reference x sel) ts rest s = starts_word (kinds.Name x) ts s.0 refl s.1
starts_unary (Constant size value) ts rest s = starts_word (kinds.Const size value) ts rest refl s
starts_unary (Parens e) ts rest s = starts_word (kinds.Mark marks.LeftParen) ts s.0 refl s.1
starts_unary (Braces e es) ts rest s = starts_word (kinds.Mark marks.LeftBrace) ts s.0 refl s.1
starts_unary (Repeated n e es) ts rest s = starts_word (kinds.Mark marks.LeftBrace) ts s.1.0 refl s.1.1

pub starts_and : (a : And) (ts rest : List Token) → and a ts rest → Starts ts
starts_and (AnAnd u more) ts rest s = starts_unary u ts s.0 s.1

pub starts_xor : (x : Xor) (ts rest : List Token) → xor x ts rest → Starts ts
starts_xor (AnXor a more) ts rest s = starts_and a ts s.0 s.1

pub starts_or : (o : Or) (ts rest : List Token) → or o ts rest → Starts ts
starts_or (AnOr x more) ts rest s = starts_xor x ts s.0 s.1

pub starts_expr : (e : Expr) (ts rest : List Token) → expr e ts rest → Starts ts
starts_expr (AnExpr o c) ts rest s = starts_or o ts s.0 s.1
