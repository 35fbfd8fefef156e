-- The machine reads what a syntax tree spans, and puts its steps: expressions.
use Rattle.std.proofs.Common.{◌≡◌, ℕ, ◌+◌, ◌≤◌, List, [], ◌∷◌, ◌++◌, Some, None, true, false, refl, sym, ◌∙◌, ap, arith, if◌then◌else◌, append_assoc, ◌==◌}
use Rattle.std.proofs.lemmas.Bool.Decides.{nat_tests}
use Rattle.bb_base.specs.declared.token.Mark.TheVariants as marks
use Rattle.bb_base.specs.declared.token.Token.{Token}
use Rattle.bb_base.specs.declared.token.TokenKind.{TokenKind}
use Rattle.bb_base.specs.declared.token.TokenKind.TheVariants as kinds
use Rattle.bb_parse.specs.declared.draft.Draft.{Draft}
use Rattle.bb_parse.specs.declared.symbol.Symbol.{Symbol}
use Rattle.bb_parse.specs.declared.symbol.Symbol.TheVariants as symbols
use Rattle.bb_parse.specs.declared.symbol.Side.{Side}
use Rattle.bb_parse.specs.declared.symbol.Side.TheVariants as sides
use Rattle.bb_parse.specs.declared.symbol.Made.{Made}
use Rattle.bb_parse.specs.declared.symbol.Made.TheVariants as made
use Rattle.bb_parse.specs.declared.syntax.Step.TheVariants as steps
use Rattle.bb_parse.specs.Spans.{mark}
use Rattle.bb_parse.specs.Trees.{Name, Select, Whole, Bit, Part, XorMark, ByCaret, ByTildeCaret, ByCaretTilde, Expr, AnExpr, Choice, NoChoice, Choose, AnOr, Ors, NoOrs, MoreOrs, Xor, AnXor, Xors, NoXors, MoreXors, And, AnAnd, Ands, NoAnds, MoreAnds, Unary, Complement, Reference, Constant, Parens, Braces, Repeated, Exprs, NoExprs, MoreExprs}
use Rattle.bb_parse.specs.Grammar.{select, xor_mark, expr, choice, ors, xor, xors, and, ands, unary, exprs}
use Rattle.bb_parse.specs.Meaning.{select_of, ref_of, xor_step, count, steps_of, choice_steps, ors_steps, xor_steps, xors_steps, and_steps, ands_steps, unary_steps, exprs_steps}
use Rattle.bb_parse.specs.Drafts.{put, made_step, ref_done}
use Rattle.bb_parse.specs.Moves.{Move, with_behind, goes}
use Rattle.bb_parse.specs.ExpressionMoves.{read_unary, read_expr, read_braced, begin_repeat}
use Rattle.bb_parse.specs.Machine.{Going, after_move, step, run, passed_on}
use Rattle.bb_grammar.proofs.Puts.{put_none, put_two, put_three, put_five, put_joined, put_repeated, put_no_more}
use Rattle.bb_grammar.proofs.Firsts.{Below, below_mark, before_ands, before_xors, before_ors, before_choice, before_exprs, pass_put, pass_select, pass_ands, pass_xors, pass_ors, pass_choice, is_operand, Starts, starts_expr, starts_or}

-- symbols that follow a move's own follow it on the stack
pub moved_behind : (m : Move) (more ss : List Symbol) (line : ℕ) → after_move (with_behind more m) ss line ≡ after_move m (more ++ ss) line
moved_behind None more ss line = refl
moved_behind (Some m) more ss line = ap (λ s. Going s m.1) (append_assoc m.0 more ss)

-- an expression begins with an operand
pub as_unary : (ss : List Symbol) (d : Draft) (ts : List Token) → Starts ts → run (Going (symbols.Expr ∷ ss) d) ts ≡ run (Going (symbols.Unary ∷ symbols.Operators ∷ ss) d) ts
as_unary ss d [] h = absurd h
as_unary ss d (t ∷ ts) h = ap (λ p. run p ts) (moved_behind (read_unary t.kind d) (symbols.Operators ∷ []) ss t.line)

four_feed : (k : TokenKind) (line : ℕ) (ss : List Symbol) (d : Draft) → passed_on (symbols.Operators ∷ ss) d k line ≡ passed_on (symbols.Ands ∷ symbols.Xors ∷ symbols.Ors ∷ symbols.Choice ∷ ss) d k line
four_feed (kinds.Mark marks.Amp) line ss d = refl
four_feed (kinds.Mark marks.Caret) line ss d = refl
four_feed (kinds.Mark marks.TildeCaret) line ss d = refl
four_feed (kinds.Mark marks.CaretTilde) line ss d = refl
four_feed (kinds.Mark marks.Bar) line ss d = refl
four_feed (kinds.Mark marks.Question) line ss d = refl
four_feed _ line ss d = refl

-- the operators in one read as the four symbols do
as_four : (r : ℕ) (ss : List Symbol) (d : Draft) (ts : List Token) → Below r ts → run (Going (symbols.Operators ∷ ss) d) ts ≡ run (Going (symbols.Ands ∷ symbols.Xors ∷ symbols.Ors ∷ symbols.Choice ∷ ss) d) ts
as_four r ss d [] b = absurd b
as_four r ss d (t ∷ ts) b = ap (λ p. run p ts) (four_feed t.kind t.line ss d)

braced_move : (k : TokenKind) (d : Draft) → is_operand k ≡ true → read_braced k d ≡ with_behind (symbols.Joined 1 ∷ []) (read_expr k d)
braced_move (kinds.Number n) d h = cc
braced_move (kinds.Key k) d h = refl
braced_move (kinds.Name x) d h = refl
braced_move (kinds.Const size value) d h = refl
braced_move (kinds.Mark m) d h = refl

-- braces without a repeat begin with an expression
pub as_braced : (ss : List Symbol) (d : Draft) (ts : List Token) → Starts ts → run (Going (symbols.Braced ∷ ss) d) ts ≡ run (Going (symbols.Expr ∷ symbols.Joined 1 ∷ ss) d) ts
as_braced ss d [] h = absurd h
as_braced ss d (t ∷ ts) h =
    ap (λ m. run (after_move m ss t.line) ts) (braced_move t.kind d h)
    ∙ ap (λ p. run p ts) (moved_behind (read_expr t.kind d) (symbols.Joined 1 ∷ []) ss t.line)

no_zero : (n : ℕ) → 1 ≤ n → (n == 0) ≡ false
no_zero n h = grind (arith, nat_tests)

repeat_move : (n : ℕ) (d : Draft) → 1 ≤ n → begin_repeat n d ≡ goes (symbols.Mark marks.LeftBrace ∷ symbols.Expr ∷ symbols.Joined 1 ∷ symbols.RepeatEnd n ∷ []) d
repeat_move n d h = ap (λ b. if b then None else goes (symbols.Mark marks.LeftBrace ∷ symbols.Expr ∷ symbols.Joined 1 ∷ symbols.RepeatEnd n ∷ []) d) (no_zero n h)

-- a name's select, or none
pub reads_select : (sel : Select) (side : Side) (ss : List Symbol) (d : Draft) (ts rest : List Token) → select sel ts rest → Below 5 rest → run (Going (symbols.Select side ∷ ss) d) ts ≡ run (Going ss (ref_done side (select_of sel) d)) rest
reads_select Whole side ss d ts rest same b = ap (run (Going (symbols.Select side ∷ ss) d)) same ∙ pass_select side ss d rest b
reads_select (Bit i) side ss d ts rest s b =
    ap (run (Going (symbols.Select side ∷ ss) d)) s.1.1
    ∙ ap (run (Going (symbols.SelectFrom side ∷ ss) d)) s.2.1.1
    ∙ ap (run (Going (symbols.SelectTo side i ∷ ss) d)) s.2.2.1
reads_select (Part i j) side ss d ts rest s b =
    ap (run (Going (symbols.Select side ∷ ss) d)) s.1.1
    ∙ ap (run (Going (symbols.SelectFrom side ∷ ss) d)) s.2.1.1
    ∙ ap (run (Going (symbols.SelectTo side i ∷ ss) d)) s.2.2.1.1
    ∙ ap (run (Going (symbols.SelectLast side i ∷ ss) d)) s.2.2.2.1.1
    ∙ ap (run (Going (symbols.SelectEnd side i j ∷ ss) d)) s.2.2.2.2.1

-- the name is put with its select, and no name is left
right_ref : (x : Name) (sel : Select) (d : Draft) → d.word ≡ None → ref_done sides.Right (select_of sel) (record d { word = Some x }) ≡ put d (steps.Ref (ref_of x sel) ∷ [])
right_ref x sel d h = ap (λ w. record d { steps = d.steps ++ steps.Ref (ref_of x sel) ∷ []; word = w }) (sym h)

abbrev pub xor_made : XorMark → Made
xor_made ByCaret = made.Xor
xor_made ByTildeCaret = made.Xnor
xor_made ByCaretTilde = made.Xnor

made_xor : (m : XorMark) → made_step (xor_made m) ≡ xor_step m
made_xor ByCaret = refl
made_xor ByTildeCaret = refl
made_xor ByCaretTilde = refl

step_xor : (m : XorMark) (line : ℕ) (ss : List Symbol) (d : Draft) → step (Going (symbols.Xors ∷ ss) d) (record { kind = kinds.Mark (xor_mark m); line = line }) ≡ Going (symbols.Unary ∷ symbols.Ands ∷ symbols.Put (xor_made m) ∷ symbols.Xors ∷ ss) d
step_xor ByCaret line ss d = refl
step_xor ByTildeCaret line ss d = refl
step_xor ByCaretTilde line ss d = refl

mutual
  pub reads_expr : (e : Expr) (ss : List Symbol) (d : Draft) (ts rest : List Token) → d.word ≡ None → expr e ts rest → Below 1 rest → run (Going (symbols.Expr ∷ ss) d) ts ≡ run (Going ss (put d (steps_of e))) rest
  reads_expr (AnExpr (AnOr (AnXor (AnAnd u more) xs) os) c) ss d ts rest h s b =
      let first = s.1.1.1 in
      let or_below = before_choice c s.0 rest s.2 b in
      let xor_below = before_ors os s.1.0 s.0 s.1.2 or_below in
      let and_below = before_xors xs s.1.1.0 s.1.0 s.1.1.2 xor_below in
      let after = before_ands more first.0 s.1.1.0 first.2 and_below in
      as_unary ss d ts (starts_or (AnOr (AnXor (AnAnd u more) xs) os) ts s.0 s.1)
      ∙ reads_unary u (symbols.Operators ∷ ss) d ts first.0 h first.1 after
      ∙ as_four 5 ss (put d (unary_steps u)) first.0 after
      ∙ reads_ands more (symbols.Xors ∷ symbols.Ors ∷ symbols.Choice ∷ ss) (put d (unary_steps u)) first.0 s.1.1.0 h first.2 and_below
      ∙ reads_xors xs (symbols.Ors ∷ symbols.Choice ∷ ss) (put (put d (unary_steps u)) (ands_steps more)) s.1.1.0 s.1.0 h s.1.1.2 xor_below
      ∙ reads_ors os (symbols.Choice ∷ ss) (put (put (put d (unary_steps u)) (ands_steps more)) (xors_steps xs)) s.1.0 s.0 h s.1.2 or_below
      ∙ reads_choice c ss (put (put (put (put d (unary_steps u)) (ands_steps more)) (xors_steps xs)) (ors_steps os)) s.0 rest h s.2 b
      ∙ ap (λ e. run (Going ss e) rest) (put_five d (unary_steps u) (ands_steps more) (xors_steps xs) (ors_steps os) (choice_steps c))

  reads_choice : (c : Choice) (ss : List Symbol) (d : Draft) (ts rest : List Token) → d.word ≡ None → choice c ts rest → Below 1 rest → run (Going (symbols.Choice ∷ ss) d) ts ≡ run (Going ss (put d (choice_steps c))) rest
  reads_choice NoChoice ss d ts rest h same b =
      ap (run (Going (symbols.Choice ∷ ss) d)) same ∙ pass_choice ss d rest b ∙ ap (λ e. run (Going ss e) rest) (put_none d)
  reads_choice (Choose x y) ss d ts rest h s b =
      ap (run (Going (symbols.Choice ∷ ss) d)) s.1.1
      ∙ reads_expr x (symbols.Mark marks.Colon ∷ symbols.Expr ∷ symbols.Put made.Cond ∷ ss) d s.0 s.2.0 h s.2.1 (below_mark marks.Colon 1 s.2.0 s.2.2.0 (omega arith) s.2.2.1)
      ∙ ap (run (Going (symbols.Mark marks.Colon ∷ symbols.Expr ∷ symbols.Put made.Cond ∷ ss) (put d (steps_of x)))) s.2.2.1.1
      ∙ reads_expr y (symbols.Put made.Cond ∷ ss) (put d (steps_of x)) s.2.2.0 rest h s.2.2.2 b
      ∙ pass_put made.Cond 1 ss (put (put d (steps_of x)) (steps_of y)) rest b
      ∙ ap (λ e. run (Going ss e) rest) (put_two (put d (steps_of x)) (steps_of y) (steps.Cond ∷ []) ∙ put_two d (steps_of x) (steps_of y ++ steps.Cond ∷ []))

  reads_ors : (o : Ors) (ss : List Symbol) (d : Draft) (ts rest : List Token) → d.word ≡ None → ors o ts rest → Below 2 rest → run (Going (symbols.Ors ∷ ss) d) ts ≡ run (Going ss (put d (ors_steps o))) rest
  reads_ors NoOrs ss d ts rest h same b =
      ap (run (Going (symbols.Ors ∷ ss) d)) same ∙ pass_ors ss d rest b ∙ ap (λ e. run (Going ss e) rest) (put_none d)
  reads_ors (MoreOrs x os) ss d ts rest h s b =
      ap (run (Going (symbols.Ors ∷ ss) d)) s.1.1
      ∙ reads_xor x (symbols.Put made.Or ∷ symbols.Ors ∷ ss) d s.0 s.2.0 h s.2.1 (before_ors os s.2.0 rest s.2.2 b)
      ∙ pass_put made.Or 3 (symbols.Ors ∷ ss) (put d (xor_steps x)) s.2.0 (before_ors os s.2.0 rest s.2.2 b)
      ∙ reads_ors os ss (put (put d (xor_steps x)) (steps.Or ∷ [])) s.2.0 rest h s.2.2 b
      ∙ ap (λ e. run (Going ss e) rest) (put_three d (xor_steps x) steps.Or (ors_steps os))

  reads_xor : (x : Xor) (ss : List Symbol) (d : Draft) (ts rest : List Token) → d.word ≡ None → xor x ts rest → Below 3 rest → run (Going (symbols.Unary ∷ symbols.Ands ∷ symbols.Xors ∷ ss) d) ts ≡ run (Going ss (put d (xor_steps x))) rest
  reads_xor (AnXor a xs) ss d ts rest h s b =
      reads_and a (symbols.Xors ∷ ss) d ts s.0 h s.1 (before_xors xs s.0 rest s.2 b)
      ∙ reads_xors xs ss (put d (and_steps a)) s.0 rest h s.2 b
      ∙ ap (λ e. run (Going ss e) rest) (put_two d (and_steps a) (xors_steps xs))

  reads_xors : (x : Xors) (ss : List Symbol) (d : Draft) (ts rest : List Token) → d.word ≡ None → xors x ts rest → Below 3 rest → run (Going (symbols.Xors ∷ ss) d) ts ≡ run (Going ss (put d (xors_steps x))) rest
  reads_xors NoXors ss d ts rest h same b =
      ap (run (Going (symbols.Xors ∷ ss) d)) same ∙ pass_xors ss d rest b ∙ ap (λ e. run (Going ss e) rest) (put_none d)
  reads_xors (MoreXors m a xs) ss d ts rest h s b =
      ap (run (Going (symbols.Xors ∷ ss) d)) s.1.1
      ∙ ap (λ p. run p s.0) (step_xor m s.1.0 ss d)
      ∙ reads_and a (symbols.Put (xor_made m) ∷ symbols.Xors ∷ ss) d s.0 s.2.0 h s.2.1 (before_xors xs s.2.0 rest s.2.2 b)
      ∙ pass_put (xor_made m) 4 (symbols.Xors ∷ ss) (put d (and_steps a)) s.2.0 (before_xors xs s.2.0 rest s.2.2 b)
      ∙ ap (λ x. run (Going (symbols.Xors ∷ ss) (put (put d (and_steps a)) (x ∷ []))) s.2.0) (made_xor m)
      ∙ reads_xors xs ss (put (put d (and_steps a)) (xor_step m ∷ [])) s.2.0 rest h s.2.2 b
      ∙ ap (λ e. run (Going ss e) rest) (put_three d (and_steps a) (xor_step m) (xors_steps xs))

  reads_and : (a : And) (ss : List Symbol) (d : Draft) (ts rest : List Token) → d.word ≡ None → and a ts rest → Below 4 rest → run (Going (symbols.Unary ∷ symbols.Ands ∷ ss) d) ts ≡ run (Going ss (put d (and_steps a))) rest
  reads_and (AnAnd u more) ss d ts rest h s b =
      reads_unary u (symbols.Ands ∷ ss) d ts s.0 h s.1 (before_ands more s.0 rest s.2 b)
      ∙ reads_ands more ss (put d (unary_steps u)) s.0 rest h s.2 b
      ∙ ap (λ e. run (Going ss e) rest) (put_two d (unary_steps u) (ands_steps more))

  reads_ands : (a : Ands) (ss : List Symbol) (d : Draft) (ts rest : List Token) → d.word ≡ None → ands a ts rest → Below 4 rest → run (Going (symbols.Ands ∷ ss) d) ts ≡ run (Going ss (put d (ands_steps a))) rest
  reads_ands NoAnds ss d ts rest h same b =
      ap (run (Going (symbols.Ands ∷ ss) d)) same ∙ pass_ands ss d rest b ∙ ap (λ e. run (Going ss e) rest) (put_none d)
  reads_ands (MoreAnds u more) ss d ts rest h s b =
      ap (run (Going (symbols.Ands ∷ ss) d)) s.1.1
      ∙ reads_unary u (symbols.Put made.And ∷ symbols.Ands ∷ ss) d s.0 s.2.0 h s.2.1 (before_ands more s.2.0 rest s.2.2 b)
      ∙ pass_put made.And 5 (symbols.Ands ∷ ss) (put d (unary_steps u)) s.2.0 (before_ands more s.2.0 rest s.2.2 b)
      ∙ reads_ands more ss (put (put d (unary_steps u)) (steps.And ∷ [])) s.2.0 rest h s.2.2 b
      ∙ ap (λ e. run (Going ss e) rest) (put_three d (unary_steps u) steps.And (ands_steps more))

  reads_unary : (u : Unary) (ss : List Symbol) (d : Draft) (ts rest : List Token) → d.word ≡ None → unary u ts rest → Below 5 rest → run (Going (symbols.Unary ∷ ss) d) ts ≡ run (Going ss (put d (unary_steps u))) rest
  reads_unary (Complement u) ss d ts rest h s b =
      ap (run (Going (symbols.Unary ∷ ss) d)) s.1.1
      ∙ reads_unary u (symbols.Put made.Not ∷ ss) d s.0 rest h s.2 b
      ∙ pass_put made.Not 5 ss (put d (unary_steps u)) rest b
      ∙ ap (λ e. run (Going ss e) rest) (put_two d (unary_steps u) (steps.Not ∷ []))
  reads_unary (Reference x sel) ss d ts rest h s b =
      ap (run (Going (symbols.Unary ∷ ss) d)) s.1.1
      ∙ reads_select sel sides.Right ss (record d { word = Some x }) s.0 rest s.2 b
      ∙ ap (λ e. run (Going ss e) rest) (right_ref x sel d h)
  reads_unary (Constant size value) ss d ts rest h s b = ap (run (Going (symbols.Unary ∷ ss) d)) s.1
  reads_unary (Parens e) ss d ts rest h s b =
      ap (run (Going (symbols.Unary ∷ ss) d)) s.1.1
      ∙ reads_expr e (symbols.Mark marks.RightParen ∷ ss) d s.0 s.2.0 h s.2.1 (below_mark marks.RightParen 1 s.2.0 rest (omega arith) s.2.2)
      ∙ ap (run (Going (symbols.Mark marks.RightParen ∷ ss) (put d (steps_of e)))) s.2.2.1
  reads_unary (Braces e es) ss d ts rest h s b =
      ap (run (Going (symbols.Unary ∷ ss) d)) s.1.1
      ∙ as_braced ss d s.0 (starts_expr e s.0 s.2.0 s.2.1)
      ∙ reads_expr e (symbols.Joined 1 ∷ ss) d s.0 s.2.0 h s.2.1 (before_exprs es marks.RightBrace s.2.0 s.2.2.0 rest (omega arith) s.2.2.1 s.2.2.2)
      ∙ reads_joined es 1 ss (put d (steps_of e)) s.2.0 s.2.2.0 rest h s.2.2.1 s.2.2.2
      ∙ ap (λ e. run (Going ss e) rest) (put_two d (steps_of e) (exprs_steps es ++ steps.Join (count es + 1) ∷ []))
  reads_unary (Repeated n e es) ss d ts rest h s b =
      let t = s.1.2.2 in
      ap (run (Going (symbols.Unary ∷ ss) d)) s.1.1.1
      ∙ ap (run (Going (symbols.Braced ∷ ss) d)) s.1.2.1.1
      ∙ ap (λ m. run (after_move m ss s.1.2.1.0) s.1.2.0) (repeat_move n d s.0)
      ∙ ap (run (Going (symbols.Mark marks.LeftBrace ∷ symbols.Expr ∷ symbols.Joined 1 ∷ symbols.RepeatEnd n ∷ ss) d)) t.1.1
      ∙ reads_expr e (symbols.Joined 1 ∷ symbols.RepeatEnd n ∷ ss) d t.0 t.2.0 h t.2.1 (before_exprs es marks.RightBrace t.2.0 t.2.2.0 t.2.2.2.0 (omega arith) t.2.2.1 t.2.2.2.1)
      ∙ reads_joined es 1 (symbols.RepeatEnd n ∷ ss) (put d (steps_of e)) t.2.0 t.2.2.0 t.2.2.2.0 h t.2.2.1 t.2.2.2.1
      ∙ ap (run (Going (symbols.RepeatEnd n ∷ ss) (put (put d (steps_of e)) (exprs_steps es ++ steps.Join (count es + 1) ∷ [])))) t.2.2.2.2.1
      ∙ ap (λ e. run (Going ss e) rest) (put_repeated d (steps_of e) (exprs_steps es) (steps.Join (count es + 1)) (steps.Repeat n))

  reads_joined : (es : Exprs) (n : ℕ) (ss : List Symbol) (d : Draft) (ts end rest : List Token) → d.word ≡ None → exprs es ts end → mark marks.RightBrace end rest → run (Going (symbols.Joined n ∷ ss) d) ts ≡ run (Going ss (put d (exprs_steps es ++ steps.Join (count es + n) ∷ []))) rest
  reads_joined NoExprs n ss d ts end rest h same w =
      ap (run (Going (symbols.Joined n ∷ ss) d)) (same ∙ w.1) ∙ ap (λ e. run (Going ss e) rest) (put_no_more d n)
  reads_joined (MoreExprs e es) n ss d ts end rest h s w =
      ap (run (Going (symbols.Joined n ∷ ss) d)) s.1.1
      ∙ reads_expr e (symbols.Joined (n + 1) ∷ ss) d s.0 s.2.0 h s.2.1 (before_exprs es marks.RightBrace s.2.0 end rest (omega arith) s.2.2 w)
      ∙ reads_joined es (n + 1) ss (put d (steps_of e)) s.2.0 end rest h s.2.2 w
      ∙ ap (λ e. run (Going ss e) rest) (put_joined d (steps_of e) (exprs_steps es) (count es) n)
