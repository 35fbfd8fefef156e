-- The machine reads what a syntax tree spans: statements.
use Rattle.std.proofs.Common.{◌≡◌, ℕ, ◌<◌, List, [], ◌∷◌, ◌++◌, map, Option, Some, None, Bool, true, false, refl, sym, ◌∙◌, ap, subst, arith, append_assoc, append-nil}
use Rattle.bb_base.specs.declared.keyword.Keyword.{Keyword}
use Rattle.bb_base.specs.declared.keyword.Keyword.TheVariants as keys
use Rattle.bb_base.specs.declared.token.Mark.{Mark}
use Rattle.bb_base.specs.declared.token.Mark.TheVariants as marks
use Rattle.bb_base.specs.declared.token.Token.{Token}
use Rattle.bb_base.specs.declared.token.TokenKind.{TokenKind}
use Rattle.bb_base.specs.declared.token.TokenKind.TheVariants as kinds
use Rattle.bb_base.specs.declared.operator.Op.{Op}
use Rattle.bb_base.specs.declared.variable.Role.{Role}
use Rattle.bb_base.specs.declared.variable.Role.TheVariants as roles
use Rattle.bb_parse.specs.declared.draft.Draft.{Draft}
use Rattle.bb_parse.specs.declared.symbol.Place.{Place}
use Rattle.bb_parse.specs.declared.symbol.Place.TheVariants as places
use Rattle.bb_parse.specs.declared.symbol.Side.TheVariants as sides
use Rattle.bb_parse.specs.declared.symbol.Symbol.{Symbol}
use Rattle.bb_parse.specs.declared.symbol.Symbol.TheVariants as symbols
use Rattle.bb_parse.specs.declared.syntax.Step.{Step}
use Rattle.bb_parse.specs.declared.syntax.Item.{Item}
use Rattle.bb_parse.specs.declared.syntax.Item.TheVariants as items
use Rattle.bb_parse.specs.Spans.{Span, ◌⨾◌, word, mark, name, many}
use Rattle.bb_parse.specs.Trees.{Name, Select, Expr, Exprs, NoExprs, MoreExprs, Terms, Left, Target, Targets, Lefts, NoLefts, MoreLefts, Direction, In, Out, Typed, Equation, Gate, Pin, Conns, Places, NoPins, Pins, Instance, Statement, Directs, Wires, Assigns, Gates, Cells}
use Rattle.bb_parse.specs.Grammar.{exprs, terms, left, lefts, names, direction_key, wire, range, rest_of_type, equation, gate_op, maybe_name, gate, maybe_expr, pin, conns, instance, statement}
use Rattle.bb_parse.specs.Meaning.{select_of, ref_of, steps_of, each, terms_of, targets, more_targets, direction_role, decl, typed_decl, pin_of, conns_of, assign, prim, cell, items_of, all_items}
use Rattle.bb_parse.specs.Drafts.{put, ref_done, begin_decl, new_decl, declare, term_done, instance_done}
use Rattle.bb_parse.specs.Moves.{with_behind}
use Rattle.bb_parse.specs.ExpressionMoves.{read_expr}
use Rattle.bb_parse.specs.StatementMoves.{read_left, read_conns, read_pin_value, read_keyword, begin_gates}
use Rattle.bb_parse.specs.Machine.{Going, after_move, step, run}
use Rattle.bb_grammar.proofs.Firsts.{mark_rank, Below, below_mark, below_same, before_exprs, is_operand, Starts, starts_expr}
use Rattle.bb_grammar.proofs.Reading.{moved_behind, reads_select, reads_expr}
use Rattle.bb_grammar.proofs.Idle.{idle, Gains}

-- ---- rows of things behind commas
before_many : {A : Type 0} (span : A → Span) (xs : List A) (m : Mark) (ts end rest : List Token) → mark_rank m < 1 → many (λ x. mark marks.Comma ⨾ span x) xs ts end → mark m end rest → Below 1 ts
before_many span [] m ts end rest h same w = below_same 1 ts end same (below_mark m 1 end rest h w)
before_many span (x ∷ xs) m ts end rest h s w = below_mark marks.Comma 1 ts s.1.0 (omega arith) s.1.1

-- one more thing, and those behind it
pub one_more : {A : Type 0} (before : List A) (x : A) (more : List A) → (before ++ x ∷ []) ++ more ≡ before ++ x ∷ more
one_more before x more = append_assoc before (x ∷ []) more

-- ---- terminals
reads_more_terms : (es : Exprs) (ss : List Symbol) (d : Draft) (ts end rest : List Token) → d.word ≡ None → exprs es ts end → mark marks.RightParen end rest → run (Going (symbols.MoreTerms ∷ ss) d) ts ≡ run (Going ss (record d { terms = d.terms ++ d.steps ∷ each es; steps = [] })) rest
reads_more_terms NoExprs ss d ts end rest h same w = ap (run (Going (symbols.MoreTerms ∷ ss) d)) (same ∙ w.1)
reads_more_terms (MoreExprs e es) ss d ts end rest h s w =
    ap (run (Going (symbols.MoreTerms ∷ ss) d)) s.1.1
    ∙ reads_expr e (symbols.MoreTerms ∷ ss) (term_done d) s.0 s.2.0 h s.2.1 (before_exprs es marks.RightParen s.2.0 end rest (omega arith) s.2.2 w)
    ∙ reads_more_terms es ss (put (term_done d) (steps_of e)) s.2.0 end rest h s.2.2 w
    ∙ ap (λ t. run (Going ss (record d { terms = t; steps = [] })) rest) (one_more d.terms d.steps (steps_of e ∷ each es))

reads_terms : (t : Terms) (ss : List Symbol) (d : Draft) (ts rest : List Token) → terms t ts rest → run (Going (symbols.Mark marks.LeftParen ∷ symbols.Expr ∷ symbols.MoreTerms ∷ ss) (idle d)) ts ≡ run (Going ss (record (idle d) { terms = terms_of t })) rest
reads_terms t ss d ts rest s =
    ap (run (Going (symbols.Mark marks.LeftParen ∷ symbols.Expr ∷ symbols.MoreTerms ∷ ss) (idle d))) s.1.1
    ∙ reads_expr t.first (symbols.MoreTerms ∷ ss) (idle d) s.0 s.2.0 refl s.2.1 (before_exprs t.more marks.RightParen s.2.0 s.2.2.0 rest (omega arith) s.2.2.1 s.2.2.2)
    ∙ reads_more_terms t.more ss (put (idle d) (steps_of t.first)) s.2.0 s.2.2.0 rest refl s.2.2.1 s.2.2.2

-- ---- gates
reads_named : (o : Option Name) (t : Terms) (ss : List Symbol) (d : Draft) (ts mid rest : List Token) → maybe_name o ts mid → terms t mid rest → run (Going (symbols.Gate ∷ ss) (idle d)) ts ≡ run (Going ss (record (idle d) { terms = terms_of t })) rest
reads_named None t ss d ts mid rest same s =
    ap (run (Going (symbols.Gate ∷ ss) (idle d))) (same ∙ s.1.1)
    ∙ sym (ap (run (Going (symbols.Mark marks.LeftParen ∷ symbols.Expr ∷ symbols.MoreTerms ∷ ss) (idle d))) s.1.1)
    ∙ reads_terms t ss d mid rest s
reads_named (Some x) t ss d ts mid rest w s = ap (run (Going (symbols.Gate ∷ ss) (idle d))) w.1 ∙ reads_terms t ss d mid rest s

reads_gate : (g : Gate) (ss : List Symbol) (d : Draft) (ts rest : List Token) → gate g ts rest → run (Going (symbols.Gate ∷ ss) (idle d)) ts ≡ run (Going ss (record (idle d) { terms = terms_of g.terms })) rest
reads_gate g ss d ts rest s = reads_named g.instance g.terms ss d ts s.0 rest s.1 s.2

reads_more_gates : (gs : List Gate) (v : List (List Step)) (ss : List Symbol) (d : Draft) (ts end rest : List Token) → many (λ h. mark marks.Comma ⨾ gate h) gs ts end → mark marks.Semicolon end rest → run (Going (symbols.MoreGates ∷ ss) (record (idle d) { terms = v })) ts ≡ run (Going ss (idle (record d { items = d.items ++ items.Prim d.line d.op v ∷ map (prim d.line d.op) gs }))) rest
reads_more_gates [] v ss d ts end rest same w = ap (run (Going (symbols.MoreGates ∷ ss) (record (idle d) { terms = v }))) (same ∙ w.1)
reads_more_gates (g ∷ gs) v ss d ts end rest s w =
    let e : Draft = record d { items = d.items ++ items.Prim d.line d.op v ∷ [] } in
    ap (run (Going (symbols.MoreGates ∷ ss) (record (idle d) { terms = v }))) s.1.1.1
    ∙ reads_gate g (symbols.MoreGates ∷ ss) e s.1.0 s.0 s.1.2
    ∙ reads_more_gates gs (terms_of g.terms) ss e s.0 end rest s.2 w
    ∙ ap (λ l. run (Going ss (idle (record d { items = l }))) rest) (one_more d.items (items.Prim d.line d.op v) (map (prim d.line d.op) (g ∷ gs)))

-- ---- equations
left_ref : (x : Name) (sel : Select) (d : Draft) → d.word ≡ None → ref_done sides.Left (select_of sel) (record d { word = Some x }) ≡ record d { left = d.left ++ ref_of x sel ∷ [] }
left_ref x sel d h = ap (λ w. record d { left = d.left ++ ref_of x sel ∷ []; word = w }) (sym h)

before_lefts : (ls : Lefts) (ts end rest : List Token) → lefts ls ts end → mark marks.RightBrace end rest → Below 5 ts
before_lefts NoLefts ts end rest same w = below_same 5 ts end same (below_mark marks.RightBrace 5 end rest (omega arith) w)
before_lefts (MoreLefts l ls) ts end rest s w = below_mark marks.Comma 5 ts s.0 (omega arith) s.1

mutual
  reads_left : (l : Left) (ss : List Symbol) (d : Draft) (ts rest : List Token) → d.word ≡ None → left l ts rest → Below 5 rest → run (Going (symbols.Left ∷ ss) d) ts ≡ run (Going ss (record d { left = d.left ++ targets l })) rest
  reads_left (Target x sel) ss d ts rest h s b =
      ap (run (Going (symbols.Left ∷ ss) d)) s.1.1
      ∙ reads_select sel sides.Left ss (record d { word = Some x }) s.0 rest s.2 b
      ∙ ap (λ e. run (Going ss e) rest) (left_ref x sel d h)
  reads_left (Targets l ls) ss d ts rest h s b =
      ap (run (Going (symbols.Left ∷ ss) d)) s.1.1
      ∙ reads_left l (symbols.MoreLefts ∷ ss) d s.0 s.2.0 h s.2.1 (before_lefts ls s.2.0 s.2.2.0 rest s.2.2.1 s.2.2.2)
      ∙ reads_lefts ls ss (record d { left = d.left ++ targets l }) s.2.0 s.2.2.0 rest h s.2.2.1 s.2.2.2
      ∙ ap (λ t. run (Going ss (record d { left = t })) rest) (append_assoc d.left (targets l) (more_targets ls))

  reads_lefts : (ls : Lefts) (ss : List Symbol) (d : Draft) (ts end rest : List Token) → d.word ≡ None → lefts ls ts end → mark marks.RightBrace end rest → run (Going (symbols.MoreLefts ∷ ss) d) ts ≡ run (Going ss (record d { left = d.left ++ more_targets ls })) rest
  reads_lefts NoLefts ss d ts end rest h same w =
      ap (run (Going (symbols.MoreLefts ∷ ss) d)) (same ∙ w.1) ∙ ap (λ t. run (Going ss (record d { left = t })) rest) (sym (append-nil d.left))
  reads_lefts (MoreLefts l ls) ss d ts end rest h s w =
      ap (run (Going (symbols.MoreLefts ∷ ss) d)) s.1.1
      ∙ reads_left l (symbols.MoreLefts ∷ ss) d s.0 s.2.0 h s.2.1 (before_lefts ls s.2.0 end rest s.2.2 w)
      ∙ reads_lefts ls ss (record d { left = d.left ++ targets l }) s.2.0 end rest h s.2.2 w
      ∙ ap (λ t. run (Going ss (record d { left = t })) rest) (append_assoc d.left (targets l) (more_targets ls))

abbrev IsSome_token : List Token → Type 0
IsSome_token [] = ⊥
IsSome_token (t ∷ ts) = Unit {0}

some_word : (k : TokenKind) (ts rest : List Token) → word k ts rest → IsSome_token ts
some_word k ts rest w = subst IsSome_token (sym w.1) tt

some_left : (l : Left) (ts rest : List Token) → left l ts rest → IsSome_token ts
some_left (Target x sel) ts rest s = some_word (kinds.Name x) ts s.0 s.1
some_left (Targets l ls) ts rest s = some_word (kinds.Mark marks.LeftBrace) ts s.0 s.1

as_left : (ss : List Symbol) (d : Draft) (ts : List Token) → IsSome_token ts → run (Going (symbols.Equation ∷ ss) d) ts ≡ run (Going (symbols.Left ∷ symbols.Mark marks.Equals ∷ symbols.Expr ∷ ss) d) ts
as_left ss d [] h = absurd h
as_left ss d (t ∷ ts) h = ap (λ p. run p ts) (moved_behind (read_left t.kind d) (symbols.Mark marks.Equals ∷ symbols.Expr ∷ []) ss t.line)

reads_equation : (e : Equation) (ss : List Symbol) (d : Draft) (ts rest : List Token) → equation e ts rest → Below 1 rest → run (Going (symbols.Equation ∷ ss) (idle d)) ts ≡ run (Going ss (record (idle d) { left = targets e.left; steps = steps_of e.right })) rest
reads_equation e ss d ts rest s b =
    as_left ss (idle d) ts (some_left e.left ts s.0 s.1)
    ∙ reads_left e.left (symbols.Mark marks.Equals ∷ symbols.Expr ∷ ss) (idle d) ts s.0 refl s.1 (below_mark marks.Equals 5 s.0 s.2.0 (omega arith) s.2.1)
    ∙ ap (run (Going (symbols.Mark marks.Equals ∷ symbols.Expr ∷ ss) (record (idle d) { left = targets e.left }))) s.2.1.1
    ∙ reads_expr e.right ss (record (idle d) { left = targets e.left }) s.2.0 rest refl s.2.2 b

reads_more_equations : (es : List Equation) (e : Equation) (ss : List Symbol) (d : Draft) (ts end rest : List Token) → many (λ x. mark marks.Comma ⨾ equation x) es ts end → mark marks.Semicolon end rest → run (Going (symbols.MoreEquations ∷ ss) (record (idle d) { left = targets e.left; steps = steps_of e.right })) ts ≡ run (Going ss (idle (record d { items = d.items ++ map (assign d.line) (e ∷ es) }))) rest
reads_more_equations [] e ss d ts end rest same w = ap (run (Going (symbols.MoreEquations ∷ ss) (record (idle d) { left = targets e.left; steps = steps_of e.right }))) (same ∙ w.1)
reads_more_equations (x ∷ xs) e ss d ts end rest s w =
    let f : Draft = record d { items = d.items ++ assign d.line e ∷ [] } in
    ap (run (Going (symbols.MoreEquations ∷ ss) (record (idle d) { left = targets e.left; steps = steps_of e.right }))) s.1.1.1
    ∙ reads_equation x (symbols.MoreEquations ∷ ss) f s.1.0 s.0 s.1.2 (before_many equation xs marks.Semicolon s.0 end rest (omega arith) s.2 w)
    ∙ reads_more_equations xs x ss f s.0 end rest s.2 w
    ∙ ap (λ l. run (Going ss (idle (record d { items = l }))) rest) (one_more d.items (assign d.line e) (map (assign d.line) (x ∷ xs)))

-- ---- instances of cells
pin_value_move : (k : TokenKind) (d : Draft) → is_operand k ≡ true → read_pin_value k d ≡ with_behind (symbols.PinEnd ∷ []) (read_expr k d)
pin_value_move (kinds.Mark m) d h = pin_value_mark m d h
  where
    pin_value_mark : (m : Mark) (d : Draft) → is_operand (kinds.Mark m) ≡ true → read_pin_value (kinds.Mark m) d ≡ with_behind (symbols.PinEnd ∷ []) (read_expr (kinds.Mark m) d)
    pin_value_mark marks.RightParen d h = cc
    pin_value_mark _ d h = refl
pin_value_move _ d h = refl

as_pin_value : (ss : List Symbol) (d : Draft) (ts : List Token) → Starts ts → run (Going (symbols.PinValue ∷ ss) d) ts ≡ run (Going (symbols.Expr ∷ symbols.PinEnd ∷ ss) d) ts
as_pin_value ss d [] h = absurd h
as_pin_value ss d (t ∷ ts) h =
    ap (λ m. run (after_move m ss t.line) ts) (pin_value_move t.kind d h) ∙ ap (λ p. run p ts) (moved_behind (read_expr t.kind d) (symbols.PinEnd ∷ []) ss t.line)

conns_mark : (m : Mark) (d : Draft) → is_operand (kinds.Mark m) ≡ true → read_conns (kinds.Mark m) d ≡ with_behind (symbols.MoreTerms ∷ []) (read_expr (kinds.Mark m) d)
conns_mark marks.RightParen d h = cc
conns_mark marks.Dot d h = cc
conns_mark _ d h = refl

conns_move : (k : TokenKind) (d : Draft) → is_operand k ≡ true → read_conns k d ≡ with_behind (symbols.MoreTerms ∷ []) (read_expr k d)
conns_move (kinds.Mark m) d h = conns_mark m d h
conns_move _ d h = refl

as_terms : (ss : List Symbol) (d : Draft) (ts : List Token) → Starts ts → run (Going (symbols.Conns ∷ ss) d) ts ≡ run (Going (symbols.Expr ∷ symbols.MoreTerms ∷ ss) d) ts
as_terms ss d [] h = absurd h
as_terms ss d (t ∷ ts) h =
    ap (λ m. run (after_move m ss t.line) ts) (conns_move t.kind d h) ∙ ap (λ p. run p ts) (moved_behind (read_expr t.kind d) (symbols.MoreTerms ∷ []) ss t.line)

-- a pin's value, and the mark behind it
reads_value : (v : Option Expr) (x : Name) (ps : List (Name × Option (List Step))) (ss : List Symbol) (d : Draft) (ts end rest : List Token) → maybe_expr v ts end → mark marks.RightParen end rest → run (Going (symbols.PinValue ∷ ss) (record (idle d) { pin = Some x; pins = ps })) ts ≡ run (Going ss (record (idle d) { pins = ps ++ pin_of (record { name = x; value = v }) ∷ [] })) rest
reads_value None x ps ss d ts end rest same w = ap (run (Going (symbols.PinValue ∷ ss) (record (idle d) { pin = Some x; pins = ps }))) (same ∙ w.1)
reads_value (Some e) x ps ss d ts end rest s w =
    as_pin_value ss (record (idle d) { pin = Some x; pins = ps }) ts (starts_expr e ts end s)
    ∙ reads_expr e (symbols.PinEnd ∷ ss) (record (idle d) { pin = Some x; pins = ps }) ts end refl s (below_mark marks.RightParen 1 end rest (omega arith) w)
    ∙ ap (run (Going (symbols.PinEnd ∷ ss) (record (idle d) { pin = Some x; pins = ps; steps = steps_of e }))) w.1

-- a pin behind its dot
reads_pin : (p : Pin) (ps : List (Name × Option (List Step))) (ss : List Symbol) (d : Draft) (ts rest : List Token) → (name p.name ⨾ mark marks.LeftParen ⨾ maybe_expr p.value ⨾ mark marks.RightParen) ts rest → run (Going (symbols.PinName ∷ symbols.Mark marks.LeftParen ∷ symbols.PinValue ∷ ss) (record (idle d) { pins = ps })) ts ≡ run (Going ss (record (idle d) { pins = ps ++ pin_of p ∷ [] })) rest
reads_pin p ps ss d ts rest s =
    ap (run (Going (symbols.PinName ∷ symbols.Mark marks.LeftParen ∷ symbols.PinValue ∷ ss) (record (idle d) { pins = ps }))) s.1.1
    ∙ ap (run (Going (symbols.Mark marks.LeftParen ∷ symbols.PinValue ∷ ss) (record (idle d) { pin = Some p.name; pins = ps }))) s.2.1.1
    ∙ reads_value p.value p.name ps ss d s.2.0 s.2.2.0 rest s.2.2.1 s.2.2.2

reads_more_pins : (qs : List Pin) (ps : List (Name × Option (List Step))) (ss : List Symbol) (d : Draft) (ts end rest : List Token) → many (λ q. mark marks.Comma ⨾ pin q) qs ts end → mark marks.RightParen end rest → run (Going (symbols.MorePins ∷ ss) (record (idle d) { pins = ps })) ts ≡ run (Going ss (record (idle d) { pins = ps ++ map pin_of qs })) rest
reads_more_pins [] ps ss d ts end rest same w =
    ap (run (Going (symbols.MorePins ∷ ss) (record (idle d) { pins = ps }))) (same ∙ w.1) ∙ ap (λ l. run (Going ss (record (idle d) { pins = l })) rest) (sym (append-nil ps))
reads_more_pins (q ∷ qs) ps ss d ts end rest s w =
    ap (run (Going (symbols.MorePins ∷ ss) (record (idle d) { pins = ps }))) s.1.1.1
    ∙ ap (run (Going (symbols.Mark marks.Dot ∷ symbols.PinName ∷ symbols.Mark marks.LeftParen ∷ symbols.PinValue ∷ symbols.MorePins ∷ ss) (record (idle d) { pins = ps }))) s.1.2.1.1
    ∙ reads_pin q ps (symbols.MorePins ∷ ss) d s.1.2.0 s.0 s.1.2.2
    ∙ reads_more_pins qs (ps ++ pin_of q ∷ []) ss d s.0 end rest s.2 w
    ∙ ap (λ l. run (Going ss (record (idle d) { pins = l })) rest) (one_more ps (pin_of q) (map pin_of qs))

-- the draft with the connections of an instance
abbrev connected : Conns → Draft → Draft
connected (Places t) d = record (idle d) { terms = terms_of t }
connected NoPins d = idle d
connected (Pins p ps) d = record (idle d) { pins = pin_of p ∷ map pin_of ps }

reads_conns : (c : Conns) (ss : List Symbol) (d : Draft) (ts rest : List Token) → conns c ts rest → run (Going (symbols.Mark marks.LeftParen ∷ symbols.Conns ∷ ss) (idle d)) ts ≡ run (Going ss (connected c d)) rest
reads_conns (Places t) ss d ts rest s =
    ap (run (Going (symbols.Mark marks.LeftParen ∷ symbols.Conns ∷ ss) (idle d))) s.1.1
    ∙ as_terms ss (idle d) s.0 (starts_expr t.first s.0 s.2.0 s.2.1)
    ∙ sym (ap (run (Going (symbols.Mark marks.LeftParen ∷ symbols.Expr ∷ symbols.MoreTerms ∷ ss) (idle d))) s.1.1)
    ∙ reads_terms t ss d ts rest s
reads_conns NoPins ss d ts rest s =
    ap (run (Going (symbols.Mark marks.LeftParen ∷ symbols.Conns ∷ ss) (idle d))) s.1.1 ∙ ap (run (Going (symbols.Conns ∷ ss) (idle d))) s.2.1
reads_conns (Pins p ps) ss d ts rest s =
    ap (run (Going (symbols.Mark marks.LeftParen ∷ symbols.Conns ∷ ss) (idle d))) s.1.1
    ∙ ap (run (Going (symbols.Conns ∷ ss) (idle d))) s.2.1.1.1
    ∙ reads_pin p [] (symbols.MorePins ∷ ss) d s.2.1.0 s.2.0 s.2.1.2
    ∙ reads_more_pins ps (pin_of p ∷ []) ss d s.2.0 s.2.2.0 rest s.2.2.1 s.2.2.2

reads_instance : (i : Instance) (ss : List Symbol) (d : Draft) (ts rest : List Token) → instance i ts rest → run (Going (symbols.Instance ∷ ss) (idle d)) ts ≡ run (Going ss (connected i.conns d)) rest
reads_instance i ss d ts rest s = ap (run (Going (symbols.Instance ∷ ss) (idle d))) s.1.1 ∙ reads_conns i.conns ss d s.0 rest s.2

instance_complete : (x : Name) (c : Conns) (d : Draft) → instance_done (connected c (record d { cell = Some x })) ≡ idle (record d { cell = Some x; items = d.items ++ items.Cell d.line x (conns_of c) ∷ [] })
instance_complete x (Places t) d = refl
instance_complete x NoPins d = refl
instance_complete x (Pins p ps) d = refl

reads_more_instances : (is : List Instance) (i : Instance) (x : Name) (ss : List Symbol) (d : Draft) (ts end rest : List Token) → many (λ j. mark marks.Comma ⨾ instance j) is ts end → mark marks.Semicolon end rest → run (Going (symbols.MoreInstances ∷ ss) (connected i.conns (record d { cell = Some x }))) ts ≡ run (Going ss (idle (record d { cell = Some x; items = d.items ++ map (cell d.line x) (i ∷ is) }))) rest
reads_more_instances [] i x ss d ts end rest same w =
    ap (run (Going (symbols.MoreInstances ∷ ss) (connected i.conns (record d { cell = Some x })))) (same ∙ w.1)
    ∙ ap (λ e. run (Going ss e) rest) (instance_complete x i.conns d)
reads_more_instances (j ∷ is) i x ss d ts end rest s w =
    let f : Draft = record d { items = d.items ++ cell d.line x i ∷ [] } in
    ap (run (Going (symbols.MoreInstances ∷ ss) (connected i.conns (record d { cell = Some x })))) s.1.1.1
    ∙ ap (λ e. run (Going (symbols.Instance ∷ symbols.MoreInstances ∷ ss) e) s.1.0) (instance_complete x i.conns d)
    ∙ reads_instance j (symbols.MoreInstances ∷ ss) (record f { cell = Some x }) s.1.0 s.0 s.1.2
    ∙ reads_more_instances is j x ss f s.0 end rest s.2 w
    ∙ ap (λ l. run (Going ss (idle (record d { cell = Some x; items = l }))) rest) (one_more d.items (cell d.line x i) (map (cell d.line x) (j ∷ is)))

-- ---- declarations
pub reads_range : (r : Option (ℕ × ℕ)) (x : Name) (place : Place) (line : ℕ) (role : Role) (ss : List Symbol) (d : Draft) (ts mid rest : List Token) → range r ts mid → name x mid rest → run (Going (symbols.Range place ∷ ss) (begin_decl line role d)) ts ≡ run (Going ss (declare place x (record d { line = line; role = role; range = r }))) rest
reads_range None x place line role ss d ts mid rest same w = ap (run (Going (symbols.Range place ∷ ss) (begin_decl line role d))) (same ∙ w.1)
reads_range (Some r) x place line role ss d ts mid rest s w =
    ap (run (Going (symbols.Range place ∷ ss) (begin_decl line role d))) s.1.1
    ∙ ap (run (Going (symbols.RangeFrom ∷ symbols.Declared place ∷ ss) (begin_decl line role d))) s.2.1.1
    ∙ ap (run (Going (symbols.Mark marks.Colon ∷ symbols.RangeTo r.0 ∷ symbols.Mark marks.RightBracket ∷ symbols.Declared place ∷ ss) (begin_decl line role d))) s.2.2.1.1
    ∙ ap (run (Going (symbols.RangeTo r.0 ∷ symbols.Mark marks.RightBracket ∷ symbols.Declared place ∷ ss) (begin_decl line role d))) s.2.2.2.1.1
    ∙ ap (run (Going (symbols.Mark marks.RightBracket ∷ symbols.Declared place ∷ ss) (record d { line = line; role = role; range = Some r }))) s.2.2.2.2.1
    ∙ ap (run (Going (symbols.Declared place ∷ ss) (record d { line = line; role = role; range = Some r }))) w.1

-- without `wire` the type goes on as behind it
as_range : (r : Option (ℕ × ℕ)) (x : Name) (place : Place) (ss : List Symbol) (d : Draft) (ts mid rest : List Token) → range r ts mid → name x mid rest → run (Going (symbols.Type place ∷ ss) d) ts ≡ run (Going (symbols.Range place ∷ ss) d) ts
as_range None x place ss d ts mid rest same w = ap (run (Going (symbols.Type place ∷ ss) d)) (same ∙ w.1) ∙ sym (ap (run (Going (symbols.Range place ∷ ss) d)) (same ∙ w.1))
as_range (Some r) x place ss d ts mid rest s w = ap (run (Going (symbols.Type place ∷ ss) d)) s.1.1 ∙ sym (ap (run (Going (symbols.Range place ∷ ss) d)) s.1.1)

reads_wire : (has : Bool) (r : Option (ℕ × ℕ)) (x : Name) (place : Place) (line : ℕ) (role : Role) (ss : List Symbol) (d : Draft) (ts first mid rest : List Token) → wire has ts first → range r first mid → name x mid rest → run (Going (symbols.Type place ∷ ss) (begin_decl line role d)) ts ≡ run (Going ss (declare place x (record d { line = line; role = role; range = r }))) rest
reads_wire true r x place line role ss d ts first mid rest ww s w =
    ap (run (Going (symbols.Type place ∷ ss) (begin_decl line role d))) ww.1 ∙ reads_range r x place line role ss d first mid rest s w
reads_wire false r x place line role ss d ts first mid rest same s w =
    ap (run (Going (symbols.Type place ∷ ss) (begin_decl line role d))) same
    ∙ as_range r x place ss (begin_decl line role d) first mid rest s w
    ∙ reads_range r x place line role ss d first mid rest s w

pub reads_type : (t : Typed) (x : Name) (place : Place) (line : ℕ) (role : Role) (ss : List Symbol) (d : Draft) (ts mid rest : List Token) → rest_of_type t ts mid → name x mid rest → run (Going (symbols.Type place ∷ ss) (begin_decl line role d)) ts ≡ run (Going ss (declare place x (record d { line = line; role = role; range = t.range }))) rest
reads_type t x place line role ss d ts mid rest s w = reads_wire t.wire t.range x place line role ss d ts s.0 mid rest s.1 s.2 w

reads_more_decls : (xs : List Name) (ss : List Symbol) (d : Draft) (ts end rest : List Token) → names xs ts end → mark marks.Semicolon end rest → run (Going (symbols.MoreDecls ∷ ss) d) ts ≡ run (Going ss (record d { items = d.items ++ map (λ y. items.Decl (new_decl y d)) xs })) rest
reads_more_decls [] ss d ts end rest same w =
    ap (run (Going (symbols.MoreDecls ∷ ss) d)) (same ∙ w.1) ∙ ap (λ l. run (Going ss (record d { items = l })) rest) (sym (append-nil d.items))
reads_more_decls (x ∷ xs) ss d ts end rest s w =
    ap (run (Going (symbols.MoreDecls ∷ ss) d)) s.1.1.1
    ∙ ap (run (Going (symbols.Declared places.Body ∷ symbols.MoreDecls ∷ ss) d)) s.1.2.1
    ∙ reads_more_decls xs ss (declare places.Body x d) s.0 end rest s.2 w
    ∙ ap (λ l. run (Going ss (record d { items = l })) rest) (one_more d.items (items.Decl (new_decl x d)) (map (λ y. items.Decl (new_decl y d)) xs))

-- ---- statements
step_direction : (v : Direction) (line : ℕ) (ss : List Symbol) (d : Draft) → step (Going (symbols.Items ∷ ss) d) (record { kind = kinds.Key (direction_key v); line = line }) ≡ Going (symbols.Type places.Body ∷ symbols.MoreDecls ∷ symbols.Items ∷ ss) (begin_decl line (direction_role v) d)
step_direction In line ss d = refl
step_direction Out line ss d = refl

gate_keyword : (k : Keyword) (op : Op) (line : ℕ) (d : Draft) → gate_op k ≡ Some op → read_keyword k line d ≡ begin_gates (gate_op k) line d
gate_keyword keys.Endmodule op line d h = cc
gate_keyword keys.Input op line d h = cc
gate_keyword keys.Output op line d h = cc
gate_keyword keys.Wire op line d h = cc
gate_keyword keys.Assign op line d h = cc
gate_keyword _ op line d h = refl

step_gates : (k : Keyword) (op : Op) (line : ℕ) (ss : List Symbol) (d : Draft) → gate_op k ≡ Some op → step (Going (symbols.Items ∷ ss) d) (record { kind = kinds.Key k; line = line }) ≡ Going (symbols.Gate ∷ symbols.MoreGates ∷ symbols.Items ∷ ss) (record d { line = line; op = op })
step_gates k op line ss d h = ap (λ m. after_move m ss line) (gate_keyword k op line d h ∙ ap (λ o. begin_gates o line d) h)

-- a statement leads from a draft between statements to one with its items more
abbrev pub Reaches : Draft → List Item → List Symbol → List Token → List Token → Type 0
Reaches d new ss ts rest = (later : Draft) × (run (Going (symbols.Items ∷ ss) (idle d)) ts ≡ run (Going (symbols.Items ∷ ss) (idle later)) rest) × Gains d later new

-- names that are declared after the first
more_items : (before : List Item) (x : Name) (xs : List Name) (f : Name → Item) → (before ++ f x ∷ []) ++ map f xs ≡ before ++ map f (x ∷ xs)
more_items before x xs f = one_more before (f x) (map f xs)

pub reads_statement : (s : Statement) (ss : List Symbol) (d : Draft) (ts rest : List Token) → statement s ts rest → Reaches d (items_of s) ss ts rest
reads_statement (Directs line t x xs) ss d ts rest s =
    let new : List Item = map (λ y. items.Decl (typed_decl line t y)) (x ∷ xs) in
    let begun : Draft = record d { line = line; role = direction_role t.direction; range = t.range } in (
      record begun { items = d.items ++ new },
      ap (run (Going (symbols.Items ∷ ss) (idle d))) s.1
          ∙ ap (λ p. run p s.0) (step_direction t.direction line ss (idle d))
          ∙ reads_type t x places.Body line (direction_role t.direction) (symbols.MoreDecls ∷ symbols.Items ∷ ss) (idle d) s.0 s.2.0 s.2.2.0 s.2.1 s.2.2.1
          ∙ reads_more_decls xs (symbols.Items ∷ ss) (declare places.Body x (idle begun)) s.2.2.0 s.2.2.2.0 rest s.2.2.2.1 s.2.2.2.2
          ∙ ap (λ l. run (Going (symbols.Items ∷ ss) (idle (record begun { items = l }))) rest) (more_items d.items x xs (λ y. items.Decl (typed_decl line t y))),
      record { name = refl; names = refl; ports = refl; items = refl },
    )
reads_statement (Wires line r x xs) ss d ts rest s =
    let new : List Item = map (λ y. items.Decl (decl line roles.Wire r y)) (x ∷ xs) in
    let begun : Draft = record d { line = line; role = roles.Wire; range = r } in (
      record begun { items = d.items ++ new },
      ap (run (Going (symbols.Items ∷ ss) (idle d))) s.1
          ∙ reads_range r x places.Body line roles.Wire (symbols.MoreDecls ∷ symbols.Items ∷ ss) (idle d) s.0 s.2.0 s.2.2.0 s.2.1 s.2.2.1
          ∙ reads_more_decls xs (symbols.Items ∷ ss) (declare places.Body x (idle begun)) s.2.2.0 s.2.2.2.0 rest s.2.2.2.1 s.2.2.2.2
          ∙ ap (λ l. run (Going (symbols.Items ∷ ss) (idle (record begun { items = l }))) rest) (more_items d.items x xs (λ y. items.Decl (decl line roles.Wire r y))),
      record { name = refl; names = refl; ports = refl; items = refl },
    )
reads_statement (Assigns line e es) ss d ts rest s =
    let begun : Draft = record d { line = line } in (
      record begun { items = d.items ++ map (assign line) (e ∷ es) },
      ap (run (Going (symbols.Items ∷ ss) (idle d))) s.1
          ∙ reads_equation e (symbols.MoreEquations ∷ symbols.Items ∷ ss) begun s.0 s.2.0 s.2.1 (before_many equation es marks.Semicolon s.2.0 s.2.2.0 rest (omega arith) s.2.2.1 s.2.2.2)
          ∙ reads_more_equations es e (symbols.Items ∷ ss) begun s.2.0 s.2.2.0 rest s.2.2.1 s.2.2.2,
      record { name = refl; names = refl; ports = refl; items = refl },
    )
reads_statement (Gates line k op g gs) ss d ts rest s =
    let begun : Draft = record d { line = line; op = op } in
    let t = s.1 in (
      record begun { items = d.items ++ map (prim line op) (g ∷ gs) },
      ap (run (Going (symbols.Items ∷ ss) (idle d))) t.1
          ∙ ap (λ p. run p t.0) (step_gates k op line ss (idle d) s.0)
          ∙ reads_gate g (symbols.MoreGates ∷ symbols.Items ∷ ss) begun t.0 t.2.0 t.2.1
          ∙ reads_more_gates gs (terms_of g.terms) (symbols.Items ∷ ss) begun t.2.0 t.2.2.0 rest t.2.2.1 t.2.2.2,
      record { name = refl; names = refl; ports = refl; items = refl },
    )
reads_statement (Cells line x i is) ss d ts rest s =
    let begun : Draft = record d { line = line } in (
      record begun { cell = Some x; items = d.items ++ map (cell line x) (i ∷ is) },
      ap (run (Going (symbols.Items ∷ ss) (idle d))) s.1
          ∙ reads_instance i (symbols.MoreInstances ∷ symbols.Items ∷ ss) (record begun { cell = Some x }) s.0 s.2.0 s.2.1
          ∙ reads_more_instances is i x (symbols.Items ∷ ss) begun s.2.0 s.2.2.0 rest s.2.2.1 s.2.2.2,
      record { name = refl; names = refl; ports = refl; items = refl },
    )

gains_none : (d : Draft) → Gains d d []
gains_none d = record { name = refl; names = refl; ports = refl; items = sym (append-nil d.items) }

gains_both : (d e f : Draft) (new more : List Item) → Gains d e new → Gains e f more → Gains d f (new ++ more)
gains_both d e f new more g h = record {
  name = h.name ∙ g.name;
  names = h.names ∙ g.names;
  ports = h.ports ∙ g.ports;
  items = h.items ∙ ap (λ l. l ++ more) g.items ∙ append_assoc d.items new more;
}

pub reads_statements : (sts : List Statement) (ss : List Symbol) (d : Draft) (ts rest : List Token) → many statement sts ts rest → Reaches d (all_items sts) ss ts rest
reads_statements [] ss d ts rest same = (d, ap (run (Going (symbols.Items ∷ ss) (idle d))) same, gains_none d)
reads_statements (st ∷ sts) ss d ts rest s =
    let first = reads_statement st ss d ts s.0 s.1 in
    let more = reads_statements sts ss first.0 s.0 rest s.2 in
    (more.0, first.1 ∙ more.1, gains_both d first.0 more.0 (items_of st) (all_items sts) first.2 more.2)
