-- The module of tokens that a text may have is sound.
use Rattle.std.proofs.Common.{◌≡◌, ℕ, ◌+◌, ◌≤◌, List, [], ◌∷◌, Option, Some, None, Bool, true, false, subst, arith}
use Rattle.std.specs.List.{AllByRecursion}
use Rattle.bb_base.specs.declared.keyword.Keyword.TheVariants as keys
use Rattle.bb_base.specs.declared.token.Mark.TheVariants as marks
use Rattle.bb_base.specs.declared.token.Token.{Token}
use Rattle.bb_base.specs.declared.token.TokenKind.{TokenKind}
use Rattle.bb_base.specs.declared.token.TokenKind.TheVariants as kinds
use Rattle.bb_base.proofs.Lists.{all_join, all_map_back}
use Rattle.bb_base.specs.declared.operator.Op.{Op}
use Rattle.bb_base.specs.declared.operator.Op.TheVariants as ops
use Rattle.bb_base.specs.declared.keyword.Keyword.{Keyword}
use Rattle.bb_base.specs.Tokens.{IsProperKind, IsProper}
use Rattle.bb_base.specs.Variables.{IsRange}
use Rattle.bb_base.specs.Name.{IsName}
use Rattle.bb_base.specs.declared.variable.Role.TheVariants as roles
use Rattle.bb_parse.specs.declared.syntax.Item.TheVariants as items
use Rattle.bb_parse.specs.declared.syntax.Module.{Module}
use Rattle.bb_parse.specs.Spans.{Span, ◌⨾◌, word, word_at, mark, name, many}
use Rattle.bb_parse.specs.Trees.{Name, Select, Whole, Bit, Part, XorMark, ByCaret, ByTildeCaret, ByCaretTilde, Expr, AnExpr, Choice, NoChoice, Choose, Or, AnOr, Ors, NoOrs, MoreOrs, Xor, AnXor, Xors, NoXors, MoreXors, And, AnAnd, Ands, NoAnds, MoreAnds, Unary, Complement, Reference, Constant, Parens, Braces, Repeated, Exprs, NoExprs, MoreExprs, Terms, Left, Target, Targets, Lefts, NoLefts, MoreLefts, Typed, Port, Again, Anew, Header, NoHeader, NoPorts, PlainPorts, TypedPorts, Equation, Gate, Pin, Conns, Places, NoPins, Pins, Instance, Statement, Directs, Wires, Assigns, Gates, Cells, File}
use Rattle.bb_parse.specs.Grammar.{select, expr, choice, or, ors, xor, xors, and, ands, unary, exprs, terms, left, lefts, wire, range, rest_of_type, ports, header, equation, maybe_name, gate, gate_op, maybe_expr, pin, conns, instance, statement, file}
use Rattle.bb_parse.specs.Meaning.{select_of, xor_step, count, steps_of, choice_steps, or_steps, ors_steps, xor_steps, xors_steps, and_steps, ands_steps, unary_steps, exprs_steps, each, terms_of, targets, more_targets, decl, typed_decl, port_decls, header_of, pin_of, conns_of, assign, prim, cell, items_of, all_items, module_of, Denotes}
use Rattle.bb_parse.specs.Sound.{IsSoundRef, IsSoundStep, IsSoundExpr, IsSoundDecl, IsSoundPin, IsSoundConns, IsSoundItem, IsSoundHeader, IsSoundModule, IsPrimitive}

-- tokens that a text may have
abbrev pub Proper : List Token → Type 0
Proper ts = AllByRecursion IsProper ts

-- the token is one that a text may have, and so are those behind it
taken : (k : TokenKind) (ts rest : List Token) → Proper ts → word k ts rest → IsProperKind k × Proper rest
taken k ts rest p w = subst Proper w.1 p

taken_at : (line : ℕ) (k : TokenKind) (ts rest : List Token) → Proper ts → word_at line k ts rest → IsProperKind k × Proper rest
taken_at line k ts rest p w = subst Proper w p

same : (ts rest : List Token) → Proper ts → ts ≡ rest → Proper rest
same ts rest p e = subst Proper e p

sound_select : (s : Select) (ts rest : List Token) → Proper ts → select s ts rest → IsRange (select_of s) × Proper rest
sound_select Whole ts rest p e = (tt, same ts rest p e)
sound_select (Bit i) ts rest p (a, w, (b, n, v)) =
    let (x, pa) = taken (kinds.Mark marks.LeftBracket) ts a p w in
    let (y, pb) = taken (kinds.Number i) a b pa n in
    ((y, y), (taken (kinds.Mark marks.RightBracket) b rest pb v).1)
sound_select (Part i j) ts rest p (a, w, (b, n, (c, v, (d, m, u)))) =
    let (x, pa) = taken (kinds.Mark marks.LeftBracket) ts a p w in
    let (y, pb) = taken (kinds.Number i) a b pa n in
    let (z, pc) = taken (kinds.Mark marks.Colon) b c pb v in
    let (q, pd) = taken (kinds.Number j) c d pc m in
    ((y, q), (taken (kinds.Mark marks.RightBracket) d rest pd u).1)

sound_xor : (m : XorMark) → IsSoundStep (xor_step m)
sound_xor ByCaret = tt
sound_xor ByTildeCaret = tt
sound_xor ByCaretTilde = tt

mutual
  sound_expr : (e : Expr) (ts rest : List Token) → Proper ts → expr e ts rest → IsSoundExpr (steps_of e) × Proper rest
  sound_expr (AnExpr o c) ts rest p (a, s, r) =
      let (x, pa) = sound_or o ts a p s in
      let (y, pb) = sound_choice c a rest pa r in
      (all_join IsSoundStep (or_steps o) (choice_steps c) x y, pb)

  sound_choice : (c : Choice) (ts rest : List Token) → Proper ts → choice c ts rest → IsSoundExpr (choice_steps c) × Proper rest
  sound_choice NoChoice ts rest p e = (tt, same ts rest p e)
  sound_choice (Choose x y) ts rest p (a, w, (b, s, (c, v, r))) =
      let (q, pa) = taken (kinds.Mark marks.Question) ts a p w in
      let (sx, pb) = sound_expr x a b pa s in
      let (t, pc) = taken (kinds.Mark marks.Colon) b c pb v in
      let (sy, pd) = sound_expr y c rest pc r in
      (all_join IsSoundStep (steps_of x) _ sx (all_join IsSoundStep (steps_of y) _ sy (tt, tt)), pd)

  sound_or : (o : Or) (ts rest : List Token) → Proper ts → or o ts rest → IsSoundExpr (or_steps o) × Proper rest
  sound_or (AnOr x os) ts rest p (a, s, r) =
      let (sx, pa) = sound_xor_row x ts a p s in
      let (so, pb) = sound_ors os a rest pa r in
      (all_join IsSoundStep (xor_steps x) (ors_steps os) sx so, pb)

  sound_ors : (o : Ors) (ts rest : List Token) → Proper ts → ors o ts rest → IsSoundExpr (ors_steps o) × Proper rest
  sound_ors NoOrs ts rest p e = (tt, same ts rest p e)
  sound_ors (MoreOrs x os) ts rest p (a, w, (b, s, r)) =
      let (q, pa) = taken (kinds.Mark marks.Bar) ts a p w in
      let (sx, pb) = sound_xor_row x a b pa s in
      let (so, pc) = sound_ors os b rest pb r in
      (all_join IsSoundStep (xor_steps x) _ sx (tt, so), pc)

  sound_xor_row : (x : Xor) (ts rest : List Token) → Proper ts → xor x ts rest → IsSoundExpr (xor_steps x) × Proper rest
  sound_xor_row (AnXor n xs) ts rest p (a, s, r) =
      let (sx, pa) = sound_and n ts a p s in
      let (so, pb) = sound_xors xs a rest pa r in
      (all_join IsSoundStep (and_steps n) (xors_steps xs) sx so, pb)

  sound_xors : (x : Xors) (ts rest : List Token) → Proper ts → xors x ts rest → IsSoundExpr (xors_steps x) × Proper rest
  sound_xors NoXors ts rest p e = (tt, same ts rest p e)
  sound_xors (MoreXors m n xs) ts rest p (a, w, (b, s, r)) =
      let pa : Proper a = (subst Proper w.1 p).1 in
      let (sx, pb) = sound_and n a b pa s in
      let (so, pc) = sound_xors xs b rest pb r in
      (all_join IsSoundStep (and_steps n) _ sx (sound_xor m, so), pc)

  sound_and : (n : And) (ts rest : List Token) → Proper ts → and n ts rest → IsSoundExpr (and_steps n) × Proper rest
  sound_and (AnAnd u more) ts rest p (a, s, r) =
      let (sx, pa) = sound_unary u ts a p s in
      let (so, pb) = sound_ands more a rest pa r in
      (all_join IsSoundStep (unary_steps u) (ands_steps more) sx so, pb)

  sound_ands : (n : Ands) (ts rest : List Token) → Proper ts → ands n ts rest → IsSoundExpr (ands_steps n) × Proper rest
  sound_ands NoAnds ts rest p e = (tt, same ts rest p e)
  sound_ands (MoreAnds u more) ts rest p (a, w, (b, s, r)) =
      let (q, pa) = taken (kinds.Mark marks.Amp) ts a p w in
      let (sx, pb) = sound_unary u a b pa s in
      let (so, pc) = sound_ands more b rest pb r in
      (all_join IsSoundStep (unary_steps u) _ sx (tt, so), pc)

  sound_unary : (u : Unary) (ts rest : List Token) → Proper ts → unary u ts rest → IsSoundExpr (unary_steps u) × Proper rest
  sound_unary (Complement u) ts rest p (a, w, s) =
      let (q, pa) = taken (kinds.Mark marks.Tilde) ts a p w in
      let (su, pb) = sound_unary u a rest pa s in
      (all_join IsSoundStep (unary_steps u) _ su (tt, tt), pb)
  sound_unary (Reference x sel) ts rest p (a, w, s) =
      let (n, pa) = taken (kinds.Name x) ts a p w in
      let (r, pb) = sound_select sel a rest pa s in
      ((record { name = n; select = r }, tt), pb)
  sound_unary (Constant size value) ts rest p w =
      let (c, pa) = taken (kinds.Const size value) ts rest p w in
      ((c, tt), pa)
  sound_unary (Parens e) ts rest p (a, w, (b, s, v)) =
      let (q, pa) = taken (kinds.Mark marks.LeftParen) ts a p w in
      let (se, pb) = sound_expr e a b pa s in
      (se, (taken (kinds.Mark marks.RightParen) b rest pb v).1)
  sound_unary (Braces e es) ts rest p (a, w, (b, s, (c, r, v))) =
      let (q, pa) = taken (kinds.Mark marks.LeftBrace) ts a p w in
      let (se, pb) = sound_expr e a b pa s in
      let (sm, pc) = sound_exprs es b c pb r in
      let one : 1 ≤ count es + 1 = omega arith in
      (all_join IsSoundStep (steps_of e) _ se (all_join IsSoundStep (exprs_steps es) _ sm (one, tt)), (taken (kinds.Mark marks.RightBrace) c rest pc v).1)
  sound_unary (Repeated n e es) ts rest p (some, (a, w, (b, num, (c, w2, (d, s, (f, r, (g, v, v2))))))) =
      let (q, pa) = taken (kinds.Mark marks.LeftBrace) ts a p w in
      let (below, pb) = taken (kinds.Number n) a b pa num in
      let (q2, pc) = taken (kinds.Mark marks.LeftBrace) b c pb w2 in
      let (se, pd) = sound_expr e c d pc s in
      let (sm, pf) = sound_exprs es d f pd r in
      let (q3, pg) = taken (kinds.Mark marks.RightBrace) f g pf v in
      let one : 1 ≤ count es + 1 = omega arith in
      (all_join IsSoundStep (steps_of e) _ se (all_join IsSoundStep (exprs_steps es) _ sm (one, ((some, below), tt))), (taken (kinds.Mark marks.RightBrace) g rest pg v2).1)

  sound_exprs : (es : Exprs) (ts rest : List Token) → Proper ts → exprs es ts rest → IsSoundExpr (exprs_steps es) × Proper rest
  sound_exprs NoExprs ts rest p e = (tt, same ts rest p e)
  sound_exprs (MoreExprs e es) ts rest p (a, w, (b, s, r)) =
      let (q, pa) = taken (kinds.Mark marks.Comma) ts a p w in
      let (se, pb) = sound_expr e a b pa s in
      let (sm, pc) = sound_exprs es b rest pb r in
      (all_join IsSoundStep (steps_of e) (exprs_steps es) se sm, pc)

sound_each : (es : Exprs) (ts rest : List Token) → Proper ts → exprs es ts rest → AllByRecursion IsSoundExpr (each es) × Proper rest
sound_each NoExprs ts rest p e = (tt, same ts rest p e)
sound_each (MoreExprs e es) ts rest p (a, w, (b, s, r)) =
    let (q, pa) = taken (kinds.Mark marks.Comma) ts a p w in
    let (se, pb) = sound_expr e a b pa s in
    let (sm, pc) = sound_each es b rest pb r in
    ((se, sm), pc)

sound_terms : (t : Terms) (ts rest : List Token) → Proper ts → terms t ts rest → AllByRecursion IsSoundExpr (terms_of t) × Proper rest
sound_terms t ts rest p (a, w, (b, s, (c, r, v))) =
    let (q, pa) = taken (kinds.Mark marks.LeftParen) ts a p w in
    let (se, pb) = sound_expr t.first a b pa s in
    let (sm, pc) = sound_each t.more b c pb r in
    ((se, sm), (taken (kinds.Mark marks.RightParen) c rest pc v).1)

mutual
  sound_left : (l : Left) (ts rest : List Token) → Proper ts → left l ts rest → AllByRecursion IsSoundRef (targets l) × Proper rest
  sound_left (Target x sel) ts rest p (a, w, s) =
      let (n, pa) = taken (kinds.Name x) ts a p w in
      let (r, pb) = sound_select sel a rest pa s in
      ((record { name = n; select = r }, tt), pb)
  sound_left (Targets l ls) ts rest p (a, w, (b, s, (c, r, v))) =
      let (q, pa) = taken (kinds.Mark marks.LeftBrace) ts a p w in
      let (sl, pb) = sound_left l a b pa s in
      let (sm, pc) = sound_lefts ls b c pb r in
      (all_join IsSoundRef (targets l) (more_targets ls) sl sm, (taken (kinds.Mark marks.RightBrace) c rest pc v).1)

  sound_lefts : (ls : Lefts) (ts rest : List Token) → Proper ts → lefts ls ts rest → AllByRecursion IsSoundRef (more_targets ls) × Proper rest
  sound_lefts NoLefts ts rest p e = (tt, same ts rest p e)
  sound_lefts (MoreLefts l ls) ts rest p (a, w, (b, s, r)) =
      let (q, pa) = taken (kinds.Mark marks.Comma) ts a p w in
      let (sl, pb) = sound_left l a b pa s in
      let (sm, pc) = sound_lefts ls b rest pb r in
      (all_join IsSoundRef (targets l) (more_targets ls) sl sm, pc)

-- rows of things behind commas
sound_many : {A : Type 0} (span : A → Span) (P : A → Type 0) → ((x : A) (ts rest : List Token) → Proper ts → span x ts rest → P x × Proper rest) → (xs : List A) (ts rest : List Token) → Proper ts → many (λ x. mark marks.Comma ⨾ span x) xs ts rest → AllByRecursion P xs × Proper rest
sound_many span P one [] ts rest p e = (tt, same ts rest p e)
sound_many span P one (x ∷ xs) ts rest p (b, (a, w, s), r) =
    let (q, pa) = taken (kinds.Mark marks.Comma) ts a p w in
    let (sx, pb) = one x a b pa s in
    let (sm, pc) = sound_many span P one xs b rest pb r in
    ((sx, sm), pc)

sound_name : (x : Name) (ts rest : List Token) → Proper ts → name x ts rest → IsName x × Proper rest
sound_name x ts rest p w = taken (kinds.Name x) ts rest p w

-- ---- declarations
sound_range : (r : Option (ℕ × ℕ)) (ts rest : List Token) → Proper ts → range r ts rest → IsRange r × Proper rest
sound_range None ts rest p e = (tt, same ts rest p e)
sound_range (Some r) ts rest p (a, w, (b, n, (c, v, (d, m, u)))) =
    let (x, pa) = taken (kinds.Mark marks.LeftBracket) ts a p w in
    let (y, pb) = taken (kinds.Number r.0) a b pa n in
    let (z, pc) = taken (kinds.Mark marks.Colon) b c pb v in
    let (q, pd) = taken (kinds.Number r.1) c d pc m in
    ((y, q), (taken (kinds.Mark marks.RightBracket) d rest pd u).1)

past_wire : (b : Bool) (ts rest : List Token) → Proper ts → wire b ts rest → Proper rest
past_wire true ts rest p w = (taken (kinds.Key keys.Wire) ts rest p w).1
past_wire false ts rest p e = same ts rest p e

sound_type : (t : Typed) (ts rest : List Token) → Proper ts → rest_of_type t ts rest → IsRange t.range × Proper rest
sound_type t ts rest p (a, w, s) = sound_range t.range a rest (past_wire t.wire ts a p w) s

sound_ports : (ps : List Port) (line : ℕ) (t : Typed) (ts rest : List Token) → Proper ts → IsRange t.range → ports ps ts rest → AllByRecursion IsSoundDecl (port_decls line t ps) × Proper rest
sound_ports [] line t ts rest p r e = (tt, same ts rest p e)
sound_ports (Again x ∷ ps) line t ts rest p r (b, (a, w, s), more) =
    let (q, pa) = taken (kinds.Mark marks.Comma) ts a p w in
    let (n, pb) = taken (kinds.Name x) a b pa s in
    let (sm, pc) = sound_ports ps line t b rest pb r more in
    ((record { name = n; range = r }, sm), pc)
sound_ports (Anew u x ∷ ps) line t ts rest p r (b, (a, w, (c, k, (d, s, m))), more) =
    let (q, pa) = taken (kinds.Mark marks.Comma) ts a p w in
    let pc : Proper c = (subst Proper k.1 pa).1 in
    let (ru, pd) = sound_type u c d pc s in
    let (n, pb) = taken (kinds.Name x) d b pd m in
    let (sm, pf) = sound_ports ps line u b rest pb ru more in
    ((record { name = n; range = ru }, sm), pf)

sound_header : (h : Header) (line : ℕ) (ts rest : List Token) → Proper ts → header h ts rest → IsSoundHeader (header_of line h) × Proper rest
sound_header NoHeader line ts rest p e = (tt, same ts rest p e)
sound_header NoPorts line ts rest p (a, w, v) =
    let (q, pa) = taken (kinds.Mark marks.LeftParen) ts a p w in
    (tt, (taken (kinds.Mark marks.RightParen) a rest pa v).1)
sound_header (PlainPorts x xs) line ts rest p (a, w, (b, n, (c, more, v))) =
    let (q, pa) = taken (kinds.Mark marks.LeftParen) ts a p w in
    let (sn, pb) = taken (kinds.Name x) a b pa n in
    let (sm, pc) = sound_many name IsName sound_name xs b c pb more in
    ((sn, sm), (taken (kinds.Mark marks.RightParen) c rest pc v).1)
sound_header (TypedPorts t x ps) line ts rest p (a, w, (b, k, (c, s, (d, n, (f, more, v))))) =
    let (q, pa) = taken (kinds.Mark marks.LeftParen) ts a p w in
    let pb : Proper b = (subst Proper k.1 pa).1 in
    let (r, pc) = sound_type t b c pb s in
    let (sn, pd) = taken (kinds.Name x) c d pc n in
    let (sm, pf) = sound_ports ps line t d f pd r more in
    ((record { name = sn; range = r }, sm), (taken (kinds.Mark marks.RightParen) f rest pf v).1)

-- ---- statements
abbrev SoundEquation : Equation → Type 0
SoundEquation e = AllByRecursion IsSoundRef (targets e.left) × IsSoundExpr (steps_of e.right)

sound_equation : (e : Equation) (ts rest : List Token) → Proper ts → equation e ts rest → SoundEquation e × Proper rest
sound_equation e ts rest p (a, s, (b, w, r)) =
    let (sl, pa) = sound_left e.left ts a p s in
    let (q, pb) = taken (kinds.Mark marks.Equals) a b pa w in
    let (sr, pc) = sound_expr e.right b rest pb r in
    ((sl, sr), pc)

past_named : (o : Option Name) (ts rest : List Token) → Proper ts → maybe_name o ts rest → Proper rest
past_named None ts rest p e = same ts rest p e
past_named (Some x) ts rest p w = (taken (kinds.Name x) ts rest p w).1

abbrev SoundGate : Gate → Type 0
SoundGate g = AllByRecursion IsSoundExpr (terms_of g.terms)

sound_gate : (g : Gate) (ts rest : List Token) → Proper ts → gate g ts rest → SoundGate g × Proper rest
sound_gate g ts rest p (a, w, s) = sound_terms g.terms a rest (past_named g.instance ts a p w) s

sound_value : (v : Option Expr) (x : Name) (ts rest : List Token) → Proper ts → IsName x → maybe_expr v ts rest → IsSoundPin (pin_of (record { name = x; value = v })) × Proper rest
sound_value None x ts rest p n e = ((n, tt), same ts rest p e)
sound_value (Some e) x ts rest p n s =
    let (se, pa) = sound_expr e ts rest p s in
    ((n, se), pa)

abbrev SoundPin : Pin → Type 0
SoundPin p = IsSoundPin (pin_of p)

sound_pin : (x : Pin) (ts rest : List Token) → Proper ts → pin x ts rest → SoundPin x × Proper rest
sound_pin x ts rest p (a, w, (b, n, (c, v, (d, s, u)))) =
    let (q, pa) = taken (kinds.Mark marks.Dot) ts a p w in
    let (sn, pb) = taken (kinds.Name x.name) a b pa n in
    let (q2, pc) = taken (kinds.Mark marks.LeftParen) b c pb v in
    let (sv, pd) = sound_value x.value x.name c d pc sn s in
    (sv, (taken (kinds.Mark marks.RightParen) d rest pd u).1)

sound_conns : (c : Conns) (ts rest : List Token) → Proper ts → conns c ts rest → IsSoundConns (conns_of c) × Proper rest
sound_conns (Places t) ts rest p s = sound_terms t ts rest p s
sound_conns NoPins ts rest p (a, w, v) =
    let (q, pa) = taken (kinds.Mark marks.LeftParen) ts a p w in
    (tt, (taken (kinds.Mark marks.RightParen) a rest pa v).1)
sound_conns (Pins x xs) ts rest p (a, w, (b, s, (c, more, v))) =
    let (q, pa) = taken (kinds.Mark marks.LeftParen) ts a p w in
    let (sx, pb) = sound_pin x a b pa s in
    let (sm, pc) = sound_many pin SoundPin sound_pin xs b c pb more in
    ((sx, all_map_back IsSoundPin SoundPin pin_of (λ y h. h) xs sm), (taken (kinds.Mark marks.RightParen) c rest pc v).1)

abbrev SoundInstance : Instance → Type 0
SoundInstance i = IsSoundConns (conns_of i.conns)

sound_instance : (i : Instance) (ts rest : List Token) → Proper ts → instance i ts rest → SoundInstance i × Proper rest
sound_instance i ts rest p (a, w, s) = sound_conns i.conns a rest (taken (kinds.Name i.name) ts a p w).1 s

no_zero : (k : Keyword) → gate_op k ≡ Some ops.Zero → ⊥
no_zero keys.And h = cc
no_zero k h = cc

no_one : (k : Keyword) → gate_op k ≡ Some ops.One → ⊥
no_one keys.And h = cc
no_one k h = cc

-- a keyword names no constant
primitive_of : (k : Keyword) (op : Op) → gate_op k ≡ Some op → IsPrimitive op
primitive_of k ops.Zero h = no_zero k h
primitive_of k ops.One h = no_one k h
primitive_of k op h = tt

sound_statement : (s : Statement) (ts rest : List Token) → Proper ts → statement s ts rest → AllByRecursion IsSoundItem (items_of s) × Proper rest
sound_statement (Directs line t x xs) ts rest p (a, w, (b, s, (c, n, (d, more, v)))) =
    let pa : Proper a = (subst Proper w p).1 in
    let (r, pb) = sound_type t a b pa s in
    let (sn, pc) = taken (kinds.Name x) b c pb n in
    let (sm, pd) = sound_many name IsName sound_name xs c d pc more in
    (all_map_back IsSoundItem IsName (λ y. items.Decl (typed_decl line t y)) (λ y h. record { name = h; range = r }) (x ∷ xs) (sn, sm), (taken (kinds.Mark marks.Semicolon) d rest pd v).1)
sound_statement (Wires line o x xs) ts rest p (a, w, (b, s, (c, n, (d, more, v)))) =
    let (q, pa) = taken_at line (kinds.Key keys.Wire) ts a p w in
    let (r, pb) = sound_range o a b pa s in
    let (sn, pc) = taken (kinds.Name x) b c pb n in
    let (sm, pd) = sound_many name IsName sound_name xs c d pc more in
    (all_map_back IsSoundItem IsName (λ y. items.Decl (decl line roles.Wire o y)) (λ y h. record { name = h; range = r }) (x ∷ xs) (sn, sm), (taken (kinds.Mark marks.Semicolon) d rest pd v).1)
sound_statement (Assigns line e es) ts rest p (a, w, (b, s, (c, more, v))) =
    let (q, pa) = taken_at line (kinds.Key keys.Assign) ts a p w in
    let (se, pb) = sound_equation e a b pa s in
    let (sm, pc) = sound_many equation SoundEquation sound_equation es b c pb more in
    (all_map_back IsSoundItem SoundEquation (assign line) (λ y h. h) (e ∷ es) (se, sm), (taken (kinds.Mark marks.Semicolon) c rest pc v).1)
sound_statement (Gates line k op g gs) ts rest p (is, (a, w, (b, s, (c, more, v)))) =
    let pa : Proper a = (subst Proper w p).1 in
    let (sg, pb) = sound_gate g a b pa s in
    let (sm, pc) = sound_many gate SoundGate sound_gate gs b c pb more in
    (all_map_back IsSoundItem SoundGate (prim line op) (λ y h. (primitive_of k op is, h)) (g ∷ gs) (sg, sm), (taken (kinds.Mark marks.Semicolon) c rest pc v).1)
sound_statement (Cells line x i is) ts rest p (a, w, (b, s, (c, more, v))) =
    let (n, pa) = taken_at line (kinds.Name x) ts a p w in
    let (si, pb) = sound_instance i a b pa s in
    let (sm, pc) = sound_many instance SoundInstance sound_instance is b c pb more in
    (all_map_back IsSoundItem SoundInstance (cell line x) (λ y h. (n, h)) (i ∷ is) (si, sm), (taken (kinds.Mark marks.Semicolon) c rest pc v).1)

sound_statements : (sts : List Statement) (ts rest : List Token) → Proper ts → many statement sts ts rest → AllByRecursion IsSoundItem (all_items sts) × Proper rest
sound_statements [] ts rest p e = (tt, same ts rest p e)
sound_statements (st ∷ sts) ts rest p (a, s, more) =
    let (ss, pa) = sound_statement st ts a p s in
    let (sm, pb) = sound_statements sts a rest pa more in
    (all_join IsSoundItem (items_of st) (all_items sts) ss sm, pb)

sound_file : (f : File) (ts rest : List Token) → Proper ts → file f ts rest → IsSoundModule (module_of f)
sound_file f ts rest p (a, w, (b, n, (c, h, (d, v, (g, body, u))))) =
    let (q, pa) = taken_at f.line (kinds.Key keys.Module) ts a p w in
    let (sn, pb) = taken (kinds.Name f.name) a b pa n in
    let (sh, pc) = sound_header f.header f.line b c pb h in
    let (q2, pd) = taken (kinds.Mark marks.Semicolon) c d pc v in
    let (sb, pe) = sound_statements f.statements d g pd body in
    record { name = sn; header = sh; items = sb }

pub sound_module : (tokens : List Token) (value : Module) → Proper tokens → Denotes tokens value → IsSoundModule value
sound_module tokens value p (f, s, is) = subst IsSoundModule is (sound_file f tokens [] p s)
