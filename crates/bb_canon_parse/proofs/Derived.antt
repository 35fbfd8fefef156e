-- The tokens of a canonical text, derived by the grammar from the module that it spells.
use Rattle.std.proofs.Common.{◌≡◌, ℕ, ◌+◌, List, [], ◌∷◌, ◌++◌, length, map, codes, Option, Some, None, false, refl, ap, ◌∙◌, append_assoc}
use Rattle.std.proofs.lemmas.List.{append-nil}
use Rattle.std.specs.Option.{option_map}
use Rattle.bb_base.specs.declared.keyword.Keyword.{Keyword}
use Rattle.bb_base.specs.declared.keyword.Keyword.TheVariants as keys
use Rattle.bb_base.specs.declared.token.Mark.TheVariants as marks
use Rattle.bb_base.specs.declared.token.Token.{Token}
use Rattle.bb_base.specs.declared.token.TokenKind.{TokenKind}
use Rattle.bb_base.specs.declared.token.TokenKind.TheVariants.{Key, Name, Const, Mark}
use Rattle.bb_lex.specs.Text as lexical
use Rattle.bb_base.specs.declared.operator.Op.{Op}
use Rattle.bb_base.specs.declared.operator.Op.TheVariants.{And, Nand, Or, Nor, Xor, Xnor, Not, Buf, Zero, One}
use Rattle.bb_base.specs.declared.variable.Role.{Role}
use Rattle.bb_base.specs.declared.variable.Role.TheVariants.{Input, Output, Wire}
use Rattle.bb_base.specs.Net.{Gate, Flop}
use Rattle.bb_base.specs.Variables.{Entry, Bit}
use Rattle.bb_base.specs.Named.{Design}
use Rattle.bb_parse.specs.Spans.{Span, ◌⨾◌, nothing, word_at, key, mark, name, many}
use Rattle.bb_parse.specs.Trees as trees
use Rattle.bb_parse.specs.Grammar as grammar
use Rattle.bb_parse.specs.Meaning as meaning
use Rattle.bb_parse.specs.declared.syntax.Item.{Item}
use Rattle.bb_parse.specs.declared.syntax.Item.TheVariants as items
use Rattle.bb_parse.specs.declared.syntax.Conns.TheVariants as conns
use Rattle.bb_parse.specs.declared.syntax.Header.TheVariants as headers
use Rattle.bb_parse.specs.declared.syntax.Step.TheVariants as steps
use Rattle.bb_spell.specs.Canonical.{port_names, canonical_text}
use Rattle.bb_grammar.specs.Texts.{IsModuleOf}
use Rattle.bb_canon_parse.specs.Printed as printed
use Rattle.bb_spell.specs.Writable.{IsText}
use Rattle.bb_canon_parse.proofs.Lined.{text_lexed}
use Rattle.bb_canon_parse.proofs.LineKinds.{Kinds, paren_end, further_names, names_kinds, role_key, range_kinds, declaration_kinds, bit_kinds, further_bits, primitive_kinds, constant_kinds, kinds_by, statement_kinds, flop_name, flop_kinds, end_kinds, at, all_tokens, counted_tokens, flops_tokens, text_tokens}
use Rattle.bb_canon_parse.proofs.Takes.{kind, Takes, takes_join, takes_same, takes_nothing, takes_word, takes_first, takes_behind, such_is, index_select, takes_bit, just, takes_just, bit_expr, bit_exprs, bit_terms, terms_kinds, takes_terms, terms_behind, takes_end, takes_range, takes_named}

-- trees of statements, by their lines
abbrev direction_of : Role → Option trees.Direction
direction_of Input = Some trees.In
direction_of Output = Some trees.Out
direction_of Wire = None

abbrev declared_by : Option trees.Direction → ℕ → List ℕ → Option (ℕ × ℕ) → trees.Statement
declared_by None line x r = trees.Wires line r x []
declared_by (Some d) line x r = trees.Directs line (record { direction = d; wire = false; range = r }) x []

abbrev declared_tree : ℕ → Entry → trees.Statement
declared_tree line v = declared_by (direction_of v.1.role) line v.0 v.1.range

abbrev gate_tree : Keyword → Op → ℕ → Bit → List Bit → trees.Statement
gate_tree k op line out ins = trees.Gates line k op (record { instance = None; terms = bit_terms out ins }) []

abbrev constant_equation : Bit → ℕ → trees.Equation
constant_equation out value = record { left = trees.Target out.name (index_select out.index); right = just (trees.Constant 1 value) }

abbrev constant_tree : ℕ → Bit → ℕ → trees.Statement
constant_tree line out value = trees.Assigns line (constant_equation out value) []

abbrev stated_tree : Op → ℕ → Bit → List Bit → trees.Statement
stated_tree And line out ins = gate_tree keys.And And line out ins
stated_tree Nand line out ins = gate_tree keys.Nand Nand line out ins
stated_tree Or line out ins = gate_tree keys.Or Or line out ins
stated_tree Nor line out ins = gate_tree keys.Nor Nor line out ins
stated_tree Xor line out ins = gate_tree keys.Xor Xor line out ins
stated_tree Xnor line out ins = gate_tree keys.Xnor Xnor line out ins
stated_tree Not line out ins = gate_tree keys.Not Not line out ins
stated_tree Buf line out ins = gate_tree keys.Buf Buf line out ins
stated_tree Zero line out ins = constant_tree line out 0
stated_tree One line out ins = constant_tree line out 1

abbrev flop_instance : Bit → ℕ → Flop Bit → trees.Instance
flop_instance clock j f = record { name = flop_name j; conns = trees.Places (bit_terms clock (f.q ∷ f.d ∷ [])) }

abbrev flop_tree : Bit → ℕ → ℕ → Flop Bit → trees.Statement
flop_tree clock j line f = trees.Cells line (codes "dff") (flop_instance clock j f) []

-- the tokens of one line are spanned so, whatever follows them
abbrev InLine : ℕ → Kinds → Span → Type 0
InLine line ks span = (rest : List Token) → span (at line ks ++ rest) rest

kinds_at : (line : ℕ) (ks : Kinds) → map kind (at line ks) ≡ ks
kinds_at line [] = refl
kinds_at line (k ∷ ks) = ap (λ z. k ∷ z) (kinds_at line ks)

in_line : (line : ℕ) (ks : Kinds) (p : Span) → Takes ks p → InLine line ks p
in_line line ks p h rest = h (at line ks) rest (kinds_at line ks)

-- a token in its line, and a span behind it
line_first : (line : ℕ) (k : TokenKind) (ms : Kinds) (q : Span) → Takes ms q → InLine line (k ∷ ms) (word_at line k ⨾ q)
line_first line k ms q h rest = (at line ms ++ rest, refl, in_line line ms q h rest)

-- declarations
line_wire : (line : ℕ) (x : List ℕ) (r : Option (ℕ × ℕ)) → InLine line (Key keys.Wire ∷ (range_kinds r ++ Name x ∷ Mark marks.Semicolon ∷ [])) (grammar.statement (trees.Wires line r x []))
line_wire line x r =
    let last : Kinds = Name x ∷ Mark marks.Semicolon ∷ [] in
    let named : Span = name x ⨾ (grammar.names [] ⨾ mark marks.Semicolon) in
    line_first line (Key keys.Wire) (range_kinds r ++ last) (grammar.range r ⨾ named) (takes_join (range_kinds r) last (grammar.range r) named (takes_range r) (takes_named x))

line_port : (line : ℕ) (d : trees.Direction) (x : List ℕ) (r : Option (ℕ × ℕ)) → InLine line (Key (grammar.direction_key d) ∷ (range_kinds r ++ Name x ∷ Mark marks.Semicolon ∷ [])) (grammar.statement (trees.Directs line (record { direction = d; wire = false; range = r }) x []))
line_port line d x r =
    let last : Kinds = Name x ∷ Mark marks.Semicolon ∷ [] in
    let named : Span = name x ⨾ (grammar.names [] ⨾ mark marks.Semicolon) in
    let type : Span = nothing ⨾ grammar.range r in
    line_first line (Key (grammar.direction_key d)) (range_kinds r ++ last) (type ⨾ named) (takes_join (range_kinds r) last type named (takes_behind (range_kinds r) (grammar.range r) (takes_range r)) (takes_named x))

line_declared : (line : ℕ) (x : List ℕ) (r : Option (ℕ × ℕ)) (role : Role) → InLine line (Key (role_key role) ∷ (range_kinds r ++ Name x ∷ Mark marks.Semicolon ∷ [])) (grammar.statement (declared_by (direction_of role) line x r))
line_declared line x r Input = line_port line trees.In x r
line_declared line x r Output = line_port line trees.Out x r
line_declared line x r Wire = line_wire line x r

-- gates
line_gate : (k : Keyword) (op : Op) (line : ℕ) (out : Bit) (ins : List Bit) → grammar.gate_op k ≡ Some op → InLine line (primitive_kinds k out ins) (grammar.statement (gate_tree k op line out ins))
line_gate k op line out ins known rest =
    let g : trees.Gate = record { instance = None; terms = bit_terms out ins } in
    let more : Span = nothing ⨾ mark marks.Semicolon in
    let q : Span = grammar.gate g ⨾ more in
    such_is (grammar.gate_op k ≡ Some op) (word_at line (Key k) ⨾ q) (at line (primitive_kinds k out ins) ++ rest) rest known
    (line_first line (Key k) (terms_kinds out ins (Mark marks.Semicolon ∷ [])) q
    (takes_same (terms_kinds out ins [] ++ Mark marks.Semicolon ∷ []) (terms_kinds out ins (Mark marks.Semicolon ∷ [])) q (terms_behind out ins (Mark marks.Semicolon ∷ []))
    (takes_join (terms_kinds out ins []) (Mark marks.Semicolon ∷ []) (grammar.gate g) more (takes_behind (terms_kinds out ins []) (grammar.terms (bit_terms out ins)) (takes_terms out ins)) takes_end)) rest)

line_constant : (line : ℕ) (out : Bit) (value : ℕ) → InLine line (constant_kinds out value) (grammar.statement (constant_tree line out value))
line_constant line out value =
    let right : Kinds = Mark marks.Equals ∷ Const 1 value ∷ [] in
    let e : trees.Equation = constant_equation out value in
    let value_span : Span = grammar.expr (just (trees.Constant 1 value)) in
    let more : Span = nothing ⨾ mark marks.Semicolon in
    let q : Span = grammar.equation e ⨾ more in
    line_first line (Key keys.Assign) (bit_kinds out ++ Mark marks.Equals ∷ Const 1 value ∷ Mark marks.Semicolon ∷ []) q
    (takes_same ((bit_kinds out ++ right) ++ Mark marks.Semicolon ∷ []) (bit_kinds out ++ Mark marks.Equals ∷ Const 1 value ∷ Mark marks.Semicolon ∷ []) q (append_assoc (bit_kinds out) right (Mark marks.Semicolon ∷ []))
    (takes_join (bit_kinds out ++ right) (Mark marks.Semicolon ∷ []) (grammar.equation e) more
    (takes_join (bit_kinds out) right (grammar.left e.left) (mark marks.Equals ⨾ value_span) (takes_bit out) (takes_first (Mark marks.Equals) (Const 1 value ∷ []) value_span (takes_just (trees.Constant 1 value) (Const 1 value ∷ []) (takes_word (Const 1 value)))))
    takes_end))

line_stated : (op : Op) (line : ℕ) (out : Bit) (ins : List Bit) → InLine line (kinds_by op out ins) (grammar.statement (stated_tree op line out ins))
line_stated And line out ins = line_gate keys.And And line out ins refl
line_stated Nand line out ins = line_gate keys.Nand Nand line out ins refl
line_stated Or line out ins = line_gate keys.Or Or line out ins refl
line_stated Nor line out ins = line_gate keys.Nor Nor line out ins refl
line_stated Xor line out ins = line_gate keys.Xor Xor line out ins refl
line_stated Xnor line out ins = line_gate keys.Xnor Xnor line out ins refl
line_stated Not line out ins = line_gate keys.Not Not line out ins refl
line_stated Buf line out ins = line_gate keys.Buf Buf line out ins refl
line_stated Zero line out ins = line_constant line out 0
line_stated One line out ins = line_constant line out 1

-- flip-flops
pins_kinds : (q d : Bit) → further_bits (q ∷ d ∷ []) ++ paren_end ≡ Mark marks.Comma ∷ (bit_kinds q ++ Mark marks.Comma ∷ (bit_kinds d ++ paren_end))
pins_kinds q d =
    let comma : TokenKind = Mark marks.Comma in
    ap (λ z. comma ∷ z) (append_assoc (bit_kinds q) (comma ∷ (bit_kinds d ++ [])) paren_end ∙ ap (λ z. bit_kinds q ++ comma ∷ (z ++ paren_end)) (append-nil (bit_kinds d)))

line_flop : (clock : Bit) (j line : ℕ) (f : Flop Bit) → InLine line (flop_kinds clock j f) (grammar.statement (flop_tree clock j line f))
line_flop clock j line f =
    let ins : List Bit = f.q ∷ f.d ∷ [] in
    let t : trees.Terms = bit_terms clock ins in
    let i : trees.Instance = flop_instance clock j f in
    let more : Span = nothing ⨾ mark marks.Semicolon in
    let q : Span = grammar.instance i ⨾ more in
    let end : Kinds = Mark marks.Semicolon ∷ [] in
    let ks : Kinds = Name (flop_name j) ∷ terms_kinds clock ins [] in
    let same : ks ++ end ≡ Name (flop_name j) ∷ Mark marks.LeftParen ∷ (bit_kinds clock ++ Mark marks.Comma ∷ (bit_kinds f.q ++ Mark marks.Comma ∷ (bit_kinds f.d ++ paren_end))) =
    ap (λ z. Name (flop_name j) ∷ z) (terms_behind clock ins end ∙ ap (λ z. Mark marks.LeftParen ∷ (bit_kinds clock ++ z)) (pins_kinds f.q f.d)) in
    line_first line (Name (codes "dff")) (Name (flop_name j) ∷ Mark marks.LeftParen ∷ (bit_kinds clock ++ Mark marks.Comma ∷ (bit_kinds f.q ++ Mark marks.Comma ∷ (bit_kinds f.d ++ paren_end)))) q
    (takes_same (ks ++ end) _ q same (takes_join ks end (grammar.instance i) more (takes_first (Name (flop_name j)) (terms_kinds clock ins []) (grammar.terms t) (takes_terms clock ins)) takes_end))

-- statements, and the last line behind them
abbrev Body : List trees.Statement → List Token → Type 0
Body ss tokens = (many grammar.statement ss ⨾ key keys.Endmodule) tokens []

body_end : (line : ℕ) → Body [] (at line end_kinds)
body_end line = (at line end_kinds, refl, (line, refl))

body_more : (s : trees.Statement) (ss : List trees.Statement) (front behind : List Token) → grammar.statement s (front ++ behind) behind → Body ss behind → Body (s ∷ ss) (front ++ behind)
body_more s ss front behind h b = (b.0, (behind, h, b.1), b.2)

-- a statement for each, the first behind so many lines
abbrev trees_of : {X : Type 0} → (ℕ → X → trees.Statement) → ℕ → List X → List trees.Statement → List trees.Statement
trees_of make before [] behind = behind
trees_of make before (x ∷ xs) behind = make (lexical.number before) x ∷ trees_of make (before + 1) xs behind

body_all : {X : Type 0} (kinds : X → Kinds) (make : ℕ → X → trees.Statement) → ((line : ℕ) (x : X) → InLine line (kinds x) (grammar.statement (make line x))) → (before : ℕ) (xs : List X) (ss : List trees.Statement) (behind : List Token) → Body ss behind
    → Body (trees_of make before xs ss) (all_tokens kinds before xs behind)
body_all kinds make h before [] ss behind b = b
body_all kinds make h before (x ∷ xs) ss behind b =
    body_more (make (lexical.number before) x) (trees_of make (before + 1) xs ss) (at (lexical.number before) (kinds x)) (all_tokens kinds (before + 1) xs behind) (h (lexical.number before) x (all_tokens kinds (before + 1) xs behind)) (body_all kinds make h (before + 1) xs ss behind b)

abbrev counted_trees : Bit → ℕ → ℕ → List (Flop Bit) → List trees.Statement
counted_trees clock j before [] = []
counted_trees clock j before (f ∷ fs) = flop_tree clock j (lexical.number before) f ∷ counted_trees clock (j + 1) (before + 1) fs

body_counted : (clock : Bit) (j before : ℕ) (fs : List (Flop Bit)) (behind : List Token) → Body [] behind → Body (counted_trees clock j before fs) (counted_tokens clock j before fs behind)
body_counted clock j before [] behind b = b
body_counted clock j before (f ∷ fs) behind b =
    body_more (flop_tree clock j (lexical.number before) f) (counted_trees clock (j + 1) (before + 1) fs) (at (lexical.number before) (flop_kinds clock j f)) (counted_tokens clock (j + 1) (before + 1) fs behind)
    (line_flop clock j (lexical.number before) f (counted_tokens clock (j + 1) (before + 1) fs behind)) (body_counted clock (j + 1) (before + 1) fs behind b)

abbrev flops_trees : Option Bit → ℕ → List (Flop Bit) → List trees.Statement
flops_trees None before fs = []
flops_trees (Some clock) before fs = counted_trees clock 0 before fs

body_flops : (clock : Option Bit) (before : ℕ) (fs : List (Flop Bit)) (behind : List Token) → Body [] behind → Body (flops_trees clock before fs) (flops_tokens clock before fs behind)
body_flops None before fs behind b = b
body_flops (Some clock) before fs behind b = body_counted clock 0 before fs behind b

-- the first line
takes_names : (ns : List (List ℕ)) → Takes (further_names ns) (grammar.names ns)
takes_names [] = takes_nothing
takes_names (n ∷ ns) =
    takes_join (Mark marks.Comma ∷ Name n ∷ []) (further_names ns) (mark marks.Comma ⨾ name n) (grammar.names ns) (takes_first (Mark marks.Comma) (Name n ∷ []) (name n) (takes_word (Name n))) (takes_names ns)

abbrev ports_header : List (List ℕ) → trees.Header
ports_header [] = trees.NoPorts
ports_header (p ∷ ps) = trees.PlainPorts p ps

takes_header : (ports : List (List ℕ)) → Takes (Mark marks.LeftParen ∷ (names_kinds ports ++ Mark marks.RightParen ∷ [])) (grammar.header (ports_header ports))
takes_header [] = takes_first (Mark marks.LeftParen) (Mark marks.RightParen ∷ []) (mark marks.RightParen) (takes_word (Mark marks.RightParen))
takes_header (p ∷ ps) =
    let right : Kinds = Mark marks.RightParen ∷ [] in
    takes_first (Mark marks.LeftParen) (Name p ∷ (further_names ps ++ right)) (name p ⨾ (grammar.names ps ⨾ mark marks.RightParen))
    (takes_first (Name p) (further_names ps ++ right) (grammar.names ps ⨾ mark marks.RightParen) (takes_join (further_names ps) right (grammar.names ps) (mark marks.RightParen) (takes_names ps) (takes_word (Mark marks.RightParen))))

head_kinds : (ports : List (List ℕ)) → (Mark marks.LeftParen ∷ (names_kinds ports ++ Mark marks.RightParen ∷ [])) ++ Mark marks.Semicolon ∷ [] ≡ Mark marks.LeftParen ∷ (names_kinds ports ++ paren_end)
head_kinds ports = ap (λ z. Mark marks.LeftParen ∷ z) (append_assoc (names_kinds ports) (Mark marks.RightParen ∷ []) (Mark marks.Semicolon ∷ []))

-- a header and the semicolon
takes_head : (ports : List (List ℕ)) → Takes (Mark marks.LeftParen ∷ (names_kinds ports ++ paren_end)) (grammar.header (ports_header ports) ⨾ mark marks.Semicolon)
takes_head ports =
    takes_same _ _ (grammar.header (ports_header ports) ⨾ mark marks.Semicolon) (head_kinds ports)
    (takes_join (Mark marks.LeftParen ∷ (names_kinds ports ++ Mark marks.RightParen ∷ [])) (Mark marks.Semicolon ∷ []) (grammar.header (ports_header ports)) (mark marks.Semicolon) (takes_header ports) (takes_word (Mark marks.Semicolon)))

-- a file by its parts
file_of : (f : trees.File) (tokens behind : List Token) → (word_at f.line (Key keys.Module) ⨾ (name f.name ⨾ (grammar.header f.header ⨾ mark marks.Semicolon))) tokens behind → Body f.statements behind → grammar.file f tokens []
file_of f tokens behind h b = (h.0, h.1, (h.2.0, h.2.1, (h.2.2.0, h.2.2.1, (behind, h.2.2.2, b))))

-- the trees of a design
abbrev statements_of : Design → List trees.Statement
statements_of d =
    trees_of declared_tree 1 d.variables
    (trees_of (λ line (g : Gate Bit). stated_tree g.op line g.out g.ins) (1 + length d.variables) d.netlist.gates (flops_trees d.clock (1 + length d.variables + length d.netlist.gates) d.netlist.flops))

abbrev tree_of : Design → trees.File
tree_of d = record { line = lexical.number 0; name = d.module_name; header = ports_header (port_names d.variables); statements = statements_of d }

tree_derived : (d : Design) (last : ℕ) → grammar.file (tree_of d) (text_tokens d last) []
tree_derived d last =
    let ports : List (List ℕ) = port_names d.variables in
    let head : Span = grammar.header (ports_header ports) ⨾ mark marks.Semicolon in
    file_of (tree_of d) (text_tokens d last) _
    (line_first (lexical.number 0) (Key keys.Module) (Name d.module_name ∷ Mark marks.LeftParen ∷ (names_kinds ports ++ paren_end)) (name d.module_name ⨾ head) (takes_first (Name d.module_name) (Mark marks.LeftParen ∷ (names_kinds ports ++ paren_end)) head (takes_head ports)) _)
    (body_all declaration_kinds declared_tree (λ line (v : Entry). line_declared line v.0 v.1.range v.1.role) 1 d.variables _ _
    (body_all statement_kinds (λ line (g : Gate Bit). stated_tree g.op line g.out g.ins) (λ line (g : Gate Bit). line_stated g.op line g.out g.ins) (1 + length d.variables) d.netlist.gates _ _
    (body_flops d.clock (1 + length d.variables + length d.netlist.gates) d.netlist.flops (at (lexical.number last) end_kinds) (body_end (lexical.number last)))))

-- what these trees stand for
index_same : (i : Option ℕ) → meaning.select_of (index_select i) ≡ option_map (λ j. (j, j)) i
index_same None = refl
index_same (Some i) = refl

ref_same : (b : Bit) → meaning.ref_of b.name (index_select b.index) ≡ printed.reference b
ref_same b = λ i. record { name = b.name; select = index_same b.index i }

bit_same : (b : Bit) → meaning.steps_of (bit_expr b) ≡ printed.bit_steps b
bit_same b = ap (λ r. steps.Ref r ∷ []) (ref_same b)

bits_same : (bs : List Bit) → meaning.each (bit_exprs bs) ≡ map printed.bit_steps bs
bits_same [] = refl
bits_same (b ∷ bs) = λ i. bit_same b i ∷ bits_same bs i

terms_same : (out : Bit) (ins : List Bit) → meaning.terms_of (bit_terms out ins) ≡ map printed.bit_steps (out ∷ ins)
terms_same out ins = λ i. bit_same out i ∷ bits_same ins i

declared_same : (line : ℕ) (x : List ℕ) (r : Option (ℕ × ℕ)) (role : Role) → meaning.items_of (declared_by (direction_of role) line x r) ≡ printed.declared line (x, record { range = r; role = role }) ∷ []
declared_same line x r Input = refl
declared_same line x r Output = refl
declared_same line x r Wire = refl

gate_same : (k : Keyword) (op : Op) (line : ℕ) (out : Bit) (ins : List Bit) → meaning.items_of (gate_tree k op line out ins) ≡ printed.primitive line op out ins ∷ []
gate_same k op line out ins = ap (λ z. items.Prim line op z ∷ []) (terms_same out ins)

constant_same : (line : ℕ) (out : Bit) (value : ℕ) → meaning.items_of (constant_tree line out value) ≡ printed.fixed line out value ∷ []
constant_same line out value = ap (λ r. items.Assign line (r ∷ []) (steps.Const 1 value ∷ []) ∷ []) (ref_same out)

stated_same : (op : Op) (line : ℕ) (out : Bit) (ins : List Bit) → meaning.items_of (stated_tree op line out ins) ≡ printed.stated_by line op out ins ∷ []
stated_same And line out ins = gate_same keys.And And line out ins
stated_same Nand line out ins = gate_same keys.Nand Nand line out ins
stated_same Or line out ins = gate_same keys.Or Or line out ins
stated_same Nor line out ins = gate_same keys.Nor Nor line out ins
stated_same Xor line out ins = gate_same keys.Xor Xor line out ins
stated_same Xnor line out ins = gate_same keys.Xnor Xnor line out ins
stated_same Not line out ins = gate_same keys.Not Not line out ins
stated_same Buf line out ins = gate_same keys.Buf Buf line out ins
stated_same Zero line out ins = constant_same line out 0
stated_same One line out ins = constant_same line out 1

flop_same : (clock : Bit) (j line : ℕ) (f : Flop Bit) → meaning.items_of (flop_tree clock j line f) ≡ printed.clocked clock line f ∷ []
flop_same clock j line f = ap (λ z. items.Cell line (codes "dff") (conns.Places z) ∷ []) (terms_same clock (f.q ∷ f.d ∷ []))

all_same : {X : Type 0} (make : ℕ → X → trees.Statement) (item : ℕ → X → Item) → ((line : ℕ) (x : X) → meaning.items_of (make line x) ≡ item line x ∷ []) → (before : ℕ) (xs : List X) (ss : List trees.Statement) → meaning.all_items (trees_of make before xs ss) ≡ printed.by_lines item before xs ++ meaning.all_items ss
all_same make item h before [] ss = refl
all_same make item h before (x ∷ xs) ss = λ i. h (lexical.number before) x i ++ all_same make item h (before + 1) xs ss i

counted_same : (clock : Bit) (j before : ℕ) (fs : List (Flop Bit)) → meaning.all_items (counted_trees clock j before fs) ≡ printed.by_lines (printed.clocked clock) before fs
counted_same clock j before [] = refl
counted_same clock j before (f ∷ fs) = λ i. flop_same clock j (lexical.number before) f i ++ counted_same clock (j + 1) (before + 1) fs i

flops_same : (clock : Option Bit) (before : ℕ) (fs : List (Flop Bit)) → meaning.all_items (flops_trees clock before fs) ≡ printed.flops_by_lines clock before fs
flops_same None before fs = refl
flops_same (Some clock) before fs = counted_same clock 0 before fs

header_same : (line : ℕ) (ports : List (List ℕ)) → meaning.header_of line (ports_header ports) ≡ headers.Plain ports
header_same line [] = refl
header_same line (p ∷ ps) = refl

tree_same : (d : Design) → meaning.module_of (tree_of d) ≡ printed.spelled_module d
tree_same d =
    let flops = flops_same d.clock (1 + length d.variables + length d.netlist.gates) d.netlist.flops in
    let gates = all_same (λ line (g : Gate Bit). stated_tree g.op line g.out g.ins) printed.stated (λ line (g : Gate Bit). stated_same g.op line g.out g.ins) (1 + length d.variables) d.netlist.gates (flops_trees d.clock (1 + length d.variables + length d.netlist.gates) d.netlist.flops) in
    let all = all_same declared_tree printed.declared (λ line (v : Entry). declared_same line v.0 v.1.range v.1.role) 1 d.variables _ in
    let same : meaning.all_items (statements_of d) ≡ printed.spelled_items d = all ∙ ap (λ z. printed.by_lines printed.declared 1 d.variables ++ z) (gates ∙ ap (λ z. printed.by_lines printed.stated (1 + length d.variables) d.netlist.gates ++ z) flops) in
    λ i. record { name = d.module_name; header = header_same (lexical.number 0) (port_names d.variables) i; items = same i }

-- a canonical text is that of its design's module
pub text_denotes : (d : Design) → IsText d → IsModuleOf (printed.spelled_module d) (canonical_text d)
text_denotes d t =
    let l = text_lexed d t in
    record { tokens = text_tokens d _; line = l.line; reads = l.denotes; derives = (tree_of d, tree_derived d _, tree_same d) }
