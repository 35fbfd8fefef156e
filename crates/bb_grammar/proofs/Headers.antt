-- The machine reads what a syntax tree spans: the header, and the whole file.
use Rattle.std.proofs.Common.{◌≡◌, ℕ, List, [], ◌∷◌, ◌++◌, Some, refl, sym, ◌∙◌, ap, append-nil}
use Rattle.bb_base.specs.declared.token.Mark.TheVariants as marks
use Rattle.bb_base.specs.declared.token.Token.{Token}
use Rattle.bb_base.specs.declared.token.TokenKind.TheVariants as kinds
use Rattle.bb_parse.specs.declared.draft.Draft.{Draft}
use Rattle.bb_parse.specs.declared.symbol.Place.TheVariants as places
use Rattle.bb_parse.specs.declared.symbol.Symbol.{Symbol}
use Rattle.bb_parse.specs.declared.symbol.Symbol.TheVariants as symbols
use Rattle.bb_parse.specs.declared.syntax.Decl.{Decl}
use Rattle.bb_parse.specs.Spans.{mark}
use Rattle.bb_parse.specs.Trees.{Name, Direction, In, Out, Typed, Port, Again, Anew, Header, NoHeader, NoPorts, PlainPorts, TypedPorts, File}
use Rattle.bb_parse.specs.Grammar.{names, direction_key, ports, header, file}
use Rattle.bb_parse.specs.Meaning.{direction_role, typed_decl, port_decls, header_of, all_items, module_of}
use Rattle.bb_parse.specs.Drafts.{no_draft, begin_decl, header_by, module_by}
use Rattle.bb_parse.specs.Machine.{Going, step, run, start, end}
use Rattle.bb_grammar.proofs.Idle.{idle, Gains}
use Rattle.bb_grammar.proofs.Statements.{one_more, reads_type, reads_statements}

reads_more_names : (xs : List Name) (ss : List Symbol) (d : Draft) (ts end rest : List Token) → names xs ts end → mark marks.RightParen end rest → run (Going (symbols.MoreNames ∷ ss) d) ts ≡ run (Going ss (record d { names = d.names ++ xs })) rest
reads_more_names [] ss d ts end rest same w =
    ap (run (Going (symbols.MoreNames ∷ ss) d)) (same ∙ w.1) ∙ ap (λ l. run (Going ss (record d { names = l })) rest) (sym (append-nil d.names))
reads_more_names (x ∷ xs) ss d ts end rest s w =
    ap (run (Going (symbols.MoreNames ∷ ss) d)) s.1.1.1
    ∙ ap (run (Going (symbols.PlainName ∷ symbols.MoreNames ∷ ss) d)) s.1.2.1
    ∙ reads_more_names xs ss (record d { names = d.names ++ x ∷ [] }) s.0 end rest s.2 w
    ∙ ap (λ l. run (Going ss (record d { names = l })) rest) (one_more d.names x xs)

-- the draft with the type of the port before
abbrev typed : Typed → Draft → Draft
typed t d = record d { role = direction_role t.direction; range = t.range }

step_ports : (v : Direction) (line : ℕ) (ss : List Symbol) (d : Draft) → step (Going (symbols.Ports ∷ ss) d) (record { kind = kinds.Key (direction_key v); line = line }) ≡ Going (symbols.Type places.Header ∷ symbols.MorePorts ∷ ss) (begin_decl d.line (direction_role v) d)
step_ports In line ss d = refl
step_ports Out line ss d = refl

step_port : (v : Direction) (line : ℕ) (ss : List Symbol) (d : Draft) → step (Going (symbols.Port ∷ ss) d) (record { kind = kinds.Key (direction_key v); line = line }) ≡ Going (symbols.Type places.Header ∷ ss) (begin_decl d.line (direction_role v) d)
step_port In line ss d = refl
step_port Out line ss d = refl

-- more ports lead to a draft with them, of some last type
abbrev Ported : List Port → Typed → List Symbol → Draft → List Token → List Token → Type 0
Ported ps t ss d ts rest = (last : Typed) × (run (Going (symbols.MorePorts ∷ ss) (typed t d)) ts ≡ run (Going ss (typed last (record d { ports = d.ports ++ port_decls d.line t ps }))) rest)

reads_more_ports : (ps : List Port) (t : Typed) (ss : List Symbol) (d : Draft) (ts end rest : List Token) → ports ps ts end → mark marks.RightParen end rest → Ported ps t ss d ts rest
reads_more_ports [] t ss d ts end rest same w =
    (t, ap (run (Going (symbols.MorePorts ∷ ss) (typed t d))) (same ∙ w.1) ∙ ap (λ l. run (Going ss (typed t (record d { ports = l }))) rest) (sym (append-nil d.ports)))
reads_more_ports (Again x ∷ ps) t ss d ts end rest s w =
    let more = reads_more_ports ps t ss (record d { ports = d.ports ++ typed_decl d.line t x ∷ [] }) s.0 end rest s.2 w in (
      more.0,
      ap (run (Going (symbols.MorePorts ∷ ss) (typed t d))) s.1.1.1
          ∙ ap (run (Going (symbols.Port ∷ symbols.MorePorts ∷ ss) (typed t d))) s.1.2.1
          ∙ more.1
          ∙ ap (λ l. run (Going ss (typed more.0 (record d { ports = l }))) rest) (one_more d.ports (typed_decl d.line t x) (port_decls d.line t ps)),
    )
reads_more_ports (Anew u x ∷ ps) t ss d ts end rest s w =
    let p = s.1.2 in
    let more = reads_more_ports ps u ss (record d { ports = d.ports ++ typed_decl d.line u x ∷ [] }) s.0 end rest s.2 w in (
      more.0,
      ap (run (Going (symbols.MorePorts ∷ ss) (typed t d))) s.1.1.1
          ∙ ap (run (Going (symbols.Port ∷ symbols.MorePorts ∷ ss) (typed t d))) p.1.1
          ∙ ap (λ q. run q p.0) (step_port u.direction p.1.0 (symbols.MorePorts ∷ ss) (typed t d))
          ∙ reads_type u x places.Header d.line (direction_role u.direction) (symbols.MorePorts ∷ ss) (typed t d) p.0 p.2.0 s.0 p.2.1 p.2.2
          ∙ more.1
          ∙ ap (λ l. run (Going ss (typed more.0 (record d { ports = l }))) rest) (one_more d.ports (typed_decl d.line u x) (port_decls d.line u ps)),
    )

-- the draft's header is that of the tree
record Heads (h : Header) (d later : Draft) : Type 0 where
  name : later.name ≡ d.name
  items : later.items ≡ d.items
  header : header_by later.names later.ports ≡ header_of d.line h

-- a header and the mark behind it lead to a draft with it
abbrev Headed : Header → List Symbol → Draft → List Token → List Token → Type 0
Headed h ss d ts rest = (later : Draft) × (run (Going (symbols.Header ∷ ss) (idle d)) ts ≡ run (Going ss (idle later)) rest) × Heads h d later

abbrev bare : Draft → Draft
bare d = record d { names = []; ports = [] }

reads_header : (h : Header) (ss : List Symbol) (d : Draft) (ts end rest : List Token) → header h ts end → mark marks.Semicolon end rest → Headed h ss (bare d) ts rest
reads_header NoHeader ss d ts end rest same w =
    (bare d, ap (run (Going (symbols.Header ∷ ss) (idle (bare d)))) (same ∙ w.1), record { name = refl; items = refl; header = refl })
reads_header NoPorts ss d ts end rest s w = (
  bare d,
  ap (run (Going (symbols.Header ∷ ss) (idle (bare d)))) s.1.1
      ∙ ap (run (Going (symbols.Ports ∷ symbols.Mark marks.Semicolon ∷ ss) (idle (bare d)))) s.2.1
      ∙ ap (run (Going (symbols.Mark marks.Semicolon ∷ ss) (idle (bare d)))) w.1,
  record { name = refl; items = refl; header = refl },
)
reads_header (PlainPorts x xs) ss d ts end rest s w =
    let later : Draft = record d { names = x ∷ xs; ports = [] } in (
      later,
      ap (run (Going (symbols.Header ∷ ss) (idle (bare d)))) s.1.1
          ∙ ap (run (Going (symbols.Ports ∷ symbols.Mark marks.Semicolon ∷ ss) (idle (bare d)))) s.2.1.1
          ∙ reads_more_names xs (symbols.Mark marks.Semicolon ∷ ss) (idle (record d { names = x ∷ []; ports = [] })) s.2.0 s.2.2.0 end s.2.2.1 s.2.2.2
          ∙ ap (run (Going (symbols.Mark marks.Semicolon ∷ ss) (idle later))) w.1,
      record { name = refl; items = refl; header = refl },
    )
reads_header (TypedPorts t x ps) ss d ts end rest s w =
    let p = s.2 in
    let more = reads_more_ports ps t (symbols.Mark marks.Semicolon ∷ ss) (idle (record d { names = []; ports = typed_decl d.line t x ∷ [] })) p.2.2.0 p.2.2.2.0 end p.2.2.2.1 p.2.2.2.2 in
    let later : Draft = typed more.0 (record d { names = []; ports = typed_decl d.line t x ∷ port_decls d.line t ps }) in (
      later,
      ap (run (Going (symbols.Header ∷ ss) (idle (bare d)))) s.1.1
          ∙ ap (run (Going (symbols.Ports ∷ symbols.Mark marks.Semicolon ∷ ss) (idle (bare d)))) p.1.1
          ∙ ap (λ q. run q p.0) (step_ports t.direction p.1.0 (symbols.Mark marks.Semicolon ∷ ss) (idle (bare d)))
          ∙ reads_type t x places.Header d.line (direction_role t.direction) (symbols.MorePorts ∷ symbols.Mark marks.Semicolon ∷ ss) (idle (bare d)) p.0 p.2.0 p.2.2.0 p.2.1 p.2.2.1
          ∙ more.1
          ∙ ap (run (Going (symbols.Mark marks.Semicolon ∷ ss) (idle later))) w.1,
      record { name = refl; items = refl; header = refl },
    )

-- the machine stands at the end of a whole module
abbrev Whole : File → Draft → Type 0
Whole f d = (d.name ≡ Some f.name) × (module_by f.name d ≡ module_of f)

whole_by : (f : File) (d e : Draft) (begun : Draft) → begun.line ≡ f.line → Heads f.header begun d → begun.name ≡ Some f.name → begun.items ≡ [] → Gains d e (all_items f.statements) → Whole f e
whole_by f d e begun line h named none g = (
  g.name ∙ h.name ∙ named,
  ap (λ p. record { name = f.name; header = header_by p.0 p.1; items = e.items }) (pair e.names d.names e.ports d.ports g.names g.ports)
      ∙ ap (λ q. record { name = f.name; header = q; items = e.items }) (h.header ∙ ap (λ l. header_of l f.header) line)
      ∙ ap (λ l. record { name = f.name; header = header_of f.line f.header; items = l }) (g.items ∙ ap (λ l. l ++ all_items f.statements) (h.items ∙ none)),
)
  where
    pair : (a b : List Name) (c d : List Decl) → a ≡ b → c ≡ d → ◌≡◌ {A = List Name × List Decl} (a, c) (b, d)
    pair a b c d x y = cc

pub reads_file : (f : File) (ts rest : List Token) → file f ts rest → (d : Draft) × (run start ts ≡ run (Going [] d) rest) × Whole f d
reads_file f ts rest s =
    let begun : Draft = record no_draft { line = f.line; name = Some f.name } in
    let t = s.2 in
    let head = reads_header f.header (symbols.Items ∷ []) begun t.0 t.2.0 t.2.2.0 t.2.1 t.2.2.1 in
    let body = reads_statements f.statements [] head.0 t.2.2.0 t.2.2.2.0 t.2.2.2.1 in (
      idle body.0,
      ap (run start) s.1
          ∙ ap (run (Going (symbols.ModuleName ∷ symbols.Header ∷ symbols.Items ∷ []) (record no_draft { line = f.line }))) t.1.1
          ∙ head.1
          ∙ body.1
          ∙ ap (run (Going (symbols.Items ∷ []) (idle body.0))) t.2.2.2.2.1,
      whole_by f head.0 (idle body.0) (bare begun) refl head.2 refl refl (record { name = body.2.name; names = body.2.names; ports = body.2.ports; items = body.2.items }),
    )
