-- How a token is taken by each symbol of a header and of declarations.
use Rattle.std.specs.Prelude.{ℕ, List, [], ◌∷◌, ◌++◌, Option, Some, None}
use Rattle.bb_base.specs.declared.keyword.Keyword.TheVariants as keys
use Rattle.bb_base.specs.declared.token.Mark.TheVariants as marks
use Rattle.bb_base.specs.declared.token.TokenKind.{TokenKind}
use Rattle.bb_base.specs.declared.token.TokenKind.TheVariants as kinds
use Rattle.bb_base.specs.declared.variable.Role.TheVariants as roles
use Rattle.bb_parse.specs.declared.draft.Draft.{Draft}
use Rattle.bb_parse.specs.declared.symbol.Place.{Place}
use Rattle.bb_parse.specs.declared.symbol.Place.TheVariants as places
use Rattle.bb_parse.specs.declared.symbol.Symbol.{Symbol}
use Rattle.bb_parse.specs.declared.symbol.Symbol.TheVariants as symbols
use Rattle.bb_parse.specs.Trees.{Name}
use Rattle.bb_parse.specs.Drafts.{begin_decl, declare}

-- a token is taken: what must follow in place of its symbol, and the draft; or no such token goes on
abbrev pub Move : Type 0
Move = Option (List Symbol × Draft)

abbrev pub goes : List Symbol → Draft → Move
goes new d = Some (new, d)

-- a move, and more symbols behind its own
abbrev pub with_behind : List Symbol → Move → Move
with_behind more None = None
with_behind more (Some m) = Some (m.0 ++ more, m.1)

abbrev pub read_file : TokenKind → ℕ → Draft → Move
read_file (kinds.Key keys.Module) line d = goes (symbols.ModuleName ∷ symbols.Header ∷ symbols.Items ∷ []) (record d { line = line })
read_file _ line d = None

abbrev pub read_module_name : TokenKind → Draft → Move
read_module_name (kinds.Name x) d = goes [] (record d { name = Some x })
read_module_name _ d = None

abbrev pub read_header : TokenKind → Draft → Move
read_header (kinds.Mark marks.Semicolon) d = goes [] d
read_header (kinds.Mark marks.LeftParen) d = goes (symbols.Ports ∷ symbols.Mark marks.Semicolon ∷ []) d
read_header _ d = None

abbrev pub with_module_name : Name → Draft → Draft
with_module_name x d = record d { names = d.names ++ x ∷ [] }

-- a port with a direction: its line is that of `module`
abbrev pub read_ports : TokenKind → Draft → Move
read_ports (kinds.Mark marks.RightParen) d = goes [] d
read_ports (kinds.Name x) d = goes (symbols.MoreNames ∷ []) (with_module_name x d)
read_ports (kinds.Key keys.Input) d = goes (symbols.Type places.Header ∷ symbols.MorePorts ∷ []) (begin_decl d.line roles.Input d)
read_ports (kinds.Key keys.Output) d = goes (symbols.Type places.Header ∷ symbols.MorePorts ∷ []) (begin_decl d.line roles.Output d)
read_ports _ d = None

abbrev pub read_plain_name : TokenKind → Draft → Move
read_plain_name (kinds.Name x) d = goes [] (with_module_name x d)
read_plain_name _ d = None

abbrev pub read_more_names : TokenKind → Draft → Move
read_more_names (kinds.Mark marks.Comma) d = goes (symbols.PlainName ∷ symbols.MoreNames ∷ []) d
read_more_names (kinds.Mark marks.RightParen) d = goes [] d
read_more_names _ d = None

abbrev pub read_port : TokenKind → Draft → Move
read_port (kinds.Name x) d = goes [] (declare places.Header x d)
read_port (kinds.Key keys.Input) d = goes (symbols.Type places.Header ∷ []) (begin_decl d.line roles.Input d)
read_port (kinds.Key keys.Output) d = goes (symbols.Type places.Header ∷ []) (begin_decl d.line roles.Output d)
read_port _ d = None

abbrev pub read_more_ports : TokenKind → Draft → Move
read_more_ports (kinds.Mark marks.Comma) d = goes (symbols.Port ∷ symbols.MorePorts ∷ []) d
read_more_ports (kinds.Mark marks.RightParen) d = goes [] d
read_more_ports _ d = None

abbrev pub read_range : Place → TokenKind → Draft → Move
read_range place (kinds.Mark marks.LeftBracket) d = goes (symbols.RangeFrom ∷ symbols.Declared place ∷ []) d
read_range place (kinds.Name x) d = goes [] (declare place x d)
read_range place _ d = None

abbrev pub read_type : Place → TokenKind → Draft → Move
read_type place (kinds.Key keys.Wire) d = goes (symbols.Range place ∷ []) d
read_type place (kinds.Mark marks.LeftBracket) d = goes (symbols.RangeFrom ∷ symbols.Declared place ∷ []) d
read_type place (kinds.Name x) d = goes [] (declare place x d)
read_type place _ d = None

abbrev pub read_range_from : TokenKind → Draft → Move
read_range_from (kinds.Number n) d = goes (symbols.Mark marks.Colon ∷ symbols.RangeTo n ∷ symbols.Mark marks.RightBracket ∷ []) d
read_range_from _ d = None

abbrev pub read_range_to : ℕ → TokenKind → Draft → Move
read_range_to from (kinds.Number n) d = goes [] (record d { range = Some (from, n) })
read_range_to from _ d = None

abbrev pub read_declared : Place → TokenKind → Draft → Move
read_declared place (kinds.Name x) d = goes [] (declare place x d)
read_declared place _ d = None
