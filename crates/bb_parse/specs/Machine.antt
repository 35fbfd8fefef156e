-- The machine that reads token by token: a stack of what must still follow, and the module so far.
use Rattle.std.specs.Prelude.{◌≡◌, ℕ, if◌then◌else◌, List, [], ◌∷◌, ◌++◌, Option, Some, None, Result, Ok, Err}
use Rattle.bb_base.specs.declared.token.TokenKind.{TokenKind}
use Rattle.bb_base.specs.declared.token.Token.{Token}
use Rattle.bb_parse.specs.declared.draft.Draft.{Draft}
use Rattle.bb_parse.specs.declared.symbol.Symbol.{Symbol}
use Rattle.bb_parse.specs.declared.symbol.Symbol.TheVariants as symbols
use Rattle.bb_parse.specs.declared.syntax.Module.{Module}
use Rattle.bb_parse.specs.declared.fault.ParseFault.{ParseFault}
use Rattle.bb_parse.specs.declared.fault.ParseFault.TheVariants as faults
use Rattle.bb_parse.specs.Trees.{Name}
use Rattle.bb_parse.specs.Drafts.{no_draft, module_by}
use Rattle.bb_parse.specs.Passes.{passed, passes}
use Rattle.bb_parse.specs.Moves.{Move, read_declared, read_file, read_header, read_module_name, read_more_names, read_more_ports, read_plain_name, read_port, read_ports, read_range, read_range_from, read_range_to, read_type}
use Rattle.bb_parse.specs.ExpressionMoves.{read_ands, read_braced, read_choice, read_expr, read_joined, read_mark, read_operators, read_ors, read_repeat_end, read_select, read_select_end, read_select_from, read_select_last, read_select_to, read_unary, read_xors}
use Rattle.bb_parse.specs.StatementMoves.{read_conns, read_equation, read_gate, read_instance, read_items, read_left, read_more_decls, read_more_equations, read_more_gates, read_more_instances, read_more_lefts, read_more_pins, read_more_terms, read_pin_end, read_pin_name, read_pin_value}

-- the symbol takes a token of this kind in this line
abbrev pub read_by : Symbol → TokenKind → ℕ → Draft → Move
read_by symbols.File k line d = read_file k line d
read_by symbols.ModuleName k line d = read_module_name k d
read_by symbols.Header k line d = read_header k d
read_by symbols.Ports k line d = read_ports k d
read_by symbols.PlainName k line d = read_plain_name k d
read_by symbols.MoreNames k line d = read_more_names k d
read_by symbols.Port k line d = read_port k d
read_by symbols.MorePorts k line d = read_more_ports k d
read_by (symbols.Type place) k line d = read_type place k d
read_by (symbols.Range place) k line d = read_range place k d
read_by symbols.RangeFrom k line d = read_range_from k d
read_by (symbols.RangeTo from) k line d = read_range_to from k d
read_by (symbols.Declared place) k line d = read_declared place k d
read_by symbols.Items k line d = read_items k line d
read_by symbols.MoreDecls k line d = read_more_decls k d
read_by symbols.Equation k line d = read_equation k d
read_by symbols.MoreEquations k line d = read_more_equations k d
read_by symbols.Left k line d = read_left k d
read_by symbols.MoreLefts k line d = read_more_lefts k d
read_by symbols.Gate k line d = read_gate k d
read_by symbols.MoreGates k line d = read_more_gates k d
read_by symbols.MoreTerms k line d = read_more_terms k d
read_by symbols.Instance k line d = read_instance k d
read_by symbols.Conns k line d = read_conns k d
read_by symbols.MoreInstances k line d = read_more_instances k d
read_by symbols.PinName k line d = read_pin_name k d
read_by symbols.PinValue k line d = read_pin_value k d
read_by symbols.PinEnd k line d = read_pin_end k d
read_by symbols.MorePins k line d = read_more_pins k d
read_by (symbols.Select side) k line d = read_select side k d
read_by (symbols.SelectFrom side) k line d = read_select_from side k d
read_by (symbols.SelectTo side from) k line d = read_select_to side from k d
read_by (symbols.SelectLast side from) k line d = read_select_last side from k d
read_by (symbols.SelectEnd side from to) k line d = read_select_end side from to k d
read_by symbols.Expr k line d = read_expr k d
read_by symbols.Unary k line d = read_unary k d
read_by symbols.Braced k line d = read_braced k d
read_by (symbols.Joined n) k line d = read_joined n k d
read_by (symbols.RepeatEnd n) k line d = read_repeat_end n k d
read_by symbols.Operators k line d = read_operators k d
read_by symbols.Ands k line d = read_ands k d
read_by symbols.Xors k line d = read_xors k d
read_by symbols.Ors k line d = read_ors k d
read_by symbols.Choice k line d = read_choice k d
read_by (symbols.Put m) k line d = None
read_by (symbols.Mark m) k line d = read_mark m k d

-- what must still follow and the module so far, or the first fault
pub data Parsing : Type 0 where
  Going : (pending : List Symbol) (draft : Draft) → Parsing
  Failed : (fault : ParseFault) → Parsing

-- after a move, with what was pending behind its symbol
abbrev pub after_move : Move → List Symbol → ℕ → Parsing
after_move None pending line = Failed (faults.Unreadable line)
after_move (Some m) pending line = Going (m.0 ++ pending) m.1

-- a token goes to the first symbol that doesn't let it pass
abbrev pub passed_on : List Symbol → Draft → TokenKind → ℕ → Parsing
passed_on [] d k line = Failed (faults.Unreadable line)
passed_on (s ∷ more) d k line = if passes s k then passed_on more (passed s d) k line else after_move (read_by s k line d) more line

-- one token; a fault stands
abbrev pub step : Parsing → Token → Parsing
step (Going pending draft) t = passed_on pending draft t.kind t.line
step (Failed fault) t = Failed fault

-- the tokens one after another
abbrev pub run : Parsing → List Token → Parsing
run p [] = p
run p (t ∷ tokens) = run (step p t) tokens

-- where a text begins
abbrev pub start : Parsing
start = Going (symbols.File ∷ []) no_draft

-- the module where nothing must follow any more
abbrev pub whole : Option Name → Draft → ℕ → Result Module ParseFault
whole None d line = Err (faults.Unreadable line)
whole (Some x) d line = Ok (module_by x d)

-- what the end of the text answers, in its line
abbrev pub end : Parsing → ℕ → Result Module ParseFault
end (Failed fault) line = Err fault
end (Going [] d) line = whole d.name d line
end (Going (s ∷ more) d) line = Err (faults.Unreadable line)

-- the machine goes on, and not with this token
abbrev pub Rejects : Parsing → Token → Type 0
Rejects (Going pending draft) t = passed_on pending draft t.kind t.line ≡ Failed (faults.Unreadable t.line)
Rejects (Failed fault) t = ⊥
