-- Drafts between statements: no part of a statement is left.
use Rattle.std.proofs.Common.{◌≡◌, List, [], ◌++◌, None}
use Rattle.bb_parse.specs.declared.draft.Draft.{Draft}
use Rattle.bb_parse.specs.declared.syntax.Item.{Item}

-- no name of a reference or of a pin stands, and no target, step, terminal or pin
abbrev pub idle : Draft → Draft
idle d = record d { word = None; pin = None; left = []; steps = []; terms = []; pins = [] }

-- the later draft has these items more, and the same header
pub record Gains (d later : Draft) (new : List Item) : Type 0 where
  pub name : later.name ≡ d.name
  pub names : later.names ≡ d.names
  pub ports : later.ports ≡ d.ports
  pub items : later.items ≡ d.items ++ new
