-- What a text denotes: a named netlist, or the first fault of its module.
use Rattle.std.specs.Prelude.{ℕ, Bool, List, Result}
use Rattle.bb_base.specs.Named.{Named}
use Rattle.bb_parse.specs.declared.syntax.Module.{Module}
use Rattle.bb_grammar.specs.Texts.{IsModuleOf}
use Rattle.bb_fault.specs.declared.fault.ElabFault.{ElabFault}
use Rattle.bb_meaning.specs.Outcome.{IsOutcome}

-- the text has neither a lexical nor a grammatical fault, and its module has this outcome
pub record ElaboratesTo (own : Bool) (text : List ℕ) (result : Result Named ElabFault) : Type 0 where
  pub syntax_of : Module
  pub spells : IsModuleOf syntax_of text
  pub outcome : IsOutcome own syntax_of result
