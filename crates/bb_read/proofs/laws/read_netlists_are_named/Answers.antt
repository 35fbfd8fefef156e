use Rattle.std.proofs.Common.{sym, subst, Ok}
use Rattle.std.specs.List.{AllByRecursion}
use Rattle.bb_lex.specs.Machine.{run, start}
use Rattle.bb_base.specs.Tokens.{IsProper}
use Rattle.bb_base.specs.Named.{IsNamed}
use Rattle.bb_read.proofs.laws.read_netlists_are_named.Goals as goal

pub returns : goal.returns
returns c = λ own text a is.
    let spells = is.spells in
    let closes = (c.one_reading.ensures.exact text spells.tokens (Ok spells.line)).0 spells.reads in
    let proper = c.in_range.ensures.close (run start text) (c.in_range.ensures.run start text c.in_range.ensures.start) in
    let sound = c.in_range-2.ensures spells.tokens is.syntax_of (subst (AllByRecursion IsProper) closes.tokens_are proper.tokens) spells.derives in
    subst IsNamed (sym is.outcome.1) (c.denotes_a_netlist.ensures own is.syntax_of sound is.outcome.0)
