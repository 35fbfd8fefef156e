use Rattle.bb_spell.proofs.Parts.{declaration_step}
use Rattle.bb_spell.proofs.Keeps.{keeps_more}
use Rattle.bb_spell.specs.Canonical.{with_feed}
use Rattle.bb_spell.proofs.text.put_declarations.Goals as goal

pub variables-preserved : goal.variables-preserved
variables-preserved c = record {
  text = declaration_step c.args.named.now.variables c.variables.number (c.variable.result.0.now, c.variable.result.1) c.variables.out.items c.variables.line.items c.write_declaration.new.line.items c.end_line.new.out.items _ c.variable.ensures.value
      c.variables.invariant.empty c.in_ok-write_declaration.ensures c.in_ok-end_line.ensures.ok c.variables.invariant.text;
  empty = c.in_ok-end_line.ensures.cleared;
  kept = keeps_more c.args.out.now.items c.variables.out.items c.end_line.new.out.items (with_feed c.write_declaration.new.line.items) c.in_ok-end_line.ensures.ok c.variables.invariant.kept;
}
