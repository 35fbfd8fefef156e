use Rattle.std.proofs.Common.{arith, [], ◌∷◌, ◌∙◌, ap, sym}
use Rattle.std.proofs.lemmas.Grind.{common_steps}
use Rattle.bb_parse.specs.Machine as parsing
use Rattle.bb_read.proofs.text.parse_all.Goals as goal

pub tokens-preserved : goal.tokens-preserved
tokens-preserved c = record {
  run = c.in-Ok.ensures.stands ∙ (ap (λ p. parsing.run p (c.in-Some.token ∷ [])) c.tokens.invariant.run ∙ sym (c.in_parts.ensures.parts c.args.parser.now c.tokens.yielded (c.in-Some.token ∷ [])));
  going = λ _. sym c.in-Ok.ensures.told;
  all = grind (arith, common_steps);
}
