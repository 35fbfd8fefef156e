use Rattle.std.proofs.Common.{◌≡◌, List, ℕ, codes, Some, rules, sym, ap, refl, ◌∙◌}
use Rattle.std.proofs.lemmas.Slice.Eq.{text_from_reads}
use Rattle.bb_base.specs.declared.variable.Role.{Role}
use Rattle.bb_base.specs.declared.variable.Role.TheVariants.{Output}
use Rattle.bb_spell.specs.Lines.{word_role}
use Rattle.bb_spell.proofs.statement.word_role.Goals as goal

is_word : (word keyword : List ℕ) (r : Role) → word_role keyword ≡ Some r → word ≡ keyword → Some r ≡ word_role word
is_word word keyword r h e = sym (ap word_role e ∙ h)

pub returns-in-output : goal.returns-in-output
unfolding word_role
returns-in-output c = is_word c.args.word.now (codes "output") Output refl (search (rules, text_from_reads))
