use Rattle.std.proofs.Common.{◌≤◌, Ok, sym, subst}
use Rattle.bb_base.specs.Named.{Named}
use Rattle.bb_base.specs.Variables.{bit_count, limit_of}
use Rattle.bb_meaning.specs.Denotes.{ElaboratesTo}
use Rattle.bb_read.proofs.MadeBits.{few_bits}
use Rattle.bb_read.proofs.named.named_in.Goals as goal

pub returns-in-Ok-clause-bits : goal.returns-in-Ok-clause-bits
returns-in-Ok-clause-bits c =
    let outcome = c.in-Ok.ensures.named in
    subst (λ (n : Named). bit_count n.variables ≤ limit_of c.args.own) (sym outcome.1) (few_bits c.args.own c.in_ok-syntax.syntax outcome.0)

pub returns-in-Ok-clause-ready : goal.returns-in-Ok-clause-ready
returns-in-Ok-clause-ready c = λ own.
    let whole = c.in_ok-syntax.ensures.whole in
    let text = c.args.text.now in
    let found : Named = c.in-Ok.found.0 in
    let denotes : ElaboratesTo c.args.own text (Ok found) = record { syntax_of = c.in_ok-syntax.syntax; spells = whole.0; outcome = c.in-Ok.ensures.named } in
    c.read_netlists_are_ready.ensures.texts text found (subst (λ o. ElaboratesTo o text (Ok found)) own denotes)
