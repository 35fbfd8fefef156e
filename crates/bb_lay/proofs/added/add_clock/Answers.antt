use Rattle.std.proofs.Common.{◌≡◌, None, rules}
use Rattle.bb_lay.proofs.Scalars.{clock_added}
use Rattle.bb_lay.proofs.added.add_clock.Goals as goal

pub returns-clause-laid : goal.returns-clause-laid
returns-clause-laid c =
    let none : c.args.builder.now.clock ≡ None = search (rules, c.requires.clock, c.clock.ensures.value, c.is_some.ensures, c.if-is_some.false) in
    (clock_added c.args.builder.now c.declare.new.builder c.in_ok-name.name c.requires.laid none c.in_ok-declare.ensures.added).1
