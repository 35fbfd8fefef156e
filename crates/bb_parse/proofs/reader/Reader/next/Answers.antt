use Rattle.std.proofs.Common.{refl, sym, ap, ◌∙◌}
use Rattle.bb_parse.specs.Passes.{passed}
use Rattle.bb_parse.specs.Machine.{passed_on}
use Rattle.bb_parse.proofs.FeedLemmas.{taken, let_by, none_left, shorter}
use Rattle.bb_parse.proofs.reader.Reader.next.Goals as goal

pub symbols-init : goal.symbols-init
symbols-init c = λ line. refl

pub returns-then-not-passes : goal.returns-then-not-passes
returns-then-not-passes c =
    taken (λ line. passed_on c.args.self.now.pending c.args.self.now.draft c.args.kind.now line) c.symbols.self.pending c.pop.new.self c.in-Some.symbol c.args.kind.now c.symbols.self.draft
    c.in-Some.ensures (sym c.if-not-passes.ensures) c.symbols.invariant

pub symbols-smaller : goal.symbols-smaller
symbols-smaller c = shorter c.symbols.self.pending c.pop.new.self c.pass.new.self.pending c.in-Some.symbol c.in-Some.ensures c.in_ok-pass.ensures.pending

pub symbols-preserved : goal.symbols-preserved
symbols-preserved c = λ line.
    let_by (λ line. passed_on c.args.self.now.pending c.args.self.now.draft c.args.kind.now line) c.symbols.self.pending c.pop.new.self c.in-Some.symbol c.args.kind.now c.symbols.self.draft
    c.in-Some.ensures (sym c.if-not-passes.ensures) c.symbols.invariant line
    ∙ ap (λ p. passed_on p (passed c.in-Some.symbol c.symbols.self.draft) c.args.kind.now line) (sym c.in_ok-pass.ensures.pending)
    ∙ ap (λ d. passed_on c.pass.new.self.pending d c.args.kind.now line) (sym c.in_ok-pass.ensures.draft)

pub returns : goal.returns
returns c = none_left (λ line. passed_on c.args.self.now.pending c.args.self.now.draft c.args.kind.now line) c.symbols.self.pending c.args.kind.now c.symbols.self.draft c.in_default.ensures c.symbols.invariant
