use Rattle.std.proofs.Common.{◌≡◌, Some, rules, sym}
use Rattle.bb_base.specs.Building.{find_of}
use Rattle.bb_base.proofs.BitLemmas.{found_bit, contains_at}
use Rattle.bb_net.proofs.named.Named.find.Goals as goal

pub returns-in-Some-clause-none : goal.returns-in-Some-clause-none
returns-in-Some-clause-none c =
    let found : Some c.in-Some.index ≡ find_of c.args.bit c.args.self.now = search rules in
    let there = contains_at c.args.self.now.names c.in-Some.index c.args.bit (found_bit c.args.self.now.names c.args.bit c.in-Some.index (sym found)) in
    (λ e. absurd (cc), λ apart. absurd (apart there))

pub returns-in-Some-clause-found : goal.returns-in-Some-clause-found
returns-in-Some-clause-found c =
    let found : Some c.in-Some.index ≡ find_of c.args.bit c.args.self.now = search rules in
    found_bit c.args.self.now.names c.args.bit c.in-Some.index (sym found)
