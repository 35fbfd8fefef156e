use Rattle.std.proofs.Common.{◌≡◌, ◌≤◌, ◌<◌, true, length, rules, arith, ap, sym, subst, Some}
use Rattle.std.specs.List.{list_any}
use Rattle.bb_base.specs.Variables.{bit_at, bit_eq}
use Rattle.bb_base.specs.Building.{find_of, net_limit}
use Rattle.bb_base.proofs.BitLemmas.{found_bit}
use Rattle.bb_net.proofs.ConsistentLemmas.{net_added, one_more, no_more}
use Rattle.bb_net.proofs.builder.Builder.net.Goals as goal

pub invariant_of-self-2 : goal.invariant_of-self-2
invariant_of-self-2 c =
    let bit = bit_at c.args.variable c.args.place in
    let kept = c.self.invariant in
    let room : length c.self.inside.names.keys < net_limit = omega arith in
    let short : length c.insert_full.new.self.keys ≤ net_limit = omega (arith, ap length c.in_ok-index.ensures.keys, one_more (list_any (bit_eq bit) c.self.inside.names.keys) c.self.inside.names.keys bit) in
    (net_added _ c.args.self.now bit c.insert_full.new.self.keys c.self.view_is kept.0 c.requires.bit c.requires.no_clock c.in_ok-index.ensures.keys, kept.1, short, kept.3)

pub returns-in-Some-clause-found : goal.returns-in-Some-clause-found
returns-in-Some-clause-found c =
    let found : Some c.in-Some.index ≡ find_of (bit_at c.args.variable c.args.place) c.args.self.now = search rules in
    found_bit c.args.self.now.names (bit_at c.args.variable c.args.place) c.in-Some.index (sym found)

pub returns-in-Some-clause-many : goal.returns-in-Some-clause-many
returns-in-Some-clause-many c =
    let bit = bit_at c.args.variable c.args.place in
    let short : length c.args.self.now.names ≤ net_limit = subst (λ k. length k.names ≤ net_limit) c.self.view_is c.self.invariant.2 in
    let there : list_any (bit_eq bit) c.args.self.now.names ≡ true = search rules in
    let same = no_more (list_any (bit_eq bit) c.args.self.now.names) c.args.self.now.names bit there in
    λ count limit. (λ e. absurd (cc), λ t. absurd (omega (arith, t.0)))
