use Rattle.std.proofs.Common.{◌≡◌, ◌≤◌, ◌<◌, ◌∙◌, Some, Err, slice_get, length, sym, ap, subst, arith}
use Rattle.bb_base.specs.declared.variable.BitName.{BitName}
use Rattle.bb_base.specs.Variables.{bit_at}
use Rattle.bb_base.specs.Named.{Named}
use Rattle.bb_base.specs.Building.{with_net, net_limit}
use Rattle.bb_ctl.proofs.NetLemmas.{called, first_bit_stands, net_is_no_clock, one_net, net_stands, none_made, only_memory_of_net}
use Rattle.bb_ctl.proofs.numbering.net_called.Goals as goal

pub net-requires-clause-bit : goal.net-requires-clause-bit
net-requires-clause-bit c = first_bit_stands c.args.builder.now c.args.name.now c.in-Some.variable (sym c.in-Some.ensures)

pub net-requires-clause-no_clock : goal.net-requires-clause-no_clock
net-requires-clause-no_clock c =
    let found = called c.args.builder.now c.args.name.now c.in-Some.variable c.requires.stands.0 c.in-Some.ensures c.requires.stands.1 in
    net_is_no_clock c.args.builder.now (bit_at c.in-Some.variable 0) c.requires.stands.0 found c.requires.distinct

pub out_of_memory-requires : goal.out_of_memory-requires
out_of_memory-requires c =
    let b : Named = c.args.builder.now in
    let bit : BitName = bit_at c.in-Some.variable 0 in
    let found = called b c.args.name.now c.in-Some.variable c.requires.stands.0 c.in-Some.ensures c.requires.stands.1 in
    let few : length (with_net b bit).names ≤ net_limit = subst (λ (n : Named). length n.names ≤ net_limit) (sym (none_made b bit c.requires.stands.0 found)) c.requires.distinct.few in
    only_memory_of_net c.in-Err.fault c.in-Err.ensures.only (λ count limit e. omega (arith, few, ((c.in-Err.ensures.many count limit).0 (ap Err e)).0))

pub returns-in-Ok-clause-net : goal.returns-in-Ok-clause-net
returns-in-Ok-clause-net c =
    let b : Named = c.args.builder.now in
    let bit : BitName = bit_at c.in-Some.variable 0 in
    let net = c.requires.stands.0 in
    let found = called b c.args.name.now c.in-Some.variable net c.in-Some.ensures c.requires.stands.1 in
    let same = c.in-Ok.ensures.ok ∙ none_made b bit net found in
    let at : slice_get b.names c.in-Ok.net ≡ Some bit = subst (λ (n : Named). slice_get n.names c.in-Ok.net ≡ Some bit) same c.in-Ok.ensures.found in
    c.requires.stands.1 ∙ ap Some (sym (one_net b bit net c.in-Ok.net found c.requires.distinct at))

pub returns-in-Ok-clause-below : goal.returns-in-Ok-clause-below
returns-in-Ok-clause-below c =
    let b : Named = c.args.builder.now in
    let bit : BitName = bit_at c.in-Some.variable 0 in
    let net = c.requires.stands.0 in
    let found = called b c.args.name.now c.in-Some.variable net c.in-Some.ensures c.requires.stands.1 in
    let same = c.in-Ok.ensures.ok ∙ none_made b bit net found in
    let at : slice_get b.names c.in-Ok.net ≡ Some bit = subst (λ (n : Named). slice_get n.names c.in-Ok.net ≡ Some bit) same c.in-Ok.ensures.found in
    subst (λ k. k < length b.names) (sym (one_net b bit net c.in-Ok.net found c.requires.distinct at)) (net_stands b bit net found)

pub returns-in-Ok-clause-same : goal.returns-in-Ok-clause-same
returns-in-Ok-clause-same c =
    let b : Named = c.args.builder.now in
    let found = called b c.args.name.now c.in-Some.variable c.requires.stands.0 c.in-Some.ensures c.requires.stands.1 in
    c.in-Ok.ensures.ok ∙ none_made b (bit_at c.in-Some.variable 0) c.requires.stands.0 found
