use Rattle.std.proofs.Common.{arith, ◌≡◌, ◌≢◌, ap, subst, sym, Some, Contains, slice_get, ◌∙◌}
use Rattle.std.proofs.lemmas.Option.{get_or_from_slice_get}
use Rattle.bb_base.specs.declared.variable.BitName.{BitName}
use Rattle.bb_base.specs.Variables.{bit_at, ports_of}
use Rattle.bb_base.specs.Named.{Named, name_of_net}
use Rattle.bb_net.proofs.VariableLemmas.{all_at}
use Rattle.bb_lay.specs.Laying.{new_number}
use Rattle.bb_lay.proofs.Bits.{each_more}
use Rattle.bb_lay.proofs.lay.kept_nets.Goals as goal

pub number_of-requires-clause-no_clock : goal.number_of-requires-clause-no_clock
number_of-requires-clause-no_clock c = λ x is.
    let ports = ports_of c.args.named.now.variables in
    let number : c.moved_number-number.result ≡ new_number ports c.args.added c.name-bit.result.variable = c.moved_number-number.ensures ∙ ap (λ k. new_number k c.args.added c.name-bit.result.variable) c.ports-ports.ensures.count in
    let apart = all_at (λ (b : BitName). bit_at (new_number ports c.args.added b.variable) b.place ≢ x) c.args.named.now.names c.nets.net c.name-bit.result (c.requires.no_clock x (sym (ap (λ (k : Named). k.clock) c.nets.invariant.builder) ∙ is)) c.name-bit.ensures.value in
    λ same. apart (ap (λ k. bit_at k c.name-bit.result.place) (sym number) ∙ same)

pub number_of-requires-clause-stands : goal.number_of-requires-clause-stands
number_of-requires-clause-stands c =
    let ports = ports_of c.args.named.now.variables in
    let number : c.moved_number-number.result ≡ new_number ports c.args.added c.name-bit.result.variable = c.moved_number-number.ensures ∙ ap (λ k. new_number k c.args.added c.name-bit.result.variable) c.ports-ports.ensures.count in
    let stands = all_at (λ (b : BitName). Contains c.args.builder.now.names (bit_at (new_number ports c.args.added b.variable) b.place)) c.args.named.now.names c.nets.net c.name-bit.result c.requires.stand c.name-bit.ensures.value in
    subst (λ ns. Contains ns (bit_at c.moved_number-number.result c.name-bit.result.place)) (sym (ap (λ (k : Named). k.names) c.nets.invariant.builder))
    (subst (λ k. Contains c.args.builder.now.names (bit_at k c.name-bit.result.place)) (sym number) stands)

pub nets-preserved : goal.nets-preserved
nets-preserved c =
    let a = c.args.named.now in
    let ports = ports_of a.variables in
    let number : c.moved_number-number.result ≡ new_number ports c.args.added c.name-bit.result.variable = c.moved_number-number.ensures ∙ ap (λ k. new_number k c.args.added c.name-bit.result.variable) c.ports-ports.ensures.count in
    let named : name_of_net a c.nets.net ≡ c.name-bit.result = get_or_from_slice_get a.names c.nets.net c.name-bit.result (bit_at 0 0) c.name-bit.ensures.value in
    let here : slice_get c.args.builder.now.names c.in_ok-number_of.field-0 ≡ Some (bit_at (new_number ports c.args.added (name_of_net a c.nets.net).variable) (name_of_net a c.nets.net).place) =
    ap (λ (k : Named). slice_get k.names c.in_ok-number_of.field-0) (sym c.nets.invariant.builder) ∙ c.in_ok-number_of.ensures.found ∙ ap (λ k. Some (bit_at k c.name-bit.result.place)) number
    ∙ ap (λ (b : BitName). Some (bit_at (new_number ports c.args.added b.variable) b.place)) (sym named) in
    record {
      builder = c.in_ok-number_of.ensures.same ∙ c.nets.invariant.builder;
      long = omega (arith, c.nets.invariant.long, c.in_ok-push.ensures.len);
      each = each_more (λ k m. slice_get c.args.builder.now.names m ≡ Some (bit_at (new_number ports c.args.added (name_of_net a k).variable) (name_of_net a k).place)) c.nets.nets.items c.push.new.self.items c.in_ok-number_of.field-0 c.nets.net
          c.nets.invariant.long c.in_ok-push.ensures.items here c.nets.invariant.each;
    }
