use Rattle.bb_drive.proofs.DriverTests.{used_are}
use Rattle.bb_drive.proofs.DriverFaults.{fault_of_two, fault_of_undriven, no_fault, undriven_in}
use Rattle.std.proofs.Common.{arith, length, ◌≡◌, ◌∙◌, ap}
use Rattle.bb_drive.specs.Nets.{bits_driven, bits_read}
use Rattle.bb_drive.specs.Tallies.{tallies}
use Rattle.bb_drive.proofs.nets.driven_nets.Goals as goal

pub returns-in-Some-clause-fault : goal.returns-in-Some-clause-fault
returns-in-Some-clause-fault c = λ other.
    let vars = c.args.vars.now.entries in
    let w = c.args.work.now in
    let counts : c.deref.result.now ≡ tallies w.fresh (bits_driven vars w) = grind (arith, c.deref.ensures.value, c.in_ok-drivers.ensures.counts) in
    fault_of_two vars w c.deref.result.now c.first_twice.result c.in-Some.bit c.in_ok-name.name c.in_ok-name.select counts c.first_twice.ensures.first c.in-Some.is c.in_ok-name.ensures

pub returns-in-Some-first_undriven-clause-fault : goal.returns-in-Some-first_undriven-clause-fault
returns-in-Some-first_undriven-clause-fault c = λ other.
    let vars = c.args.vars.now.entries in
    let w = c.args.work.now in
    let drivers : c.deref.result.now ≡ tallies w.fresh (bits_driven vars w) = grind (arith, c.deref.ensures.value, c.in_ok-drivers.ensures.counts) in
    let readers : c.deref-3.result.now ≡ tallies w.fresh (bits_read vars w) = grind (arith, c.deref-3.ensures.value, c.in_ok-readers.ensures.counts) in
    let same : c.deref-2.result.now ≡ c.deref.result.now = grind (arith, c.deref.ensures.value, c.deref-2.ensures.value) in
    fault_of_undriven vars w c.deref.result.now c.deref-3.result.now c.first_twice.result c.first_undriven.result c.in-Some-first_undriven.bit c.in_ok-name-2.name c.in_ok-name-2.select drivers readers c.first_twice.ensures.first c.in_default.is
    (c.first_undriven.ensures.first ∙ ap (λ x. undriven_in x c.deref-3.result.now) same) c.in-Some-first_undriven.is c.in_ok-name-2.ensures

pub bit_text-requires : goal.bit_text-requires
bit_text-requires c = omega (arith, c.in-Some.ensures.inside, c.deref.ensures.len, ap length c.deref.ensures.value, c.in_ok-drivers.ensures.long, c.requires)

pub bit_text-requires-in-Some-first_undriven : goal.bit_text-requires-in-Some-first_undriven
bit_text-requires-in-Some-first_undriven c = omega (arith, c.in-Some-first_undriven.ensures.inside, ap length c.deref-2.ensures.value, c.in_ok-drivers.ensures.long, c.requires)

pub returns : goal.returns
returns c =
    let vars = c.args.vars.now.entries in
    let w = c.args.work.now in
    let drivers : c.deref.result.now ≡ tallies w.fresh (bits_driven vars w) = grind (arith, c.deref.ensures.value, c.in_ok-drivers.ensures.counts) in
    let readers : c.deref-3.result.now ≡ tallies w.fresh (bits_read vars w) = grind (arith, c.deref-3.ensures.value, c.in_ok-readers.ensures.counts) in
    let same : c.deref-2.result.now ≡ c.deref.result.now = grind (arith, c.deref.ensures.value, c.deref-2.ensures.value) in
    let drivers_too : c.deref-4.result.now ≡ tallies w.fresh (bits_driven vars w) = grind (arith, c.deref-4.ensures.value, c.in_ok-drivers.ensures.counts) in
    let readers_too : c.deref-5.result.now ≡ tallies w.fresh (bits_read vars w) = grind (arith, c.deref-5.ensures.value, c.in_ok-readers.ensures.counts) in
    record {
      nets = c.in_ok-used_bits.ensures ∙ used_are w.fresh (bits_driven vars w) (bits_read vars w) c.deref-4.result.now c.deref-5.result.now drivers_too readers_too;
      fine =
          no_fault vars w c.deref.result.now c.deref-3.result.now c.first_twice.result c.first_undriven.result drivers readers c.first_twice.ensures.first c.in_default.is
          (c.first_undriven.ensures.first ∙ ap (λ x. undriven_in x c.deref-3.result.now) same) c.in_default-first_undriven.is;
      fault = tt;
    }
