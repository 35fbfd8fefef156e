use Rattle.std.proofs.Common.{◌≡◌, length, slice_get, Some, sym, ap, ◌∙◌, arith}
use Rattle.std.proofs.lemmas.Grind.{common_steps}
use Rattle.bb_drive.specs.Origins.{is_marked}
use Rattle.bb_assemble.proofs.NumberLaws.{filter_short, flagged_below, clones_at}
use Rattle.bb_assemble.proofs.numbers.numbers_of.Goals as goal

pub overflow_cast-count : goal.overflow_cast-count
overflow_cast-count c =
    omega (arith, c.len-count.ensures, c.in_ok-kept.kept.ok, ap length c.in_ok-kept.ensures, filter_short (is_marked c.args.flags.now) c.args.bits.now, c.requires.few)

pub put_numbers-requires-clause-few : goal.put_numbers-requires-clause-few
put_numbers-requires-clause-few c =
    omega (arith, ap length c.deref.ensures.value, ap length c.in_ok-kept.ensures, filter_short (is_marked c.args.flags.now) c.args.bits.now, c.requires.few)

pub put_numbers-requires-clause-within : goal.put_numbers-requires-clause-within
put_numbers-requires-clause-within c =
    let long : length c.deref_mut.result.now ≡ c.args.fresh = grind (arith, common_steps, c.deref_mut.ensures.value, c.in_ok-numbers.ensures.items) in
    flagged_below c.args.flags.now c.args.bits.now c.deref.result.now c.args.fresh (length c.deref_mut.result.now) c.requires.within (c.deref.ensures.value ∙ c.in_ok-kept.ensures) long

pub put_numbers-requires-clause-none : goal.put_numbers-requires-clause-none
put_numbers-requires-clause-none c = λ b less.
    let same : length c.deref.result.now ≡ c.len-count.result = omega (arith, ap length c.deref.ensures.value, c.len-count.ensures, c.in_ok-kept.kept.ok) in
    let long : length c.deref_mut.result.now ≡ length c.in_ok-numbers.numbers.items = ap length c.deref_mut.ensures.value in
    ap (λ ks. slice_get ks b) c.deref_mut.ensures.value ∙ clones_at (λ x y. y ≡ x) c.len-count.result (λ y h. h) c.in_ok-numbers.numbers.items c.in_ok-numbers.ensures.items b (omega (arith, less, long)) ∙ ap Some (sym same)
