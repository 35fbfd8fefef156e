use Rattle.std.proofs.Common.{arith, ◌≡◌, ◌<◌, ◌^◌, ℕ, length, sym, ap, subst, ◌∙◌}
use Rattle.bb_base.specs.Bits.{from_bits}
use Rattle.bb_eqn.specs.Values.{bits_at}
use Rattle.bb_eqn.specs.Lanes.{in_lane}
use Rattle.bb_sign.specs.Compactors.{CompactorValue, start_bit, line_word, taken_in}
use Rattle.bb_sign.proofs.TakenLemmas.{taken_same}
use Rattle.bb_sign.proofs.WordLemmas.{word_below}
use Rattle.bb_sign.proofs.compactors.compact.Goals as goal

pub take_in-requires-clause-lines : goal.take_in-requires-clause-lines
take_in-requires-clause-lines c = λ t less.
    let starts = c.deref.result.now in
    let long : length starts ≡ c.len-cells.result = omega (arith, ap length c.deref.ensures.value, c.len-cells.ensures, c.compactor.inside.starts.ok) in
    subst (λ n. from_bits (in_lane t c.rows_of-rows.result) < 2 ^ n) long
    (subst (λ n. n < 2 ^ length starts) (sym (c.rows_of-rows.ensures t less)) (word_below (start_bit c.args.netlist.now.gates (bits_at (in_lane t c.args.values.now))) starts))

pub returns-clause-value : goal.returns-clause-value
returns-clause-value c =
    let k = c.args.compactor.now in
    let gates = c.args.netlist.now.gates in
    let values = c.args.values.now in
    let starts : c.deref.result.now ≡ k.starts = c.deref.ensures.value ∙ ap (λ (x : CompactorValue). x.starts) c.compactor.view_is in
    let long : c.len-cells.result ≡ length k.starts = omega (arith, ap length starts, ap length c.deref.ensures.value, c.len-cells.ensures, c.compactor.inside.starts.ok) in
    let mask : c.compactor.inside.mask ≡ k.mask = ap (λ (x : CompactorValue). x.mask) c.compactor.view_is in
    let lines : ℕ → ℕ = (λ t. from_bits (in_lane t c.rows_of-rows.result)) in
    let few = c.requires.count in
    c.take_in.ensures.value
    ∙ (ap (λ n. taken_in n c.compactor.inside.mask lines c.args.count c.args.held) long
    ∙ (ap (λ m. taken_in (length k.starts) m lines c.args.count c.args.held) mask
    ∙ taken_same (length k.starts) k.mask lines (λ t. line_word gates (bits_at (in_lane t values)) k.starts) c.args.count c.args.held
    (λ t less. c.rows_of-rows.ensures t (omega (arith, less, few)) ∙ ap (line_word gates (bits_at (in_lane t values))) starts)))
