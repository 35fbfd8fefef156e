use Rattle.std.proofs.Common.{arith, map, get_or-set_other, ap, ◌∙◌}
use Rattle.std.proofs.lemmas.List.{length-set, take_all}
use Rattle.bb_base.specs.Bits.{from_bits}
use Rattle.bb_eqn.specs.Values.{bits_at}
use Rattle.bb_eqn.specs.Lanes.{lane, in_lane}
use Rattle.bb_sign.specs.Compactors.{start_bit}
use Rattle.bb_sign.proofs.WordLemmas.{rows_more, number_front}
use Rattle.bb_sign.proofs.lines.rows_of.Goals as goal

pub loop-place-preserved : goal.loop-place-preserved
loop-place-preserved c = record {
  long = length-set c.loop-place.rows c.loop-place.place c.line_of.result ∙ c.loop-place.invariant.long;
  so_far = λ t less.
      rows_more (lane t) (start_bit c.args.netlist.now.gates (bits_at (in_lane t c.args.values.now))) c.loop-place.rows c.args.starts.now c.loop-place.place c.line_of.result c.index-starts-place.result
      (omega (arith, c.loop-place-test.true, c.requires.few, c.loop-place.invariant.long)) c.loop-place-test.true c.index-starts-place.is (c.line_of.ensures t less) (c.loop-place.invariant.so_far t less);
  ahead = λ i near. get_or-set_other c.loop-place.rows c.loop-place.place i c.line_of.result 0 (λ same. omega (arith, near, same)) ∙ c.loop-place.invariant.ahead i (omega (arith, near));
}

pub returns : goal.returns
returns c = λ t less.
    let place = c.loop-place.place in
    let f = start_bit c.args.netlist.now.gates (bits_at (in_lane t c.args.values.now)) in
    let all = take_all place c.args.starts.now (omega (arith, c.loop-place-test.false)) in
    number_front t place c.loop-place.rows c.loop-place.invariant.ahead ∙ (ap from_bits (c.loop-place.invariant.so_far t less) ∙ ap (λ starts. from_bits (map f starts)) all)
