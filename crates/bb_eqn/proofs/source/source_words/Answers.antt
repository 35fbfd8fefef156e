use Rattle.std.proofs.Common.{arith, ◌<◌, ℕ, length, get_or, refl, length-set, ◌∙◌}
use Rattle.std.proofs.lemmas.List.{get_or-replicate}
use Rattle.bb_base.specs.Parity.{code_bit}
use Rattle.bb_eqn.specs.Lanes.{state_on}
use Rattle.bb_eqn.proofs.SourceLemmas.{code_in_lane, coded_more, state_on_below, inside_list, below_states}
use Rattle.bb_eqn.proofs.source.source_words.Goals as goal

pub put_states-state-requires-clause-fresh : goal.put_states-state-requires-clause-fresh
put_states-state-requires-clause-fresh c = λ i less. get_or-replicate 32 i 0 0 less

pub columns-preserved : goal.columns-preserved
columns-preserved c =
    let columns = c.args.columns.now in
    let words = c.columns.words in
    let place = c.columns.place in
    let at = (λ (t : ℕ). state_on c.args.degree c.args.mask t c.args.first) in
    let item = get_or columns place 0 in
    let small = (λ (t : ℕ). below_states c.args.degree (at t) c.requires.degree.most (state_on_below c.args.degree c.args.mask t c.args.first c.requires.state)) in
    let less : place < length words = omega (arith, c.columns-test.true, c.columns.invariant.long, c.requires.long) in
    record {
      long = length-set words place _ ∙ c.columns.invariant.long;
      coded = coded_more (λ column t. code_bit column (at t)) columns words place item c.column_word.result less c.columns-test.true refl
          (λ t h. c.column_word.ensures t h ∙ code_in_lane 32 t item (at t) c.put_states-state.new.rows c.put_states-state.array_long (small t) (λ i near. c.put_states-state.ensures.lanes i t near h))
          c.columns.invariant.coded;
    }

pub returns-clause-coded : goal.returns-clause-coded
returns-clause-coded c = λ j t column stands h.
    let less : j < length c.args.columns.now = inside_list c.args.columns.now j column stands in
    c.columns.invariant.coded j t column (omega (arith, less, c.columns-test.false)) stands h
