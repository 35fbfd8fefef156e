use Rattle.std.proofs.Common.{◌≡◌, ℕ, List, [], get_or, slice_get, Some, ap, sym, subst, ◌∙◌, Contains}
use Rattle.std.specs.List.{AllByRecursion}
use Rattle.bb_base.specs.Net.{Gate}
use Rattle.bb_base.specs.Order.{drivers}
use Rattle.bb_base.specs.Run.{Meets}
use Rattle.bb_base.specs.Parity.{code_bit}
use Rattle.bb_eqn.specs.Values.{bits_at}
use Rattle.bb_eqn.specs.Lanes.{lane, in_lane, state_on}
use Rattle.bb_sign.specs.Evaluation.{EvaluationValue, CanBeEvaluated}
use Rattle.bb_sign.proofs.EvaluationLemmas.{given_bits}
use Rattle.bb_sign.proofs.bits.fill_bits.Goals as goal

pub returns-clause-bits : goal.returns-clause-bits
returns-clause-bits c = λ t less.
    let e = c.args.evaluation.now in
    let words = c.source_words-state.new.words in
    let put = c.put_words.new.values in
    let values = c.eval.new.values in
    let state = state_on c.args.degree c.args.mask t c.args.first in
    let columns : c.deref.result.now ≡ e.columns = c.deref.ensures.value ∙ ap (λ (x : EvaluationValue). x.columns) c.evaluation.view_is in
    let nets : c.deref-2.result.now ≡ e.nets = c.deref-2.ensures.value ∙ ap (λ (x : EvaluationValue). x.nets) c.evaluation.view_is in
    let gates : c.deref-3.result.now ≡ e.gates = c.deref-3.ensures.value ∙ ap (λ (x : EvaluationValue). x.gates) c.evaluation.view_is in
    given_bits e state t words put values (subst (λ n. CanBeEvaluated n e) (sym c.put_words.ensures.long) c.requires.ready)
    (subst (λ (cs : List ℕ). (j column : ℕ) → slice_get cs j ≡ Some column → lane t (get_or words j 0) ≡ code_bit column state) columns (λ j column at. c.source_words-state.ensures.coded j t column at less))
    (subst (λ (ns : List ℕ). (net : ℕ) → Contains ns net → (j : ℕ) × (slice_get ns j ≡ Some net) × (get_or put net 0 ≡ get_or words j 0)) nets c.put_words.ensures.put)
    (subst (λ (gs : List (Gate ℕ)). AllByRecursion (Meets (bits_at (in_lane t values))) gs) gates (c.eval.ensures.met t less))
    (subst (λ (gs : List (Gate ℕ)). (net : ℕ) → drivers gs net ≡ [] → bits_at (in_lane t values) net ≡ bits_at (in_lane t put) net) gates (λ net none. c.eval.ensures.kept t net less none))
