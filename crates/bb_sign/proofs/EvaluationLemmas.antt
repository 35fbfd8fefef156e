-- The evaluation of a valid plan's nets, and the bits that it gives.
use Rattle.std.proofs.Common.{arith, ◌≡◌, ℕ, ◌<◌, Bool, true, false, List, [], ◌∷◌, length, cond, refl, sym, ap, ◌∙◌, slice_get, get_or, Option, None, Some, All, Contains}
use Rattle.std.proofs.lemmas.List.Elements.{All-from_recursion, recursion_from_All}
use Rattle.std.proofs.lemmas.Option.{slice_get_within}
use Rattle.std.specs.List.{AllByRecursion}
use Rattle.bb_base.proofs.Contained.{of_all, to_all}
use Rattle.bb_base.proofs.Lists.{get_some}
use Rattle.bb_base.specs.Net.{Gate, Netlist, driven, IsNetlist}
use Rattle.bb_base.specs.Order.{drivers}
use Rattle.bb_base.specs.Run.{Meets}
use Rattle.bb_base.specs.Parity.{code_bit}
use Rattle.bb_terms.specs.Plan.{PlanValue}
use Rattle.bb_terms.specs.Lines.{is_stop, column_of}
use Rattle.bb_terms.proofs.NetLemmas.{out_within}
use Rattle.bb_eqn.specs.Values.{bits_at}
use Rattle.bb_eqn.proofs.Evaluated.{none_before}
use Rattle.bb_eqn.proofs.Settled.{ins_below}
use Rattle.bb_eqn.specs.Lanes.{lane, in_lane}
use Rattle.bb_eqn.proofs.LaneLemmas.{bit_in_lane}
use Rattle.bb_sign.specs.Bits.{noted_column, AreReadColumns, AreBitsAt}
use Rattle.bb_sign.specs.Evaluation.{EvaluationValue, AreNotedSources, AreOpenGates, CanBeEvaluated, AreGivenBits, IsEvaluation}
use Rattle.bb_sign.proofs.SourceLemmas.{noted_within}
use Rattle.bb_sign.proofs.ZipLemmas.{zip_long, zip_at, zip_map, zip_firsts}

-- no gate of a net without a column drives one with a column
undriven_by : (table : List (Option ℕ)) (net column : ℕ) (gates : List (Gate ℕ)) → noted_column table net ≡ Some column → AllByRecursion (λ g. noted_column table g.out ≡ None) gates → drivers gates net ≡ []
undriven_by table net column [] some all = refl
undriven_by table net column (g ∷ gates) some all =
    none_before g gates net (λ same. let none = all.0 in let at = ap (noted_column table) same in cc (none, some, at)) (undriven_by table net column gates some all.1)

module _ (a : Netlist ℕ) (p : PlanValue) (table : List (Option ℕ)) (is : IsNetlist a) (read : AreReadColumns a p table) where
  column_there : (net column : ℕ) → noted_column table net ≡ Some column → column ≡ column_of p net
  column_there net column some = by (is_stop a p net) (sym some ∙ read.each net (let less = noted_within table net column some in let long = read.long in omega (arith, less, long)))
    where
      by : (b : Bool) → Some column ≡ cond b (Some (column_of p net)) None → column ≡ column_of p net
      by true e = cc e
      by false e = absurd (cc e)

  -- the columns of stops and the gates of other nets are an evaluation
  pub evaluation_is : (nets columns : List ℕ) (gates : List (Gate ℕ)) → AreNotedSources table nets columns → AreOpenGates a.gates table gates → IsEvaluation a p (record { nets = nets; columns = columns; gates = gates })
  evaluation_is nets columns gates sources open_gates = record {
    ready = record {
      long = zip_long Noted nets columns sources.noted;
      within = All-from_recursion (λ net. net < length (driven a)) nets
          (zip_firsts Noted (λ net. net < length (driven a)) (λ net column some. let less = noted_within table net column some in let long = read.long in omega (arith, less, long)) nets columns sources.noted);
      undriven = All-from_recursion (λ net. drivers gates net ≡ []) nets
          (zip_firsts Noted (λ net. drivers gates net ≡ []) (λ net column some. undriven_by table net column gates some (recursion_from_All (λ (g : Gate ℕ). noted_column table g.out ≡ None) gates open_gates.without)) nets columns sources.noted);
      drives = each (λ g. g.out < length (driven a)) (λ g stands. out_within a g is stands);
      reads = each (λ g. All (λ n. n < length (driven a)) g.ins)
          (λ g stands. of_all (λ (g : Gate ℕ). All (λ n. n < length (driven a)) g.ins) a.gates g (recursion_from_All (λ (g : Gate ℕ). All (λ n. n < length (driven a)) g.ins) a.gates (ins_below a is)) stands);
      first = open_gates.first;
    };
    columns = zip_map Noted (λ net column. column ≡ column_of p net) column_there nets columns sources.noted;
    stops = λ net within stops. sources.all net (column_of p net) (read.each net within ∙ ap (λ b. cond b (Some (column_of p net)) None) stops);
    gates = λ g stands passes. open_gates.all g stands (read.each g.out (out_within a g is stands) ∙ ap (λ b. cond b (Some (column_of p g.out)) None) passes);
  }
    where
      Noted : ℕ → ℕ → Type 0
      Noted net column = noted_column table net ≡ Some column

      each : (P : Gate ℕ → Type 0) → ((g : Gate ℕ) → Contains a.gates g → P g) → All P gates
      each P h = All-from_recursion P gates (to_all P gates (λ g stands. h g (of_all (Contains a.gates) gates g (recursion_from_All (Contains a.gates) gates open_gates.stand) stands)))

-- bits that have the code bits of columns at their nets, and then those of gates
pub given_bits : (e : EvaluationValue) (state t : ℕ) (words put values : List ℕ) → CanBeEvaluated (length put) e → ((j column : ℕ) → slice_get e.columns j ≡ Some column → lane t (get_or words j 0) ≡ code_bit column state)
    → ((net : ℕ) → Contains e.nets net → (j : ℕ) × (slice_get e.nets j ≡ Some net) × (get_or put net 0 ≡ get_or words j 0)) → AllByRecursion (Meets (bits_at (in_lane t values))) e.gates
    → ((net : ℕ) → drivers e.gates net ≡ [] → bits_at (in_lane t values) net ≡ bits_at (in_lane t put) net) → AreGivenBits e state (bits_at (in_lane t values))
given_bits e state t words put values ready coded placed met kept = record {
  coded = λ net stands.
      let at = placed net stands in
      let small = slice_get_within e.nets at.0 net at.1 in
      let long = ready.long in
      let column = get_some e.columns at.0 (omega (arith, small, long)) in
      let undriven = of_all (λ n. drivers e.gates n ≡ []) e.nets net (recursion_from_All (λ n. drivers e.gates n ≡ []) e.nets ready.undriven) stands in
      (at.0, column.0, at.1, column.1, kept net undriven ∙ (bit_in_lane t put net ∙ (ap (lane t) at.2 ∙ coded at.0 column.0 column.1)));
  met = All-from_recursion (Meets (bits_at (in_lane t values))) e.gates met;
}

-- and these are the bits of a plan's nets
pub bits_at_state : (a : Netlist ℕ) (p : PlanValue) (e : EvaluationValue) (state : ℕ) (v : ℕ → Bool) → IsEvaluation a p e → AreGivenBits e state v → AreBitsAt a p state v
bits_at_state a p e state v is given = record {
  coded = λ net within stops.
      let at = given.coded net (is.stops net within stops) in
      let other = zip_at (λ n column. column ≡ column_of p n) e.nets e.columns at.0 net is.columns at.2 in
      let both : Some at.1 ≡ Some other.0 = sym at.3 ∙ other.1 in
      let same : at.1 ≡ other.0 = cc both in
      at.4 ∙ ap (λ column. code_bit column state) (same ∙ other.2);
  met = λ g stands passes. of_all (Meets v) e.gates g (recursion_from_All (Meets v) e.gates given.met) (is.gates g stands passes);
}
