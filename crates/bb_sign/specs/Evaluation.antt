-- How the bits of all nets are computed: some nets have columns, and gates give the others theirs. No public contract cites this.
use Rattle.std.specs.Prelude.{◌≡◌, ℕ, ◌<◌, Bool, true, false, List, [], length, Option, None, Some, slice_get, All, Contains}
use Rattle.std.specs.List.{AllZip}
use Rattle.bb_base.specs.Net.{Gate, Netlist, driven}
use Rattle.bb_base.specs.Order.{drivers}
use Rattle.bb_base.specs.Run.{Meets}
use Rattle.bb_base.specs.Parity.{code_bit}
use Rattle.bb_terms.specs.Plan.{PlanValue}
use Rattle.bb_terms.specs.Lines.{is_stop, column_of}
use Rattle.bb_eqn.specs.Sequence.{WriteFirst}
use Rattle.bb_sign.specs.Bits.{noted_column}

-- nets with a column each, and gates for other nets, in the order in which they are evaluated
pub record EvaluationValue : Type 0 where
  pub nets : List ℕ
  pub columns : List ℕ
  pub gates : List (Gate ℕ)

-- the nets for which a table has a column, beside their columns
pub record AreNotedSources (table : List (Option ℕ)) (nets columns : List ℕ) : Type 0 where
  pub noted : AllZip (λ net column. noted_column table net ≡ Some column) nets columns
  pub all : (net column : ℕ) → noted_column table net ≡ Some column → Contains nets net

-- those of some gates that drive a net for which a table has no column, so that each is evaluated before others read it
pub record AreOpenGates (gates : List (Gate ℕ)) (table : List (Option ℕ)) (open_gates : List (Gate ℕ)) : Type 0 where
  pub stand : All (Contains gates) open_gates
  pub without : All (λ g. noted_column table g.out ≡ None) open_gates
  pub all : (g : Gate ℕ) → Contains gates g → noted_column table g.out ≡ None → Contains open_gates g
  pub first : WriteFirst open_gates

-- an evaluation of so many nets, whose gates read only what is there by then
pub record CanBeEvaluated (nets : ℕ) (e : EvaluationValue) : Type 0 where
  pub long : length e.columns ≡ length e.nets
  pub within : All (λ net. net < nets) e.nets
  pub undriven : All (λ net. drivers e.gates net ≡ []) e.nets
  pub drives : All (λ g. g.out < nets) e.gates
  pub reads : All (λ g. All (λ n. n < nets) g.ins) e.gates
  pub first : WriteFirst e.gates

-- bits that it gives at a state: a net has the code bit of one of its columns, or what its gate gives
pub record AreGivenBits (e : EvaluationValue) (state : ℕ) (v : ℕ → Bool) : Type 0 where
  pub coded : (net : ℕ) → Contains e.nets net → (j column : ℕ) × (slice_get e.nets j ≡ Some net) × (slice_get e.columns j ≡ Some column) × (v net ≡ code_bit column state)
  pub met : All (Meets v) e.gates

-- the evaluation gives each stop of a plan the bit of its column, and each other net what its gate gives
pub record IsEvaluation (a : Netlist ℕ) (p : PlanValue) (e : EvaluationValue) : Type 0 where
  pub ready : CanBeEvaluated (length (driven a)) e
  pub columns : AllZip (λ net column. column ≡ column_of p net) e.nets e.columns
  pub stops : (net : ℕ) → net < length (driven a) → is_stop a p net ≡ true → Contains e.nets net
  pub gates : (g : Gate ℕ) → Contains a.gates g → is_stop a p g.out ≡ false → Contains e.gates g
