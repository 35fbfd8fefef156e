-- How large a valid plan is, and what it has of each segment and session.
use Rattle.std.proofs.Common.{arith, ◌≡◌, ◌∙◌, ℕ, List, [], ◌∷◌, length, All}
use Rattle.std.proofs.lemmas.List.Elements.{All-from_recursion}
use Rattle.std.proofs.lemmas.Slice.Zip.{AllZip-long}
use Rattle.std.specs.List.{AllByRecursion, AllZip}
use Rattle.bb_base.proofs.Lists.{length_map}
use Rattle.bb_base.specs.Net.{Netlist}
use Rattle.bb_terms.specs.declared.plan.Cell.{Cell}
use Rattle.bb_terms.specs.Plan.{PlanValue, observers}
use Rattle.bb_terms.specs.Rules.{Frame}
use Rattle.bb_terms.specs.Valid.{IsValidPlan, ValidValue, IsValidFor, SegmentValue, IsSegmentOf, column_at}
use Rattle.bb_terms.specs.Signatures.{AreSignatures, IsSigned}
use Rattle.bb_written.proofs.Few.{are_few}
use Rattle.bb_make.specs.Bounds.{HasBounds}

pub has_bounds : (a : Netlist ℕ) (p : PlanValue) → IsValidPlan a p → HasBounds p
has_bounds a p valid =
    let frame = valid.meets Frame in
    let few = are_few a p valid in
    let cells = few.cells in
    let registers = few.registers in
    let sessions = few.sessions in
    record {
      degree_least = frame.degree_least;
      degree_most = frame.degree_most;
      cells = omega (arith, cells);
      registers = omega (arith, cells, registers);
      sessions = omega (arith, sessions);
    }

-- each leaf of a segment has a dual
duals_each : (a : Netlist ℕ) (p : PlanValue) (os : List (ℕ × Cell)) (segments : List SegmentValue) → AllZip (IsSegmentOf a p) os segments → AllByRecursion (λ segment. length segment.duals ≡ length segment.leaves) segments
duals_each a p [] [] h = tt
duals_each a p [] (segment ∷ segments) h = absurd h
duals_each a p (o ∷ os) [] h = tt
duals_each a p (o ∷ os) (segment ∷ segments) h = (h.0.duals.one_each ∙ length_map (column_at p) segment.leaves, duals_each a p os segments h.1)

pub duals_long : (a : Netlist ℕ) (v : ValidValue) → IsValidFor a v → All (λ segment. length segment.duals ≡ length segment.leaves) v.segments
duals_long a v valid = All-from_recursion (λ (segment : SegmentValue). length segment.duals ≡ length segment.leaves) v.segments (duals_each a v.plan (observers v.plan) v.segments valid.each)

-- each register of a session has a signature
written_each : (a : Netlist ℕ) (p : PlanValue) (sessions values : List (List ℕ)) → AllZip (λ session written. AllZip (IsSigned a p) session written) sessions values
    → AllZip (λ session written. length written ≡ length session) sessions values
written_each a p [] [] h = tt
written_each a p [] (written ∷ values) h = absurd h
written_each a p (session ∷ sessions) [] h = absurd h
written_each a p (session ∷ sessions) (written ∷ values) h = (AllZip-long (IsSigned a p) session written h.0, written_each a p sessions values h.1)

pub written_long : (a : Netlist ℕ) (p : PlanValue) (values : List (List ℕ)) → AreSignatures a p values → AllZip (λ session written. length written ≡ length session) p.sessions values
written_long a p values signed = written_each a p p.sessions values signed
