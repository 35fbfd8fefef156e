-- What a certificate and signatures list, given back.
use Rattle.std.proofs.Common.{arith, ◌≡◌, ◌∙◌, ℕ, ◌<◌, ◌^◌, List, [], ◌∷◌, length, map, zip, refl, sym, ap, subst}
use Rattle.std.proofs.lemmas.List.Elements.{All-from_recursion}
use Rattle.std.proofs.lemmas.Option.{slice_get_within}
use Rattle.std.proofs.lemmas.Slice.Zip.{firsts-zip, seconds-zip}
use Rattle.std.specs.List.{AllByRecursion, AllZip}
use Rattle.bb_base.proofs.Contained.{at_place, by_place}
use Rattle.bb_base.proofs.Lists.{length_map}
use Rattle.bb_base.specs.Dual.{AreDuals}
use Rattle.bb_base.specs.Net.{Netlist}
use Rattle.bb_terms.specs.declared.plan.Cell.{Cell}
use Rattle.bb_terms.specs.Plan.{PlanValue}
use Rattle.bb_terms.specs.Rules.{Columns}
use Rattle.bb_terms.specs.Valid.{IsValidPlan, SegmentValue, IsSegmentOf, column_at}
use Rattle.bb_rules.proofs.CodeLemmas.{segment_duals_below, segment_duals}
use Rattle.bb_forms.specs.declared.signature.Signature.{Signature}
use Rattle.bb_forms.specs.CertificateText.{CertificateSegmentValue}
use Rattle.bb_make.specs.Files.{signed_session, signed_sessions, certified}
use Rattle.bb_audit.specs.Certified.{segment_cells, line_cells, HaveDuals, AllHaveDuals}
use Rattle.bb_audit.specs.Signed.{registers_of, values_of}
use Rattle.bb_passing.proofs.Places.{at_index}

columns_of : (p : PlanValue) (xs ys : List ℕ) → length ys ≡ length xs → map (λ (pair : ℕ × ℕ). column_at p pair.0) (zip xs ys) ≡ map (column_at p) xs
columns_of p [] ys long = refl
columns_of p (x ∷ xs) [] long = absurd (omega (arith, long))
columns_of p (x ∷ xs) (y ∷ ys) long = ap (λ (cs : List ℕ). column_at p x ∷ cs) (columns_of p xs ys (omega (arith, long)))

duals_long : (a : Netlist ℕ) (p : PlanValue) (o : ℕ × Cell) (s : SegmentValue) → IsSegmentOf a p o s → length s.duals ≡ length s.leaves
duals_long a p o s is = is.duals.one_each ∙ length_map (column_at p) s.leaves

-- the cells of segments
pub cells_listed : (a : Netlist ℕ) (p : PlanValue) (os : List (ℕ × Cell)) (segments : List SegmentValue) → AllZip (IsSegmentOf a p) os segments → map line_cells (map certified segments) ≡ map segment_cells segments
cells_listed a p [] [] h = refl
cells_listed a p [] (s ∷ segments) h = absurd h
cells_listed a p (o ∷ os) [] h = absurd h
cells_listed a p (o ∷ os) (s ∷ segments) h =
    let first : line_cells (certified s) ≡ segment_cells s = ap (λ (ls : List ℕ). (s.cell, ls)) (firsts-zip s.leaves s.duals (duals_long a p o s h.0)) in
    let rest = cells_listed a p os segments h.1 in
    λ i. first i ∷ rest i

-- and their duals
have_duals : (a : Netlist ℕ) (p : PlanValue) → IsValidPlan a p → (o : ℕ × Cell) (s : SegmentValue) → IsSegmentOf a p o s → HaveDuals p (zip s.leaves s.duals)
have_duals a p valid o s is =
    let long = duals_long a p o s is in
    let ends : map (λ (pair : ℕ × ℕ). pair.1) (zip s.leaves s.duals) ≡ s.duals = seconds-zip s.leaves s.duals long in
    let below : AllByRecursion (λ dual. dual < 2 ^ p.degree) s.duals =
    by_place (λ dual. dual < 2 ^ p.degree) s.duals
    (λ place dual at. let low = segment_duals_below a p (valid.meets Columns) o s is place (slice_get_within s.duals place dual at) in let same = at_index s.duals place dual at in omega (arith, low, same)) in
    record {
      short = All-from_recursion (λ (pair : ℕ × ℕ). pair.1 < 2 ^ p.degree) (zip s.leaves s.duals) (ends_below (zip s.leaves s.duals) (subst (λ (ds : List ℕ). AllByRecursion (λ dual. dual < 2 ^ p.degree) ds) (sym ends) below));
      duals = subst (λ (ds : List ℕ). AreDuals (map (λ (pair : ℕ × ℕ). column_at p pair.0) (zip s.leaves s.duals)) ds) (sym ends)
          (subst (λ (cs : List ℕ). AreDuals cs s.duals) (sym (columns_of p s.leaves s.duals long)) (segment_duals a p o s is));
    }
  where
    ends_below : (pairs : List (ℕ × ℕ)) → AllByRecursion (λ dual. dual < 2 ^ p.degree) (map (λ (pair : ℕ × ℕ). pair.1) pairs) → AllByRecursion (λ (pair : ℕ × ℕ). pair.1 < 2 ^ p.degree) pairs
    ends_below [] h = tt
    ends_below (pair ∷ pairs) h = (h.0, ends_below pairs h.1)

lines_have : (a : Netlist ℕ) (p : PlanValue) → IsValidPlan a p → (os : List (ℕ × Cell)) (segments : List SegmentValue) → AllZip (IsSegmentOf a p) os segments → AllByRecursion (λ (line : CertificateSegmentValue). HaveDuals p line.pairs) (map certified segments)
lines_have a p valid [] [] h = tt
lines_have a p valid [] (s ∷ segments) h = absurd h
lines_have a p valid (o ∷ os) [] h = absurd h
lines_have a p valid (o ∷ os) (s ∷ segments) h = (have_duals a p valid o s h.0, lines_have a p valid os segments h.1)

pub duals_listed : (a : Netlist ℕ) (p : PlanValue) → IsValidPlan a p → (os : List (ℕ × Cell)) (segments : List SegmentValue) → AllZip (IsSegmentOf a p) os segments → AllHaveDuals p (map certified segments)
duals_listed a p valid os segments h i line at = at_place (λ (line : CertificateSegmentValue). HaveDuals p line.pairs) (map certified segments) i line (lines_have a p valid os segments h) at

-- the registers of signatures, and their values
registers_one : (R : ℕ → ℕ → Type 0) (rs ws : List ℕ) → AllZip R rs ws → map (λ (s : Signature). s.register) (signed_session rs ws) ≡ rs
registers_one R [] [] h = refl
registers_one R [] (w ∷ ws) h = absurd h
registers_one R (r ∷ rs) [] h = absurd h
registers_one R (r ∷ rs) (w ∷ ws) h = ap (λ (xs : List ℕ). r ∷ xs) (registers_one R rs ws h.1)

values_one : (R : ℕ → ℕ → Type 0) (rs ws : List ℕ) → AllZip R rs ws → map (λ (s : Signature). s.value) (signed_session rs ws) ≡ ws
values_one R [] [] h = refl
values_one R [] (w ∷ ws) h = absurd h
values_one R (r ∷ rs) [] h = absurd h
values_one R (r ∷ rs) (w ∷ ws) h = ap (λ (xs : List ℕ). w ∷ xs) (values_one R rs ws h.1)

pub registers_listed : (R : ℕ → ℕ → Type 0) (ss vs : List (List ℕ)) → AllZip (λ session written. AllZip R session written) ss vs → registers_of (signed_sessions ss vs) ≡ ss
registers_listed R [] [] h = refl
registers_listed R [] (v ∷ vs) h = absurd h
registers_listed R (s ∷ ss) [] h = absurd h
registers_listed R (s ∷ ss) (v ∷ vs) h = let first = registers_one R s v h.0 in let rest = registers_listed R ss vs h.1 in λ i. first i ∷ rest i

pub values_listed : (R : ℕ → ℕ → Type 0) (ss vs : List (List ℕ)) → AllZip (λ session written. AllZip R session written) ss vs → values_of (signed_sessions ss vs) ≡ vs
values_listed R [] [] h = refl
values_listed R [] (v ∷ vs) h = absurd h
values_listed R (s ∷ ss) [] h = absurd h
values_listed R (s ∷ ss) (v ∷ vs) h = let first = values_one R s v h.0 in let rest = values_listed R ss vs h.1 in λ i. first i ∷ rest i
