-- A plan has one list of signatures.
use Rattle.std.proofs.Common.{◌≡◌, ◌⊎◌, inl, inr, ℕ, zero, suc, ◌+◌, ◌<◌, ◌^◌, Bool, List, [], ◌∷◌, length, map, refl, sym, ap, subst, ◌∙◌, arith, Some, Contains}
use Rattle.std.specs.List.{AllZip, range_with_len}
use Rattle.bb_base.specs.Net.{Netlist, IsNetlist}
use Rattle.bb_base.specs.Run.{by_op}
use Rattle.bb_base.specs.Order.{HasOrder}
use Rattle.bb_base.proofs.Contained.{either, none_in, map_on}
use Rattle.bb_base.specs.Bits.{from_bits}
use Rattle.bb_terms.specs.Register.{state_after}
use Rattle.bb_terms.specs.Signature.{signature}
use Rattle.bb_terms.specs.Function.{IsBitOf}
use Rattle.bb_terms.proofs.FunctionLemmas.{one_bit}
use Rattle.bb_terms.specs.declared.plan.Cell.{Cell}
use Rattle.bb_terms.specs.Plan.{PlanValue, RegisterValue}
use Rattle.bb_terms.specs.Lines.{is_stop}
use Rattle.bb_terms.specs.Signatures.{code_at, IsLineBit, HasSignature, IsSigned, AreSignatures}
use Rattle.bb_rules.proofs.CodeLemmas.{one_start}
use Rattle.bb_terms.proofs.StopLemmas.{free_stops}

below_end : (from n t : ℕ) → Contains (range_with_len from n) t → t < from + n
below_end from zero t h = absurd (none_in t h)
below_end from (suc n) t h = by (either from (range_with_len (from + 1) n) t h) (λ h. below_end (from + 1) n t h)
  where
    by : (from ≡ t) ⊎ Contains (range_with_len (from + 1) n) t → (Contains (range_with_len (from + 1) n) t → t < (from + 1) + n) → t < from + suc n
    by (inl same) rest = omega (arith, same)
    by (inr h) rest = let less = rest h in omega (arith, less)

module _ (a : Netlist ℕ) (p : PlanValue) (fits : IsNetlist a) (ordered : HasOrder a.gates) where
  pub one_line_bit : (state : ℕ) (c : Cell) (x y : Bool) → IsLineBit a p state c x → IsLineBit a p state c y → x ≡ y
  one_line_bit state c x y hx hy =
      let start : hx.start ≡ hy.start = one_start a c hx.start hy.start fits hx.begins hy.begins in
      one_bit by_op a.gates ordered.0 (is_stop a p) hy.start (code_at p state) x y ordered.1 (free_stops a p) (subst (λ s. IsBitOf by_op a.gates (is_stop a p) s (code_at p state) x) start hx.computes) hy.computes

  pub one_signature : (g : RegisterValue) (x y : ℕ) → HasSignature a p g x → HasSignature a p g y → x ≡ y
  one_signature g x y hx hy =
      let same : map (λ t. map (hx.bits t) g.cells) (range_with_len 0 (2 ^ p.degree)) ≡ map (λ t. map (hy.bits t) g.cells) (range_with_len 0 (2 ^ p.degree)) =
      map_on (λ t. map (hx.bits t) g.cells) (λ t. map (hy.bits t) g.cells) (range_with_len 0 (2 ^ p.degree)) (λ t in_range.
      let less : t < 2 ^ p.degree = (let l = below_end 0 (2 ^ p.degree) t in_range in omega (arith, l)) in
      map_on (hx.bits t) (hy.bits t) g.cells (λ c stands. one_line_bit (state_after p.degree p.mask t) c (hx.bits t c) (hy.bits t c) (hx.lines t c less stands) (hy.lines t c less stands))) in
      hx.is ∙ ap (λ cycles. from_bits (signature (length g.cells) g.mask cycles)) same ∙ sym hy.is

  one_signed : (r x y : ℕ) → IsSigned a p r x → IsSigned a p r y → x ≡ y
  one_signed r x y hx hy =
      let both : Some hx.0 ≡ Some hy.0 = sym hx.1 ∙ hy.1 in
      let same : hx.0 ≡ hy.0 = cc both in
      one_signature hy.0 x y (subst (λ (g : RegisterValue). HasSignature a p g x) same hx.2) hy.2

  one_session : (session xs ys : List ℕ) → AllZip (IsSigned a p) session xs → AllZip (IsSigned a p) session ys → xs ≡ ys
  one_session [] [] [] hx hy = refl
  one_session [] [] (y ∷ ys) hx hy = absurd hy
  one_session [] (x ∷ xs) ys hx hy = absurd hx
  one_session (r ∷ session) [] ys hx hy = absurd hx
  one_session (r ∷ session) (x ∷ xs) [] hx hy = absurd hy
  one_session (r ∷ session) (x ∷ xs) (y ∷ ys) hx hy = let first = one_signed r x y hx.0 hy.0 in let rest = one_session session xs ys hx.1 hy.1 in λ i. first i ∷ rest i

  one_list : (sessions : List (List ℕ)) (xs ys : List (List ℕ)) → AllZip (λ session written. AllZip (IsSigned a p) session written) sessions xs → AllZip (λ session written. AllZip (IsSigned a p) session written) sessions ys → xs ≡ ys
  one_list [] [] [] hx hy = refl
  one_list [] [] (y ∷ ys) hx hy = absurd hy
  one_list [] (x ∷ xs) ys hx hy = absurd hx
  one_list (session ∷ sessions) [] ys hx hy = absurd hx
  one_list (session ∷ sessions) (x ∷ xs) [] hx hy = absurd hy
  one_list (session ∷ sessions) (x ∷ xs) (y ∷ ys) hx hy = let first = one_session session x y hx.0 hy.0 in let rest = one_list sessions xs ys hx.1 hy.1 in λ i. first i ∷ rest i

  pub one_signatures : (xs ys : List (List ℕ)) → AreSignatures a p xs → AreSignatures a p ys → xs ≡ ys
  one_signatures xs ys hx hy = one_list p.sessions xs ys hx hy
