-- A valid plan has few enough cells, registers and sessions for numbers of 32 bits.
use Rattle.std.proofs.Common.{arith, ◌≡◌, ℕ, zero, suc, ◌+◌, ◌≤◌, ◌^◌, List, [], ◌∷◌, ◌++◌, length, refl, ap, subst, ◌∙◌, take, length-append}
use Rattle.std.proofs.Math.Pow.{pow_mono}
use Rattle.std.proofs.Math.Seq.{take-length}
use Rattle.std.specs.List.{AllByRecursion, flat_map}
use Rattle.bb_base.specs.Net.{Netlist}
use Rattle.bb_base.proofs.Contained.{by_place}
use Rattle.bb_base.proofs.Lists.{get_some}
use Rattle.bb_terms.specs.Plan.{PlanValue, RegisterValue, chain}
use Rattle.bb_terms.specs.Rules.{Frame, Registers, Sessions, Room, IsSession}
use Rattle.bb_terms.specs.Valid.{IsValidPlan}

-- there are few enough of each
pub record AreFew (p : PlanValue) : Type 0 where
  pub degree : p.degree ≤ 20
  pub cells : length (chain p) ≤ 1048576
  pub registers : length p.registers ≤ length (chain p)
  pub sessions : length p.sessions ≤ 2097152

-- lists with an item each are no more than their items
no_more : {X Y : Type 0} (f : X → List Y) (xs : List X) → AllByRecursion (λ x. 1 ≤ length (f x)) xs → length xs ≤ length (flat_map f xs)
no_more f [] all = omega arith
no_more f (x ∷ xs) all =
    let rest = no_more f xs all.1 in
    let here = all.0 in
    let long : length (f x ++ flat_map f xs) ≡ length (f x) + length (flat_map f xs) = length-append (f x) (flat_map f xs) in
    omega (arith, rest, here, long)

module _ (a : Netlist ℕ) (p : PlanValue) (valid : IsValidPlan a p) where
  few_sessions : (n : ℕ) → n ≡ length p.sessions → length p.sessions ≤ 2097152
  few_sessions zero e = omega (arith, e)
  few_sessions (suc s) e =
      let last = get_some p.sessions s (omega (arith, e)) in
      let is : IsSession p s last.0 = valid.meets Sessions s last.0 last.1 in
      let few : length (flat_map (λ x. x) p.sessions) ≤ 2097152 = subst (λ xs. length (flat_map (λ x. x) xs) ≤ 2097152) (ap (λ k. take k p.sessions) e ∙ take-length p.sessions) is.few in
      let some = no_more (λ (x : List ℕ). x) p.sessions (by_place (λ (x : List ℕ). 1 ≤ length x) p.sessions (λ i x at. (valid.meets Sessions i x at).some)) in
      omega (arith, few, some)

  pub are_few : AreFew p
  are_few =
      let frame = valid.meets Frame in
      let room : length (chain p) ≤ 2 ^ p.degree = valid.meets Room in
      let top : 2 ^ p.degree ≤ 2 ^ 20 = pow_mono frame.degree_most in
      let some : length p.registers ≤ length (chain p) = no_more (λ (g : RegisterValue). g.cells) p.registers (by_place (λ (g : RegisterValue). 1 ≤ length g.cells) p.registers (λ i g at. (valid.meets Registers i g at).some)) in
      let degree = frame.degree_most in
      let sessions = few_sessions (length p.sessions) refl in
      record { degree = degree; cells = omega (arith, room, top); registers = some; sessions = sessions }
