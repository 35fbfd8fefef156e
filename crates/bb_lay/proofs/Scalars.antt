-- Scalar variables that are added one after another, each with its net.
use Rattle.std.proofs.Common.{arith, ◌≡◌, inl, inr, ℕ, ◌+◌, suc, List, [], ◌∷◌, ◌++◌, map, length, Bool, true, Some, None, if◌then◌else◌, refl, sym, ap, subst, ◌∙◌, length-append}
use Rattle.std.proofs.lemmas.Option.{same_Some}
use Rattle.std.specs.List.{range_with_len}
use Rattle.bb_base.specs.declared.variable.BitName.{BitName}
use Rattle.bb_base.specs.declared.variable.Role.{Role}
use Rattle.bb_base.specs.declared.variable.Role.TheVariants.{Input}
use Rattle.bb_base.specs.declared.variable.Variable.{Variable}
use Rattle.bb_base.specs.Variables.{Entry, bit_at, is_port}
use Rattle.bb_base.specs.Named.{Named}
use Rattle.bb_base.specs.Building.{with_variable}
use Rattle.bb_lay.specs.Laying.{AddsAll, CanStand, IsLaid, scalar_bits}
use Rattle.bb_lay.proofs.Ascending.{all_places}
use Rattle.bb_lay.proofs.Standing.{laid_step}
use Rattle.bb_lay.proofs.Adding.{Continues, next_of, next_stands}
use Rattle.bb_lay.proofs.OwnPorts.{declared}

abbrev pub scalar : Role → Variable
scalar role = record { range = None; role = role }

-- its one bit, laid
pub scalar_laid : (old new : Named) (name : List ℕ) (role : Role) → IsLaid old → AddsAll old new ((name, scalar role) ∷ []) (scalar_bits (length old.variables) 1) old.clock → IsLaid new
scalar_laid old new name role laid adds =
    laid_step old new (name, scalar role) (scalar_bits (length old.variables) 1) old.clock (range_with_len 0 1) laid adds refl (all_places 1) (λ c is. inl is)

-- a port with its bit
pub port_adds : (old new : Named) (name : List ℕ) (role : Role) → is_port role ≡ true → new ≡ with_variable old name (scalar role) None → AddsAll old new ((name, scalar role) ∷ []) (scalar_bits (length old.variables) 1) old.clock
port_adds old new name role port e =
    let adds = declared old new name (scalar role) None e in
    record {
      module_name = adds.module_name;
      variables = adds.variables;
      clock_is = adds.clock_is;
      names = adds.names ∙ ap (λ (b : Bool). old.names ++ (if b then map (bit_at (length old.variables)) (range_with_len 0 1) else [])) port;
      gates = adds.gates;
      flops = adds.flops;
    }

pub clock_added : (old new : Named) (name : List ℕ) → IsLaid old → old.clock ≡ None → new ≡ with_variable old name (scalar Input) (Some 0)
    → AddsAll old new ((name, scalar Input) ∷ []) [] (Some (bit_at (length old.variables) 0)) × IsLaid new
clock_added old new name laid none e =
    let adds = declared old new name (scalar Input) (Some 0) e in (
      adds,
      laid_step old new (name, scalar Input) [] (Some (bit_at (length old.variables) 0)) [] laid adds refl (record { ascend = tt; below = tt; few = omega arith })
          (λ c is. inr (sym (ap (λ (k : BitName). k.variable) (same_Some (bit_at (length old.variables) 0) c is)), tt)),
    )

-- so many bits from one on
one_more : (number count : ℕ) → scalar_bits number (suc count) ≡ scalar_bits number 1 ++ scalar_bits (number + 1) count
one_more number count = refl

module _ (fn : Named) (all : List Entry) where
  abbrev pub GoesOn : Named → List Entry → Type 0
  GoesOn l rest = Continues fn l rest all (scalar_bits (length l.variables) (length rest)) (scalar_bits (length fn.variables) (length all)) fn.clock

  pub scalar_can : (l : Named) (e : Entry) (rest : List Entry) → GoesOn l (e ∷ rest) → CanStand (fn.variables ++ all) → CanStand (l.variables ++ e ∷ [])
  scalar_can l e rest goes can = next_stands fn l e rest (e ∷ rest) all (scalar_bits (length l.variables) (length (e ∷ rest))) (scalar_bits (length fn.variables) (length all)) fn.clock goes refl can

  pub scalar_step : (l new : Named) (e : Entry) (rest : List Entry) → GoesOn l (e ∷ rest) → AddsAll l new (e ∷ []) (scalar_bits (length l.variables) 1) l.clock → IsLaid new → GoesOn new rest
  scalar_step l new e rest goes adds laid =
      let longer : length new.variables ≡ length l.variables + 1 = ap length adds.variables ∙ length-append l.variables (e ∷ []) in
      next_of fn l new e rest all (scalar_bits (length l.variables) 1) (scalar_bits (length l.variables) (suc (length rest))) (scalar_bits (length new.variables) (length rest)) (scalar_bits (length fn.variables) (length all)) fn.clock fn.clock goes
      (one_more (length l.variables) (length rest) ∙ ap (λ k. scalar_bits (length l.variables) 1 ++ scalar_bits k (length rest)) (sym longer)) (subst (AddsAll l new (e ∷ []) (scalar_bits (length l.variables) 1)) goes.clock_is adds) laid
