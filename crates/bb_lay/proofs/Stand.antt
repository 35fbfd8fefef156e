-- The variables of a valid plan's written netlist can stand together.
use Rattle.std.proofs.Common.{arith, ◌≡◌, ◌≤◌, List, ◌++◌, map, take, drop, sym, ap, subst, ◌∙◌}
use Rattle.bb_base.specs.Variables.{bit_count, ports_of}
use Rattle.bb_base.specs.Named.{Named, IsNamed}
use Rattle.bb_base.specs.Building.{started}
use Rattle.bb_terms.specs.Plan.{PlanValue}
use Rattle.bb_terms.specs.Valid.{IsValidPlan}
use Rattle.bb_written.specs.Written.{added_clock, added_ports, inner_entry, inner_wires, written_variables}
use Rattle.bb_terms.specs.declared.wire.Wire.{Wire}
use Rattle.bb_ctl.specs.OwnNames.{HasOwnNames}
use Rattle.bb_lay.specs.Laying.{AddsAll, CanStand, laid_variables, laid_bits, clock_or}
use Rattle.bb_written.proofs.Inner.{inner_are, inner_distinct, inner_few}
use Rattle.bb_lay.proofs.Apart.{all_stand}
use Rattle.bb_lay.proofs.LaidLemmas.{parts}

pub variables_stand : (a : Named) (p : PlanValue) → IsNamed a → HasOwnNames a → IsValidPlan a.netlist p → bit_count a.variables ≤ 2097152 → CanStand (written_variables a p)
variables_stand a p named own valid few =
    all_stand a (inner_wires a.netlist p) named own (inner_are a.netlist p valid) (inner_distinct a.netlist p valid) (omega (arith, few, inner_few a.netlist p valid))

-- what is laid are its variables, where the wires are the added ones
pub laid_are : (a : Named) (p : PlanValue) (ws : List Wire) → ws ≡ inner_wires a.netlist p → laid_variables a ws ≡ written_variables a p
laid_are a p ws e = parts a ws ∙ ap (λ (vs : List Wire). take (ports_of a.variables) a.variables ++ (added_clock a.clock ++ (added_ports ++ (drop (ports_of a.variables) a.variables ++ map inner_entry vs)))) e

pub laid_stand : (a : Named) (p : PlanValue) (ws : List Wire) → IsNamed a → HasOwnNames a → IsValidPlan a.netlist p → bit_count a.variables ≤ 2097152 → ws ≡ inner_wires a.netlist p → CanStand (laid_variables a ws)
laid_stand a p ws named own valid few e = subst CanStand (sym (laid_are a p ws e)) (variables_stand a p named own valid few)

-- all that is added to a builder that was begun with nothing
pub all_added : (a : Named) (p : PlanValue) (first b : Named) (ws : List Wire) → first ≡ started a.module_name → ws ≡ inner_wires a.netlist p
    → AddsAll first b (laid_variables a ws) (laid_bits a ws) (clock_or a.clock (ports_of a.variables))
    → AddsAll (started a.module_name) b (written_variables a p) (laid_bits a (inner_wires a.netlist p)) (clock_or a.clock (ports_of a.variables))
all_added a p first b ws begin e h =
    subst (λ vs. AddsAll (started a.module_name) b vs (laid_bits a (inner_wires a.netlist p)) (clock_or a.clock (ports_of a.variables))) (laid_are a p ws e)
    (subst (λ us. AddsAll (started a.module_name) b (laid_variables a ws) (laid_bits a us) (clock_or a.clock (ports_of a.variables))) e
    (subst (λ n. AddsAll n b (laid_variables a ws) (laid_bits a ws) (clock_or a.clock (ports_of a.variables))) begin h))
