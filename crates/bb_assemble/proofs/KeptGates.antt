-- The bits of gates of data and of flip-flops have nets.
use Rattle.std.proofs.Common.{◌≡◌, ℕ, ◌<◌, List, map, All, Bool, slice_get, Some, sym, subst, ◌∙◌, arith}
use Rattle.std.proofs.lemmas.List.Elements.{recursion_from_All, All-from_recursion}
use Rattle.std.specs.List.{AllByRecursion}
use Rattle.bb_base.specs.Variables.{Entry}
use Rattle.bb_base.specs.Net.{Gate, HasArity}
use Rattle.bb_fault.specs.Work.{Work, Clocked}
use Rattle.bb_drive.specs.Within.{IsGateWithin}
use Rattle.bb_assemble.specs.Assembling.{number_for, HasNet, HasNets, HasBothNets, HasNetsWhereFlagged}
use Rattle.bb_assemble.proofs.BuiltLaws.{AreFlags, flag_is, IsNumbered}
use Rattle.bb_assemble.proofs.KeptNets.{all_images, all_placed, at_place, IsFineWork, IsKept, gate_kept, flop_kept}
use Rattle.bb_assemble.proofs.NumberedNets.{bit_placed, kept_below}

-- the nets of a gate's inputs
pub nets_small : (numbers : List ℕ) (count n : ℕ) (g : Gate ℕ) (nets : List ℕ) → HasNets numbers count g → count ≡ n → nets ≡ map (number_for numbers) g.ins → All (λ net. net < n) nets
nets_small numbers count n g nets h same are =
    subst (All (λ net. net < n)) (sym are) (subst (λ k. All (λ net. net < k) (map (number_for numbers) g.ins)) same
    (All-from_recursion (λ net. net < count) (map (number_for numbers) g.ins) (all_images (λ net. net < count) (number_for numbers) g.ins (recursion_from_All (HasNet numbers count) g.ins h.ins))))

-- a kept bit has a net
kept_net : (vars : List Entry) (w : Work) (fine : IsFineWork vars w) (numbers : List ℕ) (count b : ℕ) → IsNumbered vars w numbers count → IsKept vars w b → HasNet numbers count b
kept_net vars w fine numbers count b are h = omega (arith, are.count_is, are.each b (kept_below vars w fine b h), (bit_placed vars w fine b h).below)

pub gates_have : (vars : List Entry) (w : Work) (fine : IsFineWork vars w) (arities : AllByRecursion HasArity w.gates) (flags : List Bool) (numbers : List ℕ) (count : ℕ) (gates : List (Gate ℕ)) → IsNumbered vars w numbers count → AreFlags w flags → gates ≡ w.gates
    → All (HasNetsWhereFlagged numbers count flags) gates
gates_have vars w fine arities flags numbers count gates are said same =
    subst (All (HasNetsWhereFlagged numbers count flags)) (sym same) (All-from_recursion (HasNetsWhereFlagged numbers count flags) w.gates (all_placed (HasNetsWhereFlagged numbers count flags) w.gates each))
  where
    each : (i : ℕ) (g : Gate ℕ) → slice_get w.gates i ≡ Some g → HasNetsWhereFlagged numbers count flags g
    each i g at flagged =
        let small : g.out < w.fresh = (at_place (IsGateWithin w.fresh) w.gates i g (recursion_from_All (IsGateWithin w.fresh) w.gates fine.within.gates) at).out in
        let kept_is = gate_kept vars w fine arities i g at (sym (flag_is w flags g.out said small) ∙ flagged) in
        record {
          out = kept_net vars w fine numbers count g.out are kept_is.0;
          ins = All-from_recursion (HasNet numbers count) g.ins (all_placed (HasNet numbers count) g.ins (λ j b there. kept_net vars w fine numbers count b are (at_place (IsKept vars w) g.ins j b kept_is.1 there)));
        }

pub flops_have : (vars : List Entry) (w : Work) (fine : IsFineWork vars w) (numbers : List ℕ) (count : ℕ) (flops : List Clocked) → IsNumbered vars w numbers count → flops ≡ w.flops → All (HasBothNets numbers count) flops
flops_have vars w fine numbers count flops are same =
    subst (All (HasBothNets numbers count)) (sym same) (All-from_recursion (HasBothNets numbers count) w.flops (all_placed (HasBothNets numbers count) w.flops
    (λ i f at. let both = flop_kept vars w fine i f at in (kept_net vars w fine numbers count f.q are both.0, kept_net vars w fine numbers count f.d are both.1))))
