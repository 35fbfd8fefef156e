-- The start that the code's start means.
use Rattle.std.proofs.Common.{◌≡◌, ℕ, ◌<◌, Bool, List, length, refl, sym, ap, subst, ◌∙◌, get_or, slice_get, Some, Contains}
use Rattle.std.specs.Option.{option_map}
use Rattle.std.proofs.lemmas.Option.{slice_get-get_or}
use Rattle.bb_base.specs.Net.{Gate, Netlist}
use Rattle.bb_terms.specs.declared.start.Start.{Start as CodeStart}
use Rattle.bb_terms.specs.declared.start.Start.TheVariants.{Net, Gate as GateNumber}
use Rattle.bb_terms.specs.Paths.{Start, AtNet, Behind, starts, IsReached}
use Rattle.bb_terms.specs.Support.{stop_at, start_in, StartExists, AreLeaves, HasLeaves}
use Rattle.bb_segment.specs.Among.{AreStops}
use Rattle.bb_base.proofs.Lists.{get_some}

pub start_net : (gates : List (Gate ℕ)) (s : CodeStart) (net : ℕ) (from : Start ℕ) → s ≡ Net net → start_in gates s ≡ Some from → AtNet net ≡ from
start_net gates s net from is e = let there : Some (AtNet net) ≡ Some from = sym (ap (start_in gates) is) ∙ e in cc there

pub start_gate : (gates : List (Gate ℕ)) (s : CodeStart) (number : ℕ) (g : Gate ℕ) (from : Start ℕ) → s ≡ GateNumber number → slice_get gates number ≡ Some g → start_in gates s ≡ Some from → Behind g ≡ from
start_gate gates s number g from is at e = let there : Some (Behind g) ≡ Some from = sym (ap (start_in gates) is ∙ ap (option_map Behind) at) ∙ e in cc there

pub starts_gate : (n : Netlist ℕ) (s : CodeStart) (number : ℕ) → s ≡ GateNumber number → StartExists n s → number < length n.gates
starts_gate n s number is h = subst (StartExists n) is h

-- the item that an index of an equal list gives
pub read_gate : (xs gates : List (Gate ℕ)) (number : ℕ) (g : Gate ℕ) → xs ≡ gates → number < length gates → g ≡ get_or xs number g → slice_get gates number ≡ Some g
read_gate xs gates number g same less is = slice_get-get_or gates number g less ∙ ap Some (sym (is ∙ ap (λ ys. get_or ys number g) same))

-- where its net or gate exists, there is one
pub start_some : (n : Netlist ℕ) (s : CodeStart) → StartExists n s → (from : Start ℕ) × (start_in n.gates s ≡ Some from)
start_some n (Net net) h = (AtNet net, refl)
start_some n (GateNumber number) h = let g = get_some n.gates number h in (Behind g.0, ap (option_map Behind) g.1)

-- the stops that a walk reaches are the leaves
leaves_are :
    (gates : List (Gate ℕ)) (stop : ℕ → Bool) (from : Start ℕ) (met leaves : List ℕ) → ((net : ℕ) → Contains met net → IsReached gates stop (starts from) net)
    → ((net : ℕ) → IsReached gates stop (starts from) net → Contains met net) → AreStops stop met leaves → AreLeaves gates stop from leaves
leaves_are gates stop from met leaves each all are = record {
  ascending = are.ascending;
  each = λ net. (λ c. let s = (are.each net).0 c in (each net s.0, s.1), λ leaf. (are.each net).1 (all net leaf.0, leaf.1));
}

pub has_leaves :
    (n : Netlist ℕ) (stops : List Bool) (s : CodeStart) (met leaves : List ℕ) → StartExists n s
    → ((from : Start ℕ) (net : ℕ) → start_in n.gates s ≡ Some from → Contains met net → IsReached n.gates (stop_at stops) (starts from) net)
    → ((from : Start ℕ) (net : ℕ) → start_in n.gates s ≡ Some from → IsReached n.gates (stop_at stops) (starts from) net → Contains met net) → AreStops (stop_at stops) met leaves
    → HasLeaves n.gates stops s leaves
has_leaves n stops s met leaves here each all are =
    let f = start_some n s here in
    record { from = f.0; stands = f.1; are = leaves_are n.gates (stop_at stops) f.0 met leaves (λ net. each f.0 net f.1) (λ net. all f.0 net f.1) are }
