-- Which driver a net has.
use Rattle.std.specs.Prelude.{◌≡◌, ℕ, ◌<◌, ◌^◌, List, ◌++◌, map, Some, length, slice_get, slice_index}
use Rattle.bb_base.specs.declared.netlist.Driver.{Driver}
use Rattle.bb_base.specs.declared.netlist.Driver.TheVariants.{Input, Gate, Flop}
use Rattle.bb_base.specs.Net.{Netlist, driven, IsNetlist, Gate as GateValue, Flop as FlopValue}

-- the driver, by its place in its list, drives the net
abbrev pub Drives : Netlist ℕ → Driver → ℕ → Type 0
Drives n (Input i) net = slice_get n.inputs i ≡ Some net
Drives n (Gate i) net = (g : GateValue ℕ) × (slice_get n.gates i ≡ Some g) × (g.out ≡ net)
Drives n (Flop i) net = (f : FlopValue ℕ) × (slice_get n.flops i ≡ Some f) × (f.q ≡ net)

-- the nets that these inputs, gates and flip-flops drive
abbrev pub driven_by : List ℕ → List (GateValue ℕ) → List (FlopValue ℕ) → List ℕ
driven_by inputs gates flops = inputs ++ (map (λ g. g.out) gates ++ map (λ f. f.q) flops)

-- the netlist of these lists
abbrev pub netlist_of : List ℕ → List ℕ → List (GateValue ℕ) → List (FlopValue ℕ) → Netlist ℕ
netlist_of inputs outputs gates flops = record { inputs = inputs; outputs = outputs; gates = gates; flops = flops }

-- for each net the place of its driver in the list of what is driven
pub record IsTable (n : Netlist ℕ) (places : List ℕ) : Type 0 where
  pub netlist : IsNetlist n
  pub few : length places < 2 ^ 32
  pub long : length places ≡ length (driven n)
  pub drives : (net : ℕ) → net < length places → slice_get (driven n) (slice_index places net) ≡ Some net
