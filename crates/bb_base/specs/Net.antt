-- A netlist over any kind of net: numbers in the code, names in texts, symbols in tables of statements.
use Rattle.std.specs.Prelude.{◌≡◌, ℕ, ◌<◌, ◌≤◌, ◌==◌, List, ◌++◌, map, length, All, count_by}
use Rattle.std.specs.List.{flat_map}
use Rattle.bb_base.specs.declared.operator.Op.{Op}
use Rattle.bb_base.specs.Operators.{IsArity}

-- a gate drives one net from others
pub record Gate (N : Type 0) : Type 0 where
  pub op : Op
  pub out : N
  pub ins : List N

-- a flip-flop takes the bit of d into q at each edge
pub record Flop (N : Type 0) : Type 0 where
  pub q : N
  pub d : N

pub record Netlist (N : Type 0) : Type 0 where
  pub inputs : List N
  pub outputs : List N
  pub gates : List (Gate N)
  pub flops : List (Flop N)

-- the same with other names for the nets
abbrev pub renamed_gate : {M N : Type 0} → (M → N) → Gate M → Gate N
renamed_gate f g = record { op = g.op; out = f g.out; ins = map f g.ins }

abbrev pub renamed_flop : {M N : Type 0} → (M → N) → Flop M → Flop N
renamed_flop f p = record { q = f p.q; d = f p.d }

abbrev pub renamed : {M N : Type 0} → (M → N) → Netlist M → Netlist N
renamed f n = record { inputs = map f n.inputs; outputs = map f n.outputs; gates = map (renamed_gate f) n.gates; flops = map (renamed_flop f) n.flops }

-- the nets that have a driver, one entry a driver: the inputs, the gates' outputs and the q's
abbrev pub driven : {N : Type 0} → Netlist N → List N
driven n = n.inputs ++ (map (λ g. g.out) n.gates ++ map (λ f. f.q) n.flops)

-- the nets that something reads: the outside, a gate or a flip-flop
abbrev pub reads : {N : Type 0} → Netlist N → List N
reads n = n.outputs ++ (flat_map (λ g. g.ins) n.gates ++ map (λ f. f.d) n.flops)

-- how often a number stands in a list of nets
abbrev pub times : ℕ → List ℕ → ℕ
times net nets = count_by (λ m. m == net) nets

-- the gate has as many inputs as its operator takes
abbrev pub HasArity : {N : Type 0} → Gate N → Type 0
HasArity g = IsArity g.op (length g.ins)

-- Every number that stands is one of so many nets, outputs are distinct and no inputs, and arities hold. Nets may still lack a driver
-- or have two.
pub record IsDraft (nets : ℕ) (n : Netlist ℕ) : Type 0 where
  pub drives_nets : All (λ net. net < nets) (driven n)
  pub reads_nets : All (λ net. net < nets) (reads n)
  pub ports : (net : ℕ) → times net (n.inputs ++ n.outputs) ≤ 1
  pub arities : All HasArity n.gates

-- A netlist whose nets are the numbers below their count. It is a statement on all nets; a builder counts drivers.
pub record IsNetlist (n : Netlist ℕ) : Type 0 where
  -- every net has exactly one driver
  pub one_driver : (net : ℕ) → net < length (driven n) → times net (driven n) ≡ 1
  -- and no other number is a net
  pub drives_nets : All (λ net. net < length (driven n)) (driven n)
  pub reads_nets : All (λ net. net < length (driven n)) (reads n)
  -- outputs are distinct, and none is an input
  pub ports : (net : ℕ) → times net (n.inputs ++ n.outputs) ≤ 1
  pub arities : All HasArity n.gates
