-- The values of one cycle, runs of cycles, with no order among the equations, and bits by the number of the cycle.
use Rattle.std.specs.Prelude.{◌≡◌, ℕ, zero, suc, ◌<◌, Bool, false, List, [], ◌∷◌, map}
use Rattle.std.specs.List.{AllByRecursion}
use Rattle.bb_base.specs.Operators.{op_gives}
use Rattle.bb_base.specs.Net.{Gate, Flop, Netlist}

-- the bits of the flip-flops, and those that they take at the next edge
abbrev pub states : {N : Type 0} → Netlist N → (N → Bool) → List Bool
states n v = map (λ f. v f.q) n.flops

abbrev pub next_states : {N : Type 0} → Netlist N → (N → Bool) → List Bool
next_states n v = map (λ f. v f.d) n.flops

-- the bits of the outputs
abbrev pub answers : {N : Type 0} → Netlist N → (N → Bool) → List Bool
answers n v = map v n.outputs

-- what a gate gives where it is as its operator says
abbrev pub by_op : {N : Type 0} → Gate N → List Bool → Bool
by_op g bs = op_gives g.op bs

-- the gate's equation holds of v, which gives each net a bit
abbrev pub MeetsBy : {N : Type 0} → (Gate N → List Bool → Bool) → (N → Bool) → Gate N → Type 0
MeetsBy gives v g = v g.out ≡ gives g (map v g.ins)

-- the gate's equation holds of v, by its operator
abbrev pub Meets : {N : Type 0} → (N → Bool) → Gate N → Type 0
Meets v g = MeetsBy by_op v g

-- v is a valuation of one cycle, for any meaning of gates: each input has its bit of i, each q its bit of s, and each gate's equation holds
pub record SettlesBy {N : Type 0} (gives : Gate N → List Bool → Bool) (n : Netlist N) (i s : List Bool) (v : N → Bool) : Type 0 where
  pub inputs : map v n.inputs ≡ i
  pub state : states n v ≡ s
  pub gates : AllByRecursion (MeetsBy gives v) n.gates

-- vs are the valuations of the cycles of a run from the state s under the inputs is
abbrev pub IsRunBy : {N : Type 0} → (Gate N → List Bool → Bool) → Netlist N → List Bool → List (List Bool) → List (N → Bool) → Type 0
IsRunBy gives n s [] [] = Unit {0}
IsRunBy gives n s (i ∷ is) (v ∷ vs) = SettlesBy gives n i s v × IsRunBy gives n (next_states n v) is vs
IsRunBy gives n s [] (v ∷ vs) = ⊥
IsRunBy gives n s (i ∷ is) [] = ⊥

-- the same where each gate is as its operator says
abbrev pub Settles : {N : Type 0} → Netlist N → List Bool → List Bool → (N → Bool) → Type 0
Settles n i s v = SettlesBy by_op n i s v

abbrev pub IsRun : {N : Type 0} → Netlist N → List Bool → List (List Bool) → List (N → Bool) → Type 0
IsRun n s is vs = IsRunBy by_op n s is vs

-- the bits in a cycle of a run, by the cycle's number; behind its end they are 0
abbrev pub at : {N : Type 0} → List (N → Bool) → ℕ → N → Bool
at [] c net = false
at (v ∷ vs) zero net = v net
at (v ∷ vs) (suc c) net = at vs c net

-- bits of so many cycles, in each of which these gates meet their equations, and where these flip-flops take the bits of their d's
pub record IsTrace {N : Type 0} (gives : Gate N → List Bool → Bool) (gates : List (Gate N)) (flops : List (Flop N)) (cycles : ℕ) (v : ℕ → N → Bool) : Type 0 where
  pub gates_meet : (c : ℕ) → c < cycles → AllByRecursion (MeetsBy gives (v c)) gates
  pub flops_take : (c : ℕ) → suc c < cycles → AllByRecursion (λ f. v (suc c) f.q ≡ v c f.d) flops
