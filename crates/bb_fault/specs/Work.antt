-- What has been made of a module so far: gates and flip-flops over numbers of bits, and the steps that add to it.
use Rattle.std.specs.Prelude.{ℕ, suc, Bool, true, false, List, [], ◌∷◌, ◌++◌, Option, Some, None, ◌≡◌}
use Rattle.bb_base.specs.declared.operator.Op.{Op}
use Rattle.bb_base.specs.declared.operator.Op.TheVariants.{Zero, One}
use Rattle.bb_base.specs.Net.{Gate as GateOf}

-- a flip-flop with its clock pin's net
pub record Clocked : Type 0 where
  pub q : ℕ
  pub d : ℕ
  pub clock : ℕ

-- what has been made so far, and the number of the next net
pub record Work : Type 0 where
  pub fresh : ℕ
  pub gates : List (GateOf ℕ)
  pub flops : List Clocked

-- a step adds to what has been made, and gives a value
infixl 10 ◌>>=◌
abbrev pub ◌>>=◌ : {A B : Type 0} → (Work → A × Work) → (A → Work → B × Work) → Work → B × Work
◌>>=◌ m f w = f (m w).0 (m w).1

abbrev pub give : {A : Type 0} → A → Work → A × Work
give a w = (a, w)

-- a net without a driver yet
abbrev pub new_net : Work → ℕ × Work
new_net w = (w.fresh, record w { fresh = suc w.fresh })

-- a gate that drives this net
abbrev pub drive : Op → List ℕ → ℕ → Work → ℕ × Work
drive op ins out w = (out, record w { gates = w.gates ++ record { op = op; out = out; ins = ins } ∷ [] })

-- a gate that drives a new net
abbrev pub make : Op → List ℕ → Work → ℕ × Work
make op ins = do
  out ← new_net
  drive op ins out

-- a gate that drives its target, where it has one, and else a new net
abbrev pub make_onto : Op → List ℕ → Option ℕ → Work → ℕ × Work
make_onto op ins None = make op ins
make_onto op ins (Some target) = drive op ins target

abbrev pub constant : Bool → Op
constant false = Zero
constant true = One

abbrev pub flop_made : ℕ → ℕ → ℕ → Work → List ℕ × Work
flop_made q d clock w = ([], record w { flops = w.flops ++ record { q = q; d = d; clock = clock } ∷ [] })

-- the value and the work are those of the maker
pub record Makes {A : Type 0} (maker : Work → A × Work) (old : Work) (given : A) (new : Work) : Type 0 where
  pub value : given ≡ (maker old).0
  pub work : new ≡ (maker old).1
