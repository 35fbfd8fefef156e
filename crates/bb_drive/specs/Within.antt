-- Numbers of bits that stand.
-- (No outcome rests on these: they serve contracts of inner calls and proofs.)
use Rattle.std.specs.Prelude.{ℕ, ◌<◌, All}
use Rattle.bb_base.specs.Net.{Gate}
use Rattle.bb_fault.specs.Work.{Work, Clocked}

pub record IsGateWithin (fresh : ℕ) (g : Gate ℕ) : Type 0 where
  pub out : g.out < fresh
  pub ins : All (λ n. n < fresh) g.ins

pub record IsFlopWithin (fresh : ℕ) (f : Clocked) : Type 0 where
  pub q : f.q < fresh
  pub d : f.d < fresh
  pub clock : f.clock < fresh

-- every bit of a gate or flip-flop is one that stands
pub record IsWithin (w : Work) : Type 0 where
  pub gates : All (IsGateWithin w.fresh) w.gates
  pub flops : All (IsFlopWithin w.fresh) w.flops
