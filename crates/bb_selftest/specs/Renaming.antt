-- The same gates under other names.
use Rattle.std.specs.Prelude.{◌≡◌, ◌↔◌, Bool, List, map, Contains}
use Rattle.bb_base.specs.Net.{Gate, renamed_gate}

-- the other gates are these under names that tell the nets apart, and walks stop alike
pub record IsRenaming {M N : Type 0} (name : M → N) (nets : List M) (gates : List (Gate M)) (stop : M → Bool) (others : List (Gate N)) (stops : N → Bool) : Type 0 where
  pub one : (x y : M) → Contains nets x → Contains nets y → name x ≡ name y → x ≡ y
  -- the nets of all gates are among them
  pub outs : (g : Gate M) → Contains gates g → Contains nets g.out
  pub ins : (g : Gate M) (net : M) → Contains gates g → Contains g.ins net → Contains nets net
  pub each : (k : Gate N) → Contains others k ↔ Contains (map (renamed_gate name) gates) k
  pub same : (net : M) → Contains nets net → stops (name net) ≡ stop net
