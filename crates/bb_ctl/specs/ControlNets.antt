-- The nets of the controller and of the registers on which cells and flip-flops stand.
use Rattle.std.specs.Prelude.{◌≡◌, ℕ, ◌+◌, List, ◌∷◌, ◌++◌, length, map}
use Rattle.std.specs.List.{range_with_len}
use Rattle.bb_base.specs.Named.{Named}
use Rattle.bb_terms.specs.Plan.{PlanValue, chain}
use Rattle.bb_terms.specs.declared.wire.Wire.{Wire}
use Rattle.bb_terms.specs.declared.wire.Wire.TheVariants.{Test, NotTest, Running, Shifting, WordNext, PhaseNext, RingNext, Latches, Takes, Codes, First}
use Rattle.bb_terms.specs.Controller.{word_ahead}
use Rattle.bb_terms.specs.Reads.{qs_from}
use Rattle.bb_terms.specs.Numbering.{net_at}

pub record ControlNetsValue : Type 0 where
  pub test : ℕ
  pub normal : ℕ
  pub run : ℕ
  pub shift : ℕ
  pub word : List ℕ
  pub next : List ℕ
  pub b : List ℕ
  pub n : List ℕ
  pub e : List ℕ
  pub first : List ℕ
  pub cells : List ℕ

-- what the controller's flip-flops take, in the order of their statements
abbrev pub next_wires : PlanValue → List Wire
next_wires p = map WordNext (range_with_len 0 p.degree) ++ (PhaseNext ∷ map RingNext (range_with_len 0 (length p.sessions + 1)))

-- a symbol of each register
abbrev pub of_registers : (ℕ → Wire) → PlanValue → List Wire
of_registers wire p = map wire (range_with_len 0 (length p.registers))

-- each field has the nets of its symbols
pub record AreControlNets (built : Named) (kept : List ℕ) (p : PlanValue) (nets : ControlNetsValue) : Type 0 where
  pub test : nets.test ≡ net_at built kept Test
  -- not in a test; in run cycles; in unload cycles
  pub normal : nets.normal ≡ net_at built kept NotTest
  pub run : nets.run ≡ net_at built kept Running
  pub shift : nets.shift ≡ net_at built kept Shifting
  -- the word that the complete register takes next
  pub word : nets.word ≡ map (net_at built kept) (word_ahead p)
  pub next : nets.next ≡ map (net_at built kept) (next_wires p)
  -- where each register's cells take their lines, the cells before them, and their code lines
  pub b : nets.b ≡ map (net_at built kept) (of_registers Latches p)
  pub n : nets.n ≡ map (net_at built kept) (of_registers Takes p)
  pub e : nets.e ≡ map (net_at built kept) (of_registers Codes p)
  -- what stands before each register's first cell
  pub first : nets.first ≡ map (net_at built kept) (of_registers First p)
  -- the bit of each cell of the chain
  pub cells : nets.cells ≡ map (net_at built kept) (qs_from 0 (chain p))
