-- The written netlist has no loop.
use Rattle.std.specs.Prelude.{◌≡◌, ℕ, ◌+◌, ◌*◌, ◌<◌, zero, suc, true, List, [], ◌∷◌}
use Rattle.std.specs.List.{AllByRecursion}
use Rattle.bb_base.specs.Net.{Gate, Netlist}
use Rattle.bb_terms.specs.declared.wire.Wire.{Wire}
use Rattle.bb_terms.specs.declared.wire.Wire.TheVariants.{Kept, Test, Init, So, Done, NotInit, NotTest, Go, NotGo, Parity, Low, Feed, Word, WordNext, Wrap, Phase, PhaseTurned, PhaseNext, Advance, NotAdvance, Ring, RingKept, RingMoved, RingOr, RingNext, NotOver, Live, NotPhase, Running, Shifting, On, Compacts, Latches, Takes, Off, Codes, Feedback, Signed, Carried, First, Line, Chain, Code, Coded, Next, InTest, InNormal, Read, Held}
use Rattle.bb_terms.specs.Kinds.{is_flop}
use Rattle.bb_terms.specs.Lines.{d_of}
use Rattle.bb_terms.specs.Plan.{PlanValue, chain}
use Rattle.bb_terms.specs.declared.plan.Cell.{Cell}
use Rattle.bb_terms.specs.declared.kind.Kind.{Kind}
use Rattle.bb_terms.specs.declared.kind.Kind.TheVariants.{Input, State, Split, Cut, Watch, Output}
use Rattle.bb_written.specs.Written.{written_netlist}

-- each gate's inputs have a lesser rank than its output
abbrev pub Falls : {Takes : Type 0} → (Takes → ℕ) → Gate Takes → Type 0
Falls rank g = AllByRecursion (λ m. rank m < rank g.out) g.ins

abbrev pub nth : List Cell → ℕ → Cell
nth [] i = record { kind = Input; net = 0; column = 0 }
nth (c ∷ cs) zero = c
nth (c ∷ cs) (suc i) = nth cs i

-- the net that a cell's line reads
abbrev pub line_net : Netlist ℕ → Kind → ℕ → ℕ
line_net a State n = d_of a.flops n
line_net a Split n = d_of a.flops n
line_net a Watch n = d_of a.flops n
line_net a Cut n = n
line_net a Output n = n
line_net a Input n = n

-- a net of the original
abbrev pub kept_rank : (ℕ → ℕ) → ℕ → ℕ
kept_rank rank n = 12 * rank n

abbrev pub wire_rank : Netlist ℕ → PlanValue → (ℕ → ℕ) → Wire → ℕ
wire_rank a p rank (Kept n) = kept_rank rank n
wire_rank a p rank (InNormal i) = 2 + kept_rank rank (nth (chain p) i).net
wire_rank a p rank (Read i) = 3 + kept_rank rank (nth (chain p) i).net
wire_rank a p rank (Line i) = 14 + kept_rank rank (line_net a (nth (chain p) i).kind (nth (chain p) i).net)
wire_rank a p rank (Next i) = 20 + kept_rank rank (line_net a (nth (chain p) i).kind (nth (chain p) i).net)
wire_rank a p rank Test = 0
wire_rank a p rank Init = 0
wire_rank a p rank (Word i) = 0
wire_rank a p rank Phase = 0
wire_rank a p rank (Ring s) = 0
wire_rank a p rank (Held i) = 0
wire_rank a p rank NotInit = 1
wire_rank a p rank NotTest = 1
wire_rank a p rank Parity = 1
wire_rank a p rank Low = 1
wire_rank a p rank NotOver = 1
wire_rank a p rank NotPhase = 1
wire_rank a p rank (On r) = 1
wire_rank a p rank (Feedback r) = 1
wire_rank a p rank (InTest i) = 1
wire_rank a p rank Go = 2
wire_rank a p rank Feed = 2
wire_rank a p rank Wrap = 2
wire_rank a p rank (Off r) = 2
wire_rank a p rank NotGo = 3
wire_rank a p rank (WordNext i) = 3
wire_rank a p rank PhaseTurned = 3
wire_rank a p rank Advance = 3
wire_rank a p rank Live = 3
wire_rank a p rank Done = 3
wire_rank a p rank (Code i) = 3
wire_rank a p rank PhaseNext = 4
wire_rank a p rank NotAdvance = 4
wire_rank a p rank Running = 4
wire_rank a p rank Shifting = 4
wire_rank a p rank (RingKept s) = 5
wire_rank a p rank (RingMoved s) = 5
wire_rank a p rank So = 5
wire_rank a p rank (Compacts r) = 5
wire_rank a p rank (Codes r) = 5
wire_rank a p rank (Carried r) = 5
wire_rank a p rank (RingOr s) = 6
wire_rank a p rank (Latches r) = 6
wire_rank a p rank (Takes r) = 6
wire_rank a p rank (Signed r) = 6
wire_rank a p rank (Coded i) = 6
wire_rank a p rank (RingNext s) = 7
wire_rank a p rank (First r) = 7
wire_rank a p rank (Chain i) = 8

-- a flip-flop's net has rank 0
abbrev pub IsSettledFirst : (ℕ → ℕ) → Cell → Type 0
IsSettledFirst rank c = is_flop c.kind ≡ true → rank c.net ≡ 0

abbrev pub HasNoLoop : Netlist ℕ → PlanValue → Type 0
HasNoLoop a p = (rank : ℕ → ℕ) → AllByRecursion (Falls rank) a.gates → AllByRecursion (IsSettledFirst rank) (chain p) → AllByRecursion (Falls (wire_rank a p rank)) (written_netlist a p).gates
