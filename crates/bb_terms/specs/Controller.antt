-- The controller's rows: the complete register walks twice a session, once while registers run and once while they unload.
use Rattle.std.specs.Prelude.{ℕ, zero, suc, List, [], ◌∷◌, ◌++◌, length, map, Option, Some, None}
use Rattle.bb_base.specs.declared.operator.Op.{Op}
use Rattle.bb_base.specs.declared.operator.Op.TheVariants.{And, Or, Nor, Xor, Not, Zero, One}
use Rattle.bb_base.specs.Net.{Gate}
use Rattle.bb_base.specs.Bits.{picked}
use Rattle.bb_terms.specs.OnBits.{shifted, last_of, front}
use Rattle.bb_terms.specs.Plan.{PlanValue, chain}
use Rattle.bb_terms.specs.declared.wire.Wire.{Wire}
use Rattle.bb_terms.specs.declared.wire.Wire.TheVariants.{Test, Init, So, Done, NotInit, NotTest, Go, NotGo, Parity, Low, Feed, Word, WordNext, Wrap, Phase, PhaseTurned, PhaseNext, Advance, NotAdvance, Ring, RingKept, RingMoved, RingOr, RingNext, NotOver, Live, NotPhase, Running, Shifting}
use Rattle.bb_terms.specs.Reads.{qs_from}

-- a row of a table
abbrev pub gate_row : Op → Wire → List Wire → Gate Wire
gate_row op out ins = record { op = op; out = out; ins = ins }

-- the bits of the complete register, so many from bit i
abbrev pub word_from : ℕ → ℕ → List Wire
word_from i zero = []
word_from i (suc more) = Word i ∷ word_from (suc i) more

abbrev pub register_word : PlanValue → List Wire
register_word p = word_from 0 p.degree

-- the word that the complete register takes next
abbrev pub word_ahead : PlanValue → List Wire
word_ahead p = shifted Feed (register_word p)

-- the rows for what its bits take, where these are the bits of the word ahead from bit i on
abbrev pub word_rows : ℕ → List Wire → List (Gate Wire)
word_rows i [] = []
word_rows i (ahead ∷ more) = gate_row And (WordNext i) (Go ∷ ahead ∷ []) ∷ word_rows (suc i) more

-- 1 where all these bits are 0
abbrev pub low_row : List Wire → Gate Wire
low_row [] = gate_row One Low []
low_row (w ∷ ws) = gate_row Nor Low (w ∷ ws)

-- the rows of the first ring, which is 1 from a test's start on
abbrev pub first_ring : List (Gate Wire)
first_ring = gate_row And (RingKept 0) (Ring 0 ∷ NotAdvance ∷ []) ∷ gate_row Or (RingNext 0) (NotGo ∷ RingKept 0 ∷ []) ∷ []

-- the rows of the ring behind ring s: it moves on from that one at the end of its session, and stays till the end of its own
abbrev pub middle_ring : ℕ → List (Gate Wire)
middle_ring s =
    gate_row And (RingKept (suc s)) (Ring (suc s) ∷ NotAdvance ∷ []) ∷ gate_row And (RingMoved (suc s)) (Ring s ∷ Advance ∷ [])
    ∷ gate_row Or (RingOr (suc s)) (RingKept (suc s) ∷ RingMoved (suc s) ∷ []) ∷ gate_row And (RingNext (suc s)) (Go ∷ RingOr (suc s) ∷ []) ∷ []

-- the last ring stays 1 till the end of the test
abbrev pub last_ring : ℕ → List (Gate Wire)
last_ring s =
    gate_row And (RingMoved (suc s)) (Ring s ∷ Advance ∷ []) ∷ gate_row Or (RingOr (suc s)) (Ring (suc s) ∷ RingMoved (suc s) ∷ [])
    ∷ gate_row And (RingNext (suc s)) (Go ∷ RingOr (suc s) ∷ []) ∷ []

-- the rows of the rings behind ring s, of which so many stand before the last
abbrev pub ring_rows_from : ℕ → ℕ → List (Gate Wire)
ring_rows_from s zero = last_ring s
ring_rows_from s (suc more) = middle_ring s ++ ring_rows_from (suc s) more

-- the rows of all rings, of which there are one more than sessions
abbrev pub ring_rows : ℕ → List (Gate Wire)
ring_rows zero = gate_row One (RingNext 0) [] ∷ []
ring_rows (suc more) = first_ring ++ ring_rows_from 0 more

-- the last cell of the chain is shifted out
abbrev pub out_row : Option Wire → Gate Wire
out_row None = gate_row Zero So []
out_row (Some q) = gate_row And So (Shifting ∷ q ∷ [])

-- the bit of the chain's last cell
abbrev pub last_q : PlanValue → Option Wire
last_q p = last_of None (map Some (qs_from 0 (chain p)))

-- a test begins where `bt_init` is 1, and goes on behind that
abbrev pub start_rows : List (Gate Wire)
start_rows = gate_row Not NotInit (Init ∷ []) ∷ gate_row Not NotTest (Test ∷ []) ∷ gate_row And Go (Test ∷ NotInit ∷ []) ∷ gate_row Not NotGo (Go ∷ []) ∷ []

-- what the complete register takes in
abbrev pub feed_rows : ℕ → List Wire → List (Gate Wire)
feed_rows mask bits = gate_row Xor Parity (picked mask bits) ∷ low_row (front bits) ∷ gate_row Xor Feed (Parity ∷ Low ∷ []) ∷ []

-- the phase turns at the end of a walk, where the last bit is 1 and the others are 0, and a session ends where the second one does
abbrev pub phase_rows : Wire → List (Gate Wire)
phase_rows last =
    gate_row And Wrap (last ∷ Low ∷ []) ∷ gate_row Xor PhaseTurned (Phase ∷ Wrap ∷ []) ∷ gate_row And PhaseNext (Go ∷ PhaseTurned ∷ [])
    ∷ gate_row And Advance (Phase ∷ Wrap ∷ []) ∷ gate_row Not NotAdvance (Advance ∷ []) ∷ []

-- whether this is a run cycle, an unload cycle, or the test is over
abbrev pub cycle_rows : ℕ → List (Gate Wire)
cycle_rows sessions =
    gate_row Not NotOver (Ring sessions ∷ []) ∷ gate_row And Live (Go ∷ NotOver ∷ []) ∷ gate_row Not NotPhase (Phase ∷ []) ∷ gate_row And Running (Live ∷ NotPhase ∷ [])
    ∷ gate_row And Shifting (Live ∷ Phase ∷ []) ∷ gate_row And Done (Go ∷ Ring sessions ∷ []) ∷ []

abbrev pub controller : PlanValue → List (Gate Wire)
controller p =
    start_rows ++ (feed_rows p.mask (register_word p) ++ (word_rows 0 (word_ahead p) ++ (phase_rows (last_of Test (register_word p))
    ++ (ring_rows (length p.sessions) ++ (cycle_rows (length p.sessions) ++ out_row (last_q p) ∷ [])))))
