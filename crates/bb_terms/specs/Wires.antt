-- The names of the written netlist's nets: a front for each kind of net, and a number where there are several.
use Rattle.std.specs.Prelude.{ℕ, ◌<◌, ◌^◌, List, ◌++◌, codes, decimal, Option, None, Some, IfSome}
use Rattle.bb_terms.specs.declared.wire.Wire.{Wire}
use Rattle.bb_terms.specs.declared.wire.Wire.TheVariants.{Kept, Test, Init, So, Done, NotInit, NotTest, Go, NotGo, Parity, Low, Feed, Word, WordNext, Wrap, Phase, PhaseTurned, PhaseNext, Advance, NotAdvance, Ring, RingKept, RingMoved, RingOr, RingNext, NotOver, Live, NotPhase, Running, Shifting, On, Compacts, Latches, Takes, Off, Codes, Feedback, Signed, Carried, First, Line, Chain, Code, Coded, Next, InTest, InNormal, Read, Held}

-- the front of its name, and its number
abbrev pub wire_label : Wire → List ℕ × Option ℕ
wire_label (Kept net) = (codes "", None)
wire_label Test = (codes "bt_test", None)
wire_label Init = (codes "bt_init", None)
wire_label So = (codes "bt_so", None)
wire_label Done = (codes "bt_done", None)
wire_label NotInit = (codes "bt_ni", None)
wire_label NotTest = (codes "bt_nt", None)
wire_label Go = (codes "bt_go", None)
wire_label NotGo = (codes "bt_ngo", None)
wire_label Parity = (codes "bt_par", None)
wire_label Low = (codes "bt_low", None)
wire_label Feed = (codes "bt_f", None)
wire_label (Word i) = (codes "bt_x", Some i)
wire_label (WordNext i) = (codes "bt_xd", Some i)
wire_label Wrap = (codes "bt_wrap", None)
wire_label Phase = (codes "bt_ph", None)
wire_label PhaseTurned = (codes "bt_pd", None)
wire_label PhaseNext = (codes "bt_phd", None)
wire_label Advance = (codes "bt_step", None)
wire_label NotAdvance = (codes "bt_ns", None)
wire_label (Ring s) = (codes "bt_ring", Some s)
wire_label (RingKept s) = (codes "bt_rk", Some s)
wire_label (RingMoved s) = (codes "bt_ra", Some s)
wire_label (RingOr s) = (codes "bt_ro", Some s)
wire_label (RingNext s) = (codes "bt_ringd", Some s)
wire_label NotOver = (codes "bt_nd", None)
wire_label Live = (codes "bt_live", None)
wire_label NotPhase = (codes "bt_np", None)
wire_label Running = (codes "bt_run", None)
wire_label Shifting = (codes "bt_shift", None)
wire_label (On r) = (codes "bt_on", Some r)
wire_label (Compacts r) = (codes "bt_comp", Some r)
wire_label (Latches r) = (codes "bt_b", Some r)
wire_label (Takes r) = (codes "bt_n", Some r)
wire_label (Off r) = (codes "bt_off", Some r)
wire_label (Codes r) = (codes "bt_e", Some r)
wire_label (Feedback r) = (codes "bt_fb", Some r)
wire_label (Signed r) = (codes "bt_pf", Some r)
wire_label (Carried r) = (codes "bt_pc", Some r)
wire_label (First r) = (codes "bt_p", Some r)
wire_label (Line i) = (codes "bt_cz", Some i)
wire_label (Chain i) = (codes "bt_cn", Some i)
wire_label (Code i) = (codes "bt_g", Some i)
wire_label (Coded i) = (codes "bt_cg", Some i)
wire_label (Next i) = (codes "bt_d", Some i)
wire_label (InTest i) = (codes "bt_rt", Some i)
wire_label (InNormal i) = (codes "bt_rn", Some i)
wire_label (Read i) = (codes "bt_r", Some i)
wire_label (Held i) = (codes "bt_q", Some i)

abbrev pub with_number : List ℕ → Option ℕ → List ℕ
with_number front None = front
with_number front (Some number) = front ++ decimal number

abbrev pub symbol_name : Wire → List ℕ
symbol_name w = with_number (wire_label w).0 (wire_label w).1

-- an added net, which is none of the original's, with a number of 32 bits where it has one
abbrev pub IsAdded : Wire → Type 0
IsAdded (Kept net) = ⊥
IsAdded w = IfSome (wire_label w).1 (λ number. number < 2 ^ 32)
