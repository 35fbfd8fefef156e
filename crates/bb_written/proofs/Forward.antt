-- from a run of the written netlist outside a test to one of the original
use Rattle.std.proofs.Common.{◌≡◌, ℕ, ◌+◌, suc, List, [], ◌∷◌, ◌++◌, length, map, take, Bool, true, false, not, ◌&&◌, ◌||◌, ◌==◌, if◌then◌else◌, refl, sym, ap, subst, ◌∙◌, arith, eqb-true, Option, None}
use Rattle.std.specs.List.{AllByRecursion, flat_map, list_any}
use Rattle.bb_base.specs.Net.{Flop, Netlist}
use Rattle.bb_base.specs.Run.{Meets}
use Rattle.bb_terms.specs.Controller.{word_ahead, controller, word_rows, ring_rows}
use Rattle.bb_terms.specs.Reads.{q_of, qs_from, read_behind, read}
use Rattle.bb_terms.specs.Registers.{registers_from}
use Rattle.bb_terms.specs.declared.wire.Wire.{Wire}
use Rattle.bb_terms.specs.declared.wire.Wire.TheVariants.{Kept, Test, Init, NotTest, Go, Live, Running, Shifting, First, Latches, Takes, Codes, Next, Read, Held}
use Rattle.bb_base.specs.Operators.{op_gives}
use Rattle.bb_base.specs.Run.{Settles, IsRun, states, next_states}
use Rattle.bb_base.specs.Booleans.{xor}
use Rattle.bb_terms.specs.Kinds.{is_behind, is_flop}
use Rattle.bb_terms.specs.Lines.{d_of}
use Rattle.bb_terms.specs.Plan.{RegisterValue, PlanValue, chain, sessions_of}
use Rattle.bb_terms.specs.declared.plan.Cell.{Cell}
use Rattle.bb_terms.specs.declared.kind.Kind.{Kind}
use Rattle.bb_terms.specs.declared.kind.Kind.TheVariants.{Input, State, Split, Cut, Watch, Output}
use Rattle.bb_written.specs.Cells.{cell_rows, rows_of_cells, cell_flops, word_flops, ring_flops, flops, flop}
use Rattle.bb_written.specs.Modes.{g_bit, EachRegister, PartMeets}
use Rattle.bb_written.specs.Restricted.{original_bits, RunsAsOriginal, KeepsFlops}
use Rattle.bb_written.specs.Trace.{TakesBit}
use Rattle.bb_written.specs.Written.{test_gates, written_gate, written_netlist}
use Rattle.bb_base.proofs.Lists.{all_front, all_back, all_map, same_map, map_twice, map_join, take_front}
use Rattle.bb_written.proofs.CellLines.{cell_takes, reads_behind, modes, parts}
use Rattle.bb_written.proofs.Parts.{by_parts}

-- the controller's lines outside a test
pub record Idle (v : Wire → Bool) : Type 0 where
  pub test : v Test ≡ false
  pub normal : v NotTest ≡ true
  pub running : v Running ≡ false
  pub shifting : v Shifting ≡ false

no_and : (go x live y run z : Bool) (t n : Bool) → t ≡ false → go ≡ (t && (n && true)) → live ≡ (go && (x && true)) → run ≡ (live && (z && true)) → run ≡ false
no_and go x live y run z t n h1 h2 h3 h4 = grind arith

pub idle : (p : PlanValue) (v : Wire → Bool) → AllByRecursion (Meets v) (controller p) → v Test ≡ false → Idle v
idle p v h t =
    let tail = all_back (Meets v) (word_rows 0 (word_ahead p)) _ h.1.1.1.1.1.1.1 in
    let end = all_back (Meets v) (ring_rows (length p.sessions)) _ tail.1.1.1.1.1 in
    record {
      test = t;
      normal = h.1.0 ∙ ap not t;
      running = no_and (v Go) _ (v Live) true (v Running) _ (v Test) _ t h.1.1.0 end.1.0 end.1.1.1.0;
      shifting = no_and (v Go) _ (v Live) true (v Shifting) _ (v Test) _ t h.1.1.0 end.1.0 end.1.1.1.1.0;
    }

through : (r t q nt n : Bool) → t ≡ false → nt ≡ true → r ≡ ((t && q) || (nt && n)) → r ≡ n
through r t q nt n h k e = grind arith

-- the cells of a register let the nets through
reads_cells : (a : Netlist ℕ) (p : PlanValue) (v : Wire → Bool) (r i : ℕ) (before : Wire) (cs ds : List Cell) (n : ℕ) → Idle v → AllByRecursion (Meets v) (rows_of_cells a p r i before cs)
    → v (read_behind (i + length cs) ds n) ≡ v (Kept n) → v (read_behind i (cs ++ ds) n) ≡ v (Kept n)
reads_cells a p v r i before [] ds n idle h rest = subst (λ k. v (read_behind k ds n) ≡ v (Kept n)) (let e : i + 0 ≡ i = omega arith in e) rest
reads_cells a p v r i before (c ∷ cs) ds n idle h rest =
    go (is_behind c.kind) refl (c.net == n) refl
    (reads_cells a p v r (suc i) (q_of i c) cs ds n idle (all_back (Meets v) (cell_rows a p r i before c) (rows_of_cells a p r (suc i) (q_of i c) cs) h)
    (subst (λ k. v (read_behind k ds n) ≡ v (Kept n)) (let e : i + suc (length cs) ≡ suc i + length cs = omega arith in e) rest))
  where
    go : (b : Bool) → is_behind c.kind ≡ b → (e : Bool) → (c.net == n) ≡ e → v (read_behind (suc i) (cs ++ ds) n) ≡ v (Kept n)
        → v (if b && e then Read i else read_behind (suc i) (cs ++ ds) n) ≡ v (Kept n)
    go true is true same more =
        through (v (Read i)) (v Test) (v (Held i)) (v NotTest) (v (Kept c.net)) idle.test idle.normal
        (reads_behind a p v r i before c.kind c.net c.column (all_front (Meets v) (cell_rows a p r i before c) (rows_of_cells a p r (suc i) (q_of i c) cs) h) is)
        ∙ ap (λ m. v (Kept m)) (eqb-true c.net n same)
    go true is false same more = more
    go false is e same more = more

reads_from : (a : Netlist ℕ) (p : PlanValue) (v : Wire → Bool) (r i : ℕ) (before : Option Wire) (gs : List RegisterValue) (n : ℕ) → Idle v → EachRegister (PartMeets a p v) r i before gs
    → v (read_behind i (flat_map (λ g. g.cells) gs) n) ≡ v (Kept n)
reads_from a p v r i before [] n idle h = refl
reads_from a p v r i before (g ∷ gs) n idle h =
    reads_cells a p v r i (First r) g.cells (flat_map (λ g. g.cells) gs) n idle h.0.cells (reads_from a p v (suc r) (i + length g.cells) _ gs n idle h.1)

latched : (d b n e z x s g : Bool) → b ≡ true → n ≡ false → e ≡ false → d ≡ xor (b && z) (xor (n && x) (s && (e && g))) → d ≡ z
latched d b n e z x s g h1 h2 h3 h5 = h5 ∙ (λ j. xor (h1 j && z) (xor (h2 j && x) (s && (h3 j && g)))) ∙ done z s
  where
    done : (z s : Bool) → xor z (xor false (s && false)) ≡ z
    done true true = refl
    done true false = refl
    done false true = refl
    done false false = refl

-- the flip-flop's cell takes its line
abbrev pub Loads : Netlist ℕ → PlanValue → (Wire → Bool) → (Wire → Bool) → Cell → Type 0
Loads a p v w c = is_flop c.kind ≡ true → w (Kept c.net) ≡ v (read p (d_of a.flops c.net))

-- the mode of normal operation
record Latching (v : Wire → Bool) (r : ℕ) : Type 0 where
  b : v (Latches r) ≡ true
  n : v (Takes r) ≡ false
  e : v (Codes r) ≡ false

latch_b : (b nt run on : Bool) → nt ≡ true → b ≡ (nt || (run && on)) → b ≡ true
latch_b b nt run on h k = grind arith

latch_n : (n run on sh : Bool) → run ≡ false → sh ≡ false → n ≡ ((run && on) || sh) → n ≡ false
latch_n n run on sh h k e = grind arith

latch_e : (e run on : Bool) → run ≡ false → e ≡ (run && not on) → e ≡ false
latch_e e run on h k = grind arith

latching : (a : Netlist ℕ) (p : PlanValue) (v : Wire → Bool) (r i : ℕ) (before : Option Wire) (g : RegisterValue) → Idle v → PartMeets a p v r i before g → Latching v r
latching a p v r i before g idle h =
    let m = modes v r (sessions_of p r) before g.mask (qs_from i g.cells) h.lines in
    record {
      b = latch_b (v (Latches r)) (v NotTest) (v Running) _ idle.normal m.latch;
      n = latch_n (v (Takes r)) (v Running) _ (v Shifting) idle.running idle.shifting m.takes;
      e = latch_e (v (Codes r)) (v Running) _ idle.running m.codes;
    }

loads_cell : (a : Netlist ℕ) (p : PlanValue) (v w : Wire → Bool) (r i : ℕ) (before : Wire) (k : Kind) (net column : ℕ) → Latching v r
    → AllByRecursion (Meets v) (cell_rows a p r i before (record { kind = k; net = net; column = column }))
    → TakesBit v w (flop (q_of i (record { kind = k; net = net; column = column })) (Next i)) → Loads a p v w (record { kind = k; net = net; column = column })
loads_cell a p v w r i before State net column l h t e =
    t ∙ latched (v (Next i)) (v (Latches r)) (v (Takes r)) (v (Codes r)) (v (read p (d_of a.flops net))) (v before) true (g_bit p v (record { kind = State; net = net; column = column })) l.b l.n l.e (cell_takes a p v r i before State net column h)
loads_cell a p v w r i before Split net column l h t e =
    t ∙ latched (v (Next i)) (v (Latches r)) (v (Takes r)) (v (Codes r)) (v (read p (d_of a.flops net))) (v before) true (g_bit p v (record { kind = Split; net = net; column = column })) l.b l.n l.e (cell_takes a p v r i before Split net column h)
loads_cell a p v w r i before Input net column l h t e = absurd cc
loads_cell a p v w r i before Cut net column l h t e = absurd cc
loads_cell a p v w r i before Watch net column l h t e = absurd cc
loads_cell a p v w r i before Output net column l h t e = absurd cc

loads_cells : (a : Netlist ℕ) (p : PlanValue) (v w : Wire → Bool) (r i : ℕ) (before : Wire) (cs ds : List Cell) → Latching v r → AllByRecursion (Meets v) (rows_of_cells a p r i before cs)
    → AllByRecursion (TakesBit v w) (cell_flops i (cs ++ ds)) → (AllByRecursion (TakesBit v w) (cell_flops (i + length cs) ds) → AllByRecursion (Loads a p v w) ds) → AllByRecursion (Loads a p v w) (cs ++ ds)
loads_cells a p v w r i before [] ds l h t rest = rest (subst (λ k. AllByRecursion (TakesBit v w) (cell_flops k ds)) (let e : i ≡ i + 0 = omega arith in e) t)
loads_cells a p v w r i before (c ∷ cs) ds l h t rest =
    let e : suc i + length cs ≡ i + suc (length cs) = omega arith in (
      loads_cell a p v w r i before c.kind c.net c.column l (all_front (Meets v) (cell_rows a p r i before c) (rows_of_cells a p r (suc i) (q_of i c) cs) h) t.0,
      loads_cells a p v w r (suc i) (q_of i c) cs ds l (all_back (Meets v) (cell_rows a p r i before c) (rows_of_cells a p r (suc i) (q_of i c) cs) h) t.1
          (λ m. rest (subst (λ k. AllByRecursion (TakesBit v w) (cell_flops k ds)) e m)),
    )

loads : (a : Netlist ℕ) (p : PlanValue) (v w : Wire → Bool) (r i : ℕ) (before : Option Wire) (gs : List RegisterValue) → Idle v → EachRegister (PartMeets a p v) r i before gs
    → AllByRecursion (TakesBit v w) (cell_flops i (flat_map (λ g. g.cells) gs)) → AllByRecursion (Loads a p v w) (flat_map (λ g. g.cells) gs)
loads a p v w r i before [] idle h t = tt
loads a p v w r i before (g ∷ gs) idle h t =
    loads_cells a p v w r i (First r) g.cells (flat_map (λ g. g.cells) gs) (latching a p v r i before g idle h.0) h.0.cells t
    (λ m. loads a p v w (suc r) (i + length g.cells) _ gs idle h.1 m)

-- the flip-flop with this q
loaded : (a : Netlist ℕ) (p : PlanValue) (v w : Wire → Bool) (n : ℕ) (cs : List Cell) → list_any (λ c. is_flop c.kind && (c.net == n)) cs ≡ true → AllByRecursion (Loads a p v w) cs
    → w (Kept n) ≡ v (read p (d_of a.flops n))
loaded a p v w n [] e h = absurd cc
loaded a p v w n (c ∷ cs) e h = go (is_flop c.kind) refl (c.net == n) refl e (λ k. loaded a p v w n cs k h.1)
  where
    go : (b : Bool) → is_flop c.kind ≡ b → (s : Bool) → (c.net == n) ≡ s → ((b && s) || list_any (λ c. is_flop c.kind && (c.net == n)) cs) ≡ true
        → (list_any (λ c. is_flop c.kind && (c.net == n)) cs ≡ true → w (Kept n) ≡ v (read p (d_of a.flops n))) → w (Kept n) ≡ v (read p (d_of a.flops n))
    go true is true same k more = subst (λ m. w (Kept m) ≡ v (read p (d_of a.flops m))) (eqb-true c.net n same) (h.0 is)
    go true is false same k more = more k
    go false is s same k more = more k

tail_of : {Word : Type 0} → List Word → List Word
tail_of [] = []
tail_of (x ∷ xs) = xs

head_of : {Word : Type 0} → Word → List Word → Word
head_of d [] = d
head_of d (x ∷ xs) = x

pub takes : (v w : Wire → Bool) (fs : List (Flop Wire)) → map (λ (f : Flop Wire). w f.q) fs ≡ map (λ (f : Flop Wire). v f.d) fs → AllByRecursion (TakesBit v w) fs
unfolding tail_of head_of
takes v w [] e = tt
takes v w (f ∷ fs) e = (ap (head_of false) e, takes v w fs (ap tail_of e))

same_states : (a : Netlist ℕ) (p : PlanValue) (v w : Wire → Bool) → ((n : ℕ) → v (read p n) ≡ original_bits v n) → AllByRecursion (Loads a p v w) (chain p) → (fs : List (Flop ℕ))
    → AllByRecursion (λ (f : Flop ℕ). list_any (λ c. is_flop c.kind && (c.net == f.q)) (chain p) ≡ true) fs → AllByRecursion (λ (f : Flop ℕ). d_of a.flops f.q ≡ f.d) fs
    → map (λ (f : Flop ℕ). original_bits w f.q) fs ≡ map (λ (f : Flop ℕ). original_bits v f.d) fs
same_states a p v w r l [] h k = refl
same_states a p v w r l (f ∷ fs) h k =
    let here : original_bits w f.q ≡ original_bits v f.d = loaded a p v w f.q (chain p) h.0 l ∙ ap (λ n. v (read p n)) k.0 ∙ r f.d in
    let rest = same_states a p v w r l fs h.1 k.1 in
    λ j. here j ∷ rest j

front_of : {Word Y : Type 0} (p : Y → Bool) (w : Word → Bool) (f : Word → Y) → ((x : Word) → p (f x) ≡ w x) → (xs : List Word) (rest : List Y) (bits : List Bool)
    → map p (map f xs ++ rest) ≡ bits → take (length xs) bits ≡ map w xs
front_of p w f h xs rest bits e =
    ap (take (length xs)) (sym e ∙ map_join p (map f xs) rest ∙ ap (λ ys. ys ++ map p rest) (map_twice p f xs ∙ same_map (λ x. p (f x)) w h xs)) ∙ take_front w xs (map p rest)

-- one cycle
record Cycle (a : Netlist ℕ) (p : PlanValue) (v : Wire → Bool) : Type 0 where
  idle : Idle v
  parts : EachRegister (PartMeets a p v) 0 0 None p.registers
  reads : (n : ℕ) → v (read p n) ≡ original_bits v n

cycle : (a : Netlist ℕ) (p : PlanValue) (v : Wire → Bool) → AllByRecursion (Meets v) (test_gates a p) → v Test ≡ false → Cycle a p v
cycle a p v added t =
    let h = by_parts (Meets v) a p added in
    let i : Idle v = idle p v (all_front (Meets v) (controller p) _ h) t in
    let rest = all_back (Meets v) (controller p) _ h in
    let ps = parts a p v 0 0 None p.registers (all_front (Meets v) (registers_from p 0 0 None p.registers) _ rest) (all_back (Meets v) (registers_from p 0 0 None p.registers) _ rest) in
    record { idle = i; parts = ps; reads = λ n. reads_from a p v 0 0 None p.registers n i ps }

forward_val : (a : Netlist ℕ) (p : PlanValue) (i s : List Bool) (v : Wire → Bool) → Settles (written_netlist a p) i s v → v Test ≡ false → Settles a (take (length a.inputs) i) (states a (original_bits v)) (original_bits v)
forward_val a p i s v h t =
    let c = cycle a p v (all_back (Meets v) (map (written_gate p) a.gates) (test_gates a p) h.gates) t in
    record {
      inputs = sym (front_of v (original_bits v) Kept (λ n. refl) a.inputs (Test ∷ Init ∷ []) i h.inputs);
      state = refl;
      gates = all_map (Meets v) (Meets (original_bits v)) (written_gate p) (λ g m. m ∙ ap (op_gives g.op) (map_twice v (read p) g.ins ∙ same_map (λ n. v (read p n)) (original_bits v) c.reads g.ins)) a.gates
          (all_front (Meets v) (map (written_gate p) a.gates) (test_gates a p) h.gates);
    }

cell_part : (p : PlanValue) (v w : Wire → Bool) → AllByRecursion (TakesBit v w) (flops p) → AllByRecursion (TakesBit v w) (cell_flops 0 (chain p))
cell_part p v w h = all_back (TakesBit v w) (ring_flops 0 (length p.sessions)) _ (all_back (TakesBit v w) (word_flops 0 p.degree) _ h).1

-- from one cycle to the next the original's flip-flops take their d
taken_states : (a : Netlist ℕ) (p : PlanValue) (v w : Wire → Bool) → KeepsFlops a p → AllByRecursion (Meets v) (test_gates a p) → v Test ≡ false → AllByRecursion (TakesBit v w) (flops p)
    → states a (original_bits w) ≡ next_states a (original_bits v)
taken_states a p v w keeps h t m =
    let c = cycle a p v h t in
    same_states a p v w c.reads (loads a p v w 0 0 None p.registers c.idle c.parts (cell_part p v w m)) a.flops keeps.has keeps.own

pub forward : (a : Netlist ℕ) (p : PlanValue) → KeepsFlops a p → RunsAsOriginal a p
forward a p keeps s [] [] run normal = tt
forward a p keeps s (i ∷ []) (v ∷ []) run normal = (forward_val a p i s v run.0 normal.0, tt)
forward a p keeps s (i ∷ j ∷ is) (v ∷ []) run normal = absurd run.1
forward a p keeps s (i ∷ []) (v ∷ w ∷ vs) run normal = absurd run.1
forward a p keeps s (i ∷ j ∷ is) (v ∷ w ∷ vs) run normal =
    let added = all_back (Meets v) (map (written_gate p) a.gates) (test_gates a p) run.0.gates in
    let step = taken_states a p v w keeps added normal.0 (takes v w (flops p) run.1.0.state) in (
      forward_val a p i s v run.0 normal.0,
      subst (λ t. IsRun a t (map (take (length a.inputs)) (j ∷ is)) (map original_bits (w ∷ vs))) step (forward a p keeps (next_states (written_netlist a p) v) (j ∷ is) (w ∷ vs) run.1 normal.1),
    )
forward a p keeps s [] (v ∷ vs) run normal = run
forward a p keeps s (i ∷ is) [] run normal = run
