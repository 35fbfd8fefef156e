-- one cycle of each register, by its mode
use Rattle.std.proofs.Common.{◌≡◌, ℕ, ◌+◌, ◌<◌, ◌≤◌, zero, suc, List, [], ◌∷◌, length, map, Bool, true, false, not, ◌&&◌, ◌||◌, ◌==◌, if◌then◌else◌, refl, sym, ap, ◌∙◌, arith, Option}
use Rattle.std.proofs.lemmas.Bool.Decides.{nat_tests}
use Rattle.bb_base.specs.Net.{Flop, Netlist}
use Rattle.bb_terms.specs.OnBits.{shifted, zeros, bits_after}
use Rattle.bb_terms.specs.Controller.{word_ahead}
use Rattle.bb_terms.specs.Reads.{qs_from}
use Rattle.bb_terms.specs.declared.wire.Wire.{Wire}
use Rattle.bb_terms.specs.declared.wire.Wire.TheVariants.{NotTest, Running, Shifting, Ring, First, Latches, Takes, Codes}
use Rattle.bb_base.specs.Bits.{picked}
use Rattle.bb_base.specs.Booleans.{parity_of_bits, some_true}
use Rattle.bb_terms.specs.Kinds.{is_source, has_line}
use Rattle.bb_terms.specs.Plan.{RegisterValue, PlanValue, sessions_of, sessions_from, lists_register, compacts}
use Rattle.bb_written.specs.Cells.{cell_flops}
use Rattle.bb_testrun.specs.Held.{signature_at, signature_with, held_by}
use Rattle.bb_base.specs.Parity.{code_of_bits}
use Rattle.bb_written.specs.Modes.{z_bit, g_bit, is_on, bit_or_zero, PartMeets}
use Rattle.bb_written.proofs.CellLines.{modes}
use Rattle.bb_testrun.proofs.RegisterSteps.{taken_shift, taken_sign, taken_code, taken_none, length_qs, bits_next}

b_sign : (b nt run on : Bool) → run ≡ true → on ≡ true → b ≡ (nt || (run && on)) → b ≡ true
b_sign b nt run on h k e = grind arith

n_sign : (n run on sh : Bool) → run ≡ true → on ≡ true → n ≡ ((run && on) || sh) → n ≡ true
n_sign n run on sh h k e = grind arith

e_sign : (e run on : Bool) → on ≡ true → e ≡ (run && not on) → e ≡ false
e_sign e run on h k = grind arith

p_sign : (n p run sh on fb x : Bool) → n ≡ true → run ≡ true → sh ≡ false → on ≡ true → ((run && sh) ≡ false → (n && p) ≡ ((run && (on && fb)) || (sh && x))) → p ≡ fb
p_sign n p run sh on fb x h1 h2 h3 h4 f = let e = f (ap (λ b. run && b) h3 ∙ no run) in grind arith
  where
    no : (b : Bool) → (b && false) ≡ false
    no true = refl
    no false = refl

b_code : (b nt run on : Bool) → nt ≡ false → on ≡ false → b ≡ (nt || (run && on)) → b ≡ false
b_code b nt run on h k e = grind arith

n_code : (n run on sh : Bool) → sh ≡ false → on ≡ false → n ≡ ((run && on) || sh) → n ≡ false
n_code n run on sh h k e = grind arith

e_code : (e run on : Bool) → run ≡ true → on ≡ false → e ≡ (run && not on) → e ≡ true
e_code e run on h k m = grind arith

b_rest : (b nt run on : Bool) → nt ≡ false → run ≡ false → b ≡ (nt || (run && on)) → b ≡ false
b_rest b nt run on h k e = grind arith

n_rest : (n run on sh x : Bool) → run ≡ false → sh ≡ x → n ≡ ((run && on) || sh) → n ≡ x
n_rest n run on sh x h k e = grind arith

e_rest : (e run on : Bool) → run ≡ false → e ≡ (run && not on) → e ≡ false
e_rest e run on h k = grind arith

p_rest : (n p run sh on fb x : Bool) → n ≡ true → run ≡ false → sh ≡ true → ((run && sh) ≡ false → (n && p) ≡ ((run && (on && fb)) || (sh && x))) → p ≡ x
p_rest n p run sh on fb x h1 h2 h3 f = let e = f (ap (λ b. b && sh) h2) in grind arith

abbrev pub Loaded : (Wire → Bool) → (Wire → Bool) → ℕ → RegisterValue → Type 0
Loaded v w i g = map w (qs_from i g.cells) ≡ map (λ (f : Flop Wire). v f.d) (cell_flops i g.cells)

signs : (a : Netlist ℕ) (p : PlanValue) (v w : Wire → Bool) (r i : ℕ) (before : Option Wire) (g : RegisterValue) → v Running ≡ true → v Shifting ≡ false → is_on p v r ≡ true → PartMeets a p v r i before g
    → Loaded v w i g → map w (qs_from i g.cells) ≡ signature_with g.mask (map (λ c. has_line c.kind && z_bit a p v c) g.cells) (map v (qs_from i g.cells))
signs a p v w r i before g run sh on h t =
    let m = modes v r (sessions_of p r) before g.mask (qs_from i g.cells) h.lines in
    let n = n_sign (v (Takes r)) (v Running) (is_on p v r) (v Shifting) run on m.takes in
    let fb = parity_of_bits (picked g.mask (map v (qs_from i g.cells))) in
    bits_next a p v w r i before g true true false fb h t (b_sign (v (Latches r)) (v NotTest) (v Running) (is_on p v r) run on m.latch) n (e_sign (v (Codes r)) (v Running) (is_on p v r) on m.codes)
    (p_sign (v (Takes r)) (v (First r)) (v Running) (v Shifting) (is_on p v r) fb (bit_or_zero v before) n run sh on m.first)
    ∙ taken_sign (z_bit a p v) (g_bit p v) fb g.cells (map v (qs_from i g.cells)) (length_qs v i g.cells)

codes : (a : Netlist ℕ) (p : PlanValue) (v w : Wire → Bool) (r i : ℕ) (before : Option Wire) (g : RegisterValue) → v NotTest ≡ false → v Running ≡ true → v Shifting ≡ false → is_on p v r ≡ false → PartMeets a p v r i before g
    → Loaded v w i g → map w (qs_from i g.cells) ≡ map (λ c. is_source c.kind && g_bit p v c) g.cells
codes a p v w r i before g nt run sh on h t =
    let m = modes v r (sessions_of p r) before g.mask (qs_from i g.cells) h.lines in
    bits_next a p v w r i before g false false true (v (First r)) h t (b_code (v (Latches r)) (v NotTest) (v Running) (is_on p v r) nt on m.latch) (n_code (v (Takes r)) (v Running) (is_on p v r) (v Shifting) sh on m.takes)
    (e_code (v (Codes r)) (v Running) (is_on p v r) run on m.codes) refl
    ∙ taken_code (z_bit a p v) (g_bit p v) (v (First r)) g.cells (map v (qs_from i g.cells)) (length_qs v i g.cells)

pub shifting_on : (a : Netlist ℕ) (p : PlanValue) (v w : Wire → Bool) (r i : ℕ) (before : Option Wire) (g : RegisterValue) → v NotTest ≡ false → v Running ≡ false → v Shifting ≡ true → PartMeets a p v r i before g
    → Loaded v w i g → map w (qs_from i g.cells) ≡ shifted (bit_or_zero v before) (map v (qs_from i g.cells))
shifting_on a p v w r i before g nt run sh h t =
    let m = modes v r (sessions_of p r) before g.mask (qs_from i g.cells) h.lines in
    let n = n_rest (v (Takes r)) (v Running) (is_on p v r) (v Shifting) true run sh m.takes in
    bits_next a p v w r i before g false true false (bit_or_zero v before) h t (b_rest (v (Latches r)) (v NotTest) (v Running) (is_on p v r) nt run m.latch) n (e_rest (v (Codes r)) (v Running) (is_on p v r) run m.codes)
    (p_rest (v (Takes r)) (v (First r)) (v Running) (v Shifting) (is_on p v r) (parity_of_bits (picked g.mask (map v (qs_from i g.cells)))) (bit_or_zero v before) n run sh m.first)
    ∙ taken_shift (z_bit a p v) (g_bit p v) (bit_or_zero v before) g.cells (map v (qs_from i g.cells)) (length_qs v i g.cells)

pub clears : (a : Netlist ℕ) (p : PlanValue) (v w : Wire → Bool) (r i : ℕ) (before : Option Wire) (g : RegisterValue) → v NotTest ≡ false → v Running ≡ false → v Shifting ≡ false → PartMeets a p v r i before g
    → Loaded v w i g → map w (qs_from i g.cells) ≡ zeros (length g.cells)
clears a p v w r i before g nt run sh h t =
    let m = modes v r (sessions_of p r) before g.mask (qs_from i g.cells) h.lines in
    bits_next a p v w r i before g false false false (v (First r)) h t (b_rest (v (Latches r)) (v NotTest) (v Running) (is_on p v r) nt run m.latch) (n_rest (v (Takes r)) (v Running) (is_on p v r) (v Shifting) false run sh m.takes)
    (e_rest (v (Codes r)) (v Running) (is_on p v r) run m.codes) refl
    ∙ taken_none (z_bit a p v) (g_bit p v) (v (First r)) g.cells (map v (qs_from i g.cells)) (length_qs v i g.cells)

-- with one ring on, a register's session is on where it compacts
on_past : (v : Wire → Bool) (b s r : ℕ) (ss : List (List ℕ)) → ((j : ℕ) → b ≤ j → j < b + length ss → v (Ring j) ≡ (j == s)) → s < b → some_true (map v (map Ring (sessions_from b ss r))) ≡ false
on_past v b s r [] hot h = refl
on_past v b s r (session ∷ rest) hot h = by (lists_register r session) (hot b (omega arith) (omega arith)) (on_past v (suc b) s r rest (λ j lo hi. hot j (omega arith) (omega arith)) (omega arith))
  where
    by : (l : Bool) → v (Ring b) ≡ (b == s) → some_true (map v (map Ring (sessions_from (suc b) rest r))) ≡ false
        → some_true (map v (map Ring (if l then b ∷ sessions_from (suc b) rest r else sessions_from (suc b) rest r))) ≡ false
    by true e more = (λ j. (e ∙ other) j || more j)
      where
        other : (b == s) ≡ false
        other = grind (arith, nat_tests)
    by false e more = more

pub on_there : (v : Wire → Bool) (b d s r : ℕ) (ss : List (List ℕ)) → ((j : ℕ) → b ≤ j → j < b + length ss → v (Ring j) ≡ (j == s)) → s ≡ b + d → some_true (map v (map Ring (sessions_from b ss r))) ≡ compacts ss r d
on_there v b d s r [] hot h = refl
on_there v b zero s r (session ∷ rest) hot h = by (lists_register r session) (hot b (omega arith) (omega arith)) (on_past v (suc b) s r rest (λ j lo hi. hot j (omega arith) (omega arith)) (omega arith))
  where
    by : (l : Bool) → v (Ring b) ≡ (b == s) → some_true (map v (map Ring (sessions_from (suc b) rest r))) ≡ false
        → some_true (map v (map Ring (if l then b ∷ sessions_from (suc b) rest r else sessions_from (suc b) rest r))) ≡ l
    by true e more = (λ j. (e ∙ here) j || more j)
      where
        here : (b == s) ≡ true
        here = grind (arith, nat_tests)
    by false e more = more
on_there v b (suc d) s r (session ∷ rest) hot h =
    by (lists_register r session) (hot b (omega arith) (omega arith)) (on_there v (suc b) d s r rest (λ j lo hi. hot j (omega arith) (omega arith)) (omega arith))
  where
    by : (l : Bool) → v (Ring b) ≡ (b == s) → some_true (map v (map Ring (sessions_from (suc b) rest r))) ≡ compacts rest r d
        → some_true (map v (map Ring (if l then b ∷ sessions_from (suc b) rest r else sessions_from (suc b) rest r))) ≡ compacts rest r d
    by true e more = (λ j. (e ∙ other) j || more j)
      where
        other : (b == s) ≡ false
        other = grind (arith, nat_tests)
    by false e more = more

-- one run cycle of a register
pub runs_on : (a : Netlist ℕ) (p : PlanValue) (v w : Wire → Bool) (r i : ℕ) (before : Option Wire) (g : RegisterValue) (s t : ℕ) (zs : ℕ → List Bool) → v NotTest ≡ false → v Running ≡ true → v Shifting ≡ false
    → is_on p v r ≡ compacts p.sessions r s → map v (word_ahead p) ≡ bits_after p.degree p.mask (suc t) → zs t ≡ map (λ c. has_line c.kind && z_bit a p v c) g.cells → PartMeets a p v r i before g → Loaded v w i g
    → map v (qs_from i g.cells) ≡ (if compacts p.sessions r s then signature_at (length g.cells) g.mask zs t else map (λ c. is_source c.kind && code_of_bits c.column (bits_after p.degree p.mask t)) g.cells)
    → map w (qs_from i g.cells) ≡ (if compacts p.sessions r s then signature_at (length g.cells) g.mask zs (suc t) else map (λ c. is_source c.kind && code_of_bits c.column (bits_after p.degree p.mask (suc t))) g.cells)
runs_on a p v w r i before g s t zs nt run sh on x z h l held_by = by (compacts p.sessions r s) on held_by
  where
    by : (b : Bool) → is_on p v r ≡ b → map v (qs_from i g.cells) ≡ (if b then signature_at (length g.cells) g.mask zs t else map (λ c. is_source c.kind && code_of_bits c.column (bits_after p.degree p.mask t)) g.cells)
        → map w (qs_from i g.cells) ≡ (if b then signature_at (length g.cells) g.mask zs (suc t) else map (λ c. is_source c.kind && code_of_bits c.column (bits_after p.degree p.mask (suc t))) g.cells)
    by true e k = signs a p v w r i before g run sh e h l ∙ (λ j. signature_with g.mask (sym z j) (k j))
    by false e k = codes a p v w r i before g nt run sh e h l ∙ (λ j. map (λ c. is_source c.kind && code_of_bits c.column (x j)) g.cells)
