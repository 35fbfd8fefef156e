-- the induction over the test run
use Rattle.std.proofs.Common.{◌≡◌, ℕ, ◌+◌, suc, List, [], ◌∷◌, ◌++◌, length, map, Bool, true, false, ◌&&◌, refl, ap, subst, ◌∙◌, arith, Option}
use Rattle.std.specs.List.{AllByRecursion, flat_map}
use Rattle.bb_base.specs.Net.{Flop, Netlist}
use Rattle.bb_terms.specs.OnBits.{shifted, zeros}
use Rattle.bb_terms.specs.Signature.{xor_each}
use Rattle.bb_terms.specs.Reads.{qs_from}
use Rattle.bb_terms.specs.declared.wire.Wire.{Wire}
use Rattle.bb_terms.specs.declared.wire.Wire.TheVariants.{First, Latches, Takes, Codes}
use Rattle.bb_base.specs.Booleans.{xor}
use Rattle.bb_terms.specs.Kinds.{is_source, has_line}
use Rattle.bb_terms.specs.Plan.{RegisterValue, PlanValue}
use Rattle.bb_terms.specs.declared.plan.Cell.{Cell}
use Rattle.bb_written.specs.Cells.{cell_flops}
use Rattle.bb_written.specs.Modes.{taken, z_bit, g_bit, EachRegister, PartMeets}
use Rattle.bb_written.specs.Trace.{TakesBit}
use Rattle.bb_written.proofs.CellLines.{cells_take}

-- what holds of each register, from what holds of each
pub each_map : (F Code : ℕ → ℕ → Option Wire → RegisterValue → Type 0) → ((r i : ℕ) (before : Option Wire) (g : RegisterValue) → F r i before g → Code r i before g)
    → (r i : ℕ) (before : Option Wire) (gs : List RegisterValue) → EachRegister F r i before gs → EachRegister Code r i before gs
each_map F Code h r i before [] k = tt
each_map F Code h r i before (g ∷ gs) k = (h r i before g k.0, each_map F Code h (suc r) (i + length g.cells) _ gs k.1)

pub each_both : (F Code H : ℕ → ℕ → Option Wire → RegisterValue → Type 0) → ((r i : ℕ) (before : Option Wire) (g : RegisterValue) → F r i before g → Code r i before g → H r i before g)
    → (r i : ℕ) (before : Option Wire) (gs : List RegisterValue) → EachRegister F r i before gs → EachRegister Code r i before gs → EachRegister H r i before gs
each_both F Code H h r i before [] k m = tt
each_both F Code H h r i before (g ∷ gs) k m = (h r i before g k.0 m.0, each_both F Code H h (suc r) (i + length g.cells) _ gs k.1 m.1)

-- the flip-flops of each register
takes_cells : (v w : Wire → Bool) (i : ℕ) (cs ds : List Cell) → AllByRecursion (TakesBit v w) (cell_flops i (cs ++ ds))
    → (map w (qs_from i cs) ≡ map (λ (f : Flop Wire). v f.d) (cell_flops i cs)) × AllByRecursion (TakesBit v w) (cell_flops (i + length cs) ds)
takes_cells v w i [] ds h = (refl, subst (λ k. AllByRecursion (TakesBit v w) (cell_flops k ds)) (let e : i ≡ i + 0 = omega arith in e) h)
takes_cells v w i (c ∷ cs) ds h =
    let rest = takes_cells v w (suc i) cs ds h.1 in
    let e : suc i + length cs ≡ i + suc (length cs) = omega arith in
    (λ j. h.0 j ∷ rest.0 j, subst (λ k. AllByRecursion (TakesBit v w) (cell_flops k ds)) e rest.1)

pub takes_each : (v w : Wire → Bool) (r i : ℕ) (before : Option Wire) (gs : List RegisterValue) → AllByRecursion (TakesBit v w) (cell_flops i (flat_map (λ g. g.cells) gs))
    → EachRegister (λ r i before g. map w (qs_from i g.cells) ≡ map (λ (f : Flop Wire). v f.d) (cell_flops i g.cells)) r i before gs
takes_each v w r i before [] h = tt
takes_each v w r i before (g ∷ gs) h =
    let one = takes_cells v w i g.cells (flat_map (λ g. g.cells) gs) h in
    (one.0, takes_each v w (suc r) (i + length g.cells) _ gs one.1)

-- the modes
pub taken_shift : (z g : Cell → Bool) (x : Bool) (cs : List Cell) (qs : List Bool) → length qs ≡ length cs → taken z g false true false x cs qs ≡ shifted x qs
taken_shift z g x [] [] e = refl
taken_shift z g x [] (q ∷ qs) e = absurd (omega (arith, e))
taken_shift z g x (c ∷ cs) [] e = absurd (omega (arith, e))
taken_shift z g x (c ∷ cs) (q ∷ qs) e = let rest = taken_shift z g q cs qs (omega (arith, e)) in λ j. one (has_line c.kind) (is_source c.kind) x j ∷ rest j
  where
    one : (l s x : Bool) → xor (l && false) (xor x (s && false)) ≡ x
    one true true true = refl
    one true true false = refl
    one true false true = refl
    one true false false = refl
    one false true true = refl
    one false true false = refl
    one false false true = refl
    one false false false = refl

pub taken_sign : (z g : Cell → Bool) (x : Bool) (cs : List Cell) (qs : List Bool) → length qs ≡ length cs → taken z g true true false x cs qs ≡ xor_each (map (λ c. has_line c.kind && z c) cs) (shifted x qs)
taken_sign z g x [] [] e = refl
taken_sign z g x [] (q ∷ qs) e = absurd (omega (arith, e))
taken_sign z g x (c ∷ cs) [] e = absurd (omega (arith, e))
taken_sign z g x (c ∷ cs) (q ∷ qs) e = let rest = taken_sign z g q cs qs (omega (arith, e)) in λ j. xor (has_line c.kind && z c) (one (is_source c.kind) x j) ∷ rest j
  where
    one : (s x : Bool) → xor x (s && false) ≡ x
    one true true = refl
    one true false = refl
    one false true = refl
    one false false = refl

pub taken_code : (z g : Cell → Bool) (x : Bool) (cs : List Cell) (qs : List Bool) → length qs ≡ length cs → taken z g false false true x cs qs ≡ map (λ c. is_source c.kind && g c) cs
taken_code z g x [] [] e = refl
taken_code z g x [] (q ∷ qs) e = absurd (omega (arith, e))
taken_code z g x (c ∷ cs) [] e = absurd (omega (arith, e))
taken_code z g x (c ∷ cs) (q ∷ qs) e = let rest = taken_code z g q cs qs (omega (arith, e)) in λ j. one (has_line c.kind) (is_source c.kind && g c) j ∷ rest j
  where
    one : (l x : Bool) → xor (l && false) x ≡ x
    one true x = refl
    one false x = refl

pub taken_none : (z g : Cell → Bool) (x : Bool) (cs : List Cell) (qs : List Bool) → length qs ≡ length cs → taken z g false false false x cs qs ≡ zeros (length cs)
taken_none z g x [] [] e = refl
taken_none z g x [] (q ∷ qs) e = absurd (omega (arith, e))
taken_none z g x (c ∷ cs) [] e = absurd (omega (arith, e))
taken_none z g x (c ∷ cs) (q ∷ qs) e = let rest = taken_none z g q cs qs (omega (arith, e)) in λ j. one (has_line c.kind) (is_source c.kind) j ∷ rest j
  where
    one : (l s : Bool) → xor (l && false) (s && false) ≡ false
    one true true = refl
    one true false = refl
    one false true = refl
    one false false = refl

pub length_qs : (v : Wire → Bool) (i : ℕ) (cs : List Cell) → length (map v (qs_from i cs)) ≡ length cs
length_qs v i [] = refl
length_qs v i (c ∷ cs) = ap suc (length_qs v (suc i) cs)

-- the register's next bits in any mode
pub bits_next : (a : Netlist ℕ) (p : PlanValue) (v w : Wire → Bool) (r i : ℕ) (before : Option Wire) (g : RegisterValue) (b n e x : Bool) → PartMeets a p v r i before g
    → map w (qs_from i g.cells) ≡ map (λ (f : Flop Wire). v f.d) (cell_flops i g.cells) → v (Latches r) ≡ b → v (Takes r) ≡ n → v (Codes r) ≡ e → v (First r) ≡ x
    → map w (qs_from i g.cells) ≡ taken (z_bit a p v) (g_bit p v) b n e x g.cells (map v (qs_from i g.cells))
bits_next a p v w r i before g b n e x h t hb hn he hx =
    t ∙ cells_take a p v r i (First r) g.cells h.cells ∙ (λ j. taken (z_bit a p v) (g_bit p v) (hb j) (hn j) (he j) (hx j) g.cells (map v (qs_from i g.cells)))
