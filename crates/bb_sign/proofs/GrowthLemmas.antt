-- A register's signature, state after state.
use Rattle.std.proofs.Common.{arith, ◌≡◌, ℕ, zero, suc, ◌+◌, ◌*◌, ◌%◌, ◌<◌, ◌≤◌, ◌^◌, Bool, List, [], ◌∷◌, ◌++◌, length, map, refl, sym, ap, subst, ◌∙◌, slice_get, Some, get_or, Contains}
use Rattle.std.proofs.lemmas.Nat.{pow_pos}
use Rattle.std.specs.List.{AllByRecursion, AllZip, range_with_len}
use Rattle.bb_base.proofs.Contained.{to_all, place_of}
use Rattle.bb_base.proofs.Lists.{length_map, map_join}
use Rattle.bb_base.specs.Net.{Netlist, IsNetlist}
use Rattle.bb_base.specs.Bits.{bits, from_bits}
use Rattle.bb_gf2.proofs.BitLaws.{from_bits-bits, bits-from_bits}
use Rattle.bb_gf2.proofs.Pairing.{from_bits_below}
use Rattle.bb_terms.specs.Register.{state_after}
use Rattle.bb_terms.specs.OnBits.{zeros}
use Rattle.bb_terms.specs.Signature.{signature, signature_step, next_signature}
use Rattle.bb_terms.proofs.Growth.{grows, length_signature}
use Rattle.bb_gf2.proofs.BitSteps.{bits-signature}
use Rattle.bb_gf2.proofs.WalkSteps.{size_is}
use Rattle.bb_terms.specs.declared.plan.Cell.{Cell}
use Rattle.bb_terms.specs.Plan.{RegisterValue, PlanValue, has_input}
use Rattle.bb_terms.specs.Rules.{Kinds, Fits, IsFrame}
use Rattle.bb_terms.specs.Valid.{IsValidPlan}
use Rattle.bb_terms.specs.Signatures.{IsLineBit}
use Rattle.bb_eqn.specs.Values.{bits_at}
use Rattle.bb_eqn.specs.Lanes.{in_lane}
use Rattle.bb_eqn.proofs.SignatureLemmas.{next_below}
use Rattle.bb_sign.specs.Bits.{AreBitsAt}
use Rattle.bb_sign.specs.Compactors.{CompactorValue, IsCompactor, IsLineStart, AreHeld, AreSignedUntil, AreSigned, compacted, line_word, start_bit}
use Rattle.bb_sign.proofs.ColumnLemmas.{in_chain}
use Rattle.bb_sign.proofs.LineLemmas.{lines_are}
use Rattle.bb_sign.proofs.WordLemmas.{word_below}
use Rattle.bb_sign.proofs.ZipLemmas.{zip_long, zip_at}

-- a range with its last number
range_more : (from n : ℕ) → range_with_len from (suc n) ≡ range_with_len from n ++ (from + n) ∷ []
range_more from zero = let e : from ≡ from + 0 = omega arith in ap (λ k. k ∷ []) e
range_more from (suc n) = let e : (from + 1) + n ≡ from + suc n = omega arith in ap (λ ks. from ∷ ks) (range_more (from + 1) n ∙ ap (λ k. range_with_len (from + 1) n ++ k ∷ []) e)

-- lines in each of some cycles
abbrev cycles_of : (ℕ → Cell → Bool) → List Cell → ℕ → List (List Bool)
cycles_of f cells states = map (λ t. map (f t) cells) (range_with_len 0 states)

cycles_more : (f : ℕ → Cell → Bool) (cells : List Cell) (t : ℕ) → cycles_of f cells (suc t) ≡ cycles_of f cells t ++ map (f t) cells ∷ []
cycles_more f cells t =
    let e : 0 + t ≡ t = omega arith in
    ap (map (λ t. map (f t) cells)) (range_more 0 t ∙ ap (λ k. range_with_len 0 t ++ k ∷ []) e) ∙ map_join (λ t. map (f t) cells) (range_with_len 0 t) (t ∷ [])

cycles_long : (f : ℕ → Cell → Bool) (cells : List Cell) (ts : List ℕ) → AllByRecursion (λ lines. length lines ≡ length cells) (map (λ t. map (f t) cells) ts)
cycles_long f cells [] = tt
cycles_long f cells (t ∷ ts) = (length_map (f t) cells, cycles_long f cells ts)

-- the bits of the number of so many bits
back : (k : ℕ) (bs : List Bool) → length bs ≡ k → bits k (from_bits bs) ≡ bs
back k bs long = subst (λ n. bits n (from_bits bs) ≡ bs) long (bits-from_bits bs)

below : (k : ℕ) (bs : List Bool) → length bs ≡ k → from_bits bs < 2 ^ k
below k bs long = subst (λ n. from_bits bs < 2 ^ n) long (from_bits_below bs)

-- one state more
grown : (f : ℕ → Cell → Bool) (cells : List Cell) (mask t held word new : ℕ) → held ≡ from_bits (signature (length cells) mask (cycles_of f cells t)) → word ≡ from_bits (map (f t) cells)
    → new ≡ next_signature (length cells) mask held word → new < 2 ^ length cells → new ≡ from_bits (signature (length cells) mask (cycles_of f cells (suc t)))
grown f cells mask t held word new held_is word_is new_is small =
    let k = length cells in
    let before = signature k mask (cycles_of f cells t) in
    let lines = map (f t) cells in
    let long : length before ≡ k = length_signature k mask (cycles_of f cells t) (cycles_long f cells (range_with_len 0 t)) in
    let held_small : held < 2 ^ k = subst (λ n. n < 2 ^ k) (sym held_is) (below k before long) in
    let word_small : word < 2 ^ k = subst (λ n. n < 2 ^ k) (sym word_is) (below k lines (length_map (f t) cells)) in
    let held_bits : bits k held ≡ before = ap (bits k) held_is ∙ back k before long in
    let word_bits : bits k word ≡ lines = ap (bits k) word_is ∙ back k lines (length_map (f t) cells) in
    let stepped : bits k new ≡ signature_step mask before lines = ap (bits k) new_is ∙ bits-signature k mask held word held_small word_small ∙ (ap (λ bs. signature_step mask bs (bits k word)) held_bits ∙ ap (signature_step mask before) word_bits) in
    sym (from_bits-bits k new small)
    ∙ (ap from_bits (stepped ∙ sym (grows k mask (cycles_of f cells t) lines))
    ∙ ap (λ cycles. from_bits (signature k mask cycles)) (sym (cycles_more f cells t)))

module _ (a : Netlist ℕ) (p : PlanValue) (fits : IsNetlist a) (valid : IsValidPlan a p) where
  -- what a register with these lines holds before a state
  abbrev HoldsAt : RegisterValue → (ℕ → Cell → Bool) → ℕ → ℕ
  HoldsAt g f t = from_bits (signature (length g.cells) g.mask (cycles_of f g.cells t))

  -- from one state to the next
  next_holds : (r t : ℕ) (g : RegisterValue) (k : CompactorValue) (f : ℕ → Cell → Bool) (v : ℕ → Bool) → slice_get p.registers r ≡ Some g → k.mask ≡ g.mask → AllZip (IsLineStart a) g.cells k.starts → AreBitsAt a p (state_after p.degree p.mask t) v
      → ((c : Cell) → Contains g.cells c → IsLineBit a p (state_after p.degree p.mask t) c (f t c)) → next_signature (length k.starts) k.mask (HoldsAt g f t) (line_word a.gates v k.starts) ≡ HoldsAt g f (suc t)
  next_holds r t g k f v at masked lines settled bits =
      let held = HoldsAt g f t in
      let word = line_word a.gates v k.starts in
      let long : length k.starts ≡ length g.cells = zip_long (IsLineStart a) g.cells k.starts lines in
      let good : AllByRecursion (λ c. Fits a c × IsLineBit a p (state_after p.degree p.mask t) c (f t c)) g.cells =
      to_all (λ c. Fits a c × IsLineBit a p (state_after p.degree p.mask t) c (f t c)) g.cells (λ c stands.
      let place = place_of g.cells c stands in
      let i = in_chain p r place.0 g c at place.1 in
      (valid.meets Kinds i.0 c i.1, bits c stands)) in
      let same = ap from_bits (lines_are a p t v (f t) fits valid.order settled g.cells k.starts good lines) in
      let small : word < 2 ^ length g.cells = subst (λ n. word < 2 ^ n) long (word_below (start_bit a.gates v) k.starts) in
      ap (λ n. next_signature n k.mask held word) long ∙ (ap (λ m. next_signature (length g.cells) m held word) masked
      ∙ grown f g.cells g.mask t held word (next_signature (length g.cells) g.mask held word) refl same refl (next_below (length g.cells) g.mask held word small))

  -- from one state to one some states later
  later_holds : (r n count : ℕ) (g : RegisterValue) (k : CompactorValue) (f : ℕ → Cell → Bool) (values : List ℕ) → slice_get p.registers r ≡ Some g → k.mask ≡ g.mask → AllZip (IsLineStart a) g.cells k.starts
      → ((t : ℕ) → t < count → AreBitsAt a p (state_after p.degree p.mask (n + t)) (bits_at (in_lane t values)))
      → ((t : ℕ) → t < count → (c : Cell) → Contains g.cells c → IsLineBit a p (state_after p.degree p.mask (n + t)) c (f (n + t) c)) → compacted a.gates values k count (HoldsAt g f n) ≡ HoldsAt g f (n + count)
  later_holds r n zero g k f values at masked lines settled bits = let e : n ≡ n + 0 = omega arith in ap (HoldsAt g f) e
  later_holds r n (suc t) g k f values at masked lines settled bits =
      let before = later_holds r n t g k f values at masked lines (λ i less. settled i (omega (arith, less))) (λ i less. bits i (omega (arith, less))) in
      let e : suc (n + t) ≡ n + suc t = omega arith in
      ap (λ q. next_signature (length k.starts) k.mask q (line_word a.gates (bits_at (in_lane t values)) k.starts)) before
      ∙ (next_holds r (n + t) g k f (bits_at (in_lane t values)) at masked lines (settled t (omega arith)) (bits t (omega arith)) ∙ ap (HoldsAt g f) e)

  -- all registers
  pub signed_more : (compactors : List CompactorValue) (n count : ℕ) (values held new : List ℕ) → AllZip (IsCompactor a) p.registers compactors → n + count ≤ 2 ^ p.degree
      → ((t : ℕ) → t < count → AreBitsAt a p (state_after p.degree p.mask (n + t)) (bits_at (in_lane t values)))
      → ((r : ℕ) (k : CompactorValue) → slice_get compactors r ≡ Some k → get_or new r 0 ≡ compacted a.gates values k count (get_or held r 0)) → AreSignedUntil a p n held → AreSignedUntil a p (n + count) new
  signed_more compactors n count values held new zip within settled each until r g written at none h =
      let k = zip_at (IsCompactor a) p.registers compactors r g zip at in
      each r k.0 k.1 ∙ (ap (compacted a.gates values k.0 count) (until r g written at none h)
      ∙ later_holds r n count g k.0 h.bits values at k.2.mask (k.2.lines none) settled (λ t less c stands. h.lines (n + t) c (omega (arith, less, within)) stands))

zeros_zero : (k : ℕ) → from_bits (zeros k) ≡ 0
zeros_zero zero = refl
zeros_zero (suc k) = ap (λ n. 0 + 2 * n) (zeros_zero k)

-- before the first state
pub signed_none : (a : Netlist ℕ) (p : PlanValue) (held : List ℕ) → ((r : ℕ) → get_or held r 0 ≡ 0) → AreSignedUntil a p 0 held
signed_none a p held nothing r g written at none h = nothing r ∙ sym (zeros_zero (length g.cells))

-- and after the last
pub signed_all : (a : Netlist ℕ) (p : PlanValue) (states : ℕ) (held : List ℕ) → states ≡ 2 ^ p.degree → AreSignedUntil a p states held → AreSigned a p held
signed_all a p states held all until r written may h =
    let both : Some may.0 ≡ Some h.0 = sym may.1 ∙ h.1 in
    let same : may.0 ≡ h.0 = cc both in
    subst (λ n. AreSignedUntil a p n held) all until r h.0 written h.1 (ap has_input (sym same) ∙ may.2) h.2 ∙ sym h.2.is

-- 0 is below each power of 2
pub held_none : (compactors : List CompactorValue) (held : List ℕ) → length held ≡ length compactors → ((r : ℕ) → get_or held r 0 ≡ 0) → AreHeld compactors held
held_none compactors held long nothing = record { long = long; below = λ r k at. let some = pow_pos (length k.starts) in let is = nothing r in omega (arith, some, is) }

-- how many states there are
pub all_states : (p : PlanValue) (degree : ℕ) → IsFrame p → degree ≡ p.degree → 1 * 2 ^ degree % 2 ^ 32 ≡ 2 ^ p.degree
all_states p degree frame same = let most = frame.degree_most in size_is degree (omega (arith, most, same)) ∙ ap (λ n. 2 ^ n) same
