-- Values of steps: the bits of a constant, copies, nets, and the net of a plain reference.
use Rattle.std.proofs.Common.{arith, ◌≡◌, ◌<◌, ◌≤◌, ◌+◌, ◌-◌, ◌/◌, ◌%◌, ◌^◌, ◌==◌, ◌++◌, ℕ, suc, false, List, [], ◌∷◌, refl, sym, ap, ◌∙◌}
use Rattle.std.proofs.Math.Nat.{div-eq_of_lt}
use Rattle.std.proofs.Math.Pow.{pow_mono}
use Rattle.bb_base.specs.Variables.{Entry}
use Rattle.bb_parse.specs.declared.syntax.Ref.{Ref}
use Rattle.bb_parse.specs.declared.syntax.Step.{Step}
use Rattle.bb_parse.specs.declared.syntax.Step.TheVariants as step
use Rattle.bb_scope.specs.declared.value.Bit.{Bit}
use Rattle.bb_scope.specs.declared.value.Bit.TheVariants.{Fixed}
use Rattle.bb_fault.specs.Work.{Makes, Work}
use Rattle.bb_scope.specs.Making.{as_value, const_bits, copies, grounded, terminal_made, copied_onto}
use Rattle.bb_scope.specs.References.{ref_bits}

-- a bit past a word is 0
pub far : (n p : ℕ) → n < 2 ^ 128 → 128 ≤ p → false ≡ n / 2 ^ p % 2 == 1
far n p few h = ap (λ m. m % 2 == 1) (sym none)
  where
    least : 2 ^ 128 ≤ 2 ^ p
    least = pow_mono h

    below : n < 2 ^ p
    below = omega (arith, few, least)

    none : n / 2 ^ p ≡ 0
    none = div-eq_of_lt below

-- the bits of a constant from a place on
pub bits_next : (n k v : ℕ) → k < n → const_bits (n - k) v ≡ Fixed ((v / 2 ^ (n - 1 - k)) % 2 == 1) ∷ const_bits (n - (k + 1)) v
bits_next n k v h = ap (λ m. const_bits m v) one_less ∙ ap (λ m. Fixed ((v / 2 ^ m) % 2 == 1) ∷ const_bits (n - (k + 1)) v) same
  where
    one_less : n - k ≡ suc (n - (k + 1))
    one_less = omega (arith, h)

    same : n - (k + 1) ≡ n - 1 - k
    same = omega (arith, h)

-- one copy, and then the others
pub copies_next : (n k : ℕ) (bits : List Bit) → k < n → copies (n - k) bits ≡ bits ++ copies (n - (k + 1)) bits
copies_next n k bits h = ap (λ m. copies m bits) one_less
  where
    one_less : n - k ≡ suc (n - (k + 1))
    one_less = omega (arith, h)

-- nets need no gates
grounded_nets : (nets : List ℕ) (w : Work) → grounded (as_value nets) w ≡ (nets, w)
grounded_nets [] w = refl
grounded_nets (n ∷ nets) w = ap (λ z. (n ∷ z.0, z.1)) (grounded_nets nets w)

-- a plain reference at a terminal makes nothing
pub plain_makes :
    (table : List Entry) (steps : List Step) (r : Ref) (w : Work) (nets : List ℕ) → steps ≡ step.Ref r ∷ [] → nets ≡ ref_bits table r → Makes (terminal_made table steps) w nets w
plain_makes table steps r w nets plain h =
    let made : terminal_made table steps w ≡ (ref_bits table r, w) = ap (λ ss. terminal_made table ss w) plain ∙ grounded_nets (ref_bits table r) w in
    record { value = h ∙ ap (λ z. z.0) (sym made); work = ap (λ z. z.1) (sym made) }

-- targets without a bit get no gate
pub none_copied : (targets : List ℕ) (w : Work) → copied_onto targets [] w ≡ ([], w)
none_copied [] w = refl
none_copied (t ∷ targets) w = refl
