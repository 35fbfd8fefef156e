-- A change of gates outside a segment leaves its function.
use Rattle.std.proofs.Common.{◌≡◌, ◌⊎◌, ◌↔◌, inl, inr, ℕ, Bool, List, map, refl, sym, ap, ◌∙◌, None, Contains}
use Rattle.bb_base.specs.Net.{Gate}
use Rattle.bb_base.specs.Run.{by_op}
use Rattle.bb_terms.specs.Paths.{Start, AtNet, Behind, LiesBehind, LiesIn}
use Rattle.bb_terms.specs.Function.{line_bit, IsBitOf}
use Rattle.bb_terms.specs.Change.{Change, by_table, gives_by, IsChangeOf}

module _ (gates others : List (Gate ℕ)) (stop : ℕ → Bool) (f : Change ℕ) (bits : ℕ → Bool) (bit : Bool) (is : IsChangeOf others f) where
  -- a gate whose output no changed gate drives gives what it did
  unchanged : (g : Gate ℕ) → ((h : Gate ℕ) → Contains others h → h.out ≡ g.out → ⊥) → (bs : List Bool) → gives_by f g bs ≡ by_op g bs
  unchanged g none bs = by (is g.out)
    where
      by : (f g.out ≡ None) ⊎ ((h : Gate ℕ) × Contains others h × (h.out ≡ g.out)) → gives_by f g bs ≡ by_op g bs
      by (inl e) = ap (λ o. by_table o bs (by_op g bs)) e
      by (inr h) = absurd (none h.0 h.1 h.2)

  lies : (start : Start ℕ) (g : Gate ℕ) → LiesBehind gates stop start g → LiesIn gates stop start g
  lies (AtNet net) g h = h
  lies (Behind own) g h = inr h

  line_same : (start : Start ℕ) (w : ℕ → Bool) → ((g h : Gate ℕ) → LiesIn gates stop start g → Contains others h → h.out ≡ g.out → ⊥) → line_bit (gives_by f) start w ≡ line_bit by_op start w
  line_same (AtNet net) w apart = refl
  line_same (Behind g) w apart = unchanged g (λ h. apart g h (inl refl)) (map w g.ins)

  pub elsewhere : (start : Start ℕ) → ((g h : Gate ℕ) → LiesIn gates stop start g → Contains others h → h.out ≡ g.out → ⊥) → IsBitOf by_op gates stop start bits bit ↔ IsBitOf (gives_by f) gates stop start bits bit
  elsewhere start apart = (
    λ b. record {
      w = b.w;
      assigns = record { leaves = b.assigns.leaves; passed = λ g c l. b.assigns.passed g c l ∙ sym (unchanged g (λ h. apart g h (lies start g l)) (map b.w g.ins)) };
      is = line_same start b.w apart ∙ b.is;
    },
    λ b. record {
      w = b.w;
      assigns = record { leaves = b.assigns.leaves; passed = λ g c l. b.assigns.passed g c l ∙ unchanged g (λ h. apart g h (lies start g l)) (map b.w g.ins) };
      is = sym (line_same start b.w apart) ∙ b.is;
    },
  )
