-- Entries of nets are their supports, where the gates at all places before are done.
use Rattle.std.proofs.Common.{arith, ◌≡◌, ◌⊎◌, ◌↔◌, inl, inr, ℕ, zero, suc, ◌<◌, ◌≤◌, ◌||◌, Bool, true, false, List, [], ◌∷◌, length, refl, sym, ap, subst, ◌∙◌, Contains, nat_eq}
use Rattle.std.specs.Prelude.{All}
use Rattle.std.specs.List.{list_any}
use Rattle.std.specs.List.Sorted.{IsStrictlyIncreasing}
use Rattle.std.proofs.lemmas.List.Elements.{All-contains}
use Rattle.bb_base.specs.Net.{Gate}
use Rattle.bb_base.specs.Levels.{AreGates}
use Rattle.bb_base.specs.Order.{IsOrder}
use Rattle.bb_terms.specs.Paths.{is_free, Start, AtNet, Behind, IsLeaf}
use Rattle.bb_terms.specs.Support.{AreLeaves}
use Rattle.bb_terms.specs.Cuts.{StandsAt, is_stop_with, IsTooWide}
use Rattle.bb_segment.specs.Cutting.{table_entry, IsUnion, IsWalked}
use Rattle.bb_base.proofs.Contained.{here, either, none_in}
use Rattle.bb_terms.proofs.FunctionLemmas.{driver_of}
use Rattle.bb_segment.proofs.LeafLemmas.{at_stop, behind_gate, at_open}
use Rattle.bb_segment.proofs.SupportLemmas.{one_support}
use Rattle.bb_segment.proofs.PlaceLemmas.{gate_of, place_for, one_gate, earlier}

or_left : (a b : Bool) → (a || b) ≡ false → a ≡ false
or_left true b e = e
or_left false b e = refl

single_up : (n : ℕ) → IsStrictlyIncreasing (n ∷ [])
single_up n k less = absurd (omega (arith, less))

-- a net that is no stop has a gate
pub open_gate : (gates : List (Gate ℕ)) (turns : List ℕ) (net : ℕ) → is_stop_with gates turns net ≡ false → (g : Gate ℕ) × Contains gates g × (g.out ≡ net)
open_gate gates turns net e = driver_of net gates (or_left (is_free gates net) (list_any (λ m. nat_eq net m) turns) e)

-- a stop is its own leaf
pub own_leaf : (gates : List (Gate ℕ)) (stop : ℕ → Bool) (net : ℕ) → stop net ≡ true → AreLeaves gates stop (AtNet net) (net ∷ [])
own_leaf gates stop net s = record { ascending = single_up net; each = λ n. (λ c. (at_stop gates stop net n s).1 (of_one n c), λ leaf. subst (Contains (net ∷ [])) ((at_stop gates stop net n s).0 leaf) (here net [])) }
  where
    of_one : (n : ℕ) → Contains (net ∷ []) n → net ≡ n
    of_one n c = by (either net [] n c)
      where
        by : (net ≡ n) ⊎ Contains [] n → net ≡ n
        by (inl e) = e
        by (inr none) = absurd (none_in n none)

-- the union of the supports of a gate's inputs is the gate's
pub behind_leaves :
    (gates : List (Gate ℕ)) (stop : ℕ → Bool) (table : List (List ℕ)) (g : Gate ℕ) (union : List ℕ) → IsUnion table g.ins union
    → ((m : ℕ) → Contains g.ins m → AreLeaves gates stop (AtNet m) (table_entry table m)) → AreLeaves gates stop (Behind g) union
behind_leaves gates stop table g union is inputs = record {
  ascending = is.ascending;
  each = λ n. (
    λ c. let u = (is.each n).0 c in (behind_gate gates stop g n).1 (u.0, u.1, ((inputs u.0 u.1).each n).0 u.2),
    λ leaf. let b = (behind_gate gates stop g n).0 leaf in (is.each n).1 (b.0, b.1, ((inputs b.0 b.1).each n).1 b.2),
  );
}

-- an input of a gate is a net
pub net_of : (gates : List (Gate ℕ)) (nets : ℕ) → AreGates nets gates → (g : Gate ℕ) (m : ℕ) → Contains gates g → Contains g.ins m → m < nets
net_of gates nets fit g m c i = All-contains (λ k. k < nets) g.ins m (All-contains (λ (f : Gate ℕ). All (λ k. k < nets) f.ins) gates g fit.reads c) i

-- and so is its output
pub out_of : (gates : List (Gate ℕ)) (nets : ℕ) → AreGates nets gates → (g : Gate ℕ) → Contains gates g → g.out < nets
out_of gates nets fit g c = All-contains (λ (f : Gate ℕ). f.out < nets) gates g fit.drives c

module _ (gates : List (Gate ℕ)) (order turns : List ℕ) (nets width : ℕ) (stop : ℕ → Bool) (table : List (List ℕ)) (fit : AreGates nets gates) (ordered : IsOrder gates order)
    (stops_are : (net : ℕ) → stop net ≡ is_stop_with gates turns net) (at_stops : (net : ℕ) → net < nets → stop net ≡ true → table_entry table net ≡ net ∷ []) where
  -- at a net that is no stop
  at_gate : (net : ℕ) (g : Gate ℕ) (union : List ℕ) → Contains gates g → g.out ≡ net → stop net ≡ false → AreLeaves gates stop (Behind g) union → AreLeaves gates stop (AtNet net) union
  at_gate net g union c out no_stop are = record { ascending = are.ascending; each = λ n. (λ h. (open_is n).1 ((are.each n).0 h), λ leaf. (are.each n).1 ((open_is n).0 leaf)) }
    where
      open_is : (n : ℕ) → IsLeaf gates stop (AtNet net) n ↔ IsLeaf gates stop (Behind g) n
      open_is n = at_open gates stop g net n no_stop c out (λ h d same. one_gate nets gates h g fit d c (same ∙ sym out))

  -- the entry of a net that is driven before the place
  pub entry_leaves : (p : ℕ) → ((q : ℕ) (g : Gate ℕ) → q < p → StandsAt gates order q g → IsWalked stop table width g)
      → (k : ℕ) → k ≤ p → (net : ℕ) → net < nets → ((q : ℕ) (g : Gate ℕ) → StandsAt gates order q g → g.out ≡ net → q < k) → AreLeaves gates stop (AtNet net) (table_entry table net)
  entry_leaves p done zero low net within driven = by (stop net) refl
    where
      by : (b : Bool) → stop net ≡ b → AreLeaves gates stop (AtNet net) (table_entry table net)
      by true s = subst (AreLeaves gates stop (AtNet net)) (sym (at_stops net within s)) (own_leaf gates stop net s)
      by false s =
          let g = open_gate gates turns net (sym (stops_are net) ∙ s) in
          let at = place_for gates order g.0 ordered g.1 in
          let less = driven at.0 g.0 at.1 g.2 in
          absurd (omega (arith, less))
  entry_leaves p done (suc k) low net within driven = by (stop net) refl (entry_leaves p done k (omega (arith, low)))
    where
      by : (b : Bool) → stop net ≡ b
          → ((m : ℕ) → m < nets → ((q : ℕ) (g : Gate ℕ) → StandsAt gates order q g → g.out ≡ m → q < k) → AreLeaves gates stop (AtNet m) (table_entry table m))
          → AreLeaves gates stop (AtNet net) (table_entry table net)
      by true s rest = subst (AreLeaves gates stop (AtNet net)) (sym (at_stops net within s)) (own_leaf gates stop net s)
      by false s rest =
          let g = open_gate gates turns net (sym (stops_are net) ∙ s) in
          let at = place_for gates order g.0 ordered g.1 in
          let less = driven at.0 g.0 at.1 g.2 in
          let d = done at.0 g.0 (omega (arith, less, low)) at.1 in
          let inputs : (m : ℕ) → Contains g.0.ins m → AreLeaves gates stop (AtNet m) (table_entry table m) =
          λ m i. rest m (net_of gates nets fit g.0 m g.1 i) (λ q f t out.
          let before = earlier gates order at.0 q g.0 f ordered at.1 t (subst (Contains g.0.ins) (sym out) i) in
          omega (arith, before, less)) in
          let here : stop g.0.out ≡ false = subst (λ n. stop n ≡ false) (sym g.2) s in
          let entry : table_entry table net ≡ d.union = ap (table_entry table) (sym g.2) ∙ d.entry here in
          subst (AreLeaves gates stop (AtNet net)) (sym entry) (at_gate net g.0 d.union g.1 g.2 s (behind_leaves gates stop table g.0 d.union d.is inputs))

  -- the entries of the inputs of the gate at the place
  pub inputs_leaves : (p : ℕ) → ((q : ℕ) (g : Gate ℕ) → q < p → StandsAt gates order q g → IsWalked stop table width g)
      → (g : Gate ℕ) → StandsAt gates order p g → (m : ℕ) → Contains g.ins m → AreLeaves gates stop (AtNet m) (table_entry table m)
  inputs_leaves p done g s m i =
      entry_leaves p done p (omega arith) m (net_of gates nets fit g m (gate_of gates order p g s) i) (λ q f t out. earlier gates order p q g f ordered s t (subst (Contains g.ins) (sym out) i))

  stop_same : stop ≡ is_stop_with gates turns
  stop_same = λ i net. stops_are net i

  -- leaves by the table's stops are leaves by those of the cuts
  pub by_cuts : (start : Start ℕ) (leaves : List ℕ) → AreLeaves gates stop start leaves → AreLeaves gates (is_stop_with gates turns) start leaves
  by_cuts start leaves are = subst (λ s. AreLeaves gates s start leaves) stop_same are

  -- a gate that is done isn't too wide
  pub not_wide : (p : ℕ) → ((q : ℕ) (g : Gate ℕ) → q < p → StandsAt gates order q g → IsWalked stop table width g) → (g : Gate ℕ) → StandsAt gates order p g → IsWalked stop table width g → IsTooWide gates turns width g → ⊥
  not_wide p done g s d wide =
      let are = by_cuts (Behind g) d.union (behind_leaves gates stop table g d.union d.is (inputs_leaves p done g s)) in
      let same = one_support gates (is_stop_with gates turns) (Behind g) wide.support.leaves d.union wide.support.are are in
      let long : length wide.support.leaves ≡ length d.union = ap length same in
      let count = wide.support.count_is in
      let over = wide.wide in
      let narrow = d.narrow in
      omega (arith, long, count, over, narrow)
