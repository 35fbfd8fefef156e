-- Every line is narrow where every gate has few leaves behind it, and nets that gates drive are nets.
use Rattle.std.proofs.Common.{arith, ◌≡◌, ◌⊎◌, inl, inr, ℕ, ◌<◌, ◌≤◌, ◌^◌, Bool, true, false, not, ◌||◌, List, [], ◌∷◌, ◌++◌, length, map, refl, sym, ap, ◌∙◌, subst, Contains, nat_eq}
use Rattle.std.specs.Prelude.{filter}
use Rattle.std.specs.List.{AllByRecursion, list_any, flat_map}
use Rattle.std.specs.List.Sorted.{IsStrictlyIncreasing}
use Rattle.std.proofs.lemmas.List.Elements.{All-contains}
use Rattle.bb_base.proofs.Lists.{in_front, in_back}
use Rattle.bb_base.proofs.Contained.{here, either, none_in, contains_map, place_of, to_all}
use Rattle.bb_base.specs.Net.{Gate, Flop, Netlist, driven, IsNetlist}
use Rattle.bb_terms.specs.Paths.{is_free, AtNet, Behind}
use Rattle.bb_terms.specs.Support.{AreLeaves, stop_at}
use Rattle.bb_terms.specs.Cuts.{is_stop_with}
use Rattle.bb_terms.proofs.FunctionLemmas.{driver_of}
use Rattle.bb_segment.proofs.LeafLemmas.{at_stop, at_open}
use Rattle.bb_terms.proofs.ReadLemmas.{gate_one}
use Rattle.bb_segment.proofs.SetLemmas.{of_filter}
use Rattle.bb_segment.proofs.SupportLemmas.{one_support}
use Rattle.bb_reg.specs.LineTables.{AreNarrow, AreStopsOf}

free_of : (a b : Bool) → (a || b) ≡ false → a ≡ false
free_of true b e = e
free_of false b e = refl

-- a net that a gate drives is one of the netlist's
pub driven_within : (n : Netlist ℕ) (net : ℕ) → IsNetlist n → is_free n.gates net ≡ false → net < length (driven n)
driven_within n net is e =
    let d = driver_of net n.gates e in
    let all = in_front (λ m. m < length (driven n)) (map (λ (g : Gate ℕ). g.out) n.gates) (map (λ (f : Flop ℕ). f.q) n.flops)
    (in_back (λ m. m < length (driven n)) n.inputs (map (λ (g : Gate ℕ). g.out) n.gates ++ map (λ (f : Flop ℕ). f.q) n.flops) is.drives_nets) in
    subst (λ m. m < length (driven n)) d.2 (All-contains (λ m. m < length (driven n)) (map (λ (g : Gate ℕ). g.out) n.gates) d.0.out all (contains_map (λ (g : Gate ℕ). g.out) n.gates d.0 d.1))

pub all_within : (n : Netlist ℕ) (nets : List ℕ) → IsNetlist n → AllByRecursion (λ net. is_free n.gates net ≡ false) nets → AllByRecursion (λ net. net < length (driven n)) nets
all_within n [] is h = tt
all_within n (net ∷ nets) is h = (driven_within n net is h.0, all_within n nets is h.1)

pub output_within : (n : Netlist ℕ) (net : ℕ) → IsNetlist n → Contains n.outputs net → net < length (driven n)
output_within n net is c = All-contains (λ m. m < length (driven n)) n.outputs net (in_front (λ m. m < length (driven n)) n.outputs (flat_map (λ (g : Gate ℕ). g.ins) n.gates ++ map (λ (f : Flop ℕ). f.d) n.flops) is.reads_nets) c

-- a gate drives an output that is no stop
pub outputs_driven : (n : Netlist ℕ) (cuts : List ℕ) (stops : List Bool) (outputs : List ℕ) → AreStopsOf n cuts stops → outputs ≡ filter (λ net. not (stop_at stops net)) n.outputs → AllByRecursion (λ net. is_free n.gates net ≡ false) outputs
outputs_driven n cuts stops outputs stop_is are = to_all (λ net. is_free n.gates net ≡ false) outputs
    (λ net c. let k = of_filter (λ m. not (stop_at stops m)) n.outputs net (subst (λ ks. Contains ks net) are c) in free_of (is_free n.gates net) (list_any (nat_eq net) cuts) (sym (stop_is net) ∙ off (stop_at stops net) k.1))
  where
    off : (b : Bool) → not b ≡ true → b ≡ false
    off true e = sym e
    off false e = refl

single_up : (n : ℕ) → IsStrictlyIncreasing (n ∷ [])
single_up n k less = absurd (omega (arith, less))

own_leaf : (gates : List (Gate ℕ)) (stop : ℕ → Bool) (net : ℕ) → stop net ≡ true → AreLeaves gates stop (AtNet net) (net ∷ [])
own_leaf gates stop net s = record { ascending = single_up net; each = λ n. (λ c. (at_stop gates stop net n s).1 (of_one n c), λ leaf. subst (Contains (net ∷ [])) ((at_stop gates stop net n s).0 leaf) (here net [])) }
  where
    of_one : (n : ℕ) → Contains (net ∷ []) n → net ≡ n
    of_one n c = by (either net [] n c)
      where
        by : (net ≡ n) ⊎ Contains [] n → net ≡ n
        by (inl e) = e
        by (inr none) = absurd (none_in n none)

pub narrow_all :
    (n : Netlist ℕ) (cuts : List ℕ) (stops : List Bool) → IsNetlist n → length (driven n) < 2 ^ 32 → AreStopsOf n cuts stops
    → ((g : Gate ℕ) (leaves : List ℕ) → Contains n.gates g → AreLeaves n.gates (is_stop_with n.gates cuts) (Behind g) leaves → length leaves ≤ 16) → AreNarrow n.gates (stop_at stops)
narrow_all n cuts stops is few stop_is narrow = each
  where
    behind : (g : Gate ℕ) (leaves : List ℕ) → Contains n.gates g → AreLeaves n.gates (stop_at stops) (Behind g) leaves → length leaves ≤ 16
    behind g leaves c are = narrow g leaves c (subst (λ (s : ℕ → Bool). AreLeaves n.gates s (Behind g) leaves) (λ k net. stop_is net k) are)

    at : (m : ℕ) (leaves : List ℕ) → (b : Bool) → stop_at stops m ≡ b → AreLeaves n.gates (stop_at stops) (AtNet m) leaves → length leaves ≤ 16
    at m leaves true e are = let same = one_support n.gates (stop_at stops) (AtNet m) leaves (m ∷ []) are (own_leaf n.gates (stop_at stops) m e) in omega (arith, ap length same)
    at m leaves false e are =
        let d = driver_of m n.gates (free_of (is_free n.gates m) (list_any (nat_eq m) cuts) (sym (stop_is m) ∙ e)) in
        let p = place_of n.gates d.0 d.1 in
        behind d.0 leaves d.1 (record {
          ascending = are.ascending;
          each = λ net.
              let open_is = at_open n.gates (stop_at stops) d.0 m net e d.1 d.2 (λ h c out. gate_one n p.0 h d.0 is few p.1 c (out ∙ sym d.2)) in
              (λ c. open_is.0 ((are.each net).0 c), λ leaf. (are.each net).1 (open_is.1 leaf));
        })

    each : AreNarrow n.gates (stop_at stops)
    each (AtNet m) leaves stands are = at m leaves (stop_at stops m) refl are
    each (Behind g) leaves stands are = behind g leaves stands are
