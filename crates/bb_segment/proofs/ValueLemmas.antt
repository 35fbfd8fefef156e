-- A line's function gives some bit: values by the number of gates that ways back pass.
use Rattle.std.proofs.Common.{arith, ◌≡◌, ◌⊎◌, inl, inr, ℕ, zero, suc, ◌+◌, ◌<◌, ◌≤◌, ◌==◌, ◌&&◌, Bool, true, false, List, [], ◌∷◌, length, map, cond, refl, sym, ap, subst, ◌∙◌, rules, Contains}
use Rattle.std.proofs.lemmas.Bool.Decides.{nat_tests}
use Rattle.std.specs.List.{list_all}
use Rattle.std.proofs.lemmas.Option.{slice_get_within}
use Rattle.bb_base.proofs.Contained.{here, there, either, none_in, map_on, place_of}
use Rattle.bb_base.specs.Net.{Gate}
use Rattle.bb_base.specs.Run.{MeetsBy}
use Rattle.bb_base.specs.Order.{drivers, is_empty, is_within, IsOrder}
use Rattle.bb_terms.specs.Paths.{Start}
use Rattle.bb_terms.specs.Function.{line_bit, IsBitOf}
use Rattle.bb_terms.proofs.FunctionLemmas.{passes}

all_have : {X : Type 0} (test : X → Bool) (xs : List X) → ((x : X) → Contains xs x → test x ≡ true) → list_all test xs ≡ true
all_have test [] h = refl
all_have test (x ∷ xs) h = by (test x) (h x (here x xs)) (all_have test xs (λ y c. h y (there x xs y c)))
  where
    by : (b : Bool) → b ≡ true → list_all test xs ≡ true → (b && list_all test xs) ≡ true
    by true e rest = rest
    by false e rest = absurd (cc e)

-- each driver of a net is a gate
driver_in : (net : ℕ) (gates : List (Gate ℕ)) (g : Gate ℕ) → Contains (drivers gates net) g → Contains gates g
driver_in net [] g h = absurd (none_in g h)
driver_in net (f ∷ gates) g h = by (f.out == net) h (driver_in net gates g)
  where
    first : (Contains (drivers gates net) g → Contains gates g) → (f ≡ g) ⊎ Contains (drivers gates net) g → Contains (f ∷ gates) g
    first rest (inl e) = subst (Contains (f ∷ gates)) e (here f gates)
    first rest (inr c) = there f gates g (rest c)

    by : (b : Bool) → Contains (cond b (f ∷ drivers gates net) (drivers gates net)) g → (Contains (drivers gates net) g → Contains gates g) → Contains (f ∷ gates) g
    by true c rest = first rest (either f (drivers gates net) g c)
    by false c rest = there f gates g (rest c)

driver_out : (net : ℕ) (gates : List (Gate ℕ)) (g : Gate ℕ) → Contains (drivers gates net) g → g.out ≡ net
driver_out net [] g h = absurd (none_in g h)
driver_out net (f ∷ gates) g h = by (f.out == net) refl h (driver_out net gates g)
  where
    first : (Contains (drivers gates net) g → g.out ≡ net) → (f.out == net) ≡ true → (f ≡ g) ⊎ Contains (drivers gates net) g → g.out ≡ net
    first rest s (inl e) = let driven : f.out ≡ net = search (rules, s) in sym (ap (λ (k : Gate ℕ). k.out) e) ∙ driven
    first rest s (inr c) = rest c

    by : (b : Bool) → (f.out == net) ≡ b → Contains (cond b (f ∷ drivers gates net) (drivers gates net)) g → (Contains (drivers gates net) g → g.out ≡ net) → g.out ≡ net
    by true s c rest = first rest s (either f (drivers gates net) g c)
    by false s c rest = rest c

-- each gate is a driver of its output
drives : (g : Gate ℕ) (gates : List (Gate ℕ)) → Contains gates g → Contains (drivers gates g.out) g
drives g [] c = absurd (none_in g c)
drives g (f ∷ gates) c = by (f.out == g.out) refl (either f gates g c) (drives g gates)
  where
    by : (b : Bool) → (f.out == g.out) ≡ b → (f ≡ g) ⊎ Contains gates g → (Contains gates g → Contains (drivers gates g.out) g) → Contains (cond b (f ∷ drivers gates g.out) (drivers gates g.out)) g
    by true s (inl e) rest = subst (Contains (f ∷ drivers gates g.out)) e (here f (drivers gates g.out))
    by true s (inr d) rest = there f (drivers gates g.out) g (rest d)
    by false s (inl e) rest = let same = ap (λ (k : Gate ℕ). k.out) e in absurd (grind (arith, nat_tests, s, same))
    by false s (inr d) rest = rest d

nothing : (xs : List (Gate ℕ)) → is_empty xs ≡ true → xs ≡ []
nothing [] e = refl
nothing (x ∷ xs) e = absurd (cc e)

module _ (gives : Gate ℕ → List Bool → Bool) (gates : List (Gate ℕ)) (stop : ℕ → Bool) (bits : ℕ → Bool) where
  -- what the first of some gates gives, or else this bit
  first_gives : List (Gate ℕ) → (ℕ → Bool) → Bool → Bool
  first_gives [] v other = other
  first_gives (g ∷ gs) v other = gives g (map v g.ins)

  -- the value of a net, over gates that ways back of so many pass
  value : ℕ → ℕ → Bool
  value zero net = bits net
  value (suc k) net = cond (stop net) (bits net) (first_gives (drivers gates net) (value k) (bits net))

  first_same : (gs : List (Gate ℕ)) (v w : ℕ → Bool) (other : Bool) → ((g : Gate ℕ) (m : ℕ) → Contains gs g → Contains g.ins m → v m ≡ w m) → first_gives gs v other ≡ first_gives gs w other
  unfolding first_gives
  first_same [] v w other h = refl
  first_same (g ∷ gs) v w other h = ap (gives g) (map_on v w g.ins (λ m i. h g m (here g gs) i))

  at_stop : (k net : ℕ) → stop net ≡ true → value k net ≡ bits net
  unfolding value
  at_stop zero net s = refl
  at_stop (suc k) net s = ap (λ b. cond b (bits net) (first_gives (drivers gates net) (value k) (bits net))) s

  free_value : (j net : ℕ) → drivers gates net ≡ [] → value j net ≡ bits net
  unfolding value first_gives
  free_value zero net none = refl
  free_value (suc j) net none = ap (λ gs. cond (stop net) (bits net) (first_gives gs (value j) (bits net))) none ∙ same (stop net)
    where
      same : (b : Bool) → cond b (bits net) (bits net) ≡ bits net
      same true = refl
      same false = refl

  step_same : (j k net : ℕ) → ((g : Gate ℕ) (m : ℕ) → Contains (drivers gates net) g → Contains g.ins m → value j m ≡ value k m) → value (suc j) net ≡ value (suc k) net
  unfolding value
  step_same j k net h = ap (cond (stop net) (bits net)) (first_same (drivers gates net) (value j) (value k) (bits net) h)

  -- from there on the value stays
  settled : (k j net : ℕ) → is_within gates k net ≡ true → k ≤ j → value j net ≡ value k net
  settled zero j net within low = free_value j net (nothing (drivers gates net) within) ∙ sym (free_value zero net (nothing (drivers gates net) within))
  settled (suc k) zero net within low = absurd (omega (arith, low))
  settled (suc k) (suc j) net within low = step_same j k net (λ g m c i. settled k j m (passes (is_within gates k) g.ins m (passes (λ f. list_all (is_within gates k) f.ins) (drivers gates net) g within c) i) (omega (arith, low)))

  -- more gates may be passed
  within_more : (k net : ℕ) → is_within gates k net ≡ true → is_within gates (suc k) net ≡ true
  within_more zero net within = ap (λ gs. list_all (λ g. list_all (is_within gates zero) g.ins) gs) (nothing (drivers gates net) within)
  within_more (suc k) net within =
      all_have (λ g. list_all (is_within gates (suc k)) g.ins) (drivers gates net)
      (λ g c. all_have (is_within gates (suc k)) g.ins (λ m i. within_more k m (passes (is_within gates k) g.ins m (passes (λ f. list_all (is_within gates k) f.ins) (drivers gates net) g within c) i)))

  within_by : (k d net : ℕ) → is_within gates k net ≡ true → is_within gates (k + d) net ≡ true
  within_by k zero net within = let e : k ≡ k + 0 = omega arith in subst (λ j. is_within gates j net ≡ true) e within
  within_by k (suc d) net within = let e : suc (k + d) ≡ k + suc d = omega arith in subst (λ j. is_within gates j net ≡ true) e (within_more (k + d) net (within_by k d net within))

  module _ (order : List ℕ) (ordered : IsOrder gates order) where
    -- no level is higher
    top : ℕ → ℕ
    top zero = 0
    top (suc n) = top n + suc (ordered.level n)

    below_top : (n h : ℕ) → h < n → (d : ℕ) × (ordered.level h + suc d ≡ top n)
    unfolding top
    below_top zero h less = absurd (omega (arith, less))
    below_top (suc n) h less = by (h == n) refl (below_top n h)
      where
        by : (b : Bool) → (h == n) ≡ b → (h < n → (d : ℕ) × (ordered.level h + suc d ≡ top n)) → (d : ℕ) × (ordered.level h + suc d ≡ top n + suc (ordered.level n))
        by true e rest = let same : h ≡ n = search (rules, e) in (top n, subst (λ k. ordered.level k + suc (top n) ≡ top n + suc (ordered.level n)) (sym same) (omega arith))
        by false e rest =
            let r = rest (grind (arith, nat_tests, less, e)) in
            let is = r.1 in
            (r.0 + suc (ordered.level n), omega (arith, is))

    w : ℕ → Bool
    w net = value (suc (top (length gates))) net

    -- each input of a gate has its value before the last round
    inputs_settled : (g : Gate ℕ) (m : ℕ) → Contains gates g → Contains g.ins m → value (top (length gates)) m ≡ value (suc (top (length gates))) m
    inputs_settled g m c i =
        let at = place_of gates g c in
        let inside = slice_get_within gates at.0 g at.1 in
        let d = below_top (length gates) at.0 inside in
        let within : is_within gates (ordered.level at.0) m ≡ true = passes (is_within gates (ordered.level at.0)) g.ins m (ordered.levels at.0 g at.1).within i in
        let low = d.1 in
        settled (ordered.level at.0) (top (length gates)) m within (omega (arith, low)) ∙ sym (settled (ordered.level at.0) (suc (top (length gates))) m within (omega (arith, low)))

    first_is : (gs : List (Gate ℕ)) (g : Gate ℕ) (v : ℕ → Bool) (other : Bool) → Contains gs g → ((f : Gate ℕ) → Contains gs f → f ≡ g) → first_gives gs v other ≡ gives g (map v g.ins)
    unfolding first_gives
    first_is [] g v other c only = absurd (none_in g c)
    first_is (f ∷ gs) g v other c only = ap (λ (h : Gate ℕ). gives h (map v h.ins)) (only f (here f gs))

    meets : ((f g : Gate ℕ) → Contains gates f → Contains gates g → f.out ≡ g.out → f ≡ g) → (g : Gate ℕ) → Contains gates g → stop g.out ≡ false → MeetsBy gives w g
    unfolding value w
    meets one g c no_stop =
        ap (λ b. cond b (bits g.out) (first_gives (drivers gates g.out) (value (top (length gates))) (bits g.out))) no_stop
        ∙ first_is (drivers gates g.out) g (value (top (length gates))) (bits g.out) (drives g gates c) (λ f d. one f g (driver_in g.out gates f d) c (driver_out g.out gates f d))
        ∙ ap (gives g) (map_on (value (top (length gates))) w g.ins (λ m i. inputs_settled g m c i))

    pub some_bit : (start : Start ℕ) → ((f g : Gate ℕ) → Contains gates f → Contains gates g → f.out ≡ g.out → f ≡ g) → (bit : Bool) × IsBitOf gives gates stop start bits bit
    unfolding w
    some_bit start one = (
      line_bit gives start w,
      record {
        w = w;
        assigns = record { leaves = λ net leaf. at_stop (suc (top (length gates))) net leaf.1; passed = λ g c lies. meets one g c lies.1 };
        is = refl;
      },
    )
