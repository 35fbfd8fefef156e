-- A valuation gives each line its function's bit, and a line has no other.
use Rattle.std.proofs.Common.{◌≡◌, ◌⊎◌, inl, inr, ℕ, zero, suc, ◌==◌, ◌&&◌, List, [], ◌∷◌, map, Bool, true, false, cond, refl, sym, ap, subst, ◌∙◌, arith, Contains}
use Rattle.std.proofs.lemmas.Bool.Decides.{nat_tests}
use Rattle.std.specs.List.{AllByRecursion, list_all}
use Rattle.bb_base.specs.Net.{Gate}
use Rattle.bb_base.specs.Run.{MeetsBy}
use Rattle.bb_base.specs.Order.{drivers, is_empty, is_within, IsOrder}
use Rattle.bb_terms.specs.Paths.{is_free, Start, AtNet, Behind, starts, IsReached, LiesBehind}
use Rattle.bb_terms.specs.Function.{Assigns, line_bit, IsBitOf, end_of, StandsIn}
use Rattle.bb_base.proofs.Contained.{here, there, either, none_in, of_all, map_on, place_of}
use Rattle.bb_terms.proofs.PathLemmas.{reached_more, reached_here}

-- what a valuation gives the observed net is the bit of the function of what it gives the leaves
module _ {N : Type 0} (gives : Gate N → List Bool → Bool) (gates : List (Gate N)) (stop : N → Bool) (v : N → Bool) (meets : AllByRecursion (MeetsBy gives v) gates) where
  line_is : (start : Start N) → StandsIn gates start → line_bit gives start v ≡ v (end_of start)
  line_is (AtNet net) stands = refl
  line_is (Behind gate) stands = sym (of_all (MeetsBy gives v) gates gate meets stands)

  pub computes : (start : Start N) → StandsIn gates start → IsBitOf gives gates stop start v (v (end_of start))
  computes start stands = record {
    w = v;
    assigns = record { leaves = λ net leaf. refl; passed = λ g c lies. of_all (MeetsBy gives v) gates g meets c };
    is = line_is start stands;
  }

-- a net that is not free has a gate
pub driver_of : (net : ℕ) (gates : List (Gate ℕ)) → is_free gates net ≡ false → (g : Gate ℕ) × Contains gates g × (g.out ≡ net)
driver_of net [] e = absurd (cc e)
driver_of net (f ∷ gates) e = by (f.out == net) refl e (λ e. driver_of net gates e)
  where
    by : (b : Bool) → (f.out == net) ≡ b → is_empty (cond b (f ∷ drivers gates net) (drivers gates net)) ≡ false → (is_free gates net ≡ false → (g : Gate ℕ) × Contains gates g × (g.out ≡ net)) → (g : Gate ℕ) × Contains (f ∷ gates) g × (g.out ≡ net)
    by true same e rest = (f, here f gates, grind (arith, nat_tests, same))
    by false other e rest = let more = rest e in (more.0, there f gates more.0 more.1, more.2)

and_left : (a b : Bool) → (a && b) ≡ true → a ≡ true
and_left true b h = refl
and_left false b h = h

and_right : (a b : Bool) → (a && b) ≡ true → b ≡ true
and_right true b h = h
and_right false b h = absurd (cc h)

-- a test that all pass is passed by each
pub passes : {X : Type 0} (test : X → Bool) (xs : List X) (x : X) → list_all test xs ≡ true → Contains xs x → test x ≡ true
passes test [] x all h = absurd (none_in x h)
passes test (y ∷ xs) x all h = by (either y xs x h) (λ more. passes test xs x (and_right (test y) (list_all test xs) all) more)
  where
    by : (y ≡ x) ⊎ Contains xs x → (Contains xs x → test x ≡ true) → test x ≡ true
    by (inl e) rest = subst (λ z. test z ≡ true) e (and_left (test y) (list_all test xs) all)
    by (inr more) rest = rest more

-- what all drivers of a net pass is passed by each gate that drives it
pub passes_driver : (test : Gate ℕ → Bool) (net : ℕ) (gates : List (Gate ℕ)) (g : Gate ℕ) → list_all test (drivers gates net) ≡ true → Contains gates g → g.out ≡ net → test g ≡ true
passes_driver test net [] g all h out = absurd (none_in g h)
passes_driver test net (f ∷ gates) g all h out = by (f.out == net) refl all (either f gates g h) (λ all more. passes_driver test net gates g all more out)
  where
    by : (b : Bool) → (f.out == net) ≡ b → list_all test (cond b (f ∷ drivers gates net) (drivers gates net)) ≡ true → (f ≡ g) ⊎ Contains gates g
        → (list_all test (drivers gates net) ≡ true → Contains gates g → test g ≡ true) → test g ≡ true
    by true same all (inl e) rest = subst (λ k. test k ≡ true) e (and_left (test f) (list_all test (drivers gates net)) all)
    by true same all (inr more) rest = rest (and_right (test f) (list_all test (drivers gates net)) all) more
    by false other all (inl e) rest = let driven : f.out ≡ net = ap (λ (k : Gate ℕ). k.out) e ∙ out in absurd (grind (arith, nat_tests, other, driven))
    by false other all (inr more) rest = rest all more

module _ (gives : Gate ℕ → List Bool → Bool) (gates : List (Gate ℕ)) (stop : ℕ → Bool) (start : Start ℕ) (bits v w : ℕ → Bool)
    (free_stops : (net : ℕ) → is_free gates net ≡ true → stop net ≡ true) (hv : Assigns gives gates stop start bits v) (hw : Assigns gives gates stop start bits w) where
  -- two assignments agree at a net that is no stop where they agree at its gate's inputs
  by_gate : (net : ℕ) (g : Gate ℕ) → Contains gates g → g.out ≡ net → stop net ≡ false → IsReached gates stop (starts start) net → ((m : ℕ) → Contains g.ins m → IsReached gates stop (starts start) m → v m ≡ w m) → v net ≡ w net
  by_gate net g c out no_stop reached same =
      let lies : LiesBehind gates stop start g = (subst (IsReached gates stop (starts start)) (sym out) reached, subst (λ m. stop m ≡ false) (sym out) no_stop) in
      let ins : map v g.ins ≡ map w g.ins = map_on v w g.ins (λ m i. same m i (reached_more gates stop (starts start) net m reached no_stop (record { gate = g; stands = c; drives = out; reads = i }))) in
      sym (ap v out) ∙ hv.passed g c lies ∙ ap (gives g) ins ∙ sym (hw.passed g c lies) ∙ ap w out

  open_net : (net : ℕ) → stop net ≡ false → (g : Gate ℕ) × Contains gates g × (g.out ≡ net)
  open_net net no_stop = by (is_free gates net) refl
    where
      by : (b : Bool) → is_free gates net ≡ b → (g : Gate ℕ) × Contains gates g × (g.out ≡ net)
      by true e = let s = free_stops net e in absurd (cc (s, no_stop))
      by false e = driver_of net gates e

  -- at a net that is within k
  same_within : (k net : ℕ) → is_within gates k net ≡ true → IsReached gates stop (starts start) net → v net ≡ w net
  same_within zero net within reached = let s = free_stops net within in hv.leaves net (reached, s) ∙ sym (hw.leaves net (reached, s))
  same_within (suc k) net within reached = by (stop net) refl (λ m i r. same_within k m i r)
    where
      by : (b : Bool) → stop net ≡ b → ((m : ℕ) → is_within gates k m ≡ true → IsReached gates stop (starts start) m → v m ≡ w m) → v net ≡ w net
      by true stops rest = hv.leaves net (reached, stops) ∙ sym (hw.leaves net (reached, stops))
      by false no_stop rest =
          let d = open_net net no_stop in
          let ins = passes_driver (λ g. list_all (is_within gates k) g.ins) net gates d.0 within d.1 d.2 in
          by_gate net d.0 d.1 d.2 no_stop reached (λ m i r. rest m (passes (is_within gates k) d.0.ins m ins i) r)

  -- at the inputs of a gate that has a level
  same_inputs : (order : List ℕ) → IsOrder gates order → (g : Gate ℕ) → Contains gates g → (m : ℕ) → Contains g.ins m → IsReached gates stop (starts start) m → v m ≡ w m
  same_inputs order ordered g c m i r =
      let at = place_of gates g c in
      let level = ordered.levels at.0 g at.1 in
      same_within (ordered.level at.0) m (passes (is_within gates (ordered.level at.0)) g.ins m level.within i) r

  -- at each net that is reached
  same_reached : (order : List ℕ) → IsOrder gates order → (net : ℕ) → IsReached gates stop (starts start) net → v net ≡ w net
  same_reached order ordered net reached = by (stop net) refl
    where
      by : (b : Bool) → stop net ≡ b → v net ≡ w net
      by true stops = hv.leaves net (reached, stops) ∙ sym (hw.leaves net (reached, stops))
      by false no_stop = let d = open_net net no_stop in by_gate net d.0 d.1 d.2 no_stop reached (same_inputs order ordered d.0 d.1)

-- so a function gives one bit
pub one_bit : (gives : Gate ℕ → List Bool → Bool) (gates : List (Gate ℕ)) (order : List ℕ) (stop : ℕ → Bool) (start : Start ℕ) (bits : ℕ → Bool) (x y : Bool)
    → IsOrder gates order → ((net : ℕ) → is_free gates net ≡ true → stop net ≡ true)
    → IsBitOf gives gates stop start bits x → IsBitOf gives gates stop start bits y → x ≡ y
one_bit gives gates order stop (AtNet net) bits x y ordered free hx hy =
    sym hx.is ∙ same_reached gives gates stop (AtNet net) bits hx.w hy.w free hx.assigns hy.assigns order ordered net (reached_here gates stop (net ∷ []) net (here net [])) ∙ hy.is
one_bit gives gates order stop (Behind g) bits x y ordered free hx hy =
    let same : map hx.w g.ins ≡ map hy.w g.ins =
    map_on hx.w hy.w g.ins (λ m i. same_reached gives gates stop (Behind g) bits hx.w hy.w free hx.assigns hy.assigns order ordered m (reached_here gates stop g.ins m i)) in
    sym hx.is ∙ ap (gives g) same ∙ hy.is
