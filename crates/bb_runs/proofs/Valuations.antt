-- A netlist whose gates have an order has, in each cycle, one valuation, and a run from every start under all inputs.
use Rattle.std.proofs.Common.{arith, ◌≡◌, ℕ, suc, zero, ◌+◌, ◌<◌, ◌≤◌, ◌==◌, Bool, true, false, List, [], ◌∷◌, ◌++◌, length, map, refl, sym, ap, ◌∙◌, cond, subst, slice_get, Some, length-append, Contains}
use Rattle.std.proofs.lemmas.Bool.Decides.{nat_tests}
use Rattle.std.proofs.lemmas.List.Elements.{recursion_from_All}
use Rattle.std.specs.Prelude.{if◌then◌else◌}
use Rattle.std.specs.List.{AllByRecursion, list_all, flat_map}
use Rattle.bb_base.specs.Net.{Gate, Flop, Netlist, driven, reads, times, IsNetlist}
use Rattle.bb_base.specs.Order.{drivers, is_within, is_empty, IsOrder}
use Rattle.bb_base.specs.Run.{SettlesBy, IsRunBy, MeetsBy, next_states, at}
use Rattle.bb_base.proofs.Lists.{all_map, all_back, all_join, map_join, map_twice, length_map, same_map_at}
use Rattle.bb_base.proofs.Contained.{of_all, by_place, each_same, map_on}
use Rattle.bb_base.proofs.TimesLemmas.{times_join, times_head}
pub use Rattle.bb_base.proofs.TimesLemmas.{standing}
use Rattle.bb_base.proofs.CycleLemmas.{driver_there}
use Rattle.bb_base.proofs.GateLemmas.{outs_times, at_most_one}
use Rattle.bb_runs.proofs.Within.{DrivesNet, drivers_stand}
use Rattle.bb_runs.proofs.Walks.{netlist_reads}
use Rattle.bb_runs.proofs.Ranks.{top, all_within}

-- lists -----------------------------------------------------------------

same_where : {X Y : Type 0} (p : X → Bool) (f g : X → Y) → ((x : X) → p x ≡ true → f x ≡ g x) → (xs : List X) → list_all p xs ≡ true → map f xs ≡ map g xs
same_where p f g same [] h = refl
same_where p f g same (x ∷ xs) h =
    let here = same x (grind (arith, nat_tests, h)) in
    let rest = same_where p f g same xs (grind (arith, nat_tests, h)) in
    cc (here, rest)

-- the same where it holds of items with Q
same_where_on : {X Y : Type 0} (p : X → Bool) (Q : X → Type 0) (f g : X → Y) → ((x : X) → Q x → p x ≡ true → f x ≡ g x) → (xs : List X) → AllByRecursion Q xs → list_all p xs ≡ true → map f xs ≡ map g xs
same_where_on p Q f g same [] all h = refl
same_where_on p Q f g same (x ∷ xs) all h =
    let here = same x all.0 (grind (arith, nat_tests, h)) in
    let rest = same_where_on p Q f g same xs all.1 (grind (arith, nat_tests, h)) in
    cc (here, rest)

parts : {X : Type 0} (xs ys us vs : List X) → length xs ≡ length ys → xs ++ us ≡ ys ++ vs → (xs ≡ ys) × (us ≡ vs)
parts [] [] us vs long same = (refl, same)
parts [] (y ∷ ys) us vs long same = absurd (cc long)
parts (x ∷ xs) [] us vs long same = absurd (cc long)
parts (x ∷ xs) (y ∷ ys) us vs long same =
    let rest = parts xs ys us vs (omega (arith, long)) (cc same) in
    let head : x ≡ y = cc same in
    (cc (head, rest.0), rest.1)

-- bits that are given ---------------------------------------------------

-- the bit of a net in a list of nets with their bits, and 0 of any other
abbrev given : List ℕ → List Bool → ℕ → Bool
given [] bits net = false
given (m ∷ nets) [] net = false
given (m ∷ nets) (b ∷ bits) net = if m == net then b else given nets bits net

given_past : (m : ℕ) (b : Bool) (nets : List ℕ) (bits : List Bool) (xs : List ℕ) → times m xs ≡ 0 → map (given (m ∷ nets) (b ∷ bits)) xs ≡ map (given nets bits) xs
given_past m b nets bits [] none = refl
given_past m b nets bits (x ∷ xs) none =
    let one = times_head m x xs in
    let rest = given_past m b nets bits xs (omega (arith, none, one)) in
    go (m == x) refl (grind (arith, nat_tests, none, one)) rest
  where
    go : (t : Bool) → (m == x) ≡ t → t ≡ false → map (given (m ∷ nets) (b ∷ bits)) xs ≡ map (given nets bits) xs
        → cond t b (given nets bits x) ∷ map (given (m ∷ nets) (b ∷ bits)) xs ≡ given nets bits x ∷ map (given nets bits) xs
    go true e differs rest = absurd (cc differs)
    go false e differs rest = cc rest

given_all : (nets : List ℕ) (bits : List Bool) → length nets ≡ length bits → ((m : ℕ) → times m nets ≤ 1) → map (given nets bits) nets ≡ bits
given_all [] [] long once = refl
given_all [] (b ∷ bits) long once = absurd (cc long)
given_all (m ∷ nets) [] long once = absurd (cc long)
given_all (m ∷ nets) (b ∷ bits) long once =
    let at = times_head m m nets in
    let none : times m nets ≡ 0 = grind (arith, nat_tests, at, once m) in
    let rest = given_all nets bits (omega (arith, long)) (λ x. omega (arith, times_head x m nets, once x)) in
    let first : given (m ∷ nets) (b ∷ bits) m ≡ b = itself (m == m) (grind (arith, nat_tests)) in
    cc (first, given_past m b nets bits nets none, rest)
  where
    itself : (t : Bool) → t ≡ true → cond t b (given nets bits m) ≡ b
    itself true e = refl
    itself false e = absurd (cc e)

-- bits by levels ----------------------------------------------------------

module _ (gives : Gate ℕ → List Bool → Bool) where
  -- what the driver of a net gives, and where no gate drives it this bit
  abbrev driven_bit : List (Gate ℕ) → Bool → (ℕ → Bool) → Bool
  driven_bit [] free v = free
  driven_bit (g ∷ gates) free v = gives g (map v g.ins)

  -- the bit of a net after so many gates on the way back
  abbrev bit_after : List (Gate ℕ) → (ℕ → Bool) → ℕ → ℕ → Bool
  bit_after gates free zero net = free net
  bit_after gates free (suc k) net = driven_bit (drivers gates net) (free net) (bit_after gates free k)

  no_driver : (ds : List (Gate ℕ)) (free : Bool) (v : ℕ → Bool) → is_empty ds ≡ true → driven_bit ds free v ≡ free
  no_driver [] free v h = refl
  no_driver (d ∷ ds) free v h = absurd (cc h)

  same_driven : (ds : List (Gate ℕ)) (free : Bool) (v w : ℕ → Bool) (p : ℕ → Bool) → ((n : ℕ) → p n ≡ true → v n ≡ w n) → list_all (λ g. list_all p g.ins) ds ≡ true → driven_bit ds free v ≡ driven_bit ds free w
  same_driven [] free v w p same h = refl
  same_driven (g ∷ ds) free v w p same h = ap (gives g) (same_where p v w same g.ins (grind (arith, nat_tests, h)))

  -- a net has its bit once its ways back have ended
  settled : (gates : List (Gate ℕ)) (free : ℕ → Bool) (k net : ℕ) → is_within gates k net ≡ true → bit_after gates free (suc k) net ≡ bit_after gates free k net
  settled gates free zero net h = no_driver (drivers gates net) (free net) (bit_after gates free zero) h
  settled gates free (suc k) net h =
      same_driven (drivers gates net) (free net) (bit_after gates free (suc k)) (bit_after gates free k) (is_within gates k) (λ n e. settled gates free k n e) h

  only_driver : (ds : List (Gate ℕ)) (free : Bool) (v : ℕ → Bool) (k : ℕ) (g : Gate ℕ) → length ds ≤ 1 → slice_get ds k ≡ Some g → driven_bit ds free v ≡ gives g (map v g.ins)
  only_driver [] free v k g few at = absurd (cc at)
  only_driver (d ∷ []) free v zero g few at = let same : d ≡ g = cc at in ap (λ (x : Gate ℕ). gives x (map v x.ins)) same
  only_driver (d ∷ []) free v (suc k) g few at = absurd (cc at)
  only_driver (d ∷ e ∷ ds) free v k g few at = absurd (omega (arith, few))

-- one driver ------------------------------------------------------------

drivers_count : (gates : List (Gate ℕ)) (net : ℕ) → length (drivers gates net) ≡ times net (map (λ g. g.out) gates)
drivers_count [] net = refl
drivers_count (g ∷ gates) net = go (g.out == net) refl (times_head net g.out (map (λ x. x.out) gates)) (drivers_count gates net)
  where
    go : (t : Bool) → (g.out == net) ≡ t → times net (map (λ x. x.out) (g ∷ gates)) ≡ cond (g.out == net) 1 0 + times net (map (λ x. x.out) gates)
        → length (drivers gates net) ≡ times net (map (λ x. x.out) gates) → length (cond t (g ∷ drivers gates net) (drivers gates net)) ≡ times net (map (λ x. x.out) (g ∷ gates))
    go true e one rest = grind (arith, nat_tests, e, one, rest)
    go false e one rest = grind (arith, nat_tests, e, one, rest)

empty : {X : Type 0} (ds : List X) → length ds ≡ 0 → is_empty ds ≡ true
empty [] none = refl
empty (d ∷ ds) none = absurd (cc none)

none_drive : (gates : List (Gate ℕ)) (xs : List ℕ) → ((m : ℕ) → 1 ≤ times m xs → length (drivers gates m) ≡ 0) → AllByRecursion (λ m. is_empty (drivers gates m) ≡ true) xs
none_drive gates [] h = tt
none_drive gates (x ∷ xs) h = (
  empty (drivers gates x) (h x (grind (arith, nat_tests, times_head x x xs))),
  none_drive gates xs (λ m some. h m (omega (arith, times_head m x xs, some))),
)

-- one cycle ---------------------------------------------------------------

module _ (gives : Gate ℕ → List Bool → Bool) (n : Netlist ℕ) (order : List ℕ) (is : IsNetlist n) (o : IsOrder n.gates order) where
  abbrev sources : List ℕ
  sources = n.inputs ++ map (λ f. f.q) n.flops

  sources_count : (m : ℕ) → times m sources ≡ times m n.inputs + times m (map (λ f. f.q) n.flops)
  sources_count m = times_join m n.inputs (map (λ f. f.q) n.flops)

  abbrev highest : ℕ
  highest = suc (top n.gates order o)

  abbrev values : List Bool → List Bool → ℕ → Bool
  values i s = bit_after gives n.gates (given sources (i ++ s)) (suc highest)

  free_sources : AllByRecursion (λ m. is_empty (drivers n.gates m) ≡ true) sources
  free_sources = none_drive n.gates sources (λ m some. omega (arith, some, drivers_count n.gates m, outs_times n m, sources_count m, at_most_one n m is))

  sources_given : (i s : List Bool) → length i ≡ length n.inputs → length s ≡ length n.flops → map (values i s) sources ≡ i ++ s
  sources_given i s long_i long_s =
      same_map_at (values i s) (given sources (i ++ s)) (λ m. is_empty (drivers n.gates m) ≡ true) (λ m e. no_driver gives (drivers n.gates m) (given sources (i ++ s) m) (bit_after gives n.gates (given sources (i ++ s)) highest) e) sources free_sources
      ∙ given_all sources (i ++ s) long (λ m. omega (arith, outs_times n m, sources_count m, at_most_one n m is))
    where
      long : length sources ≡ length (i ++ s)
      long = omega (arith, length-append n.inputs (map (λ f. f.q) n.flops), length_map (λ (f : Flop ℕ). f.q) n.flops, length-append i s, long_i, long_s)

  both : (i s : List Bool) → length i ≡ length n.inputs → length s ≡ length n.flops → (map (values i s) n.inputs ≡ i) × (map (values i s) (map (λ f. f.q) n.flops) ≡ s)
  both i s long_i long_s =
      parts (map (values i s) n.inputs) i (map (values i s) (map (λ f. f.q) n.flops)) s (length_map (values i s) n.inputs ∙ sym long_i)
      (sym (map_join (values i s) n.inputs (map (λ f. f.q) n.flops)) ∙ sources_given i s long_i long_s)

  gate_meets : (i s : List Bool) (h : ℕ) (g : Gate ℕ) → slice_get n.gates h ≡ Some g → MeetsBy gives (values i s) g
  gate_meets i s h g at =
      only_driver gives (drivers n.gates g.out) (given sources (i ++ s) g.out) (bit_after gives n.gates (given sources (i ++ s)) highest) found.0 g few found.1 ∙ ap (gives g) (sym kept)
    where
      found : (k : ℕ) × (slice_get (drivers n.gates g.out) k ≡ Some g)
      found = driver_there n.gates g.out h g at refl

      few : length (drivers n.gates g.out) ≤ 1
      few = omega (arith, drivers_count n.gates g.out, outs_times n g.out, at_most_one n g.out is)

      kept : map (bit_after gives n.gates (given sources (i ++ s)) (suc highest)) g.ins ≡ map (bit_after gives n.gates (given sources (i ++ s)) highest) g.ins
      kept = map_on (bit_after gives n.gates (given sources (i ++ s)) (suc highest)) (bit_after gives n.gates (given sources (i ++ s)) highest) g.ins (λ m c. settled gives n.gates (given sources (i ++ s)) highest m (all_within n.gates order o m))

  settles : (i s : List Bool) → length i ≡ length n.inputs → length s ≡ length n.flops → SettlesBy gives n i s (values i s)
  settles i s long_i long_s = record {
    inputs = (both i s long_i long_s).0;
    state = sym (map_twice (values i s) (λ (f : Flop ℕ). f.q) n.flops) ∙ (both i s long_i long_s).1;
    gates = by_place (MeetsBy gives (values i s)) n.gates (gate_meets i s);
  }

  pub run_from : (s : List Bool) (inputs : List (List Bool)) → length s ≡ length n.flops → AllByRecursion (λ i. length i ≡ length n.inputs) inputs → (vs : List (ℕ → Bool)) × IsRunBy gives n s inputs vs
  run_from s [] long_s h = ([], tt)
  run_from s (i ∷ inputs) long_s h =
      let rest = run_from (next_states n (values i s)) inputs (length_map (λ (f : Flop ℕ). values i s f.d) n.flops) h.1 in
      (values i s ∷ rest.0, (settles i s h.0 long_s, rest.1))

  pub valuation : (i s : List Bool) → length i ≡ length n.inputs → length s ≡ length n.flops → (v : ℕ → Bool) × SettlesBy gives n i s v
  valuation i s long_i long_s = (values i s, settles i s long_i long_s)

  -- two valuations agree at each net
  abbrev Below : ℕ → Type 0
  Below m = m < length (driven n)

  module _ (i s : List Bool) (v w : ℕ → Bool) (a : SettlesBy gives n i s v) (b : SettlesBy gives n i s w) where
    abbrev Agrees : ℕ → Type 0
    Agrees m = v m ≡ w m

    at_sources : AllByRecursion Agrees sources
    at_sources =
        let ins = each_same v w n.inputs (a.inputs ∙ sym b.inputs) in
        let qs = each_same v w (map (λ f. f.q) n.flops) (map_twice v (λ (f : Flop ℕ). f.q) n.flops ∙ (a.state ∙ (sym b.state ∙ sym (map_twice w (λ (f : Flop ℕ). f.q) n.flops)))) in
        all_join Agrees n.inputs (map (λ f. f.q) n.flops) ins qs

    at_source : (net : ℕ) → Below net → length (drivers n.gates net) ≡ 0 → Agrees net
    at_source net small none = standing Agrees net sources (omega (arith, none, drivers_count n.gates net, outs_times n net, sources_count net, is.one_driver net small)) at_sources

    at_gate : (g : Gate ℕ) → Contains n.gates g → map v g.ins ≡ map w g.ins → Agrees g.out
    at_gate g there same = of_all (MeetsBy gives v) n.gates g a.gates there ∙ (ap (gives g) same ∙ sym (of_all (MeetsBy gives w) n.gates g b.gates there))

    agree : (k net : ℕ) → Below net → is_within n.gates k net ≡ true → Agrees net
    agree zero net small h = at_source net small (none (drivers n.gates net) h)
      where
        none : (ds : List (Gate ℕ)) → is_empty ds ≡ true → length ds ≡ 0
        none [] e = refl
        none (d ∷ ds) e = absurd (cc e)
    agree (suc k) net small h = by (drivers n.gates net) refl (drivers_stand n.gates net) h (λ m less e. agree k m less e)
      where
        by : (ds : List (Gate ℕ)) → drivers n.gates net ≡ ds → AllByRecursion (DrivesNet n.gates net) ds → list_all (λ g. list_all (is_within n.gates k) g.ins) ds ≡ true → ((m : ℕ) → Below m → is_within n.gates k m ≡ true → Agrees m) → Agrees net
        by [] e stand inside rest = at_source net small (ap length e)
        by (d ∷ ds) e stand inside rest =
            let here : list_all (is_within n.gates k) d.ins ≡ true = grind (arith, nat_tests, inside) in
            let below = of_all (λ (g : Gate ℕ). AllByRecursion Below g.ins) n.gates d (netlist_reads n is) stand.0.0 in
            subst Agrees stand.0.1 (at_gate d stand.0.0 (same_where_on (is_within n.gates k) Below v w rest d.ins below here))

    pub agree_all : (net : ℕ) → Below net → Agrees net
    agree_all net small = agree highest net small (all_within n.gates order o net)

  d_below : AllByRecursion (λ (f : Flop ℕ). Below f.d) n.flops
  d_below =
      all_map Below (λ f. Below f.d) (λ f. f.d) (λ f h. h) n.flops
      (all_back Below (flat_map (λ g. g.ins) n.gates) (map (λ f. f.d) n.flops)
      (all_back Below n.outputs (flat_map (λ g. g.ins) n.gates ++ map (λ f. f.d) n.flops) (recursion_from_All Below (reads n) is.reads_nets)))

  -- and so do two runs, in each cycle
  pub runs_agree : (s : List Bool) (inputs : List (List Bool)) (vs ws : List (ℕ → Bool)) → IsRunBy gives n s inputs vs → IsRunBy gives n s inputs ws → (c net : ℕ) → Below net → at vs c net ≡ at ws c net
  runs_agree s [] [] [] a b c net small = refl
  runs_agree s [] [] (w ∷ ws) a b c net small = absurd b
  runs_agree s [] (v ∷ vs) ws a b c net small = absurd a
  runs_agree s (i ∷ inputs) [] ws a b c net small = absurd a
  runs_agree s (i ∷ inputs) (v ∷ vs) [] a b c net small = absurd b
  runs_agree s (i ∷ inputs) (v ∷ vs) (w ∷ ws) a b zero net small = agree_all i s v w a.0 b.0 net small
  runs_agree s (i ∷ inputs) (v ∷ vs) (w ∷ ws) a b (suc c) net small =
      let next : next_states n w ≡ next_states n v = same_map_at (λ (f : Flop ℕ). w f.d) (λ (f : Flop ℕ). v f.d) (λ (f : Flop ℕ). Below f.d) (λ f below. sym (agree_all i s v w a.0 b.0 f.d below)) n.flops d_below in
      runs_agree (next_states n v) inputs vs ws a.1 (subst (λ t. IsRunBy gives n t inputs ws) next b.1) c net small
