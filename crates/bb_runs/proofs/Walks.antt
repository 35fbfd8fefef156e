-- A netlist with no order has a loop: the walk back from the least net that is stuck meets a net twice.
use Rattle.std.proofs.Common.{arith, ◌≡◌, ◌≢◌, ◌⊎◌, inl, inr, ℕ, suc, zero, ◌+◌, ◌<◌, ◌==◌, Bool, true, false, List, [], ◌∷◌, ◌++◌, length, map, refl, sym, ap, subst, slice_get, take, drop, nat_lt, Some, length-append}
use Rattle.std.proofs.lemmas.Bool.Decides.{nat_tests}
use Rattle.std.proofs.lemmas.List.Elements.{recursion_from_All}
use Rattle.std.specs.Prelude.{AllPairs}
use Rattle.std.specs.List.{AllByRecursion, list_all, flat_map}
use Rattle.bb_base.specs.Net.{Gate, Netlist, driven, reads, IsNetlist}
use Rattle.bb_base.specs.Order.{drivers, is_within, IsFirstStuck, IsLeastStuck, LeadsTo, BeginsWith, IsLoop, HasOrder}
use Rattle.bb_base.proofs.Lists.{all_front, all_back, all_join, all_parts}
use Rattle.bb_base.proofs.Contained.{at_place}
use Rattle.bb_netlist.proofs.WalkLemmas.{leads_more, begins_more, once_more, take_drop, drop_begins, begins_front, begins_as}
use Rattle.bb_runs.proofs.Within.{EndsAt, ReadBelow, DrivesNet, all_drivers, drivers_stand, stuck_at, ends_somewhere}
use Rattle.bb_runs.proofs.Orders.{ordered}
use Rattle.bb_base.proofs.Distinct.{few_distinct}

-- the first item that fails a test
pub record FirstOut {X : Type 0} (p : X → Bool) (xs : List X) : Type 0 where
  pub place : ℕ
  pub item : X
  pub stands : slice_get xs place ≡ Some item
  pub fails : p item ≡ false
  pub earlier : (q : ℕ) (x : X) → q < place → slice_get xs q ≡ Some x → p x ≡ true

first_out : {X : Type 0} (p : X → Bool) (xs : List X) → list_all p xs ≡ false → FirstOut p xs
first_out p [] h = absurd (cc h)
first_out {X} p (x ∷ xs) h = go (p x) refl (λ e. first_out p xs e)
  where
    go : (b : Bool) → p x ≡ b → (list_all p xs ≡ false → FirstOut p xs) → FirstOut p (x ∷ xs)
    go false e rest = record { place = 0; item = x; stands = refl; fails = e; earlier = λ q y less at. absurd (omega (arith, less)) }
    go true e rest =
        let more = rest (grind (arith, nat_tests, e, h)) in
        record { place = suc more.place; item = more.item; stands = more.stands; fails = more.fails; earlier = earlier more }
      where
        earlier : (more : FirstOut p xs) (q : ℕ) (y : X) → q < suc more.place → slice_get (x ∷ xs) q ≡ Some y → p y ≡ true
        earlier more zero y less at = let same : x ≡ y = cc at in subst (λ z. p z ≡ true) same e
        earlier more (suc q) y less at = more.earlier q y (omega (arith, less)) at

-- all numbers below a count pass, or there is a first that fails
pub record FirstBelow (p : ℕ → Bool) (count : ℕ) : Type 0 where
  pub number : ℕ
  pub within : number < count
  pub fails : p number ≡ false
  pub earlier : (j : ℕ) → j < number → p j ≡ true

first_below : (p : ℕ → Bool) (count : ℕ) → ((m : ℕ) → m < count → p m ≡ true) ⊎ FirstBelow p count
first_below p zero = inl (λ m less. absurd (omega (arith, less)))
first_below p (suc count) = go (first_below p count)
  where
    last : (b : Bool) → p count ≡ b → ((m : ℕ) → m < count → p m ≡ true) → ((m : ℕ) → m < suc count → p m ≡ true) ⊎ FirstBelow p (suc count)
    last false e all = inr (record { number = count; within = omega arith; fails = e; earlier = all })
    last true e all = inl (λ m less. at m less (nat_lt m count) refl)
      where
        at : (m : ℕ) → m < suc count → (b : Bool) → nat_lt m count ≡ b → p m ≡ true
        at m less true f = all m (grind (arith, nat_tests, f))
        at m less false f = let same : count ≡ m = grind (arith, nat_tests, f, less) in subst (λ x. p x ≡ true) same e

    go : ((m : ℕ) → m < count → p m ≡ true) ⊎ FirstBelow p count → ((m : ℕ) → m < suc count → p m ≡ true) ⊎ FirstBelow p (suc count)
    go (inr found) = inr (record { number = found.number; within = omega (arith, found.within); fails = found.fails; earlier = found.earlier })
    go (inl all) = last (p count) refl all

-- a number stands in a list, or at no place of it
seek : (xs : List ℕ) (x : ℕ) → ((p : ℕ) × (slice_get xs p ≡ Some x)) ⊎ ((q : ℕ) → slice_get xs q ≡ Some x → ⊥)
seek [] x = inr (λ q at. cc at)
seek (y ∷ xs) x = go (y == x) refl (seek xs x)
  where
    go : (b : Bool) → (y == x) ≡ b → ((p : ℕ) × (slice_get xs p ≡ Some x)) ⊎ ((q : ℕ) → slice_get xs q ≡ Some x → ⊥) → ((p : ℕ) × (slice_get (y ∷ xs) p ≡ Some x)) ⊎ ((q : ℕ) → slice_get (y ∷ xs) q ≡ Some x → ⊥)
    go true e rest = let same : y ≡ x = grind (arith, nat_tests, e) in inl (0, ap Some same)
    go false e (inl found) = inl (suc found.0, found.1)
    go false e (inr none) = inr nowhere
      where
        nowhere : (q : ℕ) → slice_get (y ∷ xs) q ≡ Some x → ⊥
        nowhere zero at = let same : y ≡ x = cc at in grind (arith, nat_tests, e, same)
        nowhere (suc q) at = none q at

module _ (gates : List (Gate ℕ)) (nets k : ℕ) (read : ReadBelow nets gates) (ends : EndsAt gates nets k) where
  -- the next net of the walk
  pub record Next (net : ℕ) : Type 0 where
    pub net_is : ℕ
    pub within : net_is < nets
    pub out : is_within gates k net_is ≡ false
    pub first : IsFirstStuck gates net net_is

  next : (net : ℕ) → net < nets → is_within gates k net ≡ false → Next net
  next net small out = go (is_within gates (suc k) net) refl
    where
      from : FirstOut (λ (g : Gate ℕ). list_all (is_within gates k) g.ins) (drivers gates net) → Next net
      from found =
          let input = first_out (is_within gates k) found.item.ins found.fails in
          let drives = at_place (DrivesNet gates net) (drivers gates net) found.place found.item (drivers_stand gates net) found.stands in
          let below = at_place (λ (g : Gate ℕ). AllByRecursion (λ n. n < nets) g.ins) (drivers gates net) found.place found.item (all_drivers (λ g. AllByRecursion (λ n. n < nets) g.ins) gates net read) found.stands in
          let within = at_place (λ n. n < nets) found.item.ins input.place input.item below input.stands in
          record {
            net_is = input.item;
            within = within;
            out = input.fails;
            first = record {
              gate = found.item;
              stands = drives.0;
              drives = drives.1;
              place = input.place;
              reads = input.stands;
              stuck = stuck_at gates nets k input.item read ends within input.fails;
              first = λ q m less at stuck. cc (stuck k, input.earlier q m less at);
            };
          }

      go : (b : Bool) → is_within gates (suc k) net ≡ b → Next net
      go true e = absurd (cc (out, ends net small e))
      go false e = from (first_out (λ g. list_all (is_within gates k) g.ins) (drivers gates net) e)

  -- the walk so far from a net, and the net that comes next
  pub record Way (start : ℕ) (walk : List ℕ) (net : ℕ) : Type 0 where
    pub within : net < nets
    pub out : is_within gates k net ≡ false
    pub leads : LeadsTo (IsFirstStuck gates) walk net
    pub begins : BeginsWith (walk ++ net ∷ []) (λ n. n ≡ start)
    pub once : AllPairs (λ a b. a ≢ b) walk
    pub below : AllByRecursion (λ m. m < nets) walk

  loop_from : (start : ℕ) → IsLeastStuck gates start → (fuel : ℕ) (walk : List ℕ) (net : ℕ) → Way start walk net → nets < length walk + fuel → (loop : List ℕ) × IsLoop gates loop
  loop_from start least zero walk net w more = absurd (omega (arith, more, few_distinct walk nets w.once w.below))
  loop_from start least (suc fuel) walk net w more = go (seek walk net) (next net w.within w.out) (λ m v. loop_from start least fuel (walk ++ net ∷ []) m v (omega (arith, more, length-append walk (net ∷ []))))
    where
      go : ((p : ℕ) × (slice_get walk p ≡ Some net)) ⊎ ((q : ℕ) → slice_get walk q ≡ Some net → ⊥) → Next net → ((m : ℕ) → Way start (walk ++ net ∷ []) m → (loop : List ℕ) × IsLoop gates loop) → (loop : List ℕ) × IsLoop gates loop
      go (inl found) step rest =
          let whole : take found.0 walk ++ drop found.0 walk ≡ walk = take_drop found.0 walk in (
            drop found.0 walk,
            record {
              before = take found.0 walk;
              first = net;
              start = subst (λ ns. BeginsWith ns (IsLeastStuck gates)) (sym whole) (begins_as walk start (IsLeastStuck gates) least (begins_front walk net found.0 (λ n. n ≡ start) found.1 w.begins));
              walk = subst (λ ns. LeadsTo (IsFirstStuck gates) ns net) (sym whole) w.leads;
              again = drop_begins walk found.0 net found.1;
              met_once = subst (AllPairs (λ a b. a ≢ b)) (sym whole) w.once;
            },
          )
      go (inr new) step rest =
          rest step.net_is
          (record {
            within = step.within;
            out = step.out;
            leads = leads_more (IsFirstStuck gates) walk net step.net_is w.leads step.first;
            begins = begins_more (λ n. n ≡ start) walk net (step.net_is ∷ []) w.begins;
            once = once_more walk net w.once new;
            below = all_join (λ m. m < nets) walk (net ∷ []) w.below (w.within, tt);
          })

  pub order_or_way : HasOrder gates ⊎ ((loop : List ℕ) × IsLoop gates loop)
  order_or_way = go (first_below (is_within gates k) nets)
    where
      go : ((m : ℕ) → m < nets → is_within gates k m ≡ true) ⊎ FirstBelow (is_within gates k) nets → HasOrder gates ⊎ ((loop : List ℕ) × IsLoop gates loop)
      go (inl all) = inl (ordered gates nets k read all)
      go (inr found) =
          inr
          (loop_from found.number
          (record { stuck = stuck_at gates nets k found.number read ends found.within found.fails; least = λ m less stuck. cc (stuck k, found.earlier m less) })
          (suc nets) [] found.number
          (record { within = found.within; out = found.fails; leads = tt; begins = refl; once = λ i j d less small. absurd (omega (arith, small)); below = tt })
          (omega arith))

-- gates of a netlist read nets
pub netlist_reads : (n : Netlist ℕ) → IsNetlist n → ReadBelow (length (driven n)) n.gates
netlist_reads n is =
    let Below : ℕ → Type 0 = λ m. m < length (driven n) in
    all_parts Below (λ g. g.ins) n.gates
    (all_front Below (flat_map (λ g. g.ins) n.gates) (map (λ f. f.d) n.flops) (all_back Below n.outputs (flat_map (λ g. g.ins) n.gates ++ map (λ f. f.d) n.flops) (recursion_from_All Below (reads n) is.reads_nets)))

-- a netlist has an order or a loop
pub order_or_loop_of : (n : Netlist ℕ) → IsNetlist n → HasOrder n.gates ⊎ ((loop : List ℕ) × IsLoop n.gates loop)
order_or_loop_of n is = let ends = ends_somewhere n.gates (length (driven n)) in order_or_way n.gates (length (driven n)) ends.0 (netlist_reads n is) ends.1
