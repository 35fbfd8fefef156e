-- A netlist has one loop at most.
use Rattle.std.proofs.Common.{arith, ◌≡◌, ◌≢◌, ℕ, suc, zero, ◌<◌, ◌≤◌, Bool, true, false, List, [], ◌∷◌, ◌++◌, length, map, refl, sym, ap, ◌∙◌, subst, slice_get, nat_lt, Some, append_assoc, drop}
use Rattle.std.proofs.lemmas.Bool.Decides.{nat_tests}
use Rattle.std.proofs.lemmas.List.Elements.{recursion_from_All}
use Rattle.std.proofs.lemmas.Option.{slice_get_within, get_or_from_slice_get}
use Rattle.std.proofs.lemmas.List.{drop_at}
use Rattle.std.specs.Prelude.{Contains, AllPairs, All}
use Rattle.bb_base.specs.Net.{Gate, Netlist, driven, times, IsNetlist}
use Rattle.bb_base.specs.Order.{IsFirstStuck, IsLeastStuck, LeadsTo, BeginsWith, IsLoop, IsCycle}
use Rattle.bb_base.proofs.Lists.{all_map, all_front, all_back}
use Rattle.bb_base.proofs.Contained.{at_place, place_of}
use Rattle.bb_base.proofs.TimesLemmas.{times_head}
use Rattle.bb_base.proofs.GateLemmas.{stands_once, out_at, outs_times}
use Rattle.bb_base.proofs.Distinct.{one_place}

-- one driver ------------------------------------------------------------

-- each net has one driver, and no other number is driven
pub record AreDrivenOnce (n : Netlist ℕ) : Type 0 where
  pub one_driver : (net : ℕ) → net < length (driven n) → times net (driven n) ≡ 1
  pub drives_nets : All (λ net. net < length (driven n)) (driven n)

pub driven_once : (n : Netlist ℕ) → IsNetlist n → AreDrivenOnce n
driven_once n is = record { one_driver = is.one_driver; drives_nets = is.drives_nets }

-- gates that drive one net, which is driven once, are one
one_gate :
    (gates : List (Gate ℕ)) (net i j : ℕ) (f g : Gate ℕ) → times net (map (λ x. x.out) gates) ≤ 1 → slice_get gates i ≡ Some f → f.out ≡ net → slice_get gates j ≡ Some g → g.out ≡ net → f ≡ g
one_gate [] net i j f g once at drives there also = absurd (cc at)
one_gate (x ∷ gates) net zero zero f g once at drives there also = cc (at, there)
one_gate (x ∷ gates) net zero (suc j) f g once at drives there also =
    let same : x ≡ f = cc at in
    let out : x.out ≡ net = ap (λ (y : Gate ℕ). y.out) same ∙ drives in
    let more = stands_once (map (λ y. y.out) gates) j net (out_at gates j g there ∙ ap Some also) in
    let one = times_head net x.out (map (λ y. y.out) gates) in
    absurd (grind (arith, nat_tests, one, out, more, once))
one_gate (x ∷ gates) net (suc i) zero f g once at drives there also =
    let same : x ≡ g = cc there in
    let out : x.out ≡ net = ap (λ (y : Gate ℕ). y.out) same ∙ also in
    let more = stands_once (map (λ y. y.out) gates) i net (out_at gates i f at ∙ ap Some drives) in
    let one = times_head net x.out (map (λ y. y.out) gates) in
    absurd (grind (arith, nat_tests, one, out, more, once))
one_gate (x ∷ gates) net (suc i) (suc j) f g once at drives there also =
    let one = times_head net x.out (map (λ y. y.out) gates) in
    let fewer : times net (map (λ y. y.out) gates) ≤ 1 = grind (arith, nat_tests, one, once) in
    one_gate gates net i j f g fewer at drives there also

-- what a gate drives is a net
pub gate_drives : (n : Netlist ℕ) (g : Gate ℕ) → AreDrivenOnce n → Contains n.gates g → g.out < length (driven n)
gate_drives n g is there =
    let below = recursion_from_All (λ m. m < length (driven n)) (driven n) is.drives_nets in
    let outs = all_map (λ m. m < length (driven n)) (λ (x : Gate ℕ). x.out < length (driven n)) (λ (x : Gate ℕ). x.out) (λ x h. h) n.gates
    (all_front (λ m. m < length (driven n)) (map (λ x. x.out) n.gates) (map (λ f. f.q) n.flops) (all_back (λ m. m < length (driven n)) n.inputs (map (λ x. x.out) n.gates ++ map (λ f. f.q) n.flops) below)) in
    let at = place_of n.gates g there in
    at_place (λ (x : Gate ℕ). x.out < length (driven n)) n.gates at.0 g outs at.1

-- gates of a netlist that drive one net are one
pub same_gate : (n : Netlist ℕ) (net : ℕ) (f g : Gate ℕ) → AreDrivenOnce n → Contains n.gates f → f.out ≡ net → Contains n.gates g → g.out ≡ net → f ≡ g
same_gate n net f g is there drives also same =
    let within : net < length (driven n) = subst (λ m. m < length (driven n)) drives (gate_drives n f is there) in
    let at = place_of n.gates f there in
    let other = place_of n.gates g also in
    one_gate n.gates net at.0 other.0 f g (omega (arith, outs_times n net, is.one_driver net within)) at.1 drives other.1 same

-- one walk --------------------------------------------------------------

-- the first stuck input of a net is one
next_stuck : (n : Netlist ℕ) (net x y : ℕ) → AreDrivenOnce n → IsFirstStuck n.gates net x → IsFirstStuck n.gates net y → x ≡ y
next_stuck n net x y is a b = by (nat_lt a.place b.place) refl (nat_lt b.place a.place) refl
  where
    same : a.gate ≡ b.gate
    same = same_gate n net a.gate b.gate is a.stands a.drives b.stands b.drives

    at_a : slice_get b.gate.ins a.place ≡ Some x
    at_a = ap (λ (g : Gate ℕ). slice_get g.ins a.place) (sym same) ∙ a.reads

    at_b : slice_get a.gate.ins b.place ≡ Some y
    at_b = ap (λ (g : Gate ℕ). slice_get g.ins b.place) same ∙ b.reads

    by : (s : Bool) → nat_lt a.place b.place ≡ s → (t : Bool) → nat_lt b.place a.place ≡ t → x ≡ y
    by true e t k = absurd (b.first a.place x (grind (arith, nat_tests, e)) at_a a.stuck)
    by false e true k = absurd (a.first b.place y (grind (arith, nat_tests, k)) at_b b.stuck)
    by false e false k =
        let here : a.place ≡ b.place = grind (arith, nat_tests, e, k) in
        let there : slice_get a.gate.ins b.place ≡ Some x = subst (λ p. slice_get a.gate.ins p ≡ Some x) here a.reads in
        cc (there, at_b)

-- the least stuck net is one
least_one : (gates : List (Gate ℕ)) (x y : ℕ) → IsLeastStuck gates x → IsLeastStuck gates y → x ≡ y
least_one gates x y a b = by (nat_lt x y) refl (nat_lt y x) refl
  where
    by : (s : Bool) → nat_lt x y ≡ s → (t : Bool) → nat_lt y x ≡ t → x ≡ y
    by true e t k = absurd (b.least x (grind (arith, nat_tests, e)) a.stuck)
    by false e true k = absurd (a.least y (grind (arith, nat_tests, k)) b.stuck)
    by false e false k = grind (arith, nat_tests, e, k)

abbrev AllApart : List ℕ → Type 0
AllApart xs = AllPairs (λ a b. a ≢ b) xs

-- an item that stands before another place of distinct ones differs from the one there
apart : (xs : List ℕ) (i j a b : ℕ) → AllApart xs → i < j → slice_get xs i ≡ Some a → slice_get xs j ≡ Some b → a ≢ b
apart xs i j a b distinct less at there same =
    let small : j < length xs = slice_get_within xs j b there in
    distinct i j 0 less small (get_or_from_slice_get xs i a 0 at ∙ (same ∙ sym (get_or_from_slice_get xs j b 0 there)))

-- distinct items: one place each
place_once : (xs : List ℕ) (i j a : ℕ) → AllApart xs → slice_get xs i ≡ Some a → slice_get xs j ≡ Some a → i ≡ j
place_once xs i j a distinct at there =
    one_place (λ (x : ℕ). x) xs 0 distinct i j (slice_get_within xs i a at) (slice_get_within xs j a there) (get_or_from_slice_get xs i a 0 at ∙ sym (get_or_from_slice_get xs j a 0 there))

-- an item of joined lists, by its place
get_join : (xs ys : List ℕ) (i a : ℕ) → slice_get xs i ≡ Some a → slice_get (xs ++ ys) i ≡ Some a
get_join [] ys i a at = absurd (cc at)
get_join (x ∷ xs) ys zero a at = at
get_join (x ∷ xs) ys (suc i) a at = get_join xs ys i a at

-- the item behind a list
get_next : (xs ys : List ℕ) (a : ℕ) → slice_get (xs ++ a ∷ ys) (length xs) ≡ Some a
get_next [] ys a = refl
get_next (x ∷ xs) ys a = get_next xs ys a

-- what stands in a list doesn't stand behind it in distinct ones
not_behind : (xs ys : List ℕ) (i a : ℕ) → slice_get xs i ≡ Some a → AllApart (xs ++ a ∷ ys) → ⊥
not_behind xs ys i a at distinct = apart (xs ++ a ∷ ys) i (length xs) a a distinct (slice_get_within xs i a at) (get_join xs (a ∷ ys) i a at) (get_next xs ys a) refl

-- walks by one step from one net, each to the first net met twice, are one
pub record SameWalk (xs ys : List ℕ) (x y : ℕ) : Type 0 where
  pub nets : xs ≡ ys
  pub last : x ≡ y

one_walk :
    (step : ℕ → ℕ → Type 0) → ((a b c : ℕ) → step a b → step a c → b ≡ c) → (seen : List ℕ) (n : ℕ) (xs ys : List ℕ) (f g i j : ℕ) → LeadsTo step (n ∷ xs) f → LeadsTo step (n ∷ ys) g
    → slice_get (seen ++ n ∷ xs) i ≡ Some f → slice_get (seen ++ n ∷ ys) j ≡ Some g → AllApart (seen ++ n ∷ xs) → AllApart (seen ++ n ∷ ys) → SameWalk xs ys f g
one_walk step one seen n [] [] f g i j to_f to_g at there once twice = record { nets = refl; last = one n f g to_f to_g }
one_walk step one seen n [] (m ∷ ys) f g i j to_f to_g at there once twice =
    let same : f ≡ m = one n f m to_f to_g.0 in
    let met : slice_get (seen ++ n ∷ []) i ≡ Some m = at ∙ ap Some same in
    absurd (not_behind (seen ++ n ∷ []) ys i m met (subst AllApart (sym (append_assoc seen (n ∷ []) (m ∷ ys))) twice))
one_walk step one seen n (m ∷ xs) [] f g i j to_f to_g at there once twice =
    let same : g ≡ m = one n g m to_g to_f.0 in
    let met : slice_get (seen ++ n ∷ []) j ≡ Some m = there ∙ ap Some same in
    absurd (not_behind (seen ++ n ∷ []) xs j m met (subst AllApart (sym (append_assoc seen (n ∷ []) (m ∷ xs))) once))
one_walk step one seen n (m ∷ xs) (k ∷ ys) f g i j to_f to_g at there once twice =
    go k (one n m k to_f.0 to_g.0) to_g.1 there twice
    (λ ks t e d. one_walk step one (seen ++ n ∷ []) m xs ks f g i j to_f.1 t (subst (λ zs. slice_get zs i ≡ Some f) front at) e (subst AllApart front once) d)
  where
    front : seen ++ n ∷ (m ∷ xs) ≡ (seen ++ n ∷ []) ++ m ∷ xs
    front = sym (append_assoc seen (n ∷ []) (m ∷ xs))

    go : (p : ℕ) → m ≡ p → LeadsTo step (p ∷ ys) g → slice_get (seen ++ n ∷ (p ∷ ys)) j ≡ Some g → AllApart (seen ++ n ∷ (p ∷ ys))
        → ((ks : List ℕ) → LeadsTo step (m ∷ ks) g → slice_get ((seen ++ n ∷ []) ++ m ∷ ks) j ≡ Some g → AllApart ((seen ++ n ∷ []) ++ m ∷ ks) → SameWalk xs ks f g) → SameWalk (m ∷ xs) (p ∷ ys) f g
    go p same leads met distinct rest =
        let back : p ∷ ys ≡ m ∷ ys = ap (λ q. q ∷ ys) (sym same) in
        let there : slice_get (seen ++ n ∷ (m ∷ ys)) j ≡ Some g = subst (λ zs. slice_get (seen ++ n ∷ zs) j ≡ Some g) back met in
        let differ : AllApart (seen ++ n ∷ (m ∷ ys)) = subst (λ zs. AllApart (seen ++ n ∷ zs)) back distinct in
        let e : seen ++ n ∷ (m ∷ ys) ≡ (seen ++ n ∷ []) ++ m ∷ ys = sym (append_assoc seen (n ∷ []) (m ∷ ys)) in
        let walk = rest ys (subst (λ zs. LeadsTo step zs g) back leads) (subst (λ zs. slice_get zs j ≡ Some g) e there) (subst AllApart e differ) in
        record { nets = (λ h. same h ∷ walk.nets h); last = walk.last }

-- the same for walks that begin alike
one_whole :
    (step : ℕ → ℕ → Type 0) (P : ℕ → Type 0) → ((a b c : ℕ) → step a b → step a c → b ≡ c) → ((x y : ℕ) → P x → P y → x ≡ y) → (ps qs : List ℕ) (f g i j : ℕ)
    → BeginsWith ps P → BeginsWith qs P → LeadsTo step ps f → LeadsTo step qs g → slice_get ps i ≡ Some f → slice_get qs j ≡ Some g → AllApart ps → AllApart qs → SameWalk ps qs f g
one_whole step P one start [] qs f g i j begins also to_f to_g at there once twice = absurd begins
one_whole step P one start (a ∷ ps) [] f g i j begins also to_f to_g at there once twice = absurd also
one_whole step P one start (a ∷ ps) (b ∷ qs) f g i j begins also to_f to_g at there once twice =
    let same : b ≡ a = start b a also begins in
    let back : b ∷ qs ≡ a ∷ qs = ap (λ q. q ∷ qs) same in
    let walk = one_walk step one [] a ps qs f g i j to_f (subst (λ zs. LeadsTo step zs g) back to_g) at (subst (λ zs. slice_get zs j ≡ Some g) back there) once (subst AllApart back twice) in
    record { nets = ap (λ zs. a ∷ zs) walk.nets ∙ sym back; last = walk.last }

-- the parts of a list that begin at one place of it
same_back : (before xs other ys : List ℕ) → before ++ xs ≡ other ++ ys → length before ≡ length other → xs ≡ ys
same_back before xs other ys whole place = sym (drop_at before xs (length before) refl) ∙ (ap (drop (length before)) whole ∙ drop_at other ys (length before) (sym place))

-- two loops of gates that drive each net once are one
pub one_loop_of : (n : Netlist ℕ) (xs ys : List ℕ) → AreDrivenOnce n → IsLoop n.gates xs → IsLoop n.gates ys → xs ≡ ys
one_loop_of n [] ys is l k = absurd l.again
one_loop_of n (x ∷ xs) [] is l k = absurd k.again
one_loop_of n (x ∷ xs) (y ∷ ys) is l k = same_back l.before (x ∷ xs) k.before (y ∷ ys) walk.nets place
  where
    at : slice_get (l.before ++ x ∷ xs) (length l.before) ≡ Some l.first
    at = get_next l.before xs x ∙ ap Some l.again

    there : slice_get (k.before ++ y ∷ ys) (length k.before) ≡ Some k.first
    there = get_next k.before ys y ∙ ap Some k.again

    walk : SameWalk (l.before ++ x ∷ xs) (k.before ++ y ∷ ys) l.first k.first
    walk = one_whole (IsFirstStuck n.gates) (IsLeastStuck n.gates) (λ a b c. next_stuck n a b c is) (least_one n.gates) (l.before ++ x ∷ xs) (k.before ++ y ∷ ys) l.first k.first (length l.before) (length k.before)
        l.start k.start l.walk k.walk at there l.met_once k.met_once

    place : length l.before ≡ length k.before
    place = place_once (l.before ++ x ∷ xs) (length l.before) (length k.before) l.first l.met_once at (ap (λ zs. slice_get zs (length k.before)) walk.nets ∙ (there ∙ ap Some (sym walk.last)))

-- the first net of a cycle is a net
pub cycle_within : (n : Netlist ℕ) (net : ℕ) (more : List ℕ) → AreDrivenOnce n → IsCycle n.gates (net ∷ more) → net < length (driven n)
cycle_within n net [] is c = subst (λ m. m < length (driven n)) c.drives (gate_drives n c.gate is c.stands)
cycle_within n net (m ∷ more) is c = subst (λ p. p < length (driven n)) c.0.drives (gate_drives n c.0.gate is c.0.stands)
