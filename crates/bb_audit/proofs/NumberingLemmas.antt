-- A netlist by sites has one numbering by variables and from left to right.
use Rattle.std.proofs.Common.{arith, ◌≡◌, ◌⊎◌, inl, inr, zero, suc, List, [], ◌∷◌, AllPairs, Some, refl, sym, ap, subst, ◌∙◌, Contains}
use Rattle.bb_base.specs.declared.variable.BitName.{BitName}
use Rattle.bb_base.specs.Variables.{StandsBefore, IsBit, bit_at}
use Rattle.bb_base.proofs.Contained.{here, there, either, none_in, place_of, contains_at}
use Rattle.std.proofs.lemmas.Option.{slice_get_within, get_or_from_slice_get, slice_get-get_or}
use Rattle.bb_base.specs.Named.{Named, IsNamed, IsByBits, name_of_net}
use Rattle.bb_net.specs.Sites.{Sited, site_of, site_of_bit, sited}
use Rattle.bb_net.proofs.SiteLemmas.{one_site, net_bit}
use Rattle.bb_alike.specs.Alike.{Feeds}
use Rattle.bb_alike.proofs.FeedLemmas.{some_feeding, fed_site}

never_both : (b c : BitName) → StandsBefore b c → StandsBefore c b → ⊥
never_both b c (inl p) (inl q) = omega (arith, p, q)
never_both b c (inl p) (inr q) = let same = q.0 in omega (arith, p, same)
never_both b c (inr p) (inl q) = let same = p.0 in omega (arith, q, same)
never_both b c (inr p) (inr q) =
    let less = p.1 in
    let more = q.1 in
    omega (arith, less, more)

-- the first bit stands before each other one
ahead : (b : BitName) (bits : List BitName) (c : BitName) → AllPairs StandsBefore (b ∷ bits) → Contains bits c → StandsBefore b c
ahead b bits c h k = subst (StandsBefore b) k.2 (h zero (suc k.0) c (omega arith) (let less = k.1 in omega (arith, less)))

later : (b : BitName) (bits : List BitName) → AllPairs StandsBefore (b ∷ bits) → AllPairs StandsBefore bits
later b bits h = λ i j d less small. h (suc i) (suc j) d (omega (arith, less)) (omega (arith, small))

-- the same bits in order are one list
pub one_order : (xs ys : List BitName) → AllPairs StandsBefore xs → AllPairs StandsBefore ys → ((b : BitName) → Contains xs b → Contains ys b) → ((b : BitName) → Contains ys b → Contains xs b) → xs ≡ ys
one_order [] [] hx hy to from = refl
one_order [] (y ∷ ys) hx hy to from = absurd (none_in y (from y (here y ys)))
one_order (x ∷ xs) [] hx hy to from = absurd (none_in x (to x (here x xs)))
one_order (x ∷ xs) (y ∷ ys) hx hy to from =
    let one : x ≡ y = first (either y ys x (to x (here x xs))) (either x xs y (from y (here y ys))) in
    let rest : xs ≡ ys = one_order xs ys (later x xs hx) (later y ys hy)
    (λ b c. on_right one b c (either y ys b (to b (there x xs b c))))
    (λ b c. on_left one b c (either x xs b (from b (there y ys b c)))) in
    λ i. one i ∷ rest i
  where
    first : (y ≡ x) ⊎ Contains ys x → (x ≡ y) ⊎ Contains xs y → x ≡ y
    first (inl p) q = sym p
    first (inr p) (inl q) = q
    first (inr p) (inr q) = absurd (never_both x y (ahead x xs y hx q) (ahead y ys x hy p))

    on_right : x ≡ y → (b : BitName) → Contains xs b → (y ≡ b) ⊎ Contains ys b → Contains ys b
    on_right one b c (inl p) = absurd (let self : StandsBefore b b = subst (λ k. StandsBefore k b) (one ∙ p) (ahead x xs b hx c) in never_both b b self self)
    on_right one b c (inr p) = p

    on_left : x ≡ y → (b : BitName) → Contains ys b → (x ≡ b) ⊎ Contains xs b → Contains xs b
    on_left one b c (inl p) = absurd (let self : StandsBefore b b = subst (λ k. StandsBefore k b) (sym one ∙ p) (ahead y ys b hy c) in never_both b b self self)
    on_left one b c (inr p) = p

-- a bit of one is a bit of the other
carried : (v w : Named) → IsNamed v → IsNamed w → sited v ≡ sited w → (b : BitName) → Contains v.names b → Contains w.names b
carried v w hv hw same b c =
    let at = place_of v.names b c in
    let less = slice_get_within v.names at.0 b at.1 in
    let fed = some_feeding v hv at.0 less in
    let there = fed_site w hw (site_of v at.0) fed.0 (subst (λ (s : Sited). Feeds s.netlist (site_of v at.0) fed.0) same fed.1) in
    let name : name_of_net v at.0 ≡ b = get_or_from_slice_get v.names at.0 b (bit_at 0 0) at.1 in
    let variables : v.variables ≡ w.variables = ap (λ (s : Sited). s.variables) same in
    let is_bit : IsBit w.variables (name_of_net v at.0) = subst (λ vs. IsBit vs (name_of_net v at.0)) variables (net_bit v hv at.0 less) in
    let sites : site_of_bit w.variables (name_of_net w there.0) ≡ site_of_bit w.variables (name_of_net v at.0) = there.2 ∙ ap (λ vs. site_of_bit vs (name_of_net v at.0)) variables in
    let one : name_of_net w there.0 ≡ b = one_site w.variables hw.apart (name_of_net w there.0) (name_of_net v at.0) (net_bit w hw there.0 there.1) is_bit sites ∙ name in
    contains_at w.names there.0 b (slice_get-get_or w.names there.0 (bit_at 0 0) there.1 ∙ ap Some one)

pub one_names : (v w : Named) → IsNamed v → IsNamed w → IsByBits v → IsByBits w → sited v ≡ sited w → v.names ≡ w.names
one_names v w hv hw bv bw same = one_order v.names w.names bv bw (carried v w hv hw same) (carried w v hw hv (sym same))
