-- Values after the bits of some nets were written.
use Rattle.std.proofs.Common.{arith, ◌≡◌, ◌≢◌, ℕ, ◌<◌, ◌≤◌, Bool, false, List, [], ◌∷◌, length, map, refl, sym, ap, ◌∙◌, set, get_or-set_same, get_or-set_other, length-set, drop}
use Rattle.std.proofs.lemmas.List.{drop_all}
use Rattle.std.proofs.lemmas.Bool.Decides.{nat_tests}
use Rattle.std.specs.List.{AllByRecursion}
use Rattle.std.proofs.lemmas.List.Elements.{recursion_from_All}
use Rattle.std.specs.Prelude.{All}
use Rattle.bb_base.proofs.Lists.{map_twice, length_map, all_map_back}
use Rattle.bb_base.specs.Net.{Flop, times}
use Rattle.bb_base.proofs.TimesLemmas.{times_head}
use Rattle.bb_eqn.specs.Values.{bits_at}

abbrev pub written : List ℕ → List Bool → List Bool → List Bool
written [] bits values = values
written (n ∷ nets) [] values = values
written (n ∷ nets) (b ∷ bits) values = written nets bits (set values n b)

pub written_long : (nets : List ℕ) (bits values : List Bool) → length (written nets bits values) ≡ length values
written_long [] bits values = refl
written_long (n ∷ nets) [] values = refl
written_long (n ∷ nets) (b ∷ bits) values = written_long nets bits (set values n b) ∙ length-set values n b

-- a net that doesn't stand in front, and one that stands there alone
not_head : (net n : ℕ) (nets : List ℕ) → times net (n ∷ nets) ≡ 0 → net ≢ n
not_head net n nets none same = let one = times_head net n nets in grind (arith, nat_tests, none, one, same)

pub written_kept : (nets : List ℕ) (bits values : List Bool) (net : ℕ) → times net nets ≡ 0 → bits_at (written nets bits values) net ≡ bits_at values net
written_kept [] bits values net none = refl
written_kept (n ∷ nets) [] values net none = refl
written_kept (n ∷ nets) (b ∷ bits) values net none =
    written_kept nets bits (set values n b) net (omega (arith, none, times_head net n nets))
    ∙ get_or-set_other values n net b false (not_head net n nets none)

pub written_all : (nets : List ℕ) (bits values : List Bool) → length bits ≡ length nets → AllByRecursion (λ n. n < length values) nets → ((net : ℕ) → times net nets ≤ 1) → map (bits_at (written nets bits values)) nets ≡ bits
written_all [] [] values long within once = refl
written_all [] (b ∷ bits) values long within once = absurd (cc long)
written_all (n ∷ nets) [] values long within once = absurd (cc long)
written_all (n ∷ nets) (b ∷ bits) values long within once =
    let one = times_head n n nets in
    let most = once n in
    let none : times n nets ≡ 0 = grind (arith, nat_tests, one, most) in
    let first = written_kept nets bits (set values n b) n none ∙ get_or-set_same values n b false within.0 in
    let more = written_all nets bits (set values n b) (omega (arith, long)) (rest nets within.1) (λ net. omega (arith, times_head net n nets, once net)) in
    cc (first, more)
  where
    rest : (ns : List ℕ) → AllByRecursion (λ m. m < length values) ns → AllByRecursion (λ m. m < length (set values n b)) ns
    rest [] h = tt
    rest (m ∷ ns) h = (omega (arith, h.0, length-set values n b), rest ns h.1)

-- at the end of the list nothing is left to write
pub written_end : (place : ℕ) (nets : List ℕ) (bits values whole : List Bool) → length nets ≤ place → written (drop place nets) (drop place bits) values ≡ whole → values ≡ whole
written_end place nets bits values whole past so_far = ap (λ ns. written ns (drop place bits) values) (sym (drop_all place nets past)) ∙ so_far

-- the same for the q's of flip-flops
pub states_end : (place : ℕ) (flops : List (Flop ℕ)) (bits values whole : List Bool) → length flops ≤ place → written (map (λ f. f.q) (drop place flops)) (drop place bits) values ≡ whole → values ≡ whole
states_end place flops bits values whole past so_far = ap (λ (fs : List (Flop ℕ)). written (map (λ f. f.q) fs) (drop place bits) values) (sym (drop_all place flops past)) ∙ so_far

pub states_all : (flops : List (Flop ℕ)) (bits values new : List Bool) → new ≡ written (map (λ f. f.q) flops) bits values → length bits ≡ length flops → All (λ f. f.q < length values) flops
    → ((net : ℕ) → times net (map (λ f. f.q) flops) ≤ 1) → map (λ f. bits_at new f.q) flops ≡ bits
states_all flops bits values new is long within once =
    sym (map_twice (bits_at new) (λ (f : Flop ℕ). f.q) flops)
    ∙ (ap (λ (v : List Bool). map (bits_at v) (map (λ (f : Flop ℕ). f.q) flops)) is
    ∙ written_all (map (λ f. f.q) flops) bits values (long ∙ sym (length_map (λ (f : Flop ℕ). f.q) flops))
    (all_map_back (λ n. n < length values) (λ (f : Flop ℕ). f.q < length values) (λ (f : Flop ℕ). f.q) (λ f h. h) flops (recursion_from_All (λ (f : Flop ℕ). f.q < length values) flops within)) once)
