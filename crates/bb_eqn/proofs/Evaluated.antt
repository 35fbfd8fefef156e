-- Values after gates were evaluated one after another.
use Rattle.std.proofs.Common.{arith, ◌≡◌, ◌≢◌, ℕ, ◌<◌, ◌==◌, Bool, true, false, List, [], ◌∷◌, length, map, refl, sym, ap, ◌∙◌, cond, set, get_or-set_same, get_or-set_other, length-set, drop, ◌≤◌}
use Rattle.std.proofs.lemmas.List.{drop_all}
use Rattle.std.proofs.lemmas.Bool.Decides.{nat_tests}
use Rattle.std.specs.List.{AllByRecursion}
use Rattle.bb_base.specs.Operators.{op_gives}
use Rattle.bb_base.proofs.Lists.{same_map_at}
use Rattle.bb_base.specs.Net.{Gate}
use Rattle.bb_base.specs.Order.{drivers}
use Rattle.bb_base.specs.Run.{Meets}
use Rattle.bb_eqn.specs.Values.{bits_at}
use Rattle.bb_eqn.specs.Sequence.{WriteFirst}

-- the bit that a gate gives
abbrev pub given : Gate ℕ → List Bool → Bool
given g values = op_gives g.op (map (bits_at values) g.ins)

abbrev pub evaluated : List (Gate ℕ) → List Bool → List Bool
evaluated [] values = values
evaluated (g ∷ gates) values = evaluated gates (set values g.out (given g values))

pub evaluated_long : (gates : List (Gate ℕ)) (values : List Bool) → length (evaluated gates values) ≡ length values
evaluated_long [] values = refl
evaluated_long (g ∷ gates) values = evaluated_long gates (set values g.out (given g values)) ∙ length-set values g.out (given g values)

-- where no gate of a list drives a net, neither the first does nor one of the rest
pub not_first : (g : Gate ℕ) (gates : List (Gate ℕ)) (net : ℕ) → drivers (g ∷ gates) net ≡ [] → g.out ≢ net
not_first g gates net none same = by (g.out == net) refl none
  where
    by : (b : Bool) → (g.out == net) ≡ b → cond b (g ∷ drivers gates net) (drivers gates net) ≡ [] → ⊥
    by true e n = cc n
    by false e n = grind (arith, nat_tests, e, same)

pub none_after : (g : Gate ℕ) (gates : List (Gate ℕ)) (net : ℕ) → drivers (g ∷ gates) net ≡ [] → drivers gates net ≡ []
none_after g gates net none = by (g.out == net) none
  where
    by : (b : Bool) → cond b (g ∷ drivers gates net) (drivers gates net) ≡ [] → drivers gates net ≡ []
    by true n = absurd (cc n)
    by false n = n

pub none_before : (g : Gate ℕ) (gates : List (Gate ℕ)) (net : ℕ) → g.out ≢ net → drivers gates net ≡ [] → drivers (g ∷ gates) net ≡ []
none_before g gates net differs none = by (g.out == net) refl
  where
    by : (b : Bool) → (g.out == net) ≡ b → cond b (g ∷ drivers gates net) (drivers gates net) ≡ []
    by true e = absurd (differs (grind (arith, nat_tests, e)))
    by false e = none

-- nets that no gate drives keep their bits
pub evaluated_kept : (gates : List (Gate ℕ)) (values : List Bool) (net : ℕ) → drivers gates net ≡ [] → bits_at (evaluated gates values) net ≡ bits_at values net
evaluated_kept [] values net none = refl
evaluated_kept (g ∷ gates) values net none =
    evaluated_kept gates (set values g.out (given g values)) net (none_after g gates net none)
    ∙ get_or-set_other values g.out net (given g values) false (λ e. not_first g gates net none (sym e))

-- each gate meets its equation
pub evaluated_met : (gates : List (Gate ℕ)) (values : List Bool) → AllByRecursion (λ g. g.out < length values) gates → WriteFirst gates → AllByRecursion (Meets (bits_at (evaluated gates values))) gates
evaluated_met [] values within first = tt
evaluated_met (g ∷ gates) values within first = (here, evaluated_met gates (set values g.out (given g values)) (rest gates within.1) first.2)
  where
    rest : (gs : List (Gate ℕ)) → AllByRecursion (λ x. x.out < length values) gs → AllByRecursion (λ x. x.out < length (set values g.out (given g values))) gs
    rest [] h = tt
    rest (x ∷ gs) h = (omega (arith, h.0, length-set values g.out (given g values)), rest gs h.1)

    same_ins : map (bits_at (evaluated gates (set values g.out (given g values)))) g.ins ≡ map (bits_at values) g.ins
    same_ins = same_map_at (bits_at (evaluated gates (set values g.out (given g values)))) (bits_at values) (λ net. drivers (g ∷ gates) net ≡ []) (λ net none. evaluated_kept (g ∷ gates) values net none) g.ins first.0

    here : bits_at (evaluated gates (set values g.out (given g values))) g.out ≡ op_gives g.op (map (bits_at (evaluated gates (set values g.out (given g values)))) g.ins)
    here =
        evaluated_kept gates (set values g.out (given g values)) g.out first.1
        ∙ (get_or-set_same values g.out (given g values) false within.0 ∙ ap (op_gives g.op) (sym same_ins))

-- at the end of the list nothing is left to evaluate
pub evaluated_end : (place : ℕ) (gates : List (Gate ℕ)) (values whole : List Bool) → length gates ≤ place → evaluated (drop place gates) values ≡ whole → values ≡ whole
evaluated_end place gates values whole past so_far = ap (λ gs. evaluated gs values) (sym (drop_all place gates past)) ∙ so_far
