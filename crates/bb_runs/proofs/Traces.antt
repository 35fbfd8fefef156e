-- Runs are traces, and traces are runs.
use Rattle.std.proofs.Common.{sym, ◌≡◌, ℕ, zero, suc, ◌<◌, Bool, List, [], ◌∷◌, length, map, arith, subst, refl, ◌+◌, ap, ◌∙◌}
use Rattle.std.specs.List.{AllByRecursion, range_with_len}
use Rattle.bb_base.specs.Net.{Flop, Netlist, Gate}
use Rattle.bb_base.specs.Run.{IsRunBy, SettlesBy, MeetsBy, states, next_states, at, IsTrace}
use Rattle.bb_base.proofs.Contained.{each_same}

-- maps by functions that agree at each item
same_each : {X Y : Type 0} (f g : X → Y) (xs : List X) → AllByRecursion (λ x. f x ≡ g x) xs → map f xs ≡ map g xs
same_each f g [] h = refl
same_each f g (x ∷ xs) h = λ i. h.0 i ∷ same_each f g xs h.1 i

module _ {N : Type 0} (gives : Gate N → List Bool → Bool) (n : Netlist N) where
  gates_at : (s : List Bool) (is : List (List Bool)) (vs : List (N → Bool)) → IsRunBy gives n s is vs → (c : ℕ) → c < length vs → AllByRecursion (MeetsBy gives (at vs c)) n.gates
  gates_at s [] [] run c less = absurd (omega (arith, less))
  gates_at s [] (v ∷ vs) run c less = absurd run
  gates_at s (i ∷ is) [] run c less = absurd run
  gates_at s (i ∷ is) (v ∷ vs) run zero less = run.0.gates
  gates_at s (i ∷ is) (v ∷ vs) run (suc c) less = gates_at (next_states n v) is vs run.1 c (omega (arith, less))

  flops_at : (s : List Bool) (is : List (List Bool)) (vs : List (N → Bool)) → IsRunBy gives n s is vs → (c : ℕ) → suc c < length vs → AllByRecursion (λ f. at vs (suc c) f.q ≡ at vs c f.d) n.flops
  flops_at s [] [] run c less = absurd (omega (arith, less))
  flops_at s [] (v ∷ vs) run c less = absurd run
  flops_at s (i ∷ is) [] run c less = absurd run
  flops_at s (i ∷ is) (v ∷ []) run c less = absurd (omega (arith, less))
  flops_at s (i ∷ []) (v ∷ w ∷ vs) run c less = absurd run.1
  flops_at s (i ∷ j ∷ is) (v ∷ w ∷ vs) run zero less = each_same (λ (f : Flop N). w f.q) (λ (f : Flop N). v f.d) n.flops run.1.0.state
  flops_at s (i ∷ j ∷ is) (v ∷ w ∷ vs) run (suc c) less = flops_at (next_states n v) (j ∷ is) (w ∷ vs) run.1 c (omega (arith, less))

  pub trace_of : (s : List Bool) (is : List (List Bool)) (vs : List (N → Bool)) → IsRunBy gives n s is vs → IsTrace gives n.gates n.flops (length vs) (at vs)
  trace_of s is vs run = record { gates_meet = gates_at s is vs run; flops_take = flops_at s is vs run }

  -- the bits of the inputs in each cycle
  abbrev pub inputs_of : List (N → Bool) → List (List Bool)
  inputs_of vs = map (λ v. map v n.inputs) vs

  settles_first : (v : N → Bool) (vs : List (N → Bool)) → IsTrace gives n.gates n.flops (length (v ∷ vs)) (at (v ∷ vs)) → SettlesBy gives n (map v n.inputs) (states n v) v
  settles_first v vs t = record { inputs = refl; state = refl; gates = t.gates_meet 0 (omega arith) }

  later : (v : N → Bool) (vs : List (N → Bool)) → IsTrace gives n.gates n.flops (length (v ∷ vs)) (at (v ∷ vs)) → IsTrace gives n.gates n.flops (length vs) (at vs)
  later v vs t = record { gates_meet = λ c less. t.gates_meet (suc c) (omega (arith, less)); flops_take = λ c less. t.flops_take (suc c) (omega (arith, less)) }

  pub run_of : (vs : List (N → Bool)) → IsTrace gives n.gates n.flops (length vs) (at vs) → IsRunBy gives n (states n (at vs 0)) (inputs_of vs) vs
  run_of [] t = tt
  run_of (v ∷ []) t = (settles_first v [] t, tt)
  run_of (v ∷ w ∷ vs) t =
      let next : states n w ≡ next_states n v = same_each (λ (f : Flop N). w f.q) (λ (f : Flop N). v f.d) n.flops (t.flops_take 0 (omega arith)) in
      (settles_first v (w ∷ vs) t, subst (λ s. IsRunBy gives n s (inputs_of (w ∷ vs)) (w ∷ vs)) next (run_of (w ∷ vs) (later v (w ∷ vs) t)))

  -- bits by the number of the cycle, of so many cycles from one on
  pub run_at : (v : ℕ → N → Bool) (first cycles : ℕ) → ((c : ℕ) → c < first + cycles → AllByRecursion (MeetsBy gives (v c)) n.gates) → ((c : ℕ) → suc c < first + cycles → AllByRecursion (λ f. v (suc c) f.q ≡ v c f.d) n.flops)
      → IsRunBy gives n (states n (v first)) (map (λ c. map (v c) n.inputs) (range_with_len first cycles)) (map v (range_with_len first cycles))
  run_at v first zero meet take = tt
  run_at v first (suc zero) meet take = (record { inputs = refl; state = refl; gates = meet first (omega arith) }, tt)
  run_at v first (suc (suc cycles)) meet take =
      let next : suc first ≡ first + 1 = omega arith in
      let rest = run_at v (first + 1) (suc cycles) (λ c less. meet c (omega (arith, less))) (λ c less. take c (omega (arith, less))) in
      let taken : states n (v (first + 1)) ≡ next_states n (v first) =
      ap (λ c. states n (v c)) (sym next) ∙ same_each (λ (f : Flop N). v (suc first) f.q) (λ (f : Flop N). v first f.d) n.flops (take first (omega arith)) in (
        record { inputs = refl; state = refl; gates = meet first (omega arith) },
        subst (λ s. IsRunBy gives n s (map (λ c. map (v c) n.inputs) (range_with_len (first + 1) (suc cycles))) (map v (range_with_len (first + 1) (suc cycles)))) taken rest,
      )

  pub run_of_trace : (v : ℕ → N → Bool) (cycles : ℕ) → IsTrace gives n.gates n.flops cycles v
      → IsRunBy gives n (states n (v 0)) (map (λ c. map (v c) n.inputs) (range_with_len 0 cycles)) (map v (range_with_len 0 cycles))
  run_of_trace v cycles t = run_at v 0 cycles (λ c less. t.gates_meet c (omega (arith, less))) (λ c less. t.flops_take c (omega (arith, less)))
