-- Traces and runs of a netlist whose drivers are the written one's, over symbols.
use Rattle.std.proofs.Common.{◌≡◌, ℕ, suc, Bool, List, [], ◌∷◌, map, refl, sym, ap, subst, ◌∙◌, Contains}
use Rattle.std.specs.List.{AllByRecursion}
use Rattle.bb_base.specs.Net.{Gate, Flop, Netlist, renamed_gate, renamed_flop}
use Rattle.bb_base.specs.Run.{IsTrace, IsRunBy, SettlesBy, MeetsBy, states, next_states, at}
use Rattle.bb_base.specs.Named.{Named}
use Rattle.bb_net.specs.Sites.{Site, sited}
use Rattle.bb_base.proofs.Contained.{of_all, to_all, each_same}
use Rattle.bb_base.proofs.Lists.{all_map, map_twice}
use Rattle.bb_terms.specs.Plan.{PlanValue}
use Rattle.bb_written.specs.Written.{wire_site, written_netlist, written}
use Rattle.bb_normal.specs.Mirrors.{Mirrors}

own : (b : Named) → Mirrors (sited b) b
own b = record { module_name = refl; ports = refl; clock = refl; inputs = refl; outputs = refl; gates = λ g. ((λ c. c), (λ c. c)); flops = λ f. ((λ c. c), (λ c. c)) }

pub itself : (a b : Named) (p : PlanValue) → sited b ≡ written a p → Mirrors (written a p) b
itself a b p e = subst (λ w. Mirrors w b) e (own b)

-- what holds of all items of a list holds of all of another with the same items
all_across : {X : Type 0} (P : X → Type 0) (xs ys : List X) → ((x : X) → Contains xs x → Contains ys x) → AllByRecursion P ys → AllByRecursion P xs
all_across P xs ys within all = to_all P xs (λ x c. of_all P ys x all (within x c))

-- maps by functions that agree at each item
pub same_each : {X Y : Type 0} (f g : X → Y) (xs : List X) → AllByRecursion (λ x. f x ≡ g x) xs → map f xs ≡ map g xs
same_each f g [] h = refl
same_each f g (x ∷ xs) h = let rest = same_each f g xs h.1 in λ i. h.0 i ∷ rest i

module _ {M N : Type 0} (f : M → N) (gives : Gate N → List Bool → Bool) (n : Netlist M) (b : Netlist N) (inputs : b.inputs ≡ map f n.inputs)
    (gates : (g : Gate N) → Contains (map (renamed_gate f) n.gates) g → Contains b.gates g) (flops : (p : Flop N) → Contains (map (renamed_flop f) n.flops) p → Contains b.flops p) where
  gates_meet : (v : N → Bool) → AllByRecursion (MeetsBy gives v) b.gates → AllByRecursion (MeetsBy (λ g. gives (renamed_gate f g)) (λ m. v (f m))) n.gates
  gates_meet v all =
      all_map (MeetsBy gives v) (MeetsBy (λ g. gives (renamed_gate f g)) (λ m. v (f m))) (renamed_gate f) (λ g e. e ∙ ap (gives (renamed_gate f g)) (map_twice v f g.ins)) n.gates
      (all_across (MeetsBy gives v) (map (renamed_gate f) n.gates) b.gates gates all)

  flops_take : (v w : N → Bool) → AllByRecursion (λ (p : Flop N). w p.q ≡ v p.d) b.flops → AllByRecursion (λ (p : Flop M). w (f p.q) ≡ v (f p.d)) n.flops
  flops_take v w all =
      all_map (λ (p : Flop N). w p.q ≡ v p.d) (λ (p : Flop M). w (f p.q) ≡ v (f p.d)) (renamed_flop f) (λ p e. e) n.flops
      (all_across (λ (p : Flop N). w p.q ≡ v p.d) (map (renamed_flop f) n.flops) b.flops flops all)

  pub trace_back : (cycles : ℕ) (v : ℕ → N → Bool) → IsTrace gives b.gates b.flops cycles v → IsTrace (λ g. gives (renamed_gate f g)) n.gates n.flops cycles (λ c m. v c (f m))
  trace_back cycles v t = record { gates_meet = λ c less. gates_meet (v c) (t.gates_meet c less); flops_take = λ c less. flops_take (v c) (v (suc c)) (t.flops_take c less) }

  settles : (i s : List Bool) (v : N → Bool) → SettlesBy gives b i s v → SettlesBy (λ g. gives (renamed_gate f g)) n i (states n (λ m. v (f m))) (λ m. v (f m))
  settles i s v h = record { inputs = sym (map_twice v f n.inputs) ∙ ap (map v) (sym inputs) ∙ h.inputs; state = refl; gates = gates_meet v h.gates }

  pub run_over : (s : List Bool) (is : List (List Bool)) (vs : List (N → Bool)) → IsRunBy gives b s is vs
      → IsRunBy (λ g. gives (renamed_gate f g)) n (states n (λ m. at vs 0 (f m))) is (map (λ v m. v (f m)) vs)
  run_over s [] [] h = tt
  run_over s (i ∷ is) [] h = h
  run_over s [] (v ∷ vs) h = h
  run_over s (i ∷ []) (v ∷ []) h = (settles i s v h.0, tt)
  run_over s (i ∷ j ∷ is) (v ∷ []) h = absurd h.1
  run_over s (i ∷ []) (v ∷ w ∷ vs) h = absurd h.1
  run_over s (i ∷ j ∷ is) (v ∷ w ∷ vs) h =
      let took : AllByRecursion (λ (p : Flop N). w p.q ≡ v p.d) b.flops = each_same (λ (p : Flop N). w p.q) (λ (p : Flop N). v p.d) b.flops h.1.0.state in
      let next : states n (λ m. w (f m)) ≡ next_states n (λ m. v (f m)) = same_each (λ (p : Flop M). w (f p.q)) (λ (p : Flop M). v (f p.d)) n.flops (flops_take v w took) in
      (settles i s v h.0, subst (λ t. IsRunBy (λ g. gives (renamed_gate f g)) n t (j ∷ is) (map (λ u m. u (f m)) (w ∷ vs))) next (run_over (next_states b v) (j ∷ is) (w ∷ vs) h.1))

module _ (a b : Named) (p : PlanValue) (gives : Gate Site → List Bool → Bool) where
  pub trace_symbols : (cycles : ℕ) (v : ℕ → Site → Bool) → Mirrors (written a p) b → IsTrace gives (sited b).netlist.gates (sited b).netlist.flops cycles v
      → IsTrace (λ g. gives (renamed_gate (wire_site a) g)) (written_netlist a.netlist p).gates (written_netlist a.netlist p).flops cycles (λ c w. v c (wire_site a w))
  trace_symbols cycles v m t = trace_back (wire_site a) gives (written_netlist a.netlist p) (sited b).netlist m.inputs (λ g. (m.gates g).1) (λ f. (m.flops f).1) cycles v t

  pub run_symbols : (s : List Bool) (is : List (List Bool)) (vs : List (Site → Bool)) → Mirrors (written a p) b → IsRunBy gives (sited b).netlist s is vs
      → IsRunBy (λ g. gives (renamed_gate (wire_site a) g)) (written_netlist a.netlist p) (states (written_netlist a.netlist p) (λ w. at vs 0 (wire_site a w))) is (map (λ v w. v (wire_site a w)) vs)
  run_symbols s is vs m h = run_over (wire_site a) gives (written_netlist a.netlist p) (sited b).netlist m.inputs (λ g. (m.gates g).1) (λ f. (m.flops f).1) s is vs h
