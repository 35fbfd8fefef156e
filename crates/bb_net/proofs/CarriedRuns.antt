-- Runs under old names, carried to new ones.
use Rattle.std.proofs.Common.{◌≡◌, List, [], ◌∷◌, Bool, map, sym, ap, ◌∙◌, subst}
use Rattle.std.specs.List.{AllByRecursion}
use Rattle.bb_base.specs.Net.{Gate, Flop, Netlist, renamed, renamed_gate, renamed_flop}
use Rattle.bb_base.specs.Run.{IsRunBy, SettlesBy, MeetsBy, next_states}
use Rattle.bb_base.proofs.Lists.{both_map, map_alike}
use Rattle.bb_base.proofs.Renamed.{Back, FindsAll, meaning_of}

-- values under the old names, carried to the new ones
pub run_named_by : {M N : Type 0} (f : M → N) (g : N → M) (gives : Gate N → List Bool → Bool) (n : Netlist M) → FindsAll f g n → (s : List Bool) (is : List (List Bool)) (ws : List (M → Bool))
    → IsRunBy (meaning_of f gives) n s is ws → IsRunBy gives (renamed f n) s is (map (λ w k. w (g k)) ws)
run_named_by f g gives n named s [] [] h = tt
run_named_by {M} {N} f g gives n named s (i ∷ is) (w ∷ ws) h =
    let v : N → Bool = λ k. w (g k) in
    let val : SettlesBy gives (renamed f n) i s v = record {
      inputs = map_alike v f w (Back f g) (λ x e. ap w e) n.inputs named.inputs ∙ h.0.inputs;
      state = map_alike (λ (p : Flop N). v p.q) (renamed_flop f) (λ (p : Flop M). w p.q) (λ (p : Flop M). Back f g p.q × Back f g p.d) (λ p e. ap w e.0) n.flops named.flops ∙ h.0.state;
      gates = both_map (MeetsBy gives v) (MeetsBy (meaning_of f gives) w) (λ (q : Gate M). Back f g q.out × AllByRecursion (Back f g) q.ins) (renamed_gate f)
          (λ q m e. ap w e.0 ∙ m ∙ ap (gives (renamed_gate f q)) (sym (map_alike v f w (Back f g) (λ x d. ap w d) q.ins e.1))) n.gates h.0.gates named.gates;
    } in
    let next : next_states (renamed f n) v ≡ next_states n w = map_alike (λ (p : Flop N). v p.d) (renamed_flop f) (λ (p : Flop M). w p.d) (λ (p : Flop M). Back f g p.q × Back f g p.d) (λ p e. ap w e.1) n.flops named.flops in
    (val, subst (λ t. IsRunBy gives (renamed f n) t is (map (λ u k. u (g k)) ws)) (sym next) (run_named_by f g gives n named (next_states n w) is ws h.1))
run_named_by f g gives n named s [] (w ∷ ws) h = h
run_named_by f g gives n named s (i ∷ is) [] h = h
