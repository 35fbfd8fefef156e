-- A netlist under other names: what it drives and reads, and that it has the same runs, for any meaning of gates.
use Rattle.std.proofs.Common.{◌≡◌, List, [], ◌∷◌, ◌++◌, Bool, map, refl, sym, ap, ◌∙◌, subst}
use Rattle.std.specs.List.{AllByRecursion, flat_map}
use Rattle.bb_base.specs.Net.{Gate, Flop, Netlist, renamed, renamed_gate, renamed_flop, driven, reads}
use Rattle.bb_base.specs.Run.{IsRun, IsRunBy, SettlesBy, MeetsBy, by_op, next_states}
use Rattle.bb_base.proofs.Lists.{map_join, map_twice, all_map, all_map_back}

-- the nets that it drives and reads
pub driven_renamed : {M N : Type 0} (f : M → N) (n : Netlist M) → driven (renamed f n) ≡ map f (driven n)
driven_renamed {M} {N} f n =
    (λ i. map f n.inputs ++ ((map_twice (λ (g : Gate N). g.out) (renamed_gate f) n.gates ∙ sym (map_twice f (λ (g : Gate M). g.out) n.gates)) i
    ++ (map_twice (λ (p : Flop N). p.q) (renamed_flop f) n.flops ∙ sym (map_twice f (λ (p : Flop M). p.q) n.flops)) i))
    ∙ ap (λ ys. map f n.inputs ++ ys) (sym (map_join f (map (λ (g : Gate M). g.out) n.gates) (map (λ (p : Flop M). p.q) n.flops)))
    ∙ sym (map_join f n.inputs (map (λ (g : Gate M). g.out) n.gates ++ map (λ (p : Flop M). p.q) n.flops))

pub ins_renamed : {M N : Type 0} (f : M → N) (gates : List (Gate M)) → flat_map (λ (g : Gate N). g.ins) (map (renamed_gate f) gates) ≡ map f (flat_map (λ (g : Gate M). g.ins) gates)
ins_renamed f [] = refl
ins_renamed {M} {N} f (g ∷ gates) = ap (λ ys. map f g.ins ++ ys) (ins_renamed f gates) ∙ sym (map_join f g.ins (flat_map (λ (k : Gate M). k.ins) gates))

pub reads_renamed : {M N : Type 0} (f : M → N) (n : Netlist M) → reads (renamed f n) ≡ map f (reads n)
reads_renamed {M} {N} f n =
    (λ i. map f n.outputs ++ (ins_renamed f n.gates i ++ (map_twice (λ (p : Flop N). p.d) (renamed_flop f) n.flops ∙ sym (map_twice f (λ (p : Flop M). p.d) n.flops)) i))
    ∙ ap (λ ys. map f n.outputs ++ ys) (sym (map_join f (flat_map (λ (g : Gate M). g.ins) n.gates) (map (λ (p : Flop M). p.d) n.flops)))
    ∙ sym (map_join f n.outputs (flat_map (λ (g : Gate M). g.ins) n.gates ++ map (λ (p : Flop M). p.d) n.flops))

-- g finds a net by its new name
abbrev pub Back : {M N : Type 0} → (M → N) → (N → M) → M → Type 0
Back f g m = g (f m) ≡ m

-- and so each net of the netlist
pub record FindsAll {M N : Type 0} (f : M → N) (g : N → M) (n : Netlist M) : Type 0 where
  pub inputs : AllByRecursion (Back f g) n.inputs
  pub gates : AllByRecursion (λ (h : Gate M). Back f g h.out × AllByRecursion (Back f g) h.ins) n.gates
  pub flops : AllByRecursion (λ (p : Flop M). Back f g p.q × Back f g p.d) n.flops

-- what renamed gates give, said of gates under their old names
abbrev pub meaning_of : {M N : Type 0} → (M → N) → (Gate N → List Bool → Bool) → Gate M → List Bool → Bool
meaning_of f gives g = gives (renamed_gate f g)

module _ {M N : Type 0} (f : M → N) (gives : Gate N → List Bool → Bool) (n : Netlist M) where
  -- values under the new names, as values under the old ones
  pub settles_back : (i s : List Bool) (v : N → Bool) → SettlesBy gives (renamed f n) i s v → SettlesBy (meaning_of f gives) n i s (λ m. v (f m))
  settles_back i s v h = record {
    inputs = sym (map_twice v f n.inputs) ∙ h.inputs;
    state = sym (map_twice (λ (p : Flop N). v p.q) (renamed_flop f) n.flops) ∙ h.state;
    gates = all_map (MeetsBy gives v) (MeetsBy (meaning_of f gives) (λ m. v (f m))) (renamed_gate f) (λ g e. e ∙ ap (gives (renamed_gate f g)) (map_twice v f g.ins)) n.gates h.gates;
  }

  pub settles_forth : (i s : List Bool) (v : N → Bool) → SettlesBy (meaning_of f gives) n i s (λ m. v (f m)) → SettlesBy gives (renamed f n) i s v
  settles_forth i s v h = record {
    inputs = map_twice v f n.inputs ∙ h.inputs;
    state = map_twice (λ (p : Flop N). v p.q) (renamed_flop f) n.flops ∙ h.state;
    gates = all_map_back (MeetsBy gives v) (MeetsBy (meaning_of f gives) (λ m. v (f m))) (renamed_gate f) (λ g e. e ∙ ap (gives (renamed_gate f g)) (sym (map_twice v f g.ins))) n.gates h.gates;
  }

  pub next_same : (v : N → Bool) → next_states (renamed f n) v ≡ next_states n (λ m. v (f m))
  next_same v = map_twice (λ (p : Flop N). v p.d) (renamed_flop f) n.flops

  pub run_back_by : (s : List Bool) (is : List (List Bool)) (vs : List (N → Bool)) → IsRunBy gives (renamed f n) s is vs → IsRunBy (meaning_of f gives) n s is (map (λ v m. v (f m)) vs)
  run_back_by s [] [] h = tt
  run_back_by s (i ∷ is) (v ∷ vs) h =
      (settles_back i s v h.0, subst (λ t. IsRunBy (meaning_of f gives) n t is (map (λ w m. w (f m)) vs)) (next_same v) (run_back_by (next_states (renamed f n) v) is vs h.1))
  run_back_by s [] (v ∷ vs) h = h
  run_back_by s (i ∷ is) [] h = h

  pub run_forth_by : (s : List Bool) (is : List (List Bool)) (vs : List (N → Bool)) → IsRunBy (meaning_of f gives) n s is (map (λ v m. v (f m)) vs) → IsRunBy gives (renamed f n) s is vs
  run_forth_by s [] [] h = tt
  run_forth_by s (i ∷ is) (v ∷ vs) h =
      (settles_forth i s v h.0, run_forth_by (next_states (renamed f n) v) is vs (subst (λ t. IsRunBy (meaning_of f gives) n t is (map (λ w m. w (f m)) vs)) (sym (next_same v)) h.1))
  run_forth_by s [] (v ∷ vs) h = h
  run_forth_by s (i ∷ is) [] h = h

-- the same where each gate is as its operator says
pub run_back : {M N : Type 0} (f : M → N) (n : Netlist M) (s : List Bool) (is : List (List Bool)) (vs : List (N → Bool)) → IsRun (renamed f n) s is vs → IsRun n s is (map (λ v m. v (f m)) vs)
run_back f n s is vs h = run_back_by f by_op n s is vs h

pub run_forth : {M N : Type 0} (f : M → N) (n : Netlist M) (s : List Bool) (is : List (List Bool)) (vs : List (N → Bool)) → IsRun n s is (map (λ v m. v (f m)) vs) → IsRun (renamed f n) s is vs
run_forth f n s is vs h = run_forth_by f by_op n s is vs h
