-- Normal operation: outside a test the written netlist runs as the original does, at the nets that both have.
use Rattle.std.specs.Prelude.{◌≡◌, List, [], ◌∷◌, ◌++◌, length, map, Bool, false}
use Rattle.std.specs.List.{AllByRecursion}
use Rattle.bb_base.specs.Net.{Netlist, driven}
use Rattle.bb_base.specs.Run.{IsRun}
use Rattle.bb_net.specs.Sites.{Site}
use Rattle.bb_terms.specs.declared.wire.Wire.TheVariants.{Test, Init, So, Done}
use Rattle.bb_terms.specs.Wires.{symbol_name}
use Rattle.bb_written.specs.Written.{scalar_site}

abbrev pub site_test : Site
site_test = scalar_site (symbol_name Test)

abbrev pub site_init : Site
site_init = scalar_site (symbol_name Init)

abbrev pub site_so : Site
site_so = scalar_site (symbol_name So)

abbrev pub site_done : Site
site_done = scalar_site (symbol_name Done)

-- the inputs of each cycle outside a test: the original's, 0 for `bt_test`, and a bit for `bt_init`
abbrev pub inputs_outside : List (List Bool) → List Bool → List (List Bool)
inputs_outside [] inits = []
inputs_outside (i ∷ is) [] = []
inputs_outside (i ∷ is) (b ∷ bs) = (i ++ false ∷ b ∷ []) ∷ inputs_outside is bs

-- in each cycle the second bits are the first at these nets
abbrev pub HaveSameBits : List Site → List (Site → Bool) → List (Site → Bool) → Type 0
HaveSameBits nets [] [] = Unit {0}
HaveSameBits nets (v ∷ vs) (w ∷ ws) = AllByRecursion (λ net. w net ≡ v net) nets × HaveSameBits nets vs ws
HaveSameBits nets [] (w ∷ ws) = ⊥
HaveSameBits nets (v ∷ vs) [] = ⊥

-- they are in the first cycle
abbrev pub Corresponds : List Site → List (Site → Bool) → List (Site → Bool) → Type 0
Corresponds nets [] ws = Unit {0}
Corresponds nets (v ∷ vs) [] = Unit {0}
Corresponds nets (v ∷ vs) (w ∷ ws) = AllByRecursion (λ net. w net ≡ v net) nets

-- each net of a has in each cycle of b's runs outside a test the bit that it has in a's run with the same inputs, from every start in
-- which the flip-flops of a have the same bits, whatever `bt_init` is
abbrev pub KeepsBits : Netlist Site → Netlist Site → Type 0
KeepsBits a b =
    (s t : List Bool) (is : List (List Bool)) (inits : List Bool) (vs ws : List (Site → Bool)) → length inits ≡ length is → IsRun a s is vs → IsRun b t (inputs_outside is inits) ws
    → Corresponds (map (λ f. f.q) a.flops) vs ws → HaveSameBits (driven a) vs ws

-- from every start and for every list of inputs the netlist has a run
abbrev pub RunsFromAll : Netlist Site → Type 0
RunsFromAll n = (s : List Bool) (is : List (List Bool)) → length s ≡ length n.flops → AllByRecursion (λ i. length i ≡ length n.inputs) is → (vs : List (Site → Bool)) × IsRun n s is vs

pub record Normal (a b : Netlist Site) : Type 0 where
  -- b's inputs are a's and two more, and its outputs a's and two more
  pub inputs : b.inputs ≡ a.inputs ++ site_test ∷ site_init ∷ []
  pub outputs : b.outputs ≡ a.outputs ++ site_so ∷ site_done ∷ []
  pub bits : KeepsBits a b
  pub runs : RunsFromAll b
