-- A reader that goes along lines.
use Rattle.std.proofs.Common.{◌≡◌, ℕ, ◌<◌, ◌-◌, ◌^◌, List, [], ◌∷◌, ◌++◌, length, Some, None, Bool, true, false, refl, sym, ap, ◌∙◌, arith, append_assoc, append-nil, subst, length-append, map}
use Rattle.std.proofs.lemmas.List.Elements.{recursion_from_All}
use Rattle.std.specs.List.{list_all, flat_map, AllByRecursion}
use Rattle.bb_base.specs.Net.{Gate, Flop, driven, reads, HasArity}
use Rattle.bb_base.specs.Variables.{Entry}
use Rattle.bb_base.specs.Named.{Named, IsNamed}
use Rattle.bb_base.proofs.Lists.{all_front, all_back, all_map, all_parts, length_map}
use Rattle.bb_spell.specs.Canonical.{with_feed}
use Rattle.bb_spell.specs.TextLines.{is_line_byte, first_line}
use Rattle.bb_canon.specs.Sections.{declares, states_gate, clocks, NoneFirst}
use Rattle.bb_spell.specs.Limits.{IsBuildable}
use Rattle.bb_canon.specs.Toward.{IsDrawn, IsDeclared, IsGateOf, IsFlopOf}
use Rattle.bb_canon.specs.Along.{SayAll, Along, SaysVariable, SaysGate, SaysFlop, VariablesLeft, GatesLeft, FlopsLeft}
use Rattle.bb_spell.proofs.Pieces.{line_again, first_same, nothing_first}

module _ {X : Type 0} (says : X → List ℕ → Type 0) (test : List ℕ → Bool) (clean : (x : X) (l : List ℕ) → says x l → list_all is_line_byte l ≡ true) (passes : (x : X) (l : List ℕ) → says x l → test l ≡ true) where
  -- the first line says the first item
  pub record Goes (items : List X) (line after : List ℕ) (others : List (List ℕ)) : Type 0 where
    pub item : X
    pub left : List X
    pub whole : items ≡ item ∷ left
    pub said : says item line
    pub along : Along says test after left others

  pub along_goes : (text : List ℕ) (items : List X) (others : List (List ℕ)) (line after : List ℕ) → Along says test text items others → first_line text ≡ Some (line, after) → test line ≡ true → Goes items line after others
  along_goes text items others line after h f t = go items h.lines others h.all h.stops h.text_is
    where
      go : (xs : List X) (ls os : List (List ℕ)) → SayAll says xs ls → NoneFirst test os → text ≡ flat_map with_feed (ls ++ os) → Goes xs line after os
      go [] [] [] all stops e = cc (sym f ∙ ap first_line e ∙ nothing_first)
      go [] [] (o ∷ os) all stops e =
          let same = first_same text line o after (flat_map with_feed os) f (ap first_line e ∙ line_again o (flat_map with_feed os) stops.0) in
          cc (sym t ∙ ap test same.0 ∙ stops.1)
      go [] (l ∷ ls) os all stops e = absurd all
      go (x ∷ xs) [] os all stops e = absurd all
      go (x ∷ xs) (l ∷ ls) os all stops e =
          let same = first_same text line l after (flat_map with_feed (ls ++ os)) f (ap first_line e ∙ line_again l (flat_map with_feed (ls ++ os)) (clean x l all.0)) in
          record { item = x; left = xs; whole = refl; said = subst (says x) (sym same.0) all.0; along = record { lines = ls; all = all.1; stops = stops; text_is = same.1 } }

  -- where no such line comes first, no item is left
  pub along_stops : (text : List ℕ) (items : List X) (others : List (List ℕ)) (line after : List ℕ) → Along says test text items others → first_line text ≡ Some (line, after) → test line ≡ false → items ≡ []
  along_stops text items others line after h f t = go items h.lines h.all h.text_is
    where
      go : (xs : List X) (ls : List (List ℕ)) → SayAll says xs ls → text ≡ flat_map with_feed (ls ++ others) → xs ≡ []
      go [] ls all e = refl
      go (x ∷ xs) [] all e = absurd all
      go (x ∷ xs) (l ∷ ls) all e =
          let same = first_same text line l after (flat_map with_feed (ls ++ others)) f (ap first_line e ∙ line_again l (flat_map with_feed (ls ++ others)) (clean x l all.0)) in
          cc (sym t ∙ ap test same.0 ∙ passes x l all.0)

  pub along_ends : (text : List ℕ) (items : List X) (others : List (List ℕ)) → Along says test text items others → first_line text ≡ None → items ≡ []
  along_ends text items others h f = go items h.lines h.all h.text_is
    where
      go : (xs : List X) (ls : List (List ℕ)) → SayAll says xs ls → text ≡ flat_map with_feed (ls ++ others) → xs ≡ []
      go [] ls all e = refl
      go (x ∷ xs) [] all e = absurd all
      go (x ∷ xs) (l ∷ ls) all e = cc (sym f ∙ ap first_line e ∙ line_again l (flat_map with_feed (ls ++ others)) (clean x l all.0))

-- gates
gate_at : (a : Named) (done left : List (Gate ℕ)) (g : Gate ℕ) → IsNamed a → a.netlist.gates ≡ done ++ g ∷ left → IsGateOf a g
gate_at a done left g h e =
    let Below : ℕ → Type 0 = λ net. net < length a.names in
    let outs : List ℕ = map (λ (k : Gate ℕ). k.out) a.netlist.gates in
    let states_gate : List ℕ = map (λ (f : Flop ℕ). f.q) a.netlist.flops in
    let ins : List ℕ = flat_map (λ (k : Gate ℕ). k.ins) a.netlist.gates in
    let nexts : List ℕ = map (λ (f : Flop ℕ). f.d) a.netlist.flops in
    let drives = all_back Below a.netlist.inputs (outs ++ states_gate) (recursion_from_All Below (driven a.netlist) h.consistent.drives_nets) in
    let behind = all_back Below a.netlist.outputs (ins ++ nexts) (recursion_from_All Below (reads a.netlist) h.consistent.reads_nets) in
    let out_facts : AllByRecursion (λ (k : Gate ℕ). Below k.out) a.netlist.gates = all_map Below (λ k. Below k.out) (λ k. k.out) (λ k m. m) a.netlist.gates (all_front Below outs states_gate drives) in
    let in_facts : AllByRecursion (λ (k : Gate ℕ). AllByRecursion Below k.ins) a.netlist.gates = all_parts Below (λ k. k.ins) a.netlist.gates (all_front Below ins nexts behind) in
    record {
      arity = (all_back HasArity done (g ∷ left) (subst (AllByRecursion HasArity) e (recursion_from_All HasArity a.netlist.gates h.consistent.arities))).0;
      out = (all_back (λ (k : Gate ℕ). Below k.out) done (g ∷ left) (subst (AllByRecursion (λ (k : Gate ℕ). Below k.out)) e out_facts)).0;
      ins = (all_back (λ (k : Gate ℕ). AllByRecursion Below k.ins) done (g ∷ left) (subst (AllByRecursion (λ (k : Gate ℕ). AllByRecursion Below k.ins)) e in_facts)).0;
    }

gates_few : (a : Named) (done left : List (Gate ℕ)) (g : Gate ℕ) → IsBuildable a → a.netlist.gates ≡ done ++ g ∷ left → length done < 2 ^ 32 - 1
gates_few a done left g h e =
    let outs : List ℕ = map (λ (k : Gate ℕ). k.out) a.netlist.gates in
    let states_gate : List ℕ = map (λ (f : Flop ℕ). f.q) a.netlist.flops in
    omega (arith, h.nets, h.named.names, length-append a.netlist.inputs (outs ++ states_gate), length-append outs states_gate, length_map (λ (k : Gate ℕ). k.out) a.netlist.gates, ap length e, length-append done (g ∷ left))

pub record GateGoes (a n : Named) (line after : List ℕ) (others : List (List ℕ)) : Type 0 where
  pub done : List (Gate ℕ)
  pub gate : Gate ℕ
  pub drawn : IsDrawn a n done []
  pub is : IsGateOf a gate
  pub few : length done < 2 ^ 32 - 1
  pub said : SaysGate a gate line
  pub more : (new : Named) → IsDrawn a new (done ++ gate ∷ []) [] → GatesLeft a new after others

pub gate_goes : (a n : Named) (text : List ℕ) (others : List (List ℕ)) (line after : List ℕ) → IsBuildable a → GatesLeft a n text others → first_line text ≡ Some (line, after) → states_gate line ≡ true → GateGoes a n line after others
gate_goes a n text others line after b h f t =
    let goes = along_goes (SaysGate a) states_gate (λ x l s. s.clean) (λ x l s. s.passes) text h.left others line after h.along f t in
    let whole : a.netlist.gates ≡ h.done ++ goes.item ∷ goes.left = h.whole ∙ ap (λ gs. h.done ++ gs) goes.whole in
    record {
      done = h.done;
      gate = goes.item;
      drawn = h.drawn;
      is = gate_at a h.done goes.left goes.item b.named whole;
      few = gates_few a h.done goes.left goes.item b whole;
      said = goes.said;
      more = λ new d. record { done = h.done ++ goes.item ∷ []; left = goes.left; whole = whole ∙ sym (append_assoc h.done (goes.item ∷ []) goes.left); drawn = d; along = goes.along };
    }

gates_all : (a n : Named) (text : List ℕ) (others : List (List ℕ)) (h : GatesLeft a n text others) → h.left ≡ [] → IsDrawn a n a.netlist.gates []
gates_all a n text others h e = subst (λ gs. IsDrawn a n gs []) (sym (h.whole ∙ ap (λ gs. h.done ++ gs) e ∙ append-nil h.done)) h.drawn

pub gates_stop : (a n : Named) (text : List ℕ) (others : List (List ℕ)) (line after : List ℕ) → GatesLeft a n text others → first_line text ≡ Some (line, after) → states_gate line ≡ false → IsDrawn a n a.netlist.gates []
gates_stop a n text others line after h f t = gates_all a n text others h (along_stops (SaysGate a) states_gate (λ x l s. s.clean) (λ x l s. s.passes) text h.left others line after h.along f t)

pub gates_end : (a n : Named) (text : List ℕ) (others : List (List ℕ)) → GatesLeft a n text others → first_line text ≡ None → IsDrawn a n a.netlist.gates []
gates_end a n text others h f = gates_all a n text others h (along_ends (SaysGate a) states_gate (λ x l s. s.clean) (λ x l s. s.passes) text h.left others h.along f)

-- flip-flops
flop_at : (a : Named) (done left : List (Flop ℕ)) (f : Flop ℕ) → IsNamed a → a.netlist.flops ≡ done ++ f ∷ left → IsFlopOf a f
flop_at a done left f h e =
    let Below : ℕ → Type 0 = λ net. net < length a.names in
    let outs : List ℕ = map (λ (k : Gate ℕ). k.out) a.netlist.gates in
    let states_gate : List ℕ = map (λ (k : Flop ℕ). k.q) a.netlist.flops in
    let ins : List ℕ = flat_map (λ (k : Gate ℕ). k.ins) a.netlist.gates in
    let nexts : List ℕ = map (λ (k : Flop ℕ). k.d) a.netlist.flops in
    let drives = all_back Below a.netlist.inputs (outs ++ states_gate) (recursion_from_All Below (driven a.netlist) h.consistent.drives_nets) in
    let behind = all_back Below a.netlist.outputs (ins ++ nexts) (recursion_from_All Below (reads a.netlist) h.consistent.reads_nets) in
    let q_facts : AllByRecursion (λ (k : Flop ℕ). Below k.q) a.netlist.flops = all_map Below (λ k. Below k.q) (λ k. k.q) (λ k m. m) a.netlist.flops (all_back Below outs states_gate drives) in
    let d_facts : AllByRecursion (λ (k : Flop ℕ). Below k.d) a.netlist.flops = all_map Below (λ k. Below k.d) (λ k. k.d) (λ k m. m) a.netlist.flops (all_back Below ins nexts behind) in
    record {
      q = (all_back (λ (k : Flop ℕ). Below k.q) done (f ∷ left) (subst (AllByRecursion (λ (k : Flop ℕ). Below k.q)) e q_facts)).0;
      d = (all_back (λ (k : Flop ℕ). Below k.d) done (f ∷ left) (subst (AllByRecursion (λ (k : Flop ℕ). Below k.d)) e d_facts)).0;
    }

flops_few : (a : Named) (done left : List (Flop ℕ)) (f : Flop ℕ) → IsBuildable a → a.netlist.flops ≡ done ++ f ∷ left → length done < 2 ^ 32 - 1
flops_few a done left f h e =
    let outs : List ℕ = map (λ (k : Gate ℕ). k.out) a.netlist.gates in
    let states_gate : List ℕ = map (λ (k : Flop ℕ). k.q) a.netlist.flops in
    omega (arith, h.nets, h.named.names, length-append a.netlist.inputs (outs ++ states_gate), length-append outs states_gate, length_map (λ (k : Flop ℕ). k.q) a.netlist.flops, ap length e, length-append done (f ∷ left))

pub record FlopGoes (a n : Named) (line after : List ℕ) (others : List (List ℕ)) : Type 0 where
  pub done : List (Flop ℕ)
  pub flop : Flop ℕ
  pub drawn : IsDrawn a n a.netlist.gates done
  pub is : IsFlopOf a flop
  pub few : length done < 2 ^ 32 - 1
  pub said : SaysFlop a flop line
  pub more : (new : Named) → IsDrawn a new a.netlist.gates (done ++ flop ∷ []) → FlopsLeft a new after others

pub flop_goes : (a n : Named) (text : List ℕ) (others : List (List ℕ)) (line after : List ℕ) → IsBuildable a → FlopsLeft a n text others → first_line text ≡ Some (line, after) → clocks line ≡ true → FlopGoes a n line after others
flop_goes a n text others line after b h f t =
    let goes = along_goes (SaysFlop a) clocks (λ x l s. s.clean) (λ x l s. s.passes) text h.left others line after h.along f t in
    let whole : a.netlist.flops ≡ h.done ++ goes.item ∷ goes.left = h.whole ∙ ap (λ fs. h.done ++ fs) goes.whole in
    record {
      done = h.done;
      flop = goes.item;
      drawn = h.drawn;
      is = flop_at a h.done goes.left goes.item b.named whole;
      few = flops_few a h.done goes.left goes.item b whole;
      said = goes.said;
      more = λ new d. record { done = h.done ++ goes.item ∷ []; left = goes.left; whole = whole ∙ sym (append_assoc h.done (goes.item ∷ []) goes.left); drawn = d; along = goes.along };
    }

flops_all : (a n : Named) (text : List ℕ) (others : List (List ℕ)) (h : FlopsLeft a n text others) → h.left ≡ [] → IsDrawn a n a.netlist.gates a.netlist.flops
flops_all a n text others h e = subst (λ fs. IsDrawn a n a.netlist.gates fs) (sym (h.whole ∙ ap (λ fs. h.done ++ fs) e ∙ append-nil h.done)) h.drawn

pub flops_stop : (a n : Named) (text : List ℕ) (others : List (List ℕ)) (line after : List ℕ) → FlopsLeft a n text others → first_line text ≡ Some (line, after) → clocks line ≡ false → IsDrawn a n a.netlist.gates a.netlist.flops
flops_stop a n text others line after h f t = flops_all a n text others h (along_stops (SaysFlop a) clocks (λ x l s. s.clean) (λ x l s. s.passes) text h.left others line after h.along f t)

pub flops_end : (a n : Named) (text : List ℕ) (others : List (List ℕ)) → FlopsLeft a n text others → first_line text ≡ None → IsDrawn a n a.netlist.gates a.netlist.flops
flops_end a n text others h f = flops_all a n text others h (along_ends (SaysFlop a) clocks (λ x l s. s.clean) (λ x l s. s.passes) text h.left others h.along f)

-- variables
pub record VariableGoes (a n : Named) (line after : List ℕ) (others : List (List ℕ)) : Type 0 where
  pub variable : Entry
  pub left : List Entry
  pub declared : IsDeclared a n (variable ∷ left)
  pub said : SaysVariable variable line
  pub more : (new : Named) → IsDeclared a new left → VariablesLeft a new after others

pub variable_goes : (a n : Named) (text : List ℕ) (others : List (List ℕ)) (line after : List ℕ) → VariablesLeft a n text others → first_line text ≡ Some (line, after) → declares line ≡ true → VariableGoes a n line after others
variable_goes a n text others line after h f t =
    let goes = along_goes SaysVariable declares (λ x l s. s.clean) (λ x l s. s.passes) text h.left others line after h.along f t in
    record {
      variable = goes.item;
      left = goes.left;
      declared = subst (IsDeclared a n) goes.whole h.declared;
      said = goes.said;
      more = λ new d. record { left = goes.left; declared = d; along = goes.along };
    }

pub variables_stop : (a n : Named) (text : List ℕ) (others : List (List ℕ)) (line after : List ℕ) → VariablesLeft a n text others → first_line text ≡ Some (line, after) → declares line ≡ false → IsDeclared a n []
variables_stop a n text others line after h f t = subst (IsDeclared a n) (along_stops SaysVariable declares (λ x l s. s.clean) (λ x l s. s.passes) text h.left others line after h.along f t) h.declared

pub variables_end : (a n : Named) (text : List ℕ) (others : List (List ℕ)) → VariablesLeft a n text others → first_line text ≡ None → IsDeclared a n []
variables_end a n text others h f = subst (IsDeclared a n) (along_ends SaysVariable declares (λ x l s. s.clean) (λ x l s. s.passes) text h.left others h.along f) h.declared
