-- What the module of a named netlist's canonical text makes.
use Rattle.std.proofs.Common.{◌≡◌, ℕ, ◌+◌, ◌<◌, ◌≤◌, List, [], ◌∷◌, ◌++◌, length, map, Some, None, Option, true, refl, sym, ap, ◌∙◌, append_assoc, append-nil, Bool, false}
use Rattle.std.specs.List.{AllByRecursion}
use Rattle.std.specs.Option.{option_map}
use Rattle.std.proofs.lemmas.List.Elements.{recursion_from_All}
use Rattle.bb_lex.specs.Text.{number}
use Rattle.bb_base.specs.declared.variable.BitName.{BitName}
use Rattle.bb_base.specs.Net.{Gate, Flop, renamed_gate, renamed_flop, HasArity}
use Rattle.bb_base.specs.Variables.{Entry, Bit, IsBit, bit_of, bit_count, limit_of}
use Rattle.bb_base.specs.Named.{Named, IsNamed, design_of, net_text, name_of_net}
use Rattle.bb_base.proofs.Lists.{all_join}
use Rattle.bb_parse.specs.declared.syntax.Item.{Item}
use Rattle.bb_scope.specs.Variables.{variables}
use Rattle.bb_scope.specs.Text.{text_fault}
use Rattle.bb_fault.specs.Work.{Work, Clocked}
use Rattle.bb_scope.specs.Making.{item_made, items_made, work_of}
use Rattle.bb_meaning.specs.Outcome.{work_in}
use Rattle.bb_canon_parse.specs.Printed.{declared, stated, clocked, by_lines, flops_by_lines, spelled_module}
use Rattle.bb_print.proofs.PrintedBits.{Differ, differ_from, number_of}
use Rattle.bb_print.proofs.PrintedNames.{PortsFirst, ports_first}
use Rattle.bb_print.proofs.PrintedItems.{ItemStands, stands_of, IsSound, Net, GateStands, FlopStands, gate_sound, flop_sound, gate_made, flop_made, with_gate, with_flop}
use Rattle.bb_print.proofs.PrintedText.{variables_are, not_reserved, no_text_fault}
use Rattle.bb_print.specs.Elaborated.{HasNamesFor}
use Rattle.bb_base.specs.OwnNames.{is_reserved}
use Rattle.bb_scope.specs.Names.{reserved}
use Rattle.bb_print.proofs.NetsOf.{gate_outs, gate_ins, flop_qs, flop_ds}
use Rattle.bb_print.proofs.Sieves.{weaken}

-- items in a row
items_join : (vs : List Entry) (xs ys : List Item) (w : Work) → items_made vs (xs ++ ys) w ≡ items_made vs ys (items_made vs xs w)
items_join vs [] ys w = refl
items_join vs (x ∷ xs) ys w = items_join vs xs ys (item_made vs x w).1

declared_made : (vs : List Entry) (before : ℕ) (es : List Entry) (w : Work) → items_made vs (by_lines declared before es) w ≡ w
declared_made vs before [] w = refl
declared_made vs before (e ∷ es) w = declared_made vs (before + 1) es w

all_sound : {X Y : Type 0} (P : Item → Type 0) (Q : X → Type 0) (make : ℕ → Y → Item) (f : X → Y) → ((line : ℕ) (x : X) → Q x → P (make line (f x))) → (before : ℕ) (xs : List X) → AllByRecursion Q xs → AllByRecursion P (by_lines make before (map f xs))
all_sound P Q make f h before [] all = tt
all_sound P Q make f h before (x ∷ xs) all = (h (number before) x all.0, all_sound P Q make f h (before + 1) xs all.1)

module _ (vs : List Entry) (t : ℕ → Bit) (num : ℕ → ℕ) where
  gates_made : (before : ℕ) (gs : List (Gate ℕ)) (w : Work) → AllByRecursion (GateStands vs t num) gs → items_made vs (by_lines stated before (map (renamed_gate t) gs)) w ≡ record w { gates = w.gates ++ map (renamed_gate num) gs }
  gates_made before [] w h = λ i. record w { gates = sym (append-nil w.gates) i }
  gates_made before (g ∷ gs) w h =
      ap (items_made vs (by_lines stated (before + 1) (map (renamed_gate t) gs))) (gate_made vs t num (number before) g h.0 w)
      ∙ gates_made (before + 1) gs (with_gate w (renamed_gate num g)) h.1
      ∙ (λ i. record w { gates = append_assoc w.gates (renamed_gate num g ∷ []) (map (renamed_gate num) gs) i })

  abbrev clocked_flop : ℕ → Flop ℕ → Clocked
  clocked_flop k f = record { q = num f.q; d = num f.d; clock = k }

  flops_made : (clock : Bit) (k before : ℕ) (fs : List (Flop ℕ)) (w : Work) → ItemStands vs clock k → AllByRecursion (FlopStands vs t num) fs → items_made vs (by_lines (clocked clock) before (map (renamed_flop t) fs)) w ≡ record w { flops = w.flops ++ map (clocked_flop k) fs }
  flops_made clock k before [] w s h = λ i. record w { flops = sym (append-nil w.flops) i }
  flops_made clock k before (f ∷ fs) w s h =
      ap (items_made vs (by_lines (clocked clock) (before + 1) (map (renamed_flop t) fs))) (flop_made vs t num clock k (number before) f s h.0 w)
      ∙ flops_made clock k (before + 1) fs (with_flop w (clocked_flop k f)) s h.1
      ∙ (λ i. record w { flops = append_assoc w.flops (clocked_flop k f ∷ []) (map (clocked_flop k) fs) i })

-- a netlist's nets by the numbers of their bits
abbrev pub net_number : Named → ℕ → ℕ
net_number a net = number_of a.variables (name_of_net a net)

abbrev pub clocked_by : Named → ℕ → Flop ℕ → Clocked
clocked_by a k f = record { q = net_number a f.q; d = net_number a f.d; clock = k }

abbrev pub flops_by : Named → Option BitName → List Clocked
flops_by a None = []
flops_by a (Some c) = map (clocked_by a (number_of a.variables c)) a.netlist.flops

-- what a named netlist's text makes
abbrev pub made_by : Named → Work
made_by a = record { fresh = bit_count a.variables; gates = map (renamed_gate (net_number a)) a.netlist.gates; flops = flops_by a a.clock }

module _ (a : Named) (h : IsNamed a) where
  abbrev vs : List Entry
  vs = a.variables

  pub differ : Differ a.variables
  differ = differ_from a.variables h.apart

  pub first : PortsFirst a.variables
  first = ports_first a.variables (λ i j v w. h.consistent.ports_first i j v w)

  abbrev IsNet : ℕ → Type 0
  IsNet n = n < length a.names

  pub net_bit : (n : ℕ) → n < length a.names → IsBit a.variables (name_of_net a n)
  net_bit n less = h.consistent.bits n (record { variable = 0; place = 0 }) less

  net_stands : (n : ℕ) → IsNet n → ItemStands a.variables (net_text a n) (net_number a n)
  net_stands n less = stands_of a.variables (name_of_net a n) differ (net_bit n less)

  abbrev IsGate : Gate ℕ → Type 0
  IsGate = GateStands a.variables (net_text a) (net_number a)

  abbrev IsFlop : Flop ℕ → Type 0
  IsFlop = FlopStands a.variables (net_text a) (net_number a)

  gates_stand : (gs : List (Gate ℕ)) → AllByRecursion HasArity gs → AllByRecursion (λ (g : Gate ℕ). IsNet g.out) gs → AllByRecursion (λ (g : Gate ℕ). AllByRecursion IsNet g.ins) gs → AllByRecursion IsGate gs
  gates_stand [] x y z = tt
  gates_stand (g ∷ gs) x y z = (record { arity = x.0; nets = (net_stands g.out y.0, weaken IsNet (Net a.variables (net_text a) (net_number a)) net_stands g.ins z.0) }, gates_stand gs x.1 y.1 z.1)

  flops_stand : (fs : List (Flop ℕ)) → AllByRecursion (λ (f : Flop ℕ). IsNet f.q) fs → AllByRecursion (λ (f : Flop ℕ). IsNet f.d) fs → AllByRecursion IsFlop fs
  flops_stand [] y z = tt
  flops_stand (f ∷ fs) y z = (record { q = net_stands f.q y.0; d = net_stands f.d z.0 }, flops_stand fs y.1 z.1)

  all_gates : AllByRecursion IsGate a.netlist.gates
  all_gates = gates_stand a.netlist.gates (recursion_from_All HasArity a.netlist.gates h.consistent.arities) (gate_outs a h) (gate_ins a h)

  all_flops : AllByRecursion IsFlop a.netlist.flops
  all_flops = flops_stand a.netlist.flops (flop_qs a h) (flop_ds a h)

  clock_stands : (c : BitName) → a.clock ≡ Some c → ItemStands a.variables (bit_of a.variables c) (number_of a.variables c)
  clock_stands c e = stands_of a.variables c differ (h.consistent.clock c e).stands

  -- gates and flip-flops behind so many lines
  abbrev gate_items : ℕ → List Item
  gate_items before = by_lines stated before (map (renamed_gate (net_text a)) a.netlist.gates)

  abbrev flop_items : Option BitName → ℕ → List Item
  flop_items clock before = flops_by_lines (option_map (bit_of a.variables) clock) before (map (renamed_flop (net_text a)) a.netlist.flops)

  flops_sound : (o : Option BitName) → a.clock ≡ o → (before : ℕ) → AllByRecursion (IsSound a.variables) (flop_items o before)
  flops_sound None e before = tt
  flops_sound (Some c) e before = all_sound (IsSound a.variables) IsFlop (clocked (bit_of a.variables c)) (renamed_flop (net_text a)) (λ line f s. flop_sound a.variables (net_text a) (net_number a) (bit_of a.variables c) (number_of a.variables c) line f (clock_stands c e) s) before a.netlist.flops all_flops

  rest_sound : (before behind : ℕ) → AllByRecursion (IsSound a.variables) (gate_items before ++ flop_items a.clock behind)
  rest_sound before behind =
      all_join (IsSound a.variables) (gate_items before) (flop_items a.clock behind)
      (all_sound (IsSound a.variables) IsGate stated (renamed_gate (net_text a)) (λ line g s. gate_sound a.variables (net_text a) (net_number a) line g s) before a.netlist.gates all_gates) (flops_sound a.clock refl behind)

  flops_are : (o : Option BitName) → a.clock ≡ o → (before : ℕ) (w : Work) → w.flops ≡ [] → items_made a.variables (flop_items o before) w ≡ record w { flops = flops_by a o }
  flops_are None e before w none = λ i. record w { flops = none i }
  flops_are (Some c) e before w none =
      flops_made a.variables (net_text a) (net_number a) (bit_of a.variables c) (number_of a.variables c) before a.netlist.flops w (clock_stands c e) all_flops
      ∙ (λ i. record w { flops = none i ++ flops_by a (Some c) })

  made : (before behind : ℕ) → work_of a.variables (by_lines declared 1 a.variables ++ (gate_items before ++ flop_items a.clock behind)) ≡ made_by a
  made before behind =
      let empty : Work = record { fresh = bit_count a.variables; gates = []; flops = [] } in
      items_join a.variables (by_lines declared 1 a.variables) (gate_items before ++ flop_items a.clock behind) empty
      ∙ ap (items_made a.variables (gate_items before ++ flop_items a.clock behind)) (declared_made a.variables 1 a.variables empty)
      ∙ items_join a.variables (gate_items before) (flop_items a.clock behind) empty
      ∙ ap (items_made a.variables (flop_items a.clock behind)) (gates_made a.variables (net_text a) (net_number a) before a.netlist.gates empty all_gates)
      ∙ flops_are a.clock refl behind (record { fresh = bit_count a.variables; gates = map (renamed_gate (net_number a)) a.netlist.gates; flops = [] }) refl

  -- the variables
  pub printed_variables : variables (spelled_module (design_of a)) ≡ a.variables
  printed_variables = variables_are a.module_name a.variables (gate_items _ ++ flop_items a.clock _) differ first (rest_sound _ _)

  -- the gates and flip-flops
  pub printed_work : work_in (spelled_module (design_of a)) ≡ made_by a
  printed_work = ap (λ z. work_of z (spelled_module (design_of a)).items) printed_variables ∙ made _ _

  -- and no fault
  pub printed_text : (own : Bool) → HasNamesFor own a → bit_count a.variables ≤ limit_of own → text_fault own (spelled_module (design_of a)) ≡ None
  printed_text own named small = no_text_fault a.module_name a.variables (gate_items _ ++ flop_items a.clock _) differ first (rest_sound _ _) own (allowed own named) small (ap (λ (w : Work). w.fresh) (made _ _))
    where
      allowed : (o : Bool) → HasNamesFor o a → reserved o (spelled_module (design_of a)) ≡ None
      allowed true n = refl
      allowed false n = not_reserved a.module_name a.variables (gate_items _ ++ flop_items a.clock _) differ first (rest_sound _ _) n.0 (recursion_from_All (λ (v : Entry). is_reserved v.0 ≡ false) a.variables n.1)
