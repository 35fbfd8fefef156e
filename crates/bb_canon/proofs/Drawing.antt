-- A net's text, read into a draft of the netlist.
use Rattle.std.proofs.Common.{◌≡◌, ℕ, ◌+◌, ◌≤◌, ◌<◌, zero, suc, List, [], ◌∷◌, ◌++◌, length, map, take, get_or, All, Bool, true, false, not, nat_lt, IsSome, ◌↔◌, Option, Some, None, slice_get, refl, sym, ap, ◌∙◌, arith, subst}
use Rattle.std.specs.Option.{option_eq, option_map, is_some}
use Rattle.std.specs.Bool.{beq}
use Rattle.std.specs.List.{AllByRecursion}
use Rattle.std.proofs.lemmas.Option.{get_or_from_slice_get}
use Rattle.std.proofs.lemmas.List.Elements.{All-from_recursion, recursion_from_All}
use Rattle.std.proofs.lemmas.List.{get_or-map, take_all}
use Rattle.std.proofs.Math.Seq.{take-suc}
use Rattle.std.proofs.lemmas.Bool.Decides.{nat_tests}
use Rattle.bb_base.proofs.Lists.{length_map, map_join, same_map_at}
use Rattle.bb_base.specs.declared.fault.NetFault.{NetFault}
use Rattle.bb_base.specs.declared.fault.NetFault.TheVariants.{Redeclared, TwoDrivers, Undriven, BadArity, TooMany, NoMemory}
use Rattle.bb_base.specs.declared.variable.BitName.{BitName}
use Rattle.bb_base.specs.Net.{Gate, Flop, driven, times}
use Rattle.bb_base.specs.Operators.{IsArity}
use Rattle.bb_base.specs.Variables.{Bit, IsBit, bit_of}
use Rattle.bb_base.specs.Named.{Named, name_of_net, net_text}
use Rattle.bb_base.specs.Building.{with_net, with_gate, with_flop, net_limit}
use Rattle.bb_base.specs.Faults.{IsNetCallFault, IsGateFault, IsFinishFault}
use Rattle.bb_base.specs.Firsts.{IsFirst}
use Rattle.bb_base.specs.declared.operator.Op.{Op}
use Rattle.bb_canon.specs.Drafting.{named_bit, canon_fault}
use Rattle.bb_canon.specs.Faults.{IsWant}
use Rattle.bb_spell.specs.Limits.{IsBuildable}
use Rattle.bb_canon.specs.Toward.{IsDrawn, IsGateOf}
use Rattle.bb_canon.proofs.BitAgain.{Apart}
use Rattle.bb_canon.proofs.Found.{named_again}
use Rattle.bb_canon.proofs.Draws.{bit_of_net, drawn_net, drawn_few, drawn_gate, drawn_flop, driven_once}

-- a net's text names the net's bit
pub named_drawn : (a n : Named) (gates : List (Gate ℕ)) (flops : List (Flop ℕ)) (m : ℕ) (t : Bit) → IsBuildable a → IsDrawn a n gates flops → m < length a.names → t ≡ net_text a m → named_bit n t ≡ Some (name_of_net a m)
named_drawn a n gates flops m t h d within e =
    let bit : BitName = name_of_net a m in
    let stands : IsBit n.variables bit = subst (λ vs. IsBit vs bit) (sym d.variables) (bit_of_net a m h.named within) in
    let apart : Apart n.variables = subst Apart (sym d.variables) h.named.apart in
    let text : t ≡ bit_of n.variables bit = e ∙ ap (λ vs. bit_of vs bit) (sym d.variables) in
    ap (named_bit n) text ∙ named_again n bit apart stands

pub bit_drawn : (a n : Named) (gates : List (Gate ℕ)) (flops : List (Flop ℕ)) (m : ℕ) (t : Bit) (bit : BitName) → IsBuildable a → IsDrawn a n gates flops → m < length a.names → t ≡ net_text a m → Some bit ≡ named_bit n t → bit ≡ name_of_net a m
bit_drawn a n gates flops m t bit h d within e found =
    let one : Some bit ≡ Some (name_of_net a m) = found ∙ named_drawn a n gates flops m t h d within e in
    cc

-- which is not the clock
pub clock_drawn : (a n : Named) (gates : List (Gate ℕ)) (flops : List (Flop ℕ)) (m : ℕ) (bit : BitName) → IsBuildable a → IsDrawn a n gates flops → m < length a.names → bit ≡ name_of_net a m → n.clock ≡ Some bit → ⊥
clock_drawn a n gates flops m bit h d within e clock = h.named.consistent.apart_from_clock bit (sym d.clock ∙ clock) m (record { variable = 0; place = 0 }) within (sym e)

-- the draft with the net
pub net_draws : (a n new : Named) (gates : List (Gate ℕ)) (flops : List (Flop ℕ)) (m : ℕ) (bit : BitName) → IsBuildable a → IsDrawn a n gates flops → m < length a.names → bit ≡ name_of_net a m → new ≡ with_net n bit → IsDrawn a new gates flops
net_draws a n new gates flops m bit h d within e made =
    subst (λ k. IsDrawn a k gates flops) (sym made) (subst (λ b. IsDrawn a (with_net n b) gates flops) (sym e) (drawn_net a n gates flops m h.named d within))

pub net_named : (new : Named) (net : ℕ) (bit other : BitName) → slice_get new.names net ≡ Some bit → bit ≡ other → name_of_net new net ≡ other
net_named new net bit other h e = get_or_from_slice_get new.names net bit (record { variable = 0; place = 0 }) h ∙ e

-- only memory can be wanting
pub net_want : (a n : Named) (gates : List (Gate ℕ)) (flops : List (Flop ℕ)) (m : ℕ) (bit : BitName) (f : NetFault) → IsBuildable a → IsDrawn a n gates flops → m < length a.names → bit ≡ name_of_net a m → IsNetCallFault f
    → ((count limit : ℕ) → f ≡ TooMany count limit → length (with_net n bit).names ≡ net_limit + 1) → IsWant (canon_fault f)
net_want a n gates flops m bit (Redeclared v) h d within e only many = only
net_want a n gates flops m bit (TwoDrivers v) h d within e only many = only
net_want a n gates flops m bit (Undriven v) h d within e only many = only
net_want a n gates flops m bit (BadArity v) h d within e only many = only
net_want a n gates flops m bit (TooMany count limit) h d within e only many =
    let drawn : IsDrawn a (with_net n bit) gates flops = net_draws a n (with_net n bit) gates flops m bit h d within e refl in
    let few : length (with_net n bit).names ≤ net_limit = drawn_few a (with_net n bit) gates flops h drawn in
    let more : length (with_net n bit).names ≡ net_limit + 1 = many count limit refl in
    over (length (with_net n bit).names) net_limit few more
  where
    over : (x y : ℕ) → x ≤ y → x ≡ y + 1 → ⊥
    over x y p q = omega arith
net_want a n gates flops m bit NoMemory h d within e only many = tt

-- an option that equals another is it
pub option_same : (eq : BitName → BitName → Bool) → ((x y : BitName) → eq x y ≡ true → x ≡ y) → (o : Option BitName) (b : BitName) → true ≡ option_eq eq o (Some b) → o ≡ Some b
option_same eq h None b t = cc
option_same eq h (Some c) b t = ap Some (h c b (sym t))

-- the texts of nets, one by one
pub text_at : (f : ℕ → Bit) (ms : List ℕ) (texts : List Bit) (i : ℕ) (t : Bit) → t ≡ get_or texts i t → i < length texts → texts ≡ map f ms → t ≡ f (get_or ms i 0)
text_at f ms texts i t h within e = h ∙ ap (λ z. get_or z i t) e ∙ get_or-map f ms i 0 t (omega (arith, ap length e, length_map f ms))

pub net_at : (count : ℕ) (f : ℕ → Bit) (ms : List ℕ) (texts : List Bit) (i : ℕ) → AllByRecursion (λ m. m < count) ms → i < length texts → texts ≡ map f ms → get_or ms i 0 < count
net_at count f ms texts i all within e = All-from_recursion (λ m. m < count) ms all i 0 (omega (arith, ap length e, length_map f ms))

pub named_push : (f g h : ℕ → BitName) (nets new ms : List ℕ) (net i count : ℕ) (t : ℕ → Bit) (texts : List Bit) → ((k : ℕ) → k < count → g k ≡ f k) → All (λ m. m < count) nets → map f nets ≡ map h (take i ms) → g net ≡ h (get_or ms i 0)
    → i < length texts → texts ≡ map t ms → new ≡ nets ++ net ∷ [] → map g new ≡ map h (take (i + 1) ms)
named_push f g h nets new ms net i count t texts kept all before last within e made =
    let below : i < length ms = omega (arith, ap length e, length_map t ms) in
    let same : map g nets ≡ map f nets = same_map_at g f (λ m. m < count) kept nets (recursion_from_All (λ m. m < count) nets all) in
    let more : take (suc i) ms ≡ take i ms ++ (get_or ms i 0 ∷ []) = take-suc ms i 0 below in
    let next : i + 1 ≡ suc i = omega arith in
    ap (map g) made ∙ map_join g nets (net ∷ []) ∙ (λ j. (same ∙ before) j ++ last j ∷ []) ∙ sym (map_join h (take i ms) (get_or ms i 0 ∷ [])) ∙ ap (map h) (sym more) ∙ ap (λ k. map h (take k ms)) (sym next)

pub named_all : (f h : ℕ → BitName) (nets ms : List ℕ) (i : ℕ) (t : ℕ → Bit) (texts : List Bit) → map f nets ≡ map h (take i ms) → length texts ≤ i → texts ≡ map t ms → map f nets ≡ map h ms
named_all f h nets ms i t texts before end e = before ∙ ap (map h) (take_all i ms (omega (arith, ap length e, length_map t ms)))

-- a gate of the netlist has as many inputs as its operator takes
pub gate_want : (a n : Named) (g : Gate ℕ) (op : Op) (ins : List ℕ) (f : NetFault) → IsGateOf a g → op ≡ g.op → map (name_of_net n) ins ≡ map (name_of_net a) g.ins → IsGateFault f → ((gate : ℕ) → f ≡ BadArity gate → IsArity op (length ins) → ⊥) → IsWant (canon_fault f)
gate_want a n g op ins (Redeclared v) h o e only arity = only
gate_want a n g op ins (TwoDrivers v) h o e only arity = only
gate_want a n g op ins (Undriven v) h o e only arity = only
gate_want a n g op ins (BadArity gate) h o e only arity =
    let long : length ins ≡ length g.ins = sym (length_map (name_of_net n) ins) ∙ ap length e ∙ length_map (name_of_net a) g.ins in
    arity gate refl (subst (λ p. IsArity p (length ins)) (sym o) (subst (IsArity g.op) (sym long) h.arity))
gate_want a n g op ins (TooMany count limit) h o e only arity = only
gate_want a n g op ins NoMemory h o e only arity = tt

-- the draft with the gate
pub gate_draws : (a n new : Named) (gates : List (Gate ℕ)) (flops : List (Flop ℕ)) (g : Gate ℕ) (op : Op) (out : ℕ) (ins : List ℕ) → IsDrawn a n gates flops → IsGateOf a g → op ≡ g.op → out < length n.names → All (λ net. net < length n.names) ins
    → name_of_net n out ≡ name_of_net a g.out → map (name_of_net n) ins ≡ map (name_of_net a) g.ins → new ≡ with_gate n op out ins → IsDrawn a new (gates ++ g ∷ []) flops
gate_draws a n new gates flops g op out ins d h o below all one more made =
    subst (λ k. IsDrawn a k (gates ++ g ∷ []) flops) (sym made) (subst (λ p. IsDrawn a (with_gate n p out ins) (gates ++ g ∷ []) flops) (sym o) (drawn_gate a n gates flops g out ins d h below all one more))

-- the clock's text names the clock
pub clock_found : (a n : Named) (gates : List (Gate ℕ)) (flops : List (Flop ℕ)) (t : Bit) → IsBuildable a → IsDrawn a n gates flops → Some t ≡ option_map (bit_of a.variables) a.clock → (c : BitName) × (n.clock ≡ Some c) × (named_bit n t ≡ Some c)
clock_found a n gates flops t h d e = go a.clock refl
  where
    go : (o : Option BitName) → a.clock ≡ o → (c : BitName) × (n.clock ≡ Some c) × (named_bit n t ≡ Some c)
    go None same =
        let none : Some t ≡ None = e ∙ ap (option_map (bit_of a.variables)) same in
        cc
    go (Some c) same =
        let one : Some t ≡ Some (bit_of a.variables c) = e ∙ ap (option_map (bit_of a.variables)) same in
        let text : t ≡ bit_of a.variables c = cc in
        let stands : IsBit n.variables c = subst (λ vs. IsBit vs c) (sym d.variables) (h.named.consistent.clock c same).stands in
        let apart : Apart n.variables = subst Apart (sym d.variables) h.named.apart in
        (c, d.clock ∙ same, ap (named_bit n) (text ∙ ap (λ vs. bit_of vs c) (sym d.variables)) ∙ named_again n c apart stands)

-- every net of the whole netlist has one driver
pub finish_want : (a n : Named) (f : NetFault) → IsBuildable a → IsDrawn a n a.netlist.gates a.netlist.flops → IsFinishFault f → ((net : ℕ) → f ≡ TwoDrivers net → IsFirst (λ m. 2 ≤ times m (driven n.netlist)) (length n.names) net)
    → ((net : ℕ) → f ≡ Undriven net → IsFirst (λ m. times m (driven n.netlist) ≡ 0) (length n.names) net) → IsWant (canon_fault f)
finish_want a n (Redeclared v) h d only two none = only
finish_want a n (TwoDrivers net) h d only two none =
    let first = two net refl in
    let once : times net (driven n.netlist) ≡ 1 = driven_once a n h.named d net first.within in
    let twice : 2 ≤ times net (driven n.netlist) = first.here in
    over (times net (driven n.netlist)) once twice
  where
    over : (x : ℕ) → x ≡ 1 → 2 ≤ x → ⊥
    over x p q = omega arith
finish_want a n (Undriven net) h d only two none =
    let first = none net refl in
    let once : times net (driven n.netlist) ≡ 1 = driven_once a n h.named d net first.within in
    let never : times net (driven n.netlist) ≡ 0 = first.here in
    over (times net (driven n.netlist)) once never
  where
    over : (x : ℕ) → x ≡ 1 → x ≡ 0 → ⊥
    over x p q = omega arith
finish_want a n (BadArity gate) h d only two none = only
finish_want a n (TooMany count limit) h d only two none = only
finish_want a n NoMemory h d only two none = tt

pub below_more : (k old now : ℕ) → k < old → old ≤ now → k < now
below_more k old now h more = omega arith

-- an option equals itself
pub option_itself : (eq : BitName → BitName → Bool) → ((x : BitName) → eq x x ≡ true) → (o : Option BitName) (b : BitName) → o ≡ Some b → option_eq eq o (Some b) ≡ true
option_itself eq h None b e = cc
option_itself eq h (Some c) b e =
    let same : c ≡ b = cc in
    ap (λ x. eq x b) same ∙ h b

-- the draft with the flip-flop
pub flop_draws : (a n new : Named) (gates : List (Gate ℕ)) (flops : List (Flop ℕ)) (f : Flop ℕ) (q d : ℕ) → IsDrawn a n gates flops → q < length n.names → d < length n.names → name_of_net n q ≡ name_of_net a f.q → name_of_net n d ≡ name_of_net a f.d → new ≡ with_flop n q d
    → IsDrawn a new gates (flops ++ f ∷ [])
flop_draws a n new gates flops f q d w below_q below_d one two made = subst (λ k. IsDrawn a k gates (flops ++ f ∷ [])) (sym made) (drawn_flop a n gates flops f q d w below_q below_d one two)

pub ne_clock : (eq : BitName → BitName → Bool) → ((x : BitName) → eq x x ≡ true) → (o r : Option BitName) (b c : BitName) → o ≡ Some c → Some b ≡ r → r ≡ Some c → true ≡ not (option_eq eq o (Some b)) → ⊥
ne_clock eq h o r b c clock found named t =
    let same : Some b ≡ Some c = found ∙ named in
    let one : option_eq eq o (Some b) ≡ true = option_itself eq h o b (clock ∙ sym same) in
    let none : true ≡ false = t ∙ ap not one in
    cc

-- a clock stands exactly where flip-flops do
beq_same : (a b c : Bool) → a ≡ c → b ≡ c → not (beq a b) ≡ true → ⊥
beq_same a b true p q t =
    let e : not (beq a b) ≡ false = ap (λ x. not (beq x b)) p ∙ ap (λ x. not (beq true x)) q in
    cc
beq_same a b false p q t =
    let e : not (beq a b) ≡ false = ap (λ x. not (beq x b)) p ∙ ap (λ x. not (beq false x)) q in
    cc

some_below : (k : ℕ) → nat_lt 0 (suc k) ≡ true
some_below k = grind (arith, nat_tests)

pub clock_stops : (o : Option BitName) (k : ℕ) (r : Bool) → r ≡ is_some o → (IsSome o ↔ (0 < k)) → not (beq r (nat_lt 0 k)) ≡ true → ⊥
clock_stops None zero r e h t = beq_same r (nat_lt 0 zero) false e refl t
clock_stops None (suc k) r e h t =
    let some : IsSome {T = BitName} None = h.1 (omega arith) in
    cc
clock_stops (Some b) zero r e h t =
    let some : 0 < zero = h.0 refl in
    absurd (omega arith)
clock_stops (Some b) (suc k) r e h t = beq_same r (nat_lt 0 (suc k)) true e (some_below k) t
