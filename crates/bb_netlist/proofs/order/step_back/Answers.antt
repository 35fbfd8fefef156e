use Rattle.std.proofs.Common.{arith, ◌≡◌, ◌<◌, ◌∙◌, ap, sym, subst, refl, [], ℕ, List, All, Some, None, length, slice_get, get_or}
use Rattle.std.proofs.lemmas.Option.{slice_get_within, get_or_from_slice_get}
use Rattle.bb_base.specs.Net.{Gate, driven, Netlist, IsNetlist}
use Rattle.bb_base.specs.Drivers.{Drives}
use Rattle.bb_base.specs.declared.netlist.Driver.{Driver}
use Rattle.bb_base.specs.declared.netlist.Driver.TheVariants as drivers_of
use Rattle.bb_base.specs.Order.{IsFirstStuck, drivers}
use Rattle.bb_base.specs.Levels.{depth_in, open_count, IsFirstOpen}
use Rattle.bb_base.proofs.GateLemmas.{input_undriven, flop_undriven}
use Rattle.bb_netlist.proofs.OrderLemmas.{stepped}
use Rattle.bb_netlist.proofs.order.step_back.Goals as goal

-- the gate that is read stands in the netlist, and drives the net
gate_found :
    (gates read : List (Gate ℕ)) (number net : ℕ) (g : Gate ℕ) → read ≡ gates → ((x : Gate ℕ) × (slice_get gates number ≡ Some x) × (x.out ≡ net)) → g ≡ get_or read number g
    → (slice_get gates number ≡ Some g) × (g.out ≡ net)
gate_found gates read number net g same there is =
    let one : g ≡ there.0 = is ∙ (ap (λ (xs : List (Gate ℕ)). get_or xs number g) same ∙ get_or_from_slice_get gates number there.0 g there.1) in
    (there.1 ∙ ap Some (sym one), ap (λ (x : Gate ℕ). x.out) one ∙ there.2)

-- a net that no gate drives has a depth
not_gate :
    (n : Netlist ℕ) (d : Driver) (net : ℕ) → Drives n d net → IsNetlist n → net < length (driven n) → ((x : ℕ) → d ≡ drivers_of.Gate x → ⊥) → drivers n.gates net ≡ []
not_gate n (drivers_of.Input i) net at is within other = input_undriven n i net is within at
not_gate n (drivers_of.Gate i) net at is within other = absurd (other i refl)
not_gate n (drivers_of.Flop i) net at is within other = flop_undriven n i net at.0 is within at.1 at.2

pub returns-in_default : goal.returns-in_default
returns-in_default c =
    let small : c.args.net < length (driven c.args.netlist.now) = omega (arith, c.requires.within, c.requires.long) in
    let free = not_gate c.args.netlist.now c.driver.result c.args.net c.driver.ensures.drives c.driver.ensures.netlist small c.in_default.not-Gate in
    let by_depth = c.requires.by_depth.free c.args.net c.requires.within free in
    absurd (cc (by_depth, c.requires.no_depth))

pub bounds-gates-number : goal.bounds-gates-number
bounds-gates-number c =
    let there = c.in-Gate.ensures.drives in
    let small = slice_get_within c.args.netlist.now.gates c.in-Gate.number there.0 there.1 in
    subst (λ (xs : List (Gate ℕ)). c.in-Gate.number < length xs) (sym c.gates.ensures.value) small

pub first_open_of-requires : goal.first_open_of-requires
first_open_of-requires c =
    let found = gate_found c.args.netlist.now.gates c.gates.result.now c.in-Gate.number c.args.net c.index-gates-number.result c.gates.ensures.value c.in-Gate.ensures.drives c.index-gates-number.is in
    let g = c.index-gates-number.result in
    let inside = subst (λ (x : Gate ℕ). All (λ n. n < length c.args.depths.now) x.ins) (get_or_from_slice_get c.args.netlist.now.gates c.in-Gate.number g g found.0)
    (c.requires.fit.reads c.in-Gate.number g (slice_get_within c.args.netlist.now.gates c.in-Gate.number g found.0)) in
    subst (λ (ns : List ℕ). All (λ n. n < length c.args.depths.now) ns) (sym (c.deref.ensures ∙ ap (λ (x : Gate ℕ). x.ins) c.gate.view_is)) inside

pub returns-clause-within : goal.returns-clause-within
returns-clause-within c =
    let found = gate_found c.args.netlist.now.gates c.gates.result.now c.in-Gate.number c.args.net c.index-gates-number.result c.gates.ensures.value c.in-Gate.ensures.drives c.index-gates-number.is in
    let ins = c.deref.ensures ∙ ap (λ (x : Gate ℕ). x.ins) c.gate.view_is in
    let step = stepped c.args.netlist.now.gates c.args.depths.now c.args.net c.in-Gate.number c.index-gates-number.result c.first_open_of.result c.requires.fit c.requires.by_depth c.requires.no_depth
    found.0 found.1 (λ e. ap (open_count (depth_in c.args.depths.now)) (sym ins) ∙ c.first_open_of.ensures.none e)
    (λ m e. subst (λ (ns : List ℕ). IsFirstOpen (depth_in c.args.depths.now) ns m) ins (c.first_open_of.ensures.first m e)) in
    subst (λ n. n < length c.args.depths.now) (sym c.unwrap_or.ensures) step.within

pub returns-clause-no_depth : goal.returns-clause-no_depth
returns-clause-no_depth c =
    let found = gate_found c.args.netlist.now.gates c.gates.result.now c.in-Gate.number c.args.net c.index-gates-number.result c.gates.ensures.value c.in-Gate.ensures.drives c.index-gates-number.is in
    let ins = c.deref.ensures ∙ ap (λ (x : Gate ℕ). x.ins) c.gate.view_is in
    let step = stepped c.args.netlist.now.gates c.args.depths.now c.args.net c.in-Gate.number c.index-gates-number.result c.first_open_of.result c.requires.fit c.requires.by_depth c.requires.no_depth
    found.0 found.1 (λ e. ap (open_count (depth_in c.args.depths.now)) (sym ins) ∙ c.first_open_of.ensures.none e)
    (λ m e. subst (λ (ns : List ℕ). IsFirstOpen (depth_in c.args.depths.now) ns m) ins (c.first_open_of.ensures.first m e)) in
    subst (λ n. depth_in c.args.depths.now n ≡ None) (sym c.unwrap_or.ensures) step.no_depth

pub returns-clause-first : goal.returns-clause-first
returns-clause-first c =
    let found = gate_found c.args.netlist.now.gates c.gates.result.now c.in-Gate.number c.args.net c.index-gates-number.result c.gates.ensures.value c.in-Gate.ensures.drives c.index-gates-number.is in
    let ins = c.deref.ensures ∙ ap (λ (x : Gate ℕ). x.ins) c.gate.view_is in
    let step = stepped c.args.netlist.now.gates c.args.depths.now c.args.net c.in-Gate.number c.index-gates-number.result c.first_open_of.result c.requires.fit c.requires.by_depth c.requires.no_depth
    found.0 found.1 (λ e. ap (open_count (depth_in c.args.depths.now)) (sym ins) ∙ c.first_open_of.ensures.none e)
    (λ m e. subst (λ (ns : List ℕ). IsFirstOpen (depth_in c.args.depths.now) ns m) ins (c.first_open_of.ensures.first m e)) in
    subst (IsFirstStuck c.args.netlist.now.gates c.args.net) (sym c.unwrap_or.ensures) step.first
