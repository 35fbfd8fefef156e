use Rattle.std.proofs.Common.{arith, ◌≡◌, ◌∙◌, ap, sym, subst, ℕ, List, None, Vec, Global, length}
use Rattle.std.specs.Prelude.{Option}
use Rattle.bb_base.specs.Net.{Gate, driven}
use Rattle.bb_base.specs.Firsts.{IsFirst}
use Rattle.bb_base.specs.Order.{IsLoop}
use Rattle.bb_base.specs.Levels.{depth_in, AreGates}
use Rattle.bb_base.proofs.GateLemmas.{gates_fit}
use Rattle.bb_netlist.proofs.WalkLemmas.{loop_cycles}
use Rattle.bb_netlist.proofs.order.find_order.Goals as goal

pub depths_of-requires : goal.depths_of-requires
depths_of-requires c =
    let fit = gates_fit c.args.netlist.now c.nets.ensures.netlist (omega (arith, c.nets.type_inv, c.nets.ensures.count)) in
    subst (λ n. AreGates n c.gates.result.now) (sym c.nets.ensures.count) (subst (λ (gs : List (Gate ℕ)). AreGates (length (driven c.args.netlist.now)) gs) (sym c.gates.ensures.value) fit)

pub walk_back-requires-clause-fit : goal.walk_back-requires-clause-fit
walk_back-requires-clause-fit c =
    let fit = gates_fit c.args.netlist.now c.nets.ensures.netlist (omega (arith, c.nets.type_inv, c.nets.ensures.count)) in
    let long : length c.deref-in-Some.result.now ≡ length (driven c.args.netlist.now) = ap length c.deref-in-Some.ensures.value ∙ (c.in_ok-depths.ensures.long ∙ c.nets.ensures.count) in
    subst (λ n. AreGates n c.args.netlist.now.gates) (sym long) fit

pub walk_back-requires-clause-first : goal.walk_back-requires-clause-first
walk_back-requires-clause-first c =
    subst (λ (rs : List (Option ℕ)). IsFirst (λ m. depth_in rs m ≡ None) (length rs) c.in-Some.start) (c.deref.ensures.value ∙ sym c.deref-in-Some.ensures.value)
    (c.first_open.ensures.first c.in-Some.start c.in-Some.is)

pub returns-in-Some-clause-is_cycle : goal.returns-in-Some-clause-is_cycle
returns-in-Some-clause-is_cycle c = λ nets e.
    let same : c.in_ok-walk_back-in-Some.field-0 ≡ nets = cc e in
    loop_cycles c.args.netlist.now.gates nets.items (subst (λ (ns : Vec ℕ Global). IsLoop c.args.netlist.now.gates ns.items) same c.in_ok-walk_back-in-Some.ensures)

pub sort_gates-requires-clause-fit : goal.sort_gates-requires-clause-fit
sort_gates-requires-clause-fit c =
    let fit = gates_fit c.args.netlist.now c.nets.ensures.netlist (omega (arith, c.nets.type_inv, c.nets.ensures.count)) in
    let long : length c.deref-in-None.result.now ≡ length (driven c.args.netlist.now) = ap length c.deref-in-None.ensures.value ∙ (c.in_ok-depths.ensures.long ∙ c.nets.ensures.count) in
    subst (λ n. AreGates n c.gates-in-None.result.now) (sym long) (subst (λ (gs : List (Gate ℕ)). AreGates (length (driven c.args.netlist.now)) gs) (sym c.gates-in-None.ensures.value) fit)
