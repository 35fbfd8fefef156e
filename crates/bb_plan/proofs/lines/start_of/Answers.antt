use Rattle.std.proofs.Common.{◌≡◌, ℕ, ◌<◌, List, length, sym, ap, subst, ◌∙◌, Some, slice_get, get_or}
use Rattle.std.proofs.lemmas.Option.{slice_get_within, slice_get-get_or}
use Rattle.std.specs.Option.{option_map}
use Rattle.bb_base.specs.Net.{Flop, driven}
use Rattle.bb_terms.specs.Paths.{AtNet, Behind}
use Rattle.bb_terms.specs.Lines.{IsStart}
use Rattle.bb_base.proofs.Contained.{contains_at}
use Rattle.bb_terms.proofs.NetLemmas.{d_within}
use Rattle.bb_plan.proofs.Driven.{stands_within}
use Rattle.bb_plan.proofs.StartLemmas.{begins_flop, begins_gate, never_input}
use Rattle.bb_plan.proofs.lines.start_of.Goals as goal

pub driver-requires : goal.driver-requires
driver-requires c = stands_within c.args.netlist.now c.args.cell.kind c.args.cell.net c.requires.netlist c.requires.fits

pub bounds-flops-number : goal.bounds-flops-number
bounds-flops-number c =
    let d = c.in-Flop.ensures.drives in
    subst (λ (fs : List (Flop ℕ)). c.in-Flop.number < length fs) (sym c.flops.ensures.value) (slice_get_within c.args.netlist.now.flops c.in-Flop.number d.0 d.1)

pub unreachable-requires : goal.unreachable-requires
unreachable-requires c = never_input c.args.netlist.now c.requires.netlist c.args.cell c.in-Input.field-0 c.requires.fits c.requires.observer c.in-Input.ensures.drives

-- the flip-flop that an index gives is the driver
flop_read : (xs flops : List (Flop ℕ)) (i : ℕ) (f g : Flop ℕ) → xs ≡ flops → slice_get flops i ≡ Some f → g ≡ get_or xs i g → f ≡ g
flop_read xs flops i f g same at is =
    let there : slice_get flops i ≡ Some g = slice_get-get_or flops i g (slice_get_within flops i f at) ∙ ap Some (sym (is ∙ ap (λ ys. get_or ys i g) same)) in
    let both : Some f ≡ Some g = sym at ∙ there in
    cc both

pub returns-in-Flop-clause-exists : goal.returns-in-Flop-clause-exists
returns-in-Flop-clause-exists c =
    let d = c.in-Flop.ensures.drives in
    let same = flop_read c.flops.result.now c.args.netlist.now.flops c.in-Flop.number d.0 c.index-flops-number.result c.flops.ensures.value d.1 c.index-flops-number.is in
    let value : d.0.d ≡ c.flop.inside.d = ap (λ (f : Flop ℕ). f.d) (same ∙ sym c.flop.view_is) in
    subst (λ k. k < length (driven c.args.netlist.now)) value (d_within c.args.netlist.now d.0 c.requires.netlist (contains_at c.args.netlist.now.flops c.in-Flop.number d.0 d.1))

pub returns-in-Flop-clause-begins : goal.returns-in-Flop-clause-begins
returns-in-Flop-clause-begins c = λ from e.
    let d = c.in-Flop.ensures.drives in
    let same = flop_read c.flops.result.now c.args.netlist.now.flops c.in-Flop.number d.0 c.index-flops-number.result c.flops.ensures.value d.1 c.index-flops-number.is in
    let value : d.0.d ≡ c.flop.inside.d = ap (λ (f : Flop ℕ). f.d) (same ∙ sym c.flop.view_is) in
    let there : AtNet c.flop.inside.d ≡ from = cc e in
    subst (IsStart c.args.netlist.now c.args.cell) (ap AtNet value ∙ there) (begins_flop c.args.netlist.now c.requires.netlist c.args.cell c.in-Flop.number d.0 c.requires.fits c.requires.observer d.1 d.2)

pub returns-in-Gate-clause-exists : goal.returns-in-Gate-clause-exists
returns-in-Gate-clause-exists c =
    let d = c.in-Gate.ensures.drives in
    slice_get_within c.args.netlist.now.gates c.in-Gate.number d.0 d.1

pub returns-in-Gate-clause-begins : goal.returns-in-Gate-clause-begins
returns-in-Gate-clause-begins c = λ from e.
    let d = c.in-Gate.ensures.drives in
    let all : Some (Behind d.0) ≡ Some from = sym (ap (option_map Behind) d.1) ∙ e in
    let there : Behind d.0 ≡ from = cc all in
    subst (IsStart c.args.netlist.now c.args.cell) there (begins_gate c.args.netlist.now c.requires.netlist c.args.cell c.in-Gate.number d.0 c.requires.fits c.requires.observer d.1 d.2)
