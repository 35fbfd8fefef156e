-- the nets that a refusal of a plan names are nets of the netlist
use Rattle.std.proofs.Common.{◌≡◌, ℕ, ◌<◌, false, List, length, Some, slice_get, get_or, sym, ap, ◌∙◌, subst}
use Rattle.std.proofs.lemmas.Option.{slice_get-get_or, slice_get_within}
use Rattle.bb_base.proofs.Contained.{of_all, at_place, contains_at}
use Rattle.bb_base.specs.Net.{Gate, driven}
use Rattle.bb_base.specs.Order.{IsOrder}
use Rattle.bb_base.specs.Named.{Named, IsNamed}
use Rattle.bb_terms.specs.Paths.{is_free}
use Rattle.bb_segment.proofs.DrivenLemmas.{cuts_driven}
use Rattle.bb_terms.proofs.NetLemmas.{out_within}
use Rattle.bb_choose.specs.ChosenPlan.{AreCutsOf}
use Rattle.bb_reg.specs.Chosen.{grouped_of, GroupedValue}
use Rattle.bb_code.specs.declared.fault.Need.TheVariants.{Source}
use Rattle.bb_words.specs.declared.command.Settings.{Settings}
use Rattle.bb_choose.specs.Arranged.{source_nets}
use Rattle.bb_choose.specs.Choice.{OfArranged, LacksDegree}
use Rattle.bb_choose.proofs.ReadyLemmas.{ready_within}

-- the item that is read at a number is the one that stands there
pub item_is : (gates list : List (Gate ℕ)) (number : ℕ) (read gate : Gate ℕ) → list ≡ gates → slice_get gates number ≡ Some gate → read ≡ get_or list number read → read ≡ gate
item_is gates list number read gate same at is =
    let here : slice_get gates number ≡ Some (get_or gates number read) = slice_get-get_or gates number read (slice_get_within gates number gate at) in
    let item : read ≡ get_or gates number read = is ∙ ap (λ (xs : List (Gate ℕ)). get_or xs number read) same in
    cc (here, item, at)

-- what a gate drives is a net
pub gate_within : (a : Named) (number : ℕ) (gate : Gate ℕ) → IsNamed a → slice_get a.netlist.gates number ≡ Some gate → gate.out < length a.names
gate_within a number gate named at = subst (λ n. gate.out < n) (sym named.names) (out_within a.netlist gate named.netlist (contains_at a.netlist.gates number gate at))

-- and so is the net of a source
pub source_within : (a : Named) (order : List ℕ) (settings : Settings) (max net : ℕ) → IsNamed a → IsOrder a.netlist.gates order
    → OfArranged a.netlist order settings (λ grouped. LacksDegree settings grouped max (Source net)) → net < length a.names
source_within a order settings max net named ordered is =
    let cuts = is.arranged.cuts in
    let cuts_are : AreCutsOf a.netlist cuts = record {
      netlist = named.netlist;
      order = (order, ordered);
      ports = named.netlist.ports;
      ascending = is.arranged.cuts_are.ascending;
      driven = λ n h. of_all (λ m. is_free a.netlist.gates m ≡ false) cuts n (cuts_driven a.netlist.gates order settings.width cuts is.arranged.cuts_are) h;
    } in
    let lacks = is.holds.lacks in
    let at : slice_get (source_nets (grouped_of is.arranged.draft settings.register).registers) lacks.0 ≡ Some net =
    subst (λ (g : GroupedValue). slice_get (source_nets g.registers) lacks.0 ≡ Some net) is.arranged.grouped_is lacks.1 in
    subst (λ n. net < n) (sym named.names)
    (at_place (λ m. m < length (driven a.netlist)) (source_nets (grouped_of is.arranged.draft settings.register).registers) lacks.0 net
    (ready_within a.netlist cuts is.arranged.draft settings.register cuts_are is.arranged.cells_are) at)
