use Rattle.std.proofs.Common.{◌≡◌, ◌∙◌, sym, ap, Some, true, false}
use Rattle.std.specs.Option.{option_map}
use Rattle.std.proofs.lemmas.Option.{slice_get_within}
use Rattle.bb_base.specs.Order.{is_empty}
use Rattle.bb_base.proofs.Contained.{contains_at}
use Rattle.bb_terms.specs.Paths.{Behind}
use Rattle.bb_terms.proofs.ReadLemmas.{by_other}
use Rattle.bb_reg.proofs.lines.gate_start.Goals as goal

pub unreachable-requires : goal.unreachable-requires
unreachable-requires c =
    let none = by_other c.args.netlist.now c.driver.result c.args.net c.driver.ensures.netlist c.requires.net c.driver.ensures.drives c.in_default.not-Gate in
    let same : true ≡ false = sym (ap is_empty none) ∙ c.requires.driven in
    cc same

pub returns-clause-exists : goal.returns-clause-exists
returns-clause-exists c = let d = c.in-Gate.ensures.drives in slice_get_within c.args.netlist.now.gates c.in-Gate.number d.0 d.1

pub returns-clause-begins : goal.returns-clause-begins
returns-clause-begins c = λ from e.
    let d = c.in-Gate.ensures.drives in
    let same : Some (Behind d.0) ≡ Some from = sym (ap (option_map Behind) d.1) ∙ e in
    (d.0, contains_at c.args.netlist.now.gates c.in-Gate.number d.0 d.1, d.2, cc same)
