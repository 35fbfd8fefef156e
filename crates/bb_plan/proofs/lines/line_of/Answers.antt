use Rattle.std.proofs.Common.{arith, ◌<◌, ℕ, List, length, map, All, sym, ap, subst, ◌∙◌, slice_index}
use Rattle.std.specs.List.Sorted.{IsPermutation}
use Rattle.bb_terms.specs.Rules.{Frame, Kinds}
use Rattle.bb_plan.proofs.LineLemmas.{leaves_within, line_is}
use Rattle.bb_plan.proofs.lines.line_of.Goals as goal

pub leaves_of-requires-clause-fits : goal.leaves_of-requires-clause-fits
leaves_of-requires-clause-fits c = c.requires.before Kinds (omega arith) c.args.number c.args.cell c.requires.stands

pub ascending_numbers-requires-clause-within : goal.ascending_numbers-requires-clause-within
ascending_numbers-requires-clause-within c =
    let within = leaves_within c.args.netlist.now c.args.plan.now c.args.layout.now.links.items c.args.layout.now.stops.items c.args.layout.now.sources.items c.requires.before c.requires.layout
    c.args.number c.args.cell c.requires.stands c.in-Some.leaves.items c.in-Some.ensures.leaves in
    subst (λ (xs : List ℕ). All (λ net. net < length xs) c.deref-in-Some.result.now) (sym c.deref.ensures.value) (subst (All (λ net. net < length c.args.layout.now.sources.items)) (sym c.deref-in-Some.ensures.0) within)

pub returns-in-Some-clause-line : goal.returns-in-Some-clause-line
returns-in-Some-clause-line c =
    let numbers = ap (λ (xs : List ℕ). map (slice_index xs) c.deref-in-Some.result.now) c.deref.ensures.value ∙ ap (map (slice_index c.args.layout.now.sources.items)) c.deref-in-Some.ensures.0 in
    let most = (c.requires.before Frame (omega arith)).width_most in
    let narrow = c.in-Some.ensures.narrow in
    line_is c.args.netlist.now c.args.plan.now c.args.layout.now.links.items c.args.layout.now.stops.items c.args.layout.now.sources.items c.requires.before c.requires.layout
    c.args.number c.args.cell c.requires.stands c.in-Some.leaves.items c.in-Some.ensures.leaves c.ascending_numbers.result.items (omega (arith, most, narrow))
    (subst (λ (ns : List ℕ). IsPermutation ns c.ascending_numbers.result.items) numbers c.ascending_numbers.ensures.moved) c.ascending_numbers.ensures.sorted
