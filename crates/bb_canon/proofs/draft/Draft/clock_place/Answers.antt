use Rattle.std.proofs.Common.{◌≡◌, ap, sym, ◌∙◌}
use Rattle.bb_base.specs.declared.variable.Role.TheVariants.{Input}
use Rattle.bb_base.specs.declared.variable.Variable.{Variable}
use Rattle.bb_base.specs.Variables.{Bit}
use Rattle.bb_canon.specs.Drafting.{indexed_place}
use Rattle.bb_canon.proofs.Declaring.{clock_placed, clock_elsewhere, some_not, input_only, name_ne, name_eq}
use Rattle.bb_canon.proofs.draft.Draft.clock_place.Goals.{then-is_some-via-then-is_some, then-is_some-via-else-is_some+then-ne, then-is_some-via-else-is_some+else-ne+then-ne-2}
use Rattle.bb_canon.proofs.draft.Draft.clock_place.Goals as goal

pub returns-then-is_some-clause-placed : goal.returns-then-is_some-clause-placed
returns-then-is_some-clause-placed c = λ a v left h d name variable clock.
    clock_elsewhere a c.args.self.now v left c.in-Some.clock h d (sym c.in-Some.is ∙ clock) (λ none input named. elim c.then-is_some.branch [
      | then-is_some-via-then-is_some w ↦ some_not c.self.inside.clock w.if-is_some.ensures (c.self.invariant.2 ∙ ap (λ n. n.clock) c.self.view_is ∙ none)
      | then-is_some-via-else-is_some+then-ne w ↦ (
          let role : c.args.variable.role ≡ Input = ap (λ (u : Variable). u.role) variable ∙ input_only v.1.role input in
          let k = rw role at w.if-ne.ensures in
          cc k)
      | then-is_some-via-else-is_some+else-ne+then-ne-2 w ↦ name_ne c.clock.inside.name c.args.name.now w.if-ne-2.ensures (ap (λ (b : Bit). b.name) c.clock.view_is ∙ named ∙ sym name)
    ])

pub returns-clause-placed : goal.returns-clause-placed
returns-clause-placed c = λ a v left h d name variable clock.
    let named : c.in-Some.clock.name ≡ v.0 = ap (λ (b : Bit). b.name) (sym c.clock.view_is) ∙ name_eq c.clock.inside.name c.args.name.now c.if-ne-2.ensures ∙ name in
    c.indexed_place.ensures.value ∙ ap (λ (b : Bit). indexed_place c.args.variable.range b.index) c.clock.view_is ∙ clock_placed a c.args.self.now v left c.in-Some.clock c.args.variable.range h d (sym c.in-Some.is ∙ clock) named (ap (λ (u : Variable). u.range) variable)
